-- What a view shows after filters were found, and under a longer list.
use Rattle.std.proofs.Common.{◌≡◌, ◌<◌, ◌≤◌, ◌^◌, ◌∙◌, sym, subst, ap, refl, arith, ℕ, Bool, List, [], ◌∷◌, ◌++◌, map, length, take, drop, append-nil}
use Rattle.std.specs.List.{AllByRecursion, AllZip}
use Rattle.std.proofs.lemmas.List.{length-map, length-take-le, take-append-drop}
use Rattle.sw_lists.proofs.Each.{each-append, each-map, each-unmap}
use Rattle.sw_logic.specs.declared.syntax.Formula.{Formula}
use Rattle.sw_meaning.specs.declared.protocol.Protocol.{Protocol}
use Rattle.sw_filter.specs.declared.filter.Filter.{Filter}
use Rattle.sw_filter.specs.declared.filter.Mode.{Mode}
use Rattle.sw_filter.specs.declared.view.Mark.{Mark}
use Rattle.sw_filter.specs.declared.view.Mark.TheVariants as mark
use Rattle.sw_filter.specs.declared.view.Shown.{Shown}
use Rattle.sw_filter.specs.Filters.{IsAdmitted, IsLive}
use Rattle.sw_filter.specs.Views.{AreAdmitted, AreMarked, AreTold, IsMarked, Tells, known_of}
use Rattle.sw_pool.specs.declared.pool.Pool.{Pool}
use Rattle.sw_pool.specs.declared.pool.Seen.{Seen}
use Rattle.sw_pool.specs.Refreshes.{Shows, IsNewcomer, AddsEach}
use Rattle.sw_core.specs.declared.record.Kept.{Kept}
use Rattle.sw_core.specs.Machine.{Search, filters_at}
use Rattle.sw_core.specs.Gathered.{Share, IsShare, filters_of}
use Rattle.sw_core.proofs.Shares.{share_stays}
use Rattle.sw_hand.specs.Hands.{IsView, IsHand, AreTokens, AreUnused}

tells_of : (p : Protocol) (m : Mode) (g : List Formula) (x : Filter) (k : Mark) → IsMarked p m g x k → Tells p m g x k
tells_of p m g x mark.New h = absurd h
tells_of p m g x mark.Live h = h
tells_of p m g x mark.Dead h = h

told_of : (p : Protocol) (m : Mode) (g : List Formula) (shown : List Shown) → AreMarked p m g shown → AreTold p m g shown
told_of p m g [] h = tt
told_of p m g (e ∷ es) h = (tells_of p m g e.filter.now e.mark h.0, told_of p m g es h.1)

told_new : (p : Protocol) (m : Mode) (g : List Formula) (shown : List Shown) → AllByRecursion (IsNewcomer p) shown → AreTold p m g shown
told_new p m g [] h = tt
told_new p m g (e ∷ es) h = (subst (Tells p m g e.filter.now) (sym h.0.new.mark) tt, told_new p m g es h.1)

admitted_new : (p : Protocol) (shown : List Shown) → AllByRecursion (IsNewcomer p) shown → AreAdmitted p shown
admitted_new p [] h = tt
admitted_new p (e ∷ es) h = (h.0.admitted, admitted_new p es h.1)

newcomers : (pool : Pool) (p : Protocol) (ts : List Seen) (es : List Shown) → AllZip (Shows pool p) ts es → AllByRecursion (IsNewcomer p) es
newcomers pool p [] [] z = tt
newcomers pool p [] (y ∷ ys) z = absurd z
newcomers pool p (x ∷ xs) [] z = absurd z
newcomers pool p (x ∷ xs) (y ∷ ys) z = (z.0.newcomer, newcomers pool p xs ys z.1)

tokens_of : (pool : Pool) (p : Protocol) (ts : List Seen) (es : List Shown) → AllZip (Shows pool p) ts es → AreTokens pool ts es
tokens_of pool p [] [] z = tt
tokens_of pool p [] (y ∷ ys) z = absurd z
tokens_of pool p (x ∷ xs) [] z = absurd z
tokens_of pool p (x ∷ xs) (y ∷ ys) z = ((z.0.shown, z.0.filter), tokens_of pool p xs ys z.1)

tokens_append : (pool : Pool) (ts : List Seen) (es : List Shown) (us : List Seen) (fs : List Shown) → AreTokens pool ts es → AreTokens pool us fs →
    AreTokens pool (ts ++ us) (es ++ fs)
tokens_append pool [] [] us fs h k = k
tokens_append pool [] (y ∷ ys) us fs h k = absurd h
tokens_append pool (x ∷ xs) [] us fs h k = absurd h
tokens_append pool (x ∷ xs) (y ∷ ys) us fs h k = (h.0, tokens_append pool xs ys us fs h.1 k)

firsts_of : (xs : List Shown) → map (λ (k : Filter × Bool). k.0) (known_of xs) ≡ map (λ (e : Shown). e.filter.now) xs
firsts_of [] = refl
firsts_of (x ∷ xs) = ap (λ fs. x.filter.now ∷ fs) (firsts_of xs)

filters_known : (xs ys : List Shown) → known_of xs ≡ known_of ys → map (λ (e : Shown). e.filter.now) xs ≡ map (λ (e : Shown). e.filter.now) ys
filters_known xs ys e = sym (firsts_of xs) ∙ (ap (map (λ (k : Filter × Bool). k.0)) e ∙ firsts_of ys)

tokens_same : (pool : Pool) (ts : List Seen) (xs ys : List Shown) → map (λ (e : Shown). e.filter.now) xs ≡ map (λ (e : Shown). e.filter.now) ys →
    AreTokens pool ts ys → AreTokens pool ts xs
tokens_same pool [] [] [] e h = tt
tokens_same pool [] [] (y ∷ ys) e h = absurd h
tokens_same pool [] (x ∷ xs) [] e h = absurd (cc)
tokens_same pool [] (x ∷ xs) (y ∷ ys) e h = absurd h
tokens_same pool (t ∷ ts) [] [] e h = absurd h
tokens_same pool (t ∷ ts) (x ∷ xs) [] e h = absurd h
tokens_same pool (t ∷ ts) [] (y ∷ ys) e h = absurd (cc)
tokens_same pool (t ∷ ts) (x ∷ xs) (y ∷ ys) e h =
    let rest : map (λ (e : Shown). e.filter.now) xs ≡ map (λ (e : Shown). e.filter.now) ys = (cc) in let one : y.filter.now ≡ x.filter.now = (cc) in
    ((h.0.0, h.0.1 ∙ one), tokens_same pool ts xs ys rest h.1)

pub tokens_known : (pool : Pool) (ts : List Seen) (xs ys : List Shown) → known_of xs ≡ known_of ys → AreTokens pool ts ys → AreTokens pool ts xs
tokens_known pool ts xs ys e h = tokens_same pool ts xs ys (filters_known xs ys e) h

admitted_known : (p : Protocol) (xs ys : List Shown) → known_of xs ≡ known_of ys → AreAdmitted p ys → AreAdmitted p xs
admitted_known p xs ys e a =
    each-unmap (λ (k : Filter × Bool). IsAdmitted p k.0) (λ (s : Shown). (s.filter.now, s.own)) xs
    (subst (AllByRecursion (λ (k : Filter × Bool). IsAdmitted p k.0)) (sym e) (each-map (λ (k : Filter × Bool). IsAdmitted p k.0) (λ (s : Shown). (s.filter.now, s.own)) ys a))

length_known : (xs ys : List Shown) → known_of xs ≡ known_of ys → length xs ≡ length ys
length_known xs ys e = sym (length-map xs (λ (s : Shown). (s.filter.now, s.own))) ∙ (ap length e ∙ length-map ys (λ (s : Shown). (s.filter.now, s.own)))

-- the view of this space shows filters of the protocol, of which some may be new, and the others are marked under the formulas
pub record IsTold {S : Type 0} (m : Search) (s : S) (formulas : List Formula) (vp : Protocol) (vs : S) (vm : Mode) (upto : ℕ) (shown : List Shown) : Type 0 where
  pub protocol : vp ≡ m.protocol
  pub space : vs ≡ s
  pub mode : vm ≡ m.mode
  pub advanced : upto ≡ length formulas
  pub admitted : AreAdmitted m.protocol shown
  pub told : AreTold m.protocol m.mode formulas shown
  pub room : length shown < 2 ^ 32

module _ {S : Type 0} (m : Search) (s : S) (g : List Formula) (vp : Protocol) (vs : S) (vm : Mode) (upto : ℕ) (shown : List Shown) where
  pub is_told : IsView m s g vp vs vm upto shown → IsTold m s g vp vs vm upto shown
  is_told v = record { protocol = v.protocol; space = v.space; mode = v.mode; advanced = v.advanced; admitted = v.admitted; told = told_of m.protocol m.mode g shown v.marked; room = v.room }

  -- filters were found
  pub told_more : (pool : Pool) (vp' : Protocol) (vs' : S) (vm' : Mode) (upto' : ℕ) (shown' : List Shown) (tokens : List Seen) →
      IsTold m s g vp vs vm upto shown →
      (vp' ≡ vp) × (vs' ≡ vs) × (vm' ≡ vm) × (upto' ≡ upto) → AddsEach pool m.protocol shown shown' tokens → (length shown < 2 ^ 32 → length shown' < 2 ^ 32) → IsTold m s g vp' vs' vm' upto' shown'
  told_more pool vp' vs' vm' upto' shown' tokens v same adds room =
      let new = newcomers pool m.protocol tokens adds.added adds.each in
      record {
        protocol = same.0 ∙ v.protocol;
        space = same.1 ∙ v.space;
        mode = same.2 ∙ v.mode;
        advanced = same.3 ∙ v.advanced;
        admitted = subst (AreAdmitted m.protocol) (sym adds.behind) (each-append (λ (e : Shown). IsAdmitted m.protocol e.filter.now) shown adds.added v.admitted (admitted_new m.protocol adds.added new));
        told = subst (AreTold m.protocol m.mode g) (sym adds.behind) (each-append (λ (e : Shown). Tells m.protocol m.mode g e.filter.now e.mark) shown adds.added v.told (told_new m.protocol m.mode g adds.added new));
        room = room v.room;
      }

  -- the list is longer
  pub begins : (list : List Formula) (from : ℕ) → IsTold m s g vp vs vm upto shown → g ≡ take from list → from ≤ length list →
      AreTold vp vm (take upto list) shown
  begins list from v is few =
      let at : upto ≡ from = v.advanced ∙ (ap length is ∙ length-take-le from list few) in
      subst (λ n. AreTold vp vm (take n list) shown) (sym at) (subst (λ h. AreTold vp vm h shown) is (subst (λ q. AreTold q vm g shown) (sym v.protocol) (subst (λ k. AreTold m.protocol k g shown) (sym v.mode) v.told)))

  pub longer : (list : List Formula) (from : ℕ) → IsTold m s g vp vs vm upto shown → g ≡ take from list → from ≤ length list → upto ≤ length list
  longer list from v is few = let at : upto ≡ from = v.advanced ∙ (ap length is ∙ length-take-le from list few) in omega arith

  pub viewed : (list : List Formula) (vp' : Protocol) (vs' : S) (vm' : Mode) (upto' : ℕ) (shown' : List Shown) → IsTold m s g vp vs vm upto shown →
      (vp' ≡ vp) × (vs' ≡ vs) × (vm' ≡ vm) → upto' ≡ length list →
      known_of shown' ≡ known_of shown → AreMarked vp vm list shown' → IsView m s list vp' vs' vm' upto' shown'
  viewed list vp' vs' vm' upto' shown' v same at known marked = record {
    protocol = same.0 ∙ v.protocol;
    space = same.1 ∙ v.space;
    mode = same.2 ∙ v.mode;
    advanced = at;
    admitted = admitted_known m.protocol shown' shown known v.admitted;
    marked = subst (λ q. AreMarked q m.mode list shown') v.protocol (subst (λ k. AreMarked vp k list shown') v.mode marked);
    room = (let e = length_known shown' shown known in let r = v.room in omega arith);
  }

-- the tokens with those that were found
pub tokens_more : (pool : Pool) (p : Protocol) (found tokens : List Seen) (shown more later : List Shown) → AreTokens pool found shown →
    AddsEach pool p shown more tokens → known_of later ≡ known_of more → AreTokens pool (found ++ tokens) later
tokens_more pool p found tokens shown more later h adds known =
    tokens_known pool (found ++ tokens) later more known (subst (AreTokens pool (found ++ tokens)) (sym adds.behind) (tokens_append pool found shown tokens adds.added h (tokens_of pool p tokens adds.added adds.each)))

no_more : (pool : Pool) (p : Protocol) (es : List Shown) → AllZip (Shows pool p) [] es → es ≡ []
no_more pool p [] z = refl
no_more pool p (x ∷ xs) z = absurd z

-- nothing was found
pub none_added : (pool : Pool) (p : Protocol) (shown more : List Shown) (tokens : List Seen) → AddsEach pool p shown more tokens → tokens ≡ [] → more ≡ shown
none_added pool p shown more tokens adds none =
    let e : adds.added ≡ [] = no_more pool p adds.added (subst (λ ts. AllZip (Shows pool p) ts adds.added) none adds.each) in
    adds.behind ∙ (ap (λ xs. shown ++ xs) e ∙ append-nil shown)

-- the hand under a list that begins with the one before, and without used filters
pub hand_later : (m : Search) (pool : Pool) (worker : ℕ) (list : List Formula) (from : ℕ) (shown shown' : List Shown) (kept : List Kept) (tokens : List Seen) (used used' : List Bool) →
    IsHand m pool worker (take from list) shown kept tokens used → known_of shown' ≡ known_of shown → length used' ≡ length used → AreUnused used' → IsHand m pool worker list shown' kept tokens used'
hand_later m pool worker list from shown shown' kept tokens used used' h known long none =
    let share : Share = record { drawn = []; kept = kept; settled = [] } in
    let was : IsShare m [] (take from list) worker share = record { in_order = refl; settled = tt; kept = h.each; fresh = h.fresh } in
    let now : IsShare m [] list worker share = subst (λ l. IsShare m [] l worker share) (take-append-drop from list) (share_stays m [] (take from list) (drop from list) worker share was) in
    record {
      same = h.same ∙ sym (filters_known shown' shown known);
      each = now.kept;
      fresh = now.fresh;
      shows = tokens_known pool tokens shown' shown known h.shows;
      marks = long ∙ h.marks;
      live = subst (λ places. AllByRecursion (IsLive m.protocol m.mode list) (filters_at (filters_of kept) places)) (sym none) tt;
    }
