-- The filters that are chosen, one by one and share by share.
use Rattle.std.specs.Prelude.{◌≡◌, ℕ, zero, suc, ◌+◌, ◌<◌, Bool, true, false, List, [], ◌∷◌, ◌++◌, map, length, take, Some, slice_get, if◌then◌else◌}
use Rattle.std.specs.List.{AllByRecursion, AllZip}
use Rattle.std.proofs.Common.{refl, arith, get_or, sym, ap, subst, ◌∙◌, append_assoc}
use Rattle.std.proofs.lemmas.List.{append-nil}
use Rattle.std.proofs.lemmas.Option.{none-some, same_Some}
use Rattle.sw_filter.specs.declared.filter.Filter.{Filter}
use Rattle.sw_core.specs.declared.record.Kept.{Kept}
use Rattle.sw_core.specs.declared.record.Settled.{Settled}
use Rattle.sw_core.specs.Gathered.{chosen, filters_of}
use Rattle.sw_hand.specs.declared.hand.Handed.{Handed}
use Rattle.sw_pool.specs.declared.pool.Pool.{Pool}
use Rattle.sw_pool.specs.declared.pool.Seen.{Seen}
use Rattle.sw_pool.specs.Pools.{IsShown, filter_of}
use Rattle.sw_lists.proofs.Each.{each-push}
use Rattle.sw_gather.specs.Gathers.{AreAt, AreKeptOf, AreSettledOf, IsMovedBy, shown_by}

-- one more mark chooses its element or not
chosen_step : {X : Type 0} (i : ℕ) (marks : List Bool) (xs : List X) (b : Bool) (x : X) → slice_get marks i ≡ Some b → slice_get xs i ≡ Some x
    → chosen (take (suc i) marks) (take (suc i) xs) ≡ chosen (take i marks) (take i xs) ++ (if b then x ∷ [] else [])
chosen_step i [] xs b x e f = absurd (none-some b e)
chosen_step i (c ∷ marks) [] b x e f = absurd (none-some x f)
chosen_step zero (true ∷ marks) (y ∷ xs) true x e f = ap (λ z. z ∷ []) (same_Some y x f)
chosen_step zero (true ∷ marks) (y ∷ xs) false x e f = absurd (let k : true ≡ false = same_Some true false e in cc)
chosen_step zero (false ∷ marks) (y ∷ xs) true x e f = absurd (let k : false ≡ true = same_Some false true e in cc)
chosen_step zero (false ∷ marks) (y ∷ xs) false x e f = refl
chosen_step (suc i) (true ∷ marks) (y ∷ xs) b x e f = ap (λ l. y ∷ l) (chosen_step i marks xs b x e f)
chosen_step (suc i) (false ∷ marks) (y ∷ xs) b x e f = chosen_step i marks xs b x e f

pub chosen_more : {X : Type 0} (i : ℕ) (marks : List Bool) (xs : List X) (b : Bool) (x : X) → slice_get marks i ≡ Some b → slice_get xs i ≡ Some x
    → chosen (take (i + 1) marks) (take (i + 1) xs) ≡ chosen (take i marks) (take i xs) ++ (if b then x ∷ [] else [])
chosen_more i marks xs b x e f = let n : suc i ≡ i + 1 = omega arith in ap (λ j. chosen (take j marks) (take j xs)) (sym n) ∙ chosen_step i marks xs b x e f

-- the element that a loop is at
pub each_got : {X : Type 0} (P : X → Type 0) (xs : List X) (i : ℕ) (x : X) → i < length xs → x ≡ get_or xs i x → AllByRecursion P xs → P x
each_got P [] i x lt e h = absurd (omega (arith, lt))
each_got P (y ∷ xs) zero x lt e h = subst P (sym e) h.0
each_got P (y ∷ xs) (suc i) x lt e h = each_got P xs i x (omega (arith, lt)) e h.1

-- marks past the last element choose nothing
pub chosen_whole : {X : Type 0} (marks : List Bool) (xs : List X) → chosen (take (length xs) marks) (take (length xs) xs) ≡ chosen marks xs
chosen_whole [] [] = refl
chosen_whole [] (x ∷ xs) = refl
chosen_whole (b ∷ marks) [] = refl
chosen_whole (true ∷ marks) (x ∷ xs) = ap (λ l. x ∷ l) (chosen_whole marks xs)
chosen_whole (false ∷ marks) (x ∷ xs) = chosen_whole marks xs

pub kept_more : (hs : List Handed) (h : Handed) (ks : List Kept) (marks : List Bool) → AreKeptOf hs ks → AreKeptOf (hs ++ h ∷ []) (ks ++ chosen marks h.kept)
kept_more [] h ks marks e = (marks, [], ap (λ l. l ++ chosen marks h.kept) e ∙ sym (append-nil (chosen marks h.kept)), refl)
kept_more (g ∷ hs) h ks marks (own, rest, e, more) =
    (own, rest ++ chosen marks h.kept, ap (λ l. l ++ chosen marks h.kept) e ∙ append_assoc (chosen own g.kept) rest (chosen marks h.kept), kept_more hs h rest marks more)

pub settled_more : (before : ℕ) (all : List Filter) (hs : List Handed) (h : Handed) (xs : List Settled) (places : List ℕ) (own : List Settled) → AreSettledOf before all hs xs
    → AreAt all (filters_of h.kept) places → AllZip (IsMovedBy before places) h.settled own → AreSettledOf before all (hs ++ h ∷ []) (xs ++ own)
settled_more before all [] h xs places own e at zip = (places, own, [], at, zip, ap (λ l. l ++ own) e ∙ sym (append-nil own), refl)
settled_more before all (g ∷ hs) h xs places own (ps, mine, rest, a, z, e, more) at zip =
    (ps, mine, rest ++ own, a, z, ap (λ l. l ++ own) e ∙ append_assoc mine rest own, settled_more before all hs h rest places own more at zip)

pub zip_push : {A B : Type 0} (R : A → B → Type 0) (xs : List A) (ys : List B) (x : A) (y : B) → AllZip R xs ys → R x y → AllZip R (xs ++ x ∷ []) (ys ++ y ∷ [])
zip_push R [] [] x y h r = (r, tt)
zip_push R [] (b ∷ ys) x y h r = absurd h
zip_push R (a ∷ xs) [] x y h r = absurd h
zip_push R (a ∷ xs) (b ∷ ys) x y h r = (h.0, zip_push R xs ys x y h.1 r)

-- the token at a place, and the filter that it shows
pub tokens_at : (pool : Pool) (tokens : List Seen) (kept : List Kept) (i : ℕ) (t : Seen) (k : Kept) → AllZip (λ token (x : Kept). IsShown pool token × (filter_of token ≡ x.filter)) tokens kept
    → slice_get tokens i ≡ Some t → slice_get kept i ≡ Some k → IsShown pool t × (filter_of t ≡ k.filter)
tokens_at pool [] kept i t k z e f = absurd (none-some t e)
tokens_at pool (s ∷ tokens) [] i t k z e f = absurd z
tokens_at pool (s ∷ tokens) (x ∷ kept) zero t k z e f =
    subst (λ u. IsShown pool u × (filter_of u ≡ k.filter)) (same_Some s t e) (subst (λ (y : Kept). IsShown pool s × (filter_of s ≡ y.filter)) (same_Some x k f) z.0)
tokens_at pool (s ∷ tokens) (x ∷ kept) (suc i) t k z e f = tokens_at pool tokens kept i t k z.1 e f

pub keep_where_shows : (b : Bool) (t : Seen) (k : Kept) → filter_of t ≡ k.filter → shown_by (if b then t ∷ [] else []) ≡ filters_of (if b then k ∷ [] else [])
keep_where_shows true t k e = ap (λ f. f ∷ []) e
keep_where_shows false t k e = refl

pub keep_where_shown : (pool : Pool) (tokens : List Seen) (b : Bool) (t : Seen) → IsShown pool t → AllByRecursion (IsShown pool) tokens → AllByRecursion (IsShown pool) (tokens ++ (if b then t ∷ [] else []))
keep_where_shown pool tokens true t s h = each-push (IsShown pool) tokens t h s
keep_where_shown pool tokens false t s h = subst (AllByRecursion (IsShown pool)) (sym (append-nil tokens)) h
