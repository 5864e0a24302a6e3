-- The edges of a formula, one step down, as the code makes them.
use Rattle.std.specs.Prelude.{◌≡◌, ℕ, suc, ◌+◌, ◌<◌, Bool, true, false, not, cond, ◌||◌, if◌then◌else◌, List, [], ◌∷◌, ◌++◌, length, map, take, get_or}
use Rattle.std.specs.List.{list_any, flat_map, enumerate_from, AllByRecursion}
use Rattle.std.proofs.Common.{rules, arith, refl, sym, ap, subst, ◌∙◌}
use Rattle.std.proofs.lemmas.List.{append-nil, append_assoc, take_more, length-take-le}
use Rattle.sw_logic.specs.declared.syntax.Binder.{Binder}
use Rattle.sw_logic.specs.declared.syntax.Edge.{Edge}
use Rattle.sw_logic.specs.declared.syntax.Formula.{Formula, roll-Formula, map-Formula, the_lemmas}
use Rattle.sw_logic.specs.declared.syntax.Formula.TheOpen.{Formula-F}
use Rattle.sw_logic.specs.declared.syntax.Formula.TheFolds.{fold-Formula, ind-Formula}
use Rattle.sw_logic.specs.declared.syntax.Formula.TheVariants.{True, False, Holds, Equal, Not, All, Any, Implies, Iff, ForAll, Exists}
use Rattle.sw_logic.specs.declared.syntax.Formula.TheVariants.{rolls-True, rolls-False, rolls-Holds, rolls-Equal, rolls-Not, rolls-All, rolls-Any, rolls-Implies, rolls-Iff, rolls-ForAll, rolls-Exists}
use Rattle.sw_logic.specs.Terms.{occurs}
use Rattle.sw_logic.specs.Strata.{Part, part_step, depended, sorts_of, edges_between, existential}
use Rattle.sw_strata.specs.Edges.{edges_in, sorts_below, edges_to, scope_below}
use Rattle.sw_truth.proofs.Occurring.{occurs-All, occurs-Any}
use Rattle.sw_lists.proofs.Each.{each-pairs}

abbrev strata_of : Formula → Part
strata_of = fold-Formula Part part_step

abbrev OccursSame : Formula → Type 0
OccursSame f = (x : ℕ) → (strata_of f).occurs x ≡ occurs x f

by : (f : Formula) (t : Part) → strata_of f ≡ t → ((x : ℕ) → t.occurs x ≡ occurs x f) → OccursSame f
by f t e h x = ap (λ (p : Part). p.occurs x) e ∙ h x

any_same : (x : ℕ) (ps : List Formula) → AllByRecursion OccursSame ps → list_any (λ (p : Part). p.occurs x) (map strata_of ps) ≡ list_any (occurs x) ps
any_same x [] h = refl
any_same x (p ∷ ps) h = let rest = any_same x ps h.1 in let here = h.0 x in cc (rest, here)

layer : (y : Formula-F ((f : Formula) × OccursSame f)) → OccursSame (roll-Formula (map-Formula ((f : Formula) × OccursSame f) Formula (λ e. e.0) y))
layer Formula-F.True = subst OccursSame (sym rolls-True) (by True (part_step Formula-F.True) (search (rules, the_lemmas)) (λ x. search (rules, the_lemmas)))
layer Formula-F.False = subst OccursSame (sym rolls-False) (by False (part_step Formula-F.False) (search (rules, the_lemmas)) (λ x. search (rules, the_lemmas)))
layer (Formula-F.Holds k post args) = subst OccursSame (sym (rolls-Holds k post args)) (by (Holds k post args) (part_step (Formula-F.Holds k post args)) (search (rules, the_lemmas)) (λ x. search (rules, the_lemmas)))
layer (Formula-F.Equal t u) = subst OccursSame (sym (rolls-Equal t u)) (by (Equal t u) (part_step (Formula-F.Equal t u)) (search (rules, the_lemmas)) (λ x. search (rules, the_lemmas)))
layer (Formula-F.Not p) = subst OccursSame (sym (rolls-Not p.0)) (by (Not p.0) (part_step (Formula-F.Not (strata_of p.0))) (search (rules, the_lemmas))
    (λ x. let down : occurs x (Not p.0) ≡ occurs x p.0 = search (rules, the_lemmas) in p.1 x ∙ sym down))
layer (Formula-F.All ps) = let qs = map (λ (e : (f : Formula) × OccursSame f). e.0) ps in subst OccursSame (sym (rolls-All qs)) (by (All qs) (part_step (Formula-F.All (map strata_of qs))) (search (rules, the_lemmas))
    (λ x. any_same x qs (each-pairs OccursSame ps) ∙ sym (occurs-All x qs)))
layer (Formula-F.Any ps) = let qs = map (λ (e : (f : Formula) × OccursSame f). e.0) ps in subst OccursSame (sym (rolls-Any qs)) (by (Any qs) (part_step (Formula-F.Any (map strata_of qs))) (search (rules, the_lemmas))
    (λ x. any_same x qs (each-pairs OccursSame ps) ∙ sym (occurs-Any x qs)))
layer (Formula-F.Implies p q) = subst OccursSame (sym (rolls-Implies p.0 q.0)) (by (Implies p.0 q.0) (part_step (Formula-F.Implies (strata_of p.0) (strata_of q.0))) (search (rules, the_lemmas))
    (λ x. let down : occurs x (Implies p.0 q.0) ≡ (occurs x p.0 || occurs x q.0) = search (rules, the_lemmas) in let a = p.1 x in let b = q.1 x in cc (down, a, b)))
layer (Formula-F.Iff p q) = subst OccursSame (sym (rolls-Iff p.0 q.0)) (by (Iff p.0 q.0) (part_step (Formula-F.Iff (strata_of p.0) (strata_of q.0))) (search (rules, the_lemmas))
    (λ x. let down : occurs x (Iff p.0 q.0) ≡ (occurs x p.0 || occurs x q.0) = search (rules, the_lemmas) in let a = p.1 x in let b = q.1 x in cc (down, a, b)))
layer (Formula-F.ForAll bs p) = subst OccursSame (sym (rolls-ForAll bs p.0)) (by (ForAll bs p.0) (part_step (Formula-F.ForAll bs (strata_of p.0))) (search (rules, the_lemmas))
    (λ x. let down : occurs x (ForAll bs p.0) ≡ occurs x p.0 = search (rules, the_lemmas) in p.1 x ∙ sym down))
layer (Formula-F.Exists bs p) = subst OccursSame (sym (rolls-Exists bs p.0)) (by (Exists bs p.0) (part_step (Formula-F.Exists bs (strata_of p.0))) (search (rules, the_lemmas))
    (λ x. let down : occurs x (Exists bs p.0) ≡ occurs x p.0 = search (rules, the_lemmas) in p.1 x ∙ sym down))

pub occurs_same : (f : Formula) → OccursSame f
occurs_same = ind-Formula OccursSame (λ x y is. subst (λ z. OccursSame (roll-Formula z)) is (layer y))

depended_by : (one other : ℕ → Bool) → ((x : ℕ) → one x ≡ other x) → (from : ℕ) (scope : List (List ℕ))
    → flat_map (λ v. if one v.0 then v.1 else []) (enumerate_from from scope) ≡ flat_map (λ v. if other v.0 then v.1 else []) (enumerate_from from scope)
depended_by one other e from [] = refl
depended_by one other e from (d ∷ scope) =
    let rest = depended_by one other e (from + 1) scope in
    let here : cond {A = List ℕ} (one from) d [] ≡ cond (other from) d [] = ap (λ (b : Bool). cond {A = List ℕ} b d []) (e from) in
    cc (rest, here)

depended_same : (p : Formula) (scope : List (List ℕ)) → depended (strata_of p).occurs scope ≡ sorts_below scope p
depended_same p scope = depended_by (strata_of p).occurs (λ x. occurs x p) (occurs_same p) 0 scope

-- one variable more
depended_after : (o : ℕ → Bool) (from : ℕ) (xs : List (List ℕ)) (x : List ℕ)
    → flat_map (λ v. if o v.0 then v.1 else []) (enumerate_from from (xs ++ x ∷ [])) ≡ flat_map (λ v. if o v.0 then v.1 else []) (enumerate_from from xs) ++ cond (o (from + length xs)) x []
depended_after o from [] x =
    let same : from + 0 ≡ from = omega arith in
    append-nil (cond (o from) x []) ∙ ap (λ (n : ℕ). cond {A = List ℕ} (o n) x []) (sym same)
depended_after o from (y ∷ xs) x =
    let rest = depended_after o (from + 1) xs x in
    let same : from + 1 + length xs ≡ from + suc (length xs) = omega arith in
    let tail = flat_map (λ v. if o v.0 then v.1 else []) (enumerate_from (from + 1) xs) in
    ap (λ (l : List ℕ). cond (o from) y [] ++ l) (rest ∙ ap (λ (n : ℕ). tail ++ cond {A = List ℕ} (o n) x []) same)
    ∙ sym (append_assoc (cond (o from) y []) tail (cond (o (from + suc (length xs))) x []))

pub depended_more : (scope : List (List ℕ)) (f : Formula) (i : ℕ) (d : List ℕ) → i < length scope
    → sorts_below (take (i + 1) scope) f ≡ sorts_below (take i scope) f ++ cond (occurs i f) (get_or scope i d) []
depended_more scope f i d l =
    let count : length (take i scope) ≡ i = length-take-le i scope (omega arith) in
    ap (λ (xs : List (List ℕ)). sorts_below xs f) (take_more scope i d l)
    ∙ (depended_after (λ x. occurs x f) 0 (take i scope) (get_or scope i d)
    ∙ ap (λ (n : ℕ). sorts_below (take i scope) f ++ cond {A = List ℕ} (occurs n f) (get_or scope i d) []) (let e : 0 + length (take i scope) ≡ i = omega arith in e))

flat_same : (c : Bool) (scope : List (List ℕ)) (ps : List Formula) → flat_map (λ (p : Part). p.edges c scope) (map strata_of ps) ≡ flat_map (λ (f : Formula). edges_in f c scope) ps
flat_same c scope [] = refl
flat_same c scope (p ∷ ps) = ap (λ (es : List Edge). edges_in p c scope ++ es) (flat_same c scope ps)

pub edges-All : (c : Bool) (scope : List (List ℕ)) (ps : List Formula) → edges_in (All ps) c scope ≡ flat_map (λ (f : Formula). edges_in f c scope) ps
edges-All c scope ps =
    let step : strata_of (All ps) ≡ part_step (Formula-F.All (map strata_of ps)) = search (rules, the_lemmas) in
    ap (λ (p : Part). p.edges c scope) step ∙ flat_same c scope ps

pub edges-Any : (c : Bool) (scope : List (List ℕ)) (ps : List Formula) → edges_in (Any ps) c scope ≡ flat_map (λ (f : Formula). edges_in f c scope) ps
edges-Any c scope ps =
    let step : strata_of (Any ps) ≡ part_step (Formula-F.Any (map strata_of ps)) = search (rules, the_lemmas) in
    ap (λ (p : Part). p.edges c scope) step ∙ flat_same c scope ps

existential_same : (bs : List Binder) (p : Formula) (c : Bool) (scope : List (List ℕ)) → existential bs (strata_of p) c scope ≡ edges_to scope false bs p ++ edges_in p c (scope_below scope false bs p)
existential_same bs p c scope = ap (λ (ds : List ℕ). edges_between ds (sorts_of bs) ++ edges_in p c (scope ++ map (λ (b : Binder). ds) bs)) (depended_same p scope)

pub edges-ForAll : (c : Bool) (scope : List (List ℕ)) (bs : List Binder) (p : Formula) → edges_in (ForAll bs p) c scope ≡ edges_to scope c bs p ++ edges_in p c (scope_below scope c bs p)
edges-ForAll true scope bs p =
    let step : strata_of (ForAll bs p) ≡ part_step (Formula-F.ForAll bs (strata_of p)) = search (rules, the_lemmas) in
    ap (λ (q : Part). q.edges true scope) step
edges-ForAll false scope bs p =
    let step : strata_of (ForAll bs p) ≡ part_step (Formula-F.ForAll bs (strata_of p)) = search (rules, the_lemmas) in
    ap (λ (q : Part). q.edges false scope) step ∙ existential_same bs p false scope

pub edges-Exists : (c : Bool) (scope : List (List ℕ)) (bs : List Binder) (p : Formula) → edges_in (Exists bs p) c scope ≡ edges_to scope (not c) bs p ++ edges_in p c (scope_below scope (not c) bs p)
edges-Exists true scope bs p =
    let step : strata_of (Exists bs p) ≡ part_step (Formula-F.Exists bs (strata_of p)) = search (rules, the_lemmas) in
    ap (λ (q : Part). q.edges true scope) step ∙ existential_same bs p true scope
edges-Exists false scope bs p =
    let step : strata_of (Exists bs p) ≡ part_step (Formula-F.Exists bs (strata_of p)) = search (rules, the_lemmas) in
    ap (λ (q : Part). q.edges false scope) step

pub depended_yes : (scope : List (List ℕ)) (f : Formula) (i : ℕ) (d : List ℕ) → i < length scope → occurs i f ≡ true → sorts_below (take (i + 1) scope) f ≡ sorts_below (take i scope) f ++ get_or scope i d
depended_yes scope f i d l e = depended_more scope f i d l ∙ ap (λ (b : Bool). sorts_below (take i scope) f ++ cond {A = List ℕ} b (get_or scope i d) []) e

pub depended_no : (scope : List (List ℕ)) (f : Formula) (i : ℕ) (d : List ℕ) → i < length scope → occurs i f ≡ false → sorts_below (take (i + 1) scope) f ≡ sorts_below (take i scope) f
depended_no scope f i d l e =
    depended_more scope f i d l ∙ (ap (λ (b : Bool). sorts_below (take i scope) f ++ cond {A = List ℕ} b (get_or scope i d) []) e ∙ append-nil (sorts_below (take i scope) f))

module _ (whole edges more : List Edge) (scope inner : List (List ℕ)) (c u : Bool) (bs bound : List Binder) (p first second : Formula) where
  below_joined : whole ≡ edges ++ more → edges ≡ edges_to scope u bound first → inner ≡ scope_below scope u bound first → more ≡ edges_in second c inner → bound ≡ bs → first ≡ p → second ≡ p
      → whole ≡ edges_to scope u bs p ++ edges_in p c (scope_below scope u bs p)
  below_joined w e i m b q r =
      let edges_are : edges ≡ edges_to scope u bs p = subst (λ x. edges ≡ edges_to scope u x p) b (subst (λ x. edges ≡ edges_to scope u bound x) q e) in
      let inner_is : inner ≡ scope_below scope u bs p = subst (λ x. inner ≡ scope_below scope u x p) b (subst (λ x. inner ≡ scope_below scope u bound x) q i) in
      let more_are : more ≡ edges_in p c (scope_below scope u bs p) = subst (λ x. more ≡ edges_in p c x) inner_is (subst (λ x. more ≡ edges_in x c inner) r m) in
      w ∙ (ap (λ (es : List Edge). es ++ more) edges_are ∙ ap (λ (es : List Edge). edges_to scope u bs p ++ es) more_are)

pub for_all_joined : (whole edges more : List Edge) (scope inner : List (List ℕ)) (c : Bool) (bs bound : List Binder) (f p first second : Formula)
    → whole ≡ edges ++ more → edges ≡ edges_to scope c bound first → inner ≡ scope_below scope c bound first → more ≡ edges_in second c inner → bound ≡ bs → first ≡ p → second ≡ p → f ≡ ForAll bs p → whole ≡ edges_in f c scope
for_all_joined whole edges more scope inner c bs bound f p first second w e i m b q r is =
    below_joined whole edges more scope inner c c bs bound p first second w e i m b q r ∙ (sym (edges-ForAll c scope bs p) ∙ ap (λ (g : Formula). edges_in g c scope) (sym is))

pub exists_joined : (whole edges more : List Edge) (scope inner : List (List ℕ)) (c : Bool) (bs bound : List Binder) (f p first second : Formula)
    → whole ≡ edges ++ more → edges ≡ edges_to scope (not c) bound first → inner ≡ scope_below scope (not c) bound first → more ≡ edges_in second c inner → bound ≡ bs → first ≡ p → second ≡ p → f ≡ Exists bs p → whole ≡ edges_in f c scope
exists_joined whole edges more scope inner c bs bound f p first second w e i m b q r is =
    below_joined whole edges more scope inner c (not c) bs bound p first second w e i m b q r ∙ (sym (edges-Exists c scope bs p) ∙ ap (λ (g : Formula). edges_in g c scope) (sym is))
