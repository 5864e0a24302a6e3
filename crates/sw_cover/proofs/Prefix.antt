-- A template's prefix: what it says of truth and of sorts.
use Rattle.std.specs.Prelude.{◌≡◌, ℕ, zero, suc, ◌+◌, ◌<◌, ◌&&◌, ◌||◌, nat_lt, Bool, true, false, cond, List, [], ◌∷◌, ◌++◌, map, length, replicate}
use Rattle.std.specs.List.{AllByRecursion, flat_map, list_any, list_all, range_with_len}
use Rattle.std.specs.Fmt.{decimal}
use Rattle.std.proofs.Common.{rules, refl, arith, sym, ap, ◌∙◌, append_assoc, append-nil}
use Rattle.std.proofs.lemmas.List.Folds.{list_all-map}
use Rattle.sw_logic.specs.declared.syntax.Binder.{Binder}
use Rattle.sw_logic.specs.declared.syntax.Signature.{Signature}
use Rattle.sw_logic.specs.declared.syntax.Formula.{Formula}
use Rattle.sw_logic.specs.declared.syntax.Formula.TheVariants.{All, ForAll, Exists}
use Rattle.sw_logic.specs.declared.syntax.Formula as formula
use Rattle.sw_logic.specs.Truth.{World, truth, for_all, exists}
use Rattle.sw_logic.specs.Sorted.{well_sorted, are_sorts, extended}
use Rattle.sw_meaning.specs.declared.template.Run.{Run}
use Rattle.sw_meaning.specs.Space.{Block, same_quantifier, binders_of, before_blocks, blocks, quantified, all_of, any_of}
use Rattle.sw_meaning.proofs.Equations.{truth-Any, sorted-Any}
use Rattle.std.proofs.lemmas.Bool.{and_from}

or_false : (b : Bool) → (b || false) ≡ b
or_false true = refl
or_false false = refl

and_one : (b : Bool) → (b && true) ≡ b
and_one true = refl
and_one false = refl

all_of_map : {X Y : Type 0} (p : Y → Bool) (f : X → Y) (xs : List X) → list_all p (map f xs) ≡ list_all (λ x. p (f x)) xs
all_of_map p f xs = list_all-map p f xs

truth-All : (w : World) (env : List ℕ) (fs : List Formula) → truth w (All fs) env ≡ list_all (λ f. truth w f env) fs
truth-All w env fs = let step : truth w (All fs) env ≡ list_all (λ p. p env) (map (truth w) fs) = search (rules, formula.the_lemmas) in step ∙ all_of_map (λ p. p env) (truth w) fs

pub truth-ForAll : (w : World) (env : List ℕ) (bs : List Binder) (f : Formula) → truth w (ForAll bs f) env ≡ for_all w.before.sizes bs (truth w f) env
truth-ForAll w env bs f = search (rules, formula.the_lemmas)

pub truth-Exists : (w : World) (env : List ℕ) (bs : List Binder) (f : Formula) → truth w (Exists bs f) env ≡ exists w.before.sizes bs (truth w f) env
truth-Exists w env bs f = search (rules, formula.the_lemmas)

sorted-All : (sig : Signature) (post : Bool) (scope : List ℕ) (fs : List Formula) → well_sorted sig post (All fs) scope ≡ list_all (λ f. well_sorted sig post f scope) fs
sorted-All sig post scope fs =
    let step : well_sorted sig post (All fs) scope ≡ list_all (λ p. p scope) (map (well_sorted sig post) fs) = search (rules, formula.the_lemmas) in
    step ∙ list_all-map (λ p. p scope) (well_sorted sig post) fs

sorted-ForAll : (sig : Signature) (post : Bool) (scope : List ℕ) (bs : List Binder) (f : Formula) → well_sorted sig post (ForAll bs f) scope ≡ (are_sorts sig bs && well_sorted sig post f (extended scope bs))
sorted-ForAll sig post scope bs f = search (rules, formula.the_lemmas)

sorted-Exists : (sig : Signature) (post : Bool) (scope : List ℕ) (bs : List Binder) (f : Formula) → well_sorted sig post (Exists bs f) scope ≡ (are_sorts sig bs && well_sorted sig post f (extended scope bs))
sorted-Exists sig post scope bs f = search (rules, formula.the_lemmas)

pub truth-any_of : (w : World) (env : List ℕ) (fs : List Formula) → truth w (any_of fs) env ≡ list_any (λ f. truth w f env) fs
truth-any_of w env [] = truth-Any w env []
truth-any_of w env (f ∷ []) = sym (or_false (truth w f env))
truth-any_of w env (f ∷ g ∷ fs) = truth-Any w env (f ∷ g ∷ fs)

pub truth-all_of : (w : World) (env : List ℕ) (fs : List Formula) → truth w (all_of fs) env ≡ list_all (λ f. truth w f env) fs
truth-all_of w env [] = truth-All w env []
truth-all_of w env (f ∷ []) = sym (and_one (truth w f env))
truth-all_of w env (f ∷ g ∷ fs) = truth-All w env (f ∷ g ∷ fs)

pub sorted-any_of : (sig : Signature) (scope : List ℕ) (fs : List Formula) → well_sorted sig false (any_of fs) scope ≡ list_all (λ f. well_sorted sig false f scope) fs
sorted-any_of sig scope [] = sorted-Any sig false scope []
sorted-any_of sig scope (f ∷ []) = sym (and_one (well_sorted sig false f scope))
sorted-any_of sig scope (f ∷ g ∷ fs) = sorted-Any sig false scope (f ∷ g ∷ fs)

pub sorted-all_of : (sig : Signature) (scope : List ℕ) (fs : List Formula) → well_sorted sig false (all_of fs) scope ≡ list_all (λ f. well_sorted sig false f scope) fs
sorted-all_of sig scope [] = sorted-All sig false scope []
sorted-all_of sig scope (f ∷ []) = sym (and_one (well_sorted sig false f scope))
sorted-all_of sig scope (f ∷ g ∷ fs) = sorted-All sig false scope (f ∷ g ∷ fs)

-- under one prefix, what is true at the same values is true in the same worlds
pub quantified-same : (w : World) (bs : List Block) (f g : Formula) → ((env : List ℕ) → truth w f env ≡ truth w g env) → (env : List ℕ) → truth w (quantified bs f) env ≡ truth w (quantified bs g) env
quantified-same w [] f g h env = h env
quantified-same w (b ∷ bs) f g h env = by_quantifier b.universal (λ i e. quantified-same w bs f g h e i)
  where
    by_quantifier : (u : Bool) → truth w (quantified bs f) ≡ truth w (quantified bs g)
        → truth w (cond u (ForAll b.binders (quantified bs f)) (Exists b.binders (quantified bs f))) env ≡ truth w (cond u (ForAll b.binders (quantified bs g)) (Exists b.binders (quantified bs g))) env
    by_quantifier true e = truth-ForAll w env b.binders (quantified bs f) ∙ (ap (λ p. for_all w.before.sizes b.binders p env) e ∙ sym (truth-ForAll w env b.binders (quantified bs g)))
    by_quantifier false e = truth-Exists w env b.binders (quantified bs f) ∙ (ap (λ p. exists w.before.sizes b.binders p env) e ∙ sym (truth-Exists w env b.binders (quantified bs g)))

-- the sorts in scope under blocks, and whether the blocks' sorts are sorts
abbrev pub scope_after : List ℕ → List Block → List ℕ
scope_after scope [] = scope
scope_after scope (b ∷ bs) = scope_after (extended scope b.binders) bs

abbrev pub sorts_known : Signature → List Block → Bool
sorts_known sig [] = true
sorts_known sig (b ∷ bs) = are_sorts sig b.binders && sorts_known sig bs

and_assoc : (a b c : Bool) → (a && (b && c)) ≡ ((a && b) && c)
and_assoc true b c = refl
and_assoc false b c = refl

pub sorted-quantified : (sig : Signature) (bs : List Block) (f : Formula) (scope : List ℕ)
    → well_sorted sig false (quantified bs f) scope ≡ (sorts_known sig bs && well_sorted sig false f (scope_after scope bs))
sorted-quantified sig [] f scope = refl
sorted-quantified sig (b ∷ bs) f scope = by_quantifier b.universal (sorted-quantified sig bs f (extended scope b.binders))
  where
    by_quantifier : (u : Bool) → well_sorted sig false (quantified bs f) (extended scope b.binders) ≡ (sorts_known sig bs && well_sorted sig false f (scope_after (extended scope b.binders) bs))
        → well_sorted sig false (cond u (ForAll b.binders (quantified bs f)) (Exists b.binders (quantified bs f))) scope ≡ ((are_sorts sig b.binders && sorts_known sig bs) && well_sorted sig false f (scope_after (extended scope b.binders) bs))
    by_quantifier true e = sorted-ForAll sig false scope b.binders (quantified bs f) ∙ (ap (λ x. are_sorts sig b.binders && x) e ∙ and_assoc (are_sorts sig b.binders) (sorts_known sig bs) (well_sorted sig false f (scope_after (extended scope b.binders) bs)))
    by_quantifier false e = sorted-Exists sig false scope b.binders (quantified bs f) ∙ (ap (λ x. are_sorts sig b.binders && x) e ∙ and_assoc (are_sorts sig b.binders) (sorts_known sig bs) (well_sorted sig false f (scope_after (extended scope b.binders) bs)))

map_append : {X Y : Type 0} (f : X → Y) (xs ys : List X) → map f (xs ++ ys) ≡ map f xs ++ map f ys
map_append f [] ys = refl
map_append f (x ∷ xs) ys = ap (λ zs. f x ∷ zs) (map_append f xs ys)

all_append : {X : Type 0} (p : X → Bool) (xs ys : List X) → list_all p (xs ++ ys) ≡ (list_all p xs && list_all p ys)
all_append p [] ys = refl
all_append p (x ∷ xs) ys = ap (λ b. p x && b) (all_append p xs ys) ∙ and_assoc (p x) (list_all p xs) (list_all p ys)

extended_twice : (scope : List ℕ) (bs cs : List Binder) → extended scope (bs ++ cs) ≡ extended (extended scope bs) cs
extended_twice scope bs cs = ap (λ sorts. scope ++ sorts) (map_append (λ b. b.sort) bs cs) ∙ sym (append_assoc scope (map (λ b. b.sort) bs) (map (λ b. b.sort) cs))

scope_before : (scope : List ℕ) (b : Block) (bs : List Block) → scope_after scope (before_blocks b bs) ≡ scope_after (extended scope b.binders) bs
scope_before scope b [] = refl
scope_before scope b (c ∷ cs) = joined (same_quantifier b.universal c.universal)
  where
    joined : (s : Bool) → scope_after scope (cond s (record { universal = c.universal; binders = b.binders ++ c.binders } ∷ cs) (b ∷ c ∷ cs)) ≡ scope_after (extended scope b.binders) (c ∷ cs)
    joined true = ap (λ s. scope_after s cs) (extended_twice scope b.binders c.binders)
    joined false = refl

sorts_before : (sig : Signature) (b : Block) (bs : List Block) → sorts_known sig (before_blocks b bs) ≡ (are_sorts sig b.binders && sorts_known sig bs)
sorts_before sig b [] = refl
sorts_before sig b (c ∷ cs) = joined (same_quantifier b.universal c.universal)
  where
    joined : (s : Bool) → sorts_known sig (cond s (record { universal = c.universal; binders = b.binders ++ c.binders } ∷ cs) (b ∷ c ∷ cs)) ≡ (are_sorts sig b.binders && (are_sorts sig c.binders && sorts_known sig cs))
    joined true = ap (λ x. x && sorts_known sig cs) (all_append (λ b. nat_lt b.sort (length sig.sorts)) b.binders c.binders) ∙ sym (and_assoc (are_sorts sig b.binders) (are_sorts sig c.binders) (sorts_known sig cs))
    joined false = refl

-- the binders of a run are of its sort
run_sorts : (run : Run) (a n : ℕ) → map (λ b. b.sort) (map (λ m. let b : Binder = record { name = 95 ∷ decimal m; sort = run.sort } in b) (range_with_len a n)) ≡ replicate n run.sort
run_sorts run a zero = refl
run_sorts run a (suc n) = ap (λ sorts. run.sort ∷ sorts) (run_sorts run (a + 1) n)

lt_true : (a b : ℕ) → a < b → nat_lt a b ≡ true
lt_true a b h = grind arith

run_known : (sig : Signature) (run : Run) (a n : ℕ) → run.sort < length sig.sorts → are_sorts sig (map (λ m. let b : Binder = record { name = 95 ∷ decimal m; sort = run.sort } in b) (range_with_len a n)) ≡ true
run_known sig run a zero h = refl
run_known sig run a (suc n) h = and_from (nat_lt run.sort (length sig.sorts)) _ (lt_true run.sort (length sig.sorts) h) (run_known sig run (a + 1) n h)

-- the scope under the prefix is the sorts of its variables
pub scope-blocks : (scope : List ℕ) (before : ℕ) (runs : List Run) → scope_after scope (blocks before runs) ≡ scope ++ flat_map (λ run. replicate run.count run.sort) runs
scope-blocks scope before [] = sym (append-nil scope)
scope-blocks scope before (run ∷ runs) =
    scope_before scope (record { universal = run.universal; binders = binders_of before run }) (blocks (before + run.count) runs)
    ∙ (scope-blocks (extended scope (binders_of before run)) (before + run.count) runs
    ∙ (ap (λ sorts. (scope ++ sorts) ++ flat_map (λ run. replicate run.count run.sort) runs) (run_sorts run (before + 1) run.count)
    ∙ append_assoc scope (replicate run.count run.sort) (flat_map (λ run. replicate run.count run.sort) runs)))

pub sorts-blocks : (sig : Signature) (before : ℕ) (runs : List Run) → AllByRecursion (λ run. run.sort < length sig.sorts) runs → sorts_known sig (blocks before runs) ≡ true
sorts-blocks sig before [] a = refl
sorts-blocks sig before (run ∷ runs) a =
    sorts_before sig (record { universal = run.universal; binders = binders_of before run }) (blocks (before + run.count) runs)
    ∙ and_from (are_sorts sig (binders_of before run)) (sorts_known sig (blocks (before + run.count) runs)) (run_known sig run (before + 1) run.count a.0) (sorts-blocks sig (before + run.count) runs a.1)
