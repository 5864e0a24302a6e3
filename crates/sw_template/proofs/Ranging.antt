-- A template's prefix, block by block, ranges over its variables one by one.
use Rattle.std.specs.Prelude.{◌≡◌, ℕ, zero, suc, ◌+◌, ◌<◌, ◌||◌, Bool, true, false, cond, List, [], ◌∷◌, ◌++◌, map, replicate}
use Rattle.std.specs.List.{range_with_len, list_any}
use Rattle.std.specs.Fmt.{decimal}
use Rattle.std.proofs.Common.{refl, arith, sym, ap, ◌∙◌, inl, inr}
use Rattle.std.proofs.lemmas.Bool.{cases_lt, and_right, or_right}
use Rattle.sw_logic.specs.declared.syntax.Binder.{Binder}
use Rattle.sw_logic.specs.declared.syntax.Formula.{Formula}
use Rattle.sw_logic.specs.declared.syntax.Formula.TheVariants.{ForAll, Exists}
use Rattle.sw_logic.specs.Truth.{World, truth, size_of, all_below, any_below, for_all, exists}
use Rattle.sw_meaning.specs.declared.template.Run.{Run}
use Rattle.sw_meaning.specs.declared.template.Template.{Template}
use Rattle.sw_meaning.specs.Space.{Block, same_quantifier, binders_of, before_blocks, blocks, quantified, all_of, any_of}
use Rattle.sw_cover.proofs.Prefix.{truth-ForAll, truth-Exists, truth-any_of, truth-all_of}
use Rattle.sw_meaning.specs.Classes.{cube_formulas, formula_by}
use Rattle.sw_template.specs.Prefix.{variables, over, body_true}

pub all_below-false : (n v : ℕ) (p : ℕ → Bool) → v < n → p v ≡ false → all_below n p ≡ false
all_below-false zero v p h e = absurd (omega arith)
all_below-false (suc n) v p h e =
    elim (cases_lt v n) [
      | inl below ↦ rw (all_below-false n v p below e)
      | inr past ↦ let same : v ≡ n = omega arith in rw (← same, e) (and_right (all_below v p) false refl)
    ]

pub any_below-true : (n v : ℕ) (p : ℕ → Bool) → v < n → p v ≡ true → any_below n p ≡ true
any_below-true zero v p h e = absurd (omega arith)
any_below-true (suc n) v p h e =
    elim (cases_lt v n) [
      | inl below ↦ rw (any_below-true n v p below e)
      | inr past ↦ let same : v ≡ n = omega arith in rw (← same, e) (or_right (any_below v p) true refl)
    ]

for_all_append : (sizes : List ℕ) (bs cs : List Binder) (p : List ℕ → Bool) (env : List ℕ) → for_all sizes (bs ++ cs) p env ≡ for_all sizes bs (for_all sizes cs p) env
for_all_append sizes [] cs p env = refl
for_all_append sizes (b ∷ bs) cs p env = λ i. all_below (size_of sizes b.sort) (λ v. for_all_append sizes bs cs p (env ++ v ∷ []) i)

exists_append : (sizes : List ℕ) (bs cs : List Binder) (p : List ℕ → Bool) (env : List ℕ) → exists sizes (bs ++ cs) p env ≡ exists sizes bs (exists sizes cs p) env
exists_append sizes [] cs p env = refl
exists_append sizes (b ∷ bs) cs p env = λ i. any_below (size_of sizes b.sort) (λ v. exists_append sizes bs cs p (env ++ v ∷ []) i)

abbrev named : Run → ℕ → Binder
named run m = record { name = 95 ∷ decimal m; sort = run.sort }

abbrev quantifies : List ℕ → Bool → ℕ → (ℕ → Bool) → Bool
quantifies sizes u sort p = cond u (all_below (size_of sizes sort) p) (any_below (size_of sizes sort) p)

abbrev ranges : List ℕ → Bool → List Binder → (List ℕ → Bool) → List ℕ → Bool
ranges sizes u bs p env = cond u (for_all sizes bs p env) (exists sizes bs p env)

over_append : (sizes : List ℕ) (xs ys : List Run) (p : List ℕ → Bool) (env : List ℕ) → over sizes (xs ++ ys) p env ≡ over sizes xs (over sizes ys p) env
over_append sizes [] ys p env = refl
over_append sizes (x ∷ xs) ys p env = λ i. quantifies sizes x.universal x.sort (λ v. over_append sizes xs ys p (env ++ v ∷ []) i)

-- a run's binders range over its variables
run_all : (sizes : List ℕ) (run : Run) (a n : ℕ) (p : List ℕ → Bool) (env : List ℕ) → run.universal ≡ true → for_all sizes (map (named run) (range_with_len a n)) p env ≡ over sizes (replicate n run) p env
run_all sizes run a zero p env e = refl
run_all sizes run a (suc n) p env e =
    let step : all_below (size_of sizes run.sort) (λ v. for_all sizes (map (named run) (range_with_len (a + 1) n)) p (env ++ v ∷ [])) ≡ all_below (size_of sizes run.sort) (λ v. over sizes (replicate n run) p (env ++ v ∷ [])) =
    λ i. all_below (size_of sizes run.sort) (λ v. run_all sizes run (a + 1) n p (env ++ v ∷ []) e i) in
    step ∙ ap (λ u. quantifies sizes u run.sort (λ v. over sizes (replicate n run) p (env ++ v ∷ []))) (sym e)

run_some : (sizes : List ℕ) (run : Run) (a n : ℕ) (p : List ℕ → Bool) (env : List ℕ) → run.universal ≡ false → exists sizes (map (named run) (range_with_len a n)) p env ≡ over sizes (replicate n run) p env
run_some sizes run a zero p env e = refl
run_some sizes run a (suc n) p env e =
    let step : any_below (size_of sizes run.sort) (λ v. exists sizes (map (named run) (range_with_len (a + 1) n)) p (env ++ v ∷ [])) ≡ any_below (size_of sizes run.sort) (λ v. over sizes (replicate n run) p (env ++ v ∷ [])) =
    λ i. any_below (size_of sizes run.sort) (λ v. run_some sizes run (a + 1) n p (env ++ v ∷ []) e i) in
    step ∙ ap (λ u. quantifies sizes u run.sort (λ v. over sizes (replicate n run) p (env ++ v ∷ []))) (sym e)

run_ranges : (sizes : List ℕ) (run : Run) (a n : ℕ) (p : List ℕ → Bool) (env : List ℕ) (u : Bool) → run.universal ≡ u → ranges sizes u (map (named run) (range_with_len a n)) p env ≡ over sizes (replicate n run) p env
run_ranges sizes run a n p env true e = run_all sizes run a n p env e
run_ranges sizes run a n p env false e = run_some sizes run a n p env e

module _ (w : World) where
  truth-block : (u : Bool) (bs : List Binder) (f : Formula) (env : List ℕ) → truth w (cond u (ForAll bs f) (Exists bs f)) env ≡ ranges w.before.sizes u bs (truth w f) env
  truth-block true bs f env = truth-ForAll w env bs f
  truth-block false bs f env = truth-Exists w env bs f

  -- two blocks of one quantifier are one block
  ranges_append : (u : Bool) (bs cs : List Binder) (f : Formula) (env : List ℕ) → truth w (cond u (ForAll (bs ++ cs) f) (Exists (bs ++ cs) f)) env ≡ ranges w.before.sizes u bs (truth w (cond u (ForAll cs f) (Exists cs f))) env
  ranges_append true bs cs f env =
      truth-ForAll w env (bs ++ cs) f ∙ (for_all_append w.before.sizes bs cs (truth w f) env ∙ (λ i. for_all w.before.sizes bs (λ e. sym (truth-ForAll w e cs f) i) env))
  ranges_append false bs cs f env =
      truth-Exists w env (bs ++ cs) f ∙ (exists_append w.before.sizes bs cs (truth w f) env ∙ (λ i. exists w.before.sizes bs (λ e. sym (truth-Exists w e cs f) i) env))

  truth-before : (b : Block) (bs : List Block) (f : Formula) (env : List ℕ) → truth w (quantified (before_blocks b bs) f) env ≡ ranges w.before.sizes b.universal b.binders (truth w (quantified bs f)) env
  truth-before b [] f env = truth-block b.universal b.binders f env
  truth-before b (c ∷ cs) f env = joined b.universal c.universal refl refl
    where
      joined : (u v : Bool) → b.universal ≡ u → c.universal ≡ v
          → truth w (quantified (cond (same_quantifier u v) (record { universal = v; binders = b.binders ++ c.binders } ∷ cs) (b ∷ c ∷ cs)) f) env
          ≡ ranges w.before.sizes u b.binders (truth w (cond v (ForAll c.binders (quantified cs f)) (Exists c.binders (quantified cs f)))) env
      joined true true e g = ranges_append true b.binders c.binders (quantified cs f) env
      joined false false e g = ranges_append false b.binders c.binders (quantified cs f) env
      joined true false e g =
          truth-block b.universal b.binders (quantified (c ∷ cs) f) env
          ∙ (ap (λ u. ranges w.before.sizes u b.binders (truth w (quantified (c ∷ cs) f)) env) e
          ∙ ap (λ v. ranges w.before.sizes true b.binders (truth w (cond v (ForAll c.binders (quantified cs f)) (Exists c.binders (quantified cs f)))) env) g)
      joined false true e g =
          truth-block b.universal b.binders (quantified (c ∷ cs) f) env
          ∙ (ap (λ u. ranges w.before.sizes u b.binders (truth w (quantified (c ∷ cs) f)) env) e
          ∙ ap (λ v. ranges w.before.sizes false b.binders (truth w (cond v (ForAll c.binders (quantified cs f)) (Exists c.binders (quantified cs f)))) env) g)

  -- a formula under the prefix is true where its part is at all or some values of the variables
  pub truth-prefix : (before : ℕ) (runs : List Run) (f : Formula) (env : List ℕ) → truth w (quantified (blocks before runs) f) env ≡ over w.before.sizes (variables runs) (truth w f) env
  truth-prefix before [] f env = refl
  truth-prefix before (run ∷ runs) f env =
      truth-before (record { universal = run.universal; binders = binders_of before run }) (blocks (before + run.count) runs) f env
      ∙ ((λ i. ranges w.before.sizes run.universal (binders_of before run) (λ e. truth-prefix (before + run.count) runs f e i) env)
      ∙ (run_ranges w.before.sizes run (before + 1) run.count (over w.before.sizes (variables runs) (truth w f)) env run.universal refl
      ∙ sym (over_append w.before.sizes (replicate run.count run) (variables runs) (truth w f) env)))

  any_map : {X Y : Type 0} (p : Y → Bool) (f : X → Y) (xs : List X) → list_any p (map f xs) ≡ list_any (λ x. p (f x)) xs
  any_map p f [] = refl
  any_map p f (x ∷ xs) = ap (λ b. p (f x) || b) (any_map p f xs)

  -- the truth of a body's formula
  pub truth-body : (t : Template) (atoms : List Formula) (cubes : List (List ℕ)) (body : List ℕ) (env : List ℕ)
      → truth w (formula_by t atoms cubes body) env ≡ over w.before.sizes (variables t.prefix) (body_true w atoms cubes body) env
  truth-body t atoms cubes body env =
      truth-prefix 0 t.prefix (any_of (map all_of (map (cube_formulas atoms cubes) body))) env
      ∙ (λ i. over w.before.sizes (variables t.prefix) (λ e. matrix e i) env)
    where
      cubes_true : (e : List ℕ) (xs : List ℕ) → list_any (λ c. truth w (all_of (cube_formulas atoms cubes c)) e) xs ≡ body_true w atoms cubes xs e
      cubes_true e xs = λ i. list_any (λ c. truth-all_of w e (cube_formulas atoms cubes c) i) xs

      matrix : (e : List ℕ) → truth w (any_of (map all_of (map (cube_formulas atoms cubes) body))) e ≡ body_true w atoms cubes body e
      matrix e =
          truth-any_of w e (map all_of (map (cube_formulas atoms cubes) body)) ∙ (any_map (λ f. truth w f e) all_of (map (cube_formulas atoms cubes) body)
          ∙ (any_map (λ fs. truth w (all_of fs) e) (cube_formulas atoms cubes) body ∙ cubes_true e body))
