-- A formula of a template has no more variables in scope than the prefix has.
use Rattle.std.specs.Prelude.{◌≡◌, ℕ, zero, suc, ◌+◌, ◌≤◌, Bool, true, false, max, List, [], ◌∷◌, ◌++◌, map, length, if◌then◌else◌}
use Rattle.std.specs.List.{AllByRecursion, range_with_len}
use Rattle.std.specs.Fmt.{decimal}
use Rattle.std.proofs.Common.{rules, arith, refl, sym, ap, subst, ◌∙◌}
use Rattle.std.proofs.lemmas.List.{length-append, length-map}
use Rattle.sw_logic.specs.declared.syntax.Binder.{Binder}
use Rattle.sw_logic.specs.declared.syntax.Term.{Term}
use Rattle.sw_logic.specs.declared.syntax.Formula as formulas
use Rattle.sw_logic.specs.declared.syntax.Formula.{Formula}
use Rattle.sw_logic.specs.declared.syntax.Formula.TheOpen.{Formula-F}
use Rattle.sw_logic.specs.declared.syntax.Formula.TheVariants.{Holds, Equal, Not, All, Any, ForAll, Exists}
use Rattle.sw_logic.specs.Truth.{binds, binds_step, greatest}
use Rattle.sw_meaning.specs.declared.template.Run.{Run}
use Rattle.sw_meaning.specs.declared.template.Template.{Template}
use Rattle.sw_meaning.specs.Space.{IsAtom, IsLiteral, InSpace, Block, same_quantifier, binders_of, before_blocks, blocks, quantified, any_of, all_of}
use Rattle.sw_template.specs.Prefix.{variable_count}
use Rattle.sw_template_laws.specs.Laws.{FormulasBindFew}

abbrev Flat : Formula → Type 0
Flat f = binds f ≡ 0

pub holds_flat : (symbol : ℕ) (args : List Term) → Flat (Holds symbol false args)
holds_flat symbol args = search (rules, formulas.the_lemmas)

pub equal_flat : (a b : Term) → Flat (Equal a b)
equal_flat a b = search (rules, formulas.the_lemmas)

not_flat : (f : Formula) → Flat f → Flat (Not f)
not_flat f h = let step : binds (Not f) ≡ binds f = search (rules, formulas.the_lemmas) in step ∙ h

none_greatest : (fs : List Formula) → AllByRecursion Flat fs → greatest (map binds fs) ≡ 0
none_greatest [] h = refl
none_greatest (f ∷ fs) h = ap (λ n. max n (greatest (map binds fs))) h.0 ∙ (max_none (greatest (map binds fs)) ∙ none_greatest fs h.1)
  where
    max_none : (n : ℕ) → max 0 n ≡ n
    max_none n = grind arith

all_flat : (fs : List Formula) → AllByRecursion Flat fs → Flat (All fs)
all_flat fs h = let step : binds (All fs) ≡ greatest (map binds fs) = search (rules, formulas.the_lemmas) in step ∙ none_greatest fs h

any_flat : (fs : List Formula) → AllByRecursion Flat fs → Flat (Any fs)
any_flat fs h = let step : binds (Any fs) ≡ greatest (map binds fs) = search (rules, formulas.the_lemmas) in step ∙ none_greatest fs h

all_of_flat : (fs : List Formula) → AllByRecursion Flat fs → Flat (all_of fs)
all_of_flat [] h = all_flat [] h
all_of_flat (f ∷ []) h = h.0
all_of_flat (f ∷ g ∷ fs) h = all_flat (f ∷ g ∷ fs) h

any_of_flat : (fs : List Formula) → AllByRecursion Flat fs → Flat (any_of fs)
any_of_flat [] h = any_flat [] h
any_of_flat (f ∷ []) h = h.0
any_of_flat (f ∷ g ∷ fs) h = any_flat (f ∷ g ∷ fs) h

atom_flat : (depth : ℕ) (f : Formula) → IsAtom depth f → Flat f
atom_flat depth f (IsAtom.holds symbol args e h) = ap binds e ∙ holds_flat symbol args
atom_flat depth f (IsAtom.equal a b e d h k) = ap binds e ∙ equal_flat a b

literal_flat : (depth : ℕ) (f : Formula) → IsLiteral depth f → Flat f
literal_flat depth f (IsLiteral.plain a) = atom_flat depth f a
literal_flat depth f (IsLiteral.negated atom e a) = ap binds e ∙ not_flat atom (atom_flat depth atom a)

cube_flat : (depth : ℕ) (fs : List Formula) → AllByRecursion (IsLiteral depth) fs → AllByRecursion Flat fs
cube_flat depth [] h = tt
cube_flat depth (f ∷ fs) h = (literal_flat depth f h.0, cube_flat depth fs h.1)

cubes_flat : (depth : ℕ) (cubes : List (List Formula)) → AllByRecursion (λ cube. AllByRecursion (IsLiteral depth) cube) cubes → AllByRecursion Flat (map all_of cubes)
cubes_flat depth [] h = tt
cubes_flat depth (cube ∷ cubes) h = (all_of_flat cube (cube_flat depth cube h.0), cubes_flat depth cubes h.1)

-- ---- the binders of blocks
binders_in : List Block → ℕ
binders_in [] = 0
binders_in (b ∷ bs) = length b.binders + binders_in bs

binds_under : (bs : List Block) (f : Formula) → binds (quantified bs f) ≡ binders_in bs + binds f
unfolding binders_in
binds_under [] f = alone (binds f)
  where
    alone : (n : ℕ) → n ≡ 0 + n
    alone n = omega arith
binds_under (b ∷ bs) f = quantifier b.universal ∙ (ap (λ n. length b.binders + n) (binds_under bs f) ∙ sums (length b.binders) (binders_in bs) (binds f))
  where
    sums : (a b c : ℕ) → a + (b + c) ≡ a + b + c
    sums a b c = omega arith

    quantifier : (u : Bool) → binds (if u then ForAll b.binders (quantified bs f) else Exists b.binders (quantified bs f)) ≡ length b.binders + binds (quantified bs f)
    quantifier true = search (rules, formulas.the_lemmas)
    quantifier false = search (rules, formulas.the_lemmas)

binders_before : (u : Bool) (xs : List Binder) (bs : List Block) → binders_in (before_blocks (record { universal = u; binders = xs }) bs) ≡ length xs + binders_in bs
unfolding binders_in
binders_before u xs [] = refl
binders_before u xs (c ∷ cs) = merged u c.universal
  where
    joined : length (xs ++ c.binders) + binders_in cs ≡ length xs + (length c.binders + binders_in cs)
    joined = let e = length-append xs c.binders in omega (arith, e)

    merged : (v w : Bool) → binders_in (if same_quantifier v w then record { universal = w; binders = xs ++ c.binders } ∷ cs else record { universal = v; binders = xs } ∷ c ∷ cs) ≡ length xs + (length c.binders + binders_in cs)
    merged true true = joined
    merged false false = joined
    merged true false = refl
    merged false true = refl

length_range : (a n : ℕ) → length (range_with_len a n) ≡ n
length_range a zero = refl
length_range a (suc n) = ap suc (length_range (a + 1) n)

binders_blocks : (n : ℕ) (runs : List Run) → binders_in (blocks n runs) ≡ variable_count runs
unfolding binders_in
binders_blocks n [] = refl
binders_blocks n (run ∷ runs) =
    let count : length (binders_of n run) ≡ run.count = length-map (range_with_len (n + 1) run.count) (λ k. record { name = 95 ∷ decimal k; sort = run.sort }) ∙ length_range (n + 1) run.count in
    binders_before run.universal (binders_of n run) (blocks (n + run.count) runs) ∙ (ap (λ k. k + binders_in (blocks (n + run.count) runs)) count ∙ ap (λ k. run.count + k) (binders_blocks (n + run.count) runs))

pub formulas_bind_few : FormulasBindFew
formulas_bind_few p t f h =
    let body = any_of (map all_of h.body) in
    ap binds h.is ∙ (binds_under (blocks 0 t.prefix) body ∙ (ap (λ n. binders_in (blocks 0 t.prefix) + n) (any_of_flat (map all_of h.body) (cubes_flat t.terms h.body h.literals)) ∙ (none (binders_in (blocks 0 t.prefix)) ∙ binders_blocks 0 t.prefix)))
  where
    none : (n : ℕ) → n + 0 ≡ n
    none n = omega arith
