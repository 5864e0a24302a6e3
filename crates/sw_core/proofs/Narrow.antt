-- The formula of a body has few variables in scope.
use Rattle.std.specs.Prelude.{◌≡◌, ℕ, zero, suc, ◌+◌, ◌≤◌, Bool, true, false, max, List, [], ◌∷◌, ◌++◌, map, length, if◌then◌else◌, slice_get, unwrap_or}
use Rattle.std.specs.List.{AllByRecursion, flat_map, range_with_len}
use Rattle.std.specs.Fmt.{decimal}
use Rattle.std.proofs.Common.{rules, arith, refl, ap, ◌∙◌}
use Rattle.std.proofs.lemmas.Bool.{le-leb}
use Rattle.std.proofs.lemmas.List.{length-append, length-map}
use Rattle.sw_lists.proofs.Each.{each-append, each-map, each-any, each-flat_map}
use Rattle.sw_logic.specs.declared.syntax.Binder.{Binder}
use Rattle.sw_logic.specs.declared.syntax.Term.{Term}
use Rattle.sw_logic.specs.declared.syntax.Signature.{Signature}
use Rattle.sw_logic.specs.declared.syntax.Formula as formulas
use Rattle.sw_logic.specs.declared.syntax.Formula.{Formula}
use Rattle.sw_logic.specs.declared.syntax.Formula.TheVariants.{False, Holds, Equal, Not, All, Any, ForAll, Exists}
use Rattle.sw_logic.specs.Truth.{binds, greatest}
use Rattle.sw_meaning.specs.declared.template.Run.{Run}
use Rattle.sw_meaning.specs.declared.template.Template.{Template}
use Rattle.sw_meaning.specs.Space.{Block, same_quantifier, binders_of, before_blocks, blocks, quantified, any_of, all_of}
use Rattle.sw_meaning.specs.Classes.{formula_by, tuples, pairs, terms_of, scope_of, symbols_of, is_relation, signed, atoms, cubes, cube_formulas, formula_of}
use Rattle.sw_template.specs.Prefix.{variable_count}
use Rattle.sw_enumerate.specs.Spaces.{Made as Space, IsFor, formula_in}
use Rattle.sw_core.specs.declared.part.Made.TheVariants.{Entry}
use Rattle.sw_core.specs.States.{is_made_narrow}

abbrev Flat : Formula → Type 0
Flat f = binds f ≡ 0

abbrev AreFlat : List Formula → Type 0
AreFlat fs = AllByRecursion Flat fs

-- ---- literals bind nothing
holds_flat : (symbol : ℕ) (args : List Term) → Flat (Holds symbol false args)
holds_flat symbol args = search (rules, formulas.the_lemmas)

equal_flat : (a b : Term) → Flat (Equal a b)
equal_flat a b = search (rules, formulas.the_lemmas)

false_flat : Flat False
false_flat = search (rules, formulas.the_lemmas)

not_flat : (f : Formula) → Flat f → Flat (Not f)
not_flat f h = let step : binds (Not f) ≡ binds f = search (rules, formulas.the_lemmas) in step ∙ h

atoms_flat : (sig : Signature) (t : Template) → AreFlat (atoms sig t)
atoms_flat sig t =
    each-append Flat (flat_map (λ s. map (Holds s.0 false) (tuples (map (terms_of sig (scope_of t) t.terms) s.1.args))) (symbols_of sig is_relation))
    (flat_map (λ sort. map (λ pair. Equal pair.0 pair.1) (pairs (terms_of sig (scope_of t) t.terms sort))) (range_with_len 0 (length sig.sorts)))
    (each-flat_map Flat (λ s. map (Holds s.0 false) (tuples (map (terms_of sig (scope_of t) t.terms) s.1.args))) (symbols_of sig is_relation)
    (each-any _ (λ s. each-map Flat (Holds s.0 false) (tuples (map (terms_of sig (scope_of t) t.terms) s.1.args)) (each-any _ (λ args. holds_flat s.0 args) _)) (symbols_of sig is_relation)))
    (each-flat_map Flat (λ sort. map (λ pair. Equal pair.0 pair.1) (pairs (terms_of sig (scope_of t) t.terms sort))) (range_with_len 0 (length sig.sorts))
    (each-any _ (λ sort. each-map Flat (λ pair. Equal pair.0 pair.1) (pairs (terms_of sig (scope_of t) t.terms sort)) (each-any _ (λ pair. equal_flat pair.0 pair.1) _)) (range_with_len 0 (length sig.sorts))))

signed_flat : (fs : List Formula) → AreFlat fs → AreFlat (signed fs)
signed_flat [] h = tt
signed_flat (f ∷ fs) h = (h.0, (not_flat f h.0, signed_flat fs h.1))

found_flat : (fs : List Formula) (n : ℕ) → AreFlat fs → Flat (unwrap_or (slice_get fs n) False)
found_flat [] n h = false_flat
found_flat (f ∷ fs) zero h = h.0
found_flat (f ∷ fs) (suc n) h = found_flat fs n h.1

literals_flat : (fs : List Formula) → AreFlat fs → (ns : List ℕ) → AreFlat (map (λ n. unwrap_or (slice_get fs n) False) ns)
literals_flat fs h [] = tt
literals_flat fs h (n ∷ ns) = (found_flat fs n h, literals_flat fs h ns)

-- ---- and so do cubes and bodies
none_greatest : (fs : List Formula) → AreFlat fs → greatest (map binds fs) ≡ 0
none_greatest [] h = refl
none_greatest (f ∷ fs) h = ap (λ n. max n (greatest (map binds fs))) h.0 ∙ (max_none (greatest (map binds fs)) ∙ none_greatest fs h.1)
  where
    max_none : (n : ℕ) → max 0 n ≡ n
    max_none n = grind arith

all_flat : (fs : List Formula) → AreFlat fs → Flat (All fs)
all_flat fs h = let step : binds (All fs) ≡ greatest (map binds fs) = search (rules, formulas.the_lemmas) in step ∙ none_greatest fs h

any_flat : (fs : List Formula) → AreFlat fs → Flat (Any fs)
any_flat fs h = let step : binds (Any fs) ≡ greatest (map binds fs) = search (rules, formulas.the_lemmas) in step ∙ none_greatest fs h

all_of_flat : (fs : List Formula) → AreFlat fs → Flat (all_of fs)
all_of_flat [] h = all_flat [] h
all_of_flat (f ∷ []) h = h.0
all_of_flat (f ∷ g ∷ fs) h = all_flat (f ∷ g ∷ fs) h

any_of_flat : (fs : List Formula) → AreFlat fs → Flat (any_of fs)
any_of_flat [] h = any_flat [] h
any_of_flat (f ∷ []) h = h.0
any_of_flat (f ∷ g ∷ fs) h = any_flat (f ∷ g ∷ fs) h

cubes_flat : (fs : List Formula) → AreFlat fs → (all : List (List ℕ)) (body : List ℕ) → AreFlat (map all_of (map (cube_formulas fs all) body))
cubes_flat fs h all [] = tt
cubes_flat fs h all (c ∷ cs) = (all_of_flat (cube_formulas fs all c) (literals_flat (signed fs) (signed_flat fs h) (unwrap_or (slice_get all c) [])), cubes_flat fs h all cs)

-- ---- a prefix binds its variables
under_block : (u : Bool) (xs : List Binder) (f : Formula) → binds (if u then ForAll xs f else Exists xs f) ≡ length xs + binds f
under_block true xs f = search (rules, formulas.the_lemmas)
under_block false xs f = search (rules, formulas.the_lemmas)

before_bind : (u : Bool) (xs : List Binder) (bs : List Block) (f : Formula) → binds (quantified (before_blocks (record { universal = u; binders = xs }) bs) f) ≡ length xs + binds (quantified bs f)
before_bind u xs [] f = under_block u xs f
before_bind u xs (c ∷ cs) f = merged u c.universal refl
  where
    inner : Formula
    inner = quantified cs f

    joined : (w : Bool) → c.universal ≡ w → binds (if w then ForAll (xs ++ c.binders) inner else Exists (xs ++ c.binders) inner) ≡ length xs + binds (if c.universal then ForAll c.binders inner else Exists c.binders inner)
    joined w e =
        let left : binds (if w then ForAll (xs ++ c.binders) inner else Exists (xs ++ c.binders) inner) ≡ length (xs ++ c.binders) + binds inner = under_block w (xs ++ c.binders) inner in
        let right : binds (if c.universal then ForAll c.binders inner else Exists c.binders inner) ≡ length c.binders + binds inner = under_block c.universal c.binders inner in
        omega (arith, left, right, length-append xs c.binders)

    merged : (v w : Bool) → c.universal ≡ w
        → binds (quantified (if same_quantifier v w then record { universal = w; binders = xs ++ c.binders } ∷ cs else record { universal = v; binders = xs } ∷ c ∷ cs) f) ≡ length xs + binds (quantified (c ∷ cs) f)
    merged true true e = joined true e
    merged false false e = joined false e
    merged true false e = under_block true xs (quantified (c ∷ cs) f)
    merged false true e = under_block false xs (quantified (c ∷ cs) f)

range_length : (a n : ℕ) → length (range_with_len a n) ≡ n
range_length a zero = refl
range_length a (suc n) = ap suc (range_length (a + 1) n)

blocks_bind : (n : ℕ) (runs : List Run) (f : Formula) → binds (quantified (blocks n runs) f) ≡ variable_count runs + binds f
blocks_bind n [] f = nothing (binds f)
  where
    nothing : (k : ℕ) → k ≡ 0 + k
    nothing k = omega arith
blocks_bind n (run ∷ runs) f =
    let count : length (binders_of n run) ≡ run.count = length-map (range_with_len (n + 1) run.count) (λ k. record { name = 95 ∷ decimal k; sort = run.sort }) ∙ range_length (n + 1) run.count in
    let first : binds (quantified (blocks n (run ∷ runs)) f) ≡ length (binders_of n run) + binds (quantified (blocks (n + run.count) runs) f) = before_bind run.universal (binders_of n run) (blocks (n + run.count) runs) f in
    omega (arith, count, first, blocks_bind (n + run.count) runs f)

-- as many variables are in scope as the prefix has
pub formula_binds : (sig : Signature) (t : Template) (body : List ℕ) → binds (formula_of sig t body) ≡ variable_count t.prefix
formula_binds sig t body =
    let fs : List Formula = map all_of (map (cube_formulas (atoms sig t) (cubes sig t)) body) in
    let flat : binds (any_of fs) ≡ 0 = any_of_flat fs (cubes_flat (atoms sig t) (atoms_flat sig t) (cubes sig t) body) in
    let under : binds (quantified (blocks 0 t.prefix) (any_of fs)) ≡ variable_count t.prefix + binds (any_of fs) = blocks_bind 0 t.prefix (any_of fs) in
    omega (arith, flat, under)

-- a space of the template in the signature has the formulas of its classes
pub formula_made : (s : Space) (sig : Signature) → IsFor s sig → (body : List ℕ) → formula_in s body ≡ formula_of sig s.template body
formula_made s sig i body = ap (λ fs. formula_by s.template fs s.cubes body) i.atoms_are ∙ ap (λ all. formula_by s.template (atoms sig s.template) all body) i.cubes_are

-- so what is made for an entry is narrow
pub entry_narrow : (sig : Signature) (t : Template) (body : List ℕ) (f : Formula) → f ≡ formula_of sig t body → variable_count t.prefix ≤ 6 → is_made_narrow (Entry f) ≡ true
entry_narrow sig t body f e h = le-leb (binds f) 32 (omega (arith, ap binds e, formula_binds sig t body, h))
