-- The names in scope under a template's prefix.
use Rattle.std.specs.Prelude.{◌≡◌, ℕ, zero, suc, ◌+◌, ◌<◌, Bool, true, false, if◌then◌else◌, List, [], ◌∷◌, ◌++◌, map, slice_get, Some}
use Rattle.std.specs.List.{range_with_len}
use Rattle.std.specs.Fmt.{decimal}
use Rattle.std.proofs.Common.{refl, sym, ap, ◌∙◌, arith, append_assoc, append-nil}
use Rattle.std.proofs.lemmas.List.{map-append}
use Rattle.std.proofs.lemmas.Option.{none-some, same_Some}
use Rattle.sw_logic.specs.declared.syntax.Binder.{Binder}
use Rattle.sw_logic.specs.Canonical.{names_of}
use Rattle.sw_meaning.specs.declared.template.Run.{Run}
use Rattle.sw_meaning.specs.Space.{Block, same_quantifier, binders_of, before_blocks, blocks}
use Rattle.sw_template.specs.Prefix.{variable_count}

-- the names in scope under blocks
abbrev pub names_after : List (List ℕ) → List Block → List (List ℕ)
names_after names [] = names
names_after names (b ∷ bs) = names_after (names ++ names_of b.binders) bs

-- ---- the names

abbrev pub variable : ℕ → List ℕ
variable n = 95 ∷ decimal n

range_parts : (a c n : ℕ) → range_with_len a (c + n) ≡ range_with_len a c ++ range_with_len (a + c) n
range_parts a zero n = let none : 0 + n ≡ n = omega arith in let start : a + 0 ≡ a = omega arith in ap (range_with_len a) none ∙ ap (λ k. range_with_len k n) (sym start)
range_parts a (suc c) n =
    let one : suc c + n ≡ suc (c + n) = omega arith in
    let start : (a + 1) + c ≡ a + suc c = omega arith in
    ap (range_with_len a) one ∙ (ap (λ ks. a ∷ ks) (range_parts (a + 1) c n) ∙ ap (λ k. a ∷ (range_with_len (a + 1) c ++ range_with_len k n)) start)

run_names : (run : Run) (a n : ℕ) → map (λ (b : Binder). b.name) (map (λ m. let b : Binder = record { name = 95 ∷ decimal m; sort = run.sort } in b) (range_with_len a n)) ≡ map variable (range_with_len a n)
run_names run a zero = refl
run_names run a (suc n) = ap (λ names. variable a ∷ names) (run_names run (a + 1) n)

names_before : (names : List (List ℕ)) (b : Block) (bs : List Block) → names_after names (before_blocks b bs) ≡ names_after (names ++ names_of b.binders) bs
names_before names b [] = refl
names_before names b (c ∷ cs) = by (same_quantifier b.universal c.universal)
  where
    by : (s : Bool) → names_after names (if s then record { universal = c.universal; binders = b.binders ++ c.binders } ∷ cs else b ∷ c ∷ cs) ≡ names_after (names ++ names_of b.binders) (c ∷ cs)
    by true = ap (λ xs. names_after xs cs) (ap (λ xs. names ++ xs) (map-append (λ (x : Binder). x.name) b.binders c.binders) ∙ sym (append_assoc names (names_of b.binders) (names_of c.binders)))
    by false = refl

pub names_are : (names : List (List ℕ)) (before : ℕ) (runs : List Run) → names_after names (blocks before runs) ≡ names ++ map variable (range_with_len (before + 1) (variable_count runs))
names_are names before [] = sym (append-nil names)
names_are names before (run ∷ runs) =
    let start : (before + run.count) + 1 ≡ (before + 1) + run.count = omega arith in
    let here : List (List ℕ) = map variable (range_with_len (before + 1) run.count) in
    let rest : ℕ → List (List ℕ) = λ k. map variable (range_with_len k (variable_count runs)) in
    names_before names (record { universal = run.universal; binders = binders_of before run }) (blocks (before + run.count) runs)
    ∙ (names_are (names ++ names_of (binders_of before run)) (before + run.count) runs
    ∙ (ap (λ xs. (names ++ xs) ++ rest ((before + run.count) + 1)) (run_names run (before + 1) run.count)
    ∙ (ap (λ k. (names ++ here) ++ rest k) start
    ∙ (append_assoc names here (rest ((before + 1) + run.count))
    ∙ ap (λ xs. names ++ xs) (sym (map-append variable (range_with_len (before + 1) run.count) (range_with_len ((before + 1) + run.count) (variable_count runs)))
    ∙ ap (map variable) (sym (range_parts (before + 1) run.count (variable_count runs))))))))

pub variable_at : (a n v : ℕ) (x : List ℕ) → slice_get (map variable (range_with_len a n)) v ≡ Some x → (x ≡ variable (a + v)) × (v < n)
variable_at a zero v x h = absurd (none-some x h)
variable_at a (suc n) zero x h = let start : a ≡ a + 0 = omega arith in (sym (same_Some (variable a) x h) ∙ ap variable start, omega arith)
variable_at a (suc n) (suc v) x h =
    let more = variable_at (a + 1) n v x h in
    let start : (a + 1) + v ≡ a + suc v = omega arith in
    (more.0 ∙ ap variable start, omega (arith, more.1))
