-- How many cubes and atoms there are, without making them.
use Rattle.std.specs.Prelude.{◌≡◌, ℕ, zero, suc, ◌+◌, ◌==◌, false, List, [], ◌∷◌, map, length, if◌then◌else◌}
use Rattle.std.specs.List.{flat_map, range_with_len}
use Rattle.std.proofs.Common.{refl, arith, ap, ◌∙◌, length-append}
use Rattle.sw_logic.specs.declared.syntax.Signature.{Signature}
use Rattle.sw_logic.specs.declared.syntax.Formula.TheVariants.{Holds, Equal}
use Rattle.sw_meaning.specs.declared.template.Template.{Template}
use Rattle.sw_meaning.specs.Classes.{scope_of, terms_of, tuples, pairs, symbols_of, is_relation, atoms, literals, cubes, choices}
use Rattle.sw_cover.specs.Counting.{product, total, binomial}
use Rattle.sw_cover.proofs.TermCounts.{length_map, length_flat, total_same, tuples_length, map_map}

pub choices_count : {X : Type 0} (n : ℕ) (xs : List X) → length (choices n xs) ≡ binomial (length xs) n
choices_count zero [] = refl
choices_count zero (x ∷ xs) = refl
choices_count (suc n) [] = refl
choices_count (suc n) (x ∷ xs) =
    length-append (map (λ chosen. x ∷ chosen) (choices n xs)) (choices (suc n) xs)
    ∙ (ap (λ k. k + length (choices (suc n) xs)) (length_map (λ chosen. x ∷ chosen) (choices n xs) ∙ choices_count n xs) ∙ ap (λ k. binomial (length xs) n + k) (choices_count (suc n) xs))

range_length : (a n : ℕ) → length (range_with_len a n) ≡ n
range_length a zero = refl
range_length a (suc n) = ap suc (range_length (a + 1) n)

pub cubes_count : (sig : Signature) (t : Template) → length (cubes sig t) ≡ total (binomial (length (literals sig t))) (range_with_len 1 (if t.depth == 1 then 1 else t.literals))
cubes_count sig t =
    length_flat (λ n. choices n (range_with_len 0 (length (literals sig t)))) (range_with_len 1 (if t.depth == 1 then 1 else t.literals))
    ∙ total_same (λ n. length (choices n (range_with_len 0 (length (literals sig t))))) (binomial (length (literals sig t))) (range_with_len 1 (if t.depth == 1 then 1 else t.literals))
    (λ n. choices_count n (range_with_len 0 (length (literals sig t))) ∙ ap (λ m. binomial m n) (range_length 0 (length (literals sig t))))

-- each element with each later one
pub pairs_count : {X : Type 0} (xs : List X) → length (pairs xs) ≡ binomial (length xs) 2
pairs_count [] = refl
pairs_count (x ∷ xs) =
    length-append (map (λ y. (x, y)) xs) (pairs xs)
    ∙ (ap (λ k. k + length (pairs xs)) (length_map (λ y. (x, y)) xs ∙ one (length xs)) ∙ ap (λ k. binomial (length xs) 1 + k) (pairs_count xs))
  where
    one : (n : ℕ) → n ≡ binomial n 1
    one zero = refl
    one (suc n) = let rest : n ≡ binomial n 1 = one n in omega (arith, rest)

pub atoms_count : (sig : Signature) (t : Template) → length (atoms sig t)
    ≡ total (λ s. product (map (λ sort. length (terms_of sig (scope_of t) t.terms sort)) s.1.args)) (symbols_of sig is_relation)
    + total (λ sort. binomial (length (terms_of sig (scope_of t) t.terms sort)) 2) (range_with_len 0 (length sig.sorts))
atoms_count sig t =
    length-append (flat_map (λ s. map (Holds s.0 false) (tuples (map (terms_of sig (scope_of t) t.terms) s.1.args))) (symbols_of sig is_relation)) (flat_map (λ sort. map (λ pair. Equal pair.0 pair.1) (pairs (terms_of sig (scope_of t) t.terms sort))) (range_with_len 0 (length sig.sorts)))
    ∙ (ap (λ n. n + length (flat_map (λ sort. map (λ pair. Equal pair.0 pair.1) (pairs (terms_of sig (scope_of t) t.terms sort))) (range_with_len 0 (length sig.sorts))))
    (length_flat (λ s. map (Holds s.0 false) (tuples (map (terms_of sig (scope_of t) t.terms) s.1.args))) (symbols_of sig is_relation)
    ∙ total_same (λ s. length (map (Holds s.0 false) (tuples (map (terms_of sig (scope_of t) t.terms) s.1.args)))) (λ s. product (map (λ sort. length (terms_of sig (scope_of t) t.terms sort)) s.1.args)) (symbols_of sig is_relation)
    (λ s. length_map (Holds s.0 false) (tuples (map (terms_of sig (scope_of t) t.terms) s.1.args)) ∙ (tuples_length (map (terms_of sig (scope_of t) t.terms) s.1.args) ∙ ap product (map_map length (terms_of sig (scope_of t) t.terms) s.1.args))))
    ∙ ap (λ n. total (λ s. product (map (λ sort. length (terms_of sig (scope_of t) t.terms sort)) s.1.args)) (symbols_of sig is_relation) + n)
    (length_flat (λ sort. map (λ pair. Equal pair.0 pair.1) (pairs (terms_of sig (scope_of t) t.terms sort))) (range_with_len 0 (length sig.sorts))
    ∙ total_same (λ sort. length (map (λ pair. Equal pair.0 pair.1) (pairs (terms_of sig (scope_of t) t.terms sort)))) (λ sort. binomial (length (terms_of sig (scope_of t) t.terms sort)) 2) (range_with_len 0 (length sig.sorts))
    (λ sort. length_map (λ pair. Equal pair.0 pair.1) (pairs (terms_of sig (scope_of t) t.terms sort)) ∙ pairs_count (terms_of sig (scope_of t) t.terms sort))))
