-- How many instances there are.
use Rattle.std.proofs.Common.{◌≡◌, ℕ, zero, suc, ◌+◌, ◌*◌, true, List, [], ◌∷◌, ◌++◌, length, map, refl, sym, ap, ◌∙◌, arith, inl, inr}
use Rattle.std.specs.Prelude.{slice_index}
use Rattle.std.specs.List.{flat_map, range_with_len, enumerate_from, sum_by}
use Rattle.std.proofs.Math.Path.{fun_ext}
use Rattle.std.proofs.Math.ListN.{get_or-eq_default}
use Rattle.std.proofs.lemmas.Bool.{cases_lt}
use Rattle.std.proofs.lemmas.Option.{unwrap_or-slice_get}
use Rattle.std.proofs.lemmas.List.{length-append, length-map}
use Rattle.std.proofs.lemmas.List.Sums.{sum_by-cons}
use Rattle.std.proofs.lemmas.List.FromFn.{get_or-map-range_with_len, length-map-range_with_len, length-range_with_len}
use Rattle.sw_logic.specs.declared.syntax.Symbol.{Symbol}
use Rattle.sw_logic.specs.declared.syntax.Signature.{Signature}
use Rattle.sw_logic.specs.declared.syntax.Term.{Term}
use Rattle.sw_logic.specs.Signatures.{is_signature}
use Rattle.sw_logic.specs.Truth.{size_of}
use Rattle.sw_truth.specs.declared.sets.Piece.{Piece}
use Rattle.sw_truth.specs.declared.sets.SkolemSet.{SkolemSet}
use Rattle.sw_truth.specs.declared.instances.Instance.TheVariants.{Of, Reflexive, Symmetric, Transitive, Congruent}
use Rattle.sw_universe.specs.declared.universe.Universe.{Universe}
use Rattle.sw_universe.specs.ByNumber.{counts}
use Rattle.sw_universe.specs.GroundTerms.{terms_of, universe_of, term_count}
use Rattle.sw_universe.specs.Sizes.{equalities}
use Rattle.sw_universe.specs.Counting.{count_in, choices_in, congruences_in, instances_in}
use Rattle.sw_universe.proofs.Uniform.{uniform_length}
use Rattle.sw_universe.proofs.Lengths.{none_beyond}
use Rattle.sw_instances.specs.AllInstances.{numbers, choices, piece_instances, equality_instances, congruence_at, congruence_instances, instances_of, CountIsLength}

module _ (u : Universe) where
  abbrev count : ℕ → ℕ
  count = count_in (counts u)

  numbers_length : (sort : ℕ) → length (numbers u sort) ≡ count sort
  numbers_length sort = length-range_with_len 0 (size_of (counts u) sort) ∙ unwrap_or-slice_get (counts u) sort 0

  choices_length : (sorts : List ℕ) → length (choices u sorts) ≡ choices_in count sorts
  choices_length [] = refl
  choices_length (s ∷ sorts) =
      let rest = choices u sorts in
      uniform_length (λ (x : ℕ). map (λ tuple. x ∷ tuple) rest) (length rest) (λ x. length-map rest (λ tuple. x ∷ tuple)) (numbers u s)
      ∙ ap (λ (n : ℕ). n * length rest) (numbers_length s) ∙ ap (λ (n : ℕ). count s * n) (choices_length sorts)

  pieces_length : (from : ℕ) (pieces : List Piece) → length (flat_map (piece_instances u) (enumerate_from from pieces)) ≡ sum_by (λ (p : Piece). choices_in count p.vars) pieces
  pieces_length from [] = refl
  pieces_length from (p ∷ pieces) =
      let here : length (piece_instances u (from, p)) ≡ choices_in count p.vars = length-map (choices u p.vars) (Of from) ∙ choices_length p.vars in
      length-append (piece_instances u (from, p)) (flat_map (piece_instances u) (enumerate_from (from + 1) pieces))
      ∙ ap (λ (n : ℕ). n + length (flat_map (piece_instances u) (enumerate_from (from + 1) pieces))) here
      ∙ ap (λ (n : ℕ). choices_in count p.vars + n) (pieces_length (from + 1) pieces)
      ∙ sym (sum_by-cons (λ (q : Piece). choices_in count q.vars) p pieces)

  equality_length : (sort : ℕ) → length (equality_instances u sort) ≡ equalities (count sort)
  equality_length sort =
      let n = count sort in
      let ns = numbers u sort in
      let one : length (map (Reflexive sort) ns) ≡ n = length-map ns (Reflexive sort) ∙ numbers_length sort in
      let two : length (flat_map (λ t. map (Symmetric sort t) ns) ns) ≡ n * n =
      uniform_length (λ t. map (Symmetric sort t) ns) n (λ t. length-map ns (Symmetric sort t) ∙ numbers_length sort) ns ∙ ap (λ (k : ℕ). k * n) (numbers_length sort) in
      let three : length (flat_map (λ t. flat_map (λ v. map (Transitive sort t v) ns) ns) ns) ≡ n * (n * n) =
      uniform_length (λ t. flat_map (λ v. map (Transitive sort t v) ns) ns) (n * n)
      (λ t. uniform_length (λ v. map (Transitive sort t v) ns) n (λ v. length-map ns (Transitive sort t v) ∙ numbers_length sort) ns ∙ ap (λ (k : ℕ). k * n) (numbers_length sort)) ns
      ∙ ap (λ (k : ℕ). k * (n * n)) (numbers_length sort) in
      let both = length-append (map (Reflexive sort) ns) (flat_map (λ t. map (Symmetric sort t) ns) ns ++ flat_map (λ t. flat_map (λ v. map (Transitive sort t v) ns) ns) ns) in
      let rest = length-append (flat_map (λ t. map (Symmetric sort t) ns) ns) (flat_map (λ t. flat_map (λ v. map (Transitive sort t v) ns) ns) ns) in
      summed n (n * n) (n * (n * n)) _ _ _ _ _ both rest one two three
    where
      summed : (a b c x y z r w : ℕ) → w ≡ x + r → r ≡ y + z → x ≡ a → y ≡ b → z ≡ c → w ≡ a + (b + c)
      summed a b c x y z r w e f g h i = omega arith

  sorts_length : (from n : ℕ) → length (flat_map (equality_instances u) (range_with_len from n)) ≡ sum_by (λ (sort : ℕ). equalities (count sort)) (range_with_len from n)
  sorts_length from zero = refl
  sorts_length from (suc n) =
      length-append (equality_instances u from) (flat_map (equality_instances u) (range_with_len (from + 1) n))
      ∙ ap (λ (k : ℕ). k + length (flat_map (equality_instances u) (range_with_len (from + 1) n))) (equality_length from)
      ∙ ap (λ (k : ℕ). equalities (count from) + k) (sorts_length (from + 1) n)
      ∙ sym (sum_by-cons (λ (sort : ℕ). equalities (count sort)) from (range_with_len (from + 1) n))

  places_length : (symbol many : ℕ) (tuples : List (List ℕ)) (from : ℕ) (sorts : List ℕ) → length tuples ≡ many
      → length (flat_map (congruence_at u symbol tuples) (enumerate_from from sorts)) ≡ sum_by (λ (sort : ℕ). many * count sort) sorts
  places_length symbol many tuples from [] e = refl
  places_length symbol many tuples from (s ∷ sorts) e =
      let row : length (congruence_at u symbol tuples (from, s)) ≡ many * count s =
      uniform_length (λ (ns : List ℕ). map (Congruent symbol from ns) (numbers u s)) (count s) (λ ns. length-map (numbers u s) (Congruent symbol from ns) ∙ numbers_length s) tuples
      ∙ ap (λ (k : ℕ). k * count s) e in
      length-append (congruence_at u symbol tuples (from, s)) (flat_map (congruence_at u symbol tuples) (enumerate_from (from + 1) sorts))
      ∙ ap (λ (k : ℕ). k + length (flat_map (congruence_at u symbol tuples) (enumerate_from (from + 1) sorts))) row
      ∙ ap (λ (k : ℕ). many * count s + k) (places_length symbol many tuples (from + 1) sorts e)
      ∙ sym (sum_by-cons (λ (sort : ℕ). many * count sort) s sorts)

  symbols_length : (from : ℕ) (symbols : List Symbol) → length (flat_map (congruence_instances u) (enumerate_from from symbols)) ≡ sum_by (congruences_in count) symbols
  symbols_length from [] = refl
  symbols_length from (s ∷ symbols) =
      length-append (congruence_instances u (from, s)) (flat_map (congruence_instances u) (enumerate_from (from + 1) symbols))
      ∙ ap (λ (k : ℕ). k + length (flat_map (congruence_instances u) (enumerate_from (from + 1) symbols))) (places_length from (choices_in count s.args) (choices u s.args) 0 s.args (choices_length s.args))
      ∙ ap (λ (k : ℕ). congruences_in count s + k) (symbols_length (from + 1) symbols)
      ∙ sym (sum_by-cons (congruences_in count) s symbols)

  pub all_length : (set : SkolemSet) → length (instances_of set u) ≡ instances_in count set
  all_length set =
      let pieces = flat_map (piece_instances u) (enumerate_from 0 set.pieces) in
      let sorts = flat_map (equality_instances u) (range_with_len 0 (length set.signature.sorts)) in
      let symbols = flat_map (congruence_instances u) (enumerate_from 0 set.signature.symbols) in
      let both = length-append pieces (sorts ++ symbols) in
      let rest = length-append sorts symbols in
      summed _ _ _ _ _ _ _ _ both rest (pieces_length 0 set.pieces) (sorts_length 0 (length set.signature.sorts)) (symbols_length 0 set.signature.symbols)
    where
      summed : (a b c x y z r w : ℕ) → w ≡ x + r → r ≡ y + z → x ≡ a → y ≡ b → z ≡ c → w ≡ a + (b + c)
      summed a b c x y z r w e f g h i = omega arith

mapped : (sig : Signature) (a n : ℕ) → map length (map (terms_of sig) (range_with_len a n)) ≡ map (term_count sig) (range_with_len a n)
mapped sig a zero = refl
mapped sig a (suc n) = ap (λ (ns : List ℕ). term_count sig a ∷ ns) (mapped sig (a + 1) n)

-- the count of a sort is the number of its terms, of a sort that there is not too
counted : (sig : Signature) → is_signature sig ≡ true → (u : Universe) → u.lists ≡ universe_of sig → (sort : ℕ) → count_in (counts u) sort ≡ term_count sig sort
counted sig good u is sort =
    let n = length sig.sorts in
    ap (λ (ls : List (List Term)). slice_index (map length ls) sort) is ∙ ap (λ (ns : List ℕ). slice_index ns sort) (mapped sig 0 n)
    ∙ elim (cases_lt sort n) [
      | inl l ↦ get_or-map-range_with_len (term_count sig) 0 n sort sort 0 l (omega arith)
      | inr l ↦ get_or-eq_default (map (term_count sig) (range_with_len 0 n)) 0 (let e = length-map-range_with_len (term_count sig) 0 n in omega arith) ∙ sym (none_beyond sig good sort l)
    ]

pub count_is : CountIsLength
count_is set u good is = all_length u set ∙ ap (λ (f : ℕ → ℕ). instances_in f set) (fun_ext (counted set.signature good u is))
