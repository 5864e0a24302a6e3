-- A query with more sentences has no fewer ground terms and no fewer instances.
use Rattle.std.specs.Prelude.{◌≡◌, ℕ, ◌+◌, ◌*◌, ◌^◌, ◌<◌, ◌≤◌, true, min, List, [], ◌∷◌, ◌++◌, length, map}
use Rattle.std.specs.List.{AllByRecursion, flat_map, filter, range_with_len, sum_by}
use Rattle.std.proofs.Common.{arith, refl, sym, ap, subst, ◌∙◌, inl, inr}
use Rattle.std.proofs.lemmas.List.Sums.{sum_by-cons, sum_by-append}
use Rattle.std.proofs.lemmas.Nat.{mul-le}
use Rattle.sw_lists.proofs.Each.{each-any, each-append, each-front, each-back}
use Rattle.sw_logic.specs.declared.syntax.Symbol.{Symbol}
use Rattle.sw_logic.specs.declared.syntax.Signature.{Signature}
use Rattle.sw_logic.specs.declared.syntax.Formula.{Formula}
use Rattle.sw_logic.specs.declared.query.Query.{Query}
use Rattle.sw_logic.specs.Queries.{IsSentence, IsQuery}
use Rattle.sw_logic.specs.Strata.{AreRanks, IsStratified, edges_of, function_edges, formula_edges}
use Rattle.sw_truth.specs.declared.sets.Piece.{Piece}
use Rattle.sw_truth.specs.Models.{is_bare}
use Rattle.sw_truth.proofs.Rising.{Rises}
use Rattle.sw_universe.specs.GroundTerms.{term_count}
use Rattle.sw_universe.specs.Sizes.{equalities, congruences, instance_count, size_of_set}
use Rattle.sw_universe.specs.Counting.{choices_in}
use Rattle.sw_universe.specs.Laws.{UniverseIsInhabited}
use Rattle.sw_skolem.specs.Normal.{nnf_of}
use Rattle.sw_skolem.specs.Skolem.{skolem_of, forms_of, normal_sentences, fresh_constant, fresh_constants}
use Rattle.sw_skolem.specs.Laws.{asserted, SkolemIsWellFormed, SkolemKeepsStrata}
use Rattle.sw_universe.specs.declared.sizes.Size.{Size}
use Rattle.sw_decide.specs.Decision.{size_of_query, IsPast}
use Rattle.sw_size_laws.specs.Part.{IsPartOf}
use Rattle.sw_size_laws.specs.Sizes.{IsNoLarger}
use Rattle.sw_size_laws.specs.Laws.{SizesGrow}
use Rattle.sw_size_laws.proofs.Part.{part_each, part_map, map_sum, flat_part_sum}
use Rattle.sw_size_laws.proofs.SkolemShapes.{symbols_of, shapes_of, made_apart, vars_apart}
use Rattle.sw_size_laws.proofs.Counts.{filled, counts_grow, sums_le, choices_le}

equalities_le : (a b : ℕ) → a ≤ b → equalities a ≤ equalities b
equalities_le a b h =
    let square = mul-le a a b b h h in
    let cube = mul-le a (a * a) b (b * b) h square in
    omega arith

pub capped_le : (m a b : ℕ) → a ≤ b → min m a ≤ min m b
capped_le m a b h = omega arith

-- the query of these sentences
abbrev pub query : Signature → List Formula → Query
query sig fs = record { signature = sig; sentences = fs }

-- the laws of the crates below that are needed
pub record Laws : Type 0 where
  pub well_formed : SkolemIsWellFormed
  pub keeps_strata : SkolemKeepsStrata
  pub inhabited : UniverseIsInhabited

edges_each : (fs : List Formula) (ranks : List ℕ) → AllByRecursion (Rises ranks) (flat_map (λ p. formula_edges p.formula p.positive) (asserted fs))
    → AllByRecursion (λ (f : Formula). AllByRecursion (Rises ranks) (formula_edges f true)) fs
edges_each [] ranks h = tt
edges_each (f ∷ fs) ranks h =
    let rest = flat_map (λ p. formula_edges p.formula p.positive) (asserted fs) in
    (each-front (Rises ranks) (formula_edges f true) rest h, edges_each fs ranks (each-back (Rises ranks) (formula_edges f true) rest h))

edges_all : (fs : List Formula) (ranks : List ℕ) → AllByRecursion (λ (f : Formula). AllByRecursion (Rises ranks) (formula_edges f true)) fs
    → AllByRecursion (Rises ranks) (flat_map (λ p. formula_edges p.formula p.positive) (asserted fs))
edges_all [] ranks h = tt
edges_all (f ∷ fs) ranks h = each-append (Rises ranks) (formula_edges f true) (flat_map (λ p. formula_edges p.formula p.positive) (asserted fs)) h.0 (edges_all fs ranks h.1)

module _ (laws : Laws) (sig : Signature) (fs gs : List Formula) (part : IsPartOf fs gs) (ok : IsQuery (query sig gs))
    (ranks : List ℕ) (are : AreRanks (length sig.sorts) (edges_of sig (asserted gs)) ranks) where
  base : ℕ
  base = length sig.symbols

  few_ok : IsQuery (query sig fs)
  few_ok = record { signature = ok.signature; sentences = part_each (IsSentence sig) fs gs part ok.sentences }

  few_ranks : AreRanks (length sig.sorts) (edges_of sig (asserted fs)) ranks
  few_ranks =
      let own = each-front (Rises ranks) (function_edges sig.symbols) (flat_map (λ p. formula_edges p.formula p.positive) (asserted gs)) are.rises in
      let all = edges_each gs ranks (each-back (Rises ranks) (function_edges sig.symbols) (flat_map (λ p. formula_edges p.formula p.positive) (asserted gs)) are.rises) in
      record {
        count = are.count;
        below = are.below;
        rises = each-append (Rises ranks) (function_edges sig.symbols) (flat_map (λ p. formula_edges p.formula p.positive) (asserted fs)) own
            (edges_all fs ranks (part_each (λ (f : Formula). AllByRecursion (Rises ranks) (formula_edges f true)) fs gs part all));
      }

  abbrev made : List Formula → List Symbol
  made hs = (forms_of (query sig hs)).made

  abbrev normal : List Formula → List Formula
  normal hs = normal_sentences (query sig hs)

  normal_part : IsPartOf (normal fs) (normal gs)
  normal_part = part_map (λ f. nnf_of f true) fs gs part

  made_grow : (f : Symbol → ℕ) → sum_by f (made fs) ≤ sum_by f (made gs)
  made_grow f =
      let a = ap (sum_by f) (made_apart (length sig.symbols) (normal fs) []) in
      let b = ap (sum_by f) (made_apart (length sig.symbols) (normal gs) []) in
      let c = flat_part_sum f (symbols_of (length sig.symbols)) (normal fs) (normal gs) normal_part in
      omega arith

  stratified : (hs : List Formula) → IsQuery (query sig hs) → AreRanks (length sig.sorts) (edges_of sig (asserted hs)) ranks → IsStratified (filled sig (made hs))
  stratified hs q r = record { ranks = ranks; are = laws.keeps_strata (query sig hs) ranks q r }

  abbrev count : List Formula → ℕ → ℕ
  count hs = term_count (filled sig (made hs))

  inhabited : (sort : ℕ) → sort < length sig.sorts → 0 < count gs sort
  inhabited sort h =
      let whole = laws.well_formed (query sig gs) ok in
      laws.inhabited (filled sig (made gs)) sort whole.signature (stratified gs ok are) whole.none_bare h

  counts : (sort : ℕ) → count fs sort ≤ count gs sort
  counts = counts_grow sig (made fs) (made gs) made_grow (stratified fs few_ok few_ranks) (stratified gs ok are) (laws.well_formed (query sig fs) few_ok).signature inhabited

  choices_grow : (ss : List ℕ) → choices_in (count fs) ss ≤ choices_in (count gs) ss
  choices_grow ss = choices_le (count fs) (count gs) ss (each-any (λ a. count fs a ≤ count gs a) counts ss)

  congruences_grow : (s : Symbol) → congruences (filled sig (made fs)) s ≤ congruences (filled sig (made gs)) s
  congruences_grow s =
      sums_le (λ sort. choices_in (count fs) s.args * count fs sort) (λ sort. choices_in (count gs) s.args * count gs sort) s.args
      (each-any (λ sort. choices_in (count fs) s.args * count fs sort ≤ choices_in (count gs) s.args * count gs sort)
      (λ sort. mul-le (choices_in (count fs) s.args) (count fs sort) (choices_in (count gs) s.args) (count gs sort) (choices_grow s.args) (counts sort)) s.args)

  abbrev shaped : List Formula → List (List ℕ)
  shaped hs = flat_map (shapes_of (length sig.symbols)) (normal hs)

  abbrev piece_sum : (List ℕ → ℕ) → List Formula → ℕ
  piece_sum f hs = sum_by (λ (p : Piece). f p.vars) (skolem_of (query sig hs)).pieces

  pieces_are : (f : List ℕ → ℕ) (hs : List Formula) → piece_sum f hs ≡ sum_by f (shaped hs)
  pieces_are f hs = sym (map_sum f (λ (p : Piece). p.vars) (skolem_of (query sig hs)).pieces) ∙ ap (sum_by f) (vars_apart (length sig.symbols) (normal hs) [])

  pieces_grow : piece_sum (choices_in (count fs)) fs ≤ piece_sum (choices_in (count gs)) gs
  pieces_grow =
      let a = pieces_are (choices_in (count fs)) fs in
      let b = pieces_are (choices_in (count gs)) gs in
      let c = flat_part_sum (choices_in (count fs)) (shapes_of (length sig.symbols)) (normal fs) (normal gs) normal_part in
      let d = sums_le (choices_in (count fs)) (choices_in (count gs)) (shaped gs)
      (each-any (λ ss. choices_in (count fs) ss ≤ choices_in (count gs) ss) choices_grow (shaped gs)) in
      omega arith

  -- a constant has no congruence
  no_congruences : (some : Signature) (ss : List ℕ) → sum_by (congruences some) (map fresh_constant ss) ≡ 0
  no_congruences some [] = refl
  no_congruences some (s ∷ ss) =
      let step = sum_by-cons (congruences some) (fresh_constant s) (map fresh_constant ss) in
      let here : congruences some (fresh_constant s) ≡ 0 = refl in
      let rest = no_congruences some ss in
      omega arith

  all_congruences : (hs : List Formula) → sum_by (congruences (filled sig (made hs))) (filled sig (made hs)).symbols
      ≡ sum_by (congruences (filled sig (made hs))) sig.symbols + sum_by (congruences (filled sig (made hs))) (made hs)
  all_congruences hs =
      let f = congruences (filled sig (made hs)) in
      let fresh = fresh_constants (length sig.sorts) (sig.symbols ++ made hs) in
      let a = sum_by-append f sig.symbols (made hs ++ fresh) in
      let b = sum_by-append f (made hs) fresh in
      let c = no_congruences (filled sig (made hs)) (filter (is_bare (sig.symbols ++ made hs)) (range_with_len 0 (length sig.sorts))) in
      omega arith

  instances_grow : instance_count (skolem_of (query sig fs)) ≤ instance_count (skolem_of (query sig gs))
  instances_grow =
      let f = congruences (filled sig (made fs)) in
      let g = congruences (filled sig (made gs)) in
      let range = range_with_len 0 (length sig.sorts) in
      let of_pieces = pieces_grow in
      let of_sorts = sums_le (λ sort. equalities (count fs sort)) (λ sort. equalities (count gs sort)) range
      (each-any (λ sort. equalities (count fs sort) ≤ equalities (count gs sort)) (λ sort. equalities_le (count fs sort) (count gs sort) (counts sort)) range) in
      let a = all_congruences fs in
      let b = all_congruences gs in
      let c = sums_le f g sig.symbols (each-any (λ s. f s ≤ g s) congruences_grow sig.symbols) in
      let d = sums_le f g (made fs) (each-any (λ s. f s ≤ g s) congruences_grow (made fs)) in
      let e = made_grow g in
      omega arith

  terms_grow : sum_by (count fs) (range_with_len 0 (length sig.sorts)) ≤ sum_by (count gs) (range_with_len 0 (length sig.sorts))
  terms_grow = let range = range_with_len 0 (length sig.sorts) in sums_le (count fs) (count gs) range (each-any (λ sort. count fs sort ≤ count gs sort) counts range)

  pub terms_le : (size_of_set (skolem_of (query sig fs))).terms ≤ (size_of_set (skolem_of (query sig gs))).terms
  terms_le = capped_le (2 ^ 64) (sum_by (count fs) (range_with_len 0 (length sig.sorts))) (sum_by (count gs) (range_with_len 0 (length sig.sorts))) terms_grow

  pub instances_le : (size_of_set (skolem_of (query sig fs))).instances ≤ (size_of_set (skolem_of (query sig gs))).instances
  instances_le = capped_le (2 ^ 64) (instance_count (skolem_of (query sig fs))) (instance_count (skolem_of (query sig gs))) instances_grow

past_le : (a b : Size) → a.terms ≤ b.terms → a.instances ≤ b.instances → IsPast a → IsPast b
past_le a b t i (inl h) = inl (omega arith)
past_le a b t i (inr h) = inr (omega arith)

pub sizes_grow : Laws → SizesGrow
sizes_grow laws q r ok strata same part =
    let terms = terms_le laws r.signature q.sentences r.sentences part ok strata.ranks strata.are in
    let instances = instances_le laws r.signature q.sentences r.sentences part ok strata.ranks strata.are in
    let whole : IsNoLarger (query r.signature q.sentences) r = record {
      terms = terms;
      instances = instances;
      past = past_le (size_of_query (query r.signature q.sentences)) (size_of_query r) terms instances;
    } in
    subst (λ (sig : Signature). IsNoLarger (query sig q.sentences) r) (sym same) whole
