-- Numbers of instances, capped.
use Rattle.std.specs.Prelude.{◌≡◌, ℕ, zero, suc, ◌+◌, ◌*◌, ◌^◌, List, [], length}
use Rattle.std.specs.List.{range_with_len, sum_by}
use Rattle.std.proofs.Common.{arith, refl, sym, ap, ◌∙◌}
use Rattle.std.proofs.Math.Nat.{mul_comm}
use Rattle.std.proofs.lemmas.List.Sums.{sum_by-cons}
use Rattle.sw_truth.specs.declared.sets.Piece.{Piece}
use Rattle.sw_truth.specs.declared.sets.SkolemSet.{SkolemSet}
use Rattle.sw_universe.specs.declared.sizes.Size.{Size}
use Rattle.sw_universe.specs.Sizes.{capped, equalities, size_of_set}
use Rattle.sw_universe.specs.GroundTerms.{term_count, terms_within}
use Rattle.sw_universe.specs.Counting.{count_in, choices_in, congruences_in, instances_in, AreCounts}
use Rattle.sw_universe.proofs.Counted.{add_same, mul_same, min_min, add_capped, mul_capped}
use Rattle.sw_universe.proofs.Lengths.{Alike, sums_alike, choices_alike}

sum_range : (f : ℕ → ℕ) (a k : ℕ) → sum_by f (range_with_len a (suc k)) ≡ sum_by f (range_with_len a k) + f (a + k)
sum_range f a zero =
    let e : f (a + 0) ≡ f a = let z : a + 0 ≡ a = omega arith in ap f z in
    let c = sum_by-cons f a [] in
    omega arith
sum_range f a (suc k) =
    let rest = sum_range f (a + 1) k in
    let e : f (a + 1 + k) ≡ f (a + suc k) = let z : a + 1 + k ≡ a + suc k = omega arith in ap f z in
    let c = sum_by-cons f a (range_with_len (a + 1) (suc k)) in
    let d = sum_by-cons f a (range_with_len (a + 1) k) in
    omega arith

pub range_more : (f : ℕ → ℕ) (k total new value : ℕ) → total ≡ capped (sum_by f (range_with_len 0 k)) → capped value ≡ capped (f k) → new ≡ capped (total + value) → new ≡ capped (sum_by f (range_with_len 0 (k + 1)))
range_more f k total new value t v n =
    let next : suc k ≡ k + 1 = omega arith in
    let at : f (0 + k) ≡ f k = let z : 0 + k ≡ k = omega arith in ap f z in
    n ∙ (add_same (2 ^ 64) total (sum_by f (range_with_len 0 k)) value (f k) (ap capped t ∙ min_min (2 ^ 64) (sum_by f (range_with_len 0 k))) v
    ∙ (ap (λ x. capped (sum_by f (range_with_len 0 k) + x)) (sym at) ∙ (ap capped (sym (sum_range f 0 k)) ∙ ap (λ x. capped (sum_by f (range_with_len 0 x))) next)))

pub again : (a v : ℕ) → a ≡ capped v → capped a ≡ capped v
again a v e = ap capped e ∙ min_min (2 ^ 64) v

pub equality_count : (n square cube more all : ℕ) → square ≡ capped (n * n) → cube ≡ capped (n * square) → more ≡ capped (square + cube) → all ≡ capped (n + more) → all ≡ capped (equalities n)
equality_count n square cube more all s c m a =
    let cubed : cube ≡ capped (n * (n * n)) = c ∙ mul_capped n square (n * n) s in
    let both : more ≡ capped (n * n + n * (n * n)) = m ∙ add_capped square cube (n * n) (n * (n * n)) s cubed in
    a ∙ add_same (2 ^ 64) n n more (n * n + n * (n * n)) refl (again more (n * n + n * (n * n)) both)

equalities_alike : (a b : ℕ) → capped a ≡ capped b → capped (equalities a) ≡ capped (equalities b)
equalities_alike a b e =
    let square : capped (a * a) ≡ capped (b * b) = mul_same (2 ^ 64) a b a b e e in
    let cube : capped (a * (a * a)) ≡ capped (b * (b * b)) = mul_same (2 ^ 64) a b (a * a) (b * b) e square in
    add_same (2 ^ 64) a b (a * a + a * (a * a)) (b * b + b * (b * b)) e (add_same (2 ^ 64) (a * a) (b * b) (a * (a * a)) (b * (b * b)) square cube)

pub congruence_step : (count : ℕ → ℕ) (sorts : List ℕ) (sort all made here : ℕ) → here ≡ count sort → all ≡ capped (choices_in count sorts) → made ≡ capped (here * all) → made ≡ capped (choices_in count sorts * count sort)
congruence_step count sorts sort all made here h a m =
    m ∙ (ap (λ x. capped (x * all)) h ∙ (mul_capped (count sort) all (choices_in count sorts) a ∙ ap capped (mul_comm (count sort) (choices_in count sorts))))

abbrev pub made : ℕ → ℕ → Size
made terms instances = record { terms = terms; instances = instances }

same_size : (a b x y : ℕ) → a ≡ b → x ≡ y → made a x ≡ made b y
same_size a b x y e h = ap (λ k. made k x) e ∙ ap (made b) h

pub instances_counted : (set : SkolemSet) (n : ℕ) (counts : List ℕ) (pieces equal congruent axioms instances : ℕ) → length set.signature.sorts ≡ n
    → pieces ≡ capped (sum_by (λ (p : Piece). choices_in (count_in counts) p.vars) set.pieces)
    → equal ≡ capped (sum_by (λ sort. equalities (count_in counts sort)) (range_with_len 0 n))
    → congruent ≡ capped (sum_by (congruences_in (count_in counts)) set.signature.symbols)
    → axioms ≡ capped (equal + congruent) → instances ≡ capped (pieces + axioms) → instances ≡ capped (instances_in (count_in counts) set)
instances_counted set n counts pieces equal congruent axioms instances count p e g a i =
    let c = count_in counts in
    let of_pieces = sum_by (λ (q : Piece). choices_in c q.vars) set.pieces in
    let of_sorts = λ (k : ℕ). sum_by (λ (sort : ℕ). equalities (c sort)) (range_with_len 0 k) in
    let of_symbols = sum_by (congruences_in c) set.signature.symbols in
    i ∙ add_capped pieces axioms of_pieces (of_sorts n + of_symbols) p (a ∙ add_capped equal congruent (of_sorts n) of_symbols e g)
    ∙ ap (λ (k : ℕ). capped (of_pieces + (of_sorts k + of_symbols))) (sym count)

instances_alike : (set : SkolemSet) (c f : ℕ → ℕ) → Alike c f → capped (instances_in c set) ≡ capped (instances_in f set)
instances_alike set c f alike =
    let sig = set.signature in
    let range = range_with_len 0 (length sig.sorts) in
    let in_pieces = λ (k : ℕ → ℕ) (q : Piece). choices_in k q.vars in
    let ps = sums_alike (in_pieces c) (in_pieces f) set.pieces (λ q. choices_alike c f q.vars alike) in
    let es = sums_alike (λ s. equalities (c s)) (λ s. equalities (f s)) range (λ s. equalities_alike (c s) (f s) (alike s)) in
    let gs = sums_alike (congruences_in c) (congruences_in f) sig.symbols
    (λ s. sums_alike (λ k. choices_in c s.args * c k) (λ k. choices_in f s.args * f k) s.args
    (λ k. mul_same (2 ^ 64) (choices_in c s.args) (choices_in f s.args) (c k) (f k) (choices_alike c f s.args alike) (alike k))) in
    let sums = λ (k : ℕ → ℕ). sum_by (λ (s : ℕ). equalities (k s)) range in
    let both = add_same (2 ^ 64) (sums c) (sums f) (sum_by (congruences_in c) sig.symbols) (sum_by (congruences_in f) sig.symbols) es gs in
    add_same (2 ^ 64) (sum_by (in_pieces c) set.pieces) (sum_by (in_pieces f) set.pieces) (sums c + sum_by (congruences_in c) sig.symbols) (sums f + sum_by (congruences_in f) sig.symbols) ps both

pub size_is : (set : SkolemSet) (n : ℕ) (counts : List ℕ) (terms instances : ℕ) → length set.signature.sorts ≡ n → AreCounts set.signature n counts
    → terms ≡ capped (sum_by (count_in counts) (range_with_len 0 n)) → instances ≡ capped (instances_in (count_in counts) set) → made terms instances ≡ size_of_set set
size_is set n counts terms instances count are t i =
    let c = count_in counts in
    let sig = set.signature in
    let f : ℕ → ℕ = term_count sig in
    let alike : Alike c f = λ s. again (c s) (f s) (are s ∙ ap (λ (k : ℕ). capped (length (terms_within sig k s))) (sym count)) in
    same_size terms (capped (sum_by f (range_with_len 0 n))) instances (capped (instances_in f set)) (t ∙ sums_alike c f (range_with_len 0 n) alike) (i ∙ instances_alike set c f alike)
    ∙ ap (λ (k : ℕ). made (capped (sum_by f (range_with_len 0 k))) (capped (instances_in f set))) (sym count)
