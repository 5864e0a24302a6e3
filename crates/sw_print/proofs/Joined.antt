-- Pieces in a row, one more at a time, and how runs are shown.
use Rattle.std.specs.Prelude.{◌≡◌, ◌==◌, ℕ, suc, ◌+◌, ◌<◌, Bool, false, List, [], ◌∷◌, ◌++◌, length, map, take, if◌then◌else◌, codes}
use Rattle.std.specs.List.{flat_map}
use Rattle.std.proofs.Common.{ap, sym, ◌∙◌, get_or, arith, append_assoc, rules}
use Rattle.std.proofs.lemmas.List.{take_more, map-append, append-nil, length-map, length-take-le}
use Rattle.std.proofs.lemmas.Simd.{map-map}
use Rattle.std.proofs.lemmas.Bool.Decides.{nat_tests}
use Rattle.std.proofs.lemmas.Grind.{flat_map-append}
use Rattle.sw_logic.specs.Canonical.{joined, Shown, in_brackets, shown}
use Rattle.sw_logic.specs.declared.syntax.Signature.{Signature}
use Rattle.sw_logic.specs.declared.syntax.Formula as formulas
use Rattle.sw_logic.specs.declared.syntax.Formula.{Formula}
use Rattle.sw_logic.specs.declared.syntax.Formula.TheVariants as formula

none_left : (n : ℕ) → (suc n == 0) ≡ false
none_left n = grind (arith, nat_tests)

one_more : (b : List ℕ) (ys : List (List ℕ)) (z : List ℕ) → joined b (ys ++ z ∷ []) ≡ joined b ys ++ ((if length ys == 0 then [] else b) ++ z)
one_more b [] z = append-nil z
one_more b (y ∷ ys) z =
    ap (λ w. y ++ w) (flat_map-append (λ w. b ++ w) ys (z ∷ []))
    ∙ ap (λ w. y ++ (flat_map (λ w. b ++ w) ys ++ w)) (append-nil (b ++ z))
    ∙ sym (append_assoc y (flat_map (λ w. b ++ w) ys) (b ++ z))
    ∙ ap (λ (t : Bool). joined b (y ∷ ys) ++ ((if t then [] else b) ++ z)) (sym (none_left (length ys)))

pub joined_more : {A : Type 0} (b : List ℕ) (f : A → List ℕ) (xs : List A) (i : ℕ) (d : A) → i < length xs
    → joined b (map f (take (i + 1) xs)) ≡ joined b (map f (take i xs)) ++ ((if i == 0 then [] else b) ++ f (get_or xs i d))
joined_more b f xs i d h =
    let n : length (map f (take i xs)) ≡ i = length-map (take i xs) f ∙ length-take-le i xs (omega arith) in
    ap (λ ys. joined b (map f ys)) (take_more xs i d h)
    ∙ ap (joined b) (map-append f (take i xs) (get_or xs i d ∷ []))
    ∙ one_more b (map f (take i xs)) (f (get_or xs i d))
    ∙ ap (λ k. joined b (map f (take i xs)) ++ ((if k == 0 then [] else b) ++ f (get_or xs i d))) n

-- how runs are shown
pub shown-All : (sig : Signature) (scope : List (List ℕ)) (ps : List Formula)
    → shown sig scope (formula.All ps) ≡ in_brackets (joined (codes " & ") (map (λ (f : Formula). (shown sig scope f).operand) ps))
shown-All sig scope ps =
    let step : shown sig scope (formula.All ps) ≡ in_brackets (joined (codes " & ") (map (λ (p : List (List ℕ) → Shown). (p scope).operand) (map (λ (f : Formula) (s : List (List ℕ)). shown sig s f) ps))) = search (rules, formulas.the_lemmas) in
    step ∙ ap (λ xs. in_brackets (joined (codes " & ") xs)) (map-map _ _ ps)

pub shown-Any : (sig : Signature) (scope : List (List ℕ)) (ps : List Formula)
    → shown sig scope (formula.Any ps) ≡ in_brackets (joined (codes " | ") (map (λ (f : Formula). (shown sig scope f).operand) ps))
shown-Any sig scope ps =
    let step : shown sig scope (formula.Any ps) ≡ in_brackets (joined (codes " | ") (map (λ (p : List (List ℕ) → Shown). (p scope).operand) (map (λ (f : Formula) (s : List (List ℕ)). shown sig s f) ps))) = search (rules, formulas.the_lemmas) in
    step ∙ ap (λ xs. in_brackets (joined (codes " | ") xs)) (map-map _ _ ps)

-- what is written, with one more piece
pub written : {A : Type 0} (b : List ℕ) (f : A → List ℕ) (xs : List A) (i : ℕ) (d : A) (old before between after : List ℕ) → i < length xs
    → before ≡ old ++ joined b (map f (take i xs)) → between ≡ before ++ (if i == 0 then [] else b) → after ≡ between ++ f (get_or xs i d) → after ≡ old ++ joined b (map f (take (i + 1) xs))
written b f xs i d old before between after h e g k =
    let sofar = joined b (map f (take i xs)) in
    let gap : List ℕ = if i == 0 then [] else b in
    k ∙ ap (λ w. w ++ f (get_or xs i d)) (g ∙ ap (λ w. w ++ gap) e) ∙ ap (λ w. w ++ f (get_or xs i d)) (append_assoc old sofar gap) ∙ append_assoc old (sofar ++ gap) (f (get_or xs i d))
    ∙ ap (λ w. old ++ w) (append_assoc sofar gap (f (get_or xs i d)) ∙ sym (joined_more b f xs i d h))
