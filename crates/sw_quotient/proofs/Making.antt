-- Tables in the making.
use Rattle.std.specs.Prelude.{◌≡◌, ℕ, zero, suc, ◌+◌, ◌-◌, ◌<◌, ◌≤◌, false, List, [], ◌∷◌, ◌++◌, length}
use Rattle.std.specs.List.{flat_map}
use Rattle.std.proofs.Common.{arith, refl, sym, ap, ◌∙◌, get_or, take, drop, add-one, append_assoc}
use Rattle.std.proofs.lemmas.List.{append-nil}
use Rattle.std.proofs.Math.Seq.{take-length}
use Rattle.sw_quotient.specs.Valuations.{same_terms}
use Rattle.sw_quotient.specs.Tables.{tabulate}

pub longer : (ts us : List ℕ) → 1 ≤ length ts → length us ≡ 0 → same_terms ts us ≡ false
longer [] us h e = absurd (omega arith)
longer (t ∷ ts) [] h e = refl
longer (t ∷ ts) (u ∷ us) h e = cc

flat_more : {X : Type 0} (h : ℕ → List X) (xs : List ℕ) (i : ℕ) → i < length xs → flat_map h (take (i + 1) xs) ≡ flat_map h (take i xs) ++ h (get_or xs i 0)
flat_more h [] i l = absurd (omega arith)
flat_more h (x ∷ xs) zero l = append-nil (h x)
flat_more h (x ∷ xs) (suc i) l = rw add-one (ap (λ ys. h x ++ ys) (rw add-one at (flat_more h xs i (omega arith))) ∙ sym (append_assoc (h x) (flat_map h (take i xs)) (h (get_or xs i 0))))

moved : {X : Type 0} (listed : ℕ → List ℕ) (sorts front : List ℕ) (t : ℕ) (said : List ℕ → X) → tabulate listed sorts (λ ts. said ((front ++ t ∷ []) ++ ts)) ≡ tabulate listed sorts (λ ts. said (front ++ t ∷ ts))
moved listed sorts front t said = simp append_assoc

-- one listed term more
pub filled_more : {X : Type 0} (listed : ℕ → List ℕ) (sorts front xs : List ℕ) (i : ℕ) (said : List ℕ → X) (old bits more : List X) → i < length xs
    → bits ≡ old ++ flat_map (λ t. tabulate listed sorts (λ ts. said (front ++ t ∷ ts))) (take i xs)
    → more ≡ bits ++ tabulate listed sorts (λ ts. said ((front ++ get_or xs i 0 ∷ []) ++ ts))
    → more ≡ old ++ flat_map (λ t. tabulate listed sorts (λ ts. said (front ++ t ∷ ts))) (take (i + 1) xs)
filled_more listed sorts front xs i said old bits more l e f =
    let h = λ (t : ℕ). tabulate listed sorts (λ ts. said (front ++ t ∷ ts)) in
    f ∙ ap (λ b. b ++ tabulate listed sorts (λ ts. said ((front ++ get_or xs i 0 ∷ []) ++ ts))) e ∙ ap (λ b. (old ++ flat_map h (take i xs)) ++ b) (moved listed sorts front (get_or xs i 0) said)
    ∙ append_assoc old (flat_map h (take i xs)) (h (get_or xs i 0)) ∙ ap (λ b. old ++ b) (sym (flat_more h xs i l))

-- where no argument is left, what is said of the terms so far
pub leaf : {X : Type 0} (listed : ℕ → List ℕ) (sorts front : List ℕ) (said : List ℕ → X) (old more : List X) (x : X) → length sorts < 1 → x ≡ said front → more ≡ old ++ x ∷ [] → more ≡ old ++ tabulate listed sorts (λ ts. said (front ++ ts))
leaf listed [] front said old more x h e f = f ∙ ap (λ y. old ++ y ∷ []) (e ∙ ap said (sym (append-nil front)))
leaf listed (s ∷ sorts) front said old more x h e f = absurd (omega arith)

-- the terms of the first argument's sort, each with those of the rest
pub whole : {X : Type 0} (listed : ℕ → List ℕ) (sorts front xs : List ℕ) (said : List ℕ → X) (old more : List X) (i : ℕ) → 1 ≤ length sorts → listed (get_or sorts 0 0) ≡ xs → length xs ≤ i
    → more ≡ old ++ flat_map (λ t. tabulate listed (take (length sorts - 1) (drop 1 sorts)) (λ ts. said (front ++ t ∷ ts))) (take i xs)
    → more ≡ old ++ tabulate listed sorts (λ ts. said (front ++ ts))
whole listed [] front xs said old more i h e l f = absurd (omega arith)
whole listed (s ∷ sorts) front xs said old more i h e l f =
    let rest : take (length (s ∷ sorts) - 1) sorts ≡ sorts = (let k : length (s ∷ sorts) - 1 ≡ length sorts = omega arith in rw k (take-length sorts)) in
    f ∙ ap (λ ys. old ++ flat_map (λ t. tabulate listed (take (length (s ∷ sorts) - 1) sorts) (λ ts. said (front ++ t ∷ ts))) ys) (take_all i xs l ∙ sym e)
    ∙ ap (λ (r : List ℕ). old ++ flat_map (λ t. tabulate listed r (λ ts. said (front ++ t ∷ ts))) (listed s)) rest
  where
    take_all : (n : ℕ) (zs : List ℕ) → length zs ≤ n → take n zs ≡ zs
    take_all zero [] k = refl
    take_all zero (z ∷ zs) k = absurd (omega arith)
    take_all (suc n) [] k = refl
    take_all (suc n) (z ∷ zs) k = ap (λ r. z ∷ r) (take_all n zs (omega arith))
