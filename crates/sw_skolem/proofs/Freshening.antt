-- One fresh constant more.
use Rattle.std.specs.Prelude.{◌≡◌, ℕ, zero, suc, ◌+◌, Bool, true, false, cond, List, [], ◌∷◌, ◌++◌, map}
use Rattle.std.specs.List.{filter, range_with_len}
use Rattle.std.proofs.Common.{arith, ap, ◌∙◌}
use Rattle.std.proofs.lemmas.List.{append-nil, map-append}
use Rattle.sw_logic.specs.declared.syntax.Symbol.{Symbol}
use Rattle.sw_truth.specs.Models.{is_bare}
use Rattle.sw_skolem.specs.Skolem.{fresh_constant, fresh_constants}
use Rattle.std.proofs.lemmas.List.Elements.{filter-append}

range_after : (a k : ℕ) → range_with_len a (suc k) ≡ range_with_len a k ++ (a + k) ∷ []
range_after a zero = let e : a ≡ a + 0 = omega arith in ap (λ (n : ℕ). n ∷ []) e
range_after a (suc k) =
    let e : a + 1 + k ≡ a + suc k = omega arith in
    ap (λ (ns : List ℕ). a ∷ ns) (range_after (a + 1) k ∙ ap (λ (n : ℕ). range_with_len (a + 1) k ++ n ∷ []) e)

fresh_more : (symbols : List Symbol) (k : ℕ) → fresh_constants (k + 1) symbols ≡ fresh_constants k symbols ++ map fresh_constant (filter (is_bare symbols) (k ∷ []))
fresh_more symbols k =
    let next : k + 1 ≡ suc k = omega arith in
    let at : 0 + k ≡ k = omega arith in
    let p = is_bare symbols in
    ap (λ (n : ℕ). fresh_constants n symbols) next
    ∙ (ap (λ (ns : List ℕ). map fresh_constant (filter p ns)) (range_after 0 k ∙ ap (λ (n : ℕ). range_with_len 0 k ++ n ∷ []) at)
    ∙ (ap (map fresh_constant) (filter-append p (range_with_len 0 k) (k ∷ [])) ∙ map-append fresh_constant (filter p (range_with_len 0 k)) (filter p (k ∷ []))))

pub fresh_yes : (symbols : List Symbol) (k : ℕ) → is_bare symbols k ≡ true → fresh_constants (k + 1) symbols ≡ fresh_constants k symbols ++ fresh_constant k ∷ []
fresh_yes symbols k t = fresh_more symbols k ∙ ap (λ (b : Bool). fresh_constants k symbols ++ map fresh_constant (cond b (k ∷ []) [])) t

pub fresh_no : (symbols : List Symbol) (k : ℕ) → is_bare symbols k ≡ false → fresh_constants (k + 1) symbols ≡ fresh_constants k symbols
fresh_no symbols k f = fresh_more symbols k ∙ (ap (λ (b : Bool). fresh_constants k symbols ++ map fresh_constant (cond b (k ∷ []) [])) f ∙ append-nil (fresh_constants k symbols))
