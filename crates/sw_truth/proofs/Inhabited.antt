-- Sorts that there are have elements.
use Rattle.std.specs.Prelude.{◌≡◌, ℕ, ◌<◌, true, ◌==◌, nat_lt, List, [], ◌∷◌, length, unwrap_or, get_or}
use Rattle.std.specs.List.{list_all, AllByRecursion}
use Rattle.std.proofs.Common.{arith, sym, subst}
use Rattle.std.proofs.lemmas.Bool.{and_parts}
use Rattle.std.proofs.lemmas.Bool.Decides.{nat_tests}
use Rattle.std.proofs.lemmas.Option.{slice_get-get_or}
use Rattle.sw_logic.specs.declared.syntax.Binder.{Binder}
use Rattle.sw_logic.specs.Truth.{size_of}
use Rattle.sw_logic.specs.Sorted.{are_sorts}
use Rattle.sw_truth.proofs.Growing.{Stage}
use Rattle.std.proofs.lemmas.Bool.{ltb-true, eqb-true}
use Rattle.sw_lists.proofs.Tests.{true_at}

abbrev pub AreSized : List ℕ → List Binder → Type 0
AreSized sizes bs = AllByRecursion (λ (b : Binder). 0 < size_of sizes b.sort) bs

pub size_is : (sizes : List ℕ) (sort : ℕ) → sort < length sizes → list_all (λ n. nat_lt 0 n) sizes ≡ true → 0 < size_of sizes sort
size_is sizes sort h e =
    let got = slice_get-get_or sizes sort 0 h in
    let pos = ltb-true 0 (get_or sizes sort 0) (true_at (λ n. nat_lt 0 n) sizes sort (get_or sizes sort 0) e got) in
    subst (λ o. 0 < unwrap_or o 0) (sym got) pos

pub stage_size : (a : Stage) (sort : ℕ) → sort < length a.signature.sorts → 0 < size_of a.structure.sizes sort
stage_size a sort h =
    let parts = and_parts _ _ a.fits in
    let count = eqb-true (length a.structure.sizes) (length a.signature.sorts) parts.0 in
    size_is a.structure.sizes sort (omega arith) (and_parts _ _ parts.1).0

pub sized : (a : Stage) (bs : List Binder) → are_sorts a.signature bs ≡ true → AreSized a.structure.sizes bs
sized a [] e = tt
sized a (b ∷ bs) e =
    let parts = and_parts (nat_lt b.sort (length a.signature.sorts)) (are_sorts a.signature bs) e in
    (stage_size a b.sort (ltb-true b.sort (length a.signature.sorts) parts.0), sized a bs parts.1)

-- the new terms have the sorts of the binders
abbrev pub AreBelow : ℕ → List ℕ → Type 0
AreBelow n us = AllByRecursion (λ u. u < n) us
