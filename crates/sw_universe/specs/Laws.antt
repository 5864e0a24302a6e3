-- Laws of ground terms, each the contract of a function of the crate.
use Rattle.std.specs.Prelude.{◌≡◌, ℕ, ◌<◌, true, false, List, [], length, Contains, Some, slice_get}
use Rattle.std.specs.List.{AllZip}
use Rattle.sw_logic.specs.declared.syntax.SymbolKind.TheVariants.{Function}
use Rattle.sw_logic.specs.declared.syntax.Symbol.{Symbol}
use Rattle.sw_logic.specs.declared.syntax.Signature.{Signature}
use Rattle.sw_logic.specs.declared.syntax.Term.{Term}
use Rattle.sw_logic.specs.declared.syntax.Term.TheVariants.{Apply}
use Rattle.sw_logic.specs.declared.structure.Structure.{Structure}
use Rattle.sw_logic.specs.Truth.{world, size_of, value_of}
use Rattle.sw_logic.specs.Sorted.{sort_of}
use Rattle.sw_logic.specs.Fits.{fits}
use Rattle.sw_truth.specs.Models.{is_bare}
use Rattle.sw_logic.specs.Signatures.{is_signature}
use Rattle.sw_logic.specs.Strata.{IsStratified}
use Rattle.sw_universe.specs.GroundTerms.{terms_of}

-- the value of a term of a sort is below the sort's size
abbrev pub ValuesAreInRange : Type 0
ValuesAreInRange = (sig : Signature) (s : Structure) (t : Term) (sort : ℕ) → fits sig s ≡ true → sort_of sig false [] t ≡ Some sort → value_of (world sig s s) [] t < size_of s.sizes sort

-- the terms listed for a sort have the sort
abbrev pub UniverseIsSorted : Type 0
UniverseIsSorted = (sig : Signature) (sort : ℕ) (t : Term) → is_signature sig ≡ true → Contains (terms_of sig sort) t → sort_of sig false [] t ≡ Some sort

-- where some symbol gives each sort, each sort has a ground term
abbrev pub UniverseIsInhabited : Type 0
UniverseIsInhabited = (sig : Signature) (sort : ℕ) → is_signature sig ≡ true → IsStratified sig → ((other : ℕ) → other < length sig.sorts → is_bare sig.symbols other ≡ false)
    → sort < length sig.sorts → 0 < length (terms_of sig sort)

-- where the signature is stratified, applications to listed terms are listed
abbrev pub UniverseIsClosed : Type 0
UniverseIsClosed = (sig : Signature) (number : ℕ) (symbol : Symbol) (args : List Term) → is_signature sig ≡ true → IsStratified sig → slice_get sig.symbols number ≡ Some symbol → symbol.kind ≡ Function
    → AllZip (λ sort t. Contains (terms_of sig sort) t) symbol.args args → Contains (terms_of sig symbol.gives) (Apply number false args)
