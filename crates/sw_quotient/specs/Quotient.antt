-- The quotient of the ground terms by their equality under a valuation.
use Rattle.std.specs.Prelude.{◌≡◌, ℕ, ◌<◌, ◌↔◌, true, false, List, Some, slice_get, IsTrue}
use Rattle.sw_logic.specs.declared.syntax.Symbol.{Symbol}
use Rattle.sw_logic.specs.declared.syntax.Signature.{Signature}
use Rattle.sw_logic.specs.declared.structure.Structure.{Structure}
use Rattle.sw_logic.specs.Truth.{size_of, place_from, value_in, bit_in}
use Rattle.sw_logic.specs.Fits.{fits}
use Rattle.sw_logic.specs.Sorted.{gives_value}
use Rattle.sw_truth.specs.Models.{AreOfSorts}
use Rattle.sw_quotient.specs.Terms.{Numbering, number}
use Rattle.sw_quotient.specs.Valuations.{Valuation}
use Rattle.sw_quotient.specs.Classes.{classes}

-- a structure whose elements are the classes of terms: equal terms have one class, and the tables are those of the terms
pub record IsQuotient (sig : Signature) (n : Numbering) (v : Valuation) (class : ℕ → ℕ → ℕ) (s : Structure) : Type 0 where
  pub fits : fits sig s ≡ true
  pub below : (sort t : ℕ) → t < size_of n.counts sort → class sort t < size_of s.sizes sort
  pub onto : (sort c : ℕ) → c < size_of s.sizes sort → (t : ℕ) × (t < size_of n.counts sort) × (class sort t ≡ c)
  pub equal : (sort t u : ℕ) → t < size_of n.counts sort → u < size_of n.counts sort → IsTrue (v.equal sort t u) ↔ (class sort t ≡ class sort u)
  pub values : (f : ℕ) (x : Symbol) (ts : List ℕ) → slice_get sig.symbols f ≡ Some x → gives_value x.kind ≡ true → AreOfSorts n.counts x.args ts
      → value_in (slice_get s.tables f) (place_from s.sizes 0 x.args (classes class x.args ts)) ≡ class x.gives (number sig n f ts)
  pub holds : (f : ℕ) (x : Symbol) (ts : List ℕ) → slice_get sig.symbols f ≡ Some x → gives_value x.kind ≡ false → AreOfSorts n.counts x.args ts
      → bit_in (slice_get s.tables f) (place_from s.sizes 0 x.args (classes class x.args ts)) ≡ v.holds f ts
