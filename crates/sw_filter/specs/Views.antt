-- What the marks of a view say, and which of its filters sifts.
use Rattle.std.specs.Prelude.{◌≡◌, ℕ, ◌<◌, Bool, List, length, map, Option, Some, None, slice_get}
use Rattle.std.specs.List.{AllByRecursion}
use Rattle.sw_logic.specs.declared.syntax.Formula.{Formula}
use Rattle.sw_meaning.specs.declared.protocol.Protocol.{Protocol}
use Rattle.sw_filter.specs.declared.filter.Filter.{Filter}
use Rattle.sw_filter.specs.declared.filter.Mode.{Mode}
use Rattle.sw_filter.specs.declared.view.Mark.{Mark}
use Rattle.sw_filter.specs.declared.view.Mark.TheVariants as mark
use Rattle.sw_filter.specs.declared.view.Shown.{Shown}
use Rattle.sw_filter.specs.Filters.{IsAdmitted, IsLive, Refutes}

-- each filter, and whether it is the worker's own
abbrev pub known_of : List Shown → List (Filter × Bool)
known_of shown = map (λ e. (e.filter.now, e.own)) shown

abbrev pub AreAdmitted : Protocol → List Shown → Type 0
AreAdmitted p shown = AllByRecursion (λ e. IsAdmitted p e.filter.now) shown

-- a filter that was just added
pub record IsNew (x : Filter) (own : Bool) (e : Shown) : Type 0 where
  pub filter : e.filter.now ≡ x
  pub owned : e.own ≡ own
  pub mark : e.mark ≡ mark.New

-- the mark tells whether the filter is live under the list; a new one tells nothing
abbrev pub Tells : Protocol → Mode → List Formula → Filter → Mark → Type 0
Tells p mode g x mark.New = Unit {0}
Tells p mode g x mark.Live = IsLive p mode g x
Tells p mode g x mark.Dead = IsLive p mode g x → ⊥

abbrev pub AreTold : Protocol → Mode → List Formula → List Shown → Type 0
AreTold p mode g shown = AllByRecursion (λ e. Tells p mode g e.filter.now e.mark) shown

-- the mark is live exactly where the filter is, and otherwise dead
abbrev pub IsMarked : Protocol → Mode → List Formula → Filter → Mark → Type 0
IsMarked p mode g x mark.New = ⊥
IsMarked p mode g x mark.Live = IsLive p mode g x
IsMarked p mode g x mark.Dead = IsLive p mode g x → ⊥

abbrev pub AreMarked : Protocol → Mode → List Formula → List Shown → Type 0
AreMarked p mode g shown = AllByRecursion (λ e. IsMarked p mode g e.filter.now e.mark) shown

-- a filter marked live that refutes the formula
pub record Rejects (p : Protocol) (f : Formula) (e : Shown) : Type 0 where
  pub live : e.mark ≡ mark.Live
  pub refutes : Refutes p e.filter.now f

-- none of the first filters does
abbrev pub NoneRejects : Protocol → Formula → List Shown → ℕ → Type 0
NoneRejects p f shown n = (place : ℕ) (e : Shown) → place < n → slice_get shown place ≡ Some e → Rejects p f e → ⊥

-- the place of the first that does, if any does
abbrev pub FirstRejects : Protocol → Formula → List Shown → Option ℕ → Type 0
FirstRejects p f shown (Some n) = ((e : Shown) × (slice_get shown n ≡ Some e) × Rejects p f e) × NoneRejects p f shown n
FirstRejects p f shown None = NoneRejects p f shown (length shown)
