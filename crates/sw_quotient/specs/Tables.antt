-- The tables of the quotient, read off least terms.
use Rattle.std.specs.Prelude.{◌≡◌, ℕ, ◌+◌, ◌<◌, List, [], ◌∷◌, map, length, Some, unwrap_or, slice_get}
use Rattle.std.specs.List.{flat_map, range_with_len}
use Rattle.sw_logic.specs.declared.syntax.SymbolKind.{SymbolKind}
use Rattle.sw_logic.specs.declared.syntax.SymbolKind.TheVariants.{Relation, Constant, Function}
use Rattle.sw_logic.specs.declared.syntax.Symbol.{Symbol}
use Rattle.sw_logic.specs.declared.syntax.Signature.{Signature}
use Rattle.sw_logic.specs.declared.structure.Table.{Table}
use Rattle.sw_logic.specs.declared.structure.Table.TheVariants.{Bits, Value, Values}
use Rattle.sw_logic.specs.declared.structure.Structure.{Structure}
use Rattle.sw_logic.specs.Truth.{size_of}
use Rattle.sw_truth.specs.declared.sets.SkolemSet.{SkolemSet}
use Rattle.sw_universe.specs.declared.universe.Universe.{Universe}
use Rattle.sw_numbers.specs.Numbers.{IsIndexed}
use Rattle.sw_quotient.specs.Terms.{Numbering, numbering, number}
use Rattle.sw_quotient.specs.Valuations.{Valuation}
use Rattle.sw_quotient.specs.Classes.{leasts, class_of}

-- what is said of each tuple of listed terms, in lexicographic order
abbrev pub tabulate : {X : Type 0} → (ℕ → List ℕ) → List ℕ → (List ℕ → X) → List X
tabulate listed [] said = said [] ∷ []
tabulate listed (sort ∷ sorts) said = flat_map (λ t. tabulate listed sorts (λ ts. said (t ∷ ts))) (listed sort)

-- the least terms of a sort
abbrev pub listed : Numbering → Valuation → ℕ → List ℕ
listed n v sort = leasts v sort (size_of n.counts sort)

-- the table of a symbol at the listed terms
abbrev pub table_of : (ℕ → List ℕ) → Signature → Numbering → Valuation → ℕ → List ℕ → ℕ → SymbolKind → Table
table_of listed sig n v f args gives Relation = Bits (tabulate listed args (v.holds f))
table_of listed sig n v f args gives Constant = Value (class_of v n.counts gives (number sig n f []))
table_of listed sig n v f args gives Function = Values (tabulate listed args (λ ts. class_of v n.counts gives (number sig n f ts)))

-- the tables of symbols that are numbered from one on
abbrev pub tables_from : Signature → Numbering → Valuation → ℕ → List Symbol → List Table
tables_from sig n v f [] = []
tables_from sig n v f (x ∷ xs) = table_of (listed n v) sig n v f x.args x.gives x.kind ∷ tables_from sig n v (f + 1) xs

-- one element for each least term, and these tables
abbrev pub quotient_of : Signature → Numbering → Valuation → Structure
quotient_of sig n v = record {
  sizes = map (λ sort. length (listed n v sort)) (range_with_len 0 (length sig.sorts));
  tables = tables_from sig n v 0 sig.symbols;
}

-- the list of a sort, none where there is none
abbrev pub row : List (List ℕ) → ℕ → List ℕ
row lists sort = unwrap_or (slice_get lists sort) []

-- the lists are those of the least terms of each sort
abbrev pub AreLeasts : Valuation → List ℕ → List (List ℕ) → Type 0
AreLeasts v counts lists = (sort : ℕ) → row lists sort ≡ leasts v sort (size_of counts sort)

-- the structure of least terms, where some numbers are those of the first applications
pub record IsStructureOf (set : SkolemSet) (u : Universe) (v : Valuation) (s : Structure) : Type 0 where
  pub firsts : List ℕ
  pub indexed : IsIndexed set.signature u firsts
  pub is : s ≡ quotient_of set.signature (numbering u firsts) v
