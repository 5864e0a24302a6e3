-- The variables of ground atoms while they are numbered.
use Rattle.std.specs.Prelude.{◌≡◌, ◌<◌, ◌+◌, ◌*◌, ℕ, List, [], ◌∷◌, ◌++◌, length, Option, Some, None, slice_get}
use Rattle.sw_logic.specs.declared.syntax.Signature.{Signature}
use Rattle.sw_logic.specs.Truth.{args_of, place_from}
use Rattle.sw_refute.specs.declared.clauses.Lit.{Lit}
use Rattle.sw_truth.specs.declared.sets.SkolemSet.{SkolemSet}
use Rattle.sw_universe.specs.declared.universe.Universe.{Universe}
use Rattle.sw_truth.specs.declared.instances.Atom.{Atom}
use Rattle.sw_truth.specs.declared.instances.Atom.TheVariants.{Holds, Equal, Inner}
use Rattle.sw_ground.specs.declared.table.Table.{Table}
use Rattle.sw_universe.specs.ByNumber.{counts}
use Rattle.sw_instances.specs.Named.{Name, Literal}
use Rattle.sw_instances.specs.Numbered.{Beside, InOrder, IsLiteral, StandsFor}
use Rattle.sw_ground.specs.Table.{variable_at, Puts}

-- a ground atom's group and the place of its terms
pub record Spot : Type 0 where
  pub group : ℕ
  pub place : ℕ

abbrev pub related_spot : Signature → List ℕ → ℕ → List ℕ → Spot
related_spot sig sizes symbol ns = record { group = symbol; place = place_from sizes 0 (args_of sig symbol) ns }

abbrev pub equated_spot : Signature → List ℕ → ℕ → ℕ → ℕ → Spot
equated_spot sig sizes sort t v = record { group = length sig.symbols + sort; place = place_from sizes 0 (sort ∷ sort ∷ []) (t ∷ v ∷ []) }

abbrev pub spot_of : Signature → List ℕ → Atom → Option Spot
spot_of sig sizes (Holds symbol ns) = Some (related_spot sig sizes symbol ns)
spot_of sig sizes (Equal sort t v) = Some (equated_spot sig sizes sort t v)
spot_of sig sizes Inner = None

-- the atoms stand for the names, and the table has the variable of each ground atom and no other
pub record IsNumbering (set : SkolemSet) (u : Universe) (table : Table) (atoms : List Atom) (names : List Name) : Type 0 where
  pub stand : Beside (StandsFor set u) atoms names
  pub symbols : (v : ℕ) (symbol : ℕ) (ns : List ℕ) → slice_get atoms v ≡ Some (Holds symbol ns) → symbol < length set.signature.symbols
  pub found : (s : Spot) (v : ℕ) → variable_at table s.group s.place ≡ Some v → (a : Atom) × (slice_get atoms v ≡ Some a) × (spot_of set.signature (counts u) a ≡ Some s)
  pub held : (s : Spot) (v : ℕ) (a : Atom) → slice_get atoms v ≡ Some a → spot_of set.signature (counts u) a ≡ Some s → variable_at table s.group s.place ≡ Some v

-- what looking an atom up at a spot comes to: the variable that stands there, or a new one
pub data Looked (table : Table) (atoms : List Atom) (group place : ℕ) (atom : Atom) (after : Table) (more : List Atom) (lit : Lit) : Type 0 where
  old : (v : ℕ) → variable_at table group place ≡ Some v → after ≡ table → more ≡ atoms → lit.0 ≡ 2 * v → Looked table atoms group place atom after more lit
  new : variable_at table group place ≡ None → Puts table group place (length atoms) after → more ≡ atoms ++ atom ∷ [] → lit.0 ≡ 2 * length atoms → Looked table atoms group place atom after more lit

-- the names after one more occurrence, whose literal is this one
pub record Numbers (set : SkolemSet) (u : Universe) (table : Table) (atoms : List Atom) (names : List Name) (l : Literal) (lit : Lit) : Type 0 where
  pub after : List Name
  pub order : InOrder names (l.name ∷ []) after
  pub numbering : IsNumbering set u table atoms after
  pub literal : IsLiteral after l lit
