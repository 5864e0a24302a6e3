-- What the functions of the machine answer.
use Rattle.std.specs.Prelude.{◌≡◌, ◌⊎◌, ◌<◌, ◌≤◌, ℕ, List, Option, Some, None}
use Rattle.sw_trees.specs.declared.limits.TheConstants.{NESTINGS}
use Rattle.sw_trees.specs.Grammar.{Loads}
use Rattle.sw_trees.specs.Limits.{IsWithin}
use Rattle.sw_protocol.specs.declared.tree.Declaration.{Declaration}
use Rattle.sw_protocol.specs.declared.phases.Phase.{Phase}
use Rattle.sw_protocol.specs.declared.phases.Move.{Move}
use Rattle.sw_protocol.specs.declared.machine.Walk.{Walk}
use Rattle.sw_protocol.specs.declared.parsing.Parsed.{Parsed}
use Rattle.sw_protocol.specs.Machine.{alone_of, nests, ended, finish_by, Next}

-- what comes next; or nothing, and the formula that ends here has so many nestings
abbrev pub Walks : Option Phase → ℕ → Walk → Type 0
Walks next n (Walk.Taken p) = next ≡ Some p
Walks next n (Walk.Refused x) = (next ≡ None) × (alone_of x ≡ n)

-- what a semicolon ends, whose formula has so many nestings
abbrev pub EndsBy : Option Declaration → ℕ → Move → Type 0
EndsBy whole n (Move.Taken p) = ⊥
EndsBy whole n (Move.Whole d) = (whole ≡ Some d) × (n ≤ NESTINGS)
EndsBy whole n Move.Past = ((d : Declaration) × (whole ≡ Some d)) × (NESTINGS < n)
EndsBy whole n Move.Refused = (whole ≡ None) × (n ≤ NESTINGS)

-- what a word does within the limits; or past them; or nothing
abbrev pub Answers : Option Next → ℕ → Move → Type 0
Answers next n (Move.Taken p) = (l : Loads) × (next ≡ Some (record { whole = None; phase = p; loads = l })) × IsWithin l
Answers next n (Move.Whole d) = (l : Loads) × (next ≡ Some (record { whole = Some d; phase = Phase.Begin; loads = l })) × IsWithin l
Answers next n Move.Past = ((x : Next) × (next ≡ Some x) × (IsWithin x.loads → ⊥)) ⊎ ((next ≡ None) × (NESTINGS < n))
Answers next n Move.Refused = (next ≡ None) × (n ≤ NESTINGS)

-- what is answered where the words end within a declaration, by what a semicolon would do there
abbrev pub unfinished : Move → ℕ → Parsed
unfinished Move.Past count = Parsed.TooDeep count
unfinished _ count = Parsed.Syntax count

-- what is answered where the words end
abbrev pub Finishes : List Declaration → Phase → ℕ → Parsed → Type 0
Finishes ds p count (Parsed.Whole es) = finish_by p ds ≡ Some es
Finishes ds p count (Parsed.Syntax n) = (n ≡ count) × (finish_by p ds ≡ None) × (nests p ≤ NESTINGS)
Finishes ds p count (Parsed.TooDeep n) = (n ≡ count) × ((d : Declaration) × (ended p ≡ Some d)) × (NESTINGS < nests p)
