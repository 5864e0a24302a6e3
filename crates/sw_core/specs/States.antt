-- What clauses see of a state: what is searched, the machine's state, and the room that was made for the next step.
use Rattle.std.specs.Prelude.{◌≡◌, ℕ, ◌+◌, ◌<◌, ◌≤◌, ◌^◌, nat_le, Bool, true, List, length, Some, slice_get, Option, None}
use Rattle.std.specs.List.{list_all}
use Rattle.sw_logic.specs.declared.syntax.Formula.{Formula}
use Rattle.sw_logic.specs.Truth.{binds}
use Rattle.sw_core.specs.declared.part.Made.{Made}
use Rattle.sw_core.specs.declared.part.Made.TheVariants as made
use Rattle.sw_core.specs.declared.steps.Step.{Step}
use Rattle.sw_core.specs.declared.steps.Step.TheVariants.{Begin, Draw, Look, Append, Publish, Settle, Stop, Close}
use Rattle.sw_meaning.specs.declared.protocol.Protocol.{Protocol}
use Rattle.sw_meaning.specs.declared.template.Template.{Template}
use Rattle.sw_filter.specs.declared.filter.Mode.{Mode}
use Rattle.sw_core.specs.Machine.{Search, Board, formula_in, taken, settled_by}
use Rattle.sw_core.specs.declared.part.Part.{Part}

pub record Machine : Type 0 where
  pub search : Search
  pub board : Board
  pub log_room : ℕ
  pub filter_room : ℕ
  pub made : Made

-- the holders that a step leaves a part are made, if there is such a part
abbrev pub HasHolders : Machine → Option Part → (Part → Part) → Type 0
HasHolders v None change = Unit {0}
HasHolders v (Some part) change = v.made ≡ made.Holders ((change part).holders)

-- there is room for the step: an entry's formula or the holders are made, and a list can take one more, whose length has 32 bits
abbrev pub HasRoom : Machine → Step → Type 0
HasRoom v Begin = Unit {0}
HasRoom v (Draw w) = HasHolders v (slice_get v.board.parts v.board.drawn) (taken w)
HasRoom v (Look w) = Unit {0}
HasRoom v (Append w body) = (v.made ≡ made.Entry (formula_in v.search body.cubes)) × (1 ≤ v.log_room) × (length v.board.log + 1 < 2 ^ 32)
HasRoom v (Publish w kept) = (1 ≤ v.filter_room) × (length v.board.filters + 1 < 2 ^ 32)
HasRoom v (Settle w settled) = HasHolders v (slice_get v.board.parts settled.part) (settled_by w settled)
HasRoom v (Stop w reason) = Unit {0}
HasRoom v Close = Unit {0}

-- the search over this protocol and this space
abbrev pub search_of : Protocol → Template → Mode → ℕ → Search
search_of p t mode workers = record { protocol = p; template = t; mode = mode; workers = workers }

abbrev pub IsOf : Protocol → Template → Mode → ℕ → Search → Type 0
IsOf p t mode workers m = m ≡ search_of p t mode workers

-- whether at most 32 variables are in scope in each formula, and in what was made
abbrev pub are_narrow : List Formula → Bool
are_narrow fs = list_all (λ f. nat_le (binds f) 32) fs

abbrev pub is_made_narrow : Made → Bool
is_made_narrow made.Nothing = true
is_made_narrow (made.Entry f) = nat_le (binds f) 32
is_made_narrow (made.Holders ws) = true
