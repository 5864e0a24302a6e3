-- What a source or a sink in memory does at its next turn.
use Rattle.std.specs.Prelude.{◌-◌, ◌^◌, ℕ, List, max, min, Option, Some, None, if◌then◌else◌, ◌==◌}
use Rattle.sw_edge.specs.declared.memory.Turn.{Turn}
use Rattle.sw_edge.specs.declared.memory.Turn.TheVariants.{Take, Fail}
use Rattle.sw_edge.specs.declared.edge.Got.{Got}
use Rattle.sw_edge.specs.declared.edge.Got.TheVariants as got
use Rattle.sw_edge.specs.declared.edge.Put.{Put}
use Rattle.sw_edge.specs.declared.edge.Put.TheVariants as put

-- a source in memory: the bytes that it has left, its turns to come and its faults so far
pub record Supply : Type 0 where
  pub left : List ℕ
  pub turns : List Turn
  pub faults : ℕ

-- a sink in memory: the bytes that it holds, the most that it can hold, its turns and its faults
pub record Store : Type 0 where
  pub held : List ℕ
  pub room : ℕ
  pub turns : List Turn
  pub faults : ℕ

-- the most bytes that a turn moves, or none for a fault; after the last turn, all that there can be
abbrev pub most_of : Option Turn → Option ℕ
most_of None = Some (2 ^ 64 - 1)
most_of (Some (Take n)) = Some (max n 1)
most_of (Some Fail) = None

-- the answer of a source with so many bytes left, to a buffer of this length
abbrev pub got_of : Option ℕ → ℕ → ℕ → Got
got_of None size left = got.Failed
got_of (Some most) size left = let n = min (min most size) left in if n == 0 then got.End else got.Bytes n

-- the answer of a sink with so much free room, to a piece of this length
abbrev pub put_of : Option ℕ → ℕ → ℕ → Put
put_of None size free = put.Failed
put_of (Some most) size free = let n = min (min most size) free in if n == 0 then put.Failed else put.Bytes n
