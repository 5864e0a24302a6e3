-- The shares of workers together, and the record of the round that they make.
use Rattle.std.specs.Prelude.{◌≡◌, ℕ, List, [], ◌∷◌}
use Rattle.std.specs.List.{flat_map}
use Rattle.sw_filter.specs.declared.filter.Filter.{Filter}
use Rattle.sw_core.specs.declared.record.Record.{Record}
use Rattle.sw_core.specs.declared.record.Round.{Round}
use Rattle.sw_hand.specs.declared.hand.Handed.{Handed}
use Rattle.sw_gather.specs.Gathers.{IsRoundOf}

-- the parts that the workers drew, one after the other
abbrev pub all_drawn : List Handed → List ℕ
all_drawn hs = flat_map (λ (h : Handed). h.drawn) hs

-- the record of one round of these shares, in which nothing is appended to a list of this length
pub record IsOneRound (log : ℕ) (hs : List Handed) (r : Record) : Type 0 where
  pub all : List Filter
  pub round : Round
  pub is : r ≡ record { entries = []; rounds = round ∷ [] }
  pub gathered : IsRoundOf [] log hs all round
