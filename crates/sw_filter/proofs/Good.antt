-- What the counterexamples among filters show, and that they stay counterexamples as the list grows.
use Rattle.std.specs.Prelude.{◌≡◌, ℕ, List, ◌++◌}
use Rattle.sw_logic.specs.declared.syntax.Formula.{Formula}
use Rattle.sw_logic.specs.declared.structure.Pair.{Pair}
use Rattle.sw_meaning.specs.declared.protocol.Protocol.{Protocol}
use Rattle.sw_meaning.specs.Runs.{Step}
use Rattle.sw_meaning.specs.Inductive.{Inductive}
use Rattle.sw_meaning.specs.Verdict.{Joins}
use Rattle.sw_lists.proofs.Each.{each-front, of_contained}
use Rattle.sw_lists.proofs.Members.{get_contains}
use Rattle.sw_logic.specs.Truth.{IsTrueIn}
use Rattle.sw_filter.specs.declared.filter.Filter.{Filter}
use Rattle.sw_filter.specs.declared.filter.Filter.TheVariants as filter
use Rattle.sw_filter.specs.declared.filter.Mode.{Mode}
use Rattle.sw_filter.specs.declared.filter.Mode.TheVariants.{Breadth, Finish}
use Rattle.sw_filter.specs.Filters.{IsStepBy, IsLive}
use Rattle.sw_filter.specs.Good.{Breaks, IsCounterexample, Good}
use Rattle.sw_filter.specs.Laws.{GoodStays, GoodIsNotMissed, GoodDoesNotJoin}

-- a step of a transition is a step
pub step_of : (p : Protocol) (number : ℕ) (arguments : List ℕ) (pair : Pair) → IsStepBy p number arguments pair → Step p pair.before pair.after
step_of p number arguments pair h = record {
  fits = h.fits;
  axioms = h.axioms;
  transition = h.transition;
  among = get_contains p.transitions number h.transition h.numbered;
  arguments = arguments;
  fires = h.fires;
}

-- a live counterexample stays one
counters_on : (p : Protocol) (mode : Mode) (g h : List Formula) (f : Formula) (x : Filter) → IsCounterexample p mode g f x → IsLive p mode h x → IsCounterexample p mode h f x
counters_on p mode g h f (filter.Start s) c l = c
counters_on p mode g h f (filter.Move pair n a u) c l = record { step = c.step; before = l; formula = c.formula; after = c.after }
counters_on p Breadth g h f (filter.Bad pair n a u) c l = absurd l
counters_on p Finish g h f (filter.Bad pair n a u) c l = record { step = c.step; before = l; formula = c.formula; after = c.after }

pub good_stays : GoodStays
good_stays p mode g more f filters (Good.refuted x among c) live =
    Good.refuted x among (counters_on p mode g (g ++ more) f x c (of_contained (IsLive p mode (g ++ more)) filters x live among))
good_stays p mode g more f filters (Good.follows e k) live =
    Good.follows e (λ s fit ax a. k s fit ax (each-front (IsTrueIn p.signature s) g more a))

breaks_not : (p : Protocol) (g : List Formula) (f : Formula) (n : ℕ) (a : List ℕ) (pair : Pair) → Breaks p Breadth g f n a pair → Inductive p g f → ⊥
breaks_not p g f n a pair b i = b.after (i.kept pair.before pair.after (step_of p n a pair b.step) b.before b.formula)

counters_not : (p : Protocol) (g : List Formula) (f : Formula) (x : Filter) → IsCounterexample p Breadth g f x → Inductive p g f → ⊥
counters_not p g f (filter.Start s) c i = c.1 (i.start s c.0)
counters_not p g f (filter.Move pair n a u) c i = breaks_not p g f n a pair c i
counters_not p g f (filter.Bad pair n a u) c i = breaks_not p g f n a pair c i

pub good_is_not_missed : GoodIsNotMissed
good_is_not_missed p g f filters (Good.refuted x among c) i = absurd (counters_not p g f x c i)
good_is_not_missed p g f filters (Good.follows e k) i = k

breaks_join : (p : Protocol) (g : List Formula) (f : Formula) (n : ℕ) (a : List ℕ) (pair : Pair) → Breaks p Finish g f n a pair → Joins p g f → ⊥
breaks_join p g f n a pair b j =
    let step : Step p pair.before pair.after = step_of p n a pair b.step in
    b.after (j.kept pair.before pair.after step b.before.0 b.before.1 b.formula, j.safe pair.before pair.after step b.before.0 b.before.1 b.formula)

counters_join : (p : Protocol) (g : List Formula) (f : Formula) (x : Filter) → IsCounterexample p Finish g f x → Joins p g f → ⊥
counters_join p g f (filter.Start s) c j = c.1 (j.start s c.0)
counters_join p g f (filter.Move pair n a u) c j = breaks_join p g f n a pair c j
counters_join p g f (filter.Bad pair n a u) c j = breaks_join p g f n a pair c j

other_mode : Finish ≡ Breadth → ⊥
other_mode e = cc

pub good_does_not_join : GoodDoesNotJoin
good_does_not_join p g f filters (Good.refuted x among c) j = counters_join p g f x c j
good_does_not_join p g f filters (Good.follows e k) j = other_mode e
