-- The core machine: its state, when each step may be taken, and what it does.
use Rattle.std.specs.Prelude.{◌≡◌, ℕ, zero, suc, ◌+◌, ◌<◌, ◌≤◌, Bool, true, not, ◌==◌, List, [], ◌∷◌, ◌++◌, map, length, take, replicate, Some, None, if◌then◌else◌, slice_get, slice_index}
use Rattle.std.specs.List.{AllByRecursion, list_any, filter, filter_map}
use Rattle.sw_logic.specs.declared.syntax.Formula.{Formula}
use Rattle.sw_meaning.specs.declared.protocol.Protocol.{Protocol}
use Rattle.sw_meaning.specs.declared.template.Template.{Template}
use Rattle.sw_meaning.specs.Classes.{parts, formula_of}
use Rattle.sw_filter.specs.declared.filter.Filter.{Filter}
use Rattle.sw_filter.specs.declared.filter.Mode.{Mode}
use Rattle.sw_filter.specs.Filters.{IsLive}
pub use Rattle.sw_core.specs.declared.part.Part.{Part}
use Rattle.sw_core.specs.declared.record.Settled.{Settled}
use Rattle.sw_core.specs.declared.steps.Step.{Step}
use Rattle.sw_core.specs.declared.steps.Step.TheVariants.{Begin, Draw, Look, Append, Publish, Settle, Stop, Close}
use Rattle.sw_core.specs.declared.steps.End.{End}
use Rattle.sw_core.specs.declared.steps.End.TheVariants.{Running, Stopped, Closed}

-- what is searched: the classes of a template over a protocol, in a mode, by so many workers
pub record Search : Type 0 where
  pub protocol : Protocol
  pub template : Template
  pub mode : Mode
  pub workers : ℕ

-- the formula of a class
abbrev pub formula_in : Search → List ℕ → Formula
formula_in m class = formula_of m.protocol.signature m.template class

-- the parts of the classes
abbrev pub parts_in : Search → List (List (List ℕ))
parts_in m = parts m.protocol.signature m.template

-- the machine's state: the log, the filters, how many parts are drawn in this round, the parts, what length of the log each worker has seen, and whether it has ended
pub record Board : Type 0 where
  pub log : List Formula
  pub filters : List Filter
  pub drawn : ℕ
  pub parts : List Part
  pub seen : List ℕ
  pub end : End

-- at first: nothing is drawn, held, settled or seen, and there are no filters
abbrev pub start : Search → List Formula → Board
start m opening = record {
  log = opening;
  filters = [];
  drawn = 0;
  parts = map (λ _. record { holders = []; last = None }) (parts_in m);
  seen = replicate m.workers 0;
  end = Running;
}

-- the list with the element at a place changed
abbrev pub changed : {X : Type 0} → ℕ → (X → X) → List X → List X
changed k f [] = []
changed zero f (x ∷ xs) = f x ∷ xs
changed (suc k) f (x ∷ xs) = x ∷ changed k f xs

-- whether the worker is one of these
abbrev pub is_among : ℕ → List ℕ → Bool
is_among w ws = list_any (λ v. v == w) ws

-- the part is in the worker's hand
abbrev pub Holds : List Part → ℕ → ℕ → Type 0
Holds ps part w = (held : Part) × (slice_get ps part ≡ Some held) × (is_among w held.holders ≡ true)

-- the filters at these places
abbrev pub filters_at : List Filter → List ℕ → List Filter
filters_at filters by = filter_map (slice_get filters) by

-- each of the numbers is below n
abbrev pub AreBelow : ℕ → List ℕ → Type 0
AreBelow n ks = AllByRecursion (λ k. k < n) ks

-- a part that is in no hand, and whose last settlement's filters are all live under the list
pub record IsDone (m : Search) (log : List Formula) (filters : List Filter) (part : Part) : Type 0 where
  pub free : part.holders ≡ []
  pub settled : Settled
  pub last : part.last ≡ Some settled
  pub live : AllByRecursion (IsLive m.protocol m.mode log) (filters_at filters settled.by)

-- a worker's number is one of the machine's
abbrev pub IsWorkers : Search → Step → Type 0
IsWorkers m Begin = Unit {0}
IsWorkers m (Draw w) = w < m.workers
IsWorkers m (Look w) = w < m.workers
IsWorkers m (Append w body) = w < m.workers
IsWorkers m (Publish w kept) = w < m.workers
IsWorkers m (Settle w settled) = w < m.workers
IsWorkers m (Stop w reason) = w < m.workers
IsWorkers m Close = Unit {0}

-- the condition of each step
abbrev pub May : Search → Board → Step → Type 0
May m s Begin = Unit {0}
May m s (Draw w) = s.drawn < length s.parts
May m s (Look w) = Unit {0}
May m s (Append w body) = slice_index s.seen w ≡ length s.log
May m s (Publish w kept) = (kept.under ≤ length s.log) × IsLive m.protocol m.mode (take kept.under s.log) kept.filter
May m s (Settle w settled) = Holds s.parts settled.part w × (settled.under ≤ slice_index s.seen w) × AreBelow (length s.filters) settled.by
May m s (Stop w reason) = Unit {0}
May m s Close = AllByRecursion (IsDone m s.log s.filters) s.parts

-- a hand with one part more, which it holds once
abbrev pub taken : ℕ → Part → Part
taken w part = record part { holders = if is_among w part.holders then part.holders else part.holders ++ w ∷ [] }

-- out of the hand, with this as the last settlement
abbrev pub settled_by : ℕ → Settled → Part → Part
settled_by w settled part = record { holders = filter (λ v. not (v == w)) part.holders; last = Some settled }

-- what each step does
abbrev pub after : Search → Board → Step → Board
after m s Begin = record s { drawn = 0 }
after m s (Draw w) = record s { drawn = s.drawn + 1; parts = changed s.drawn (taken w) s.parts }
after m s (Look w) = record s { seen = changed w (λ _. length s.log) s.seen }
after m s (Append w body) = record s { log = s.log ++ formula_in m body.cubes ∷ []; seen = changed w (λ _. length s.log + 1) s.seen }
after m s (Publish w kept) = record s { filters = s.filters ++ kept.filter ∷ [] }
after m s (Settle w settled) = record s { parts = changed settled.part (settled_by w settled) s.parts }
after m s (Stop w reason) = record s { end = Stopped }
after m s Close = record s { end = Closed }

-- the step may be taken: the machine has not ended, and the condition holds
pub record Accepts (m : Search) (s : Board) (x : Step) : Type 0 where
  pub running : s.end ≡ Running
  pub worker : IsWorkers m x
  pub may : May m s x

-- the state after a list of steps
abbrev pub run : Search → Board → List Step → Board
run m s [] = s
run m s (x ∷ xs) = run m (after m s x) xs

-- each step may be taken after those before it
abbrev pub AreAccepted : Search → Board → List Step → Type 0
AreAccepted m s [] = Unit {0}
AreAccepted m s (x ∷ xs) = Accepts m s x × AreAccepted m (after m s x) xs
