-- What the seats of a search know, what the workers hand back, and what is known once they were joined.
use Rattle.std.specs.Prelude.{◌≡◌, ℕ, ◌+◌, ◌≤◌, ◌==◌, if◌then◌else◌, true, List, [], ◌∷◌, ◌++◌, length, Option, Some, IfOk, IfErr, slice_get, Result, Ok, Err}
use Rattle.std.specs.List.{AllByRecursion}
use Rattle.atomic_table.specs.Seated.{TableId}
use Rattle.sw_logic.specs.declared.syntax.Formula.{Formula}
use Rattle.sw_meaning.specs.declared.template.Template.{Template}
use Rattle.sw_template.specs.Bodies.{Class}
use Rattle.sw_filter.specs.declared.filter.Mode.TheVariants.{Finish}
use Rattle.sw_truth.specs.declared.instances.Refutation.{Refutation}
use Rattle.sw_join.specs.Joining.{IsJoined}
use Rattle.sw_claims.specs.declared.rule.ClaimView.{ClaimView}
use Rattle.sw_claims.specs.ClaimsRule.{fresh}
use Rattle.sw_claims.specs.Seats.{SeatValue}
use Rattle.sw_pool.specs.declared.pool.Pool.{Pool}
use Rattle.sw_core.specs.Machine.{Search, formula_in, parts_in}
use Rattle.sw_core.specs.Gathered.{IsShare, IsTimely, filters_of}
use Rattle.sw_walk.specs.Parts.{all_classes, IsClass}
use Rattle.sw_gather.specs.Gathers.{HasTokens}
use Rattle.sw_hand.specs.declared.hand.Handed.{Handed}
use Rattle.sw_hand.specs.Hands.{search_of, share_of}
use Rattle.sw_seek.specs.declared.errors.FinishError.{FinishError}
use Rattle.sw_seek.specs.declared.seeking.Sought.{Sought}
use Rattle.sw_seek.specs.declared.seeking.Sought.TheVariants as sought
use Rattle.sw_seek.specs.Seeking.{CanFinish, IsCause, IsFirstJoined, IsSought}
use Rattle.sw_finish.specs.declared.finding.Finder.{Finder}
use Rattle.sw_finish.specs.declared.joining.Joined.{Joined}
use Rattle.sw_finish.specs.declared.joining.Joined.TheVariants as joined
use Rattle.sw_finish.specs.declared.joining.Report.{Report}
use Rattle.sw_finish.specs.Shares.{all_drawn}

-- what is searched
abbrev pub searched : {G S : Type 0} → (S → Template) → Finder G S → Search
searched template f = search_of f.task.now.protocol.now (template f.task.now.space.now) f.task.now.mode f.task.now.workers

-- the first worker's task in the finisher's mode, whose classes can be asked about under the entries
pub record CanFind {G S : Type 0} (template : S → Template) (lists : S → List (List (List ℕ))) (Has : S → Class → Type 0) (formula : S → Class → Formula) (f : Finder G S) : Type 0 where
  pub finish : f.task.now.mode ≡ Finish
  pub zero : f.task.now.worker ≡ 0
  pub some : 1 ≤ f.task.now.workers
  pub can : CanFinish f.task.now.protocol.now (template f.task.now.space.now) (lists f.task.now.space.now) (Has f.task.now.space.now)
      (formula f.task.now.space.now) f.entries.now f.budget

-- ---- seats

-- the seats besides the first one
abbrev pub others_of : ℕ → ℕ
others_of workers = if workers == 1 then 0 else workers

-- the first seat, with so many others out
pub record IsFirst (claims : TableId) (parts out : ℕ) (s : SeatValue) : Type 0 where
  pub object_is : s.object ≡ claims
  pub first : s.view.first ≡ true
  pub out_are : s.view.out ≡ out
  pub parts_are : s.view.parts ≡ parts

-- nothing was drawn, and no reason written
pub record IsUnused (c : ClaimView) : Type 0 where
  pub undrawn : c.drawn ≡ []
  pub silent : c.wrote ≡ 0

-- ---- what a worker reports

pub record IsReport (m : Search) (g : List Formula) (budget : Option ℕ) (pool : Pool) (claims : TableId) (worker : ℕ) (r : Report) : Type 0 where
  pub object_is : r.seat.object ≡ claims
  pub sought : IfOk r.answer (IsSought m pool worker g budget (fresh (length (parts_in m))) r.seat.view)
  pub cause : IfErr r.answer (IsCause m g budget)

-- the reports of the workers from this one on
abbrev pub AreReports : Search → List Formula → Option ℕ → Pool → TableId → ℕ → List Report → Type 0
AreReports m g budget pool claims worker [] = Unit {0}
AreReports m g budget pool claims worker (r ∷ rs) = IsReport m g budget pool claims worker r × AreReports m g budget pool claims (worker + 1) rs

-- ---- what was joined

-- a worker's share of a round that begins and ends under the entries, with a token of the pool for each filter
pub record IsShareUnder (m : Search) (pool : Pool) (g : List Formula) (worker : ℕ) (h : Handed) : Type 0 where
  pub share : IsShare m [] g worker (share_of h)
  pub timely : AllByRecursion (IsTimely m (length g) g (filters_of h.kept)) h.settled
  pub tokens : HasTokens pool h

-- so many workers handed back their shares, and none stopped
pub record AreWhole (m : Search) (pool : Pool) (g : List Formula) (done : ℕ) (c : ClaimView) (hs : List Handed) : Type 0 where
  pub count : length hs ≡ done
  pub drawn_are : c.drawn ≡ all_drawn hs
  pub ended : 1 ≤ done → 1 ≤ c.ends
  pub silent : c.wrote ≡ 0
  pub each : (i : ℕ) (h : Handed) → slice_get hs i ≡ Some h → IsShareUnder m pool g i h

-- some worker saw a reason, and none wrote one
pub record IsStopped (c : ClaimView) : Type 0 where
  pub seen : 1 ≤ c.seen
  pub silent : c.wrote ≡ 0

-- a class that joins, with what shows it
pub record IsFound (m : Search) (g : List Formula) (budget : Option ℕ) (body : Class) (r : Refutation) (rs : List Refutation) : Type 0 where
  pub class : IsClass (parts_in m) body
  pub joins : IsJoined m.protocol g (formula_in m body.cubes) budget r rs

-- what so many workers came to
abbrev pub AreJoined : Search → Pool → List Formula → Option ℕ → ℕ → ClaimView → Joined → Type 0
AreJoined m pool g budget done c (joined.Found body r rs) = IsFound m g budget body r rs
AreJoined m pool g budget done c (joined.Failed e) = IsCause m g budget e
AreJoined m pool g budget done c joined.Stopped = IsStopped c
AreJoined m pool g budget done c (joined.Whole hs) = AreWhole m pool g done c hs

-- what was joined, with one answer more
abbrev pub with_answer : Joined → Result Sought FinishError → Joined
with_answer (joined.Found body r rs) answer = joined.Found body r rs
with_answer (joined.Failed f) (Ok (sought.Joins body r rs)) = joined.Found body r rs
with_answer (joined.Failed f) (Ok (sought.Done h)) = joined.Failed f
with_answer (joined.Failed f) (Ok (sought.Stopped reason)) = joined.Failed f
with_answer (joined.Failed f) (Err e) = joined.Failed f
with_answer joined.Stopped (Ok (sought.Joins body r rs)) = joined.Found body r rs
with_answer joined.Stopped (Ok (sought.Done h)) = joined.Stopped
with_answer joined.Stopped (Ok (sought.Stopped reason)) = joined.Stopped
with_answer joined.Stopped (Err e) = joined.Failed e
with_answer (joined.Whole hs) (Ok (sought.Joins body r rs)) = joined.Found body r rs
with_answer (joined.Whole hs) (Ok (sought.Done h)) = joined.Whole (hs ++ h ∷ [])
with_answer (joined.Whole hs) (Ok (sought.Stopped reason)) = joined.Stopped
with_answer (joined.Whole hs) (Err e) = joined.Failed e

-- the first seat, once so many workers were joined and while others are out
pub record HaveJoined (m : Search) (pool : Pool) (g : List Formula) (budget : Option ℕ) (claims : TableId) (done out : ℕ) (s : SeatValue) (j : Joined) : Type 0 where
  pub seat : IsFirst claims (length (parts_in m)) out s
  pub answers : AreJoined m pool g budget done s.view j

-- a class that joins is the first one in order where one worker looks
abbrev pub IsFirstOfOne : Search → List Formula → Joined → Type 0
IsFirstOfOne m g (joined.Found body r rs) = m.workers ≡ 1 → IsFirstJoined m.protocol m.template g (all_classes (parts_in m)) body.cubes
IsFirstOfOne m g (joined.Failed e) = Unit {0}
IsFirstOfOne m g joined.Stopped = Unit {0}
IsFirstOfOne m g (joined.Whole hs) = Unit {0}

-- the first seat is the only one left, unless the search was decided before
abbrev pub IsLast : TableId → ℕ → SeatValue → Joined → Type 0
IsLast claims parts s (joined.Found body r rs) = Unit {0}
IsLast claims parts s (joined.Failed e) = Unit {0}
IsLast claims parts s joined.Stopped = IsFirst claims parts 0 s
IsLast claims parts s (joined.Whole hs) = IsFirst claims parts 0 s

-- what all workers came to
pub record IsOver (m : Search) (pool : Pool) (g : List Formula) (budget : Option ℕ) (claims : TableId) (s : SeatValue) (j : Joined) : Type 0 where
  pub answers : AreJoined m pool g budget m.workers s.view j
  pub in_order : IsFirstOfOne m g j
  pub last : IsLast claims (length (parts_in m)) s j
