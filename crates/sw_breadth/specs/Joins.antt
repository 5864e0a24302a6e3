-- What the seats of a round know, what the workers hand back, and what is known once they were joined.
use Rattle.std.specs.Prelude.{◌≡◌, ℕ, ◌+◌, ◌<◌, ◌≤◌, true, List, [], ◌∷◌, ◌++◌, map, length, take, Option, Some, IfOk, IfErr, IfSome, Contains, slice_get, Result, Ok, Err}
use Rattle.std.specs.List.{AllByRecursion, flat_map}
use mathlib.Core.List.{IsPrefix}
use Rattle.sw_logic.specs.declared.syntax.Formula.{Formula}
use Rattle.sw_filter.specs.declared.filter.Filter.{Filter}
use Rattle.sw_claims.specs.declared.rule.ClaimView.{ClaimView}
use Rattle.sw_claims.specs.ClaimsAnswers.{IsEachBelow}
use Rattle.sw_claims.specs.ClaimsRule.{fresh as fresh_claim}
use Rattle.sw_claims.specs.ClaimsSteps.{IsAlone}
use Rattle.sw_log.specs.declared.entry.Entry.{Entry}
use Rattle.sw_log.specs.declared.rule.LogView.{LogView}
use Rattle.sw_log.specs.LogRule.{fresh as fresh_log, HoldsEach, Placed}
use Rattle.sw_log.specs.LogSteps.{IsAlone as IsAloneAtLog}
use Rattle.sw_pool.specs.declared.pool.Pool.{Pool}
use Rattle.sw_core.specs.declared.record.Settled.{Settled}
use Rattle.sw_core.specs.Machine.{Search, formula_in, parts_in}
use Rattle.sw_core.specs.Founded.{Gains}
use Rattle.sw_core.specs.Gathered.{Share, IsShare, IsTimely, AreGained, filters_of, formulas_of, once_below}
use Rattle.sw_core.specs.Records.{times}
use Rattle.sw_walk.specs.Parts.{classes_of, IsClass}
use Rattle.sw_hand.specs.declared.hand.Handed.{Handed}
use Rattle.sw_gather.specs.Gathers.{HasTokens}
use Rattle.sw_hand.specs.Hands.{share_of}
use Rattle.sw_work.specs.declared.errors.BreadthError.{BreadthError}
use Rattle.sw_work.specs.declared.working.Worked.{Worked}
use Rattle.sw_work.specs.declared.working.Worked.TheVariants as worked
use Rattle.sw_work.specs.Works.{Gained, IsWorked, Settles, bodies_of, carried, seen_formulas, BeginsWith}
use Rattle.sw_work.specs.Works.{IsCause as IsCauseAt}
use Rattle.sw_breadth.specs.declared.sharing.Shared.{Shared}
use Rattle.sw_breadth.specs.declared.sharing.Places.{Places}
use Rattle.sw_breadth.specs.declared.joining.Joined.{Joined}
use Rattle.sw_breadth.specs.declared.joining.Joined.TheVariants as joined
use Rattle.sw_breadth.specs.declared.joining.Report.{Report}

-- ---- seats

-- the seats are of these claims and this log
pub record AreSeats (s : Shared) (w : Places) : Type 0 where
  pub claims_are : w.claim.object ≡ s.claims
  pub log_is : w.log.object ≡ s.log

-- a worker's new seats
pub record AreNew (s : Shared) (parts : ℕ) (entries : List Entry) (w : Places) : Type 0 where
  pub seats : AreSeats s w
  pub claim_is : w.claim.view ≡ fresh_claim parts
  pub log_is : w.log.view ≡ fresh_log entries

-- a worker's new seats, beside the pool and what is shared
pub record IsPlace (s : Shared) (parts : ℕ) (entries : List Entry) (p q : Pool) (z : Shared) (w : Places) : Type 0 where
  pub new : AreNew s parts entries w
  pub pool_is : q ≡ p
  pub shared_is : z ≡ s

-- a worker's new seats, beside what is shared
pub record IsFresh (s : Shared) (parts : ℕ) (z : Shared) (w : Places) : Type 0 where
  pub new : AreNew s parts w.log.view.seen w
  pub shared_is : z ≡ s

-- the first seats before any worker was joined, with so many others out and so many splits left
pub record AreFirst (parts : ℕ) (entries : List Entry) (out splits : ℕ) (w : Places) : Type 0 where
  pub claim_first : w.claim.view.first ≡ true
  pub claim_out : w.claim.view.out ≡ out
  pub claim_splits : w.claim.view.splits ≡ splits
  pub parts_are : w.claim.view.parts ≡ parts
  pub undrawn : w.claim.view.drawn ≡ []
  pub silent : w.claim.view.wrote ≡ 0
  pub log_first : w.log.view.first ≡ true
  pub log_out : w.log.view.out ≡ out
  pub log_splits : w.log.view.splits ≡ splits
  pub seen_are : w.log.view.seen ≡ entries
  pub own_are : w.log.view.own ≡ entries

-- what a worker reports, of a round that began with new seats
pub record IsReport (m : Search) (budget : Option ℕ) (pool : Pool) (s : Shared) (before : ℕ) (entries : List Entry) (worker : ℕ) (r : Report) : Type 0 where
  pub seats : AreSeats s r.places
  pub gained : Gained m worker (fresh_log entries) r.places.log.view
  pub worked : IfOk r.answer (IsWorked m pool worker before (fresh_claim (length (parts_in m))) r.places.claim.view (fresh_log entries) r.places.log.view)
  pub cause : IfErr r.answer (IsCauseAt m budget r.places.log.view.seen)

-- the reports of the workers from this one on
abbrev pub AreReports : Search → Option ℕ → Pool → Shared → ℕ → List Entry → ℕ → List Report → Type 0
AreReports m budget pool s before entries worker [] = Unit {0}
AreReports m budget pool s before entries worker (r ∷ rs) = IsReport m budget pool s before entries worker r × AreReports m budget pool s before entries (worker + 1) rs

-- ---- what was joined

-- a worker's share of a round, under a list that begins with what the worker has seen, with a token of the pool for each filter
pub record IsShared (m : Search) (pool : Pool) (before since : ℕ) (formulas : List Formula) (worker : ℕ) (h : Handed) : Type 0 where
  pub share : (filters : List Filter) → length filters ≡ before → IsShare m filters formulas worker (share_of h)
  pub timely : (filters : List Filter) → length filters ≡ before → AllByRecursion (IsTimely m since formulas (filters ++ filters_of h.kept)) h.settled
  pub tokens : HasTokens pool h

abbrev pub AreShared : Search → Pool → ℕ → ℕ → List Formula → List Handed → Type 0
AreShared m pool before since formulas hs = (i : ℕ) (h : Handed) → slice_get hs i ≡ Some h → IsShared m pool before since formulas i h

-- a class that some worker gained under the list before it
pub record IsOwned (m : Search) (seen : List Entry) (e : Entry) : Type 0 where
  pub by_worker : e.worker < m.workers
  pub class : IsClass (parts_in m) e.body
  pub at : slice_get seen e.under ≡ Some e
  pub gains : Gains m (seen_formulas m (take e.under seen)) (formula_in m e.body.cubes)

-- the seat has seen the entries at the round's start and more, and owns those and what workers gained
pub record IsOwner (m : Search) (entries : List Entry) (v : LogView) : Type 0 where
  pub begins : IsPrefix entries v.seen
  pub more : List Entry
  pub own_are : v.own ≡ entries ++ more
  pub each : AllByRecursion (IsOwned m v.seen) more

-- so many workers handed back their shares, and none stopped
pub record AreWhole (m : Search) (pool : Pool) (entries : List Entry) (before done : ℕ) (c : ClaimView) (v : LogView) (hs : List Handed) : Type 0 where
  pub count : length hs ≡ done
  pub drawn_are : c.drawn ≡ flat_map (λ (h : Handed). h.drawn) hs
  pub ended : 1 ≤ done → 1 ≤ c.ends
  pub silent : c.wrote ≡ 0
  pub shares : AreShared m pool before (length entries) (seen_formulas m v.seen) hs

-- some worker saw a reason, and none wrote one
pub record IsStopped (c : ClaimView) : Type 0 where
  pub seen : 1 ≤ c.seen
  pub silent : c.wrote ≡ 0

-- what so many workers came to
abbrev pub IsJoined : Search → Pool → Option ℕ → List Entry → ℕ → ℕ → ClaimView → LogView → Joined → Type 0
IsJoined m pool budget entries before done c v (joined.Whole hs) = AreWhole m pool entries before done c v hs
IsJoined m pool budget entries before done c v joined.Stopped = IsStopped c
IsJoined m pool budget entries before done c v (joined.Failed e) = IsCauseAt m budget v.seen e

-- what was joined, with one answer more
abbrev pub with_answer : Joined → Result Worked BreadthError → Joined
with_answer (joined.Whole hs) (Ok (worked.Done h)) = joined.Whole (hs ++ h ∷ [])
with_answer (joined.Whole hs) (Ok (worked.Stopped reason)) = joined.Stopped
with_answer (joined.Whole hs) (Err e) = joined.Failed e
with_answer joined.Stopped (Ok w) = joined.Stopped
with_answer joined.Stopped (Err e) = joined.Failed e
with_answer (joined.Failed f) answer = joined.Failed f

-- the first seats, once so many workers were joined and while others are out
pub record HaveJoined (m : Search) (pool : Pool) (budget : Option ℕ) (entries : List Entry) (before done out : ℕ) (w : Places) (j : Joined) : Type 0 where
  pub claim_first : w.claim.view.first ≡ true
  pub claim_out : w.claim.view.out ≡ out
  pub parts_are : w.claim.view.parts ≡ length (parts_in m)
  pub log_first : w.log.view.first ≡ true
  pub log_out : w.log.view.out ≡ out
  pub owner : IsOwner m entries w.log.view
  pub answers : IsJoined m pool budget entries before done w.claim.view w.log.view j

-- the claims may be closed, which no reason that is seen and that none wrote allows
abbrev pub MayClose : ClaimView → Joined → Type 0
MayClose c (joined.Whole hs) = IsAlone c
MayClose c joined.Stopped = IsAlone c × IsStopped c
MayClose c (joined.Failed e) = Unit {0}

-- the claims of a whole round are on so many parts
abbrev pub HasParts : ℕ → ClaimView → Joined → Type 0
HasParts n c (joined.Whole hs) = c.parts ≡ n
HasParts n c joined.Stopped = Unit {0}
HasParts n c (joined.Failed e) = Unit {0}

-- the first seats once all workers were joined
pub record IsClosable (m : Search) (pool : Pool) (budget : Option ℕ) (entries : List Entry) (before : ℕ) (w : Places) (j : Joined) : Type 0 where
  pub parts_are : HasParts (length (parts_in m)) w.claim.view j
  pub claims : MayClose w.claim.view j
  pub log : IsAloneAtLog w.log.view
  pub owner : IsOwner m entries w.log.view
  pub answers : IsJoined m pool budget entries before m.workers w.claim.view w.log.view j

-- the claims and the log were closed
pub record IsClosed (w : Places) (j : Joined) (log : List Entry) (hs : List Handed) : Type 0 where
  pub joined_is : j ≡ joined.Whole hs
  pub log_is : log ≡ w.log.view.seen
  pub placed : Placed log
  pub holds : HoldsEach w.log.view.own log
  pub drawn : ℕ
  pub below : IsEachBelow drawn w.claim.view.drawn
  pub whole : 1 ≤ w.claim.view.ends → drawn ≡ w.claim.view.parts

-- one worker's answer, by the plain pass
abbrev pub IsPlainlyJoined : Search → List Entry → List Entry → Joined → Type 0
IsPlainlyJoined m entries log (joined.Whole hs) = Settles m.protocol m.template (parts_in m) (classes_of (bodies_of entries)) (classes_of (bodies_of log))
IsPlainlyJoined m entries log joined.Stopped = ⊥
IsPlainlyJoined m entries log (joined.Failed e) =
    IfSome (carried e) (λ g. (h : List (List ℕ)) → Settles m.protocol m.template (parts_in m) (classes_of (bodies_of entries)) h → BeginsWith (classes_of g) h)

-- ---- what a round leaves

-- each part was drawn once, and the log begins with the entries before, and gained the others
pub record IsWholeRound (m : Search) (pool : Pool) (before : ℕ) (entries log : List Entry) (hs : List Handed) : Type 0 where
  pub new : List Entry
  pub log_is : log ≡ entries ++ new
  pub placed : Placed log
  pub gained : AreGained m (formulas_of m entries) new
  pub classes : AllByRecursion (λ (e : Entry). IsClass (parts_in m) e.body) new
  pub workers : length hs ≡ m.workers
  pub once : (x : ℕ) → times x (flat_map (λ (h : Handed). h.drawn) hs) ≡ once_below x (length (parts_in m))
  pub shares : AreShared m pool before (length entries) (formulas_of m log) hs

-- the error's cause, under a front of a log that begins with the entries before and gained the others
pub record IsCauseOfRound (m : Search) (budget : Option ℕ) (entries : List Entry) (e : BreadthError) : Type 0 where
  pub new : List Entry
  pub gained : AreGained m (formulas_of m entries) new
  pub classes : AllByRecursion (λ (e : Entry). IsClass (parts_in m) e.body) new
  pub cause : IsCauseAt m budget (entries ++ new) e

-- a round of one worker is one of the plain pass
abbrev pub IsPlainRound : Search → List Entry → List Entry → Type 0
IsPlainRound m entries log = m.workers ≡ 1 → Settles m.protocol m.template (parts_in m) (classes_of (bodies_of entries)) (classes_of (bodies_of log))

-- the list that an error of one worker carries is one through which the round of the plain pass leads
abbrev pub IsOnItsWay : Search → List Entry → BreadthError → Type 0
IsOnItsWay m entries e =
    m.workers ≡ 1 → IfSome (carried e) (λ g. (h : List (List ℕ)) → Settles m.protocol m.template (parts_in m) (classes_of (bodies_of entries)) h → BeginsWith (classes_of g) h)
