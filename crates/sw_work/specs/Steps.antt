-- What a worker has in hand between two steps, and what each of its steps comes to.
use Rattle.std.specs.Prelude.{◌≡◌, ℕ, ◌<◌, Bool, true, false, List, [], ◌∷◌, ◌++◌, length, map, Option, IfSome}
use Rattle.std.specs.List.{AllByRecursion}
use mathlib.Core.List.{IsPrefix}
use Rattle.sw_logic.specs.declared.syntax.Formula.{Formula}
use Rattle.sw_meaning.specs.declared.template.Template.{Template}
use Rattle.sw_meaning.specs.Inductive.{Follows}
use Rattle.sw_template.specs.Bodies.{Class}
use Rattle.sw_filter.specs.declared.filter.Filter.{Filter}
use Rattle.sw_filter.specs.declared.filter.Mode.TheVariants.{Breadth}
use Rattle.sw_filter.specs.Filters.{AreNarrow}
use Rattle.sw_claims.specs.declared.rule.ClaimView.{ClaimView}
use Rattle.sw_claims.specs.ClaimsRule.{opened}
use Rattle.sw_claims.specs.ClaimsSteps.{IsAlone as IsOnly}
use Rattle.sw_log.specs.declared.entry.Entry.{Entry}
use Rattle.sw_log.specs.declared.rule.LogView.{LogView}
use Rattle.sw_log.specs.LogSteps.{IsAlone}
use Rattle.sw_core.specs.declared.record.Kept.{Kept}
use Rattle.sw_core.specs.declared.record.Settled.{Settled}
use Rattle.sw_core.specs.Machine.{Search, formula_in, parts_in}
use Rattle.sw_core.specs.Founded.{Gains}
use Rattle.sw_core.specs.Gathered.{IsSettledBy, IsTimely, filters_of}
use Rattle.sw_walk.specs.Parts.{classes_of, IsClass}
use Rattle.sw_hand.specs.declared.hand.Hand.{Hand}
use Rattle.sw_hand.specs.declared.hand.Task.{Task}
use Rattle.sw_hand.specs.Hands.{search_of, IsView, IsHand, AreTokens, Grows, IsGoodBy}
use Rattle.sw_work.specs.declared.bench.Bench.{Bench}
use Rattle.sw_work.specs.declared.errors.BreadthError.{BreadthError}
use Rattle.sw_work.specs.declared.implied.Implied.{Implied}
use Rattle.sw_work.specs.declared.considering.Tried.{Tried}
use Rattle.sw_work.specs.declared.considering.Tried.TheVariants.{Good, Added, Behind}
use Rattle.sw_work.specs.declared.drawing.Drew.{Drew}
use Rattle.sw_work.specs.declared.drawing.Drew.TheVariants.{All, Stopped}
use Rattle.sw_work.specs.declared.drawing.Progress.{Progress}
use Rattle.sw_hand.specs.Seats.{HasDrawn, HasStopped}
use Rattle.sw_work.specs.Works.{CanSearch, Settles, IsCause, IsOnTheWay, BeginsWith, carried, bodies_of, seen_formulas}

-- what a task searches
abbrev pub searched : {S : Type 0} → (S → Template) → Task S → Search
searched template task = search_of task.protocol.now (template task.space.now) task.mode task.workers

-- a task in the mode of breadth, whose classes can be asked about
pub record CanWork {S : Type 0} (template : S → Template) (lists : S → List (List (List ℕ))) (Has : S → Class → Type 0) (formula : S → Class → Formula) (task : Task S) (budget : Option ℕ) : Type 0 where
  pub breadth : task.mode ≡ Breadth
  pub can : CanSearch task.protocol.now (template task.space.now) (lists task.space.now) (Has task.space.now) (formula task.space.now) budget

-- a worker's filters under these formulas
pub record Holds {S : Type 0} (template : S → Template) (task : Task S) (formulas : List Formula) (h : Hand S) : Type 0 where
  pub mine : IsView (searched template task) task.space.now formulas h.mine.protocol.now h.mine.space.now h.mine.mode h.mine.advanced h.mine.shown.items
  pub others : IsView (searched template task) task.space.now formulas h.others.protocol.now h.others.space.now h.others.mode h.others.advanced h.others.shown.items
  pub held : IsHand (searched template task) task.pool.now task.worker formulas h.mine.shown.items h.kept h.tokens.items h.used.items
  pub finds : AreTokens task.pool.now h.found.items h.others.shown.items

-- the formulas are those of these entries, and the filters are under them
pub record Fits {S : Type 0} (template : S → Template) (task : Task S) (formulas : List Formula) (h : Hand S) (seen : List Entry) : Type 0 where
  pub are : formulas ≡ seen_formulas (searched template task) seen
  pub narrow : AreNarrow formulas
  pub holds : Holds template task formulas h

-- the classes follow from the formulas
pub record AreImplied (m : Search) (formulas : List Formula) (classes : Implied) : Type 0 where
  pub before : AllByRecursion (λ (c : List ℕ). Follows m.protocol formulas (formula_in m c)) (classes_of classes.before)
  pub now : AllByRecursion (λ (c : List ℕ). Follows m.protocol formulas (formula_in m c)) (classes_of classes.now)

-- the bench has these entries, their formulas, the filters under them, and classes that follow from them
pub record Stands {S : Type 0} (template : S → Template) (task : Task S) (b : Bench S) (seen : List Entry) : Type 0 where
  pub listed : b.entries.items ≡ seen
  pub fits : Fits template task b.formulas b.hand seen
  pub implied : AreImplied (searched template task) b.formulas b.implied

-- ---- the list of the log

abbrev pub Classes : Type 0
Classes = List (List ℕ)

-- the classes that a seat has seen
abbrev pub seen_classes : LogView → Classes
seen_classes v = classes_of (bodies_of v.seen)

-- the worker has the log by itself, and it has classes alone
pub record IsLone (m : Search) (v : LogView) : Type 0 where
  pub alone : IsAlone v
  pub classes : AllByRecursion (λ (e : Entry). IsClass (parts_in m) e.body) v.seen

-- more of the log was seen, and nothing else changed
pub record Looks (v w : LogView) : Type 0 where
  pub begins : IsPrefix v.seen w.seen
  pub is : w ≡ record v { seen = w.seen }
  pub alone : IsAlone v → w.seen ≡ v.seen

-- the list has grown where something changed, and else is as it was
pub record Moves (v w : LogView) (changed : Bool) : Type 0 where
  pub longer : changed ≡ true → length v.seen < length w.seen
  pub stays : changed ≡ false → w.seen ≡ v.seen

-- alone, the list comes to one to which the step leads
abbrev pub Leads : Search → (Classes → Classes → Type 0) → LogView → LogView → Type 0
Leads m Step v w = IsLone m v → IsLone m w × Step (seen_classes v) (seen_classes w)

-- a cause, under a list with which, alone, each list to which the step leads begins
pub record Fails (m : Search) (budget : Option ℕ) (Step : Classes → Classes → Type 0) (v w : LogView) (e : BreadthError) : Type 0 where
  pub cause : IsCause m budget w.seen e
  pub on_the_way : IsLone m v → IfSome (carried e) (λ g. (h : Classes) → Step (seen_classes v) h → BeginsWith (classes_of g) h)

-- a cause, under the list as it was
pub record IsCauseAt (m : Search) (budget : Option ℕ) (v w : LogView) (e : BreadthError) : Type 0 where
  pub cause : IsCause m budget w.seen e
  pub listed : IfSome (carried e) (λ g. (g ≡ bodies_of v.seen) × (w.seen ≡ v.seen))

-- ---- the filters

abbrev pub KeepsMore : List Kept → List Kept → Type 0
KeepsMore old new = (more : List Kept) × (new ≡ old ++ more)

-- filters that are used stay so, and the class is good by those used
pub record IsGoodNow {S : Type 0} (m : Search) (old new : Bench S) (class : List ℕ) : Type 0 where
  pub grows : Grows old.hand.kept old.hand.used.items new.hand.kept new.hand.used.items
  pub good : IsGoodBy m new.formulas new.hand.kept new.hand.used.items class

-- the class was gained, and is the last entry
pub record IsLast (m : Search) (v w : LogView) (body : Class) : Type 0 where
  pub entry : Entry
  pub pushed : w.seen ≡ v.seen ++ entry ∷ []
  pub named : entry.body ≡ body
  pub gains : Gains m (seen_formulas m v.seen) (formula_in m body.cubes)

-- what a look at a class came to
abbrev pub IsTried : {S : Type 0} → Search → LogView → LogView → Bench S → Bench S → Class → Tried → Type 0
IsTried m v w old new body Good = (w ≡ v) × IsGoodNow m old new body.cubes
IsTried m v w old new body Added = IsLast m v w body
IsTried m v w old new body Behind = (length v.seen < length w.seen) × (IsAlone v → ⊥)

-- where nothing changed, the class is good by the filters used
abbrev pub IsConsidered : {S : Type 0} → Search → Bench S → Bench S → List ℕ → Bool → Type 0
IsConsidered m old new class changed = changed ≡ false → IsGoodNow m old new class

-- where nothing changed, each class of the part is good by the filters used
abbrev pub IsPassed : {S : Type 0} → Search → Bench S → List (List ℕ) → Bool → Type 0
IsPassed m b part changed = changed ≡ false → AllByRecursion (IsGoodBy m b.formulas b.hand.kept b.hand.used.items) part

-- the settlement is as a share promises, under a list at least as long as this; `before` is the number of filters of the rounds before
pub record IsPromised (m : Search) (worker before since : ℕ) (formulas : List Formula) (kept : List Kept) (x : Settled) : Type 0 where
  pub settled : (filters : List Filter) → length filters ≡ before → IsSettledBy m worker formulas (filters ++ filters_of kept) x
  pub timely : (filters : List Filter) → length filters ≡ before → IsTimely m since formulas (filters ++ filters_of kept) x

-- ---- a round

-- what was drawn and settled, by the seats before and after
pub record HasSettled {S : Type 0} (m : Search) (worker before : ℕ) (c d : ClaimView) (v w : LogView) (b : Bench S) (p : Progress) : Type 0 where
  pub drew : HasDrawn c d p.drawn
  pub in_order : map (λ (x : Settled). x.part) p.settled ≡ p.drawn
  pub promised : AllByRecursion (IsPromised m worker before (length v.seen) b.formulas b.hand.kept) p.settled
  pub leads : c ≡ opened (length (parts_in m)) 0 → Leads m (Settles m.protocol m.template (parts_in m)) v w

-- what the draws of a round came to
abbrev pub IsDrew : {S : Type 0} → Search → ℕ → ℕ → ClaimView → ClaimView → LogView → LogView → Bench S → Drew → Type 0
IsDrew m worker before c d v w b (All p) = HasSettled m worker before c d v w b p
IsDrew m worker before c d v w b (Stopped reason) = HasStopped c d reason × (c ≡ opened (length (parts_in m)) 0 → ⊥)

-- a cause, and alone at the log and the claims it is on the way
pub record FailsRound (m : Search) (budget : Option ℕ) (c : ClaimView) (v w : LogView) (e : BreadthError) : Type 0 where
  pub cause : IsCause m budget w.seen e
  pub on_the_way : c ≡ opened (length (parts_in m)) 0 → IsLone m v → IsOnTheWay m v (carried e)

-- no other seat is in use, no reason was written and no draw met the end
pub record IsFirst (c : ClaimView) : Type 0 where
  pub alone : IsOnly c
  pub silent : c.wrote ≡ 0
  pub going : c.ends ≡ 0
