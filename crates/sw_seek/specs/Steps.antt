-- What a worker has in hand between two steps, and what each of its steps comes to.
use Rattle.std.specs.Prelude.{◌≡◌, ℕ, List, [], ◌∷◌, ◌++◌, length, map, Option, Some, None, Contains}
use Rattle.std.specs.List.{AllByRecursion, flat_map}
use Rattle.sw_logic.specs.declared.syntax.Formula.{Formula}
use Rattle.sw_meaning.specs.declared.template.Template.{Template}
use Rattle.sw_template.specs.Bodies.{Class}
use Rattle.sw_filter.specs.declared.filter.Mode.TheVariants.{Finish}
use Rattle.sw_join.specs.Joining.{IsJoined}
use Rattle.sw_claims.specs.declared.rule.ClaimView.{ClaimView}
use Rattle.sw_claims.specs.ClaimsRule.{opened}
use Rattle.sw_core.specs.declared.record.Kept.{Kept}
use Rattle.sw_core.specs.declared.record.Settled.{Settled}
use Rattle.sw_core.specs.Machine.{Search, formula_in, parts_in}
use Rattle.sw_core.specs.Gathered.{IsSettledBy, IsTimely, filters_of}
use Rattle.sw_walk.specs.Parts.{part_at, all_classes, IsClass}
use Rattle.sw_hand.specs.declared.hand.Hand.{Hand}
use Rattle.sw_hand.specs.Hands.{search_of, IsView, IsHand, AreTokens, Grows, IsGoodBy}
use Rattle.sw_hand.specs.Seats.{HasDrawn, HasStopped}
use Rattle.sw_seek.specs.declared.considering.Found.{Found}
use Rattle.sw_seek.specs.declared.considering.Seeking.{Seeking}
use Rattle.sw_seek.specs.declared.drawing.Drew.{Drew}
use Rattle.sw_seek.specs.declared.drawing.Drew.TheVariants.{All}
use Rattle.sw_seek.specs.declared.drawing.Drew.TheVariants as drew
use Rattle.sw_seek.specs.declared.drawing.Progress.{Progress}
use Rattle.sw_seek.specs.Seeking.{CanFinish, NoneJoins, IsFirstJoined}

-- what is searched
abbrev pub searched : {S : Type 0} → (S → Template) → Seeking S → Search
searched template s = search_of s.task.now.protocol.now (template s.task.now.space.now) s.task.now.mode s.task.now.workers

-- a task in the finisher's mode, whose classes can be asked about under the entries
pub record CanSeek {S : Type 0} (template : S → Template) (lists : S → List (List (List ℕ))) (Has : S → Class → Type 0) (formula : S → Class → Formula)
    (s : Seeking S) : Type 0 where
  pub finish : s.task.now.mode ≡ Finish
  pub can : CanFinish s.task.now.protocol.now (template s.task.now.space.now) (lists s.task.now.space.now) (Has s.task.now.space.now)
      (formula s.task.now.space.now) s.entries.now s.budget

-- a worker's filters under the entries
pub record Holds {S : Type 0} (template : S → Template) (s : Seeking S) (h : Hand S) : Type 0 where
  pub mine : IsView (searched template s) s.task.now.space.now s.entries.now h.mine.protocol.now h.mine.space.now h.mine.mode h.mine.advanced h.mine.shown.items
  pub others : IsView (searched template s) s.task.now.space.now s.entries.now h.others.protocol.now h.others.space.now h.others.mode h.others.advanced
      h.others.shown.items
  pub held : IsHand (searched template s) s.task.now.pool.now s.task.now.worker s.entries.now h.mine.shown.items h.kept h.tokens.items h.used.items
  pub finds : AreTokens s.task.now.pool.now h.found.items h.others.shown.items

-- ---- classes

-- the class joins, or filters that are used stay so and it is good by those used
abbrev pub IsConsidered : {S : Type 0} → Search → List Formula → Option ℕ → Hand S → Hand S → Class → Option Found → Type 0
IsConsidered m g budget old new body (Some found) = (found.body ≡ body) × IsJoined m.protocol g (formula_in m body.cubes) budget found.start found.steps
IsConsidered m g budget old new body None = Grows old.kept old.used.items new.kept new.used.items × IsGoodBy m g new.kept new.used.items body.cubes

abbrev pub KeepsMore : List Kept → List Kept → Type 0
KeepsMore old new = (more : List Kept) × (new ≡ old ++ more)

-- the first of these classes that joins, with what shows it
pub record IsFound (m : Search) (g : List Formula) (budget : Option ℕ) (cs : List (List ℕ)) (f : Found) : Type 0 where
  pub single : f.body.template ≡ 0
  pub first : IsFirstJoined m.protocol m.template g cs f.body.cubes
  pub joined : IsJoined m.protocol g (formula_in m f.body.cubes) budget f.start f.steps

-- the first class of the part that joins, or each is good by the filters used
abbrev pub IsPassed : {S : Type 0} → Search → List Formula → Option ℕ → Hand S → Hand S → List (List ℕ) → Option Found → Type 0
IsPassed m g budget old new part (Some found) = IsFound m g budget part found
IsPassed m g budget old new part None = KeepsMore old.kept new.kept × AllByRecursion (IsGoodBy m g new.kept new.used.items) part

-- ---- parts

-- the settlement is as a share of one round promises, under all entries
pub record IsPromised (m : Search) (worker : ℕ) (g : List Formula) (kept : List Kept) (x : Settled) : Type 0 where
  pub settled : IsSettledBy m worker g (filters_of kept) x
  pub timely : IsTimely m (length g) g (filters_of kept) x

-- the part is settled, and none of its classes joins
pub record IsSettledNow (m : Search) (worker : ℕ) (g : List Formula) (part : ℕ) (kept kept_now : List Kept) (old new : Progress) : Type 0 where
  pub more : KeepsMore kept kept_now
  pub by_this : Settled
  pub is_drawn : new.drawn ≡ old.drawn ++ part ∷ []
  pub is_settled : new.settled ≡ old.settled ++ by_this ∷ []
  pub named : by_this.part ≡ part
  pub promised : IsPromised m worker g kept_now by_this
  pub none : NoneJoins m.protocol m.template g (part_at (parts_in m) part)

abbrev pub IsTaken : Search → ℕ → List Formula → Option ℕ → ℕ → List Kept → List Kept → Progress → Progress → Option Found → Type 0
IsTaken m worker g budget part kept kept_now old new (Some found) = (new ≡ old) × IsFound m g budget (part_at (parts_in m) part) found
IsTaken m worker g budget part kept kept_now old new None = IsSettledNow m worker g part kept kept_now old new

-- ---- all draws

-- each part drawn is settled, in the order of the draws
pub record HasSettled (m : Search) (worker : ℕ) (g : List Formula) (kept : List Kept) (p : Progress) : Type 0 where
  pub in_order : map (λ (x : Settled). x.part) p.settled ≡ p.drawn
  pub promised : AllByRecursion (IsPromised m worker g kept) p.settled

-- the class is of the last part that was drawn, joins, and is the first that does in the parts drawn; alone, of all
pub record Meets (m : Search) (g : List Formula) (budget : Option ℕ) (c d : ClaimView) (f : Found) : Type 0 where
  pub drawn : List ℕ
  pub last : ℕ
  pub gained : d.drawn ≡ c.drawn ++ (drawn ++ last ∷ [])
  pub class : IsClass (parts_in m) f.body
  pub first : IsFirstJoined m.protocol m.template g (flat_map (part_at (parts_in m)) (drawn ++ last ∷ [])) f.body.cubes
  pub among : Contains (part_at (parts_in m) last) f.body.cubes
  pub joined : IsJoined m.protocol g (formula_in m f.body.cubes) budget f.start f.steps
  pub alone : c ≡ opened (length (parts_in m)) 0 → IsFirstJoined m.protocol m.template g (all_classes (parts_in m)) f.body.cubes

-- what the draws came to
abbrev pub IsDrew : Search → ℕ → List Formula → Option ℕ → ClaimView → ClaimView → List Kept → Progress → Drew → Type 0
IsDrew m worker g budget c d kept p (drew.Found found) = Meets m g budget c d found
IsDrew m worker g budget c d kept p All = HasDrawn c d p.drawn × HasSettled m worker g kept p
IsDrew m worker g budget c d kept p (drew.Stopped reason) = HasStopped c d reason × (c ≡ opened (length (parts_in m)) 0 → ⊥)
