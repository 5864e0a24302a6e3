-- What every founded step keeps.
use Rattle.std.specs.Prelude.{◌≡◌, ◌≢◌, ℕ, zero, suc, ◌+◌, ◌≤◌, List, [], ◌∷◌, ◌++◌, map, length, take, Option, Some, None, slice_get, slice_index, unwrap_or}
use Rattle.std.specs.List.{AllByRecursion}
use Rattle.std.proofs.Common.{refl, arith, sym, ap, subst, ◌∙◌, append_assoc, append-nil, length-append, inl, inr}
use Rattle.std.proofs.lemmas.Bool.{cases_lt}
use Rattle.std.proofs.lemmas.List.{length-map, take-append-le}
use Rattle.std.proofs.lemmas.Option.{none-some, same_Some}
use Rattle.sw_logic.specs.declared.syntax.Formula.{Formula}
use Rattle.sw_meaning.specs.declared.protocol.Protocol.{Protocol}
use Rattle.sw_meaning.specs.declared.template.Template.{Template}
use Rattle.sw_meaning.specs.Space.{InSpaceOf}
use Rattle.sw_meaning.specs.Inductive.{Earned, EarnedAfter, Inductive, Follows}
use Rattle.sw_filter.specs.declared.filter.Filter.{Filter}
use Rattle.sw_filter.specs.declared.filter.Mode.{Mode}
use Rattle.sw_filter.specs.declared.filter.Mode.TheVariants.{Breadth, Finish}
use Rattle.sw_filter.specs.Good.{Good}
use Rattle.sw_core.specs.declared.record.Settled.{Settled}
use Rattle.sw_core.specs.declared.steps.Step.{Step}
use Rattle.sw_core.specs.declared.steps.Step.TheVariants.{Begin, Draw, Look, Append, Publish, Settle, Stop, Close}
use Rattle.sw_core.specs.declared.steps.End.{End}
use Rattle.sw_core.specs.declared.steps.End.TheVariants.{Running, Stopped, Closed}
use Rattle.sw_core.specs.Machine.{Search, Board, Part, IsDone, changed, taken, settled_by, filters_at, formula_in, parts_in, start, after, run}
use Rattle.sw_core.specs.Founded.{IsFounded, AreFounded}
use Rattle.sw_core.specs.Laws.{Grows, LogStaysEarned, FinisherKeepsLog, IsWellSettled, LastSettlementsAreGood}
use Rattle.sw_core.proofs.Lists.{length-changed, Was, changed_same, changed_other, index_changed_below, index_replicate, filters_at-append, below-weaker}
use Rattle.sw_core.proofs.Grow.{grows_after}

-- each last settlement of the parts is well settled
abbrev pub AreWellSettled : Search → List Formula → List Filter → List Part → Type 0
AreWellSettled m log filters ps = (k : ℕ) (part : Part) (settled : Settled) → slice_get ps k ≡ Some part → part.last ≡ Some settled → IsWellSettled m log filters k settled

pub record Stands (m : Search) (s : Board) : Type 0 where
  pub count : length s.parts ≡ length (parts_in m)
  pub seen : (w : ℕ) → slice_index s.seen w ≤ length s.log
  pub last : AreWellSettled m s.log s.filters s.parts
  pub closed : s.end ≡ Closed → AllByRecursion (IsDone m s.log s.filters) s.parts

-- as the log and the filters grow
well_settled_on : (m : Search) (log more : List Formula) (filters others : List Filter) (k : ℕ) (settled : Settled) → IsWellSettled m log filters k settled → IsWellSettled m (log ++ more) (filters ++ others) k settled
well_settled_on m log more filters others k settled h = record {
  number = h.number;
  under = omega (arith, h.under, length-append log more);
  places = below-weaker (length filters) (length (filters ++ others)) settled.by (omega (arith, length-append filters others)) h.places;
  good =
      let le : settled.under ≤ length log = h.under in
      let prefix : take settled.under log ≡ take settled.under (log ++ more) = sym (take-append-le settled.under log more le) in
      let named : filters_at filters settled.by ≡ filters_at (filters ++ others) settled.by = sym (filters_at-append filters others settled.by h.places) in
      subst (λ g. AllByRecursion (λ class. Good m.protocol m.mode g (formula_in m class) (filters_at (filters ++ others) settled.by)) (unwrap_or (slice_get (parts_in m) settled.part) [])) prefix
      (subst (λ fs. AllByRecursion (λ class. Good m.protocol m.mode (take settled.under log) (formula_in m class) fs) (unwrap_or (slice_get (parts_in m) settled.part) [])) named h.good);
}

grown : (m : Search) (s t : Board) → Grows s t → (k : ℕ) (settled : Settled) → IsWellSettled m s.log s.filters k settled → IsWellSettled m t.log t.filters k settled
grown m s t g k settled h =
    subst (λ l. IsWellSettled m l t.filters k settled) (sym g.log)
    (subst (λ fs. IsWellSettled m (s.log ++ g.entries) fs k settled) (sym g.filters) (well_settled_on m s.log g.entries s.filters g.more k settled h))

running_closed : {P : Type 0} (e : End) → e ≡ Running → e ≡ Closed → P
running_closed e r c = let k : Running ≡ Closed = sym r ∙ c in cc

stopped_closed : {P : Type 0} → Stopped ≡ Closed → P
stopped_closed k = cc

-- a number is a given one, or another
pub data Is (k j : ℕ) : Type 0 where
  same : k ≡ j → Is k j
  other : k ≢ j → Is k j

pub is_or_not : (k j : ℕ) → Is k j
is_or_not k j = elim (cases_lt k j) [
  | inl lt ↦ Is.other (λ e. omega arith)
  | inr le ↦ elim (cases_lt j k) [
    | inl gt ↦ Is.other (λ e. omega arith)
    | inr ge ↦ Is.same (omega arith)
  ]
]

-- a draw leaves the last settlements
drawn_well : (m : Search) (s : Board) (w : ℕ) → AreWellSettled m s.log s.filters s.parts → AreWellSettled m s.log s.filters (changed s.drawn (taken w) s.parts)
drawn_well m s w h k part settled at is = elim (is_or_not s.drawn k) [
  | Is.same e ↦
      let was : Was (taken w) s.parts k part = changed_same k (taken w) s.parts part (subst (λ j. slice_get (changed j (taken w) s.parts) k ≡ Some part) e at) in
      h k was.before settled was.at (sym (ap (λ (p : Part). p.last) was.is) ∙ is)
  | Is.other ne ↦ h k part settled (sym (changed_other s.drawn k (taken w) s.parts ne) ∙ at) is
]

-- a settlement is the last one of its part
settle_well : (m : Search) (s : Board) (w : ℕ) (x : Settled) → IsWellSettled m s.log s.filters x.part x → AreWellSettled m s.log s.filters s.parts → AreWellSettled m s.log s.filters (changed x.part (settled_by w x) s.parts)
settle_well m s w x new h k part settled at is = elim (is_or_not x.part k) [
  | Is.same e ↦
      let was : Was (settled_by w x) s.parts k part = changed_same k (settled_by w x) s.parts part (subst (λ j. slice_get (changed j (settled_by w x) s.parts) k ≡ Some part) e at) in
      let one : x ≡ settled = same_Some x settled (sym (ap (λ (p : Part). p.last) was.is) ∙ is) in
      subst (λ j. IsWellSettled m s.log s.filters j settled) e (subst (λ y. IsWellSettled m s.log s.filters x.part y) one new)
  | Is.other ne ↦ h k part settled (sym (changed_other x.part k (settled_by w x) s.parts ne) ∙ at) is
]

abbrev After : (m : Search) (s : Board) (x : Step) → Type 0
After m s x = Stands m (after m s x)

-- what a step keeps, where the parts and the seen lengths are as they should
step_keeps : (m : Search) (s : Board) (x : Step) → IsFounded m s x → Stands m s → After m s x
step_keeps m s Begin f h = record { count = h.count; seen = h.seen; last = h.last; closed = h.closed }
step_keeps m s (Draw w) f h = record {
  count = length-changed s.drawn (taken w) s.parts ∙ h.count;
  seen = h.seen;
  last = drawn_well m s w h.last;
  closed = λ c. running_closed s.end f.accepted.running c;
}
step_keeps m s (Look w) f h = record {
  count = h.count;
  seen = index_changed_below w (length s.log) (length s.log) s.seen (omega arith) h.seen;
  last = h.last;
  closed = h.closed;
}
step_keeps m s (Append w body) f h =
    let more : length (after m s (Append w body)).log ≡ length s.log + 1 = length-append s.log (formula_in m body.cubes ∷ []) in
    record {
      count = h.count;
      seen = index_changed_below w (length s.log + 1) (length (after m s (Append w body)).log) s.seen (omega arith) (λ u. omega (arith, h.seen u));
      last = λ k part settled at is. grown m s (after m s (Append w body)) (grows_after m s (Append w body)) k settled (h.last k part settled at is);
      closed = λ c. running_closed s.end f.accepted.running c;
    }
step_keeps m s (Publish w kept) f h = record {
  count = h.count;
  seen = h.seen;
  last = λ k part settled at is. grown m s (after m s (Publish w kept)) (grows_after m s (Publish w kept)) k settled (h.last k part settled at is);
  closed = λ c. running_closed s.end f.accepted.running c;
}
step_keeps m s (Settle w x) f h = record {
  count = length-changed x.part (settled_by w x) s.parts ∙ h.count;
  seen = h.seen;
  last = settle_well m s w x (record { number = refl; under = omega (arith, f.accepted.may.1, h.seen w); places = f.accepted.may.2; good = f.means }) h.last;
  closed = λ c. running_closed s.end f.accepted.running c;
}
step_keeps m s (Stop w reason) f h = record { count = h.count; seen = h.seen; last = h.last; closed = λ c. stopped_closed c }
step_keeps m s Close f h = record { count = h.count; seen = h.seen; last = h.last; closed = λ c. f.accepted.may }

pub steps_keep : (m : Search) (s : Board) (xs : List Step) → AreFounded m s xs → Stands m s → Stands m (run m s xs)
steps_keep m s [] f h = h
steps_keep m s (x ∷ xs) f h = steps_keep m (after m s x) xs f.1 (step_keeps m s x f.0 h)

none_settled : (parts : List (List (List ℕ))) (k : ℕ) (part : Part) → slice_get (map (λ _. let p : Part = record { holders = []; last = None } in p) parts) k ≡ Some part → part.last ≡ None
none_settled [] k part e = absurd (none-some part e)
none_settled (x ∷ xs) zero part e = sym (ap (λ (p : Part). p.last) (same_Some (record { holders = []; last = None }) part e))
none_settled (x ∷ xs) (suc k) part e = none_settled xs k part e

pub start_stands : (m : Search) (opening : List Formula) → Stands m (start m opening)
start_stands m opening = record {
  count = length-map (parts_in m) (λ _. record { holders = []; last = None });
  seen = λ w. index_replicate m.workers (length opening) w;
  last = λ k part settled at is. absurd (none-some settled (sym (none_settled (parts_in m) k part at) ∙ is));
  closed = λ c. running_closed Running refl c;
}

pub stands : (m : Search) (opening : List Formula) (xs : List Step) → AreFounded m (start m opening) xs → Stands m (run m (start m opening) xs)
stands m opening xs f = steps_keep m (start m opening) xs f (start_stands m opening)

pub last_settlements_are_good : LastSettlementsAreGood
last_settlements_are_good m opening xs f = (stands m opening xs f).last

-- one more entry (a lemma of the definitions' crate)
earned_push : (p : Protocol) (t : Option Template) (before g : List Formula) (f : Formula) → EarnedAfter p t before g → InSpaceOf p t f → Inductive p (before ++ g) f → (Follows p (before ++ g) f → ⊥) → EarnedAfter p t before (g ++ f ∷ [])
earned_push p t before [] f e s i n =
    (s, subst (λ h. Inductive p h f) (append-nil before) i, (λ k. n (subst (λ h. Follows p h f) (sym (append-nil before)) k)), tt)
earned_push p t before (x ∷ g) f e s i n = (
  e.0,
  e.1,
  e.2,
  earned_push p t (before ++ x ∷ []) g f e.3 s
      (subst (λ h. Inductive p h f) (sym (append_assoc before (x ∷ []) g)) i)
      (λ k. n (subst (λ h. Follows p h f) (append_assoc before (x ∷ []) g) k)),
)

step_earned : (m : Search) (s : Board) (x : Step) → IsFounded m s x → Earned m.protocol (Some m.template) s.log → Earned m.protocol (Some m.template) (after m s x).log
step_earned m s Begin f e = e
step_earned m s (Draw w) f e = e
step_earned m s (Look w) f e = e
step_earned m s (Append w body) f e = earned_push m.protocol (Some m.template) [] s.log (formula_in m body.cubes) e f.means.in_space f.means.inductive f.means.novel
step_earned m s (Publish w kept) f e = e
step_earned m s (Settle w x) f e = e
step_earned m s (Stop w reason) f e = e
step_earned m s Close f e = e

steps_earned : (m : Search) (s : Board) (xs : List Step) → AreFounded m s xs → Earned m.protocol (Some m.template) s.log → Earned m.protocol (Some m.template) (run m s xs).log
steps_earned m s [] f e = e
steps_earned m s (x ∷ xs) f e = steps_earned m (after m s x) xs f.1 (step_earned m s x f.0 e)

pub log_stays_earned : LogStaysEarned
log_stays_earned m opening xs f e = steps_earned m (start m opening) xs f e

two_modes : {P : Type 0} (mode : Mode) → mode ≡ Finish → mode ≡ Breadth → P
two_modes mode f b = let k : Finish ≡ Breadth = sym f ∙ b in cc

step_keeps_log : (m : Search) (s : Board) (x : Step) → m.mode ≡ Finish → IsFounded m s x → (after m s x).log ≡ s.log
step_keeps_log m s Begin e f = refl
step_keeps_log m s (Draw w) e f = refl
step_keeps_log m s (Look w) e f = refl
step_keeps_log m s (Append w body) e f = two_modes m.mode e f.means.breadth
step_keeps_log m s (Publish w kept) e f = refl
step_keeps_log m s (Settle w x) e f = refl
step_keeps_log m s (Stop w reason) e f = refl
step_keeps_log m s Close e f = refl

steps_keep_log : (m : Search) (s : Board) (xs : List Step) → m.mode ≡ Finish → AreFounded m s xs → (run m s xs).log ≡ s.log
steps_keep_log m s [] e f = refl
steps_keep_log m s (x ∷ xs) e f = steps_keep_log m (after m s x) xs e f.1 ∙ step_keeps_log m s x e f.0

pub finisher_keeps_log : FinisherKeepsLog
finisher_keeps_log m opening xs e f = steps_keep_log m (start m opening) xs e f
