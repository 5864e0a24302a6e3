-- What holds of a class of the space, and of the classes that are good by the filters of a hand.
use Rattle.std.specs.Prelude.{◌≡◌, ℕ, Bool, List, ◌++◌, Option, Some, None, Contains, Result, Ok, Err, IsErrAnd, IfOk, IfErr}
use Rattle.std.specs.List.{AllByRecursion}
use Rattle.std.proofs.Common.{sym, ap, ◌∙◌, subst, append_assoc}
use Rattle.sw_lists.proofs.Each.{each-weaker, of_contained}
use Rattle.sw_logic.specs.declared.syntax.Formula.{Formula}
use Rattle.sw_meaning.specs.declared.protocol.Protocol.{Protocol}
use Rattle.sw_meaning.specs.declared.template.Template.{Template}
use Rattle.sw_template.specs.Bodies.{Class}
use Rattle.sw_filter.specs.declared.filter.Filter.{Filter}
use Rattle.sw_filter.specs.declared.filter.Mode.{Mode}
use Rattle.sw_filter.specs.declared.filter.Mode.TheVariants.{Finish}
use Rattle.sw_filter.specs.Filters.{IsLive, Refutes}
use Rattle.sw_filter.specs.Good.{Good}
use Rattle.sw_filter.proofs.Good.{good_does_not_join}
use Rattle.sw_examine.specs.Answers.{CanAsk}
use Rattle.sw_join.specs.Joining.{IsJoined, Rejection}
use Rattle.sw_core.specs.declared.record.Kept.{Kept}
use Rattle.sw_core.specs.Machine.{Search, formula_in}
use Rattle.sw_walk.specs.Parts.{class_of, IsClass}
use Rattle.sw_hand.specs.declared.hand.Hand.{Hand}
use Rattle.sw_hand.specs.Hands.{Grows, IsGoodBy, Rejects, used_filters}
use Rattle.sw_truth.specs.declared.instances.Refutation.{Refutation}
use Rattle.sw_seek.specs.declared.considering.Found.{Found}
use Rattle.sw_seek.specs.declared.considering.Seeking.{Seeking}
use Rattle.sw_seek.specs.Seeking.{NoneJoins}
use Rattle.sw_seek.specs.Steps.{CanSeek, IsConsidered, KeepsMore, searched}

-- an error that is passed on
pub passed : {A E : Type 0} (P : E → Type 0) (e : E) (r : Result A E) → IsErrAnd r (λ x. x ≡ e) → P e → IfErr r P
passed P e (Ok x) is h = absurd is
passed P e (Err x) is h = subst P (sym is) h

-- ---- a class of the space
class_is : (b : Class) → b.template ≡ 0 → b ≡ class_of b.cubes
class_is b e = ap (λ n. record { template = n; cubes = b.cubes }) e

module _ {S : Type 0} (template : S → Template) (lists : S → List (List (List ℕ))) (Has : S → Class → Type 0) (formula : S → Class → Formula) (s : Seeking S)
    (can : CanSeek template lists Has formula s) (b : Class) (k : IsClass (lists s.task.now.space.now) b) where
  pub has_it : Has s.task.now.space.now b
  has_it = subst (Has s.task.now.space.now) (sym (class_is b k.single)) (can.can.has b.cubes k.among)

  pub formula_is : formula s.task.now.space.now b ≡ formula_in (searched template s) b.cubes
  formula_is = ap (formula s.task.now.space.now) (class_is b k.single) ∙ can.can.formulas b.cubes k.among

  pub can_ask : CanAsk s.task.now.protocol.now s.entries.now (formula s.task.now.space.now b)
  can_ask = subst (CanAsk s.task.now.protocol.now s.entries.now) (sym formula_is) (can.can.ask b.cubes k.among)

  -- a filter that an examination gives
  pub rejects : (x : Filter) → Rejection s.task.now.protocol.now s.entries.now (formula s.task.now.space.now b) x
      → Rejects (searched template s) s.entries.now b.cubes x
  rejects x r = record {
    admitted = r.admitted;
    live = subst (λ mode. IsLive s.task.now.protocol.now mode s.entries.now x) (sym can.finish) r.live;
    refutes = subst (Refutes s.task.now.protocol.now x) formula_is r.refutes;
  }

  pub joined_at : (budget : Option ℕ) (r : Refutation) (rs : List Refutation) → IsJoined s.task.now.protocol.now s.entries.now
      (formula s.task.now.space.now b) budget r rs
      → IsJoined s.task.now.protocol.now s.entries.now (formula_in (searched template s) b.cubes) budget r rs
  joined_at budget r rs j = subst (λ f. IsJoined s.task.now.protocol.now s.entries.now f budget r rs) formula_is j

-- ---- filters that are used
pub grows_on : (k l n : List Kept) (u v w : List Bool) → Grows k u l v → Grows l v n w → Grows k u n w
grows_on k l n u v w a b = record {
  more = a.more ++ b.more;
  is = b.is ∙ (ap (λ xs. xs ++ b.more) a.is ∙ append_assoc k a.more b.more);
  still = λ x among. b.still x (a.still x among);
}

pub keeps_grown : (k l : List Kept) (u v : List Bool) → Grows k u l v → KeepsMore k l
keeps_grown k l u v a = (a.more, a.is)

pub keeps_on : (k l n : List Kept) → KeepsMore k l → KeepsMore l n → KeepsMore k n
keeps_on k l n a b = (a.0 ++ b.0, b.1 ∙ (ap (λ xs. xs ++ b.0) a.1 ∙ append_assoc k a.0 b.0))

good_more : (p : Protocol) (mode : Mode) (g : List Formula) (f : Formula) (xs ys : List Filter) → ((x : Filter) → Contains xs x → Contains ys x)
    → Good p mode g f xs → Good p mode g f ys
good_more p mode g f xs ys still (Good.refuted x among c) = Good.refuted x (still x among) c
good_more p mode g f xs ys still (Good.follows e k) = Good.follows e k

pub goods_grow : (m : Search) (g : List Formula) (k l : List Kept) (u v : List Bool) (cs : List (List ℕ)) → Grows k u l v
    → AllByRecursion (IsGoodBy m g k u) cs → AllByRecursion (IsGoodBy m g l v) cs
goods_grow m g k l u v cs a goods =
    each-weaker (IsGoodBy m g k u) (IsGoodBy m g l v) (λ c good. good_more m.protocol m.mode g (formula_in m c) (used_filters k u) (used_filters l v)
    a.still good) cs goods

-- classes that are good do not join
pub none_of_good : (m : Search) (g : List Formula) (k : List Kept) (u : List Bool) (cs : List (List ℕ)) → m.mode ≡ Finish
    → AllByRecursion (IsGoodBy m g k u) cs → NoneJoins m.protocol m.template g cs
none_of_good m g k u cs finish goods c among j =
    let good = of_contained (IsGoodBy m g k u) cs c goods among in
    good_does_not_join m.protocol g (formula_in m c) (used_filters k u) (subst (λ mode. Good m.protocol mode g (formula_in m c) (used_filters k u)) finish
    good) j

-- a look at a class after the filters have grown
pub considered_on : {S : Type 0} (m : Search) (g : List Formula) (budget : Option ℕ) (old mid new : Hand S) (b : Class) (o : Option Found)
    → Grows old.kept old.used.items mid.kept mid.used.items
    → IsConsidered m g budget mid new b o → IsConsidered m g budget old new b o
considered_on m g budget old mid new b (Some found) a h = h
considered_on m g budget old mid new b None a h = (grows_on old.kept mid.kept new.kept old.used.items mid.used.items new.used.items a h.0, h.1)

pub considered_after : {S E : Type 0} (m : Search) (g : List Formula) (budget : Option ℕ) (old mid new : Hand S) (b : Class) (r : Result (Option Found) E)
    → Grows old.kept old.used.items mid.kept mid.used.items
    → IfOk r (IsConsidered m g budget mid new b) → IfOk r (IsConsidered m g budget old new b)
considered_after m g budget old mid new b (Ok o) a h = considered_on m g budget old mid new b o a h
considered_after m g budget old mid new b (Err e) a h = tt
