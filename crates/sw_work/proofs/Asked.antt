-- What a task's classes can be asked, and what an examination of one says.
use Rattle.std.specs.Prelude.{◌≡◌, ℕ, Bool, true, List, [], ◌++◌, length, take, Option, option_map, Contains, Result, Ok, Err, IfOk}
use Rattle.std.specs.List.{AllByRecursion}
use Rattle.std.proofs.Common.{rules, arith, sym, ap, ◌∙◌, subst, append_assoc}
use Rattle.std.proofs.lemmas.List.{take_at, append-nil}
use Rattle.sw_logic.specs.declared.syntax.Edge.{Edge}
use Rattle.sw_logic.specs.declared.syntax.Formula.{Formula}
use Rattle.sw_logic.specs.declared.syntax.Formula as formulas
use Rattle.sw_logic.specs.declared.syntax.Signature.{Signature}
use Rattle.sw_logic.specs.Strata.{formula_edges}
use Rattle.sw_logic.specs.declared.syntax.Formula.TheVariants.{True}
use Rattle.sw_logic.specs.declared.structure.Structure.{Structure}
use Rattle.sw_logic.specs.declared.query.Query.{Query}
use Rattle.sw_logic.specs.Queries.{IsSentence}
use Rattle.sw_meaning.specs.declared.template.Template.{Template}
use Rattle.sw_meaning.specs.Classes.{formula_of}
use Rattle.sw_meaning.specs.Inductive.{AtStart, Kept, Follows}
use Rattle.sw_queries.specs.Counterexamples.{DoesNotFollow}
use Rattle.sw_query_laws.specs.Edges.{AddsAmong}
use Rattle.sw_template.specs.Bodies.{Class}
use Rattle.sw_filter.specs.declared.filter.Filter.{Filter}
use Rattle.sw_filter.specs.Filters.{IsLive}
use Rattle.sw_examine.specs.Answers.{CanAsk}
use Rattle.sw_filter.specs.Good.{Good}
use Rattle.sw_examine.specs.Examinations.{Rejection, IsAsked}
use Rattle.sw_examine.specs.declared.examining.QueryName.{QueryName}
use Rattle.sw_log.specs.declared.entry.Entry.{Entry}
use Rattle.sw_log.specs.declared.rule.LogView.{LogView}
use Rattle.sw_core.specs.declared.record.Kept.{Kept as Keeping}
use Rattle.sw_core.specs.Machine.{Search, formula_in, parts_in}
use Rattle.sw_core.specs.Founded.{Gains}
use Rattle.sw_walk.specs.Parts.{all_classes, class_of, IsClass}
use Rattle.sw_hand.specs.declared.hand.Task.{Task}
use Rattle.sw_hand.specs.declared.hand.Hand.{Hand}
use Rattle.sw_hand.specs.Hands.{Rejects, IsView, IsHand, AreTokens, Grows}
use Rattle.sw_work.specs.declared.bench.Bench.{Bench}
use Rattle.sw_work.specs.declared.considering.Tried.{Tried}
use Rattle.sw_work.specs.declared.considering.Tried.TheVariants as tried
use Rattle.sw_work.specs.Works.{AskedUnder, bodies_of, seen_formulas}
use Rattle.sw_work.specs.Steps.{CanWork, Holds, IsGoodNow, IsTried, KeepsMore, searched}
use Rattle.sw_work.proofs.Rows.{take_whole}
use Rattle.sw_work.proofs.Seen.{each_formula}

pub grows_none : (kept : List Keeping) (used : List Bool) → Grows kept used kept used
grows_none kept used = record { more = []; is = sym (append-nil kept); still = λ x h. h }

grows_on : (a : List Keeping) (p : List Bool) (b : List Keeping) (q : List Bool) (c : List Keeping) (r : List Bool) → Grows a p b q → Grows b q c r → Grows a p c r
grows_on a p b q c r f g = record {
  more = f.more ++ g.more;
  is = g.is ∙ (ap (λ (l : List Keeping). l ++ g.more) f.is ∙ append_assoc a f.more g.more);
  still = λ x h. g.still x (f.still x h);
}

pub keeps_of : (a : List Keeping) (p : List Bool) (b : List Keeping) (q : List Bool) → Grows a p b q → KeepsMore a b
keeps_of a p b q g = (g.more, g.is)

pub keeps_on : (a b c : List Keeping) → KeepsMore a b → KeepsMore b c → KeepsMore a c
keeps_on a b c f g = (f.0 ++ g.0, g.1 ∙ (ap (λ (l : List Keeping). l ++ g.0) f.1 ∙ append_assoc a f.0 g.0))

pub keeps_same : (a b : List Keeping) → b ≡ a → KeepsMore a b
keeps_same a b e = ([], e ∙ sym (append-nil a))

-- what a look comes to, after the hand has grown
pub tried_on : {S : Type 0} (m : Search) (v w : LogView) (old mid new : Bench S) (b : Class) (t : Tried) → Grows old.hand.kept old.hand.used.items mid.hand.kept mid.hand.used.items
    → IsTried m v w mid new b t → IsTried m v w old new b t
tried_on m v w old mid new b tried.Good g h = (
  h.0,
  record {
    grows = grows_on old.hand.kept old.hand.used.items mid.hand.kept mid.hand.used.items new.hand.kept new.hand.used.items g h.1.grows;
    good = h.1.good;
  },
)
tried_on m v w old mid new b tried.Added g h = h
tried_on m v w old mid new b tried.Behind g h = h

pub if_ok : {A E : Type 0} (P Q : A → Type 0) → ((x : A) → P x → Q x) → (r : Result A E) → IfOk r P → IfOk r Q
if_ok P Q f (Ok x) h = f x h
if_ok P Q f (Err e) h = tt

true_sorted : (sig : Signature) → IsSentence sig True
true_sorted sig = search (rules, formulas.the_lemmas)

true_adds : (extra : List Edge) → AddsAmong extra true True
true_adds extra = let none : formula_edges True true ≡ [] = search (rules, formulas.the_lemmas) in subst (AllByRecursion (Contains extra)) (sym none) tt

abbrev pub cubes_in : Option Class → Option (List ℕ)
cubes_in o = option_map (λ b. b.cubes) o

-- the class of a body of one template
class_is : (b : Class) → b.template ≡ 0 → b ≡ class_of b.cubes
class_is b e = ap (λ n. record { template = n; cubes = b.cubes }) e

module _ {S : Type 0} (template : S → Template) (lists : S → List (List (List ℕ))) (Has : S → Class → Type 0) (formula : S → Class → Formula) (task : Task S) (budget : Option ℕ) (can : CanWork template lists Has formula task budget) where
  abbrev m : Search
  m = searched template task

  abbrev s : S
  s = task.space.now

  pub has_it : (b : Class) → IsClass (lists s) b → Has s b
  has_it b k = subst (Has s) (sym (class_is b k.single)) (can.can.has b.cubes k.among)

  pub formula_is : (b : Class) → IsClass (lists s) b → formula s b ≡ formula_in m b.cubes
  formula_is b k = ap (formula s) (class_is b k.single) ∙ can.can.formulas b.cubes k.among

  pub class_at : (b : Class) → IsClass (lists s) b → IsClass (parts_in m) b
  class_at b k = subst (λ qs. IsClass qs b) can.can.are_parts k

  pub class_in : (b : Class) → IsClass (parts_in m) b → IsClass (lists s) b
  class_in b k = subst (λ qs. IsClass qs b) (sym can.can.are_parts) k

  each_class : (P : Formula → Type 0) → ((c : List ℕ) → Contains (all_classes (lists s)) c → P (formula_of task.protocol.now.signature (template s) c)) → (c : List ℕ) → Contains (all_classes (parts_in m)) c → P (formula_in m c)
  each_class P each c h = each c (subst (λ qs. Contains (all_classes qs) c) (sym can.can.are_parts) h)

  pub can_ask : (g : List Formula) (seen : List Entry) (b : Class) → g ≡ seen_formulas m seen → IsClass (lists s) b → CanAsk task.protocol.now g (formula s b)
  can_ask g seen b e k =
      let is = formula_is b k in
      subst (CanAsk task.protocol.now g) (sym is) (subst (λ x. CanAsk task.protocol.now x (formula_in m b.cubes)) (sym e) (record {
        extra = can.can.extra;
        stratified = can.can.stratified;
        list_sorted = each_formula m (IsSentence task.protocol.now.signature) (true_sorted task.protocol.now.signature) (each_class (IsSentence task.protocol.now.signature) can.can.sorted) seen;
        list_edges = each_formula m (AddsAmong can.can.extra true) (true_adds can.can.extra) (each_class (AddsAmong can.can.extra true) can.can.edges) seen;
        sorted = can.can.sorted b.cubes k.among;
        edges = can.can.edges b.cubes k.among;
        denied_edges = can.can.denied_edges b.cubes k.among;
      }))

  pub gains_of : (g : List Formula) (b : Class) → IsClass (lists s) b → AtStart task.protocol.now (formula s b) → Kept task.protocol.now g (formula s b) → (x : Structure) → DoesNotFollow task.protocol.now g (formula s b) x → Gains m g (formula_in m b.cubes)
  gains_of g b k start kept x d =
      let is = formula_is b k in
      let not_true = subst (λ f. DoesNotFollow task.protocol.now g f x) is d in
      record {
        breadth = can.breadth;
        in_space = can.can.in_space b.cubes k.among;
        inductive = record { start = subst (AtStart task.protocol.now) is start; kept = subst (Kept task.protocol.now g) is kept };
        novel = λ follows. not_true.false_in (follows x not_true.fits not_true.axioms not_true.list);
      }

  pub rejects_of : (g : List Formula) (b : Class) (x : Filter) → IsClass (lists s) b → Rejection task.protocol.now g (formula s b) x → Rejects m g b.cubes x
  rejects_of g b x k r =
      let at = subst (λ f. Rejection task.protocol.now g f x) (formula_is b k) r in
      record { admitted = at.admitted; live = subst (λ d. IsLive task.protocol.now d g x) (sym can.breadth) at.live; refutes = at.refutes }

  -- a query under all that was seen
  pub asked_under : (seen : List Entry) (fs : List Formula) (b : Class) (list : List Class) (name : QueryName) (Met : Query → Type 0) (q : Query) → IsClass (lists s) b → fs ≡ seen_formulas m seen → list ≡ bodies_of seen
      → IsAsked task.protocol.now fs (formula s b) b q name → Met q → AskedUnder m seen list name Met
  asked_under seen fs b list name Met q k e l asked met =
      let whole : seen ≡ take (length seen) seen = sym (take_whole seen (length seen) (omega arith)) in
      record {
        n = length seen;
        is = l ∙ ap bodies_of whole;
        body = b;
        class = class_at b k;
        query = q;
        asked = subst (λ es. IsAsked task.protocol.now (seen_formulas m es) (formula_in m b.cubes) b q name) whole
            (subst (λ g. IsAsked task.protocol.now g (formula_in m b.cubes) b q name) e (subst (λ f. IsAsked task.protocol.now fs f b q name) (formula_is b k) asked));
        met = met;
      }

  pub good_follows : (b : Class) (x y : Bench S) → IsClass (lists s) b → x ≡ y → Follows task.protocol.now y.formulas (formula s b) → IsGoodNow m x y b.cubes
  good_follows b x y k e f = subst (λ z. IsGoodNow m z y b.cubes) (sym e) (record { grows = grows_none y.hand.kept y.hand.used.items; good = Good.follows can.breadth (subst (Follows task.protocol.now y.formulas) (formula_is b k) f) })

-- ---- the filters under formulas
pub take_front : (k : List Formula) (n : ℕ) (g h : List Formula) → h ≡ g ++ k → n ≡ length g → take n h ≡ g
take_front k n g h e l = ap (take n) e ∙ take_at g k n (sym l)

pub holds_at : {S : Type 0} (template : S → Template) (task : Task S) (formulas slice : List Formula) (h : Hand S) → slice ≡ formulas
    → IsView (searched template task) task.space.now slice h.mine.protocol.now h.mine.space.now h.mine.mode h.mine.advanced h.mine.shown.items
    → IsView (searched template task) task.space.now slice h.others.protocol.now h.others.space.now h.others.mode h.others.advanced h.others.shown.items
    → IsHand (searched template task) task.pool.now task.worker slice h.mine.shown.items h.kept h.tokens.items h.used.items
    → AreTokens task.pool.now h.found.items h.others.shown.items → Holds template task formulas h
holds_at template task formulas slice h e a b k d = subst (λ fs. Holds template task fs h) e (record { mine = a; others = b; held = k; finds = d })
