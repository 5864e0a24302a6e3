-- What is known of the log of a round once its workers were joined.
use Rattle.std.specs.Prelude.{◌≡◌, ℕ, zero, suc, ◌+◌, ◌<◌, ◌≤◌, ◌==◌, Bool, true, false, cond, nat_lt, List, [], ◌∷◌, ◌++◌, map, length, take, drop, Option, Some, slice_get, Contains, Result, Ok, Err, IfOk, IfErr}
use Rattle.std.specs.List.{AllByRecursion, list_any, flat_map}
use Rattle.std.proofs.Common.{refl, arith, sym, ap, ◌∙◌, subst, eq-eqb, inl, inr}
use Rattle.std.proofs.lemmas.Bool.{and_from, cond-true, cases_lt, eqb-true}
use Rattle.std.proofs.lemmas.List.{map-append, length-map, take-map}
use Rattle.std.proofs.lemmas.Bool.Decides.{nat_tests}
use Rattle.std.proofs.lemmas.Option.{none-some, same_Some, slice_get_within}
use mathlib.Core.Option.{some}
use lib.ListN.{get_elem?}
use Rattle.sw_lists.proofs.Each.{each-append, each-weaker}
use Rattle.sw_lists.proofs.Places.{get_append_right}
use Rattle.sw_lists.proofs.Tests.{any_true}
use Rattle.sw_logic.specs.declared.syntax.Formula.{Formula}
use Rattle.sw_logic.specs.declared.syntax.Formula.TheVariants.{True}
use Rattle.sw_claims.specs.ClaimsAnswers.{IsEachBelow}
use Rattle.sw_claims.specs.ClaimsRule.{times as claim_times}
use Rattle.sw_log.specs.declared.entry.Entry.{Entry}
use Rattle.sw_log.specs.declared.rule.LogView.{LogView}
use Rattle.sw_log.specs.LogRule.{times_at, Placed, HoldsEach}
use Rattle.sw_log.specs.LogRule.{once_below as log_once}
use Rattle.sw_core.specs.Machine.{Search, formula_in, parts_in}
use Rattle.sw_core.specs.Founded.{Gains}
use Rattle.sw_core.specs.Records.{times}
use Rattle.sw_core.specs.Gathered.{AreGained, formulas_of, once_below}
use Rattle.sw_core.proofs.Lists.{each_got}
use Rattle.sw_core.proofs.Shares.{each_gained}
use Rattle.sw_walk.specs.Parts.{all_classes, IsClass}
use Rattle.sw_pool.specs.declared.pool.Pool.{Pool}
use Rattle.sw_hand.specs.declared.hand.Handed.{Handed}
use Rattle.sw_work.specs.declared.errors.BreadthError.{BreadthError}
use Rattle.sw_work.specs.Works.{IsCause, is_listed, same_class, entry_formula, seen_formulas}
use Rattle.sw_breadth.specs.declared.sharing.Places.{Places}
use Rattle.sw_breadth.specs.declared.joining.Joined.{Joined}
use Rattle.sw_breadth.specs.declared.joining.Joined.TheVariants as came
use Rattle.sw_breadth.specs.declared.working.Ended.{Ended}
use Rattle.sw_breadth.specs.Joins.{AreShared, AreWhole, IsClosable, IsClosed, IsOwned, IsOwner, IsWholeRound, IsCauseOfRound}

same_itself : (c : List ℕ) → same_class c c ≡ true
same_itself [] = refl
same_itself (x ∷ c) = and_from (x == x) (same_class c c) (eq-eqb x x refl) (same_itself c)

-- the two counts are one
times_same : (x : ℕ) (xs : List ℕ) → times x xs ≡ claim_times x xs
times_same x [] = refl
times_same x (y ∷ ys) = ap (λ n. (cond (y == x) 1 0) + n) (times_same x ys)

-- 1 for the place i, and else 0
abbrev here_at : ℕ → ℕ → ℕ
here_at i j = cond (j == i) 1 0

abbrev Found : (Entry → Type 0) → ℕ → Type 0
Found P i = (e : Entry) × (e.under ≡ i) × P e

here_or : (P : Entry → Type 0) (i : ℕ) (e : Entry) (b : Bool) → (e.under == i) ≡ b → P e → (here_at i e.under ≡ 0 → Found P i) → Found P i
here_or P i e true t p rest = (e, eqb-true e.under i t, p)
here_or P i e false t p rest = rest (ap (λ (b : Bool). cond b 1 0) t)

-- an entry that names the place
found_at : (P : Entry → Type 0) (i : ℕ) (es : List Entry) → 1 ≤ times_at i es → AllByRecursion P es → Found P i
found_at P i [] h a = absurd (omega arith)
found_at P i (e ∷ es) h a = here_or P i e (e.under == i) refl a.0 (λ none. found_at P i es (omega (arith, none, h)) a.1)

times-append : (i : ℕ) (xs ys : List Entry) → times_at i (xs ++ ys) ≡ times_at i xs + times_at i ys
times-append i [] ys = omega arith
times-append i (x ∷ xs) ys = let r = times-append i xs ys in omega arith

-- entries that stand at their places from n on name none before n
none_before : (i n : ℕ) (xs : List Entry) → ((k : ℕ) (e : Entry) → get_elem? xs k ≡ some e → e.under ≡ n + k) → n + length xs ≤ i → times_at i xs ≡ 0
none_before i n [] placed h = refl
none_before i n (x ∷ xs) placed h =
    let here : x.under ≡ n + 0 = placed 0 x refl in
    let apart : here_at i x.under ≡ 0 = grind (arith, nat_tests) in
    let rest : times_at i xs ≡ 0 = none_before i (n + 1) xs (λ k e at. placed (suc k) e at ∙ omega arith) (omega arith) in
    omega (arith, apart, rest)

once_at : (i n : ℕ) → i < n → log_once i n ≡ 1
once_at i n h = grind (arith, nat_tests)

module _ (m : Search) where
  abbrev pub Listed : Entry → Type 0
  Listed e = IsClass (parts_in m) e.body

  formula_of_class : (e : Entry) → Listed e → entry_formula m e ≡ formula_in m e.body.cubes
  formula_of_class e k =
      cond-true (is_listed m e.body) (formula_in m e.body.cubes) True
      (and_from (e.body.template == 0) (list_any (same_class e.body.cubes) (all_classes (parts_in m))) (eq-eqb e.body.template 0 k.single) (any_true (same_class e.body.cubes) (all_classes (parts_in m)) e.body.cubes k.among (same_itself e.body.cubes)))

  -- the formulas of classes
  pub seen_listed : (es : List Entry) → AllByRecursion Listed es → seen_formulas m es ≡ formulas_of m es
  seen_listed [] k = refl
  seen_listed (e ∷ es) k = ap (λ f. f ∷ seen_formulas m es) (formula_of_class e k.0) ∙ ap (λ fs. formula_in m e.body.cubes ∷ fs) (seen_listed es k.1)

  -- the log of the round, and what it gained
  pub record IsEnd (entries log : List Entry) : Type 0 where
    pub new : List Entry
    pub log_is : log ≡ entries ++ new
    pub gained : AreGained m (formulas_of m entries) new
    pub classes : AllByRecursion Listed new

  module _ (entries : List Entry) (v : LogView) (placed : Placed entries) (o : IsOwner m entries v) (holds : HoldsEach v.own v.seen) where
    abbrev New : List Entry
    New = o.begins.0

    -- each new entry is one that some worker gained
    new_owned : (k : ℕ) (e : Entry) → slice_get New k ≡ Some e → IsOwned m v.seen e × (e.under ≡ length entries + k)
    new_owned k e at =
        let i : ℕ = length entries + k in
        let there : slice_get v.seen i ≡ Some e = subst (λ l. slice_get l i ≡ Some e) o.begins.1 (get_append_right entries New k ∙ at) in
        let within : i < length v.seen = slice_get_within v.seen i e there in
        let all : times_at i v.own ≡ 1 = holds.once i ∙ once_at i (length v.seen) within in
        let split : times_at i v.own ≡ times_at i entries + times_at i o.more = ap (times_at i) o.own_are ∙ times-append i entries o.more in
        let none : times_at i entries ≡ 0 = none_before i 0 entries (λ k e at. placed k e at ∙ omega arith) (omega arith) in
        let found = found_at (IsOwned m v.seen) i o.more (omega (arith, all, split, none)) o.each in
        let same : found.0 ≡ e = same_Some found.0 e (sym (subst (λ n. slice_get v.seen n ≡ Some found.0) found.1 found.2.at) ∙ there) in
        (subst (IsOwned m v.seen) same found.2, sym (ap (λ (x : Entry). x.under) same) ∙ found.1)

    pub ended : AllByRecursion Listed entries → IsEnd entries v.seen
    ended listed =
        let classes : AllByRecursion Listed New = each_got Listed New (λ k e at. (new_owned k e at).0.class) in
        let old : seen_formulas m entries ≡ formulas_of m entries = seen_listed entries listed in
        let all : seen_formulas m v.seen ≡ formulas_of m entries ++ formulas_of m New =
        ap (seen_formulas m) (sym o.begins.1) ∙ (map-append (entry_formula m) entries New
        ∙ (ap (λ l. l ++ seen_formulas m New) old ∙ ap (λ l. formulas_of m entries ++ l) (seen_listed New classes))) in
        record {
          new = New;
          log_is = sym o.begins.1;
          gained = each_gained m (formulas_of m entries) New (λ k e at.
              let own = new_owned k e at in
              let size : length (formulas_of m entries) ≡ length entries = length-map entries _ in
              let place : e.under ≡ length (formulas_of m entries) + k = omega (arith, own.1, size) in
              let front : seen_formulas m (take e.under v.seen) ≡ take (length (formulas_of m entries) + k) (formulas_of m entries ++ formulas_of m New) =
              sym (take-map (entry_formula m) e.under v.seen) ∙ (ap (take e.under) all ∙ ap (λ n. take n (formulas_of m entries ++ formulas_of m New)) place) in
              (own.0.by_worker, subst (λ l. Gains m l (formula_in m e.body.cubes)) front own.0.gains));
          classes = classes;
        }

  -- a whole round
  pub whole_round : (pool : Pool) (budget : Option ℕ) (before n : ℕ) (entries log : List Entry) (w : Places) (hs : List Handed) → 1 ≤ m.workers → Placed entries → AllByRecursion Listed entries
      → IsClosable m pool budget entries before w (came.Whole hs) → IsEachBelow n w.claim.view.drawn → (1 ≤ w.claim.view.ends → n ≡ w.claim.view.parts)
      → Placed log → HoldsEach w.log.view.own log → log ≡ w.log.view.seen → IsWholeRound m pool before entries log hs
  whole_round pool budget before n entries log w hs least placed listed h below whole placed_log holds is =
      let v = w.log.view in
      let end : IsEnd entries v.seen = ended entries v placed h.owner (subst (HoldsEach v.own) is holds) listed in
      let all : n ≡ length (parts_in m) = whole (h.answers.ended least) ∙ h.parts_are in
      let listed_log : AllByRecursion Listed log = subst (AllByRecursion Listed) (sym (is ∙ end.log_is)) (each-append Listed entries end.new listed end.classes) in
      record {
        new = end.new;
        log_is = is ∙ end.log_is;
        placed = placed_log;
        gained = end.gained;
        classes = end.classes;
        workers = h.answers.count;
        once = λ x. ap (times x) (sym h.answers.drawn_are) ∙ (times_same x w.claim.view.drawn ∙ (below.once x ∙ ap (once_below x) all));
        shares = subst (λ l. AreShared m pool before (length entries) l hs) (ap (seen_formulas m) (sym is) ∙ seen_listed log listed_log) h.answers.shares;
      }

  -- the error's cause
  pub cause_of_round : (budget : Option ℕ) (entries : List Entry) (v : LogView) (e : BreadthError) → Placed entries → AllByRecursion Listed entries → IsOwner m entries v → HoldsEach v.own v.seen → IsCause m budget v.seen e → IsCauseOfRound m budget entries e
  cause_of_round budget entries v e placed listed o holds cause =
      let end : IsEnd entries v.seen = ended entries v placed o holds listed in
      record { new = end.new; gained = end.gained; classes = end.classes; cause = subst (λ l. IsCause m budget l e) end.log_is cause }

  -- what is closed
  pub closed_whole : (pool : Pool) (budget : Option ℕ) (before : ℕ) (entries : List Entry) (w : Places) (j : Joined) → 1 ≤ m.workers → Placed entries → AllByRecursion Listed entries → IsClosable m pool budget entries before w j
      → (r : Result Ended BreadthError) → IfOk r (λ (x : Ended). IsClosed w j x.log.items x.shares) → IfOk r (λ (x : Ended). IsWholeRound m pool before entries x.log.items x.shares)
  closed_whole pool budget before entries w j least placed listed h (Err e) c = tt
  closed_whole pool budget before entries w j least placed listed h (Ok x) c =
      whole_round pool budget before c.drawn entries x.log.items w x.shares least placed listed (subst (IsClosable m pool budget entries before w) c.joined_is h) c.below c.whole c.placed c.holds c.log_is

  pub closed_cause : (pool : Pool) (budget : Option ℕ) (before : ℕ) (entries : List Entry) (w : Places) (j : Joined) → Placed entries → AllByRecursion Listed entries → IsClosable m pool budget entries before w j
      → (r : Result Ended BreadthError) → IfErr r (λ e. (j ≡ came.Failed e) × HoldsEach w.log.view.own w.log.view.seen) → IfErr r (IsCauseOfRound m budget entries)
  closed_cause pool budget before entries w j placed listed h (Ok x) c = tt
  closed_cause pool budget before entries w j placed listed h (Err e) c =
      let k : IsClosable m pool budget entries before w (came.Failed e) = subst (IsClosable m pool budget entries before w) c.0 h in
      cause_of_round budget entries w.log.view e placed listed k.owner c.1 k.answers
