-- After the last round of one worker no class adds to the list, so it is the plain list.
use Rattle.std.specs.Prelude.{◌≡◌, ◌≢◌, ℕ, zero, suc, ◌+◌, ◌<◌, ◌≤◌, ◌==◌, nat_lt, Bool, true, false, cond, List, [], ◌∷◌, ◌++◌, map, length, take, drop, Option, Some, None, IfSome, slice_get, unwrap_or}
use Rattle.std.specs.List.{AllByRecursion, flat_map}
use Rattle.std.proofs.Common.{refl, arith, sym, ap, ◌∙◌, subst, inl, inr}
use Rattle.std.proofs.lemmas.Bool.{cases_lt, eqb-true}
use Rattle.std.proofs.lemmas.Bool.Decides.{nat_tests}
use Rattle.std.proofs.lemmas.List.{append-nil, map-append, length-append, length-map, take-append-drop}
use Rattle.std.proofs.lemmas.Option.{slice_get_within}
use Rattle.sw_lists.proofs.Each.{each-front, each-unmap, each-both, each-weaker}
use Rattle.sw_logic.specs.declared.syntax.Formula.{Formula}
use Rattle.sw_meaning.specs.declared.protocol.Protocol.{Protocol}
use Rattle.sw_meaning.specs.declared.template.Template.{Template}
use Rattle.sw_meaning.specs.Classes.{formula_of, parts}
use Rattle.sw_meaning.specs.Inductive.{Follows, Inductive}
use Rattle.sw_meaning.specs.Plain.{Adds, PlainList, Round, Until}
use Rattle.sw_meaning.specs.Plain.{formulas_of as plain_formulas}
use Rattle.sw_template.specs.Bodies.{Class}
use Rattle.sw_filter.specs.declared.filter.Filter.{Filter}
use Rattle.sw_filter.specs.declared.filter.Mode.TheVariants.{Breadth}
use Rattle.sw_filter.specs.Filters.{IsLive}
use Rattle.sw_filter.specs.Good.{Good}
use Rattle.sw_filter.proofs.Good.{good_is_not_missed, good_stays}
use Rattle.sw_log.specs.declared.entry.Entry.{Entry}
use Rattle.sw_pool.specs.declared.pool.Pool.{Pool}
use Rattle.sw_pool.specs.declared.pool.Seen.{Seen}
use Rattle.sw_pool.specs.Pools.{filter_of}
use Rattle.sw_core.specs.declared.record.Kept.{Kept}
use Rattle.sw_core.specs.declared.record.Round.{Round as Noted}
use Rattle.sw_core.specs.declared.record.Settled.{Settled}
use Rattle.sw_core.specs.Machine.{Search, AreBelow, filters_at, formula_in, parts_in}
use Rattle.sw_core.specs.Records.{times}
use Rattle.sw_core.specs.Gathered.{IsLiveBy, IsSettledBy, IsShare, Share, filters_of, formulas_of, once_below}
use Rattle.sw_core.proofs.Lists.{each_got}
use Rattle.sw_walk.specs.Parts.{classes_of}
use Rattle.sw_hand.specs.declared.hand.Handed.{Handed}
use Rattle.sw_hand.specs.Hands.{search_of, share_of}
use Rattle.sw_work.specs.declared.errors.BreadthError.{BreadthError}
use Rattle.sw_work.specs.Works.{BeginsWith, Settles, bodies_of, carried}
use Rattle.sw_breadth.specs.Joins.{IsOnItsWay, IsPlainRound, IsShared, IsWholeRound}
use Rattle.sw_breadth.specs.Records.{HaveRun, IsLiveRound, IsOnPlainWay, StaysPlain, kept_by}
use Rattle.sw_breadth.specs.Rounds.{IsOnTheWay}
use Rattle.sw_breadth.proofs.Earns.{listed_formulas}
use Rattle.sw_breadth.proofs.Passes.{L, Leads, leads_on, rests, way_on}

-- 1 for the part, and else 0
abbrev at_part : ℕ → ℕ → ℕ
at_part k j = cond (j == k) 1 0

abbrev SettledAt : (Settled → Type 0) → ℕ → Type 0
SettledAt P k = (x : Settled) × (x.part ≡ k) × P x

here_or : (P : Settled → Type 0) (k : ℕ) (x : Settled) (b : Bool) → (x.part == k) ≡ b → P x → (at_part k x.part ≡ 0 → SettledAt P k) → SettledAt P k
here_or P k x true t p rest = (x, eqb-true x.part k t, p)
here_or P k x false t p rest = rest (ap (λ (b : Bool). cond b 1 0) t)

-- a settlement of the part
settled_at : (P : Settled → Type 0) (k : ℕ) (xs : List Settled) → 1 ≤ times k (map (λ (x : Settled). x.part) xs) → AllByRecursion P xs → SettledAt P k
settled_at P k [] h a = absurd (omega arith)
settled_at P k (x ∷ xs) h a = here_or P k x (x.part == k) refl a.0 (λ none. settled_at P k xs (omega (arith, none, h)) a.1)

once_at : (k n : ℕ) → k < n → once_below k n ≡ 1
once_at k n h = grind (arith, nat_tests)

single : (hs : List Handed) → length hs ≡ 1 → (h : Handed) × (hs ≡ h ∷ [])
single [] e = absurd (omega arith)
single (h ∷ []) e = (h, refl)
single (h ∷ g ∷ hs) e = absurd (omega arith)

module _ (p : Protocol) (t : Template) (n : ℕ) where
  abbrev M : Search
  M = search_of p t Breadth n

  abbrev List_of : List Entry → L
  List_of log = classes_of (bodies_of log)

  module _ (log : List Entry) (fs : List Filter) (h : Handed) (share : IsShare M fs (formulas_of M log) 0 (share_of h))
      (live : AllByRecursion (IsLiveBy M (formulas_of M log) (fs ++ filters_of h.kept)) h.settled) where
    abbrev All_of : List Filter
    All_of = fs ++ filters_of h.kept

    abbrev LiveHere : Settled → Type 0
    LiveHere x = AllByRecursion (IsLive p Breadth (formulas_of M log)) (filters_at All_of x.by)

    abbrev Both : Settled → Type 0
    Both x = IsSettledBy M 0 (formulas_of M log) All_of x × LiveHere x

    both : AllByRecursion Both h.settled
    both = each-both (IsSettledBy M 0 (formulas_of M log) All_of) LiveHere h.settled share.settled live

    -- a class that is good by live filters does not add
    adds_not : (x : Settled) → LiveHere x → (class : List ℕ) → Good p Breadth (take x.under (formulas_of M log)) (formula_of p.signature t class) (filters_at All_of x.by) → Adds p t (List_of log) class → ⊥
    adds_not x l class good a =
        let all : take x.under (formulas_of M log) ++ drop x.under (formulas_of M log) ≡ formulas_of M log = take-append-drop x.under (formulas_of M log) in
        let f : Formula = formula_of p.signature t class in
        let now : Good p Breadth (formulas_of M log) f (filters_at All_of x.by) =
        subst (λ g. Good p Breadth g f (filters_at All_of x.by)) all
        (good_stays p Breadth (take x.under (formulas_of M log)) (drop x.under (formulas_of M log)) f (filters_at All_of x.by) good (subst (λ g. AllByRecursion (IsLive p Breadth g) (filters_at All_of x.by)) (sym all) l)) in
        let same : plain_formulas p t (List_of log) ≡ formulas_of M log = listed_formulas M log in
        a.novel (subst (λ g. Follows p g f) (sym same) (good_is_not_missed p (formulas_of M log) f (filters_at All_of x.by) now (subst (λ g. Inductive p g f) same a.inductive)))

    abbrev AddsNone : List (List ℕ) → Type 0
    AddsNone part = AllByRecursion (λ class. Adds p t (List_of log) class → ⊥) part

    none_add : ((k : ℕ) → times k (h.drawn ++ []) ≡ once_below k (length (parts p.signature t))) → AllByRecursion AddsNone (parts p.signature t)
    none_add once = each_got AddsNone (parts p.signature t) (λ k part at.
        let within = slice_get_within (parts p.signature t) k part at in
        let drawn : times k (h.drawn ++ []) ≡ times k (map (λ (x : Settled). x.part) h.settled) = ap (times k) (append-nil h.drawn ∙ sym share.in_order) in
        let one : times k (h.drawn ++ []) ≡ 1 = once k ∙ once_at k (length (parts p.signature t)) within in
        let x = settled_at Both k h.settled (omega (arith, drawn, one)) both in
        let here : unwrap_or (slice_get (parts p.signature t) x.0.part) [] ≡ part = ap (λ i. unwrap_or (slice_get (parts p.signature t) i) []) x.1 ∙ ap (λ o. unwrap_or o []) at in
        let good = subst (AllByRecursion (λ class. Good p Breadth (take x.0.under (formulas_of M log)) (formula_of p.signature t class) (filters_at All_of x.0.by))) here x.2.0.good in
        each-weaker (λ class. Good p Breadth (take x.0.under (formulas_of M log)) (formula_of p.signature t class) (filters_at All_of x.0.by)) (λ class. Adds p t (List_of log) class → ⊥)
        (λ class g. adds_not x.0 x.2.1 class g) part good)

  -- the last round leads to a list at which the plain pass rests
  last_rests : (pool : Pool) (before : ℕ) (entries log : List Entry) (rounds : List Noted) (tokens : List Seen) (hs : List Handed) → n ≡ 1 → before ≡ length tokens → HaveRun M pool entries rounds tokens
      → IsWholeRound M pool before entries log hs → IsLiveRound M before log hs → Round p t (List_of log) (List_of log)
  last_rests pool before entries log rounds tokens hs alone size run whole live =
      let fs : List Filter = filters_of (kept_by run.outcomes) in
      let count : length fs ≡ before = ap length run.filters_are ∙ (length-map tokens filter_of ∙ sym size) in
      let h = single hs (whole.workers ∙ alone) in
      let at : slice_get hs 0 ≡ Some h.0 = ap (λ (l : List Handed). slice_get l 0) h.1 in
      rests p t (List_of log)
      (none_add log fs h.0 ((whole.shares 0 h.0 at).share fs count)
      (subst (AllByRecursion (λ (x : Handed). AllByRecursion (IsLiveBy M (formulas_of M log) (fs ++ filters_of x.kept)) x.settled)) h.1 (live fs count)).0
      (λ k. ap (λ (l : List Handed). times k (flat_map (λ (x : Handed). x.drawn) l)) (sym h.1) ∙ whole.once k))

  list_long : (es : List Entry) → length (List_of es) ≡ length es
  list_long es = length-map (bodies_of es) _ ∙ length-map es _

  leads_of : (entries : List Entry) → IsOnPlainWay M entries → Leads p t (List_of entries)
  leads_of entries w = record { ahead = w.ahead; through = w.through }

  apart : (entries log : List Entry) → length entries < length log → List_of entries ≢ List_of log
  apart entries log lt e = let same : length (List_of entries) ≡ length (List_of log) = ap length e in omega (arith, same, list_long entries, list_long log)

  pub plain_more : (entries log : List Entry) → length entries < length log → StaysPlain M entries → IsPlainRound M entries log → StaysPlain M log
  plain_more entries log lt stays plain alone =
      let l = leads_on p t (List_of entries) (List_of log) (plain alone) (apart entries log lt) (leads_of entries (stays alone)) in
      record { ahead = l.ahead; through = l.through }

  no_more : (entries log : List Entry) → (new : List Entry) → log ≡ entries ++ new → length log ≤ length entries → log ≡ entries
  no_more entries log [] e le = e ∙ append-nil entries
  no_more entries log (x ∷ new) e le = let long : length log ≡ length entries + length (x ∷ new) = ap length e ∙ length-append entries (x ∷ new) in absurd (omega arith)

  pub plain_last : (pool : Pool) (before : ℕ) (entries log : List Entry) (rounds : List Noted) (tokens : List Seen) (hs : List Handed) → before ≡ length tokens → HaveRun M pool entries rounds tokens
      → IsWholeRound M pool before entries log hs → IsLiveRound M before log hs
      → StaysPlain M entries → IsPlainRound M entries log → n ≡ 1 → PlainList p t (List_of log)
  plain_last pool before entries log rounds tokens hs size run whole live stays plain alone =
      let rest : Round p t (List_of log) (List_of log) = last_rests pool before entries log rounds tokens hs alone size run whole live in
      elim (cases_lt (length entries) (length log)) [
        | inl lt ↦ (plain_more entries log lt stays plain alone).ahead (List_of log) (Until.rests rest)
        | inr le ↦
            let same : log ≡ entries = no_more entries log whole.new whole.log_is le in
            (stays alone).ahead (List_of log) (subst (λ es. Until (Round p t) (List_of es) (List_of log)) same (Until.rests rest))
      ]

  on_way : (entries : List Entry) (list : Option (List Class)) → IsOnPlainWay M entries
      → IfSome list (λ g. (h : L) → Settles p t (parts p.signature t) (List_of entries) h → BeginsWith (classes_of g) h) → IfSome list (λ g. (h : L) → PlainList p t h → BeginsWith (classes_of g) h)
  on_way entries None w f = tt
  on_way entries (Some g) w f = λ h plain. way_on p t (List_of entries) (classes_of g) (leads_of entries w) f h plain

  pub on_the_way : (entries : List Entry) (e : BreadthError) → StaysPlain M entries → IsOnItsWay M entries e → n ≡ 1 → IsOnTheWay M e
  on_the_way entries e stays way alone = on_way entries (carried e) (stays alone) (way alone)

  pub plain_none : StaysPlain M []
  plain_none alone = record { ahead = λ h u. u; through = λ h u. u }
