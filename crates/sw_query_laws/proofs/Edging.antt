-- The edges of a query lie among those of its protocol and of the formulas that it asks about.
use Rattle.std.specs.Prelude.{◌≡◌, ℕ, ◌+◌, ◌-◌, ◌<◌, ◌≤◌, ◌==◌, Bool, true, false, List, [], ◌∷◌, ◌++◌, length, map, Option, Some, None, slice_get, slice_index, Contains, if◌then◌else◌}
use Rattle.std.specs.List.{AllByRecursion, flat_map}
use Rattle.std.specs.Option.{IfSome}
use Rattle.std.proofs.Common.{rules, arith, refl, sym, ap, subst, ◌∙◌, inl, inr}
use Rattle.std.proofs.lemmas.Bool.{lt-ltb, le-ltb, cases_lt}
use Rattle.std.proofs.lemmas.List.{append-nil, length-map}
use Rattle.std.proofs.lemmas.List.Elements.{Contains-append_left, Contains-append_right}
use Rattle.sw_logic.specs.declared.syntax.Symbol.{Symbol}
use Rattle.sw_logic.specs.declared.syntax.Binder.{Binder}
use Rattle.sw_logic.specs.declared.syntax.Edge.{Edge}
use Rattle.sw_logic.specs.declared.syntax.Term as terms
use Rattle.sw_logic.specs.declared.syntax.Term.TheVariants.{Variable, Apply}
use Rattle.sw_logic.specs.declared.syntax.Formula as formulas
use Rattle.sw_logic.specs.declared.syntax.Formula.{Formula}
use Rattle.sw_logic.specs.declared.syntax.Formula.TheOpen.{Formula-F}
use Rattle.sw_logic.specs.declared.syntax.Formula.TheVariants.{Not, All}
use Rattle.sw_logic.specs.declared.query.Polar.{Polar}
use Rattle.sw_logic.specs.declared.query.Query.{Query}
use Rattle.sw_logic.specs.Terms.{has}
use Rattle.sw_logic.specs.Strata.{Part, part_step, symbol_edges, function_edges, formula_edges}
use Rattle.sw_meaning.specs.declared.protocol.Protocol.{Protocol}
use Rattle.sw_meaning.specs.declared.protocol.Transition.{Transition}
use Rattle.sw_lists.proofs.Each.{each-append, each-front, each-back, each-map, each-unmap, each-weaker, each-flat_map, each-unflat_map, each-contained, of_contained, each-at}
use Rattle.sw_renaming.specs.declared.renaming.Moment.TheVariants.{Before, Across, After}
use Rattle.sw_renaming.specs.Renamed.{constant_of, variable_at, renamed}
use Rattle.sw_renaming.specs.Symbols.{copies_of, with_symbol, constant_for}
use Rattle.sw_queries.specs.Queries.{state_query, across_query, join_query_of}
use Rattle.sw_meaning.specs.Edges.{asserted, denied, chosen, polars_of, protocol_edges}
use Rattle.sw_query_laws.specs.Edges.{query_edges, AreAmong, AddsAmong}
use Rattle.sw_query_laws.specs.Laws.{QueriesAddNoEdges, RanksRiseAmong}
use Rattle.sw_query_laws.proofs.KeepsEdges.{strata_of, IsShifted, renamed_edges}

-- ---- what formulas add
not_adds : (all : List Edge) (f : Formula) → AddsAmong all false f → AddsAmong all true (Not f)
not_adds all f h =
    let step : strata_of (Not f) ≡ part_step (Formula-F.Not (strata_of f)) = search (rules, formulas.the_lemmas) in
    subst (λ (q : Part). AreAmong (q.edges true []) all) (sym step) h

all_adds : (all : List Edge) (c : Bool) (fs : List Formula) → AllByRecursion (AddsAmong all c) fs → AddsAmong all c (All fs)
all_adds all c fs h =
    let step : strata_of (All fs) ≡ part_step (Formula-F.All (map strata_of fs)) = search (rules, formulas.the_lemmas) in
    subst (λ (q : Part). AreAmong (q.edges c []) all) (sym step)
    (each-flat_map (Contains all) (λ (q : Part). q.edges c []) (map strata_of fs) (each-map (λ (q : Part). AreAmong (q.edges c []) all) strata_of fs h))

wider : (first extra : List Edge) (c : Bool) (f : Formula) → AddsAmong extra c f → AddsAmong (first ++ extra) c f
wider first extra c f h = each-weaker (Contains extra) (Contains (first ++ extra)) (Contains-append_right first extra) (formula_edges f c) h

each_wider : (first extra : List Edge) (c : Bool) (fs : List Formula) → AllByRecursion (AddsAmong extra c) fs → AllByRecursion (AddsAmong (first ++ extra) c) fs
each_wider first extra c = each-weaker (AddsAmong extra c) (AddsAmong (first ++ extra) c) (wider first extra c)

-- what a symbol adds is among these edges
abbrev SymbolAddsAmong : List Edge → Symbol → Type 0
SymbolAddsAmong all s = AreAmong (symbol_edges s.kind s.args s.gives) all

query_among : (all : List Edge) (q : Query) → AllByRecursion (SymbolAddsAmong all) q.signature.symbols → AllByRecursion (AddsAmong all true) q.sentences → AreAmong (query_edges q) all
query_among all q h k =
    let part : Polar → List Edge = λ (x : Polar). formula_edges x.formula x.positive in
    each-append (Contains all) (function_edges q.signature.symbols) (flat_map part (map asserted q.sentences))
    (each-flat_map (Contains all) (λ (s : Symbol). symbol_edges s.kind s.args s.gives) q.signature.symbols h)
    (each-flat_map (Contains all) part (map asserted q.sentences) (each-map (λ (x : Polar). AreAmong (part x) all) asserted q.sentences k))

-- ---- what a protocol's parts add
record Among (p : Protocol) (all : List Edge) : Type 0 where
  symbols : AllByRecursion (SymbolAddsAmong all) p.signature.symbols
  axioms : AllByRecursion (AddsAmong all true) p.axioms
  inits : AllByRecursion (AddsAmong all true) p.inits
  transitions : AllByRecursion (λ t. AddsAmong all true (chosen t)) p.transitions
  safeties : AllByRecursion (AddsAmong all true) p.safeties
  unsafe : AllByRecursion (AddsAmong all false) p.safeties

among : (p : Protocol) (extra : List Edge) → Among p (protocol_edges p ++ extra)
among p extra =
    let all = protocol_edges p ++ extra in
    let part : Polar → List Edge = λ (x : Polar). formula_edges x.formula x.positive in
    let P : Polar → Type 0 = λ (x : Polar). AreAmong (part x) all in
    let functions = function_edges p.signature.symbols in
    let rest = flat_map part (polars_of p) in
    let whole : AreAmong (functions ++ rest) all = each-weaker (Contains (protocol_edges p)) (Contains all) (Contains-append_left (protocol_edges p) extra) (protocol_edges p) (each-contained (protocol_edges p)) in
    let a = map asserted p.axioms in
    let i = map asserted p.inits in
    let t = map (λ u. asserted (chosen u)) p.transitions in
    let s = flat_map (λ f. asserted f ∷ denied f ∷ []) p.safeties in
    let parts : AllByRecursion P (a ++ i ++ t ++ s) = each-unflat_map (Contains all) part (polars_of p) (each-back (Contains all) functions rest whole) in
    let three = each-front P (a ++ i ++ t) s parts in
    let two = each-front P (a ++ i) t three in
    let signs = each-unflat_map P (λ f. asserted f ∷ denied f ∷ []) p.safeties (each-back P (a ++ i ++ t) s parts) in
    let Both : Formula → Type 0 = λ f. AllByRecursion P (asserted f ∷ denied f ∷ []) in
    record {
      symbols = each-unflat_map (Contains all) (λ (x : Symbol). symbol_edges x.kind x.args x.gives) p.signature.symbols (each-front (Contains all) functions rest whole);
      axioms = each-unmap P asserted p.axioms (each-front P a i two);
      inits = each-unmap P asserted p.inits (each-back P a i two);
      transitions = each-unmap P (λ u. asserted (chosen u)) p.transitions (each-back P (a ++ i) t three);
      safeties = each-weaker Both (AddsAmong all true) (λ f h. h.0) p.safeties signs;
      unsafe = each-weaker Both (AddsAmong all false) (λ f h. h.1.0) p.safeties signs;
    }

-- a query without a step
state_among : (p : Protocol) (extra : List Edge) (g : List Formula) (f : Formula) → AllByRecursion (AddsAmong (protocol_edges p ++ extra) true) g → AddsAmong (protocol_edges p ++ extra) false f
    → AreAmong (query_edges (state_query p g f)) (protocol_edges p ++ extra)
state_among p extra g f h k =
    let all = protocol_edges p ++ extra in
    let parts = among p extra in
    query_among all (state_query p g f) parts.symbols
    (each-append (AddsAmong all true) (p.axioms ++ g) (Not f ∷ []) (each-append (AddsAmong all true) p.axioms g parts.axioms h) (not_adds all f k, tt))

-- ---- the symbols of a step
copy_among : (P : Symbol → Type 0) (o : Option Symbol) (rest : List Symbol) → ((x : Symbol) → o ≡ Some x → P x) → AllByRecursion P rest → AllByRecursion P (with_symbol o rest)
copy_among P None rest h k = k
copy_among P (Some x) rest h k = (h x refl, k)

copies_among : (P : Symbol → Type 0) (symbols : List Symbol) → AllByRecursion P symbols → (ms : List ℕ) → AllByRecursion P (copies_of symbols ms)
copies_among P symbols h [] = tt
copies_among P symbols h (m ∷ ms) = copy_among P (slice_get symbols m) (copies_of symbols ms) (λ x e. each-at P symbols m x e h) (copies_among P symbols h ms)

constants_among : (all : List Edge) (bs : List Binder) → AllByRecursion (SymbolAddsAmong all) (map constant_for bs)
constants_among all [] = tt
constants_among all (b ∷ bs) = (tt, constants_among all bs)

-- ---- the sentences of a step
abbrev nothing : List Binder → List (List ℕ)
nothing bs = map (λ (b : Binder). []) bs

nothing_is : (bs : List Binder) → AllByRecursion (λ (ds : List ℕ). ds ≡ []) (nothing bs)
nothing_is [] = tt
nothing_is (b ∷ bs) = (refl, nothing_is bs)

has-Variable : (x v : ℕ) → has x (Variable v) ≡ (v == x)
has-Variable x v = search (rules, terms.the_lemmas)

plain_variable : (x v : ℕ) → has x (Variable v) ≡ (v == 0 + x)
plain_variable x v = let e : x ≡ 0 + x = omega arith in has-Variable x v ∙ ap (λ n. v == n) e

number_differs : (v n x : ℕ) → v < n → (v == n + x) ≡ false
number_differs v n x h = grind arith

number_moves : (v n x : ℕ) → n ≤ v → (v - n == x) ≡ (v == n + x)
number_moves v n x h = grind arith

module _ (p : Protocol) (t : Transition) where
  before_shifted : IsShifted p t Before []
  before_shifted = record { none = tt; variables = plain_variable }

  after_shifted : IsShifted p t After []
  after_shifted = record { none = tt; variables = plain_variable }

  count : length (nothing t.params) ≡ length t.params
  count = length-map t.params (λ (b : Binder). [])

  across_variable : (x v : ℕ) → has x (variable_at p t Across v) ≡ (v == length (nothing t.params) + x)
  across_variable x v = elim (cases_lt v (length t.params)) [
    | inl below ↦
        let none : has x (Apply (constant_of p t v) false []) ≡ false = search (rules, terms.the_lemmas) in
        ap (λ b. has x (if b then Apply (constant_of p t v) false [] else Variable (v - length t.params))) (lt-ltb v (length t.params) below)
        ∙ (none ∙ (sym (number_differs v (length t.params) x below) ∙ ap (λ n. v == n + x) (sym count)))
    | inr past ↦
        ap (λ b. has x (if b then Apply (constant_of p t v) false [] else Variable (v - length t.params))) (le-ltb v (length t.params) past)
        ∙ (has-Variable x (v - length t.params) ∙ (number_moves v (length t.params) x past ∙ ap (λ n. v == n + x) (sym count)))
  ]

  across_shifted : IsShifted p t Across (nothing t.params)
  across_shifted = record { none = nothing_is t.params; variables = across_variable }

  before_adds : (all : List Edge) (f : Formula) → AddsAmong all true f → AddsAmong all true (renamed p t Before f)
  before_adds all f h = subst (λ (es : List Edge). AreAmong es all) (sym (renamed_edges p t Before [] before_shifted f true [])) h

  after_adds : (all : List Edge) (f : Formula) → AddsAmong all false f → AddsAmong all false (renamed p t After f)
  after_adds all f h = subst (λ (es : List Edge). AreAmong es all) (sym (renamed_edges p t After [] after_shifted f false [])) h

  across_adds : (all : List Edge) → AddsAmong all true (chosen t) → AddsAmong all true (renamed p t Across t.formula)
  across_adds all h =
      let step : strata_of (chosen t) ≡ part_step (Formula-F.Exists t.params (strata_of t.formula)) = search (rules, formulas.the_lemmas) in
      let same : (strata_of (renamed p t Across t.formula)).edges true [] ≡ (strata_of t.formula).edges true (nothing t.params) =
      renamed_edges p t Across (nothing t.params) across_shifted t.formula true [] ∙ ap ((strata_of t.formula).edges true) (append-nil (nothing t.params)) in
      subst (λ (es : List Edge). AreAmong es all) (sym same) (subst (λ (q : Part). AreAmong (q.edges true []) all) step h)

  across_among : (extra : List Edge) (before : List Formula) (after : Formula) → Contains p.transitions t → AllByRecursion (AddsAmong (protocol_edges p ++ extra) true) before
      → AddsAmong (protocol_edges p ++ extra) false after → AreAmong (query_edges (across_query p t before after)) (protocol_edges p ++ extra)
  across_among extra before after listed h k =
      let all = protocol_edges p ++ extra in
      let parts = among p extra in
      let P = AddsAmong all true in
      let first = map (renamed p t Before) (p.axioms ++ before) in
      let copies = copies_of p.signature.symbols t.modifies in
      let across = across_adds all (of_contained (λ u. AddsAmong all true (chosen u)) p.transitions t parts.transitions listed) in
      query_among all (across_query p t before after)
      (each-append (SymbolAddsAmong all) (p.signature.symbols ++ copies) (map constant_for t.params)
      (each-append (SymbolAddsAmong all) p.signature.symbols copies parts.symbols (copies_among (SymbolAddsAmong all) p.signature.symbols parts.symbols t.modifies))
      (constants_among all t.params))
      (each-append P (first ++ renamed p t Across t.formula ∷ []) (Not (renamed p t After after) ∷ [])
      (each-append P first (renamed p t Across t.formula ∷ [])
      (each-map P (renamed p t Before) (p.axioms ++ before) (each-weaker P (λ f. AddsAmong all true (renamed p t Before f)) (before_adds all) (p.axioms ++ before) (each-append P p.axioms before parts.axioms h)))
      (across, tt)) (not_adds all (renamed p t After after) (after_adds all after k), tt))

  join_among : (g : List Formula) (f : Option Formula) (extra : List Edge) → Contains p.transitions t → AllByRecursion (AddsAmong extra true) g
      → IfSome f (AddsAmong extra true) → IfSome f (AddsAmong extra false) → AreAmong (query_edges (join_query_of p t g f)) (protocol_edges p ++ extra)
  join_among g None extra listed h k l =
      let first = protocol_edges p in
      let all = first ++ extra in
      let parts = among p extra in
      across_among extra (g ++ p.safeties) (All p.safeties) listed (each-append (AddsAmong all true) g p.safeties (each_wider first extra true g h) parts.safeties) (all_adds all false p.safeties parts.unsafe)
  join_among g (Some f) extra listed h k l =
      let first = protocol_edges p in
      let all = first ++ extra in
      let parts = among p extra in
      let both = each-append (AddsAmong all true) g p.safeties (each_wider first extra true g h) parts.safeties in
      across_among extra (g ++ p.safeties ++ f ∷ []) (All (All p.safeties ∷ f ∷ [])) listed
      (each-append (AddsAmong all true) (g ++ p.safeties) (f ∷ []) both (wider first extra true f k, tt))
      (all_adds all false (All p.safeties ∷ f ∷ []) (all_adds all false p.safeties parts.unsafe, (wider first extra false f l, tt)))

pub queries_add_no_edges : QueriesAddNoEdges
queries_add_no_edges = record {
  start = λ p f extra h. let parts = among p extra in state_among p extra p.inits f parts.inits (wider (protocol_edges p) extra false f h);
  follow = λ p g f extra h k. state_among p extra g f (each_wider (protocol_edges p) extra true g h) (wider (protocol_edges p) extra false f k);
  step = λ p t g f extra listed h k l.
      let first = protocol_edges p in
      across_among p t extra (g ++ f ∷ []) f listed (each-append (AddsAmong (first ++ extra) true) g (f ∷ []) (each_wider first extra true g h) (wider first extra true f k, tt)) (wider first extra false f l);
  join = λ p t. join_among p t;
  safety_start = λ p extra. let parts = among p extra in state_among p extra p.inits (All p.safeties) parts.inits (all_adds (protocol_edges p ++ extra) false p.safeties parts.unsafe);
}

pub ranks_rise_among : RanksRiseAmong
ranks_rise_among sorts edges all ranks h r =
    let Rises : Edge → Type 0 = λ (e : Edge). slice_index ranks e.from < slice_index ranks e.to in
    record { count = r.count; below = r.below; rises = each-weaker (Contains all) Rises (λ e c. of_contained Rises all e r.rises c) edges h }
