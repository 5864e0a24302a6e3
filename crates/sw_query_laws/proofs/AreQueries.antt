-- The queries of a well-formed protocol are queries: their signatures are declared rightly, and their sentences are well sorted.
use Rattle.std.specs.Prelude.{◌≡◌, ℕ, ◌+◌, ◌-◌, nat_lt, Bool, true, false, List, [], ◌∷◌, ◌++◌, length, map, Option, Some, None, slice_get, option_map, Contains, if◌then◌else◌}
use Rattle.std.specs.List.{AllByRecursion, list_all}
use Rattle.std.specs.Option.{IfSome}
use Rattle.std.proofs.Common.{rules, arith, refl, sym, ap, ◌∙◌, inl, inr}
use Rattle.std.proofs.lemmas.Bool.{and_parts, and_from, lt-ltb, le-ltb, cases_lt}
use Rattle.std.proofs.lemmas.List.{append-nil, length-map}
use Rattle.std.proofs.lemmas.List.Folds.{list_all-append}
use Rattle.std.proofs.lemmas.Option.{slice_get-map}
use Rattle.sw_logic.specs.declared.syntax.Symbol.{Symbol}
use Rattle.sw_logic.specs.declared.syntax.Signature.{Signature}
use Rattle.sw_logic.specs.declared.syntax.Binder.{Binder}
use Rattle.sw_logic.specs.declared.syntax.Term as terms
use Rattle.sw_logic.specs.declared.syntax.Term.TheVariants.{Variable, Apply}
use Rattle.sw_logic.specs.declared.syntax.Formula as formulas
use Rattle.sw_logic.specs.declared.syntax.Formula.{Formula}
use Rattle.sw_logic.specs.declared.syntax.Formula.TheVariants.{Not, All}
use Rattle.sw_logic.specs.Sorted.{value_sort, sort_of, are_sorts, well_sorted}
use Rattle.sw_logic.specs.Signatures.{is_symbol, is_signature}
use Rattle.sw_logic.specs.Queries.{IsSentence, IsQuery}
use Rattle.sw_logic.proofs.Steps.{sorted-All}
use Rattle.sw_meaning.specs.declared.protocol.Protocol.{Protocol}
use Rattle.sw_meaning.specs.declared.protocol.Transition.{Transition}
use Rattle.sw_meaning.specs.WellFormed.{IsClosed, IsAxiom, IsTransition, IsWellFormed}
use Rattle.sw_lists.proofs.Each.{each-append, each-map, each-weaker, of_contained}
use Rattle.sw_renaming.specs.declared.renaming.Moment.TheVariants.{Before, Across, After}
use Rattle.sw_renaming.specs.Renamed.{constant_of, symbol_at, variable_at, renamed}
use Rattle.sw_renaming.specs.Symbols.{copies_of, with_symbol, constant_for}
use Rattle.sw_lists.proofs.Tests.{all_true, true_at}
use Rattle.sw_queries.specs.Queries.{state_query, step_signature, across_query, join_query_of}
use Rattle.sw_query_laws.specs.Laws.{QueriesAreSorted}
use Rattle.sw_lists.proofs.Places.{get_append_front, get_append_right, get_some}
use Rattle.sw_query_laws.proofs.Parts.{itself_symbol, copy_symbol, constant_symbol}
use Rattle.sw_query_laws.proofs.KeepsSorts.{Declares, renamed_sorted}

-- ---- sentences
abbrev AreSentences : Signature → List Formula → Type 0
AreSentences sig fs = AllByRecursion (IsSentence sig) fs

not_sentence : (sig : Signature) (f : Formula) → IsSentence sig f → IsSentence sig (Not f)
not_sentence sig f e = let step : well_sorted sig false (Not f) [] ≡ well_sorted sig false f [] = search (rules, formulas.the_lemmas) in step ∙ e

all_sentence : (sig : Signature) (fs : List Formula) → AreSentences sig fs → IsSentence sig (All fs)
all_sentence sig fs h = sorted-All sig false fs [] ∙ all_true (λ f. well_sorted sig false f []) fs h

with_one : (sig : Signature) (fs : List Formula) (f : Formula) → AreSentences sig fs → IsSentence sig f → AreSentences sig (fs ++ f ∷ [])
with_one sig fs f h e = each-append (IsSentence sig) fs (f ∷ []) h (e, tt)

closed : (sig : Signature) (fs : List Formula) → AllByRecursion (IsClosed sig) fs → AreSentences sig fs
closed sig = each-weaker (IsClosed sig) (IsSentence sig) (λ f h. h.sorted)

axioms : (p : Protocol) → IsWellFormed p → AreSentences p.signature p.axioms
axioms p ok = each-weaker (IsAxiom p.signature) (IsSentence p.signature) (λ f h. h.closed.sorted) p.axioms ok.axioms

-- a query without a step
state_is_query : (p : Protocol) (g : List Formula) (f : Formula) → IsWellFormed p → AreSentences p.signature g → IsSentence p.signature f
    → IsQuery (state_query p g f)
state_is_query p g f ok h e = record {
  signature = ok.signature;
  sentences = with_one p.signature (p.axioms ++ g) (Not f) (each-append (IsSentence p.signature) p.axioms g (axioms p ok) h) (not_sentence p.signature f e);
}

-- ---- the signature of a step
copy_declared : (test : Symbol → Bool) (o : Option Symbol) (rest : List Symbol) → ((x : Symbol) → o ≡ Some x → test x ≡ true) → list_all test rest ≡ true → list_all test (with_symbol o rest) ≡ true
copy_declared test None rest h e = e
copy_declared test (Some x) rest h e = and_from (test x) (list_all test rest) (h x refl) e

copies_declared : (test : Symbol → Bool) (symbols : List Symbol) → list_all test symbols ≡ true → (ms : List ℕ) → list_all test (copies_of symbols ms) ≡ true
copies_declared test symbols h [] = refl
copies_declared test symbols h (m ∷ ms) = copy_declared test (slice_get symbols m) (copies_of symbols ms) (λ x e. true_at test symbols m x h e) (copies_declared test symbols h ms)

constants_declared : (sorts : ℕ) (bs : List Binder) → list_all (λ (b : Binder). nat_lt b.sort sorts) bs ≡ true → list_all (is_symbol sorts) (map constant_for bs) ≡ true
constants_declared sorts [] e = refl
constants_declared sorts (b ∷ bs) e =
    let parts = and_parts (nat_lt b.sort sorts) (list_all (λ (x : Binder). nat_lt x.sort sorts) bs) e in
    and_from (is_symbol sorts (constant_for b)) (list_all (is_symbol sorts) (map constant_for bs)) parts.0 (constants_declared sorts bs parts.1)

step_declared : (p : Protocol) (t : Transition) → is_signature p.signature ≡ true → are_sorts p.signature t.params ≡ true → is_signature (step_signature p t) ≡ true
step_declared p t h e =
    let test = is_symbol (length p.signature.sorts) in
    let symbols = p.signature.symbols in
    let copies = copies_of symbols t.modifies in
    let constants = map constant_for t.params in
    list_all-append test (symbols ++ copies) constants
    ∙ and_from (list_all test (symbols ++ copies)) (list_all test constants)
    (list_all-append test symbols copies ∙ and_from (list_all test symbols) (list_all test copies) h (copies_declared test symbols h t.modifies))
    (constants_declared (length p.signature.sorts) t.params e)

-- ---- the sentences of a step
module _ (p : Protocol) (t : Transition) (ok : IsTransition p.signature t) where
  abbrev sig : Signature
  sig = step_signature p t

  abbrev sorts : List ℕ
  sorts = map (λ (b : Binder). b.sort) t.params

  variable_sort : (scope : List ℕ) (v : ℕ) → sort_of sig false scope (Variable v) ≡ slice_get scope v
  variable_sort scope v = search (rules, terms.the_lemmas)

  declares_before : Declares p t Before sig false []
  declares_before = record { sorts = refl; symbols = λ i primed. itself_symbol p t ok i; variables = variable_sort }

  declares_after : Declares p t After sig false []
  declares_after = record { sorts = refl; symbols = λ i primed. copy_symbol p t ok i; variables = variable_sort }

  across_symbols : (i : ℕ) (primed : Bool) → slice_get sig.symbols (symbol_at p t Across i primed) ≡ slice_get p.signature.symbols i
  across_symbols i true = copy_symbol p t ok i
  across_symbols i false = itself_symbol p t ok i

  constant_sort : (scope : List ℕ) (v : ℕ) (b : Binder) → slice_get t.params v ≡ Some b → sort_of sig false scope (Apply (constant_of p t v) false []) ≡ Some b.sort
  constant_sort scope v b e =
      let step : sort_of sig false scope (Apply (constant_of p t v) false []) ≡ value_sort (slice_get sig.symbols (constant_of p t v)) true [] = search (rules, terms.the_lemmas) in
      step ∙ ap (λ (o : Option Symbol). value_sort o true []) (constant_symbol p t ok v b e)

  count : length sorts ≡ length t.params
  count = length-map t.params (λ (b : Binder). b.sort)

  across_variables : (scope : List ℕ) (v : ℕ) → sort_of sig false scope (variable_at p t Across v) ≡ slice_get (sorts ++ scope) v
  across_variables scope v = elim (cases_lt v (length t.params)) [
    | inl below ↦
        let found = get_some t.params v below in
        ap (λ b. sort_of sig false scope (if b then Apply (constant_of p t v) false [] else Variable (v - length t.params))) (lt-ltb v (length t.params) below)
        ∙ (constant_sort scope v found.0 found.1
        ∙ (sym (slice_get-map (λ (b : Binder). b.sort) t.params v ∙ ap (option_map (λ (b : Binder). b.sort)) found.1) ∙ sym (get_append_front sorts scope v (let c = count in omega arith))))
    | inr past ↦
        let at : length sorts + (v - length t.params) ≡ v = let c = count in omega arith in
        ap (λ b. sort_of sig false scope (if b then Apply (constant_of p t v) false [] else Variable (v - length t.params))) (le-ltb v (length t.params) past)
        ∙ (variable_sort scope (v - length t.params) ∙ (sym (get_append_right sorts scope (v - length t.params)) ∙ ap (slice_get (sorts ++ scope)) at))
  ]

  declares_across : Declares p t Across sig true sorts
  declares_across = record { sorts = refl; symbols = across_symbols; variables = across_variables }

  before_sentences : (fs : List Formula) → AreSentences p.signature fs → AreSentences sig (map (renamed p t Before) fs)
  before_sentences fs h =
      each-map (IsSentence sig) (renamed p t Before) fs
      (each-weaker (IsSentence p.signature) (λ f. IsSentence sig (renamed p t Before f)) (λ f e. renamed_sorted p t Before sig false [] declares_before f [] e) fs h)

  across_is_query : (before : List Formula) (after : Formula) → IsWellFormed p → AreSentences p.signature before → IsSentence p.signature after → IsQuery (across_query p t before after)
  across_is_query before after whole h e = record {
    signature = step_declared p t whole.signature ok.params;
    sentences =
        with_one sig (map (renamed p t Before) (p.axioms ++ before) ++ renamed p t Across t.formula ∷ []) (Not (renamed p t After after))
        (with_one sig (map (renamed p t Before) (p.axioms ++ before)) (renamed p t Across t.formula)
        (before_sentences (p.axioms ++ before) (each-append (IsSentence p.signature) p.axioms before (axioms p whole) h))
        (renamed_sorted p t Across sig true sorts declares_across t.formula [] (ap (well_sorted p.signature true t.formula) (append-nil sorts) ∙ ok.sorted)))
        (not_sentence sig (renamed p t After after) (renamed_sorted p t After sig false [] declares_after after [] e));
  }

pub transition_is : (p : Protocol) (t : Transition) → IsWellFormed p → Contains p.transitions t → IsTransition p.signature t
transition_is p t ok among = of_contained (IsTransition p.signature) p.transitions t ok.transitions among

safeties : (p : Protocol) → IsWellFormed p → AreSentences p.signature p.safeties
safeties p ok = closed p.signature p.safeties ok.safeties

join_is_query : (p : Protocol) (t : Transition) (g : List Formula) (f : Option Formula) → IsWellFormed p → Contains p.transitions t → AreSentences p.signature g → IfSome f (IsSentence p.signature)
    → IsQuery (join_query_of p t g f)
join_is_query p t g None ok among h e =
    across_is_query p t (transition_is p t ok among) (g ++ p.safeties) (All p.safeties) ok
    (each-append (IsSentence p.signature) g p.safeties h (safeties p ok)) (all_sentence p.signature p.safeties (safeties p ok))
join_is_query p t g (Some f) ok among h e =
    across_is_query p t (transition_is p t ok among) (g ++ p.safeties ++ f ∷ []) (All (All p.safeties ∷ f ∷ [])) ok
    (with_one p.signature (g ++ p.safeties) f (each-append (IsSentence p.signature) g p.safeties h (safeties p ok)) e)
    (all_sentence p.signature (All p.safeties ∷ f ∷ []) (all_sentence p.signature p.safeties (safeties p ok), (e, tt)))

pub queries_are_sorted : QueriesAreSorted
queries_are_sorted = record {
  start = λ p f ok e. state_is_query p p.inits f ok (closed p.signature p.inits ok.inits) e;
  follow = λ p g f ok h e. state_is_query p g f ok h e;
  step = λ p t g f ok among h e. across_is_query p t (transition_is p t ok among) (g ++ f ∷ []) f ok (with_one p.signature g f h e) e;
  join = join_is_query;
  safety_start = λ p ok. state_is_query p p.inits (All p.safeties) ok (closed p.signature p.inits ok.inits) (all_sentence p.signature p.safeties (safeties p ok));
}
