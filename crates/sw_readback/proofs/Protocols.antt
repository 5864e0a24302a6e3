-- What was read and is printed reads back equal.
use Rattle.std.specs.Prelude.{◌≡◌, ℕ, ◌≤◌, Bool, List, [], ◌∷◌, ◌++◌, length, map, Result, Ok, Err}
use Rattle.std.specs.List.{AllByRecursion, flat_map}
use Rattle.std.proofs.Common.{refl, sym, ap, subst, ◌∙◌, arith, append_assoc, append-nil, length-drop}
use Rattle.std.proofs.lemmas.List.{take_all}
use Rattle.sw_logic.specs.declared.variables.TheConstants.{VARIABLES}
use Rattle.sw_scan.specs.declared.Token.{Token}
use Rattle.sw_scan.specs.Scans.{Scans}
use Rattle.sw_meaning.specs.declared.protocol.Protocol.{Protocol}
use Rattle.sw_meaning.specs.declared.protocol.Decl.{Decl}
use Rattle.sw_meaning.specs.ProtocolText.{protocol_text}
use Rattle.sw_trees.specs.declared.limits.TheConstants.{NESTINGS}
use Rattle.sw_trees.specs.declared.words.Word.{Word}
use Rattle.sw_trees.specs.declared.tree.Binder.{Binder}
use Rattle.sw_trees.specs.declared.tree.Tree.{Tree}
use Rattle.sw_text.specs.declared.names.Violation.{Violation}
use Rattle.sw_trees.specs.Words.{word_of}
use Rattle.sw_trees.specs.Measures.{nestings_of}
use Rattle.sw_trees.specs.Grammar.{Loads, Mark, no_loads}
use Rattle.sw_trees.specs.Answers.{words_in, Begins}
use Rattle.sw_readback.proofs.Spacing.{Goes, Here, goes_none, goes_on, token_of}
use Rattle.sw_text.proofs.SortedTerms.{apart}
use Rattle.sw_readback.proofs.SameMeaning.{none}
use Rattle.sw_readback.proofs.Tidy.{IsNameIn}
use Rattle.sw_readback.proofs.Tidied.{IsGood, AllGood, scanned_good, marks_good, formula_tidy}
use Rattle.sw_readback.proofs.Formulas.{words_are}
use Rattle.sw_protocol.specs.declared.tree.Declaration.{Declaration}
use Rattle.sw_protocol.specs.declared.tree.Declaration.TheVariants as declaration
use Rattle.sw_protocol.specs.declared.parsing.Parsed.{Parsed}
use Rattle.sw_protocol.specs.declared.texts.ProtocolError.{ProtocolError}
use Rattle.sw_protocol.specs.Grammar.{EndsFormula, AreNames, AreBracketed, AreSorts, MayTake, MayModify, IsHeading, IsDeclaration, AreDeclarations}
use Rattle.sw_protocol.specs.Answers.{IsAnswer}
use Rattle.sw_protocol.specs.Declaring.{empty_protocol, after, item_of, with_item, declared, declaration_faults, all_faults, all_declared}
use Rattle.sw_protocol.specs.Printing.{declaration_line}
use Rattle.sw_protocol.specs.Texts.{HasDeclared, outcome, first_broken}
use Rattle.sw_protocol.specs.Stratified.{Judges, HasProtocol}
use Rattle.sw_readback.specs.Protocols.{ProtocolsReadBack}
use Rattle.sw_readback.proofs.Growing.{Grows, grows_itself, grows_all, orders, order_is}
use Rattle.sw_protocol.proofs.OneDeclared.{has_outcome}
use Rattle.sw_readback.proofs.WrittenLists.{IsFine, good_names, good_params}
use Rattle.sw_readback.proofs.WrittenDeclarations.{new_in, DeclaredAt, text_at, sort_at, relation_at, constant_at, function_at, stated_at}
use Rattle.sw_readback.proofs.WrittenTransitions.{transition_at}

module _ (A : List ℕ) where
  good_sorts : {ms rest : List Mark} {ns : List Word} → AreSorts ms ns rest → AllGood A ms → AllByRecursion (IsNameIn A) ns × AllGood A rest
  good_sorts AreSorts.no_sorts h = (tt, h)
  good_sorts (AreSorts.some_sorts (AreBracketed.bracketed l r i names j)) h = let n = good_names A names h.1 in (n.0, n.1.1)

  good_takes : {ms rest : List Mark} {bs : List Binder} → MayTake A ms bs rest → AllGood A ms → (AllByRecursion (IsFine A) bs × (length bs ≤ VARIABLES)) × AllGood A rest
  good_takes MayTake.no_params h = ((tt, omega arith), h)
  good_takes (MayTake.some_params l r i params j) h = let p = good_params A params h.1 in (p.0, p.1.1)

  good_modifies : {ms rest : List Mark} {ns : List Word} → MayModify ms ns rest → AllGood A ms → AllByRecursion (IsNameIn A) ns × AllGood A rest
  good_modifies MayModify.modifies_none h = (tt, h)
  good_modifies (MayModify.modifies k i names) h = good_names A names h.1

  good_end : (x : Tree) (e : Mark) → EndsFormula x e → IsGood A e → (nestings_of x).alone ≤ NESTINGS
  good_end x e i g = subst (λ (l : Loads). l.nestings ≤ NESTINGS) i.loads_are g.within.nestings

some_name : {ms rest : List Mark} {ns : List Word} → AreNames ms ns rest → ns ≡ [] → ⊥
some_name (AreNames.one_name n i) e = cc
some_name (AreNames.more_names {ns = []} m n are i j) e = cc
some_name (AreNames.more_names {ns = w ∷ ws} m n are i j) e = cc

module _ (A T : List ℕ) (p : Protocol) where
  -- one declaration, and what follows it
  one_written : (q : Protocol) {ms rest : List Mark} {d : Declaration} (at : ℕ) (post : List ℕ) → IsDeclaration A ms d rest → AllGood A ms → declaration_faults (after A q) d ≡ [] → Grows (declared A q d) p
      → Here T at (text_at A T q p (item_of (after A q) d) post) → DeclaredAt T q (item_of (after A q) d) at post × AllGood A rest
  one_written q at post (IsDeclaration.sort k n e i new j) h fine g here = (sort_at A T q p n.word at post (new_in A no_loads n new h.1.0) fine g here, h.1.1.1)
  one_written q at post (IsDeclaration.relation {ss = ss} mutable c k n e i j new sorts l) h fine g here =
      let names = good_sorts A sorts h.1.1.1 in
      (relation_at A T q p mutable n.word ss at post (new_in A no_loads n new h.1.1.0) names.0 fine g here, names.1.1)
  one_written q at post (IsDeclaration.constant mutable c k n d s e i j new l m o) h fine g here =
      (constant_at A T q p mutable n.word s.word at post (new_in A no_loads n new h.1.1.0) (h.1.1.1.1.0.named m.sign_is) fine g here, h.1.1.1.1.1.1)
  one_written q at post (IsDeclaration.function {ss = []} c k n d s e i j new (AreBracketed.bracketed l r il names ir) m o t) h fine g here = absurd (some_name names refl)
  one_written q at post (IsDeclaration.function {ss = w ∷ ws} c k n d s e i j new (AreBracketed.bracketed l r il names ir) m o t) h fine g here =
      let good = good_names A names h.1.1.1.1 in
      (function_at A T q p n.word w ws s.word at post (new_in A no_loads n new h.1.1.0) good.0 (good.1.1.1.0.named o.sign_is) fine g here, good.1.1.1.1.1)
  one_written q at post (IsDeclaration.stated {ms = ms} {rest = rest} {end_is = end_is} {has_iff = has_iff} {x = x} kind k e i formula ends) h fine g here =
      let good = formula_tidy A formula h.1 in
      (stated_at A T q p kind end_is has_iff ms (e ∷ rest) x formula h.1 (good_end A x e ends good.1.0) at post fine g here, good.1.1)
  one_written q at post (IsDeclaration.transition {us = us} {rest = rest} {end_is = end_is} {has_iff = has_iff} {x = x} k e i (IsHeading.heading {bs = bs} {ns = ns} n c new takes changes colon) formula ends) h fine g here =
      let params = good_takes A takes h.1.1 in
      let names = good_modifies A changes params.1 in
      let good = formula_tidy A formula names.1.1 in (
        transition_at A T q p (record { name = n.word; params = bs; modifies = ns }) end_is has_iff us (e ∷ rest) x formula names.1.1 (good_end A x e ends good.1.0) at post
            (new_in A no_loads n new h.1.0) params.0.0 params.0.1 names.0 fine g here,
        good.1.1,
      )

  -- the declarations that are written from a place to the end
  record WrittenAt (q : Protocol) (at : ℕ) : Type 0 where
    pub next : ℕ
    pub marks : List Mark
    pub trees : List Declaration
    pub later : Here T next []
    pub goes : Goes T at next marks
    pub spelled : AreDeclarations T marks trees
    pub fine : all_faults T q trees ≡ []
    pub is : all_declared T q trees ≡ p

  all_written : (q : Protocol) {ms : List Mark} {ds : List Declaration} (at : ℕ) → AreDeclarations A ms ds → AllGood A ms → all_faults A q ds ≡ [] → all_declared A q ds ≡ p
      → Here T at (flat_map (declaration_line p) (orders A q ds)) → WrittenAt q at
  all_written q at AreDeclarations.none h fine e here = record { next = at; marks = []; trees = []; later = here; goes = goes_none T at; spelled = AreDeclarations.none; fine = refl; is = e }
  all_written q at (AreDeclarations.more {d = d} {ds = ds} one more) h fine e here =
      let both = apart (declaration_faults (after A q) d) (all_faults A (declared A q d) ds) fine in
      let grows : Grows (declared A q d) p = subst (Grows (declared A q d)) e (grows_all A (declared A q d) ds) in
      let first = one_written q at (flat_map (declaration_line p) (orders A (declared A q d) ds)) one h both.0 grows here in
      let w = first.0 in
      let others = all_written (declared A q d) w.next more first.1 both.1 e w.later in
      let same : declared T q w.tree ≡ declared A q d = ap (with_item q) w.is in
      record {
        next = others.next;
        marks = w.marks ++ others.marks;
        trees = w.tree ∷ others.trees;
        later = others.later;
        goes = goes_on T at w.next others.next w.marks others.marks w.goes others.goes;
        spelled = AreDeclarations.more (w.spelled others.marks) others.spelled;
        fine = none _ _ w.fine (subst (λ (r : Protocol). all_faults T r others.trees ≡ []) (sym same) others.fine);
        is = ap (λ (r : Protocol). all_declared T r others.trees) same ∙ others.is;
      }

-- what is written whole is a text of the protocol
whole_text : (A T : List ℕ) (p : Protocol) → WrittenAt A T p empty_protocol 0 → HasDeclared T (Ok p)
whole_text A T p w =
    let ws : List Word = words_in w.marks in
    let tokens : List Token = map token_of w.marks in
    let over : w.next ≡ length T = let left = ap length w.later.is in omega (arith, left, length-drop w.next T, w.later.fits) in
    let scans : Scans T 0 (Ok tokens) = subst (λ (ts : List Token). Scans T 0 (Ok ts)) (append-nil tokens) (w.goes.scans (Ok []) (Scans.end over)) in
    let answer : IsAnswer T ws (Parsed.Whole w.trees) = record {
      marks = w.marks;
      begins = record { within = omega arith; are = sym (take_all (length ws) ws (omega arith)); allowed = w.goes.within };
      spelled = w.spelled;
    } in
    let whole : outcome T ws (Parsed.Whole w.trees) ≡ Ok p =
    ap (λ (vs : List Violation). first_broken vs (all_declared T empty_protocol w.trees)) w.fine ∙ ap (λ (r : Protocol). Ok r) w.is in
    has_outcome T tokens ws (Parsed.Whole w.trees) scans (words_are T w.marks w.goes.words) answer (Ok p) (sym whole)

first_of : (vs : List Violation) (q p : Protocol) → first_broken vs q ≡ Ok p → (vs ≡ []) × (q ≡ p)
first_of [] q p e = (refl, cc)
first_of (v ∷ vs) q p e = cc

-- what was read is written by canonical text
outcome_written : (A : List ℕ) (p : Protocol) (tokens : List Token) (ws : List Word) (found : Parsed) → Scans A 0 (Ok tokens) → ws ≡ map (word_of A) tokens → IsAnswer A ws found → Ok p ≡ outcome A ws found → WrittenAt A (protocol_text p) p empty_protocol 0
outcome_written A p tokens ws (Parsed.Syntax n) scans w answer e = cc
outcome_written A p tokens ws (Parsed.TooDeep n) scans w answer e = cc
outcome_written A p tokens ws (Parsed.Whole ds) scans w answer e =
    let both = first_of (all_faults A empty_protocol ds) (all_declared A empty_protocol ds) p (sym e) in
    let are : words_in answer.marks ≡ map (word_of A) tokens = answer.begins.are ∙ take_all (length ws) ws (omega arith) ∙ w in
    let good : AllGood A answer.marks = marks_good A answer.marks tokens are (scanned_good A scans) answer.begins.allowed in
    let order : p.order ≡ orders A empty_protocol ds = ap (λ (r : Protocol). r.order) (sym both.1) ∙ order_is A empty_protocol ds in
    let text : protocol_text p ≡ flat_map (declaration_line p) (orders A empty_protocol ds) = ap (λ (os : List Decl). flat_map (declaration_line p) os) order in
    all_written A (protocol_text p) p empty_protocol 0 answer.spelled good both.0 both.1 (record { fits = omega arith; is = text })

declared_back : (A : List ℕ) (p : Protocol) → HasDeclared A (Ok p) → HasDeclared (protocol_text p) (Ok p)
declared_back A p (HasDeclared.bad at h e) = cc
declared_back A p (HasDeclared.read tokens found h answer e) = whole_text A (protocol_text p) p (outcome_written A p tokens (map (word_of A) tokens) found h refl answer e)

same_protocol : (p q : Protocol) → ◌≡◌ {A = Result Protocol ProtocolError} (Ok p) (Ok q) → q ≡ p
same_protocol p q e = cc

pub reads_back : ProtocolsReadBack
reads_back A p (HasProtocol.refused e h is) = cc
reads_back A p (HasProtocol.declared q h (Judges.cycle sort c is)) = cc
reads_back A p (HasProtocol.declared q h (Judges.ranked ranks r is)) =
    let same : q ≡ p = same_protocol p q is in
    HasProtocol.declared p (declared_back A p (subst (λ (x : Protocol). HasDeclared A (Ok x)) same h)) (subst (λ (x : Protocol). Judges x (Ok p)) same (Judges.ranked ranks r is))
