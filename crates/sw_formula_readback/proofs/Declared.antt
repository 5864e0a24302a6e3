-- The names of the symbols that a text declares do not begin with an underscore, and no two are alike.
use Rattle.std.specs.Prelude.{◌≡◌, ◌⊎◌, ◌==◌, ◌||◌, ℕ, zero, suc, Bool, true, false, List, [], ◌∷◌, ◌++◌, length, map, slice_get, Some, Result, Ok}
use Rattle.std.specs.List.{AllByRecursion, list_any}
use Rattle.std.specs.Str.{bytes_eq}
use Rattle.std.proofs.Common.{refl, sym, ap, subst, ◌∙◌, arith, inl, inr}
use Rattle.std.proofs.lemmas.Bool.{false≢true}
use Rattle.std.proofs.lemmas.List.{take_all}
use Rattle.std.proofs.lemmas.Option.{none-some, same_Some}
use Rattle.std.proofs.lemmas.Slice.Eq.{bytes_eq-Decides}
use Rattle.sw_lists.proofs.Each.{each-push}
use Rattle.sw_lists.proofs.Places.{get_push_cases}
use Rattle.sw_scan.specs.declared.Token.{Token}
use Rattle.sw_scan.specs.Scans.{Scans}
use Rattle.sw_scan.specs.Spelling.{is_name}
use Rattle.sw_logic.specs.declared.syntax.Symbol.{Symbol}
use Rattle.sw_logic.specs.declared.syntax.Formula.{Formula}
use Rattle.sw_meaning.specs.declared.protocol.Protocol.{Protocol}
use Rattle.sw_trees.specs.declared.words.Word.{Word}
use Rattle.sw_trees.specs.declared.words.Sign.{Sign}
use Rattle.sw_trees.specs.Words.{word_of, name_sign}
use Rattle.sw_trees.specs.Grammar.{Mark, no_loads}
use Rattle.sw_trees.specs.Answers.{words_in}
use Rattle.sw_text.specs.declared.names.Rule.{Rule}
use Rattle.sw_text.specs.declared.names.Violation.{Violation}
use Rattle.sw_text.specs.Names.{bytes_at, is_declared}
use Rattle.sw_text.proofs.SortedTerms.{apart, passed}
use Rattle.sw_protocol.specs.declared.tree.Statement.{Statement}
use Rattle.sw_protocol.specs.declared.tree.Declaration.{Declaration}
use Rattle.sw_protocol.specs.declared.parsing.Parsed.{Parsed}
use Rattle.sw_protocol.specs.declared.texts.ProtocolError.{ProtocolError}
use Rattle.sw_protocol.specs.Grammar.{is_hidden, AreBracketed, AreSorts, MayTake, MayModify, IsHeading, IsDeclaration, AreDeclarations}
use Rattle.sw_protocol.specs.Answers.{IsAnswer}
use Rattle.sw_protocol.specs.Declaring.{empty_protocol, after, declared, name_faults, sorts_faults, sort_faults, declaration_faults, all_faults, all_declared, with_sort, with_symbol, with_statement, relation_of, constant_of, function_of}
use Rattle.sw_protocol.specs.Texts.{HasDeclared, outcome, first_broken}
use Rattle.sw_protocol.specs.Stratified.{Judges, HasProtocol}
use Rattle.sw_readback.proofs.Tidied.{AllGood, scanned_good, marks_good, formula_tidy}
use Rattle.sw_readback.proofs.WrittenLists.{good_names, good_params}
use Rattle.sw_readback.proofs.WrittenDeclarations.{IsNewIn, new_in}
use Rattle.sw_formula_readback.specs.Laws.{IsShownName, AreDeclaredNames, TextsHaveDeclaredNames}

-- ---- the words of a text that name what is declared

module _ (A : List ℕ) where
  shown_by : (x : List ℕ) → is_name x ≡ true → is_hidden x ≡ false → IsShownName x
  shown_by [] n h = absurd (false≢true n)
  shown_by (b ∷ bs) n h = record { name = n; shown = λ e. false≢true (sym (subst (λ c. (c == 95) ≡ false) e h)) }

  abbrev IsShown : Word → Type 0
  IsShown w = IsShownName (bytes_at A w) × (name_sign (bytes_at A w) ≡ Sign.Name)

  new_shown : (w : Word) → IsNewIn A w → IsShown w
  new_shown w h = (shown_by (bytes_at A w) h.name.name h.shown, h.name.sign)

  -- the name of a symbol that is declared
  abbrev Declares : Declaration → Type 0
  Declares (Declaration.Sort n) = IsShown n
  Declares (Declaration.Relation mutable n ss) = IsShown n
  Declares (Declaration.Constant mutable n s) = IsShown n
  Declares (Declaration.Function n ss s) = IsShown n
  Declares (Declaration.Stated kind x) = Unit {0}
  Declares (Declaration.Transition h x) = Unit {0}

  past_sorts : {ms rest : List Mark} {ns : List Word} → AreSorts ms ns rest → AllGood A ms → AllGood A rest
  past_sorts AreSorts.no_sorts h = h
  past_sorts (AreSorts.some_sorts (AreBracketed.bracketed l r i names j)) h = (good_names A names h.1).1.1

  past_params : {ms rest : List Mark} {bs : _} → MayTake A ms bs rest → AllGood A ms → AllGood A rest
  past_params MayTake.no_params h = h
  past_params (MayTake.some_params l r i params j) h = (good_params A params h.1).1.1

  past_modifies : {ms rest : List Mark} {ns : List Word} → MayModify ms ns rest → AllGood A ms → AllGood A rest
  past_modifies MayModify.modifies_none h = h
  past_modifies (MayModify.modifies k i names) h = (good_names A names h.1).1

  declares : {ms rest : List Mark} {d : Declaration} → IsDeclaration A ms d rest → AllGood A ms → Declares d × AllGood A rest
  declares (IsDeclaration.sort k n e i new j) h = (new_shown n.word (new_in A no_loads n new h.1.0), h.1.1.1)
  declares (IsDeclaration.relation mutable c k n e i j new sorts l) h = (new_shown n.word (new_in A no_loads n new h.1.1.0), (past_sorts sorts h.1.1.1).1)
  declares (IsDeclaration.constant mutable c k n d s e i j new l m o) h = (new_shown n.word (new_in A no_loads n new h.1.1.0), h.1.1.1.1.1.1)
  declares (IsDeclaration.function c k n d s e i j new (AreBracketed.bracketed l r il names ir) m o t) h = (new_shown n.word (new_in A no_loads n new h.1.1.0), (good_names A names h.1.1.1.1).1.1.1.1.1)
  declares (IsDeclaration.stated kind k e i formula ends) h = (tt, (formula_tidy A formula h.1).1.1)
  declares (IsDeclaration.transition k e i (IsHeading.heading n c new takes changes colon) formula ends) h =
      (tt, (formula_tidy A formula (past_modifies changes (past_params takes h.1.1)).1).1.1)

  all_declare : {ms : List Mark} {ds : List Declaration} → AreDeclarations A ms ds → AllGood A ms → AllByRecursion Declares ds
  all_declare AreDeclarations.none h = tt
  all_declare (AreDeclarations.more one rest) h = let first = declares one h in (first.0, all_declare rest first.1)

-- ---- a new name is none of those before

either_false : (a b : Bool) → (a || b) ≡ false → (a ≡ false) × (b ≡ false)
either_false false b e = (refl, e)
either_false true b e = absurd (false≢true (sym e))

absent : (name : List ℕ) (xs : List Symbol) (i : ℕ) (s : Symbol) → list_any (λ (x : Symbol). bytes_eq name x.name) xs ≡ false → slice_get xs i ≡ Some s → name ≡ s.name → ⊥
absent name [] i s h e n = none-some s e
absent name (x ∷ xs) zero s h e n =
    let here = either_false (bytes_eq name x.name) (list_any (λ (x : Symbol). bytes_eq name x.name) xs) h in
    let is : bytes_eq name x.name ≡ true = (bytes_eq-Decides name x.name).1 (n ∙ ap (λ (y : Symbol). y.name) (sym (same_Some x s e))) in
    false≢true (sym here.0 ∙ is)
absent name (x ∷ xs) (suc i) s h e n = absent name xs i s (either_false (bytes_eq name x.name) (list_any (λ (x : Symbol). bytes_eq name x.name) xs) h).1 e n

absent_sort : (name : List ℕ) (xs : List (List ℕ)) (i : ℕ) → list_any (bytes_eq name) xs ≡ false → slice_get xs i ≡ Some name → ⊥
absent_sort name [] i h e = none-some name e
absent_sort name (x ∷ xs) zero h e =
    let here = either_false (bytes_eq name x) (list_any (bytes_eq name) xs) h in
    let is : bytes_eq name x ≡ true = (bytes_eq-Decides name x).1 (sym (same_Some x name e)) in
    false≢true (sym here.0 ∙ is)
absent_sort name (x ∷ xs) (suc i) h e = absent_sort name xs i (either_false (bytes_eq name x) (list_any (bytes_eq name) xs) h).1 e

with_symbol_names : (p : Protocol) (s : Symbol) → IsShownName s.name × (name_sign s.name ≡ Sign.Name) → list_any (λ (x : Symbol). bytes_eq s.name x.name) p.signature.symbols ≡ false → AreDeclaredNames p.signature → AreDeclaredNames (with_symbol p s).signature
with_symbol_names p s shown new h = record {
  symbols = record {
    names = each-push (λ (x : Symbol). IsShownName x.name) p.signature.symbols s h.symbols.names shown.0;
    apart = λ i j x y e f n. by i j x y (get_push_cases p.signature.symbols s i x e) (get_push_cases p.signature.symbols s j y f) n;
  };
  no_keywords = each-push (λ (x : Symbol). name_sign x.name ≡ Sign.Name) p.signature.symbols s h.no_keywords shown.1;
  sorts = h.sorts;
  sorts_no_keywords = h.sorts_no_keywords;
  sorts_apart = h.sorts_apart;
}
  where
    by : (i j : ℕ) (x y : Symbol) → (slice_get p.signature.symbols i ≡ Some x) ⊎ ((i ≡ length p.signature.symbols) × (x ≡ s)) → (slice_get p.signature.symbols j ≡ Some y) ⊎ ((j ≡ length p.signature.symbols) × (y ≡ s))
        → x.name ≡ y.name → i ≡ j
    by i j x y (inl e) (inl f) n = h.symbols.apart i j x y e f n
    by i j x y (inl e) (inr f) n = absurd (absent s.name p.signature.symbols i x new e (ap (λ (z : Symbol). z.name) (sym f.1) ∙ sym n))
    by i j x y (inr e) (inl f) n = absurd (absent s.name p.signature.symbols j y new f (ap (λ (z : Symbol). z.name) (sym e.1) ∙ n))
    by i j x y (inr e) (inr f) n = e.0 ∙ sym f.0

with_sort_names : (p : Protocol) (s : List ℕ) → IsShownName s × (name_sign s ≡ Sign.Name) → list_any (bytes_eq s) p.signature.sorts ≡ false → AreDeclaredNames p.signature → AreDeclaredNames (with_sort p s).signature
with_sort_names p s shown new h = record {
  symbols = record { names = h.symbols.names; apart = h.symbols.apart };
  no_keywords = h.no_keywords;
  sorts = each-push IsShownName p.signature.sorts s h.sorts shown.0;
  sorts_no_keywords = each-push (λ x. name_sign x ≡ Sign.Name) p.signature.sorts s h.sorts_no_keywords shown.1;
  sorts_apart = λ i j x e f. by i j x (get_push_cases p.signature.sorts s i x e) (get_push_cases p.signature.sorts s j x f);
}
  where
    by : (i j : ℕ) (x : List ℕ) → (slice_get p.signature.sorts i ≡ Some x) ⊎ ((i ≡ length p.signature.sorts) × (x ≡ s)) → (slice_get p.signature.sorts j ≡ Some x) ⊎ ((j ≡ length p.signature.sorts) × (x ≡ s)) → i ≡ j
    by i j x (inl e) (inl f) = h.sorts_apart i j x e f
    by i j x (inl e) (inr f) = absurd (absent_sort s p.signature.sorts i new (e ∙ ap Some f.1))
    by i j x (inr e) (inl f) = absurd (absent_sort s p.signature.sorts j new (f ∙ ap Some e.1))
    by i j x (inr e) (inr f) = e.0 ∙ sym f.0

-- ---- the declarations of a text

module _ (A : List ℕ) where
  new_name : (q : Protocol) (w : Word) → name_faults (after A q) w ≡ [] → list_any (λ (x : Symbol). bytes_eq (bytes_at A w) x.name) q.signature.symbols ≡ false
  new_name q w e =
      let name = bytes_at A w in
      let one = passed w.token.at ((is_declared (after A q) name, Rule.Twice) ∷ []) e in
      let two = either_false (list_any (bytes_eq name) q.signature.sorts) _ one.0 in
      (either_false (list_any (λ (x : Symbol). bytes_eq name x.name) q.signature.symbols) _ two.1).0

  new_sort : (q : Protocol) (w : Word) → name_faults (after A q) w ≡ [] → list_any (bytes_eq (bytes_at A w)) q.signature.sorts ≡ false
  new_sort q w e = (either_false (list_any (bytes_eq (bytes_at A w)) q.signature.sorts) _ (passed w.token.at ((is_declared (after A q) (bytes_at A w), Rule.Twice) ∷ []) e).0).0

  one_named : (q : Protocol) (d : Declaration) → declaration_faults (after A q) d ≡ [] → Declares A d → AreDeclaredNames q.signature → AreDeclaredNames (declared A q d).signature
  one_named q (Declaration.Sort n) e s h = with_sort_names q (bytes_at A n) s (new_sort q n e) h
  one_named q (Declaration.Relation mutable n ss) e s h = with_symbol_names q (relation_of (after A q) mutable n ss) s (new_name q n (apart (name_faults (after A q) n) (sorts_faults (after A q) ss) e).0) h
  one_named q (Declaration.Constant mutable n t) e s h = with_symbol_names q (constant_of (after A q) mutable n t) s (new_name q n (apart (name_faults (after A q) n) (sort_faults (after A q) t) e).0) h
  one_named q (Declaration.Function n ss t) e s h = with_symbol_names q (function_of (after A q) n ss t) s (new_name q n (apart (name_faults (after A q) n) (sorts_faults (after A q) ss ++ sort_faults (after A q) t) e).0) h
  one_named q (Declaration.Stated kind x) e s h = by kind _
    where
      by : (k : Statement) (f : Formula) → AreDeclaredNames (with_statement q k f).signature
      by Statement.Axiom f = h
      by Statement.Init f = h
      by Statement.Safety f = h
  one_named q (Declaration.Transition head x) e s h = h

  all_named : (q : Protocol) (ds : List Declaration) → all_faults A q ds ≡ [] → AllByRecursion (Declares A) ds → AreDeclaredNames q.signature → AreDeclaredNames (all_declared A q ds).signature
  all_named q [] e s h = h
  all_named q (d ∷ ds) e s h =
      let both = apart (declaration_faults (after A q) d) (all_faults A (declared A q d) ds) e in
      all_named (declared A q d) ds both.1 s.1 (one_named q d both.0 s.0 h)

  first_of : (vs : List Violation) (q p : Protocol) → first_broken vs q ≡ Ok p → (vs ≡ []) × (q ≡ p)
  first_of [] q p e = (refl, cc)
  first_of (v ∷ vs) q p e = cc

  outcome_named : (p : Protocol) (tokens : List Token) (ws : List Word) (found : Parsed) → Scans A 0 (Ok tokens) → ws ≡ map (word_of A) tokens → IsAnswer A ws found → Ok p ≡ outcome A ws found → AreDeclaredNames p.signature
  outcome_named p tokens ws (Parsed.Syntax n) scans w answer e = cc
  outcome_named p tokens ws (Parsed.TooDeep n) scans w answer e = cc
  outcome_named p tokens ws (Parsed.Whole ds) scans w answer e =
      let both = first_of (all_faults A empty_protocol ds) (all_declared A empty_protocol ds) p (sym e) in
      let are : words_in answer.marks ≡ map (word_of A) tokens = answer.begins.are ∙ take_all (length ws) ws (omega arith) ∙ w in
      let good : AllGood A answer.marks = marks_good A answer.marks tokens are (scanned_good A scans) answer.begins.allowed in
      let none : AreDeclaredNames empty_protocol.signature = record { symbols = record { names = tt; apart = λ i j s t f g n. absurd (none-some s f) }; no_keywords = tt; sorts = tt; sorts_no_keywords = tt; sorts_apart = λ i j x f g. absurd (none-some x f) } in
      subst (λ (r : Protocol). AreDeclaredNames r.signature) both.1 (all_named empty_protocol ds both.0 (all_declare A answer.spelled good) none)

  declared_names : (p : Protocol) → HasDeclared A (Ok p) → AreDeclaredNames p.signature
  declared_names p (HasDeclared.bad at h e) = cc
  declared_names p (HasDeclared.read tokens found h answer e) = outcome_named p tokens (map (word_of A) tokens) found h refl answer e

  same_protocol : (p q : Protocol) → ◌≡◌ {A = Result Protocol ProtocolError} (Ok p) (Ok q) → q ≡ p
  same_protocol p q e = cc

pub names_are : TextsHaveDeclaredNames
names_are text p (HasProtocol.refused e h is) = cc
names_are text p (HasProtocol.declared q h (Judges.cycle sort c is)) = cc
names_are text p (HasProtocol.declared q h (Judges.ranked ranks r is)) =
    declared_names text p (subst (λ (x : Protocol). HasDeclared text (Ok x)) (same_protocol text p q is) h)
