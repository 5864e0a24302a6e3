-- What was read and is printed reads back equal: as a part of any text, and by itself.
use Rattle.std.specs.Prelude.{◌≡◌, ◌==◌, ℕ, ◌+◌, ◌≤◌, Bool, true, false, List, [], ◌∷◌, ◌++◌, length, map, Result, Ok, Err, if◌then◌else◌}
use Rattle.std.specs.List.{AllByRecursion}
use Rattle.std.proofs.Common.{refl, sym, ap, subst, ◌∙◌, arith, append-nil, length-drop}
use Rattle.std.proofs.lemmas.List.{take_all}
use Rattle.sw_logic.specs.declared.syntax.Signature.{Signature}
use Rattle.sw_logic.specs.declared.syntax.Formula.{Formula}
use Rattle.sw_logic.specs.Canonical.{Shown, text_of, names_of}
use Rattle.sw_scan.specs.declared.Token.{Token}
use Rattle.sw_scan.specs.Scans.{Scans}
use Rattle.sw_trees.specs.declared.limits.TheConstants.{NESTINGS}
use Rattle.sw_trees.specs.declared.words.Word.{Word}
use Rattle.sw_trees.specs.declared.tree.Tree.{Tree}
use Rattle.sw_text.specs.declared.names.Violation.{Violation}
use Rattle.sw_trees.specs.declared.reader.Read.{Read}
use Rattle.sw_text.specs.declared.texts.TextError.{TextError}
use Rattle.sw_trees.specs.Words.{word_of}
use Rattle.sw_trees.specs.Measures.{Nestings, nestings_of}
use Rattle.sw_trees.specs.Grammar.{Mark, Context, End, IsFormula}
use Rattle.sw_trees.specs.Answers.{words_in, IsLongest, IsAnswer}
use Rattle.sw_text.specs.Names.{Around, Scope, faults, formula_read}
use Rattle.sw_text.specs.Texts.{HasFormula, outcome, first_broken, base_in, place_in}
use Rattle.sw_readback.specs.Formulas.{with_text, FormulasReadBack}
use Rattle.sw_readback.proofs.Spacing.{Goes, Here, breaks, token_of}
use Rattle.sw_readback.proofs.Measured.{same_nestings, tidy_nestings}
use Rattle.sw_readback.proofs.SpeltForms.{IsAt, formula_in, ways}
use Rattle.sw_readback.proofs.SameMeaning.{formula_same, formula_fine}
use Rattle.sw_readback.proofs.Tidied.{AllGood, HasTidy, formula_tidy, scanned_good, marks_good}
use Rattle.sw_readback.proofs.ShownAs.{Extends, extends_itself, shown_is}
use Rattle.sw_text.proofs.SortedTerms.{number_is_itself}
use Rattle.sw_text.proofs.OneFormula.{has_outcome}

-- at a place of a text, before what is left of it, the words spell this formula, which breaks no rule on names and
-- opens so many nestings as canonical text
pub record Stands (a : Around) (scope : Scope) (f : Formula) (n : Nestings) (c : Context) (T : List ℕ) (at : ℕ) (post : List ℕ) : Type 0 where
  pub next : ℕ
  pub marks : List Mark
  pub tree : Tree
  pub later : Here T next post
  pub goes : Goes T at next marks
  pub spelled : (rest : List Mark) → formula_in c tree (marks ++ rest) rest
  pub fine : faults (with_text a T) tree scope ≡ []
  pub is : formula_read (with_text a T) tree scope ≡ f
  pub nestings : nestings_of tree ≡ n

-- a tidy formula stands wherever its canonical text does, by a signature that has all that it was read by
pub tidy_stands : (a : Around) (sig : Signature) → Extends a.signature sig → (scope : Scope) (i v : ℕ) (x : Tree) → HasTidy a.text i v x → faults a x scope ≡ [] → (T : List ℕ) (at : ℕ) (post : List ℕ) (c : Context) → IsAt c i v → c.nestings + (nestings_of x).alone ≤ NESTINGS
    → Here T at (text_of sig (names_of scope) (formula_read a x scope) ++ post) → breaks post ≡ true → Stands a scope (formula_read a x scope) (nestings_of x) c T at post
tidy_stands a sig later scope i v x h e T at post c k w here b =
    let tidy = h.1.1 in
    let text : text_of sig (names_of scope) (formula_read a x scope) ≡ h.0.text = ap (λ (s : Shown). s.text) (shown_is a sig later tidy scope e) in
    let count : (nestings_of x).alone ≡ h.1.0.alone = ap (λ (n : Nestings). n.alone) (tidy_nestings tidy) in
    let q = (ways tidy).alone T at post c k (omega (arith, count, w)) (subst (λ y. Here T at (y ++ post)) text here) b in
    record {
      next = q.next;
      marks = q.marks;
      tree = q.tree;
      later = q.later;
      goes = q.goes;
      spelled = q.spelled;
      fine = formula_fine a T q.same scope e;
      is = formula_same a T q.same scope;
      nestings = same_nestings q.same;
    }

-- so does one that was spelled within the limits
pub spelled_stands : (a : Around) (sig : Signature) → Extends a.signature sig → (scope : Scope) (base : Context) (e : End) (i : Bool) (ms rest : List Mark) (x : Tree) → IsFormula base e i ms x rest → AllGood a.text ms → faults a x scope ≡ []
    → (T : List ℕ) (at : ℕ) (post : List ℕ) (c : Context) → IsAt c base.iffs base.variables → c.nestings + (nestings_of x).alone ≤ NESTINGS
    → Here T at (text_of sig (names_of scope) (formula_read a x scope) ++ post) → breaks post ≡ true → Stands a scope (formula_read a x scope) (nestings_of x) c T at post
spelled_stands a sig later scope base e i ms rest x h good fine T at post c k w here b =
    tidy_stands a sig later scope base.iffs base.variables x (formula_tidy a.text h good).0 fine T at post c k w here b

pub words_are : (T : List ℕ) (ms : List Mark) → AllByRecursion (λ (m : Mark). m.word ≡ word_of T m.word.token) ms → words_in ms ≡ map (word_of T) (map token_of ms)
words_are T [] h = refl
words_are T (m ∷ ms) h = ap (λ (w : Word). w ∷ words_in ms) h.0 ∙ ap (λ (ws : List Word). word_of T m.word.token ∷ ws) (words_are T ms h.1)

module _ (a : Around) (scope : Scope) where
  -- a formula that is all of a text is what the text has
  pub stands_alone : (f : Formula) (n : Nestings) (T : List ℕ) → Stands a scope f n (base_in scope) T 0 [] → n.alone ≤ NESTINGS → HasFormula (with_text a T) scope (Ok f)
  stands_alone f n T s w =
      let ws : List Word = words_in s.marks in
      let tokens : List Token = map token_of s.marks in
      let over : s.next ≡ length T = let left = ap length s.later.is in omega (arith, left, length-drop s.next T, s.later.fits) in
      let scans : Scans T 0 (Ok tokens) = subst (λ (ts : List Token). Scans T 0 (Ok ts)) (append-nil tokens) (s.goes.scans (Ok []) (Scans.end over)) in
      let count : (nestings_of s.tree).alone ≡ n.alone = ap (λ (m : Nestings). m.alone) s.nestings in
      let longest : IsLongest (base_in scope) ws (length ws) s.tree = record {
        marks = s.marks;
        begins = record { within = omega arith; are = sym (take_all (length ws) ws (omega arith)); allowed = s.goes.within };
        spelled = subst (λ (ms : List Mark). formula_in (base_in scope) s.tree ms []) (append-nil s.marks) (s.spelled []);
        stops = λ less. absurd (omega (arith, less));
      } in
      let answer : IsAnswer (base_in scope) ws (Read.Formula s.tree (length ws)) = (longest, omega (arith, count, w)) in
      let whole : outcome (with_text a T) scope ws (Read.Formula s.tree (length ws)) ≡ Ok f =
      ap (λ (t : Bool). if t then first_broken (faults (with_text a T) s.tree scope) (formula_read (with_text a T) s.tree scope) else Err (TextError.Syntax (place_in (length T) ws (length ws)))) (number_is_itself (length ws))
      ∙ ap (λ (vs : List Violation). first_broken vs (formula_read (with_text a T) s.tree scope)) s.fine
      ∙ ap (λ (g : Formula). Ok g) s.is in
      has_outcome (with_text a T) scope tokens ws (Read.Formula s.tree (length ws)) scans (words_are T s.marks s.goes.words) answer (Ok f) (sym whole)

  -- what was read, by itself
  pub record WasRead (f : Formula) : Type 0 where
    pub marks : List Mark
    pub tree : Tree
    pub end : End
    pub iff : Bool
    pub spelled : IsFormula (base_in scope) end iff marks tree []
    pub good : AllGood a.text marks
    pub fine : faults a tree scope ≡ []
    pub is : formula_read a tree scope ≡ f
    pub nestings : (nestings_of tree).alone ≤ NESTINGS

  first_of : (vs : List Violation) (g f : Formula) → first_broken vs g ≡ Ok f → (vs ≡ []) × (g ≡ f)
  first_of [] g f e = (refl, cc)
  first_of (v ∷ vs) g f e = cc

  outcome_of : (tokens : List Token) (ws : List Word) (found : Read) (f : Formula) → Scans a.text 0 (Ok tokens) → ws ≡ map (word_of a.text) tokens → IsAnswer (base_in scope) ws found → Ok f ≡ outcome a scope ws found → WasRead f
  outcome_of tokens ws (Read.Syntax n) f h k answer e = cc
  outcome_of tokens ws (Read.TooDeep n) f h k answer e = cc
  outcome_of tokens ws (Read.Formula x n) f h k answer e = whole (n == length ws) refl e
    where
      whole : (t : Bool) → (n == length ws) ≡ t → ◌≡◌ {A = Result Formula TextError} (Ok f) (if t then first_broken (faults a x scope) (formula_read a x scope) else Err (TextError.Syntax (place_in (length a.text) ws n))) → WasRead f
      whole false t g = cc
      whole true t g =
          let all : n ≡ length ws = grind (arith, t) in
          let both = first_of (faults a x scope) (formula_read a x scope) f (sym g) in
          let are : words_in answer.0.marks ≡ map (word_of a.text) tokens = answer.0.begins.are ∙ take_all n ws (omega (arith, all)) ∙ k in
          record {
            marks = answer.0.marks;
            tree = x;
            end = answer.0.spelled.0;
            iff = answer.0.spelled.1.0;
            spelled = answer.0.spelled.1.1;
            good = marks_good a.text answer.0.marks tokens are (scanned_good a.text h) answer.0.begins.allowed;
            fine = both.0;
            is = both.1;
            nestings = omega (arith, answer.1);
          }

  was_read : (f : Formula) → HasFormula a scope (Ok f) → WasRead f
  was_read f (HasFormula.bad at h e) = cc
  was_read f (HasFormula.read tokens found h answer e) = outcome_of tokens (map (word_of a.text) tokens) found f h refl answer e

pub reads_back : FormulasReadBack
reads_back a scope f h =
    let r = was_read a scope f h in
    let T : List ℕ = text_of a.signature (names_of scope) f in
    let text : text_of a.signature (names_of scope) (formula_read a r.tree scope) ≡ T = ap (text_of a.signature (names_of scope)) r.is in
    let s = spelled_stands a a.signature (extends_itself a.signature) scope (base_in scope) r.end r.iff r.marks [] r.tree r.spelled r.good r.fine T 0 [] (base_in scope) (record { iffs = refl; variables = refl }) (omega (arith, r.nestings))
    (record { fits = omega arith; is = sym (append-nil (text_of a.signature (names_of scope) (formula_read a r.tree scope)) ∙ text) }) refl in
    stands_alone a scope f (nestings_of r.tree) T (subst (λ (g : Formula). Stands a scope g (nestings_of r.tree) (base_in scope) T 0 []) r.is s) r.nestings
