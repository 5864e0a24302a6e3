-- A text has one answer, and what is read is well sorted.
use Rattle.std.specs.Prelude.{◌≡◌, ◌==◌, ℕ, Bool, true, false, List, [], ◌∷◌, length, map, Result, Ok, Err, IfOk, IfSome, if◌then◌else◌}
use Rattle.std.proofs.Common.{refl, sym, subst, ap, ◌∙◌}
use Rattle.sw_logic.specs.declared.syntax.Formula.{Formula}
use Rattle.sw_logic.specs.Sorted.{well_sorted}
use Rattle.sw_scan.specs.declared.Token.{Token}
use Rattle.sw_scan.specs.declared.ScanError.{ScanError}
use Rattle.sw_scan.specs.Scans.{Scans, answer_of as scanned}
use Rattle.sw_scan.proofs.Unique.{one_scan}
use Rattle.sw_trees.specs.declared.words.Word.{Word}
use Rattle.sw_trees.specs.declared.tree.Tree.{Tree}
use Rattle.sw_text.specs.declared.names.Violation.{Violation}
use Rattle.sw_trees.specs.declared.reader.Read.{Read}
use Rattle.sw_text.specs.declared.texts.TextError.{TextError}
use Rattle.sw_trees.specs.Words.{word_of}
use Rattle.sw_trees.specs.Answers.{IsAnswer}
use Rattle.sw_text.specs.Names.{Around, Scope, reads_post, faults, formula_read}
use Rattle.sw_text.specs.Texts.{outcome, first_broken, base_in, HasFormula, OneFormula, answer_of, place_in, sorts_of_scope}
use Rattle.sw_trees.proofs.OneAnswer.{one_answer}
use Rattle.sw_text.proofs.WellSorted.{read_is_well_sorted}

module _ (a : Around) (scope : Scope) where
  abbrev words : List Token → List Word
  words tokens = map (word_of a.text) tokens

  same_tokens : (ts us : List Token) → Scans a.text 0 (Ok ts) → Scans a.text 0 (Ok us) → ts ≡ us
  same_tokens ts us h k = let same : ◌≡◌ {A = Result (List Token) ℕ} (Ok ts) (Ok us) = one_scan a.text 0 (Ok ts) (Ok us) h k in cc

  same_place : (at to : ℕ) → Scans a.text 0 (Err at) → Scans a.text 0 (Err to) → at ≡ to
  same_place at to h k = let same : ◌≡◌ {A = Result (List Token) ℕ} (Err at) (Err to) = one_scan a.text 0 (Err at) (Err to) h k in cc

  not_both : (ts : List Token) (at : ℕ) → Scans a.text 0 (Ok ts) → Scans a.text 0 (Err at) → ⊥
  not_both ts at h k = let same : ◌≡◌ {A = Result (List Token) ℕ} (Ok ts) (Err at) = one_scan a.text 0 (Ok ts) (Err at) h k in cc

  same_outcome : (ts us : List Token) (r s : Read) → ts ≡ us → IsAnswer (base_in scope) (words ts) r → IsAnswer (base_in scope) (words us) s → outcome a scope (words ts) r ≡ outcome a scope (words us) s
  same_outcome ts us r s e h k =
      let same = one_answer (base_in scope) (words ts) r s h (subst (λ vs. IsAnswer (base_in scope) (words vs) s) (sym e) k) in
      ap (outcome a scope (words ts)) same ∙ ap (λ vs. outcome a scope (words vs) s) e

  -- what is found of a tree is well sorted
  first_sorted : (vs : List Violation) (x : Tree) (f : Formula) → faults a x scope ≡ vs → first_broken vs (formula_read a x scope) ≡ Ok f → well_sorted a.signature (reads_post a.place) f (sorts_of_scope scope) ≡ true
  first_sorted [] x f e h =
      let same : formula_read a x scope ≡ f = cc in
      subst (λ g. well_sorted a.signature (reads_post a.place) g (sorts_of_scope scope) ≡ true) same (read_is_well_sorted a x scope e)
  first_sorted (v ∷ vs) x f e h = cc

pub one_formula : OneFormula
one_formula a scope r s (HasFormula.bad at h e) (HasFormula.bad to k g) = e ∙ ap (λ n. Err (TextError.BadByte n)) (same_place a scope at to h k) ∙ sym g
one_formula a scope r s (HasFormula.bad at h e) (HasFormula.read us found k i g) = absurd (not_both a scope us at k h)
one_formula a scope r s (HasFormula.read ts found h i e) (HasFormula.bad to k g) = absurd (not_both a scope ts to h k)
one_formula a scope r s (HasFormula.read ts found h i e) (HasFormula.read us other k j g) = e ∙ same_outcome a scope ts us found other (same_tokens a scope ts us h k) i j ∙ sym g

module _ (a : Around) (scope : Scope) where
  pub found_is : (vs : List Violation) (f y : Formula) → vs ≡ [] → y ≡ f → ◌≡◌ {A = Result Formula TextError} (Ok y) (first_broken vs f)
  found_is vs f y e h = ap Ok h ∙ ap (λ us. first_broken us f) (sym e)

  pub broken_is : (vs rest : List Violation) (f : Formula) (v : Violation) → vs ≡ v ∷ rest → ◌≡◌ {A = Result Formula TextError} (Err (TextError.Broken v)) (first_broken vs f)
  broken_is vs rest f v e = ap (λ us. first_broken us f) (sym e)

  pub has_bad : (e : ScanError) (at to : ℕ) → e ≡ ScanError.BadByte at → to ≡ at → IfSome (scanned (Err e)) (Scans a.text 0) → HasFormula a scope (Err (TextError.BadByte to))
  has_bad e at to is n h = HasFormula.bad at (subst (λ (d : ScanError). IfSome (scanned (Err d)) (Scans a.text 0)) is h) (ap (λ m. Err (TextError.BadByte m)) n)

  -- what was read is what the text has
  pub has_outcome : (tokens : List Token) (ws : List Word) (found : Read) → Scans a.text 0 (Ok tokens) → ws ≡ map (word_of a.text) tokens → IsAnswer (base_in scope) ws found
      → (r : Result Formula TextError) → r ≡ outcome a scope ws found → HasFormula a scope r
  has_outcome tokens ws found h w i r e =
      HasFormula.read tokens found h (subst (λ us. IsAnswer (base_in scope) us found) w i) (e ∙ ap (λ us. outcome a scope us found) w)

  pub each_outcome : (P Q : Result Formula TextError → Type 0) → ((r : Result Formula TextError) → P r → Q r) → (r : Result Formula TextError) → IfSome (answer_of r) P → IfSome (answer_of r) Q
  each_outcome P Q f (Ok x) h = f (Ok x) h
  each_outcome P Q f (Err (TextError.BadByte at)) h = f (Err (TextError.BadByte at)) h
  each_outcome P Q f (Err (TextError.Syntax at)) h = f (Err (TextError.Syntax at)) h
  each_outcome P Q f (Err (TextError.TooDeep at)) h = f (Err (TextError.TooDeep at)) h
  each_outcome P Q f (Err (TextError.Broken v)) h = f (Err (TextError.Broken v)) h
  each_outcome P Q f (Err TextError.Memory) h = h

  pub no_other : (r : Result Formula TextError) → IfSome (answer_of r) (HasFormula a scope) → (s : Result Formula TextError) → HasFormula a scope s → IfSome (answer_of r) (λ t. t ≡ s)
  no_other r h s k = each_outcome (HasFormula a scope) (λ t. t ≡ s) (λ t i. one_formula a scope t s i k) r h

  outcome_sorted : (ws : List Word) (found : Read) (f : Formula) → Ok f ≡ outcome a scope ws found → well_sorted a.signature (reads_post a.place) f (sorts_of_scope scope) ≡ true
  outcome_sorted ws (Read.Syntax n) f e = cc
  outcome_sorted ws (Read.TooDeep n) f e = cc
  outcome_sorted ws (Read.Formula x n) f e = whole (n == length ws) e
    where
      whole : (b : Bool) → ◌≡◌ {A = Result Formula TextError} (Ok f) (if b then first_broken (faults a x scope) (formula_read a x scope) else Err (TextError.Syntax (place_in (length a.text) ws n))) → well_sorted a.signature (reads_post a.place) f (sorts_of_scope scope) ≡ true
      whole true g = first_sorted a scope (faults a x scope) x f refl (sym g)
      whole false g = cc

  pub sorted : (r : Result Formula TextError) → IfSome (answer_of r) (HasFormula a scope) → IfOk r (λ f. well_sorted a.signature (reads_post a.place) f (sorts_of_scope scope) ≡ true)
  sorted (Ok f) (HasFormula.bad at h e) = cc
  sorted (Ok f) (HasFormula.read tokens found h i e) = outcome_sorted (map (word_of a.text) tokens) found f e
  sorted (Err e) h = tt
