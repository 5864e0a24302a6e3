-- A text has one answer.
use Rattle.std.specs.Prelude.{◌≡◌, ℕ, List, [], ◌∷◌, map, Result, Ok, Err, IfSome}
use Rattle.std.proofs.Common.{sym, subst, ap, ◌∙◌}
use Rattle.sw_scan.specs.declared.Token.{Token}
use Rattle.sw_scan.specs.declared.ScanError.{ScanError}
use Rattle.sw_scan.specs.Scans.{Scans, answer_of as scanned}
use Rattle.sw_scan.proofs.Unique.{one_scan}
use Rattle.sw_meaning.specs.declared.protocol.Protocol.{Protocol}
use Rattle.sw_trees.specs.declared.words.Word.{Word}
use Rattle.sw_text.specs.declared.names.Violation.{Violation}
use Rattle.sw_trees.specs.Words.{word_of}
use Rattle.sw_protocol.specs.declared.parsing.Parsed.{Parsed}
use Rattle.sw_protocol.specs.declared.texts.ProtocolError.{ProtocolError}
use Rattle.sw_protocol.specs.Answers.{IsAnswer}
use Rattle.sw_protocol.specs.Texts.{first_broken, outcome, HasDeclared, OneDeclared, answer_of}
use Rattle.sw_protocol.proofs.OneParse.{one_parse}

module _ (text : List ℕ) where
  abbrev words : List Token → List Word
  words tokens = map (word_of text) tokens

  same_tokens : (ts us : List Token) → Scans text 0 (Ok ts) → Scans text 0 (Ok us) → ts ≡ us
  same_tokens ts us h k = let same : ◌≡◌ {A = Result (List Token) ℕ} (Ok ts) (Ok us) = one_scan text 0 (Ok ts) (Ok us) h k in cc

  same_place : (at to : ℕ) → Scans text 0 (Err at) → Scans text 0 (Err to) → at ≡ to
  same_place at to h k = let same : ◌≡◌ {A = Result (List Token) ℕ} (Err at) (Err to) = one_scan text 0 (Err at) (Err to) h k in cc

  not_both : (ts : List Token) (at : ℕ) → Scans text 0 (Ok ts) → Scans text 0 (Err at) → ⊥
  not_both ts at h k = let same : ◌≡◌ {A = Result (List Token) ℕ} (Ok ts) (Err at) = one_scan text 0 (Ok ts) (Err at) h k in cc

  same_outcome : (ts us : List Token) (r s : Parsed) → ts ≡ us → IsAnswer text (words ts) r → IsAnswer text (words us) s → outcome text (words ts) r ≡ outcome text (words us) s
  same_outcome ts us r s e h k =
      let same = one_parse text (words ts) r s h (subst (λ vs. IsAnswer text (words vs) s) (sym e) k) in
      ap (outcome text (words ts)) same ∙ ap (λ vs. outcome text (words vs) s) e

pub one_declared : OneDeclared
one_declared text r s (HasDeclared.bad at h e) (HasDeclared.bad to k g) = e ∙ ap (λ n. Err (ProtocolError.BadByte n)) (same_place text at to h k) ∙ sym g
one_declared text r s (HasDeclared.bad at h e) (HasDeclared.read us found k i g) = absurd (not_both text us at k h)
one_declared text r s (HasDeclared.read ts found h i e) (HasDeclared.bad to k g) = absurd (not_both text ts to h k)
one_declared text r s (HasDeclared.read ts found h i e) (HasDeclared.read us other k j g) = e ∙ same_outcome text ts us found other (same_tokens text ts us h k) i j ∙ sym g

module _ (text : List ℕ) where
  pub found_is : (vs : List Violation) (p q : Protocol) → vs ≡ [] → q ≡ p → ◌≡◌ {A = Result Protocol ProtocolError} (Ok q) (first_broken vs p)
  found_is vs p q e h = ap Ok h ∙ ap (λ us. first_broken us p) (sym e)

  pub broken_is : (vs rest : List Violation) (p : Protocol) (v : Violation) → vs ≡ v ∷ rest → ◌≡◌ {A = Result Protocol ProtocolError} (Err (ProtocolError.Broken v)) (first_broken vs p)
  broken_is vs rest p v e = ap (λ us. first_broken us p) (sym e)

  pub has_bad : (e : ScanError) (at to : ℕ) → e ≡ ScanError.BadByte at → to ≡ at → IfSome (scanned (Err e)) (Scans text 0) → HasDeclared text (Err (ProtocolError.BadByte to))
  has_bad e at to is n h = HasDeclared.bad at (subst (λ (d : ScanError). IfSome (scanned (Err d)) (Scans text 0)) is h) (ap (λ m. Err (ProtocolError.BadByte m)) n)

  -- what was read is what the text has
  pub has_outcome : (tokens : List Token) (ws : List Word) (found : Parsed) → Scans text 0 (Ok tokens) → ws ≡ map (word_of text) tokens → IsAnswer text ws found
      → (r : Result Protocol ProtocolError) → r ≡ outcome text ws found → HasDeclared text r
  has_outcome tokens ws found h w i r e =
      HasDeclared.read tokens found h (subst (λ us. IsAnswer text us found) w i) (e ∙ ap (λ us. outcome text us found) w)

  pub each_outcome : (P Q : Result Protocol ProtocolError → Type 0) → ((r : Result Protocol ProtocolError) → P r → Q r) → (r : Result Protocol ProtocolError) → IfSome (answer_of r) P → IfSome (answer_of r) Q
  each_outcome P Q f (Ok x) h = f (Ok x) h
  each_outcome P Q f (Err (ProtocolError.BadByte at)) h = f (Err (ProtocolError.BadByte at)) h
  each_outcome P Q f (Err (ProtocolError.Syntax at)) h = f (Err (ProtocolError.Syntax at)) h
  each_outcome P Q f (Err (ProtocolError.TooDeep at)) h = f (Err (ProtocolError.TooDeep at)) h
  each_outcome P Q f (Err (ProtocolError.Broken v)) h = f (Err (ProtocolError.Broken v)) h
  each_outcome P Q f (Err (ProtocolError.NotStratified sort)) h = f (Err (ProtocolError.NotStratified sort)) h
  each_outcome P Q f (Err ProtocolError.Memory) h = h

  pub no_other : (r : Result Protocol ProtocolError) → IfSome (answer_of r) (HasDeclared text) → (s : Result Protocol ProtocolError) → HasDeclared text s → IfSome (answer_of r) (λ t. t ≡ s)
  no_other r h s k = each_outcome (HasDeclared text) (λ t. t ≡ s) (λ t i. one_declared text t s i k) r h
