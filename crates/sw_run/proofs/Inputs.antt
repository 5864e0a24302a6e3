-- The bytes of an input have one fault, or are a text of one protocol.
use Rattle.std.specs.Prelude.{◌≡◌, ℕ, List, Result, Ok, Err}
use Rattle.std.proofs.Common.{refl, sym, subst, ap, ◌∙◌}
use Rattle.sw_meaning.specs.declared.protocol.Protocol.{Protocol}
use Rattle.sw_meaning.specs.Edges.{protocol_edges}
use Rattle.sw_meaning.specs.ProtocolText.{sort_text}
use Rattle.sw_logic.specs.Strata.{FirstOnCycle}
use Rattle.sw_protocol.specs.declared.texts.ProtocolError.{ProtocolError}
use Rattle.sw_protocol.specs.Stratified.{Judges, HasProtocol, IsText}
use Rattle.sw_protocol.proofs.OneDeclared.{one_declared}
use Rattle.sw_protocol.proofs.OneReading.{one_protocol, same_first}
use Rattle.sw_run.specs.Refusals.{input_refusal}
use Rattle.sw_run.specs.Ending.{Faults}
use Rattle.sw_run.specs.declared.told.Refusal.{Refusal}
use Rattle.sw_run.specs.declared.told.Refusal.TheVariants.{NotStratified}

same_error : (e f : ProtocolError) → ◌≡◌ {A = Result Protocol ProtocolError} (Err e) (Err f) → e ≡ f
same_error e f h = cc

same_protocol : (p q : Protocol) → ◌≡◌ {A = Result Protocol ProtocolError} (Ok p) (Ok q) → p ≡ q
same_protocol p q h = cc

apart : (p : Protocol) (e : ProtocolError) → ◌≡◌ {A = Result Protocol ProtocolError} (Ok p) (Err e) → ⊥
apart p e h = cc

pub one_fault : (bytes : List ℕ) (r s : Refusal) → Faults bytes r → Faults bytes s → r ≡ s
one_fault bytes r s (Faults.undeclared e h i) (Faults.undeclared f k j) = i ∙ ap input_refusal (same_error e f (one_declared bytes (Err e) (Err f) h k)) ∙ sym j
one_fault bytes r s (Faults.undeclared e h i) (Faults.unstratified q n k c j) = absurd (apart q e (one_declared bytes (Ok q) (Err e) k h))
one_fault bytes r s (Faults.unstratified p m h b i) (Faults.undeclared f k j) = absurd (apart p f (one_declared bytes (Ok p) (Err f) h k))
one_fault bytes r s (Faults.unstratified p m h b i) (Faults.unstratified q n k c j) =
    let same : p ≡ q = same_protocol p q (one_declared bytes (Ok p) (Ok q) h k) in
    let sort : m ≡ n = same_first (protocol_edges p) m n b (subst (λ x. FirstOnCycle (protocol_edges x) n) (sym same) c) in
    i ∙ ap (λ x. NotStratified (sort_text p.signature x)) sort ∙ ap (λ (x : Protocol). NotStratified (sort_text x.signature n)) same ∙ sym j

-- what has a fault is no text of a protocol
pub not_both : (bytes : List ℕ) (r : Refusal) (p : Protocol) → Faults bytes r → IsText bytes p → ⊥
not_both bytes r p (Faults.undeclared e h i) t = apart p e (one_protocol bytes (Ok p) (Err e) t (HasProtocol.refused e h refl))
not_both bytes r p (Faults.unstratified q n k c j) t = apart p (ProtocolError.NotStratified n) (one_protocol bytes (Ok p) (Err (ProtocolError.NotStratified n)) t (HasProtocol.declared q k (Judges.cycle n c refl)))

pub one_text : (bytes : List ℕ) (p q : Protocol) → IsText bytes p → IsText bytes q → p ≡ q
one_text bytes p q h k = same_protocol p q (one_protocol bytes (Ok p) (Ok q) h k)
