-- How a report and a refusal end a run, where they are written whole and where a sink failed.
use Rattle.std.specs.Prelude.{◌≡◌, ℕ, List, [], Option, Some, None, Result, Ok, Err, string_bytes}
use Rattle.std.proofs.Common.{refl, sym, ap, subst, append-nil, inl, inr}
use Rattle.sw_edge.specs.Edge.{Gains}
use Rattle.sw_run.specs.declared.told.Refusal.{Refusal}
use Rattle.sw_run.specs.declared.told.Refusal.TheVariants.{NoMemory}
use Rattle.sw_run.specs.declared.report.Report.{Report}
use Rattle.sw_run.specs.Refusals.{refusal_line, refusal_status}
use Rattle.sw_run.specs.Ending.{Answer, Ends, Writes, TellsLine, TellsRefusal, IsOrLacksMemory, change, answer_of, refused, Change}

-- a line that was told is that of its refusal
pub tells_same : (e r : Refusal) (err : Change) (status : ℕ) → e ≡ r → TellsRefusal r err status → TellsRefusal e err status
tells_same e r err status is tells = subst (λ x. TellsRefusal x err status) (sym is) tells

-- a line that was written is that of its refusal
pub tells_line : (e r : Refusal) (err : Change) (status : ℕ) → e ≡ r → Writes err (refusal_line r) (refusal_status r) status → TellsRefusal e err status
tells_line e r err status is writes = tells_same e r err status is (TellsLine.its_line writes)

pub tells_text : (line : List ℕ) (whole : ℕ) (err : Change) (status : ℕ) (text : List ℕ) → text ≡ line → Writes err text whole status → TellsLine line whole err status
tells_text line whole err status text is writes = TellsLine.its_line (subst (λ t. Writes err t whole status) is writes)

gains_nothing : (held : Option (List ℕ)) → Gains held held []
gains_nothing None = refl
gains_nothing (Some bytes) = ap Some (sym (append-nil bytes))

module _ (before now other : Option (List ℕ)) (f g h status : ℕ) where
  -- a report was written to `out`
  report_written : (r : Report) → Writes (change before now f g) (string_bytes r.text) r.status status
      → Ends (IsOrLacksMemory (answer_of (Ok r))) (change before now f g) (change other other h h) status
  report_written r (Writes.all is gained) = Ends.told (answer_of (Ok r)) (inl refl) is gained (gains_nothing other)
  report_written r (Writes.part is part) = Ends.out_failed (answer_of (Ok r)) (inl refl) is part (gains_nothing other)

  pub report_ends : (told : Result Report Refusal) (r : Report) → told ≡ Ok r → Writes (change before now f g) (string_bytes r.text) r.status status
      → Ends (IsOrLacksMemory (answer_of told)) (change before now f g) (change other other h h) status
  report_ends told r is writes = subst (λ t. Ends (IsOrLacksMemory (answer_of t)) (change before now f g) (change other other h h) status) (sym is) (report_written r writes)

  -- a refusal was told to `err`
  refusal_told : (e : Refusal) → TellsRefusal e (change before now f g) status → Ends (IsOrLacksMemory (refused e)) (change other other h h) (change before now f g) status
  refusal_told e (TellsLine.its_line (Writes.all is gained)) = Ends.told (refused e) (inl refl) is (gains_nothing other) gained
  refusal_told e (TellsLine.its_line (Writes.part is part)) = Ends.err_failed (refused e) (inl refl) is refl (gains_nothing other) part
  refusal_told e (TellsLine.no_memory (Writes.all is gained)) = Ends.told (refused NoMemory) (inr refl) is (gains_nothing other) gained
  refusal_told e (TellsLine.no_memory (Writes.part is part)) = Ends.err_failed (refused NoMemory) (inr refl) is refl (gains_nothing other) part

  pub refusal_ends : (told : Result Report Refusal) (e : Refusal) → told ≡ Err e → TellsRefusal e (change before now f g) status
      → Ends (IsOrLacksMemory (answer_of told)) (change other other h h) (change before now f g) status
  refusal_ends told e is tells = subst (λ t. Ends (IsOrLacksMemory (answer_of t)) (change other other h h) (change before now f g) status) (sym is) (refusal_told e tells)

-- what ends a run with some answers ends it with more
ends_with_more : (P Q : Answer → Type 0) (out err : Change) (status : ℕ) → ((a : Answer) → P a → Q a) → Ends P out err status → Ends Q out err status
ends_with_more P Q out err status more (Ends.told a p s o e) = Ends.told a (more a p) s o e
ends_with_more P Q out err status more (Ends.out_failed a p s o e) = Ends.out_failed a (more a p) s o e
ends_with_more P Q out err status more (Ends.err_failed a p s t o e) = Ends.err_failed a (more a p) s t o e

either_allowed : (P : Answer → Type 0) (a : Answer) → P a → P (refused NoMemory) → (b : Answer) → IsOrLacksMemory a b → P b
either_allowed P a here lacks b (inl is) = subst P (sym is) here
either_allowed P a here lacks b (inr is) = subst P (sym is) lacks

-- the answer is allowed, and want of memory is
pub allowed_ends : (P : Answer → Type 0) (out err : Change) (told : Result Report Refusal) (status : ℕ) → P (answer_of told) → P (refused NoMemory)
    → Ends (IsOrLacksMemory (answer_of told)) out err status → Ends P out err status
allowed_ends P out err told status allowed lacks ends = ends_with_more (IsOrLacksMemory (answer_of told)) P out err status (either_allowed P (answer_of told) allowed lacks) ends
