use Rattle.std.proofs.Common.{◌∙◌}
use Rattle.sw_run.proofs.Ends.{tells_text}
use Rattle.sw_run.proofs.told.tell_template.Goals as goal

pub returns-in-Ok : goal.returns-in-Ok
returns-in-Ok g c = tells_text _ _ _ _ _ (c.as_str.ensures.value ∙ c.in-Ok.ensures) c.write_text.ensures
