use Rattle.std.specs.Prelude.{None}
use Rattle.std.proofs.Common.{refl, inl}
use Rattle.sw_run.specs.Ending.{Searches}
use Rattle.sw_run.proofs.Rows.{fault_named}
use Rattle.sw_run.proofs.answer.breadth_space.Goals as goal

pub returns-in-Err-Faulty-clause-refused : goal.returns-in-Err-Faulty-clause-refused
returns-in-Err-Faulty-clause-refused c =
    inl (Searches.breadth_faulty c.in-Err-Faulty.fault
    (fault_named c.args.options.now.breadth c.args.protocol.now None c.in-Err-Faulty.field-0 c.in-Err-Faulty.fault c.in-Err-Faulty.field-0-is c.in-Err-Faulty.ensures.none) refl)
