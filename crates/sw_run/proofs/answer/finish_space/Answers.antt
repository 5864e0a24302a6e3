use Rattle.std.specs.Prelude.{None}
use Rattle.std.specs.Option.{option_copied}
use Rattle.std.proofs.Common.{refl, inl}
use Rattle.sw_run.specs.Ending.{Searches}
use Rattle.sw_run.proofs.Rows.{fault_named}
use Rattle.sw_run.proofs.Spaces.{name_over}
use Rattle.sw_run.proofs.answer.finish_space.Goals as goal

pub named_space-requires-clause-over : goal.named_space-requires-clause-over
named_space-requires-clause-over c = name_over c.args.options.now.breadth c.args.protocol.now None (option_copied c.args.breadth) c.requires.named

pub returns-in-Err-Faulty-clause-refused : goal.returns-in-Err-Faulty-clause-refused
returns-in-Err-Faulty-clause-refused c =
    inl (Searches.finish_faulty (option_copied c.args.breadth) c.in-Err-Faulty.fault c.requires.named
    (fault_named c.args.options.now.finish c.args.protocol.now (option_copied c.args.breadth) c.in-Err-Faulty.field-0 c.in-Err-Faulty.fault c.in-Err-Faulty.field-0-is c.in-Err-Faulty.ensures.none) refl)
