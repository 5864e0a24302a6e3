use Rattle.std.specs.Prelude.{Some, None}
use Rattle.std.proofs.Common.{refl}
use Rattle.sw_run.proofs.Rows.{given_space}
use Rattle.sw_run.proofs.Spaces.{can_search}
use Rattle.sw_run.specs.Ending.{Names}
use Rattle.sw_worker_tests.proofs.inputs.literals_of.Goals as goal

-- the space that a text names can be searched
pub returns-in-Ok : goal.returns-in-Ok
returns-in-Ok c =
    let p = c.args.protocol.now in
    let text = c.as_bytes.result.now in
    let s = c.in-Ok.space in
    record {
      can = can_search p (record { breadth = Some text; finish = None; workers = 1; conflicts = None }) (Some s) None
          (given_space (Some text) p None text s refl c.in-Ok.ensures.has c.in-Ok.ensures.space)
          (record { named = Names.without refl refl; made = tt })
          c.requires.stratified;
    }
