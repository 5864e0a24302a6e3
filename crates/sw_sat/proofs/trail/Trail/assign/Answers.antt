use Rattle.sw_sat.proofs.Agreement.{assigned_agrees}
use Rattle.sw_sat.proofs.trail.Trail.assign.Goals as goal

pub returns-clause-agrees : goal.returns-clause-agrees
returns-clause-agrees c = record {
  each = assigned_agrees c.args.self.now.values.items c.args.self.now.entries.items c.push_reserved.new.self.items (record { lit = c.args.lit; reason = c.args.reason })
      c.requires.agrees.each c.requires.within c.push_reserved.ensures.items;
}
