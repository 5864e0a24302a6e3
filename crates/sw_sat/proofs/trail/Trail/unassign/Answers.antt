use Rattle.sw_sat.proofs.Agreement.{unassigned_agrees, last_within}
use Rattle.sw_sat.proofs.trail.Trail.unassign.Goals as goal

pub returns-in-Some-clause-agrees : goal.returns-in-Some-clause-agrees
returns-in-Some-clause-agrees c = record {
  each = unassigned_agrees c.args.self.now.values.items c.args.self.now.entries.items c.pop.new.self.items c.in-Some.last
      c.requires.agrees.each c.requires.plain.apart
      (last_within c.args.self.now.values.items c.args.self.now.entries.items c.pop.new.self.items c.in-Some.last c.requires.plain.within c.in-Some.ensures.items) c.in-Some.ensures.items;
}
