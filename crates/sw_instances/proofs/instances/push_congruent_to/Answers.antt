use Rattle.std.proofs.Common.{◌++◌, ◌∷◌, [], ◌∙◌, ap}
use Rattle.sw_truth.specs.declared.instances.Instance.TheVariants.{Congruent}
use Rattle.sw_instances.proofs.Listing.{more_mapped}
use Rattle.sw_instances.proofs.instances.push_congruent_to.Goals as goal

pub loop-u-preserved : goal.loop-u-preserved
loop-u-preserved c = more_mapped (Congruent c.args.symbol c.args.place c.args.terms.now) c.loop-u.u c.args.all.now c.loop-u.all c.push.new.self (c.in_ok-push.ensures.ok ∙ ap (λ i. c.loop-u.all ++ i ∷ []) c.in_ok-congruent_at.ensures) c.loop-u.invariant
