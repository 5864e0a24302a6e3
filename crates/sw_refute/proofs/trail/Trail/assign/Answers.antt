use Rattle.std.proofs.Common.{◌≡◌, ◌<◌, ◌↔◌, true, false, length, get_or, set, Contains, sym, subst, ◌∙◌}
use Rattle.std.proofs.lemmas.List.{length-set}
use Rattle.sw_refute.specs.declared.clauses.Lit.{Lit}
use Rattle.sw_refute.proofs.Trails.{half_within, set_true}
use Rattle.sw_refute.proofs.trail.Trail.assign.Goals as goal

pub returns-clause-trail : goal.returns-clause-trail
returns-clause-trail c =
    let truth = c.args.self.now.truth.items in
    let h : c.args.lit.0 < length truth = half_within c.args.lit.0 c.args.self.now.variables (length truth) c.requires.trail.size c.requires.over in
    record {
      size = length-set truth c.args.lit.0 true ∙ c.requires.trail.size;
      entries = subst (λ ls. (m : Lit) → (get_or (set truth c.args.lit.0 true) m.0 false ≡ true) ↔ Contains ls m) (sym c.in_ok-push.ensures.items)
          (set_true truth c.args.self.now.lits.items c.args.lit h c.requires.trail.entries);
    }
