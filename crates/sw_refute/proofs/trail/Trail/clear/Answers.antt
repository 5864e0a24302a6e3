use Rattle.std.proofs.Common.{◌<◌, ◌∷◌, [], false, Contains, arith, sym, subst, refl, ◌∙◌}
use Rattle.std.proofs.lemmas.List.{length-set}
use Rattle.std.proofs.lemmas.List.Elements.{Contains-append_left, Contains-push}
use Rattle.sw_refute.proofs.Trails.{within, set_false}
use Rattle.sw_refute.proofs.trail.Trail.clear.Goals as goal

pub loop-lit-init : goal.loop-lit-init
loop-lit-init c = record {
  size = c.requires.size;
  variables = refl;
  within = λ m h. within c.args.self.now.truth.items m ((c.requires.entries m).1 h);
  among = λ m t. (c.requires.entries m).0 t;
}

pub index_mut-requires : goal.index_mut-requires
index_mut-requires c =
    let here : Contains c.loop-lit.self.lits.items c.in-Some.lit = subst (λ ls. Contains ls c.in-Some.lit) (sym c.in-Some.ensures.items) (Contains-push c.pop.new.self.items c.in-Some.lit) in
    omega (arith, c.loop-lit.invariant.within c.in-Some.lit here, c.loop-lit.self.truth.ok.0)

pub loop-lit-preserved : goal.loop-lit-preserved
loop-lit-preserved c =
    let truth = c.loop-lit.self.truth.items in
    let lit = c.in-Some.lit in
    let here : Contains c.loop-lit.self.lits.items lit = subst (λ ls. Contains ls lit) (sym c.in-Some.ensures.items) (Contains-push c.pop.new.self.items lit) in
    record {
      size = length-set truth lit.0 false ∙ c.loop-lit.invariant.size;
      variables = c.loop-lit.invariant.variables;
      within = λ m h. subst (λ n. m.0 < n) (sym (length-set truth lit.0 false))
          (c.loop-lit.invariant.within m (subst (λ ls. Contains ls m) (sym c.in-Some.ensures.items) (Contains-append_left c.pop.new.self.items (lit ∷ []) m h)));
      among = set_false truth c.loop-lit.self.lits.items c.pop.new.self.items lit (c.loop-lit.invariant.within lit here) c.in-Some.ensures.items c.loop-lit.invariant.among;
    }
