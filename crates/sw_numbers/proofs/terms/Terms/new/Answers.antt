use Rattle.std.proofs.Common.{◌∙◌, refl, subst, List, ℕ}
use Rattle.sw_universe.specs.ByNumber.{counts}
use Rattle.sw_numbers.specs.Firsts.{AreFirsts}
use Rattle.sw_numbers.proofs.Standing.{is_indexed}
use Rattle.sw_numbers.proofs.terms.Terms.new.Goals as goal

pub returns : goal.returns
returns c =
    let sig = c.args.signature.now in
    let u = c.args.universe.now in
    let placed : AreFirsts sig (counts u) c.in_ok-firsts.firsts = subst (λ (x : List ℕ). AreFirsts sig x c.in_ok-firsts.firsts) (c.as_slice.ensures ∙ c.in_ok-counts.ensures) c.in_ok-firsts.ensures in
    record {
      signature = refl;
      counted = c.in_ok-counts.ensures;
      indexed = is_indexed sig u c.in_ok-firsts.firsts c.requires.good c.requires.strata c.requires.universe placed;
    }
