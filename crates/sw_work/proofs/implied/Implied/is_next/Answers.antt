use Rattle.std.proofs.Common.{rules, ◌≡◌, Some, slice_get, option_map, Contains, List, ap, sym, ◌∙◌, subst}
use Rattle.std.proofs.lemmas.Option.{slice_get-map, slice_get-get_or}
use Rattle.sw_lists.proofs.Members.{get_contains}
use Rattle.sw_template.specs.Bodies.{Class}
use Rattle.sw_walk.specs.Parts.{classes_of}
use Rattle.sw_work.proofs.implied.Implied.is_next.Goals as goal

pub returns-clause-known : goal.returns-clause-known
returns-clause-known c =
    let before = c.args.self.now.before in
    let known : Class = c.in-Some.known.now in
    let found = c.in-Some.ensures.lookup in
    let slice : List Class = c.as_slice.result.now in
    let here : slice_get slice c.args.self.now.next ≡ Some known = slice_get-get_or slice c.args.self.now.next known found.3.0 ∙ ap Some (sym found.1) in
    let at : slice_get before c.args.self.now.next ≡ Some known = subst (λ (bs : List Class). slice_get bs c.args.self.now.next ≡ Some known) c.as_slice.ensures here in
    let same : known.cubes ≡ c.args.body.now.cubes = search rules in
    λ _. subst (Contains (classes_of before)) same
    (get_contains (classes_of before) c.args.self.now.next known.cubes (slice_get-map (λ (b : Class). b.cubes) before c.args.self.now.next ∙ ap (option_map (λ (b : Class). b.cubes)) at))
