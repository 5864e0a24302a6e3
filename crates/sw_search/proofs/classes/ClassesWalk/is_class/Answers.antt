use Rattle.std.specs.Prelude.{◌≡◌, ◌↔◌, IsTrue, Contains}
use Rattle.std.proofs.Common.{subst}
use Rattle.sw_enumerate.specs.Spaces.{Made, classes_in}
use Rattle.sw_search.proofs.Searchable.{class_of_parts, class_of_classes}
use Rattle.sw_search.proofs.classes.ClassesWalk.is_class.Goals as goal

pub returns : goal.returns
returns c =
    let b = c.args.body.now in
    let is = subst (λ (s : Made). IsTrue c.is_class.result ↔ ((b.template ≡ 0) × Contains (classes_in s) b.cubes)) c.self.view_is c.is_class.ensures in
    ((λ h. class_of_classes c.args.self.now b (is.0 h)), (λ h. is.1 (class_of_parts c.args.self.now b h)))
