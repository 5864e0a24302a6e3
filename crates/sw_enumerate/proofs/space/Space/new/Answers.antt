use Rattle.std.proofs.Common.{◌≡◌, ◌*◌, ◌≤◌, List, length, sym, ap, ◌∙◌, subst, arith, refl}
use Rattle.sw_logic.specs.declared.syntax.Formula.{Formula}
use Rattle.sw_meaning.specs.Classes.{atoms, cubes, classes, cubes_of, classes_of}
use Rattle.sw_template.specs.Limits.{RefusesCubes}
use Rattle.sw_enumerate.specs.Refusals.{RefusesSpace}
use Rattle.sw_enumerate.specs.Walk.{AreSmall}
use Rattle.sw_enumerate.proofs.Making.{cubes_same, small_cubes, refused}
use Rattle.sw_enumerate.proofs.space.Space.new.Goals as goal

pub returns-in-Err-clause-refused : goal.returns-in-Err-clause-refused
returns-in-Err-clause-refused c =
    let sig = c.args.sig.now in
    let same : cubes_of (2 * length {A = Formula} c.in-Ok.literals) c.args.template ≡ cubes sig c.args.template =
    ap (λ (fs : List Formula). cubes_of (2 * length fs) c.args.template) c.in-Ok.ensures.ok ∙ cubes_same sig c.args.template in
    let few : length (atoms sig c.args.template) ≤ 512 = subst (λ (fs : List Formula). length fs ≤ 512) c.in-Ok.ensures.ok c.in-Ok.ensures.within in
    subst (RefusesSpace sig c.args.template) (sym c.of_cubes.ensures)
    (refused sig c.args.template c.in-Err.error few (subst (λ cs. RefusesCubes (length cs) c.in-Err.error) same c.in-Err.ensures.refused))

pub count_classes-n-requires-clause-small : goal.count_classes-n-requires-clause-small
count_classes-n-requires-clause-small c = subst AreSmall (sym c.in-Ok-new.ensures.ok) (small_cubes (2 * length {A = Formula} c.in-Ok.literals) c.args.template c.requires.most)

pub returns-then-n-gt-CLASSES-clause-refused : goal.returns-then-n-gt-CLASSES-clause-refused
returns-then-n-gt-CLASSES-clause-refused c =
    let same : c.in-Ok-new.cubes ≡ cubes c.args.sig.now c.args.template =
    c.in-Ok-new.ensures.ok ∙ (ap (λ (fs : List Formula). cubes_of (2 * length fs) c.args.template) c.in-Ok.ensures.ok ∙ cubes_same c.args.sig.now c.args.template) in
    let few : length (cubes c.args.sig.now c.args.template) ≤ 1048576 = subst (λ cs. length cs ≤ 1048576) same c.in-Ok-new.ensures.within in
    let count : c.count_classes-n.result ≡ length (classes c.args.sig.now c.args.template) = c.count_classes-n.ensures ∙ ap (λ cs. length (classes_of c.args.template.literals cs)) same in
    let few_atoms : length (atoms c.args.sig.now c.args.template) ≤ 512 = subst (λ (fs : List Formula). length fs ≤ 512) c.in-Ok.ensures.ok c.in-Ok.ensures.within in
    (few_atoms, few, record { over = omega (arith, count, c.if-n-gt-CLASSES.true); is = count })

pub new-requires-3-clause-small : goal.new-requires-3-clause-small
new-requires-3-clause-small c = subst AreSmall (sym c.in-Ok-new.ensures.ok) (small_cubes (2 * length {A = Formula} c.in-Ok.literals) c.args.template c.requires.most)

pub returns-clause-ok : goal.returns-clause-ok
returns-clause-ok c = record {
  template_is = refl;
  atoms_are = c.in-Ok.ensures.ok;
  cubes_are = c.in-Ok-new-2.ensures ∙ (c.in-Ok-new.ensures.ok ∙ (ap (λ (fs : List Formula). cubes_of (2 * length fs) c.args.template) c.in-Ok.ensures.ok ∙ cubes_same c.args.sig.now c.args.template));
}
