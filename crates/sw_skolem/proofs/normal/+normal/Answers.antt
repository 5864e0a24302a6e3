use Rattle.std.proofs.Common.{◌≡◌, ◌∙◌, sym, ap, subst, not, map, List, [], ◌∷◌, IfOk}
use Rattle.sw_logic.specs.declared.syntax.Binder.{Binder}
use Rattle.sw_logic.specs.declared.syntax.Formula.{Formula}
use Rattle.sw_skolem.specs.Absorbing.{listed, quantified, plain_nnf_of}
use Rattle.sw_skolem.proofs.PlainSteps.{plain-All, plain-ForAll, negated-Any, negated-Implies, negated-Exists}
use Rattle.sw_skolem.proofs.normal.+normal.Goals as goal

pub nnf-returns-in_ok-nnf_all-in-All : goal.nnf-returns-in_ok-nnf_all-in-All
nnf-returns-in_ok-nnf_all-in-All t c =
    let n = not c.args.negate in
    let forms : c.in_ok-nnf_all-in-All.field-0 ≡ map (λ (p : Formula). plain_nnf_of p n) c.in-All.parts = c.in_ok-nnf_all-in-All.ensures ∙ ap (λ (ps : List Formula). map (λ (p : Formula). plain_nnf_of p n) ps) c.as_slice.ensures in
    c.listed.ensures ∙ (ap (listed n) forms ∙ (sym (plain-All c.in-All.parts n) ∙ ap (λ (f : Formula). plain_nnf_of f n) (sym c.in-All.is)))

pub nnf-returns-in_ok-nnf_all-in-Any : goal.nnf-returns-in_ok-nnf_all-in-Any
nnf-returns-in_ok-nnf_all-in-Any t c =
    let n = not c.args.negate in
    let forms : c.in_ok-nnf_all-in-Any.field-0 ≡ map (λ (p : Formula). plain_nnf_of p n) c.in-Any.parts = c.in_ok-nnf_all-in-Any.ensures ∙ ap (λ (ps : List Formula). map (λ (p : Formula). plain_nnf_of p n) ps) c.as_slice-in-Any.ensures in
    c.listed-in-Any.ensures ∙ (ap (listed c.args.negate) forms ∙ (sym (negated-Any c.in-Any.parts c.args.negate) ∙ ap (λ (f : Formula). plain_nnf_of f n) (sym c.in-Any.is)))

pub nnf-returns-in_ok-b-in-Implies : goal.nnf-returns-in_ok-b-in-Implies
nnf-returns-in_ok-b-in-Implies t c =
    let n = not c.args.negate in
    let a_is : c.in_ok-a-in-Implies.a ≡ plain_nnf_of c.in-Implies.a (not n) = c.in_ok-a-in-Implies.ensures ∙ ap (λ (f : Formula). plain_nnf_of f (not n)) c.get-in-Implies.ensures in
    let b_is : c.in_ok-b-in-Implies.b ≡ plain_nnf_of c.in-Implies.b n = c.in_ok-b-in-Implies.ensures ∙ ap (λ (f : Formula). plain_nnf_of f n) c.get-in-Implies-2.ensures in
    let whole_is : listed c.args.negate (c.in_ok-a-in-Implies.a ∷ c.in_ok-b-in-Implies.b ∷ []) ≡ plain_nnf_of c.args.formula.now n =
    ap (λ (f : Formula). listed c.args.negate (f ∷ c.in_ok-b-in-Implies.b ∷ [])) a_is
    ∙ (ap (λ (f : Formula). listed c.args.negate (plain_nnf_of c.in-Implies.a (not n) ∷ f ∷ [])) b_is
    ∙ (sym (negated-Implies c.in-Implies.a c.in-Implies.b c.args.negate) ∙ ap (λ (f : Formula). plain_nnf_of f n) (sym c.in-Implies.is))) in
    subst (λ (g : Formula). IfOk c.joined.result (λ (f : Formula). f ≡ g)) whole_is c.joined.ensures

pub nnf-returns-in_ok-part-in-ForAll : goal.nnf-returns-in_ok-part-in-ForAll
nnf-returns-in_ok-part-in-ForAll t c =
    let n = not c.args.negate in
    let part_is : c.in_ok-part-in-ForAll.part ≡ plain_nnf_of c.in-ForAll.part n = c.in_ok-part-in-ForAll.ensures ∙ ap (λ (f : Formula). plain_nnf_of f n) c.get-in-ForAll.ensures in
    let whole_is : quantified n c.as_slice-in-ForAll.result.now c.in_ok-part-in-ForAll.part ≡ plain_nnf_of c.args.formula.now n =
    ap (λ (bs : List Binder). quantified n bs c.in_ok-part-in-ForAll.part) c.as_slice-in-ForAll.ensures
    ∙ (ap (λ (f : Formula). quantified n c.in-ForAll.binders f) part_is
    ∙ (sym (plain-ForAll c.in-ForAll.binders c.in-ForAll.part n) ∙ ap (λ (f : Formula). plain_nnf_of f n) (sym c.in-ForAll.is))) in
    subst (λ (g : Formula). IfOk c.quantified.result (λ (f : Formula). f ≡ g)) whole_is c.quantified.ensures

pub nnf-returns-in_ok-part-in-Exists : goal.nnf-returns-in_ok-part-in-Exists
nnf-returns-in_ok-part-in-Exists t c =
    let n = not c.args.negate in
    let part_is : c.in_ok-part-in-Exists.part ≡ plain_nnf_of c.in-Exists.part n = c.in_ok-part-in-Exists.ensures ∙ ap (λ (f : Formula). plain_nnf_of f n) c.get-in-Exists.ensures in
    let whole_is : quantified c.args.negate c.as_slice-in-Exists.result.now c.in_ok-part-in-Exists.part ≡ plain_nnf_of c.args.formula.now n =
    ap (λ (bs : List Binder). quantified c.args.negate bs c.in_ok-part-in-Exists.part) c.as_slice-in-Exists.ensures
    ∙ (ap (λ (f : Formula). quantified c.args.negate c.in-Exists.binders f) part_is
    ∙ (sym (negated-Exists c.in-Exists.binders c.in-Exists.part c.args.negate) ∙ ap (λ (f : Formula). plain_nnf_of f n) (sym c.in-Exists.is))) in
    subst (λ (g : Formula). IfOk c.quantified-in-Exists.result (λ (f : Formula). f ≡ g)) whole_is c.quantified-in-Exists.ensures
