use Rattle.std.proofs.Common.{◌≡◌, true, sym, ap, ◌∙◌, subst, List, ℕ}
use Rattle.std.specs.Prelude.{slice_set}
use Rattle.sw_logic.specs.declared.syntax.SymbolKind.{SymbolKind}
use Rattle.sw_logic.specs.declared.syntax.SymbolKind.TheVariants.{Relation}
use Rattle.sw_logic.specs.Sorted.{gives_value}
use Rattle.sw_ground.proofs.Joining.{on_ok_map}
use Rattle.sw_ground.proofs.Adding.{Carried, congruent_emits}
use Rattle.sw_ground.proofs.clauses.congruent.Goals as goal

pub returns-in-Relation : goal.returns-in-Relation
returns-in-Relation c =
    let ts = c.args.terms.now in
    let ns = c.args.numbers.now in
    let b1 = c.equal.new.builder in
    let b2 = c.carry_relation.new.builder in
    let before_is : c.in_ok-before.before ≡ ns = c.in_ok-before.ensures ∙ c.as_slice.ensures in
    let after_is : c.set.new.self ≡ slice_set ns c.args.place c.args.u = c.set.ensures ∙ ap (λ (x : List ℕ). slice_set x c.args.place c.args.u) (c.in_ok-after.ensures ∙ c.as_slice-2.ensures) in
    on_ok_map _ _ c.carry_relation.result
    (λ h. congruent_emits ts.signature.now ts.counts ts.firsts (λ (k : SymbolKind). k ≡ Relation) c.args.builder.now b1 b2 c.args.symbol c.args.place c.args.u c.in-Some-get.sort.now c.in-Some-get-2.t.now c.in-Some.named.now
    ns c.set.new.self c.in_ok-same.same (sym c.in-Some.ensures.value) (sym c.in-Some-get.ensures.value) (sym c.in-Some-get-2.ensures.value) after_is c.in_ok-same.ensures.numbers c.equal.ensures.clauses
    c.in-Relation.is
    (subst (λ (x : List ℕ). Carried ts.signature.now ts.counts ts.firsts (λ (k : SymbolKind). k ≡ Relation) b1 b2 c.args.symbol x c.set.new.self c.in_ok-same.same) before_is h))
    c.carry_relation.ensures

pub returns-in-Constant : goal.returns-in-Constant
returns-in-Constant c =
    let ts = c.args.terms.now in
    let ns = c.args.numbers.now in
    let b1 = c.equal.new.builder in
    let b2 = c.carry_value.new.builder in
    let K = λ (k : SymbolKind). gives_value k ≡ true in
    let before_is : c.as_slice-in-Constant.result.now ≡ ns = c.as_slice-in-Constant.ensures ∙ c.in_ok-before.ensures ∙ c.as_slice.ensures in
    let after_is : c.as_slice-in-Constant-2.result.now ≡ slice_set ns c.args.place c.args.u =
    c.as_slice-in-Constant-2.ensures ∙ c.set.ensures ∙ ap (λ (x : List ℕ). slice_set x c.args.place c.args.u) (c.in_ok-after.ensures ∙ c.as_slice-2.ensures) in
    on_ok_map _ _ c.carry_value.result
    (λ h. congruent_emits ts.signature.now ts.counts ts.firsts K c.args.builder.now b1 b2 c.args.symbol c.args.place c.args.u c.in-Some-get.sort.now c.in-Some-get-2.t.now c.in-Some.named.now
    ns c.as_slice-in-Constant-2.result.now c.in_ok-same.same (sym c.in-Some.ensures.value) (sym c.in-Some-get.ensures.value) (sym c.in-Some-get-2.ensures.value) after_is c.in_ok-same.ensures.numbers c.equal.ensures.clauses
    (ap gives_value c.in-Constant.is)
    (subst (λ (x : List ℕ). Carried ts.signature.now ts.counts ts.firsts K b1 b2 c.args.symbol x c.as_slice-in-Constant-2.result.now c.in_ok-same.same) before_is h))
    c.carry_value.ensures

pub returns-in-Function : goal.returns-in-Function
returns-in-Function c =
    let ts = c.args.terms.now in
    let ns = c.args.numbers.now in
    let b1 = c.equal.new.builder in
    let b2 = c.carry_value-in-Function.new.builder in
    let K = λ (k : SymbolKind). gives_value k ≡ true in
    let before_is : c.as_slice-in-Function.result.now ≡ ns = c.as_slice-in-Function.ensures ∙ c.in_ok-before.ensures ∙ c.as_slice.ensures in
    let after_is : c.as_slice-in-Function-2.result.now ≡ slice_set ns c.args.place c.args.u =
    c.as_slice-in-Function-2.ensures ∙ c.set.ensures ∙ ap (λ (x : List ℕ). slice_set x c.args.place c.args.u) (c.in_ok-after.ensures ∙ c.as_slice-2.ensures) in
    on_ok_map _ _ c.carry_value-in-Function.result
    (λ h. congruent_emits ts.signature.now ts.counts ts.firsts K c.args.builder.now b1 b2 c.args.symbol c.args.place c.args.u c.in-Some-get.sort.now c.in-Some-get-2.t.now c.in-Some.named.now
    ns c.as_slice-in-Function-2.result.now c.in_ok-same.same (sym c.in-Some.ensures.value) (sym c.in-Some-get.ensures.value) (sym c.in-Some-get-2.ensures.value) after_is c.in_ok-same.ensures.numbers c.equal.ensures.clauses
    (ap gives_value c.in-Function.is)
    (subst (λ (x : List ℕ). Carried ts.signature.now ts.counts ts.firsts K b1 b2 c.args.symbol x c.as_slice-in-Function-2.result.now c.in_ok-same.same) before_is h))
    c.carry_value-in-Function.ensures
