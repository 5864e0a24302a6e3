use Rattle.std.proofs.Common.{◌≡◌, ◌∷◌, [], Some, None, lit<, refl}
use Rattle.sw_scan.specs.declared.Kind.{Kind}
use Rattle.sw_scan.specs.Spelling.{kind_of}
use Rattle.sw_scan.proofs.Fronts.{HasNoLong, name_by_kind, number_by_kind, mark_by_kind, none_by_kind, long_first}
use Rattle.sw_scan.proofs.front.Goals as goal

pub returns-then-starts_with-2 : goal.returns-then-starts_with-2
returns-then-starts_with-2 c = long_first Kind.Arrow (45 ∷ 62 ∷ []) _ (lit< tt) refl (λ _ _. refl) (cc)

pub returns-then-starts_with-3 : goal.returns-then-starts_with-3
returns-then-starts_with-3 c = long_first Kind.DoubleArrow (60 ∷ 45 ∷ 62 ∷ []) _ (lit< tt) refl (λ _ _. refl) (cc)

pub returns-in-Name : goal.returns-in-Name
returns-in-Name c =
    let e : c.args.rest.now ≡ c.in_ok-first.first.now ∷ c.in_ok-first.later.now = c.in_ok-first.ensures.cases.0 in
    let kind : kind_of (c.in_ok-first.first.now ∷ []) ≡ Some Kind.Name = cc in
    rw (e, c.in-Name.is, c.name_len.ensures.value) (name_by_kind c.in_ok-first.first.now c.in_ok-first.later.now kind)

pub returns-in-Number : goal.returns-in-Number
returns-in-Number c =
    let e : c.args.rest.now ≡ c.in_ok-first.first.now ∷ c.in_ok-first.later.now = c.in_ok-first.ensures.cases.0 in
    let kind : kind_of (c.in_ok-first.first.now ∷ []) ≡ Some Kind.Number = cc in
    rw (e, c.in-Number.is, c.digits_len.ensures.value) (number_by_kind c.in_ok-first.first.now c.in_ok-first.later.now kind)

pub returns-in_default-kind : goal.returns-in_default-kind
returns-in_default-kind c =
    let e : c.args.rest.now ≡ c.in_ok-first.first.now ∷ c.in_ok-first.later.now = c.in_ok-first.ensures.cases.0 in
    let kind : kind_of (c.in_ok-first.first.now ∷ []) ≡ Some c.in-Some.kind = cc in
    let long : HasNoLong c.args.rest.now = record { not_equal = cc; arrow = cc; double = cc } in
    let long_at = rw e at long in
    rw e (mark_by_kind c.in_ok-first.first.now c.in_ok-first.later.now c.in-Some.kind c.in_default-kind.not-Name c.in_default-kind.not-Number long_at kind)

pub returns-in_default : goal.returns-in_default
returns-in_default c =
    let e : c.args.rest.now ≡ c.in_ok-first.first.now ∷ c.in_ok-first.later.now = c.in_ok-first.ensures.cases.0 in
    let kind : kind_of (c.in_ok-first.first.now ∷ []) ≡ None = cc in
    let long : HasNoLong c.args.rest.now = record { not_equal = cc; arrow = cc; double = cc } in
    let long_at = rw e at long in
    rw e (none_by_kind c.in_ok-first.first.now c.in_ok-first.later.now long_at kind)
