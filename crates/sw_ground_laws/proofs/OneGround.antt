-- Instances have one set of clauses.
use Rattle.std.proofs.Common.{◌≡◌, ℕ, ◌/◌, ◌%◌, List, [], ◌∷◌, ◌++◌, length, Some, arith, refl, sym, ap, ◌∙◌, subst, inl, inr}
use Rattle.std.specs.Prelude.{◌==◌, slice_get, Contains}
use Rattle.std.proofs.lemmas.Option.{none-some}
use Rattle.std.proofs.lemmas.Bool.{cases_eq, eq-eqb, eqb-true, ne_eqb, false≢true}
use Rattle.sw_refute.specs.declared.clauses.Lit.{Lit}
use Rattle.sw_refute.specs.declared.clauses.Clause.{Clause}
use Rattle.sw_refute.specs.declared.clauses.Cnf.{Cnf}
use Rattle.sw_refute.specs.Satisfaction.{variable}
use Rattle.sw_truth.specs.declared.instances.Instance.{Instance}
use Rattle.sw_truth.specs.declared.instances.Ground.{Ground}
use Rattle.sw_truth.specs.declared.sets.SkolemSet.{SkolemSet}
use Rattle.sw_universe.specs.declared.universe.Universe.{Universe}
use Rattle.sw_instances.specs.Named.{Name, Literal}
use Rattle.sw_instances.specs.Instances.{clauses_from}
use Rattle.sw_instances.specs.Numbered.{Beside, InOrder, done, known, first, IsLiteral, IsClause, IsGround, once}
use Rattle.sw_lists.proofs.Members.{get_contains}
use Rattle.sw_lists.proofs.Places.{get_push_cases}

one_order : {before xs c d : List Name} → InOrder before xs c → InOrder before xs d → c ≡ d
one_order done done = refl
one_order (known k o) (known l p) = one_order o p
one_order (known k o) (first l p) = absurd (l k)
one_order (first k o) (known l p) = absurd (k l)
one_order (first k o) (first l p) = one_order o p

-- no name stands twice
AreOnce : List Name → Type 0
AreOnce xs = (i j : ℕ) (n : Name) → slice_get xs i ≡ Some n → slice_get xs j ≡ Some n → i ≡ j

once_more : (xs : List Name) (m : Name) → AreOnce xs → (Contains xs m → ⊥) → AreOnce (xs ++ m ∷ [])
unfolding AreOnce
once_more xs m h apart i j n e f = elim (get_push_cases xs m i n e) [
  | inl g ↦ elim (get_push_cases xs m j n f) [
    | inl k ↦ h i j n g k
    | inr l ↦ absurd (apart (get_contains xs i m (g ∙ ap Some l.1)))
  ]
  | inr l ↦ elim (get_push_cases xs m j n f) [
    | inl k ↦ absurd (apart (get_contains xs j m (k ∙ ap Some l.1)))
    | inr k ↦ l.0 ∙ sym k.0
  ]
]

order_once : {before xs after : List Name} → InOrder before xs after → AreOnce before → AreOnce after
order_once done h = h
order_once (known k o) h = order_once o h
order_once (first {before} {after} {rest} {n = m} k o) h = order_once o (once_more before m h k)

none_once : AreOnce []
unfolding AreOnce
none_once i j n e f = absurd (none-some n e)

same_number : (a b : ℕ) → a / 2 ≡ b / 2 → (a % 2 == 0) ≡ (b % 2 == 0) → a ≡ b
same_number a b half sign = elim (cases_eq (a % 2) 0) [
  | inl e ↦ let f : b % 2 ≡ 0 = eqb-true (b % 2) 0 (sym sign ∙ eq-eqb (a % 2) 0 e) in omega arith
  | inr d ↦
      let f : b % 2 ≡ 0 → ⊥ = λ z. false≢true (sym (ne_eqb (a % 2) 0 d) ∙ sign ∙ eq-eqb (b % 2) 0 z) in
      omega (arith, d, f)
]

one_literal : (names : List Name) → AreOnce names → (l : Literal) (m k : Lit) → IsLiteral names l m → IsLiteral names l k → m ≡ k
unfolding AreOnce
one_literal names h l m k a b =
    let make : ℕ → Lit = λ n. record { 0 = n } in
    ap make (same_number m.0 k.0 (h (variable m) (variable k) l.name a.variable b.variable) (a.sign ∙ sym b.sign))

one_row : {X Y : Type 0} (R : X → Y → Type 0) → ((x : X) (y z : Y) → R x y → R x z → y ≡ z) → (xs : List X) (ys zs : List Y) → Beside R xs ys → Beside R xs zs → ys ≡ zs
one_row R f [] [] [] a b = refl
one_row R f [] [] (z ∷ zs) a b = absurd b
one_row R f [] (y ∷ ys) zs a b = absurd a
one_row R f (x ∷ xs) [] zs a b = absurd a
one_row R f (x ∷ xs) (y ∷ ys) [] a b = absurd b
one_row R f (x ∷ xs) (y ∷ ys) (z ∷ zs) a b = ap (λ w. w ∷ ys) (f x y z a.0 b.0) ∙ ap (λ ws. z ∷ ws) (one_row R f xs ys zs a.1 b.1)

one_clause : (names : List Name) → AreOnce names → (ls : List Literal) (c d : Clause) → IsClause names ls c → IsClause names ls d → c ≡ d
one_clause names h ls c d a b =
    let make : List Lit → Clause = λ ms. record { lits = ms } in
    ap make (a.once ∙ ap once (one_row (IsLiteral names) (one_literal names h) ls a.numbered b.numbered a.beside b.beside) ∙ sym b.once)

pub one_ground : (set : SkolemSet) (u : Universe) (is : List Instance) (g h : Ground) → IsGround set u is g → IsGround set u is h → g.cnf ≡ h.cnf
one_ground set u is g h a b =
    let names : a.names ≡ b.names = one_order a.order b.order in
    let distinct = order_once a.order none_once in
    let named = clauses_from set u 0 is in
    let clauses : g.cnf.clauses ≡ h.cnf.clauses =
    one_row (IsClause a.names) (one_clause a.names distinct) named g.cnf.clauses h.cnf.clauses a.clauses (subst (λ ns. Beside (IsClause ns) named h.cnf.clauses) (sym names) b.clauses) in
    let variables : g.cnf.variables ≡ h.cnf.variables = a.variables ∙ ap length names ∙ sym b.variables in
    let make : ℕ → List Clause → Cnf = λ n cs. record { variables = n; clauses = cs } in
    ap (λ n. make n g.cnf.clauses) variables ∙ ap (make h.cnf.variables) clauses
