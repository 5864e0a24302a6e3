-- The names of a part's inner parts are at its path or behind it.
use Rattle.std.proofs.Common.{◌≡◌, ℕ, zero, suc, ◌+◌, Bool, List, [], ◌∷◌, ◌++◌, map, rules, arith, sym, ◌∙◌, subst, inl, inr, append-nil, append_assoc}
use Rattle.std.specs.Prelude.{◌⊎◌, Contains}
use Rattle.std.specs.List.{AllByRecursion, flat_map}
use Rattle.std.proofs.lemmas.List.Elements.{Contains-append_cases}
use Rattle.sw_lists.proofs.Each.{each-pairs}
use Rattle.sw_logic.specs.declared.syntax.Binder.{Binder}
use Rattle.sw_logic.specs.declared.syntax.Term.{Term}
use Rattle.sw_logic.specs.declared.syntax.Formula as formulas
use Rattle.sw_logic.specs.declared.syntax.Formula.{Formula, roll-Formula}
use Rattle.sw_logic.specs.declared.syntax.Formula.TheOpen.{Formula-F}
use Rattle.sw_logic.specs.declared.syntax.Formula.TheFolds.{ind-Formula}
use Rattle.sw_logic.specs.declared.syntax.Formula.TheVariants as formula
use Rattle.sw_logic.specs.declared.syntax.Formula.TheVariants.{rolls-True, rolls-False, rolls-Holds, rolls-Equal, rolls-Not, rolls-All, rolls-Any, rolls-Implies, rolls-Iff, rolls-ForAll, rolls-Exists}
use Rattle.sw_logic.specs.Terms.{put}
use Rattle.sw_instances.specs.Named.{Name, related, equated, inner, Literal, plain, opposite}
use Rattle.sw_instances.specs.Matrix.{Encoded, literal_part, new, parts_at, negated, conjunction, disjunction, opaque, encoded}
use Rattle.sw_instances.specs.Numbered.{InOrder, done, known, first}

each_append : {X : Type 0} (P : X → Type 0) (xs ys : List X) → AllByRecursion P xs → AllByRecursion P ys → AllByRecursion P (xs ++ ys)
each_append P [] ys h g = g
each_append P (x ∷ xs) ys h g = (h.0, each_append P xs ys h.1 g)

each_map : {X Y : Type 0} (P : X → Type 0) (Q : Y → Type 0) (f : X → Y) → ((x : X) → P x → Q (f x)) → (xs : List X) → AllByRecursion P xs → AllByRecursion Q (map f xs)
each_map P Q f g [] h = tt
each_map P Q f g (x ∷ xs) h = (g x h.0, each_map P Q f g xs h.1)

each_flat : {X Y : Type 0} (P : X → Type 0) (Q : Y → Type 0) (f : X → List Y) → ((x : X) → P x → AllByRecursion Q (f x)) → (xs : List X) → AllByRecursion P xs → AllByRecursion Q (flat_map f xs)
each_flat P Q f g [] h = tt
each_flat P Q f g (x ∷ xs) h = each_append Q (f x) (flat_map f xs) (g x h.0) (each_flat P Q f g xs h.1)

each_weaker : {X : Type 0} (P Q : X → Type 0) → ((x : X) → P x → Q x) → (xs : List X) → AllByRecursion P xs → AllByRecursion Q xs
each_weaker P Q g [] h = tt
each_weaker P Q g (x ∷ xs) h = (g x h.0, each_weaker P Q g xs h.1)

-- the name is of no inner part, or of one at the path or behind it
abbrev pub IsWithin : List ℕ → Name → Type 0
IsWithin path (related symbol ts) = Unit {0}
IsWithin path (equated t u) = Unit {0}
IsWithin path (inner x) = (r : List ℕ) × (x ≡ path ++ r)

abbrev AreWithin : List ℕ → List (List Literal) → Type 0
AreWithin path cs = AllByRecursion (AllByRecursion (λ (l : Literal). IsWithin path l.name)) cs

pub record EncodedWithin (path : List ℕ) (e : Encoded) : Type 0 where
  pub literal : IsWithin path e.literal.name
  pub inside : AreWithin path e.inside
  pub top : AreWithin path e.top

outward : (path : List ℕ) (k : ℕ) (n : Name) → IsWithin (path ++ k ∷ []) n → IsWithin path n
outward path k (related symbol ts) h = tt
outward path k (equated t u) h = tt
outward path k (inner x) h = (k ∷ h.0, h.1 ∙ append_assoc path (k ∷ []) h.0)

all_outward : (path : List ℕ) (k : ℕ) (cs : List (List Literal)) → AreWithin (path ++ k ∷ []) cs → AreWithin path cs
all_outward path k cs h =
    each_weaker (AllByRecursion (λ (l : Literal). IsWithin (path ++ k ∷ []) l.name)) (AllByRecursion (λ (l : Literal). IsWithin path l.name))
    (λ c. each_weaker (λ (l : Literal). IsWithin (path ++ k ∷ []) l.name) (λ (l : Literal). IsWithin path l.name) (λ l. outward path k l.name) c) cs h

encoded_outward : (path : List ℕ) (k : ℕ) (e : Encoded) → EncodedWithin (path ++ k ∷ []) e → EncodedWithin path e
encoded_outward path k e h = record { literal = outward path k e.literal.name h.literal; inside = all_outward path k e.inside h.inside; top = all_outward path k e.top h.top }

own : (path : List ℕ) → IsWithin path (inner path)
own path = ([], sym (append-nil path))

module _ (path : List ℕ) where
  abbrev Within : Encoded → Type 0
  Within = EncodedWithin path

  abbrev ClauseWithin : List Literal → Type 0
  ClauseWithin = AllByRecursion (λ (l : Literal). IsWithin path l.name)

  insides : (es : List Encoded) → AllByRecursion Within es → AreWithin path (flat_map (λ (p : Encoded). p.inside) es)
  insides es h = each_flat Within ClauseWithin (λ (p : Encoded). p.inside) (λ p w. w.inside) es h

  conjunction_within : (es : List Encoded) → AllByRecursion Within es → EncodedWithin path (conjunction path es)
  conjunction_within es h = record {
    literal = own path;
    inside = each_append ClauseWithin (map (λ (p : Encoded). opposite (new path) ∷ p.literal ∷ []) es) _
        (each_map Within ClauseWithin (λ (p : Encoded). opposite (new path) ∷ p.literal ∷ []) (λ p w. (own path, (w.literal, tt))) es h) (insides es h);
    top = each_flat Within ClauseWithin (λ (p : Encoded). p.top) (λ p w. w.top) es h;
  }

  literals_within : (es : List Encoded) → AllByRecursion Within es → ClauseWithin (map (λ (p : Encoded). p.literal) es)
  literals_within es h = each_map Within (λ (l : Literal). IsWithin path l.name) (λ (p : Encoded). p.literal) (λ p w. w.literal) es h

  disjunction_within : (es : List Encoded) → AllByRecursion Within es → EncodedWithin path (disjunction path es)
  disjunction_within es h = record {
    literal = own path;
    inside = ((own path, literals_within es h), insides es h);
    top = (literals_within es h, insides es h);
  }

module _ (terms : List Term) where
  abbrev IsInside : Formula → Type 0
  IsInside f = (path : List ℕ) → EncodedWithin path (encoded terms f path)

  by : (f : Formula) (path : List ℕ) (e : Encoded) → encoded terms f path ≡ e → EncodedWithin path e → EncodedWithin path (encoded terms f path)
  by f path e is h = subst (EncodedWithin path) (sym is) h

  parts_within : (path : List ℕ) (k : ℕ) (ps : List Formula) → AllByRecursion IsInside ps → AllByRecursion (EncodedWithin path) (parts_at path k (map (encoded terms) ps))
  parts_within path k [] h = tt
  parts_within path k (p ∷ ps) h = (encoded_outward path k (encoded terms p (path ++ k ∷ [])) (h.0 (path ++ k ∷ [])), parts_within path (k + 1) ps h.1)

  opaque_within : (f : Formula) → ((path : List ℕ) → encoded terms f path ≡ opaque path) → IsInside f
  opaque_within f e path = by f path (opaque path) (e path) (record { literal = own path; inside = tt; top = ((own path, tt), tt) })

  atom_within : (f : Formula) (n : Name) → ((path : List ℕ) → IsWithin path n) → ((path : List ℕ) → encoded terms f path ≡ literal_part (plain n)) → IsInside f
  atom_within f n w e path = by f path (literal_part (plain n)) (e path) (record { literal = w path; inside = tt; top = ((w path, tt), tt) })

  true_within : IsInside formula.True
  true_within path =
      let e : encoded terms formula.True path ≡ record { literal = new path; inside = []; top = [] } = search (rules, formulas.the_lemmas) in
      by formula.True path _ e (record { literal = own path; inside = tt; top = tt })

  false_within : IsInside formula.False
  false_within path =
      let e : encoded terms formula.False path ≡ record { literal = new path; inside = (opposite (new path) ∷ []) ∷ []; top = [] ∷ [] } = search (rules, formulas.the_lemmas) in
      by formula.False path _ e (record { literal = own path; inside = ((own path, tt), tt); top = (tt, tt) })

  not_within : (p : Formula) → IsInside p → IsInside (formula.Not p)
  not_within p h path =
      let e : encoded terms (formula.Not p) path ≡ negated (encoded terms p (path ++ 0 ∷ [])) = search (rules, formulas.the_lemmas) in
      let w = encoded_outward path 0 (encoded terms p (path ++ 0 ∷ [])) (h (path ++ 0 ∷ [])) in
      by (formula.Not p) path _ e (record { literal = w.literal; inside = w.inside; top = ((w.literal, tt), w.inside) })

  all_within : (ps : List Formula) → AllByRecursion IsInside ps → IsInside (formula.All ps)
  all_within ps h path =
      let e : encoded terms (formula.All ps) path ≡ conjunction path (parts_at path 0 (map (encoded terms) ps)) = search (rules, formulas.the_lemmas) in
      by (formula.All ps) path _ e (conjunction_within path _ (parts_within path 0 ps h))

  any_within : (ps : List Formula) → AllByRecursion IsInside ps → IsInside (formula.Any ps)
  any_within ps h path =
      let e : encoded terms (formula.Any ps) path ≡ disjunction path (parts_at path 0 (map (encoded terms) ps)) = search (rules, formulas.the_lemmas) in
      by (formula.Any ps) path _ e (disjunction_within path _ (parts_within path 0 ps h))

  holds_within : (symbol : ℕ) (post : Bool) (args : List Term) → IsInside (formula.Holds symbol post args)
  holds_within symbol post args = atom_within (formula.Holds symbol post args) (related symbol (map (put terms) args)) (λ path. tt) (λ path. search (rules, formulas.the_lemmas))

  equal_within : (x y : Term) → IsInside (formula.Equal x y)
  equal_within x y = atom_within (formula.Equal x y) (equated (put terms x) (put terms y)) (λ path. tt) (λ path. search (rules, formulas.the_lemmas))

  implies_within : (p q : Formula) → IsInside (formula.Implies p q)
  implies_within p q = opaque_within (formula.Implies p q) (λ path. search (rules, formulas.the_lemmas))

  iff_within : (p q : Formula) → IsInside (formula.Iff p q)
  iff_within p q = opaque_within (formula.Iff p q) (λ path. search (rules, formulas.the_lemmas))

  for_all_within : (bs : List Binder) (p : Formula) → IsInside (formula.ForAll bs p)
  for_all_within bs p = opaque_within (formula.ForAll bs p) (λ path. search (rules, formulas.the_lemmas))

  exists_within : (bs : List Binder) (p : Formula) → IsInside (formula.Exists bs p)
  exists_within bs p = opaque_within (formula.Exists bs p) (λ path. search (rules, formulas.the_lemmas))

  layer : (y : Formula-F ((f : Formula) × IsInside f)) → IsInside (roll-Formula (formulas.map-Formula ((f : Formula) × IsInside f) Formula (λ e. e.0) y))
  layer Formula-F.True = subst IsInside (sym rolls-True) true_within
  layer Formula-F.False = subst IsInside (sym rolls-False) false_within
  layer (Formula-F.Holds symbol post args) = subst IsInside (sym (rolls-Holds symbol post args)) (holds_within symbol post args)
  layer (Formula-F.Equal x y) = subst IsInside (sym (rolls-Equal x y)) (equal_within x y)
  layer (Formula-F.Not p) = subst IsInside (sym (rolls-Not p.0)) (not_within p.0 p.1)
  layer (Formula-F.All ps) = subst IsInside (sym (rolls-All (map (λ e. e.0) ps))) (all_within (map (λ e. e.0) ps) (each-pairs IsInside ps))
  layer (Formula-F.Any ps) = subst IsInside (sym (rolls-Any (map (λ e. e.0) ps))) (any_within (map (λ e. e.0) ps) (each-pairs IsInside ps))
  layer (Formula-F.Implies p q) = subst IsInside (sym (rolls-Implies p.0 q.0)) (implies_within p.0 q.0)
  layer (Formula-F.Iff p q) = subst IsInside (sym (rolls-Iff p.0 q.0)) (iff_within p.0 q.0)
  layer (Formula-F.ForAll bs p) = subst IsInside (sym (rolls-ForAll bs p.0)) (for_all_within bs p.0)
  layer (Formula-F.Exists bs p) = subst IsInside (sym (rolls-Exists bs p.0)) (exists_within bs p.0)

  pub is_within : (f : Formula) → IsInside f
  is_within = ind-Formula IsInside (λ x y is. subst (λ z. IsInside (roll-Formula z)) is (layer y))

-- what was numbered before or occurs
pub contained : {before occ after : List Name} → InOrder before occ after → (n : Name) → Contains after n → Contains before n ⊎ Contains occ n
contained done n c = inl c
contained (known {before} {after} {rest} {n = m} k o) n c = elim (contained o n c) [ inl x ↦ inl x | inr y ↦ inr (let d : Contains (m ∷ rest) n = (suc y.0, omega arith, y.2) in d) ]
contained (first {before} {after} {rest} {n = m} k o) n c = elim (contained o n c) [
  | inl x ↦ elim (Contains-append_cases before (m ∷ []) n x) [
    | inl a ↦ inl a
    | inr b ↦ inr (one b)
  ]
  | inr y ↦ inr (let d : Contains (m ∷ rest) n = (suc y.0, omega arith, y.2) in d)
]
  where
    one : Contains (m ∷ []) n → Contains (m ∷ rest) n
    one (zero, h, e) = (zero, omega arith, e)
    one (suc k, h, e) = absurd (omega arith)

-- names in order, and then more
pub in_order : {a b c xs ys : List Name} → InOrder a xs b → InOrder b ys c → InOrder a (xs ++ ys) c
in_order done o = o
in_order (known k p) o = known k (in_order p o)
in_order (first k p) o = first k (in_order p o)
