-- Where the clauses of a matrix are true, it is.
use Rattle.std.specs.Prelude.{◌≡◌, ◌&&◌, ◌||◌, ℕ, ◌+◌, not, Bool, true, false, List, [], ◌∷◌, ◌++◌, map}
use Rattle.std.specs.List.{list_all, list_any, flat_map}
use Rattle.std.proofs.Common.{rules, refl, sym, subst, ap, ◌∙◌, inl, inr}
use Rattle.std.proofs.lemmas.Bool.{and_from, or_left, or_right}
use Rattle.sw_logic.specs.declared.syntax.Signature.{Signature}
use Rattle.sw_logic.specs.declared.syntax.Term.{Term}
use Rattle.sw_logic.specs.declared.syntax.Formula.{Formula, the_lemmas}
use Rattle.sw_logic.specs.declared.syntax.Formula.TheVariants.{True, False, Holds, Equal, Not, All, Any}
use Rattle.sw_logic.specs.Truth.{args_of, args_or_none, size_of}
use Rattle.sw_logic.specs.Terms.{put}
use Rattle.sw_truth.specs.declared.sets.SkolemSet.{SkolemSet}
use Rattle.sw_truth.specs.declared.instances.Atom.{Atom}
use Rattle.sw_truth.specs.Models.{AreOfSorts}
use Rattle.sw_truth.specs.Sorting.{HasSort, HaveSorts, IsAtom, IsMatrix, AreMatrices}
use Rattle.sw_truth.proofs.Deriving.{sort_is}
use Rattle.sw_universe.specs.declared.universe.Universe.{Universe}
use Rattle.sw_universe.specs.ByNumber.{counts, term_at, terms_at, AreDistinct, AreApart}
use Rattle.sw_numbers.specs.Numbers.{IsIndexed, NumbersAreTerms}
use Rattle.sw_instances.specs.Named.{Name, related, equated, Literal, plain, opposite}
use Rattle.sw_instances.specs.Matrix.{Encoded, literal_part, new, parts_at, negated, conjunction, disjunction, encoded}
use Rattle.sw_instances.specs.Numbered.{Beside, StandsFor}
use Rattle.sw_quotient.specs.Terms.{Numbering, numbering, number_of}
use Rattle.sw_quotient.specs.Valuations.{Valuation, valuation, sort_here}
use Rattle.sw_quotient.proofs.Matrices.{said, said-True, said-Holds, said-Equal, said-Not, said-All, said-Any, sort_found}
use Rattle.sw_quotient.proofs.Saying.{AreUnique, IsSaid, SomeSaid, AreSaid, said_front, said_back, only, not_both, without}
use Rattle.sw_quotient.proofs.Meanings.{here, val, equated_value, related_value}

-- the clauses of a matrix, one step down
module _ (terms : List Term) (path : List ℕ) where
  encoded-False : encoded terms False path ≡ record { literal = new path; inside = (opposite (new path) ∷ []) ∷ []; top = [] ∷ [] }
  encoded-False = search (rules, the_lemmas)

  encoded-Holds : (f : ℕ) (post : Bool) (args : List Term) → encoded terms (Holds f post args) path ≡ literal_part (plain (related f (map (put terms) args)))
  encoded-Holds f post args = search (rules, the_lemmas)

  encoded-Equal : (a b : Term) → encoded terms (Equal a b) path ≡ literal_part (plain (equated (put terms a) (put terms b)))
  encoded-Equal a b = search (rules, the_lemmas)

  encoded-Not : (p : Formula) → encoded terms (Not p) path ≡ negated (encoded terms p (path ++ 0 ∷ []))
  encoded-Not p = search (rules, the_lemmas)

  encoded-All : (ps : List Formula) → encoded terms (All ps) path ≡ conjunction path (parts_at path 0 (map (encoded terms) ps))
  encoded-All ps = search (rules, the_lemmas)

  encoded-Any : (ps : List Formula) → encoded terms (Any ps) path ≡ disjunction path (parts_at path 0 (map (encoded terms) ps))
  encoded-Any ps = search (rules, the_lemmas)

module _ (set : SkolemSet) (u : Universe) (firsts : List ℕ) (numbered : NumbersAreTerms) (indexed : IsIndexed set.signature u firsts) (distinct : AreDistinct u) (apart : AreApart u)
    (atoms : List Atom) (names : List Name) (values : List Bool) (beside : Beside (StandsFor set u) atoms names) (unique : AreUnique names)
    (vars ns : List ℕ) (within : AreOfSorts (counts u) vars ns) where
  abbrev n : Numbering
  n = numbering u firsts

  abbrev v : Valuation
  v = valuation atoms values

  abbrev a : ℕ → Bool
  a = here set u distinct apart atoms names values beside unique

  abbrev terms : List Term
  terms = terms_at u vars ns

  abbrev says : Formula → Bool
  says = said set.signature n v vars ns

  abbrev Says : Literal → Type 0
  Says = IsSaid names a

  -- the terms of arguments are those of their numbers
  record Arguments (args : List Term) (sorts : List ℕ) : Type 0 where
    below : AreOfSorts (counts u) sorts (map (number_of set.signature n ns) args)
    are : terms_at u sorts (map (number_of set.signature n ns) args) ≡ map (put terms) args

  arguments : (args : List Term) (sorts : List ℕ) → HaveSorts set.signature vars args sorts → Arguments args sorts
  arguments args sorts HaveSorts.none = record { below = tt; are = refl }
  arguments args sorts (HaveSorts.more t us sort rest h hs) =
      let first = numbered set.signature u firsts vars ns indexed within t sort (sort_is set.signature vars t sort h) in
      let others = arguments us rest hs in
      record { below = (first.within, others.below); are = rw (first.is, others.are) refl }

  -- the name of an atom, whose literals say whether it is true
  record IsNamed (f : Formula) : Type 0 where
    name : Name
    encoded_is : (path : List ℕ) → encoded terms f path ≡ literal_part (plain name)
    value : (l : Literal) → l.name ≡ name → Says l → says f ≡ l.positive

  named : (f : Formula) → IsAtom set.signature vars f → IsNamed f
  named f (IsAtom.holds k s args is kind h) =
      let all = arguments args s.args h in
      let sorts : args_of set.signature k ≡ s.args = ap args_or_none is in
      let numbers = map (number_of set.signature n ns) args in
      let below : AreOfSorts (counts u) (args_of set.signature k) numbers = subst (λ (ss : List ℕ). AreOfSorts (counts u) ss numbers) (sym sorts) all.below in
      let are : terms_at u (args_of set.signature k) numbers ≡ map (put terms) args = ap (λ (ss : List ℕ). terms_at u ss numbers) sorts ∙ all.are in
      record {
        name = related k (map (put terms) args);
        encoded_is = λ path. encoded-Holds terms path k false args;
        value = λ l e x.
            said-Holds set.signature n v vars ns k false args
            ∙ related_value set u distinct apart atoms names values beside unique k numbers below l (e ∙ ap (related k) (sym are)) x;
      }
  named f (IsAtom.equal t w sort h k) =
      let left = numbered set.signature u firsts vars ns indexed within t sort (sort_is set.signature vars t sort h) in
      let right = numbered set.signature u firsts vars ns indexed within w sort (sort_is set.signature vars w sort k) in
      let i = number_of set.signature n ns t in
      let j = number_of set.signature n ns w in
      record {
        name = equated (put terms t) (put terms w);
        encoded_is = λ path. encoded-Equal terms path t w;
        value = λ l e x.
            let name : l.name ≡ equated (term_at u sort i) (term_at u sort j) = e ∙ (ap (λ (z : Term). equated z (put terms w)) (sym left.is) ∙ ap (equated (term_at u sort i)) (sym right.is)) in
            said-Equal set.signature n v vars ns t w ∙ ap (λ (q : ℕ). v.equal q i j) (sort_found set.signature n v vars ns t sort h)
            ∙ equated_value set u distinct apart atoms names values beside unique sort i j left.within right.within l name x;
      }

  -- what the clauses of a part mean
  pub record Means (e : Encoded) (b : Bool) : Type 0 where
    pub inside : AreSaid names a e.inside → Says e.literal → b ≡ true
    pub top : AreSaid names a e.top → b ≡ true

  abbrev PartsMean : List Formula → List Encoded → Type 0
  PartsMean = Beside (λ p e. Means e (says p))

  links_mean : (l : Literal) → Says l → (ps : List Formula) (es : List Encoded) → PartsMean ps es
      → AreSaid names a (map (λ (p : Encoded). opposite l ∷ p.literal ∷ []) es) → AreSaid names a (flat_map (λ (p : Encoded). p.inside) es) → list_all says ps ≡ true
  links_mean l x [] [] h links inside = refl
  links_mean l x [] (e ∷ es) h links inside = absurd h
  links_mean l x (p ∷ ps) [] h links inside = absurd h
  links_mean l x (p ∷ ps) (e ∷ es) h links inside =
      let others = flat_map (λ (p : Encoded). p.inside) es in
      let one = only names a e.literal (without names a unique l (e.literal ∷ []) x links.0) in
      and_from (says p) (list_all says ps) (h.0.inside (said_front names a e.inside others inside) one) (links_mean l x ps es h.1 links.1 (said_back names a e.inside others inside))

  tops_mean : (ps : List Formula) (es : List Encoded) → PartsMean ps es → AreSaid names a (flat_map (λ (p : Encoded). p.top) es) → list_all says ps ≡ true
  tops_mean [] [] h top = refl
  tops_mean [] (e ∷ es) h top = absurd h
  tops_mean (p ∷ ps) [] h top = absurd h
  tops_mean (p ∷ ps) (e ∷ es) h top =
      let others = flat_map (λ (p : Encoded). p.top) es in
      and_from (says p) (list_all says ps) (h.0.top (said_front names a e.top others top)) (tops_mean ps es h.1 (said_back names a e.top others top))

  some_mean : (ps : List Formula) (es : List Encoded) → PartsMean ps es → SomeSaid names a (map (λ (p : Encoded). p.literal) es) → AreSaid names a (flat_map (λ (p : Encoded). p.inside) es) → list_any says ps ≡ true
  some_mean [] [] h some inside = absurd some
  some_mean [] (e ∷ es) h some inside = absurd h
  some_mean (p ∷ ps) [] h some inside = absurd h
  some_mean (p ∷ ps) (e ∷ es) h some inside =
      let others = flat_map (λ (p : Encoded). p.inside) es in
      elim some [
        | inl x ↦ or_left (says p) (list_any says ps) (h.0.inside (said_front names a e.inside others inside) x)
        | inr r ↦ or_right (says p) (list_any says ps) (some_mean ps es h.1 r (said_back names a e.inside others inside))
      ]

  conjunction_means : (path : List ℕ) (ps : List Formula) (es : List Encoded) → PartsMean ps es → Means (conjunction path es) (list_all says ps)
  conjunction_means path ps es h =
      let links = map (λ (p : Encoded). opposite (new path) ∷ p.literal ∷ []) es in
      let others = flat_map (λ (p : Encoded). p.inside) es in
      record {
        inside = λ clauses x. links_mean (new path) x ps es h (said_front names a links others clauses) (said_back names a links others clauses);
        top = λ clauses. tops_mean ps es h clauses;
      }

  disjunction_means : (path : List ℕ) (ps : List Formula) (es : List Encoded) → PartsMean ps es → Means (disjunction path es) (list_any says ps)
  disjunction_means path ps es h = record {
    inside = λ clauses x. some_mean ps es h (without names a unique (new path) (map (λ (p : Encoded). p.literal) es) x clauses.0) clauses.1;
    top = λ clauses. some_mean ps es h clauses.0 clauses.1;
  }

  atom_means : (f : Formula) → IsAtom set.signature vars f → (path : List ℕ) → Means (encoded terms f path) (says f)
  atom_means f i path =
      let m = named f i in
      subst (λ (e : Encoded). Means e (says f)) (sym (m.encoded_is path))
      (record { inside = λ clauses x. m.value (plain m.name) refl x; top = λ clauses. m.value (plain m.name) refl (only names a (plain m.name) clauses.0) })

  not_false : (b : Bool) → b ≡ false → not b ≡ true
  not_false b e = ap not e

  negated_means : (f : Formula) → IsAtom set.signature vars f → (path : List ℕ) → Means (encoded terms (Not f) path) (says (Not f))
  negated_means f i path =
      let m = named f i in
      let l = opposite (plain m.name) in
      let step : encoded terms (Not f) path ≡ negated (literal_part (plain m.name)) = encoded-Not terms path f ∙ ap negated (m.encoded_is (path ++ 0 ∷ [])) in
      let says_so : Says l → says (Not f) ≡ true = λ x. said-Not set.signature n v vars ns f ∙ not_false (says f) (m.value l refl x) in
      subst (λ (e : Encoded). Means e (says (Not f))) (sym step)
      (record { inside = λ clauses x. says_so x; top = λ clauses. says_so (only names a l clauses.0) })

  mutual
    matrix_means : (f : Formula) → IsMatrix set.signature vars f → (path : List ℕ) → Means (encoded terms f path) (says f)
    matrix_means f IsMatrix.truth path = record { inside = λ clauses x. said-True set.signature n v vars ns; top = λ clauses. said-True set.signature n v vars ns }
    matrix_means f IsMatrix.falsity path =
        subst (λ (e : Encoded). Means e (says False)) (sym (encoded-False terms path))
        (record { inside = λ clauses x. absurd (not_both names a unique (new path) x (only names a (opposite (new path)) clauses.0)); top = λ clauses. absurd clauses.0 })
    matrix_means f (IsMatrix.atom g i) path = atom_means g i path
    matrix_means f (IsMatrix.negated g i) path = negated_means g i path
    matrix_means f (IsMatrix.all ps h) path =
        subst (λ (e : Encoded). Means e (says (All ps))) (sym (encoded-All terms path ps))
        (subst (Means (conjunction path (parts_at path 0 (map (encoded terms) ps)))) (sym (said-All set.signature n v vars ns ps))
        (conjunction_means path ps (parts_at path 0 (map (encoded terms) ps)) (parts_mean ps h path 0)))
    matrix_means f (IsMatrix.any ps h) path =
        subst (λ (e : Encoded). Means e (says (Any ps))) (sym (encoded-Any terms path ps))
        (subst (Means (disjunction path (parts_at path 0 (map (encoded terms) ps)))) (sym (said-Any set.signature n v vars ns ps))
        (disjunction_means path ps (parts_at path 0 (map (encoded terms) ps)) (parts_mean ps h path 0)))

    parts_mean : (ps : List Formula) → AreMatrices set.signature vars ps → (path : List ℕ) (k : ℕ) → PartsMean ps (parts_at path k (map (encoded terms) ps))
    parts_mean ps AreMatrices.none path k = tt
    parts_mean ps (AreMatrices.more p rest h hs) path k = (matrix_means p h (path ++ k ∷ []), parts_mean rest hs path (k + 1))

  pub matrix_true : (f : Formula) → IsMatrix set.signature vars f → (path : List ℕ) → AreSaid names a (encoded terms f path).top → says f ≡ true
  matrix_true f h path clauses = (matrix_means f h path).top clauses
