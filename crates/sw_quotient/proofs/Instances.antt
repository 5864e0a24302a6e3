-- Where the clauses of instances are true, the instances are.
use Rattle.std.specs.Prelude.{◌≡◌, ℕ, ◌+◌, ◌<◌, Bool, true, false, List, [], ◌∷◌, ◌++◌, length, Option, Some, slice_get, slice_index, slice_set, unwrap_or}
use Rattle.std.specs.List.{AllByRecursion}
use Rattle.std.proofs.Common.{refl, sym, subst, ap, ◌∙◌}
use Rattle.sw_lists.proofs.Each.{each-at}
use Rattle.sw_logic.specs.declared.syntax.SymbolKind.{SymbolKind}
use Rattle.sw_logic.specs.declared.syntax.SymbolKind.TheVariants.{Relation, Constant, Function}
use Rattle.sw_logic.specs.declared.syntax.Symbol.{Symbol}
use Rattle.sw_logic.specs.declared.syntax.Term.{Term}
use Rattle.sw_logic.specs.declared.syntax.Term.TheVariants.{Apply}
use Rattle.sw_logic.specs.Sorted.{gives_value}
use Rattle.sw_logic.specs.Truth.{args_of, args_or_none}
use Rattle.sw_truth.specs.declared.sets.Piece.{Piece}
use Rattle.sw_truth.specs.declared.sets.SkolemSet.{SkolemSet}
use Rattle.sw_truth.specs.declared.instances.Atom.{Atom}
use Rattle.sw_truth.specs.declared.instances.Instance.{Instance}
use Rattle.sw_truth.specs.declared.instances.Instance.TheVariants.{Of, Reflexive, Symmetric, Transitive, Congruent}
use Rattle.sw_truth.specs.Models.{AreOfSorts}
use Rattle.sw_truth.specs.Sorting.{IsMatrix}
use Rattle.sw_universe.specs.declared.universe.Universe.{Universe}
use Rattle.sw_universe.specs.ByNumber.{counts, term_at, terms_at, IsTerm, AreDistinct, AreApart}
use Rattle.sw_universe.proofs.Distinct.{are_distinct, are_apart}
use Rattle.sw_numbers.specs.Numbers.{IsIndexed, NumbersAreTerms}
use Rattle.sw_instances.specs.Named.{Name, related, equated, Literal, plain, opposite}
use Rattle.sw_instances.specs.Instances.{AreTermsOf, AreArgumentsOf, IsInstance, AreInstances, carried, congruent_clauses, piece_clauses, instance_clauses, clauses_from}
use Rattle.sw_instances.specs.Numbered.{Beside, StandsFor}
use Rattle.sw_quotient.specs.Terms.{Numbering, numbering, number}
use Rattle.sw_quotient.specs.Valuations.{Valuation, valuation, ground_truth}
use Rattle.sw_quotient.specs.Truths.{IsKept, IsTrueInstance}
use Rattle.sw_quotient.specs.Laws.{AreMatricesOf, ClausesMean}
use Rattle.sw_quotient.proofs.Saying.{AreUnique, are_unique, SomeSaid, AreSaid, clauses_said, said_front, said_back}
use Rattle.sw_quotient.proofs.Meanings.{here, terms_get, number_get, terms_set, numbers_set, implies, equal_at, holds_then}
use Rattle.sw_quotient.proofs.Clauses.{matrix_true}

module _ (set : SkolemSet) (u : Universe) (firsts : List ℕ) (numbered : NumbersAreTerms) (indexed : IsIndexed set.signature u firsts) (distinct : AreDistinct u) (apart : AreApart u)
    (atoms : List Atom) (names : List Name) (values : List Bool) (beside : Beside (StandsFor set u) atoms names) (unique : AreUnique names) (matrices : AreMatricesOf set) where
  abbrev n : Numbering
  n = numbering u firsts

  abbrev v : Valuation
  v = valuation atoms values

  abbrev a : ℕ → Bool
  a = here set u distinct apart atoms names values beside unique

  piece_true : (k : ℕ) (ns : List ℕ) (path : List ℕ) → AreTermsOf u (slice_get set.pieces k) ns → AreSaid names a (piece_clauses u (slice_get set.pieces k) ns path) → IsTrueInstance set n v (Of k ns)
  piece_true k ns path within clauses p is =
      let below : AreOfSorts (counts u) p.vars ns = subst (λ (o : Option Piece). AreTermsOf u o ns) is within in
      let here_clauses = subst (λ (o : Option Piece). AreSaid names a (piece_clauses u o ns path)) is clauses in
      matrix_true set u firsts numbered indexed distinct apart atoms names values beside unique p.vars ns below p.matrix (each-at (λ (q : Piece). IsMatrix set.signature q.vars q.matrix) set.pieces k p is matrices) path here_clauses

  values_equal : (f : ℕ) (s : Symbol) → slice_get set.signature.symbols f ≡ Some s → gives_value s.kind ≡ true → (ns ms : List ℕ) → AreOfSorts (counts u) s.args ns → AreOfSorts (counts u) s.args ms
      → SomeSaid names a (plain (equated (Apply f false (terms_at u s.args ns)) (Apply f false (terms_at u s.args ms))) ∷ []) → v.equal s.gives (number set.signature n f ns) (number set.signature n f ms) ≡ true
  values_equal f s is k ns ms h g clause =
      let left = indexed f s ns is k h in
      let right = indexed f s ms is k g in
      let at = subst (λ (t : Term). SomeSaid names a (plain (equated t (Apply f false (terms_at u s.args ms))) ∷ [])) (sym left.is) clause in
      let both = subst (λ (t : Term). SomeSaid names a (plain (equated (term_at u s.gives (number set.signature n f ns)) t) ∷ [])) (sym right.is) at in
      equal_at set u distinct apart atoms names values beside unique s.gives (number set.signature n f ns) (number set.signature n f ms) left.within right.within both

  kept : (f : ℕ) (s : Symbol) → slice_get set.signature.symbols f ≡ Some s → (kind : SymbolKind) → s.kind ≡ kind → (ns ms : List ℕ) → AreOfSorts (counts u) s.args ns → AreOfSorts (counts u) s.args ms
      → SomeSaid names a (carried kind f (terms_at u s.args ns) (terms_at u s.args ms)) → IsKept set.signature n v f kind s.gives ns ms
  kept f s is Relation k ns ms h g clause =
      let sorts : args_of set.signature f ≡ s.args = ap args_or_none is in
      let there = sym sorts in
      holds_then set u distinct apart atoms names values beside unique f ns ms
      (subst (λ (ss : List ℕ). AreOfSorts (counts u) ss ns) there h) (subst (λ (ss : List ℕ). AreOfSorts (counts u) ss ms) there g)
      (subst (λ (ss : List ℕ). SomeSaid names a (carried Relation f (terms_at u ss ns) (terms_at u ss ms))) there clause)
  kept f s is Constant k ns ms h g clause = values_equal f s is (ap gives_value k) ns ms h g clause
  kept f s is Function k ns ms h g clause = values_equal f s is (ap gives_value k) ns ms h g clause

  congruent_true : (f place : ℕ) (ns : List ℕ) (x : ℕ) → AreArgumentsOf u (slice_get set.signature.symbols f) place ns x
      → AreSaid names a (congruent_clauses u (slice_get set.signature.symbols f) f place ns x) → IsTrueInstance set n v (Congruent f place ns x)
  congruent_true f place ns x within clauses s is e =
      let ok = subst (λ (o : Option Symbol). AreArgumentsOf u o place ns x) is within in
      let all = subst (λ (o : Option Symbol). AreSaid names a (congruent_clauses u o f place ns x)) is clauses in
      let sort = slice_index s.args place in
      let new = term_at u sort x in
      let ts = terms_at u s.args ns in
      let old : unwrap_or (slice_get ts place) new ≡ term_at u sort (slice_index ns place) = terms_get u s.args ns place new ok.1 ok.0 in
      let after : slice_set ts place new ≡ terms_at u s.args (slice_set ns place x) = terms_set u s.args ns place x ok.1 ok.0 in
      let first = subst (λ (t : Term). SomeSaid names a (opposite (plain (equated t new)) ∷ carried s.kind f ts (slice_set ts place new))) old all.0 in
      let rest = implies set u distinct apart atoms names values beside unique sort (slice_index ns place) x (number_get u s.args ns place ok.1 ok.0) ok.2 (carried s.kind f ts (slice_set ts place new)) first e in
      kept f s is s.kind refl ns (slice_set ns place x) ok.1 (numbers_set u s.args ns place x ok.1 ok.0 ok.2)
      (subst (λ (us : List Term). SomeSaid names a (carried s.kind f ts us)) after rest)

  instance_true : (path : List ℕ) (i : Instance) → IsInstance set u i → AreSaid names a (instance_clauses set u path i) → IsTrueInstance set n v i
  instance_true path (Of k ns) within clauses = piece_true k ns path within clauses
  instance_true path (Reflexive sort t) within clauses = equal_at set u distinct apart atoms names values beside unique sort t t within within clauses.0
  instance_true path (Symmetric sort t w) within clauses =
      λ e. equal_at set u distinct apart atoms names values beside unique sort w t within.1 within.0
      (implies set u distinct apart atoms names values beside unique sort t w within.0 within.1 (plain (equated (term_at u sort w) (term_at u sort t)) ∷ []) clauses.0 e)
  instance_true path (Transitive sort t w x) within clauses =
      λ e f. equal_at set u distinct apart atoms names values beside unique sort t x within.0 within.2
      (implies set u distinct apart atoms names values beside unique sort w x within.1 within.2 (plain (equated (term_at u sort t) (term_at u sort x)) ∷ [])
      (implies set u distinct apart atoms names values beside unique sort t w within.0 within.1 (opposite (plain (equated (term_at u sort w) (term_at u sort x))) ∷ plain (equated (term_at u sort t) (term_at u sort x)) ∷ []) clauses.0 e) f)
  instance_true path (Congruent f place ns x) within clauses = congruent_true f place ns x within clauses

  pub instances_true : (k : ℕ) (is : List Instance) → AreInstances set u is → AreSaid names a (clauses_from set u k is) → AllByRecursion (IsTrueInstance set n v) is
  instances_true k [] within clauses = tt
  instances_true k (i ∷ is) within clauses =
      let first = instance_clauses set u (k ∷ []) i in
      let rest = clauses_from set u (k + 1) is in
      (instance_true (k ∷ []) i within.0 (said_front names a first rest clauses), instances_true (k + 1) is within.1 (said_back names a first rest clauses))

pub clauses_mean : NumbersAreTerms → ClausesMean
clauses_mean numbered set u firsts is g values universe indexed matrices within ground' holds =
    let unique = are_unique ground'.order in
    let distinct = are_distinct set.signature u universe in
    let apart = are_apart set.signature u universe in
    let a = here set u distinct apart g.atoms ground'.names values ground'.atoms unique in
    let clauses = clauses_said ground'.names a (clauses_from set u 0 is) g.cnf.clauses ground'.clauses holds in
    instances_true set u firsts numbered indexed distinct apart g.atoms ground'.names values ground'.atoms unique matrices 0 is within clauses
