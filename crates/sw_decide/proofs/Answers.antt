-- What a solved set of clauses says of the query.
use Rattle.std.specs.Prelude.{◌≡◌, ◌<◌, ◌↔◌, ◌⊎◌, ℕ, zero, suc, ◌+◌, Bool, true, List, [], ◌∷◌, map, length, Option, slice_index_or, IfOk, Result, Ok, Err}
use Rattle.std.specs.List.{AllByRecursion, range_with_len}
use Rattle.std.proofs.Common.{arith, refl, sym, ap, subst, ◌∙◌, add-zero, zero-add, inl, inr}
use Rattle.std.proofs.lemmas.List.{length-map}
use Rattle.std.proofs.lemmas.List.FromFn.{length-map-range_with_len}
use Rattle.sw_logic.specs.declared.syntax.Term.{Term}
use Rattle.sw_logic.specs.declared.query.Query.{Query}
use Rattle.sw_logic.specs.declared.structure.Structure.{Structure}
use Rattle.sw_logic.specs.Queries.{IsQuery, Satisfies}
use Rattle.sw_logic.specs.Truth.{size_of}
use Rattle.sw_logic.specs.Strata.{AreRanks, function_edges}
use Rattle.sw_refute.specs.declared.clauses.Derived.{Derived}
use Rattle.sw_refute.specs.Propagation.{EndsEmpty}
use Rattle.sw_sat.specs.Answers.{IsModel, IsRefutation, IsSpent, OnlyLastIsEmpty}
use Rattle.sw_truth.specs.declared.sets.SkolemSet.{SkolemSet}
use Rattle.sw_truth.specs.declared.instances.Instance.{Instance}
use Rattle.sw_truth.specs.declared.instances.Instance.TheVariants.{Of}
use Rattle.sw_truth.specs.declared.instances.Ground.{Ground}
use Rattle.sw_truth.specs.declared.instances.Refutation.{Refutation}
use Rattle.sw_truth.specs.Models.{restricted}
use Rattle.sw_truth.proofs.Lists.{in-all}
use Rattle.sw_universe.specs.declared.universe.Universe.{Universe}
use Rattle.sw_universe.specs.ByNumber.{counts}
use Rattle.sw_universe.specs.GroundTerms.{terms_of, universe_of}
use Rattle.sw_universe.specs.Laws.{UniverseIsInhabited}
use Rattle.sw_skolem.specs.Skolem.{skolem_of}
use Rattle.sw_skolem.specs.Laws.{SkolemIsWellFormed, SkolemKeepsStrata, SkolemRestricts}
use Rattle.sw_instances.specs.AllInstances.{instances_of}
use Rattle.sw_instances.specs.Numbered.{Beside, StandsFor, IsGround}
use Rattle.sw_ground.specs.Verdict.{universe, AcceptedRefutation, Accepts, IsPrepared, IsStratifiedQuery, AcceptedLeavesNoStructure}
use Rattle.sw_quotient.specs.Terms.{numbering}
use Rattle.sw_quotient.specs.Valuations.{valuation}
use Rattle.sw_quotient.specs.Classes.{class_of}
use Rattle.sw_quotient.specs.Tables.{IsStructureOf, quotient_of}
use Rattle.sw_quotient.specs.Truths.{IsTrueInstance}
use Rattle.sw_quotient.specs.Quotient.{IsQuotient}
use Rattle.sw_quotient.specs.Laws.{ClausesMean, QuotientExists, QuotientIsModel}
use Rattle.sw_decide.specs.declared.decision.Decision.{Decision}
use Rattle.sw_decide.specs.declared.decision.Decision.TheVariants.{Refuted, Found, Spent, TooLarge}
use Rattle.sw_decide.specs.Decision.{IsSpentOver, IsSpentOn, Decides, IsExact}
use Rattle.sw_decide.proofs.Among.{sound, complete}

-- what holds of a set and a universe that equal those of a query
pub of_query : (P : SkolemSet → Universe → Type 0) (q : Query) (set : SkolemSet) (u : Universe) → set ≡ skolem_of q → u.lists ≡ universe_of set.signature → P set u → P (skolem_of q) (universe (skolem_of q))
of_query P q set u e f h =
    let made : List (List Term) → Universe = λ lists. record { lists = lists } in
    let g : P set (universe set) = subst (P set) (ap made f) h in
    subst (λ (x : SkolemSet). P x (universe x)) e g

-- the sizes of a universe
ranged : (f : ℕ → List Term) (a k sort : ℕ) → sort < k → size_of (map length (map f (range_with_len a k))) sort ≡ length (f (a + sort))
ranged f a zero sort h = absurd (omega arith)
ranged f a (suc k) zero h = ap (λ n. length (f n)) (sym (add-zero a))
ranged f a (suc k) (suc sort) h = ranged f (a + 1) k sort (omega arith) ∙ ap (λ n. length (f n)) (moved a sort)
  where
    moved : (a sort : ℕ) → a + 1 + sort ≡ a + suc sort
    moved a sort = omega arith

size_is : (set : SkolemSet) (sort : ℕ) → sort < length set.signature.sorts → size_of (counts (universe set)) sort ≡ length (terms_of set.signature sort)
size_is set sort h = ranged (terms_of set.signature) 0 (length set.signature.sorts) sort h ∙ ap (λ n. length (terms_of set.signature n)) (zero-add sort)

many : (set : SkolemSet) → length (counts (universe set)) ≡ length set.signature.sorts
many set = length-map (universe_of set.signature) length ∙ length-map-range_with_len (terms_of set.signature) 0 (length set.signature.sorts)

ends_empty : (steps : List Derived) → OnlyLastIsEmpty steps → EndsEmpty steps
ends_empty [] h = h
ends_empty (s ∷ []) h = h
ends_empty (s ∷ t ∷ steps) h = ends_empty (t ∷ steps) h.1

-- all instances, and clauses of them
pub record AreSolved (g : Ground) (is : List Instance) (set : SkolemSet) (u : Universe) : Type 0 where
  pub all : is ≡ instances_of set u
  pub made : IsGround set u is g

pub refuted : (set : SkolemSet) (u : Universe) (g : Ground) (is : List Instance) → AreSolved g is set u → (budget : Option ℕ) (steps : List Derived) → IsRefutation g.cnf budget steps
    → Accepts set u (record { instances = is; steps = steps })
refuted set u g is h budget steps r = record {
  ground = g;
  instances = subst (AllByRecursion _) (sym h.all) (sound set u);
  made = h.made;
  steps = r.accepted;
  empty = ends_empty steps r.empty;
}

pub spent : (set : SkolemSet) (u : Universe) (g : Ground) (is : List Instance) → AreSolved g is set u → (budget : Option ℕ) (steps : List Derived) → IsSpent g.cnf budget steps
    → IsSpentOver set u budget (record { instances = is; steps = steps })
spent set u g is h budget steps r = record { ground = g; all = h.all; instances = subst (AllByRecursion _) (sym h.all) (sound set u); made = h.made; steps = r }

-- a structure of all instances
pub record IsMade (g : Ground) (is : List Instance) (values : List Bool) (s : Structure) (set : SkolemSet) (u : Universe) : Type 0 where
  pub solved : AreSolved g is set u
  pub prepared : IsPrepared set u
  pub structure : IsStructureOf set u (valuation g.atoms values) s

pub record TheLaws : Type 1 where
  pub clauses : ClausesMean
  pub exists : QuotientExists
  pub model : QuotientIsModel
  pub formed : SkolemIsWellFormed
  pub restricts : SkolemRestricts
  pub inhabited : UniverseIsInhabited

found_in : (q : Query) → IsQuery q → TheLaws → (g : Ground) (is : List Instance) (values : List Bool) (s : Structure) → IsMade g is values s (skolem_of q) (universe (skolem_of q)) → IsModel g.cnf values
    → Satisfies q (restricted q.signature s)
found_in q ok laws g is values s h m =
    let set = skolem_of q in
    let u = universe set in
    let v = valuation g.atoms values in
    let firsts = h.structure.firsts in
    let n = numbering u firsts in
    let form = laws.formed q ok in
    let instances = subst (AllByRecursion _) (sym h.solved.all) (sound set u) in
    let all = laws.clauses set u firsts is g values refl h.structure.indexed form.matrices instances h.solved.made m.holds in
    let each : (i : Instance) → _ → IsTrueInstance set n v i = λ i within. in-all (IsTrueInstance set n v) i (instances_of set u) (subst (AllByRecursion (IsTrueInstance set n v)) h.solved.all all) (complete set u refl i within) in
    let inhabited : (sort : ℕ) → sort < length set.signature.sorts → 0 < size_of (counts u) sort =
    λ sort below. subst (λ k. 0 < k) (sym (size_is set sort below)) (laws.inhabited set.signature sort form.signature h.prepared.strata form.none_bare below) in
    let quotient = laws.exists set u firsts v (λ i equality within. each i within) form.signature h.structure.indexed (many set) inhabited in
    let here = subst (IsQuotient set.signature n v (class_of v (counts u))) (sym h.structure.is) quotient in
    laws.restricts q s ok (laws.model set u firsts v (class_of v (counts u)) s here h.structure.indexed form.matrices (λ p ts within. each (Of p ts) within))

pub found : (q : Query) → IsQuery q → TheLaws → (set : SkolemSet) (u : Universe) → set ≡ skolem_of q → u.lists ≡ universe_of set.signature → (g : Ground) (is : List Instance) (values : List Bool) (s : Structure)
    → IsMade g is values s set u → IsModel g.cnf values → Satisfies q (restricted q.signature s)
found q ok laws set u e f g is values s h m = found_in q ok laws g is values s (of_query (IsMade g is values s) q set u e f h) m

-- an answer with what it carries is exact
pub exact : (q : Query) → IsQuery q → AcceptedLeavesNoStructure → (budget : Option ℕ) (d : Decision) → Decides q budget d → IsExact q d
exact q ok law budget (Refuted r) h = let none = law q r ok h.accepted in inr (inr ((λ t. none, λ n. tt), (λ e. absurd e, λ t. none t.0 t.1)))
exact q ok law budget (Found s) h = inr (inr ((λ e. absurd e, λ n. n s h), (λ t. (s, h), λ t. tt)))
exact q ok law budget (Spent r) h = inl tt
exact q ok law budget (TooLarge size) h = inr (inl tt)

pub beside_length : {X Y : Type 0} (R : X → Y → Type 0) (xs : List X) (ys : List Y) → Beside R xs ys → length xs ≡ length ys
beside_length R [] [] h = refl
beside_length R [] (y ∷ ys) h = absurd h
beside_length R (x ∷ xs) [] h = absurd h
beside_length R (x ∷ xs) (y ∷ ys) h = ap suc (beside_length R xs ys h.1)

-- a value for each variable is one for each atom
pub values_are : (set : SkolemSet) (u : Universe) (is : List Instance) (g : Ground) (values : List Bool) → IsGround set u is g → IsModel g.cnf values → length values ≡ length g.atoms
values_are set u is g values h m = m.total ∙ h.variables ∙ sym (beside_length (StandsFor set u) g.atoms h.names h.atoms)

-- the Skolem form of a query is ready for its instances
pub prepared : SkolemIsWellFormed → SkolemKeepsStrata → (q : Query) → IsQuery q → IsStratifiedQuery q → (set : SkolemSet) → set ≡ skolem_of q → (u : Universe) → u.lists ≡ universe_of set.signature → IsPrepared set u
prepared forms keeps q ok strata set e u f =
    let form = forms q ok in
    let edges = function_edges (skolem_of q).signature.symbols in
    let ranks : AreRanks (length (skolem_of q).signature.sorts) edges strata.ranks =
    subst (λ (n : ℕ). AreRanks n edges strata.ranks) (ap length (sym form.sorts)) (keeps q strata.ranks ok strata.are) in
    let there : IsPrepared (skolem_of q) (universe (skolem_of q)) = record { signature = form.signature; strata = record { ranks = strata.ranks; are = ranks }; pieces = form.pieces; universe = refl } in
    let made : List (List Term) → Universe = λ lists. record { lists = lists } in
    let back = subst (λ (x : SkolemSet). IsPrepared x (universe x)) (sym e) there in
    subst (IsPrepared set) (sym (ap made f)) back

pub in_ok : {T F : Type 0} (r : Result T F) (P Q : T → Type 0) → ((x : T) → P x → Q x) → IfOk r P → IfOk r Q
in_ok (Ok x) P Q f h = f x h
in_ok (Err e) P Q f h = h
