-- What an examination of a class says.
use Rattle.std.specs.Prelude.{◌≡◌, ℕ, ◌<◌, List, [], ◌∷◌, ◌++◌, length, Option, Some, slice_get}
use Rattle.sw_logic.specs.declared.syntax.Formula.{Formula}
use Rattle.sw_logic.specs.declared.structure.Structure.{Structure}
use Rattle.sw_logic.specs.declared.structure.Pair.{Pair}
use Rattle.sw_logic.specs.declared.query.Query.{Query}
use Rattle.sw_meaning.specs.declared.protocol.Protocol.{Protocol}
use Rattle.sw_meaning.specs.declared.protocol.Transition.{Transition}
use Rattle.sw_meaning.specs.Inductive.{AtStart, Kept, Follows}
use Rattle.sw_template.specs.Bodies.{Class}
use Rattle.sw_queries.specs.Queries.{start_query_of, follow_query_of, step_query_of}
use Rattle.sw_queries.specs.Counterexamples.{DoesNotFollow, Leaves}
use Rattle.sw_filter.specs.declared.filter.Filter.{Filter}
use Rattle.sw_filter.specs.declared.filter.Filter.TheVariants as filter
use Rattle.sw_filter.specs.declared.filter.Mode.TheVariants.{Breadth}
use Rattle.sw_filter.specs.Filters.{IsAdmitted, Refutes, IsLive}
use Rattle.sw_truth.specs.declared.instances.Refutation.{Refutation}
use Rattle.sw_examine.specs.declared.examining.QueryName.{QueryName}
use Rattle.sw_examine.specs.declared.examining.QueryName.TheVariants as name
use Rattle.sw_examine.specs.declared.examining.Examined.{Examined}
use Rattle.sw_examine.specs.declared.examining.Examined.TheVariants.{StartFails, Follows as FollowsList, NotKept, Earned, Spent, TooLarge}
use Rattle.sw_examine.specs.declared.stepping.Stepped.{Stepped}
use Rattle.sw_examine.specs.declared.stepping.Stepped.TheVariants as stepped
use Rattle.sw_examine.specs.declared.stepping.AllStepped.{AllStepped}
use Rattle.sw_examine.specs.declared.stepping.AllStepped.TheVariants as steps
use Rattle.sw_examine.specs.Answers.{IsWithin, IsRefutedBy, IsSpentBy, IsTooLargeBy}

module _ (p : Protocol) (g : List Formula) (f : Formula) where
  -- no step of this transition from the list and the formula ends without the formula
  abbrev pub KeptBy : Transition → Type 0
  KeptBy t = (pair : Pair) (arguments : List ℕ) → Leaves p t (g ++ f ∷ []) (f ∷ []) pair arguments → ⊥

  -- each of the first transitions has a property
  abbrev pub EachBelow : ℕ → (ℕ → Transition → Type 0) → Type 0
  EachBelow n P = (i : ℕ) (t : Transition) → i < n → slice_get p.transitions i ≡ Some t → P i t

  -- the first transitions keep the formula, and their queries are not too large
  abbrev pub KeptBelow : ℕ → Type 0
  KeptBelow n = EachBelow n (λ i t. KeptBy t × IsWithin (step_query_of p t g f))

  -- a filter of the protocol that refutes the formula and is live under the list
  pub record Rejection (x : Filter) : Type 0 where
    pub admitted : IsAdmitted p x
    pub refutes : Refutes p x f
    pub live : IsLive p Breadth g x

  -- a step of this transition that is a filter, found under the list
  pub record LeavesBy (number : ℕ) (x : Filter) : Type 0 where
    pub pair : Pair
    pub arguments : List ℕ
    pub is : x ≡ filter.Move pair number arguments (length g)
    pub rejection : Rejection x

  -- a step of the first transition that does not keep the formula
  pub record FirstLeaves (x : Filter) : Type 0 where
    pub number : ℕ
    pub leaves : LeavesBy number x
    pub kept : KeptBelow number
    pub within : (t : Transition) → slice_get p.transitions number ≡ Some t → IsWithin (step_query_of p t g f)

  -- a start that is a filter
  pub record FailsAtStart (x : Filter) : Type 0 where
    pub structure : Structure
    pub is : x ≡ filter.Start structure
    pub rejection : Rejection x
    pub within : IsWithin (start_query_of p f)

  -- the formula is true in every start, and its start query is not too large
  pub record IsTrueAtStart : Type 0 where
    pub holds : AtStart p f
    pub within : IsWithin (start_query_of p f)

  -- besides, it does not follow from the list, as the structure shows, and its follow query is not too large
  pub record DoesNotFollowAfterStart (s : Structure) : Type 0 where
    pub start : IsTrueAtStart
    pub shows : DoesNotFollow p g f s
    pub within : IsWithin (follow_query_of p g f)

  -- the query of the transition of this number, whatever it is, has a property
  abbrev pub OfStep : ℕ → (Query → Type 0) → Type 0
  OfStep n P = (t : Transition) → slice_get p.transitions n ≡ Some t → P (step_query_of p t g f)

  -- the query of this name of the class, where those asked before it neither decide nor are too large
  pub data IsAsked (class : Class) (q : Query) : QueryName → Type 0 where
    start : q ≡ start_query_of p f → IsAsked class q (name.Start class)
    follow : q ≡ follow_query_of p g f → IsTrueAtStart → IsAsked class q (name.Follow class)
    step : (n : ℕ) (t : Transition) (s : Structure) → slice_get p.transitions n ≡ Some t → q ≡ step_query_of p t g f
        → DoesNotFollowAfterStart s → KeptBelow n → IsAsked class q (name.Step n class)

  module _ (budget : Option ℕ) where
    -- each of these refutes the step query of its transition
    abbrev pub AreRefuted : ℕ → List Refutation → Type 0
    AreRefuted n rs = (length rs ≡ n) × EachBelow n (λ i t. (r : Refutation) × (slice_get rs i ≡ Some r) × IsRefutedBy (step_query_of p t g f) budget r)

    -- the answer to the query of one transition
    abbrev pub IsStepped : ℕ → Stepped → Type 0
    IsStepped n (stepped.Keeps r) = OfStep n (λ q. IsRefutedBy q budget r)
    IsStepped n (stepped.Leaves x) = LeavesBy n x × OfStep n IsWithin
    IsStepped n (stepped.Spent r) = OfStep n (λ q. IsSpentBy q budget r)
    IsStepped n (stepped.TooLarge size) = OfStep n (λ q. IsTooLargeBy q size)

    -- the answer to those of all transitions: the first that is not kept decides
    abbrev pub AreStepped : AllStepped → Type 0
    AreStepped (steps.Keep rs) = AreRefuted (length p.transitions) rs
    AreStepped (steps.Leaves x) = FirstLeaves x
    AreStepped (steps.Spent n r) = (n < length p.transitions) × KeptBelow n × OfStep n (λ q. IsSpentBy q budget r)
    AreStepped (steps.TooLarge n size) = (n < length p.transitions) × KeptBelow n × OfStep n (λ q. IsTooLargeBy q size)

    -- the formula is inductive and does not follow, with what shows each
    pub record IsEarned (r : Refutation) (rs : List Refutation) (s : Structure) : Type 0 where
      pub after_start : DoesNotFollowAfterStart s
      pub kept : Kept p g f
      pub cleared : IsRefutedBy (start_query_of p f) budget r
      pub refuted : AreRefuted (length p.transitions) rs

    -- start, follow and the steps in order, and the first that decides
    abbrev pub IsExamined : Class → Examined → Type 0
    IsExamined class (StartFails x) = FailsAtStart x
    IsExamined class (FollowsList r) = IsTrueAtStart × IsRefutedBy (follow_query_of p g f) budget r × Follows p g f
    IsExamined class (NotKept x) = ((s : Structure) × DoesNotFollowAfterStart s) × FirstLeaves x × (Kept p g f → ⊥)
    IsExamined class (Earned r rs s) = IsEarned r rs s
    IsExamined class (Spent name r) = (q : Query) × IsAsked class q name × IsSpentBy q budget r
    IsExamined class (TooLarge name size) = (q : Query) × IsAsked class q name × IsTooLargeBy q size
