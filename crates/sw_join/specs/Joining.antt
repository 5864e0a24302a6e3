-- What an examination says of a class that is to join.
use Rattle.std.specs.Prelude.{◌≡◌, ℕ, ◌<◌, List, ◌++◌, length, Option, Some, slice_get}
use Rattle.sw_logic.specs.declared.syntax.Formula.{Formula}
use Rattle.sw_logic.specs.declared.structure.Structure.{Structure}
use Rattle.sw_logic.specs.declared.structure.Pair.{Pair}
use Rattle.sw_logic.specs.declared.query.Query.{Query}
use Rattle.sw_logic.specs.Truth.{AreTrueIn}
use Rattle.sw_meaning.specs.declared.protocol.Protocol.{Protocol}
use Rattle.sw_meaning.specs.declared.protocol.Transition.{Transition}
use Rattle.sw_meaning.specs.Verdict.{Joins}
use Rattle.sw_template.specs.Bodies.{Class}
use Rattle.sw_queries.specs.Queries.{start_query_of, join_query_of, with_joined}
use Rattle.sw_queries.specs.Counterexamples.{Leaves}
use Rattle.sw_filter.specs.declared.filter.Filter.{Filter}
use Rattle.sw_filter.specs.declared.filter.Filter.TheVariants as filter
use Rattle.sw_filter.specs.declared.filter.Mode.TheVariants.{Finish}
use Rattle.sw_filter.specs.Filters.{IsAdmitted, Refutes, IsLive}
use Rattle.sw_truth.specs.declared.instances.Refutation.{Refutation}
use Rattle.sw_examine.specs.declared.examining.QueryName.{QueryName}
use Rattle.sw_examine.specs.declared.examining.QueryName.TheVariants as name
use Rattle.sw_examine.specs.Answers.{IsWithin, IsRefutedBy, IsSpentBy, IsTooLargeBy}
use Rattle.sw_examine.specs.Examinations.{EachBelow, IsTrueAtStart}
use Rattle.sw_join.specs.declared.joining.JoinExamined.{JoinExamined}
use Rattle.sw_join.specs.declared.joining.JoinExamined.TheVariants as examined
use Rattle.sw_join.specs.declared.stepping.Stepped.{Stepped}
use Rattle.sw_join.specs.declared.stepping.Stepped.TheVariants as stepped
use Rattle.sw_join.specs.declared.stepping.AllStepped.{AllStepped}
use Rattle.sw_join.specs.declared.stepping.AllStepped.TheVariants as steps

module _ (p : Protocol) (g : List Formula) (f : Formula) where
  -- a step of this transition from the list, safety and the formula to where safety or the formula is false
  abbrev pub join_of : Transition → Query
  join_of t = join_query_of p t g (Some f)

  -- there is no such step
  abbrev pub JoinedBy : Transition → Type 0
  JoinedBy t = (pair : Pair) (arguments : List ℕ) → Leaves p t (with_joined (g ++ p.safeties) (Some f)) (with_joined p.safeties (Some f)) pair arguments → ⊥

  -- none of the first transitions has one, and their queries are not too large
  abbrev pub JoinedBelow : ℕ → Type 0
  JoinedBelow n = EachBelow p g f n (λ i t. JoinedBy t × IsWithin (join_of t))

  -- a filter of the protocol that refutes the formula and is live under the list and safety
  pub record Rejection (x : Filter) : Type 0 where
    pub admitted : IsAdmitted p x
    pub refutes : Refutes p x f
    pub live : IsLive p Finish g x

  -- a step of this transition that keeps safety and leaves the formula, found under the list
  pub record LeavesFormula (number : ℕ) (x : Filter) : Type 0 where
    pub pair : Pair
    pub arguments : List ℕ
    pub is : x ≡ filter.Move pair number arguments (length g)
    pub safe : AreTrueIn p.signature pair.after p.safeties
    pub rejection : Rejection x

  -- a step of this transition that leaves safety, found under the list
  pub record LeavesSafety (number : ℕ) (x : Filter) : Type 0 where
    pub pair : Pair
    pub arguments : List ℕ
    pub is : x ≡ filter.Bad pair number arguments (length g)
    pub rejection : Rejection x

  -- the query of the join of this transition, whatever it is, has a property
  abbrev pub OfJoin : ℕ → (Query → Type 0) → Type 0
  OfJoin n P = (t : Transition) → slice_get p.transitions n ≡ Some t → P (join_of t)

  -- such a step of the first transition that has one
  pub record FirstLeaves (LeavesBy : ℕ → Filter → Type 0) (x : Filter) : Type 0 where
    pub number : ℕ
    pub leaves : LeavesBy number x
    pub joined : JoinedBelow number
    pub within : OfJoin number IsWithin

  -- a start that is a filter
  pub record FailsAtStart (x : Filter) : Type 0 where
    pub structure : Structure
    pub is : x ≡ filter.Start structure
    pub rejection : Rejection x
    pub within : IsWithin (start_query_of p f)

  -- the query of this name of the class, where those asked before it neither decide nor are too large
  pub data IsAsked (class : Class) (q : Query) : QueryName → Type 0 where
    start : q ≡ start_query_of p f → IsAsked class q (name.Start class)
    join : (n : ℕ) (t : Transition) → slice_get p.transitions n ≡ Some t → q ≡ join_of t → IsTrueAtStart p g f → JoinedBelow n → IsAsked class q (name.Join n class)

  module _ (budget : Option ℕ) where
    -- each of these refutes the join query of its transition
    abbrev pub AreRefuted : ℕ → List Refutation → Type 0
    AreRefuted n rs = (length rs ≡ n) × EachBelow p g f n (λ i t. (r : Refutation) × (slice_get rs i ≡ Some r) × IsRefutedBy (join_of t) budget r)

    -- the answer to the query of one transition
    abbrev pub IsStepped : ℕ → Stepped → Type 0
    IsStepped n (stepped.Joins r) = OfJoin n (λ q. IsRefutedBy q budget r)
    IsStepped n (stepped.Leaves x) = LeavesFormula n x × OfJoin n IsWithin
    IsStepped n (stepped.Bad x) = LeavesSafety n x × OfJoin n IsWithin
    IsStepped n (stepped.Spent r) = OfJoin n (λ q. IsSpentBy q budget r)
    IsStepped n (stepped.TooLarge size) = OfJoin n (λ q. IsTooLargeBy q size)

    -- the answer to those of all transitions: the first that is not refuted decides
    abbrev pub AreStepped : AllStepped → Type 0
    AreStepped (steps.Join rs) = AreRefuted (length p.transitions) rs
    AreStepped (steps.Leaves x) = FirstLeaves LeavesFormula x
    AreStepped (steps.Bad x) = FirstLeaves LeavesSafety x
    AreStepped (steps.Spent n r) = (n < length p.transitions) × JoinedBelow n × OfJoin n (λ q. IsSpentBy q budget r)
    AreStepped (steps.TooLarge n size) = (n < length p.transitions) × JoinedBelow n × OfJoin n (λ q. IsTooLargeBy q size)

    -- the formula joins, with what shows it
    pub record IsJoined (r : Refutation) (rs : List Refutation) : Type 0 where
      pub start : IsTrueAtStart p g f
      pub joins : Joins p g f
      pub cleared : IsRefutedBy (start_query_of p f) budget r
      pub refuted : AreRefuted (length p.transitions) rs

    -- start and the joins in order, and the first that decides
    abbrev pub IsExamined : Class → JoinExamined → Type 0
    IsExamined class (examined.StartFails x) = FailsAtStart x × (Joins p g f → ⊥)
    IsExamined class (examined.NotKept x) = IsTrueAtStart p g f × FirstLeaves LeavesFormula x × (Joins p g f → ⊥)
    IsExamined class (examined.Bad x) = IsTrueAtStart p g f × FirstLeaves LeavesSafety x × (Joins p g f → ⊥)
    IsExamined class (examined.Joins r rs) = IsJoined r rs
    IsExamined class (examined.Spent name r) = (q : Query) × IsAsked class q name × IsSpentBy q budget r
    IsExamined class (examined.TooLarge name size) = (q : Query) × IsAsked class q name × IsTooLargeBy q size
