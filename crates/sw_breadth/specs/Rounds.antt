-- What breadth leaves behind, and why it may end without a record.
use Rattle.std.specs.Prelude.{◌≡◌, ℕ, ◌+◌, ◌≤◌, List, [], length, map, Option, Some, IfSome}
use Rattle.std.specs.List.{AllByRecursion}
use Rattle.sw_logic.specs.declared.query.Query.{Query}
use Rattle.sw_meaning.specs.Inductive.{Earned}
use Rattle.sw_meaning.specs.Plain.{PlainList, formulas_of}
use Rattle.sw_template.specs.Bodies.{Class}
use Rattle.sw_examine.specs.Answers.{IsSpentBy, IsTooLargeBy}
use Rattle.sw_examine.specs.Examinations.{IsAsked}
use Rattle.sw_examine.specs.declared.examining.QueryName.{QueryName}
use Rattle.sw_log.specs.declared.entry.Entry.{Entry}
use Rattle.sw_core.specs.declared.record.Record.{Record}
use Rattle.sw_core.specs.Machine.{Search, formula_in, parts_in}
use Rattle.sw_core.specs.Gathered.{Outcome, AreOutcomes, record_of}
use Rattle.sw_walk.specs.Parts.{classes_of, IsClass}
use Rattle.sw_work.specs.declared.errors.BreadthError.{BreadthError}
use Rattle.sw_work.specs.declared.errors.BreadthError.TheVariants.{Memory, Spent, TooLarge}
use Rattle.sw_work.specs.Works.{bodies_of, carried, BeginsWith}

-- the record is gathered of whole rounds, of which there is at most one more than entries; each entry is a class
pub record IsGathered (m : Search) (r : Record) : Type 0 where
  pub outcomes : List Outcome
  pub is : r ≡ record_of 0 outcomes
  pub whole : AreOutcomes m [] [] outcomes
  pub few : length outcomes ≤ length r.entries + 1
  pub classes : AllByRecursion (λ (e : Entry). IsClass (parts_in m) e.body) r.entries

-- the classes that were appended, in order
abbrev pub listed : Record → List (List ℕ)
listed r = classes_of (bodies_of r.entries)

-- the query of this name of a class, under an earned list of classes
pub record AskedUnder (m : Search) (list : List Class) (name : QueryName) (Met : Query → Type 0) : Type 0 where
  pub classes : AllByRecursion (IsClass (parts_in m)) list
  pub earned : Earned m.protocol (Some m.template) (formulas_of m.protocol m.template (classes_of list))
  pub body : Class
  pub class : IsClass (parts_in m) body
  pub query : Query
  pub asked : IsAsked m.protocol (formulas_of m.protocol m.template (classes_of list)) (formula_in m body.cubes) body query name
  pub met : Met query

-- memory, or a query of a class under an earned list that spent the budget or is too large
abbrev pub IsCause : Search → Option ℕ → BreadthError → Type 0
IsCause m budget Memory = Unit {0}
IsCause m budget (Spent name list steps) = AskedUnder m list name (λ q. IsSpentBy q budget steps)
IsCause m budget (TooLarge name list size) = AskedUnder m list name (λ q. IsTooLargeBy q size)

-- with one worker: the list that an error carries is one with which the plain list begins
abbrev pub IsOnTheWay : Search → BreadthError → Type 0
IsOnTheWay m e = IfSome (carried e) (λ list. (h : List (List ℕ)) → PlainList m.protocol m.template h → BeginsWith (classes_of list) h)
