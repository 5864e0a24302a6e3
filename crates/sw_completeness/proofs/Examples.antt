-- A protocol whose search is within the limits, without a template and with one.
use Rattle.std.specs.Prelude.{◌≡◌, ◌⊎◌, ◌≤◌, ℕ, true, false, List, [], ◌∷◌, Some, None, Contains}
use Rattle.std.specs.Fmt.{decimal}
use Rattle.std.proofs.Common.{rules, arith, refl, ap, sym, subst, ◌∙◌, inl, inr}
use Rattle.sw_lists.proofs.Members.{contains_none, contains_cons}
use Rattle.sw_logic.specs.declared.syntax.SymbolKind.TheVariants.{Relation}
use Rattle.sw_logic.specs.declared.syntax.Symbol.{Symbol}
use Rattle.sw_logic.specs.declared.syntax.Term.{Term, the_lemmas as term_lemmas}
use Rattle.sw_logic.specs.declared.syntax.Term.TheVariants.{Variable, Apply}
use Rattle.sw_logic.specs.declared.syntax.Formula.{Formula, the_lemmas}
use Rattle.sw_logic.specs.declared.syntax.Formula.TheVariants.{Holds, Exists, ForAll, Not}
use Rattle.sw_logic.specs.declared.query.Query.{Query}
use Rattle.sw_truth.specs.declared.sets.Piece.{Piece}
use Rattle.sw_truth.specs.declared.sets.SkolemSet.{SkolemSet}
use Rattle.sw_universe.specs.Sizes.{size_of_set}
use Rattle.sw_skolem.specs.Skolem.{fresh_constant, skolem_of}
use Rattle.sw_decide.specs.Decision.{size_of_query, IsPast}
use Rattle.sw_decide.specs.Known.{IsWithin}
use Rattle.sw_meaning.specs.declared.protocol.Protocol.{Protocol}
use Rattle.sw_meaning.specs.declared.template.Template.{Template}
use Rattle.sw_queries.specs.Queries.{start_query_of, follow_query_of, safety_start_query_of}
use Rattle.sw_run.specs.Ending.{Names}
use Rattle.sw_completeness.specs.Laws.{KeepsLimits}
use Rattle.sw_completeness.specs.Worst.{all_formulas, IsAskedUnder, WorstIsWithin}

-- one sort and a relation of it
abbrev p : Symbol
p = record { name = []; kind = Relation; args = 0 ∷ []; gives = 0; mutable = true }

abbrev every : Formula
every = ForAll (record { name = []; sort = 0 } ∷ []) (Holds 0 false (Variable 0 ∷ []))

abbrev some : Formula
some = Exists (record { name = []; sort = 0 } ∷ []) (Holds 0 false (Variable 0 ∷ []))

-- each element has it at the start, and some element is to have it
abbrev small : Protocol
small = record { signature = record { sorts = [] ∷ []; symbols = p ∷ [] }; axioms = []; inits = every ∷ []; transitions = []; safeties = some ∷ []; order = [] }

-- one literal of one variable
abbrev short : Template
short = record { prefix = record { universal = true; count = 1; sort = 0 } ∷ []; literals = 1; depth = 1; terms = 0 }

-- "forall X. p(X)" and "forall X. !p(X)"
abbrev holds : Formula
holds = ForAll (record { name = 95 ∷ decimal 1; sort = 0 } ∷ []) (Holds 0 false (Variable 0 ∷ []))

abbrev fails : Formula
fails = ForAll (record { name = 95 ∷ decimal 1; sort = 0 } ∷ []) (Not (Holds 0 false (Variable 0 ∷ [])))

all_are : all_formulas small (Some short) ≡ holds ∷ fails ∷ []
all_are = refl

few : (q : Query) (n : ℕ) → n ≤ 100 → size_of_query q ≡ record { terms = 1; instances = n } → IsWithin q
few q n most is past = no_more (subst IsPast is past)
  where
    no_more : IsPast (record { terms = 1; instances = n }) → ⊥
    no_more (inl over) = absurd (omega arith)
    no_more (inr over) = absurd (omega arith)

-- ---- the queries

-- the symbols of each: a constant besides the relation
abbrev with_constant : List Piece → SkolemSet
with_constant pieces = record { signature = record { sorts = [] ∷ []; symbols = p ∷ fresh_constant 0 ∷ [] }; added = 1; pieces = pieces }

-- what is to hold of each element, or of the constant
abbrev of_each : Formula → Piece
of_each f = record { vars = 0 ∷ []; matrix = f }

abbrev of_one : Formula → Piece
of_one f = record { vars = []; matrix = f }

abbrev at : Term → Formula
at t = Holds 0 false (t ∷ [])

safety_set : skolem_of (safety_start_query_of small) ≡ with_constant (of_each (at (Variable 0)) ∷ of_each (Not (at (Variable 0))) ∷ [])
safety_set = search (rules, the_lemmas, term_lemmas)

-- an instance of each piece, 3 of equality and one of congruence
safety : IsWithin (safety_start_query_of small)
safety = few (safety_start_query_of small) 6 (omega arith) (ap size_of_set safety_set ∙ refl)

start_holds_set : skolem_of (start_query_of small holds) ≡ with_constant (of_each (at (Variable 0)) ∷ of_one (Not (at (Apply 1 false []))) ∷ [])
start_holds_set = search (rules, the_lemmas, term_lemmas)

start_fails_set : skolem_of (start_query_of small fails) ≡ with_constant (of_each (at (Variable 0)) ∷ of_one (at (Apply 1 false [])) ∷ [])
start_fails_set = search (rules, the_lemmas, term_lemmas)

start_holds : IsWithin (start_query_of small holds)
start_holds = few (start_query_of small holds) 6 (omega arith) (ap size_of_set start_holds_set ∙ refl)

start_fails : IsWithin (start_query_of small fails)
start_fails = few (start_query_of small fails) 6 (omega arith) (ap size_of_set start_fails_set ∙ refl)

abbrev both : List Formula
both = holds ∷ fails ∷ []

follow_holds_set : skolem_of (follow_query_of small both holds)
    ≡ with_constant (of_each (at (Variable 0)) ∷ of_each (Not (at (Variable 0))) ∷ of_one (Not (at (Apply 1 false []))) ∷ [])
follow_holds_set = search (rules, the_lemmas, term_lemmas)

follow_fails_set : skolem_of (follow_query_of small both fails)
    ≡ with_constant (of_each (at (Variable 0)) ∷ of_each (Not (at (Variable 0))) ∷ of_one (at (Apply 1 false [])) ∷ [])
follow_fails_set = search (rules, the_lemmas, term_lemmas)

follow_holds : IsWithin (follow_query_of small both holds)
follow_holds = few (follow_query_of small both holds) 7 (omega arith) (ap size_of_set follow_holds_set ∙ refl)

follow_fails : IsWithin (follow_query_of small both fails)
follow_fails = few (follow_query_of small both fails) 7 (omega arith) (ap size_of_set follow_fails_set ∙ refl)

-- ---- within the limits

second_of : (P : Formula → Type 0) → P fails → (f : Formula) → (f ≡ fails) ⊎ Contains [] f → P f
second_of P b f (inl is) = subst P (sym is) b
second_of P b f (inr none) = absurd (contains_none f none)

first_of : (P : Formula → Type 0) → P holds → P fails → (f : Formula) → (f ≡ holds) ⊎ Contains (fails ∷ []) f → P f
first_of P a b f (inl is) = subst P (sym is) a
first_of P a b f (inr rest) = second_of P b f (contains_cons fails [] f rest)

either_of : (P : Formula → Type 0) → P holds → P fails → (f : Formula) → Contains (all_formulas small (Some short)) f → P f
either_of P a b f among = first_of P a b f (contains_cons holds (fails ∷ []) f (subst (λ all. Contains all f) all_are among))

worst_is_within : WorstIsWithin small (Some short) None
worst_is_within q (IsAskedUnder.start f among is) = subst IsWithin (sym is) (either_of (λ f. IsWithin (start_query_of small f)) start_holds start_fails f among)
worst_is_within q (IsAskedUnder.follow f among is) =
    subst IsWithin (sym is) (either_of (λ f. IsWithin (follow_query_of small (all_formulas small (Some short)) f)) follow_holds follow_fails f among)
worst_is_within q (IsAskedUnder.step f m among of is) = absurd (contains_none m of)
worst_is_within q (IsAskedUnder.safety_start is) = subst IsWithin (sym is) safety
worst_is_within q (IsAskedUnder.safety_step m of is) = absurd (contains_none m of)
worst_is_within q (IsAskedUnder.finish_start f among is) = absurd (contains_none f among)
worst_is_within q (IsAskedUnder.join f m among of is) = absurd (contains_none f among)

-- without templates the one query is of safety at the start
plain_is_within : WorstIsWithin small None None
plain_is_within q (IsAskedUnder.start f among is) = absurd (contains_none f among)
plain_is_within q (IsAskedUnder.follow f among is) = absurd (contains_none f among)
plain_is_within q (IsAskedUnder.step f m among of is) = absurd (contains_none f among)
plain_is_within q (IsAskedUnder.safety_start is) = subst IsWithin (sym is) safety
plain_is_within q (IsAskedUnder.safety_step m of is) = absurd (contains_none m of)
plain_is_within q (IsAskedUnder.finish_start f among is) = absurd (contains_none f among)
plain_is_within q (IsAskedUnder.join f m among of is) = absurd (contains_none f among)

-- so a search without templates is within the limits, by any number of workers
keeps_limits : (workers : ℕ) → KeepsLimits (record { breadth = None; finish = None; workers = workers; conflicts = None }) small None None
keeps_limits workers = record { named = record { breadth = Names.without refl refl; finish = Names.without refl refl }; sizes = plain_is_within; budget = λ q may. tt }
