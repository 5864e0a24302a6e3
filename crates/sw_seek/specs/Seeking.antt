-- What a worker that looks for a class that joins answers, and why it may end without an answer.
use Rattle.std.specs.Prelude.{◌≡◌, ℕ, ◌≤◌, List, [], ◌∷◌, ◌++◌, length, Option, IfSome, Contains}
use Rattle.std.specs.List.{flat_map}
use Rattle.sw_logic.specs.declared.syntax.Formula.{Formula}
use Rattle.sw_logic.specs.declared.query.Query.{Query}
use Rattle.sw_meaning.specs.declared.protocol.Protocol.{Protocol}
use Rattle.sw_meaning.specs.declared.template.Template.{Template}
use Rattle.sw_meaning.specs.Classes.{parts, formula_of}
use Rattle.sw_meaning.specs.Verdict.{Joins}
use Rattle.sw_meaning.specs.WellFormed.{IsWellFormed}
use Rattle.sw_template.specs.Bodies.{Class}
use Rattle.sw_filter.specs.Filters.{AreNarrow}
use Rattle.sw_examine.specs.Answers.{CanAsk, IsSpentBy, IsTooLargeBy}
use Rattle.sw_examine.specs.declared.examining.QueryName.{QueryName}
use Rattle.sw_truth.specs.declared.instances.Refutation.{Refutation}
use Rattle.sw_join.specs.Joining.{IsAsked, IsJoined}
use Rattle.sw_claims.specs.declared.rule.ClaimView.{ClaimView}
use Rattle.sw_claims.specs.ClaimsRule.{opened}
use Rattle.sw_pool.specs.declared.pool.Pool.{Pool}
use Rattle.sw_core.specs.Machine.{Search, formula_in, parts_in}
use Rattle.sw_walk.specs.Parts.{part_at, all_classes, class_of, IsClass}
use Rattle.sw_hand.specs.Hands.{IsHanded}
use Rattle.sw_hand.specs.Seats.{HasDrawn, HasStopped}
use Rattle.sw_seek.specs.declared.errors.FinishError.{FinishError}
use Rattle.sw_seek.specs.declared.errors.FinishError.TheVariants.{Memory, Spent, TooLarge}
use Rattle.sw_seek.specs.declared.seeking.Sought.{Sought}
use Rattle.sw_seek.specs.declared.seeking.Sought.TheVariants.{Joins as FoundJoining, Done, Stopped}

-- the parts and formulas of a space are those of the template, and its classes can be asked about under the entries
pub record CanFinish (p : Protocol) (t : Template) (ps : List (List (List ℕ))) (Has : Class → Type 0) (formula : Class → Formula) (g : List Formula) (budget : Option ℕ) : Type 0 where
  pub well_formed : IsWellFormed p
  pub are_parts : ps ≡ parts p.signature t
  pub has : (c : List ℕ) → Contains (all_classes ps) c → Has (class_of c)
  pub formulas : (c : List ℕ) → Contains (all_classes ps) c → formula (class_of c) ≡ formula_of p.signature t c
  pub few : AreNarrow g
  pub ask : (c : List ℕ) → Contains (all_classes ps) c → CanAsk p g (formula_of p.signature t c)
  pub some : IfSome budget (λ most. 1 ≤ most)

-- none of these classes joins
abbrev pub NoneJoins : Protocol → Template → List Formula → List (List ℕ) → Type 0
NoneJoins p t g cs = (c : List ℕ) → Contains cs c → Joins p g (formula_of p.signature t c) → ⊥

-- the first of these classes that joins
pub record IsFirstJoined (p : Protocol) (t : Template) (g : List Formula) (cs : List (List ℕ)) (c : List ℕ) : Type 0 where
  pub before : List (List ℕ)
  pub after : List (List ℕ)
  pub at : cs ≡ before ++ c ∷ after
  pub none : NoneJoins p t g before
  pub joins : Joins p g (formula_of p.signature t c)

-- the class is of the last part that was drawn, joins, and is the first that does in the parts drawn; a reason was seen
pub record HasFound (m : Search) (g : List Formula) (budget : Option ℕ) (c d : ClaimView) (body : Class) (r : Refutation) (rs : List Refutation) : Type 0 where
  pub drawn : List ℕ
  pub last : ℕ
  pub gained : d.drawn ≡ c.drawn ++ (drawn ++ last ∷ [])
  pub seen : 1 ≤ d.seen
  pub class : IsClass (parts_in m) body
  pub first : IsFirstJoined m.protocol m.template g (flat_map (part_at (parts_in m)) (drawn ++ last ∷ [])) body.cubes
  pub among : Contains (part_at (parts_in m) last) body.cubes
  pub joined : IsJoined m.protocol g (formula_in m body.cubes) budget r rs

-- what a worker answers, by its claim seat before and after. Alone, it finds the first class in order
abbrev pub IsSought : Search → Pool → ℕ → List Formula → Option ℕ → ClaimView → ClaimView → Sought → Type 0
IsSought m pool worker g budget c d (FoundJoining body r rs) =
    HasFound m g budget c d body r rs × (c ≡ opened (length (parts_in m)) 0 → IsFirstJoined m.protocol m.template g (all_classes (parts_in m)) body.cubes)
IsSought m pool worker g budget c d (Done h) = HasDrawn c d h.drawn × IsHanded m pool worker 0 (length g) g h
IsSought m pool worker g budget c d (Stopped reason) = HasStopped c d reason × (c ≡ opened (length (parts_in m)) 0 → ⊥)

-- the query of this name of a class under the entries
pub record JoinAsked (m : Search) (g : List Formula) (name : QueryName) (Met : Query → Type 0) : Type 0 where
  pub body : Class
  pub class : IsClass (parts_in m) body
  pub query : Query
  pub asked : IsAsked m.protocol g (formula_in m body.cubes) body query name
  pub met : Met query

-- memory, or a query of a class that spent the budget or is too large
abbrev pub IsCause : Search → List Formula → Option ℕ → FinishError → Type 0
IsCause m g budget Memory = Unit {0}
IsCause m g budget (Spent name steps) = JoinAsked m g name (λ q. IsSpentBy q budget steps)
IsCause m g budget (TooLarge name size) = JoinAsked m g name (λ q. IsTooLargeBy q size)
