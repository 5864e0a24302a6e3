-- What the functions that look names up answer.
use Rattle.std.specs.Prelude.{◌≡◌, Bool, true, false, List, [], ◌∷◌, ◌++◌, length, map, Option, Some, None}
use Rattle.sw_text.specs.declared.names.Names.{Names}
use Rattle.sw_text.specs.declared.names.Rule.{Rule}
use Rattle.sw_text.specs.declared.names.Violation.{Violation}
use Rattle.sw_text.specs.declared.resolve.Resolved.{Resolved}
use Rattle.sw_logic.specs.declared.syntax.Binder.{Binder}
use Rattle.sw_logic.specs.declared.syntax.Term.{Term}
use Rattle.sw_trees.specs.declared.words.Word.{Word}
use Rattle.std.specs.List.{flat_map}
use Rattle.sw_logic.specs.declared.syntax.Formula.{Formula}
use Rattle.sw_trees.specs.declared.tree.Binder as trees
use Rattle.sw_trees.specs.declared.tree.Tree.{Tree}
use Rattle.sw_trees.specs.declared.tree.TermTree.{TermTree}
use Rattle.sw_text.specs.declared.names.Wanted.{Wanted}
use Rattle.sw_text.specs.Names.{Around, head_faults, head_of, head_sorts, args_faults, term_faults, term_read, term_by, right_wanted, faults, formula_read, binders_faults, bound, quantified}

abbrev pub around : Names → Around
around n = record { text = n.text.now; signature = n.signature.now; declared_too = n.declared_too.now; place = n.place.now }

-- the first rule whose test holds
abbrev pub first_rule : List (Bool × Rule) → Option Rule
first_rule [] = None
first_rule ((true, rule) ∷ rest) = Some rule
first_rule ((false, rule) ∷ rest) = first_rule rest

-- the value, where nothing is broken; or the first rule that is
abbrev pub Finds : {X : Type 0} → List Violation → X → Resolved X → Type 0
Finds all x (Resolved.Found y) = (all ≡ []) × (y ≡ x)
Finds all x (Resolved.Broken v) = (rest : List Violation) × (all ≡ v ∷ rest)

-- what a name and arguments break, and the term that they are
abbrev pub applied_faults : Around → List Binder → Word → Bool → List TermTree → Wanted → List Violation
applied_faults a scope w primed args wanted =
    let found = map (term_faults a scope) args in head_faults a scope w primed (length found) wanted ++ args_faults found (head_sorts a (head_of a scope w))

abbrev pub applied_read : Around → List Binder → Word → Bool → List TermTree → Term
applied_read a scope w primed args = term_by (head_of a scope w) primed (map (term_read a scope) args)

-- what an equation breaks
abbrev pub equal_faults : Around → List Binder → TermTree → TermTree → List Violation
equal_faults a scope t u = term_faults a scope t Wanted.Value ++ term_faults a scope u (right_wanted a scope t)

-- the scope that there is now, where nothing is broken; or the first rule that is
abbrev pub BindsTo : List Violation → List Binder → List Binder → Option Violation → Type 0
BindsTo all wanted now None = (all ≡ []) × (now ≡ wanted)
BindsTo all wanted now (Some v) = (rest : List Violation) × (all ≡ v ∷ rest)

-- the value, and the scope as before, where nothing is broken; or the first rule that is
abbrev pub FindsIn : {X : Type 0} → List Violation → X → List Binder → List Binder → Resolved X → Type 0
FindsIn all x old new (Resolved.Found y) = (all ≡ []) × (y ≡ x) × (new ≡ old)
FindsIn all x old new (Resolved.Broken v) = (rest : List Violation) × (all ≡ v ∷ rest)

-- what formulas break together, and what each of them is
abbrev pub all_faults : Around → List Tree → List Binder → List Violation
all_faults a trees scope = flat_map (λ (p : List Binder → List Violation). p scope) (map (faults a) trees)

abbrev pub all_read : Around → List Tree → List Binder → List Formula
all_read a trees scope = map (λ (p : List Binder → Formula). p scope) (map (formula_read a) trees)

-- what a quantified formula breaks, and what it is
abbrev pub body_faults : Around → List trees.Binder → Tree → List Binder → List Violation
body_faults a bs p scope = binders_faults a scope bs ++ faults a p (scope ++ map (bound a) bs)

abbrev pub body_read : Around → Bool → List trees.Binder → Tree → List Binder → Formula
body_read a u bs p scope = let vs = map (bound a) bs in quantified u vs (formula_read a p (scope ++ vs))
