-- What a formula breaks and what it is, one step down.
use Rattle.std.proofs.Common.{◌≡◌, List, [], ◌∷◌, ◌++◌, length, map, take, drop, get_or, ℕ, ◌+◌, ◌<◌, rules, refl, ap, ◌∙◌}
use Rattle.std.proofs.lemmas.List.{take_more, map-append, at_drop_more}
use Rattle.sw_logic.specs.declared.syntax.Formula.{Formula}
use Rattle.sw_logic.specs.declared.syntax.Formula.TheVariants as formula
use Rattle.sw_trees.specs.declared.tree.TermTree.{TermTree}
use Rattle.sw_trees.specs.declared.tree.Tree as trees
use Rattle.sw_trees.specs.declared.tree.Tree.{Tree}
use Rattle.sw_trees.specs.declared.tree.Tree.TheVariants as tree
use Rattle.sw_text.specs.declared.names.Violation.{Violation}
use Rattle.sw_text.specs.declared.names.Wanted.TheVariants as wanted
use Rattle.sw_text.specs.declared.resolve.Resolved.{Resolved}
use Rattle.sw_text.specs.Names.{Around, Scope, term_faults, term_read, atom_read, faults, formula_read}
use Rattle.sw_text.specs.Resolving.{Finds, FindsIn, equal_faults, all_faults, all_read}

pub finds_in : {X : Type 0} (all : List Violation) (x : X) (s : Scope) (r : Resolved X) → Finds all x r → FindsIn all x s s r
finds_in all x s (Resolved.Found y) h = (h.0, h.1, refl)
finds_in all x s (Resolved.Broken v) h = h

module _ (a : Around) (scope : Scope) where
  pub faults_Atom : (t : TermTree) → faults a (tree.Atom t) scope ≡ term_faults a scope t wanted.Atom
  faults_Atom t = search (rules, trees.the_lemmas)

  pub read_Atom : (t : TermTree) → formula_read a (tree.Atom t) scope ≡ atom_read a scope t
  read_Atom t = search (rules, trees.the_lemmas)

  pub faults_Equal : (t u : TermTree) → faults a (tree.Equal t u) scope ≡ equal_faults a scope t u
  faults_Equal t u = search (rules, trees.the_lemmas)

  pub read_Equal : (t u : TermTree) → formula_read a (tree.Equal t u) scope ≡ formula.Equal (term_read a scope t) (term_read a scope u)
  read_Equal t u = search (rules, trees.the_lemmas)

  pub faults_Implies : (p q : Tree) → faults a (tree.Implies p q) scope ≡ faults a p scope ++ faults a q scope
  faults_Implies p q = search (rules, trees.the_lemmas)

  pub faults_Iff : (p q : Tree) → faults a (tree.Iff p q) scope ≡ faults a p scope ++ faults a q scope
  faults_Iff p q = search (rules, trees.the_lemmas)

  pub all_faults_more : (ts : List Tree) (i : ℕ) (d : Tree) → i < length ts → all_faults a (drop i ts) scope ≡ faults a (get_or ts i d) scope ++ all_faults a (drop (i + 1) ts) scope
  all_faults_more ts i d h = at_drop_more (λ (us : List Tree). all_faults a us scope) ts i d h

  pub all_read_more : (ts : List Tree) (i : ℕ) (d : Tree) → i < length ts → all_read a (take (i + 1) ts) scope ≡ all_read a (take i ts) scope ++ formula_read a (get_or ts i d) scope ∷ []
  all_read_more ts i d h =
      ap (λ (us : List Tree). all_read a us scope) (take_more ts i d h)
      ∙ ap (map (λ (p : Scope → Formula). p scope)) (map-append (formula_read a) (take i ts) (get_or ts i d ∷ []))
      ∙ map-append (λ (p : Scope → Formula). p scope) (map (formula_read a) (take i ts)) (map (formula_read a) (get_or ts i d ∷ []))
