-- Rules that are broken, in order, and what names make of a tree, one step down.
use Rattle.std.proofs.Common.{◌≡◌, ℕ, zero, suc, ◌+◌, ◌<◌, Bool, true, false, List, [], ◌∷◌, ◌++◌, length, map, take, drop, get_or, Option, Some, None, rules, refl, sym, ap, ◌∙◌}
use Rattle.std.proofs.Math.Numerals.{add-one}
use Rattle.std.proofs.lemmas.List.{take_more, map-append, at_drop_more}
use Rattle.sw_trees.specs.declared.words.Word.{Word}
use Rattle.std.specs.Prelude.{◌||◌}
use Rattle.sw_trees.specs.declared.tree.Binder.{Binder}
use Rattle.sw_trees.specs.declared.tree.TermTree as trees
use Rattle.sw_trees.specs.declared.tree.TermTree.{TermTree}
use Rattle.sw_trees.specs.declared.tree.TermTree.TheVariants as term
use Rattle.sw_text.specs.declared.names.Rule.{Rule}
use Rattle.sw_text.specs.declared.names.Violation.{Violation}
use Rattle.sw_text.specs.declared.names.Wanted.{Wanted}
use Rattle.sw_text.specs.Names.{Around, Scope, bytes_at, is_declared, is_some_number, is_none, variable_number, sort_number, binder_faults, broken, next_wanted, args_faults, term_faults, term_read}
use Rattle.sw_text.specs.Resolving.{first_rule, applied_faults, applied_read}

-- these violations begin with this one
abbrev pub Begins : List Violation → Violation → Type 0
Begins all v = (rest : List Violation) × (all ≡ v ∷ rest)

pub broken_first : (at : ℕ) (tests : List (Bool × Rule)) (rule : Rule) → first_rule tests ≡ Some rule → Begins (broken at tests) (record { rule = rule; at = at })
broken_first at [] rule e = cc
broken_first at ((true, r) ∷ rest) rule e = let same : r ≡ rule = cc in (broken at rest, ap (λ (s : Rule). record { rule = s; at = at } ∷ broken at rest) same)
broken_first at ((false, r) ∷ rest) rule e = broken_first at rest rule e

-- what begins the front begins all
pub begins_front : (all front back : List Violation) (v : Violation) → all ≡ front ++ back → Begins front v → Begins all v
begins_front all front back v e h = (h.0 ++ back, e ∙ ap (λ (vs : List Violation). vs ++ back) h.1)

-- where nothing in front is broken, what begins the rest begins all
pub begins_back : (all front back : List Violation) (v : Violation) → all ≡ front ++ back → front ≡ [] → Begins back v → Begins all v
begins_back all front back v e n h = (h.0, e ∙ ap (λ (vs : List Violation). vs ++ back) n ∙ h.1)

drop_one : (i : ℕ) (ss : List ℕ) → drop 1 (drop i ss) ≡ drop (i + 1) ss
drop_one zero ss = refl
drop_one (suc i) [] = rw add-one refl
drop_one (suc i) (s ∷ ss) = drop_one i ss ∙ sym (ap (λ (n : ℕ). drop n (s ∷ ss)) (add-one (suc i)) ∙ ap (λ (n : ℕ). drop n ss) (sym (add-one i)))

-- one test that holds, and one that does not
pub test_first : (at : ℕ) (rule : Rule) (t : Bool) (back : List Violation) → t ≡ true → Begins (broken at ((t, rule) ∷ []) ++ back) (record { rule = rule; at = at })
test_first at rule true back e = (back, refl)
test_first at rule false back e = cc

pub test_passes : (at : ℕ) (rule : Rule) (t : Bool) (back : List Violation) → t ≡ false → broken at ((t, rule) ∷ []) ++ back ≡ back
test_passes at rule true back e = cc
test_passes at rule false back e = refl

module _ (a : Around) (scope : Scope) where
  pub term_faults_of : (w : Word) (p : Bool) (args : List TermTree) (wanted : Wanted) → term_faults a scope (term.Applied w p args) wanted ≡ applied_faults a scope w p args wanted
  term_faults_of w p args wanted = search (rules, trees.the_lemmas)

  pub term_read_of : (w : Word) (p : Bool) (args : List TermTree) → term_read a scope (term.Applied w p args) ≡ applied_read a scope w p args
  term_read_of w p args = search (rules, trees.the_lemmas)

  -- one argument on
  pub args_faults_more : (args : List TermTree) (sorts : List ℕ) (i : ℕ) (d : TermTree) → i < length args →
      args_faults (map (term_faults a scope) (drop i args)) (drop i sorts) ≡ term_faults a scope (get_or args i d) (next_wanted (drop i sorts)) ++ args_faults (map (term_faults a scope) (drop (i + 1) args)) (drop (i + 1) sorts)
  args_faults_more args sorts i d h =
      at_drop_more (λ (ts : List TermTree). args_faults (map (term_faults a scope) ts) (drop i sorts)) args i d h
      ∙ ap (λ (ss : List ℕ). term_faults a scope (get_or args i d) (next_wanted (drop i sorts)) ++ args_faults (map (term_faults a scope) (drop (i + 1) args)) ss) (drop_one i sorts)

  pub terms_read_more : (args : List TermTree) (i : ℕ) (d : TermTree) → i < length args → map (term_read a scope) (take (i + 1) args) ≡ map (term_read a scope) (take i args) ++ term_read a scope (get_or args i d) ∷ []
  terms_read_more args i d h = ap (map (term_read a scope)) (take_more args i d h) ∙ map-append (term_read a scope) (take i args) (get_or args i d ∷ [])

  pub bind_twice : (b : Binder) (name : List ℕ) → name ≡ bytes_at a.text b.name → (is_declared a name || is_some_number (variable_number scope name)) ≡ true → Begins (binder_faults a scope b) (record { rule = Rule.Twice; at = b.name.token.at })
  bind_twice b name n e =
      test_first b.name.token.at Rule.Twice _ (broken b.sort.token.at ((is_none (sort_number a (bytes_at a.text b.sort)), Rule.Unknown) ∷ []))
      (ap (λ (m : List ℕ). is_declared a m || is_some_number (variable_number scope m)) (sym n) ∙ e)

  pub bind_unknown : (b : Binder) (name sort : List ℕ) → name ≡ bytes_at a.text b.name → sort ≡ bytes_at a.text b.sort → (is_declared a name || is_some_number (variable_number scope name)) ≡ false → sort_number a sort ≡ None →
      Begins (binder_faults a scope b) (record { rule = Rule.Unknown; at = b.sort.token.at })
  bind_unknown b name sort n s e u =
      let passed = test_passes b.name.token.at Rule.Twice _ (broken b.sort.token.at ((is_none (sort_number a (bytes_at a.text b.sort)), Rule.Unknown) ∷ [])) (ap (λ (m : List ℕ). is_declared a m || is_some_number (variable_number scope m)) (sym n) ∙ e) in
      ([], passed ∙ ap (λ (o : Option ℕ). broken b.sort.token.at ((is_none o, Rule.Unknown) ∷ [])) (ap (sort_number a) (sym s) ∙ u))
