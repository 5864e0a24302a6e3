-- Which variables and symbols a term or a formula has, and terms in the place of variables.
use Rattle.std.specs.Prelude.{ℕ, Bool, true, false, ◌==◌, ◌||◌, ◌&&◌, List, map, unwrap_or, slice_get}
use Rattle.std.specs.List.{list_all, list_any, range_with_len}
use Rattle.sw_logic.specs.declared.syntax.Term.{Term}
use Rattle.sw_logic.specs.declared.syntax.Term.TheVariants.{Variable, Apply}
use Rattle.sw_logic.specs.declared.syntax.Term.TheOpen.{Term-F}
use Rattle.sw_logic.specs.declared.syntax.Term.TheFolds.{fold-Term}
use Rattle.sw_logic.specs.declared.syntax.Formula.{Formula}
use Rattle.sw_logic.specs.declared.syntax.Formula.TheVariants.{True, False, Holds, Equal, Not, All, Any, Implies, Iff, ForAll, Exists}
use Rattle.sw_logic.specs.declared.syntax.Formula.TheOpen.{Formula-F}
use Rattle.sw_logic.specs.declared.syntax.Formula.TheFolds.{fold-Formula}

-- whether a variable occurs in a term
abbrev pub has_step : ℕ → Term-F Bool → Bool
has_step x (Term-F.Variable v) = v == x
has_step x (Term-F.Apply symbol post args) = list_any (λ b. b) args

abbrev pub has : ℕ → Term → Bool
has x = fold-Term Bool (has_step x)

-- whether a variable occurs in a formula
abbrev pub occurs_step : ℕ → Formula-F Bool → Bool
occurs_step x Formula-F.True = false
occurs_step x Formula-F.False = false
occurs_step x (Formula-F.Holds symbol post args) = list_any (has x) args
occurs_step x (Formula-F.Equal a b) = has x a || has x b
occurs_step x (Formula-F.Not p) = p
occurs_step x (Formula-F.All ps) = list_any (λ p. p) ps
occurs_step x (Formula-F.Any ps) = list_any (λ p. p) ps
occurs_step x (Formula-F.Implies p q) = p || q
occurs_step x (Formula-F.Iff p q) = p || q
occurs_step x (Formula-F.ForAll binders p) = p
occurs_step x (Formula-F.Exists binders p) = p

abbrev pub occurs : ℕ → Formula → Bool
occurs x = fold-Formula Bool (occurs_step x)

-- a term with terms in the place of its variables
abbrev pub put_step : List Term → Term-F Term → Term
put_step terms (Term-F.Variable v) = unwrap_or (slice_get terms v) (Variable v)
put_step terms (Term-F.Apply symbol post args) = Apply symbol post args

abbrev pub put : List Term → Term → Term
put terms = fold-Term Term (put_step terms)

-- the variables from one on, so many
abbrev pub variables : ℕ → ℕ → List Term
variables from count = map Variable (range_with_len from count)

-- a formula without quantifiers, with terms in the place of its variables
abbrev pub with_step : List Term → Formula-F Formula → Formula
with_step terms Formula-F.True = True
with_step terms Formula-F.False = False
with_step terms (Formula-F.Holds symbol post args) = Holds symbol post (map (put terms) args)
with_step terms (Formula-F.Equal a b) = Equal (put terms a) (put terms b)
with_step terms (Formula-F.Not p) = Not p
with_step terms (Formula-F.All ps) = All ps
with_step terms (Formula-F.Any ps) = Any ps
with_step terms (Formula-F.Implies p q) = Implies p q
with_step terms (Formula-F.Iff p q) = Iff p q
with_step terms (Formula-F.ForAll binders p) = ForAll binders p
with_step terms (Formula-F.Exists binders p) = Exists binders p

abbrev pub with_terms : List Term → Formula → Formula
with_terms terms = fold-Formula Formula (with_step terms)

-- whether every symbol that a term or a formula reads passes, each with whether it has a prime
abbrev pub term_reads_step : (ℕ → Bool → Bool) → Term-F Bool → Bool
term_reads_step pass (Term-F.Variable v) = true
term_reads_step pass (Term-F.Apply symbol post args) = pass symbol post && list_all (λ b. b) args

abbrev pub term_reads : (ℕ → Bool → Bool) → Term → Bool
term_reads pass = fold-Term Bool (term_reads_step pass)

abbrev pub reads_step : (ℕ → Bool → Bool) → Formula-F Bool → Bool
reads_step pass Formula-F.True = true
reads_step pass Formula-F.False = true
reads_step pass (Formula-F.Holds symbol post args) = pass symbol post && list_all (term_reads pass) args
reads_step pass (Formula-F.Equal a b) = term_reads pass a && term_reads pass b
reads_step pass (Formula-F.Not p) = p
reads_step pass (Formula-F.All ps) = list_all (λ p. p) ps
reads_step pass (Formula-F.Any ps) = list_all (λ p. p) ps
reads_step pass (Formula-F.Implies p q) = p && q
reads_step pass (Formula-F.Iff p q) = p && q
reads_step pass (Formula-F.ForAll binders p) = p
reads_step pass (Formula-F.Exists binders p) = p

abbrev pub reads : (ℕ → Bool → Bool) → Formula → Bool
reads pass = fold-Formula Bool (reads_step pass)
