-- The Skolem form of a query's sentences: existential variables become symbols.
use Rattle.std.specs.Prelude.{ℕ, ◌+◌, Bool, true, false, ◌&&◌, ◌||◌, List, [], ◌∷◌, ◌++◌, map, length, slice_index}
use Rattle.std.specs.List.{list_any, filter, range_with_len, enumerate_from, flat_map}
use Rattle.sw_logic.specs.declared.syntax.SymbolKind.{SymbolKind}
use Rattle.sw_logic.specs.declared.syntax.SymbolKind.TheVariants.{Constant, Function}
use Rattle.sw_logic.specs.declared.syntax.Symbol.{Symbol}
use Rattle.sw_logic.specs.declared.syntax.Signature.{Signature}
use Rattle.sw_logic.specs.declared.syntax.Binder.{Binder}
use Rattle.sw_logic.specs.declared.syntax.Term.{Term}
use Rattle.sw_logic.specs.declared.syntax.Term.TheVariants.{Variable, Apply}
use Rattle.sw_logic.specs.declared.syntax.Formula.{Formula}
use Rattle.sw_logic.specs.declared.syntax.Formula.TheVariants.{True, False, Holds, Equal, Not, All, Any, ForAll}
use Rattle.sw_logic.specs.declared.syntax.Formula.TheOpen.{Formula-F}
use Rattle.sw_logic.specs.declared.syntax.Formula.TheFolds.{fold-Formula}
use Rattle.sw_logic.specs.declared.query.Query.{Query}
use Rattle.sw_truth.specs.declared.sets.SkolemSet.{SkolemSet}
use Rattle.sw_logic.specs.Terms.{has, put, variables}
use Rattle.sw_skolem.specs.Normal.{nnf_of}
use Rattle.sw_skolem.specs.Pieces.{pieces_of}
use Rattle.sw_truth.specs.Models.{is_bare}

-- a formula without existential quantifiers, and the Skolem symbols so far
pub record Form : Type 0 where
  pub formula : Formula
  pub made : List Symbol

pub record Forms : Type 0 where
  pub formulas : List Formula
  pub made : List Symbol

-- a part: which variables occur in it, and its Skolem form where the variables in scope are these terms over universal
-- variables of these sorts, after the Skolem symbols so far
pub record Part : Type 0 where
  pub occurs : ℕ → Bool
  pub form : List Term → List ℕ → List Symbol → Form

-- the universal variables that occur in a part, with the terms in the place of its variables
abbrev pub universals : (ℕ → Bool) → List Term → ℕ → List ℕ
universals occurs terms count =
    filter (λ u. list_any (λ t. occurs t.0 && has u t.1) (enumerate_from 0 terms)) (range_with_len 0 count)

abbrev pub kind_by : List ℕ → SymbolKind
kind_by [] = Constant
kind_by (u ∷ us) = Function

-- a new symbol, without a name: a constant, or a function of these universal variables
abbrev pub skolem_symbol : List ℕ → List ℕ → Binder → Symbol
skolem_symbol sorts us b = record { name = []; kind = kind_by us; args = map (slice_index sorts) us; gives = b.sort; mutable = false }

abbrev pub skolem_terms : List ℕ → ℕ → ℕ → List Term
skolem_terms us from count = map (λ symbol. Apply symbol false (map Variable us)) (range_with_len from count)

abbrev pub form : Formula → List Symbol → Form
form f made = record { formula = f; made = made }

abbrev pub negated : Form → Form
negated f = form (Not f.formula) f.made

abbrev pub quantified : List Binder → Form → Form
quantified binders f = form (ForAll binders f.formula) f.made

abbrev pub conjoined : Forms → Form
conjoined fs = form (All fs.formulas) fs.made

abbrev pub disjoined : Forms → Form
disjoined fs = form (Any fs.formulas) fs.made

abbrev pub before : Form → Forms → Forms
before f fs = record { formulas = f.formula ∷ fs.formulas; made = fs.made }

-- the parts from left to right
abbrev pub forms : List Part → List Term → List ℕ → List Symbol → Forms
forms [] terms sorts made = record { formulas = []; made = made }
forms (p ∷ ps) terms sorts made = before (p.form terms sorts made) (forms ps terms sorts (p.form terms sorts made).made)

-- the part below an existential quantifier, with `base` symbols in the query's signature
abbrev pub below : ℕ → List Binder → Part → List ℕ → List Term → List ℕ → List Symbol → Form
below base binders p us terms sorts made =
    p.form (terms ++ skolem_terms us (base + length made) (length binders)) sorts (made ++ map (skolem_symbol sorts us) binders)

-- a constant
abbrev pub kept : Formula → Part
kept f = record { occurs = λ x. false; form = λ terms sorts made. form f made }

abbrev pub part_step : ℕ → Formula-F Part → Part
part_step base Formula-F.True = kept True
part_step base Formula-F.False = kept False
part_step base (Formula-F.Holds symbol post args) = record {
  occurs = λ x. list_any (has x) args;
  form = λ terms sorts made. form (Holds symbol post (map (put terms) args)) made;
}
part_step base (Formula-F.Equal a b) = record {
  occurs = λ x. has x a || has x b;
  form = λ terms sorts made. form (Equal (put terms a) (put terms b)) made;
}
part_step base (Formula-F.Not p) = record { occurs = p.occurs; form = λ terms sorts made. negated (p.form terms sorts made) }
part_step base (Formula-F.All ps) = record {
  occurs = λ x. list_any (λ p. p.occurs x) ps;
  form = λ terms sorts made. conjoined (forms ps terms sorts made);
}
part_step base (Formula-F.Any ps) = record {
  occurs = λ x. list_any (λ p. p.occurs x) ps;
  form = λ terms sorts made. disjoined (forms ps terms sorts made);
}
part_step base (Formula-F.Implies p q) = record { occurs = λ x. p.occurs x || q.occurs x; form = λ terms sorts made. form True made }
part_step base (Formula-F.Iff p q) = record { occurs = λ x. p.occurs x || q.occurs x; form = λ terms sorts made. form True made }
part_step base (Formula-F.ForAll binders p) = record {
  occurs = p.occurs;
  form = λ terms sorts made.
      quantified binders (p.form (terms ++ variables (length sorts) (length binders)) (sorts ++ map (λ b. b.sort) binders) made);
}
part_step base (Formula-F.Exists binders p) = record {
  occurs = p.occurs;
  form = λ terms sorts made. below base binders p (universals p.occurs terms (length sorts)) terms sorts made;
}

abbrev pub part_of : ℕ → Formula → Part
part_of base = fold-Formula Part (part_step base)

-- the sentences in negation normal form
abbrev pub normal_sentences : Query → List Formula
normal_sentences q = map (λ f. nnf_of f true) q.sentences

-- the sentences' Skolem forms, and all Skolem symbols
abbrev pub forms_of : Query → Forms
forms_of q = forms (map (part_of (length q.signature.symbols)) (normal_sentences q)) [] [] []

abbrev pub fresh_constant : ℕ → Symbol
fresh_constant sort = skolem_symbol [] [] (record { name = []; sort = sort })

-- a fresh constant for each sort that would have no ground term
abbrev pub fresh_constants : ℕ → List Symbol → List Symbol
fresh_constants sorts symbols = map fresh_constant (filter (is_bare symbols) (range_with_len 0 sorts))

-- the symbols that a query's Skolem form has besides the query's
abbrev pub added_of : Query → List Symbol
added_of q = (forms_of q).made ++ fresh_constants (length q.signature.sorts) (q.signature.symbols ++ (forms_of q).made)

abbrev pub with_symbols : Signature → List Symbol → Signature
with_symbols sig more = record { sorts = sig.sorts; symbols = sig.symbols ++ more }

abbrev pub skolem_of : Query → SkolemSet
skolem_of q = record {
  signature = with_symbols q.signature (added_of q);
  added = length (added_of q);
  pieces = flat_map (pieces_of 0) (forms_of q).formulas;
}
