-- What names that break no rule say: terms have a sort, and atoms are well sorted.
use Rattle.std.specs.Prelude.{◌≡◌, ℕ, ◌==◌, ◌&&◌, ◌||◌, not, Bool, true, false, cond, List, [], ◌∷◌, ◌++◌, length, map, Option, Some, None, option_map, slice_get, get_or}
use Rattle.std.specs.List.{position}
use Rattle.std.proofs.Common.{rules, arith, refl, sym, subst, ap, ◌∙◌}
use Rattle.std.proofs.lemmas.Bool.{false≢true}
use Rattle.std.proofs.lemmas.List.Quantifiers.{position-Some}
use Rattle.std.proofs.lemmas.Option.{slice_get-map, slice_get-get_or}
use Rattle.sw_logic.specs.declared.syntax.SymbolKind.{SymbolKind}
use Rattle.sw_logic.specs.declared.syntax.Symbol.{Symbol}
use Rattle.sw_logic.specs.declared.syntax.Binder as logic
use Rattle.sw_logic.specs.declared.syntax.Term as terms
use Rattle.sw_logic.specs.declared.syntax.Term.{Term}
use Rattle.sw_logic.specs.declared.syntax.Term.TheVariants as term
use Rattle.sw_logic.specs.declared.syntax.Formula as formulas
use Rattle.sw_logic.specs.declared.syntax.Formula.TheVariants as formula
use Rattle.sw_logic.specs.Sorted.{well_sorted, sort_of, sorts_of, sorts_match, is_atom, value_sort, gives_value}
use Rattle.sw_trees.specs.declared.words.Word.{Word}
use Rattle.sw_text.specs.declared.names.Rule.{Rule}
use Rattle.sw_text.specs.declared.names.Wanted.{Wanted}
use Rattle.sw_text.specs.declared.names.Head.{Head}
use Rattle.sw_text.specs.Names.{Around, Scope, bytes_at, variable_number, symbol_number, head_by, head_of, broken, reads_post, value_mismatch, mismatch, variable_tests, symbol_tests, head_tests, head_sorts, symbol_sorts, head_gives, symbol_gives, variable_gives, term_by, atom_by}

pub within : {X : Type 0} (p : X → Bool) (xs : List X) (i : ℕ) → position p xs ≡ Some i → (x : X) × (slice_get xs i ≡ Some x)
within p [] i e = cc
within p (x ∷ xs) i e = let h = position-Some p (x ∷ xs) i x e in (get_or (x ∷ xs) i x, slice_get-get_or (x ∷ xs) i x h.0)

pub apart : {X : Type 0} (xs ys : List X) → xs ++ ys ≡ [] → (xs ≡ []) × (ys ≡ [])
apart [] ys e = (refl, e)
apart (x ∷ xs) ys e = cc

-- no test holds
abbrev pub Passed : List (Bool × Rule) → Type 0
Passed [] = Unit {0}
Passed ((b, rule) ∷ rest) = (b ≡ false) × Passed rest

pub passed : (at : ℕ) (tests : List (Bool × Rule)) → broken at tests ≡ [] → Passed tests
passed at [] e = tt
passed at ((true, rule) ∷ rest) e = cc
passed at ((false, rule) ∷ rest) e = (refl, passed at rest e)

-- a value is wanted, and not an atom
abbrev pub IsValueWanted : Wanted → Type 0
IsValueWanted Wanted.Atom = ⊥
IsValueWanted Wanted.Value = Unit {0}
IsValueWanted (Wanted.Sort s) = Unit {0}

-- a value of this sort may stand here
abbrev pub Meets : Wanted → ℕ → Type 0
Meets Wanted.Atom sort = ⊥
Meets Wanted.Value sort = Unit {0}
Meets (Wanted.Sort s) sort = sort ≡ s

same_numbers : (m n : ℕ) → not (m == n) ≡ false → m ≡ n
same_numbers m n e = grind (arith, e)

pub number_is_itself : (n : ℕ) → (n == n) ≡ true
number_is_itself n = grind arith

meets : (wanted : Wanted) (sort : ℕ) → IsValueWanted wanted → value_mismatch wanted sort ≡ false → Meets wanted sort
meets Wanted.Atom sort w e = absurd w
meets Wanted.Value sort w e = tt
meets (Wanted.Sort s) sort w e = same_numbers sort s e

meets_symbol : (wanted : Wanted) (kind : SymbolKind) (sort : ℕ) → IsValueWanted wanted → mismatch wanted kind sort ≡ false → (gives_value kind ≡ true) × Meets wanted sort
meets_symbol Wanted.Atom kind sort w e = absurd w
meets_symbol Wanted.Value SymbolKind.Relation sort w e = cc
meets_symbol Wanted.Value SymbolKind.Constant sort w e = (refl, tt)
meets_symbol Wanted.Value SymbolKind.Function sort w e = (refl, tt)
meets_symbol (Wanted.Sort s) SymbolKind.Relation sort w e = cc
meets_symbol (Wanted.Sort s) SymbolKind.Constant sort w e = (refl, same_numbers sort s e)
meets_symbol (Wanted.Sort s) SymbolKind.Function sort w e = (refl, same_numbers sort s e)

is_relation_here : (kind : SymbolKind) (sort : ℕ) → mismatch Wanted.Atom kind sort ≡ false → gives_value kind ≡ false
is_relation_here SymbolKind.Relation sort e = refl
is_relation_here SymbolKind.Constant sort e = cc
is_relation_here SymbolKind.Function sort e = cc

-- where a prime may stand, the symbol may be read
readable : (primed post mutable : Bool) → (primed && not (post && mutable)) ≡ false → (post || not primed) ≡ true
readable true true mutable e = refl
readable true false mutable e = cc
readable false true mutable e = refl
readable false false mutable e = refl

both_true : (b c d : Bool) (n : ℕ) → b ≡ true → c ≡ true → d ≡ true → cond (b && (c && d)) (Some n) None ≡ Some n
both_true true true true n b c d = refl
both_true true true false n b c d = cc
both_true true false d n b c e = cc
both_true false c d n b e f = cc

all_true : (b c d : Bool) → b ≡ true → c ≡ false → d ≡ true → (b && (not c && d)) ≡ true
all_true true false true b c d = refl
all_true true false false b c d = cc
all_true true true d b c e = cc
all_true false c d b e f = cc

module _ (a : Around) (scope : Scope) where
  abbrev pub sorts : List ℕ
  sorts = map (λ (b : logic.Binder). b.sort) scope

  -- what a name stands for is there
  abbrev pub IsKnown : Option Head → Type 0
  IsKnown None = Unit {0}
  IsKnown (Some (Head.Variable v)) = (b : logic.Binder) × (slice_get scope v ≡ Some b)
  IsKnown (Some (Head.Symbol k)) = (s : Symbol) × (slice_get a.signature.symbols k ≡ Some s)

  known_by : (v k : Option ℕ) → ((i : ℕ) → v ≡ Some i → (b : logic.Binder) × (slice_get scope i ≡ Some b)) → ((i : ℕ) → k ≡ Some i → (s : Symbol) × (slice_get a.signature.symbols i ≡ Some s)) → IsKnown (head_by v k)
  known_by (Some v) k f g = f v refl
  known_by None (Some k) f g = g k refl
  known_by None None f g = tt

  pub known : (w : Word) → IsKnown (head_of a scope w)
  known w = known_by (variable_number scope (bytes_at a.text w)) (symbol_number a (bytes_at a.text w)) (λ i e. within _ scope i e) (λ i e. within _ a.signature.symbols i e)

  -- what a name before arguments is, where a value is wanted
  pub record IsValue (head : Option Head) (primed : Bool) (count : ℕ) (wanted : Wanted) : Type 0 where
    pub sort : ℕ
    pub count_is : length (head_sorts a head) ≡ count
    pub gives : head_gives a scope head ≡ Wanted.Sort sort
    pub meets : Meets wanted sort
    pub is : (args : List Term) → sorts_match (head_sorts a head) (sorts_of a.signature (reads_post a.place) sorts args) ≡ true → sort_of a.signature (reads_post a.place) sorts (term_by head primed args) ≡ Some sort

  variable_sort : (v : ℕ) (b : logic.Binder) → slice_get scope v ≡ Some b → sort_of a.signature (reads_post a.place) sorts (term.Variable v) ≡ Some b.sort
  variable_sort v b e =
      let step : sort_of a.signature (reads_post a.place) sorts (term.Variable v) ≡ slice_get sorts v = search (rules, terms.the_lemmas) in
      step ∙ (slice_get-map (λ (c : logic.Binder). c.sort) scope v ∙ ap (option_map (λ (c : logic.Binder). c.sort)) e)

  symbol_sort : (k : ℕ) (primed : Bool) (args : List Term) → sort_of a.signature (reads_post a.place) sorts (term.Apply k primed args) ≡ value_sort (slice_get a.signature.symbols k) (reads_post a.place || not primed) (sorts_of a.signature (reads_post a.place) sorts args)
  symbol_sort k primed args = search (rules, terms.the_lemmas)

  atom_sorted : (k : ℕ) (primed : Bool) (args : List Term) → well_sorted a.signature (reads_post a.place) (formula.Holds k primed args) sorts ≡ is_atom (slice_get a.signature.symbols k) (reads_post a.place || not primed) (sorts_of a.signature (reads_post a.place) sorts args)
  atom_sorted k primed args = search (rules, formulas.the_lemmas)

  pub is_value : (head : Option Head) → IsKnown head → (primed : Bool) (count : ℕ) (wanted : Wanted) → IsValueWanted wanted → Passed (head_tests a scope head primed count wanted) → IsValue head primed count wanted
  is_value None k primed count wanted w p = absurd (false≢true (sym p.0))
  is_value (Some (Head.Variable v)) (b, e) primed count wanted w p =
      let q : Passed (variable_tests (Some b) primed count wanted) = subst (λ (o : Option logic.Binder). Passed (variable_tests o primed count wanted)) e p in
      record {
        sort = b.sort;
        count_is = sym (same_numbers count 0 q.1.0);
        gives = ap variable_gives e;
        meets = meets wanted b.sort w q.1.1.0;
        is = λ args m. variable_sort v b e;
      }
  is_value (Some (Head.Symbol k)) (s, e) primed count wanted w p =
      let q : Passed (symbol_tests a.place k (Some s) primed count wanted) = subst (λ (o : Option Symbol). Passed (symbol_tests a.place k o primed count wanted)) e p in
      let kind = meets_symbol wanted s.kind s.gives w q.1.1.1.1.0 in
      record {
        sort = s.gives;
        count_is = ap (λ (o : Option Symbol). length (symbol_sorts o)) e ∙ sym (same_numbers count (length s.args) q.1.1.1.0);
        gives = ap symbol_gives e;
        meets = kind.1;
        is = λ args m.
            let found = sorts_of a.signature (reads_post a.place) sorts args in
            symbol_sort k primed args
            ∙ ap (λ (o : Option Symbol). value_sort o (reads_post a.place || not primed) found) e
            ∙ both_true _ _ _ s.gives (readable primed (reads_post a.place) s.mutable q.1.0) kind.0 (subst (λ (o : Option Symbol). sorts_match (symbol_sorts o) found ≡ true) e m);
      }

  -- what a name before arguments is, where an atom is wanted
  pub record IsAtomHere (head : Option Head) (primed : Bool) (count : ℕ) : Type 0 where
    pub count_is : length (head_sorts a head) ≡ count
    pub is : (args : List Term) → sorts_match (head_sorts a head) (sorts_of a.signature (reads_post a.place) sorts args) ≡ true → well_sorted a.signature (reads_post a.place) (atom_by head primed args) sorts ≡ true

  pub is_atom_here : (head : Option Head) → IsKnown head → (primed : Bool) (count : ℕ) → Passed (head_tests a scope head primed count Wanted.Atom) → IsAtomHere head primed count
  is_atom_here None k primed count p = absurd (false≢true (sym p.0))
  is_atom_here (Some (Head.Variable v)) (b, e) primed count p =
      let q : Passed (variable_tests (Some b) primed count Wanted.Atom) = subst (λ (o : Option logic.Binder). Passed (variable_tests o primed count Wanted.Atom)) e p in
      absurd (false≢true (sym q.1.1.0))
  is_atom_here (Some (Head.Symbol k)) (s, e) primed count p =
      let q : Passed (symbol_tests a.place k (Some s) primed count Wanted.Atom) = subst (λ (o : Option Symbol). Passed (symbol_tests a.place k o primed count Wanted.Atom)) e p in
      record {
        count_is = ap (λ (o : Option Symbol). length (symbol_sorts o)) e ∙ sym (same_numbers count (length s.args) q.1.1.1.0);
        is = λ args m.
            let found = sorts_of a.signature (reads_post a.place) sorts args in
            atom_sorted k primed args
            ∙ ap (λ (o : Option Symbol). is_atom o (reads_post a.place || not primed) found) e
            ∙ all_true _ _ _ (readable primed (reads_post a.place) s.mutable q.1.0) (is_relation_here s.kind s.gives q.1.1.1.1.0) (subst (λ (o : Option Symbol). sorts_match (symbol_sorts o) found ≡ true) e m);
      }
