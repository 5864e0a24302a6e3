-- The tree of a well sorted term, over a text that has the names.
use Rattle.std.specs.Prelude.{◌≡◌, ◌==◌, ◌+◌, ◌<◌, ◌≤◌, nat_lt, max, ℕ, zero, suc, Bool, true, false, not, cond, List, [], ◌∷◌, ◌++◌, length, map, slice_get, Some, None, codes}
use Rattle.std.specs.List.{position, prefix_len}
use Rattle.std.specs.Str.{bytes_eq}
use Rattle.std.proofs.Common.{rules, refl, sym, ap, subst, ◌∙◌, arith}
use Rattle.std.proofs.lemmas.Bool.{false≢true}
use Rattle.std.proofs.lemmas.Option.{none-some, same_Some, slice_get_within}
use Rattle.std.proofs.lemmas.Slice.Eq.{bytes_eq-Decides}
use Rattle.sw_logic.specs.declared.syntax.Symbol.{Symbol}
use Rattle.sw_logic.specs.declared.syntax.SymbolKind.{SymbolKind}
use Rattle.sw_logic.specs.declared.syntax.Signature.{Signature}
use Rattle.sw_logic.specs.declared.syntax.Binder as logic
use Rattle.sw_logic.specs.declared.syntax.Term.{Term}
use Rattle.sw_logic.specs.declared.syntax.Term.TheVariants.{Apply}
use Rattle.sw_logic.specs.Sorted.{gives_value}
use Rattle.sw_logic.specs.Truth.{greatest}
use Rattle.sw_meaning.specs.Space.{depth_of}
use Rattle.sw_cover.proofs.Terms.{depth-Apply}
use Rattle.sw_truth.specs.Sorting.{HasSort, HaveSorts}
use Rattle.sw_trees.specs.declared.words.Word.{Word}
use Rattle.sw_trees.specs.declared.tree.TermTree as trees
use Rattle.sw_trees.specs.declared.tree.TermTree.{TermTree}
use Rattle.sw_trees.specs.declared.tree.TermTree.TheVariants as tree
use Rattle.sw_text.specs.declared.names.Place.{Place}
use Rattle.sw_text.specs.declared.names.Rule.{Rule}
use Rattle.sw_text.specs.declared.names.Wanted.{Wanted}
use Rattle.sw_text.specs.declared.names.Head.{Head}
use Rattle.sw_text.specs.Names.{Around, Scope, bytes_at, head_of, head_by, head_tests, head_faults, head_sorts, head_gives, args_faults, term_faults, term_read, term_by, right_wanted, broken, variable_number, symbol_number, first_word, mismatch, symbol_tests, variable_tests, variable_gives, symbol_gives, symbol_sorts}
use Rattle.sw_text.proofs.Breaking.{term_faults_of, term_read_of}
use Rattle.sw_readback.proofs.Tidy.{IsNameText, TidyTerm, TidyTerms, head_text}

-- ---- places in a list

lt_true : (a b : ℕ) → a < b → nat_lt a b ≡ true
lt_true a b h = grind arith

lt_false : (a : ℕ) → nat_lt a a ≡ false
lt_false a = grind arith

prefix_is : {X : Type 0} (p : X → Bool) (xs : List X) (i : ℕ) (x : X) → slice_get xs i ≡ Some x → p x ≡ true → ((j : ℕ) (y : X) → slice_get xs j ≡ Some y → p y ≡ true → j ≡ i)
    → prefix_len (λ x. not (p x)) xs ≡ i
prefix_is p [] i x e h one = absurd (none-some x e)
prefix_is p (y ∷ ys) zero x e h one = let here : p y ≡ true = ap p (same_Some y x e) ∙ h in rw here refl
prefix_is p (y ∷ ys) (suc i) x e h one = by (p y) refl (prefix_is p ys i x e h (λ j z f g. let at : suc j ≡ suc i = one (suc j) z f g in omega (arith, at)))
  where
    by : (b : Bool) → p y ≡ b → prefix_len (λ x. not (p x)) ys ≡ i → prefix_len (λ x. not (p x)) (y ∷ ys) ≡ suc i
    by true k more = let none : 0 ≡ suc i = one 0 y refl k in absurd (omega (arith, none))
    by false k more = rw k (omega (arith, more))

pub position_is : {X : Type 0} (p : X → Bool) (xs : List X) (i : ℕ) (x : X) → slice_get xs i ≡ Some x → p x ≡ true → ((j : ℕ) (y : X) → slice_get xs j ≡ Some y → p y ≡ true → j ≡ i) → position p xs ≡ Some i
position_is p xs i x e h one =
    let at = prefix_is p xs i x e h one in
    ap (λ n. cond (nat_lt n (length xs)) (Some n) None) at ∙ ap (λ b. cond b (Some i) None) (lt_true i (length xs) (slice_get_within xs i x e))

prefix_none : {X : Type 0} (p : X → Bool) (xs : List X) → ((j : ℕ) (y : X) → slice_get xs j ≡ Some y → p y ≡ false) → prefix_len (λ x. not (p x)) xs ≡ length xs
prefix_none p [] none = refl
prefix_none p (y ∷ ys) none =
    let here : p y ≡ false = none 0 y refl in
    let more = prefix_none p ys (λ j z f. none (suc j) z f) in
    rw here (omega (arith, more))

pub position_none : {X : Type 0} (p : X → Bool) (xs : List X) → ((j : ℕ) (y : X) → slice_get xs j ≡ Some y → p y ≡ false) → position p xs ≡ None
position_none p xs none =
    ap (λ n. cond (nat_lt n (length xs)) (Some n) None) (prefix_none p xs none) ∙ ap (λ b. cond b (Some (length xs)) None) (lt_false (length xs))

pub same_bytes : (x y : List ℕ) → x ≡ y → bytes_eq x y ≡ true
same_bytes x y e = (bytes_eq-Decides x y).1 e

pub other_bytes : (x y : List ℕ) → (x ≡ y → ⊥) → bytes_eq x y ≡ false
other_bytes x y apart = by (bytes_eq x y) refl
  where
    by : (b : Bool) → bytes_eq x y ≡ b → b ≡ false
    by true e = absurd (apart ((bytes_eq-Decides x y).0 e))
    by false e = refl

-- a word of the text that spells these bytes, which are a name
pub record Written (A : List ℕ) (x : List ℕ) : Type 0 where
  pub word : Word
  pub is : bytes_at A word ≡ x
  pub name : IsNameText x

-- the symbols are written in the text, and no two have one name
pub record AreWritten (sig : Signature) (A : List ℕ) : Type 0 where
  pub symbol : (k : ℕ) (s : Symbol) → slice_get sig.symbols k ≡ Some s → Written A s.name
  pub apart : (i j : ℕ) (s t : Symbol) → slice_get sig.symbols i ≡ Some s → slice_get sig.symbols j ≡ Some t → s.name ≡ t.name → i ≡ j

-- so are the variables, and none has the name of a symbol
pub record ScopeWritten (sig : Signature) (A : List ℕ) (scope : Scope) : Type 0 where
  pub variable : (v : ℕ) (b : logic.Binder) → slice_get scope v ≡ Some b → Written A b.name
  pub apart : (v w : ℕ) (b c : logic.Binder) → slice_get scope v ≡ Some b → slice_get scope w ≡ Some c → b.name ≡ c.name → v ≡ w
  pub other : (v k : ℕ) (b : logic.Binder) (s : Symbol) → slice_get scope v ≡ Some b → slice_get sig.symbols k ≡ Some s → s.name ≡ b.name → ⊥

abbrev pub around : Signature → List ℕ → Around
around sig A = record { text = A; signature = sig; declared_too = []; place = Place.OneState }

abbrev pub Meets : Wanted → ℕ → Type 0
Meets Wanted.Atom sort = ⊥
Meets Wanted.Value sort = Unit {0}
Meets (Wanted.Sort s) sort = s ≡ sort

number_same : (n : ℕ) → (n == n) ≡ true
number_same n = grind arith

module _ (sig : Signature) (A : List ℕ) (symbols : AreWritten sig A) (scope : Scope) (variables : ScopeWritten sig A scope) where
  abbrev a : Around
  a = around sig A

  abbrev sorts : List ℕ
  sorts = map (λ (b : logic.Binder). b.sort) scope

  variable_head : (v : ℕ) (b : logic.Binder) → slice_get scope v ≡ Some b → (w : Word) → bytes_at A w ≡ b.name → head_of a scope w ≡ Some (Head.Variable v)
  variable_head v b e w is =
      let found : variable_number scope b.name ≡ Some v = position_is (λ (c : logic.Binder). bytes_eq b.name c.name) scope v b e (same_bytes b.name b.name refl)
      (λ j c f g. variables.apart j v c b f e (sym ((bytes_eq-Decides b.name c.name).0 g))) in
      ap (λ x. head_by (variable_number scope x) (symbol_number a x)) is ∙ ap (λ o. head_by o (symbol_number a b.name)) found

  pub symbol_head : (k : ℕ) (s : Symbol) → slice_get sig.symbols k ≡ Some s → (w : Word) → bytes_at A w ≡ s.name → head_of a scope w ≡ Some (Head.Symbol k)
  symbol_head k s e w is =
      let none : variable_number scope s.name ≡ None = position_none (λ (c : logic.Binder). bytes_eq s.name c.name) scope (λ j c f. other_bytes s.name c.name (variables.other j k c s f e)) in
      let found : symbol_number a s.name ≡ Some k = position_is (λ (t : Symbol). bytes_eq s.name t.name) sig.symbols k s e (same_bytes s.name s.name refl)
      (λ j t f g. symbols.apart j k t s f e (sym ((bytes_eq-Decides s.name t.name).0 g))) in
      ap (λ x. head_by (variable_number scope x) (symbol_number a x)) is ∙ (ap (λ o. head_by o (symbol_number a s.name)) none ∙ ap (λ o. head_by None o) found)

  -- ---- what a head breaks

  variable_fine : (v : ℕ) (b : logic.Binder) → slice_get scope v ≡ Some b → (w : Word) → head_of a scope w ≡ Some (Head.Variable v) → (wanted : Wanted) → Meets wanted b.sort → head_faults a scope w false 0 wanted ≡ []
  variable_fine v b e w h wanted m =
      ap (λ o. broken w.token.at (head_tests a scope o false 0 wanted)) h ∙ (ap (λ o. broken w.token.at (variable_tests o false 0 wanted)) e ∙ by wanted m)
    where
      by : (wanted : Wanted) → Meets wanted b.sort → broken w.token.at (variable_tests (Some b) false 0 wanted) ≡ []
      by Wanted.Atom m = absurd m
      by Wanted.Value m = refl
      by (Wanted.Sort s) m = ap (λ n. broken w.token.at ((not (b.sort == n), Rule.SortMismatch) ∷ [])) m ∙ ap (λ t. broken w.token.at ((not t, Rule.SortMismatch) ∷ [])) (number_same b.sort)

  -- a symbol that is no relation does for a value of its sort, and a relation for an atom
  value_fits : (kind : SymbolKind) (gives : ℕ) (wanted : Wanted) → gives_value kind ≡ true → Meets wanted gives → mismatch wanted kind gives ≡ false
  value_fits SymbolKind.Relation gives wanted g m = absurd (false≢true g)
  value_fits SymbolKind.Constant gives Wanted.Atom g m = absurd m
  value_fits SymbolKind.Constant gives Wanted.Value g m = refl
  value_fits SymbolKind.Constant gives (Wanted.Sort s) g m = ap (λ n. not (gives == n)) m ∙ ap not (number_same gives)
  value_fits SymbolKind.Function gives Wanted.Atom g m = absurd m
  value_fits SymbolKind.Function gives Wanted.Value g m = refl
  value_fits SymbolKind.Function gives (Wanted.Sort s) g m = ap (λ n. not (gives == n)) m ∙ ap not (number_same gives)

  pub atom_fits : (kind : SymbolKind) (gives : ℕ) → gives_value kind ≡ false → mismatch Wanted.Atom kind gives ≡ false
  atom_fits SymbolKind.Relation gives g = refl
  atom_fits SymbolKind.Constant gives g = absurd (false≢true (sym g))
  atom_fits SymbolKind.Function gives g = absurd (false≢true (sym g))

  pub symbol_fine : (k : ℕ) (s : Symbol) → slice_get sig.symbols k ≡ Some s → (w : Word) → head_of a scope w ≡ Some (Head.Symbol k) → (count : ℕ) → count ≡ length s.args → (wanted : Wanted) → mismatch wanted s.kind s.gives ≡ false
      → head_faults a scope w false count wanted ≡ []
  symbol_fine k s e w h count n wanted m =
      ap (λ o. broken w.token.at (head_tests a scope o false count wanted)) h
      ∙ (ap (λ o. broken w.token.at (symbol_tests Place.OneState k o false count wanted)) e
      ∙ (ap (λ t. broken w.token.at ((not t, Rule.Arity) ∷ (mismatch wanted s.kind s.gives, Rule.SortMismatch) ∷ [])) (ap (λ c. c == length s.args) n ∙ number_same (length s.args))
      ∙ ap (λ t. broken w.token.at ((t, Rule.SortMismatch) ∷ [])) m))

  -- ---- the trees

  pub record TermOf (t : Term) (sort : ℕ) : Type 0 where
    pub tree : TermTree
    pub text : List ℕ
    pub count : ℕ
    pub tidy : TidyTerm A tree text count
    pub fine : (wanted : Wanted) → Meets wanted sort → term_faults a scope tree wanted ≡ []
    pub is : term_read a scope tree ≡ t
    pub gives : right_wanted a scope tree ≡ Wanted.Sort sort
    pub deep : count ≤ depth_of t

  pub record TermsOf (ts : List Term) (ss : List ℕ) : Type 0 where
    pub trees : List TermTree
    pub text : List ℕ
    pub count : ℕ
    pub tidy : TidyTerms A trees text count
    pub fine : args_faults (map (term_faults a scope) trees) ss ≡ []
    pub are : map (term_read a scope) trees ≡ ts
    pub number : length (map (term_faults a scope) trees) ≡ length ss
    pub deep : count ≤ greatest (map depth_of ts)

  pub named_faults : (w : Word) (wanted : Wanted) → term_faults a scope (tree.Named w false) wanted ≡ head_faults a scope w false 0 wanted
  named_faults w wanted = search (rules, trees.the_lemmas)

  named_read : (w : Word) → term_read a scope (tree.Named w false) ≡ term_by (head_of a scope w) false []
  named_read w = search (rules, trees.the_lemmas)

  first_named : (w : Word) → first_word (tree.Named w false) ≡ w
  first_named w = search (rules, trees.the_lemmas)

  first_applied : (w : Word) (ts : List TermTree) → first_word (tree.Applied w false ts) ≡ w
  first_applied w ts = search (rules, trees.the_lemmas)

  pub named_name : {x : List ℕ} → (w : Written A x) → IsNameText (bytes_at A w.word)
  named_name w = subst IsNameText (sym w.is) w.name

  sort_at : (v sort : ℕ) → slice_get sorts v ≡ Some sort → (b : logic.Binder) × (slice_get scope v ≡ Some b) × (b.sort ≡ sort)
  sort_at v sort e = by scope v e
    where
      by : (xs : List logic.Binder) (v : ℕ) → slice_get (map (λ (b : logic.Binder). b.sort) xs) v ≡ Some sort → (b : logic.Binder) × (slice_get xs v ≡ Some b) × (b.sort ≡ sort)
      by [] v e = absurd (none-some sort e)
      by (b ∷ xs) zero e = (b, refl, same_Some b.sort sort e)
      by (b ∷ xs) (suc v) e = by xs v e

  applied_tree : (k : ℕ) (s : Symbol) → slice_get sig.symbols k ≡ Some s → gives_value s.kind ≡ true → (us : List TermTree) (x : List ℕ) (n : ℕ) → TidyTerms A us x n → args_faults (map (term_faults a scope) us) s.args ≡ []
      → length (map (term_faults a scope) us) ≡ length s.args → n ≤ greatest (map depth_of (map (term_read a scope) us)) → TermOf (Apply k false (map (term_read a scope) us)) s.gives
  applied_tree k s e g us x n TidyTerms.no_terms fine number deep =
      let w = symbols.symbol k s e in
      let head = symbol_head k s e w.word w.is in
      record {
        tree = tree.Named w.word false;
        text = head_text A w.word false;
        count = 0;
        tidy = TidyTerm.named false (named_name w);
        fine = λ wanted m. named_faults w.word wanted ∙ symbol_fine k s e w.word head 0 number wanted (value_fits s.kind s.gives wanted g m);
        is = named_read w.word ∙ ap (λ h. term_by h false []) head;
        gives = ap (λ x. head_gives a scope (head_of a scope x)) (first_named w.word) ∙ (ap (head_gives a scope) head ∙ ap symbol_gives e);
        deep = omega arith;
      }
  applied_tree k s e g us x n (TidyTerms.more_terms {t = t} {ts = ts} {x = y} {more = more} {n = i} {m = j} p q) fine number deep =
      let w = symbols.symbol k s e in
      let head = symbol_head k s e w.word w.is in
      let read : List Term = map (term_read a scope) (t ∷ ts) in
      let depth = depth-Apply k false read in
      record {
        tree = tree.Applied w.word false (t ∷ ts);
        text = head_text A w.word false ++ (codes "(" ++ (y ++ (more ++ codes ")")));
        count = max i j + 1;
        tidy = TidyTerm.applied false (named_name w) p q;
        fine = λ wanted m.
            term_faults_of a scope w.word false (t ∷ ts) wanted
            ∙ (ap (λ vs. vs ++ args_faults (map (term_faults a scope) (t ∷ ts)) (head_sorts a (head_of a scope w.word))) (symbol_fine k s e w.word head (length (map (term_faults a scope) (t ∷ ts))) number wanted (value_fits s.kind s.gives wanted g m))
            ∙ (ap (λ o. args_faults (map (term_faults a scope) (t ∷ ts)) (head_sorts a o)) head ∙ (ap (λ o. args_faults (map (term_faults a scope) (t ∷ ts)) (symbol_sorts o)) e ∙ fine)));
        is = term_read_of a scope w.word false (t ∷ ts) ∙ ap (λ h. term_by h false read) head;
        gives = ap (λ x. head_gives a scope (head_of a scope x)) (first_applied w.word (t ∷ ts)) ∙ (ap (head_gives a scope) head ∙ ap symbol_gives e);
        deep = omega (arith, depth, deep);
      }

  mutual
    pub term_tree : (t : Term) (sort : ℕ) → HasSort sig sorts t sort → TermOf t sort
    term_tree t sort (HasSort.variable v s e) =
        let at = sort_at v s e in
        let w = variables.variable v at.0 at.1 in
        let head = variable_head v at.0 at.1 w.word w.is in
        record {
          tree = tree.Named w.word false;
          text = head_text A w.word false;
          count = 0;
          tidy = TidyTerm.named false (named_name w);
          fine = λ wanted m. named_faults w.word wanted ∙ variable_fine v at.0 at.1 w.word head wanted (subst (Meets wanted) (sym at.2) m);
          is = named_read w.word ∙ ap (λ h. term_by h false []) head;
          gives = ap (λ x. head_gives a scope (head_of a scope x)) (first_named w.word) ∙ (ap (head_gives a scope) head ∙ (ap variable_gives at.1 ∙ ap Wanted.Sort at.2));
          deep = omega arith;
        }
    term_tree t sort (HasSort.apply k s args e g h) =
        let all = terms_tree args s.args h in
        subst (λ us. TermOf (Apply k false us) s.gives) all.are
        (applied_tree k s e g all.trees all.text all.count all.tidy all.fine all.number (subst (λ us. all.count ≤ greatest (map depth_of us)) (sym all.are) all.deep))

    pub terms_tree : (ts : List Term) (ss : List ℕ) → HaveSorts sig sorts ts ss → TermsOf ts ss
    terms_tree ts ss HaveSorts.none = record { trees = []; text = []; count = 0; tidy = TidyTerms.no_terms; fine = refl; are = refl; number = refl; deep = omega arith }
    terms_tree ts ss (HaveSorts.more t us sort rest h hs) =
        let first = term_tree t sort h in
        let others = terms_tree us rest hs in
        let one = first.deep in
        let two = others.deep in
        record {
          trees = first.tree ∷ others.trees;
          text = codes ", " ++ (first.text ++ others.text);
          count = max first.count others.count;
          tidy = TidyTerms.more_terms first.tidy others.tidy;
          fine = ap (λ vs. vs ++ args_faults (map (term_faults a scope) others.trees) rest) (first.fine (Wanted.Sort sort) refl) ∙ others.fine;
          are = ap (λ x. x ∷ map (term_read a scope) others.trees) first.is ∙ ap (λ xs. t ∷ xs) others.are;
          number = ap suc others.number;
          deep = omega (arith, one, two);
        }
