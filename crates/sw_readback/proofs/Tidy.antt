-- Trees of words that were read, with their canonical text and its nestings; and trees that spell the same names.
use Rattle.std.specs.Prelude.{◌≡◌, ℕ, ◌+◌, ◌≤◌, max, Bool, true, false, List, [], ◌∷◌, ◌++◌, length, codes}
use Rattle.sw_logic.specs.Canonical.{Shown, equation, bare, in_brackets}
use Rattle.sw_logic.specs.declared.variables.TheConstants.{VARIABLES}
use Rattle.sw_scan.specs.Spelling.{is_name}
use Rattle.sw_trees.specs.declared.limits.TheConstants.{PATH}
use Rattle.sw_trees.specs.declared.words.Sign.{Sign}
use Rattle.sw_trees.specs.declared.words.Word.{Word}
use Rattle.sw_trees.specs.declared.tree.Binder.{Binder}
use Rattle.sw_trees.specs.declared.tree.TermTree.{TermTree}
use Rattle.sw_trees.specs.declared.tree.TermTree.TheVariants as term
use Rattle.sw_trees.specs.declared.tree.Tree.{Tree}
use Rattle.sw_trees.specs.declared.tree.Tree.TheVariants as tree
use Rattle.sw_trees.specs.Words.{name_sign}
use Rattle.sw_trees.specs.Measures.{Nestings, longest_path, bare as bare_count, bracketed}
use Rattle.sw_text.specs.Names.{bytes_at}

-- the bytes are a name and no keyword
pub record IsNameText (x : List ℕ) : Type 0 where
  pub name : is_name x ≡ true
  pub sign : name_sign x ≡ Sign.Name

-- the word is a name of the text
abbrev pub IsNameIn : List ℕ → Word → Type 0
IsNameIn A w = IsNameText (bytes_at A w)

abbrev pub prime_text : Bool → List ℕ
prime_text true = codes "'"
prime_text false = []

abbrev pub head_text : List ℕ → Word → Bool → List ℕ
head_text A w primed = bytes_at A w ++ prime_text primed

mutual
  -- a term of names of the text, its canonical text and how many nestings that opens
  pub data TidyTerm (A : List ℕ) : TermTree → List ℕ → ℕ → Type 0 where
    named : {w : Word} (primed : Bool) → IsNameIn A w → TidyTerm A (term.Named w primed) (head_text A w primed) 0
    applied : {w : Word} {t : TermTree} {ts : List TermTree} {x more : List ℕ} {n m : ℕ} (primed : Bool) → IsNameIn A w → TidyTerm A t x n → TidyTerms A ts more m
        → TidyTerm A (term.Applied w primed (t ∷ ts)) (head_text A w primed ++ (codes "(" ++ (x ++ (more ++ codes ")")))) (max n m + 1)

  -- further terms, each with a comma before it
  pub data TidyTerms (A : List ℕ) : List TermTree → List ℕ → ℕ → Type 0 where
    no_terms : TidyTerms A [] [] 0
    more_terms : {t : TermTree} {ts : List TermTree} {x more : List ℕ} {n m : ℕ} → TidyTerm A t x n → TidyTerms A ts more m → TidyTerms A (t ∷ ts) (codes ", " ++ (x ++ more)) (max n m)

abbrev pub binder_piece : List ℕ → Binder → List ℕ
binder_piece A b = bytes_at A b.name ++ (codes ": " ++ bytes_at A b.sort)

pub record TidyBinder (A : List ℕ) (b : Binder) : Type 0 where
  pub name : IsNameIn A b.name
  pub sort : IsNameIn A b.sort

-- further binders, each with a comma before it
pub data TidyBinders (A : List ℕ) : List Binder → List ℕ → Type 0 where
  no_binders : TidyBinders A [] []
  more_binders : {b : Binder} {bs : List Binder} {more : List ℕ} → TidyBinder A b → TidyBinders A bs more → TidyBinders A (b ∷ bs) (codes ", " ++ (binder_piece A b ++ more))

abbrev pub constant_text : Bool → List ℕ
constant_text true = codes "true"
constant_text false = codes "false"

abbrev pub quantifier_word : Bool → List ℕ
quantifier_word true = codes "forall"
quantifier_word false = codes "exists"

abbrev pub level : ℕ → Nestings
level n = record { alone = n; operand = n; negated = n }

mutual
  -- a formula of names of the text to the right of so many <->, with so many variables in scope
  pub data Tidy (A : List ℕ) : ℕ → ℕ → Tree → Shown → Nestings → Type 0 where
    constant : {i v : ℕ} (value : Bool) → Tidy A i v (tree.Constant value) (bare (constant_text value)) (bare_count 0)
    atom : {i v : ℕ} {t : TermTree} {x : List ℕ} {n : ℕ} → TidyTerm A t x n → Tidy A i v (tree.Atom t) (bare x) (bare_count n)
    equal : {i v : ℕ} {t u : TermTree} {x y : List ℕ} {n m : ℕ} → TidyTerm A t x n → TidyTerm A u y m → Tidy A i v (tree.Equal t u) (equation x y) (level (max n m))
    negated : {i v : ℕ} {p : Tree} {s : Shown} {n : Nestings} → Tidy A i v p s n → Tidy A i v (tree.Not p) (bare s.negated) (bare_count n.negated)
    all : {i v : ℕ} {p q : Tree} {ps : List Tree} {s : Shown} {more : List ℕ} {n : Nestings} {k : ℕ} → Tidy A i v p s n → TidyRun A (codes " & ") i v (q ∷ ps) more k
        → Tidy A i v (tree.All (p ∷ q ∷ ps)) (in_brackets (s.operand ++ more)) (bracketed (max n.operand k))
    any : {i v : ℕ} {p q : Tree} {ps : List Tree} {s : Shown} {more : List ℕ} {n : Nestings} {k : ℕ} → Tidy A i v p s n → TidyRun A (codes " | ") i v (q ∷ ps) more k
        → Tidy A i v (tree.Any (p ∷ q ∷ ps)) (in_brackets (s.operand ++ more)) (bracketed (max n.operand k))
    implies : {i v : ℕ} {p q : Tree} {s t : Shown} {n m : Nestings} → Tidy A i v p s n → Tidy A i v q t m
        → Tidy A i v (tree.Implies p q) (in_brackets (s.operand ++ (codes " -> " ++ t.operand))) (bracketed (max n.operand (m.operand + 1)))
    iff : {i v : ℕ} {p q : Tree} {s t : Shown} {n m : Nestings} → i + 1 + longest_path p ≤ PATH → Tidy A i v p s n → Tidy A (i + 1) v q t m
        → Tidy A i v (tree.Iff p q) (in_brackets (s.operand ++ (codes " <-> " ++ t.operand))) (bracketed (max n.operand (m.operand + 1)))
    quantified : {i v : ℕ} {b : Binder} {bs : List Binder} {more : List ℕ} {p : Tree} {s : Shown} {n : Nestings} (universal : Bool) → TidyBinder A b → TidyBinders A bs more → v + length (b ∷ bs) ≤ VARIABLES
        → Tidy A i (v + length (b ∷ bs)) p s n
        → Tidy A i v (tree.Quantified universal (b ∷ bs) p) (in_brackets (quantifier_word universal ++ (codes " " ++ (binder_piece A b ++ (more ++ (codes ". " ++ s.text)))))) (bracketed (n.alone + 1))

  -- further operands, each with the sign before it
  pub data TidyRun (A : List ℕ) : List ℕ → ℕ → ℕ → List Tree → List ℕ → ℕ → Type 0 where
    no_more : {sign : List ℕ} {i v : ℕ} → TidyRun A sign i v [] [] 0
    one_more : {sign : List ℕ} {i v : ℕ} {p : Tree} {ps : List Tree} {s : Shown} {more : List ℕ} {n : Nestings} {k : ℕ} → Tidy A i v p s n → TidyRun A sign i v ps more k → TidyRun A sign i v (p ∷ ps) (sign ++ (s.operand ++ more)) (max n.operand k)

-- words of the same bytes, each in its text
abbrev pub SameBytes : List ℕ → List ℕ → Word → Word → Type 0
SameBytes A T w u = bytes_at A w ≡ bytes_at T u

mutual
  -- terms of the same names
  pub data SameTerm (A T : List ℕ) : TermTree → TermTree → Type 0 where
    named : {w u : Word} (primed : Bool) → SameBytes A T w u → SameTerm A T (term.Named w primed) (term.Named u primed)
    applied : {w u : Word} {ts us : List TermTree} (primed : Bool) → SameBytes A T w u → SameTerms A T ts us → SameTerm A T (term.Applied w primed ts) (term.Applied u primed us)

  pub data SameTerms (A T : List ℕ) : List TermTree → List TermTree → Type 0 where
    no_terms : SameTerms A T [] []
    more_terms : {t u : TermTree} {ts us : List TermTree} → SameTerm A T t u → SameTerms A T ts us → SameTerms A T (t ∷ ts) (u ∷ us)

pub record SameBinder (A T : List ℕ) (b c : Binder) : Type 0 where
  pub name : SameBytes A T b.name c.name
  pub sort : SameBytes A T b.sort c.sort

pub data SameBinders (A T : List ℕ) : List Binder → List Binder → Type 0 where
  no_binders : SameBinders A T [] []
  more_binders : {b c : Binder} {bs cs : List Binder} → SameBinder A T b c → SameBinders A T bs cs → SameBinders A T (b ∷ bs) (c ∷ cs)

mutual
  -- formulas of the same names
  pub data Same (A T : List ℕ) : Tree → Tree → Type 0 where
    constant : (value : Bool) → Same A T (tree.Constant value) (tree.Constant value)
    atom : {t u : TermTree} → SameTerm A T t u → Same A T (tree.Atom t) (tree.Atom u)
    equal : {t u t' u' : TermTree} → SameTerm A T t t' → SameTerm A T u u' → Same A T (tree.Equal t u) (tree.Equal t' u')
    negated : {p q : Tree} → Same A T p q → Same A T (tree.Not p) (tree.Not q)
    all : {ps qs : List Tree} → SameRun A T ps qs → Same A T (tree.All ps) (tree.All qs)
    any : {ps qs : List Tree} → SameRun A T ps qs → Same A T (tree.Any ps) (tree.Any qs)
    implies : {p q p' q' : Tree} → Same A T p p' → Same A T q q' → Same A T (tree.Implies p q) (tree.Implies p' q')
    iff : {p q p' q' : Tree} → Same A T p p' → Same A T q q' → Same A T (tree.Iff p q) (tree.Iff p' q')
    quantified : {bs cs : List Binder} {p q : Tree} (universal : Bool) → SameBinders A T bs cs → Same A T p q → Same A T (tree.Quantified universal bs p) (tree.Quantified universal cs q)

  pub data SameRun (A T : List ℕ) : List Tree → List Tree → Type 0 where
    no_more : SameRun A T [] []
    one_more : {p q : Tree} {ps qs : List Tree} → Same A T p q → SameRun A T ps qs → SameRun A T (p ∷ ps) (q ∷ qs)
