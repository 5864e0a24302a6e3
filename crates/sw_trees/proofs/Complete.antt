-- Words that spell a formula are read as that formula.
use Rattle.std.proofs.Common.{◌≡◌, ℕ, ◌+◌, ◌≤◌, Bool, true, false, List, [], ◌∷◌, ◌++◌, length, max, Some, refl, sym, ap, subst, arith, ◌∙◌}
use Rattle.std.specs.Prelude.{option_map}
use Rattle.std.proofs.lemmas.Bool.Decides.{nat_tests}
use Rattle.sw_trees.specs.declared.words.Sign.{Sign}
use Rattle.sw_trees.specs.declared.words.Word.{Word}
use Rattle.sw_trees.specs.declared.tree.Binder.{Binder}
use Rattle.sw_trees.specs.declared.tree.Tree.{Tree}
use Rattle.sw_trees.specs.declared.tree.Tree.TheVariants as tree
use Rattle.sw_trees.specs.declared.tree.TermTree.{TermTree}
use Rattle.sw_trees.specs.declared.tree.TermTree.TheVariants as term
use Rattle.sw_trees.specs.declared.frames.Frame.{Frame}
use Rattle.sw_trees.specs.declared.machine.Stage.{Stage}
use Rattle.sw_trees.specs.declared.machine.Last.{Last}
use Rattle.sw_trees.specs.declared.machine.State.{State}
use Rattle.sw_trees.specs.Measures.{longest_path}
use Rattle.sw_trees.specs.Grammar.{Mark, Context, no_loads, opening, joining, binding, deeper, beside, inside, all_of, any_of, End, end_of, TakesIff, equality, IsHead, IsTerm, AreTerms, IsBinder, AreBinders, IsAtom, IsSingle, AreSingles, AreBoths, IsImplied, IsFormula}
use Rattle.sw_trees.specs.Machine.{want, want_term, have, have_term, header, start, conjoin, disjoin, side, after, after_atom, after_term, after_name, after_primed, step_by, finish, context, loads_by}
use Rattle.sw_trees.specs.Steps.{first_is_side}
use Rattle.sw_trees.proofs.Reduce.{firm, reduce_of_firm, double_firm}
use Rattle.sw_trees.proofs.Reading.{Reads, reads_on, reads_one, reads_last, op_level, Acts, acts_from, acts_fill, follows_term, TermActs, takes_formula, after_term_atom, end_term_atom}

-- a state after a name, with or without its prime
abbrev pub after_head : List Frame → Word → Bool → State
after_head fs w false = record { stack = fs; last = Last.Name w }
after_head fs w true = record { stack = fs; last = Last.Primed w }

-- a term was read onto the frames
pub record TermRead (base : Context) (s : State) (ms : List Mark) (fs : List Frame) (x : TermTree) (rest : List Mark) : Type 0 where
  pub to : State
  pub reads : Reads base s ms to rest
  pub acts : TermActs to fs x

-- arguments were read
pub record TermsRead (base : Context) (s : State) (ms : List Mark) (fs : List Frame) (w : Word) (p : Bool) (xs : List TermTree) (rest : List Mark) : Type 0 where
  pub to : State
  pub front : List TermTree
  pub last : TermTree
  pub are : xs ≡ front ++ last ∷ []
  pub reads : Reads base s ms to rest
  pub acts : TermActs to (Frame.Arguments w p front ∷ fs) last

-- the state takes a name as a term
pub record Takes (s : State) (fs : List Frame) : Type 0 where
  pub name : (w : Word) → step_by s.last s.stack w Sign.Name ≡ Some (record { stack = fs; last = Last.Name w })

name_acts : (fs : List Frame) (w : Word) (sign : Sign) → follows_term sign ≡ true → after_name fs w sign ≡ after_term fs (term.Named w false) sign
name_acts fs w Sign.Comma h = refl
name_acts fs w Sign.RightRound h = refl
name_acts fs w Sign.Equal h = refl
name_acts fs w Sign.NotEqual h = refl
name_acts fs w Sign.And h = refl
name_acts fs w Sign.Or h = refl
name_acts fs w Sign.Arrow h = refl
name_acts fs w Sign.DoubleArrow h = refl
name_acts fs w _ h = cc

primed_acts : (fs : List Frame) (w : Word) (sign : Sign) → follows_term sign ≡ true → after_primed fs w sign ≡ after_term fs (term.Named w true) sign
primed_acts fs w Sign.Comma h = refl
primed_acts fs w Sign.RightRound h = refl
primed_acts fs w Sign.Equal h = refl
primed_acts fs w Sign.NotEqual h = refl
primed_acts fs w Sign.And h = refl
primed_acts fs w Sign.Or h = refl
primed_acts fs w Sign.Arrow h = refl
primed_acts fs w Sign.DoubleArrow h = refl
primed_acts fs w _ h = cc

pub head_acts : (fs : List Frame) (w : Word) (p : Bool) → TermActs (after_head fs w p) fs (term.Named w p)
head_acts fs w false = record { steps = λ v sign h. name_acts fs w sign h; ends = refl }
head_acts fs w true = record { steps = λ v sign h. primed_acts fs w sign h; ends = refl }

head_opens : (fs : List Frame) (w : Word) (p : Bool) (v : Word) → step_by (after_head fs w p).last (after_head fs w p).stack v Sign.LeftRound ≡ Some (want_term (Frame.Arguments w p [] ∷ fs))
head_opens fs w false v = refl
head_opens fs w true v = refl

want_takes : (fs : List Frame) → Takes (want fs) fs
want_takes fs = record { name = λ w. refl }

want_term_takes : (fs : List Frame) → Takes (want_term fs) fs
want_term_takes fs = record { name = λ w. refl }

pub have_term_acts : (fs : List Frame) (x : TermTree) → TermActs (have_term fs x) fs x
have_term_acts fs x = record { steps = λ w sign h. refl; ends = refl }

pub have_acts : (k : ℕ) (fs : List Frame) (y : Tree) → Acts k (have fs y) fs y
have_acts k fs y = record { steps = λ w sign h. refl; ends = refl }

module _ (base : Context) where
  head : {ms rest : List Mark} {w : Word} {p : Bool} (s : State) (fs : List Frame) → Takes s fs → IsHead ms w p rest → Reads base s ms (after_head fs w p) rest
  head s fs h (IsHead.plain n e) = reads_one base s (after_head fs n.word false) n e (h.name n.word) refl Reads.here
  head s fs h (IsHead.primed n p e f) =
      reads_one base s (after_head fs n.word false) n e (h.name n.word) refl
      (reads_one base (after_head fs n.word false) (after_head fs n.word true) p f refl refl Reads.here)

  mutual
    term_read : {d : ℕ} {ms rest : List Mark} {x : TermTree} (s : State) (fs : List Frame) → Takes s fs → (context base fs).nestings ≡ d → IsTerm d ms x rest → TermRead base s ms fs x rest
    term_read s fs h e (IsTerm.bare {w = w} {primed = p} g) =
        record { to = after_head fs w p; reads = head s fs h g; acts = head_acts fs w p }
    term_read s fs h e (IsTerm.applied {d} {w = w} {primed = p} {ts = ts} l r g left args right) =
        let inner = terms_read fs w p (ap (λ (n : ℕ). n + 1) e) args in
        record {
          to = have_term fs (term.Applied w p ts);
          reads =
              reads_on base (head s fs h g)
              (reads_one base (after_head fs w p) (want_term (Frame.Arguments w p [] ∷ fs)) l left (head_opens fs w p l.word) (ap (λ (n : ℕ). opening (n + 1)) e)
              (reads_last base inner.to (have_term fs (term.Applied w p ts)) r inner.reads right
              (inner.acts.steps r.word Sign.RightRound refl ∙ ap (λ (us : List TermTree). Some (have_term fs (term.Applied w p us))) (sym inner.are))
              refl));
          acts = have_term_acts fs (term.Applied w p ts);
        }

    terms_read : {d : ℕ} {ms rest : List Mark} {xs : List TermTree} (fs : List Frame) (w : Word) (p : Bool) → (context base (Frame.Arguments w p [] ∷ fs)).nestings ≡ d → AreTerms d ms xs rest →
        TermsRead base (want_term (Frame.Arguments w p [] ∷ fs)) ms fs w p xs rest
    terms_read fs w p e (AreTerms.one_term {t = t} h) =
        let inner = term_read (want_term (Frame.Arguments w p [] ∷ fs)) (Frame.Arguments w p [] ∷ fs) (want_term_takes _) e h in
        record { to = inner.to; front = []; last = t; are = refl; reads = inner.reads; acts = inner.acts }
    terms_read fs w p e (AreTerms.more_terms {ts = ts} {u = u} m hs comma h) =
        let first = terms_read fs w p e hs in
        let gs : List Frame = Frame.Arguments w p (first.front ++ first.last ∷ []) ∷ fs in
        let inner = term_read (want_term gs) gs (want_term_takes gs) e h in
        record {
          to = inner.to;
          front = first.front ++ first.last ∷ [];
          last = u;
          are = ap (λ (us : List TermTree). us ++ u ∷ []) first.are;
          reads = reads_on base (reads_last base first.to (want_term gs) m first.reads comma (first.acts.steps m.word Sign.Comma refl) refl) inner.reads;
          acts = inner.acts;
        }

-- a formula was read onto the frames; the number says for which operators
pub record FormulaRead (base : Context) (k : ℕ) (s : State) (ms : List Mark) (fs : List Frame) (x : Tree) (rest : List Mark) : Type 0 where
  pub to : State
  pub reads : Reads base s ms to rest
  pub acts : Acts k to fs x

pub operator_follows : (sign : Sign) → 1 ≤ op_level sign → follows_term sign ≡ true
operator_follows Sign.And h = refl
operator_follows Sign.Or h = refl
operator_follows Sign.Arrow h = refl
operator_follows Sign.DoubleArrow h = refl
operator_follows Sign.RightRound h = refl
operator_follows _ h = absurd (omega arith)

pub atom_after : (fs : List Frame) (t : TermTree) (sign : Sign) → 1 ≤ op_level sign → after_atom fs t sign ≡ after fs (tree.Atom t) sign
atom_after fs t Sign.And h = refl
atom_after fs t Sign.Or h = refl
atom_after fs t Sign.Arrow h = refl
atom_after fs t Sign.DoubleArrow h = refl
atom_after fs t Sign.RightRound h = refl
atom_after fs t _ h = absurd (omega arith)

equality_after : (fs : List Frame) (t : TermTree) (n : Bool) → takes_formula fs ≡ true → after_term fs t (equality n) ≡ Some (want_term (Frame.LeftSide t n ∷ fs))
equality_after fs t true h = after_term_atom fs t Sign.NotEqual h
equality_after fs t false h = after_term_atom fs t Sign.Equal h

equality_follows : (n : Bool) → follows_term (equality n) ≡ true
equality_follows true = refl
equality_follows false = refl

-- an equality sign has no loads
equality_loads : (base : Context) (fs : List Frame) (t : TermTree) (n : Bool) → loads_by (equality n) Last.WantTerm (context base fs) 0 ≡ no_loads
equality_loads base fs t true = refl
equality_loads base fs t false = refl

module _ (base : Context) where
  atom_read : {d : ℕ} {ms rest : List Mark} {x : Tree} (fs : List Frame) → takes_formula fs ≡ true → (context base fs).nestings ≡ d → IsAtom d ms x rest → FormulaRead base 1 (want fs) ms fs x rest
  atom_read fs h e (IsAtom.holds {t = t} g) =
      let inner = term_read base (want fs) fs (want_takes fs) e g in
      record {
        to = inner.to;
        reads = inner.reads;
        acts = record {
          steps = λ w sign l. inner.acts.steps w sign (operator_follows sign l) ∙ after_term_atom fs t sign h ∙ atom_after fs t sign l;
          ends = inner.acts.ends ∙ end_term_atom fs t h;
        };
      }
  atom_read fs h e (IsAtom.compared {t = t} {u = u} n m g sign k) =
      let left = term_read base (want fs) fs (want_takes fs) e g in
      let gs : List Frame = Frame.LeftSide t n ∷ fs in
      let right = term_read base (want_term gs) gs (want_term_takes gs) e k in
      record {
        to = right.to;
        reads =
            reads_on base
            (reads_last base left.to (want_term gs) m left.reads sign (left.acts.steps m.word (equality n) (equality_follows n) ∙ equality_after fs t n h) (equality_loads base fs t n))
            right.reads;
        acts = record { steps = λ w sign l. right.acts.steps w sign (operator_follows sign l); ends = right.acts.ends };
      }

  binder_read : {v : ℕ} {ms rest : List Mark} {b : Binder} (fs : List Frame) (q : Bool) (done : List Binder) → (context base fs).variables + length done ≡ v → IsBinder v ms b rest →
      Reads base (header fs q done Stage.Variable) ms (header fs q (done ++ b ∷ []) Stage.Next) rest
  binder_read fs q done e (IsBinder.binder n c s name colon sort) =
      reads_one base _ (header fs q done (Stage.Colon n.word)) n name refl (ap (λ (v : ℕ). binding (v + 1)) e)
      (reads_one base _ (header fs q done (Stage.Sort n.word)) c colon refl refl
      (reads_one base _ (header fs q (done ++ record { name = n.word; sort = s.word } ∷ []) Stage.Next) s sort refl refl Reads.here))

  binders_read : {v : ℕ} {ms rest : List Mark} {bs : List Binder} (fs : List Frame) (q : Bool) → (context base fs).variables ≡ v → AreBinders v ms bs rest →
      Reads base (header fs q [] Stage.Variable) ms (header fs q bs Stage.Next) rest
  binders_read fs q e (AreBinders.one_binder h) = binder_read fs q [] (omega (arith, e)) h
  binders_read fs q e (AreBinders.more_binders {bs = bs} m hs comma h) =
      reads_on base (reads_last base _ (header fs q bs Stage.Variable) m (binders_read fs q e hs) comma refl refl)
      (binder_read fs q bs (ap (λ (v : ℕ). v + length bs) e) h)

-- for which operators a text that ends so is an operand
abbrev pub end_level : End → ℕ
end_level End.Closed = 1
end_level End.Full = 4
end_level End.Open = 6

end_low : (e : End) → 1 ≤ end_level e
end_low End.Closed = omega arith
end_low End.Full = omega arith
end_low End.Open = omega arith

end_high : (e : End) → end_level e ≤ 6
end_high End.Closed = omega arith
end_high End.Full = omega arith
end_high End.Open = omega arith

iff_low : (e : End) → TakesIff e → end_level e ≤ 4
iff_low End.Closed h = omega arith
iff_low End.Full h = omega arith
iff_low End.Open h = absurd h

-- a run that is open in the innermost frame, if it has parts
abbrev pub and_frames : List Tree → List Frame → List Frame
and_frames [] fs = fs
and_frames (x ∷ xs) fs = Frame.Conjunction (x ∷ xs) ∷ fs

abbrev pub or_frames : List Tree → List Frame → List Frame
or_frames [] fs = fs
or_frames (x ∷ xs) fs = Frame.Disjunction (x ∷ xs) ∷ fs

and_frames_more : (xs : List Tree) (y : Tree) (fs : List Frame) → and_frames (xs ++ y ∷ []) fs ≡ Frame.Conjunction (xs ++ y ∷ []) ∷ fs
and_frames_more [] y fs = refl
and_frames_more (x ∷ xs) y fs = refl

or_frames_more : (xs : List Tree) (y : Tree) (fs : List Frame) → or_frames (xs ++ y ∷ []) fs ≡ Frame.Disjunction (xs ++ y ∷ []) ∷ fs
or_frames_more [] y fs = refl
or_frames_more (x ∷ xs) y fs = refl

-- a run of two or more
all_of_more : (x : Tree) (xs : List Tree) (y : Tree) → all_of (x ∷ xs ++ y ∷ []) ≡ tree.All (x ∷ xs ++ y ∷ [])
all_of_more x [] y = refl
all_of_more x (z ∷ zs) y = refl

any_of_more : (x : Tree) (xs : List Tree) (y : Tree) → any_of (x ∷ xs ++ y ∷ []) ≡ tree.Any (x ∷ xs ++ y ∷ [])
any_of_more x [] y = refl
any_of_more x (z ∷ zs) y = refl

-- what is firm for one operator is firm for those that are tighter
firm_from : (j k : ℕ) (fs : List Frame) → j ≤ k → firm k fs ≡ true → firm j fs ≡ true
firm_from j k [] l h = refl
firm_from j k (f ∷ fs) l h = grind (arith, nat_tests, h, l)

conjoin_firm : (fs : List Frame) (y : Tree) → firm 2 fs ≡ true → conjoin fs y ≡ Frame.Conjunction (y ∷ []) ∷ fs
conjoin_firm [] y h = refl
conjoin_firm (Frame.Conjunction xs ∷ fs) y h = cc
conjoin_firm (f ∷ fs) y h = refl

disjoin_firm : (fs : List Frame) (y : Tree) → firm 3 fs ≡ true → disjoin fs y ≡ Frame.Disjunction (y ∷ []) ∷ fs
disjoin_firm [] y h = refl
disjoin_firm (Frame.Disjunction xs ∷ fs) y h = cc
disjoin_firm (f ∷ fs) y h = refl

and_step : (front : List Tree) (fs : List Frame) (y : Tree) → firm 2 fs ≡ true → after (and_frames front fs) y Sign.And ≡ Some (want (Frame.Conjunction (front ++ y ∷ []) ∷ fs))
and_step [] fs y h = rw (reduce_of_firm 1 fs y (firm_from 1 2 fs (omega arith) h), conjoin_firm fs y h) refl
and_step (x ∷ xs) fs y h = refl

or_step : (front : List Tree) (fs : List Frame) (y : Tree) → firm 3 fs ≡ true → after (or_frames front fs) y Sign.Or ≡ Some (want (Frame.Disjunction (front ++ y ∷ []) ∷ fs))
or_step [] fs y h = rw (reduce_of_firm 2 fs y (firm_from 2 3 fs (omega arith) h), disjoin_firm fs y h) refl
or_step (x ∷ xs) fs y h = refl

arrow_step : (fs : List Frame) (y : Tree) → firm 3 fs ≡ true → after fs y Sign.Arrow ≡ Some (want (Frame.Premise y ∷ fs))
arrow_step fs y h = rw (reduce_of_firm 3 fs y h) refl

not_side : (fs : List Frame) → firm 5 fs ≡ true → first_is_side fs ≡ false
not_side [] h = refl
not_side (Frame.Side x ∷ fs) h = cc
not_side (f ∷ fs) h = refl

double_step : (fs : List Frame) (y : Tree) → firm 5 fs ≡ true → after fs y Sign.DoubleArrow ≡ Some (want (Frame.Side y ∷ fs))
double_step fs y h = ap (option_map side) (double_firm fs y (firm_from 4 5 fs (omega arith) h) (not_side fs h))

-- a run of & was read, and its last part is an operand
pub record SinglesRead (base : Context) (k : ℕ) (ms : List Mark) (fs : List Frame) (xs : List Tree) (rest : List Mark) : Type 0 where
  pub to : State
  pub front : List Tree
  pub last : Tree
  pub are : xs ≡ front ++ last ∷ []
  pub reads : Reads base (want fs) ms to rest
  pub acts : Acts k to (and_frames front fs) last

pub record BothsRead (base : Context) (k : ℕ) (ms : List Mark) (fs : List Frame) (xs : List Tree) (rest : List Mark) : Type 0 where
  pub to : State
  pub front : List Tree
  pub last : Tree
  pub are : xs ≡ front ++ last ∷ []
  pub reads : Reads base (want fs) ms to rest
  pub acts : Acts k to (or_frames front fs) last

-- a formula was read, and the right side of its <-> is an operand if it has one
pub data WholeRead (base : Context) (k : ℕ) (ms : List Mark) (fs : List Frame) (x : Tree) (rest : List Mark) : Bool → Type 0 where
  without : FormulaRead base k (want fs) ms fs x rest → WholeRead base k ms fs x rest false
  with_iff : (l y : Tree) → x ≡ tree.Iff l y → FormulaRead base k (want fs) ms (Frame.Side l ∷ fs) y rest → WholeRead base k ms fs x rest true

run_acts : (k : ℕ) (t : State) (front : List Tree) (fs : List Frame) (y : Tree) → k ≤ 6 → Acts k t (and_frames front fs) y → Acts (max 2 k) t fs (all_of (front ++ y ∷ []))
run_acts k t [] fs y h a = acts_from k (max 2 k) t fs y (omega arith) a
run_acts k t (x ∷ xs) fs y h a =
    subst (λ (z : Tree). Acts (max 2 k) t fs z) (sym (all_of_more x xs y))
    (acts_fill k (max 2 k) t (Frame.Conjunction (x ∷ xs)) fs y (omega arith) (omega arith) (omega (arith, h)) a)

either_acts : (k : ℕ) (t : State) (front : List Tree) (fs : List Frame) (y : Tree) → k ≤ 6 → Acts k t (or_frames front fs) y → Acts (max 3 k) t fs (any_of (front ++ y ∷ []))
either_acts k t [] fs y h a = acts_from k (max 3 k) t fs y (omega arith) a
either_acts k t (x ∷ xs) fs y h a =
    subst (λ (z : Tree). Acts (max 3 k) t fs z) (sym (any_of_more x xs y))
    (acts_fill k (max 3 k) t (Frame.Disjunction (x ∷ xs)) fs y (omega arith) (omega arith) (omega (arith, h)) a)

-- the next <-> goes past a body that has one
full_acts : (k : ℕ) (t : State) (u : Bool) (bs : List Binder) (l y : Tree) (fs : List Frame) → k ≤ 4 → Acts k t (Frame.Side l ∷ Frame.Body u bs ∷ fs) y → Acts 4 t fs (tree.Quantified u bs (tree.Iff l y))
full_acts k t u bs l y fs h a = record { steps = λ w sign g. a.steps w sign (omega (arith, h, g)) ∙ goes sign g; ends = a.ends }
  where
    goes : (sign : Sign) → 4 ≤ op_level sign → after (Frame.Side l ∷ Frame.Body u bs ∷ fs) y sign ≡ after fs (tree.Quantified u bs (tree.Iff l y)) sign
    goes Sign.DoubleArrow g = refl
    goes Sign.RightRound g = refl
    goes Sign.And g = absurd (omega arith)
    goes Sign.Or g = absurd (omega arith)
    goes Sign.Arrow g = absurd (omega arith)
    goes _ g = absurd (omega arith)

whole_acts : (base : Context) (k : ℕ) (ms : List Mark) (fs : List Frame) (x : Tree) (rest : List Mark) (i : Bool) → k ≤ 6 → WholeRead base k ms fs x rest i → FormulaRead base 6 (want fs) ms fs x rest
whole_acts base k ms fs x rest _ h (WholeRead.without r) = record { to = r.to; reads = r.reads; acts = acts_from k 6 r.to fs x h r.acts }
whole_acts base k ms fs x rest _ h (WholeRead.with_iff l y e r) =
    record {
      to = r.to;
      reads = r.reads;
      acts = subst (λ (z : Tree). Acts 6 r.to fs z) (sym e) (acts_fill k 6 r.to (Frame.Side l) fs y (omega arith) h (omega arith) r.acts);
    }

body_acts : (base : Context) (e : End) (i : Bool) (ms : List Mark) (u : Bool) (bs : List Binder) (fs : List Frame) (x : Tree) (rest : List Mark) →
    WholeRead base (max 4 (end_level e)) ms (Frame.Body u bs ∷ fs) x rest i → FormulaRead base (end_level (end_of i e)) (want (Frame.Body u bs ∷ fs)) ms fs (tree.Quantified u bs x) rest
body_acts base e false ms u bs fs x rest h =
    let r = whole_acts base (max 4 (end_level e)) ms (Frame.Body u bs ∷ fs) x rest false (omega (arith, end_high e)) h in
    record { to = r.to; reads = r.reads; acts = acts_fill 6 6 r.to (Frame.Body u bs) fs x (omega arith) (omega arith) (omega arith) r.acts }
body_acts base End.Open true ms u bs fs x rest h =
    let r = whole_acts base 6 ms (Frame.Body u bs ∷ fs) x rest true (omega arith) h in
    record { to = r.to; reads = r.reads; acts = acts_fill 6 6 r.to (Frame.Body u bs) fs x (omega arith) (omega arith) (omega arith) r.acts }
body_acts base End.Closed true ms u bs fs x rest (WholeRead.with_iff l y e r) =
    record { to = r.to; reads = r.reads; acts = subst (λ (z : Tree). Acts 4 r.to fs (tree.Quantified u bs z)) (sym e) (full_acts 4 r.to u bs l y fs (omega arith) r.acts) }
body_acts base End.Full true ms u bs fs x rest (WholeRead.with_iff l y e r) =
    record { to = r.to; reads = r.reads; acts = subst (λ (z : Tree). Acts 4 r.to fs (tree.Quantified u bs z)) (sym e) (full_acts 4 r.to u bs l y fs (omega arith) r.acts) }

either_of : (base : Context) (e : End) (ms : List Mark) (fs : List Frame) (xs : List Tree) (rest : List Mark) → BothsRead base (max 2 (end_level e)) ms fs xs rest → FormulaRead base (max 3 (end_level e)) (want fs) ms fs (any_of xs) rest
either_of base e ms fs xs rest r =
    let acts = either_acts (max 2 (end_level e)) r.to r.front fs r.last (omega (arith, end_high e)) r.acts in
    record {
      to = r.to;
      reads = r.reads;
      acts = acts_from (max 3 (max 2 (end_level e))) (max 3 (end_level e)) r.to fs (any_of xs) (omega arith) (subst (λ (ys : List Tree). Acts (max 3 (max 2 (end_level e))) r.to fs (any_of ys)) (sym r.are) acts);
    }

module _ (base : Context) where
  mutual
    pub single_read : {c : Context} {e : End} {ms rest : List Mark} {x : Tree} (fs : List Frame) → takes_formula fs ≡ true → context base fs ≡ c → IsSingle c e ms x rest → FormulaRead base (end_level e) (want fs) ms fs x rest
    single_read fs h q (IsSingle.negated {e = e} {x = x} n sign k) =
        let inner = single_read (Frame.Negation ∷ fs) refl (ap deeper q) k in
        record {
          to = inner.to;
          reads = reads_one base (want fs) (want (Frame.Negation ∷ fs)) n sign refl (ap (λ (c : Context). opening (c.nestings + 1)) q) inner.reads;
          acts = acts_fill (end_level e) (end_level e) inner.to Frame.Negation fs x (omega (arith, end_low e)) (omega arith) (end_high e) inner.acts;
        }
    single_read fs h q (IsSingle.fixed true m sign) =
        record { to = have fs (tree.Constant true); reads = reads_one base (want fs) _ m sign refl refl Reads.here; acts = have_acts 1 fs (tree.Constant true) }
    single_read fs h q (IsSingle.fixed false m sign) =
        record { to = have fs (tree.Constant false); reads = reads_one base (want fs) _ m sign refl refl Reads.here; acts = have_acts 1 fs (tree.Constant false) }
    single_read fs h q (IsSingle.bracketed {e = e} {i = i} {ms = ms} {rest = rest} {x = x} l r left k right) =
        let inner = whole_acts base (max 4 (end_level e)) ms (Frame.Bracket ∷ fs) x (r ∷ rest) i (omega (arith, end_high e)) (formula_read (Frame.Bracket ∷ fs) refl refl (ap deeper q) k) in
        record {
          to = have fs x;
          reads =
              reads_one base (want fs) (want (Frame.Bracket ∷ fs)) l left refl (ap (λ (c : Context). opening (c.nestings + 1)) q)
              (reads_last base inner.to (have fs x) r inner.reads right (inner.acts.steps r.word Sign.RightRound (omega arith)) refl);
          acts = have_acts 1 fs x;
        }
    single_read fs h q (IsSingle.atom k) = atom_read base fs h (ap (λ (c : Context). c.nestings) q) k
    single_read fs h q (IsSingle.quantified {e = e} {i = i} {us = us} {rest = rest} {bs = bs} {x = x} true p m sign binders dot k) =
        let gs : List Frame = Frame.Body true bs ∷ fs in
        let inner = body_acts base e i us true bs fs x rest (formula_read gs refl refl (ap (inside (length bs)) q) k) in
        record {
          to = inner.to;
          reads =
              reads_one base (want fs) (header fs true [] Stage.Variable) p sign refl (ap (λ (c : Context). opening (c.nestings + 1)) q)
              (reads_on base
              (reads_last base (header fs true bs Stage.Next) (want gs) m (binders_read base fs true (ap (λ (c : Context). c.variables) q) binders) dot refl refl)
              inner.reads);
          acts = inner.acts;
        }
    single_read fs h q (IsSingle.quantified {e = e} {i = i} {us = us} {rest = rest} {bs = bs} {x = x} false p m sign binders dot k) =
        let gs : List Frame = Frame.Body false bs ∷ fs in
        let inner = body_acts base e i us false bs fs x rest (formula_read gs refl refl (ap (inside (length bs)) q) k) in
        record {
          to = inner.to;
          reads =
              reads_one base (want fs) (header fs false [] Stage.Variable) p sign refl (ap (λ (c : Context). opening (c.nestings + 1)) q)
              (reads_on base
              (reads_last base (header fs false bs Stage.Next) (want gs) m (binders_read base fs false (ap (λ (c : Context). c.variables) q) binders) dot refl refl)
              inner.reads);
          acts = inner.acts;
        }

    pub singles_read : {c : Context} {e : End} {ms rest : List Mark} {xs : List Tree} (fs : List Frame) → takes_formula fs ≡ true → firm 2 fs ≡ true → context base fs ≡ c → AreSingles c e ms xs rest → SinglesRead base (end_level e) ms fs xs rest
    singles_read fs h f q (AreSingles.one_single {x = x} k) =
        let inner = single_read fs h q k in
        record { to = inner.to; front = []; last = x; are = refl; reads = inner.reads; acts = inner.acts }
    singles_read fs h f q (AreSingles.more_singles {e = e} {ms = ms} {us = us} {rest = rest} {y = y} m ks sign k) =
        let first = singles_read fs h f q ks in
        let front : List Tree = first.front ++ first.last ∷ [] in
        let inner = single_read (Frame.Conjunction front ∷ fs) refl q k in
        record {
          to = inner.to;
          front = front;
          last = y;
          are = ap (λ (xs : List Tree). xs ++ y ∷ []) first.are;
          reads =
              reads_on base
              (reads_last base first.to (want (Frame.Conjunction front ∷ fs)) m first.reads sign
              (first.acts.steps m.word Sign.And (omega arith) ∙ and_step first.front fs first.last f) refl)
              inner.reads;
          acts = subst (λ (gs : List Frame). Acts (end_level e) inner.to gs y) (sym (and_frames_more first.front first.last fs)) inner.acts;
        }

    pub boths_read : {c : Context} {e : End} {ms rest : List Mark} {xs : List Tree} (fs : List Frame) → takes_formula fs ≡ true → firm 3 fs ≡ true → context base fs ≡ c → AreBoths c e ms xs rest → BothsRead base (max 2 (end_level e)) ms fs xs rest
    boths_read fs h f q (AreBoths.one_both {e = e} {xs = xs} ks) =
        let inner = singles_read fs h (firm_from 2 3 fs (omega arith) f) q ks in
        record {
          to = inner.to;
          front = [];
          last = all_of xs;
          are = refl;
          reads = inner.reads;
          acts = subst (λ (ys : List Tree). Acts (max 2 (end_level e)) inner.to fs (all_of ys)) (sym inner.are) (run_acts (end_level e) inner.to inner.front fs inner.last (end_high e) inner.acts);
        }
    boths_read fs h f q (AreBoths.more_boths {e = e} {ys = ys} m ks sign k) =
        let first = boths_read fs h f q ks in
        let front : List Tree = first.front ++ first.last ∷ [] in
        let gs : List Frame = Frame.Disjunction front ∷ fs in
        let inner = singles_read gs refl refl q k in
        record {
          to = inner.to;
          front = front;
          last = all_of ys;
          are = ap (λ (xs : List Tree). xs ++ all_of ys ∷ []) first.are;
          reads =
              reads_on base
              (reads_last base first.to (want gs) m first.reads sign
              (first.acts.steps m.word Sign.Or (omega arith) ∙ or_step first.front fs first.last f) refl)
              inner.reads;
          acts = subst (λ (hs : List Frame). Acts (max 2 (end_level e)) inner.to hs (all_of ys)) (sym (or_frames_more first.front first.last fs))
              (subst (λ (zs : List Tree). Acts (max 2 (end_level e)) inner.to gs (all_of zs)) (sym inner.are) (run_acts (end_level e) inner.to inner.front gs inner.last (end_high e) inner.acts));
        }

    pub implied_read : {c : Context} {e : End} {ms rest : List Mark} {x : Tree} (fs : List Frame) → takes_formula fs ≡ true → firm 3 fs ≡ true → context base fs ≡ c → IsImplied c e ms x rest → FormulaRead base (max 4 (end_level e)) (want fs) ms fs x rest
    implied_read fs h f q (IsImplied.last_implied {e = e} {xs = xs} ks) =
        let inner = either_of base e _ fs xs _ (boths_read fs h f q ks) in
        record { to = inner.to; reads = inner.reads; acts = acts_from (max 3 (end_level e)) (max 4 (end_level e)) inner.to fs (any_of xs) (omega arith) inner.acts }
    implied_read fs h f q (IsImplied.more_implied {e = e} {xs = xs} {y = y} m ks sign k) =
        let first = either_of base End.Closed _ fs xs _ (boths_read fs h f q ks) in
        let gs : List Frame = Frame.Premise (any_of xs) ∷ fs in
        let inner = implied_read gs refl refl (ap deeper q) k in
        record {
          to = inner.to;
          reads =
              reads_on base
              (reads_last base first.to (want gs) m first.reads sign
              (first.acts.steps m.word Sign.Arrow (omega arith) ∙ arrow_step fs (any_of xs) f) (ap (λ (c : Context). opening (c.nestings + 1)) q))
              inner.reads;
          acts = acts_fill (max 4 (end_level e)) (max 4 (end_level e)) inner.to (Frame.Premise (any_of xs)) fs y (omega arith) (omega arith) (omega (arith, end_high e)) inner.acts;
        }

    pub formula_read : {c : Context} {e : End} {i : Bool} {ms rest : List Mark} {x : Tree} (fs : List Frame) → takes_formula fs ≡ true → firm 5 fs ≡ true → context base fs ≡ c → IsFormula c e i ms x rest → WholeRead base (max 4 (end_level e)) ms fs x rest i
    formula_read fs h f q (IsFormula.implied k) = WholeRead.without (implied_read fs h (firm_from 3 5 fs (omega arith) f) q k)
    formula_read fs h f q (IsFormula.joined {e = e} {f = g} {x = x} {y = y} m k takes sign l) =
        let first = implied_read fs h (firm_from 3 5 fs (omega arith) f) q k in
        let gs : List Frame = Frame.Side x ∷ fs in
        let inner = implied_read gs refl refl (ap beside q) l in
        WholeRead.with_iff x y refl
        (record {
          to = inner.to;
          reads =
              reads_on base
              (reads_last base first.to (want gs) m first.reads sign
              (first.acts.steps m.word Sign.DoubleArrow (omega (arith, iff_low g takes)) ∙ double_step fs x f)
              (ap (λ (c : Context). joining (c.nestings + 1) (c.iffs + 1 + longest_path x)) q))
              inner.reads;
          acts = inner.acts;
        })

-- the machine reads what is spelled, and ends in it
pub record Ends (base : Context) (ms : List Mark) (x : Tree) (rest : List Mark) : Type 0 where
  pub to : State
  pub reads : Reads base start ms to rest
  pub ends : finish to ≡ Some x

pub formula_complete : (base : Context) (e : End) (i : Bool) (ms : List Mark) (x : Tree) (rest : List Mark) → IsFormula base e i ms x rest → Ends base ms x rest
formula_complete base e i ms x rest h =
    let r = whole_acts base (max 4 (end_level e)) ms [] x rest i (omega (arith, end_high e)) (formula_read base [] refl refl refl h) in
    record { to = r.to; reads = r.reads; ends = r.acts.ends }
