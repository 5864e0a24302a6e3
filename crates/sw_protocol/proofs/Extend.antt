-- What is spelled with nothing after it is spelled with more marks after it.
use Rattle.std.proofs.Common.{ℕ, Bool, List, ◌++◌}
use Rattle.sw_trees.specs.declared.words.Word.{Word}
use Rattle.sw_trees.specs.declared.tree.Binder.{Binder}
use Rattle.sw_trees.specs.declared.tree.TermTree.{TermTree}
use Rattle.sw_trees.specs.declared.tree.Tree.{Tree}
use Rattle.sw_trees.specs.Grammar.{Mark, Context, End, IsHead, IsTerm, AreTerms, IsBinder, AreBinders, IsAtom, IsSingle, AreSingles, AreBoths, IsImplied, IsFormula}

module _ (back : List Mark) where
  head_on : {ms rest : List Mark} {w : Word} {p : Bool} → IsHead ms w p rest → IsHead (ms ++ back) w p (rest ++ back)
  head_on (IsHead.plain n h) = IsHead.plain n h
  head_on (IsHead.primed n p h k) = IsHead.primed n p h k

  mutual
    term_on : {d : ℕ} {ms rest : List Mark} {t : TermTree} → IsTerm d ms t rest → IsTerm d (ms ++ back) t (rest ++ back)
    term_on (IsTerm.bare h) = IsTerm.bare (head_on h)
    term_on (IsTerm.applied l r h left k right) = IsTerm.applied l r (head_on h) left (terms_on k) right

    terms_on : {d : ℕ} {ms rest : List Mark} {ts : List TermTree} → AreTerms d ms ts rest → AreTerms d (ms ++ back) ts (rest ++ back)
    terms_on (AreTerms.one_term h) = AreTerms.one_term (term_on h)
    terms_on (AreTerms.more_terms m hs i h) = AreTerms.more_terms m (terms_on hs) i (term_on h)

  binder_on : {v : ℕ} {ms rest : List Mark} {b : Binder} → IsBinder v ms b rest → IsBinder v (ms ++ back) b (rest ++ back)
  binder_on (IsBinder.binder n c s i j k) = IsBinder.binder n c s i j k

  binders_on : {v : ℕ} {ms rest : List Mark} {bs : List Binder} → AreBinders v ms bs rest → AreBinders v (ms ++ back) bs (rest ++ back)
  binders_on (AreBinders.one_binder h) = AreBinders.one_binder (binder_on h)
  binders_on (AreBinders.more_binders m hs i h) = AreBinders.more_binders m (binders_on hs) i (binder_on h)

  atom_on : {d : ℕ} {ms rest : List Mark} {x : Tree} → IsAtom d ms x rest → IsAtom d (ms ++ back) x (rest ++ back)
  atom_on (IsAtom.holds h) = IsAtom.holds (term_on h)
  atom_on (IsAtom.compared n m h i k) = IsAtom.compared n m (term_on h) i (term_on k)

  mutual
    single_on : {c : Context} {e : End} {ms rest : List Mark} {x : Tree} → IsSingle c e ms x rest → IsSingle c e (ms ++ back) x (rest ++ back)
    single_on (IsSingle.negated n i h) = IsSingle.negated n i (single_on h)
    single_on (IsSingle.fixed value m i) = IsSingle.fixed value m i
    single_on (IsSingle.bracketed l r left h right) = IsSingle.bracketed l r left (formula_on h) right
    single_on (IsSingle.atom h) = IsSingle.atom (atom_on h)
    single_on (IsSingle.quantified u q m i bs d h) = IsSingle.quantified u q m i (binders_on bs) d (formula_on h)

    singles_on : {c : Context} {e : End} {ms rest : List Mark} {xs : List Tree} → AreSingles c e ms xs rest → AreSingles c e (ms ++ back) xs (rest ++ back)
    singles_on (AreSingles.one_single h) = AreSingles.one_single (single_on h)
    singles_on (AreSingles.more_singles m hs i h) = AreSingles.more_singles m (singles_on hs) i (single_on h)

    boths_on : {c : Context} {e : End} {ms rest : List Mark} {xs : List Tree} → AreBoths c e ms xs rest → AreBoths c e (ms ++ back) xs (rest ++ back)
    boths_on (AreBoths.one_both h) = AreBoths.one_both (singles_on h)
    boths_on (AreBoths.more_boths m hs i h) = AreBoths.more_boths m (boths_on hs) i (singles_on h)

    implied_on : {c : Context} {e : End} {ms rest : List Mark} {x : Tree} → IsImplied c e ms x rest → IsImplied c e (ms ++ back) x (rest ++ back)
    implied_on (IsImplied.last_implied h) = IsImplied.last_implied (boths_on h)
    implied_on (IsImplied.more_implied m h i k) = IsImplied.more_implied m (boths_on h) i (implied_on k)

    pub formula_on : {c : Context} {e : End} {i : Bool} {ms rest : List Mark} {x : Tree} → IsFormula c e i ms x rest → IsFormula c e i (ms ++ back) x (rest ++ back)
    formula_on (IsFormula.implied h) = IsFormula.implied (implied_on h)
    formula_on (IsFormula.joined m h t i k) = IsFormula.joined m (implied_on h) t i (implied_on k)
