-- What is spelled within the limits, by names of a text, is a tidy tree.
use Rattle.std.specs.Prelude.{◌≡◌, ℕ, ◌+◌, ◌≤◌, max, Bool, true, false, cond, List, [], ◌∷◌, ◌++◌, length, map, take, drop, Option, Some, Result, Ok, Err, IfOk, if◌then◌else◌, codes}
use Rattle.std.specs.List.{AllByRecursion, list_all}
use Rattle.std.specs.Map.{lookup}
use Rattle.std.specs.Str.{bytes_eq}
use Rattle.std.proofs.Common.{refl, sym, ap, subst, ◌∙◌, arith, length-append}
use Rattle.std.proofs.lemmas.Bool.{and_parts}
use Rattle.sw_logic.specs.Canonical.{Shown}
use Rattle.sw_logic.specs.declared.variables.TheConstants.{VARIABLES}
use Rattle.sw_scan.specs.declared.Kind.{Kind}
use Rattle.sw_scan.specs.declared.Token.{Token}
use Rattle.sw_scan.specs.Spelling.{is_name, is_number, marks as mark_texts, kind_of}
use Rattle.sw_scan.specs.Scans.{Scans, before}
use Rattle.sw_trees.specs.declared.words.Sign.{Sign}
use Rattle.sw_trees.specs.declared.words.Word.{Word}
use Rattle.sw_trees.specs.declared.tree.Binder.{Binder}
use Rattle.sw_trees.specs.declared.tree.TermTree.{TermTree}
use Rattle.sw_trees.specs.declared.tree.TermTree.TheVariants as term
use Rattle.sw_trees.specs.declared.tree.Tree.{Tree}
use Rattle.sw_trees.specs.declared.tree.Tree.TheVariants as tree
use Rattle.sw_trees.specs.Words.{word_of, sign_of, sign_by}
use Rattle.sw_trees.specs.Measures.{Nestings, longest_path}
use Rattle.sw_trees.specs.Grammar.{Mark, Context, End, joining, binding, inside, all_of, any_of, IsHead, IsTerm, AreTerms, IsBinder, AreBinders, IsAtom, IsSingle, AreSingles, AreBoths, IsImplied, IsFormula}
use Rattle.sw_trees.specs.Limits.{IsWithin}
use Rattle.sw_trees.specs.Answers.{words_in}
use Rattle.sw_readback.proofs.Tidy.{IsNameText, IsNameIn, TidyTerm, TidyTerms, TidyBinder, TidyBinders, Tidy, TidyRun}

-- a token that is a name is one of the text
abbrev pub IsGoodToken : List ℕ → Token → Type 0
IsGoodToken T t = sign_of T t ≡ Sign.Name → IsNameText (take t.len (drop t.at T))

abbrev other : Kind → Bool
other Kind.Name = false
other k = true

lookup_other : (test : List ℕ → Bool) (es : List (List ℕ × Kind)) → list_all (λ e. other e.1) es ≡ true → lookup test es ≡ Some Kind.Name → ⊥
lookup_other test [] all found = cc
lookup_other test (e ∷ es) all found =
    let parts = and_parts (other e.1) (list_all (λ d. other d.1) es) all in
    here e.1 (test e.0) (lookup test es) parts.0 (lookup_other test es parts.1) found
  where
    here : (k : Kind) (b : Bool) (rest : Option Kind) → other k ≡ true → (rest ≡ Some Kind.Name → ⊥) → cond b (Some k) rest ≡ Some Kind.Name → ⊥
    here k true rest o f e = let same : k ≡ Kind.Name = cc in let bad : other Kind.Name ≡ true = ap other (sym same) ∙ o in cc
    here k false rest o f e = f e

name_kind : (bs : List ℕ) → kind_of bs ≡ Some Kind.Name → is_name bs ≡ true
name_kind bs e = here (is_name bs) (is_number bs) (lookup (bytes_eq bs) mark_texts) (lookup_other (bytes_eq bs) mark_texts refl) e
  where
    here : (n m : Bool) (o : Option Kind) → (o ≡ Some Kind.Name → ⊥) → (if n then Some Kind.Name else (if m then Some Kind.Number else o)) ≡ Some Kind.Name → n ≡ true
    here true m o f e = refl
    here false true o f e = cc
    here false false o f e = absurd (f e)

kind_named : (k : Kind) (bs : List ℕ) → kind_of bs ≡ Some k → sign_by k bs ≡ Sign.Name → IsNameText bs
kind_named Kind.Name bs e s = record { name = name_kind bs e; sign = s }
kind_named Kind.Number bs e s = cc
kind_named Kind.LeftRound bs e s = cc
kind_named Kind.RightRound bs e s = cc
kind_named Kind.Comma bs e s = cc
kind_named Kind.Colon bs e s = cc
kind_named Kind.Semicolon bs e s = cc
kind_named Kind.Dot bs e s = cc
kind_named Kind.Prime bs e s = cc
kind_named Kind.Equal bs e s = cc
kind_named Kind.NotEqual bs e s = cc
kind_named Kind.Not bs e s = cc
kind_named Kind.And bs e s = cc
kind_named Kind.Or bs e s = cc
kind_named Kind.Arrow bs e s = cc
kind_named Kind.DoubleArrow bs e s = cc

before_good : (T : List ℕ) (t : Token) (r : Result (List Token) ℕ) → IsGoodToken T t → IfOk r (λ ts. AllByRecursion (IsGoodToken T) ts) → IfOk (before (t ∷ []) r) (λ ts. AllByRecursion (IsGoodToken T) ts)
before_good T t (Ok rest) h k = (h, k)
before_good T t (Err at) h k = tt

pub scanned_good : (T : List ℕ) {at : ℕ} {r : Result (List Token) ℕ} → Scans T at r → IfOk r (λ ts. AllByRecursion (IsGoodToken T) ts)
scanned_good T (Scans.end e) = tt
scanned_good T (Scans.blank inside b h) = scanned_good T h
scanned_good T (Scans.comment next c h) = scanned_good T h
scanned_good T (Scans.token {at = at} {r = r} k n first h) = before_good T (record { kind = k; at = at; len = n }) r (λ s. kind_named k (take n (drop at T)) first.kind s) (scanned_good T h)
scanned_good T (Scans.bad inside b c d) = tt

-- a mark that goes past no limit, and where it is a name, it is one of the text
pub record IsGood (A : List ℕ) (m : Mark) : Type 0 where
  pub within : IsWithin m.loads
  pub named : m.word.sign ≡ Sign.Name → IsNameIn A m.word

abbrev pub AllGood : List ℕ → List Mark → Type 0
AllGood A ms = AllByRecursion (IsGood A) ms

good_word : (A : List ℕ) (t : Token) (w : Word) → w ≡ word_of A t → IsGoodToken A t → w.sign ≡ Sign.Name → IsNameIn A w
good_word A t w e h s = subst (IsNameIn A) (sym e) (h (ap (λ (u : Word). u.sign) (sym e) ∙ s))

pub marks_good : (A : List ℕ) (ms : List Mark) (ts : List Token) → words_in ms ≡ map (word_of A) ts → AllByRecursion (IsGoodToken A) ts → AllByRecursion (λ (m : Mark). IsWithin m.loads) ms → AllGood A ms
marks_good A [] ts e h w = tt
marks_good A (m ∷ ms) [] e h w = cc
marks_good A (m ∷ ms) (t ∷ ts) e h w =
    let first : m.word ≡ word_of A t = cc in
    let rest : words_in ms ≡ map (word_of A) ts = cc in
    (record { within = w.0; named = good_word A t m.word first h.0 }, marks_good A ms ts rest h.1 w.1)

all_snoc : {X : Type 0} (P : X → Type 0) (xs : List X) (x : X) → AllByRecursion P xs → P x → AllByRecursion P (xs ++ x ∷ [])
all_snoc P [] x h k = (k, tt)
all_snoc P (y ∷ ys) x h k = (h.0, all_snoc P ys x h.1 k)

module _ (A : List ℕ) where
  abbrev pub HasTerm : TermTree → Type 0
  HasTerm t = (x : List ℕ) × ((n : ℕ) × TidyTerm A t x n)

  abbrev pub HasTerms : List TermTree → Type 0
  HasTerms ts = (x : List ℕ) × ((n : ℕ) × TidyTerms A ts x n)

  abbrev pub HasBinders : List Binder → Type 0
  HasBinders bs = (x : List ℕ) × TidyBinders A bs x

  abbrev pub HasTidy : ℕ → ℕ → Tree → Type 0
  HasTidy i v p = (s : Shown) × ((n : Nestings) × Tidy A i v p s n)

  abbrev HasRun : List ℕ → ℕ → ℕ → List Tree → Type 0
  HasRun sign i v ps = (x : List ℕ) × ((k : ℕ) × TidyRun A sign i v ps x k)

  -- one or more
  pub record FirstTerm (ts : List TermTree) : Type 0 where
    pub first : TermTree
    pub others : List TermTree
    pub are : ts ≡ first ∷ others
    pub first_tidy : HasTerm first
    pub others_tidy : AllByRecursion HasTerm others

  pub record FirstBinder (bs : List Binder) : Type 0 where
    pub first : Binder
    pub others : List Binder
    pub are : bs ≡ first ∷ others
    pub first_tidy : TidyBinder A first
    pub others_tidy : AllByRecursion (TidyBinder A) others

  terms_of : (ts : List TermTree) → AllByRecursion HasTerm ts → HasTerms ts
  terms_of [] h = ([], (0, TidyTerms.no_terms))
  terms_of (t ∷ ts) h = let rest = terms_of ts h.1 in (codes ", " ++ (h.0.0 ++ rest.0), (max h.0.1.0 rest.1.0, TidyTerms.more_terms h.0.1.1 rest.1.1))

  binders_of : (bs : List Binder) → AllByRecursion (TidyBinder A) bs → HasBinders bs
  binders_of [] h = ([], TidyBinders.no_binders)
  binders_of (b ∷ bs) h = let rest = binders_of bs h.1 in (_, TidyBinders.more_binders h.0 rest.1)

  run_of : (sign : List ℕ) (i v : ℕ) (ps : List Tree) → AllByRecursion (HasTidy i v) ps → HasRun sign i v ps
  run_of sign i v [] h = ([], (0, TidyRun.no_more))
  run_of sign i v (p ∷ ps) h = let rest = run_of sign i v ps h.1 in (_, (_, TidyRun.one_more h.0.1.1 rest.1.1))

  whole_all : (i v : ℕ) (ps : List Tree) → AllByRecursion (HasTidy i v) ps → 1 ≤ length ps → HasTidy i v (all_of ps)
  whole_all i v [] h l = absurd (omega arith)
  whole_all i v (p ∷ []) h l = h.0
  whole_all i v (p ∷ q ∷ ps) h l = let rest = run_of (codes " & ") i v (q ∷ ps) h.1 in (_, (_, Tidy.all h.0.1.1 rest.1.1))

  whole_any : (i v : ℕ) (ps : List Tree) → AllByRecursion (HasTidy i v) ps → 1 ≤ length ps → HasTidy i v (any_of ps)
  whole_any i v [] h l = absurd (omega arith)
  whole_any i v (p ∷ []) h l = h.0
  whole_any i v (p ∷ q ∷ ps) h l = let rest = run_of (codes " | ") i v (q ∷ ps) h.1 in (_, (_, Tidy.any h.0.1.1 rest.1.1))

  head_tidy : {ms rest : List Mark} {w : Word} {primed : Bool} → IsHead ms w primed rest → AllGood A ms → IsNameIn A w × AllGood A rest
  head_tidy (IsHead.plain n is) g = (g.0.named is.sign_is, g.1)
  head_tidy (IsHead.primed n p is q) g = (g.0.named is.sign_is, g.1.1)

  applied_tidy : (w : Word) (primed : Bool) (ts : List TermTree) → IsNameIn A w → FirstTerm ts → HasTerm (term.Applied w primed ts)
  applied_tidy w primed ts name f =
      let more = terms_of f.others f.others_tidy in
      subst (λ us. HasTerm (term.Applied w primed us)) (sym f.are) (_, (_, TidyTerm.applied primed name f.first_tidy.1.1 more.1.1))

  more_tidy : (ts : List TermTree) (u : TermTree) → FirstTerm ts → HasTerm u → FirstTerm (ts ++ u ∷ [])
  more_tidy ts u f h = record { first = f.first; others = f.others ++ u ∷ []; are = ap (λ us. us ++ u ∷ []) f.are; first_tidy = f.first_tidy; others_tidy = all_snoc HasTerm f.others u f.others_tidy h }

  more_bound : (bs : List Binder) (b : Binder) → FirstBinder bs → TidyBinder A b → FirstBinder (bs ++ b ∷ [])
  more_bound bs b f h = record { first = f.first; others = f.others ++ b ∷ []; are = ap (λ cs. cs ++ b ∷ []) f.are; first_tidy = f.first_tidy; others_tidy = all_snoc (TidyBinder A) f.others b f.others_tidy h }

  mutual
    term_tidy : {d : ℕ} {ms rest : List Mark} {t : TermTree} → IsTerm d ms t rest → AllGood A ms → HasTerm t × AllGood A rest
    term_tidy (IsTerm.bare {primed = primed} h) g = let name = head_tidy h g in ((_, (_, TidyTerm.named primed name.0)), name.1)
    term_tidy (IsTerm.applied {w = w} {primed = primed} {ts = ts} l r h left k right) g =
        let name = head_tidy h g in
        let inner = terms_tidy k name.1.1 in
        (applied_tidy w primed ts name.0 inner.0, inner.1.1)

    terms_tidy : {d : ℕ} {ms rest : List Mark} {ts : List TermTree} → AreTerms d ms ts rest → AllGood A ms → FirstTerm ts × AllGood A rest
    terms_tidy (AreTerms.one_term {t = t} h) g = let inner = term_tidy h g in (record { first = t; others = []; are = refl; first_tidy = inner.0; others_tidy = tt }, inner.1)
    terms_tidy (AreTerms.more_terms {ts = ts} {u = u} m h is k) g =
        let front = terms_tidy h g in
        let last = term_tidy k front.1.1 in
        (more_tidy ts u front.0 last.0, last.1)

  binder_tidy : {v : ℕ} {ms rest : List Mark} {b : Binder} → IsBinder v ms b rest → AllGood A ms → TidyBinder A b × (v + 1 ≤ VARIABLES) × AllGood A rest
  binder_tidy {v = v} (IsBinder.binder n c s is colon sort) g =
      (record { name = g.0.named is.sign_is; sort = g.1.1.0.named sort.sign_is }, let w : IsWithin (binding (v + 1)) = subst IsWithin is.loads_are g.0.within in w.variables, g.1.1.1)

  binders_tidy : {v : ℕ} {ms rest : List Mark} {bs : List Binder} → AreBinders v ms bs rest → AllGood A ms → FirstBinder bs × (v + length bs ≤ VARIABLES) × AllGood A rest
  binders_tidy (AreBinders.one_binder {b = b} h) g =
      let inner = binder_tidy h g in (record { first = b; others = []; are = refl; first_tidy = inner.0; others_tidy = tt }, omega (arith, inner.1), inner.2)
  binders_tidy (AreBinders.more_binders {bs = bs} {b = b} m h is k) g =
      let front = binders_tidy h g in
      let last = binder_tidy k front.2.1 in
      (more_bound bs b front.0 last.0, omega (arith, last.1, length-append bs (b ∷ [])), last.2)

  atom_tidy : {d : ℕ} {i v : ℕ} {ms rest : List Mark} {x : Tree} → IsAtom d ms x rest → AllGood A ms → HasTidy i v x × AllGood A rest
  atom_tidy (IsAtom.holds h) g = let inner = term_tidy h g in ((_, (_, Tidy.atom inner.0.1.1)), inner.1)
  atom_tidy (IsAtom.compared true m h is k) g =
      let left = term_tidy h g in
      let right = term_tidy k left.1.1 in
      ((_, (_, Tidy.negated (Tidy.equal left.0.1.1 right.0.1.1))), right.1)
  atom_tidy (IsAtom.compared false m h is k) g =
      let left = term_tidy h g in
      let right = term_tidy k left.1.1 in
      ((_, (_, Tidy.equal left.0.1.1 right.0.1.1)), right.1)

  quantified_tidy : (i v : ℕ) (universal : Bool) (bs : List Binder) (x : Tree) → FirstBinder bs → v + length bs ≤ VARIABLES → HasTidy i (v + length bs) x → HasTidy i v (tree.Quantified universal bs x)
  quantified_tidy i v universal bs x f limit h =
      let more = binders_of f.others f.others_tidy in
      let inner : HasTidy i (v + length (f.first ∷ f.others)) x = subst (λ cs. HasTidy i (v + length cs) x) f.are h in
      subst (λ cs. HasTidy i v (tree.Quantified universal cs x)) (sym f.are)
      (_, (_, Tidy.quantified universal f.first_tidy more.1 (subst (λ cs. v + length cs ≤ VARIABLES) f.are limit) inner.1.1))

  mutual
    single_tidy : {c : Context} {e : End} {ms rest : List Mark} {x : Tree} → IsSingle c e ms x rest → AllGood A ms → HasTidy c.iffs c.variables x × AllGood A rest
    single_tidy (IsSingle.negated n is h) g = let inner = single_tidy h g.1 in ((_, (_, Tidy.negated inner.0.1.1)), inner.1)
    single_tidy (IsSingle.fixed value m is) g = ((_, (_, Tidy.constant value)), g.1)
    single_tidy (IsSingle.bracketed l r left h right) g = let inner = formula_tidy h g.1 in (inner.0, inner.1.1)
    single_tidy (IsSingle.atom h) g = atom_tidy h g
    single_tidy {c = c} (IsSingle.quantified {bs = bs} {x = x} universal q m is h dot k) g =
        let binders = binders_tidy h g.1 in
        let inner = formula_tidy k binders.2.1 in
        (quantified_tidy c.iffs c.variables universal bs x binders.0 binders.1 inner.0, inner.1)

    singles_tidy : {c : Context} {e : End} {ms rest : List Mark} {xs : List Tree} → AreSingles c e ms xs rest → AllGood A ms → AllByRecursion (HasTidy c.iffs c.variables) xs × (1 ≤ length xs) × AllGood A rest
    singles_tidy (AreSingles.one_single h) g = let inner = single_tidy h g in ((inner.0, tt), omega arith, inner.1)
    singles_tidy {c = c} (AreSingles.more_singles {xs = xs} {y = y} m h is k) g =
        let front = singles_tidy h g in
        let last = single_tidy k front.2.1 in
        (all_snoc (HasTidy c.iffs c.variables) xs y front.0 last.0, omega (arith, length-append xs (y ∷ [])), last.1)

    boths_tidy : {c : Context} {e : End} {ms rest : List Mark} {xs : List Tree} → AreBoths c e ms xs rest → AllGood A ms → AllByRecursion (HasTidy c.iffs c.variables) xs × (1 ≤ length xs) × AllGood A rest
    boths_tidy {c = c} (AreBoths.one_both {xs = xs} h) g = let inner = singles_tidy h g in ((whole_all c.iffs c.variables xs inner.0 inner.1, tt), omega arith, inner.2)
    boths_tidy {c = c} (AreBoths.more_boths {xs = xs} {ys = ys} m h is k) g =
        let front = boths_tidy h g in
        let last = singles_tidy k front.2.1 in
        (all_snoc (HasTidy c.iffs c.variables) xs (all_of ys) front.0 (whole_all c.iffs c.variables ys last.0 last.1), omega (arith, length-append xs (all_of ys ∷ [])), last.2)

    implied_tidy : {c : Context} {e : End} {ms rest : List Mark} {x : Tree} → IsImplied c e ms x rest → AllGood A ms → HasTidy c.iffs c.variables x × AllGood A rest
    implied_tidy {c = c} (IsImplied.last_implied {xs = xs} h) g = let inner = boths_tidy h g in (whole_any c.iffs c.variables xs inner.0 inner.1, inner.2)
    implied_tidy {c = c} (IsImplied.more_implied {xs = xs} m h is k) g =
        let front = boths_tidy h g in
        let last = implied_tidy k front.2.1 in
        let left = whole_any c.iffs c.variables xs front.0 front.1 in
        ((_, (_, Tidy.implies left.1.1 last.0.1.1)), last.1)

    -- a formula that is spelled within the limits is tidy
    pub formula_tidy : {c : Context} {e : End} {i : Bool} {ms rest : List Mark} {x : Tree} → IsFormula c e i ms x rest → AllGood A ms → HasTidy c.iffs c.variables x × AllGood A rest
    formula_tidy (IsFormula.implied h) g = implied_tidy h g
    formula_tidy {c = c} (IsFormula.joined {x = x} m h takes is k) g =
        let front = implied_tidy h g in
        let last = implied_tidy k front.1.1 in
        let w : IsWithin (joining (c.nestings + 1) (c.iffs + 1 + longest_path x)) = subst IsWithin is.loads_are front.1.0.within in
        ((_, (_, Tidy.iff w.path front.0.1.1 last.0.1.1)), last.1)
