-- The pieces of each kind of formula, as the code makes them.
use Rattle.std.specs.Prelude.{◌≡◌, ℕ, suc, ◌+◌, ◌<◌, ◌≤◌, Bool, List, [], ◌∷◌, ◌++◌, length, map, drop, get_or}
use Rattle.std.specs.List.{flat_map}
use Rattle.std.proofs.Common.{rules, arith, refl, sym, ap, subst, ◌∙◌}
use Rattle.std.proofs.lemmas.List.{append-nil, append_assoc, drop_more, drop_all, length-append}
use Rattle.sw_logic.specs.declared.syntax.Binder.{Binder}
use Rattle.sw_logic.specs.declared.syntax.Term.{Term}
use Rattle.sw_logic.specs.declared.syntax.Formula.{Formula, the_lemmas}
use Rattle.sw_logic.specs.declared.syntax.Formula.TheVariants.{True, False, Holds, Equal, Not, All, Any, Implies, Iff, ForAll, Exists}
use Rattle.sw_logic.specs.declared.syntax.Formula.TheOpen.{Formula-F}
use Rattle.sw_truth.specs.declared.sets.Piece.{Piece}
use Rattle.sw_logic.specs.Terms.{put, variables}
use Rattle.sw_skolem.specs.Pieces.{Part, Pulled, PulledAll, part_of, part_step, before, bare, negated, conjoined, disjoined, behind, bound_all, pieces_of, whole}
use Rattle.sw_skolem.specs.Piecing.{pulled_in, pulled_all_in, IsPulled, ArePulled, sorts_of, one_piece}
use Rattle.sw_skolem.proofs.PieceParts.{piece-True, piece-False, piece-Holds, piece-Equal, piece-Not, piece-All, piece-Any, piece-ForAll}

piece-Implies : (p q : Formula) → part_of (Implies p q) ≡ part_step (Formula-F.Implies (part_of p) (part_of q))
piece-Implies p q = search (rules, the_lemmas)

piece-Iff : (p q : Formula) → part_of (Iff p q) ≡ part_step (Formula-F.Iff (part_of p) (part_of q))
piece-Iff p q = search (rules, the_lemmas)

piece-Exists : (bs : List Binder) (p : Formula) → part_of (Exists bs p) ≡ part_step (Formula-F.Exists bs (part_of p))
piece-Exists bs p = search (rules, the_lemmas)

sorts_long : (bs : List Binder) → length (sorts_of bs) ≡ length bs
sorts_long [] = refl
sorts_long (b ∷ bs) = ap suc (sorts_long bs)

module _ (terms : List Term) (first : ℕ) (vars : List ℕ) where
  abbrev at : Part → Pulled
  at p = p.pulled terms (first + length vars)

  abbrev all_at : List Formula → PulledAll
  all_at ps = pulled_all_in ps terms (first + length vars)

  -- from one formula, and one step, to the other
  stepped : (f g x : Formula) (after : List ℕ) (r : Pulled) → f ≡ g → at (part_of g) ≡ r → x ≡ r.formula → after ≡ vars ++ r.vars → IsPulled f terms first vars x after
  stepped f g x after r e step here there =
      let whole : at (part_of f) ≡ r = ap (λ (h : Formula). at (part_of h)) e ∙ step in
      record { formula = here ∙ ap (λ (k : Pulled). k.formula) (sym whole); sorts = there ∙ ap (λ (k : Pulled). vars ++ k.vars) (sym whole) }

  -- where nothing is pulled out
  bared : (f g x y : Formula) → f ≡ g → at (part_of g) ≡ bare y → x ≡ y → IsPulled f terms first vars x vars
  bared f g x y e step here = stepped f g x vars (bare y) e step here (sym (append-nil vars))

  pub true_pulled : (f : Formula) → f ≡ True → IsPulled f terms first vars True vars
  true_pulled f e = bared f True True True e (ap at piece-True) refl

  pub false_pulled : (f : Formula) → f ≡ False → IsPulled f terms first vars False vars
  false_pulled f e = bared f False False False e (ap at piece-False) refl

  pub implies_pulled : (f p q : Formula) → f ≡ Implies p q → IsPulled f terms first vars True vars
  implies_pulled f p q e = bared f (Implies p q) True True e (ap at (piece-Implies p q)) refl

  pub iff_pulled : (f p q : Formula) → f ≡ Iff p q → IsPulled f terms first vars True vars
  iff_pulled f p q e = bared f (Iff p q) True True e (ap at (piece-Iff p q)) refl

  pub exists_pulled : (f p : Formula) (bs : List Binder) → f ≡ Exists bs p → IsPulled f terms first vars True vars
  exists_pulled f p bs e = bared f (Exists bs p) True True e (ap at (piece-Exists bs p)) refl

  pub holds_pulled : (f : Formula) (k : ℕ) (post : Bool) (args given result : List Term) → f ≡ Holds k post args → given ≡ args → result ≡ map (put terms) given
      → IsPulled f terms first vars (Holds k post result) vars
  holds_pulled f k post args given result e g r =
      bared f (Holds k post args) (Holds k post result) (Holds k post (map (put terms) args)) e (ap at (piece-Holds k post args)) (ap (Holds k post) (r ∙ ap (map (put terms)) g))

  pub equal_pulled : (f : Formula) (a b x y : Term) → f ≡ Equal a b → x ≡ put terms a → y ≡ put terms b → IsPulled f terms first vars (Equal x y) vars
  equal_pulled f a b x y e g h =
      bared f (Equal a b) (Equal x y) (Equal (put terms a) (put terms b)) e (ap at (piece-Equal a b)) (ap (λ (t : Term). Equal t y) g ∙ ap (Equal (put terms a)) h)

  pub not_pulled : (f p given r boxed : Formula) (after : List ℕ) → f ≡ Not p → given ≡ p → IsPulled given terms first vars r after → boxed ≡ r → IsPulled f terms first vars (Not boxed) after
  not_pulled f p given r boxed after e g h b =
      let same : at (part_of given) ≡ at (part_of p) = ap (λ (q : Formula). at (part_of q)) g in
      stepped f (Not p) (Not boxed) after (negated (at (part_of p))) e (ap at (piece-Not p))
      (ap Not (b ∙ (h.formula ∙ ap (λ (k : Pulled). k.formula) same))) (h.sorts ∙ ap (λ (k : Pulled). vars ++ k.vars) same)

  pub all_pulled : (f : Formula) (ps given rs : List Formula) (after : List ℕ) → f ≡ All ps → given ≡ ps → ArePulled given terms first vars rs after → IsPulled f terms first vars (All rs) after
  all_pulled f ps given rs after e g h =
      let same : all_at given ≡ all_at ps = ap all_at g in
      stepped f (All ps) (All rs) after (conjoined (all_at ps)) e (ap at (piece-All ps))
      (ap All (h.formulas ∙ ap (λ (k : PulledAll). k.formulas) same)) (h.sorts ∙ ap (λ (k : PulledAll). vars ++ k.vars) same)

  pub any_pulled : (f : Formula) (ps given rs : List Formula) (after : List ℕ) → f ≡ Any ps → given ≡ ps → ArePulled given terms first vars rs after → IsPulled f terms first vars (Any rs) after
  any_pulled f ps given rs after e g h =
      let same : all_at given ≡ all_at ps = ap all_at g in
      stepped f (Any ps) (Any rs) after (disjoined (all_at ps)) e (ap at (piece-Any ps))
      (ap Any (h.formulas ∙ ap (λ (k : PulledAll). k.formulas) same)) (h.sorts ∙ ap (λ (k : PulledAll). vars ++ k.vars) same)

  pub for_all_pulled : (f p given r : Formula) (bs bound_by : List Binder) (number : ℕ) (inner : List Term) (more after : List ℕ)
      → f ≡ ForAll bs p → given ≡ p → bound_by ≡ bs → number ≡ first → inner ≡ terms ++ variables (first + length vars) (length bound_by) → more ≡ vars ++ sorts_of bound_by
      → IsPulled given inner number more r after → IsPulled f terms first vars r after
  for_all_pulled f p given r bs bound_by number inner more after e g b n i m h =
      let next = first + length vars in
      let i2 : inner ≡ terms ++ variables next (length bs) = i ∙ ap (λ (l : List Binder). terms ++ variables next (length l)) b in
      let m2 : more ≡ vars ++ sorts_of bs = m ∙ ap (λ (l : List Binder). vars ++ sorts_of l) b in
      let long : length more ≡ length vars + length bs = ap length m2 ∙ (length-append vars (sorts_of bs) ∙ ap (λ (k : ℕ). length vars + k) (sorts_long bs)) in
      let at_next : number + length more ≡ next + length bs = omega arith in
      let inside = pulled_in p (terms ++ variables next (length bs)) (next + length bs) in
      let same : pulled_in given inner (number + length more) ≡ inside =
      ap (λ (q : Formula). pulled_in q inner (number + length more)) g
      ∙ (ap (λ (ts : List Term). pulled_in p ts (number + length more)) i2 ∙ ap (λ (k : ℕ). pulled_in p (terms ++ variables next (length bs)) k) at_next) in
      stepped f (ForAll bs p) r after (behind bs inside) e (ap at (piece-ForAll bs p)) (h.formula ∙ ap (λ (k : Pulled). k.formula) same)
      (h.sorts ∙ (ap (λ (k : Pulled). more ++ k.vars) same ∙ (ap (λ (l : List ℕ). l ++ inside.vars) m2 ∙ append_assoc vars (sorts_of bs) inside.vars)))

-- from the part on that comes next, what is pulled out is what is left
pub record ArePulledTo (parts : List Formula) (terms : List Term) (first : ℕ) (start : List ℕ) (next : ℕ) (done : List Formula) (vars : List ℕ) : Type 0 where
  pub formulas : (pulled_all_in parts terms (first + length start)).formulas ≡ done ++ (pulled_all_in (drop next parts) terms (first + length vars)).formulas
  pub sorts : start ++ (pulled_all_in parts terms (first + length start)).vars ≡ vars ++ (pulled_all_in (drop next parts) terms (first + length vars)).vars

module _ (parts : List Formula) (terms : List Term) (first : ℕ) (start : List ℕ) where
  pub begins : ArePulledTo parts terms first start 0 [] start
  begins = record { formulas = refl; sorts = refl }

  pub goes_on : (next : ℕ) (done : List Formula) (vars : List ℕ) (part r : Formula) (after : List ℕ) → next < length parts → part ≡ get_or parts next part
      → ArePulledTo parts terms first start next done vars → IsPulled part terms first vars r after → ArePulledTo parts terms first start (next + 1) (done ++ r ∷ []) after
  goes_on next done vars part r after l is so_far here =
      let rest = drop (next + 1) parts in
      let n = first + length vars in
      let one = pulled_in part terms n in
      let more : drop next parts ≡ part ∷ rest = drop_more parts next part l ∙ ap (λ (p : Formula). p ∷ rest) (sym is) in
      let opened : pulled_all_in (drop next parts) terms n ≡ before one (pulled_all_in rest terms (n + length one.vars)) = ap (λ (ps : List Formula). pulled_all_in ps terms n) more in
      let long : length after ≡ length vars + length one.vars = ap length here.sorts ∙ length-append vars one.vars in
      let at_next : n + length one.vars ≡ first + length after = omega arith in
      let left = pulled_all_in rest terms (first + length after) in
      let whole : pulled_all_in (drop next parts) terms n ≡ before one left = opened ∙ ap (λ (k : ℕ). before one (pulled_all_in rest terms k)) at_next in
      record {
        formulas = so_far.formulas ∙ (ap (λ (k : PulledAll). done ++ k.formulas) whole ∙ (ap (λ (g : Formula). done ++ g ∷ left.formulas) (sym here.formula) ∙ sym (append_assoc done (r ∷ []) left.formulas)));
        sorts = so_far.sorts ∙ (ap (λ (k : PulledAll). vars ++ k.vars) whole ∙ (sym (append_assoc vars one.vars left.vars) ∙ ap (λ (l : List ℕ). l ++ left.vars) (sym here.sorts)));
      }

  pub ends : (next : ℕ) (done : List Formula) (vars : List ℕ) → length parts ≤ next → ArePulledTo parts terms first start next done vars → ArePulled parts terms first start done vars
  ends next done vars l so_far =
      let none : pulled_all_in (drop next parts) terms (first + length vars) ≡ record { vars = []; formulas = [] } = ap (λ (ps : List Formula). pulled_all_in ps terms (first + length vars)) (drop_all next parts l) in
      record {
        formulas = sym (so_far.formulas ∙ (ap (λ (k : PulledAll). done ++ k.formulas) none ∙ append-nil done));
        sorts = sym (so_far.sorts ∙ (ap (λ (k : PulledAll). vars ++ k.vars) none ∙ append-nil vars));
      }

-- a formula as one piece
pub one_pulled : (n : ℕ) (f : Formula) (terms : List Term) (vars after : List ℕ) (g : Formula) → terms ≡ variables 0 n → vars ≡ [] → IsPulled f terms n vars g after
    → (record { vars = after; matrix = g } ∷ []) ≡ one_piece n f
one_pulled n f terms vars after g t v h =
    let h2 : IsPulled f (variables 0 n) n [] g after = subst (λ (xs : List ℕ). IsPulled f (variables 0 n) n xs g after) v (subst (λ (ts : List Term). IsPulled f ts n vars g after) t h) in
    let zero_more : n + 0 ≡ n = omega arith in
    let p = λ (k : ℕ). pulled_in f (variables 0 n) k in
    ap (λ (xs : List ℕ). record { vars = xs; matrix = g } ∷ []) (h2.sorts ∙ ap (λ (k : ℕ). (p k).vars) zero_more)
    ∙ ap (λ (x : Formula). record { vars = (p n).vars; matrix = x } ∷ []) (h2.formula ∙ ap (λ (k : ℕ). (p k).formula) zero_more)

-- the pieces of each kind
module _ (n : ℕ) (f : Formula) where
  pub true_pieces : f ≡ True → pieces_of n f ≡ []
  true_pieces e = ap (λ (g : Formula). pieces_of n g) e ∙ ap (λ (p : Part). p.pieces n) piece-True

  flat_same : (ps : List Formula) → flat_map (λ (p : Part). p.pieces n) (map part_of ps) ≡ flat_map (pieces_of n) ps
  flat_same [] = refl
  flat_same (p ∷ ps) = ap (λ (xs : List Piece). pieces_of n p ++ xs) (flat_same ps)

  pub all_pieces : (ps : List Formula) → f ≡ All ps → pieces_of n f ≡ flat_map (pieces_of n) ps
  all_pieces ps e = ap (λ (g : Formula). pieces_of n g) e ∙ (ap (λ (p : Part). p.pieces n) (piece-All ps) ∙ flat_same ps)

  pub for_all_pieces : (bs : List Binder) (p : Formula) → f ≡ ForAll bs p → pieces_of n f ≡ bound_all n bs (pieces_of (n + length bs) p)
  for_all_pieces bs p e = ap (λ (g : Formula). pieces_of n g) e ∙ ap (λ (q : Part). q.pieces n) (piece-ForAll bs p)

  abbrev one_piece_of : Part → List Piece
  one_piece_of t = whole t.pulled n

  alone : (g : Formula) (t : Part) → f ≡ g → part_of g ≡ t → one_piece_of t ≡ t.pieces n → one_piece n f ≡ pieces_of n f
  alone g t e step h =
      let whole : part_of f ≡ t = ap part_of e ∙ step in
      ap one_piece_of whole ∙ (h ∙ ap (λ (q : Part). q.pieces n) (sym whole))

  pub false_alone : f ≡ False → one_piece n f ≡ pieces_of n f
  false_alone e = alone False (part_step Formula-F.False) e piece-False refl

  pub holds_alone : (k : ℕ) (post : Bool) (args : List Term) → f ≡ Holds k post args → one_piece n f ≡ pieces_of n f
  holds_alone k post args e = alone (Holds k post args) (part_step (Formula-F.Holds k post args)) e (piece-Holds k post args) refl

  pub equal_alone : (a b : Term) → f ≡ Equal a b → one_piece n f ≡ pieces_of n f
  equal_alone a b e = alone (Equal a b) (part_step (Formula-F.Equal a b)) e (piece-Equal a b) refl

  pub not_alone : (p : Formula) → f ≡ Not p → one_piece n f ≡ pieces_of n f
  not_alone p e = alone (Not p) (part_step (Formula-F.Not (part_of p))) e (piece-Not p) refl

  pub any_alone : (ps : List Formula) → f ≡ Any ps → one_piece n f ≡ pieces_of n f
  any_alone ps e = alone (Any ps) (part_step (Formula-F.Any (map part_of ps))) e (piece-Any ps) refl

  pub implies_alone : (p q : Formula) → f ≡ Implies p q → one_piece n f ≡ pieces_of n f
  implies_alone p q e = alone (Implies p q) (part_step (Formula-F.Implies (part_of p) (part_of q))) e (piece-Implies p q) refl

  pub iff_alone : (p q : Formula) → f ≡ Iff p q → one_piece n f ≡ pieces_of n f
  iff_alone p q e = alone (Iff p q) (part_step (Formula-F.Iff (part_of p) (part_of q))) e (piece-Iff p q) refl

  pub exists_alone : (bs : List Binder) (p : Formula) → f ≡ Exists bs p → one_piece n f ≡ pieces_of n f
  exists_alone bs p e = alone (Exists bs p) (part_step (Formula-F.Exists bs (part_of p))) e (piece-Exists bs p) refl
