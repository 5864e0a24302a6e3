-- The pieces of a formula have the same variables whatever the numbers of its functions are.
use Rattle.std.specs.Prelude.{◌≡◌, ℕ, zero, suc, ◌+◌, Bool, true, false, List, [], ◌∷◌, ◌++◌, map, length, cond}
use Rattle.std.specs.List.{AllByRecursion, flat_map}
use Rattle.std.proofs.Common.{rules, refl, sym, subst, ap, ◌∙◌}
use Rattle.std.proofs.lemmas.List.{map-append}
use Rattle.sw_lists.proofs.Each.{each-pairs}
use Rattle.sw_logic.specs.declared.syntax.Binder.{Binder}
use Rattle.sw_logic.specs.declared.syntax.Term.{Term}
use Rattle.sw_logic.specs.declared.syntax.Term.TheVariants.{Variable}
use Rattle.sw_logic.specs.declared.syntax.Formula.{Formula, roll-Formula, map-Formula, the_lemmas}
use Rattle.sw_logic.specs.declared.syntax.Formula.TheOpen.{Formula-F}
use Rattle.sw_logic.specs.declared.syntax.Formula.TheFolds.{ind-Formula}
use Rattle.sw_logic.specs.declared.syntax.Formula.TheVariants.{True, False, Holds, Equal, Not, All, Any, Implies, Iff, ForAll, Exists}
use Rattle.sw_logic.specs.declared.syntax.Formula.TheVariants.{rolls-True, rolls-False, rolls-Holds, rolls-Equal, rolls-Not, rolls-All, rolls-Any, rolls-Implies, rolls-Iff, rolls-ForAll, rolls-Exists}
use Rattle.sw_logic.specs.Terms.{occurs, put, variables, with_terms}
use Rattle.sw_truth.specs.declared.sets.Piece.{Piece}
use Rattle.sw_skolem.specs.Pieces.{Part, Pulled, PulledAll, part_of, part_step, pulled_all, before, bare, negated, conjoined, disjoined, behind, alone, bound, bound_all, pieces_of}
use Rattle.sw_size_laws.proofs.Erased.{erased, erased-Variable, shape, put_erased, puts_erased, occurs_shape, with_shape}
use Rattle.sw_size_laws.proofs.Erased.{shape-True, shape-False, shape-Holds, shape-Equal, shape-Not, shape-All, shape-Any, shape-Implies, shape-Iff, shape-ForAll, shape-Exists}

abbrev pulled_shape : Pulled → Pulled
pulled_shape p = record { vars = p.vars; formula = shape p.formula }

abbrev all_shape : PulledAll → PulledAll
all_shape p = record { vars = p.vars; formulas = map shape p.formulas }

abbrev piece_shape : Piece → Piece
piece_shape p = record { vars = p.vars; matrix = shape p.matrix }

-- variables have no functions
pub variables_erased : (from count : ℕ) → map erased (variables from count) ≡ variables from count
variables_erased from zero = refl
variables_erased from (suc count) = ap (λ (t : Term). t ∷ map erased (variables (from + 1) count)) (erased-Variable from)
    ∙ ap (λ (ts : List Term). Variable from ∷ ts) (variables_erased (from + 1) count)

pub wider_erased : (ts : List Term) (from count : ℕ) → map erased (ts ++ variables from count) ≡ map erased ts ++ variables from count
wider_erased ts from count = map-append erased ts (variables from count) ∙ ap (λ (us : List Term). map erased ts ++ us) (variables_erased from count)

-- the part of a formula's shape, and that of the formula
record Same (a b : Part) : Type 0 where
  pulled : (ts : List Term) (next : ℕ) → a.pulled (map erased ts) next ≡ pulled_shape (b.pulled ts next)
  pieces : (n : ℕ) → a.pieces n ≡ map piece_shape (b.pieces n)

abbrev IsSame : Formula → Type 0
IsSame f = Same (part_of (shape f)) (part_of f)

by : (f : Formula) (a b : Part) → part_of (shape f) ≡ a → part_of f ≡ b → Same a b → IsSame f
by f a b d e h = subst (λ (x : Part). Same x (part_of f)) (sym d) (subst (Same a) (sym e) h)

alone_same : (x y : List Term → ℕ → Pulled) → ((ts : List Term) (next : ℕ) → x (map erased ts) next ≡ pulled_shape (y ts next)) → Same (alone x) (alone y)
alone_same x y h = record {
  pulled = h;
  pieces = λ n.
      let ts = variables 0 n in
      let e : x ts n ≡ pulled_shape (y ts n) = ap (λ us. x us n) (sym (variables_erased 0 n)) ∙ h ts n in
      let piece : Pulled → List Piece = λ k. record { vars = k.vars; matrix = k.formula } ∷ [] in
      ap piece e;
}

constant_same : (f g : Formula) → g ≡ shape g → part_of (shape f) ≡ alone (λ ts next. bare g) → part_of f ≡ alone (λ ts next. bare g) → IsSame f
constant_same f g e d k = by f (alone (λ ts next. bare g)) (alone (λ ts next. bare g)) d k (alone_same (λ ts next. bare g) (λ ts next. bare g) (λ ts next. ap bare e))

true_same : IsSame True
true_same =
    let is : part_of True ≡ part_step Formula-F.True = search (rules, the_lemmas) in
    by True (part_step Formula-F.True) (part_step Formula-F.True) (ap part_of shape-True ∙ is) is (record { pulled = λ ts next. ap bare (sym shape-True); pieces = λ n. refl })

false_same : IsSame False
false_same =
    let is : part_of False ≡ part_step Formula-F.False = search (rules, the_lemmas) in
    constant_same False False (sym shape-False) (ap part_of shape-False ∙ is) is

holds_same : (k : ℕ) (post : Bool) (args : List Term) → IsSame (Holds k post args)
holds_same k post args =
    let there : (us : List Term) → part_of (Holds k post us) ≡ part_step (Formula-F.Holds k post us) = λ us. search (rules, the_lemmas) in
    by (Holds k post args) (part_step (Formula-F.Holds k post (map erased args))) (part_step (Formula-F.Holds k post args))
    (ap part_of (shape-Holds k post args) ∙ there (map erased args)) (there args)
    (alone_same (λ ts next. bare (Holds k post (map (put ts) (map erased args)))) (λ ts next. bare (Holds k post (map (put ts) args)))
    (λ ts next. ap (λ (us : List Term). bare (Holds k post us)) (sym (puts_erased ts args)) ∙ ap bare (sym (shape-Holds k post (map (put ts) args)))))

equal_same : (a b : Term) → IsSame (Equal a b)
equal_same a b =
    let there : (c d : Term) → part_of (Equal c d) ≡ part_step (Formula-F.Equal c d) = λ c d. search (rules, the_lemmas) in
    by (Equal a b) (part_step (Formula-F.Equal (erased a) (erased b))) (part_step (Formula-F.Equal a b)) (ap part_of (shape-Equal a b) ∙ there (erased a) (erased b)) (there a b)
    (alone_same (λ ts next. bare (Equal (put ts (erased a)) (put ts (erased b)))) (λ ts next. bare (Equal (put ts a) (put ts b)))
    (λ ts next. ap bare (ap (λ (c : Term). Equal c (put (map erased ts) (erased b))) (sym (put_erased ts a))
    ∙ ap (Equal (erased (put ts a))) (sym (put_erased ts b)) ∙ sym (shape-Equal (put ts a) (put ts b)))))

not_same : (p : Formula) → IsSame p → IsSame (Not p)
not_same p h =
    let there : (q : Formula) → part_of (Not q) ≡ part_step (Formula-F.Not (part_of q)) = λ q. search (rules, the_lemmas) in
    by (Not p) (part_step (Formula-F.Not (part_of (shape p)))) (part_step (Formula-F.Not (part_of p))) (ap part_of (shape-Not p) ∙ there (shape p)) (there p)
    (alone_same (λ ts next. negated ((part_of (shape p)).pulled ts next)) (λ ts next. negated ((part_of p).pulled ts next))
    (λ ts next. ap negated (h.pulled ts next)
    ∙ ap (λ (f : Formula). record { vars = ((part_of p).pulled ts next).vars; formula = f }) (sym (shape-Not ((part_of p).pulled ts next).formula))))

all_pulled : (ps : List Formula) → AllByRecursion IsSame ps → (ts : List Term) (next : ℕ) → pulled_all (map part_of (map shape ps)) (map erased ts) next
    ≡ all_shape (pulled_all (map part_of ps) ts next)
all_pulled [] h ts next = refl
all_pulled (p ∷ ps) h ts next =
    let k = (part_of p).pulled ts next in
    let rest = map part_of (map shape ps) in
    ap (λ (x : Pulled). before x (pulled_all rest (map erased ts) (next + length x.vars))) (h.0.pulled ts next)
    ∙ ap (before (pulled_shape k)) (all_pulled ps h.1 ts (next + length k.vars))

all_pieces : (n : ℕ) (ps : List Formula) → AllByRecursion IsSame ps → flat_map (λ (p : Part). p.pieces n) (map part_of (map shape ps))
    ≡ map piece_shape (flat_map (λ (p : Part). p.pieces n) (map part_of ps))
all_pieces n [] h = refl
all_pieces n (p ∷ ps) h =
    ap (λ (xs : List Piece). xs ++ flat_map (λ (q : Part). q.pieces n) (map part_of (map shape ps))) (h.0.pieces n)
    ∙ ap (λ (xs : List Piece). map piece_shape ((part_of p).pieces n) ++ xs) (all_pieces n ps h.1)
    ∙ sym (map-append piece_shape ((part_of p).pieces n) (flat_map (λ (q : Part). q.pieces n) (map part_of ps)))

all_same : (ps : List Formula) → AllByRecursion IsSame ps → IsSame (All ps)
all_same ps h =
    let there : (qs : List Formula) → part_of (All qs) ≡ part_step (Formula-F.All (map part_of qs)) = λ qs. search (rules, the_lemmas) in
    by (All ps) (part_step (Formula-F.All (map part_of (map shape ps)))) (part_step (Formula-F.All (map part_of ps))) (ap part_of (shape-All ps) ∙ there (map shape ps)) (there ps)
    (record {
      pulled = λ ts next.
          let r = pulled_all (map part_of ps) ts next in
          ap conjoined (all_pulled ps h ts next) ∙ ap (λ (f : Formula). record { vars = r.vars; formula = f }) (sym (shape-All r.formulas));
      pieces = λ n. all_pieces n ps h;
    })

any_same : (ps : List Formula) → AllByRecursion IsSame ps → IsSame (Any ps)
any_same ps h =
    let there : (qs : List Formula) → part_of (Any qs) ≡ part_step (Formula-F.Any (map part_of qs)) = λ qs. search (rules, the_lemmas) in
    by (Any ps) (part_step (Formula-F.Any (map part_of (map shape ps)))) (part_step (Formula-F.Any (map part_of ps))) (ap part_of (shape-Any ps) ∙ there (map shape ps)) (there ps)
    (alone_same (λ ts next. disjoined (pulled_all (map part_of (map shape ps)) ts next)) (λ ts next. disjoined (pulled_all (map part_of ps) ts next))
    (λ ts next.
    let r = pulled_all (map part_of ps) ts next in
    ap disjoined (all_pulled ps h ts next) ∙ ap (λ (f : Formula). record { vars = r.vars; formula = f }) (sym (shape-Any r.formulas))))

-- a variable put before those of a piece
chosen : (b : Bool) (x y : Piece) → cond b (piece_shape x) (piece_shape y) ≡ piece_shape (cond b x y)
chosen true x y = refl
chosen false x y = refl

bound_same : (n : ℕ) (b : Binder) (p : Piece) → bound n b (piece_shape p) ≡ piece_shape (bound n b p)
bound_same n b p =
    let ts = variables 0 (n + 1) ++ variables n (length p.vars) in
    let same : map erased ts ≡ ts = wider_erased (variables 0 (n + 1)) n (length p.vars) ∙ ap (λ (us : List Term). us ++ variables n (length p.vars)) (variables_erased 0 (n + 1)) in
    let there : with_terms ts (shape p.matrix) ≡ shape (with_terms ts p.matrix) = sym (with_shape p.matrix ts ∙ ap (λ (us : List Term). with_terms us (shape p.matrix)) same) in
    let first : Piece = record { vars = b.sort ∷ p.vars; matrix = p.matrix } in
    let second : Piece = record { vars = p.vars; matrix = with_terms ts p.matrix } in
    let other : Formula → Piece = λ f. record { vars = p.vars; matrix = f } in
    ap (λ (c : Bool). cond c (piece_shape first) (other (with_terms ts (shape p.matrix)))) (occurs_shape p.matrix n)
    ∙ ap (λ (f : Formula). cond (occurs n p.matrix) (piece_shape first) (other f)) there ∙ chosen (occurs n p.matrix) first second

each_bound : (n : ℕ) (b : Binder) (ps : List Piece) → map (bound n b) (map piece_shape ps) ≡ map piece_shape (map (bound n b) ps)
each_bound n b [] = refl
each_bound n b (p ∷ ps) = ap (λ (x : Piece). x ∷ map (bound n b) (map piece_shape ps)) (bound_same n b p)
    ∙ ap (λ (xs : List Piece). piece_shape (bound n b p) ∷ xs) (each_bound n b ps)

all_bound : (n : ℕ) (bs : List Binder) (ps : List Piece) → bound_all n bs (map piece_shape ps) ≡ map piece_shape (bound_all n bs ps)
all_bound n [] ps = refl
all_bound n (b ∷ bs) ps = ap (map (bound n b)) (all_bound (n + 1) bs ps) ∙ each_bound n b (bound_all (n + 1) bs ps)

for_all_same : (bs : List Binder) (p : Formula) → IsSame p → IsSame (ForAll bs p)
for_all_same bs p h =
    let there : (q : Formula) → part_of (ForAll bs q) ≡ part_step (Formula-F.ForAll bs (part_of q)) = λ q. search (rules, the_lemmas) in
    let a = part_of (shape p) in
    let b = part_of p in
    let count = length bs in
    by (ForAll bs p) (part_step (Formula-F.ForAll bs a)) (part_step (Formula-F.ForAll bs b)) (ap part_of (shape-ForAll bs p) ∙ there (shape p)) (there p)
    (record {
      pulled = λ ts next.
          ap (λ (us : List Term). behind bs (a.pulled us (next + count))) (sym (wider_erased ts next count))
          ∙ ap (behind bs) (h.pulled (ts ++ variables next count) (next + count));
      pieces = λ n. ap (bound_all n bs) (h.pieces (n + count)) ∙ all_bound n bs (b.pieces (n + count));
    })

implies_same : (p q : Formula) → IsSame (Implies p q)
implies_same p q =
    let there : (f g : Formula) → part_of (Implies f g) ≡ part_step (Formula-F.Implies (part_of f) (part_of g)) = λ f g. search (rules, the_lemmas) in
    constant_same (Implies p q) True (sym shape-True) (ap part_of (shape-Implies p q) ∙ there (shape p) (shape q)) (there p q)

iff_same : (p q : Formula) → IsSame (Iff p q)
iff_same p q =
    let there : (f g : Formula) → part_of (Iff f g) ≡ part_step (Formula-F.Iff (part_of f) (part_of g)) = λ f g. search (rules, the_lemmas) in
    constant_same (Iff p q) True (sym shape-True) (ap part_of (shape-Iff p q) ∙ there (shape p) (shape q)) (there p q)

exists_same : (bs : List Binder) (p : Formula) → IsSame (Exists bs p)
exists_same bs p =
    let there : (q : Formula) → part_of (Exists bs q) ≡ part_step (Formula-F.Exists bs (part_of q)) = λ q. search (rules, the_lemmas) in
    constant_same (Exists bs p) True (sym shape-True) (ap part_of (shape-Exists bs p) ∙ there (shape p)) (there p)

layer : (y : Formula-F ((f : Formula) × IsSame f)) → IsSame (roll-Formula (map-Formula ((f : Formula) × IsSame f) Formula (λ e. e.0) y))
layer Formula-F.True = subst IsSame (sym rolls-True) true_same
layer Formula-F.False = subst IsSame (sym rolls-False) false_same
layer (Formula-F.Holds k post args) = subst IsSame (sym (rolls-Holds k post args)) (holds_same k post args)
layer (Formula-F.Equal a b) = subst IsSame (sym (rolls-Equal a b)) (equal_same a b)
layer (Formula-F.Not p) = subst IsSame (sym (rolls-Not p.0)) (not_same p.0 p.1)
layer (Formula-F.All ps) = subst IsSame (sym (rolls-All (map (λ e. e.0) ps))) (all_same (map (λ e. e.0) ps) (each-pairs IsSame ps))
layer (Formula-F.Any ps) = subst IsSame (sym (rolls-Any (map (λ e. e.0) ps))) (any_same (map (λ e. e.0) ps) (each-pairs IsSame ps))
layer (Formula-F.Implies p q) = subst IsSame (sym (rolls-Implies p.0 q.0)) (implies_same p.0 q.0)
layer (Formula-F.Iff p q) = subst IsSame (sym (rolls-Iff p.0 q.0)) (iff_same p.0 q.0)
layer (Formula-F.ForAll bs p) = subst IsSame (sym (rolls-ForAll bs p.0)) (for_all_same bs p.0 p.1)
layer (Formula-F.Exists bs p) = subst IsSame (sym (rolls-Exists bs p.0)) (exists_same bs p.0)

is_same : (f : Formula) → IsSame f
is_same = ind-Formula IsSame (λ x y is. subst (λ z. IsSame (roll-Formula z)) is (layer y))

-- the sorts of the variables of a formula's pieces
abbrev pub vars_of : Formula → List (List ℕ)
vars_of f = map (λ (p : Piece). p.vars) (pieces_of 0 f)

vars_shape : (ps : List Piece) → map (λ (p : Piece). p.vars) (map piece_shape ps) ≡ map (λ (p : Piece). p.vars) ps
vars_shape [] = refl
vars_shape (p ∷ ps) = ap (λ (vs : List (List ℕ)). p.vars ∷ vs) (vars_shape ps)

of_shape : (f : Formula) → vars_of (shape f) ≡ vars_of f
of_shape f = ap (map (λ (p : Piece). p.vars)) ((is_same f).pieces 0) ∙ vars_shape (pieces_of 0 f)

pub vars_alike : (f g : Formula) → shape f ≡ shape g → vars_of f ≡ vars_of g
vars_alike f g e = sym (of_shape f) ∙ ap vars_of e ∙ of_shape g
