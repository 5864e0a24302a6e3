-- The Skolem form has a signature of symbols of its sorts, no sort without a ground term, and well sorted pieces.
use Rattle.std.specs.Prelude.{◌≡◌, ℕ, zero, suc, ◌+◌, ◌<◌, ◌≤◌, Bool, true, false, not, ◌&&◌, ◌||◌, ◌==◌, nat_lt, List, [], ◌∷◌, ◌++◌, length, map, slice_index}
use Rattle.std.specs.List.{list_all, list_any, filter, range_with_len, AllByRecursion}
use Rattle.std.proofs.Common.{arith, refl, sym, ap, subst, ◌∙◌, inl, inr}
use Rattle.std.proofs.lemmas.Bool.{and_parts, and_from, or_left, or_right, cases_Bool, cases_eq, cond_both, false≢true}
use Rattle.std.proofs.lemmas.List.{append_assoc, length-map, map-append}
use Rattle.sw_logic.specs.declared.syntax.SymbolKind.{SymbolKind}
use Rattle.sw_logic.specs.declared.syntax.SymbolKind.TheVariants.{Relation, Constant, Function}
use Rattle.sw_logic.specs.declared.syntax.Symbol.{Symbol}
use Rattle.sw_logic.specs.declared.syntax.Signature.{Signature}
use Rattle.sw_logic.specs.declared.syntax.Binder.{Binder}
use Rattle.sw_logic.specs.declared.syntax.Term.{Term}
use Rattle.sw_logic.specs.declared.syntax.Formula.{Formula}
use Rattle.sw_logic.specs.declared.syntax.Formula.TheVariants.{True, False, Holds, Equal, Not, All, Any, ForAll, Exists}
use Rattle.sw_logic.specs.declared.syntax.Formula.TheOpen.{Formula-F}
use Rattle.sw_logic.specs.declared.structure.Table.{Table}
use Rattle.sw_logic.specs.declared.structure.Table.TheVariants.{Bits, Value, Values}
use Rattle.sw_logic.specs.declared.structure.Structure.{Structure}
use Rattle.sw_logic.specs.Truth.{size_of}
use Rattle.sw_logic.specs.Sorted.{gives_value, are_sorts, extended, well_sorted}
use Rattle.sw_logic.specs.Fits.{fits, tables_fit, table_fits, tuple_count}
use Rattle.sw_truth.specs.declared.sets.Piece.{Piece}
use Rattle.sw_logic.specs.Terms.{variables}
use Rattle.sw_skolem.specs.Skolem.{Part, part_of, part_step, forms, forms_of, normal_sentences, added_of, universals, kind_by, skolem_symbol, skolem_terms, fresh_constant, skolem_of}
use Rattle.sw_truth.specs.Models.{is_bare}
use Rattle.sw_logic.specs.Signatures.{is_signature, is_symbol, is_of_kind}
use Rattle.sw_skolem.specs.Laws.{SkolemIsWellFormed}
use Rattle.sw_truth.specs.Sorting.{IsAtom, IsMatrix, IsNormal, AreNormal}
use Rattle.sw_truth.proofs.Growing.{Stage, Grows}
use Rattle.sw_skolem.proofs.Parts.{part-True, part-False, part-Holds, part-Equal, part-Not, part-All, part-Any, part-ForAll, part-Exists}
use Rattle.sw_truth.proofs.Inhabited.{AreBelow}
use Rattle.sw_skolem.proofs.Witnesses.{sorts_at, universals_below, filter_below}
use Rattle.sw_truth.proofs.Scoping.{sorts_of}
use Rattle.sw_truth.proofs.Deriving.{matrix_is}
use Rattle.sw_skolem.proofs.Piecing.{IsPiece}
use Rattle.sw_skolem.proofs.Wholes.{normals, split, pieces_same}
use Rattle.std.proofs.lemmas.Bool.{ltb-true, lt-ltb, eq-eqb}

all_joined : {X : Type 0} (p : X → Bool) (xs ys : List X) → list_all p xs ≡ true → list_all p ys ≡ true → list_all p (xs ++ ys) ≡ true
all_joined p [] ys e f = f
all_joined p (x ∷ xs) ys e f = let parts = and_parts (p x) (list_all p xs) e in and_from _ _ parts.0 (all_joined p xs ys parts.1 f)

-- Skolem symbols are of sorts that there are
sort_below : (n : ℕ) (sorts : List ℕ) (u : ℕ) → AreBelow n sorts → u < length sorts → slice_index sorts u < n
sort_below n [] u h l = absurd (omega arith)
sort_below n (s ∷ sorts) zero h l = h.0
sort_below n (s ∷ sorts) (suc u) h l = sort_below n sorts u h.1 (omega arith)

args_below : (n : ℕ) (sorts us : List ℕ) → AreBelow n sorts → AreBelow (length sorts) us → list_all (λ sort. nat_lt sort n) (sorts_at sorts us) ≡ true
args_below n sorts [] h l = refl
args_below n sorts (u ∷ us) h l = and_from _ _ (lt-ltb (slice_index sorts u) n (sort_below n sorts u h l.0)) (args_below n sorts us h l.1)

kind_is : (n : ℕ) (sorts us : List ℕ) (gives : ℕ) → nat_lt gives n ≡ true → is_of_kind n (kind_by us) (sorts_at sorts us) gives ≡ true
kind_is n sorts [] gives e = and_from _ _ refl e
kind_is n sorts (u ∷ us) gives e = and_from _ _ (lt-ltb 0 (suc (length (sorts_at sorts us))) (omega arith)) e

symbols_are : (sig : Signature) (sorts us : List ℕ) (bs : List Binder) → AreBelow (length sig.sorts) sorts → AreBelow (length sorts) us → are_sorts sig bs ≡ true
    → list_all (is_symbol (length sig.sorts)) (map (skolem_symbol sorts us) bs) ≡ true
symbols_are sig sorts us [] h l e = refl
symbols_are sig sorts us (b ∷ bs) h l e =
    let parts = and_parts (nat_lt b.sort (length sig.sorts)) (are_sorts sig bs) e in
    and_from _ _ (and_from _ _ (args_below (length sig.sorts) sorts us h l) (kind_is (length sig.sorts) sorts us b.sort parts.0)) (symbols_are sig sorts us bs h l parts.1)

binders_below : (sig : Signature) (sorts : List ℕ) (bs : List Binder) → AreBelow (length sig.sorts) sorts → are_sorts sig bs ≡ true → AreBelow (length sig.sorts) (sorts ++ sorts_of bs)
binders_below sig [] [] h e = tt
binders_below sig [] (b ∷ bs) h e =
    let parts = and_parts (nat_lt b.sort (length sig.sorts)) (are_sorts sig bs) e in
    (ltb-true b.sort (length sig.sorts) parts.0, binders_below sig [] bs tt parts.1)
binders_below sig (s ∷ sorts) bs h e = (h.0, binders_below sig sorts bs h.1 e)

module _ (base : ℕ) (sig : Signature) where
  abbrev Sound : List Symbol → Type 0
  Sound made = list_all (is_symbol (length sig.sorts)) made ≡ true

  sound_by : (p : Formula) (t : Part) → part_of base p ≡ t → (terms : List Term) (sorts : List ℕ) (made : List Symbol) → Sound (t.form terms sorts made).made → Sound ((part_of base p).form terms sorts made).made
  sound_by p t e terms sorts made h = subst (λ (q : Part). Sound (q.form terms sorts made).made) (sym e) h

  atom_sound : (scope : List ℕ) (p : Formula) → IsAtom sig scope p → (terms : List Term) (sorts : List ℕ) (made : List Symbol) → Sound made → Sound ((part_of base p).form terms sorts made).made
  atom_sound scope p (IsAtom.holds k s args e r h) terms sorts made o = sound_by (Holds k false args) (part_step base (Formula-F.Holds k false args)) (part-Holds base k false args) terms sorts made o
  atom_sound scope p (IsAtom.equal t u s h i) terms sorts made o = sound_by (Equal t u) (part_step base (Formula-F.Equal t u)) (part-Equal base t u) terms sorts made o

  mutual
    sound : (scope : List ℕ) (p : Formula) → IsNormal sig scope p → (terms : List Term) (sorts : List ℕ) (made : List Symbol) → AreBelow (length sig.sorts) sorts → Sound made
        → Sound ((part_of base p).form terms sorts made).made
    sound scope p (IsNormal.truth s) terms sorts made l o = sound_by True (part_step base Formula-F.True) (part-True base) terms sorts made o
    sound scope p (IsNormal.falsity s) terms sorts made l o = sound_by False (part_step base Formula-F.False) (part-False base) terms sorts made o
    sound scope p (IsNormal.atom s f i) terms sorts made l o = atom_sound scope f i terms sorts made o
    sound scope p (IsNormal.negated s f i) terms sorts made l o = sound_by (Not f) (part_step base (Formula-F.Not (part_of base f))) (part-Not base f) terms sorts made (atom_sound scope f i terms sorts made o)
    sound scope p (IsNormal.all s ps n) terms sorts made l o =
        sound_by (All ps) (part_step base (Formula-F.All (map (part_of base) ps))) (part-All base ps) terms sorts made (all_sound scope ps n terms sorts made l o)
    sound scope p (IsNormal.any s ps n) terms sorts made l o =
        sound_by (Any ps) (part_step base (Formula-F.Any (map (part_of base) ps))) (part-Any base ps) terms sorts made (all_sound scope ps n terms sorts made l o)
    sound scope p (IsNormal.for_all s bs f k n) terms sorts made l o =
        sound_by (ForAll bs f) (part_step base (Formula-F.ForAll bs (part_of base f))) (part-ForAll base bs f) terms sorts made
        (sound (extended scope bs) f n (terms ++ variables (length sorts) (length bs)) (sorts ++ sorts_of bs) made (binders_below sig sorts bs l k) o)
    sound scope p (IsNormal.exists s bs f k n) terms sorts made l o =
        let us = universals (part_of base f).occurs terms (length sorts) in
        let symbols = map (skolem_symbol sorts us) bs in
        let new = symbols_are sig sorts us bs l (universals_below (part_of base f).occurs terms (length sorts)) k in
        sound_by (Exists bs f) (part_step base (Formula-F.Exists bs (part_of base f))) (part-Exists base bs f) terms sorts made
        (sound (extended scope bs) f n (terms ++ skolem_terms us (base + length made) (length bs)) sorts (made ++ symbols) l (all_joined (is_symbol (length sig.sorts)) made symbols o new))

    all_sound : (scope : List ℕ) (ps : List Formula) → AreNormal sig scope ps → (terms : List Term) (sorts : List ℕ) (made : List Symbol) → AreBelow (length sig.sorts) sorts → Sound made
        → Sound (forms (map (part_of base) ps) terms sorts made).made
    all_sound scope ps (AreNormal.none s) terms sorts made l o = o
    all_sound scope ps (AreNormal.more s q qs n ns) terms sorts made l o =
        all_sound scope qs ns terms sorts ((part_of base q).form terms sorts made).made l (sound scope q n terms sorts made l o)

fresh_sound : (n : ℕ) (sorts : List ℕ) → AreBelow n sorts → list_all (is_symbol n) (map fresh_constant sorts) ≡ true
fresh_sound n [] h = refl
fresh_sound n (s ∷ sorts) h = and_from _ _ (and_from _ _ refl (and_from _ _ refl (lt-ltb s n h.0))) (fresh_sound n sorts h.1)

-- each signature has a structure: one element of each sort
unit_table : SymbolKind → Table
unit_table Relation = Bits (false ∷ [])
unit_table Constant = Value 0
unit_table Function = Values (0 ∷ [])

unit_structure : Signature → Structure
unit_structure sig = record { sizes = map (λ (name : List ℕ). 1) sig.sorts; tables = map (λ (s : Symbol). unit_table s.kind) sig.symbols }

unit_size : (names : List (List ℕ)) (sort : ℕ) → sort < length names → size_of (map (λ (name : List ℕ). 1) names) sort ≡ 1
unit_size [] sort h = absurd (omega arith)
unit_size (x ∷ names) zero h = refl
unit_size (x ∷ names) (suc sort) h = unit_size names sort (omega arith)

unit_count : (names : List (List ℕ)) (args : List ℕ) → list_all (λ sort. nat_lt sort (length names)) args ≡ true → tuple_count (map (λ (name : List ℕ). 1) names) args ≡ 1
unit_count names [] e = refl
unit_count names (a ∷ args) e =
    let parts = and_parts (nat_lt a (length names)) (list_all (λ sort. nat_lt sort (length names)) args) e in
    let rest = unit_count names args parts.1 in
    let here = unit_size names a (ltb-true a (length names) parts.0) in
    cc (here, rest) ∙ refl

unit_fits : (names : List (List ℕ)) (kind : SymbolKind) (args : List ℕ) (gives : ℕ) → list_all (λ sort. nat_lt sort (length names)) args ≡ true → is_of_kind (length names) kind args gives ≡ true
    → table_fits (map (λ (name : List ℕ). 1) names) args gives kind (unit_table kind) ≡ true
unfolding unit_table
unit_fits names Relation args gives e k = eq-eqb 1 (tuple_count (map (λ (name : List ℕ). 1) names) args) (sym (unit_count names args e))
unit_fits names Constant args gives e k =
    let below = ltb-true gives (length names) (and_parts (length args == 0) (nat_lt gives (length names)) k).1 in
    let size = unit_size names gives below in
    lt-ltb 0 (size_of (map (λ (name : List ℕ). 1) names) gives) (omega arith)
unit_fits names Function args gives e k =
    let below = ltb-true gives (length names) (and_parts (nat_lt 0 (length args)) (nat_lt gives (length names)) k).1 in
    let size = unit_size names gives below in
    and_from _ _ (eq-eqb 1 (tuple_count (map (λ (name : List ℕ). 1) names) args) (sym (unit_count names args e)))
    (and_from _ _ (lt-ltb 0 (size_of (map (λ (name : List ℕ). 1) names) gives) (omega arith)) refl)

unit_tables : (names : List (List ℕ)) (symbols : List Symbol) → list_all (is_symbol (length names)) symbols ≡ true
    → tables_fit (map (λ (name : List ℕ). 1) names) symbols (map (λ (s : Symbol). unit_table s.kind) symbols) ≡ true
unit_tables names [] e = refl
unit_tables names (s ∷ symbols) e =
    let parts = and_parts (is_symbol (length names) s) (list_all (is_symbol (length names)) symbols) e in
    let of_symbol = and_parts (list_all (λ sort. nat_lt sort (length names)) s.args) (is_of_kind (length names) s.kind s.args s.gives) parts.0 in
    and_from _ _ (unit_fits names s.kind s.args s.gives of_symbol.0 of_symbol.1) (unit_tables names symbols parts.1)

all_one : (names : List (List ℕ)) → list_all (λ n. nat_lt 0 n) (map (λ (name : List ℕ). 1) names) ≡ true
all_one [] = refl
all_one (x ∷ names) = and_from _ _ (lt-ltb 0 1 (omega arith)) (all_one names)

unit_structure_fits : (sig : Signature) → is_signature sig ≡ true → fits sig (unit_structure sig) ≡ true
unfolding unit_structure
unit_structure_fits sig e =
    and_from _ _ (eq-eqb _ _ (length-map sig.sorts (λ (name : List ℕ). 1))) (and_from _ _ (all_one sig.sorts) (unit_tables sig.sorts sig.symbols e))

any_left : {X : Type 0} (p : X → Bool) (xs ys : List X) → list_any p xs ≡ true → list_any p (xs ++ ys) ≡ true
any_left p [] ys e = absurd (false≢true e)
any_left p (x ∷ xs) ys e = elim (cases_Bool (p x)) [
  | inl t ↦ or_left (p x) _ t
  | inr f ↦ or_right (p x) _ (any_left p xs ys (rest_of (p x) (list_any p xs) f e))
]
  where
    rest_of : (b c : Bool) → b ≡ false → (b || c) ≡ true → c ≡ true
    rest_of true c f e = absurd (false≢true (sym f))
    rest_of false c f e = e

any_right : {X : Type 0} (p : X → Bool) (xs ys : List X) → list_any p ys ≡ true → list_any p (xs ++ ys) ≡ true
any_right p [] ys e = e
any_right p (x ∷ xs) ys e = or_right (p x) _ (any_right p xs ys e)

not_from : (b : Bool) → b ≡ true → not b ≡ false
not_from true e = refl
not_from false e = sym e

abbrev HasGiver : ℕ → List ℕ → Type 0
HasGiver sort sorts = list_any (λ (s : Symbol). gives_value s.kind && (s.gives == sort)) (map fresh_constant sorts) ≡ true

fresh_has : (test : ℕ → Bool) (from n sort : ℕ) → from ≤ sort → sort < from + n → test sort ≡ true → HasGiver sort (filter test (range_with_len from n))
fresh_has test from zero sort h k e = absurd (omega arith)
fresh_has test from (suc n) sort h k e =
    elim (cases_eq from sort) [
      | inl same ↦
          cond_both (test from) (from ∷ filter test (range_with_len (from + 1) n)) (filter test (range_with_len (from + 1) n)) (HasGiver sort)
          (λ t. or_left (from == sort) _ (eq-eqb from sort same)) (λ f. absurd (false≢true (sym f ∙ (ap test same ∙ e))))
      | inr other ↦
          let rest = fresh_has test (from + 1) n sort (omega arith) (omega arith) e in
          cond_both (test from) (from ∷ filter test (range_with_len (from + 1) n)) (filter test (range_with_len (from + 1) n)) (HasGiver sort)
          (λ t. or_right (from == sort) _ rest) (λ f. rest)
    ]

bare_cases : (p : Symbol → Bool) (symbols fresh : List Symbol) → (not (list_any p symbols) ≡ true → list_any p fresh ≡ true) → not (list_any p (symbols ++ fresh)) ≡ false
bare_cases p symbols fresh h =
    elim (cases_Bool (list_any p symbols)) [
      | inl t ↦ not_from _ (any_left p symbols fresh t)
      | inr f ↦ not_from _ (any_right p symbols fresh (h (false_not (list_any p symbols) f)))
    ]
  where
    false_not : (b : Bool) → b ≡ false → not b ≡ true
    false_not true e = sym e
    false_not false e = refl

pieces_sorted : (sig : Signature) (ps : List Piece) (d : Stage) → d.signature ≡ sig → AllByRecursion (IsPiece d []) ps → AllByRecursion (λ (p : Piece). well_sorted sig false p.matrix p.vars ≡ true) ps
pieces_sorted sig [] d e h = tt
pieces_sorted sig (p ∷ ps) d e h =
    (subst (λ (g : Signature). well_sorted g false p.matrix p.vars ≡ true) e (matrix_is d.signature p.vars p.matrix h.0), pieces_sorted sig ps d e h.1)

pieces_matrices : (sig : Signature) (ps : List Piece) (d : Stage) → d.signature ≡ sig → AllByRecursion (IsPiece d []) ps → AllByRecursion (λ (p : Piece). IsMatrix sig p.vars p.matrix) ps
pieces_matrices sig [] d e h = tt
pieces_matrices sig (p ∷ ps) d e h = (subst (λ (g : Signature). IsMatrix g p.vars p.matrix) e h.0, pieces_matrices sig ps d e h.1)

pub skolem_is_well_formed : SkolemIsWellFormed
unfolding unit_structure
skolem_is_well_formed q ok =
    let n = length q.signature.sorts in
    let made = (forms_of q).made in
    let bare = filter (is_bare (q.signature.symbols ++ made)) (range_with_len 0 n) in
    let a : Stage = record { signature = q.signature; structure = unit_structure q.signature; fits = unit_structure_fits q.signature ok.signature } in
    let made_sound = all_sound (length q.signature.symbols) q.signature [] (normal_sentences q) (normals a q.sentences ok.sentences) [] [] [] tt refl in
    let bare_sound = fresh_sound n bare (filter_below (is_bare (q.signature.symbols ++ made)) 0 n n (omega arith)) in
    let added_sound = all_joined (is_symbol n) made (map fresh_constant bare) made_sound bare_sound in
    let signature = all_joined (is_symbol n) q.signature.symbols (added_of q) ok.signature added_sound in
    let d : Stage = record { signature = (skolem_of q).signature; structure = unit_structure (skolem_of q).signature; fits = unit_structure_fits (skolem_of q).signature signature } in
    let g : Grows a d = record {
      symbols = added_of q;
      tables = map (λ (s : Symbol). unit_table s.kind) (added_of q);
      sorts_are = refl;
      sizes_are = refl;
      symbols_are = refl;
      tables_are = map-append (λ (s : Symbol). unit_table s.kind) q.signature.symbols (added_of q);
    } in
    let x = split q ok (unit_structure q.signature) (unit_structure (skolem_of q).signature) a.fits d.fits g in
    let pieces_are = subst (AllByRecursion (IsPiece d [])) (pieces_same (forms_of q).formulas) x.are in
    record {
      signature = signature;
      sorts = refl;
      none_bare = λ sort h.
          let zeroth : n ≡ 0 + n = omega arith in
          let symbols_assoc : (q.signature.symbols ++ made) ++ map fresh_constant bare ≡ q.signature.symbols ++ added_of q = append_assoc q.signature.symbols made (map fresh_constant bare) in
          subst (λ (xs : List Symbol). is_bare xs sort ≡ false) symbols_assoc
          (bare_cases (λ (s : Symbol). gives_value s.kind && (s.gives == sort)) (q.signature.symbols ++ made) (map fresh_constant bare) (λ e. fresh_has (is_bare (q.signature.symbols ++ made)) 0 n sort (omega arith) (omega arith) e));
      pieces = pieces_sorted (skolem_of q).signature (skolem_of q).pieces d refl pieces_are;
      matrices = pieces_matrices (skolem_of q).signature (skolem_of q).pieces d refl pieces_are;
    }
