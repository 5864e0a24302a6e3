-- The steps of loops over terms.
use Rattle.std.specs.Prelude.{◌≡◌, ℕ, zero, suc, ◌+◌, ◌<◌, Bool, true, false, cond, min, max, Some, List, [], ◌∷◌, ◌++◌, map, length, take, slice_get, slice_index_or}
use Rattle.std.proofs.Common.{get_or}
use Rattle.std.proofs.lemmas.List.FromFn.{map-range_with_len_more}
use Rattle.std.proofs.lemmas.Grind.{flat_map-append}
use Rattle.std.specs.List.{flat_map, filter, range_with_len}
use Rattle.std.proofs.Common.{refl, arith, ap, sym, ◌∙◌, append_assoc}
use Rattle.std.proofs.lemmas.List.{map-append, append-nil}
use Rattle.sw_logic.specs.declared.syntax.Term.{Term}
use Rattle.sw_logic.specs.Truth.{greatest}
use Rattle.sw_meaning.specs.Space.{depth_of}
use Rattle.sw_template.proofs.Numbered.{took, last_kept, map_cond}

pub got : (n : ℕ) (xs : List ℕ) → n < length xs → slice_get xs n ≡ Some (slice_index_or xs n 0)
got n [] h = absurd (omega arith)
got zero (x ∷ xs) h = refl
got (suc n) (x ∷ xs) h = got n xs (omega arith)

-- the element that a loop is at
pub item : {X : Type 0} (n : ℕ) (xs : List X) (x : X) → n < length xs → x ≡ get_or xs n x → slice_get xs n ≡ Some x
item n [] x h e = absurd (omega arith)
item zero (y ∷ xs) x h e = ap Some (sym e)
item (suc n) (y ∷ xs) x h e = item n xs x (omega arith) e

pub item_of : {X : Type 0} (n : ℕ) (xs ys : List X) (x : X) → ys ≡ xs → n < length ys → x ≡ get_or ys n x → slice_get xs n ≡ Some x
item_of n xs ys x e h f = ap (λ zs. slice_get zs n) (sym e) ∙ item n ys x h f

pub stepped : {X : Type 0} (old new before add later : List X) → old ≡ before → new ≡ old ++ add → later ≡ before ++ add → new ≡ later
stepped old new before add later e f g = f ∙ (ap (λ xs. xs ++ add) e ∙ sym g)

pub stepped_after : {X : Type 0} (first old new before add later : List X) → old ≡ first ++ before → new ≡ old ++ add → later ≡ before ++ add → new ≡ first ++ later
stepped_after first old new before add later e f g = f ∙ (ap (λ xs. xs ++ add) e ∙ (append_assoc first before add ∙ ap (λ xs. first ++ xs) (sym g)))

pub tabled : {X : Type 0} (f : ℕ → X) (n : ℕ) (old new : List X) (x : X) → old ≡ map f (range_with_len 0 n) → x ≡ f n → new ≡ old ++ x ∷ [] → new ≡ map f (range_with_len 0 (n + 1))
tabled f n old new x e same g = g ∙ (ap (λ xs. xs ++ x ∷ []) e ∙ (ap (λ y. map f (range_with_len 0 n) ++ y ∷ []) same ∙ sym (map-range_with_len_more f 0 n n (omega arith))))

pub flat_took : {X Y : Type 0} (f : X → List Y) (n : ℕ) (xs : List X) (x : X) → slice_get xs n ≡ Some x → flat_map f (take (n + 1) xs) ≡ flat_map f (take n xs) ++ f x
flat_took f n xs x e = ap (flat_map f) (took n xs x e) ∙ (flat_map-append f (take n xs) (x ∷ []) ∙ ap (λ ys. flat_map f (take n xs) ++ ys) (append-nil (f x)))

pub kept_took : {X Y : Type 0} (p : X → Bool) (f : X → Y) (n : ℕ) (xs : List X) (x : X) → slice_get xs n ≡ Some x → map f (filter p (take (n + 1) xs)) ≡ map f (filter p (take n xs)) ++ cond (p x) (f x ∷ []) []
kept_took p f n xs x e = ap (λ ys. map f (filter p ys)) (took n xs x e) ∙ (ap (map f) (last_kept p (take n xs) x) ∙ map_cond f (filter p (take n xs)) x (p x))

greatest_last : (ns : List ℕ) (n : ℕ) → greatest (ns ++ n ∷ []) ≡ max (greatest ns) n
greatest_last [] n = omega arith
greatest_last (m ∷ ns) n = let rest : greatest (ns ++ n ∷ []) ≡ max (greatest ns) n = greatest_last ns n in ap (max m) rest ∙ omega arith

pub deeper : (terms : List Term) (n : ℕ) (t : Term) (most old d new : ℕ) → slice_get terms n ≡ Some t → old ≡ min (greatest (map depth_of (take n terms))) most
    → d ≡ min (depth_of t) most → new ≡ max old d → new ≡ min (greatest (map depth_of (take (n + 1) terms))) most
deeper terms n t most old d new e is this next =
    let grown : greatest (map depth_of (take (n + 1) terms)) ≡ max (greatest (map depth_of (take n terms))) (depth_of t) =
    ap (λ ts. greatest (map depth_of ts)) (took n terms t e) ∙ (ap greatest (map-append depth_of (take n terms) (t ∷ [])) ∙ greatest_last (map depth_of (take n terms)) (depth_of t)) in
    omega (arith, grown, is, this, next)

-- what was added after what there was
pub after : {X : Type 0} (a b c old new : List X) → old ≡ a ++ b → new ≡ old ++ c → new ≡ a ++ (b ++ c)
after a b c old new e f = f ∙ (ap (λ xs. xs ++ c) e ∙ append_assoc a b c)

pub unpicked : {X : Type 0} (b : Bool) (xs ys : List X) → b ≡ false → xs ≡ xs ++ cond b ys []
unpicked b xs ys e = sym (ap (λ c. xs ++ cond c ys []) e ∙ append-nil xs)

pub picked : {X : Type 0} (b : Bool) (new old ys : List X) → b ≡ true → new ≡ old ++ ys → new ≡ old ++ cond b ys []
picked b new old ys e f = f ∙ sym (ap (λ c. old ++ cond c ys []) e)
