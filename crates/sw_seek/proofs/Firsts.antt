-- What a search through classes found, put together in their order.
use Rattle.std.specs.Prelude.{◌≡◌, ◌≤◌, ℕ, zero, suc, ◌+◌, ◌<◌, List, [], ◌∷◌, ◌++◌, length, take, drop, Option, Some, None, slice_get, unwrap_or, Contains, option_map}
use Rattle.std.specs.List.{AllByRecursion, flat_map}
use Rattle.std.proofs.Common.{refl, arith, sym, ap, ◌∙◌, subst, inl, inr, append_assoc}
use Rattle.std.proofs.lemmas.Bool.{cases_lt}
use Rattle.std.proofs.lemmas.Grind.{flat_map-append}
use Rattle.std.proofs.lemmas.List.{append-nil, take-append-drop}
use Rattle.std.proofs.lemmas.List.Concat.{flat_map-cons}
use Rattle.std.proofs.lemmas.List.Elements.{Contains-append_cases}
use Rattle.std.proofs.lemmas.Option.{none-some, same_Some}
use Rattle.sw_lists.proofs.Each.{each-contained, each-unflat_map, of_contained, each-at}
use Rattle.sw_lists.proofs.Members.{contains_none, get_contains}
use Rattle.sw_lists.proofs.Places.{get_some, get_append_at, drop-got}
use Rattle.sw_logic.specs.declared.syntax.Formula.{Formula}
use Rattle.sw_meaning.specs.declared.protocol.Protocol.{Protocol}
use Rattle.sw_meaning.specs.declared.template.Template.{Template}
use Rattle.sw_meaning.specs.Classes.{formula_of}
use Rattle.sw_meaning.specs.Verdict.{Joins}
use Rattle.sw_template.specs.Bodies.{Class}
use Rattle.sw_join.specs.Joining.{IsJoined}
use Rattle.sw_core.specs.Machine.{Search, formula_in}
use Rattle.sw_walk.specs.Parts.{part_at, all_classes}
use Rattle.sw_seek.specs.declared.considering.Found.{Found}
use Rattle.sw_seek.specs.Seeking.{NoneJoins, IsFirstJoined}
use Rattle.sw_seek.specs.Steps.{IsFound}

abbrev L : Type 0
L = List (List ℕ)

abbrev cubes_in : Option Class → Option (List ℕ)
cubes_in o = option_map (λ b. b.cubes) o

-- ---- places
pub take_one : {X : Type 0} (xs : List X) (i : ℕ) (x : X) → slice_get xs i ≡ Some x → take (i + 1) xs ≡ take i xs ++ x ∷ []
take_one [] i x e = absurd (none-some x e)
take_one (y ∷ xs) zero x e = ap (λ z. z ∷ []) (same_Some y x e)
take_one (y ∷ xs) (suc i) x e = let d : suc i + 1 ≡ suc (i + 1) = omega arith in ap (λ n. take n (y ∷ xs)) d ∙ ap (λ zs. y ∷ zs) (take_one xs i x e)

none_past : {X : Type 0} (xs : List X) (i : ℕ) → slice_get xs i ≡ None → length xs ≤ i
none_past xs i e = elim (cases_lt i (length xs)) [
  | inl below ↦ let x = get_some xs i below in absurd (none-some x.0 (sym e ∙ x.1))
  | inr past ↦ past
]

-- what a walk is at
pub past_end : (o : Option Class) (part : L) (i : ℕ) → cubes_in o ≡ slice_get part i → o ≡ None → length part ≤ i
past_end o part i at e = none_past part i (sym at ∙ ap cubes_in e)

pub class_at : (o : Option Class) (b : Class) (part : L) (i : ℕ) → cubes_in o ≡ slice_get part i → o ≡ Some b → slice_get part i ≡ Some b.cubes
class_at o b part i at e = sym at ∙ ap cubes_in e

pub part_found : (ps : List L) (n : ℕ) → n < length ps → slice_get ps n ≡ Some (part_at ps n)
part_found ps n h = let x = get_some ps n h in x.1 ∙ ap Some (sym (ap (λ o. unwrap_or o []) x.1))

pub in_all : (ps : List L) (n : ℕ) (class : List ℕ) → n < length ps → Contains (part_at ps n) class → Contains (all_classes ps) class
in_all ps n class h among =
    let all = all_classes ps in
    let each = each-unflat_map (Contains all) (λ part. part) ps (each-contained all) in
    of_contained (Contains all) (part_at ps n) class (each-at (AllByRecursion (Contains all)) ps n (part_at ps n) (part_found ps n h) each) among

-- ---- the classes before a place, at it and behind it
part_split : (part : L) (i : ℕ) (c : List ℕ) → slice_get part i ≡ Some c → part ≡ take i part ++ ((c ∷ []) ++ drop (suc i) part)
part_split part i c e = sym (take-append-drop i part) ∙ ap (λ rest. take i part ++ rest) (drop-got part i c e)

pub all_more : (ps : List L) (n : ℕ) → n < length ps → all_classes (take (n + 1) ps) ≡ all_classes (take n ps) ++ part_at ps n
all_more ps n h =
    ap all_classes (take_one ps n (part_at ps n) (part_found ps n h)) ∙ (flat_map-append (λ part. part) (take n ps) (part_at ps n ∷ [])
    ∙ ap (λ rest. all_classes (take n ps) ++ rest) (flat_map-cons (λ part. part) (part_at ps n) [] ∙ append-nil (part_at ps n)))

all_front : (ps : List L) (n : ℕ) → all_classes ps ≡ all_classes (take n ps) ++ all_classes (drop n ps)
all_front ps n = ap all_classes (sym (take-append-drop n ps)) ∙ flat_map-append (λ part. part) (take n ps) (drop n ps)

pub drawn_more : (ps : List L) (drawn : List ℕ) (n : ℕ) → flat_map (part_at ps) (drawn ++ n ∷ []) ≡ flat_map (part_at ps) drawn ++ part_at ps n
drawn_more ps drawn n =
    flat_map-append (part_at ps) drawn (n ∷ []) ∙ ap (λ rest. flat_map (part_at ps) drawn ++ rest) (flat_map-cons (part_at ps) n [] ∙ append-nil (part_at ps n))

module _ (p : Protocol) (t : Template) (g : List Formula) where
  -- ---- none of them
  pub none_of_none : NoneJoins p t g []
  none_of_none c among j = contains_none c among

  pub none_both : (xs ys : L) → NoneJoins p t g xs → NoneJoins p t g ys → NoneJoins p t g (xs ++ ys)
  none_both xs ys a b c among j = elim (Contains-append_cases xs ys c among) [
    | inl here ↦ a c here j
    | inr there ↦ b c there j
  ]

  pub none_drawn : (ps : List L) (drawn : List ℕ) (n : ℕ) → NoneJoins p t g (flat_map (part_at ps) drawn) → NoneJoins p t g (part_at ps n)
      → NoneJoins p t g (flat_map (part_at ps) (drawn ++ n ∷ []))
  none_drawn ps drawn n a b = subst (NoneJoins p t g) (sym (drawn_more ps drawn n)) (none_both (flat_map (part_at ps) drawn) (part_at ps n) a b)

  -- ---- the first of them
  first_one : (c : List ℕ) → Joins p g (formula_of p.signature t c) → IsFirstJoined p t g (c ∷ []) c
  first_one c j = record { before = []; after = []; at = refl; none = none_of_none; joins = j }

  -- where none of those before joins, the first of the middle ones is the first of all
  first_within : (xs ys zs : L) (c : List ℕ) → NoneJoins p t g xs → IsFirstJoined p t g ys c → IsFirstJoined p t g (xs ++ (ys ++ zs)) c
  first_within xs ys zs c none f = record {
    before = xs ++ f.before;
    after = f.after ++ zs;
    at = ap (λ ws. xs ++ (ws ++ zs)) f.at ∙ (ap (λ ws. xs ++ ws) (append_assoc f.before (c ∷ f.after) zs) ∙ sym
        (append_assoc xs f.before (c ∷ (f.after ++ zs))));
    none = none_both xs f.before none f.none;
    joins = f.joins;
  }

  first_front : (ys zs : L) (c : List ℕ) → IsFirstJoined p t g ys c → IsFirstJoined p t g (ys ++ zs) c
  first_front ys zs c f = first_within [] ys zs c none_of_none f

  first_behind : (xs ys : L) (c : List ℕ) → NoneJoins p t g xs → IsFirstJoined p t g ys c → IsFirstJoined p t g (xs ++ ys) c
  first_behind xs ys c none f = subst (λ ws. IsFirstJoined p t g (xs ++ ws) c) (append-nil ys) (first_within xs ys [] c none f)

  first_at : (part : L) (i : ℕ) (c : List ℕ) → slice_get part i ≡ Some c → NoneJoins p t g (take i part) → Joins p g (formula_of p.signature t c)
      → IsFirstJoined p t g part c
  first_at part i c e none j = subst (λ cs. IsFirstJoined p t g cs c) (sym (part_split part i c e))
      (first_within (take i part) (c ∷ []) (drop (suc i) part) c none (first_one c j))

  -- the first in the parts drawn, where none of the parts before has one
  pub first_drawn : (ps : List L) (drawn : List ℕ) (n : ℕ) (c : List ℕ) → NoneJoins p t g (flat_map (part_at ps) drawn) → IsFirstJoined p t g (part_at ps n) c
      → IsFirstJoined p t g (flat_map (part_at ps) (drawn ++ n ∷ [])) c
  first_drawn ps drawn n c none f = subst (λ cs. IsFirstJoined p t g cs c) (sym (drawn_more ps drawn n))
      (first_behind (flat_map (part_at ps) drawn) (part_at ps n) c none f)

  -- the first in the front parts is the first of all
  pub first_of_all : (ps : List L) (n : ℕ) (c : List ℕ) → IsFirstJoined p t g (all_classes (take n ps)) c → IsFirstJoined p t g (all_classes ps) c
  first_of_all ps n c f = subst (λ cs. IsFirstJoined p t g cs c) (sym (all_front ps n)) (first_front (all_classes (take n ps)) (all_classes (drop n ps)) c f)

-- a first one is among them
pub first_among : (p : Protocol) (t : Template) (g : List Formula) (cs : L) (c : List ℕ) → IsFirstJoined p t g cs c → Contains cs c
first_among p t g cs c f = subst (λ xs. Contains xs c) (sym f.at) (among_at f.before c f.after)
  where
    among_at : (xs : L) (x : List ℕ) (ys : L) → Contains (xs ++ x ∷ ys) x
    among_at xs x ys = get_contains (xs ++ x ∷ ys) (length xs) x (get_append_at xs x ys)

-- a class at a place joins, and none before it
pub found_at : (m : Search) (g : List Formula) (budget : Option ℕ) (part : L) (i : ℕ) (b : Class) (f : Found) → slice_get part i ≡ Some b.cubes
    → NoneJoins m.protocol m.template g (take i part)
    → b.template ≡ 0 → f.body ≡ b → IsJoined m.protocol g (formula_in m b.cubes) budget f.start f.steps → IsFound m g budget part f
found_at m g budget part i b f at none single e j = record {
  single = subst (λ (x : Class). x.template ≡ 0) (sym e) single;
  first = subst (λ (x : Class). IsFirstJoined m.protocol m.template g part x.cubes) (sym e) (first_at m.protocol m.template g part i b.cubes at none j.joins);
  joined = subst (λ (x : Class). IsJoined m.protocol g (formula_in m x.cubes) budget f.start f.steps) (sym e) j;
}
