-- Rows of steps of the plain pass: how they grow, and where they lead.
use Rattle.std.specs.Prelude.{◌≡◌, ◌≢◌, ℕ, zero, suc, ◌+◌, ◌<◌, ◌≤◌, List, [], ◌∷◌, ◌++◌, length, take, Some, None, slice_get, unwrap_or, Contains, Result, Ok, Err, IsErrAnd, IfErr}
use Rattle.std.specs.List.{AllByRecursion, FoldsTo}
use Rattle.std.proofs.Common.{refl, arith, sym, ap, ◌∙◌, subst, inl, inr, append_assoc}
use Rattle.std.proofs.lemmas.Bool.{cases_lt}
use Rattle.std.proofs.lemmas.List.{append-nil}
use Rattle.std.proofs.lemmas.Option.{none-some, same_Some}
use Rattle.sw_meaning.specs.declared.protocol.Protocol.{Protocol}
use Rattle.sw_meaning.specs.declared.template.Template.{Template}
use Rattle.sw_meaning.specs.Plain.{After, Passage, Until}
use Rattle.sw_lists.proofs.Each.{each-contained, each-unflat_map, of_contained, each-at}
use Rattle.sw_lists.proofs.Places.{get_some}
use Rattle.sw_lists.proofs.Members.{get_contains}
use Rattle.sw_walk.specs.Parts.{part_at, all_classes}
use Rattle.sw_work.specs.Works.{Settles, BeginsWith}

-- an error that is passed on
pub passed : {A E : Type 0} (P : E → Type 0) (e : E) (r : Result A E) → IsErrAnd r (λ x. x ≡ e) → P e → IfErr r P
passed P e (Ok x) is h = absurd is
passed P e (Err x) is h = subst P (sym is) h

-- ---- rows of steps
pub folds_push : {G A : Type 0} (R : G → A → G → Type 0) (xs : List A) (x : A) (g h k : G) → FoldsTo R g xs h → R h x k → FoldsTo R g (xs ++ x ∷ []) k
folds_push R [] x g h k f r = (k, subst (λ u. R u x k) (sym f) r, refl)
folds_push R (y ∷ xs) x g h k f r = (f.0, f.1, folds_push R xs x f.0 h k f.2 r)

pub take_one : {X : Type 0} (xs : List X) (i : ℕ) (x : X) → slice_get xs i ≡ Some x → take (i + 1) xs ≡ take i xs ++ x ∷ []
take_one [] i x e = absurd (none-some x e)
take_one (y ∷ xs) zero x e = ap (λ z. z ∷ []) (same_Some y x e)
take_one (y ∷ xs) (suc i) x e = let d : suc i + 1 ≡ suc (i + 1) = omega arith in ap (λ n. take n (y ∷ xs)) d ∙ ap (λ zs. y ∷ zs) (take_one xs i x e)

pub take_whole : {X : Type 0} (xs : List X) (i : ℕ) → length xs ≤ i → take i xs ≡ xs
take_whole [] zero h = refl
take_whole [] (suc i) h = refl
take_whole (x ∷ xs) zero h = absurd (omega arith)
take_whole (x ∷ xs) (suc i) h = ap (λ zs. x ∷ zs) (take_whole xs i (omega arith))

pub none_past : {X : Type 0} (xs : List X) (i : ℕ) → slice_get xs i ≡ None → length xs ≤ i
none_past xs i e = elim (cases_lt i (length xs)) [
  | inl below ↦ let x = get_some xs i below in absurd (none-some x.0 (sym e ∙ x.1))
  | inr past ↦ past
]

-- ---- one list begins with another
abbrev L : Type 0
L = List (List ℕ)

pub begins_none : (g : L) → BeginsWith g g
begins_none g = ([], sym (append-nil g))

pub begins_on : (g h k : L) → BeginsWith g h → BeginsWith h k → BeginsWith g k
begins_on g h k a b = (a.0 ++ b.0, b.1 ∙ (ap (λ x. x ++ b.0) a.1 ∙ append_assoc g a.0 b.0))

module _ (R : L → L → Type 0) (begins : (g h : L) → R g h → BeginsWith g h) where
  pub until_begins : {g h : L} → Until R g h → BeginsWith g h
  until_begins (Until.rests {g} r) = begins_none g
  until_begins (Until.goes {g} {next} {h} r n u) = begins_on g next h (begins g next r) (until_begins u)

  -- what each next list begins with, the last one does
  pub way_until : (l : L) {g h : L} → ((k : L) → R g k → BeginsWith l k) → Until R g h → BeginsWith l h
  way_until l f (Until.rests {g} r) = f g r
  way_until l f (Until.goes {g} {next} {h} r n u) = begins_on l next h (f next r) (until_begins u)

module _ (R : L → L → Type 0) (one : (g h k : L) → R g h → R g k → h ≡ k) where
  rest_one : {g k : L} → R g g → Until R g k → g ≡ k
  rest_one r (Until.rests s) = refl
  rest_one r (Until.goes {g} {next} s n u) = absurd (n (one g g next r s))

  goes_one : {g next k : L} → R g next → g ≢ next → Until R g k → Until R next k
  goes_one {next = next} r n (Until.rests {g} s) = absurd (n (one g g next s r))
  goes_one {next = next} {k = k} r n (Until.goes {g} {next = other} s m u) = subst (λ x. Until R x k) (one g other next s r) u

  pub until_one : {g h k : L} → Until R g h → Until R g k → h ≡ k
  until_one (Until.rests r) v = rest_one r v
  until_one (Until.goes r n u) v = until_one u (goes_one r n v)

  -- after a step that leads away, the rest begins at the next list
  pub until_step : {g next h : L} → R g next → g ≢ next → Until R g h → Until R next h
  until_step r n u = goes_one r n u

module _ {A : Type 0} (R : L → A → L → Type 0) (begins : (g h : L) (x : A) → R g x h → BeginsWith g h) (one : (g h k : L) (x : A) → R g x h → R g x k → h ≡ k) where
  pub folds_begin : (xs : List A) (g h : L) → FoldsTo R g xs h → BeginsWith g h
  folds_begin [] g h f = subst (BeginsWith g) f (begins_none g)
  folds_begin (x ∷ xs) g h f = begins_on g f.0 h (begins g f.0 x f.1) (folds_begin xs f.0 h f.2)

  pub folds_one : (xs : List A) (g h k : L) → FoldsTo R g xs h → FoldsTo R g xs k → h ≡ k
  folds_one [] g h k a b = sym a ∙ b
  folds_one (x ∷ xs) g h k a b = folds_one xs a.0 h k a.2 (subst (λ j. FoldsTo R j xs k) (one g b.0 a.0 x b.1 a.1) b.2)

  -- what each list after the next step begins with, the last one does
  pub way_within : (xs : List A) (i : ℕ) (x : A) → slice_get xs i ≡ Some x → (l g now : L) → FoldsTo R g (take i xs) now → ((k : L) → R now x k → BeginsWith l k)
      → (h : L) → FoldsTo R g xs h → BeginsWith l h
  way_within [] i x e l g now a f h b = absurd (none-some x e)
  way_within (y ∷ xs) zero x e l g now a f h b =
      begins_on l b.0 h (f b.0 (subst (λ u. R u x b.0) a (subst (λ z. R g z b.0) (same_Some y x e) b.1))) (folds_begin xs b.0 h b.2)
  way_within (y ∷ xs) (suc i) x e l g now a f h b =
      way_within xs i x e l a.0 now a.2 f h (subst (λ j. FoldsTo R j xs h) (one g b.0 a.0 y b.1 a.1) b.2)

module _ (p : Protocol) (t : Template) where
  pub after_begins : (g h : L) (class : List ℕ) → After p t g class h → BeginsWith g h
  after_begins g h class (After.added a e) = (class ∷ [], e)
  after_begins g h class (After.left n e) = subst (BeginsWith g) (sym e) (begins_none g)

  pub after_one : (g h k : L) (class : List ℕ) → After p t g class h → After p t g class k → h ≡ k
  after_one g h k class (After.added a e) (After.added b d) = e ∙ sym d
  after_one g h k class (After.added a e) (After.left b d) = absurd (b a)
  after_one g h k class (After.left a e) (After.added b d) = absurd (a b)
  after_one g h k class (After.left a e) (After.left b d) = e ∙ sym d

  pub passage_begins : (part : List (List ℕ)) (g h : L) → Passage p t part g h → BeginsWith g h
  passage_begins part g h f = folds_begin (After p t) after_begins after_one part g h f

  pub passage_one : (part : List (List ℕ)) (g h k : L) → Passage p t part g h → Passage p t part g k → h ≡ k
  passage_one part g h k a b = folds_one (After p t) after_begins after_one part g h k a b

  part_begins : (g h : L) (part : List (List ℕ)) → Until (Passage p t part) g h → BeginsWith g h
  part_begins g h part u = until_begins (Passage p t part) (passage_begins part) u

  part_one : (g h k : L) (part : List (List ℕ)) → Until (Passage p t part) g h → Until (Passage p t part) g k → h ≡ k
  part_one g h k part a b = until_one (Passage p t part) (passage_one part) a b

  pub settles_begins : (parts : List (List (List ℕ))) (g h : L) → Settles p t parts g h → BeginsWith g h
  settles_begins ps g h f = folds_begin (λ from part to. Until (Passage p t part) from to) part_begins part_one ps g h f

  pub settles_one : (parts : List (List (List ℕ))) (g h k : L) → Settles p t parts g h → Settles p t parts g k → h ≡ k
  settles_one ps g h k a b = folds_one (λ from part to. Until (Passage p t part) from to) part_begins part_one ps g h k a b

  pub way_passage : (part : List (List ℕ)) (i : ℕ) (class : List ℕ) → slice_get part i ≡ Some class → (g now : L) → Passage p t (take i part) g now → (h : L) → Passage p t part g h → BeginsWith now h
  way_passage part i class e g now a h b = way_within (After p t) after_begins after_one part i class e now g now a (λ k r. after_begins now k class r) h b

  pub way_settles : (parts : List (List (List ℕ))) (i : ℕ) (part : List (List ℕ)) → slice_get parts i ≡ Some part → (l g now : L) → Settles p t (take i parts) g now
      → ((k : L) → Until (Passage p t part) now k → BeginsWith l k) → (h : L) → Settles p t parts g h → BeginsWith l h
  way_settles ps i part e l g now a f h b = way_within (λ from x to. Until (Passage p t x) from to) part_begins part_one ps i part e l g now a f h b

-- a step that ends where it began is the last
pub until_rests : {G : Type 0} (Once : G → G → Type 0) (g h : G) → Once g h → h ≡ g → Until Once g h
until_rests Once g h o e = subst (λ x. Until Once x h) e (Until.rests (subst (λ x. Once x h) (sym e) o))

pub until_goes : {G : Type 0} (Once : G → G → Type 0) (g next h : G) → Once g next → g ≢ next → Until Once next h → Until Once g h
until_goes Once g next h o n u = Until.goes o n u

-- ---- the parts
pub part_found : (ps : List (List (List ℕ))) (n : ℕ) → n < length ps → slice_get ps n ≡ Some (part_at ps n)
part_found ps n h = let x = get_some ps n h in x.1 ∙ ap Some (sym (ap (λ o. unwrap_or o []) x.1))

pub in_all : (ps : List (List (List ℕ))) (n at : ℕ) (class : List ℕ) → n < length ps → slice_get (part_at ps n) at ≡ Some class → Contains (all_classes ps) class
in_all ps n at class h e =
    let all = all_classes ps in
    let each = each-unflat_map (Contains all) (λ part. part) ps (each-contained all) in
    of_contained (Contains all) (part_at ps n) class
    (each-at (AllByRecursion (Contains all)) ps n (part_at ps n) (part_found ps n h) each)
    (get_contains (part_at ps n) at class e)
