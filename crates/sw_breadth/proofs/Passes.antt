-- Rounds of the plain pass: how they grow, and where they lead.
use Rattle.std.specs.Prelude.{◌≡◌, ◌≢◌, ℕ, ◌+◌, ◌<◌, List, [], ◌∷◌, ◌++◌, length}
use Rattle.std.specs.List.{AllByRecursion, FoldsTo}
use Rattle.std.proofs.Common.{refl, arith, sym, ap, ◌∙◌, subst, append_assoc}
use Rattle.std.proofs.lemmas.List.{append-nil}
use Rattle.sw_meaning.specs.declared.protocol.Protocol.{Protocol}
use Rattle.sw_meaning.specs.declared.template.Template.{Template}
use Rattle.sw_meaning.specs.Classes.{parts}
use Rattle.sw_meaning.specs.Plain.{Adds, After, Passage, PlainList, Round, Until}
use Rattle.sw_work.specs.Works.{BeginsWith}

abbrev pub L : Type 0
L = List (List ℕ)

pub begins_none : (g : L) → BeginsWith g g
begins_none g = ([], sym (append-nil g))

pub begins_on : (g h k : L) → BeginsWith g h → BeginsWith h k → BeginsWith g k
begins_on g h k a b = (a.0 ++ b.0, b.1 ∙ (ap (λ x. x ++ b.0) a.1 ∙ append_assoc g a.0 b.0))

module _ (R : L → L → Type 0) (begins : (g h : L) → R g h → BeginsWith g h) where
  pub until_begins : {g h : L} → Until R g h → BeginsWith g h
  until_begins (Until.rests {g} r) = begins_none g
  until_begins (Until.goes {g} {next} {h} r n u) = begins_on g next h (begins g next r) (until_begins u)

  -- what each next list begins with, the last one does
  pub way_until : (l : L) {g h : L} → ((k : L) → R g k → BeginsWith l k) → Until R g h → BeginsWith l h
  way_until l f (Until.rests {g} r) = f g r
  way_until l f (Until.goes {g} {next} {h} r n u) = begins_on l next h (f next r) (until_begins u)

module _ (R : L → L → Type 0) (one : (g h k : L) → R g h → R g k → h ≡ k) where
  -- after a step that leads away, the rest begins at the next list
  pub until_step : {g next k : L} → R g next → g ≢ next → Until R g k → Until R next k
  until_step {next = next} r n (Until.rests {g} s) = absurd (n (one g g next s r))
  until_step {next = next} {k = k} r n (Until.goes {g} {next = other} s m u) = subst (λ x. Until R x k) (one g other next s r) u

  rest_one : {g k : L} → R g g → Until R g k → g ≡ k
  rest_one r (Until.rests s) = refl
  rest_one r (Until.goes {g} {next} s n u) = absurd (n (one g g next r s))

  pub until_one : {g h k : L} → Until R g h → Until R g k → h ≡ k
  until_one (Until.rests r) v = rest_one r v
  until_one (Until.goes r n u) v = until_one u (until_step r n v)

module _ {A : Type 0} (R : L → A → L → Type 0) where
  pub folds_begin : ((g h : L) (x : A) → R g x h → BeginsWith g h) → (xs : List A) (g h : L) → FoldsTo R g xs h → BeginsWith g h
  folds_begin begins [] g h f = subst (BeginsWith g) f (begins_none g)
  folds_begin begins (x ∷ xs) g h f = begins_on g f.0 h (begins g f.0 x f.1) (folds_begin begins xs f.0 h f.2)

  pub folds_one : ((g h k : L) (x : A) → R g x h → R g x k → h ≡ k) → (xs : List A) (g h k : L) → FoldsTo R g xs h → FoldsTo R g xs k → h ≡ k
  folds_one one [] g h k a b = sym a ∙ b
  folds_one one (x ∷ xs) g h k a b = folds_one one xs a.0 h k a.2 (subst (λ j. FoldsTo R j xs k) (one g b.0 a.0 x b.1 a.1) b.2)

  -- steps that each stay stay together
  pub folds_stay : (g : L) (xs : List A) → AllByRecursion (λ x. R g x g) xs → FoldsTo R g xs g
  folds_stay g [] a = refl
  folds_stay g (x ∷ xs) a = (g, a.0, folds_stay g xs a.1)

module _ (p : Protocol) (t : Template) where
  after_begins : (g h : L) (class : List ℕ) → After p t g class h → BeginsWith g h
  after_begins g h class (After.added a e) = (class ∷ [], e)
  after_begins g h class (After.left n e) = subst (BeginsWith g) (sym e) (begins_none g)

  after_one : (g h k : L) (class : List ℕ) → After p t g class h → After p t g class k → h ≡ k
  after_one g h k class (After.added a e) (After.added b d) = e ∙ sym d
  after_one g h k class (After.added a e) (After.left b d) = absurd (b a)
  after_one g h k class (After.left a e) (After.added b d) = absurd (a b)
  after_one g h k class (After.left a e) (After.left b d) = e ∙ sym d

  part_begins : (g h : L) (part : List (List ℕ)) → Until (Passage p t part) g h → BeginsWith g h
  part_begins g h part u = until_begins (Passage p t part) (λ g h f. folds_begin (After p t) after_begins part g h f) u

  part_one : (g h k : L) (part : List (List ℕ)) → Until (Passage p t part) g h → Until (Passage p t part) g k → h ≡ k
  part_one g h k part a b = until_one (Passage p t part) (λ g h k a b. folds_one (After p t) after_one part g h k a b) a b

  pub round_begins : (g h : L) → Round p t g h → BeginsWith g h
  round_begins g h f = folds_begin (λ from part to. Until (Passage p t part) from to) part_begins (parts p.signature t) g h f

  round_one : (g h k : L) → Round p t g h → Round p t g k → h ≡ k
  round_one g h k a b = folds_one (λ from part to. Until (Passage p t part) from to) part_one (parts p.signature t) g h k a b

  -- the plain pass leads through this list
  pub record Leads (g : L) : Type 0 where
    pub ahead : (h : L) → Until (Round p t) g h → PlainList p t h
    pub through : (h : L) → PlainList p t h → Until (Round p t) g h

  pub leads_first : Leads []
  leads_first = record { ahead = λ h u. u; through = λ h u. u }

  pub leads_on : (g next : L) → Round p t g next → g ≢ next → Leads g → Leads next
  leads_on g next r n l = record {
    ahead = λ h u. l.ahead h (Until.goes r n u);
    through = λ h u. until_step (Round p t) round_one r n (l.through h u);
  }

  -- a list with which each next round begins is one with which the plain list begins
  pub way_on : (g l : L) → Leads g → ((h : L) → Round p t g h → BeginsWith l h) → (h : L) → PlainList p t h → BeginsWith l h
  way_on g l leads f h plain = way_until (Round p t) round_begins l f (leads.through h plain)

  -- where no class adds to a list, a round leads from it to itself
  pub rests : (g : L) → AllByRecursion (λ part. AllByRecursion (λ class. Adds p t g class → ⊥) part) (parts p.signature t) → Round p t g g
  rests g none = folds_stay (λ from part to. Until (Passage p t part) from to) g (parts p.signature t) (each_part (parts p.signature t) none)
    where
      each_class : (part : List (List ℕ)) → AllByRecursion (λ class. Adds p t g class → ⊥) part → AllByRecursion (λ class. After p t g class g) part
      each_class [] a = tt
      each_class (class ∷ part) a = (After.left a.0 refl, each_class part a.1)

      each_part : (ps : List (List (List ℕ))) → AllByRecursion (λ part. AllByRecursion (λ class. Adds p t g class → ⊥) part) ps → AllByRecursion (λ part. Until (Passage p t part) g g) ps
      each_part [] a = tt
      each_part (part ∷ ps) a = (Until.rests (folds_stay (After p t) g part (each_class part a.0)), each_part ps a.1)
