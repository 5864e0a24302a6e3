-- What the named atoms that an assignment makes true say of terms by number.
use Rattle.std.specs.Prelude.{◌≡◌, ◌⊎◌, ◌<◌, ℕ, zero, suc, Bool, true, false, List, [], ◌∷◌, length, Some, slice_get, slice_index, slice_index_or, slice_set, unwrap_or}
use Rattle.std.proofs.Common.{arith, refl, sym, subst, ap, ◌∙◌, inl, inr}
use Rattle.std.proofs.lemmas.Bool.{false≢true}
use Rattle.sw_logic.specs.declared.syntax.Term.{Term}
use Rattle.sw_logic.specs.Truth.{args_of, size_of}
use Rattle.sw_truth.specs.declared.sets.SkolemSet.{SkolemSet}
use Rattle.sw_truth.specs.declared.instances.Atom.{Atom}
use Rattle.sw_truth.specs.declared.instances.Atom.TheVariants.{Holds, Equal, Inner}
use Rattle.sw_truth.specs.Models.{AreOfSorts}
use Rattle.sw_universe.specs.declared.universe.Universe.{Universe}
use Rattle.sw_universe.specs.ByNumber.{counts, term_at, terms_at, IsTerm, AreDistinct, AreApart}
use Rattle.sw_instances.specs.Named.{Name, related, equated, inner, Literal, plain, opposite}
use Rattle.sw_instances.specs.Numbered.{Beside, StandsFor}
use Rattle.sw_quotient.specs.Valuations.{Valuation, valuation}
use Rattle.sw_quotient.proofs.Atoms.{AreOnce, atom_is_variable}
use Rattle.sw_quotient.proofs.Saying.{AreUnique, beside_right, beside_left, IsSaid, SomeSaid}

-- an element of terms by number
pub terms_get : (u : Universe) (sorts ns : List ℕ) (k : ℕ) (d : Term) → AreOfSorts (counts u) sorts ns → k < length sorts → unwrap_or (slice_get (terms_at u sorts ns) k) d ≡ term_at u (slice_index sorts k) (slice_index ns k)
terms_get u [] ns k d h l = absurd (omega arith)
terms_get u (s ∷ sorts) [] k d h l = absurd h
terms_get u (s ∷ sorts) (n ∷ ns) zero d h l = refl
terms_get u (s ∷ sorts) (n ∷ ns) (suc k) d h l = terms_get u sorts ns k d h.1 (omega arith)

pub number_get : (u : Universe) (sorts ns : List ℕ) (k : ℕ) → AreOfSorts (counts u) sorts ns → k < length sorts → IsTerm u (slice_index sorts k) (slice_index ns k)
number_get u [] ns k h l = absurd (omega arith)
number_get u (s ∷ sorts) [] k h l = absurd h
number_get u (s ∷ sorts) (n ∷ ns) zero h l = h.0
number_get u (s ∷ sorts) (n ∷ ns) (suc k) h l = number_get u sorts ns k h.1 (omega arith)

pub terms_set : (u : Universe) (sorts ns : List ℕ) (k x : ℕ) → AreOfSorts (counts u) sorts ns → k < length sorts
    → slice_set (terms_at u sorts ns) k (term_at u (slice_index sorts k) x) ≡ terms_at u sorts (slice_set ns k x)
terms_set u [] ns k x h l = absurd (omega arith)
terms_set u (s ∷ sorts) [] k x h l = absurd h
terms_set u (s ∷ sorts) (n ∷ ns) zero x h l = refl
terms_set u (s ∷ sorts) (n ∷ ns) (suc k) x h l = ap (λ (ts : List Term). term_at u s n ∷ ts) (terms_set u sorts ns k x h.1 (omega arith))

pub numbers_set : (u : Universe) (sorts ns : List ℕ) (k x : ℕ) → AreOfSorts (counts u) sorts ns → k < length sorts → IsTerm u (slice_index sorts k) x → AreOfSorts (counts u) sorts (slice_set ns k x)
numbers_set u [] ns k x h l i = absurd (omega arith)
numbers_set u (s ∷ sorts) [] k x h l i = absurd h
numbers_set u (s ∷ sorts) (n ∷ ns) zero x h l i = (i, h.1)
numbers_set u (s ∷ sorts) (n ∷ ns) (suc k) x h l i = (h.0, numbers_set u sorts ns k x h.1 (omega arith) i)

module _ (set : SkolemSet) (u : Universe) (distinct : AreDistinct u) (apart : AreApart u) (atoms : List Atom) (names : List Name) (values : List Bool) (beside : Beside (StandsFor set u) atoms names) (unique : AreUnique names) where
  abbrev pub here : ℕ → Bool
  here v = slice_index_or values v false

  abbrev pub val : Valuation
  val = valuation atoms values

  name_of : Atom → Name
  name_of (Holds f ns) = related f (terms_at u (args_of set.signature f) ns)
  name_of (Equal sort t w) = equated (term_at u sort t) (term_at u sort w)
  name_of Inner = inner []

  name_is : (a : Atom) (n : Name) → StandsFor set u a n → (a ≡ Inner → ⊥) → n ≡ name_of a
  unfolding name_of
  name_is a n (StandsFor.is_related h) g = refl
  name_is a n (StandsFor.is_equated h k) g = refl
  name_is a n StandsFor.is_inner g = absurd (g refl)

  are_once : AreOnce atoms
  are_once i j a g e f =
      let x = beside_left (StandsFor set u) atoms names beside i a e in
      let y = beside_left (StandsFor set u) atoms names beside j a f in
      unique i j (name_of a) (x.1 ∙ ap Some (name_is a x.0 x.2 g)) (y.1 ∙ ap Some (name_is a y.0 y.2 g))

  equated_atom : (sort t w : ℕ) → IsTerm u sort t → IsTerm u sort w → (a : Atom) (n : Name) → StandsFor set u a n → n ≡ equated (term_at u sort t) (term_at u sort w) → a ≡ Equal sort t w
  equated_atom sort t w it iw a n (StandsFor.is_related h) e = cc
  equated_atom sort t w it iw a n (StandsFor.is_equated {sort = r} {t = x} {v = y} h k) e =
      let first : term_at u r x ≡ term_at u sort t = cc in
      let second : term_at u r y ≡ term_at u sort w = cc in
      let s : r ≡ sort = apart r sort x t h it first in
      let left : x ≡ t = distinct sort x t (subst (λ (q : ℕ). IsTerm u q x) s h) it (subst (λ (q : ℕ). term_at u q x ≡ term_at u sort t) s first) in
      let right : y ≡ w = distinct sort y w (subst (λ (q : ℕ). IsTerm u q y) s k) iw (subst (λ (q : ℕ). term_at u q y ≡ term_at u sort w) s second) in
      cc
  equated_atom sort t w it iw a n StandsFor.is_inner e = cc

  terms_same : (sorts ms ns : List ℕ) → AreOfSorts (counts u) sorts ms → AreOfSorts (counts u) sorts ns → terms_at u sorts ms ≡ terms_at u sorts ns → ms ≡ ns
  terms_same [] [] [] h k e = refl
  terms_same [] [] (n ∷ ns) h k e = absurd k
  terms_same [] (m ∷ ms) ns h k e = absurd h
  terms_same (s ∷ sorts) [] ns h k e = absurd h
  terms_same (s ∷ sorts) (m ∷ ms) [] h k e = absurd k
  terms_same (s ∷ sorts) (m ∷ ms) (n ∷ ns) h k e =
      let head : term_at u s m ≡ term_at u s n = cc in
      let tail : terms_at u sorts ms ≡ terms_at u sorts ns = cc in
      let first : m ≡ n = distinct s m n h.0 k.0 head in
      let rest : ms ≡ ns = terms_same sorts ms ns h.1 k.1 tail in
      cc

  related_atom : (f : ℕ) (ns : List ℕ) → AreOfSorts (counts u) (args_of set.signature f) ns → (a : Atom) (n : Name) → StandsFor set u a n → n ≡ related f (terms_at u (args_of set.signature f) ns) → a ≡ Holds f ns
  related_atom f ns k a n (StandsFor.is_related {symbol = g} {ns = ms} h) e =
      let same : g ≡ f = cc in
      let lists : terms_at u (args_of set.signature g) ms ≡ terms_at u (args_of set.signature f) ns = cc in
      let h_here = subst (λ (q : ℕ). AreOfSorts (counts u) (args_of set.signature q) ms) same h in
      let lists_here = subst (λ (q : ℕ). terms_at u (args_of set.signature q) ms ≡ terms_at u (args_of set.signature f) ns) same lists in
      let numbers : ms ≡ ns = terms_same (args_of set.signature f) ms ns h_here k lists_here in
      cc
  related_atom f ns k a n (StandsFor.is_equated h i) e = cc
  related_atom f ns k a n StandsFor.is_inner e = cc

  -- an equality is worth what its literal is
  pub equated_value : (sort t w : ℕ) → IsTerm u sort t → IsTerm u sort w → (l : Literal) → l.name ≡ equated (term_at u sort t) (term_at u sort w) → IsSaid names here l → val.equal sort t w ≡ l.positive
  equated_value sort t w it iw l e x =
      let at = beside_right (StandsFor set u) atoms names beside x.variable l.name x.is in
      let is = equated_atom sort t w it iw at.0 l.name at.2 e in
      atom_is_variable atoms values (Equal sort t w) x.variable are_once (λ z. cc) (at.1 ∙ ap Some is) l.positive x.value

  pub related_value : (f : ℕ) (ns : List ℕ) → AreOfSorts (counts u) (args_of set.signature f) ns → (l : Literal) → l.name ≡ related f (terms_at u (args_of set.signature f) ns) → IsSaid names here l → val.holds f ns ≡ l.positive
  related_value f ns k l e x =
      let at = beside_right (StandsFor set u) atoms names beside x.variable l.name x.is in
      let is = related_atom f ns k at.0 l.name at.2 e in
      atom_is_variable atoms values (Holds f ns) x.variable are_once (λ z. cc) (at.1 ∙ ap Some is) l.positive x.value

  -- one equality implies what the rest of its clause says
  pub implies : (sort t w : ℕ) → IsTerm u sort t → IsTerm u sort w → (ls : List Literal) → SomeSaid names here (opposite (plain (equated (term_at u sort t) (term_at u sort w))) ∷ ls) → val.equal sort t w ≡ true → SomeSaid names here ls
  implies sort t w it iw ls h e = elim h [
    | inl x ↦ absurd (false≢true (sym (equated_value sort t w it iw (opposite (plain (equated (term_at u sort t) (term_at u sort w)))) refl x) ∙ e))
    | inr r ↦ r
  ]

  pub equal_at : (sort t w : ℕ) → IsTerm u sort t → IsTerm u sort w → SomeSaid names here (plain (equated (term_at u sort t) (term_at u sort w)) ∷ []) → val.equal sort t w ≡ true
  equal_at sort t w it iw h = elim h [ inl x ↦ equated_value sort t w it iw (plain (equated (term_at u sort t) (term_at u sort w))) refl x | inr r ↦ absurd r ]

  pub holds_then : (f : ℕ) (ns ms : List ℕ) → AreOfSorts (counts u) (args_of set.signature f) ns → AreOfSorts (counts u) (args_of set.signature f) ms
      → SomeSaid names here (opposite (plain (related f (terms_at u (args_of set.signature f) ns))) ∷ plain (related f (terms_at u (args_of set.signature f) ms)) ∷ []) → val.holds f ns ≡ true → val.holds f ms ≡ true
  holds_then f ns ms k l h e = elim h [
    | inl x ↦ absurd (false≢true (sym (related_value f ns k (opposite (plain (related f (terms_at u (args_of set.signature f) ns)))) refl x) ∙ e))
    | inr r ↦ elim r [ inl y ↦ related_value f ms l (plain (related f (terms_at u (args_of set.signature f) ms))) refl y | inr z ↦ absurd z ]
  ]
