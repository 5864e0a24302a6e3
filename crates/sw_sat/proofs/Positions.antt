-- Where the literals of a trail stand.
use Rattle.std.specs.Prelude.{◌≡◌, ◌<◌, ◌≤◌, ℕ, List, [], ◌∷◌, take, Some, slice_get, Contains}
use Rattle.std.proofs.Common.{refl, ◌∙◌, zero, suc, subst, arith}
use Rattle.sw_refute.specs.declared.clauses.Lit.{Lit}
use Rattle.sw_sat.specs.declared.trail.Entry.{Entry}
use Rattle.sw_sat.specs.Trail.{literals}
use Rattle.sw_lists.proofs.Members.{contains_head, contains_tail}
use Rattle.sw_lists.proofs.Places.{get_take, get_front}

-- where a literal of a trail stands
pub record Stands (entries : List Entry) (l : Lit) : Type 0 where
  pub at : ℕ
  pub entry : Entry
  pub is : slice_get entries at ≡ Some entry
  pub lit : entry.lit ≡ l

pub stands : (entries : List Entry) (l : Lit) → Contains (literals entries) l → Stands entries l
stands [] l (k, h, e) = absurd (omega arith)
stands (x ∷ entries) l (zero, h, e) = record { at = 0; entry = x; is = refl; lit = e }
stands (x ∷ entries) l (suc k, h, e) = let s = stands entries l (k, omega arith, e) in record { at = suc s.at; entry = s.entry; is = s.is; lit = s.lit }

pub among_literals : (entries : List Entry) (at : ℕ) (e : Entry) → slice_get entries at ≡ Some e → Contains (literals entries) e.lit
among_literals [] at e h = absurd (cc)
among_literals (x ∷ entries) zero e h = let i : x ≡ e = cc in subst (λ y. Contains (literals (x ∷ entries)) y.lit) i (contains_head x.lit (literals entries))
among_literals (x ∷ entries) (suc at) e h = contains_tail x.lit (literals entries) e.lit (among_literals entries at e h)

pub among_front : (entries : List Entry) (n at : ℕ) (e : Entry) → at < n → slice_get entries at ≡ Some e → Contains (literals (take n entries)) e.lit
among_front entries n at e h i = among_literals (take n entries) at e (get_front n entries at h ∙ i)

-- where a literal of a trail's front stands
pub record StandsBelow (entries : List Entry) (n : ℕ) (l : Lit) : Type 0 where
  pub at : ℕ
  pub below : at < n
  pub entry : Entry
  pub is : slice_get entries at ≡ Some entry
  pub lit : entry.lit ≡ l

pub stands_below : (entries : List Entry) (n : ℕ) (l : Lit) → Contains (literals (take n entries)) l → StandsBelow entries n l
stands_below entries n l c =
    let s = stands (take n entries) l c in
    let t = get_take n entries s.at s.entry s.is in
    record { at = s.at; below = t.0; entry = s.entry; is = t.1; lit = s.lit }

pub front_grows : (entries : List Entry) (m n : ℕ) (l : Lit) → m ≤ n → Contains (literals (take m entries)) l → Contains (literals (take n entries)) l
front_grows entries m n l h c =
    let s = stands_below entries m l c in
    let b : s.at < m = s.below in
    subst (Contains (literals (take n entries))) s.lit (among_front entries n s.at s.entry (omega arith) s.is)

pub front_among : (entries : List Entry) (n : ℕ) (l : Lit) → Contains (literals (take n entries)) l → Contains (literals entries) l
front_among entries n l c =
    let s = stands_below entries n l c in subst (Contains (literals entries)) s.lit (among_literals entries s.at s.entry s.is)
