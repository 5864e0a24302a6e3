-- What each step on the two words tells its seat.
use Rattle.std.specs.Prelude.{◌≡◌, ℕ, ◌+◌, ◌-◌, ◌≤◌, ◌<◌, max, true, [], ◌∷◌, ◌++◌, length}
use Rattle.atomic_table.specs.Table.{Me, Step}
use Rattle.sw_claims.specs.ClaimsRule.{times}
use Rattle.sw_claims.specs.declared.rule.ClaimView.{ClaimView}

abbrev pub Knows : Type 0
Knows = Me (Unit {0}) ClaimView

-- no other seat is in use
abbrev pub IsAlone : ClaimView → Type 0
IsAlone v = (v.first ≡ true) × (v.out ≡ 0)

-- what a seat may find in the stop word: what it has seen or written stands there for good, and a lone seat finds what it wrote
pub record Finds (v : ClaimView) (n : ℕ) : Type 0 where
  pub seen : 1 ≤ v.seen → n ≡ v.seen
  pub wrote : 1 ≤ v.wrote → n ≡ v.wrote
  pub alone : IsAlone v → n ≡ v.wrote

-- the draw word is stepped on after all looks so far. A number below the parts is new and joins the seat's numbers, and any other is a draw that met the end. A lone seat draws in order
pub record Drew (st : Step (Unit {0})) (m : Knows) (n : ℕ) (m' : Knows) : Type 0 where
  pub gained : n < m.0.parts → m' ≡ (record m.0 { drawn = m.0.drawn ++ n ∷ []; looks_at_draw = m.0.looks }, m.1)
  pub ended : m.0.parts ≤ n → m' ≡ (record m.0 { ends = 1; looks_at_draw = m.0.looks }, m.1)
  pub new : n < m.0.parts → times n m.0.drawn ≡ 0
  pub after : n < m.0.parts → length m.0.drawn ≤ n
  pub alone : IsAlone m.0 → n ≡ length m.0.drawn + m.0.ends

-- one look more
abbrev pub looked : ClaimView → ClaimView
looked v = record v { looks = v.looks + 1 }

-- one look more, and a reason that is read has then been seen
pub record Looked (st : Step (Unit {0})) (m : Knows) (n : ℕ) (m' : Knows) : Type 0 where
  pub found : Finds m.0 n
  pub running : n ≡ 0 → m' ≡ (looked m.0, m.1)
  pub stopped : 1 ≤ n → m' ≡ (record (looked m.0) { seen = n }, m.1)

-- the seat's reason is written where 0 was found, and else the reason that stands has been seen
pub record TriedStop (st : Step (Unit {0})) (m : Knows) (n : ℕ) (m' : Knows) : Type 0 where
  pub found : Finds m.0 n
  pub written : n ≡ 0 → m' ≡ (record m.0 { wrote = st.second; seen = st.second }, m.1)
  pub stopped : 1 ≤ n → m' ≡ (record m.0 { seen = n }, m.1)

-- one split made
abbrev pub given : ClaimView → ClaimView
given v = record v { splits = v.splits - 1; out = v.out + 1 }

-- what the other knows is taken in
abbrev pub taken : ClaimView → ClaimView → ClaimView
taken v w = record v { drawn = v.drawn ++ w.drawn; ends = v.ends + w.ends; wrote = v.wrote + w.wrote; seen = max v.seen w.seen; out = v.out - 1; looks = v.looks + w.looks }
