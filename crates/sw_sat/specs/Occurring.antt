-- In which clauses each literal stands.
use Rattle.std.specs.Prelude.{◌≡◌, ◌*◌, ◌<◌, ◌⊎◌, ℕ, List, [], length, map, Some, slice_get, slice_index_or, Contains}
use Rattle.sw_refute.specs.declared.clauses.Lit.{Lit}
use Rattle.sw_refute.specs.declared.clauses.Clause.{Clause}
use Rattle.sw_sat.specs.declared.occurrences.Occurrences.{Occurrences}

-- the numbers of clauses, by the number of a literal
abbrev pub lists_of : Occurrences → List (List ℕ)
lists_of occurrences = map (λ v. v.items) occurrences.lists.items

-- each literal's list has the numbers of the clauses that have the literal, and no number without a clause
pub record IsIndex (variables : ℕ) (clauses : List Clause) (lists : List (List ℕ)) : Type 0 where
  pub size : length lists ≡ 2 * variables
  pub complete : (number : ℕ) (c : Clause) (l : Lit) → slice_get clauses number ≡ Some c → Contains c.lits l → Contains (slice_index_or lists l.0 []) number
  pub sound : (at number : ℕ) → Contains (slice_index_or lists at []) number → number < length clauses

-- the number was added to the list of each of these literals, and no list has gained another number
pub record HasAdded (old : List (List ℕ)) (lits : List Lit) (number : ℕ) (new : List (List ℕ)) : Type 0 where
  pub size : length new ≡ length old
  pub gained : (l : Lit) → Contains lits l → Contains (slice_index_or new l.0 []) number
  pub kept : (at n : ℕ) → Contains (slice_index_or old at []) n → Contains (slice_index_or new at []) n
  pub only : (at n : ℕ) → Contains (slice_index_or new at []) n → (n ≡ number) ⊎ Contains (slice_index_or old at []) n
