-- What a refresh adds to a view.
use Rattle.std.specs.Prelude.{◌≡◌, ◌≢◌, ℕ, Bool, false, List, [], ◌∷◌, ◌++◌}
use Rattle.std.specs.List.{All, AllByRecursion, AllPairs, AllZip, Contains}
use Rattle.sw_meaning.specs.declared.protocol.Protocol.{Protocol}
use Rattle.sw_filter.specs.declared.view.Shown.{Shown}
use Rattle.sw_filter.specs.Filters.{IsAdmitted}
use Rattle.sw_filter.specs.Views.{IsNew}
use Rattle.sw_pool.specs.declared.pool.Pool.{Pool}
use Rattle.sw_pool.specs.declared.pool.Seen.{Seen}
use Rattle.sw_pool.specs.Pools.{IsShown, filter_of, index_of}
use Rattle.sw_pool.specs.Cursors.{IsRead, LeavesOthers}

-- a filter of the protocol that was just added, and that the view's own worker did not find
pub record IsNewcomer (p : Protocol) (e : Shown) : Type 0 where
  pub admitted : IsAdmitted p e.filter.now
  pub new : IsNew e.filter.now false e

-- the token is of the pool and shows the filter that was added
pub record Shows (pool : Pool) (p : Protocol) (token : Seen) (e : Shown) : Type 0 where
  pub shown : IsShown pool token
  pub filter : filter_of token ≡ e.filter.now
  pub newcomer : IsNewcomer p e

-- behind what the view showed, for each token in turn the filter that it shows
pub record AddsEach (pool : Pool) (p : Protocol) (old new : List Shown) (tokens : List Seen) : Type 0 where
  pub added : List Shown
  pub behind : new ≡ old ++ added
  pub each : AllZip (Shows pool p) tokens added

-- behind what the view showed, filters of the protocol that were just added
pub record AddsSome (p : Protocol) (old new : List Shown) : Type 0 where
  pub added : List Shown
  pub behind : new ≡ old ++ added
  pub each : AllByRecursion (IsNewcomer p) added

-- no index of the tokens is read
abbrev pub AreUnread : List Bool → List Seen → Type 0
AreUnread cursor tokens = All (λ token. IsRead cursor (index_of token) → ⊥) tokens

-- each index of the tokens is read
abbrev pub AreRead : List Bool → List Seen → Type 0
AreRead cursor tokens = All (λ token. IsRead cursor (index_of token)) tokens

-- no two of the tokens have one index
abbrev pub AreApart : List Seen → Type 0
AreApart tokens = AllPairs (λ one other. index_of one ≢ index_of other) tokens

-- the pool has a filter at the index, whose token is among these where it is of the protocol
pub record IsTaken (pool : Pool) (p : Protocol) (tokens : List Seen) (index : ℕ) : Type 0 where
  pub token : Seen
  pub shown : IsShown pool token
  pub place : index_of token ≡ index
  pub taken : IsAdmitted p (filter_of token) → Contains tokens token

-- each index that is read now and was not before is so
abbrev pub TakesAll : Pool → Protocol → List Bool → List Bool → List Seen → Type 0
TakesAll pool p old new tokens = (i : ℕ) → IsRead new i → (IsRead old i → ⊥) → IsTaken pool p tokens i

-- the index of the token was not read and is now; of the others, the same are read
pub record Marks (token : Seen) (cursor cursor' : List Bool) : Type 0 where
  pub was : IsRead cursor (index_of token) → ⊥
  pub is : IsRead cursor' (index_of token)
  pub others : LeavesOthers (index_of token) cursor cursor'

-- at one index: nothing new was found, or a filter that is not of the protocol, or one that is and was added
pub data Visits (pool : Pool) (p : Protocol) (cursor cursor' : List Bool) (shown shown' : List Shown) (tokens tokens' : List Seen) : Type 0 where
  passed : cursor' ≡ cursor → shown' ≡ shown → tokens' ≡ tokens → Visits pool p cursor cursor' shown shown' tokens tokens'
  refused : (token : Seen) → IsShown pool token → (IsAdmitted p (filter_of token) → ⊥) → Marks token cursor cursor' →
      shown' ≡ shown → tokens' ≡ tokens → Visits pool p cursor cursor' shown shown' tokens tokens'
  found : (token : Seen) (e : Shown) → Shows pool p token e → Marks token cursor cursor' →
      shown' ≡ shown ++ e ∷ [] → tokens' ≡ tokens ++ token ∷ [] → Visits pool p cursor cursor' shown shown' tokens tokens'
