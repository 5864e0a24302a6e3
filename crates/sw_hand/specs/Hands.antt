-- What a worker has in hand in a round: the filters that it kept, those that it found in the pool, and which of its own rejected a class.
use Rattle.std.specs.Prelude.{◌≡◌, ℕ, ◌+◌, ◌<◌, ◌^◌, Bool, true, false, List, [], ◌∷◌, ◌++◌, map, length, Contains}
use Rattle.std.specs.List.{AllByRecursion, AllZip}
use Rattle.sw_logic.specs.declared.syntax.Formula.{Formula}
use Rattle.sw_meaning.specs.declared.protocol.Protocol.{Protocol}
use Rattle.sw_meaning.specs.declared.template.Template.{Template}
use Rattle.sw_meaning.specs.WellFormed.{IsWellFormed}
use Rattle.sw_template.specs.Bodies.{Class}
use Rattle.sw_filter.specs.declared.filter.Filter.{Filter}
use Rattle.sw_filter.specs.declared.filter.Mode.{Mode}
use Rattle.sw_filter.specs.declared.view.Shown.{Shown}
use Rattle.sw_filter.specs.Filters.{IsAdmitted, IsLive, Refutes}
use Rattle.sw_filter.specs.Good.{Good}
use Rattle.sw_filter.specs.Views.{AreAdmitted, AreMarked}
use Rattle.sw_pool.specs.declared.pool.Pool.{Pool}
use Rattle.sw_pool.specs.declared.pool.Seen.{Seen}
use Rattle.sw_pool.specs.Pools.{IsShown, filter_of}
use Rattle.sw_core.specs.declared.record.Kept.{Kept}
use Rattle.sw_core.specs.Machine.{Search, filters_at, formula_in, parts_in}
use Rattle.sw_core.specs.Gathered.{Share, IsShare, IsTimely, IsKeptBy, AreFresh, filters_of}
use Rattle.sw_walk.specs.Parts.{all_classes, class_of}
use Rattle.sw_hand.specs.declared.hand.Handed.{Handed}

abbrev pub search_of : Protocol → Template → Mode → ℕ → Search
search_of p t mode workers = record { protocol = p; template = t; mode = mode; workers = workers }

-- the parts and formulas of a space are those of what is searched, and its classes can be read
pub record Serves (m : Search) (ps : List (List (List ℕ))) (Has : Class → Type 0) (formula : Class → Formula) : Type 0 where
  pub well_formed : IsWellFormed m.protocol
  pub are_parts : ps ≡ parts_in m
  pub has : (c : List ℕ) → Contains (all_classes ps) c → Has (class_of c)
  pub formulas : (c : List ℕ) → Contains (all_classes ps) c → formula (class_of c) ≡ formula_in m c

-- the view of this space shows filters of the protocol, marked under the formulas
pub record IsView {S : Type 0} (m : Search) (s : S) (formulas : List Formula) (vp : Protocol) (vs : S) (vm : Mode) (upto : ℕ) (shown : List Shown) : Type 0 where
  pub protocol : vp ≡ m.protocol
  pub space : vs ≡ s
  pub mode : vm ≡ m.mode
  pub advanced : upto ≡ length formulas
  pub admitted : AreAdmitted m.protocol shown
  pub marked : AreMarked m.protocol m.mode formulas shown
  pub room : length shown < 2 ^ 32

-- the tokens are of the pool and show the filters of these, place by place
abbrev pub AreTokens : Pool → List Seen → List Shown → Type 0
AreTokens pool tokens shown = AllZip (λ token e. IsShown pool token × (filter_of token ≡ e.filter.now)) tokens shown

-- the places that are marked as used, where the first has this number
abbrev pub used_from : ℕ → List Bool → List ℕ
used_from k [] = []
used_from k (true ∷ used) = k ∷ used_from (k + 1) used
used_from k (false ∷ used) = used_from (k + 1) used

-- the kept filters that are marked as used
abbrev pub used_filters : List Kept → List Bool → List Filter
used_filters kept used = filters_at (filters_of kept) (used_from 0 used)

-- the filters that a worker kept, each live under its prefix and fresh; the view shows them in the same order, the tokens are theirs, and those marked as used are live under the formulas
pub record IsHand (m : Search) (pool : Pool) (worker : ℕ) (formulas : List Formula) (shown : List Shown) (kept : List Kept) (tokens : List Seen) (used : List Bool) : Type 0 where
  pub same : filters_of kept ≡ map (λ (e : Shown). e.filter.now) shown
  pub each : AllByRecursion (IsKeptBy m worker formulas) kept
  pub fresh : AreFresh m formulas [] kept
  pub shows : AreTokens pool tokens shown
  pub marks : length used ≡ length kept
  pub live : AllByRecursion (IsLive m.protocol m.mode formulas) (used_filters kept used)

-- more filters are kept, and what was used is used
pub record Grows (kept : List Kept) (used : List Bool) (kept_now : List Kept) (used_now : List Bool) : Type 0 where
  pub more : List Kept
  pub is : kept_now ≡ kept ++ more
  pub still : (x : Filter) → Contains (used_filters kept used) x → Contains (used_filters kept_now used_now) x

-- the class is good under the formulas by the filters used
abbrev pub IsGoodBy : Search → List Formula → List Kept → List Bool → List ℕ → Type 0
IsGoodBy m formulas kept used c = Good m.protocol m.mode formulas (formula_in m c) (used_filters kept used)

-- no filter marked as used
abbrev pub AreUnused : List Bool → Type 0
AreUnused used = used_from 0 used ≡ []

-- a filter of the protocol, live under the formulas, that refutes the class
pub record Rejects (m : Search) (formulas : List Formula) (c : List ℕ) (x : Filter) : Type 0 where
  pub admitted : IsAdmitted m.protocol x
  pub live : IsLive m.protocol m.mode formulas x
  pub refutes : Refutes m.protocol x (formula_in m c)

-- what a worker hands back of a round, as a share of it
abbrev pub share_of : Handed → Share
share_of h = record { drawn = h.drawn; kept = h.kept; settled = h.settled }

-- the parts are settled as a share promises, under lists that are at least as long as the one at the round's start; `before` is the number of filters in the rounds before
pub record IsHanded (m : Search) (pool : Pool) (worker before since : ℕ) (formulas : List Formula) (h : Handed) : Type 0 where
  pub share : (filters : List Filter) → length filters ≡ before → IsShare m filters formulas worker (share_of h)
  pub timely : (filters : List Filter) → length filters ≡ before → AllByRecursion (IsTimely m since formulas (filters ++ filters_of h.kept)) h.settled
  pub admitted : AllByRecursion (λ (k : Kept). IsAdmitted m.protocol k.filter) h.kept
  pub tokens : AllZip (λ token (k : Kept). IsShown pool token × (filter_of token ≡ k.filter)) h.tokens.items h.kept
