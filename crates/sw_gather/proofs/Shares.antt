-- The shares of a record's round, by those that the workers handed back.
use Rattle.std.specs.Prelude.{◌≡◌, ℕ, zero, suc, List, [], ◌∷◌, ◌++◌, length, Some, slice_get}
use Rattle.std.specs.List.{AllByRecursion, AllZip, flat_map}
use Rattle.std.proofs.Common.{refl, ap, subst, ◌∙◌}
use Rattle.std.proofs.lemmas.Option.{none-some, same_Some}
use Rattle.sw_lists.proofs.Each.{each-append}
use Rattle.sw_logic.specs.declared.syntax.Formula.{Formula}
use Rattle.sw_filter.specs.declared.filter.Filter.{Filter}
use Rattle.sw_core.specs.Machine.{Search}
use Rattle.sw_core.specs.Gathered.{Share, filters_of, settled_of, IsLiveBy, IsMerged, IsShareAmong}
use Rattle.sw_core.proofs.Merging.{merged_live, merged_stays}
use Rattle.sw_hand.specs.declared.hand.Handed.{Handed}
use Rattle.sw_hand.specs.Hands.{share_of}

abbrev pub AreMergedShares : List Filter → List Filter → List Handed → List Share → Type 0
AreMergedShares fs all hs ss = AllZip (λ (h : Handed) s. IsMerged (fs ++ filters_of h.kept) all (share_of h) s) hs ss

-- the pair at a place of the second list
zip_at : {X Y : Type 0} (R : X → Y → Type 0) (xs : List X) (ys : List Y) (i : ℕ) (y : Y) → AllZip R xs ys → slice_get ys i ≡ Some y → (x : X) × (slice_get xs i ≡ Some x) × R x y
zip_at R [] [] i y z e = absurd (none-some y e)
zip_at R [] (b ∷ ys) i y z e = absurd z
zip_at R (a ∷ xs) [] i y z e = absurd z
zip_at R (a ∷ xs) (b ∷ ys) zero y z e = (a, refl, subst (R a) (same_Some b y e) z.0)
zip_at R (a ∷ xs) (b ∷ ys) (suc i) y z e = zip_at R xs ys i y z.1 e

-- they are as promised, among all filters
pub shares_among : (m : Search) (log : List Formula) (fs all : List Filter) (hs : List Handed) (ss : List Share) → AreMergedShares fs all hs ss
    → ((i : ℕ) (h : Handed) → slice_get hs i ≡ Some h → IsShareAmong m (fs ++ filters_of h.kept) log i (share_of h)) → (i : ℕ) (s : Share) → slice_get ss i ≡ Some s → IsShareAmong m all log i s
shares_among m log fs all hs ss z each i s at =
    let r = zip_at (λ (h : Handed) s. IsMerged (fs ++ filters_of h.kept) all (share_of h) s) hs ss i s z at in
    merged_stays m (fs ++ filters_of r.0.kept) all log i (share_of r.0) s r.2 (each i r.0 r.1)

-- they draw what the workers drew
pub drawn_same : (fs all : List Filter) (hs : List Handed) (ss : List Share) → AreMergedShares fs all hs ss → flat_map (λ (s : Share). s.drawn) ss ≡ flat_map (λ (h : Handed). h.drawn) hs
drawn_same fs all [] [] z = refl
drawn_same fs all [] (s ∷ ss) z = absurd z
drawn_same fs all (h ∷ hs) [] z = absurd z
drawn_same fs all (h ∷ hs) (s ∷ ss) z = ap (λ l. l ++ flat_map (λ (x : Share). x.drawn) ss) z.0.drawn ∙ ap (λ l. h.drawn ++ l) (drawn_same fs all hs ss z.1)

-- live settlements stay live
pub live_same : (m : Search) (log : List Formula) (fs all : List Filter) (hs : List Handed) (ss : List Share) → AreMergedShares fs all hs ss
    → AllByRecursion (λ (h : Handed). AllByRecursion (IsLiveBy m log (fs ++ filters_of h.kept)) h.settled) hs → AllByRecursion (IsLiveBy m log all) (settled_of ss)
live_same m log fs all [] [] z l = tt
live_same m log fs all [] (s ∷ ss) z l = absurd z
live_same m log fs all (h ∷ hs) [] z l = absurd z
live_same m log fs all (h ∷ hs) (s ∷ ss) z l =
    each-append (IsLiveBy m log all) s.settled (settled_of ss) (merged_live m (fs ++ filters_of h.kept) all log (share_of h) s z.0 l.0) (live_same m log fs all hs ss z.1 l.1)
