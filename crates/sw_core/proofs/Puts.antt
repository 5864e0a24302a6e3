-- What the machine's code writes is what its steps do.
use Rattle.sw_lists.proofs.Places.{get_some}
use Rattle.std.specs.Prelude.{◌≡◌, ℕ, ◌+◌, ◌<◌, ◌≤◌, ◌^◌, List, [], ◌∷◌, ◌++◌, length, Option, Some, slice_get, slice_set, slice_index_or}
use Rattle.std.proofs.Common.{refl, sym, ap, subst, ◌∙◌}
use Rattle.std.proofs.lemmas.Option.{get_or_from_slice_get}
use Rattle.sw_logic.specs.declared.syntax.Formula.{Formula}
use Rattle.sw_core.specs.declared.record.Settled.{Settled}
use Rattle.sw_core.specs.declared.steps.Step.TheVariants.{Draw, Look, Append, Settle}
use Rattle.sw_core.specs.declared.part.Made.TheVariants as made
use Rattle.sw_core.specs.Machine.{Search, Board, Part, changed, taken, settled_by, after, formula_in}
use Rattle.sw_core.specs.States.{Machine, HasHolders, HasRoom}
use Rattle.sw_template.specs.Bodies.{Class}
use Rattle.sw_core.proofs.Places.{set_is_changed, set_by}

same_holders : (hs ks : List ℕ) → made.Holders hs ≡ made.Holders ks → hs ≡ ks
same_holders hs ks e = cc

put_is : (v : Machine) (k : ℕ) (f : Part → Part) (hs : List ℕ) (l : Option Settled) → k < length v.board.parts → HasHolders v (slice_get v.board.parts k) f → v.made ≡ made.Holders hs
    → ((x : Part) → slice_get v.board.parts k ≡ Some x → l ≡ (f x).last) → slice_set v.board.parts k (record { holders = hs; last = l }) ≡ changed k f v.board.parts
put_is v k f hs l lt room is last =
    let found : (x : Part) × (slice_get v.board.parts k ≡ Some x) = get_some v.board.parts k lt in
    let made_are : v.made ≡ made.Holders ((f found.0).holders) = subst (λ o. HasHolders v o f) found.1 room in
    let same : hs ≡ (f found.0).holders = same_holders hs ((f found.0).holders) (sym is ∙ made_are) in
    let kept : l ≡ (f found.0).last = last found.0 found.1 in
    let whole : (let p : Part = record { holders = hs; last = l } in p) ≡ f found.0 = λ i. record { holders = same i; last = kept i } in
    set_by f v.board.parts k found.0 (record { holders = hs; last = l }) found.1 whole

pub draw_is : (v : Machine) (w : ℕ) (hs : List ℕ) (p : Part) → v.board.drawn < length v.board.parts → HasHolders v (slice_get v.board.parts v.board.drawn) (taken w) → v.made ≡ made.Holders hs
    → p ≡ slice_index_or v.board.parts v.board.drawn p
    → ◌≡◌ {A = Board} (record v.board { drawn = v.board.drawn + 1; parts = slice_set v.board.parts v.board.drawn (record { holders = hs; last = p.last }) }) (after v.search v.board (Draw w))
draw_is v w hs p lt room is at =
    let ps : slice_set v.board.parts v.board.drawn (record { holders = hs; last = p.last }) ≡ changed v.board.drawn (taken w) v.board.parts =
    put_is v v.board.drawn (taken w) hs p.last lt room is (λ x e. ap (λ (q : Part). q.last) (at ∙ get_or_from_slice_get v.board.parts v.board.drawn x p e)) in
    λ i. record v.board { drawn = v.board.drawn + 1; parts = ps i }

pub settle_is : (v : Machine) (w : ℕ) (x : Settled) (hs : List ℕ) → x.part < length v.board.parts → HasHolders v (slice_get v.board.parts x.part) (settled_by w x) → v.made ≡ made.Holders hs
    → ◌≡◌ {A = Board} (record v.board { parts = slice_set v.board.parts x.part (record { holders = hs; last = Some x }) }) (after v.search v.board (Settle w x))
settle_is v w x hs lt room is =
    let ps : slice_set v.board.parts x.part (record { holders = hs; last = Some x }) ≡ changed x.part (settled_by w x) v.board.parts =
    put_is v x.part (settled_by w x) hs (Some x) lt room is (λ y e. refl) in
    λ i. record v.board { parts = ps i }

pub look_is : (v : Machine) (w n : ℕ) → n ≡ length v.board.log → ◌≡◌ {A = Board} (record v.board { seen = slice_set v.board.seen w n }) (after v.search v.board (Look w))
look_is v w n e =
    let ns : slice_set v.board.seen w n ≡ changed w (λ _. length v.board.log) v.board.seen = set_is_changed v.board.seen w n ∙ ap (λ k. changed w (λ _. k) v.board.seen) e in
    λ i. record v.board { seen = ns i }

same_entry : (f g : Formula) → made.Entry f ≡ made.Entry g → f ≡ g
same_entry f g e = cc

pub append_is : (v : Machine) (w n : ℕ) (f g : Formula) (log : List Formula) → v.made ≡ made.Entry g → v.made ≡ made.Entry f → log ≡ v.board.log ++ f ∷ [] → n ≡ length v.board.log + 1
    → ◌≡◌ {A = Board} (record v.board { log = log; seen = slice_set v.board.seen w n }) (record v.board { log = v.board.log ++ g ∷ []; seen = changed w (λ _. length v.board.log + 1) v.board.seen })
append_is v w n f g log room is e size =
    let same : f ≡ g = same_entry f g (sym is ∙ room) in
    let ls : log ≡ v.board.log ++ g ∷ [] = e ∙ ap (λ h. v.board.log ++ h ∷ []) same in
    let ns : slice_set v.board.seen w n ≡ changed w (λ _. length v.board.log + 1) v.board.seen = set_is_changed v.board.seen w n ∙ ap (λ k. changed w (λ _. k) v.board.seen) size in
    λ i. record v.board { log = ls i; seen = ns i }

-- the same, where the machine was seen as v before the call
pub draw_at : (u v : Machine) → u ≡ v → (w : ℕ) (hs : List ℕ) (p : Part) → v.board.drawn < length v.board.parts → HasHolders v (slice_get v.board.parts v.board.drawn) (taken w) → made.Holders hs ≡ u.made
    → p ≡ slice_index_or u.board.parts u.board.drawn p
    → ◌≡◌ {A = Board} (record u.board { drawn = u.board.drawn + 1; parts = slice_set u.board.parts u.board.drawn (record { holders = hs; last = p.last }) }) (after v.search v.board (Draw w))
draw_at u v e w hs p lt room is at =
    subst (λ z. z.board.drawn < length z.board.parts → HasHolders z (slice_get z.board.parts z.board.drawn) (taken w)
    → ◌≡◌ {A = Board} (record u.board { drawn = u.board.drawn + 1; parts = slice_set u.board.parts u.board.drawn (record { holders = hs; last = p.last }) }) (after z.search z.board (Draw w))) e
    (λ l r. draw_is u w hs p l r (sym is) at) lt room

pub settle_at : (u v : Machine) → u ≡ v → (w : ℕ) (x : Settled) (hs : List ℕ) → x.part < length v.board.parts → HasHolders v (slice_get v.board.parts x.part) (settled_by w x) → made.Holders hs ≡ u.made
    → ◌≡◌ {A = Board} (record u.board { parts = slice_set u.board.parts x.part (record { holders = hs; last = Some x }) }) (after v.search v.board (Settle w x))
settle_at u v e w x hs lt room is =
    subst (λ z. x.part < length z.board.parts → HasHolders z (slice_get z.board.parts x.part) (settled_by w x)
    → ◌≡◌ {A = Board} (record u.board { parts = slice_set u.board.parts x.part (record { holders = hs; last = Some x }) }) (after z.search z.board (Settle w x))) e
    (λ l r. settle_is u w x hs l r (sym is)) lt room

pub look_at : (u v : Machine) → u ≡ v → (w n : ℕ) → n ≡ length u.board.log → ◌≡◌ {A = Board} (record u.board { seen = slice_set u.board.seen w n }) (after v.search v.board (Look w))
look_at u v e w n size = subst (λ z. ◌≡◌ {A = Board} (record u.board { seen = slice_set u.board.seen w n }) (after z.search z.board (Look w))) e (look_is u w n size)

pub append_at : (u v : Machine) → u ≡ v → (w n : ℕ) (f g : Formula) (log : List Formula) → v.made ≡ made.Entry g → made.Entry f ≡ u.made → log ≡ u.board.log ++ f ∷ [] → n ≡ length u.board.log + 1
    → ◌≡◌ {A = Board} (record u.board { log = log; seen = slice_set u.board.seen w n }) (record v.board { log = v.board.log ++ g ∷ []; seen = changed w (λ _. length v.board.log + 1) v.board.seen })
append_at u v e w n f g log room is grown size =
    subst (λ z. z.made ≡ made.Entry g
    → ◌≡◌ {A = Board} (record u.board { log = log; seen = slice_set u.board.seen w n }) (record z.board { log = z.board.log ++ g ∷ []; seen = changed w (λ _. length z.board.log + 1) z.board.seen })) e
    (λ r. append_is u w n f g log r (sym is) grown size) room

-- the holders that were made are those that the step leaves
pub made_holders : (u v w : Machine) → u ≡ v → (k : ℕ) (f : Part → Part) (p : Part) (hs : List ℕ) → slice_get u.board.parts k ≡ Some p → w ≡ record v { made = made.Holders hs } → hs ≡ (f p).holders
    → HasHolders w (slice_get w.board.parts k) f
made_holders u v w e k f p hs at is same =
    let at_v : slice_get v.board.parts k ≡ Some p = subst (λ z. slice_get z.board.parts k ≡ Some p) e at in
    let kept : HasHolders (record v { made = made.Holders hs }) (slice_get v.board.parts k) f =
    subst (λ o. HasHolders (record v { made = made.Holders hs }) o f) (sym at_v) (ap made.Holders same) in
    subst (λ z. HasHolders z (slice_get z.board.parts k) f) (sym is) kept

-- the formula that was made is that of the body
pub made_entry : (w : Machine) (search : Search) (board : Board) (log_room filter_room : ℕ) (f : Formula) (body : Class)
    → w ≡ record { search = search; board = board; log_room = log_room; filter_room = filter_room; made = made.Entry f } → f ≡ formula_in search body.cubes → 1 ≤ log_room → length board.log + 1 < 2 ^ 32
    → HasRoom w (Append 0 body)
made_entry w search board log_room filter_room f body is same room few = subst (λ m. HasRoom m (Append 0 body)) (sym is) (ap made.Entry same, room, few)
