use Rattle.std.specs.Prelude.{Contains}
use Rattle.std.proofs.Common.{◌≡◌, Bool, ℕ, ◌-◌, ◌<◌, ◌≤◌, true, false, List, ◌∷◌, length, drop, arith, ap, ◌∙◌, sym, subst}
use Rattle.sw_meaning.specs.Classes.{part_of}
use Rattle.sw_enumerate.specs.Walk.{size, after, Fits, Advanced, AreSmall}
use Rattle.sw_enumerate.proofs.Parting.{InPart, in_part, part_after, few, small_at, place_of, advanced_some, advanced_none}
use Rattle.sw_enumerate.proofs.walk.Walk.next_in.Goals as goal

known : (cubes : List (List ℕ)) (n c : ℕ) (body : List ℕ) → 0 < n → c < length cubes → Contains (part_of cubes n c) body → (i : ℕ) × InPart cubes n c i body
known cubes n c body some low h = let place = place_of (part_of cubes n c) body h in (place.0, in_part cubes n c place.0 body some low place.1)

short : (cubes : List (List ℕ)) → AreSmall cubes → (n c i : ℕ) (body : List ℕ) → 0 < size cubes c → InPart cubes n c i body → length body ≤ n
short cubes small n c i body positive p = omega (arith, few cubes small (n - size cubes c) p.rest p.fits, ap (length {A = ℕ}) p.is, p.room, positive)

some_length : (c : ℕ) (body rest : List ℕ) → body ≡ c ∷ rest → 1 ≤ length body
some_length c body rest e = omega (arith, ap (length {A = ℕ}) e)

pub picked_of-picked-requires : goal.picked_of-picked-requires
picked_of-picked-requires c =
    let p = known c.args.self.now c.args.count c.args.least c.args.body.now c.requires.some c.requires.least c.requires.is in
    let small : AreSmall c.args.self.now = subst AreSmall c.self.view_is c.self.invariant.1 in
    let h : length c.args.body.now ≤ c.args.count = short c.args.self.now small c.args.count c.args.least p.0 c.args.body.now (small_at c.args.self.now c.args.least small c.requires.least) p.1 in
    omega (arith, h, c.requires.most)

pub overflow_sub-left : goal.overflow_sub-left
overflow_sub-left c =
    let p = known c.args.self.now c.args.count c.args.least c.args.body.now c.requires.some c.requires.least c.requires.is in
    omega (arith, p.1.room, c.size.ensures.is)

pub advance-requires-clause-place : goal.advance-requires-clause-place
advance-requires-clause-place c =
    let p = known c.args.self.now c.args.count c.args.least c.args.body.now c.requires.some c.requires.least c.requires.is in
    some_length c.args.least c.picked_of-picked.result p.1.rest (c.picked_of-picked.ensures ∙ p.1.is)

pub advance-requires-clause-fits : goal.advance-requires-clause-fits
advance-requires-clause-fits c =
    let p = known c.args.self.now c.args.count c.args.least c.args.body.now c.requires.some c.requires.least c.requires.is in
    subst (λ n. Fits c.args.self.now (c.args.count - n) (drop 1 c.picked_of-picked.result)) (sym c.size.ensures.is)
    (subst (λ xs. Fits c.args.self.now (c.args.count - size c.args.self.now c.args.least) (drop 1 xs)) (sym (c.picked_of-picked.ensures ∙ p.1.is)) p.1.fits)

advanced : (cubes : List (List ℕ)) (left left' : ℕ) (picked body rest new : List ℕ) (c : ℕ) (found b : Bool) → left ≡ left' → picked ≡ body → body ≡ c ∷ rest → found ≡ b
    → Advanced picked 1 (after cubes left (drop 1 picked)) new found → Advanced body 1 (after cubes left' rest) new b
advanced cubes left left' picked body rest new c found b l p e f a =
    subst (λ x. Advanced body 1 (after cubes left' rest) new x) f
    (subst (λ n. Advanced body 1 (after cubes n rest) new found) l
    (subst (λ xs. Advanced body 1 (after cubes left (drop 1 xs)) new found) e
    (subst (λ xs. Advanced xs 1 (after cubes left (drop 1 xs)) new found) p a)))

pub returns-then-advance : goal.returns-then-advance
returns-then-advance c i e =
    let cubes = c.args.self.now in
    let p : InPart cubes c.args.count c.args.least i c.args.body.now = in_part cubes c.args.count c.args.least i c.args.body.now c.requires.some c.requires.least e in
    let a : Advanced c.args.body.now 1 (after cubes (c.args.count - size cubes c.args.least) p.rest) c.advance.new.picked true =
    advanced cubes (c.args.count - c.size.result) (c.args.count - size cubes c.args.least) c.picked_of-picked.result c.args.body.now p.rest c.advance.new.picked c.args.least c.advance.result true
    (ap (λ n. c.args.count - n) c.size.ensures.is) c.picked_of-picked.ensures p.is c.if-advance.true c.advance.ensures in
    advanced_some c.args.body.now c.advance.new.picked (after cubes (c.args.count - size cubes c.args.least) p.rest) c.args.least p.rest a p.is
    ∙ sym (part_after cubes c.args.count c.args.least i c.args.body.now c.requires.some c.requires.least p)

pub returns-else-advance : goal.returns-else-advance
returns-else-advance c i e =
    let cubes = c.args.self.now in
    let p : InPart cubes c.args.count c.args.least i c.args.body.now = in_part cubes c.args.count c.args.least i c.args.body.now c.requires.some c.requires.least e in
    let a : Advanced c.args.body.now 1 (after cubes (c.args.count - size cubes c.args.least) p.rest) c.advance.new.picked false =
    advanced cubes (c.args.count - c.size.result) (c.args.count - size cubes c.args.least) c.picked_of-picked.result c.args.body.now p.rest c.advance.new.picked c.args.least c.advance.result false
    (ap (λ n. c.args.count - n) c.size.ensures.is) c.picked_of-picked.ensures p.is c.if-advance.false c.advance.ensures in
    advanced_none c.args.body.now c.advance.new.picked (after cubes (c.args.count - size cubes c.args.least) p.rest) c.args.least a
    ∙ sym (part_after cubes c.args.count c.args.least i c.args.body.now c.requires.some c.requires.least p)
