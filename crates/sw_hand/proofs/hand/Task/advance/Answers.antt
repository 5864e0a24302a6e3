use Rattle.std.proofs.Common.{refl, take}
use Rattle.sw_hand.specs.Hands.{search_of}
use Rattle.sw_hand.proofs.Viewed.{is_told, begins, viewed, tokens_known, hand_later}
use Rattle.sw_hand.proofs.hand.Task.advance.Goals as goal

pub advance-requires-clause-begins : goal.advance-requires-clause-begins
advance-requires-clause-begins g c =
    let m = search_of c.args.self.now.protocol.now (g.B.Walk.template c.args.self.now.space.now) c.args.self.now.mode c.args.self.now.workers in
    let s = c.args.self.now.space.now in
    begins m s (take c.args.from c.args.formulas.now) c.args.hand.now.mine.protocol.now c.args.hand.now.mine.space.now c.args.hand.now.mine.mode c.args.hand.now.mine.advanced c.args.hand.now.mine.shown.items c.args.formulas.now c.args.from
    (is_told m s (take c.args.from c.args.formulas.now) c.args.hand.now.mine.protocol.now c.args.hand.now.mine.space.now c.args.hand.now.mine.mode c.args.hand.now.mine.advanced c.args.hand.now.mine.shown.items c.requires.mine) refl c.requires.from

pub advance-requires-2-clause-begins : goal.advance-requires-2-clause-begins
advance-requires-2-clause-begins g c =
    let m = search_of c.args.self.now.protocol.now (g.B.Walk.template c.args.self.now.space.now) c.args.self.now.mode c.args.self.now.workers in
    let s = c.args.self.now.space.now in
    begins m s (take c.args.from c.args.formulas.now) c.args.hand.now.others.protocol.now c.args.hand.now.others.space.now c.args.hand.now.others.mode c.args.hand.now.others.advanced c.args.hand.now.others.shown.items c.args.formulas.now c.args.from
    (is_told m s (take c.args.from c.args.formulas.now) c.args.hand.now.others.protocol.now c.args.hand.now.others.space.now c.args.hand.now.others.mode c.args.hand.now.others.advanced c.args.hand.now.others.shown.items c.requires.others) refl c.requires.from

pub returns-clause-mine : goal.returns-clause-mine
returns-clause-mine g c =
    let m = search_of c.args.self.now.protocol.now (g.B.Walk.template c.args.self.now.space.now) c.args.self.now.mode c.args.self.now.workers in
    let s = c.args.self.now.space.now in
    viewed m s (take c.args.from c.args.formulas.now) c.args.hand.now.mine.protocol.now c.args.hand.now.mine.space.now c.args.hand.now.mine.mode c.args.hand.now.mine.advanced c.args.hand.now.mine.shown.items
    c.args.formulas.now c.advance.new.self.protocol.now c.advance.new.self.space.now c.advance.new.self.mode c.advance.new.self.advanced c.advance.new.self.shown.items
    (is_told m s (take c.args.from c.args.formulas.now) c.args.hand.now.mine.protocol.now c.args.hand.now.mine.space.now c.args.hand.now.mine.mode c.args.hand.now.mine.advanced c.args.hand.now.mine.shown.items c.requires.mine)
    c.advance.ensures.same c.advance.ensures.advanced c.advance.ensures.known c.advance.ensures.marked

pub returns-clause-others : goal.returns-clause-others
returns-clause-others g c =
    let m = search_of c.args.self.now.protocol.now (g.B.Walk.template c.args.self.now.space.now) c.args.self.now.mode c.args.self.now.workers in
    let s = c.args.self.now.space.now in
    viewed m s (take c.args.from c.args.formulas.now) c.args.hand.now.others.protocol.now c.args.hand.now.others.space.now c.args.hand.now.others.mode c.args.hand.now.others.advanced c.args.hand.now.others.shown.items
    c.args.formulas.now c.advance-2.new.self.protocol.now c.advance-2.new.self.space.now c.advance-2.new.self.mode c.advance-2.new.self.advanced c.advance-2.new.self.shown.items
    (is_told m s (take c.args.from c.args.formulas.now) c.args.hand.now.others.protocol.now c.args.hand.now.others.space.now c.args.hand.now.others.mode c.args.hand.now.others.advanced c.args.hand.now.others.shown.items c.requires.others)
    c.advance-2.ensures.same c.advance-2.ensures.advanced c.advance-2.ensures.known c.advance-2.ensures.marked

pub returns-clause-hand : goal.returns-clause-hand
returns-clause-hand g c =
    let m = search_of c.args.self.now.protocol.now (g.B.Walk.template c.args.self.now.space.now) c.args.self.now.mode c.args.self.now.workers in
    let s = c.args.self.now.space.now in
    let h = c.args.hand.now in
    hand_later m c.args.self.now.pool.now c.args.self.now.worker c.args.formulas.now c.args.from h.mine.shown.items c.advance.new.self.shown.items h.kept h.tokens.items h.used.items c.unmark.new.used.items
    c.requires.hand c.advance.ensures.known c.unmark.ensures.length c.unmark.ensures.unused

pub returns-clause-found : goal.returns-clause-found
returns-clause-found g c = tokens_known c.args.self.now.pool.now c.args.hand.now.found.items c.advance-2.new.self.shown.items c.args.hand.now.others.shown.items c.advance-2.ensures.known c.requires.found
