use Rattle.std.proofs.Common.{◌≡◌, ◌++◌, arith, length, sym, subst}
use Rattle.std.proofs.Math.Seq.{take-length}
use Rattle.sw_hand.specs.Hands.{search_of, IsView, AreTokens}
use Rattle.sw_hand.proofs.Viewed.{is_told, told_more, begins, viewed, tokens_more}
use Rattle.sw_hand.proofs.hand.Task.refresh.Goals as goal

pub advance-requires-clause-begins : goal.advance-requires-clause-begins
advance-requires-clause-begins g c =
    let m = search_of c.args.self.now.protocol.now (g.B.Walk.template c.args.self.now.space.now) c.args.self.now.mode c.args.self.now.workers in
    let s = c.args.self.now.space.now in
    let pool = c.args.self.now.pool.now in
    let formulas = c.args.formulas.now in
    let told = told_more m s formulas c.args.hand.now.others.protocol.now c.args.hand.now.others.space.now c.args.hand.now.others.mode c.args.hand.now.others.advanced c.args.hand.now.others.shown.items
    pool c.refresh.new.view.protocol.now c.refresh.new.view.space.now c.refresh.new.view.mode c.refresh.new.view.advanced c.refresh.new.view.shown.items
    c.in_ok-found.found.items (is_told m s formulas c.args.hand.now.others.protocol.now c.args.hand.now.others.space.now c.args.hand.now.others.mode c.args.hand.now.others.advanced c.args.hand.now.others.shown.items c.requires.others)
    c.in_ok-found.ensures.same c.in_ok-found.ensures.added c.in_ok-found.ensures.room in
    begins m s formulas c.refresh.new.view.protocol.now c.refresh.new.view.space.now c.refresh.new.view.mode c.refresh.new.view.advanced c.refresh.new.view.shown.items
    formulas (length formulas) told (sym (take-length formulas)) (omega arith)

pub returns-clause-others : goal.returns-clause-others
returns-clause-others g c =
    let m = search_of c.args.self.now.protocol.now (g.B.Walk.template c.args.self.now.space.now) c.args.self.now.mode c.args.self.now.workers in
    let s = c.args.self.now.space.now in
    let pool = c.args.self.now.pool.now in
    let formulas = c.args.formulas.now in
    let told = told_more m s formulas c.args.hand.now.others.protocol.now c.args.hand.now.others.space.now c.args.hand.now.others.mode c.args.hand.now.others.advanced c.args.hand.now.others.shown.items
    pool c.refresh.new.view.protocol.now c.refresh.new.view.space.now c.refresh.new.view.mode c.refresh.new.view.advanced c.refresh.new.view.shown.items
    c.in_ok-found.found.items (is_told m s formulas c.args.hand.now.others.protocol.now c.args.hand.now.others.space.now c.args.hand.now.others.mode c.args.hand.now.others.advanced c.args.hand.now.others.shown.items c.requires.others)
    c.in_ok-found.ensures.same c.in_ok-found.ensures.added c.in_ok-found.ensures.room in
    viewed m s formulas c.refresh.new.view.protocol.now c.refresh.new.view.space.now c.refresh.new.view.mode c.refresh.new.view.advanced c.refresh.new.view.shown.items
    formulas c.advance.new.self.protocol.now c.advance.new.self.space.now c.advance.new.self.mode c.advance.new.self.advanced c.advance.new.self.shown.items
    told c.advance.ensures.same c.advance.ensures.advanced c.advance.ensures.known c.advance.ensures.marked

pub returns-clause-found : goal.returns-clause-found
returns-clause-found g c =
    let pool = c.args.self.now.pool.now in
    let found = c.args.hand.now.found.items in
    let shown = c.advance.new.self.shown.items in
    let tokens : c.push_all.new.tokens.items ≡ found ++ c.in_ok-found.found.items = c.in_ok-push_all.ensures in
    subst (λ ts. AreTokens pool ts shown) (sym tokens)
    (tokens_more pool c.args.self.now.protocol.now found c.in_ok-found.found.items c.args.hand.now.others.shown.items c.refresh.new.view.shown.items shown c.requires.found c.in_ok-found.ensures.added c.advance.ensures.known)
