use Rattle.std.proofs.Common.{true≢false, sym, ◌∙◌}
use Rattle.sc_propagation.proofs.WatchLaws.{listed-already, listed-too}
use Rattle.sc_propagation.proofs.watches.Watches.list.Goals as goal
use Rattle.sc_propagation.specs.Watches.{watch_of}

pub returns-then-is_watched-clause-lists : goal.returns-then-is_watched-clause-lists
returns-then-is_watched-clause-lists c =
    let w = c.args.self.now in
    listed-already c.args.place c.args.lit (watch_of w c.args.place) w.lists (c.is_watched.ensures.0 c.if-is_watched.true)

pub returns-clause-lists : goal.returns-clause-lists
returns-clause-lists c =
    let w = c.args.self.now in
    listed-too c.args.place c.args.lit (watch_of w c.args.place) w.lists c.list.new.self (λ watched. true≢false (sym (c.is_watched.ensures.1 watched) ∙ c.if-is_watched.false)) c.in_ok-list.ensures
