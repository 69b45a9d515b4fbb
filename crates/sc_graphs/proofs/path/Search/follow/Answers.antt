use Rattle.std.proofs.Common.{◌≡◌, ◌≢◌, length, rules}
use Rattle.sc_graphs.specs.declared.path.Mark.TheVariants.{New}
use Rattle.sc_graphs.specs.Paths.{mark_in}
use Rattle.sc_graphs.proofs.FoundLaws.{met_is_left}
use Rattle.sc_graphs.proofs.MoveLaws.{starts, entered_goes, entered_met, popped_none}
use Rattle.sc_graphs.proofs.path.Search.follow.Goals as goal

pub returns-then-ne-clause-left : goal.returns-then-ne-clause-left
returns-then-ne-clause-left c =
    let met : mark_in c.args.self.now.marks.items c.args.start ≢ New = search rules in
    met_is_left c.args.graph.now c.args.self.now.marks.items c.args.self.now.path.items c.args.self.now.parts.items c.args.self.now.waiting.items c.requires.stands c.requires.nowhere c.args.start met

pub loop-part-init : goal.loop-part-init
loop-part-init c =
    let is_new : mark_in c.args.self.now.marks.items c.args.start ≡ New = search rules in
    record {
      stands = starts c.args.graph.now c.args.self.now c.enter.new.self c.args.start is_new c.requires.stands c.requires.nowhere c.in_ok-enter.ensures.path c.in_ok-enter.ensures.parts c.in_ok-enter.ensures.waiting c.in_ok-enter.ensures.marks;
      goes = entered_goes c.args.self.now.marks.items c.enter.new.self.marks.items c.args.start (length c.args.self.now.path.items) is_new c.in_ok-enter.ensures.marks;
      met = entered_met c.args.self.now.marks.items c.enter.new.self.marks.items c.args.start (length c.args.self.now.path.items) c.in_ok-enter.ensures.marks;
    }

pub returns-clause-left : goal.returns-clause-left
returns-clause-left c =
    met_is_left c.args.graph.now c.loop-part.self.marks.items c.loop-part.self.path.items c.loop-part.self.parts.items c.loop-part.self.waiting.items c.loop-part.invariant.stands
    (popped_none c.loop-part.self.parts.items c.pop.new.self.items _ c.in_default.ensures.items c.in_default.ensures.rest c.in_default.ensures.cases.0) c.args.start c.loop-part.invariant.met
