use Rattle.std.proofs.Common.{◌≡◌, length, rules}
use Rattle.std.specs.Vec.{vec_len}
use Rattle.sc_propagation.proofs.MarkLaws.{again-marks, first-no_later, next-late, next-marks}
use Rattle.sc_propagation.proofs.marks.Marks.clear.Goals as goal

pub invariant_of-self : goal.invariant_of-self
invariant_of-self c = next-late c.self.inside.stamp c.in-Some.next c.self.inside.stamps.items c.in-Some.ensures.1 c.self.invariant

pub returns-in-Some : goal.returns-in-Some
returns-in-Some c = next-marks c.self.inside.stamp c.in-Some.next c.self.inside.stamps.items c.args.self.now c.in-Some.ensures.1 c.self.invariant c.self.view_is

pub invariant_of-self-in-None : goal.invariant_of-self-in-None
invariant_of-self-in-None c = first-no_later _ _ (c.fill.ensures.items (λ y e. e))

pub returns-in-None : goal.returns-in-None
returns-in-None c =
    let stamps = c.self.inside.stamps in
    let size : vec_len stamps ≡ length stamps.items = search rules in
    again-marks c.self.inside.stamp (vec_len stamps) stamps.items c.fill.new.self.items c.args.self.now size (c.fill.ensures.items (λ y e. e)) c.self.view_is
