use Rattle.std.proofs.Common.{◌≡◌, ◌<◌, List, Bool, true, length, map, ap, ◌∙◌, arith}
use Rattle.std.proofs.lemmas.List.{length-map}
use Rattle.std.proofs.Math.ListN.{set}
use Rattle.sc_propagation.proofs.MarkLaws.{mark_more, set-no_later}
use Rattle.sc_propagation.proofs.marks.Marks.set.Goals as goal
use Rattle.sc_propagation.specs.Stamps.{is_marked}

pub index_mut-requires : goal.index_mut-requires
index_mut-requires c =
    let stamps = c.self.inside.stamps.items in
    let present = c.self.inside.stamp in
    let lt : c.args.number < length c.args.self.now = c.requires in
    let e : length (map (is_marked present) stamps) ≡ length stamps = simp length-map in
    let f : length (map (is_marked present) stamps) ≡ length c.args.self.now = ap length c.self.view_is in
    omega arith

pub invariant_of-self : goal.invariant_of-self
invariant_of-self c = set-no_later c.self.inside.stamp c.self.inside.stamps.items c.args.number c.self.invariant

pub returns : goal.returns
returns c = mark_more c.self.inside.stamp c.self.inside.stamps.items c.args.number ∙ ap (λ (l : List Bool). set l c.args.number true) c.self.view_is
