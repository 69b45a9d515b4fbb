use Rattle.std.proofs.Common.{◌≡◌, ◌<◌, List, Bool, get_or, length, map, ap, ◌∙◌, arith}
use Rattle.std.proofs.lemmas.List.{length-map}
use Rattle.sc_propagation.proofs.MarkLaws.{mark_at}
use Rattle.sc_propagation.proofs.marks.Marks.is_set.Goals as goal
use Rattle.sc_propagation.specs.Stamps.{is_marked}

pub index-requires : goal.index-requires
index-requires c =
    let stamps = c.self.inside.stamps.items in
    let present = c.self.inside.stamp in
    let lt : c.args.number < length c.args.self.now = c.requires in
    let e : length (map (is_marked present) stamps) ≡ length stamps = simp length-map in
    let f : length (map (is_marked present) stamps) ≡ length c.args.self.now = ap length c.self.view_is in
    omega arith

pub returns : goal.returns
returns c =
    let stamps = c.self.inside.stamps.items in
    let present = c.self.inside.stamp in
    let lt : c.args.number < length c.args.self.now = c.requires in
    let e : length (map (is_marked present) stamps) ≡ length stamps = simp length-map in
    let f : length (map (is_marked present) stamps) ≡ length c.args.self.now = ap length c.self.view_is in
    λ d. ap (is_marked present) c.index.ensures ∙ mark_at present stamps c.args.number _ d (omega arith) ∙ ap (λ (l : List Bool). get_or l c.args.number d) c.self.view_is
