use Rattle.std.proofs.Common.{◌∙◌, sym, ap}
use Rattle.sc_refutations.specs.Arenas.{lit_of, pieces}
use Rattle.sc_refutations.specs.Known.{marked}
use Rattle.sc_refutations.specs.Refutations.{are_listed}
use Rattle.sc_refutations.proofs.RefutationLaws.{unit_is}
use Rattle.sc_refutations.proofs.refuting.follow.Goals as goal

pub left_at-requires-clause-listed : goal.left_at-requires-clause-listed
left_at-requires-clause-listed c = ap (λ n. are_listed n (pieces 0 c.args.codes.now c.args.ends.now)) c.loop-i.invariant.count ∙ c.requires.listed

pub insert-requires : goal.insert-requires
insert-requires c =
    let clauses = pieces 0 c.args.codes.now c.args.ends.now in
    (unit_is (marked c.loop-i.known.step c.loop-i.known.marks.items) (c.loop-i.known.count) clauses _ (lit_of c.in-One.code)
    (ap (λ n. are_listed n clauses) c.loop-i.invariant.count ∙ c.requires.listed) (sym c.in-One.ensures)).0
