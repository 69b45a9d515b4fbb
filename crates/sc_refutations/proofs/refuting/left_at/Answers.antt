use Rattle.std.proofs.Common.{◌≡◌, ◌∙◌, Some, map, ap, length}
use Rattle.sc_refutations.specs.Arenas.{lit_of, pieces}
use Rattle.sc_refutations.specs.Refutations.{clause_at}
use Rattle.sc_refutations.proofs.KnownLaws.{clause_marked, clause_coded}
use Rattle.sc_refutations.proofs.refuting.left_at.Goals as goal

pub left_of-requires-clause-marks : goal.left_of-requires-clause-marks
left_of-requires-clause-marks c =
    let clauses = pieces 0 c.args.codes.now c.args.ends.now in
    let is : Some (map lit_of c.in-Some.clause.now) ≡ clause_at clauses c.args.number = rw c.in-Some.is at c.clause_at.ensures in
    clause_marked c.args.known.now.count _ c.args.number clauses (map lit_of c.in-Some.clause.now) c.requires.listed
    (ap length c.as_slice.ensures.value ∙ c.args.known.now.room) is

pub left_of-requires-clause-codes : goal.left_of-requires-clause-codes
left_of-requires-clause-codes c =
    let clauses = pieces 0 c.args.codes.now c.args.ends.now in
    let is : Some (map lit_of c.in-Some.clause.now) ≡ clause_at clauses c.args.number = rw c.in-Some.is at c.clause_at.ensures in
    clause_coded c.args.known.now.count c.args.number clauses (map lit_of c.in-Some.clause.now) c.requires.listed is
