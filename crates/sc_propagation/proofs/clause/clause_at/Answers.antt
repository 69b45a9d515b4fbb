use Rattle.std.proofs.Common.{map, sym}
use Rattle.sc_refutations.specs.Arenas.{lit_of}
use Rattle.sc_propagation.proofs.PlaceLaws.{at_get, none_inside}
use Rattle.sc_propagation.proofs.clause.clause_at.Goals as goal

pub returns-in-Some : goal.returns-in-Some
returns-in-Some c = at_get c.args.clauses.now c.args.place (map lit_of c.in-Some.clause.now) (sym c.in-Some.ensures)

pub returns-in-None : goal.returns-in-None
returns-in-None c = absurd (none_inside c.args.clauses.now c.args.place c.requires (sym c.in-None.ensures))
