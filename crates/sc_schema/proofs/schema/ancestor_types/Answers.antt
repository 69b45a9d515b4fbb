use Rattle.std.proofs.Common.{sym, subst}
use Rattle.sc_schema.specs.Lawful.{AreAscending}
use Rattle.sc_schema.proofs.AscentLaws.{above_ascend}
use Rattle.sc_schema.proofs.schema.ancestor_types.Goals as goal

pub returns-in-Some-clause-ascending : goal.returns-in-Some-clause-ascending
returns-in-Some-clause-ascending c = subst AreAscending (sym c.as_slice.ensures) (above_ascend c.args.s.now.actions c.args.t.now c.in-Some.names.now c.in-Some.ensures)

pub returns-in-Some-type_among-clause-ascending : goal.returns-in-Some-type_among-clause-ascending
returns-in-Some-type_among-clause-ascending c = subst AreAscending (sym c.as_slice-in-Some-type_among.ensures) c.in-Some-type_among.ensures.lawful.above.ascending
