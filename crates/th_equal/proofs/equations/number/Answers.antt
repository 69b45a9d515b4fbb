use Rattle.std.proofs.Common.{subst}
use Rattle.sc_terms.specs.Tables.{IsTable}
use Rattle.th_equal.proofs.NumberLaws.{number_told}
use Rattle.th_equal.proofs.equations.number.Goals as goal

pub returns : goal.returns
returns c = number_told c.args.problem.now c.args.at c.number_of.result (subst IsTable c.terms.ensures c.laws-2.ensures) c.laws.ensures c.requires c.number_of.ensures
