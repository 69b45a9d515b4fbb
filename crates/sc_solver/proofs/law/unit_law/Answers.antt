use Rattle.std.proofs.Common.{length}
use Rattle.sc_footprint.specs.Definitions.{defining}
use Rattle.sc_footprint.specs.Problems.{atoms}
use Rattle.sc_theory_search.proofs.CountLaws.{few_spent}
use Rattle.sc_solver.specs.Theories.{HasRule, rule_clause}
use Rattle.sc_solver.proofs.law.unit_law.Goals as goal

pub returns : goal.returns
returns c p budget log s = few_spent (HasRule p) (rule_clause p) (length (atoms p)) (defining p) budget log s.clauses s.steps_add s.count s.listed s.are_units
