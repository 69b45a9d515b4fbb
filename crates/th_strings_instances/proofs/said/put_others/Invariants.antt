use Rattle.std.proofs.Common.{◌≡◌, ◌++◌, length}
use Rattle.sc_rule_instances.specs.Clauses.{clause_for}
use Rattle.sc_rule_laws.specs.Strings.{other_signs}
use Rattle.sc_terms.specs.Tables.{tree}
use Rattle.th_strings_instances.proofs.said.put_others.Given as goal

abbrev pub invariant-loop-pattern : goal.invariant-loop-pattern
invariant-loop-pattern l = l.clause ++ clause_for l.problem (other_signs l.left l.rest (tree l.problem.nodes l.term)) ≡ l.initial.clause ++ clause_for l.problem (other_signs l.fn.patterns l.fn.signs (tree l.problem.nodes l.term))

abbrev pub decreases-loop-pattern : goal.decreases-loop-pattern
decreases-loop-pattern l = length l.left
