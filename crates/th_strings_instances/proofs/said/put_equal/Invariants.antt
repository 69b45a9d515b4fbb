use Rattle.std.proofs.Common.{◌≡◌, ◌<◌, ◌++◌, length, map}
use Rattle.std.specs.List.{AllByRecursion}
use Rattle.sc_rule_instances.specs.Clauses.{clause_for}
use Rattle.sc_rule_laws.specs.Signed.{so}
use Rattle.sc_terms.specs.Folds.{equal_term}
use Rattle.sc_terms.specs.Tables.{tree}
use Rattle.th_strings_instances.proofs.said.put_equal.Given as goal

abbrev pub invariant-loop-other : goal.invariant-loop-other
invariant-loop-other l = record {
  within : AllByRecursion (λ n. n < length l.problem.nodes) l.rest;
  whole : l.clause ++ clause_for l.problem (map (λ u. so (equal_term (tree l.problem.nodes l.term) u)) (map (tree l.problem.nodes) l.rest)) ≡ l.initial.clause ++ clause_for l.problem (map (λ u. so (equal_term (tree l.problem.nodes l.term) u)) (map (tree l.problem.nodes) l.fn.others));
}

abbrev pub decreases-loop-other : goal.decreases-loop-other
decreases-loop-other l = length l.rest
