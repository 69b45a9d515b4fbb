use Rattle.std.proofs.Common.{◌≡◌, ◌<◌, ◌++◌, length, map}
use Rattle.std.specs.List.{AllByRecursion, flat_map}
use Rattle.sc_rule_instances.specs.Clauses.{clause_for}
use Rattle.sc_rule_laws.specs.Strings.{other_signs}
use Rattle.sc_terms.specs.Tables.{tree}
use Rattle.th_strings_instances.proofs.said.put_signs.Given as goal

abbrev pub invariant-loop-term : goal.invariant-loop-term
invariant-loop-term l = record {
  within : AllByRecursion (λ n. n < length l.problem.nodes) l.rest;
  whole : l.clause ++ clause_for l.problem (flat_map (other_signs l.patterns l.signs) (map (tree l.problem.nodes) l.rest)) ≡ l.initial.clause ++ clause_for l.problem (flat_map (other_signs l.patterns l.signs) (map (tree l.problem.nodes) l.fn.terms));
}

abbrev pub decreases-loop-term : goal.decreases-loop-term
decreases-loop-term l = length l.rest
