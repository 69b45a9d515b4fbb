use Rattle.std.proofs.Common.{◌≡◌, map, find, drop}
use Rattle.sc_terms.specs.Tables.{tree}
use Rattle.sc_footprint.specs.Problems.{closed_terms}
use Rattle.sc_rule_instances.specs.EntityLiterals.{is_entity_literal}
use Rattle.sc_rule_instances.proofs.parts.entity.Given as goal

abbrev pub invariant-loop-place : goal.invariant-loop-place
invariant-loop-place l = find (is_entity_literal l.uid) (closed_terms l.problem) ≡ find (is_entity_literal l.uid) (map (tree l.problem.nodes) (drop l.place l.problem.closed))
