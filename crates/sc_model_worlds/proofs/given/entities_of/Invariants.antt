use Rattle.std.proofs.Common.{◌≡◌, flat_map, take}
use Rattle.sc_model_world_laws.specs.Rebuilt.{entity_by}
use Rattle.sc_sorts.specs.declared.sort.Sort.{out-Sort}
use Rattle.sc_terms.specs.Tables.{tree}
use Rattle.sc_terms.specs.TreeSorts.{tree_sort}
use Rattle.sc_model_worlds.specs.Saying.{uid_in}
use Rattle.sc_model_worlds.proofs.given.entities_of.Given as goal

abbrev pub invariant-loop-term : goal.invariant-loop-term
invariant-loop-term l = l.uids ≡ flat_map (λ n. entity_by (out-Sort (tree_sort (tree l.problem.nodes n))) (uid_in l.problem l.names (tree l.problem.nodes n))) (take l.term-index l.closed)
