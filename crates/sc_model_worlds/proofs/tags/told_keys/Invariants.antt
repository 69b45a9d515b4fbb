use Rattle.std.proofs.Common.{◌≡◌, flat_map, take}
use Rattle.sc_model_values.specs.Models.{model}
use Rattle.sc_model_world_laws.specs.Rebuilt.{keys_said}
use Rattle.sc_terms.specs.Tables.{tree}
use Rattle.sc_model_worlds.proofs.tags.told_keys.Given as goal

abbrev pub invariant-loop-term : goal.invariant-loop-term
invariant-loop-term l = l.keys ≡ flat_map (λ n. keys_said (model l.problem l.m l.names) l.uid (tree l.problem.nodes n)) (take l.term-index l.closed)
