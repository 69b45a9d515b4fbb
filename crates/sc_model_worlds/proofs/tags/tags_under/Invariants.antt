use Rattle.std.proofs.Common.{◌≡◌, map, take}
use Rattle.sc_model_values.specs.Models.{model}
use Rattle.sc_terms.specs.Tables.{tree}
use Rattle.sc_model_worlds.specs.Telling.{tag_told}
use Rattle.sc_model_worlds.proofs.tags.tags_under.Given as goal

abbrev pub invariant-loop-key : goal.invariant-loop-key
invariant-loop-key l = l.tags ≡ map (λ key. (key, tag_told l.problem.schema (model l.problem l.m l.names) l.uid (map (tree l.problem.nodes) l.closed) key)) (take l.key-index l.keys)
