use Rattle.std.proofs.Common.{rules, ◌<◌, ℕ, List, length, map}
use Rattle.sc_model_values.specs.Models.{model}
use Rattle.sc_terms.specs.Tables.{tree}
use Rattle.sc_model_worlds.specs.Telling.{tag_told}
use Rattle.sc_model_worlds.proofs.FoldLaws.{one_made}
use Rattle.sc_model_worlds.proofs.tags.tags_under.Goals as goal

pub loop-key-preserved : goal.loop-key-preserved
loop-key-preserved c =
    let within : c.loop-key.key-index < length c.args.keys.now = search rules in
    one_made (λ (key : List ℕ). (key, tag_told c.args.problem.now.schema (model c.args.problem.now c.args.m.now c.args.names.now) c.args.uid.now (map (tree c.args.problem.now.nodes) c.args.closed.now) key))
    c.args.keys.now c.loop-key.key-index c.key-item.result (c.in_ok-name.name, c.in_ok-value.value) c.loop-key.tags c.push.new.self within c.key-item.is c.loop-key.invariant
    (λ i. (c.in_ok-name.ensures i, c.in_ok-value.ensures i)) c.in_ok-push.ensures.ok
