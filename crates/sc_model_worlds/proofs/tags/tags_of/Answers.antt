use Rattle.std.proofs.Common.{◌≡◌, ◌∙◌, ℕ, List, IfOk, map, ap, subst}
use Rattle.sc_model_values.specs.Models.{model}
use Rattle.sc_names.specs.Uids.{text_cmp}
use Rattle.sc_model_world_laws.specs.Rebuilt.{in_order, keys_said}
use Rattle.sc_terms.specs.Tables.{tree}
use Rattle.sc_model_worlds.proofs.FoldLaws.{flat_trees}
use Rattle.sc_model_worlds.specs.Telling.{tag_told}
use Rattle.sc_model_worlds.proofs.tags.tags_of.Goals as goal

pub returns : goal.returns
returns c =
    subst (λ (keys : List (List ℕ)). IfOk c.tags_under.result (λ r. r ≡ map (λ (key : List ℕ). (key, tag_told c.args.problem.now.schema (model c.args.problem.now c.args.m.now c.args.names.now) c.args.uid.now (map (tree c.args.problem.now.nodes) c.args.closed.now) key)) keys))
    (c.as_slice.ensures ∙ c.in_ok-keys.ensures ∙ ap (in_order text_cmp) (c.into_vec.ensures ∙ c.in_ok-told.ensures ∙ flat_trees (keys_said (model c.args.problem.now c.args.m.now c.args.names.now) c.args.uid.now) (tree c.args.problem.now.nodes) c.args.closed.now)) c.tags_under.ensures
