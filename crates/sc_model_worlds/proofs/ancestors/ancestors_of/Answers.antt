use Rattle.std.proofs.Common.{◌≡◌, ◌∙◌, List, IfOk, subst}
use Rattle.sc_names.specs.declared.uid.Uid.{Uid}
use Rattle.sc_names.specs.Uids.{uid_cmp}
use Rattle.sc_model_world_laws.specs.Rebuilt.{ancestors_said, in_order}
use Rattle.sc_model_values.specs.Models.{model}
use Rattle.sc_terms.specs.Tables.{tree}
use Rattle.sc_model_worlds.proofs.FoldLaws.{flat_trees}
use Rattle.sc_model_worlds.proofs.ancestors.ancestors_of.Goals as goal

pub returns : goal.returns
returns c = subst (λ (us : List Uid). IfOk c.in_order.result (λ xs. xs ≡ in_order uid_cmp us)) (c.into_vec.ensures ∙ c.in_ok-ancestors.ensures ∙ flat_trees (ancestors_said (model c.args.problem.now c.args.m.now c.args.names.now) c.args.uid.now) (tree c.args.problem.now.nodes) c.args.closed.now) c.in_order.ensures
