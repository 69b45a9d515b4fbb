use Rattle.std.proofs.Common.{◌≡◌, ◌++◌, ℕ, List, OnOk, subst}
use Rattle.sc_model_values.specs.Models.{name_in}
use Rattle.sc_terms.specs.Tables.{tree}
use Rattle.sc_model_worlds.proofs.FoldLaws.{map_trees}
use Rattle.sc_model_worlds.proofs.tags.put_assigned.Goals as goal

pub returns : goal.returns
returns c =
    subst (λ (texts : List (List ℕ)). OnOk c.put_names.result (c.put_names.new.texts ≡ c.args.texts.now ++ texts))
    (map_trees (name_in c.args.problem.now c.args.names.now) (tree c.args.problem.now.nodes) c.as_slice.result.now c.in_ok-members.members _ c.as_slice.ensures (c.in_ok-members.ensures.value c.args.names.now))
    c.put_names.ensures
