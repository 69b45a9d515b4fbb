use Rattle.std.proofs.Common.{◌≡◌, ◌++◌, List, OnOk, subst}
use Rattle.sc_names.specs.declared.uid.Uid.{Uid}
use Rattle.sc_terms.specs.Tables.{tree}
use Rattle.sc_model_worlds.specs.Saying.{uid_in}
use Rattle.sc_model_worlds.proofs.FoldLaws.{map_trees}
use Rattle.sc_model_worlds.proofs.ancestors.put_assigned.Goals as goal

pub returns : goal.returns
returns c =
    subst (λ (us : List Uid). OnOk c.put_uids.result (c.put_uids.new.uids ≡ c.args.uids.now ++ us))
    (map_trees (uid_in c.args.problem.now c.args.names.now) (tree c.args.problem.now.nodes) c.as_slice.result.now c.in_ok-members.members _ c.as_slice.ensures (c.in_ok-members.ensures.value c.args.names.now))
    c.put_uids.ensures
