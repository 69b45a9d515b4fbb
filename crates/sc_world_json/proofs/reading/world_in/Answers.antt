use Rattle.std.proofs.Common.{◌∙◌, sym}
use Rattle.serde_json.specs.View.{view}
use Rattle.sc_json.specs.Trees.{in_tree}
use Rattle.sc_world_json.proofs.reading.world_in.Goals as goal

pub returns-in-Some-clause-err : goal.returns-in-Some-clause-err
returns-in-Some-clause-err c = λ bytes h. in_tree (view c.args.tree.now) c.in-Some.fault h (sym c.in_ok-fault.ensures ∙ c.in-Some.is)
