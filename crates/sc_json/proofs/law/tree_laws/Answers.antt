use Rattle.sc_json.proofs.TidyTreeLaws.{tree_tidy}
use Rattle.sc_json.proofs.TreesLaws.{one_tree, tree_or_none}
use Rattle.sc_json.proofs.law.tree_laws.Goals as goal

pub returns-clause-one : goal.returns-clause-one
returns-clause-one c = one_tree

pub returns-clause-either : goal.returns-clause-either
returns-clause-either c = tree_or_none

pub returns-clause-tidy : goal.returns-clause-tidy
returns-clause-tidy c = tree_tidy
