use Rattle.std.proofs.lemmas.List.Elements.{recursion_from_All}
use Rattle.sc_eval.specs.Written.{IsProperPolicy}
use Rattle.sc_eval.proofs.ConditionLaws.{all_proper}
use Rattle.sc_eval.proofs.constants.constant_laws.Goals as goal

pub returns : goal.returns
returns c = all_proper c.args.policies.now (recursion_from_All IsProperPolicy _ c.of_policies.ensures)
