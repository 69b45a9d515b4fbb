use Rattle.std.proofs.Common.{◌∙◌, List, Option, is_some, sym, ap}
use Rattle.sc_names.specs.declared.uid.Uid.{Uid}
use Rattle.sc_term_laws.proofs.ToldLaws.{some_map}
use Rattle.sc_test_goals.proofs.goals.is_action.Goals as goal

pub returns : goal.returns
returns c = c.is_some.ensures ∙ sym (some_map _ _) ∙ ap (λ (p : Option (List Uid)). is_some p) c.action_ancestors.ensures.value
