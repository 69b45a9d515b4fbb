use Rattle.sc_world.proofs.DefaultLaws.{no_action}
use Rattle.sc_world.proofs.default_value.first_action.Goals as goal

pub returns-else-is_action_type : goal.returns-else-is_action_type
returns-else-is_action_type c = no_action c.args.s.now c.args.name.now _ c.is_action_type.ensures c.if-is_action_type.false
