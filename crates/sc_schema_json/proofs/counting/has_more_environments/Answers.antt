use Rattle.std.proofs.Common.{refl}
use Rattle.sc_schema_json.proofs.CountLaws.{more_than_left}
use Rattle.sc_schema_json.proofs.counting.has_more_environments.Goals as goal

pub returns-in-None : goal.returns-in-None
returns-in-None c = (λ _. more_than_left c.args.actions.now c.loop-action.action-index c.loop-action.left c.args.most c.action-item.result c.loop-action.invariant c.loop-action-test.true c.action-item.is c.in-None.ensures, λ _. refl)
