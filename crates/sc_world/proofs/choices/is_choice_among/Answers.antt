use Rattle.sc_world.proofs.ChoiceLaws.{among_none, among_some}
use Rattle.sc_world.proofs.choices.is_choice_among.Goals as goal

pub returns-then-is_empty : goal.returns-then-is_empty
returns-then-is_empty c = among_none c.args.ids.now c.args.id.now _ c.is_empty.ensures c.if-is_empty.true

pub returns : goal.returns
returns c = among_some c.args.ids.now c.args.id.now _ _ c.is_empty.ensures c.if-is_empty.false c.is_among.ensures
