use Rattle.std.proofs.Common.{arith}
use Rattle.sc_smtlib_forms.proofs.DigitLaws.{turn_more}
use Rattle.sc_smtlib_forms.proofs.characters.hexadecimal.Goals as goal

pub loop-turn-preserved : goal.loop-turn-preserved
loop-turn-preserved c = turn_more c.loop-turn.turn c.loop-turn.left c.args.number _ _ _ c.loop-turn.invariant (omega arith) c.if-left-eq0.false c.glyph.ensures c.in_ok-insert.ensures.items
