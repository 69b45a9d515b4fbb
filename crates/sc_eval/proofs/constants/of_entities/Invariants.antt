use Rattle.std.proofs.Common.{ℕ, ◌<◌, get_or}
use Rattle.sc_ast.specs.declared.literal.EntityLiteral.{EntityLiteral}
use Rattle.sc_eval.specs.Written.{HasTextUid}
use Rattle.sc_eval.proofs.constants.of_entities.Given as goal

abbrev pub invariant-loop-l : goal.invariant-loop-l
invariant-loop-l l = (k : ℕ) (d : EntityLiteral) → k < l.l-index → HasTextUid (get_or l.ls k d)
