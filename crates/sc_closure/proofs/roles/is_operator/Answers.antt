use Rattle.std.proofs.Common.{Some, sym, ap, ◌∙◌}
use Rattle.sc_sorts.specs.Same.{same_unary}
use Rattle.sc_closure.specs.Following.{operator_in}
use Rattle.sc_closure.proofs.roles.is_operator.Goals as goal

pub returns-in-One : goal.returns-in-One
returns-in-One c = λ h. ap operator_in c.in-One.is ∙ ap Some (same_unary c.in-One.other c.args.op.now (sym c.eq.ensures ∙ h))
