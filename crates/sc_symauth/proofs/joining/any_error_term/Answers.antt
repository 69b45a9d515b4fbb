use Rattle.std.proofs.lemmas.Result.{IfOk-weaker}
use Rattle.sc_symauth.proofs.NumbersLaws.{any_error_is}
use Rattle.sc_symauth.proofs.joining.any_error_term.Goals as goal

pub returns-clause-ok : goal.returns-clause-ok
returns-clause-ok c = IfOk-weaker c.any_of.result _ _ (λ n h. any_error_is _ _ _ c.args.policies.now _ _ n c.in_ok-errors.ensures.ok c.as_slice.ensures h) c.any_of.ensures.ok
