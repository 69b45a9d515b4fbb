use Rattle.std.proofs.lemmas.Result.{IfOk-weaker}
use Rattle.sc_symauth.proofs.NumbersLaws.{allow_is}
use Rattle.sc_symauth.proofs.joining.allow_term.Goals as goal

pub returns-clause-ok : goal.returns-clause-ok
returns-clause-ok c =
    IfOk-weaker c.and.result _ _
    (λ n h. allow_is _ _ _ _ _ c.args.policies.now _ _ _ n c.requires c.in_ok-permitted.ensures.kept c.in_ok-forbidden.ensures.kept c.in_ok-not_forbidden.ensures.kept c.in_ok-permitted.ensures.ok c.in_ok-forbidden.ensures.ok c.in_ok-not_forbidden.ensures.ok h)
    c.and.ensures.ok
