use Rattle.std.proofs.Common.{refl}
use Rattle.std.proofs.lemmas.Result.{IfOk-weaker}
use Rattle.sc_sorts.specs.declared.node.BinaryOp.TheVariants as binary
use Rattle.sc_test_goals.proofs.GoalLaws.{plain_later, two_plain}
use Rattle.sc_term_tests.proofs.goals.member.Goals as goal

pub returns-clause-plain : goal.returns-clause-plain
returns-clause-plain c =
    IfOk-weaker c.member.result _ _
    (λ n s. two_plain _ _ c.in_ok-text.text c.in_ok-set.set n (plain_later _ _ _ c.in_ok-set.ensures.kept c.in_ok-text.ensures.plain) c.in_ok-set.ensures.plain binary.Member refl s) c.member.ensures.ok
