use Rattle.std.proofs.Common.{refl}
use Rattle.std.proofs.lemmas.Result.{IfOk-weaker}
use Rattle.sc_sorts.specs.declared.node.BinaryOp.TheVariants as binary
use Rattle.sc_test_goals.proofs.GoalLaws.{plain_later, two_plain}
use Rattle.sc_term_tests.proofs.goals.above.Goals as goal

pub returns-clause-plain : goal.returns-clause-plain
returns-clause-plain c =
    IfOk-weaker c.member.result _ _
    (λ n s. two_plain _ _ c.in_ok-user.user c.in_ok-users.users n (plain_later _ _ _ c.in_ok-users.ensures.kept c.in_ok-user.ensures.plain) c.in_ok-users.ensures.plain binary.Member refl s) c.member.ensures.ok
