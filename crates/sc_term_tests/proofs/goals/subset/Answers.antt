use Rattle.std.proofs.Common.{refl}
use Rattle.std.proofs.lemmas.Result.{IfOk-weaker}
use Rattle.sc_sorts.specs.declared.node.BinaryOp.TheVariants as binary
use Rattle.sc_test_goals.proofs.GoalLaws.{plain_later, two_plain}
use Rattle.sc_term_tests.proofs.goals.subset.Goals as goal

pub returns-clause-plain : goal.returns-clause-plain
returns-clause-plain c =
    IfOk-weaker c.subset.result _ _
    (λ n s. two_plain _ _ c.in_ok-first.first c.in_ok-second.second n (plain_later _ _ _ c.in_ok-second.ensures.kept c.in_ok-first.ensures.plain) c.in_ok-second.ensures.plain binary.Subset refl s) c.subset.ensures.ok
