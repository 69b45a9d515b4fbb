use Rattle.std.proofs.Common.{◌∙◌, arith, sym}
use Rattle.sc_test_goals.proofs.KnownLaws.{none_known, more_known, all_known}
use Rattle.sc_test_goals.proofs.goals.are_known.Goals as goal

pub loop-n-init : goal.loop-n-init
loop-n-init c = none_known c.args.schema.now c.args.terms.now

pub loop-n-preserved : goal.loop-n-preserved
loop-n-preserved c = more_known c.args.schema.now c.args.terms.now _ c.node.result.now c.node.ensures.stands (sym c.is_known_node.ensures ∙ c.if-not-is_known_node.false) c.node.ensures.parts c.loop-n.invariant

pub returns : goal.returns
returns c = λ h. all_known c.args.schema.now c.args.terms.now _ (omega (arith, c.loop-n-test.false)) c.loop-n.invariant
