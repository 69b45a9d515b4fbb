use Rattle.std.proofs.Common.{arith}
use Rattle.th_sets.specs.Moves.{IsAmong}
use Rattle.th_sets.proofs.FreeLaws.{first_none}
use Rattle.th_sets.proofs.MoveLaws.{among_more, among_all}
use Rattle.th_sets.proofs.moves.closed_memberships.Goals as goal

pub loop-n-init : goal.loop-n-init
loop-n-init c = first_none c.args.problem.now (IsAmong _ _)

pub loop-n-preserved : goal.loop-n-preserved
loop-n-preserved c = among_more c.args.problem.now _ _ _ _ _ _ c.named_at.ensures c.in_ok-put_parts.ensures c.loop-n.invariant

pub returns-clause-all : goal.returns-clause-all
returns-clause-all c = among_all c.args.problem.now _ _ _ _ _ (omega (arith, c.closed_count-n-end.ensures.value, c.loop-n-test.false)) c.loop-n.invariant c.in_ok-listed.ensures c.in_ok-listed-2.ensures
