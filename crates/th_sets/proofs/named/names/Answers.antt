use Rattle.std.proofs.Common.{arith}
use Rattle.th_sets.specs.Named.{IsNameAmong}
use Rattle.th_sets.proofs.FreeLaws.{first_none, first_all}
use Rattle.th_sets.proofs.NameLaws.{names_more}
use Rattle.th_sets.proofs.named.names.Goals as goal

pub loop-n-init : goal.loop-n-init
loop-n-init c = first_none c.args.problem.now (IsNameAmong _)

pub loop-n-preserved : goal.loop-n-preserved
loop-n-preserved c = names_more c.args.problem.now _ _ _ _ c.named_at.ensures c.in_ok-put_name.ensures c.loop-n.invariant

pub returns : goal.returns
returns c = first_all c.args.problem.now (IsNameAmong _) _ (omega (arith, c.closed_count-n-end.ensures.value, c.loop-n-test.false)) tt c.loop-n.invariant
