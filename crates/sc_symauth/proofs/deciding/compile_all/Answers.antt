use Rattle.sc_constructs.proofs.NumbersLaws.{ready_later}
use Rattle.sc_terms.proofs.TableLaws.{keeps_then}
use Rattle.sc_symauth.proofs.NumbersLaws.{compiled_more}
use Rattle.sc_symauth.proofs.deciding.compile_all.Goals as goal

pub loop-policy-preserved : goal.loop-policy-preserved
loop-policy-preserved c = record {
  ready = ready_later _ _ _ _ _ c.in_ok-code.ensures.kept c.loop-policy.invariant.ready;
  kept = keeps_then _ _ _ c.loop-policy.invariant.kept c.in_ok-code.ensures.kept;
  made = compiled_more c.args.schema.now c.args.env.now _ _ c.args.policies.now c.loop-policy.policy-index c.policy-item.result _ _ c.in_ok-code.code
      c.loop-policy-test.true c.policy-item.is c.in_ok-code.ensures.kept c.loop-policy.invariant.made c.in_ok-code.ensures.ok c.in_ok-push.ensures.ok;
}
