use Rattle.sc_symauth.specs.declared.compiled.CompiledPolicy.{CompiledPolicy}
use Rattle.sc_symauth.specs.Standings.{error}
use Rattle.sc_symauth.proofs.NumbersLaws.{term_more}
use Rattle.sc_symauth.proofs.joining.error_terms.Goals as goal
use Rattle.sc_terms.proofs.TableLaws.{keeps_then}

pub loop-policy-preserved : goal.loop-policy-preserved
loop-policy-preserved c = record {
  kept = keeps_then _ _ _ c.loop-policy.invariant.kept c.in_ok-n.ensures.kept;
  made = term_more error (λ (p : CompiledPolicy). p.code) _ _ _ _ _ c.args.policies.now c.loop-policy.policy-index c.in_ok-n.n _ c.loop-policy-test.true c.requires c.loop-policy.invariant.kept c.loop-policy.invariant.made c.in_ok-n.ensures.kept c.in_ok-n.ensures.ok c.in_ok-push.ensures.ok;
}
