use Rattle.sc_constructs.specs.declared.opt.Opt.{Opt}
use Rattle.sc_symauth.specs.Standings.{satisfied}
use Rattle.sc_symauth.proofs.NumbersLaws.{term_more}
use Rattle.sc_symauth.proofs.joining.satisfied_terms.Goals as goal
use Rattle.sc_terms.proofs.TableLaws.{keeps_then}

pub loop-code-preserved : goal.loop-code-preserved
loop-code-preserved c = record {
  kept = keeps_then _ _ _ c.loop-code.invariant.kept c.in_ok-n.ensures.kept;
  made = term_more satisfied (λ (o : Opt). o) _ _ _ _ _ c.args.codes.now c.loop-code.code-index c.in_ok-n.n _ c.loop-code-test.true c.requires c.loop-code.invariant.kept c.loop-code.invariant.made c.in_ok-n.ensures.kept c.in_ok-n.ensures.ok c.in_ok-push.ensures.ok;
}
