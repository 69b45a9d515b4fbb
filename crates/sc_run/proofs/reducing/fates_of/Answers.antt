use Rattle.std.proofs.lemmas.Result.{IfOk-weaker}
use Rattle.sc_run.proofs.ReductionLaws.{may-be-reduced, reduction-of}
use Rattle.sc_run.proofs.reducing.fates_of.Goals as goal

pub reduce-requires : goal.reduce-requires
reduce-requires c = record {
  reduced = may-be-reduced c.args.inputs.now.asking.schema c.args.inputs.now.asking.policies c.in_ok-query.query c.in_ok-query.ensures.question c.in_ok-query.ensures.first c.in_ok-query.ensures.against c.requires.allowed;
}

pub returns-clause-reduction : goal.returns-clause-reduction
returns-clause-reduction c =
    IfOk-weaker c.reduce.result _ _
    (λ fates h. reduction-of c.args.inputs.now.asking.schema c.args.inputs.now.asking.policies c.in_ok-query.query c.args.inputs.now.budget fates c.in_ok-query.ensures.first h) c.reduce.ensures.reduction
