use Rattle.sc_run.proofs.GenerationLaws.{is_generated, may_be_asked}
use Rattle.sc_run.proofs.generating.generated_analysis.Goals as goal

pub returns-clause-asked : goal.returns-clause-asked
returns-clause-asked c =
    is_generated c.generated_laws.ensures.forward c.generated_laws.ensures.backward c.generated_typing_laws.ensures.schema c.args.size c.requires.size c.in_ok-schema.schema c.in_ok-policies.policies c.in_ok-others.others
    c.in_ok-schema.ensures c.in_ok-policies.ensures c.in_ok-others.ensures

pub returns-clause-allowed : goal.returns-clause-allowed
returns-clause-allowed c =
    may_be_asked c.generated_typing_laws.ensures.names c.generated_typing_laws.ensures.types c.args.size
    c.in_ok-schema.schema c.in_ok-policies.policies c.in_ok-others.others c.in_ok-schema.ensures c.in_ok-policies.ensures c.in_ok-others.ensures
