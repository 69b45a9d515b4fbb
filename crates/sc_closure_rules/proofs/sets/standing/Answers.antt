use Rattle.std.proofs.Common.{ap}
use Rattle.std.proofs.lemmas.Result.{IfOk-weaker}
use Rattle.std.specs.Option.{option_copied}
use Rattle.sc_closure_rules.proofs.StandingLaws.{standing_some, standing_none, standing_in_table}
use Rattle.sc_closure_rules.proofs.sets.standing.Goals as goal

pub returns-in-Some-clause-ok : goal.returns-in-Some-clause-ok
returns-in-Some-clause-ok c =
    IfOk-weaker c.standing_in.result _ _ (λ o h. standing_some _ _ _ _ c.in-Some.parts.now o c.node.ensures.stands c.set_parts.ensures (ap option_copied c.in-Some.is) h) c.standing_in.ensures

pub returns-in-Some-clause-within : goal.returns-in-Some-clause-within
returns-in-Some-clause-within c =
    IfOk-weaker c.standing_in.result _ _ (λ o h. standing_in_table _ _ _ c.in-Some.parts.now o c.node.ensures.parts_in c.set_parts.ensures (ap option_copied c.in-Some.is) h) c.standing_in.ensures

pub returns-in-None-clause-ok : goal.returns-in-None-clause-ok
returns-in-None-clause-ok c = standing_none _ _ _ _ c.node.ensures.stands c.set_parts.ensures (ap option_copied c.in-None.is)
