use Rattle.th_entities.proofs.WholeLaws.{none_falsified}
use Rattle.th_entities.proofs.finding.falsified_rule.Goals as goal

pub returns-clause-none : goal.returns-clause-none
returns-clause-none c =
    none_falsified c.args.problem.now c.args.m.now c.in_default-unlike_places.ensures.none c.in_default-second_rule.ensures.none c.in_default.ensures.none c.in_default-fifth_rule.ensures.none c.in_default-sixth_rule.ensures.none
    c.in_default-seventh_rule.ensures.none c.in_default-chosen_rules.ensures.none
