use Rattle.std.proofs.Common.{◌∙◌}
use Rattle.th_strings.proofs.MatchLaws.{match_told, match_none}
use Rattle.th_strings.proofs.matches.broken_match.Goals as goal

pub returns-in-Some-clause-found : goal.returns-in-Some-clause-found
returns-in-Some-clause-found c =
    match_told c.args.problem.now c.args.m.now c.args.patterns.now c.args.numbers.now _ (c.as_slice.ensures.value ∙ c.in_ok-signs.ensures) _ c.in-Some.start c.in-Some.middle c.in-Some.pattern _ c.in-Some.is c.in_ok-start.ensures.found c.match_rule.ensures

pub returns-clause-none : goal.returns-clause-none
returns-clause-none c =
    match_none c.args.problem.now c.args.m.now c.args.patterns.now c.args.numbers.now _ (c.as_slice.ensures.value ∙ c.in_ok-signs.ensures) _ c.problem_laws.ensures.terms c.laws.ensures c.requires c.in-None.is c.in_ok-start.ensures.none
