use Rattle.sc_languages.proofs.PatternLaws.{items_more}
use Rattle.sc_languages.proofs.strings.items_of.Goals as goal

pub loop-pattern-preserved : goal.loop-pattern-preserved
loop-pattern-preserved c =
    items_more _ _ _ c.args.patterns.now c.loop-pattern.pattern-index c.pattern-item.result _ _ _ c.loop-pattern-test.true c.pattern-item.is c.in-Some.ensures.cases.0 c.in_ok-put_pattern.ensures
    c.loop-pattern.invariant
