use Rattle.std.proofs.Common.{get_or}
use Rattle.sc_closure_rules.proofs.MemberLaws.{read_at, within_at}
use Rattle.sc_closure.proofs.GroupLaws.{pattern_there}
use Rattle.sc_closure.proofs.roles.is_pattern_known.Goals as goal

pub is_one_pattern-requires-clause-a_in : goal.is_one_pattern-requires-clause-a_in
is_one_pattern-requires-clause-a_in c =
    let i = c.loop-n.n-index in
    within_at _ c.args.patterns.now c.requires.patterns_in i (get_or c.args.patterns.now i 0) c.loop-n-test.true (read_at c.args.patterns.now i c.loop-n-test.true)

pub returns-then-is_one_pattern : goal.returns-then-is_one_pattern
returns-then-is_one_pattern c = λ h. pattern_there _ c.args.patterns.now c.loop-n.n-index c.args.asking c.loop-n-test.true (c.is_one_pattern.ensures c.if-is_one_pattern.true)
