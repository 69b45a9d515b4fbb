use Rattle.std.proofs.Common.{◌≤◌, length, sym, arith, rules, take_all}
use Rattle.sc_propagation.proofs.trail.Trail.go_back.Goals as goal

pub returns-then-level-len-clause-levels : goal.returns-then-level-len-clause-levels
returns-then-level-len-clause-levels c =
    let le : length c.args.self.now.levels.items ≤ c.args.level = search rules in
    sym (take_all c.args.level c.args.self.now.levels.items le)

pub returns-clause-kept : goal.returns-clause-kept
returns-clause-kept c = λ q le. let e = c.backtrack.ensures.place in c.backtrack.ensures.kept q (omega arith)
