use Rattle.std.proofs.Common.{rules, ◌≤◌, length}
use Rattle.sc_falsified.proofs.NeedLaws.{enough_first, needed_first, needed_all}
use Rattle.sc_falsified.proofs.needs.ask_needed.Goals as goal

pub loop-pattern-init : goal.loop-pattern-init
loop-pattern-init g c = record {
  enough = enough_first (g.S.Texts.few c.args.texts.now) c.args.count c.args.signs.now.items c.requires.enough;
  needed = needed_first (g.S.Texts.few c.args.texts.now) c.args.count c.args.signs.now.items;
}

pub returns-clause-needed : goal.returns-clause-needed
returns-clause-needed g c =
    let test = c.loop-pattern-test.false in
    let size = c.loop-pattern.invariant.enough.sized in
    let count = c.len-pattern-end.ensures in
    let all : length c.loop-pattern.signs.items ≤ c.loop-pattern.pattern = search rules in
    needed_all (g.S.Texts.few c.args.texts.now) c.args.count c.loop-pattern.signs.items c.loop-pattern.pattern all c.loop-pattern.invariant.needed
