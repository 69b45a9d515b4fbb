use Rattle.sc_logs.proofs.LineLaws.{learned_no_lits, learned_no_hints}
use Rattle.sc_logs.proofs.lines.read_clause.Goals as goal

pub returns-then-not-branch : goal.returns-then-not-branch
returns-then-not-branch c = learned_no_lits c.args.words.now (rw c.if-not-branch.true at c.in_ok-read_lits.ensures)

pub returns-then-not-branch-2 : goal.returns-then-not-branch-2
returns-then-not-branch-2 c =
    learned_no_hints c.args.words.now c.read_lits.new.words c.read_lits.new.lits.items (rw c.if-not-branch.false at c.in_ok-read_lits.ensures) (rw c.if-not-branch-2.true at c.in_ok-read_last_hints.ensures)
