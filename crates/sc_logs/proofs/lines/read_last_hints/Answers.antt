use Rattle.std.proofs.Common.{◌≡◌, ◌==◌, ◌∙◌, ℕ, ap, length, rules}
use Rattle.std.specs.Vec.{vec_len}
use Rattle.sc_logs.proofs.LineLaws.{hints_none, hints_nothing, hints_more}
use Rattle.sc_logs.proofs.lines.read_last_hints.Goals as goal

pub returns-then-not-branch : goal.returns-then-not-branch
returns-then-not-branch c = hints_none c.args.words.now (rw c.if-not-branch.true at c.in_ok-read_hints.ensures)

pub returns-then-is_empty : goal.returns-then-is_empty
returns-then-is_empty c =
    let size : vec_len c.read_hints.new.hints ≡ length c.read_hints.new.hints.items = search rules in
    hints_nothing c.args.words.now c.read_hints.new.words c.read_hints.new.hints.items (rw c.if-not-branch.false at c.in_ok-read_hints.ensures) (c.if-is_empty.ensures ∙ ap (λ (n : ℕ). n == 0) size)

pub returns-in-Some : goal.returns-in-Some
returns-in-Some c =
    hints_more c.args.words.now c.read_hints.new.words c.read_hints.new.hints.items _ _ (rw c.if-not-branch.false at c.in_ok-read_hints.ensures) c.in-Some.ensures
