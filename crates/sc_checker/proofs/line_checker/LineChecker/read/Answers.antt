use Rattle.std.proofs.Common.{ap, ◌∙◌}
use Rattle.std.proofs.lemmas.Result.{on_ok_weaker}
use Rattle.sc_logs.specs.Texts.{has_no_newline}
use Rattle.sc_checker.proofs.PieceLaws.{front_ended}
use Rattle.sc_checker.proofs.StreamLaws.{parts_read, kept_read}
use Rattle.sc_checker.proofs.line_checker.LineChecker.read.Goals as goal

pub read_lines-requires-clause-ended : goal.read_lines-requires-clause-ended
read_lines-requires-clause-ended g c =
    front_ended c.args.piece.now c.split_at.result.0.now c.lines_end.result c.split_at.ensures.front c.split_at.ensures.front_len c.lines_end.ensures.ended

pub returns-clause-read : goal.returns-clause-read
returns-clause-read g c = on_ok_weaker c.keep.result (λ e.
    parts_read (g.T.Theory.has_instance c.args.rules.now c.args.problem.now) (g.T.Theory.clause_of c.args.rules.now c.args.problem.now) c.args.self.now c.read_lines.new.self c.keep.new.self c.args.piece.now c.split_at.result.0.now c.split_at.result.1.now
    c.in_ok-read_lines.ensures.read
    (kept_read (g.T.Theory.has_instance c.args.rules.now c.args.problem.now) (g.T.Theory.clause_of c.args.rules.now c.args.problem.now) c.read_lines.new.self c.keep.new.self c.split_at.result.1.now
    (ap has_no_newline c.split_at.ensures.back ∙ c.lines_end.ensures.rest) e) c.split_at.ensures.by_index.0) c.keep.ensures.kept
