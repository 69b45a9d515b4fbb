use Rattle.std.proofs.Common.{◌<◌, ◌∙◌, drop, length, sym, ap, subst, List, ℕ}
use Rattle.sc_logs.specs.Texts.{has_no_newline}
use Rattle.sc_checker.specs.Streams.{After}
use Rattle.sc_checker.proofs.PieceLaws.{newline_there, rest_from, line_later}
use Rattle.sc_checker.proofs.StreamLaws.{line_shorter, piece_more}
use Rattle.sc_checker.proofs.line_checker.LineChecker.read_cut.Goals as goal

pub unreachable-unreachable : goal.unreachable-unreachable
unreachable-unreachable g c =
    newline_there c.args.bytes.now c.args.from c.requires.ended c.requires.within
    (ap has_no_newline (sym (rest_from c.args.bytes.now c.args.from)) ∙ c.in_default.ensures)

pub returns-clause-read : goal.returns-clause-read
returns-clause-read g c =
    let bytes = c.args.bytes.now in
    let cut = sym (rest_from bytes c.args.from) ∙ c.in-Some.ensures.0 in
    let later = line_later bytes c.in-Some.line.now c.in-Some.field-0-1.now c.args.from cut in (
      subst (λ (xs : List ℕ). length xs < length (drop c.args.from bytes)) (sym later) (line_shorter (drop c.args.from bytes) c.in-Some.line.now c.in-Some.field-0-1.now cut),
      λ end rest.
          piece_more (g.T.Theory.has_instance c.args.rules.now c.args.problem.now) (g.T.Theory.clause_of c.args.rules.now c.args.problem.now) c.args.self.now c.read_end.new.self end c.in-Some.line.now c.in-Some.field-0-1.now (drop c.args.from bytes) cut
          c.in_ok-read_end.ensures.read
          (subst (λ (bs : List ℕ). After (g.T.Theory.has_instance c.args.rules.now c.args.problem.now) (g.T.Theory.clause_of c.args.rules.now c.args.problem.now) c.read_end.new.self bs end) later rest),
    )
