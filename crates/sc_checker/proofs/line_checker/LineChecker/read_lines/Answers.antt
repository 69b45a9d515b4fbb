use Rattle.std.proofs.Common.{arith}
use Rattle.std.proofs.lemmas.List.{drop_all}
use Rattle.sc_checker.proofs.PieceLaws.{some_ended}
use Rattle.sc_checker.proofs.StreamLaws.{nothing_read}
use Rattle.sc_checker.proofs.line_checker.LineChecker.read_lines.Goals as goal

pub read_line-requires-clause-ended : goal.read_line-requires-clause-ended
read_line-requires-clause-ended g c = some_ended c.args.bytes.now c.loop-place.place (omega arith) c.requires.ended

pub loop-place-preserved : goal.loop-place-preserved
loop-place-preserved g c = record {
  checked = c.in_ok-place.ensures.checked;
  rest = λ end later. c.loop-place.invariant.rest end (c.in_ok-place.ensures.read.1 end later);
}

pub returns-clause-read : goal.returns-clause-read
returns-clause-read g c =
    c.loop-place.invariant.rest c.loop-place.self
    (nothing_read (g.T.Theory.has_instance c.args.rules.now c.args.problem.now) (g.T.Theory.clause_of c.args.rules.now c.args.problem.now) c.loop-place.self _ (drop_all c.loop-place.place c.args.bytes.now (omega arith)))
