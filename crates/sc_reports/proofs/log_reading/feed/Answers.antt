use Rattle.std.proofs.lemmas.Result.{on_ok_weaker}
use Rattle.sc_reports.proofs.LogReadingLaws.{fed-comes, fed-same}
use Rattle.sc_reports.proofs.log_reading.feed.Goals as goal

pub returns-in-Some-clause-problem : goal.returns-in-Some-clause-problem
returns-in-Some-clause-problem c =
    let old = c.in-Some.checker in
    on_ok_weaker c.feed.result (λ kept. fed-same c.args.checker.now old c.feed.new.self c.in-Some.is kept) c.feed.ensures.problem

pub returns-in-Some-clause-fed : goal.returns-in-Some-clause-fed
returns-in-Some-clause-fed c =
    let old = c.in-Some.checker in
    on_ok_weaker c.feed.result (λ fed. fed-comes c.args.checker.now old c.feed.new.self c.args.piece.now c.in-Some.is fed) c.feed.ensures.fed
