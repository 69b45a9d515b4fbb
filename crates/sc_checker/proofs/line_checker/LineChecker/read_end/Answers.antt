use Rattle.std.proofs.Common.{◌≡◌, ◌∙◌, ◌++◌, ◌∷◌, [], ◌==◌, ap, is_some, length, rules, subst, ℕ}
use Rattle.std.specs.Vec.{vec_len}
use Rattle.std.proofs.lemmas.Result.{on_ok_weaker}
use Rattle.sc_checker.specs.Streams.{Checking, AfterLine}
use Rattle.sc_checker.proofs.StreamLaws.{stopped_stays, end_read, whole_line}
use Rattle.sc_checker.proofs.line_checker.LineChecker.read_end.Goals as goal

pub returns-then-is_at_fault-clause-read : goal.returns-then-is_at_fault-clause-read
returns-then-is_at_fault-clause-read g c =
    stopped_stays (g.T.Theory.has_instance c.args.rules.now c.args.problem.now) (g.T.Theory.clause_of c.args.rules.now c.args.problem.now) c.args.self.now (c.args.end.now ++ 10 ∷ [])
    (c.if-is_at_fault.ensures ∙ ap (λ (k : Checking). is_some k.progress.fault) c.self.view_is)

pub returns-then-is_empty-clause-read : goal.returns-then-is_empty-clause-read
returns-then-is_empty-clause-read g c =
    let size : vec_len c.self.inside.line ≡ length c.self.inside.line.items = search rules in
    on_ok_weaker c.take.result (λ e.
    end_read (g.T.Theory.has_instance c.args.rules.now c.args.problem.now) (g.T.Theory.clause_of c.args.rules.now c.args.problem.now) c.args.self.now c.take.new.self c.args.end.now c.args.end.now
    (c.if-is_at_fault.ensures ∙ ap (λ (k : Checking). is_some k.progress.fault) c.self.view_is) c.requires.end
    (whole_line c.args.self.now.line c.args.end.now (c.if-is_empty.ensures ∙ (ap (λ (n : ℕ). n == 0) size ∙ ap (λ (k : Checking). length k.line == 0) c.self.view_is))) e) c.take.ensures.taken

pub returns-clause-read : goal.returns-clause-read
returns-clause-read g c =
    let moved : c.as_slice.result.now ≡ c.extend_from_slice.new.self.items = cc in
    let whole : c.as_slice.result.now ≡ c.args.self.now.line ++ c.args.end.now
    = moved ∙ (c.in_ok-extend_from_slice.ensures.items ∙ ap (λ (k : Checking). k.line ++ c.args.end.now) c.self.view_is) in
    on_ok_weaker c.take-2.result (λ e.
    end_read (g.T.Theory.has_instance c.args.rules.now c.args.problem.now) (g.T.Theory.clause_of c.args.rules.now c.args.problem.now) c.args.self.now c.take-2.new.self c.args.end.now c.as_slice.result.now
    (c.if-is_at_fault.ensures ∙ ap (λ (k : Checking). is_some k.progress.fault) c.self.view_is) c.requires.end whole
    (subst (λ (k : Checking). AfterLine (g.T.Theory.has_instance c.args.rules.now c.args.problem.now) (g.T.Theory.clause_of c.args.rules.now c.args.problem.now) k.begun c.as_slice.result.now k.progress c.take-2.new.self) c.self.view_is e)) c.take-2.ensures.taken
