use Rattle.std.proofs.Common.{◌≡◌, ◌∙◌, drop, map, sym, ap, subst, refl, None, List, ℕ}
use Rattle.std.specs.List.{list_all}
use Rattle.sc_clauses.specs.declared.step.Learned as learned
use Rattle.sc_clauses.specs.declared.step.Step.TheVariants.{Learned}
use Rattle.sc_refutations.specs.Arenas.{lit_of, has_code}
use Rattle.sc_checker.specs.Progress.{Progress, IsChecked}
use Rattle.sc_checker.specs.Streams.{Checking}
use Rattle.sc_logs.specs.Texts.{step_line}
use Rattle.sc_checker.proofs.ProgressLaws.{learned_taken, learned_checked}
use Rattle.sc_checker.proofs.StreamLaws.{line_shorter, learned_coded, whole_taken}
use Rattle.sc_checker.proofs.line_checker.LineChecker.read_line.Goals as goal

pub returns-in_ok-take_learned-in-Some-clause-read : goal.returns-in_ok-take_learned-in-Some-clause-read
returns-in_ok-take_learned-in-Some-clause-read g c =
    let l : learned.Learned = record { clause = map lit_of c.read_whole.new.room.codes.items; hints = c.read_whole.new.room.hints.items } in
    let read = rw c.in-Some.is at c.in_ok-next.ensures in
    let start = c.if-not-is_between.ensures refl in (
      line_shorter (drop c.args.from c.args.bytes.now) (step_line (Learned l)) (drop c.in-Some.next c.args.bytes.now) read.1,
      λ end rest.
          whole_taken (g.T.Theory.has_instance c.args.rules.now c.args.problem.now) (g.T.Theory.clause_of c.args.rules.now c.args.problem.now) c.self.inside.begun c.self.inside.line.items c.args.self.now c.self.inside.steps c.take_learned.new.self
          (drop c.args.from c.args.bytes.now) (drop c.in-Some.next c.args.bytes.now) l end c.self.view_is start.0 start.1 read.0 read.1
          (learned_taken c.self.inside.steps c.take_learned.new.self (map lit_of c.as_slice-clause.result.now) c.as_slice.result.now l (ap (map lit_of) c.as_slice-clause.ensures.value) c.as_slice.ensures.value c.in_ok-take_learned-in-Some.ensures) rest,
    )

pub returns-in_ok-take_learned-in-Some-clause-checked : goal.returns-in_ok-take_learned-in-Some-clause-checked
returns-in_ok-take_learned-in-Some-clause-checked g c =
    let l : learned.Learned = record { clause = map lit_of c.as_slice-clause.result.now; hints = c.as_slice.result.now } in
    let here : c.self.inside.steps ≡ c.args.self.now.progress = ap (λ (k : Checking). k.progress) c.self.view_is in
    let none : c.self.inside.steps.fault ≡ None = ap (λ (p : Progress). p.fault) here ∙ (c.if-not-is_between.ensures refl).1 in
    learned_checked c.args.problem.now c.self.inside.steps c.take_learned.new.self l (subst (IsChecked c.args.problem.now) (sym here) c.requires.checked) none c.in_ok-take_learned-in-Some.ensures

pub take_learned-requires-clause-codes : goal.take_learned-requires-clause-codes
take_learned-requires-clause-codes g c =
    let l : learned.Learned = record { clause = map lit_of c.read_whole.new.room.codes.items; hints = c.read_whole.new.room.hints.items } in
    let read = rw c.in-Some.is at c.in_ok-next.ensures in
    ap (λ (codes : List ℕ). list_all has_code (map lit_of codes)) c.as_slice-clause.ensures.value ∙ learned_coded l read.0
