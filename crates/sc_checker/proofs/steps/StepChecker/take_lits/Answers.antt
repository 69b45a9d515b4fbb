use Rattle.std.proofs.Common.{◌∙◌, map, ap, refl, List, ℕ}
use Rattle.std.specs.List.{list_all}
use Rattle.std.proofs.lemmas.Result.{on_ok_weaker}
use Rattle.sc_clauses.specs.declared.step.Learned as learned
use Rattle.sc_refutations.specs.Arenas.{lit_of, has_code}
use Rattle.sc_checker.proofs.ProgressLaws.{learned_taken}
use Rattle.sc_checker.proofs.steps.StepChecker.take_lits.Goals as goal

pub take_learned-requires-clause-codes : goal.take_learned-requires-clause-codes
take_learned-requires-clause-codes c =
    let said = rw c.in-Some.is at c.in_ok-codes.ensures in
    ap (λ (codes : List ℕ). list_all has_code (map lit_of codes)) c.as_slice.ensures.value ∙ (ap (list_all has_code) said.0 ∙ said.1)

pub returns-in-Some : goal.returns-in-Some
returns-in-Some c =
    let said = rw c.in-Some.is at c.in_ok-codes.ensures in
    let l : learned.Learned = record { clause = c.args.clause.now; hints = c.args.hints.now } in
    on_ok_weaker c.take_learned.result (λ e.
    learned_taken c.args.self.now _ (map lit_of c.as_slice.result.now) c.args.hints.now l (ap (map lit_of) c.as_slice.ensures.value ∙ said.0) refl e) c.take_learned.ensures
