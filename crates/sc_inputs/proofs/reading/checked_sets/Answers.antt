use Rattle.std.proofs.Common.{option_map, Bor, List, ℕ, subst, sym}
use Rattle.sc_ast.specs.declared.policy.Policy.{Policy}
use Rattle.sc_outside.specs.Failures.{FailsAt}
use Rattle.sc_inputs.specs.Readings.{RefusesSets, RefusesAsking, by_files, by_place, by_question}
use Rattle.sc_inputs.specs.Refusals.{HasAgainst, RefusesPlace, RefusesQuestion}
use Rattle.sc_inputs.specs.Serving.{aim_view}
use Rattle.sc_inputs.proofs.ReadingLaws.{fails_so}
use Rattle.sc_inputs.proofs.reading.checked_sets.Goals as goal

pub returns-in-Err-check_question-clause-fails : goal.returns-in-Err-check_question-clause-fails
returns-in-Err-check_question-clause-fails g c =
    let content = g.F.Files.content c.args.files.now in
    let failed = FailsAt g.F.Files c.args.files.now c.sets_of.new.files in
    let against = option_map (λ (n : Bor (List ℕ)). n.now) c.args.against in
    fails_so (RefusesQuestion c.args.schema.now c.in-Ok.policies (option_map (λ (ps : Bor (List Policy)). ps.now) c.as_ref.result)) (RefusesAsking content c.args.policies.now against (aim_view c.args.aim) failed c.args.schema.now)
    (λ a h. by_question a c.in-Ok.policies _ c.in-Ok.ensures.first (subst (λ o. HasAgainst content against o) (sym c.as_ref.ensures.value) c.in-Ok.ensures.second) h) c.in-Err-check_question.fault c.in-Err-check_question.ensures.fails

pub returns-in-Err-check_place-clause-fails : goal.returns-in-Err-check_place-clause-fails
returns-in-Err-check_place-clause-fails g c =
    let content = g.F.Files.content c.args.files.now in
    let failed = FailsAt g.F.Files c.args.files.now c.sets_of.new.files in
    let against = option_map (λ (n : Bor (List ℕ)). n.now) c.args.against in
    fails_so (RefusesPlace c.args.schema.now (aim_view c.args.aim)) (RefusesAsking content c.args.policies.now against (aim_view c.args.aim) failed c.args.schema.now)
    (λ a h. by_place a c.in-Ok.policies _ c.in-Ok.ensures.first (subst (λ o. HasAgainst content against o) (sym c.as_ref.ensures.value) c.in-Ok.ensures.second) c.in-Ok-check_question.ensures.ok h) c.in-Err-check_place.fault c.in-Err-check_place.ensures.fails

pub returns-in-Err-clause-fails : goal.returns-in-Err-clause-fails
returns-in-Err-clause-fails g c =
    let content = g.F.Files.content c.args.files.now in
    let failed = FailsAt g.F.Files c.args.files.now c.sets_of.new.files in
    let against = option_map (λ (n : Bor (List ℕ)). n.now) c.args.against in
    fails_so (RefusesSets content c.args.policies.now against failed) (RefusesAsking content c.args.policies.now against (aim_view c.args.aim) failed c.args.schema.now) (λ a h. by_files a h) c.in-Err.fault c.in-Err.ensures.fails
