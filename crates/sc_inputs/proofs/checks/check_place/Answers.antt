use Rattle.std.proofs.Common.{◌≤◌, ◌∙◌, List, length, sym, subst, arith}
use Rattle.sc_schema.specs.declared.declarations.Env.{Env}
use Rattle.sc_inputs.specs.Refusals.{RefusesPlace, misplaced, no_environment}
use Rattle.sc_inputs.specs.Serving.{aim_view}
use Rattle.sc_inputs.proofs.checks.check_place.Goals as goal

pub returns-clause-fails : goal.returns-clause-fails
returns-clause-fails c =
    subst (λ (es : List Env). RefusesPlace c.args.schema.now (aim_view c.args.aim) (no_environment c.in-Some.place (length es))) (sym c.environments.ensures)
    (misplaced c.in-Some.place (sym c.place_in.ensures ∙ c.in-Some.is) (subst (λ (es : List Env). length es ≤ c.in-Some.place) c.environments.ensures (omega arith)))
