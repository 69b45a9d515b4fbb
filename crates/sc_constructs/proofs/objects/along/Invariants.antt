use Rattle.std.proofs.Common.{◌≡◌, length}
use Rattle.sc_terms.specs.Tables.{Keeps}
use Rattle.sc_constructs.specs.Objects.{along_code}
use Rattle.sc_constructs.specs.Numbers.{IsCode, code_at}
use Rattle.sc_constructs.proofs.objects.along.Given as goal

abbrev pub decreases-loop-step : goal.decreases-loop-step
decreases-loop-step l = length l.rest

abbrev pub invariant-loop-step : goal.invariant-loop-step
invariant-loop-step l = record {
  front_in : IsCode l.terms l.front;
  object_in : IsCode l.terms l.object;
  kept : Keeps l.fn.terms l.terms;
  same : along_code l.setting.schema.now (code_at l.terms l.front) (code_at l.terms l.object) l.rest
      ≡ along_code l.setting.schema.now (code_at l.fn.terms l.fn.front) (code_at l.fn.terms l.fn.object) l.fn.steps;
}
