-- What the program's values stand for.
use Rattle.std.specs.Prelude.{ℕ, ⊤}
use Rattle.sc_world.specs.WellFormed.{IsProperWorld}
use Rattle.sc_reports.specs.Reports.{Verdict, holds, counterexample, unknown, over_limit}
use Rattle.sc_reports.specs.declared.analysing.EnvAnswer.{EnvAnswer}
use Rattle.sc_reports.specs.declared.analysing.EnvAnswer.TheVariants.{Holds, Violated, Spent, OverLimit}

-- what an answer within this budget claims
abbrev pub verdict_view : ℕ → EnvAnswer → Verdict
verdict_view budget (Holds log) = holds
verdict_view budget (Violated w) = counterexample w
verdict_view budget (Spent log) = unknown budget log
verdict_view budget OverLimit = over_limit

-- a world that is to be printed is made of values
abbrev pub IsPrintable : EnvAnswer → Type 0
IsPrintable (Holds log) = ⊤
IsPrintable (Violated w) = IsProperWorld w
IsPrintable (Spent log) = ⊤
IsPrintable OverLimit = ⊤
