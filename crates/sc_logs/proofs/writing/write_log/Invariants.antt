use Rattle.std.proofs.Common.{◌≡◌, take, string_bytes}
use Rattle.sc_logs.specs.Texts.{log_text}
use Rattle.sc_logs.proofs.writing.write_log.Given as goal

abbrev pub invariant-loop-step : goal.invariant-loop-step
invariant-loop-step l = string_bytes l.text ≡ log_text (take l.step-index l.step-items)
