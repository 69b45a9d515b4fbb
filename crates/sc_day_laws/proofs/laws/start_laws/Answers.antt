use Rattle.sc_day_laws.proofs.ScriptLaws as laws
use Rattle.sc_day_laws.proofs.laws.start_laws.Goals as goal

pub returns : goal.returns
returns c = record { days = laws.script_days_is; time = laws.script_time_is; leaves = laws.leaves_on_first; leaves_alike = laws.leaves_alike }
