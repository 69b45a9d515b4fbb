use Rattle.sc_dates.proofs.DayLaws as laws
use Rattle.sc_dates.proofs.laws.day_laws.Goals as goal

pub returns : goal.returns
returns c = record { split = laws.split; only = laws.only; greatest = laws.greatest; start = laws.start_is; leaves = laws.leaves_on_first }
