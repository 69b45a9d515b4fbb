use Rattle.sc_day_laws.proofs.SumLaws.{day_times_is}
use Rattle.sc_day_laws.proofs.laws.sum_laws.Goals as goal

pub returns : goal.returns
returns c = day_times_is
