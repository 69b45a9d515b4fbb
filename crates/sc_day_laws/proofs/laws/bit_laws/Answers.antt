use Rattle.sc_day_laws.proofs.BitLaws as laws
use Rattle.sc_day_laws.proofs.laws.bit_laws.Goals as goal

pub returns : goal.returns
returns c = record { hold = laws.bits_hold; only = laws.bits_only }
