use Rattle.sc_bits.proofs.AddressLaws as laws
use Rattle.sc_bits.proofs.laws.address_laws.Goals as goal

pub returns : goal.returns
returns c = record { clauses = laws.clauses; range = laws.range; fits = laws.fits; bits = laws.bits; only = laws.only; rebuilt_range = laws.rebuilt_range }
