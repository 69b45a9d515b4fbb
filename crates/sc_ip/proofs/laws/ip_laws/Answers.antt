use Rattle.sc_ip.proofs.ValueLaws.{ip_of_decides}
use Rattle.sc_ip.proofs.laws.ip_laws.Goals as goal

pub returns : goal.returns
returns c = ip_of_decides
