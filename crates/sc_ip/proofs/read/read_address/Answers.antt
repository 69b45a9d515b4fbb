use Rattle.std.proofs.Common.{refl}
use Rattle.sc_ip.specs.IpText.{v4, v6}
use Rattle.sc_ip.proofs.AddressLaws.{address_none}
use Rattle.sc_ip.proofs.read.read_address.Goals as goal

pub returns-in-Some-clause-some : goal.returns-in-Some-clause-some
returns-in-Some-clause-some c = v4 c.in-Some.ensures.some refl

pub returns-clause-some : goal.returns-clause-some
returns-clause-some c = v6 c.in_ok-address.ensures.some refl

pub returns-in_err-address-clause-none : goal.returns-in_err-address-clause-none
returns-in_err-address-clause-none c = rw c.from_residual.ensures (address_none c.args.text.now c.in_default.ensures.none c.in_err-address.ensures.none)
