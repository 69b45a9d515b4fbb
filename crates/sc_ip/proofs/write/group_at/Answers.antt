use Rattle.sc_ip.proofs.WrittenLaws.{place_fits, place_some}
use Rattle.sc_ip.proofs.write.group_at.Goals as goal

pub pow-requires : goal.pow-requires
pow-requires c = place_fits c.args.place c.requires

pub nonzero_div-result : goal.nonzero_div-result
nonzero_div-result c = rw c.pow.ensures (place_some c.args.place)
