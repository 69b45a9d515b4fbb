use Rattle.std.proofs.Common.{ap, ◌∙◌, ◌^◌, ◌/◌}
use Rattle.sc_ip.proofs.RangeLaws.{shift_is}
use Rattle.sc_ip.proofs.range.without_lowest.Goals as goal

pub returns : goal.returns
returns c = c.unwrap_or.ensures ∙ (shift_is c.args.n c.from.result c.checked_shr.result c.ranges.n.fits c.checked_shr.ensures ∙ ap (λ k. c.args.n / 2 ^ k) c.from.ensures)
