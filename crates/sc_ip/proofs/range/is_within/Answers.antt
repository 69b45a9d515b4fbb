use Rattle.sc_ip.proofs.RangeLaws.{within_when, within_unless}
use Rattle.sc_ip.proofs.range.is_within.Goals as goal

pub returns-then-x_free-y_free : goal.returns-then-x_free-y_free
returns-then-x_free-y_free c =
    within_when c.args.x c.args.x_free c.args.y c.args.y_free _ _ c.if-x_free-y_free.true c.without_lowest.ensures c.without_lowest-then-x_free-y_free.ensures

pub returns-else-x_free-y_free : goal.returns-else-x_free-y_free
returns-else-x_free-y_free c = within_unless c.args.x c.args.x_free c.args.y c.args.y_free c.if-x_free-y_free.false
