use Rattle.std.proofs.Common.{◌-◌}
use Rattle.sc_ip.proofs.groups.+read_after.Given as goal

abbrev pub decreases-read_after : goal.decreases-read_after
decreases-read_after l = 8 - l.before.count
