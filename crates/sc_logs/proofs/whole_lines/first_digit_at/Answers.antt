use Rattle.std.proofs.Common.{arith}
use Rattle.sc_logs.proofs.PlaceLaws.{first_stands, first_next}
use Rattle.sc_logs.proofs.whole_lines.first_digit_at.Goals as goal

pub returns : goal.returns
returns c = (
  first_next c.args.bytes.now c.args.place c.requires.ended c.requires.within (omega arith),
  first_stands c.args.bytes.now c.args.place c.requires.within,
  omega arith,
  omega arith,
)
