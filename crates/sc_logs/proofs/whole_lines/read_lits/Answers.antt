use Rattle.std.proofs.Common.{map, drop}
use Rattle.sc_refutations.specs.Arenas.{lit_of}
use Rattle.sc_logs.specs.Texts.{lit_text, spaced}
use Rattle.sc_logs.proofs.WholeLineLaws.{ended_text}
use Rattle.sc_logs.proofs.whole_lines.read_lits.Goals as goal

pub returns-in-Some-after_byte : goal.returns-in-Some-after_byte
returns-in-Some-after_byte c = (
  c.in-Some-after_byte.ensures.0,
  c.loop-word.invariant.fit,
  ended_text (spaced (map lit_text (map lit_of c.loop-word.codes.items))) (drop c.args.from c.args.bytes.now) (drop c.loop-word.place c.args.bytes.now)
      (drop c.in-Some.word c.args.bytes.now) (drop c.in-Some-after_byte.later c.args.bytes.now) c.loop-word.invariant.text c.in-Some.ensures.1
      c.in-Some-after_byte.ensures.1,
)
