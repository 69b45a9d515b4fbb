use Rattle.sc_parser.specs.Reads.{falsehood}
use Rattle.sc_parser.proofs.StartLaws.{is_false}
use Rattle.sc_parser.proofs.primary.truth.Goals as goal

pub returns-clause-ok : goal.returns-clause-ok
returns-clause-ok c = rw (c.next-2.ensures, c.in_ok-new-2.ensures) (falsehood {s = c.args.cursor.now} (is_false c.args.ts.now c.args.cursor.now.at c.args.place c.args.word.now c.requires.here c.requires.starts c.requires.reserved c.in_default.ensures.lacks) c.requires.fits)
