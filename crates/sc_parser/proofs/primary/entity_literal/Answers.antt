use Rattle.std.proofs.Common.{sym}
use Rattle.sc_parser.specs.Reads.{entity_primary_halts}
use Rattle.sc_parser.proofs.StopLaws.{handed_on}
use Rattle.sc_parser.proofs.primary.entity_literal.Goals as goal

pub returns-in_err-entity-clause-err : goal.returns-in_err-entity-clause-err
returns-in_err-entity-clause-err c = handed_on _ _ _ c.from_residual-in_err-entity.ensures.1 (λ n. entity_primary_halts {s = c.args.cursor.now} c.requires.here c.requires.fits c.requires.colons.1 (rw (sym c.next.ensures, sym c.in_ok-first.ensures.ok) (c.in_err-entity.ensures.err n)))
