use Rattle.sc_parser.specs.ReadsFiles.{principal_halts}
use Rattle.sc_parser.proofs.StopLaws.{handed_on}
use Rattle.sc_parser.proofs.scopes.principal.Goals as goal

pub returns-in_err-principal-clause-err : goal.returns-in_err-principal-clause-err
returns-in_err-principal-clause-err c = handed_on _ _ _ c.from_residual.ensures.1 (λ n. principal_halts (c.in_err-principal.ensures.err n))
