use Rattle.sc_parser.specs.ReadsFiles.{resource_halts}
use Rattle.sc_parser.proofs.StopLaws.{handed_on}
use Rattle.sc_parser.proofs.scopes.resource.Goals as goal

pub returns-in_err-resource-clause-err : goal.returns-in_err-resource-clause-err
returns-in_err-resource-clause-err c = handed_on _ _ _ c.from_residual.ensures.1 (λ n. resource_halts (c.in_err-resource.ensures.err n))
