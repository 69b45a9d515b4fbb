use Rattle.std.proofs.Common.{sym}
use Rattle.sc_parser.specs.ReadsFiles.{scopes_action_halts, scopes_resource_halts}
use Rattle.sc_parser.proofs.StopLaws.{handed_on}
use Rattle.sc_parser.proofs.scopes.read_scopes.Goals as goal

pub returns-in_err-resource-clause-err : goal.returns-in_err-resource-clause-err
returns-in_err-resource-clause-err c = handed_on _ _ _ c.from_residual-in_err-resource.ensures.1 (λ n. scopes_resource_halts {s = c.args.cursor.now} {t = c.principal.new.cursor} {x = c.in_ok-principal.principal} c.in-Some.ensures.found (rw (sym c.next.ensures) c.in_ok-principal.ensures.ok) c.in_ok-action.ensures.ok (c.in_err-resource.ensures.err n))

pub returns-in_err-action-clause-err : goal.returns-in_err-action-clause-err
returns-in_err-action-clause-err c = handed_on _ _ _ c.from_residual-in_err-action.ensures.1 (λ n. scopes_action_halts {s = c.args.cursor.now} {t = c.principal.new.cursor} {x = c.in_ok-principal.principal} c.in-Some.ensures.found (rw (sym c.next.ensures) c.in_ok-principal.ensures.ok) (c.in_err-action.ensures.err n))
