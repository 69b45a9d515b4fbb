use Rattle.std.proofs.Common.{IfOk, subst}
use Rattle.sc_smtlib_lines.specs.Scripts.{IsScript}
use Rattle.sc_smtlib.proofs.KeptLaws.{numbers_kept, same_goal, subterms_kept}
use Rattle.sc_smtlib.proofs.writing.script.Goals as goal

pub script_text-requires-clause-within : goal.script_text-requires-clause-within
script_text-requires-clause-within c = numbers_kept c.args.problem.now _ _ _ c.terms-terms.ensures c.laws.ensures c.in_ok-numbers.ensures

pub script_text-requires-clause-subterms : goal.script_text-requires-clause-subterms
script_text-requires-clause-subterms c =
    subterms_kept c.args.problem.now _ _ _ _ _ c.terms-terms.ensures c.goal_term-goal.ensures c.laws-2.ensures c.laws.ensures c.in_ok-marks.ensures c.as_slice.ensures.value c.in_ok-numbers.ensures

pub returns : goal.returns
returns c =
    subst (λ z. IfOk c.script_text.result (λ v. IsScript z v.items)) (same_goal c.args.problem.now _ _ c.terms-terms.ensures c.goal_term-goal.ensures) c.script_text.ensures
