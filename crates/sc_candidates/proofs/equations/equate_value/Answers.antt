use Rattle.sc_candidates.proofs.EquationLaws.{others_later, value_equates}
use Rattle.sc_candidates.proofs.equations.equate_value.Goals as goal

pub put_equations-requires-clause-members_in : goal.put_equations-requires-clause-members_in
put_equations-requires-clause-members_in c = others_later c.args.terms.now _ c.args.members.now c.args.others.now c.in_ok-put_own.ensures.kept c.requires.divided c.requires.members_in

pub returns-clause-ok : goal.returns-clause-ok
returns-clause-ok c =
    value_equates c.args.terms.now _ _ _ _ _ c.args.members.now c.args.others.now c.args.term c.requires.members_in c.requires.divided c.requires.term_in c.requires.value
    c.in_ok-put_own.ensures.ok c.in_ok-put_equations.ensures.ok
