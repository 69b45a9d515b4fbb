use Rattle.std.proofs.Common.{refl, ◌∙◌}
use Rattle.std.proofs.lemmas.Result.{on_ok_weaker}
use Rattle.sc_term_definitions.proofs.MakingLaws.{puts_nothing}
use Rattle.sc_closure_rules.proofs.InsideLaws.{fields_equated, held_equated, inclusions_equated, nothing_equated}
use Rattle.sc_closure_rules.proofs.equations.put_equations.Goals as goal

pub returns-in_ok-names-in-Fields-clause-ok : goal.returns-in_ok-names-in-Fields-clause-ok
returns-in_ok-names-in-Fields-clause-ok c =
    on_ok_weaker c.put_equal_fields.result (fields_equated _ _ _ _ _ _ _ _ _ c.equations_of.ensures c.sort.ensures c.in-Fields.is refl _ _ (c.as_slice.ensures ∙ c.in_ok-names-in-Fields.ensures) c.sort-in-Fields.ensures) c.put_equal_fields.ensures.ok

pub returns-in-Held-clause-ok : goal.returns-in-Held-clause-ok
returns-in-Held-clause-ok c = on_ok_weaker c.put_equal_held.result (held_equated _ _ _ _ _ _ _ _ _ c.equations_of.ensures c.sort.ensures c.in-Held.is refl) c.put_equal_held.ensures.ok

pub returns-in-Inclusions-clause-ok : goal.returns-in-Inclusions-clause-ok
returns-in-Inclusions-clause-ok c = on_ok_weaker c.put_inclusions.result (inclusions_equated _ _ _ _ _ _ _ _ _ c.equations_of.ensures c.sort.ensures c.in-Inclusions.is refl) c.put_inclusions.ensures.ok

pub returns-in-Nothing-clause-ok : goal.returns-in-Nothing-clause-ok
returns-in-Nothing-clause-ok c = nothing_equated _ _ _ _ _ _ _ _ _ c.equations_of.ensures c.sort.ensures c.in-Nothing.is refl (puts_nothing _ _)
