use Rattle.std.proofs.lemmas.Result.{on_ok_weaker}
use Rattle.std.proofs.Common.{◌∙◌, ap}
use Rattle.sc_closure_rules.specs.Beside.{choices_in}
use Rattle.sc_sorts.specs.declared.sort.Sort.{Sort, out-Sort}
use Rattle.sc_closure_rules.proofs.AncestorLaws.{no_choices, all_choices}
use Rattle.sc_closure_rules.proofs.ancestors.put_choices.Goals as goal

pub returns-then-is_literal-clause-ok : goal.returns-then-is_literal-clause-ok
returns-then-is_literal-clause-ok c = no_choices _ _ _ _ c.is_literal.ensures c.if-is_literal.true

pub returns-clause-ok : goal.returns-clause-ok
returns-clause-ok c = on_ok_weaker c.put_uids.result (all_choices _ _ _ _ _ _ _ c.is_literal.ensures c.if-is_literal.false (c.in_ok-choices.ensures ∙ ap (λ (k : Sort). choices_in (out-Sort k)) c.sort.ensures)) c.put_uids.ensures.ok
