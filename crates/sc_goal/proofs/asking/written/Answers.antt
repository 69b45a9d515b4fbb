use Rattle.std.proofs.Common.{[], unwrap_or, sym, ap, ◌∙◌}
use Rattle.std.specs.Option.{option_copied}
use Rattle.std.proofs.lemmas.Result.{IfOk-weaker}
use Rattle.sc_goal.proofs.QueriesLaws.{one_set, two_sets}
use Rattle.sc_goal.proofs.asking.written.Goals as goal

pub returns-in_ok-of_second-in-Some : goal.returns-in_ok-of_second-in-Some
returns-in_ok-of_second-in-Some c =
    IfOk-weaker c.lits_union.result _ _
    (λ lits h. two_sets lits _ _ _ c.args.first.now _ _ c.as_slice.ensures (c.as_slice-in-Some.ensures ∙ sym (ap (λ o. unwrap_or (option_copied o) []) c.in-Some.is)) c.in_ok-of_first.ensures c.in_ok-of_second-in-Some.ensures h)
    c.lits_union.ensures

pub returns-in-None : goal.returns-in-None
returns-in-None c = one_set c.in_ok-of_first.of_first _ c.args.first.now _ c.as_slice.ensures (ap (λ o. unwrap_or (option_copied o) []) c.in-None.is) c.in_ok-of_first.ensures
