use Rattle.std.proofs.Common.{◌∙◌}
use Rattle.std.proofs.lemmas.Result.{IfOk-weaker}
use Rattle.sc_symauth.specs.Numbers.{has_effect}
use Rattle.sc_symauth.proofs.NumbersLaws.{any_satisfied_is, codes_are_codes}
use Rattle.sc_symauth.proofs.joining.any_satisfied_term.Goals as goal

pub satisfied_terms-requires : goal.satisfied_terms-requires
satisfied_terms-requires c = codes_are_codes (has_effect c.args.permitting) c.args.terms.now c.args.policies.now _ (c.as_slice.ensures ∙ c.in_ok-codes.ensures) c.requires

pub returns-clause-ok : goal.returns-clause-ok
returns-clause-ok c =
    IfOk-weaker c.any_of.result _ _
    (λ n h. any_satisfied_is (has_effect c.args.permitting) _ _ _ c.args.policies.now _ _ _ n (c.as_slice.ensures ∙ c.in_ok-codes.ensures) c.in_ok-numbers.ensures.ok c.as_slice-2.ensures h)
    c.any_of.ensures.ok
