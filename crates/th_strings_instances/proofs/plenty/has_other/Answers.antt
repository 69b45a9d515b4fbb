use Rattle.std.proofs.Common.{rules, ◌∙◌}
use Rattle.th_strings_instances.proofs.PlentyLaws.{other_found}
use Rattle.th_strings_instances.proofs.plenty.has_other.Goals as goal

pub returns : goal.returns
returns c =
    other_found c.args.patterns.now c.as_slice.result.now c.args.signs.now c.as_slice-2.result.now c.args.c c.in_ok-having.having _ c.in_ok-texts.texts.items _ (c.as_slice.ensures.value ∙ c.in_ok-all.ensures) c.in_ok-having.ensures
    (c.as_slice-2.ensures.value ∙ c.in_ok-wanted.ensures) c.in_ok-texts.ensures (search rules)
