use Rattle.std.proofs.Common.{◌∙◌, rules}
use Rattle.th_strings_instances.proofs.FewLaws.{few_told}
use Rattle.th_strings_instances.proofs.PlentyLaws.{many_not_few}
use Rattle.th_strings_instances.proofs.few.are_few_found.Goals as goal

pub returns-then-branch : goal.returns-then-branch
returns-then-branch c =
    many_not_few c.args.patterns.now c.args.signs.now c.args.count _ _ _ (c.as_slice.ensures.value ∙ c.in_ok-asked.ensures) (c.as_slice-2.ensures.value ∙ c.in_ok-wanted.ensures) c.in_ok-are_plenty.ensures c.if-branch.true

pub returns : goal.returns
returns c =
    few_told c.args.patterns.now c.args.signs.now c.args.count _ _ _ c.in_ok-texts.texts.items c.len.result (c.as_slice-3.ensures.value ∙ c.in_ok-asked.ensures) (c.as_slice-4.ensures.value ∙ c.in_ok-wanted.ensures)
    c.in_ok-texts.ensures (search rules)
