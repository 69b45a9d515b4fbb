use Rattle.std.proofs.Common.{rules}
use Rattle.std.proofs.lemmas.Result.{IfOk-weaker}
use Rattle.th_strings_instances.proofs.PlentyLaws.{plenty_told}
use Rattle.th_strings_instances.proofs.plenty.are_plenty.Goals as goal

pub returns : goal.returns
returns c =
    IfOk-weaker c.has_other.result _ _
    (λ b h. plenty_told c.args.patterns.now c.args.signs.now _ c.args.count c.in_ok-letters.letters.items c.as_slice.result.now c.len.result c.are_enough.result c.is_among.result b c.in_ok-letters.ensures c.as_slice.ensures.value (search rules)
    c.are_enough.ensures c.if-not-are_enough.false c.is_among.ensures c.if-is_among.false h) c.has_other.ensures
