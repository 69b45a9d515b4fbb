use Rattle.std.proofs.Common.{◌∙◌, sym}
use Rattle.th_equal.proofs.NamedLaws.{named_next, other_next}
use Rattle.th_equal.proofs.named.put_if_named.Goals as goal

pub returns-then-is_sort_named : goal.returns-then-is_sort_named
returns-then-is_sort_named c =
    rw c.in_ok-push.ensures.items (named_next c.args.problem.now c.args.place c.closed_at.result _ c.requires.named c.closed_at.ensures.number (sym c.is_sort_named.ensures ∙ c.if-is_sort_named.true))

pub returns : goal.returns
returns c = other_next c.args.problem.now c.args.place c.closed_at.result _ c.requires.named c.closed_at.ensures.number (sym c.is_sort_named.ensures ∙ c.if-is_sort_named.false)
