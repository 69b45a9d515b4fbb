use Rattle.std.proofs.Common.{rules}
use Rattle.std.specs.Ordering.{is_lt}
use Rattle.std.proofs.lemmas.List.Sorted.{answers_always}
use Rattle.sc_lists.proofs.OrderedLaws.{members_decide}
use Rattle.sc_lists.proofs.members.ascending.Goals as goal

-- the closure asks whether one member is below the next
pub returns : goal.returns
returns g c = members_decide g.met.K.Ord.total c.args.members.now _ (c.is_sorted_by.ensures.cases (λ x y. is_lt (g.K.Ord.cmp x y)) (answers_always _ _ _ (λ f a r f' called. search rules)))
