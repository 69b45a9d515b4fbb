use Rattle.std.proofs.Common.{rules}
use Rattle.std.specs.Ordering.{is_lt}
use Rattle.std.proofs.lemmas.List.Sorted.{answers_always}
use Rattle.sc_lists.proofs.OrderedLaws.{decides_ascending}
use Rattle.sc_lists.proofs.pairs.ascending.Goals as goal

-- the closure asks whether one key is below the next
pub returns : goal.returns
returns g c = decides_ascending g.met.K.Ord.total (λ p. p.0) c.args.pairs.now _ (c.is_sorted_by.ensures.cases (λ x y. is_lt (g.K.Ord.cmp x.0 y.0)) (answers_always _ _ _ (λ f a r f' called. search rules)))
