use Rattle.std.proofs.Common.{rules}
use Rattle.std.specs.Ordering.{is_lt}
use Rattle.std.proofs.lemmas.Cmp.{nat_list_cmp_total}
use Rattle.std.proofs.lemmas.List.Sorted.{answers_always}
use Rattle.sc_lists.proofs.OrderedLaws.{decides_ascending}
use Rattle.sc_names.specs.Uids.{text_cmp}
use Rattle.sc_schema.proofs.fields.are_ascending.Goals as goal

-- the closure asks whether one name is below the next
pub returns : goal.returns
returns g c = decides_ascending nat_list_cmp_total (λ f. f.0) c.args.fields.now _ (c.is_sorted_by.ensures.cases (λ x y. is_lt (text_cmp x.0 y.0)) (answers_always _ _ _ (λ f a r f' called. search rules)))
