use Rattle.std.proofs.Common.{rules}
use Rattle.std.proofs.lemmas.List.Sorted.{answers_always, ranks_by}
use Rattle.std.specs.Ordering.{is_lt}
use Rattle.std.proofs.lemmas.Cmp.{nat_list_cmp_total}
use Rattle.sc_names.specs.Uids.{text_cmp}
use Rattle.sc_schema.specs.declared.expanded.ExpandedEntityType.{ExpandedEntityType}
use Rattle.sc_schema_json.proofs.SortingLaws.{by_name}
use Rattle.sc_schema_json.proofs.sorting.types_in_order.Goals as goal

pub returns-clause-ascending : goal.returns-clause-ascending
returns-clause-ascending c =
    let sorted = c.sort_unstable_by.ensures.sorted (λ a b. is_lt (text_cmp ((λ (d : ExpandedEntityType). d.name) a) ((λ (d : ExpandedEntityType). d.name) b))) (ranks_by nat_list_cmp_total (λ (d : ExpandedEntityType). d.name)) (answers_always _ _ _ (λ f a r g h. search rules)) in
    rw c.from_vec.ensures (by_name (λ (d : ExpandedEntityType). d.name) c.into_vec-types.result.items c.sort_unstable_by.new.self.items c.sort_unstable_by.ensures.permutation (rw c.into_vec-types.ensures c.requires) sorted)
