use Rattle.std.proofs.Common.{rules}
use Rattle.std.proofs.lemmas.List.Sorted.{answers_always, ranks_by}
use Rattle.std.specs.Ordering.{is_lt}
use Rattle.std.proofs.Common.{List}
use Rattle.sc_names.specs.declared.uid.Uid.{Uid}
use Rattle.sc_names.specs.Uids.{uid_cmp}
use Rattle.sc_names.proofs.UidLaws.{uid_cmp_total}
use Rattle.sc_schema_json.proofs.SortingLaws.{by_uid}
use Rattle.sc_schema_json.proofs.sorting.links_in_order.Goals as goal

pub returns-clause-ascending : goal.returns-clause-ascending
returns-clause-ascending c =
    let sorted = c.sort_unstable_by.ensures.sorted (λ a b. is_lt (uid_cmp ((λ (l : Uid × List Uid). l.0) a) ((λ (l : Uid × List Uid). l.0) b))) (ranks_by uid_cmp_total (λ (l : Uid × List Uid). l.0)) (answers_always _ _ _ (λ f a r g h. search rules)) in
    rw c.from_vec.ensures (by_uid (λ (l : Uid × List Uid). l.0) c.into_vec-links.result.items c.sort_unstable_by.new.self.items c.sort_unstable_by.ensures.permutation (rw c.into_vec-links.ensures c.requires) sorted)
