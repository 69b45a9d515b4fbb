use Rattle.sc_schema_json.proofs.SortingLaws.{names_once}
use Rattle.sc_schema_json.proofs.sorting.names_in_order.Goals as goal

pub returns : goal.returns
returns c = rw (← c.into_vec-names.ensures, c.from_vec.ensures) (names_once _ _ _ c.sort_unstable.ensures.permutation c.sort_unstable.ensures.sorted c.dedup.ensures.filtered)
