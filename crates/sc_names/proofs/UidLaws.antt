-- The order of uids is total, and only equal uids are level in it.
use Rattle.std.proofs.Common.{◌≡◌}
use Rattle.std.specs.Cmp.{IsTotalOrder}
use Rattle.std.proofs.lemmas.Map.Lookups.{CmpEqualImpliesEq, exact_bytes}
use Rattle.std.proofs.lemmas.Cmp.{nat_list_cmp_total}
use Rattle.sc_lists.proofs.OrderingLaws.{ordering_then_equal}
use Rattle.sc_names.specs.contracts.uid.UidOrd.TheImpl.Laws.{total-law}
use Rattle.sc_names.specs.Uids.{uid_cmp, text_cmp}

pub uid_cmp_total : IsTotalOrder uid_cmp
uid_cmp_total = total-law

pub uid_cmp_level : CmpEqualImpliesEq uid_cmp
uid_cmp_level a b h =
    let level = ordering_then_equal _ _ h in
    let one_type : a.type_name ≡ b.type_name = exact_bytes _ _ level.0 in
    let one_id : a.id ≡ b.id = exact_bytes _ _ level.1 in
    λ i. record { type_name = one_type i; id = one_id i }

pub text_total : IsTotalOrder text_cmp
text_total = nat_list_cmp_total
