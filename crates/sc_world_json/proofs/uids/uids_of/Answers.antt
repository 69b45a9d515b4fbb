use Rattle.std.proofs.Common.{sym, subst}
use Rattle.std.specs.List.{AllByRecursion}
use Rattle.std.specs.List.Sorted.{IsStrictlySortedBy}
use Rattle.sc_names.specs.Uids.{uid_cmp}
use Rattle.sc_names.proofs.UidLaws.{uid_cmp_total, uid_cmp_level}
use Rattle.sc_values.specs.Proper.{IsUidText}
use Rattle.sc_world_json.proofs.InOrderLaws.{ascending-in_order, all-in_order}
use Rattle.sc_world_json.proofs.uids.uids_of.Goals as goal

pub returns-clause-ascending : goal.returns-clause-ascending
returns-clause-ascending c =
    subst (IsStrictlySortedBy uid_cmp) (sym c.in_ok-set.ensures) (ascending-in_order uid_cmp_total uid_cmp_level c.in_ok-uids.uids.items)

pub returns-clause-texts : goal.returns-clause-texts
returns-clause-texts c =
    subst (AllByRecursion IsUidText) (sym c.in_ok-set.ensures) (all-in_order uid_cmp IsUidText c.in_ok-uids.uids.items c.in_ok-uids.ensures.texts)
