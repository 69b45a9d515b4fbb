use Rattle.std.proofs.Common.{sym, subst}
use Rattle.std.specs.List.Sorted.{IsStrictlySortedBy}
use Rattle.sc_names.specs.Uids.{uid_cmp}
use Rattle.sc_schema.proofs.schema.action_ancestors.Goals as goal

pub returns-in-Some-clause-ascending : goal.returns-in-Some-clause-ascending
returns-in-Some-clause-ascending c = subst (IsStrictlySortedBy uid_cmp) (sym c.as_slice.ensures) c.in-Some.ensures.lawful.ascending
