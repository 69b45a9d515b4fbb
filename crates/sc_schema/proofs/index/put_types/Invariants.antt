use Rattle.std.proofs.Common.{◌≡◌, length, map}
use Rattle.std.specs.List.{fold}
use Rattle.std.specs.List.Sorted.{IsStrictlySortedBy}
use Rattle.sc_names.specs.Uids.{uid_cmp}
use Rattle.sc_names.specs.declared.uid.Uid.{Uid}
use Rattle.sc_schema.specs.Declarations.{with_name}
use Rattle.sc_schema.specs.Lawful.{AreAscending}
use Rattle.sc_schema.proofs.index.put_types.Given as goal

abbrev pub invariant-loop-uid : goal.invariant-loop-uid
invariant-loop-uid l = record {
  put : fold with_name l.names (map (λ (u : Uid). u.type_name) l.rest) ≡ fold with_name l.initial.names (map (λ (u : Uid). u.type_name) l.uids);
  ascending : AreAscending l.names;
  ordered : IsStrictlySortedBy uid_cmp l.rest;
}

abbrev pub decreases-loop-uid : goal.decreases-loop-uid
decreases-loop-uid l = length l.rest
