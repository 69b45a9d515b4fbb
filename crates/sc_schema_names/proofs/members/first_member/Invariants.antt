use Rattle.std.proofs.Common.{◌≡◌, drop}
use Rattle.sc_schema_names.specs.Tables.{known}
use Rattle.sc_schema_names.specs.Unknown.{first_member}
use Rattle.sc_schema_names.proofs.members.first_member.Given as goal

abbrev pub invariant-loop-member : goal.invariant-loop-member
invariant-loop-member g l =
    first_member g.T.Declaration.key_of (g.T.Declaration.fault_of (known l.declared) l.namespace) (drop l.member-index l.members)
    ≡ first_member g.T.Declaration.key_of (g.T.Declaration.fault_of (known l.declared) l.namespace) l.members
