use Rattle.std.proofs.Common.{◌≡◌, map, take}
use Rattle.sc_schema_names.specs.Tables.{known}
use Rattle.sc_schema_names.proofs.translating.each.Given as goal

abbrev pub invariant-loop-one : goal.invariant-loop-one
invariant-loop-one g l = l.all ≡ map (g.T.FromWritten.said (known l.declared) l.namespace) (take l.one-index l.written)
