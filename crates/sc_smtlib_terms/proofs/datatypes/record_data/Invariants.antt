use Rattle.std.proofs.Common.{◌≡◌, ◌++◌, drop}
use Rattle.std.specs.List.{flat_map}
use Rattle.sc_smtlib_terms.specs.Sorts.{field_data}
use Rattle.sc_smtlib_terms.proofs.datatypes.record_data.Given as goal

abbrev pub invariant-loop-field : goal.invariant-loop-field
invariant-loop-field l = l.out.items ++ flat_map (field_data l.datatypes l.sort) (drop l.field-index l.fields) ≡ flat_map (field_data l.datatypes l.sort) l.fields
