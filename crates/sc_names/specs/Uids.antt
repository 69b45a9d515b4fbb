-- The order of uids.
use Rattle.std.specs.Prelude.{ℕ, List}
use Rattle.std.specs.Ordering.{nat_cmp, ordering_then}
use Rattle.std.specs.declared.cmp.Ordering.{Ordering}
use Rattle.std.specs.Cmp.Lexicographic.{slice_cmp}
use Rattle.sc_names.specs.declared.uid.Uid.{Uid}

-- texts by bytes
abbrev pub text_cmp : List ℕ → List ℕ → Ordering
text_cmp = slice_cmp nat_cmp

-- by the type's name, then the id, both by bytes
abbrev pub uid_cmp : Uid → Uid → Ordering
uid_cmp a b = ordering_then (text_cmp a.type_name b.type_name) (text_cmp a.id b.id)
