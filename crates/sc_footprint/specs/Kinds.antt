-- Kinds of closed terms.
use Rattle.std.specs.Prelude.{◌==◌, ℕ, Bool}
use Rattle.sc_footprint.specs.declared.kind.Kind.{Kind}
use Rattle.sc_footprint.specs.declared.kind.Kind.TheVariants as kind

abbrev pub place : Kind → ℕ
place kind.Any = 0
place kind.Candidate = 1
place kind.Attributes = 2
place kind.Ancestors = 3
place kind.Keys = 4
place kind.Tag = 5

abbrev pub same_kind : Kind → Kind → Bool
same_kind k l = place k == place l
