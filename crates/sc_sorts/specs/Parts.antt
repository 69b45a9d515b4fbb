-- Parts of a node.
use Rattle.std.specs.Prelude.{ℕ, List, []}

-- a set's parts have no labels
abbrev pub no_label : ℕ → List ℕ × ℕ
no_label n = ([], n)
