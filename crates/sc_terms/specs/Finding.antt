-- The number of a term in a table.
use Rattle.std.specs.Prelude.{◌≡◌, ◌≢◌, ◌<◌, ℕ, List, Option, Some, None, false, length, ⊤}
use Rattle.std.specs.List.{list_any}
use Rattle.sc_sorts.specs.contracts.node.NodePartialEq.TheImpl.{ghosts as node_eq}
use Rattle.sc_sorts.specs.declared.node.Node.{Node}
use Rattle.sc_terms.specs.Trees.{Tree}
use Rattle.sc_terms.specs.Tables.{tree, StandsFor}

-- it stands for the term; or, where there is none, no number of the table does
abbrev pub IsFound : List Node → Tree → Option ℕ → Type 0
IsFound xs t (Some n) = StandsFor xs n t
IsFound xs t None = (n : ℕ) → n < length xs → tree xs n ≢ t

-- where no number is found the node isn't in the list
abbrev pub IsAbsent : List Node → Node → Option ℕ → Type 0
IsAbsent xs x (Some n) = ⊤
IsAbsent xs x None = list_any (node_eq.eq x) xs ≡ false
