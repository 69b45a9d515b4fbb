-- Graphs whose nodes are numbers. A graph is a list: at place n it has the nodes that follow node n.
use Rattle.std.specs.Prelude.{ℕ, List, [], Bool, IsTrue, get_or}
use Rattle.std.specs.BTreeMap.{is_at}
use Rattle.std.specs.List.{list_any}
use Rattle.std.specs.Ordering.{nat_cmp}

-- whether a number is on a list
abbrev pub has : List ℕ → ℕ → Bool
has ns n = list_any (is_at (nat_cmp n)) ns

-- the nodes that follow a node; none where the graph doesn't list the node
abbrev pub successors : List (List ℕ) → ℕ → List ℕ
successors graph n = get_or graph n []

-- node b follows node a
abbrev pub Follows : List (List ℕ) → ℕ → ℕ → Type 0
Follows graph a b = IsTrue (has (successors graph a) b)
