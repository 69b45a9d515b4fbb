-- What is found of a problem's closed terms.
use Rattle.std.specs.Prelude.{◌≡◌, ◌≢◌, ◌&&◌, ⊤, ℕ, Bool, false, List, Option, Some, None, length, Contains}
use Rattle.sc_sorts.specs.declared.sort.Sort.{Sort}
use Rattle.sc_sorts.specs.contracts.sort.SortPartialEq.TheImpl.{ghosts as sorts}
use Rattle.sc_sorts.specs.declared.node.ManyOp.TheVariants.{Set}
use Rattle.sc_sorts.specs.declared.node.Node.{Node}
use Rattle.sc_sorts.specs.declared.node.UnaryOp.TheVariants.{Ancestors}
use Rattle.sc_terms.specs.Order.{tree_eq}
use Rattle.sc_terms.specs.Trees.{Tree, one, many, Trees}
use Rattle.sc_terms.specs.Tables.{Places, node_parts, AreBelow, StandsFor}
use Rattle.sc_footprint.specs.Problems.{Posed, closed_terms}

-- the number stands for the term; or, where there is none, the term isn't closed
abbrev pub IsClosedFound : Posed → Tree → Option ℕ → Type 0
IsClosedFound p t (Some n) = StandsFor p.nodes n t
IsClosedFound p t None = ¬ (Contains (closed_terms p) t)

-- a number of a table stands for what a search among terms finds
abbrev pub IsNumberAmong : List Node → Option Tree → Option ℕ → Type 0
IsNumberAmong xs None None = ⊤
IsNumberAmong xs (Some t) (Some n) = StandsFor xs n t
IsNumberAmong xs _ _ = ⊥

-- the same among the closed terms
abbrev pub IsFoundAmong : Posed → Option Tree → Option ℕ → Type 0
IsFoundAmong p found result = IsNumberAmong p.nodes found result

-- the term is an entity's ancestors of a sort
abbrev pub is_above : Sort → Tree → Tree → Bool
is_above k e (one (Ancestors l) f) = sorts.eq k l && tree_eq e f
is_above k e _ = false

-- parts by their numbers are those of a set term
abbrev pub IsMembers : List Node → Tree → Option Places → Type 0
IsMembers xs t (Some ps) = (k : Sort) × (t ≡ many (Set k) (node_parts xs ps)) × AreBelow (length xs) ps
IsMembers xs t None = (k : Sort) (ts : Trees) → t ≢ many (Set k) ts
