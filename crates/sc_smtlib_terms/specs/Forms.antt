-- Which terms have a body in a script, and of which goals each subterm has one.
use Rattle.std.specs.Prelude.{◌≡◌, ◌&&◌, ◌==◌, ℕ, Bool, true, false}
use Rattle.sc_lists.specs.Members.{Has}
use Rattle.sc_sorts.specs.declared.sort.Sort.{Sort, Sort-F, out-Sort}
use Rattle.sc_sorts.specs.declared.sort.Sort.TheOpen as s
use Rattle.sc_sorts.specs.declared.node.UnaryOp.{UnaryOp}
use Rattle.sc_sorts.specs.declared.node.UnaryOp.TheVariants as unary
use Rattle.sc_sorts.specs.declared.node.BinaryOp.{BinaryOp}
use Rattle.sc_sorts.specs.declared.node.BinaryOp.TheVariants as binary
use Rattle.sc_terms.specs.Trees.{Tree, leaf, one, two, choice, many}
use Rattle.sc_terms.specs.TreeSorts.{tree_sort}
use Rattle.sc_closure_rules.specs.Closure.{parts}

-- a goal and what it is made of
pub data IsSubterm (goal : Tree) : Tree → Type 0 where
  whole : IsSubterm goal goal
  part_of : (t p : Tree) → IsSubterm goal t → Has (parts t) p → IsSubterm goal p

abbrev pub is_ip_level : Sort-F Sort → Bool
is_ip_level s.Ip = true
is_ip_level _ = false

abbrev pub is_ip : Sort → Bool
is_ip k = is_ip_level (out-Sort k)

-- the bit that tells an address's version
abbrev pub is_version : ℕ → Sort → Bool
is_version i k = (i == 0) && is_ip k

-- no carry and no row of a product; of bits the one that tells an address's version
abbrev pub has_unary_form : UnaryOp → Sort → Bool
has_unary_form (unary.Bit i) k = is_version i k
has_unary_form (unary.CarryIn i) k = false
has_unary_form (unary.ProductRow i j) k = false
has_unary_form (unary.ProductCarry i j) k = false
has_unary_form _ k = true

-- no comparison of low bits, and no member that is picked
abbrev pub has_binary_form : BinaryOp → Bool
has_binary_form (binary.Low i) = false
has_binary_form binary.DifferencePick = false
has_binary_form binary.CommonPick = false
has_binary_form _ = true

-- whether a term has a body in a script
abbrev pub has_form : Tree → Bool
has_form (leaf l) = true
has_form (one o a) = has_unary_form o (tree_sort a)
has_form (two o a b) = has_binary_form o
has_form (choice c a b) = true
has_form (many o ts) = true

-- each subterm of a goal has one
pub record IsInScript (goal : Tree) : Type 0 where
  pub each : (t : Tree) → IsSubterm goal t → has_form t ≡ true
