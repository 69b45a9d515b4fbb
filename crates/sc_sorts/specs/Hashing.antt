-- What nodes feed a hasher: what they hold beside their sorts, and their parts.
use Rattle.std.specs.Prelude.{◌≡◌, ℕ, true, List, [], ◌++◌}
use Rattle.std.specs.List.{flat_map}
use Rattle.std.specs.Hash.{HashWrites, str, u8, u32, u64, u128, i64}
use mathlib.Core.Path.{ap}
use Rattle.sc_ip.specs.declared.ip.Ip.{Ip}
use Rattle.sc_ip.specs.declared.ip.Ip.TheVariants.{V4, V6}
use Rattle.sc_pattern.specs.declared.part.Part.{Part}
use Rattle.sc_pattern.specs.declared.part.Part.TheVariants.{Star, Char}
use Rattle.sc_sorts.specs.declared.node.Literal.{Literal}
use Rattle.sc_sorts.specs.declared.node.Literal.TheVariants as literal
use Rattle.sc_sorts.specs.declared.node.Leaf.{Leaf}
use Rattle.sc_sorts.specs.declared.node.Leaf.TheVariants as leafs
use Rattle.sc_sorts.specs.declared.node.UnaryOp.{UnaryOp}
use Rattle.sc_sorts.specs.declared.node.UnaryOp.TheVariants as unary
use Rattle.sc_sorts.specs.declared.node.BinaryOp.{BinaryOp}
use Rattle.sc_sorts.specs.declared.node.BinaryOp.TheVariants as binary
use Rattle.sc_sorts.specs.declared.node.Node.{Node}
use Rattle.sc_sorts.specs.declared.node.Node.TheVariants as node
use Rattle.sc_sorts.specs.contracts.node.LiteralPartialEq.TheImpl.{ghosts as literal_eq}
use Rattle.sc_sorts.specs.contracts.node.LeafPartialEq.TheImpl.{ghosts as leaf_eq}
use Rattle.sc_sorts.specs.contracts.node.UnaryOpPartialEq.TheImpl.{ghosts as unary_eq}
use Rattle.sc_sorts.specs.contracts.node.BinaryOpPartialEq.TheImpl.{ghosts as binary_eq}
use Rattle.sc_sorts.specs.contracts.node.NodePartialEq.TheImpl.{ghosts as node_eq}
use Rattle.sc_sorts.specs.Same.{same_literal, same_leaf, same_unary, same_binary, same_node}

abbrev pub ip_input : Ip → HashWrites
ip_input (V4 address prefix) = u32 address ++ u8 prefix
ip_input (V6 address prefix) = u128 address ++ u8 prefix

abbrev pub literal_input : Literal → HashWrites
literal_input (literal.Bool b) = []
literal_input (literal.Long n) = i64 n
literal_input (literal.String text) = str text
literal_input (literal.Decimal n) = i64 n
literal_input (literal.Ip ip) = ip_input ip
literal_input (literal.Entity u us) = str u.type_name ++ str u.id

abbrev pub leaf_input : Leaf → HashWrites
leaf_input (leafs.Literal l) = literal_input l
leaf_input _ = []

-- a piece of a pattern as a number
abbrev pub piece_code : Part → ℕ
piece_code Star = 0
piece_code (Char c) = c

abbrev pub piece_input : Part → HashWrites
piece_input p = u32 (piece_code p)

-- a part by its number
abbrev pub place_input : List ℕ × ℕ → HashWrites
place_input p = u64 p.1

abbrev pub unary_input : UnaryOp → HashWrites
unary_input (unary.Bit i) = u64 i
unary_input (unary.CarryIn i) = u64 i
unary_input (unary.ProductRow i j) = u64 i ++ u64 j
unary_input (unary.ProductCarry i j) = u64 i ++ u64 j
unary_input (unary.Field name) = str name
unary_input (unary.Like pattern) = flat_map piece_input pattern
unary_input _ = []

abbrev pub binary_input : BinaryOp → HashWrites
binary_input (binary.Low i) = u64 i
binary_input _ = []

abbrev pub node_input : Node → HashWrites
node_input (node.Leaf l) = leaf_input l
node_input (node.One o a) = unary_input o ++ u64 a
node_input (node.Two o a b) = binary_input o ++ (u64 a ++ u64 b)
node_input (node.Choice c a b) = u64 c ++ (u64 a ++ u64 b)
node_input (node.Many o ps) = flat_map place_input ps

-- equal ones feed the same
pub literal_respects : (a b : Literal) → literal_eq.eq a b ≡ true → literal_input a ≡ literal_input b
literal_respects a b same = ap literal_input (same_literal a b same)

pub leaf_respects : (a b : Leaf) → leaf_eq.eq a b ≡ true → leaf_input a ≡ leaf_input b
leaf_respects a b same = ap leaf_input (same_leaf a b same)

pub unary_respects : (a b : UnaryOp) → unary_eq.eq a b ≡ true → unary_input a ≡ unary_input b
unary_respects a b same = ap unary_input (same_unary a b same)

pub binary_respects : (a b : BinaryOp) → binary_eq.eq a b ≡ true → binary_input a ≡ binary_input b
binary_respects a b same = ap binary_input (same_binary a b same)

pub node_respects : (a b : Node) → node_eq.eq a b ≡ true → node_input a ≡ node_input b
node_respects a b same = ap node_input (same_node a b same)
