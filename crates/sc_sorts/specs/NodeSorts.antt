-- Sorts of terms, by those of their parts.
use Rattle.sc_sorts.specs.declared.sort.Sort.{Sort}
use Rattle.sc_sorts.specs.declared.sort.Sort.TheVariants as sort
use Rattle.sc_sorts.specs.Inside.{SortFields, field_sort, held_sort, member_sort}
use Rattle.sc_sorts.specs.declared.node.Literal.{Literal}
use Rattle.sc_sorts.specs.declared.node.Literal.TheVariants as literal
use Rattle.sc_sorts.specs.declared.node.Leaf.{Leaf}
use Rattle.sc_sorts.specs.declared.node.Leaf.TheVariants as leafs
use Rattle.sc_sorts.specs.declared.node.UnaryOp.{UnaryOp}
use Rattle.sc_sorts.specs.declared.node.UnaryOp.TheVariants as unary
use Rattle.sc_sorts.specs.declared.node.BinaryOp.{BinaryOp}
use Rattle.sc_sorts.specs.declared.node.BinaryOp.TheVariants as binary
use Rattle.sc_sorts.specs.declared.node.ManyOp.{ManyOp}
use Rattle.sc_sorts.specs.declared.node.ManyOp.TheVariants as manys

abbrev pub literal_sort : Literal → Sort
literal_sort (literal.Bool b) = sort.Bool
literal_sort (literal.Long n) = sort.Long
literal_sort (literal.String text) = sort.String
literal_sort (literal.Decimal d) = sort.Decimal
literal_sort (literal.Ip ip) = sort.Ip
literal_sort (literal.Entity u choices) = sort.Entity u.type_name choices

abbrev pub leaf_sort : Leaf → Sort
leaf_sort (leafs.Literal l) = literal_sort l
leaf_sort (leafs.None held) = sort.Option held
leaf_sort (leafs.Principal x) = x
leaf_sort (leafs.Resource x) = x
leaf_sort (leafs.Context x) = x

abbrev pub unary_sort : UnaryOp → Sort → Sort
unary_sort unary.Not x = sort.Bool
unary_sort (unary.Bit i) x = sort.Bool
unary_sort (unary.CarryIn i) x = sort.Bool
unary_sort (unary.ProductRow i j) x = sort.Bool
unary_sort (unary.ProductCarry i j) x = sort.Bool
unary_sort (unary.Attributes record_sort) x = record_sort
unary_sort (unary.Ancestors entity) x = sort.Set entity
unary_sort unary.Keys x = sort.Set sort.String
unary_sort (unary.Field name) x = field_sort name x
unary_sort unary.Present x = sort.Bool
unary_sort unary.Held x = held_sort x
unary_sort (unary.Like pattern) x = sort.Bool

-- of two terms the second's sort never matters
abbrev pub binary_sort : BinaryOp → Sort → Sort
binary_sort binary.And x = sort.Bool
binary_sort binary.Or x = sort.Bool
binary_sort binary.Equal x = sort.Bool
binary_sort binary.Add x = sort.Long
binary_sort binary.Subtract x = sort.Long
binary_sort binary.Multiply x = sort.Long
binary_sort binary.AddOverflows x = sort.Bool
binary_sort binary.SubtractOverflows x = sort.Bool
binary_sort binary.MultiplyOverflows x = sort.Bool
binary_sort binary.Less x = sort.Bool
binary_sort binary.InRange x = sort.Bool
binary_sort (binary.Low i) x = sort.Bool
binary_sort (binary.Tag value_sort) x = value_sort
binary_sort binary.Member x = sort.Bool
binary_sort binary.Subset x = sort.Bool
binary_sort binary.Common x = sort.Bool
binary_sort binary.DifferencePick x = member_sort x
binary_sort binary.CommonPick x = member_sort x

abbrev pub many_sort : ManyOp → SortFields → Sort
many_sort manys.Record fields = sort.Record fields
many_sort (manys.Set member) fields = sort.Set member
