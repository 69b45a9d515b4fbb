-- The bodies of terms, over the names of their parts. What a script has no word for (carries, rows of products, bits but the
-- first of an address, members that are picked) has no body.
use Rattle.std.specs.Prelude.{ℕ, List, []}
use Rattle.sc_sorts.specs.declared.sort.Sort.{Sort}
use Rattle.sc_sorts.specs.declared.sort.Sort.TheVariants as sort
use Rattle.sc_sorts.specs.declared.node.Leaf.{Leaf}
use Rattle.sc_sorts.specs.declared.node.Leaf.TheVariants as leafs
use Rattle.sc_sorts.specs.declared.node.UnaryOp.{UnaryOp}
use Rattle.sc_sorts.specs.declared.node.UnaryOp.TheVariants as unary
use Rattle.sc_sorts.specs.declared.node.BinaryOp.{BinaryOp}
use Rattle.sc_sorts.specs.declared.node.BinaryOp.TheVariants as binary
use Rattle.sc_smtlib_forms.specs.Forms.{plain, with_one, with_two}
use Rattle.sc_smtlib_forms.specs.declared.form.Form.TheVariants as form
use Rattle.sc_smtlib_terms.specs.Literals.{literal_body}
use Rattle.sc_smtlib_terms.specs.Defaults.{none_text}
use Rattle.sc_smtlib_terms.specs.Calls.{call, ancestors_call, tag_call, field_call, present_call, held_call, common_call, like_call}

unfoldable pub leaf_body : List Sort → Leaf → List ℕ
leaf_body ds (leafs.Literal l) = literal_body l
leaf_body ds (leafs.None held) = none_text ds (sort.Option held)
leaf_body ds (leafs.Principal k) = plain form.Principal
leaf_body ds (leafs.Resource k) = plain form.Resource
leaf_body ds (leafs.Context k) = plain form.Context

-- ---- operators, on the names of their parts. The sort is that of the first part.

unfoldable pub unary_body : List Sort → UnaryOp → Sort → List ℕ → List ℕ
unary_body ds unary.Not k a = with_one form.Not a
unary_body ds (unary.Bit i) k a = with_one form.IsVersion6 a
unary_body ds (unary.CarryIn i) k a = []
unary_body ds (unary.ProductRow i j) k a = []
unary_body ds (unary.ProductCarry i j) k a = []
unary_body ds (unary.Attributes own) k a = call ds form.AttributesName k a
unary_body ds (unary.Ancestors own) k a = ancestors_call ds k own a
unary_body ds unary.Keys k a = call ds form.KeysName k a
unary_body ds (unary.Field name) k a = field_call ds name k a
unary_body ds unary.Present k a = present_call ds k a
unary_body ds unary.Held k a = held_call ds k a
unary_body ds (unary.Like p) k a = like_call p a

unfoldable pub binary_body : List Sort → BinaryOp → Sort → List ℕ → List ℕ → List ℕ
binary_body ds binary.And k a b = with_two form.And a b
binary_body ds binary.Or k a b = with_two form.Or a b
binary_body ds binary.Equal k a b = with_two form.Equal a b
binary_body ds binary.Add k a b = with_two form.Add a b
binary_body ds binary.Subtract k a b = with_two form.Subtract a b
binary_body ds binary.Multiply k a b = with_two form.Multiply a b
binary_body ds binary.AddOverflows k a b = with_two form.AddOverflows a b
binary_body ds binary.SubtractOverflows k a b = with_two form.SubtractOverflows a b
binary_body ds binary.MultiplyOverflows k a b = with_two form.MultiplyOverflows a b
binary_body ds binary.Less k a b = with_two form.Less a b
binary_body ds binary.InRange k a b = with_two form.InRange a b
binary_body ds (binary.Low i) k a b = []
binary_body ds (binary.Tag own) k a b = tag_call ds k a b
binary_body ds binary.Member k a b = with_two form.Member a b
binary_body ds binary.Subset k a b = with_two form.Subset a b
binary_body ds binary.Common k a b = common_call ds k a b
binary_body ds binary.DifferencePick k a b = []
binary_body ds binary.CommonPick k a b = []
