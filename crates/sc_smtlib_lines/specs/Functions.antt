-- The functions of entities that a goal uses.
use Rattle.std.specs.Prelude.{ℕ, List, [], ◌∷◌}
use Rattle.std.specs.declared.cmp.Ordering.{Ordering}
use Rattle.sc_sorts.specs.declared.sort.Sort.{Sort}
use Rattle.sc_sorts.specs.declared.sort.Sort.TheVariants as sort
use Rattle.sc_sorts.specs.declared.node.UnaryOp.TheVariants as unary
use Rattle.sc_sorts.specs.declared.node.BinaryOp.TheVariants as binary
use Rattle.sc_terms.specs.Trees.{Tree, one, two}
use Rattle.sc_terms.specs.TreeSorts.{tree_sort}
use Rattle.sc_smtlib_forms.specs.declared.form.Form.{Form}
use Rattle.sc_smtlib_forms.specs.Forms.{with_three}
use Rattle.sc_smtlib_forms.specs.declared.form.Form.TheVariants as form
use Rattle.sc_smtlib_terms.specs.Sorts.{number_among, sort_text}
use Rattle.sc_smtlib_terms.specs.Calls.{function_name, ancestors_name}
use Rattle.sc_smtlib_lines.specs.declared.functions.Function.{Function}
use Rattle.sc_smtlib_lines.specs.contracts.functions.FunctionOrd.TheImpl.{ghosts as function_ord}

-- by kind, then the numbers of the sorts, then the line
abbrev pub function_cmp : Function → Function → Ordering
function_cmp = function_ord.cmp

-- the line of a function: its name, from which sort and to which
abbrev pub declared : List Sort → Form → List ℕ → Sort → List ℕ → List ℕ
declared ds f name e to = with_three f name (sort_text ds e) to

abbrev pub attributes_function : List Sort → Sort → Sort → Function
attributes_function ds e own = record {
  kind = 0;
  owner = number_among e ds;
  other = 0;
  line = declared ds form.Function (function_name ds form.AttributesName e) e (sort_text ds own);
}

abbrev pub ancestors_function : List Sort → Sort → Sort → Function
ancestors_function ds e u = record {
  kind = 1;
  owner = number_among e ds;
  other = number_among u ds;
  line = declared ds form.Function (ancestors_name ds e u) e (sort_text ds (sort.Set u));
}

abbrev pub keys_function : List Sort → Sort → Function
keys_function ds e = record {
  kind = 2;
  owner = number_among e ds;
  other = 0;
  line = declared ds form.Function (function_name ds form.KeysName e) e (sort_text ds (sort.Set sort.String));
}

abbrev pub tag_function : List Sort → Sort → Sort → Function
tag_function ds e own = record {
  kind = 3;
  owner = number_among e ds;
  other = 0;
  line = declared ds form.TagFunction (function_name ds form.TagName e) e (sort_text ds own);
}

-- the function that a term calls
abbrev pub called : List Sort → Tree → List Function
called ds (one (unary.Attributes own) e) = attributes_function ds (tree_sort e) own ∷ []
called ds (one (unary.Ancestors u) e) = ancestors_function ds (tree_sort e) u ∷ []
called ds (one unary.Keys e) = keys_function ds (tree_sort e) ∷ []
called ds (two (binary.Tag own) e k) = tag_function ds (tree_sort e) own ∷ []
called ds _ = []
