-- Terms of the fragment of Booleans: truth values, attributes of a context that has required truth values alone, and
-- connectives of these.
use Rattle.std.specs.Prelude.{◌≡◌, ℕ, List, Bool, true, false, map, Option, Some}
use Rattle.std.specs.List.{Contains}
use Rattle.sc_schema.specs.declared.ty.Ty.{Ty}
use Rattle.sc_sorts.specs.OfTypes.{sort_of}
use Rattle.sc_sorts.specs.Plain.{Field, plain_fields}
use Rattle.sc_sorts.specs.declared.node.Leaf.TheVariants.{Context}
use Rattle.sc_sorts.specs.declared.node.UnaryOp.TheVariants.{Not}
use Rattle.sc_sorts.specs.declared.node.BinaryOp.{BinaryOp}
use Rattle.sc_sorts.specs.declared.node.BinaryOp.TheVariants as binary
use Rattle.sc_terms.specs.Trees.{Tree, leaf, one, two}
use Rattle.sc_terms.specs.Folds.{truth_term, field_term}

-- the context, of this type
abbrev pub context_term : Ty → Tree
context_term type = leaf (Context (sort_of type))

-- an attribute of a context of this type, a truth value
abbrev pub attribute_term : Ty → List ℕ → Tree
attribute_term type name = field_term name (context_term type)

abbrev pub names_of : List Field → List (List ℕ)
names_of fields = map (λ (f : Field). f.0) fields

-- a connective of two truth values
abbrev pub is_connective : BinaryOp → Bool
is_connective binary.And = true
is_connective binary.Or = true
is_connective binary.Equal = true
is_connective _ = false

-- in an environment whose context is of this type, where it has one
pub data IsBoolean (context : Option Ty) : Tree → Type 0 where
  of_truth : (b : Bool) → IsBoolean context (truth_term b)
  of_attribute : (type : Ty) (fields : List Field) (name : List ℕ) → context ≡ Some type
      → plain_fields type ≡ Some fields → Contains (names_of fields) name → IsBoolean context (attribute_term type name)
  of_not : (a : Tree) → IsBoolean context a → IsBoolean context (one Not a)
  of_two : (o : BinaryOp) (a b : Tree) → is_connective o ≡ true → IsBoolean context a → IsBoolean context b
      → IsBoolean context (two o a b)
