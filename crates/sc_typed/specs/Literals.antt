-- Expressions that are literals, and whether two literals have one value.
use Rattle.std.specs.Prelude.{ℕ, List, Bool, true, false, Option, Some, None}
use Rattle.std.specs.Ordering.{int_eq}
use Rattle.std.specs.Option.{option_and_then}
use Rattle.std.specs.Str.{bytes_eq}
use Rattle.sc_ast.specs.declared.expr.Expr.{Expr, Expr-F, out-Expr}
use Rattle.sc_ast.specs.declared.expr.Expr.TheOpen as e
use Rattle.sc_ast.specs.declared.literal.Literal.{Literal}
use Rattle.sc_ast.specs.declared.literal.Literal.TheVariants as literal
use Rattle.sc_names.specs.declared.uid.Uid.{Uid}
use Rattle.sc_schema.specs.Declarations.{uid_eq}

abbrev pub literal_in : Expr-F Expr → Option Literal
literal_in (e.Literal place l) = Some l
literal_in _ = None

-- the literal that an expression is, if it is one
abbrev pub literal_of : Expr → Option Literal
literal_of x = literal_in (out-Expr x)

abbrev pub uid_in : Literal → Option Uid
uid_in (literal.Entity u) = Some u
uid_in _ = None

-- the uid that an expression is, if it is one
abbrev pub uid_of : Expr → Option Uid
uid_of x = option_and_then uid_in (literal_of x)

abbrev pub text_in : Literal → Option (List ℕ)
text_in (literal.String text) = Some text
text_in _ = None

abbrev pub text_of : Expr → Option (List ℕ)
text_of x = option_and_then text_in (literal_of x)

abbrev pub same_truth : Bool → Bool → Bool
same_truth true b = b
same_truth false true = false
same_truth false false = true

-- two literals have one value; those of two kinds never have
abbrev pub same_literal : Literal → Literal → Bool
same_literal (literal.Bool a) (literal.Bool b) = same_truth a b
same_literal (literal.Long m) (literal.Long n) = int_eq m n
same_literal (literal.String s) (literal.String t) = bytes_eq s t
same_literal (literal.Entity u) (literal.Entity v) = uid_eq u v
same_literal (literal.Bool a) y = false
same_literal (literal.Long m) y = false
same_literal (literal.String s) y = false
same_literal (literal.Entity u) y = false
