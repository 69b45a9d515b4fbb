-- Texts by their types.
use Rattle.std.proofs.Common.{◌≡◌, ℕ, List, IsUtf8, subst}
use Rattle.sc_ast.specs.declared.expr.Expr.{Expr}
use Rattle.sc_eval.specs.Written.{HasTextName}

pub has_text_name : (f : List ℕ × Expr) (name : List ℕ) → IsUtf8 name → name ≡ f.0 → HasTextName f
unfolding HasTextName
has_text_name f name h e = subst IsUtf8 e h
