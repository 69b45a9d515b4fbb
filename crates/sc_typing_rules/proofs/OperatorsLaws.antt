-- Lists of uids.
use Rattle.std.proofs.Common.{◌≡◌, ◌==◌, List, [], ◌∷◌, length, false, refl}
use Rattle.sc_ast.specs.declared.expr.Expr.{Expr}
use Rattle.sc_typing_rules.specs.Operators.{uids_of, some_uids_of}

pub some_uids : (xs : List Expr) → (length xs == 0) ≡ false → some_uids_of xs ≡ uids_of xs
some_uids [] h = cc
some_uids (x ∷ xs) h = refl
