-- A record without places is that of its fields without places.
use Rattle.std.proofs.Common.{◌≡◌, ℕ, List, map, ap, sym, ◌∙◌}
use Rattle.sc_ast.specs.declared.expr.Expr.{Expr, fold-roll-Expr}
use Rattle.sc_ast.specs.declared.expr.Expr.TheVariants as expr
use Rattle.sc_ast.specs.declared.expr.Expr.TheVariants.{rolls-Record}
use Rattle.sc_ast.specs.declared.expr.Expr.TheOpen as e
use Rattle.sc_ast.specs.declared.place.Place.{Place}
use Rattle.sc_typed.specs.Capabilities.{nowhere, bare_step, bare}

pub bare_Record : (place : Place) (fields : List (List ℕ × Expr)) → bare (expr.Record place fields) ≡ expr.Record nowhere (map (λ (f : List ℕ × Expr). (f.0, bare f.1)) fields)
unfolding bare
bare_Record place fields = ap bare (sym (rolls-Record place fields)) ∙ fold-roll-Expr Expr bare_step (e.Record place fields)
