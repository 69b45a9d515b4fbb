-- A record with the action's uid in place of `action` is that of its fields with it.
use Rattle.std.proofs.Common.{◌≡◌, ℕ, List, map, ap, sym, ◌∙◌}
use Rattle.sc_ast.specs.declared.expr.Expr.{Expr, fold-roll-Expr}
use Rattle.sc_ast.specs.declared.expr.Expr.TheVariants as expr
use Rattle.sc_ast.specs.declared.expr.Expr.TheVariants.{rolls-Record}
use Rattle.sc_ast.specs.declared.expr.Expr.TheOpen as e
use Rattle.sc_ast.specs.declared.place.Place.{Place}
use Rattle.sc_names.specs.declared.uid.Uid.{Uid}
use Rattle.sc_typing.specs.Policies.{acting_step, acting}

pub acting_Record : (action : Uid) (place : Place) (fields : List (List ℕ × Expr)) → acting action (expr.Record place fields) ≡ expr.Record place (map (λ (f : List ℕ × Expr). (f.0, acting action f.1)) fields)
unfolding acting
acting_Record action place fields =
    ap (acting action) (sym (rolls-Record place fields))
    ∙ fold-roll-Expr Expr (acting_step action) (e.Record place fields)
    ∙ rolls-Record place (map (λ (f : List ℕ × Expr). (f.0, acting action f.1)) fields)
