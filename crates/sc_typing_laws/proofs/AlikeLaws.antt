-- Expressions that are written alike, but for places, are typed alike, but for places.
use Rattle.std.proofs.Common.{◌≡◌, sym, ap, ◌∙◌}
use Rattle.std.proofs.Math.Path.{fun_ext}
use Rattle.sc_ast.specs.declared.expr.Expr.{Expr, Expr-F, roll-Expr, fold-Expr}
use Rattle.sc_ast.specs.declared.expr.Expr.TheOpen as e
use Rattle.sc_ast.specs.declared.expr.Expr.TheVariants.{rolls-If, rolls-Or, rolls-And, rolls-Binary, rolls-Has, rolls-Like, rolls-Is, rolls-IsIn, rolls-Unary, rolls-Access, rolls-Literal, rolls-Variable, rolls-Set, rolls-Record}
use Rattle.sc_ast.specs.declared.place.Place.{Place}
use Rattle.sc_schema.specs.declared.declarations.Env.{Env}
use Rattle.sc_schema.specs.Declarations.{Declarations}
use Rattle.sc_typed.specs.Capabilities.{Capabilities, nowhere, bare_name, bare_step, bare}
use Rattle.sc_typing.specs.Typing.{typing}
use Rattle.sc_typing_laws.specs.Moved.{layer_moved, moved, without_places}
use Rattle.sc_typing_laws.proofs.MovedLaws.{typing_moved}

abbrev to_nowhere : Place → Place
to_nowhere p = nowhere

step_is : (y : Expr-F Expr) → bare_step y ≡ roll-Expr (layer_moved to_nowhere y)
step_is (e.If p c a b) = sym (rolls-If nowhere c a b)
step_is (e.Or p a b) = sym (rolls-Or nowhere a b)
step_is (e.And p a b) = sym (rolls-And nowhere a b)
step_is (e.Binary p o a b) = sym (rolls-Binary nowhere o a b)
step_is (e.Has p a names) = sym (rolls-Has nowhere a names)
step_is (e.Like p a pattern) = sym (rolls-Like nowhere a pattern)
step_is (e.Is p a n) = sym (rolls-Is nowhere a (bare_name n))
step_is (e.IsIn p a n q b) = sym (rolls-IsIn nowhere a (bare_name n) nowhere b)
step_is (e.Unary p o a) = sym (rolls-Unary nowhere o a)
step_is (e.Access p a name) = sym (rolls-Access nowhere a name)
step_is (e.Literal p l) = sym (rolls-Literal nowhere l)
step_is (e.Variable p v) = sym (rolls-Variable nowhere v)
step_is (e.Set p members) = sym (rolls-Set nowhere members)
step_is (e.Record p fields) = sym (rolls-Record nowhere fields)

bare_is : (x : Expr) → bare x ≡ moved to_nowhere x
unfolding bare moved
bare_is x = ap (λ (step : Expr-F Expr → Expr). fold-Expr Expr step x) (fun_ext step_is)

pub alike : (s : Declarations) (env : Env) (x y : Expr) (known : Capabilities) → bare x ≡ bare y → without_places (typing s env x known) ≡ without_places (typing s env y known)
alike s env x y known h =
    sym (typing_moved s env to_nowhere x known) ∙ ap (λ z. typing s env z known) (sym (bare_is x) ∙ h ∙ bare_is y) ∙ typing_moved s env to_nowhere y known
