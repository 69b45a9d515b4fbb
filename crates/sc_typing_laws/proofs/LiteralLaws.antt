-- An expression that is a literal is typed as that literal.
use Rattle.std.proofs.Common.{◌≡◌, [], Some, Ok, Err, sym, ap, ◌∙◌}
use Rattle.sc_ast.specs.declared.expr.Expr.{Expr, Expr-F, out-Expr, roll-Expr, roll-out-Expr}
use Rattle.sc_ast.specs.declared.expr.Expr.TheOpen as e
use Rattle.sc_ast.specs.declared.expr.Expr.TheVariants as expr
use Rattle.sc_ast.specs.declared.expr.Expr.TheVariants.{rolls-Literal}
use Rattle.sc_ast.specs.declared.literal.Literal.{Literal}
use Rattle.sc_schema.specs.declared.declarations.Env.{Env}
use Rattle.sc_schema.specs.Declarations.{Declarations}
use Rattle.sc_typed.specs.declared.outcome.Typed.{Typed}
use Rattle.sc_typed.specs.Capabilities.{Capabilities}
use Rattle.sc_typed.specs.Literals.{literal_in, literal_of}
use Rattle.sc_typed.specs.Outcomes.{Outcome, made}
use Rattle.sc_typed.specs.TypedExprs.{expr_place_in, expr_place}
use Rattle.sc_typing_rules.specs.Rules.{literal_typed}
use Rattle.sc_typing.specs.Typing.{typing}
use Rattle.sc_typing.proofs.TypingLaws.{typing_Literal}
use Rattle.sc_typing_laws.specs.Derivations.{Derives}
use Rattle.sc_typing_laws.proofs.GivenLaws.{given}

at_layer : (y : Expr-F Expr) (l : Literal) → literal_in y ≡ Some l → y ≡ e.Literal (expr_place_in y) l
at_layer (e.Literal p m) l h = let same : m ≡ l = cc in ap (e.Literal p) same
at_layer y l h = absurd cc

-- it is written so
pub literal_written : (a : Expr) (l : Literal) → literal_of a ≡ Some l → a ≡ expr.Literal (expr_place a) l
unfolding expr_place
literal_written a l h = sym (roll-out-Expr a) ∙ ap roll-Expr (at_layer (out-Expr a) l h) ∙ rolls-Literal (expr_place_in (out-Expr a)) l

one_outcome : (t u : Typed) → ◌≡◌ {A = Outcome} (Ok t) (Ok u) → t ≡ u
one_outcome t u h = ap (λ (o : Outcome). given_or t o) h
  where
    given_or : Typed → Outcome → Typed
    given_or t (Ok u) = u
    given_or t (Err fault) = t

pub literal_derived : (s : Declarations) (env : Env) (a : Expr) (known : Capabilities) (t : Typed) (l : Literal) → literal_of a ≡ Some l → Derives s env a known t
    → t ≡ made (literal_typed s (expr_place a) l) []
literal_derived s env a known t l h d =
    one_outcome t _ (sym (given s env a known t d) ∙ ap (λ x. typing s env x known) (literal_written a l h) ∙ typing_Literal s env (expr_place a) l known)
