-- A generated policy writes declared names alone, and is typed in the one environment of its schema.
use Rattle.std.proofs.Common.{◌≡◌, ℕ, List, None, refl, sym, ap, ◌∙◌}
use Rattle.sc_ast.specs.declared.expr.Expr.{Expr, fold-roll-Expr}
use Rattle.sc_ast.specs.declared.expr.Expr.TheVariants as expr
use Rattle.sc_ast.specs.declared.expr.Expr.TheVariants.{rolls-And, rolls-Binary, rolls-Access, rolls-Literal, rolls-Variable}
use Rattle.sc_ast.specs.declared.expr.Expr.TheOpen as e
use Rattle.sc_ast.specs.declared.expr.Variable.{Variable}
use Rattle.sc_ast.specs.declared.literal.Literal.{Literal}
use Rattle.sc_ast.specs.declared.operator.BinaryOperator.{BinaryOperator}
use Rattle.sc_ast.specs.declared.place.Place.{Place}
use Rattle.sc_names.specs.declared.uid.Uid.{Uid}
use Rattle.sc_typing.specs.Policies.{acting_step, acting_variable, acting}
use Rattle.sc_typing.specs.Names.{Undeclared, first_of, expr_fault_step, expr_fault, literal_fault, policy_fault}
use Rattle.sc_schema.specs.Declarations.{Declarations}
use Rattle.sc_generated_laws.specs.Lines.{body_of, policy_of}
use Rattle.sc_generated_typing_laws.specs.Schema.{declared, document, group, user, viewing}

-- ---- with the action's uid in place of `action`

pub acting_And : (u : Uid) (p : Place) (a b : Expr) → acting u (expr.And p a b) ≡ expr.And p (acting u a) (acting u b)
unfolding acting
acting_And u p a b = ap (acting u) (sym (rolls-And p a b)) ∙ fold-roll-Expr Expr (acting_step u) (e.And p a b) ∙ rolls-And p (acting u a) (acting u b)

pub acting_Binary : (u : Uid) (p : Place) (o : BinaryOperator) (a b : Expr) → acting u (expr.Binary p o a b) ≡ expr.Binary p o (acting u a) (acting u b)
unfolding acting
acting_Binary u p o a b = ap (acting u) (sym (rolls-Binary p o a b)) ∙ fold-roll-Expr Expr (acting_step u) (e.Binary p o a b) ∙ rolls-Binary p o (acting u a) (acting u b)

pub acting_Access : (u : Uid) (p : Place) (a : Expr) (name : List ℕ) → acting u (expr.Access p a name) ≡ expr.Access p (acting u a) name
unfolding acting
acting_Access u p a name = ap (acting u) (sym (rolls-Access p a name)) ∙ fold-roll-Expr Expr (acting_step u) (e.Access p a name) ∙ rolls-Access p (acting u a) name

pub acting_Literal : (u : Uid) (p : Place) (l : Literal) → acting u (expr.Literal p l) ≡ expr.Literal p l
unfolding acting
acting_Literal u p l = ap (acting u) (sym (rolls-Literal p l)) ∙ fold-roll-Expr Expr (acting_step u) (e.Literal p l) ∙ rolls-Literal p l

pub acting_Variable : (u : Uid) (p : Place) (x : Variable) → acting u (expr.Variable p x) ≡ acting_variable u p x
unfolding acting
acting_Variable u p x = ap (acting u) (sym (rolls-Variable p x)) ∙ fold-roll-Expr Expr (acting_step u) (e.Variable p x)

-- ---- names

fault_And : (s : Declarations) (p : Place) (a b : Expr) → expr_fault s (expr.And p a b) ≡ first_of (expr_fault s a) (expr_fault s b)
unfolding expr_fault
fault_And s p a b = ap (expr_fault s) (sym (rolls-And p a b)) ∙ fold-roll-Expr Undeclared (expr_fault_step s) (e.And p a b)

fault_Binary : (s : Declarations) (p : Place) (o : BinaryOperator) (a b : Expr) → expr_fault s (expr.Binary p o a b) ≡ first_of (expr_fault s a) (expr_fault s b)
unfolding expr_fault
fault_Binary s p o a b = ap (expr_fault s) (sym (rolls-Binary p o a b)) ∙ fold-roll-Expr Undeclared (expr_fault_step s) (e.Binary p o a b)

fault_Access : (s : Declarations) (p : Place) (a : Expr) (name : List ℕ) → expr_fault s (expr.Access p a name) ≡ expr_fault s a
unfolding expr_fault
fault_Access s p a name = ap (expr_fault s) (sym (rolls-Access p a name)) ∙ fold-roll-Expr Undeclared (expr_fault_step s) (e.Access p a name)

fault_Literal : (s : Declarations) (p : Place) (l : Literal) → expr_fault s (expr.Literal p l) ≡ literal_fault s p l
unfolding expr_fault
fault_Literal s p l = ap (expr_fault s) (sym (rolls-Literal p l)) ∙ fold-roll-Expr Undeclared (expr_fault_step s) (e.Literal p l)

fault_Variable : (s : Declarations) (p : Place) (x : Variable) → expr_fault s (expr.Variable p x) ≡ None
unfolding expr_fault
fault_Variable s p x = ap (expr_fault s) (sym (rolls-Variable p x)) ∙ fold-roll-Expr Undeclared (expr_fault_step s) (e.Variable p x)

body_declared : (at : ℕ → Place) (c d id : List ℕ) → expr_fault declared (body_of at c d id) ≡ None
unfolding declared document group user viewing
body_declared at c d id =
    rw (fault_And, fault_Binary, fault_Binary, fault_Access, fault_Variable, fault_Literal, fault_Literal, fault_Binary, fault_Variable, fault_Literal) refl

pub policy_declared : (at : ℕ → Place) (c d id : List ℕ) → policy_fault declared (policy_of at c d id) ≡ None
policy_declared at c d id = rw (body_declared at c d id) refl
