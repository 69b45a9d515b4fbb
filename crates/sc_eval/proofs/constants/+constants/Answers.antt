use Rattle.std.proofs.Common.{ℕ, List, sym, subst}
use Rattle.std.proofs.lemmas.List.Elements.{recursion_from_All}
use Rattle.sc_ast.specs.declared.expr.Expr.{Expr}
use Rattle.sc_eval.specs.Written.{HasProperConstants, HasTextName}
use Rattle.sc_eval.proofs.ConstantLaws.{proper_If, proper_Or, proper_And, proper_Binary, proper_Has, proper_Like, proper_Is, proper_IsIn, proper_Unary, proper_Access, proper_Literal, proper_Variable, proper_Set, proper_Record}
use Rattle.sc_eval.proofs.constants.+constants.Goals as goal

pub of_expr-returns-in-If : goal.of_expr-returns-in-If
of_expr-returns-in-If t c = subst HasProperConstants (sym c.in-If.is) (proper_If _ _ _ _ c.of_three.ensures.condition c.of_three.ensures.first c.of_three.ensures.second)

pub of_expr-returns-in-Or : goal.of_expr-returns-in-Or
of_expr-returns-in-Or t c = subst HasProperConstants (sym c.in-Or.is) (proper_Or _ _ _ c.of_two.ensures.first c.of_two.ensures.second)

pub of_expr-returns-in-And : goal.of_expr-returns-in-And
of_expr-returns-in-And t c = subst HasProperConstants (sym c.in-And.is) (proper_And _ _ _ c.of_two-in-And.ensures.first c.of_two-in-And.ensures.second)

pub of_expr-returns-in-Binary : goal.of_expr-returns-in-Binary
of_expr-returns-in-Binary t c = subst HasProperConstants (sym c.in-Binary.is) (proper_Binary _ _ _ _ c.of_two-in-Binary.ensures.first c.of_two-in-Binary.ensures.second)

pub of_expr-returns-in-Has : goal.of_expr-returns-in-Has
of_expr-returns-in-Has t c = subst HasProperConstants (sym c.in-Has.is) (proper_Has _ _ _ c.of_boxed.ensures)

pub of_expr-returns-in-Like : goal.of_expr-returns-in-Like
of_expr-returns-in-Like t c = subst HasProperConstants (sym c.in-Like.is) (proper_Like _ _ _ c.of_boxed-in-Like.ensures)

pub of_expr-returns-in-Is : goal.of_expr-returns-in-Is
of_expr-returns-in-Is t c = subst HasProperConstants (sym c.in-Is.is) (proper_Is _ _ _ c.of_boxed-in-Is.ensures)

pub of_expr-returns-in-IsIn : goal.of_expr-returns-in-IsIn
of_expr-returns-in-IsIn t c = subst HasProperConstants (sym c.in-IsIn.is) (proper_IsIn _ _ _ _ _ c.of_two-in-IsIn.ensures.first c.of_two-in-IsIn.ensures.second)

pub of_expr-returns-in-Unary : goal.of_expr-returns-in-Unary
of_expr-returns-in-Unary t c = subst HasProperConstants (sym c.in-Unary.is) (proper_Unary _ _ _ c.of_boxed-in-Unary.ensures)

pub of_expr-returns-in-Access : goal.of_expr-returns-in-Access
of_expr-returns-in-Access t c = subst HasProperConstants (sym c.in-Access.is) (proper_Access _ _ _ c.of_boxed-in-Access.ensures)

pub of_expr-returns-in-Literal : goal.of_expr-returns-in-Literal
of_expr-returns-in-Literal t c = subst HasProperConstants (sym c.in-Literal.is) (proper_Literal _ _ c.of_literal.ensures)

pub of_expr-returns-in-Variable : goal.of_expr-returns-in-Variable
of_expr-returns-in-Variable t c = subst HasProperConstants (sym c.in-Variable.is) (proper_Variable _ _)

pub of_expr-returns-in-Set : goal.of_expr-returns-in-Set
of_expr-returns-in-Set t c = subst HasProperConstants (sym c.in-Set.is) (proper_Set _ _ (recursion_from_All HasProperConstants _ c.of_all.ensures))

pub of_expr-returns-in-Record : goal.of_expr-returns-in-Record
of_expr-returns-in-Record t c = subst HasProperConstants (sym c.in-Record.is) (proper_Record _ _ (recursion_from_All HasTextName _ c.of_record.ensures.names) (recursion_from_All (λ (f : List ℕ × Expr). HasProperConstants f.1) _ c.of_record.ensures.values))
