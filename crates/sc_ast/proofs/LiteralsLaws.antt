-- The uids of an expression, construct by construct.
use Rattle.std.proofs.Common.{◌≡◌, ℕ, List, [], ◌∷◌, ◌++◌, map, refl, ap, sym, ◌∙◌}
use Rattle.std.specs.List.{flat_map}
use Rattle.sc_names.specs.declared.uid.Uid.{Uid}
use Rattle.sc_ast.specs.declared.place.Place.{Place}
use Rattle.sc_ast.specs.declared.expr.Expr.{Expr, fold-roll-Expr}
use Rattle.sc_ast.specs.declared.expr.Expr.TheVariants as expr
use Rattle.sc_ast.specs.declared.expr.Expr.TheVariants.{rolls-Binary, rolls-Unary, rolls-Access, rolls-Literal, rolls-Variable, rolls-Set, rolls-Record}
use Rattle.sc_ast.specs.declared.expr.Expr.TheOpen as e
use Rattle.sc_ast.specs.declared.expr.Variable as variable
use Rattle.sc_ast.specs.declared.literal.Literal.{Literal}
use Rattle.sc_ast.specs.declared.operator.BinaryOperator.{BinaryOperator}
use Rattle.sc_ast.specs.declared.operator.UnaryOperator.{UnaryOperator}
use Rattle.sc_ast.specs.Literals.{literal_uids, uids_step, expr_uids}

pub uids_Binary : (place : Place) (operator : BinaryOperator) (a b : Expr) → expr_uids (expr.Binary place operator a b) ≡ expr_uids a ++ expr_uids b
unfolding expr_uids
uids_Binary place operator a b = ap expr_uids (sym (rolls-Binary place operator a b)) ∙ fold-roll-Expr (List Uid) uids_step (e.Binary place operator a b)

pub uids_Unary : (place : Place) (operator : UnaryOperator) (a : Expr) → expr_uids (expr.Unary place operator a) ≡ expr_uids a
unfolding expr_uids
uids_Unary place operator a = ap expr_uids (sym (rolls-Unary place operator a)) ∙ fold-roll-Expr (List Uid) uids_step (e.Unary place operator a)

pub uids_Access : (place : Place) (a : Expr) (name : List ℕ) → expr_uids (expr.Access place a name) ≡ expr_uids a
unfolding expr_uids
uids_Access place a name = ap expr_uids (sym (rolls-Access place a name)) ∙ fold-roll-Expr (List Uid) uids_step (e.Access place a name)

pub uids_Literal : (place : Place) (l : Literal) → expr_uids (expr.Literal place l) ≡ literal_uids l
unfolding expr_uids
uids_Literal place l = ap expr_uids (sym (rolls-Literal place l)) ∙ fold-roll-Expr (List Uid) uids_step (e.Literal place l)

pub uids_Variable : (place : Place) (x : variable.Variable) → expr_uids (expr.Variable place x) ≡ []
unfolding expr_uids
uids_Variable place x = ap expr_uids (sym (rolls-Variable place x)) ∙ fold-roll-Expr (List Uid) uids_step (e.Variable place x)

members : (xs : List Expr) → flat_map (λ (x : List Uid). x) (map expr_uids xs) ≡ flat_map expr_uids xs
members [] = refl
members (x ∷ xs) = ap (λ us. expr_uids x ++ us) (members xs)

pub uids_Set : (place : Place) (xs : List Expr) → expr_uids (expr.Set place xs) ≡ flat_map expr_uids xs
unfolding expr_uids
uids_Set place xs = ap expr_uids (sym (rolls-Set place xs)) ∙ fold-roll-Expr (List Uid) uids_step (e.Set place xs) ∙ members xs

fields : (fs : List (List ℕ × Expr)) → flat_map (λ (f : List ℕ × List Uid). f.1) (map (λ (f : List ℕ × Expr). (f.0, expr_uids f.1)) fs) ≡ flat_map (λ (f : List ℕ × Expr). expr_uids f.1) fs
fields [] = refl
fields (f ∷ fs) = ap (λ us. expr_uids f.1 ++ us) (fields fs)

pub uids_Record : (place : Place) (fs : List (List ℕ × Expr)) → expr_uids (expr.Record place fs) ≡ flat_map (λ (f : List ℕ × Expr). expr_uids f.1) fs
unfolding expr_uids
uids_Record place fs = ap expr_uids (sym (rolls-Record place fs)) ∙ fold-roll-Expr (List Uid) uids_step (e.Record place fs) ∙ fields fs
