-- Generated policies decide the same in either order.
use Rattle.std.proofs.Common.{◌≡◌, ◌∙◌, ◌&&◌, ◌||◌, not, ℕ, List, [], ◌∷◌, Bool, true, false, if◌then◌else◌, reverse, refl, sym, ap, ap₂}
use Rattle.std.specs.List.{list_any}
use Rattle.std.proofs.Math.Bool.{and-true}
use Rattle.std.proofs.lemmas.List.Sorted.{IsPermutation-reverse, list_any-IsPermutation}
use Rattle.sc_ast.specs.Conditions.{condition, truth}
use Rattle.sc_ast.specs.declared.expr.Expr.{Expr}
use Rattle.sc_ast.specs.declared.expr.Expr.TheVariants as expr
use Rattle.sc_ast.specs.declared.expr.Variable.{Variable}
use Rattle.sc_ast.specs.declared.expr.Variable.TheVariants.{Principal, Context}
use Rattle.sc_ast.specs.declared.literal.Literal.{Literal}
use Rattle.sc_ast.specs.declared.literal.Literal.TheVariants as literal
use Rattle.sc_ast.specs.declared.operator.BinaryOperator.{BinaryOperator}
use Rattle.sc_ast.specs.declared.operator.BinaryOperator.TheVariants as binary
use Rattle.sc_ast.specs.declared.place.Place.{Place}
use Rattle.sc_world.specs.declared.world.World.{World}
use Rattle.sc_eval.specs.Entities.{access}
use Rattle.sc_eval.specs.Eval.{eval}
use Rattle.sc_eval.specs.Operators as operators
use Rattle.sc_eval.specs.Outcomes.{Outcome, ◌>>=◌, decide, of_bool}
use Rattle.sc_eval.specs.ConstructLaws.{eval_Access, eval_And, eval_Binary, eval_Literal, eval_Variable}
use Rattle.sc_auth.specs.Decisions.{allows, is_forbidding, is_permitting, is_true, satisfied}
use Rattle.sc_lexer.specs.Pieces.{string_of}
use Rattle.sc_generated_laws.specs.Items.{lexemes_of}
use Rattle.sc_generated_laws.specs.Lines.{body_of, group_text, policy_of}
use Rattle.sc_generated_laws.specs.Texts.{addend, bound, group_number, items, place_in, policies_in}

-- ---- the value of an expression is the same at another place

abbrev Same : World → Expr → Expr → Type 0
Same w a b = eval a w ≡ eval b w

literal_moved : (w : World) (p q : Place) (l : Literal) → Same w (expr.Literal p l) (expr.Literal q l)
literal_moved w p q l = eval_Literal p l w ∙ sym (eval_Literal q l w)

variable_moved : (w : World) (p q : Place) (x : Variable) → Same w (expr.Variable p x) (expr.Variable q x)
variable_moved w p q x = eval_Variable p x w ∙ sym (eval_Variable q x w)

access_moved : (w : World) (p q : Place) (a b : Expr) (name : List ℕ) → Same w a b → Same w (expr.Access p a name) (expr.Access q b name)
access_moved w p q a b name e =
    eval_Access p a name w ∙ ap (λ (o : Outcome). o >>= access name w) e ∙ sym (eval_Access q b name w)

binary_moved : (w : World) (p q : Place) (operator : BinaryOperator) (a b c d : Expr) → Same w a c → Same w b d → Same w (expr.Binary p operator a b) (expr.Binary q operator c d)
binary_moved w p q operator a b c d e f =
    let worth : Outcome → Outcome → Outcome = λ o r. o >>= λ x. r >>= λ y. operators.binary operator w x y in
    eval_Binary p operator a b w ∙ ap₂ worth e f ∙ sym (eval_Binary q operator c d w)

and_moved : (w : World) (p q : Place) (a b c d : Expr) → Same w a c → Same w b d → Same w (expr.And p a b) (expr.And q c d)
and_moved w p q a b c d e f =
    let worth : Outcome → Outcome → Outcome = λ o r. decide o (λ t. if t then decide r of_bool else of_bool false) in
    eval_And p a b w ∙ ap₂ worth e f ∙ sym (eval_And q c d w)

-- ---- a generated policy

body_moved : (w : World) (at to : ℕ → Place) (c d id : List ℕ) → Same w (body_of at c d id) (body_of to c d id)
body_moved w at to c d id =
    and_moved w _ _ _ _ _ _
    (binary_moved w _ _ binary.Greater _ _ _ _
    (binary_moved w _ _ binary.Add _ _ _ _ (access_moved w _ _ _ _ _ (variable_moved w _ _ Context)) (literal_moved w _ _ _)) (literal_moved w _ _ _))
    (binary_moved w _ _ binary.In _ _ _ _ (variable_moved w _ _ Principal) (literal_moved w _ _ _))

condition_moved : (w : World) (at to : ℕ → Place) (c d id : List ℕ) → Same w (condition (policy_of at c d id)) (condition (policy_of to c d id))
condition_moved w at to c d id =
    and_moved w (at 8) (to 8) (truth (at 0)) (body_of at c d id) (truth (to 0)) (body_of to c d id) (literal_moved w (at 0) (to 0) (literal.Bool true)) (body_moved w at to c d id)

somewhere : ℕ → Place
somewhere k = record { offset = 0 }

-- the policy of a number is satisfied, wherever it stands
passes : World → ℕ → Bool
passes w x = satisfied w (policy_of somewhere (addend x) (bound x) (string_of (group_text (group_number x))))

satisfied_moved : (w : World) (at : ℕ → Place) (x : ℕ) → satisfied w (policy_of at (addend x) (bound x) (string_of (group_text (group_number x)))) ≡ passes w x
unfolding passes
satisfied_moved w at x = ap is_true (condition_moved w at somewhere (addend x) (bound x) (string_of (group_text (group_number x))))

-- ---- generated policies

permitting_in : (w : World) (n : ℕ) (xs : List ℕ) → list_any (is_permitting w) (policies_in n xs) ≡ list_any (passes w) xs
unfolding policies_in
permitting_in w n [] = refl
permitting_in w n (x ∷ xs) = ap₂ (λ (a b : Bool). a || b) (satisfied_moved w (place_in (lexemes_of n (items (x ∷ xs)))) x) (permitting_in w n xs)

forbidding_in : (w : World) (n : ℕ) (xs : List ℕ) → list_any (is_forbidding w) (policies_in n xs) ≡ false
unfolding policies_in
forbidding_in w n [] = refl
forbidding_in w n (x ∷ xs) = forbidding_in w n xs

allows_in : (w : World) (n : ℕ) (xs : List ℕ) → allows w (policies_in n xs) ≡ list_any (passes w) xs
allows_in w n xs = ap₂ (λ (a b : Bool). a && not b) (permitting_in w n xs) (forbidding_in w n xs) ∙ and-true (list_any (passes w) xs)

pub allows_reversed : (w : World) (m n : ℕ) (xs : List ℕ) → allows w (policies_in m xs) ≡ allows w (policies_in n (reverse xs))
allows_reversed w m n xs =
    allows_in w m xs ∙ list_any-IsPermutation (passes w) xs (reverse xs) (IsPermutation-reverse xs) ∙ sym (allows_in w n (reverse xs))
