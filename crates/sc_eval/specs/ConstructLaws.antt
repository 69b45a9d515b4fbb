-- What an expression is worth in a world, construct by construct, and a path of one name.
use Rattle.std.proofs.Common.{◌≡◌, ℕ, List, [], ◌∷◌, true, false, if◌then◌else◌, Option, Some, None, is_some, Ok, map, refl, ap, sym, ◌∙◌}
use Rattle.sc_ast.specs.declared.expr.Expr.{Expr, fold-roll-Expr}
use Rattle.sc_ast.specs.declared.expr.Expr.TheVariants as expr
use Rattle.sc_ast.specs.declared.expr.Expr.TheVariants.{rolls-If, rolls-Or, rolls-And, rolls-Binary, rolls-Has, rolls-Like, rolls-Is, rolls-IsIn, rolls-Unary, rolls-Access, rolls-Literal, rolls-Variable, rolls-Set, rolls-Record}
use Rattle.sc_ast.specs.declared.expr.Expr.TheOpen as e
use Rattle.sc_ast.specs.declared.expr.TypeName.{TypeName}
use Rattle.sc_ast.specs.declared.expr.Variable.{Variable}
use Rattle.sc_ast.specs.declared.literal.Literal.{Literal}
use Rattle.sc_ast.specs.declared.operator.BinaryOperator.{BinaryOperator}
use Rattle.sc_ast.specs.declared.operator.UnaryOperator.{UnaryOperator}
use Rattle.sc_ast.specs.declared.place.Place.{Place}
use Rattle.sc_pattern.specs.declared.part.Part.{Part}
use Rattle.sc_values.specs.declared.value.Value.{Value, Value-F, out-Value}
use Rattle.sc_values.specs.declared.value.Value.TheOpen as v
use Rattle.sc_values.specs.Records.{field}
use Rattle.sc_world.specs.declared.entity.EntityData.{EntityData}
use Rattle.sc_world.specs.declared.world.World.{World}
use Rattle.sc_world.specs.Stores.{stored}
use Rattle.sc_eval.specs.Outcomes.{◌>>=◌}
use Rattle.sc_eval.specs.Entities.{or_missing, attr_of, access_in, has_attr, has_in, has, has_path}
use Rattle.sc_eval.specs.Operators.{literal_value, variable_value}
use Rattle.sc_eval.specs.Eval.{Meaning, choice, either, both, operated, having, matching, typed, typed_in, applied, accessed, set_literal, record_literal, eval_step, eval}

pub eval_If : (place : Place) (c a b : Expr) (w : World)
    → eval (expr.If place c a b) w ≡ choice (eval c) (eval a) (eval b) w
unfolding eval
eval_If place c a b w =
    ap (λ x. eval x w) (sym (rolls-If place c a b))
    ∙ ap (λ f. f w) (fold-roll-Expr Meaning eval_step (e.If place c a b))

pub eval_Or : (place : Place) (a b : Expr) (w : World)
    → eval (expr.Or place a b) w ≡ either (eval a) (eval b) w
unfolding eval
eval_Or place a b w =
    ap (λ x. eval x w) (sym (rolls-Or place a b)) ∙ ap (λ f. f w) (fold-roll-Expr Meaning eval_step (e.Or place a b))

pub eval_And : (place : Place) (a b : Expr) (w : World)
    → eval (expr.And place a b) w ≡ both (eval a) (eval b) w
unfolding eval
eval_And place a b w =
    ap (λ x. eval x w) (sym (rolls-And place a b)) ∙ ap (λ f. f w) (fold-roll-Expr Meaning eval_step (e.And place a b))

pub eval_Binary : (place : Place) (operator : BinaryOperator) (a b : Expr) (w : World)
    → eval (expr.Binary place operator a b) w ≡ operated operator (eval a) (eval b) w
unfolding eval
eval_Binary place operator a b w =
    ap (λ x. eval x w) (sym (rolls-Binary place operator a b))
    ∙ ap (λ f. f w) (fold-roll-Expr Meaning eval_step (e.Binary place operator a b))

pub eval_Has : (place : Place) (a : Expr) (names : List (List ℕ)) (w : World)
    → eval (expr.Has place a names) w ≡ having names (eval a) w
unfolding eval
eval_Has place a names w =
    ap (λ x. eval x w) (sym (rolls-Has place a names))
    ∙ ap (λ f. f w) (fold-roll-Expr Meaning eval_step (e.Has place a names))

pub eval_Like : (place : Place) (a : Expr) (pattern : List Part) (w : World)
    → eval (expr.Like place a pattern) w ≡ matching pattern (eval a) w
unfolding eval
eval_Like place a pattern w =
    ap (λ x. eval x w) (sym (rolls-Like place a pattern))
    ∙ ap (λ f. f w) (fold-roll-Expr Meaning eval_step (e.Like place a pattern))

pub eval_Is : (place : Place) (a : Expr) (t : TypeName) (w : World)
    → eval (expr.Is place a t) w ≡ typed t.name (eval a) w
unfolding eval
eval_Is place a t w =
    ap (λ x. eval x w) (sym (rolls-Is place a t)) ∙ ap (λ f. f w) (fold-roll-Expr Meaning eval_step (e.Is place a t))

pub eval_IsIn : (place : Place) (a : Expr) (t : TypeName) (in_place : Place) (b : Expr) (w : World)
    → eval (expr.IsIn place a t in_place b) w ≡ typed_in t.name (eval a) (eval b) w
unfolding eval
eval_IsIn place a t in_place b w =
    ap (λ x. eval x w) (sym (rolls-IsIn place a t in_place b))
    ∙ ap (λ f. f w) (fold-roll-Expr Meaning eval_step (e.IsIn place a t in_place b))

pub eval_Unary : (place : Place) (operator : UnaryOperator) (a : Expr) (w : World)
    → eval (expr.Unary place operator a) w ≡ applied operator (eval a) w
unfolding eval
eval_Unary place operator a w =
    ap (λ x. eval x w) (sym (rolls-Unary place operator a))
    ∙ ap (λ f. f w) (fold-roll-Expr Meaning eval_step (e.Unary place operator a))

pub eval_Access : (place : Place) (a : Expr) (name : List ℕ) (w : World)
    → eval (expr.Access place a name) w ≡ accessed name (eval a) w
unfolding eval
eval_Access place a name w =
    ap (λ x. eval x w) (sym (rolls-Access place a name))
    ∙ ap (λ f. f w) (fold-roll-Expr Meaning eval_step (e.Access place a name))

pub eval_Literal : (place : Place) (l : Literal) (w : World)
    → eval (expr.Literal place l) w ≡ Ok (literal_value l)
unfolding eval
eval_Literal place l w =
    ap (λ x. eval x w) (sym (rolls-Literal place l))
    ∙ ap (λ f. f w) (fold-roll-Expr Meaning eval_step (e.Literal place l))

pub eval_Variable : (place : Place) (x : Variable) (w : World)
    → eval (expr.Variable place x) w ≡ Ok (variable_value x w.request)
unfolding eval
eval_Variable place x w =
    ap (λ y. eval y w) (sym (rolls-Variable place x))
    ∙ ap (λ f. f w) (fold-roll-Expr Meaning eval_step (e.Variable place x))

pub eval_Set : (place : Place) (members : List Expr) (w : World)
    → eval (expr.Set place members) w ≡ set_literal (map eval members) w
unfolding eval
eval_Set place members w =
    ap (λ x. eval x w) (sym (rolls-Set place members))
    ∙ ap (λ f. f w) (fold-roll-Expr Meaning eval_step (e.Set place members))

pub eval_Record : (place : Place) (fields : List (List ℕ × Expr)) (w : World)
    → eval (expr.Record place fields) w ≡ record_literal (map (λ (f : List ℕ × Expr). (f.0, eval f.1)) fields) w
unfolding eval
eval_Record place fields w =
    ap (λ x. eval x w) (sym (rolls-Record place fields))
    ∙ ap (λ f. f w) (fold-roll-Expr Meaning eval_step (e.Record place fields))

-- ---- a path of one name

-- where there is an attribute, it has a value
there : (o : Option Value) → (if is_some o then (or_missing o >>= λ y. Ok true) else Ok false) ≡ Ok (is_some o)
there None = refl
there (Some x) = refl

there_of : (name : List ℕ) (o : Option EntityData)
    → (if has_attr name o then (attr_of name o >>= λ y. Ok true) else Ok false) ≡ Ok (has_attr name o)
there_of name None = refl
there_of name (Some d) = there (field name d.attrs)

one_name : (name : List ℕ) (w : World) (x : Value-F Value)
    → (has_in name w x >>= λ p. if p then (access_in name w x >>= λ y. Ok true) else Ok false) ≡ has_in name w x
one_name name w (v.Bool b) = refl
one_name name w (v.Long n) = refl
one_name name w (v.String text) = refl
one_name name w (v.Entity u) = there_of name (stored u w.store)
one_name name w (v.Set members) = refl
one_name name w (v.Record fields) = there (field name fields)
one_name name w (v.Decimal n) = refl
one_name name w (v.Ip a) = refl

-- a path of one name is that name
pub has_path-one : (name : List ℕ) (w : World) (x : Value) → has_path (name ∷ []) w x ≡ has name w x
has_path-one name w x = one_name name w (out-Value x)
