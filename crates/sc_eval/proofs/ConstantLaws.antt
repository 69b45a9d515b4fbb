-- The constants of an expression are proper where those of its parts are.
use Rattle.std.proofs.Common.{◌≡◌, ℕ, List, [], ◌∷◌, ◌++◌, map, flat_map, sym, subst}
use Rattle.std.specs.List.{AllByRecursion}
use Rattle.sc_lists.proofs.ListLaws.{all_append}
use Rattle.sc_pattern.specs.declared.part.Part.{Part}
use Rattle.sc_values.specs.declared.value.Value.{Value}
use Rattle.sc_values.specs.declared.value.Value.TheVariants as value
use Rattle.sc_values.specs.Proper.{IsProper, IsProperLevel}
use Rattle.sc_values.proofs.LevelLaws.{in_String}
use Rattle.sc_ast.specs.declared.expr.Expr.{Expr, Expr-F, roll-Expr, map-Expr, fold-roll-Expr}
use Rattle.sc_ast.specs.declared.expr.Expr.TheOpen as layer
use Rattle.sc_ast.specs.declared.expr.Expr.TheVariants as expr
use Rattle.sc_ast.specs.declared.expr.Expr.TheVariants.{rolls-If, rolls-Or, rolls-And, rolls-Binary, rolls-Has, rolls-Like, rolls-Is, rolls-IsIn, rolls-Unary, rolls-Access, rolls-Literal, rolls-Variable, rolls-Set, rolls-Record}
use Rattle.sc_ast.specs.declared.expr.TypeName.{TypeName}
use Rattle.sc_ast.specs.declared.expr.Variable.{Variable}
use Rattle.sc_ast.specs.declared.literal.Literal.{Literal}
use Rattle.sc_ast.specs.declared.operator.BinaryOperator.{BinaryOperator}
use Rattle.sc_ast.specs.declared.operator.UnaryOperator.{UnaryOperator}
use Rattle.sc_ast.specs.declared.place.Place.{Place}
use Rattle.sc_eval.specs.Operators.{literal_value}
use Rattle.sc_eval.specs.Written.{constants_step, constants, HasProperConstants, HasTextName}

by_layer : (x : Expr) (y : Expr-F Expr) → roll-Expr y ≡ x → AllByRecursion IsProper (constants_step (map-Expr Expr (List Value) constants y)) → HasProperConstants x
unfolding constants
by_layer x y is h = subst HasProperConstants is (subst (AllByRecursion IsProper) (sym (fold-roll-Expr (List Value) constants_step y)) h)

both : (a b : Expr) → HasProperConstants a → HasProperConstants b → AllByRecursion IsProper (constants a ++ constants b)
both a b h k = all_append IsProper (constants a) (constants b) h k

pub proper_If : (place : Place) (c a b : Expr) → HasProperConstants c → HasProperConstants a → HasProperConstants b → HasProperConstants (expr.If place c a b)
proper_If place c a b g h k = by_layer (expr.If place c a b) (layer.If place c a b) (rolls-If place c a b) (all_append IsProper (constants c) (constants a ++ constants b) g (both a b h k))

pub proper_Or : (place : Place) (a b : Expr) → HasProperConstants a → HasProperConstants b → HasProperConstants (expr.Or place a b)
proper_Or place a b h k = by_layer (expr.Or place a b) (layer.Or place a b) (rolls-Or place a b) (both a b h k)

pub proper_And : (place : Place) (a b : Expr) → HasProperConstants a → HasProperConstants b → HasProperConstants (expr.And place a b)
proper_And place a b h k = by_layer (expr.And place a b) (layer.And place a b) (rolls-And place a b) (both a b h k)

pub proper_Binary : (place : Place) (o : BinaryOperator) (a b : Expr) → HasProperConstants a → HasProperConstants b → HasProperConstants (expr.Binary place o a b)
proper_Binary place o a b h k = by_layer (expr.Binary place o a b) (layer.Binary place o a b) (rolls-Binary place o a b) (both a b h k)

pub proper_Has : (place : Place) (a : Expr) (names : List (List ℕ)) → HasProperConstants a → HasProperConstants (expr.Has place a names)
proper_Has place a names h = by_layer (expr.Has place a names) (layer.Has place a names) (rolls-Has place a names) h

pub proper_Like : (place : Place) (a : Expr) (pattern : List Part) → HasProperConstants a → HasProperConstants (expr.Like place a pattern)
proper_Like place a pattern h = by_layer (expr.Like place a pattern) (layer.Like place a pattern) (rolls-Like place a pattern) h

pub proper_Is : (place : Place) (a : Expr) (t : TypeName) → HasProperConstants a → HasProperConstants (expr.Is place a t)
proper_Is place a t h = by_layer (expr.Is place a t) (layer.Is place a t) (rolls-Is place a t) h

pub proper_IsIn : (place : Place) (a : Expr) (t : TypeName) (in_place : Place) (b : Expr) → HasProperConstants a → HasProperConstants b → HasProperConstants (expr.IsIn place a t in_place b)
proper_IsIn place a t in_place b h k = by_layer (expr.IsIn place a t in_place b) (layer.IsIn place a t in_place b) (rolls-IsIn place a t in_place b) (both a b h k)

pub proper_Unary : (place : Place) (o : UnaryOperator) (a : Expr) → HasProperConstants a → HasProperConstants (expr.Unary place o a)
proper_Unary place o a h = by_layer (expr.Unary place o a) (layer.Unary place o a) (rolls-Unary place o a) h

pub proper_Access : (place : Place) (a : Expr) (name : List ℕ) → HasProperConstants a → HasProperConstants (expr.Access place a name)
proper_Access place a name h = by_layer (expr.Access place a name) (layer.Access place a name) (rolls-Access place a name) h

pub proper_Literal : (place : Place) (l : Literal) → IsProper (literal_value l) → HasProperConstants (expr.Literal place l)
proper_Literal place l h = by_layer (expr.Literal place l) (layer.Literal place l) (rolls-Literal place l) (h, tt)

pub proper_Variable : (place : Place) (x : Variable) → HasProperConstants (expr.Variable place x)
proper_Variable place x = by_layer (expr.Variable place x) (layer.Variable place x) (rolls-Variable place x) tt

members : (xs : List Expr) → AllByRecursion HasProperConstants xs → AllByRecursion IsProper (flat_map (λ (m : List Value). m) (map constants xs))
members [] h = tt
members (x ∷ xs) h = all_append IsProper (constants x) _ h.0 (members xs h.1)

pub proper_Set : (place : Place) (xs : List Expr) → AllByRecursion HasProperConstants xs → HasProperConstants (expr.Set place xs)
proper_Set place xs h = by_layer (expr.Set place xs) (layer.Set place xs) (rolls-Set place xs) (members xs h)

entries : (fs : List (List ℕ × Expr)) → AllByRecursion HasTextName fs → AllByRecursion (λ (f : List ℕ × Expr). HasProperConstants f.1) fs → AllByRecursion IsProper (flat_map (λ (f : List ℕ × List Value). value.String f.0 ∷ f.1) (map (λ (f : List ℕ × Expr). (f.0, constants f.1)) fs))
unfolding HasTextName
entries [] h k = tt
entries (f ∷ fs) h k = ((in_String IsProperLevel f.0).1 h.0, all_append IsProper (constants f.1) _ k.0 (entries fs h.1 k.1))

pub proper_Record : (place : Place) (fs : List (List ℕ × Expr)) → AllByRecursion HasTextName fs → AllByRecursion (λ (f : List ℕ × Expr). HasProperConstants f.1) fs → HasProperConstants (expr.Record place fs)
proper_Record place fs h k = by_layer (expr.Record place fs) (layer.Record place fs) (rolls-Record place fs) (entries fs h k)
