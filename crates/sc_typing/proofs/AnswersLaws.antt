-- What typing answers for an expression is what it answers for its construct.
use Rattle.std.proofs.Common.{◌≡◌, ℕ, List, [], map, Result, ap, sym, subst, ◌∙◌}
use Rattle.sc_lists.specs.declared.fault.Fault.{Fault}
use Rattle.sc_lists.specs.Told.{Gives}
use Rattle.sc_ast.specs.declared.expr.Expr.{Expr}
use Rattle.sc_ast.specs.declared.expr.Expr.TheVariants as expr
use Rattle.sc_ast.specs.declared.expr.TypeName.{TypeName}
use Rattle.sc_ast.specs.declared.expr.Variable.{Variable}
use Rattle.sc_ast.specs.declared.literal.Literal.{Literal}
use Rattle.sc_ast.specs.declared.operator.BinaryOperator.{BinaryOperator}
use Rattle.sc_ast.specs.declared.operator.UnaryOperator.{UnaryOperator}
use Rattle.sc_ast.specs.declared.place.Place.{Place}
use Rattle.sc_pattern.specs.declared.part.Part.{Part}
use Rattle.sc_schema.specs.declared.declarations.Env.{Env}
use Rattle.sc_schema.specs.Declarations.{Declarations}
use Rattle.sc_typed.specs.declared.fault.TypeFault.{TypeFault}
use Rattle.sc_typed.specs.declared.outcome.Typed.{Typed}
use Rattle.sc_typed.specs.declared.typed_expr.TypedExpr.TheVariants as typed
use Rattle.sc_typed.specs.Capabilities.{Capabilities}
use Rattle.sc_typed.specs.Outcomes.{Outcome, gives}
use Rattle.sc_typing_rules.specs.Rules.{choice, either, both, operated, having, matching, tested, tested_in, applied, accessed, literal_typed, variable_type, set_literal, record_literal}
use Rattle.sc_typing.specs.Typing.{typing, part}
use Rattle.sc_typing.proofs.TypingLaws.{typing_If, typing_Or, typing_And, typing_Binary, typing_Has, typing_Like, typing_Is, typing_IsIn, typing_Unary, typing_Access, typing_Literal, typing_Variable, typing_Set, typing_Record}

-- what is asked, and what is answered
abbrev Answer : Type 0
Answer = Result Typed (Fault TypeFault)

module _ (s : Declarations) (env : Env) where
  -- an expression is a construct, and typing gives of it what the rule gives
  by_rule : (r : Answer) (x y : Expr) (known : Capabilities) (o : Outcome) → x ≡ y → typing s env y known ≡ o → Gives r o → Gives r (typing s env x known)
  by_rule r x y known o at same h = subst (λ z. Gives r (typing s env z known)) (sym at) (subst (Gives r) (sym same) h)

  pub gives_If : (r : Answer) (x : Expr) (place : Place) (c a b : Expr) (known : Capabilities) → x ≡ expr.If place c a b → Gives r (choice place (part s env c) (part s env a) (part s env b) known) → Gives r (typing s env x known)
  gives_If r x place c a b known at h = by_rule r x (expr.If place c a b) known _ at (typing_If s env place c a b known) h

  pub gives_Or : (r : Answer) (x : Expr) (place : Place) (a b : Expr) (known : Capabilities) → x ≡ expr.Or place a b → Gives r (either place (part s env a) (part s env b) known) → Gives r (typing s env x known)
  gives_Or r x place a b known at h = by_rule r x (expr.Or place a b) known _ at (typing_Or s env place a b known) h

  pub gives_And : (r : Answer) (x : Expr) (place : Place) (a b : Expr) (known : Capabilities) → x ≡ expr.And place a b → Gives r (both place (part s env a) (part s env b) known) → Gives r (typing s env x known)
  gives_And r x place a b known at h = by_rule r x (expr.And place a b) known _ at (typing_And s env place a b known) h

  pub gives_Binary : (r : Answer) (x : Expr) (place : Place) (operator : BinaryOperator) (a b : Expr) (known : Capabilities) → x ≡ expr.Binary place operator a b → Gives r (operated s place operator (part s env a) (part s env b) known) → Gives r (typing s env x known)
  gives_Binary r x place operator a b known at h = by_rule r x (expr.Binary place operator a b) known _ at (typing_Binary s env place operator a b known) h

  pub gives_Has : (r : Answer) (x : Expr) (place : Place) (a : Expr) (names seen : List (List ℕ)) (known : Capabilities) → x ≡ expr.Has place a names → seen ≡ names
      → Gives r (having s place seen (part s env a) known) → Gives r (typing s env x known)
  gives_Has r x place a names seen known at p h = by_rule r x (expr.Has place a seen) known _ (at ∙ sym (ap (expr.Has place a) p)) (typing_Has s env place a seen known) h

  pub gives_Like : (r : Answer) (x : Expr) (place : Place) (a : Expr) (pattern : List Part) (known : Capabilities) → x ≡ expr.Like place a pattern → Gives r (matching place pattern (part s env a) known) → Gives r (typing s env x known)
  gives_Like r x place a pattern known at h = by_rule r x (expr.Like place a pattern) known _ at (typing_Like s env place a pattern known) h

  pub gives_Is : (r : Answer) (x : Expr) (place : Place) (a : Expr) (t : TypeName) (known : Capabilities) → x ≡ expr.Is place a t → Gives r (tested place t (part s env a) known) → Gives r (typing s env x known)
  gives_Is r x place a t known at h = by_rule r x (expr.Is place a t) known _ at (typing_Is s env place a t known) h

  pub gives_IsIn : (r : Answer) (x : Expr) (place : Place) (a : Expr) (t : TypeName) (in_place : Place) (b : Expr) (known : Capabilities) → x ≡ expr.IsIn place a t in_place b → Gives r (tested_in s place t in_place (part s env a) (part s env b) known) → Gives r (typing s env x known)
  gives_IsIn r x place a t in_place b known at h = by_rule r x (expr.IsIn place a t in_place b) known _ at (typing_IsIn s env place a t in_place b known) h

  pub gives_Unary : (r : Answer) (x : Expr) (place : Place) (operator : UnaryOperator) (a : Expr) (known : Capabilities) → x ≡ expr.Unary place operator a → Gives r (applied place operator (part s env a) known) → Gives r (typing s env x known)
  gives_Unary r x place operator a known at h = by_rule r x (expr.Unary place operator a) known _ at (typing_Unary s env place operator a known) h

  pub gives_Access : (r : Answer) (x : Expr) (place : Place) (a : Expr) (name : List ℕ) (known : Capabilities) → x ≡ expr.Access place a name → Gives r (accessed s place name (part s env a) known) → Gives r (typing s env x known)
  gives_Access r x place a name known at h = by_rule r x (expr.Access place a name) known _ at (typing_Access s env place a name known) h

  pub gives_Set : (r : Answer) (x : Expr) (place : Place) (members seen : List Expr) (known : Capabilities) → x ≡ expr.Set place members → seen ≡ members
      → Gives r (set_literal place (map (part s env) seen) known) → Gives r (typing s env x known)
  gives_Set r x place members seen known at p h = by_rule r x (expr.Set place seen) known _ (at ∙ sym (ap (expr.Set place) p)) (typing_Set s env place seen known) h

  pub gives_Record : (r : Answer) (x : Expr) (place : Place) (fields seen : List (List ℕ × Expr)) (known : Capabilities) → x ≡ expr.Record place fields → seen ≡ fields
      → Gives r (record_literal place (map (λ (f : List ℕ × Expr). (f.0, part s env f.1)) seen) known) → Gives r (typing s env x known)
  gives_Record r x place fields seen known at p h = by_rule r x (expr.Record place seen) known _ (at ∙ sym (ap (expr.Record place) p)) (typing_Record s env place seen known) h

  pub gives_Literal : (r : Answer) (x : Expr) (place : Place) (l : Literal) (known : Capabilities) → x ≡ expr.Literal place l → Gives r (gives (literal_typed s place l) []) → Gives r (typing s env x known)
  gives_Literal r x place l known at h = by_rule r x (expr.Literal place l) known _ at (typing_Literal s env place l known) h

  pub gives_Variable : (r : Answer) (x : Expr) (place : Place) (v : Variable) (known : Capabilities) → x ≡ expr.Variable place v → Gives r (gives (typed.Variable place (variable_type s env v) v) []) → Gives r (typing s env x known)
  gives_Variable r x place v known at h = by_rule r x (expr.Variable place v) known _ at (typing_Variable s env place v known) h
