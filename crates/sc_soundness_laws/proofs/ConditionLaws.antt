-- The uids of a policy's condition are those of the policy.
use Rattle.std.proofs.Common.{◌≡◌, List, [], ◌∷◌, ◌++◌, map, fold, flat_map, true, false, sym, subst}
use Rattle.std.specs.List.{AllByRecursion}
use Rattle.sc_ast.specs.declared.expr.Expr.{Expr, Expr-F, roll-Expr, map-Expr}
use Rattle.sc_ast.specs.declared.expr.Expr.TheOpen as e
use Rattle.sc_ast.specs.declared.expr.Expr.TheVariants as expr
use Rattle.sc_ast.specs.declared.expr.Expr.TheVariants.{rolls-And, rolls-Binary, rolls-Is, rolls-IsIn, rolls-Unary, rolls-Literal, rolls-Variable, rolls-Set}
use Rattle.sc_ast.specs.declared.expr.Variable.{Variable}
use Rattle.sc_ast.specs.declared.expr.Variable.TheVariants.{Principal, Action, Resource}
use Rattle.sc_ast.specs.declared.literal.EntityLiteral.{EntityLiteral}
use Rattle.sc_ast.specs.declared.literal.Literal.TheVariants as literal
use Rattle.sc_ast.specs.declared.operator.BinaryOperator.{BinaryOperator}
use Rattle.sc_ast.specs.declared.operator.BinaryOperator.TheVariants.{Equal, In}
use Rattle.sc_ast.specs.declared.operator.UnaryOperator.TheVariants.{Not}
use Rattle.sc_ast.specs.declared.place.Place.{Place}
use Rattle.sc_ast.specs.declared.policy.Condition.{Condition}
use Rattle.sc_ast.specs.declared.policy.ConditionKind.{ConditionKind}
use Rattle.sc_ast.specs.declared.policy.ConditionKind.TheVariants.{When, Unless}
use Rattle.sc_ast.specs.declared.policy.Policy.{Policy}
use Rattle.sc_ast.specs.declared.scope.ActionConstraint.{ActionConstraint}
use Rattle.sc_ast.specs.declared.scope.ActionConstraint.TheVariants as action
use Rattle.sc_ast.specs.declared.scope.Constraint.{Constraint}
use Rattle.sc_ast.specs.declared.scope.Constraint.TheVariants as constraint
use Rattle.sc_ast.specs.declared.scope.Scope.{Scope}
use Rattle.sc_ast.specs.Conditions.{Conjunct, truth, entity, asked, is_in_any, asked_of_action, at, scope_part, action_part, required, clause, conjuncts, condition}
use Rattle.sc_ast.specs.Conditions as conditions
use Rattle.sc_ast.specs.Literals.{uids_step, expr_uids, constraint_uids, action_uids, policy_uids}
use Rattle.sc_names.specs.declared.uid.Uid.{Uid}
use Rattle.sc_soundness_laws.proofs.ActingLaws.{uids_of}
use Rattle.sc_soundness_laws.proofs.ListLaws.{split, joined}

module _ (P : Uid → Type 0) where
  abbrev IsAll : Expr → Type 0
  IsAll x = AllByRecursion P (expr_uids x)

  abbrev IsAllOf : Conjunct → Type 0
  IsAllOf c = IsAll c.1

  by_uids : (x : Expr) (y : Expr-F Expr) → roll-Expr y ≡ x → AllByRecursion P (uids_step (map-Expr Expr (List Uid) expr_uids y)) → IsAll x
  by_uids x y is h = subst (AllByRecursion P) (sym (uids_of x y is)) h

  binary : (place : Place) (operator : BinaryOperator) (a b : Expr) → IsAll a → IsAll b → IsAll (expr.Binary place operator a b)
  binary place operator a b h k = by_uids (expr.Binary place operator a b) (e.Binary place operator a b) (rolls-Binary place operator a b) (joined P (expr_uids a) (expr_uids b) h k)

  literal_all : (l : EntityLiteral) → P l.uid → IsAll (entity l)
  literal_all l h = by_uids (entity l) (e.Literal l.place (literal.Entity l.uid)) (rolls-Literal l.place (literal.Entity l.uid)) (h, tt)

  variable_all : (place : Place) (x : Variable) → IsAll (expr.Variable place x)
  variable_all place x = by_uids (expr.Variable place x) (e.Variable place x) (rolls-Variable place x) tt

  -- ---- the scope

  asked_all : (x : Expr) → IsAll x → (c : Constraint) → AllByRecursion P (constraint_uids c) → AllByRecursion IsAll (asked x c)
  asked_all x h constraint.Any k = tt
  asked_all x h (constraint.Equal place l) k = (binary place Equal x (entity l) h (literal_all l k.0), tt)
  asked_all x h (constraint.In place l) k = (binary place In x (entity l) h (literal_all l k.0), tt)
  asked_all x h (constraint.Is place t) k = (by_uids (expr.Is place x t) (e.Is place x t) (rolls-Is place x t) h, tt)
  asked_all x h (constraint.IsIn place t in_place l) k =
      (by_uids (expr.IsIn place x t in_place (entity l)) (e.IsIn place x t in_place (entity l)) (rolls-IsIn place x t in_place (entity l)) (joined P (expr_uids x) (expr_uids (entity l)) h (literal_all l k.0)), tt)

  entities_all : (ls : List EntityLiteral) → AllByRecursion P (map (λ (l : EntityLiteral). l.uid) ls) → AllByRecursion P (flat_map (λ (us : List Uid). us) (map expr_uids (map entity ls)))
  entities_all [] h = tt
  entities_all (l ∷ ls) h = joined P (expr_uids (entity l)) (flat_map (λ (us : List Uid). us) (map expr_uids (map entity ls))) (literal_all l h.0) (entities_all ls h.1)

  set_all : (place : Place) (ls : List EntityLiteral) → AllByRecursion P (map (λ (l : EntityLiteral). l.uid) ls) → IsAll (expr.Set place (map entity ls))
  set_all place ls h = by_uids (expr.Set place (map entity ls)) (e.Set place (map entity ls)) (rolls-Set place (map entity ls)) (entities_all ls h)

  in_any_all : (x : Expr) (place bracket : Place) (ls : List EntityLiteral) → IsAll x → AllByRecursion P (map (λ (l : EntityLiteral). l.uid) ls) → IsAll (is_in_any x place bracket ls)
  in_any_all x place bracket [] h k = by_uids (expr.Literal place (literal.Bool false)) (e.Literal place (literal.Bool false)) (rolls-Literal place (literal.Bool false)) tt
  in_any_all x place bracket (l ∷ ls) h k = binary place In x (expr.Set bracket (map entity (l ∷ ls))) h (set_all bracket (l ∷ ls) k)

  asked_of_action_all : (x : Expr) → IsAll x → (c : ActionConstraint) → AllByRecursion P (action_uids c) → AllByRecursion IsAll (asked_of_action x c)
  asked_of_action_all x h action.Any k = tt
  asked_of_action_all x h (action.Equal place l) k = (binary place Equal x (entity l) h (literal_all l k.0), tt)
  asked_of_action_all x h (action.In place l) k = (binary place In x (entity l) h (literal_all l k.0), tt)
  asked_of_action_all x h (action.InAny place bracket ls) k = (in_any_all x place bracket ls h k, tt)

  at_all : (place : Place) (xs : List Expr) → AllByRecursion IsAll xs → AllByRecursion IsAllOf (at place xs)
  at_all place [] h = tt
  at_all place (x ∷ xs) h = (h.0, at_all place xs h.1)

  scope_all : (x : Variable) (s : Scope) → AllByRecursion P (constraint_uids s.constraint) → AllByRecursion IsAllOf (scope_part x s)
  scope_all x s h = at_all s.place (asked (expr.Variable s.place x) s.constraint) (asked_all (expr.Variable s.place x) (variable_all s.place x) s.constraint h)

  -- ---- clauses

  required_all : (kind : ConditionKind) (place : Place) (body : Expr) → IsAll body → IsAll (required kind place body)
  required_all When place body h = h
  required_all Unless place body h = by_uids (expr.Unary place Not body) (e.Unary place Not body) (rolls-Unary place Not body) h

  clauses_all : (cs : List Condition) → AllByRecursion P (flat_map (λ (c : Condition). expr_uids c.body) cs) → AllByRecursion IsAllOf (map clause cs)
  clauses_all [] h = tt
  clauses_all (c ∷ cs) h =
      let p = split P (expr_uids c.body) (flat_map (λ (d : Condition). expr_uids d.body) cs) h in
      (required_all c.kind c.place c.body p.0, clauses_all cs p.1)

  -- ---- the whole

  folded_all : (x : Expr) (cs : List Conjunct) → IsAll x → AllByRecursion IsAllOf cs → IsAll (fold conditions.joined x cs)
  folded_all x [] h k = h
  folded_all x (c ∷ cs) h k =
      folded_all (conditions.joined x c) cs (by_uids (expr.And c.0 x c.1) (e.And c.0 x c.1) (rolls-And c.0 x c.1) (joined P (expr_uids x) (expr_uids c.1) h k.0)) k.1

  -- what holds of each uid of a policy holds of each uid of its condition
  pub condition-uids : (p : Policy) → AllByRecursion P (policy_uids p) → IsAll (condition p)
  condition-uids p h =
      let clause_uids : List Uid = flat_map (λ (c : Condition). expr_uids c.body) p.conditions in
      let a = split P (constraint_uids p.principal.constraint) (action_uids p.action.constraint ++ (constraint_uids p.resource.constraint ++ clause_uids)) h in
      let b = split P (action_uids p.action.constraint) (constraint_uids p.resource.constraint ++ clause_uids) a.1 in
      let c = split P (constraint_uids p.resource.constraint) clause_uids b.1 in
      let clauses = clauses_all p.conditions c.1 in
      let resource = joined IsAllOf (scope_part Resource p.resource) (map clause p.conditions) (scope_all Resource p.resource c.0) clauses in
      let acting = asked_of_action_all (expr.Variable p.action.place Action) (variable_all p.action.place Action) p.action.constraint b.0 in
      let rest = joined IsAllOf (action_part p.action) (scope_part Resource p.resource ++ map clause p.conditions) (at_all p.action.place (asked_of_action (expr.Variable p.action.place Action) p.action.constraint) acting) resource in
      folded_all (truth p.place) (conjuncts p)
      (by_uids (truth p.place) (e.Literal p.place (literal.Bool true)) (rolls-Literal p.place (literal.Bool true)) tt)
      (joined IsAllOf (scope_part Principal p.principal) (action_part p.action ++ (scope_part Resource p.resource ++ map clause p.conditions)) (scope_all Principal p.principal a.0) rest)
