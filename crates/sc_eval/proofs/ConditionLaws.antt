-- The constants of a policy's condition are proper where those of its scope and of its clauses are.
use Rattle.std.proofs.Common.{List, [], ◌∷◌, ◌++◌, map, fold, Bool, true, false}
use Rattle.std.specs.List.{AllByRecursion}
use Rattle.sc_lists.proofs.ListLaws.{all_append}
use Rattle.sc_values.specs.Proper.{IsUidText, IsProperLevel}
use Rattle.sc_values.proofs.LevelLaws as level
use Rattle.sc_ast.specs.declared.expr.Expr.{Expr}
use Rattle.sc_ast.specs.declared.expr.Expr.TheVariants as expr
use Rattle.sc_ast.specs.declared.expr.Variable.{Variable}
use Rattle.sc_ast.specs.declared.expr.Variable.TheVariants.{Principal, Action, Resource}
use Rattle.sc_ast.specs.declared.literal.EntityLiteral.{EntityLiteral}
use Rattle.sc_ast.specs.declared.literal.Literal.TheVariants as literal
use Rattle.sc_ast.specs.declared.operator.BinaryOperator.TheVariants.{Equal, In}
use Rattle.sc_ast.specs.declared.operator.UnaryOperator.TheVariants.{Not}
use Rattle.sc_ast.specs.declared.place.Place.{Place}
use Rattle.sc_ast.specs.declared.policy.Condition.{Condition}
use Rattle.sc_ast.specs.declared.policy.ConditionKind.{ConditionKind}
use Rattle.sc_ast.specs.declared.policy.ConditionKind.TheVariants.{When, Unless}
use Rattle.sc_ast.specs.declared.policy.Policy.{Policy}
use Rattle.sc_ast.specs.declared.scope.ActionConstraint.{ActionConstraint}
use Rattle.sc_ast.specs.declared.scope.ActionConstraint.TheVariants as action
use Rattle.sc_ast.specs.declared.scope.ActionScope.{ActionScope}
use Rattle.sc_ast.specs.declared.scope.Constraint.{Constraint}
use Rattle.sc_ast.specs.declared.scope.Constraint.TheVariants as constraint
use Rattle.sc_ast.specs.declared.scope.Scope.{Scope}
use Rattle.sc_ast.specs.Conditions as conditions
use Rattle.sc_ast.specs.Conditions.{Conjunct, condition}
use Rattle.sc_ast.specs.Literals.{constraint_uids, action_uids}
use Rattle.sc_eval.specs.Written.{HasProperConstants, HaveProperConstants, HasTextUid, IsProperPolicy}
use Rattle.sc_eval.proofs.ConstantLaws.{proper_And, proper_Binary, proper_Is, proper_IsIn, proper_Unary, proper_Literal, proper_Variable, proper_Set}

abbrev IsProperConjunct : Conjunct → Type 0
IsProperConjunct c = HasProperConstants c.1

-- ---- literals

truth_proper : (p : Place) (b : Bool) → HasProperConstants (expr.Literal p (literal.Bool b))
truth_proper p b = proper_Literal p (literal.Bool b) ((level.in_Bool IsProperLevel b).1 tt)

entity_proper : (l : EntityLiteral) → IsUidText l.uid → HasProperConstants (conditions.entity l)
entity_proper l h = proper_Literal l.place (literal.Entity l.uid) ((level.in_Entity IsProperLevel l.uid).1 h)

-- ---- scopes

pub uids_of : (ls : List EntityLiteral) → AllByRecursion HasTextUid ls → AllByRecursion IsUidText (map (λ (l : EntityLiteral). l.uid) ls)
unfolding HasTextUid
uids_of [] h = tt
uids_of (l ∷ ls) h = (h.0, uids_of ls h.1)

all_entities : (ls : List EntityLiteral) → AllByRecursion IsUidText (map (λ (l : EntityLiteral). l.uid) ls) → AllByRecursion HasProperConstants (map conditions.entity ls)
all_entities [] h = tt
all_entities (l ∷ ls) h = (entity_proper l h.0, all_entities ls h.1)

in_some : (x : Expr) (place bracket : Place) (ls : List EntityLiteral) → HasProperConstants x → AllByRecursion IsUidText (map (λ (l : EntityLiteral). l.uid) ls) → HasProperConstants (conditions.is_in_any x place bracket ls)
in_some x place bracket [] h k = truth_proper place false
in_some x place bracket (l ∷ ls) h k =
    proper_Binary place In x (expr.Set bracket (map conditions.entity (l ∷ ls))) h (proper_Set bracket (map conditions.entity (l ∷ ls)) (all_entities (l ∷ ls) k))

asked_proper : (x : Expr) (c : Constraint) → HasProperConstants x → AllByRecursion IsUidText (constraint_uids c) → AllByRecursion HasProperConstants (conditions.asked x c)
asked_proper x constraint.Any h k = tt
asked_proper x (constraint.Equal p l) h k = (proper_Binary p Equal x (conditions.entity l) h (entity_proper l k.0), tt)
asked_proper x (constraint.In p l) h k = (proper_Binary p In x (conditions.entity l) h (entity_proper l k.0), tt)
asked_proper x (constraint.Is p t) h k = (proper_Is p x t h, tt)
asked_proper x (constraint.IsIn p t q l) h k = (proper_IsIn p x t q (conditions.entity l) h (entity_proper l k.0), tt)

action_proper : (x : Expr) (c : ActionConstraint) → HasProperConstants x → AllByRecursion IsUidText (action_uids c) → AllByRecursion HasProperConstants (conditions.asked_of_action x c)
action_proper x action.Any h k = tt
action_proper x (action.Equal p l) h k = (proper_Binary p Equal x (conditions.entity l) h (entity_proper l k.0), tt)
action_proper x (action.In p l) h k = (proper_Binary p In x (conditions.entity l) h (entity_proper l k.0), tt)
action_proper x (action.InAny p q ls) h k = (in_some x p q ls h k, tt)

at_place : (place : Place) (xs : List Expr) → AllByRecursion HasProperConstants xs → AllByRecursion IsProperConjunct (conditions.at place xs)
at_place place [] h = tt
at_place place (x ∷ xs) h = (h.0, at_place place xs h.1)

scope_proper : (v : Variable) (s : Scope) → AllByRecursion IsUidText (constraint_uids s.constraint) → AllByRecursion IsProperConjunct (conditions.scope_part v s)
scope_proper v s k =
    at_place s.place (conditions.asked (expr.Variable s.place v) s.constraint) (asked_proper (expr.Variable s.place v) s.constraint (proper_Variable s.place v) k)

action_scope_proper : (s : ActionScope) → AllByRecursion IsUidText (action_uids s.constraint) → AllByRecursion IsProperConjunct (conditions.action_part s)
action_scope_proper s k =
    at_place s.place (conditions.asked_of_action (expr.Variable s.place Action) s.constraint) (action_proper (expr.Variable s.place Action) s.constraint (proper_Variable s.place Action) k)

-- ---- clauses

required_proper : (kind : ConditionKind) (place : Place) (body : Expr) → HasProperConstants body → HasProperConstants (conditions.required kind place body)
required_proper When place body h = h
required_proper Unless place body h = proper_Unary place Not body h

all_required : (cs : List Condition) → AllByRecursion (λ (c : Condition). HasProperConstants c.body) cs → AllByRecursion IsProperConjunct (map conditions.clause cs)
all_required [] h = tt
all_required (c ∷ cs) h = (required_proper c.kind c.place c.body h.0, all_required cs h.1)

-- ---- a policy

joined_proper : (x : Expr) (cs : List Conjunct) → HasProperConstants x → AllByRecursion IsProperConjunct cs → HasProperConstants (fold conditions.joined x cs)
joined_proper x [] h k = h
joined_proper x (c ∷ cs) h k = joined_proper (conditions.joined x c) cs (proper_And c.0 x c.1 h k.0) k.1

pub policy_proper : (p : Policy) → AllByRecursion IsUidText (constraint_uids p.principal.constraint) → AllByRecursion IsUidText (action_uids p.action.constraint) → AllByRecursion IsUidText (constraint_uids p.resource.constraint)
    → AllByRecursion (λ (c : Condition). HasProperConstants c.body) p.conditions → IsProperPolicy p
unfolding IsProperPolicy
policy_proper p principal acting resource clauses =
    let cs = map conditions.clause p.conditions in
    let third = conditions.scope_part Resource p.resource ++ cs in
    let second = conditions.action_part p.action ++ third in
    let after_action = all_append IsProperConjunct (conditions.scope_part Resource p.resource) cs (scope_proper Resource p.resource resource) (all_required p.conditions clauses) in
    let after_principal = all_append IsProperConjunct (conditions.action_part p.action) third (action_scope_proper p.action acting) after_action in
    joined_proper (conditions.truth p.place) (conditions.scope_part Principal p.principal ++ second) (truth_proper p.place true)
    (all_append IsProperConjunct (conditions.scope_part Principal p.principal) second (scope_proper Principal p.principal principal) after_principal)

pub all_proper : (ps : List Policy) → AllByRecursion IsProperPolicy ps → HaveProperConstants ps
unfolding IsProperPolicy
all_proper ps h = h
