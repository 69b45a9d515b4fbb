-- What typing derives of a generated policy.
use Rattle.std.proofs.Common.{◌≡◌, ℕ, List, [], codes, pos, true, false, Option, Some, None, refl, sym, ap, ◌∙◌}
use Rattle.std.specs.Option.{option_and_then}
use Rattle.std.specs.Prelude.{unwrap_or, Result, Ok}
use Rattle.std.specs.Str.Parse.{digits_value}
use Rattle.sc_ast.specs.declared.expr.Expr.{Expr, out-Expr, out-roll-Expr}
use Rattle.sc_ast.specs.declared.expr.Expr.TheVariants as expr
use Rattle.sc_ast.specs.declared.expr.Expr.TheVariants.{rolls-Variable}
use Rattle.sc_ast.specs.declared.expr.Expr.TheOpen as e
use Rattle.sc_ast.specs.declared.expr.Variable.{Variable}
use Rattle.sc_ast.specs.declared.expr.Variable.TheVariants.{Principal, Context}
use Rattle.sc_ast.specs.declared.literal.Literal.{Literal}
use Rattle.sc_ast.specs.declared.literal.Literal.TheVariants as literal
use Rattle.sc_ast.specs.declared.operator.BinaryOperator.TheVariants.{Add, Greater, In}
use Rattle.sc_ast.specs.declared.place.Place.{Place}
use Rattle.sc_names.specs.declared.uid.Uid.{Uid}
use Rattle.sc_schema.specs.declared.ty.Presence.TheVariants.{Required}
use Rattle.sc_schema.specs.declared.ty.Ty.{Ty, out-Ty, out-roll-Ty}
use Rattle.sc_schema.specs.declared.ty.Ty.TheVariants as ty
use Rattle.sc_schema.specs.declared.ty.Ty.TheVariants.{rolls-True, rolls-Bool, rolls-Long, rolls-Entity, rolls-Record}
use Rattle.sc_schema.specs.declared.ty.Ty.TheOpen as t
use Rattle.sc_typed.specs.declared.fault.TypeFault.{TypeFault}
use Rattle.sc_typed.specs.declared.outcome.Typed.{Typed}
use Rattle.sc_typed.specs.declared.typed_expr.TypedExpr.{TypedExpr}
use Rattle.sc_typed.specs.declared.typed_expr.TypedExpr.TheVariants as typed
use Rattle.sc_typed.specs.Literals.{literal_in, literal_of, uid_in}
use Rattle.sc_typed.specs.Outcomes.{made, ◌>>=◌}
use Rattle.sc_typed.specs.Outcomes as outcome
use Rattle.sc_typed.specs.TypedExprs.{type_of}
use Rattle.sc_typed.specs.Types.{Field, is_true, is_true_in, is_false, is_false_in, is_boolean, is_boolean_in, is_long, is_long_in, entity_name, entity_name_in, group, group_in, attributes, attributes_in}
use Rattle.sc_typed.proofs.TypeOfLaws.{type_of_And, type_of_Binary, type_of_Access, type_of_Literal, type_of_Variable}
use Rattle.sc_typing.specs.Policies.{acting, asked, typed_policy}
use Rattle.sc_typing_rules.specs.Operators.{decided, decided_by, action_of, group_of}
use Rattle.sc_typing_rules.specs.Rules.{and_type}
use Rattle.sc_typing_laws.specs.Derivations.{Derives, of_and, of_binary, of_in, of_access, of_literal, of_variable}
use Rattle.sc_typing_laws.specs.Operations.{of_comparison, of_arithmetic, greater, addition}
use Rattle.sc_typing_laws.proofs.GivenLaws.{given}
use Rattle.sc_generated_laws.specs.Lines.{body_of, policy_of}
use Rattle.sc_generated_typing_laws.specs.Schema.{free, entity, context_fields, context, view, document, group as group_type, user, viewing, declared, environment}
use Rattle.sc_generated_typing_laws.proofs.TypingLaws.{acting_And, acting_Binary, acting_Access, acting_Literal, acting_Variable}

-- ---- types

type_is : (x : TypedExpr) (type : Ty) → type_of x ≡ Some type → outcome.ty x ≡ type
type_is x type e = ap (λ (o : Option Ty). unwrap_or o ty.Bool) e

long_is : is_long ty.Long ≡ true
long_is = ap (λ z. is_long_in (out-Ty z)) (sym rolls-Long) ∙ ap is_long_in (out-roll-Ty t.Long)

bool_is : is_boolean ty.Bool ≡ true
bool_is = ap (λ z. is_boolean_in (out-Ty z)) (sym rolls-Bool) ∙ ap is_boolean_in (out-roll-Ty t.Bool)

bool_open : is_false ty.Bool ≡ false
bool_open = ap (λ z. is_false_in (out-Ty z)) (sym rolls-Bool) ∙ ap is_false_in (out-roll-Ty t.Bool)

bool_other : is_true ty.Bool ≡ false
bool_other = ap (λ z. is_true_in (out-Ty z)) (sym rolls-Bool) ∙ ap is_true_in (out-roll-Ty t.Bool)

true_is : is_boolean ty.True ≡ true
true_is = ap (λ z. is_boolean_in (out-Ty z)) (sym rolls-True) ∙ ap is_boolean_in (out-roll-Ty t.True)

true_open : is_false ty.True ≡ false
true_open = ap (λ z. is_false_in (out-Ty z)) (sym rolls-True) ∙ ap is_false_in (out-roll-Ty t.True)

entity_is : (name : List ℕ) → entity_name (entity name) ≡ Some name
entity_is name = ap (λ z. entity_name_in (out-Ty z)) (sym (rolls-Entity (free name))) ∙ ap entity_name_in (out-roll-Ty (t.Entity (free name)))

group_is : (name : List ℕ) → group (entity name) ≡ Some name
group_is name = ap (λ z. group_in (out-Ty z)) (sym (rolls-Entity (free name))) ∙ ap group_in (out-roll-Ty (t.Entity (free name)))

fields_are : (fields : List Field) → attributes declared (ty.Record fields) ≡ Some fields
fields_are fields = ap (λ z. attributes_in declared (out-Ty z)) (sym (rolls-Record fields)) ∙ ap (attributes_in declared) (out-roll-Ty (t.Record fields))

-- ---- expressions

abbrev sum_of : (ℕ → Place) → List ℕ → Expr
sum_of at c = expr.Binary (at 13) Add (expr.Access (at 11) (expr.Variable (at 10) Context) (codes "n")) (expr.Literal (at 14) (literal.Long (pos (digits_value 10 c))))

abbrev comparison_of : (ℕ → Place) → List ℕ → List ℕ → Expr
comparison_of at c d = expr.Binary (at 15) Greater (sum_of at c) (expr.Literal (at 16) (literal.Long (pos (digits_value 10 d))))

abbrev typed_comparison : (ℕ → Place) → List ℕ → List ℕ → TypedExpr
typed_comparison at c d =
    typed.Binary (at 15) ty.Bool Greater
    (typed.Binary (at 13) ty.Long Add (typed.Access (at 11) ty.Long (typed.Variable (at 10) context Context) (codes "n")) (typed.Literal (at 14) ty.Long (literal.Long (pos (digits_value 10 c)))))
    (typed.Literal (at 16) ty.Long (literal.Long (pos (digits_value 10 d))))

abbrev membership_of : (ℕ → Place) → List ℕ → Expr
membership_of at id = expr.Binary (at 19) In (expr.Variable (at 18) Principal) (expr.Literal (at 20) (literal.Entity (record { type_name = codes "Group"; id = id })))

abbrev typed_membership : (ℕ → Place) → List ℕ → TypedExpr
typed_membership at id =
    typed.Binary (at 19) ty.Bool In (typed.Variable (at 18) (entity (codes "User")) Principal) (typed.Literal (at 20) (entity (codes "Group")) (literal.Entity (record { type_name = codes "Group"; id = id })))

abbrev Given : Expr → TypedExpr → Type 0
Given x y = Derives declared environment (acting view x) [] (made y [])

number : (p : Place) (n : _) → Given (expr.Literal p (literal.Long n)) (typed.Literal p ty.Long (literal.Long n))
number p n = of_literal _ [] _ p (literal.Long n) (acting_Literal view p (literal.Long n)) refl

the_context : (p : Place) → Given (expr.Variable p Context) (typed.Variable p context Context)
unfolding declared viewing
the_context p = of_variable _ [] _ p Context (acting_Variable view p Context) refl

attribute_n : (p q : Place) → Given (expr.Access p (expr.Variable q Context) (codes "n")) (typed.Access p ty.Long (typed.Variable q context Context) (codes "n"))
unfolding context_fields
attribute_n p q =
    of_access _ [] _ p (acting view (expr.Variable q Context)) (codes "n") (made (typed.Variable q context Context) []) context_fields (codes "n", Required, ty.Long)
    (acting_Access view p (expr.Variable q Context) (codes "n")) (the_context q) (ap (attributes declared) (type_is (typed.Variable q context Context) context (type_of_Variable q context Context)) ∙ fields_are context_fields) refl refl refl

sum : (p q r v : Place) (n : _) → Given (expr.Binary p Add (expr.Access q (expr.Variable r Context) (codes "n")) (expr.Literal v (literal.Long n)))
    (typed.Binary p ty.Long Add (typed.Access q ty.Long (typed.Variable r context Context) (codes "n")) (typed.Literal v ty.Long (literal.Long n)))
sum p q r v n =
    let x = typed.Access q ty.Long (typed.Variable r context Context) (codes "n") in
    let y = typed.Literal v ty.Long (literal.Long n) in
    of_binary _ [] _ p Add _ _ (made x []) (made y []) ty.Long (acting_Binary view p Add (expr.Access q (expr.Variable r Context) (codes "n")) (expr.Literal v (literal.Long n))) (attribute_n q r) (number v n)
    (of_arithmetic Add addition (ap is_long (type_is x ty.Long (type_of_Access q ty.Long (typed.Variable r context Context) (codes "n"))) ∙ long_is) (ap is_long (type_is y ty.Long (type_of_Literal v ty.Long (literal.Long n))) ∙ long_is)) refl

compared : (at : ℕ → Place) (c d : List ℕ) → Given (comparison_of at c d) (typed_comparison at c d)
compared at c d =
    let x = typed.Binary (at 13) ty.Long Add (typed.Access (at 11) ty.Long (typed.Variable (at 10) context Context) (codes "n")) (typed.Literal (at 14) ty.Long (literal.Long (pos (digits_value 10 c)))) in
    let y = typed.Literal (at 16) ty.Long (literal.Long (pos (digits_value 10 d))) in
    of_binary _ [] _ (at 15) Greater _ _ (made x []) (made y []) ty.Bool (acting_Binary view (at 15) Greater (sum_of at c) (expr.Literal (at 16) (literal.Long (pos (digits_value 10 d)))))
    (sum (at 13) (at 11) (at 10) (at 14) (pos (digits_value 10 c))) (number (at 16) (pos (digits_value 10 d)))
    (of_comparison Greater greater (ap is_long (type_is x ty.Long (type_of_Binary (at 13) ty.Long Add _ _)) ∙ long_is) (ap is_long (type_is y ty.Long (type_of_Literal (at 16) ty.Long (literal.Long (pos (digits_value 10 d))))) ∙ long_is)) refl

-- the principal is no uid
no_literal : (p : Place) (x : Variable) → literal_of (expr.Variable p x) ≡ None
no_literal p x = ap (λ z. literal_in (out-Expr z)) (sym (rolls-Variable p x)) ∙ ap literal_in (out-roll-Expr (e.Variable p x))

undecided : (p : Place) (b : Expr) → decided declared (acting view (expr.Variable p Principal)) b ≡ None
undecided p b =
    ap (λ (z : Expr). decided declared z b) (acting_Variable view p Principal)
    ∙ ap (λ (o : Option Literal). decided_by (action_of declared (option_and_then uid_in o)) (group_of b)) (no_literal p Principal)

among : (at : ℕ → Place) (id : List ℕ) → Given (membership_of at id) (typed_membership at id)
unfolding declared document group_type user viewing
among at id =
    let uid : Uid = record { type_name = codes "Group"; id = id } in
    let x = typed.Variable (at 18) (entity (codes "User")) Principal in
    let y = typed.Literal (at 20) (entity (codes "Group")) (literal.Entity uid) in
    of_in _ [] _ (at 19) _ _ (made x []) (made y []) (codes "User") (codes "Group") (acting_Binary view (at 19) In (expr.Variable (at 18) Principal) (expr.Literal (at 20) (literal.Entity uid)))
    (of_variable _ [] _ (at 18) Principal (acting_Variable view (at 18) Principal) refl) (undecided (at 18) (acting view (expr.Literal (at 20) (literal.Entity uid))))
    (of_literal _ [] _ (at 20) (literal.Entity uid) (acting_Literal view (at 20) (literal.Entity uid)) refl)
    (ap entity_name (type_is x (entity (codes "User")) (type_of_Variable (at 18) (entity (codes "User")) Principal)) ∙ entity_is (codes "User"))
    (ap group (type_is y (entity (codes "Group")) (type_of_Literal (at 20) (entity (codes "Group")) (literal.Entity uid))) ∙ group_is (codes "Group")) refl

-- `a && b` of two expressions of type Bool
both : (p : Place) (a b : Expr) (x y : TypedExpr) → outcome.ty x ≡ ty.Bool → outcome.ty y ≡ ty.Bool → Given a x → Given b y → Given (expr.And p a b) (typed.And p (and_type x y) x y)
both p a b x y f g h k =
    let open_y : is_false (outcome.ty y) ≡ false = ap is_false g ∙ bool_open in
    of_and _ [] _ p _ _ (made x []) (made y []) (acting_And view p a b) h (ap is_false f ∙ bool_open) k (ap is_boolean f ∙ bool_is) (ap is_boolean g ∙ bool_is)
    (rw open_y refl)

and_bool : (x y : TypedExpr) → outcome.ty y ≡ ty.Bool → and_type x y ≡ ty.Bool
and_bool x y g =
    let open_y : is_false (outcome.ty y) ≡ false = ap is_false g ∙ bool_open in
    let other_y : is_true (outcome.ty y) ≡ false = ap is_true g ∙ bool_other in
    rw (open_y, other_y) refl

-- ---- the policy

abbrev typed_body : (ℕ → Place) → List ℕ → List ℕ → List ℕ → TypedExpr
typed_body at c d id = typed.And (at 17) (and_type (typed_comparison at c d) (typed_membership at id)) (typed_comparison at c d) (typed_membership at id)

member_bool : (at : ℕ → Place) (id : List ℕ) → outcome.ty (typed_membership at id) ≡ ty.Bool
member_bool at id = type_is (typed_membership at id) ty.Bool (type_of_Binary (at 19) ty.Bool In _ _)

body_given : (at : ℕ → Place) (c d id : List ℕ) → Given (body_of at c d id) (typed_body at c d id)
body_given at c d id =
    both (at 17) (comparison_of at c d) (membership_of at id) (typed_comparison at c d) (typed_membership at id) (type_is (typed_comparison at c d) ty.Bool (type_of_Binary (at 15) ty.Bool Greater _ _)) (member_bool at id)
    (compared at c d) (among at id)

body_bool : (at : ℕ → Place) (c d id : List ℕ) → outcome.ty (typed_body at c d id) ≡ ty.Bool
body_bool at c d id = type_is (typed_body at c d id) _ (type_of_And (at 17) _ (typed_comparison at c d) (typed_membership at id)) ∙ and_bool (typed_comparison at c d) (typed_membership at id) (member_bool at id)

abbrev truth : (ℕ → Place) → TypedExpr
truth at = typed.Literal (at 0) ty.True (literal.Bool true)

abbrev typed_condition : (ℕ → Place) → List ℕ → List ℕ → List ℕ → TypedExpr
typed_condition at c d id = typed.And (at 8) (and_type (truth at) (typed_body at c d id)) (truth at) (typed_body at c d id)

condition_given : (at : ℕ → Place) (c d id : List ℕ) → Derives declared environment (asked environment (policy_of at c d id)) [] (made (typed_condition at c d id) [])
condition_given at c d id =
    let first : outcome.ty (truth at) ≡ ty.True = type_is (truth at) ty.True (type_of_Literal (at 0) ty.True (literal.Bool true)) in
    let open_y : is_false (outcome.ty (typed_body at c d id)) ≡ false = ap is_false (body_bool at c d id) ∙ bool_open in
    of_and _ [] _ (at 8) _ _ (made (truth at) []) (made (typed_body at c d id) []) (acting_And view (at 8) (expr.Literal (at 0) (literal.Bool true)) (body_of at c d id))
    (of_literal _ [] _ (at 0) (literal.Bool true) (acting_Literal view (at 0) (literal.Bool true)) refl) (ap is_false first ∙ true_open) (body_given at c d id) (ap is_boolean first ∙ true_is)
    (ap is_boolean (body_bool at c d id) ∙ bool_is) (rw open_y refl)

condition_bool : (at : ℕ → Place) (c d id : List ℕ) → is_boolean (outcome.ty (typed_condition at c d id)) ≡ true
condition_bool at c d id =
    ap is_boolean (type_is (typed_condition at c d id) _ (type_of_And (at 8) _ (truth at) (typed_body at c d id)) ∙ and_bool (truth at) (typed_body at c d id) (body_bool at c d id)) ∙ bool_is

pub policy_typed : (at : ℕ → Place) (c d id : List ℕ) → typed_policy declared environment (policy_of at c d id) ≡ Ok (typed_condition at c d id)
policy_typed at c d id =
    ap (λ (o : Result Typed TypeFault). o >>= λ x. outcome.as_boolean x.expr >>= λ q. Ok x.expr) (given declared environment (asked environment (policy_of at c d id)) [] (made (typed_condition at c d id) []) (condition_given at c d id))
    ∙ rw (condition_bool at c d id) refl
