-- An expression whose places are moved is typed as before, with its places moved.
use Rattle.std.proofs.Common.{◌≡◌, ◌++◌, ℕ, List, [], ◌∷◌, map, Bool, if◌then◌else◌, Option, Some, None, Result, Ok, refl, sym, ap, subst, ◌∙◌}
use Rattle.sc_ast.specs.declared.expr.Expr.{Expr, Expr-F, roll-Expr, map-Expr, ind-Expr}
use Rattle.sc_ast.specs.declared.expr.Expr.TheOpen as e
use Rattle.sc_ast.specs.declared.expr.Expr.TheVariants as expr
use Rattle.sc_ast.specs.declared.expr.Expr.TheVariants.{rolls-If, rolls-Or, rolls-And, rolls-Binary, rolls-Has, rolls-Like, rolls-Is, rolls-IsIn, rolls-Unary, rolls-Access, rolls-Literal, rolls-Variable, rolls-Set, rolls-Record}
use Rattle.sc_ast.specs.declared.expr.TypeName.{TypeName}
use Rattle.sc_ast.specs.declared.operator.BinaryOperator.{BinaryOperator}
use Rattle.sc_ast.specs.declared.operator.BinaryOperator.TheVariants.{In}
use Rattle.sc_ast.specs.declared.operator.UnaryOperator.{UnaryOperator}
use Rattle.sc_ast.specs.declared.place.Place.{Place}
use Rattle.sc_pattern.specs.declared.part.Part.{Part}
use Rattle.sc_schema.specs.declared.declarations.Env.{Env}
use Rattle.sc_schema.specs.declared.ty.Ty.{Ty}
use Rattle.sc_schema.specs.declared.ty.Ty.TheVariants as types
use Rattle.sc_schema.specs.Declarations.{Declarations}
use Rattle.sc_typed.specs.declared.fault.TypeFault.{TypeFault}
use Rattle.sc_typed.specs.declared.fault.TypeRule.TheVariants.{NotBoolean, NoJoin, NotString, NotEntity}
use Rattle.sc_typed.specs.declared.outcome.Typed.{Typed}
use Rattle.sc_typed.specs.declared.typed_expr.TypedExpr.{TypedExpr}
use Rattle.sc_typed.specs.declared.typed_expr.TypedExpr.TheVariants as typed
use Rattle.sc_typed.specs.Capabilities.{Capabilities, bare, common}
use Rattle.sc_typed.specs.Outcomes.{Outcome, ◌>>=◌, gives, ty, as_boolean, as_string, as_entity, joined}
use Rattle.sc_typed.specs.TypedExprs.{place_of}
use Rattle.sc_typed.specs.Types.{is_true, is_false, is_boolean, is_string, entity_name, truth, join}
use Rattle.sc_typing_rules.specs.Operators.{within, binary, given_by, unary, decided}
use Rattle.sc_typing_rules.specs.Paths.{Subject, no_names, along}
use Rattle.sc_typing_rules.specs.Rules.{Operand, first_branch, second_branch, branches, choice_open, or_type, or_given, disjunction, and_type, and_given, conjunction, literal_type, literal_typed, membership_by, membership, operation, computed, subject, path_of, is_of, read_type, all_typed, fields_typed, member_type, record_type, variable_type}
use Rattle.sc_typing.specs.Typing.{typing, part}
use Rattle.sc_typing.proofs.TypingLaws as construct
use Rattle.sc_typing_laws.specs.Moved.{name_moved, moved, typed_moved, given_moved, result_moved, outcome_moved}
use Rattle.sc_typing_laws.proofs.ShapeLaws as shape
use Rattle.sc_typing_laws.proofs.RuleLaws as rule

module _ (s : Declarations) (env : Env) (move : Place → Place) where
  abbrev me : Expr → Expr
  me = moved move

  abbrev mt : TypedExpr → TypedExpr
  mt = typed_moved move

  abbrev gm : Typed → Typed
  gm = given_moved move

  abbrev Moves : {A B : Type 0} → (A → B) → Result A TypeFault → Result B TypeFault → Type 0
  Moves f o r = r ≡ result_moved move f o

  abbrev IsMoved : Expr → Type 0
  IsMoved x = (known : Capabilities) → Moves gm (typing s env x known) (typing s env (me x) known)

  -- what a construct gives, and what it gives moved
  by_rule : (x z : Expr) (known : Capabilities) (o r : Outcome) → me x ≡ z → typing s env x known ≡ o → typing s env z known ≡ r → Moves gm o r → Moves gm (typing s env x known) (typing s env (me x) known)
  by_rule x z known o r at is to h = ap (λ y. typing s env y known) at ∙ to ∙ h ∙ sym (ap (λ (q : Outcome). result_moved move gm q) is)

  made_at : (z y : TypedExpr) (given : Capabilities) → mt z ≡ y → Moves gm (gives z given) (gives y given)
  made_at z y given h = ap (λ x. gives x given) (sym h)

  tested_at : (n : TypeName) (x : TypedExpr) → Moves (λ u. u) (is_of n x) (is_of (name_moved move n) (mt x))
  tested_at n x = rule.follows move (as_entity x) _ (λ u. u) _ _ (λ u. u) (rule.find_at move entity_name NotEntity x) λ u. refl

  -- ---- `if`, `||`, `&&`

  module _ (p : Place) (c a b : Expr) (g : IsMoved c) (h : IsMoved a) (k : IsMoved b) where
    first_at : (x y : Typed) → Moves gm (Ok (first_branch p x y b)) (Ok (first_branch (move p) (gm x) (gm y) (me b)))
    first_at x y =
        let type = shape.ty_moved move y.expr in
        let skipped = shape.typed_Skipped move b in
        (λ i. gives (typed.If (move p) (type i) (mt x.expr) (mt y.expr) (sym skipped i)) (x.given ++ y.given))
        ∙ made_at (typed.If p (ty y.expr) x.expr y.expr (typed.Skipped b)) _ (x.given ++ y.given) (shape.typed_If move p (ty y.expr) x.expr y.expr (typed.Skipped b))

    second_at : (x y : Typed) → Moves gm (Ok (second_branch p x a y)) (Ok (second_branch (move p) (gm x) (me a) (gm y)))
    second_at x y =
        let type = shape.ty_moved move y.expr in
        let skipped = shape.typed_Skipped move a in
        (λ i. gives (typed.If (move p) (type i) (mt x.expr) (sym skipped i) (mt y.expr)) y.given)
        ∙ made_at (typed.If p (ty y.expr) x.expr (typed.Skipped a) y.expr) _ y.given (shape.typed_If move p (ty y.expr) x.expr (typed.Skipped a) y.expr)

    branches_at : (x y v : Typed) → Moves gm (branches p x y v) (branches (move p) (gm x) (gm y) (gm v))
    branches_at x y v =
        let first = shape.ty_moved move y.expr in
        let second = shape.ty_moved move v.expr in
        rule.follows move (as_boolean x.expr) _ (λ u. u) _ _ gm (rule.check_at move is_boolean NotBoolean x.expr) λ u.
        rule.follows move (joined p (ty y.expr) (ty v.expr)) (joined (move p) (ty (mt y.expr)) (ty (mt v.expr))) (λ u. u) _ _ gm
        ((λ i. joined (move p) (first i) (second i)) ∙ rule.finds move (join (ty y.expr) (ty v.expr)) NoJoin p) λ type.
        made_at (typed.If p type x.expr y.expr v.expr) _ (common (x.given ++ y.given) v.given) (shape.typed_If move p type x.expr y.expr v.expr)

    abbrev open_of : Place → Expr → Expr → Typed → Capabilities → Outcome
    open_of q v w x known = choice_open q x (part s env v) (part s env w) known

    open_at : (x : Typed) (known : Capabilities) → Moves gm (open_of p a b x known) (open_of (move p) (me a) (me b) (gm x) known)
    open_at x known =
        rule.follows move (typing s env a (known ++ x.given)) _ gm _ _ gm (h (known ++ x.given)) λ y.
        rule.follows move (typing s env b known) _ gm _ _ gm (k known) λ v. branches_at x y v

    abbrev chosen : Place → Expr → Expr → Typed → Capabilities → Ty → Outcome
    chosen q v w x known type =
        if is_true type then (typing s env v (known ++ x.given) >>= λ y. Ok (first_branch q x y w))
        else (if is_false type then (typing s env w known >>= λ z. Ok (second_branch q x v z))
        else open_of q v w x known)

    moved_choice : IsMoved (expr.If p c a b)
    moved_choice known =
        by_rule (expr.If p c a b) _ known _ _ (shape.moved_If move p c a b) (construct.typing_If s env p c a b known) (construct.typing_If s env (move p) (me c) (me a) (me b) known)
        (rule.follows move (typing s env c known) _ gm _ _ gm (g known) λ x.
        ap (λ (t : Ty). chosen (move p) (me a) (me b) (gm x) known t) (shape.ty_moved move x.expr)
        ∙ rule.either_way move (is_true (ty x.expr)) gm _ _ _ _
        (rule.follows move (typing s env a (known ++ x.given)) _ gm _ _ gm (h (known ++ x.given)) λ y. first_at x y)
        (rule.either_way move (is_false (ty x.expr)) gm _ _ _ _
        (rule.follows move (typing s env b known) _ gm _ _ gm (k known) λ y. second_at x y)
        (open_at x known)))

  module _ (p : Place) (a b : Expr) (h : IsMoved a) (k : IsMoved b) where
    disjunction_at : (x y : Typed) → Moves gm (disjunction p x y) (disjunction (move p) (gm x) (gm y))
    disjunction_at x y =
        let first = shape.ty_moved move x.expr in
        let second = shape.ty_moved move y.expr in
        rule.follows move (as_boolean x.expr) _ (λ u. u) _ _ gm (rule.check_at move is_boolean NotBoolean x.expr) λ u.
        rule.follows move (as_boolean y.expr) _ (λ u. u) _ _ gm (rule.check_at move is_boolean NotBoolean y.expr) λ v.
        (λ i. gives (typed.Or (move p) (if is_false (first i) then second i else (if is_true (second i) then types.True else types.Bool)) (mt x.expr) (mt y.expr))
        (if is_false (first i) then y.given else (if is_true (second i) then [] else (if is_false (second i) then x.given else common x.given y.given))))
        ∙ made_at (typed.Or p (or_type x.expr y.expr) x.expr y.expr) _ (or_given x y) (shape.typed_Or move p (or_type x.expr y.expr) x.expr y.expr)

    or_skipped : (x : Typed) → Moves gm (gives (typed.Or p types.True x.expr (typed.Skipped b)) []) (gives (typed.Or (move p) types.True (mt x.expr) (typed.Skipped (me b))) [])
    or_skipped x =
        ap (λ (y : TypedExpr). gives (typed.Or (move p) types.True (mt x.expr) y) []) (sym (shape.typed_Skipped move b))
        ∙ made_at (typed.Or p types.True x.expr (typed.Skipped b)) _ [] (shape.typed_Or move p types.True x.expr (typed.Skipped b))

    moved_or : IsMoved (expr.Or p a b)
    moved_or known =
        by_rule (expr.Or p a b) _ known _ _ (shape.moved_Or move p a b) (construct.typing_Or s env p a b known) (construct.typing_Or s env (move p) (me a) (me b) known)
        (rule.follows move (typing s env a known) _ gm _ _ gm (h known) λ x.
        ap (λ (t : Ty). if is_true t then gives (typed.Or (move p) types.True (mt x.expr) (typed.Skipped (me b))) [] else (typing s env (me b) known >>= λ y. disjunction (move p) (gm x) y)) (shape.ty_moved move x.expr)
        ∙ rule.either_way move (is_true (ty x.expr)) gm _ _ _ _ (or_skipped x)
        (rule.follows move (typing s env b known) _ gm _ _ gm (k known) λ y. disjunction_at x y))

    conjunction_at : (x y : Typed) → Moves gm (conjunction p x y) (conjunction (move p) (gm x) (gm y))
    conjunction_at x y =
        let first = shape.ty_moved move x.expr in
        let second = shape.ty_moved move y.expr in
        rule.follows move (as_boolean x.expr) _ (λ u. u) _ _ gm (rule.check_at move is_boolean NotBoolean x.expr) λ u.
        rule.follows move (as_boolean y.expr) _ (λ u. u) _ _ gm (rule.check_at move is_boolean NotBoolean y.expr) λ v.
        (λ i. gives (typed.And (move p) (if is_false (second i) then types.False else (if is_true (second i) then first i else types.Bool)) (mt x.expr) (mt y.expr))
        (if is_false (second i) then [] else x.given ++ y.given))
        ∙ made_at (typed.And p (and_type x.expr y.expr) x.expr y.expr) _ (and_given x y) (shape.typed_And move p (and_type x.expr y.expr) x.expr y.expr)

    and_left_out : (x : Typed) → Moves gm (gives (typed.And p types.False x.expr (typed.Skipped b)) []) (gives (typed.And (move p) types.False (mt x.expr) (typed.Skipped (me b))) [])
    and_left_out x =
        ap (λ (y : TypedExpr). gives (typed.And (move p) types.False (mt x.expr) y) []) (sym (shape.typed_Skipped move b))
        ∙ made_at (typed.And p types.False x.expr (typed.Skipped b)) _ [] (shape.typed_And move p types.False x.expr (typed.Skipped b))

    moved_and : IsMoved (expr.And p a b)
    moved_and known =
        by_rule (expr.And p a b) _ known _ _ (shape.moved_And move p a b) (construct.typing_And s env p a b known) (construct.typing_And s env (move p) (me a) (me b) known)
        (rule.follows move (typing s env a known) _ gm _ _ gm (h known) λ x.
        ap (λ (t : Ty). if is_false t then gives (typed.And (move p) types.False (mt x.expr) (typed.Skipped (me b))) [] else (typing s env (me b) (known ++ x.given) >>= λ y. conjunction (move p) (gm x) y)) (shape.ty_moved move x.expr)
        ∙ rule.either_way move (is_false (ty x.expr)) gm _ _ _ _ (and_left_out x)
        (rule.follows move (typing s env b (known ++ x.given)) _ gm _ _ gm (k (known ++ x.given)) λ y. conjunction_at x y))

    -- ---- `in`

    abbrev right_moved : Ty × TypedExpr → Ty × TypedExpr
    right_moved r = (r.0, mt r.1)

    right_at : (o : Option Bool) (known : Capabilities) (x : TypedExpr) → Moves right_moved (membership_by o s (part s env b) known x) (membership_by o s (part s env (me b)) known (mt x))
    right_at (Some is_in) known x = ap (λ (y : TypedExpr). Ok (truth is_in, y)) (rule.leaves_moved move s b)
    right_at None known x =
        rule.follows move (typing s env b known) _ gm _ _ right_moved (k known) λ y.
        rule.follows move (within s x y.expr) _ (λ u. u) _ _ right_moved (rule.within_at move s known p a b x y.expr) λ type. refl

    membership_at : (known : Capabilities) (x : TypedExpr) → Moves right_moved (membership s a (part s env b) known x) (membership s (me a) (part s env (me b)) known (mt x))
    membership_at known x =
        ap (λ (o : Option Bool). membership_by o s (part s env (me b)) known (mt x)) (rule.decided_moved move s a b) ∙ right_at (decided s a b) known x

    moved_in : IsMoved (expr.Binary p In a b)
    moved_in known =
        by_rule (expr.Binary p In a b) _ known _ _ (shape.moved_Binary move p In a b) (construct.typing_Binary s env p In a b known) (construct.typing_Binary s env (move p) In (me a) (me b) known)
        (rule.follows move (typing s env a known) _ gm _ _ gm (h known) λ x.
        rule.follows move (membership s a (part s env b) known x.expr) _ right_moved _ _ gm (membership_at known x.expr) λ y.
        made_at (typed.Binary p y.0 In x.expr y.1) _ [] (shape.typed_Binary move p y.0 In x.expr y.1))

    -- ---- other operators

    operation_at : (o : BinaryOperator) (known : Capabilities) (x y : TypedExpr) → Moves gm (operation s known p o a b x y) (operation s known (move p) o (me a) (me b) (mt x) (mt y))
    operation_at o known x y =
        rule.follows move (binary s known p o a b x y) _ (λ u. u) _ _ gm (rule.binary_at move s known p a b x y o) λ type.
        ap (λ (g : Capabilities). gives (typed.Binary (move p) type o (mt x) (mt y)) g) (rule.given_at move s known p a b x y o type)
        ∙ made_at (typed.Binary p type o x y) _ (given_by o a b type) (shape.typed_Binary move p type o x y)

    computed_at : (o : BinaryOperator) (known : Capabilities) → Moves gm (computed s p o (part s env a) (part s env b) known) (computed s (move p) o (part s env (me a)) (part s env (me b)) known)
    computed_at o known =
        rule.follows move (typing s env a known) _ gm _ _ gm (h known) λ x.
        rule.follows move (typing s env b known) _ gm _ _ gm (k known) λ y. operation_at o known x.expr y.expr

    moved_binary : (o : BinaryOperator) → IsMoved (expr.Binary p o a b)
    moved_binary In = moved_in
    moved_binary o = λ known.
        by_rule (expr.Binary p o a b) _ known _ _ (shape.moved_Binary move p o a b) (construct.typing_Binary s env p o a b known) (construct.typing_Binary s env (move p) o (me a) (me b) known) (computed_at o known)

    -- ---- `is` and `in`

    moved_is_in : (n : TypeName) (q : Place) → IsMoved (expr.IsIn p a n q b)
    moved_is_in n q known =
        by_rule (expr.IsIn p a n q b) _ known _ _ (shape.moved_IsIn move p a n q b) (construct.typing_IsIn s env p a n q b known) (construct.typing_IsIn s env (move p) (me a) (name_moved move n) (move q) (me b) known)
        (rule.follows move (typing s env a known) _ gm _ _ gm (h known) λ x.
        rule.follows move (is_of n x.expr) _ (λ u. u) _ _ gm (tested_at n x.expr) λ is.
        rule.either_way move is gm _ _ _ _
        (rule.follows move (membership s a (part s env b) known x.expr) _ right_moved _ _ gm (membership_at known x.expr) λ y.
        made_at (typed.IsIn p y.0 x.expr n q y.1) _ [] (shape.typed_IsIn move p y.0 x.expr n q y.1))
        (ap (λ (y : TypedExpr). gives (typed.IsIn (move p) types.False (mt x.expr) (name_moved move n) (move q) y) []) (sym (shape.typed_Skipped move b))
        ∙ made_at (typed.IsIn p types.False x.expr n q (typed.Skipped b)) _ [] (shape.typed_IsIn move p types.False x.expr n q (typed.Skipped b))))

  -- ---- one operand

  module _ (p : Place) (a : Expr) (h : IsMoved a) where
    subject_at : (x : TypedExpr) → subject (me a) (mt x) ≡ record { object = bare a; at = move (place_of x); type = ty x }
    subject_at x =
        let b = shape.bare_moved move a in
        let at = shape.place_moved move x in
        let type = shape.ty_moved move x in
        λ i. record { object = b i; at = at i; type = type i }

    path_at : (names : List (List ℕ)) (known : Capabilities) (x : TypedExpr) → Moves gm (path_of s known p names a x) (path_of s known (move p) names (me a) (mt x))
    path_at names known x =
        rule.follows move (along s p known (subject a x) no_names names) (along s (move p) known (subject (me a) (mt x)) no_names names) (λ u. u) _ _ gm
        (ap (λ (o : Subject). along s (move p) known o no_names names) (subject_at x) ∙ rule.along_at move s p known names (subject a x) no_names) λ r.
        made_at (typed.Has p r.found x r.steps r.skipped) _ r.given (shape.typed_Has move p r.found x r.steps r.skipped)

    moved_has : (names : List (List ℕ)) → IsMoved (expr.Has p a names)
    moved_has names known =
        by_rule (expr.Has p a names) _ known _ _ (shape.moved_Has move p a names) (construct.typing_Has s env p a names known) (construct.typing_Has s env (move p) (me a) names known)
        (rule.follows move (typing s env a known) _ gm _ _ gm (h known) λ x. path_at names known x.expr)

    moved_like : (pattern : List Part) → IsMoved (expr.Like p a pattern)
    moved_like pattern known =
        by_rule (expr.Like p a pattern) _ known _ _ (shape.moved_Like move p a pattern) (construct.typing_Like s env p a pattern known) (construct.typing_Like s env (move p) (me a) pattern known)
        (rule.follows move (typing s env a known) _ gm _ _ gm (h known) λ x.
        rule.follows move (as_string x.expr) _ (λ u. u) _ _ gm (rule.check_at move is_string NotString x.expr) λ u.
        made_at (typed.Like p types.Bool x.expr pattern) _ [] (shape.typed_Like move p types.Bool x.expr pattern))

    moved_is : (n : TypeName) → IsMoved (expr.Is p a n)
    moved_is n known =
        by_rule (expr.Is p a n) _ known _ _ (shape.moved_Is move p a n) (construct.typing_Is s env p a n known) (construct.typing_Is s env (move p) (me a) (name_moved move n) known)
        (rule.follows move (typing s env a known) _ gm _ _ gm (h known) λ x.
        rule.follows move (is_of n x.expr) _ (λ u. u) _ _ gm (tested_at n x.expr) λ is.
        made_at (typed.Is p (truth is) x.expr n) _ [] (shape.typed_Is move p (truth is) x.expr n))

    moved_unary : (o : UnaryOperator) → IsMoved (expr.Unary p o a)
    moved_unary o known =
        by_rule (expr.Unary p o a) _ known _ _ (shape.moved_Unary move p o a) (construct.typing_Unary s env p o a known) (construct.typing_Unary s env (move p) o (me a) known)
        (rule.follows move (typing s env a known) _ gm _ _ gm (h known) λ x.
        rule.follows move (unary p o a x.expr) _ (λ u. u) _ _ gm (rule.unary_at move p a x.expr o) λ type.
        made_at (typed.Unary p type o x.expr) _ [] (shape.typed_Unary move p type o x.expr))

    moved_access : (name : List ℕ) → IsMoved (expr.Access p a name)
    moved_access name known =
        by_rule (expr.Access p a name) _ known _ _ (shape.moved_Access move p a name) (construct.typing_Access s env p a name known) (construct.typing_Access s env (move p) (me a) name known)
        (rule.follows move (typing s env a known) _ gm _ _ gm (h known) λ x.
        rule.follows move (read_type s known p name a x.expr) _ (λ u. u) _ _ gm (rule.read_type_at move s known p name a x.expr) λ type.
        made_at (typed.Access p type x.expr name) _ [] (shape.typed_Access move p type x.expr name))

  -- ---- sets and records

  abbrev Known : Type 0
  Known = (x : Expr) × IsMoved x

  abbrev exprs : List Known → List Expr
  exprs ks = map (λ (k : Known). k.0) ks

  all_at : (ks : List Known) (known : Capabilities) → Moves (map mt) (all_typed (map (part s env) (exprs ks)) known) (all_typed (map (part s env) (map me (exprs ks))) known)
  all_at [] known = refl
  all_at (k ∷ ks) known =
      rule.follows move (typing s env k.0 known) _ gm _ _ (map mt) (k.1 known) λ x.
      rule.follows move (all_typed (map (part s env) (exprs ks)) known) _ (map mt) _ _ (map mt) (all_at ks known) λ xs. refl

  moved_set : (p : Place) (ks : List Known) → IsMoved (expr.Set p (exprs ks))
  moved_set p ks known =
      by_rule (expr.Set p (exprs ks)) _ known _ _ (shape.moved_Set move p (exprs ks)) (construct.typing_Set s env p (exprs ks) known) (construct.typing_Set s env (move p) (map me (exprs ks)) known)
      (rule.follows move (all_typed (map (part s env) (exprs ks)) known) _ (map mt) _ _ gm (all_at ks known) λ xs.
      rule.follows move (member_type p xs) _ (λ u. u) _ _ gm (rule.member_type_at move p xs) λ type.
      made_at (typed.Set p (types.Set type) xs) _ [] (shape.typed_Set move p (types.Set type) xs))

  abbrev field_exprs : List (List ℕ × Known) → List (List ℕ × Expr)
  field_exprs ks = map (λ (f : List ℕ × Known). (f.0, f.1.0)) ks

  abbrev operands : List (List ℕ × Expr) → List (List ℕ × Operand)
  operands fs = map (λ (f : List ℕ × Expr). (f.0, part s env f.1)) fs

  fields_at : (ks : List (List ℕ × Known)) (known : Capabilities) → Moves (shape.typed_fields move) (fields_typed (operands (field_exprs ks)) known) (fields_typed (operands (shape.fields_moved move (field_exprs ks))) known)
  fields_at [] known = refl
  fields_at (k ∷ ks) known =
      rule.follows move (typing s env k.1.0 known) _ gm _ _ (shape.typed_fields move) (k.1.1 known) λ x.
      rule.follows move (fields_typed (operands (field_exprs ks)) known) _ (shape.typed_fields move) _ _ (shape.typed_fields move) (fields_at ks known) λ xs. refl

  moved_record : (p : Place) (ks : List (List ℕ × Known)) → IsMoved (expr.Record p (field_exprs ks))
  moved_record p ks known =
      by_rule (expr.Record p (field_exprs ks)) _ known _ _ (shape.moved_Record move p (field_exprs ks)) (construct.typing_Record s env p (field_exprs ks) known)
      (construct.typing_Record s env (move p) (shape.fields_moved move (field_exprs ks)) known)
      (rule.follows move (fields_typed (operands (field_exprs ks)) known) _ (shape.typed_fields move) _ _ gm (fields_at ks known) λ xs.
      ap (λ (type : Ty). gives (typed.Record (move p) type (shape.typed_fields move xs)) []) (rule.record_type_moved move xs)
      ∙ made_at (typed.Record p (record_type xs) xs) _ [] (shape.typed_Record move p (record_type xs) xs))

  -- ---- all expressions

  abbrev forget : Expr-F Known → Expr-F Expr
  forget = map-Expr Known Expr (λ k. k.0)

  from : (x z : Expr) → z ≡ x → IsMoved x → IsMoved z
  from x z at h = subst IsMoved (sym at) h

  inner : (y : Expr-F Known) → IsMoved (roll-Expr (forget y))
  inner (e.If p c a b) = from _ _ (rolls-If p c.0 a.0 b.0) (moved_choice p c.0 a.0 b.0 c.1 a.1 b.1)
  inner (e.Or p a b) = from _ _ (rolls-Or p a.0 b.0) (moved_or p a.0 b.0 a.1 b.1)
  inner (e.And p a b) = from _ _ (rolls-And p a.0 b.0) (moved_and p a.0 b.0 a.1 b.1)
  inner (e.Binary p o a b) = from _ _ (rolls-Binary p o a.0 b.0) (moved_binary p a.0 b.0 a.1 b.1 o)
  inner (e.Has p a names) = from _ _ (rolls-Has p a.0 names) (moved_has p a.0 a.1 names)
  inner (e.Like p a pattern) = from _ _ (rolls-Like p a.0 pattern) (moved_like p a.0 a.1 pattern)
  inner (e.Is p a n) = from _ _ (rolls-Is p a.0 n) (moved_is p a.0 a.1 n)
  inner (e.IsIn p a n q b) = from _ _ (rolls-IsIn p a.0 n q b.0) (moved_is_in p a.0 b.0 a.1 b.1 n q)
  inner (e.Unary p o a) = from _ _ (rolls-Unary p o a.0) (moved_unary p a.0 a.1 o)
  inner (e.Access p a name) = from _ _ (rolls-Access p a.0 name) (moved_access p a.0 a.1 name)
  inner (e.Literal p l) = from _ _ (rolls-Literal p l)
      (λ known. by_rule (expr.Literal p l) _ known _ _ (shape.moved_Literal move p l) (construct.typing_Literal s env p l known) (construct.typing_Literal s env (move p) l known) (made_at (literal_typed s p l) _ [] (shape.typed_Literal move p (literal_type s l) l)))
  inner (e.Variable p v) = from _ _ (rolls-Variable p v)
      (λ known. by_rule (expr.Variable p v) _ known _ _ (shape.moved_Variable move p v) (construct.typing_Variable s env p v known) (construct.typing_Variable s env (move p) v known)
      (made_at (typed.Variable p (variable_type s env v) v) _ [] (shape.typed_Variable move p (variable_type s env v) v)))
  inner (e.Set p ks) = from _ _ (rolls-Set p (exprs ks)) (moved_set p ks)
  inner (e.Record p ks) = from _ _ (rolls-Record p (field_exprs ks)) (moved_record p ks)

  all_moved : (x : Expr) → IsMoved x
  all_moved = ind-Expr IsMoved (λ x y at. subst (λ z. IsMoved (roll-Expr z)) at (inner y))

pub typing_moved : (s : Declarations) (env : Env) (move : Place → Place) (x : Expr) (known : Capabilities) → typing s env (moved move x) known ≡ outcome_moved move (typing s env x known)
typing_moved s env move x known = all_moved s env move x known
