-- An expression with types is that of which it was made, but for the types.
use Rattle.std.proofs.Common.{◌≡◌, ℕ, List, [], ◌∷◌, ◌++◌, ◌||◌, Bool, true, false, if◌then◌else◌, IsTrue, map, Option, Some, None, Result, Ok, Err, IfOk, refl, ap, sym, subst, ◌∙◌}
use Rattle.std.specs.Option.{option_map_or}
use Rattle.sc_ast.specs.declared.expr.Expr.{Expr, Expr-F, out-Expr, roll-Expr, map-Expr, ind-Expr, roll-out-Expr}
use Rattle.sc_ast.specs.declared.expr.Expr.TheVariants as expr
use Rattle.sc_ast.specs.declared.expr.Expr.TheVariants.{rolls-If, rolls-Or, rolls-And, rolls-Binary, rolls-Has, rolls-Like, rolls-Is, rolls-IsIn, rolls-Unary, rolls-Access, rolls-Literal, rolls-Variable, rolls-Set, rolls-Record}
use Rattle.sc_ast.specs.declared.expr.Expr.TheOpen as e
use Rattle.sc_ast.specs.declared.expr.TypeName.{TypeName}
use Rattle.sc_ast.specs.declared.operator.BinaryOperator.{BinaryOperator}
use Rattle.sc_ast.specs.declared.operator.BinaryOperator.TheVariants as binary
use Rattle.sc_ast.specs.declared.operator.UnaryOperator.{UnaryOperator}
use Rattle.sc_ast.specs.declared.place.Place.{Place}
use Rattle.sc_ast.specs.declared.policy.Policy.{Policy}
use Rattle.sc_pattern.specs.declared.part.Part.{Part}
use Rattle.sc_schema.specs.declared.declarations.Env.{Env}
use Rattle.sc_schema.specs.declared.ty.Ty.{Ty}
use Rattle.sc_schema.specs.declared.ty.Ty.TheVariants as ty
use Rattle.sc_schema.specs.Declarations.{Declarations}
use Rattle.sc_typed.specs.declared.fault.TypeFault.{TypeFault}
use Rattle.sc_typed.specs.declared.fault.TypeRule.TheVariants.{NotBoolean}
use Rattle.sc_typed.specs.declared.outcome.Typed.{Typed}
use Rattle.sc_typing_rules.specs.declared.path.Path.{Path}
use Rattle.sc_typed.specs.declared.typed_expr.HasStep.{HasStep}
use Rattle.sc_typed.specs.declared.typed_expr.TypedExpr.{TypedExpr}
use Rattle.sc_typed.specs.declared.typed_expr.TypedExpr.TheVariants as typed
use Rattle.sc_typed.specs.Types.{Field, is_true, is_false, is_boolean, attribute}
use Rattle.sc_typed.specs.TypedExprs.{names_of, place_of, untyped}
use Rattle.sc_typed.specs.Capabilities.{Capabilities, is_known}
use Rattle.sc_typed.specs.Outcomes.{Outcome, ◌>>=◌, as_boolean, as_object, joined}
use Rattle.sc_typed.specs.Outcomes as outcome
use Rattle.sc_typing_rules.specs.Operators.{within, decided, unary}
use Rattle.sc_typing_rules.specs.Operators as ops
use Rattle.sc_typing_rules.specs.Paths.{Subject, no_names, attribute_in, has_always, named, step, ended, held, maybe_held, longer, along}
use Rattle.sc_typing_rules.specs.Rules.{Operand, branches, choice, either, both, leaf_in, leaf, leaves_in, leaves, membership_by, membership, contained, computed, operated, subject, having, matching, is_of, tested, tested_in, applied, read_type, accessed, all_typed, member_type, set_literal, fields_typed, literal_typed, variable_type, record_literal}
use Rattle.sc_typing.specs.Typing.{typing, part}
use Rattle.sc_typing.specs.Policies.{asked, typed_policy}
use Rattle.sc_typed.proofs.OutcomeLaws.{after, through, in_either, checked}
use Rattle.sc_typing.proofs.TypingLaws as construct
use Rattle.sc_typed.proofs.UntypedLaws.{untyped_If, untyped_Or, untyped_And, untyped_Binary, untyped_Has, untyped_Like, untyped_Is, untyped_IsIn, untyped_Unary, untyped_Access, untyped_Literal, untyped_Variable, untyped_Set, untyped_Record, untyped_Skipped}

-- ---- outcomes, step by step

-- the expression is x
abbrev Keeps : Expr → Outcome → Type 0
Keeps x o = IfOk o (λ (t : Typed). untyped t.expr ≡ x)

-- whatever an operand gives is the operand
abbrev Kept : Operand → Type 0
Kept a = (known : Capabilities) → Keeps a.expr (a.typed known)

kept : {B : Type 0} (x : Expr) (o : Outcome) (f : Typed → Result B TypeFault) (Q : B → Type 0) → Keeps x o → ((t : Typed) → untyped t.expr ≡ x → IfOk (f t) Q) → IfOk (o >>= f) Q
kept x (Ok t) f Q h k = k t h
kept x (Err fault) f Q h k = tt

-- ---- `if`, `||` and `&&`

keeps_branches : (place : Place) (x y z : Typed) (c a b : Expr) → untyped x.expr ≡ c → untyped y.expr ≡ a → untyped z.expr ≡ b → Keeps (expr.If place c a b) (branches place x y z)
keeps_branches place x y z c a b p q r =
    after (as_boolean x.expr) _ _ λ u.
    after (joined place (outcome.ty y.expr) (outcome.ty z.expr)) _ _ λ type.
    untyped_If place type x.expr y.expr z.expr ∙ λ i. expr.If place (p i) (q i) (r i)

keeps_choice : (place : Place) (c a b : Operand) → Kept c → Kept a → Kept b → (known : Capabilities) → Keeps (expr.If place c.expr a.expr b.expr) (choice place c a b known)
keeps_choice place c a b h k l known =
    kept c.expr (c.typed known) _ _ (h known) λ x p.
    in_either (is_true (outcome.ty x.expr)) _ _ _
    (λ t. kept a.expr (a.typed (known ++ x.given)) _ _ (k (known ++ x.given)) λ y q.
    untyped_If place (outcome.ty y.expr) x.expr y.expr (typed.Skipped b.expr) ∙ λ i. expr.If place (p i) (q i) (untyped_Skipped b.expr i))
    (λ t. in_either (is_false (outcome.ty x.expr)) _ _ _
    (λ f. kept b.expr (b.typed known) _ _ (l known) λ z r.
    untyped_If place (outcome.ty z.expr) x.expr (typed.Skipped a.expr) z.expr ∙ λ i. expr.If place (p i) (untyped_Skipped a.expr i) (r i))
    (λ f. kept a.expr (a.typed (known ++ x.given)) _ _ (k (known ++ x.given)) λ y q.
    kept b.expr (b.typed known) _ _ (l known) λ z r.
    keeps_branches place x y z c.expr a.expr b.expr p q r))

keeps_either : (place : Place) (a b : Operand) → Kept a → Kept b → (known : Capabilities) → Keeps (expr.Or place a.expr b.expr) (either place a b known)
keeps_either place a b h k known =
    kept a.expr (a.typed known) _ _ (h known) λ x p.
    in_either (is_true (outcome.ty x.expr)) _ _ _
    (λ t. untyped_Or place _ x.expr (typed.Skipped b.expr) ∙ λ i. expr.Or place (p i) (untyped_Skipped b.expr i))
    (λ t. kept b.expr (b.typed known) _ _ (k known) λ y q.
    after (as_boolean x.expr) _ _ λ u.
    after (as_boolean y.expr) _ _ λ v.
    untyped_Or place _ x.expr y.expr ∙ λ i. expr.Or place (p i) (q i))

keeps_both : (place : Place) (a b : Operand) → Kept a → Kept b → (known : Capabilities) → Keeps (expr.And place a.expr b.expr) (both place a b known)
keeps_both place a b h k known =
    kept a.expr (a.typed known) _ _ (h known) λ x p.
    in_either (is_false (outcome.ty x.expr)) _ _ _
    (λ f. untyped_And place _ x.expr (typed.Skipped b.expr) ∙ λ i. expr.And place (p i) (untyped_Skipped b.expr i))
    (λ f. kept b.expr (b.typed (known ++ x.given)) _ _ (k (known ++ x.given)) λ y q.
    after (as_boolean x.expr) _ _ λ u.
    after (as_boolean y.expr) _ _ λ v.
    untyped_And place _ x.expr y.expr ∙ λ i. expr.And place (p i) (q i))

-- ---- operators

leaf_keeps : (s : Declarations) (x : Expr) (y : Expr-F Expr) → roll-Expr y ≡ x → untyped (leaf_in s x y) ≡ x
leaf_keeps s x (e.Literal place l) at = untyped_Literal place _ l ∙ (sym (rolls-Literal place l) ∙ at)
leaf_keeps s x _ at = untyped_Skipped x

leaf-keeps : (s : Declarations) (x : Expr) → untyped (leaf s x) ≡ x
leaf-keeps s x = leaf_keeps s x (out-Expr x) (roll-out-Expr x)

all_leaves : (s : Declarations) (xs : List Expr) → map untyped (map (leaf s) xs) ≡ xs
all_leaves s [] = refl
all_leaves s (x ∷ xs) = λ i. leaf-keeps s x i ∷ all_leaves s xs i

leaves_keep : (s : Declarations) (x : Expr) (y : Expr-F Expr) → roll-Expr y ≡ x → untyped (leaves_in s x y) ≡ x
leaves_keep s x (e.Set place members) at = untyped_Set place _ (map (leaf s) members) ∙ (ap (expr.Set place) (all_leaves s members) ∙ (sym (rolls-Set place members) ∙ at))
leaves_keep s x y at = leaf_keeps s x y at

leaves-keep : (s : Declarations) (x : Expr) → untyped (leaves s x) ≡ x
leaves-keep s x = leaves_keep s x (out-Expr x) (roll-out-Expr x)

-- the right side of `in` is b
abbrev KeepsRight : Expr → Result (Ty × TypedExpr) TypeFault → Type 0
KeepsRight b o = IfOk o (λ (r : Ty × TypedExpr). untyped r.1 ≡ b)

keeps_membership : (o : Option Bool) (s : Declarations) (b : Operand) → Kept b → (known : Capabilities) (x : TypedExpr) → KeepsRight b.expr (membership_by o s b known x)
keeps_membership (Some p) s b h known x = leaves-keep s b.expr
keeps_membership None s b h known x = kept b.expr (b.typed known) _ _ (h known) λ y q. after (within s x y.expr) _ _ λ type. q

keeps_contained : (s : Declarations) (place : Place) (a b : Operand) → Kept a → Kept b → (known : Capabilities) → Keeps (expr.Binary place binary.In a.expr b.expr) (contained s place a b known)
keeps_contained s place a b h k known =
    kept a.expr (a.typed known) _ _ (h known) λ x p.
    through (λ (r : Ty × TypedExpr). untyped r.1 ≡ b.expr) (membership s a.expr b known x.expr) _ _ (keeps_membership (decided s a.expr b.expr) s b k known x.expr) λ y q.
    untyped_Binary place y.0 binary.In x.expr y.1 ∙ λ i. expr.Binary place binary.In (p i) (q i)

keeps_computed : (s : Declarations) (place : Place) (operator : BinaryOperator) (a b : Operand) → Kept a → Kept b → (known : Capabilities) → Keeps (expr.Binary place operator a.expr b.expr) (computed s place operator a b known)
keeps_computed s place operator a b h k known =
    kept a.expr (a.typed known) _ _ (h known) λ x p.
    kept b.expr (b.typed known) _ _ (k known) λ y q.
    after (ops.binary s known place operator a.expr b.expr x.expr y.expr) _ _ λ type.
    untyped_Binary place type operator x.expr y.expr ∙ λ i. expr.Binary place operator (p i) (q i)

keeps_operated : (s : Declarations) (place : Place) (operator : BinaryOperator) (a b : Operand) → Kept a → Kept b → (known : Capabilities) → Keeps (expr.Binary place operator a.expr b.expr) (operated s place operator a b known)
keeps_operated s place binary.In a b h k known = keeps_contained s place a b h k known
keeps_operated s place operator a b h k known = keeps_computed s place operator a b h k known

-- ---- `has`

names-push : (steps : List HasStep) (step : HasStep) (rest : List (List ℕ)) → names_of (steps ++ step ∷ []) ++ rest ≡ names_of steps ++ (step.name ∷ rest)
names-push [] step rest = refl
names-push (x ∷ steps) step rest = ap (λ (ns : List (List ℕ)). x.name ∷ ns) (names-push steps step rest)

-- the names that are asked so far, and those to come
abbrev AsksAll : Path → List (List ℕ) → Result Path TypeFault → Type 0
AsksAll p names o = IfOk o (λ (r : Path). names_of r.steps ++ r.skipped ≡ names_of p.steps ++ names)

longer_skips : (known : Capabilities) (p : Path) (object : Expr) (type : Ty) (name : List ℕ) (f : Field) → (longer known p object type name f).skipped ≡ []
longer_skips known p object type name f =
    elim (has_always type f || is_known (known ++ p.given) (named object name)) as (λ b. (if b then held p type name else maybe_held p type name (named object name)).skipped ≡ []) [
      | true ↦ refl
      | false ↦ refl
    ]

longer_asks : (known : Capabilities) (p : Path) (object : Expr) (type : Ty) (name : List ℕ) (f : Field) (names : List (List ℕ))
    → names_of (longer known p object type name f).steps ++ names ≡ names_of p.steps ++ (name ∷ names)
longer_asks known p object type name f names =
    elim (has_always type f || is_known (known ++ p.given) (named object name))
    as (λ b. names_of (if b then held p type name else maybe_held p type name (named object name)).steps ++ names ≡ names_of p.steps ++ (name ∷ names)) [
      | true ↦ names-push p.steps (step name type ty.True) names
      | false ↦ names-push p.steps (step name type ty.Bool) names
    ]

as_asked : (o : Result Path TypeFault) (p q : Path) (names others : List (List ℕ)) → names_of q.steps ++ others ≡ names_of p.steps ++ names → AsksAll q others o → AsksAll p names o
as_asked (Ok r) p q names others e h = h ∙ e
as_asked (Err fault) p q names others e h = tt

by_attribute : (p : Path) (type : Ty) (name : List ℕ) (names : List (List ℕ)) (o : Option Field) (k : Field → Result Path TypeFault)
    → ((f : Field) → AsksAll p (name ∷ names) (k f)) → AsksAll p (name ∷ names) (option_map_or k o (Ok (ended p type name names)))
by_attribute p type name names None k h = names-push p.steps (step name type ty.False) names
by_attribute p type name names (Some f) k h = h f

along_asks : (s : Declarations) (place : Place) (known : Capabilities) (names : List (List ℕ)) (o : Subject) (p : Path) → p.skipped ≡ [] → AsksAll p names (along s place known o p names)
along_asks s place known [] o p h = ap (λ (ns : List (List ℕ)). names_of p.steps ++ ns) h
along_asks s place known (name ∷ names) o p h =
    after (as_object s o.at o.type) _ _ λ fields.
    by_attribute p o.type name names (attribute name fields) (λ (f : Field). along s place known (attribute_in place o name f) (longer known p o.object o.type name f) names) λ f.
    let q = longer known p o.object o.type name f in
    as_asked (along s place known (attribute_in place o name f) q names) p q (name ∷ names) names (longer_asks known p o.object o.type name f names)
    (along_asks s place known names (attribute_in place o name f) q (longer_skips known p o.object o.type name f))

keeps_having : (s : Declarations) (place : Place) (names : List (List ℕ)) (a : Operand) → Kept a → (known : Capabilities) → Keeps (expr.Has place a.expr names) (having s place names a known)
keeps_having s place names a h known =
    kept a.expr (a.typed known) _ _ (h known) λ x p.
    through (λ (r : Path). names_of r.steps ++ r.skipped ≡ names) (along s place known (subject a.expr x.expr) no_names names) _ _ (along_asks s place known names (subject a.expr x.expr) no_names refl) λ r q.
    untyped_Has place r.found x.expr r.steps r.skipped ∙ λ i. expr.Has place (p i) (q i)

-- ---- one operand

keeps_matching : (place : Place) (pattern : List Part) (a : Operand) → Kept a → (known : Capabilities) → Keeps (expr.Like place a.expr pattern) (matching place pattern a known)
keeps_matching place pattern a h known =
    kept a.expr (a.typed known) _ _ (h known) λ x p.
    after (outcome.as_string x.expr) _ _ λ u.
    untyped_Like place _ x.expr pattern ∙ λ i. expr.Like place (p i) pattern

keeps_tested : (place : Place) (n : TypeName) (a : Operand) → Kept a → (known : Capabilities) → Keeps (expr.Is place a.expr n) (tested place n a known)
keeps_tested place n a h known =
    kept a.expr (a.typed known) _ _ (h known) λ x p.
    after (is_of n x.expr) _ _ λ u.
    untyped_Is place _ x.expr n ∙ λ i. expr.Is place (p i) n

keeps_tested_in : (s : Declarations) (place : Place) (n : TypeName) (in_place : Place) (a b : Operand) → Kept a → Kept b → (known : Capabilities) → Keeps (expr.IsIn place a.expr n in_place b.expr) (tested_in s place n in_place a b known)
keeps_tested_in s place n in_place a b h k known =
    kept a.expr (a.typed known) _ _ (h known) λ x p.
    after (is_of n x.expr) _ _ λ u.
    in_either u _ _ _
    (λ t. through (λ (r : Ty × TypedExpr). untyped r.1 ≡ b.expr) (membership s a.expr b known x.expr) _ _ (keeps_membership (decided s a.expr b.expr) s b k known x.expr) λ y q.
    untyped_IsIn place y.0 x.expr n in_place y.1 ∙ λ i. expr.IsIn place (p i) n in_place (q i))
    (λ f. untyped_IsIn place _ x.expr n in_place (typed.Skipped b.expr) ∙ λ i. expr.IsIn place (p i) n in_place (untyped_Skipped b.expr i))

keeps_applied : (place : Place) (operator : UnaryOperator) (a : Operand) → Kept a → (known : Capabilities) → Keeps (expr.Unary place operator a.expr) (applied place operator a known)
keeps_applied place operator a h known =
    kept a.expr (a.typed known) _ _ (h known) λ x p.
    after (ops.unary place operator a.expr x.expr) _ _ λ type.
    untyped_Unary place type operator x.expr ∙ λ i. expr.Unary place operator (p i)

keeps_accessed : (s : Declarations) (place : Place) (name : List ℕ) (a : Operand) → Kept a → (known : Capabilities) → Keeps (expr.Access place a.expr name) (accessed s place name a known)
keeps_accessed s place name a h known =
    kept a.expr (a.typed known) _ _ (h known) λ x p.
    after (read_type s known place name a.expr x.expr) _ _ λ type.
    untyped_Access place type x.expr name ∙ λ i. expr.Access place (p i) name

-- ---- sets and records

module _ (s : Declarations) (env : Env) where
  abbrev Known : Type 0
  Known = (x : Expr) × Kept (part s env x)

  abbrev exprs : List Known → List Expr
  exprs ks = map (λ (k : Known). k.0) ks

  abbrev operands : List Known → List Operand
  operands ks = map (part s env) (exprs ks)

  members_keep : (ks : List Known) (known : Capabilities) → IfOk (all_typed (operands ks) known) (λ (xs : List TypedExpr). map untyped xs ≡ exprs ks)
  members_keep [] known = refl
  members_keep (k ∷ ks) known =
      kept k.0 (typing s env k.0 known) _ _ (k.1 known) λ x p.
      through (λ (xs : List TypedExpr). map untyped xs ≡ exprs ks) (all_typed (operands ks) known) _ _ (members_keep ks known) λ xs q.
      λ i. p i ∷ q i

  keeps_set : (place : Place) (ks : List Known) (known : Capabilities) → Keeps (expr.Set place (exprs ks)) (set_literal place (operands ks) known)
  keeps_set place ks known =
      through (λ (xs : List TypedExpr). map untyped xs ≡ exprs ks) (all_typed (operands ks) known) _ _ (members_keep ks known) λ xs p.
      after (member_type place xs) _ _ λ type.
      untyped_Set place _ xs ∙ ap (expr.Set place) p

  abbrev field_exprs : List (List ℕ × Known) → List (List ℕ × Expr)
  field_exprs ks = map (λ (f : List ℕ × Known). (f.0, f.1.0)) ks

  abbrev field_operands : List (List ℕ × Known) → List (List ℕ × Operand)
  field_operands ks = map (λ (f : List ℕ × Expr). (f.0, part s env f.1)) (field_exprs ks)

  abbrev untyped_fields : List (List ℕ × TypedExpr) → List (List ℕ × Expr)
  untyped_fields xs = map (λ (f : List ℕ × TypedExpr). (f.0, untyped f.1)) xs

  fields_keep : (ks : List (List ℕ × Known)) (known : Capabilities) → IfOk (fields_typed (field_operands ks) known) (λ (xs : List (List ℕ × TypedExpr)). untyped_fields xs ≡ field_exprs ks)
  fields_keep [] known = refl
  fields_keep (k ∷ ks) known =
      kept k.1.0 (typing s env k.1.0 known) _ _ (k.1.1 known) λ x p.
      through (λ (xs : List (List ℕ × TypedExpr)). untyped_fields xs ≡ field_exprs ks) (fields_typed (field_operands ks) known) _ _ (fields_keep ks known) λ xs q.
      λ i. (k.0, p i) ∷ q i

  keeps_record : (place : Place) (ks : List (List ℕ × Known)) (known : Capabilities) → Keeps (expr.Record place (field_exprs ks)) (record_literal place (field_operands ks) known)
  keeps_record place ks known =
      through (λ (xs : List (List ℕ × TypedExpr)). untyped_fields xs ≡ field_exprs ks) (fields_typed (field_operands ks) known) _ _ (fields_keep ks known) λ xs p.
      untyped_Record place _ xs ∙ ap (expr.Record place) p

  -- ---- all expressions

  abbrev KeepsAlways : Expr → Type 0
  KeepsAlways x = (known : Capabilities) → Keeps x (typing s env x known)

  -- what a construct gives, and the construct, are those of the expression
  by_construct : (x z : Expr) (f : Capabilities → Outcome) → x ≡ z → ((known : Capabilities) → typing s env x known ≡ f known) → ((known : Capabilities) → Keeps x (f known)) → KeepsAlways z
  by_construct x z f at same h = subst KeepsAlways at (λ known. subst (Keeps x) (sym (same known)) (h known))

  inner : (y : Expr-F Known) → KeepsAlways (roll-Expr (map-Expr Known Expr (λ k. k.0) y))
  inner (e.If place c a b) =
      by_construct (expr.If place c.0 a.0 b.0) _ (choice place (part s env c.0) (part s env a.0) (part s env b.0)) (sym (rolls-If place c.0 a.0 b.0)) (construct.typing_If s env place c.0 a.0 b.0)
      (keeps_choice place (part s env c.0) (part s env a.0) (part s env b.0) c.1 a.1 b.1)
  inner (e.Or place a b) =
      by_construct (expr.Or place a.0 b.0) _ (either place (part s env a.0) (part s env b.0)) (sym (rolls-Or place a.0 b.0)) (construct.typing_Or s env place a.0 b.0) (keeps_either place (part s env a.0) (part s env b.0) a.1 b.1)
  inner (e.And place a b) =
      by_construct (expr.And place a.0 b.0) _ (both place (part s env a.0) (part s env b.0)) (sym (rolls-And place a.0 b.0)) (construct.typing_And s env place a.0 b.0) (keeps_both place (part s env a.0) (part s env b.0) a.1 b.1)
  inner (e.Binary place operator a b) =
      by_construct (expr.Binary place operator a.0 b.0) _ (operated s place operator (part s env a.0) (part s env b.0)) (sym (rolls-Binary place operator a.0 b.0)) (construct.typing_Binary s env place operator a.0 b.0)
      (keeps_operated s place operator (part s env a.0) (part s env b.0) a.1 b.1)
  inner (e.Has place a names) =
      by_construct (expr.Has place a.0 names) _ (having s place names (part s env a.0)) (sym (rolls-Has place a.0 names)) (construct.typing_Has s env place a.0 names) (keeps_having s place names (part s env a.0) a.1)
  inner (e.Like place a pattern) =
      by_construct (expr.Like place a.0 pattern) _ (matching place pattern (part s env a.0)) (sym (rolls-Like place a.0 pattern)) (construct.typing_Like s env place a.0 pattern) (keeps_matching place pattern (part s env a.0) a.1)
  inner (e.Is place a n) = by_construct (expr.Is place a.0 n) _ (tested place n (part s env a.0)) (sym (rolls-Is place a.0 n)) (construct.typing_Is s env place a.0 n) (keeps_tested place n (part s env a.0) a.1)
  inner (e.IsIn place a n in_place b) =
      by_construct (expr.IsIn place a.0 n in_place b.0) _ (tested_in s place n in_place (part s env a.0) (part s env b.0)) (sym (rolls-IsIn place a.0 n in_place b.0)) (construct.typing_IsIn s env place a.0 n in_place b.0)
      (keeps_tested_in s place n in_place (part s env a.0) (part s env b.0) a.1 b.1)
  inner (e.Unary place operator a) =
      by_construct (expr.Unary place operator a.0) _ (applied place operator (part s env a.0)) (sym (rolls-Unary place operator a.0)) (construct.typing_Unary s env place operator a.0) (keeps_applied place operator (part s env a.0) a.1)
  inner (e.Access place a name) =
      by_construct (expr.Access place a.0 name) _ (accessed s place name (part s env a.0)) (sym (rolls-Access place a.0 name)) (construct.typing_Access s env place a.0 name) (keeps_accessed s place name (part s env a.0) a.1)
  inner (e.Literal place l) = by_construct (expr.Literal place l) _ (λ known. outcome.gives (literal_typed s place l) []) (sym (rolls-Literal place l)) (construct.typing_Literal s env place l) (λ known. untyped_Literal place _ l)
  inner (e.Variable place x) =
      by_construct (expr.Variable place x) _ (λ known. outcome.gives (typed.Variable place (variable_type s env x) x) []) (sym (rolls-Variable place x)) (construct.typing_Variable s env place x) (λ known. untyped_Variable place _ x)
  inner (e.Set place ks) = by_construct (expr.Set place (exprs ks)) _ (set_literal place (operands ks)) (sym (rolls-Set place (exprs ks))) (construct.typing_Set s env place (exprs ks)) (keeps_set place ks)
  inner (e.Record place ks) =
      by_construct (expr.Record place (field_exprs ks)) _ (record_literal place (field_operands ks)) (sym (rolls-Record place (field_exprs ks))) (construct.typing_Record s env place (field_exprs ks)) (keeps_record place ks)

  pub typing-untyped : (x : Expr) → KeepsAlways x
  typing-untyped = ind-Expr KeepsAlways (λ x y at. subst (λ z. KeepsAlways (roll-Expr z)) at (inner y))

  -- a policy's condition with types is what the policy asks
  pub policy_untyped : (p : Policy) → IfOk (typed_policy s env p) (λ (x : TypedExpr). untyped x ≡ asked env p)
  policy_untyped p = kept (asked env p) (typing s env (asked env p) []) _ _ (typing-untyped (asked env p) []) λ x q. after (as_boolean x.expr) _ _ λ u. q

  -- and it is Boolean
  pub policy_boolean : (p : Policy) → IfOk (typed_policy s env p) (λ (x : TypedExpr). IsTrue (is_boolean (outcome.ty x)))
  policy_boolean p = after (typing s env (asked env p) []) _ _ λ x. checked (is_boolean (outcome.ty x.expr)) NotBoolean (place_of x.expr) _ _ λ h. h
