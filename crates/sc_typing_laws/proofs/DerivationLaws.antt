-- What typing gives is derived.
use Rattle.std.proofs.Common.{◌≡◌, ℕ, List, [], ◌∷◌, ◌++◌, map, Bool, true, ◌||◌, Option, Some, None, unwrap_or, Result, Ok, Err, IfOk, refl, sym, ap, subst, ◌∙◌}
use Rattle.std.specs.Str.{bytes_eq}
use Rattle.sc_ast.specs.declared.expr.Expr.{Expr, Expr-F, roll-Expr, map-Expr, ind-Expr}
use Rattle.sc_ast.specs.declared.expr.Expr.TheOpen as e
use Rattle.sc_ast.specs.declared.expr.Expr.TheVariants as expr
use Rattle.sc_ast.specs.declared.expr.Expr.TheVariants.{rolls-If, rolls-Or, rolls-And, rolls-Binary, rolls-Has, rolls-Like, rolls-Is, rolls-IsIn, rolls-Unary, rolls-Access, rolls-Literal, rolls-Variable, rolls-Set, rolls-Record}
use Rattle.sc_ast.specs.declared.expr.TypeName.{TypeName}
use Rattle.sc_ast.specs.declared.operator.BinaryOperator.{BinaryOperator}
use Rattle.sc_ast.specs.declared.operator.BinaryOperator.TheVariants.{In}
use Rattle.sc_ast.specs.declared.operator.UnaryOperator.{UnaryOperator}
use Rattle.sc_ast.specs.declared.place.Place.{Place}
use Rattle.sc_pattern.specs.declared.part.Part.{Part}
use Rattle.sc_schema.specs.declared.declarations.Env.{Env}
use Rattle.sc_schema.specs.declared.ty.Ty.{Ty}
use Rattle.sc_schema.specs.Declarations.{Declarations}
use Rattle.sc_typed.specs.declared.fault.TypeFault.{TypeFault}
use Rattle.sc_typed.specs.declared.outcome.Typed.{Typed}
use Rattle.sc_typed.specs.declared.typed_expr.TypedExpr.{TypedExpr}
use Rattle.sc_typed.specs.declared.typed_expr.TypedExpr.TheVariants as typed
use Rattle.sc_typed.specs.Capabilities.{Capabilities, attribute_of, is_known}
use Rattle.sc_typed.specs.Outcomes.{Outcome, made, ty}
use Rattle.sc_typed.specs.Types.{Field, is_true, is_false, is_boolean, is_string, entity_name, group, truth, join, attributes, attribute, is_required}
use Rattle.sc_typed.proofs.OutcomeLaws.{through, in_either, checked, found}
use Rattle.sc_typing.specs.Typing.{typing, part}
use Rattle.sc_typing.proofs.TypingLaws as construct
use Rattle.sc_typing_rules.specs.Operators.{binary, unary, within, decided}
use Rattle.sc_typing_rules.specs.Paths.{no_names, along}
use Rattle.sc_typing_rules.specs.Rules.{Operand, leaves, membership_by, membership, is_of, subject, read, read_type, all_typed, fields_typed, member_type}
use Rattle.sc_typing_laws.specs.Derivations.{Derives, DeriveAll, DeriveFields, in_type, of_if_true, of_if_false, of_if, of_or_true, of_or, of_and_false, of_and, of_binary, of_in_decided, of_in, of_has, of_like, of_is, of_is_in_other, of_is_in_decided, of_is_in, of_unary, of_access, of_literal, of_variable, of_set, of_record, no_member, with_member, no_field, with_field}
use Rattle.sc_typing_laws.specs.Operations.{IsOperation, IsApplication}
use Rattle.sc_typing_laws.proofs.OperationLaws.{operation_is, application_is}

-- an outcome is what it is
pub told : {A : Type 0} (o : Result A TypeFault) → IfOk o (λ x. o ≡ Ok x)
told (Ok x) = refl
told (Err fault) = tt

one_name : (n m : List ℕ) → Some n ≡ Some m → m ≡ n
one_name n m h = ap (λ (o : Option (List ℕ)). unwrap_or o n) (sym h)

module _ (s : Declarations) (env : Env) where
  abbrev IsDerived : Expr → Type 0
  IsDerived x = (known : Capabilities) → IfOk (typing s env x known) (Derives s env x known)

  abbrev Known : Type 0
  Known = (x : Expr) × IsDerived x

  abbrev forget : Expr-F Known → Expr-F Expr
  forget = map-Expr Known Expr (λ k. k.0)

  -- what a construct gives
  by_rule : (x : Expr) (known : Capabilities) (o : Outcome) → typing s env x known ≡ o → IfOk o (Derives s env x known) → IfOk (typing s env x known) (Derives s env x known)
  by_rule x known o at h = subst (λ r. IfOk r (Derives s env x known)) (sym at) h

  -- ---- `if`, `||`, `&&`

  row_If : (p : Place) (c a b : Expr) → IsDerived c → IsDerived a → IsDerived b → IsDerived (expr.If p c a b)
  row_If p c a b g h k known =
      let z : Expr = expr.If p c a b in
      let Q : Typed → Type 0 = Derives s env z known in
      by_rule z known _ (construct.typing_If s env p c a b known)
      (through (Derives s env c known) (typing s env c known) _ Q (g known) λ x r.
      in_either (is_true (ty x.expr)) _ _ Q
      (λ f. through (Derives s env a (known ++ x.given)) (typing s env a (known ++ x.given)) _ Q (h (known ++ x.given)) λ y q. of_if_true z known _ p c a b x y refl r f q refl) λ f.
      in_either (is_false (ty x.expr)) _ _ Q
      (λ i. through (Derives s env b known) (typing s env b known) _ Q (k known) λ y q. of_if_false z known _ p c a b x y refl r f i q refl) λ i.
      through (Derives s env a (known ++ x.given)) (typing s env a (known ++ x.given)) _ Q (h (known ++ x.given)) λ y q.
      through (Derives s env b known) (typing s env b known) _ Q (k known) λ v l.
      checked (is_boolean (ty x.expr)) _ _ _ Q λ m.
      found (join (ty y.expr) (ty v.expr)) _ _ _ Q λ type j. of_if z known _ p c a b x y v type refl r f i q l m j refl)

  row_Or : (p : Place) (a b : Expr) → IsDerived a → IsDerived b → IsDerived (expr.Or p a b)
  row_Or p a b h k known =
      let z : Expr = expr.Or p a b in
      let Q : Typed → Type 0 = Derives s env z known in
      by_rule z known _ (construct.typing_Or s env p a b known)
      (through (Derives s env a known) (typing s env a known) _ Q (h known) λ x r.
      in_either (is_true (ty x.expr)) _ _ Q (λ f. of_or_true z known _ p a b x refl r f refl) λ f.
      through (Derives s env b known) (typing s env b known) _ Q (k known) λ y q.
      checked (is_boolean (ty x.expr)) _ _ _ Q λ c.
      checked (is_boolean (ty y.expr)) _ _ _ Q λ d. of_or z known _ p a b x y refl r f q c d refl)

  row_And : (p : Place) (a b : Expr) → IsDerived a → IsDerived b → IsDerived (expr.And p a b)
  row_And p a b h k known =
      let z : Expr = expr.And p a b in
      let Q : Typed → Type 0 = Derives s env z known in
      by_rule z known _ (construct.typing_And s env p a b known)
      (through (Derives s env a known) (typing s env a known) _ Q (h known) λ x r.
      in_either (is_false (ty x.expr)) _ _ Q (λ f. of_and_false z known _ p a b x refl r f refl) λ f.
      through (Derives s env b (known ++ x.given)) (typing s env b (known ++ x.given)) _ Q (k (known ++ x.given)) λ y q.
      checked (is_boolean (ty x.expr)) _ _ _ Q λ c.
      checked (is_boolean (ty y.expr)) _ _ _ Q λ d. of_and z known _ p a b x y refl r f q c d refl)

  -- ---- `in`

  -- the type and the right side of `a in b`
  data IsRight (a b : Expr) (known : Capabilities) (x : TypedExpr) (y : Ty × TypedExpr) : Type 0 where
    right_decided : (is_in : Bool) → decided s a b ≡ Some is_in → y ≡ (truth is_in, leaves s b) → IsRight a b known x y
    right_typed : (v : Typed) (n m : List ℕ) → decided s a b ≡ None → Derives s env b known v → entity_name (ty x) ≡ Some n → group (ty v.expr) ≡ Some m
        → y ≡ (in_type s n m, v.expr) → IsRight a b known x y

  right_is : (a b : Expr) → IsDerived b → (known : Capabilities) (x : TypedExpr) (d : Option Bool) → decided s a b ≡ d
      → IfOk (membership_by d s (part s env b) known x) (IsRight a b known x)
  right_is a b h known x (Some is_in) e = right_decided is_in e refl
  right_is a b h known x None e =
      let Q : Ty × TypedExpr → Type 0 = IsRight a b known x in
      let W : TypedExpr → Ty → Type 0 = λ y type. (n : List ℕ) × (m : List ℕ) × (entity_name (ty x) ≡ Some n) × (group (ty y) ≡ Some m) × (type ≡ in_type s n m) in
      through (Derives s env b known) (typing s env b known) _ Q (h known) λ v r.
      through (W v.expr) (within s x v.expr) _ Q
      (found (entity_name (ty x)) _ _ _ (W v.expr) λ n f. found (group (ty v.expr)) _ _ _ (W v.expr) λ m g. (n, m, f, g, refl)) λ type w.
      right_typed v w.0 w.1 e r w.2 w.3 (ap (λ (t : Ty). (t, v.expr)) w.4)

  row_In : (p : Place) (a b : Expr) → IsDerived a → IsDerived b → IsDerived (expr.Binary p In a b)
  row_In p a b h k known =
      let z : Expr = expr.Binary p In a b in
      let Q : Typed → Type 0 = Derives s env z known in
      by_rule z known _ (construct.typing_Binary s env p In a b known)
      (through (Derives s env a known) (typing s env a known) _ Q (h known) λ x r.
      through (IsRight a b known x.expr) (membership s a (part s env b) known x.expr) _ Q (right_is a b k known x.expr (decided s a b) refl) λ y q. in_row p a b known x r y q)
    where
      in_row : (p : Place) (a b : Expr) (known : Capabilities) (x : Typed) → Derives s env a known x → (y : Ty × TypedExpr) → IsRight a b known x.expr y
          → Derives s env (expr.Binary p In a b) known (made (typed.Binary p y.0 In x.expr y.1) [])
      in_row p a b known x r y (right_decided is_in d f) = of_in_decided _ known _ p a b x is_in refl r d (ap (λ (v : Ty × TypedExpr). made (typed.Binary p v.0 In x.expr v.1) []) f)
      in_row p a b known x r y (right_typed v n m d q f g i) = of_in _ known _ p a b x v n m refl r d q f g (ap (λ (v : Ty × TypedExpr). made (typed.Binary p v.0 In x.expr v.1) []) i)

  row_Binary : (p : Place) (o : BinaryOperator) (a b : Expr) → IsDerived a → IsDerived b → IsDerived (expr.Binary p o a b)
  row_Binary p In a b h k = row_In p a b h k
  row_Binary p o a b h k = λ known.
      let z : Expr = expr.Binary p o a b in
      let Q : Typed → Type 0 = Derives s env z known in
      by_rule z known _ (construct.typing_Binary s env p o a b known)
      (through (Derives s env a known) (typing s env a known) _ Q (h known) λ x r.
      through (Derives s env b known) (typing s env b known) _ Q (k known) λ y q.
      through (IsOperation s known a b x.expr y.expr o) (binary s known p o a b x.expr y.expr) _ Q (operation_is s known a b x.expr y.expr o p refl) λ type i.
      of_binary z known _ p o a b x y type refl r q i refl)

  -- ---- tests

  row_Has : (p : Place) (a : Expr) (names : List (List ℕ)) → IsDerived a → IsDerived (expr.Has p a names)
  row_Has p a names h known =
      let z : Expr = expr.Has p a names in
      let Q : Typed → Type 0 = Derives s env z known in
      by_rule z known _ (construct.typing_Has s env p a names known)
      (through (Derives s env a known) (typing s env a known) _ Q (h known) λ x r.
      through (λ v. along s p known (subject a x.expr) no_names names ≡ Ok v) (along s p known (subject a x.expr) no_names names) _ Q (told (along s p known (subject a x.expr) no_names names)) λ v f.
      of_has z known _ p a names x v refl r f refl)

  row_Like : (p : Place) (a : Expr) (pattern : List Part) → IsDerived a → IsDerived (expr.Like p a pattern)
  row_Like p a pattern h known =
      let z : Expr = expr.Like p a pattern in
      let Q : Typed → Type 0 = Derives s env z known in
      by_rule z known _ (construct.typing_Like s env p a pattern known)
      (through (Derives s env a known) (typing s env a known) _ Q (h known) λ x r.
      checked (is_string (ty x.expr)) _ _ _ Q λ c. of_like z known _ p a pattern x refl r c refl)

  abbrev IsTested : TypeName → TypedExpr → Bool → Type 0
  IsTested t x b = (n : List ℕ) × (entity_name (ty x) ≡ Some n) × (bytes_eq n t.name ≡ b)

  tested_is : (t : TypeName) (x : TypedExpr) → IfOk (is_of t x) (IsTested t x)
  tested_is t x = found (entity_name (ty x)) _ _ _ (IsTested t x) λ n f. (n, f, refl)

  row_Is : (p : Place) (a : Expr) (t : TypeName) → IsDerived a → IsDerived (expr.Is p a t)
  row_Is p a t h known =
      let z : Expr = expr.Is p a t in
      let Q : Typed → Type 0 = Derives s env z known in
      by_rule z known _ (construct.typing_Is s env p a t known)
      (through (Derives s env a known) (typing s env a known) _ Q (h known) λ x r.
      through (IsTested t x.expr) (is_of t x.expr) _ Q (tested_is t x.expr) λ b f.
      of_is z known _ p a t x f.0 refl r f.1 (ap (λ (c : Bool). made (typed.Is p (truth c) x.expr t) []) (sym f.2)))

  row_IsIn : (p : Place) (a : Expr) (t : TypeName) (q : Place) (b : Expr) → IsDerived a → IsDerived b → IsDerived (expr.IsIn p a t q b)
  row_IsIn p a t q b h k known =
      let z : Expr = expr.IsIn p a t q b in
      let Q : Typed → Type 0 = Derives s env z known in
      by_rule z known _ (construct.typing_IsIn s env p a t q b known)
      (through (Derives s env a known) (typing s env a known) _ Q (h known) λ x r.
      through (IsTested t x.expr) (is_of t x.expr) _ Q (tested_is t x.expr) λ c f.
      in_either c _ _ Q
      (λ g. through (IsRight a b known x.expr) (membership s a (part s env b) known x.expr) _ Q (right_is a b k known x.expr (decided s a b) refl) λ y i.
      in_row p q a b t known x r f.0 f.1 (f.2 ∙ g) y i)
      (λ g. of_is_in_other z known _ p q a b t x f.0 refl r f.1 (f.2 ∙ g) refl))
    where
      in_row : (p q : Place) (a b : Expr) (t : TypeName) (known : Capabilities) (x : Typed) → Derives s env a known x → (n : List ℕ) → entity_name (ty x.expr) ≡ Some n → bytes_eq n t.name ≡ true
          → (y : Ty × TypedExpr) → IsRight a b known x.expr y → Derives s env (expr.IsIn p a t q b) known (made (typed.IsIn p y.0 x.expr t q y.1) [])
      in_row p q a b t known x r n f g y (right_decided is_in d i) = of_is_in_decided _ known _ p q a b t x n is_in refl r f g d (ap (λ (v : Ty × TypedExpr). made (typed.IsIn p v.0 x.expr t q v.1) []) i)
      in_row p q a b t known x r n f g y (right_typed v l m d i j o w) = of_is_in _ known _ p q a b t x v l m refl r j (ap (λ (k : List ℕ). bytes_eq k t.name) (one_name n l (sym f ∙ j)) ∙ g) d i o
          (ap (λ (v : Ty × TypedExpr). made (typed.IsIn p v.0 x.expr t q v.1) []) w)

  -- ---- operators with one operand, attributes

  row_Unary : (p : Place) (o : UnaryOperator) (a : Expr) → IsDerived a → IsDerived (expr.Unary p o a)
  row_Unary p o a h known =
      let z : Expr = expr.Unary p o a in
      let Q : Typed → Type 0 = Derives s env z known in
      by_rule z known _ (construct.typing_Unary s env p o a known)
      (through (Derives s env a known) (typing s env a known) _ Q (h known) λ x r.
      through (IsApplication a x.expr o) (unary p o a x.expr) _ Q (application_is a x.expr o p) λ type i. of_unary z known _ p o a x type refl r i refl)

  record IsRead (known : Capabilities) (name : List ℕ) (a : Expr) (x : TypedExpr) (type : Ty) : Type 0 where
    fields : List Field
    field : Field
    declared : attributes s (ty x) ≡ Some fields
    at : attribute name fields ≡ Some field
    there : (is_required field || is_known known (attribute_of a name)) ≡ true
    is : type ≡ field.2

  read_is : (known : Capabilities) (p : Place) (name : List ℕ) (a : Expr) (x : TypedExpr) → IfOk (read_type s known p name a x) (IsRead known name a x)
  read_is known p name a x = found (attributes s (ty x)) _ _ _ (IsRead known name a x) λ fields at. by fields at (attribute name fields) refl
    where
      by : (fields : List Field) → attributes s (ty x) ≡ Some fields → (o : Option Field) → attribute name fields ≡ o → IfOk (read p o (is_known known (attribute_of a name))) (IsRead known name a x)
      by fields at None f = tt
      by fields at (Some g) f =
          in_either (is_required g || is_known known (attribute_of a name)) _ _ (IsRead known name a x)
          (λ t. record { fields = fields; field = g; declared = at; at = f; there = t; is = refl }) (λ t. tt)

  row_Access : (p : Place) (a : Expr) (name : List ℕ) → IsDerived a → IsDerived (expr.Access p a name)
  row_Access p a name h known =
      let z : Expr = expr.Access p a name in
      let Q : Typed → Type 0 = Derives s env z known in
      by_rule z known _ (construct.typing_Access s env p a name known)
      (through (Derives s env a known) (typing s env a known) _ Q (h known) λ x r.
      through (IsRead known name a x.expr) (read_type s known p name a x.expr) _ Q (read_is known p name a x.expr) λ type f.
      of_access z known _ p a name x f.fields f.field refl r f.declared f.at f.there (ap (λ (t : Ty). made (typed.Access p t x.expr name) []) f.is))

  -- ---- sets and records

  abbrev exprs : List Known → List Expr
  exprs ks = map (λ (k : Known). k.0) ks

  all_derived : (ks : List Known) (known : Capabilities) → IfOk (all_typed (map (part s env) (exprs ks)) known) (DeriveAll s env (exprs ks) known)
  all_derived [] known = no_member known
  all_derived (k ∷ ks) known =
      let Q : List TypedExpr → Type 0 = DeriveAll s env (exprs (k ∷ ks)) known in
      through (Derives s env k.0 known) (typing s env k.0 known) _ Q (k.1 known) λ u r.
      through (DeriveAll s env (exprs ks) known) (all_typed (map (part s env) (exprs ks)) known) _ Q (all_derived ks known) λ us q. with_member known k.0 (exprs ks) u us r q

  row_Set : (p : Place) (ks : List Known) → IsDerived (expr.Set p (exprs ks))
  row_Set p ks known =
      let z : Expr = expr.Set p (exprs ks) in
      let Q : Typed → Type 0 = Derives s env z known in
      by_rule z known _ (construct.typing_Set s env p (exprs ks) known)
      (through (DeriveAll s env (exprs ks) known) (all_typed (map (part s env) (exprs ks)) known) _ Q (all_derived ks known) λ us r.
      through (λ type. member_type p us ≡ Ok type) (member_type p us) _ Q (told (member_type p us)) λ type f. of_set z known _ p (exprs ks) us type refl r f refl)

  abbrev field_exprs : List (List ℕ × Known) → List (List ℕ × Expr)
  field_exprs ks = map (λ (f : List ℕ × Known). (f.0, f.1.0)) ks

  abbrev field_operands : List (List ℕ × Known) → List (List ℕ × Operand)
  field_operands ks = map (λ (f : List ℕ × Expr). (f.0, part s env f.1)) (field_exprs ks)

  fields_derived : (ks : List (List ℕ × Known)) (known : Capabilities) → IfOk (fields_typed (field_operands ks) known) (DeriveFields s env (field_exprs ks) known)
  fields_derived [] known = no_field known
  fields_derived (k ∷ ks) known =
      let Q : List (List ℕ × TypedExpr) → Type 0 = DeriveFields s env (field_exprs (k ∷ ks)) known in
      through (Derives s env k.1.0 known) (typing s env k.1.0 known) _ Q (k.1.1 known) λ u r.
      through (DeriveFields s env (field_exprs ks) known) (fields_typed (field_operands ks) known) _ Q (fields_derived ks known) λ us q. with_field known k.0 k.1.0 (field_exprs ks) u us r q

  row_Record : (p : Place) (ks : List (List ℕ × Known)) → IsDerived (expr.Record p (field_exprs ks))
  row_Record p ks known =
      let z : Expr = expr.Record p (field_exprs ks) in
      let Q : Typed → Type 0 = Derives s env z known in
      by_rule z known _ (construct.typing_Record s env p (field_exprs ks) known)
      (through (DeriveFields s env (field_exprs ks) known) (fields_typed (field_operands ks) known) _ Q (fields_derived ks known) λ us r.
      of_record z known _ p (field_exprs ks) us refl r refl)

  -- ---- all expressions

  from : (x z : Expr) → z ≡ x → IsDerived x → IsDerived z
  from x z at h = subst IsDerived (sym at) h

  inner : (y : Expr-F Known) → IsDerived (roll-Expr (forget y))
  inner (e.If p c a b) = from _ _ (rolls-If p c.0 a.0 b.0) (row_If p c.0 a.0 b.0 c.1 a.1 b.1)
  inner (e.Or p a b) = from _ _ (rolls-Or p a.0 b.0) (row_Or p a.0 b.0 a.1 b.1)
  inner (e.And p a b) = from _ _ (rolls-And p a.0 b.0) (row_And p a.0 b.0 a.1 b.1)
  inner (e.Binary p o a b) = from _ _ (rolls-Binary p o a.0 b.0) (row_Binary p o a.0 b.0 a.1 b.1)
  inner (e.Has p a names) = from _ _ (rolls-Has p a.0 names) (row_Has p a.0 names a.1)
  inner (e.Like p a pattern) = from _ _ (rolls-Like p a.0 pattern) (row_Like p a.0 pattern a.1)
  inner (e.Is p a t) = from _ _ (rolls-Is p a.0 t) (row_Is p a.0 t a.1)
  inner (e.IsIn p a t q b) = from _ _ (rolls-IsIn p a.0 t q b.0) (row_IsIn p a.0 t q b.0 a.1 b.1)
  inner (e.Unary p o a) = from _ _ (rolls-Unary p o a.0) (row_Unary p o a.0 a.1)
  inner (e.Access p a name) = from _ _ (rolls-Access p a.0 name) (row_Access p a.0 name a.1)
  inner (e.Literal p l) = from _ _ (rolls-Literal p l)
      (λ known. by_rule (expr.Literal p l) known _ (construct.typing_Literal s env p l known) (of_literal _ known _ p l refl refl))
  inner (e.Variable p v) = from _ _ (rolls-Variable p v)
      (λ known. by_rule (expr.Variable p v) known _ (construct.typing_Variable s env p v known) (of_variable _ known _ p v refl refl))
  inner (e.Set p ks) = from _ _ (rolls-Set p (exprs ks)) (row_Set p ks)
  inner (e.Record p ks) = from _ _ (rolls-Record p (field_exprs ks)) (row_Record p ks)

  derived_in : (x : Expr) → IsDerived x
  derived_in = ind-Expr IsDerived (λ x y at. subst (λ z. IsDerived (roll-Expr z)) at (inner y))

pub derived : (s : Declarations) (env : Env) (x : Expr) (known : Capabilities) → IfOk (typing s env x known) (Derives s env x known)
derived s env x known = derived_in s env x known
