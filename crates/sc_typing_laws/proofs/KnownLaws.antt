-- An expression is typed the same where more is known of expressions that weigh no less: what is known of an expression doesn't
-- change the types of what is inside it.
use Rattle.std.proofs.Common.{◌≡◌, ◌+◌, ◌≤◌, ◌<◌, ◌||◌, ◌++◌, ℕ, suc, List, [], ◌∷◌, map, length, Bool, true, false, if◌then◌else◌, Option, Some, None, Result, Ok, Err, IfOk, refl, sym, ap, subst, ◌∙◌, arith}
use Rattle.std.specs.Option.{option_map_or}
use Rattle.sc_laws.proofs.BoolLaws.{or_false}
use Rattle.sc_ast.specs.declared.expr.Expr.{Expr}
use Rattle.sc_ast.specs.declared.expr.Expr.TheVariants as expr
use Rattle.sc_ast.specs.declared.operator.BinaryOperator.{BinaryOperator}
use Rattle.sc_ast.specs.declared.operator.BinaryOperator.TheVariants.{HasTag, In}
use Rattle.sc_ast.specs.declared.place.Place.{Place}
use Rattle.sc_schema.specs.declared.declarations.Env.{Env}
use Rattle.sc_schema.specs.declared.ty.Ty.{Ty}
use Rattle.sc_schema.specs.Declarations.{Declarations, tags_of}
use Rattle.sc_typed.specs.declared.capability.Capability.{Capability}
use Rattle.sc_typed.specs.declared.fault.TypeFault.{TypeFault}
use Rattle.sc_typed.specs.declared.outcome.Typed.{Typed}
use Rattle.sc_typed.specs.declared.typed_expr.TypedExpr.{TypedExpr}
use Rattle.sc_typed.specs.Capabilities.{Capabilities, nowhere, bare, attribute_of, tag_of, same, is_known}
use Rattle.sc_typed.specs.Outcomes.{◌>>=◌, as_object}
use Rattle.sc_typed.specs.Types.{Field, is_required, attribute}
use Rattle.sc_typed.proofs.CapabilityLaws.{either_known}
use Rattle.sc_typed.proofs.SameLaws.{same_is}
use Rattle.sc_typing_rules.specs.declared.path.Path.{Path}
use Rattle.sc_typing_rules.specs.Operators.{has_tag}
use Rattle.sc_typing_rules.specs.Paths.{Subject, attribute_in, ended, held, maybe_held, has_always, named, no_names, longer, along}
use Rattle.sc_typing_rules.specs.Rules.{subject}
use Rattle.sc_typing.specs.Typing.{typing}
use Rattle.sc_typing_laws.specs.Operations.{IsOperation, of_comparison, of_arithmetic, of_literals, of_equal, of_apart, of_contains, of_sets, of_has_tag, of_get_tag, of_decimals, of_ranges}
use Rattle.sc_typing_laws.specs.Derivations.{Derives, DeriveAll, DeriveFields, of_if_true, of_if_false, of_if, of_or_true, of_or, of_and_false, of_and, of_binary, of_in_decided, of_in, of_has, of_like, of_is, of_is_in_other, of_is_in_decided, of_is_in, of_unary, of_access, of_literal, of_variable, of_set, of_record, no_member, with_member, no_field, with_field}
use Rattle.sc_typing_laws.proofs.WeightLaws.{weight, total, field_total, weights, weight_If, weight_Or, weight_And, weight_Binary, weight_Has, weight_Like, weight_Is, weight_IsIn, weight_Unary, weight_Access, weight_Set, weight_Record, bare_weight}
use Rattle.sc_typing_laws.proofs.DerivationLaws.{derived}
use Rattle.sc_typing_laws.proofs.GivenLaws.{given}

-- of each object that weighs less than this, one and the other tell the same
abbrev pub Agree : ℕ → Capabilities → Capabilities → Type 0
Agree n known more = (c : Capability) → weight c.object < n → is_known known c ≡ is_known more c

of_lighter : (known more : Capabilities) (m n : ℕ) → m ≤ n → Agree n known more → Agree m known more
of_lighter known more m n le h c l = h c (omega arith)

with_given : (n : ℕ) (known more given : Capabilities) → Agree n known more → Agree n (known ++ given) (more ++ given)
with_given n known more given h c l = sym (either_known known given c) ∙ ap (λ b. b || is_known given c) (h c l) ∙ either_known more given c

-- ---- operators

operation_still : (s : Declarations) (known more : Capabilities) (a b : Expr) (x y : TypedExpr) (o : BinaryOperator) (type : Ty) → is_known known (tag_of a b) ≡ is_known more (tag_of a b)
    → IsOperation s known a b x y o type → IsOperation s more a b x y o type
operation_still s known more a b x y _ _ same (of_comparison o i f g) = of_comparison o i f g
operation_still s known more a b x y _ _ same (of_arithmetic o i f g) = of_arithmetic o i f g
operation_still s known more a b x y _ _ same (of_literals l m f g) = of_literals l m f g
operation_still s known more a b x y _ _ same (of_equal both l j) = of_equal both l j
operation_still s known more a b x y _ _ same (of_apart n m l f g h j) = of_apart n m l f g h j
operation_still s known more a b x y _ _ same (of_contains element both f j) = of_contains element both f j
operation_still s known more a b x y _ _ same (of_sets o first second both i f g j) = of_sets o first second both i f g j
operation_still s known more a b x y _ _ same (of_has_tag n f g) = subst (λ k. IsOperation s more a b x y HasTag (has_tag (tags_of s n) k)) (sym same) (of_has_tag n f g)
operation_still s known more a b x y _ _ same (of_get_tag n type f g i k) = of_get_tag n type f g i (sym same ∙ k)
operation_still s known more a b x y _ _ same (of_decimals o i f g) = of_decimals o i f g
operation_still s known more a b x y _ _ same (of_ranges f g) = of_ranges f g

-- ---- names after `has`

module _ (s : Declarations) (place : Place) (known more : Capabilities) where
  abbrev next : Capabilities → Subject → Path → List ℕ → List (List ℕ) → Option Field → Result Path TypeFault
  next k o p name names found =
      option_map_or (λ (f : Field). along s place k (attribute_in place o name f) (longer k p o.object o.type name f) names) found (Ok (ended p o.type name names))

  -- a name of which both tell the same, where they do for the names after it
  one_more : (name : List ℕ) (names : List (List ℕ)) (o : Subject) (p : Path) → is_known (known ++ p.given) (named o.object name) ≡ is_known (more ++ p.given) (named o.object name)
      → ((f : Field) (q : Path) → along s place known (attribute_in place o name f) q names ≡ along s place more (attribute_in place o name f) q names)
      → along s place known o p (name ∷ names) ≡ along s place more o p (name ∷ names)
  one_more name names o p at later = by_fields (as_object s o.at o.type)
    where
      by_field : (found : Option Field) → next known o p name names found ≡ next more o p name names found
      by_field None = refl
      by_field (Some f) =
          later f (longer known p o.object o.type name f)
          ∙ ap (λ (k : Bool). along s place more (attribute_in place o name f) (if has_always o.type f || k then held p o.type name else maybe_held p o.type name (named o.object name)) names) at

      by_fields : (r : Result (List Field) TypeFault) → (r >>= λ fields. next known o p name names (attribute name fields)) ≡ (r >>= λ fields. next more o p name names (attribute name fields))
      by_fields (Err fault) = refl
      by_fields (Ok fields) = by_field (attribute name fields)

  along_still : (names : List (List ℕ)) (o : Subject) (p : Path) → Agree (weight o.object + length names) known more → along s place known o p names ≡ along s place more o p names
  along_still [] o p h = refl
  along_still (name ∷ names) o p h =
      one_more name names o p (with_given (weight o.object + length (name ∷ names)) known more p.given h (named o.object name) (omega arith)) λ f q.
      let w : weight (expr.Access nowhere o.object name) ≡ suc (weight o.object) = weight_Access nowhere o.object name in
      along_still names (attribute_in place o name f) q (of_lighter known more (weight (expr.Access nowhere o.object name) + length names) (weight o.object + length (name ∷ names)) (omega arith) h)

-- ---- expressions

module _ (s : Declarations) (env : Env) where
  mutual
    still : {z : Expr} {known : Capabilities} {u : Typed} → Derives s env z known u → (more : Capabilities) → Agree (weight z) known more → Derives s env z more u
    still (of_if_true z known u p c a b x y at r f q is) more h =
        let w : weight z ≡ suc (weight c + (weight a + weight b)) = ap weight at ∙ weight_If p c a b in
        of_if_true z more u p c a b x y at (still r more (of_lighter known more (weight c) (weight z) (omega arith) h)) f
        (still q (more ++ x.given) (with_given (weight a) known more x.given (of_lighter known more (weight a) (weight z) (omega arith) h))) is
    still (of_if_false z known u p c a b x y at r f g q is) more h =
        let w : weight z ≡ suc (weight c + (weight a + weight b)) = ap weight at ∙ weight_If p c a b in
        of_if_false z more u p c a b x y at (still r more (of_lighter known more (weight c) (weight z) (omega arith) h)) f g (still q more (of_lighter known more (weight b) (weight z) (omega arith) h)) is
    still (of_if z known u p c a b x y v type at r f g q l m j is) more h =
        let w : weight z ≡ suc (weight c + (weight a + weight b)) = ap weight at ∙ weight_If p c a b in
        of_if z more u p c a b x y v type at (still r more (of_lighter known more (weight c) (weight z) (omega arith) h)) f g
        (still q (more ++ x.given) (with_given (weight a) known more x.given (of_lighter known more (weight a) (weight z) (omega arith) h))) (still l more (of_lighter known more (weight b) (weight z) (omega arith) h)) m j is
    still (of_or_true z known u p a b x at r f is) more h =
        let w : weight z ≡ suc (weight a + weight b) = ap weight at ∙ weight_Or p a b in
        of_or_true z more u p a b x at (still r more (of_lighter known more (weight a) (weight z) (omega arith) h)) f is
    still (of_or z known u p a b x y at r f q c d is) more h =
        let w : weight z ≡ suc (weight a + weight b) = ap weight at ∙ weight_Or p a b in
        of_or z more u p a b x y at (still r more (of_lighter known more (weight a) (weight z) (omega arith) h)) f (still q more (of_lighter known more (weight b) (weight z) (omega arith) h)) c d is
    still (of_and_false z known u p a b x at r f is) more h =
        let w : weight z ≡ suc (weight a + weight b) = ap weight at ∙ weight_And p a b in
        of_and_false z more u p a b x at (still r more (of_lighter known more (weight a) (weight z) (omega arith) h)) f is
    still (of_and z known u p a b x y at r f q c d is) more h =
        let w : weight z ≡ suc (weight a + weight b) = ap weight at ∙ weight_And p a b in
        of_and z more u p a b x y at (still r more (of_lighter known more (weight a) (weight z) (omega arith) h)) f
        (still q (more ++ x.given) (with_given (weight b) known more x.given (of_lighter known more (weight b) (weight z) (omega arith) h))) c d is
    still (of_binary z known u p o a b x y type at r q i is) more h =
        let w : weight z ≡ suc (weight a + weight b) = ap weight at ∙ weight_Binary p o a b in
        let v : weight (bare a) ≡ weight a = bare_weight a in
        of_binary z more u p o a b x y type at (still r more (of_lighter known more (weight a) (weight z) (omega arith) h)) (still q more (of_lighter known more (weight b) (weight z) (omega arith) h))
        (operation_still s known more a b x.expr y.expr o type (h (tag_of a b) (omega arith)) i) is
    still (of_in_decided z known u p a b x is_in at r d is) more h =
        let w : weight z ≡ suc (weight a + weight b) = ap weight at ∙ weight_Binary p In a b in
        of_in_decided z more u p a b x is_in at (still r more (of_lighter known more (weight a) (weight z) (omega arith) h)) d is
    still (of_in z known u p a b x y n m at r d q f g is) more h =
        let w : weight z ≡ suc (weight a + weight b) = ap weight at ∙ weight_Binary p In a b in
        of_in z more u p a b x y n m at (still r more (of_lighter known more (weight a) (weight z) (omega arith) h)) d (still q more (of_lighter known more (weight b) (weight z) (omega arith) h)) f g is
    still (of_has z known u p a names x r at d f is) more h =
        let w : weight z ≡ suc (weight a + length names) = ap weight at ∙ weight_Has p a names in
        let v : weight (bare a) ≡ weight a = bare_weight a in
        of_has z more u p a names x r at (still d more (of_lighter known more (weight a) (weight z) (omega arith) h))
        (sym (along_still s p known more names (subject a x.expr) no_names (of_lighter known more (weight (bare a) + length names) (weight z) (omega arith) h)) ∙ f) is
    still (of_like z known u p a pattern x at r c is) more h =
        let w : weight z ≡ suc (weight a) = ap weight at ∙ weight_Like p a pattern in
        of_like z more u p a pattern x at (still r more (of_lighter known more (weight a) (weight z) (omega arith) h)) c is
    still (of_is z known u p a t x n at r f is) more h =
        let w : weight z ≡ suc (weight a) = ap weight at ∙ weight_Is p a t in
        of_is z more u p a t x n at (still r more (of_lighter known more (weight a) (weight z) (omega arith) h)) f is
    still (of_is_in_other z known u p q a b t x n at r f g is) more h =
        let w : weight z ≡ suc (weight a + weight b) = ap weight at ∙ weight_IsIn p a t q b in
        of_is_in_other z more u p q a b t x n at (still r more (of_lighter known more (weight a) (weight z) (omega arith) h)) f g is
    still (of_is_in_decided z known u p q a b t x n is_in at r f g d is) more h =
        let w : weight z ≡ suc (weight a + weight b) = ap weight at ∙ weight_IsIn p a t q b in
        of_is_in_decided z more u p q a b t x n is_in at (still r more (of_lighter known more (weight a) (weight z) (omega arith) h)) f g d is
    still (of_is_in z known u p q a b t x y n m at r f g d i j is) more h =
        let w : weight z ≡ suc (weight a + weight b) = ap weight at ∙ weight_IsIn p a t q b in
        of_is_in z more u p q a b t x y n m at (still r more (of_lighter known more (weight a) (weight z) (omega arith) h)) f g d (still i more (of_lighter known more (weight b) (weight z) (omega arith) h)) j is
    still (of_unary z known u p o a x type at r i is) more h =
        let w : weight z ≡ suc (weight a) = ap weight at ∙ weight_Unary p o a in
        of_unary z more u p o a x type at (still r more (of_lighter known more (weight a) (weight z) (omega arith) h)) i is
    still (of_access z known u p a name x fields f at r d g t is) more h =
        let w : weight z ≡ suc (weight a) = ap weight at ∙ weight_Access p a name in
        let v : weight (bare a) ≡ weight a = bare_weight a in
        of_access z more u p a name x fields f at (still r more (of_lighter known more (weight a) (weight z) (omega arith) h)) d g
        (ap (λ b. is_required f || b) (sym (h (attribute_of a name) (omega arith))) ∙ t) is
    still (of_literal z known u p l at is) more h = of_literal z more u p l at is
    still (of_variable z known u p v at is) more h = of_variable z more u p v at is
    still (of_set z known u p members xs type at r f is) more h =
        let w : weight z ≡ suc (total (map weight members)) = ap weight at ∙ weight_Set p members in
        of_set z more u p members xs type at (all_still r more (of_lighter known more (total (map weight members)) (weight z) (omega arith) h)) f is
    still (of_record z known u p fields xs at r is) more h =
        let w : weight z ≡ suc (field_total (weights fields)) = ap weight at ∙ weight_Record p fields in
        of_record z more u p fields xs at (fields_still r more (of_lighter known more (field_total (weights fields)) (weight z) (omega arith) h)) is

    all_still : {zs : List Expr} {known : Capabilities} {us : List TypedExpr} → DeriveAll s env zs known us → (more : Capabilities) → Agree (total (map weight zs)) known more → DeriveAll s env zs more us
    all_still (no_member known) more h = no_member more
    all_still (with_member known z zs u us r q) more h =
        with_member more z zs u us (still r more (of_lighter known more (weight z) (weight z + total (map weight zs)) (omega arith) h))
        (all_still q more (of_lighter known more (total (map weight zs)) (weight z + total (map weight zs)) (omega arith) h))

    fields_still : {zs : List (List ℕ × Expr)} {known : Capabilities} {us : List (List ℕ × TypedExpr)} → DeriveFields s env zs known us → (more : Capabilities) → Agree (field_total (weights zs)) known more
        → DeriveFields s env zs more us
    fields_still (no_field known) more h = no_field more
    fields_still (with_field known name z zs u us r q) more h =
        with_field more name z zs u us (still r more (of_lighter known more (weight z) (weight z + field_total (weights zs)) (omega arith) h))
        (fields_still q more (of_lighter known more (field_total (weights zs)) (weight z + field_total (weights zs)) (omega arith) h))

  -- an expression that has a type under what is known has it where more is known of expressions that weigh no less
  pub typed_still : (z : Expr) (known more : Capabilities) (u : Typed) → typing s env z known ≡ Ok u → Agree (weight z) known more → typing s env z more ≡ Ok u
  typed_still z known more u at h = given s env z more u (still (subst (λ o. IfOk o (Derives s env z known)) at (derived s env z known)) more h)

-- ---- one thing more that is known

by_same : (c d : Capability) (known : Bool) → same c d ≡ known → weight c.object < weight d.object → known ≡ false
by_same c d false e h = refl
by_same c d true e h = let one : weight c.object ≡ weight d.object = ap (λ (k : Capability). weight k.object) (same_is c d e) in absurd (omega arith)

-- of what is lighter than an object, what is known of the object tells nothing
pub agree_one : (known : Capabilities) (d : Capability) (n : ℕ) → n ≤ weight d.object → Agree n known (known ++ d ∷ [])
unfolding is_known
agree_one known d n le c l =
    let none : same c d ≡ false = by_same c d (same c d) refl (omega arith) in
    sym (or_false (is_known known c)) ∙ ap (λ b. is_known known c || (b || false)) (sym none) ∙ either_known known (d ∷ []) c

pub agree_all : (n : ℕ) (known : Capabilities) → Agree n known known
agree_all n known c l = refl
