-- Constructs other than `if`, `||` and `&&`, of operands that keep what their types say.
use Rattle.std.proofs.Common.{◌≡◌, ◌||◌, ℕ, List, [], Bool, true, false, if◌then◌else◌, Option, Some, None, Result, Ok, Err, IfOk, refl, sym, ap, subst, ◌∙◌}
use Rattle.std.specs.Str.{bytes_eq, chars}
use Rattle.sc_ast.specs.declared.expr.Expr.{Expr}
use Rattle.sc_ast.specs.declared.expr.TypeName.{TypeName}
use Rattle.sc_ast.specs.declared.operator.BinaryOperator.{BinaryOperator}
use Rattle.sc_ast.specs.declared.operator.BinaryOperator.TheVariants.{In}
use Rattle.sc_ast.specs.declared.operator.UnaryOperator.{UnaryOperator}
use Rattle.sc_ast.specs.declared.place.Place.{Place}
use Rattle.sc_names.specs.declared.uid.Uid.{Uid}
use Rattle.sc_pattern.specs.declared.part.Part.{Part}
use Rattle.sc_pattern.specs.Language.{is_match}
use Rattle.sc_schema.specs.declared.declarations.Env.{Env}
use Rattle.sc_schema.specs.declared.ty.Ty.{Ty}
use Rattle.sc_schema.specs.declared.ty.Ty.TheVariants as types
use Rattle.sc_schema.specs.Declarations.{Declarations}
use Rattle.sc_schema.specs.Lawful.{IsLawful}
use Rattle.sc_values.specs.declared.value.Value.{Value}
use Rattle.sc_world.specs.declared.world.World.{World}
use Rattle.sc_world.specs.WellFormed.{IsWellFormed}
use Rattle.sc_eval.specs.declared.error.EvalError.{EvalError}
use Rattle.sc_eval.specs.Outcomes.{Outcome, ◌>>=◌, of_bool}
use Rattle.sc_eval.specs.Entities.{access, has, has_path, is_in}
use Rattle.sc_eval.specs.Entities as evaluated_entities
use Rattle.sc_eval.specs.Operators.{is_like}
use Rattle.sc_eval.specs.Operators as evaluated
use Rattle.sc_eval.specs.Eval.{eval}
use Rattle.sc_typed.specs.declared.fault.TypeRule.TheVariants.{MaybeAbsent}
use Rattle.sc_typed.specs.declared.outcome.Typed.{Typed}
use Rattle.sc_typing_rules.specs.declared.path.Path.{Path}
use Rattle.sc_typed.specs.declared.typed_expr.TypedExpr.{TypedExpr}
use Rattle.sc_typed.specs.declared.typed_expr.TypedExpr.TheVariants as typed
use Rattle.sc_typed.specs.Types.{Field, is_string, entity_name, truth, attributes, attribute, is_required}
use Rattle.sc_typed.specs.TypedExprs.{type_of}
use Rattle.sc_typed.specs.Capabilities.{Capabilities, bare, attribute_of, is_known}
use Rattle.sc_typed.specs.Outcomes.{made, fails, ty}
use Rattle.sc_typing_rules.specs.Operators.{given_by}
use Rattle.sc_typing_rules.specs.Operators as ops
use Rattle.sc_typing_rules.specs.Paths.{no_names, along}
use Rattle.sc_typing_rules.specs.Rules.{Operand, membership, contained, computed, operated, subject, having, matching, is_of, tested, tested_in, applied, read, read_type, accessed}
use Rattle.sc_typed.proofs.OutcomeLaws.{through, in_either, checked, found, swapped}
use Rattle.sc_typed.proofs.TypeOfLaws.{type_of_Binary, type_of_Has, type_of_Like, type_of_Is, type_of_IsIn, type_of_Unary, type_of_Access}
use Rattle.sc_soundness_laws.specs.Sound.{IsOf, OrOverflows, AllHold, IsSound, SoundAs, Sounds}
use Rattle.sc_soundness_laws.proofs.ValueLaws.{Fits, false_fits, bool_fits, truth_fits, text, entity_of, as_entity-is, follows}
use Rattle.sc_soundness_laws.proofs.BareLaws.{bare_eval}
use Rattle.sc_soundness_laws.proofs.HoldingLaws.{known_holds, holds-has}
use Rattle.sc_soundness_laws.proofs.ObjectLaws.{object_of, has_required, reads_declared}
use Rattle.sc_soundness_laws.proofs.LogicLaws.{overflows, gives_bool, gives_as}
use Rattle.sc_soundness_laws.proofs.MembershipLaws.{InSound, membership_sound}
use Rattle.sc_soundness_laws.proofs.OperatorLaws.{OneSound, unary_sound, BinarySound, binary_sound}
use Rattle.sc_soundness_laws.proofs.PathLaws.{IsFound, path_sound}

module _ (w : World) where
  abbrev At : Operand → Outcome
  At a = eval a.expr w

  -- what follows the value of an operand
  after_value : (P : Value → Type 0) (o : Outcome) (f : Value → Outcome) (x : Typed) → OrOverflows P o → ((m : Value) → o ≡ Ok m → P m → IsSound w (f m) x) → IsSound w (o >>= f) x
  after_value P (Ok m) f x h k = k m refl h
  after_value P (Err e) f x h k = overflows w e x h

  -- a test, of which nothing is given
  test_after : (x : TypedExpr) (type : Ty) (r : Result Bool EvalError) → type_of x ≡ Some type → OrOverflows (Fits type) r → IsSound w (r >>= of_bool) (made x [])
  test_after x type (Ok b) at h = gives_bool w x type [] b at h (λ e. tt)
  test_after x type (Err e) at h = overflows w e (made x []) h

  steps : {A B : Type 0} (o : Result A EvalError) (f : A → Result B EvalError) (g : B → Outcome) → (o >>= f >>= g) ≡ (o >>= λ a. f a >>= g)
  steps (Ok a) f g = refl
  steps (Err e) f g = refl

  -- ---- `like` and `is`

  pub matching_sound : (place : Place) (pattern : List Part) (a : Operand) → Sounds w a → (known : Capabilities) → IfOk (matching place pattern a known) (SoundAs w known (At a >>= is_like pattern >>= of_bool))
  matching_sound place pattern a h known =
      let Q : Typed → Type 0 = SoundAs w known (At a >>= is_like pattern >>= of_bool) in
      through (SoundAs w known (At a)) (a.typed known) _ Q (h known) λ x p.
      checked (is_string (ty x.expr)) _ _ _ Q λ c held.
      test_after (typed.Like place types.Bool x.expr pattern) types.Bool (At a >>= is_like pattern) (type_of_Like place types.Bool x.expr pattern)
      (follows (IsOf w (ty x.expr)) (Fits types.Bool) (At a) (is_like pattern) (p held).outcome λ m hm.
      text w (Fits types.Bool) (ty x.expr) m (λ z. Ok (is_match pattern (chars z))) c hm (λ z. bool_fits (is_match pattern (chars z))))

  -- whether an entity is of a type is known by its own type
  abbrev IsOfSound : TypeName → TypedExpr → Bool → Type 0
  IsOfSound n x p = (m : Value) → IsOf w (ty x) m → evaluated_entities.is_of n.name m ≡ Ok p

  is_of_sound : (n : TypeName) (x : TypedExpr) → IfOk (is_of n x) (IsOfSound n x)
  is_of_sound n x =
      found (entity_name (ty x)) _ _ _ (IsOfSound n x) λ name xt m h.
      let p = entity_of w name (ty x) m xt h in
      ap (λ (o : Result Uid EvalError). o >>= λ u. Ok (bytes_eq u.type_name n.name)) (as_entity-is w m p.0 p.1.entity)
      ∙ ap (λ (t : List ℕ). Ok (bytes_eq t n.name)) p.1.named

  pub tested_sound : (place : Place) (n : TypeName) (a : Operand) → Sounds w a → (known : Capabilities) → IfOk (tested place n a known) (SoundAs w known (At a >>= evaluated_entities.is_of n.name >>= of_bool))
  tested_sound place n a h known =
      let Q : Typed → Type 0 = SoundAs w known (At a >>= evaluated_entities.is_of n.name >>= of_bool) in
      through (SoundAs w known (At a)) (a.typed known) _ Q (h known) λ x p.
      through (IsOfSound n x.expr) (is_of n x.expr) _ Q (is_of_sound n x.expr) λ r g held.
      test_after (typed.Is place (truth r) x.expr n) (truth r) (At a >>= evaluated_entities.is_of n.name) (type_of_Is place (truth r) x.expr n)
      (follows (IsOf w (ty x.expr)) (Fits (truth r)) (At a) (evaluated_entities.is_of n.name) (p held).outcome λ m hm. subst (OrOverflows (Fits (truth r))) (sym (g m hm)) (truth_fits r))

  -- ---- an operator with one operand

  pub applied_sound : (place : Place) (operator : UnaryOperator) (a : Operand) → Sounds w a → (known : Capabilities) → IfOk (applied place operator a known) (SoundAs w known (At a >>= evaluated.unary operator))
  applied_sound place operator a h known =
      let Q : Typed → Type 0 = SoundAs w known (At a >>= evaluated.unary operator) in
      through (SoundAs w known (At a)) (a.typed known) _ Q (h known) λ x p.
      through (OneSound w operator a.expr x.expr) (ops.unary place operator a.expr x.expr) _ Q (unary_sound w place operator a.expr x.expr) λ type g held.
      after_value (IsOf w (ty x.expr)) (At a) (evaluated.unary operator) (made (typed.Unary place type operator x.expr) []) (p held).outcome λ m at hm.
      gives_as w (typed.Unary place type operator x.expr) type [] (evaluated.unary operator m) (type_of_Unary place type operator x.expr) (g m at hm) (λ e. tt)

  module _ (s : Declarations) (env : Env) (literals : List Uid) (lawful : IsLawful s) (well : IsWellFormed s env literals w) where
    -- ---- an operator with two operands

    abbrev two_outcome : BinaryOperator → Outcome → Outcome → Outcome
    two_outcome operator a b = a >>= λ m. b >>= λ n. evaluated.binary operator w m n

    pub computed_sound : (place : Place) (operator : BinaryOperator) (a b : Operand) → Sounds w a → Sounds w b → (known : Capabilities) → IfOk (computed s place operator a b known) (SoundAs w known (two_outcome operator (At a) (At b)))
    computed_sound place operator a b h k known =
        let Q : Typed → Type 0 = SoundAs w known (two_outcome operator (At a) (At b)) in
        through (SoundAs w known (At a)) (a.typed known) _ Q (h known) λ x p.
        through (SoundAs w known (At b)) (b.typed known) _ Q (k known) λ y q.
        through (BinarySound s env literals w lawful well known operator a.expr b.expr x.expr y.expr) (ops.binary s known place operator a.expr b.expr x.expr y.expr) _ Q (binary_sound s env literals w lawful well known place operator a.expr b.expr x.expr y.expr) λ type g held.
        let whole : Typed = made (typed.Binary place type operator x.expr y.expr) (given_by operator a.expr b.expr type) in
        after_value (IsOf w (ty x.expr)) (At a) (λ m. At b >>= λ n. evaluated.binary operator w m n) whole (p held).outcome λ m at hm.
        after_value (IsOf w (ty y.expr)) (At b) (evaluated.binary operator w m) whole (q held).outcome λ n bt hn.
        let r = g m n at bt hm hn held in
        gives_as w (typed.Binary place type operator x.expr y.expr) type (given_by operator a.expr b.expr type) (evaluated.binary operator w m n) (type_of_Binary place type operator x.expr y.expr) r.outcome r.given

    abbrev in_outcome : Outcome → Value → Outcome
    in_outcome b m = b >>= λ n. is_in w m n >>= of_bool

    pub contained_sound : (place : Place) (a b : Operand) → Sounds w a → Sounds w b → (known : Capabilities) → IfOk (contained s place a b known) (SoundAs w known (two_outcome In (At a) (At b)))
    contained_sound place a b h k known =
        let Q : Typed → Type 0 = SoundAs w known (two_outcome In (At a) (At b)) in
        through (SoundAs w known (At a)) (a.typed known) _ Q (h known) λ x p.
        through (InSound s env literals w lawful well known a.expr b x.expr) (membership s a.expr b known x.expr) _ Q (membership_sound s env literals w lawful well a.expr b x.expr k known) λ r g held.
        let whole : Typed = made (typed.Binary place r.0 In x.expr r.1) [] in
        after_value (IsOf w (ty x.expr)) (At a) (in_outcome (At b)) whole (p held).outcome λ m at hm.
        subst (λ o. IsSound w o whole) (steps (At b) (is_in w m) of_bool)
        (test_after (typed.Binary place r.0 In x.expr r.1) r.0 (At b >>= is_in w m) (type_of_Binary place r.0 In x.expr r.1) (g held m at hm))

    pub operated_sound : (place : Place) (operator : BinaryOperator) (a b : Operand) → Sounds w a → Sounds w b → (known : Capabilities) → IfOk (operated s place operator a b known) (SoundAs w known (two_outcome operator (At a) (At b)))
    operated_sound place In a b h k known = contained_sound place a b h k known
    operated_sound place operator a b h k known = computed_sound place operator a b h k known

    -- ---- `is T in`

    abbrev is_in_outcome : List ℕ → Outcome → Outcome → Outcome
    is_in_outcome name a b = a >>= λ m. evaluated_entities.is_of name m >>= λ p. if p then (b >>= is_in w m >>= of_bool) else of_bool false

    pub tested_in_sound : (place : Place) (n : TypeName) (in_place : Place) (a b : Operand) → Sounds w a → Sounds w b → (known : Capabilities) → IfOk (tested_in s place n in_place a b known) (SoundAs w known (is_in_outcome n.name (At a) (At b)))
    tested_in_sound place n in_place a b h k known =
        let Q : Typed → Type 0 = SoundAs w known (is_in_outcome n.name (At a) (At b)) in
        through (SoundAs w known (At a)) (a.typed known) _ Q (h known) λ x p.
        through (IsOfSound n x.expr) (is_of n x.expr) _ Q (is_of_sound n x.expr) λ r g.
        in_either r _ _ Q
        (λ t. through (InSound s env literals w lawful well known a.expr b x.expr) (membership s a.expr b known x.expr) _ Q (membership_sound s env literals w lawful well a.expr b x.expr k known) λ y i held.
        let whole : Typed = made (typed.IsIn place y.0 x.expr n in_place y.1) [] in
        after_value (IsOf w (ty x.expr)) (At a) _ whole (p held).outcome λ m at hm.
        subst (λ (o : Result Bool EvalError). IsSound w (o >>= λ q. if q then (At b >>= is_in w m >>= of_bool) else of_bool false) whole) (sym (g m hm ∙ ap Ok t))
        (test_after (typed.IsIn place y.0 x.expr n in_place y.1) y.0 (At b >>= is_in w m) (type_of_IsIn place y.0 x.expr n in_place y.1) (i held m at hm)))
        (λ f held.
        let whole : Typed = made (typed.IsIn place types.False x.expr n in_place (typed.Skipped b.expr)) [] in
        after_value (IsOf w (ty x.expr)) (At a) _ whole (p held).outcome λ m at hm.
        subst (λ (o : Result Bool EvalError). IsSound w (o >>= λ q. if q then (At b >>= is_in w m >>= of_bool) else of_bool false) whole) (sym (g m hm ∙ ap Ok f))
        (gives_bool w (typed.IsIn place types.False x.expr n in_place (typed.Skipped b.expr)) types.False [] false (type_of_IsIn place types.False x.expr n in_place (typed.Skipped b.expr)) false_fits (λ e. tt)))

    -- ---- attributes

    abbrev ReadSound : Capabilities → Expr → TypedExpr → List ℕ → Ty → Type 0
    ReadSound known a x name type = AllHold w known → (m : Value) → eval a w ≡ Ok m → IsOf w (ty x) m → OrOverflows (IsOf w type) (access name w m)

    read_there : (type : Ty) (fields : List Field) (name : List ℕ) (f : Field) (m : Value) → attributes s type ≡ Some fields → attribute name fields ≡ Some f → IsOf w type m → has name w m ≡ Ok true → OrOverflows (IsOf w f.2) (access name w m)
    read_there type fields name f m e declared hm there =
        let q = object_of s env literals w well type fields m e hm in
        let r = reads_declared w fields m q.0 q.1 name f declared there in
        subst (OrOverflows (IsOf w f.2)) (sym r.1) r.2

    by_need : (known : Capabilities) (place : Place) (a : Expr) (x : TypedExpr) (name : List ℕ) (fields : List Field) (f : Field) → attributes s (ty x) ≡ Some fields → attribute name fields ≡ Some f
        → (b c : Bool) → is_required f ≡ b → is_known known (attribute_of a name) ≡ c → IfOk (if b || c then Ok f.2 else fails MaybeAbsent place) (ReadSound known a x name)
    by_need known place a x name fields f e declared true c required capable = λ held m at hm.
        let q = object_of s env literals w well (ty x) fields m e hm in
        read_there (ty x) fields name f m e declared hm (has_required w fields m q.0 q.1 name f declared required)
    by_need known place a x name fields f e declared false true required capable = λ held m at hm.
        read_there (ty x) fields name f m e declared hm (holds-has w (bare a) name m (bare_eval w a ∙ at) (known_holds w known (attribute_of a name) capable held))
    by_need known place a x name fields f e declared false false required capable = tt

    read_sound : (known : Capabilities) (place : Place) (a : Expr) (x : TypedExpr) (name : List ℕ) (fields : List Field) → attributes s (ty x) ≡ Some fields → (o : Option Field) → attribute name fields ≡ o
        → IfOk (read place o (is_known known (attribute_of a name))) (ReadSound known a x name)
    read_sound known place a x name fields e None declared = tt
    read_sound known place a x name fields e (Some f) declared = by_need known place a x name fields f e declared (is_required f) (is_known known (attribute_of a name)) refl refl

    pub accessed_sound : (place : Place) (name : List ℕ) (a : Operand) → Sounds w a → (known : Capabilities) → IfOk (accessed s place name a known) (SoundAs w known (At a >>= access name w))
    accessed_sound place name a h known =
        let Q : Typed → Type 0 = SoundAs w known (At a >>= access name w) in
        through (SoundAs w known (At a)) (a.typed known) _ Q (h known) λ x p.
        through (ReadSound known a.expr x.expr name) (read_type s known place name a.expr x.expr) _ Q
        (found (attributes s (ty x.expr)) _ _ _ (ReadSound known a.expr x.expr name) λ fields e. read_sound known place a.expr x.expr name fields e (attribute name fields) refl) λ type g held.
        after_value (IsOf w (ty x.expr)) (At a) (access name w) (made (typed.Access place type x.expr name) []) (p held).outcome λ m at hm.
        gives_as w (typed.Access place type x.expr name) type [] (access name w m) (type_of_Access place type x.expr name) (g held m at hm) (λ e. tt)

    -- ---- `has`

    path_given : (place : Place) (names : List (List ℕ)) (x : TypedExpr) (r : Path) (known : Capabilities) (held : AllHold w known) (m : Value) → IsFound s env literals w well known held place names m r
        → IsSound w (has_path names w m >>= of_bool) (made (typed.Has place r.found x r.steps r.skipped) r.given)
    path_given place names x r known held m h =
        subst (λ (o : Result Bool EvalError). IsSound w (o >>= of_bool) (made (typed.Has place r.found x r.steps r.skipped) r.given)) (sym h.asked)
        (gives_bool w (typed.Has place r.found x r.steps r.skipped) r.found r.given h.answer (type_of_Has place r.found x r.steps r.skipped) h.fits h.given)

    -- a value of the operand, under capabilities that hold
    record IsAt (known : Capabilities) (a : Operand) (x : Typed) : Type 0 where
      held : AllHold w known
      m : Value
      at : At a ≡ Ok m
      typed_as : IsOf w (ty x.expr) m

    path_found : (place : Place) (names : List (List ℕ)) (a : Operand) (x : Typed) (known : Capabilities) (i : IsAt known a x) → IfOk (along s place known (subject a.expr x.expr) no_names names) (IsFound s env literals w well known i.held place names i.m)
    path_found place names a x known i = path_sound s env literals w well known i.held place names (subject a.expr x.expr) i.m (bare_eval w a.expr ∙ i.at) i.typed_as

    pub having_sound : (place : Place) (names : List (List ℕ)) (a : Operand) → Sounds w a → (known : Capabilities) → IfOk (having s place names a known) (SoundAs w known (At a >>= has_path names w >>= of_bool))
    having_sound place names a h known =
        let Q : Typed → Type 0 = SoundAs w known (At a >>= has_path names w >>= of_bool) in
        through (SoundAs w known (At a)) (a.typed known) _ Q (h known) λ x p.
        let found_of : IsAt known a x → Path → Type 0 = λ i. IsFound s env literals w well known i.held place names i.m in
        through (λ (r : Path). (i : IsAt known a x) → found_of i r) (along s place known (subject a.expr x.expr) no_names names) _ Q
        (swapped found_of (along s place known (subject a.expr x.expr) no_names names) (path_found place names a x known)) λ r g held.
        let whole : Typed = made (typed.Has place r.found x.expr r.steps r.skipped) r.given in
        subst (λ o. IsSound w o whole) (sym (steps (At a) (has_path names w) of_bool))
        (after_value (IsOf w (ty x.expr)) (At a) (λ m. has_path names w m >>= of_bool) whole (p held).outcome λ m at hm.
        path_given place names x.expr r known held m (g (record { held = held; m = m; at = at; typed_as = hm })))
