-- The law of the compiler, by recursion over what typing gives: a row a construct.
use Rattle.std.proofs.Common.{◌≡◌, ℕ, List, [], ◌∷◌, ◌++◌, map, flat_map, Bool, true, false, if◌then◌else◌, Option, Some, None, option_map, unwrap_or, Result, Ok, Err, IfOk, Contains, IsTrue, refl, ap, sym, subst, ◌∙◌}
use Rattle.std.specs.List.{AllByRecursion, list_any}
use Rattle.std.specs.Option.{option_and_then}
use Rattle.std.specs.Str.{bytes_eq, chars}
use Rattle.sc_ast.specs.declared.expr.Expr.{Expr, Expr-F, roll-Expr, out-Expr, map-Expr, fold_out-Expr}
use Rattle.sc_ast.specs.declared.expr.Expr.TheOpen as e
use Rattle.sc_ast.specs.declared.expr.Expr.TheVariants.{rolls-If, rolls-Or, rolls-And, rolls-Binary, rolls-Has, rolls-Like, rolls-Is, rolls-IsIn, rolls-Unary, rolls-Access, rolls-Set, rolls-Record}
use Rattle.sc_ast.specs.declared.expr.Variable.{Variable}
use Rattle.sc_ast.specs.declared.expr.Variable.TheVariants.{Principal, Action, Resource, Context}
use Rattle.sc_ast.specs.declared.literal.Literal.{Literal}
use Rattle.sc_ast.specs.declared.literal.Literal.TheVariants as literal
use Rattle.sc_ast.specs.declared.operator.BinaryOperator.TheVariants.{In}
use Rattle.sc_ast.specs.declared.place.Place.{Place}
use Rattle.sc_ast.specs.Literals.{uids_step, expr_uids}
use Rattle.sc_names.specs.declared.uid.Uid.{Uid}
use Rattle.sc_pattern.specs.Language.{is_match}
use Rattle.sc_schema.specs.declared.declarations.Env.{Env}
use Rattle.sc_schema.specs.declared.ty.Ty.{Ty, Ty-F, out-Ty, out-roll-Ty}
use Rattle.sc_schema.specs.declared.ty.Ty.TheOpen as kinds
use Rattle.sc_schema.specs.declared.ty.Ty.TheVariants.{rolls-True, rolls-False}
use Rattle.sc_schema.specs.declared.ty.Ty.TheVariants as types
use Rattle.sc_schema.specs.Declarations.{Declarations}
use Rattle.sc_schema.specs.Lawful.{IsLawful}
use Rattle.sc_values.specs.declared.value.Value.{Value, Value-F, out-Value}
use Rattle.sc_values.specs.declared.value.Value.TheOpen as opened
use Rattle.sc_values.specs.declared.value.Value.TheVariants as value
use Rattle.sc_values.proofs.OutLaws.{out_String}
use Rattle.sc_world.specs.declared.world.World.{World}
use Rattle.sc_world.specs.Conforms.{conforms}
use Rattle.sc_world.specs.WellFormed.{IsWellFormed}
use Rattle.sc_eval.specs.declared.error.EvalError.{EvalError}
use Rattle.sc_eval.specs.declared.error.EvalError.TheVariants.{TypeError, Overflow}
use Rattle.sc_eval.specs.Outcomes.{Outcome, ◌>>=◌, of_bool, text_in, entity_in, as_entity}
use Rattle.sc_eval.specs.Collections.{set_value}
use Rattle.sc_eval.specs.Operators.{is_like, literal_value, variable_value}
use Rattle.sc_eval.specs.Entities.{is_of, is_or_in, all_entities, entities_in, is_in}
use Rattle.sc_eval.specs.Eval.{Meaning, all_values, eval_step, eval}
use Rattle.sc_eval.specs.ConstructLaws as evaluated
use Rattle.sc_typed.specs.declared.outcome.Typed.{Typed}
use Rattle.sc_typed.specs.declared.typed_expr.TypedExpr.{TypedExpr}
use Rattle.sc_typed.specs.declared.typed_expr.TypedExpr.TheVariants as typed
use Rattle.sc_typed.specs.Capabilities.{Capabilities}
use Rattle.sc_typed.specs.Literals.{literal_of, uid_of}
use Rattle.sc_typed.specs.Outcomes.{ty}
use Rattle.sc_typed.specs.TypedExprs.{expr_place, type_of}
use Rattle.sc_typed.specs.Types.{is_true, is_true_in, is_false, is_false_in, is_boolean, is_boolean_in, entity_name, truth}
use Rattle.sc_typed.proofs.TypeOfLaws.{type_of_Binary, type_of_IsIn}
use Rattle.sc_typing_rules.specs.Operators.{uids_of as uids_read, some_uids_of, group_in, decided}
use Rattle.sc_typing_rules.specs.Rules.{literal_type, literal_typed, leaves, variable_type, subject, record_type}
use Rattle.sc_typing.specs.Typing.{typing}
use Rattle.sc_typing_laws.specs.Derivations.{in_type, Derives, of_if_true, of_if_false, of_if, of_or_true, of_or, of_and_false, of_and, of_binary, of_in_decided, of_in, of_has, of_like, of_is, of_is_in_other, of_is_in_decided, of_is_in, of_unary, of_access, of_literal, of_variable, of_set, of_record, DeriveAll, no_member, with_member, DeriveFields, no_field, with_field}
use Rattle.sc_soundness_laws.specs.Sound.{IsOf, OrOverflows, AllHold, IsSound}
use Rattle.sc_soundness_laws.proofs.ValueLaws.{boolean, fits-true, fits-false, string_of, entity_of, as_entity-is}
use Rattle.sc_soundness_laws.proofs.HoldingLaws.{both-hold}
use Rattle.sc_soundness_laws.proofs.ListLaws.{split}
use Rattle.sc_soundness_laws.proofs.EqualLaws.{literal-eval}
use Rattle.sc_soundness_laws.proofs.ActingLaws.{uids_of}
use Rattle.sc_terms.specs.Folds.{not_term, or_term}
use Rattle.sc_terms.specs.Values.{it, yes, val}
use Rattle.sc_terms.proofs.FoldValues.{truth_is, leaf_is}
use Rattle.sc_constructs.specs.Objects.{written_term, variable_term, in_term, is_decided, in_code}
use Rattle.sc_constructs.specs.Code.{Code, constant, after_both, and_code, is_code}
use Rattle.sc_symeval.specs.Agreement.{Agrees}
use Rattle.sc_symeval.specs.Codes.{is_of_type, code_of}
use Rattle.sc_symeval.proofs.CodeLaws as coded
use Rattle.sc_symeval_laws.specs.TypeSorts.{sort_in}
use Rattle.sc_symeval_laws.proofs.AgreeLaws as agree
use Rattle.sc_symeval_laws.proofs.AgreeLaws.{meets_same, and_ok, or_ok, not_ok, always_agrees, constant_agrees, is_agrees, choice_agrees, branch_agrees, or_agrees, and_agrees, or_skipped, and_skipped}
use Rattle.sc_symeval_laws.proofs.DecidedLaws.{LiteralLaw, uid_is, decided_of, decided_told, erased, never_decided}
use Rattle.sc_symeval_laws.proofs.InLaws.{in_agrees}
use Rattle.sc_symeval_laws.proofs.KeptLaws.{choice_true, choice_false, choice_open, either_true, either_open, both_false, both_open, not_named, of_name, along_is}
use Rattle.sc_symeval_laws.proofs.ObjectLaws.{access_agrees, path_agrees}
use Rattle.sc_symeval_laws.proofs.OperatorLaws.{operation_agrees, application_agrees}
use Rattle.sc_symeval_laws.proofs.RowLaws.{like_agrees}
use Rattle.sc_symeval_laws.proofs.SetRecordLaws.{AgreeAll, AgreeFields, set_agrees, record_agrees}
use Rattle.sc_symeval_laws.proofs.SortedKept.{sorted_value}
use Rattle.sc_symeval_laws.proofs.SortedLaws.{IsSorted}

-- ---- what is known of the crates below

-- what is derived is given by typing
abbrev pub Given : Type 0
Given = (s : Declarations) (env : Env) (x : Expr) (known : Capabilities) (t : Typed) → Derives s env x known t → typing s env x known ≡ Ok t

-- typed expressions err only by Overflow, and what they give holds where they are true
abbrev pub Soundness : Type 0
Soundness = (s : Declarations) (env : Env) (literals : List Uid) (w : World) (x : Expr) (known : Capabilities)
    → IsLawful s → IsWellFormed s env literals w → AllByRecursion (Contains literals) (expr_uids x) → AllHold w known → IfOk (typing s env x known) (λ (t : Typed). IsSound w (eval x w) t)

module _ (given : Given) (soundness : Soundness) (law : LiteralLaw) (s : Declarations) (env : Env) (literals : List Uid) (w : World) (lawful : IsLawful s) (well : IsWellFormed s env literals w) where
  abbrev Within : List Uid → Type 0
  Within us = AllByRecursion (Contains literals) us

  -- ---- what an operand comes to

  sound : (x : Expr) (known : Capabilities) (t : Typed) → Within (expr_uids x) → AllHold w known → Derives s env x known t → IsSound w (eval x w) t
  sound x known t uids held d =
      subst (λ (r : Result Typed _). IfOk r (λ (u : Typed). IsSound w (eval x w) u)) (given s env x known t d) (soundness s env literals w x known lawful well uids held)

  -- a value that comes is of the type
  of_value : (type : Ty) (o : Outcome) (x : Value) → OrOverflows (IsOf w type) o → o ≡ Ok x → IsOf w type x
  of_value type o x h is = subst (OrOverflows (IsOf w type)) is h

  -- a truth value, of a Boolean type
  abbrev IsTruth : Outcome → Type 0
  IsTruth = agree.IsTruth w

  truth_of : (type : Ty) (o : Outcome) → is_boolean type ≡ true → OrOverflows (IsOf w type) o → IsTruth o
  truth_of type (Ok x) b h = boolean type x b h.conforming
  truth_of type (Err f) b h = tt

  -- of a type of one truth value
  true_of : (type : Ty) (o : Outcome) (x : Value) → is_true type ≡ true → OrOverflows (IsOf w type) o → o ≡ Ok x → x ≡ value.Bool true
  true_of type o x t h is =
      let k = of_value type o x h is in
      let b = boolean type x (boolean_of_true type t) k.conforming in
      b.1 ∙ ap value.Bool (fits-true type b.0 t (subst (λ (y : Value). IsTrue (conforms type y)) b.1 k.conforming))
    where
      at : (y : Ty-F Ty) → is_true_in y ≡ true → is_boolean_in y ≡ true
      at kinds.True h = refl
      at y h = absurd cc

      boolean_of_true : (type : Ty) → is_true type ≡ true → is_boolean type ≡ true
      boolean_of_true type h = at (out-Ty type) h

  false_of : (type : Ty) (o : Outcome) (x : Value) → is_false type ≡ true → OrOverflows (IsOf w type) o → o ≡ Ok x → x ≡ value.Bool false
  false_of type o x t h is =
      let k = of_value type o x h is in
      let b = boolean type x (boolean_of_false type t) k.conforming in
      b.1 ∙ ap value.Bool (fits-false type b.0 t (subst (λ (y : Value). IsTrue (conforms type y)) b.1 k.conforming))
    where
      at : (y : Ty-F Ty) → is_false_in y ≡ true → is_boolean_in y ≡ true
      at kinds.False h = refl
      at y h = absurd cc

      boolean_of_false : (type : Ty) → is_false type ≡ true → is_boolean type ≡ true
      boolean_of_false type h = at (out-Ty type) h

  -- what a condition gives holds where it is true
  then_hold : (known : Capabilities) (o : Outcome) (t : Typed) (x : Value) → AllHold w known → IsSound w o t → o ≡ Ok x → x ≡ value.Bool true → AllHold w (known ++ t.given)
  then_hold known o t x held h is so = both-hold w known t.given held (h.given (is ∙ ap Ok so))

  -- ---- a construct, at the expression and at what typing makes of it

  abbrev Tells : Expr → Typed → Type 0
  Tells z u = Agrees w (code_of s env u.expr) (eval z w)

  row : (z x : Expr) (u t : Typed) (c : Code) (o : Outcome) → z ≡ x → u ≡ t → code_of s env t.expr ≡ c → eval x w ≡ o → Agrees w c o → Tells z u
  row z x u t c o at is code worth h =
      subst (λ (y : Expr). Agrees w (code_of s env u.expr) (eval y w)) (sym at)
      (subst (λ (v : Typed). Agrees w (code_of s env v.expr) (eval x w)) (sym is)
      (subst (λ (d : Code). Agrees w d (eval x w)) (sym code) (subst (Agrees w c) (sym worth) h)))

  -- the uids of parts
  uids_at : (z x : Expr) (y : Expr-F Expr) → z ≡ x → roll-Expr y ≡ x → Within (expr_uids z) → Within (uids_step (map-Expr Expr (List Uid) expr_uids y))
  uids_at z x y at rolls h = subst Within (ap expr_uids at ∙ uids_of x y rolls) h

  both_uids : (a b : Expr) → Within (expr_uids a ++ expr_uids b) → Within (expr_uids a) × Within (expr_uids b)
  both_uids a b h = split (Contains literals) (expr_uids a) (expr_uids b) h

  -- ---- leaves

  literal_val : (l : Literal) → val (written_term s l) w ≡ it (literal_value l)
  literal_val (literal.Bool b) = truth_is b w
  literal_val (literal.Long n) = leaf_is _ w
  literal_val (literal.String text) = leaf_is _ w
  literal_val (literal.Entity u) = leaf_is _ w

  variable_val : (v : Variable) → val (variable_term s env v) w ≡ it (variable_value v w.request)
  variable_val Principal = leaf_is _ w
  variable_val Action = leaf_is _ w ∙ ap (λ (u : Uid). it (value.Entity u)) (sym well.request.action)
  variable_val Resource = leaf_is _ w
  variable_val Context = leaf_is _ w

  -- ---- `is`

  -- whether an entity of a type is of another one
  named_is : (n name : List ℕ) (type : Ty) (v : Value) → entity_name type ≡ Some n → IsOf w type v → is_of name v ≡ Ok (bytes_eq n name)
  named_is n name type v f h =
      let u = entity_of w n type v f h in
      ap (λ r. r >>= λ q. Ok (bytes_eq q.type_name name)) (as_entity-is w v u.0 u.1.entity) ∙ ap (λ (m : List ℕ). Ok (bytes_eq m name)) u.1.named

  truth_told : (b : Bool) → is_true (truth b) ≡ b
  truth_told true = ap is_true_in (ap out-Ty (sym rolls-True) ∙ out-roll-Ty kinds.True)
  truth_told false = ap is_true_in (ap out-Ty (sym rolls-False) ∙ out-roll-Ty kinds.False)

  -- what follows in two steps follows in one
  in_turn : {A B : Type 0} (o : Outcome) (f : Value → Result A EvalError) (g : A → Result B EvalError) → ((o >>= f) >>= g) ≡ (o >>= λ x. f x >>= g)
  in_turn (Ok x) f g = refl
  in_turn (Err err) f g = refl

  -- ---- what its terms are

  sorted : (x : Expr) (known : Capabilities) (t : Typed) → Derives s env x known t → IsSorted w (sort_in s (ty t.expr)) (code_of s env t.expr).val
  sorted x known t d = sorted_value s env w law lawful x known t d

  -- what an operand comes to that is a literal
  worth : (a : Expr) (l : Literal) → literal_of a ≡ Some l → eval a w ≡ Ok (literal_value l)
  worth a l e = literal-eval a l w e

  written_as : (a : Expr) (known : Capabilities) (x : Typed) → Derives s env a known x → (l : Literal) → literal_of a ≡ Some l → (p : Place) × (x.expr ≡ literal_typed s p l)
  written_as a known x d l e = (expr_place a, ap (λ (v : Typed). v.expr) (law s env a known x l e d))

  -- ---- `in` that is decided

  -- the only error is a type error
  abbrev OnlyTypes : {A : Type 0} → Result A EvalError → Type 0
  OnlyTypes (Ok x) = Unit {0}
  OnlyTypes (Err e) = e ≡ TypeError

  types_follow : {A B : Type 0} (o : Result A EvalError) (f : A → Result B EvalError) → OnlyTypes o → ((x : A) → OnlyTypes (f x)) → OnlyTypes (o >>= f)
  types_follow (Ok x) f h k = k x
  types_follow (Err e) f h k = h

  entity_types : (z : Value-F Value) → OnlyTypes (entity_in z)
  entity_types (opened.Entity u) = tt
  entity_types (opened.Bool b) = refl
  entity_types (opened.Long n) = refl
  entity_types (opened.String x) = refl
  entity_types (opened.Set xs) = refl
  entity_types (opened.Record fs) = refl
  entity_types (opened.Decimal n) = refl
  entity_types (opened.Ip ip) = refl

  all_types : (xs : List Value) → OnlyTypes (all_entities xs)
  all_types [] = tt
  all_types (x ∷ xs) = types_follow (as_entity x) (λ u. all_entities xs >>= λ us. Ok (u ∷ us)) (entity_types (out-Value x)) (λ u. types_follow (all_entities xs) (λ us. Ok (u ∷ us)) (all_types xs) (λ us. tt))

  group_types : (z : Value-F Value) → OnlyTypes (entities_in z)
  group_types (opened.Entity u) = tt
  group_types (opened.Set xs) = all_types xs
  group_types (opened.Bool b) = refl
  group_types (opened.Long n) = refl
  group_types (opened.String x) = refl
  group_types (opened.Record fs) = refl
  group_types (opened.Decimal n) = refl
  group_types (opened.Ip ip) = refl

  in_types : (m k : Value) → OnlyTypes (is_in w m k >>= of_bool)
  in_types m k =
      types_follow (is_in w m k) of_bool
      (types_follow (as_entity m) (λ a. entities_in (out-Value k) >>= λ bs. Ok (list_any (is_or_in w a) bs)) (entity_types (out-Value m)) (λ a. types_follow (entities_in (out-Value k)) (λ bs. Ok (list_any (is_or_in w a) bs)) (group_types (out-Value k)) (λ bs. tt)))
      (λ b. tt)

  -- what is of the type of one truth value, and never overflows, is that one
  told_truth : (b : Bool) (o : Outcome) → OrOverflows (IsOf w (truth b)) o → OnlyTypes o → o ≡ of_bool b
  told_truth true (Ok x) h k = ap Ok (true_of (truth true) (Ok x) x (truth_told true) h refl)
  told_truth false (Ok x) h k = ap Ok (false_of (truth false) (Ok x) x false_told h refl)
    where
      false_told : is_false (truth false) ≡ true
      false_told = ap is_false_in (ap out-Ty (sym rolls-False) ∙ out-roll-Ty kinds.False)
  told_truth b (Err e) h k = absurd (let clash : Overflow ≡ TypeError = sym h ∙ k in cc)

  -- entities that are written have a value
  uid_worth : (x : Expr) (u : Uid) → uid_of x ≡ Some u → eval x w ≡ Ok (value.Entity u)
  uid_worth x u h = worth x (literal.Entity u) (uid_is x u h)

  members_by : (x : Expr) (xs : List Expr) (us : List Uid) (o : Option Uid) (r : Option (List Uid)) → uid_of x ≡ o → ((vs : List Uid) → r ≡ Some vs → (ys : List Value) × (all_values (map eval xs) w ≡ Ok ys))
      → option_and_then (λ u. option_map (λ vs. u ∷ vs) r) o ≡ Some us → (ys : List Value) × (all_values (map eval (x ∷ xs)) w ≡ Ok ys)
  members_by x xs us (Some u) (Some vs) at later e =
      let q = later vs refl in (
        value.Entity u ∷ q.0,
        ap (λ (o : Outcome). o >>= λ y. all_values (map eval xs) w >>= λ ys. Ok (y ∷ ys)) (uid_worth x u at) ∙ ap (λ (r : Result (List Value) EvalError). r >>= λ ys. Ok (value.Entity u ∷ ys)) q.1,
      )
  members_by x xs us (Some u) None at later e = absurd cc
  members_by x xs us None r at later e = absurd cc

  members_worth : (xs : List Expr) (us : List Uid) → uids_read xs ≡ Some us → (ys : List Value) × (all_values (map eval xs) w ≡ Ok ys)
  members_worth [] us h = ([], refl)
  members_worth (x ∷ xs) us h = members_by x xs us (uid_of x) (uids_read xs) refl (members_worth xs) h

  some_worth : (xs : List Expr) (us : List Uid) → some_uids_of xs ≡ Some us → (ys : List Value) × (all_values (map eval xs) w ≡ Ok ys)
  some_worth [] us h = absurd cc
  some_worth (x ∷ xs) us h = members_worth (x ∷ xs) us h

  group_worth : (y : Expr-F Expr) (us : List Uid) → group_in y ≡ Some us → (v : Value) × (eval_step (map-Expr Expr Meaning eval y) w ≡ Ok v)
  group_worth (e.Literal p l) us h = (literal_value l, refl)
  group_worth (e.Set p members) us h = let q = some_worth members us h in (set_value q.0, ap (λ (r : Result (List Value) EvalError). r >>= λ ys. Ok (set_value ys)) q.1)
  group_worth _ us h = absurd cc

  by_layer : (b : Expr) → eval b w ≡ eval_step (map-Expr Expr Meaning eval (out-Expr b)) w
  unfolding eval
  by_layer b = ap (λ f. f w) (fold_out-Expr Meaning eval_step b)

  -- both operands of what is decided have values
  record AreWorth (a b : Expr) : Type 0 where
    first : Value
    first_is : eval a w ≡ Ok first
    second : Value
    second_is : eval b w ≡ Ok second

  decided_worth : (a b : Expr) (r : Bool) → decided s a b ≡ Some r → AreWorth a b
  decided_worth a b r h =
      let q = decided_of s a b r h in
      let v = group_worth (out-Expr b) q.uids q.uids_are in
      record { first = value.Entity q.uid; first_is = uid_worth a q.uid q.uid_is; second = v.0; second_is = by_layer b ∙ v.1 }

  decided_code : (type : Ty) (x y : TypedExpr) (a b : Code) → is_decided s x y ≡ true → in_code s type x y a b ≡ constant (is_true type)
  decided_code type x y a b h = ap (λ (r : Bool). if r then constant (is_true type) else after_both a b (in_term s (entity_name (ty x)) (ty y) a.val b.val)) h

  -- ---- `is T in`

  -- a front that is true, and a test behind it
  behind_true : (front c : Code) (o : Outcome) → val front.ok w ≡ yes true → val front.val w ≡ yes true → Agrees w c o → Agrees w (and_code front c) o
  behind_true front c o h g k =
      meets_same _ (val c.ok w) _ (val c.val w) o (and_ok w front.ok (or_term (not_term front.val) c.ok) true h ∙ or_ok w (not_term front.val) c.ok false (not_ok w front.val true g)) (and_ok w front.val c.val true g) k

  among_agrees : (a c : Code) (o : Outcome) (f : Value → Outcome) → Agrees w a o → Agrees w c (o >>= f) → Agrees w (and_code (is_code true a) c) (o >>= f)
  among_agrees a c (Ok x) f h k = behind_true (is_code true a) c (f x) h.0 (truth_is true w) k
  among_agrees a c (Err e) f h k = and_ok w a.ok _ false h

  -- an entity of the type is asked whether it is in the right side
  named_in : (name : List ℕ) (o p : Outcome) → ((v : Value) → o ≡ Ok v → is_of name v ≡ Ok true)
      → (o >>= λ v. is_of name v >>= λ c. if c then (p >>= is_in w v >>= of_bool) else of_bool false) ≡ (o >>= λ v. p >>= λ k. is_in w v k >>= of_bool)
  named_in name (Ok v) p h = ap (λ (r : Result Bool EvalError). r >>= λ c. if c then (p >>= is_in w v >>= of_bool) else of_bool false) (h v refl) ∙ in_turn p (is_in w v) of_bool
  named_in name (Err e) p h = refl

  abbrev ty_of : Typed → Ty
  ty_of t = ty t.expr

  type_told : (x : TypedExpr) (type : Ty) → type_of x ≡ Some type → ty x ≡ type
  type_told x type h = ap (λ (o : Option Ty). unwrap_or o types.Bool) h

  -- ---- all constructs

  mutual
    pub told : {z : Expr} {known : Capabilities} {u : Typed} → Derives s env z known u → Within (expr_uids z) → AllHold w known → Tells z u
    told (of_if_true z known u p c a b x y at r f q is) uids held =
        let us = split (Contains literals) (expr_uids c) (expr_uids a ++ expr_uids b) (uids_at z _ (e.If p c a b) at (rolls-If p c a b) uids) in
        let vs = both_uids a b us.1 in
        let h = sound c known x us.0 held r in
        let t : (v : Value) → eval c w ≡ Ok v → v ≡ value.Bool true = λ v i. true_of (ty x.expr) (eval c w) v f h.outcome i in
        row z _ u _ _ _ at is (coded.code_If s env p _ x.expr y.expr (typed.Skipped b) ∙ choice_true (coded.seen_in s env x.expr) (coded.seen_in s env y.expr) (coded.seen_in s env (typed.Skipped b)) f) (evaluated.eval_If p c a b w)
        (branch_agrees w _ _ (eval c w) (eval a w) true (λ k. if k then eval a w else eval b w) (told r us.0 held) t refl (λ v i. told q vs.0 (then_hold known (eval c w) x v held h i (t v i))))
    told (of_if_false z known u p c a b x y at r f g q is) uids held =
        let us = split (Contains literals) (expr_uids c) (expr_uids a ++ expr_uids b) (uids_at z _ (e.If p c a b) at (rolls-If p c a b) uids) in
        let vs = both_uids a b us.1 in
        let h = sound c known x us.0 held r in
        row z _ u _ _ _ at is (coded.code_If s env p _ x.expr (typed.Skipped a) y.expr ∙ choice_false (coded.seen_in s env x.expr) (coded.seen_in s env (typed.Skipped a)) (coded.seen_in s env y.expr) f g) (evaluated.eval_If p c a b w)
        (branch_agrees w _ _ (eval c w) (eval b w) false (λ k. if k then eval a w else eval b w) (told r us.0 held) (λ v i. false_of (ty x.expr) (eval c w) v g h.outcome i) refl (λ v i. told q vs.1 held))
    told (of_if z known u p c a b x y v type at r f g q l m j is) uids held =
        let us = split (Contains literals) (expr_uids c) (expr_uids a ++ expr_uids b) (uids_at z _ (e.If p c a b) at (rolls-If p c a b) uids) in
        let vs = both_uids a b us.1 in
        let h = sound c known x us.0 held r in
        row z _ u _ _ _ at is (coded.code_If s env p type x.expr y.expr v.expr ∙ choice_open (coded.seen_in s env x.expr) (coded.seen_in s env y.expr) (coded.seen_in s env v.expr) f g) (evaluated.eval_If p c a b w)
        (choice_agrees w _ _ _ (eval c w) (eval a w) (eval b w) (told r us.0 held) (truth_of (ty x.expr) (eval c w) m h.outcome) (λ n i t. told q vs.0 (then_hold known (eval c w) x n held h i t)) (λ n i t. told l vs.1 held))
    told (of_or_true z known u p a b x at r f is) uids held =
        let us = both_uids a b (uids_at z _ (e.Or p a b) at (rolls-Or p a b) uids) in
        let h = sound a known x us.0 held r in
        row z _ u _ _ _ at is (coded.code_Or s env p types.True x.expr (typed.Skipped b) ∙ either_true (coded.seen_in s env x.expr) (coded.seen_in s env (typed.Skipped b)) f) (evaluated.eval_Or p a b w)
        (or_skipped w _ (eval a w) (eval b w) (told r us.0 held) (λ v i. true_of (ty x.expr) (eval a w) v f h.outcome i))
    told (of_or z known u p a b x y at r f q c d is) uids held =
        let us = both_uids a b (uids_at z _ (e.Or p a b) at (rolls-Or p a b) uids) in
        let h = sound a known x us.0 held r in
        let k = sound b known y us.1 held q in
        row z _ u _ _ _ at is (coded.code_Or s env p _ x.expr y.expr ∙ either_open (coded.seen_in s env x.expr) (coded.seen_in s env y.expr) f) (evaluated.eval_Or p a b w)
        (or_agrees w _ _ (eval a w) (eval b w) (told r us.0 held) (truth_of (ty x.expr) (eval a w) c h.outcome) (λ v i t. (told q us.1 held, truth_of (ty y.expr) (eval b w) d k.outcome)))
    told (of_and_false z known u p a b x at r f is) uids held =
        let us = both_uids a b (uids_at z _ (e.And p a b) at (rolls-And p a b) uids) in
        let h = sound a known x us.0 held r in
        row z _ u _ _ _ at is (coded.code_And s env p types.False x.expr (typed.Skipped b) ∙ both_false (coded.seen_in s env x.expr) (coded.seen_in s env (typed.Skipped b)) f) (evaluated.eval_And p a b w)
        (and_skipped w _ (eval a w) (eval b w) (told r us.0 held) (λ v i. false_of (ty x.expr) (eval a w) v f h.outcome i))
    told (of_and z known u p a b x y at r f q c d is) uids held =
        let us = both_uids a b (uids_at z _ (e.And p a b) at (rolls-And p a b) uids) in
        let h = sound a known x us.0 held r in
        let onward : (v : Value) → eval a w ≡ Ok v → v ≡ value.Bool true → AllHold w (known ++ x.given) = λ v i t. then_hold known (eval a w) x v held h i t in
        row z _ u _ _ _ at is (coded.code_And s env p _ x.expr y.expr ∙ both_open (coded.seen_in s env x.expr) (coded.seen_in s env y.expr) f) (evaluated.eval_And p a b w)
        (and_agrees w _ _ (eval a w) (eval b w) (told r us.0 held) (truth_of (ty x.expr) (eval a w) c h.outcome)
        (λ v i t. (told q us.1 (onward v i t), truth_of (ty y.expr) (eval b w) d (sound b (known ++ x.given) y us.1 (onward v i t) q).outcome)))
    told (of_binary z known u p o a b x y type at r q i is) uids held =
        let us = both_uids a b (uids_at z _ (e.Binary p o a b) at (rolls-Binary p o a b) uids) in
        row z _ u _ _ _ at is (coded.code_Binary s env p type o x.expr y.expr) (evaluated.eval_Binary p o a b w)
        (operation_agrees w s env literals well known a b x.expr y.expr _ _ (eval a w) (eval b w) (told r us.0 held) (told q us.1 held) (sound a known x us.0 held r).outcome (sound b known y us.1 held q).outcome (sorted a known x r).sorted
        (sorted b known y q).sorted (worth a) o type i)
    told (of_in_decided z known u p a b x answer at r d is) uids held =
        let k = decided_worth a b answer d in
        let whole = sound z known u uids held (of_in_decided z known u p a b x answer at r d is) in
        let value_is = evaluated.eval_Binary p In a b w
        ∙ ap (λ (o : Outcome). o >>= λ m. eval b w >>= λ n. is_in w m n >>= of_bool) k.first_is ∙ ap (λ (o : Outcome). o >>= λ n. is_in w k.first n >>= of_bool) k.second_is in
        let typed_is = ap ty_of is ∙ type_told _ _ (type_of_Binary p (truth answer) In x.expr (leaves s b)) in
        let one = told_truth answer _ (subst (λ (o : Outcome). OrOverflows (IsOf w (truth answer)) o) (ap (λ (y : Expr). eval y w) at ∙ value_is) (subst (λ (type : Ty). OrOverflows (IsOf w type) (eval z w)) typed_is whole.outcome)) (in_types k.first k.second) in
        row z _ u _ _ _ at is (coded.code_Binary s env p (truth answer) In x.expr (leaves s b) ∙ decided_code _ x.expr (leaves s b) _ _ (decided_told s law env a b known x answer d r) ∙ ap constant (truth_told answer)) (value_is ∙ one) (constant_agrees w answer)
    told (of_in z known u p a b x y n m at r d q f g is) uids held =
        let us = both_uids a b (uids_at z _ (e.Binary p In a b) at (rolls-Binary p In a b) uids) in
        let open_it = never_decided s a b x.expr y.expr (erased s env a known x (given s env a known x r)) (erased s env b known y (given s env b known y q)) d in
        row z _ u _ _ _ at is (coded.code_Binary s env p (in_type s n m) In x.expr y.expr) (evaluated.eval_Binary p In a b w)
        (in_agrees s env literals w well n m (in_type s n m) x.expr y.expr _ _ (eval a w) (eval b w) open_it f g (told r us.0 held) (told q us.1 held) (sound a known x us.0 held r).outcome (sound b known y us.1 held q).outcome)
    told (of_has z known u p a names x r at d f is) uids held =
        let us = uids_at z _ (e.Has p a names) at (rolls-Has p a names) uids in
        let h = sound a known x us held d in
        row z _ u _ _ _ at is (coded.code_Has s env p r.found x.expr r.steps r.skipped) (evaluated.eval_Has p a names w)
        (path_agrees s env literals w lawful well (along_is s p known names (subject a x.expr) r f) _ (eval a w) (told d us held) (λ v i. of_value (ty x.expr) (eval a w) v h.outcome i) (sorted a known x d))
    told (of_like z known u p a pattern x at r c is) uids held =
        let us = uids_at z _ (e.Like p a pattern) at (rolls-Like p a pattern) uids in
        let h = sound a known x us held r in
        row z _ u _ _ _ at is (coded.code_Like s env p types.Bool x.expr pattern) (evaluated.eval_Like p a pattern w ∙ in_turn (eval a w) (is_like pattern) of_bool)
        (like_agrees w _ (eval a w) (λ v. is_like pattern v >>= of_bool) (told r us held) pattern (λ v i.
        let t = string_of w (ty x.expr) v c (of_value (ty x.expr) (eval a w) v h.outcome i) in
        (t.0, t.1, ap (λ q. (q >>= λ text. Ok (is_match pattern (chars text))) >>= of_bool) (ap text_in (ap out-Value t.1 ∙ out_String t.0)))))
    told (of_is z known u p a t x n at r f is) uids held =
        let us = uids_at z _ (e.Is p a t) at (rolls-Is p a t) uids in
        let h = sound a known x us held r in
        row z _ u _ _ _ at is (coded.code_Is s env p (truth (bytes_eq n t.name)) x.expr t) (evaluated.eval_Is p a t w ∙ in_turn (eval a w) (is_of t.name) of_bool)
        (is_agrees w _ (is_true (truth (bytes_eq n t.name))) (eval a w) (λ v. is_of t.name v >>= of_bool) (told r us held)
        (λ v i. ap (λ q. q >>= of_bool) (named_is n t.name (ty x.expr) v f (of_value (ty x.expr) (eval a w) v h.outcome i)) ∙ ap of_bool (sym (truth_told (bytes_eq n t.name)))))
    told (of_is_in_other z known u p q a b t x n at r f g is) uids held =
        let us = both_uids a b (uids_at z _ (e.IsIn p a t q b) at (rolls-IsIn p a t q b) uids) in
        let h = sound a known x us.0 held r in
        row z _ u _ _ _ at is (coded.code_IsIn s env p types.False x.expr t q (typed.Skipped b) ∙ not_named s _ t x.expr (typed.Skipped b) _ _ (ap (is_of_type t.name) f ∙ g)) (evaluated.eval_IsIn p a t q b w)
        (is_agrees w _ false (eval a w) (λ v. is_of t.name v >>= λ c. if c then (eval b w >>= is_in w v >>= of_bool) else of_bool false) (told r us.0 held)
        (λ v i. ap (λ r2. r2 >>= λ c. if c then (eval b w >>= is_in w v >>= of_bool) else of_bool false) (named_is n t.name (ty x.expr) v f (of_value (ty x.expr) (eval a w) v h.outcome i) ∙ ap Ok g)))
    told (of_is_in_decided z known u p q a b t x n answer at r f g d is) uids held =
        let us = both_uids a b (uids_at z _ (e.IsIn p a t q b) at (rolls-IsIn p a t q b) uids) in
        let h = sound a known x us.0 held r in
        let k = decided_worth a b answer d in
        let whole = sound z known u uids held (of_is_in_decided z known u p q a b t x n answer at r f g d is) in
        let value_is = evaluated.eval_IsIn p a t q b w ∙ named_in t.name (eval a w) (eval b w) (λ v i. named_is n t.name (ty x.expr) v f (of_value (ty x.expr) (eval a w) v h.outcome i) ∙ ap Ok g)
        ∙ ap (λ (o : Outcome). o >>= λ m. eval b w >>= λ c. is_in w m c >>= of_bool) k.first_is ∙ ap (λ (o : Outcome). o >>= λ c. is_in w k.first c >>= of_bool) k.second_is in
        let typed_is = ap ty_of is ∙ type_told _ _ (type_of_IsIn p (truth answer) x.expr t q (leaves s b)) in
        let one = told_truth answer _ (subst (λ (o : Outcome). OrOverflows (IsOf w (truth answer)) o) (ap (λ (y : Expr). eval y w) at ∙ value_is) (subst (λ (type : Ty). OrOverflows (IsOf w type) (eval z w)) typed_is whole.outcome)) (in_types k.first k.second) in
        let first = subst (Agrees w (code_of s env x.expr)) k.first_is (told r us.0 held) in
        row z _ u _ _ _ at is (coded.code_IsIn s env p (truth answer) x.expr t q (leaves s b) ∙ of_name s _ t x.expr (leaves s b) _ _ (ap (is_of_type t.name) f ∙ g)
        ∙ ap (and_code (is_code true (code_of s env x.expr))) (decided_code _ x.expr (leaves s b) _ _ (decided_told s law env a b known x answer d r) ∙ ap constant (truth_told answer))) (value_is ∙ one)
        (behind_true (is_code true (code_of s env x.expr)) (constant answer) (of_bool answer) first.0 (truth_is true w) (constant_agrees w answer))
    told (of_is_in z known u p q a b t x y n m at r f g d i j is) uids held =
        let us = both_uids a b (uids_at z _ (e.IsIn p a t q b) at (rolls-IsIn p a t q b) uids) in
        let h = sound a known x us.0 held r in
        let open_it = never_decided s a b x.expr y.expr (erased s env a known x (given s env a known x r)) (erased s env b known y (given s env b known y i)) d in
        row z _ u _ _ _ at is (coded.code_IsIn s env p (in_type s n m) x.expr t q y.expr ∙ of_name s _ t x.expr y.expr _ _ (ap (is_of_type t.name) f ∙ g))
        (evaluated.eval_IsIn p a t q b w ∙ named_in t.name (eval a w) (eval b w) (λ v k. named_is n t.name (ty x.expr) v f (of_value (ty x.expr) (eval a w) v h.outcome k) ∙ ap Ok g))
        (among_agrees (code_of s env x.expr) _ (eval a w) (λ v. eval b w >>= λ k. is_in w v k >>= of_bool) (told r us.0 held)
        (in_agrees s env literals w well n m (in_type s n m) x.expr y.expr _ _ (eval a w) (eval b w) open_it f j (told r us.0 held) (told i us.1 held) h.outcome (sound b known y us.1 held i).outcome))
    told (of_unary z known u p o a x type at r i is) uids held =
        let us = uids_at z _ (e.Unary p o a) at (rolls-Unary p o a) uids in
        row z _ u _ _ _ at is (coded.code_Unary s env p type o x.expr) (evaluated.eval_Unary p o a w)
        (application_agrees w s a x.expr _ (eval a w) (told r us held) (sound a known x us held r).outcome (written_as a known x r) (worth a) o type i)
    told (of_access z known u p a name x fields f at r d g h is) uids held =
        let us = uids_at z _ (e.Access p a name) at (rolls-Access p a name) uids in
        let k = sound a known x us held r in
        row z _ u _ _ _ at is (coded.code_Access s env p f.2 x.expr name) (evaluated.eval_Access p a name w)
        (access_agrees s env literals w lawful well (ty x.expr) fields name f _ d g (sorted a known x r) (eval a w) (told r us held) (λ v i. of_value (ty x.expr) (eval a w) v k.outcome i))
    told (of_literal z known u p l at is) uids held =
        row z _ u _ _ _ at is (coded.code_Literal s env p (literal_type s l) l) (evaluated.eval_Literal p l w) (always_agrees w (written_term s l) (literal_value l) (literal_val l))
    told (of_variable z known u p v at is) uids held =
        row z _ u _ _ _ at is (coded.code_Variable s env p (variable_type s env v) v) (evaluated.eval_Variable p v w) (always_agrees w (variable_term s env v) (variable_value v w.request) (variable_val v))
    told (of_set z known u p members xs type at r f is) uids held =
        row z _ u _ _ _ at is (coded.code_Set s env p (types.Set type) xs) (evaluated.eval_Set p members w)
        (set_agrees w (map (code_of s env) xs) (map eval members) (all_told r (uids_at z _ (e.Set p members) at (rolls-Set p members) uids) held))
    told (of_record z known u p fields xs at r is) uids held =
        row z _ u _ _ _ at is (coded.code_Record s env p (record_type xs) xs) (evaluated.eval_Record p fields w)
        (record_agrees w (map (λ (f : List ℕ × TypedExpr). (f.0, code_of s env f.1)) xs) (map (λ (f : List ℕ × Expr). (f.0, eval f.1)) fields)
        (fields_told r (uids_at z _ (e.Record p fields) at (rolls-Record p fields) uids) held))

    all_told : {zs : List Expr} {known : Capabilities} {us : List TypedExpr} → DeriveAll s env zs known us → Within (flat_map (λ (us : List Uid). us) (map expr_uids zs)) → AllHold w known
        → AgreeAll w (map (code_of s env) us) (map eval zs)
    all_told (no_member known) uids held = tt
    all_told (with_member known z zs u us d rest) uids held = let p = split (Contains literals) (expr_uids z) _ uids in (told d p.0 held, all_told rest p.1 held)

    fields_told : {zs : List (List ℕ × Expr)} {known : Capabilities} {us : List (List ℕ × TypedExpr)} → DeriveFields s env zs known us
        → Within (flat_map (λ (f : List ℕ × List Uid). f.1) (map (λ (f : List ℕ × Expr). (f.0, expr_uids f.1)) zs)) → AllHold w known
        → AgreeFields w (map (λ (f : List ℕ × TypedExpr). (f.0, code_of s env f.1)) us) (map (λ (f : List ℕ × Expr). (f.0, eval f.1)) zs)
    fields_told (no_field known) uids held = tt
    fields_told (with_field known name z zs u us d rest) uids held = let p = split (Contains literals) (expr_uids z) _ uids in (refl, told d p.0 held, fields_told rest p.1 held)
