-- `in` of a declared action and of entities that are written: the compiler decides where typing does, and only there.
use Rattle.std.proofs.Common.{◌≡◌, ◌&&◌, ℕ, List, [], ◌∷◌, map, Bool, true, false, Option, Some, None, option_map, is_some, Ok, IfOk, Result, refl, ap, sym, subst, ◌∙◌}
use Rattle.std.specs.Option.{option_and_then}
use Rattle.sc_laws.proofs.BoolLaws.{and_first, and_second}
use Rattle.sc_ast.specs.declared.expr.Expr.{Expr, Expr-F, out-Expr, out-roll-Expr}
use Rattle.sc_ast.specs.declared.expr.Expr.TheOpen as e
use Rattle.sc_ast.specs.declared.expr.Expr.TheVariants as expr
use Rattle.sc_ast.specs.declared.expr.Expr.TheVariants.{rolls-Literal as expr_rolls-Literal, rolls-Set as expr_rolls-Set}
use Rattle.sc_ast.specs.declared.literal.Literal.{Literal}
use Rattle.sc_ast.specs.declared.literal.Literal.TheVariants as literal
use Rattle.sc_ast.specs.declared.place.Place.{Place}
use Rattle.sc_names.specs.declared.uid.Uid.{Uid}
use Rattle.sc_schema.specs.declared.declarations.Env.{Env}
use Rattle.sc_schema.specs.declared.ty.Ty.{Ty}
use Rattle.sc_schema.specs.declared.ty.Ty.TheVariants as types
use Rattle.sc_schema.specs.Declarations.{Declarations, action_ancestors}
use Rattle.sc_typed.specs.declared.fault.TypeFault.{TypeFault}
use Rattle.sc_typed.specs.declared.outcome.Typed.{Typed}
use Rattle.sc_typed.specs.declared.typed_expr.TypedExpr.{TypedExpr, TypedExpr-F, out-TypedExpr, roll-TypedExpr, roll-out-TypedExpr, out-roll-TypedExpr}
use Rattle.sc_typed.specs.declared.typed_expr.TypedExpr.TheOpen as t
use Rattle.sc_typed.specs.declared.typed_expr.TypedExpr.TheVariants as typed
use Rattle.sc_typed.specs.declared.typed_expr.TypedExpr.TheVariants.{rolls-Literal, rolls-Set}
use Rattle.sc_typed.specs.Capabilities.{Capabilities}
use Rattle.sc_typed.specs.Literals.{literal_in, literal_of, uid_in, uid_of, text_in, text_of}
use Rattle.sc_typed.specs.Outcomes.{made}
use Rattle.sc_typed.specs.TypedExprs.{expr_place, untyped}
use Rattle.sc_typed.proofs.UntypedLaws.{untyped_Literal, untyped_Set}
use Rattle.sc_typing_rules.specs.Operators.{action_of, uids_of, some_uids_of, group_in, group_of, decided_by, decided}
use Rattle.sc_typing_rules.specs.Rules.{literal_type, literal_typed, leaf_in, leaf, leaves_in, leaves, first_type}
use Rattle.sc_typing.specs.Typing.{typing}
use Rattle.sc_typing.proofs.ErasureLaws.{typing-untyped}
use Rattle.sc_typing_laws.specs.Derivations.{Derives}
use Rattle.sc_sorts.specs.declared.node.Literal.{Literal as Constant}
use Rattle.sc_symeval.specs.Codes.{text_at, spelled}
use Rattle.sc_constructs.specs.Objects.{uid_at, is_declared_action, is_uid, are_uids, are_some_uids, is_group_in, is_decided}
use Rattle.sc_laws.proofs.OptionLaws.{some_is}

-- what is derived of a literal is that literal
abbrev pub LiteralLaw : Type 0
LiteralLaw = (s : Declarations) (env : Env) (x : Expr) (known : Capabilities) (t : Typed) (l : Literal) → literal_of x ≡ Some l → Derives s env x known t → t ≡ made (literal_typed s (expr_place x) l) []

-- a typed literal, one level deep
pub out_literal : (x : TypedExpr) (p : Place) (type : Ty) (l : Literal) → x ≡ typed.Literal p type l → out-TypedExpr x ≡ t.Literal p type l
out_literal x p type l is = ap out-TypedExpr (is ∙ sym (rolls-Literal p type l)) ∙ out-roll-TypedExpr (t.Literal p type l)

out_set : (x : TypedExpr) (p : Place) (type : Ty) (xs : List TypedExpr) → x ≡ typed.Set p type xs → out-TypedExpr x ≡ t.Set p type xs
out_set x p type xs is = ap out-TypedExpr (is ∙ sym (rolls-Set p type xs)) ∙ out-roll-TypedExpr (t.Set p type xs)

-- ---- uids that are written

uid_literal : (o : Option Literal) (u : Uid) → option_and_then uid_in o ≡ Some u → o ≡ Some (literal.Entity u)
uid_literal (Some (literal.Entity v)) u h = let is : v ≡ u = cc in ap (λ (k : Uid). Some (literal.Entity k)) is
uid_literal (Some (literal.Bool b)) u h = absurd cc
uid_literal (Some (literal.Long n)) u h = absurd cc
uid_literal (Some (literal.String text)) u h = absurd cc
uid_literal None u h = absurd cc

-- an expression that is a uid is that literal
pub uid_is : (x : Expr) (u : Uid) → uid_of x ≡ Some u → literal_of x ≡ Some (literal.Entity u)
uid_is x u h = uid_literal (literal_of x) u h

literal_uid : (x : TypedExpr) (p : Place) (type : Ty) (l : Literal) → x ≡ typed.Literal p type l → is_some (uid_in l) ≡ true → is_uid x ≡ true
literal_uid x p type l is h = ap (λ (y : TypedExpr-F TypedExpr). is_some (uid_at y)) (out_literal x p type l is) ∙ h

leaf_uid : (s : Declarations) (x : Expr) (y : Expr-F Expr) (u : Uid) → option_and_then uid_in (literal_in y) ≡ Some u → is_uid (leaf_in s x y) ≡ true
leaf_uid s x (e.Literal p l) u h = literal_uid (literal_typed s p l) p (literal_type s l) l refl (ap is_some h)
leaf_uid s x _ u h = absurd cc

some_uids : (s : Declarations) (x : Expr) (xs : List Expr) (us : List Uid) (o : Option Uid) (r : Option (List Uid)) → uid_of x ≡ o → option_and_then (λ u. option_map (λ vs. u ∷ vs) r) o ≡ Some us
    → ((vs : List Uid) → r ≡ Some vs → are_uids (map (leaf s) xs) ≡ true) → are_uids (map (leaf s) (x ∷ xs)) ≡ true
some_uids s x xs us (Some u) (Some vs) at h later = ap (λ (b : Bool). b && are_uids (map (leaf s) xs)) (leaf_uid s x (out-Expr x) u at) ∙ later vs refl
some_uids s x xs us (Some u) None at h later = absurd cc
some_uids s x xs us None r at h later = absurd cc

leaves_uids : (s : Declarations) (xs : List Expr) (us : List Uid) → uids_of xs ≡ Some us → are_uids (map (leaf s) xs) ≡ true
leaves_uids s [] us h = refl
leaves_uids s (x ∷ xs) us h = some_uids s x xs us (uid_of x) (uids_of xs) refl h (leaves_uids s xs)

members_uids : (s : Declarations) (xs : List Expr) (us : List Uid) → some_uids_of xs ≡ Some us → are_some_uids (map (leaf s) xs) ≡ true
members_uids s [] us h = absurd cc
members_uids s (x ∷ xs) us h = leaves_uids s (x ∷ xs) us h

leaves_group : (s : Declarations) (b : Expr) (y : Expr-F Expr) (us : List Uid) → group_in y ≡ Some us → is_group_in (out-TypedExpr (leaves_in s b y)) ≡ true
leaves_group s b (e.Literal p (literal.Entity u)) us h = ap is_group_in (out_literal (literal_typed s p (literal.Entity u)) p (literal_type s (literal.Entity u)) (literal.Entity u) refl)
leaves_group s b (e.Literal p (literal.Bool c)) us h = absurd cc
leaves_group s b (e.Literal p (literal.Long n)) us h = absurd cc
leaves_group s b (e.Literal p (literal.String text)) us h = absurd cc
leaves_group s b (e.Set p members) us h =
    let typed_members = map (leaf s) members in
    ap is_group_in (out_set (typed.Set p (types.Set (first_type typed_members)) typed_members) p (types.Set (first_type typed_members)) typed_members refl) ∙ members_uids s members us h
leaves_group s b _ us h = absurd cc

-- ---- texts that are written

text_literal : (o : Option Literal) (text : List ℕ) → option_and_then text_in o ≡ Some text → o ≡ Some (literal.String text)
text_literal (Some (literal.String x)) text h = let is : x ≡ text = cc in ap (λ (y : List ℕ). Some (literal.String y)) is
text_literal (Some (literal.Bool b)) text h = absurd cc
text_literal (Some (literal.Long n)) text h = absurd cc
text_literal (Some (literal.Entity u)) text h = absurd cc
text_literal None text h = absurd cc

-- an expression that is a text is that literal
pub text_is : (x : Expr) (text : List ℕ) → text_of x ≡ Some text → literal_of x ≡ Some (literal.String text)
text_is x text h = text_literal (literal_of x) text h

-- what a typed text spells
pub spelled_is : {A : Type 0} (kind : A → Constant) (read : List ℕ → Option A) (s : Declarations) (x : TypedExpr) (p : Place) (text : List ℕ) (y : A) → x ≡ literal_typed s p (literal.String text) → read text ≡ Some y → spelled kind read x ≡ Some (kind y)
spelled_is kind read s x p text y is r =
    ap (λ (z : TypedExpr-F TypedExpr). option_map kind (option_and_then read (text_at z))) (out_literal x p (literal_type s (literal.String text)) (literal.String text) is) ∙ ap (option_map kind) r

-- ---- what typing decides

-- an action, and entities that are written
pub record IsDecidedOf (s : Declarations) (a b : Expr) : Type 0 where
  pub uid : Uid
  pub uid_is : uid_of a ≡ Some uid
  pub declared : is_some (action_ancestors s uid) ≡ true
  pub uids : List Uid
  pub uids_are : group_of b ≡ Some uids

some_there : {X : Type 0} (f : X → X) (o : Option X) (y : X) → option_map f o ≡ Some y → is_some o ≡ true
some_there f (Some x) y h = refl
some_there f None y h = absurd cc

module _ (s : Declarations) where
  pub decided_of : (a b : Expr) (r : Bool) → decided s a b ≡ Some r → IsDecidedOf s a b
  decided_of a b r h = by (uid_of a) (group_of b) refl refl h
    where
      both : (u : Uid) (p q : Option (List Uid)) → uid_of a ≡ Some u → option_map (λ (us : List Uid). u ∷ us) (action_ancestors s u) ≡ p → group_of b ≡ q → decided_by p q ≡ Some r → IsDecidedOf s a b
      both u (Some above) (Some us) i j k e = record { uid = u; uid_is = i; declared = some_there (λ (us : List Uid). u ∷ us) (action_ancestors s u) above j; uids = us; uids_are = k }
      both u (Some above) None i j k e = absurd cc
      both u None q i j k e = absurd cc

      by : (o : Option Uid) (q : Option (List Uid)) → uid_of a ≡ o → group_of b ≡ q → decided_by (action_of s o) q ≡ Some r → IsDecidedOf s a b
      by (Some u) q i k e = both u _ q i refl k e
      by None q i k e = absurd cc

  module _ (law : LiteralLaw) (env : Env) where
    -- there the compiler decides too
    pub decided_told : (a b : Expr) (known : Capabilities) (x : Typed) (r : Bool) → decided s a b ≡ Some r → Derives s env a known x → is_decided s x.expr (leaves s b) ≡ true
    decided_told a b known x r h d =
        let q = decided_of a b r h in
        let is : x.expr ≡ literal_typed s (expr_place a) (literal.Entity q.uid) = ap (λ (v : Typed). v.expr) (law s env a known x (literal.Entity q.uid) (uid_is a q.uid q.uid_is) d) in
        let at : uid_at (out-TypedExpr x.expr) ≡ Some q.uid = ap uid_at (out_literal x.expr (expr_place a) (literal_type s (literal.Entity q.uid)) (literal.Entity q.uid) is) in
        (λ i. is_declared_action s (at i) && is_group_in (out-TypedExpr (leaves s b)))
        ∙ (λ i. q.declared i && is_group_in (out-TypedExpr (leaves s b)))
        ∙ leaves_group s b (out-Expr b) q.uids q.uids_are

-- ---- where the compiler decides, typing does

-- a typed literal of a uid
literal_at : (y : TypedExpr-F TypedExpr) (u : Uid) → uid_at y ≡ Some u → (p : Place) × (type : Ty) × (y ≡ t.Literal p type (literal.Entity u))
literal_at (t.Literal p type (literal.Entity v)) u h = let is : v ≡ u = cc in (p, type, ap (λ (k : Uid). t.Literal p type (literal.Entity k)) is)
literal_at (t.Literal p type (literal.Bool b)) u h = absurd cc
literal_at (t.Literal p type (literal.Long n)) u h = absurd cc
literal_at (t.Literal p type (literal.String text)) u h = absurd cc
literal_at _ u h = absurd cc

rolled : (x : TypedExpr) (y : TypedExpr-F TypedExpr) → out-TypedExpr x ≡ y → x ≡ roll-TypedExpr y
rolled x y h = sym (roll-out-TypedExpr x) ∙ ap roll-TypedExpr h

-- without its type it is the uid
untyped_uid : (x : TypedExpr) (u : Uid) → uid_at (out-TypedExpr x) ≡ Some u → uid_of (untyped x) ≡ Some u
untyped_uid x u h =
    let q = literal_at (out-TypedExpr x) u h in
    let is : untyped x ≡ expr.Literal q.0 (literal.Entity u) = ap untyped (rolled x _ q.2 ∙ rolls-Literal q.0 q.1 (literal.Entity u)) ∙ untyped_Literal q.0 q.1 (literal.Entity u) in
    ap uid_of (is ∙ sym (expr_rolls-Literal q.0 (literal.Entity u))) ∙ ap (λ (y : Expr-F Expr). option_and_then uid_in (literal_in y)) (out-roll-Expr (e.Literal q.0 (literal.Entity u)))

untyped_uids : (xs : List TypedExpr) → are_uids xs ≡ true → (us : List Uid) × (uids_of (map untyped xs) ≡ Some us)
untyped_uids [] h = ([], refl)
untyped_uids (x ∷ xs) h =
    let u = some_is (uid_at (out-TypedExpr x)) (and_first (is_uid x) (are_uids xs) h) in
    let us = untyped_uids xs (and_second (is_uid x) (are_uids xs) h) in
    (u.0 ∷ us.0, (λ i. option_and_then (λ v. option_map (λ vs. v ∷ vs) (us.1 i)) (untyped_uid x u.0 u.1 i)))

untyped_some : (xs : List TypedExpr) → are_some_uids xs ≡ true → (us : List Uid) × (some_uids_of (map untyped xs) ≡ Some us)
untyped_some [] h = absurd cc
untyped_some (x ∷ xs) h = untyped_uids (x ∷ xs) h

group_at : (x : TypedExpr) (y : TypedExpr-F TypedExpr) → out-TypedExpr x ≡ y → is_group_in y ≡ true → (us : List Uid) × (group_of (untyped x) ≡ Some us)
group_at x (t.Literal p type (literal.Entity u)) at h =
    let is : untyped x ≡ expr.Literal p (literal.Entity u) = ap untyped (rolled x _ at ∙ rolls-Literal p type (literal.Entity u)) ∙ untyped_Literal p type (literal.Entity u) in
    (u ∷ [], ap group_of (is ∙ sym (expr_rolls-Literal p (literal.Entity u))) ∙ ap group_in (out-roll-Expr (e.Literal p (literal.Entity u))))
group_at x (t.Literal p type (literal.Bool b)) at h = absurd cc
group_at x (t.Literal p type (literal.Long n)) at h = absurd cc
group_at x (t.Literal p type (literal.String text)) at h = absurd cc
group_at x (t.Set p type members) at h =
    let is : untyped x ≡ expr.Set p (map untyped members) = ap untyped (rolled x _ at ∙ rolls-Set p type members) ∙ untyped_Set p type members in
    let us = untyped_some members h in
    (us.0, ap group_of (is ∙ sym (expr_rolls-Set p (map untyped members))) ∙ ap group_in (out-roll-Expr (e.Set p (map untyped members))) ∙ us.1)
group_at x _ at h = absurd cc

uid_declared : (s : Declarations) (o : Option Uid) → is_declared_action s o ≡ true → (u : Uid) × (us : List Uid) × (o ≡ Some u) × (action_ancestors s u ≡ Some us)
uid_declared s (Some u) h = let q = some_is (action_ancestors s u) h in (u, q.0, refl, q.1)
uid_declared s None h = absurd cc

-- an expression without its types is the one that was typed
pub erased : (s : Declarations) (env : Env) (a : Expr) (known : Capabilities) (x : Typed) → typing s env a known ≡ Ok x → untyped x.expr ≡ a
erased s env a known x e = subst (λ (r : Result Typed TypeFault). IfOk r (λ (t : Typed). untyped t.expr ≡ a)) e (typing-untyped s env a known)

no_some : {X : Type 0} (x : X) → ◌≡◌ {A = Option X} None (Some x) → ⊥
no_some x h = absurd cc

pub never_decided : (s : Declarations) (a b : Expr) (x y : TypedExpr) → untyped x ≡ a → untyped y ≡ b → decided s a b ≡ None → is_decided s x y ≡ false
never_decided s a b x y i j none = by (is_decided s x y) refl
  where
    by : (r : Bool) → is_decided s x y ≡ r → r ≡ false
    by false h = refl
    by true h =
        let p = uid_declared s (uid_at (out-TypedExpr x)) (and_first (is_declared_action s (uid_at (out-TypedExpr x))) (is_group_in (out-TypedExpr y)) h) in
        let q = group_at y (out-TypedExpr y) refl (and_second (is_declared_action s (uid_at (out-TypedExpr x))) (is_group_in (out-TypedExpr y)) h) in
        let first : action_of s (uid_of a) ≡ Some (p.0 ∷ p.1) = ap (λ (z : Expr). action_of s (uid_of z)) (sym i) ∙ ap (action_of s) (untyped_uid x p.0 p.2) ∙ ap (option_map (λ (us : List Uid). p.0 ∷ us)) p.3 in
        let second : group_of b ≡ Some q.0 = ap group_of (sym j) ∙ q.1 in
        absurd (no_some _ (sym none ∙ (λ k. decided_by (first k) (second k))))
