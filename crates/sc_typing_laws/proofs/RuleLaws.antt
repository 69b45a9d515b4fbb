-- Rules of typing, of operands whose places are moved.
use Rattle.std.proofs.Common.{◌≡◌, ◌||◌, ℕ, List, [], ◌∷◌, map, fold, Bool, true, false, if◌then◌else◌, Option, Some, None, option_map, is_some, Result, Ok, Err, refl, sym, ap, ◌∙◌}
use Rattle.std.specs.BTreeMap.{insert_entry}
use Rattle.std.specs.Option.{option_and_then, option_map_or}
use Rattle.sc_ast.specs.declared.expr.Expr.{Expr, Expr-F, out-Expr, map-Expr}
use Rattle.sc_ast.specs.declared.expr.Expr.TheOpen as e
use Rattle.sc_ast.specs.declared.literal.Literal.{Literal}
use Rattle.sc_ast.specs.declared.operator.BinaryOperator.{BinaryOperator}
use Rattle.sc_ast.specs.declared.operator.BinaryOperator.TheVariants.{Less, LessOrEqual, Greater, GreaterOrEqual, Equal, In, Add, Subtract, Multiply, Contains, ContainsAll, ContainsAny, HasTag, GetTag, LessThan, LessThanOrEqual, GreaterThan, GreaterThanOrEqual, IsInRange}
use Rattle.sc_ast.specs.declared.operator.UnaryOperator.{UnaryOperator}
use Rattle.sc_ast.specs.declared.operator.UnaryOperator.TheVariants.{Not, Negate, IsEmpty, IsIpv4, IsIpv6, IsLoopback, IsMulticast, Decimal, Ip}
use Rattle.sc_ast.specs.declared.place.Place.{Place}
use Rattle.sc_decimal.specs.DecimalValue.{decimal_of}
use Rattle.sc_ip.specs.IpValue.{ip_of}
use Rattle.sc_names.specs.declared.uid.Uid.{Uid}
use Rattle.sc_names.specs.Uids.{text_cmp}
use Rattle.sc_schema.specs.declared.ty.Presence.TheVariants.{Required}
use Rattle.sc_schema.specs.declared.ty.Ty.{Ty}
use Rattle.sc_schema.specs.declared.ty.Ty.TheVariants as types
use Rattle.sc_schema.specs.Declarations.{Declarations}
use Rattle.sc_typed.specs.declared.capability.Capability.{Capability}
use Rattle.sc_typed.specs.declared.capability.Key.TheVariants.{Attribute, Tag}
use Rattle.sc_typed.specs.declared.fault.TypeFault.{TypeFault}
use Rattle.sc_typed.specs.declared.fault.TypeRule.{TypeRule}
use Rattle.sc_typed.specs.declared.fault.TypeRule.TheVariants.{NotBoolean, NoJoin, NotLong, NotEntity, NotEntityOrSet, NotObject, NotString, NotSet, NotDecimal, NotIp, BadLiteral, MaybeAbsent}
use Rattle.sc_typed.specs.declared.typed_expr.TypedExpr.{TypedExpr}
use Rattle.sc_typed.specs.declared.typed_expr.TypedExpr.TheVariants as typed
use Rattle.sc_typed.specs.Capabilities.{Capabilities, attribute_of, tag_of, is_known}
use Rattle.sc_typed.specs.Literals.{literal_of, uid_in, uid_of, text_in, text_of}
use Rattle.sc_typed.specs.Outcomes.{◌>>=◌, check, or_fails, fails, ty, joined, as_boolean, as_long, as_string, as_decimal, as_ip, as_entity, as_group, as_set, as_object}
use Rattle.sc_typed.specs.TypedExprs.{place_of}
use Rattle.sc_typed.specs.Types.{Field, is_boolean, is_long, is_string, is_decimal, is_ip, is_either, entity_name, group, member, join, attributes, attribute, is_required}
use Rattle.sc_typing_rules.specs.declared.path.Path.{Path}
use Rattle.sc_typing_rules.specs.Operators.{longs, decimals, addresses, contained, sets, are_apart, compared, equal_by, within, uids_of, some_uids_of, group_in, group_of, action_of, decided_by, decided, tags, has_tag, get_tag, tag_test, tag_read, binary, given_by, negated, address, reads, read_as, unary}
use Rattle.sc_typing_rules.specs.Paths.{Subject, attribute_in, ended, longer, along}
use Rattle.sc_typing_rules.specs.Rules.{literal_type, leaf_in, leaf, first_type, leaves_in, leaves, read, read_type, all_joined, member_type, with_field, record_type}
use Rattle.sc_typing_laws.specs.Moved.{layer_moved, moved, typed_moved, result_moved}
use Rattle.sc_typing_laws.proofs.ShapeLaws.{literal_moved, out_moved, bare_moved, typed_Literal, typed_Set, typed_Skipped, ty_moved, place_moved, typed_fields}

module _ (move : Place → Place) where
  abbrev me : Expr → Expr
  me = moved move

  abbrev mt : TypedExpr → TypedExpr
  mt = typed_moved move

  -- the second is the first with its places moved
  abbrev pub Moves : {A B : Type 0} → (A → B) → Result A TypeFault → Result B TypeFault → Type 0
  Moves f o r = r ≡ result_moved move f o

  abbrev pub Stays : {A : Type 0} → Result A TypeFault → Result A TypeFault → Type 0
  Stays o r = Moves (λ a. a) o r

  goes_on : {A B C D : Type 0} (o : Result A TypeFault) (f : A → C) (k : A → Result B TypeFault) (l : C → Result D TypeFault) (g : B → D)
      → ((a : A) → Moves g (k a) (l (f a))) → Moves g (o >>= k) (result_moved move f o >>= l)
  goes_on (Ok a) f k l g h = h a
  goes_on (Err fault) f k l g h = refl

  pub follows : {A B C D : Type 0} (o : Result A TypeFault) (r : Result C TypeFault) (f : A → C) (k : A → Result B TypeFault) (l : C → Result D TypeFault) (g : B → D)
      → Moves f o r → ((a : A) → Moves g (k a) (l (f a))) → Moves g (o >>= k) (r >>= l)
  follows o r f k l g at h = ap (λ q. q >>= l) at ∙ goes_on o f k l g h

  pub either_way : {A B : Type 0} (b : Bool) (g : A → B) (x y : Result A TypeFault) (v w : Result B TypeFault) → Moves g x v → Moves g y w → Moves g (if b then x else y) (if b then v else w)
  either_way true g x y v w h k = h
  either_way false g x y v w h k = k

  -- ---- operands of a kind

  checks : (b : Bool) (rule : TypeRule) (p : Place) → Stays (check b rule p) (check b rule (move p))
  checks true rule p = refl
  checks false rule p = refl

  pub check_at : (test : Ty → Bool) (rule : TypeRule) (x : TypedExpr) → Stays (check (test (ty x)) rule (place_of x)) (check (test (ty (mt x))) rule (place_of (mt x)))
  check_at test rule x = (λ i. check (test (ty_moved move x i)) rule (place_moved move x i)) ∙ checks (test (ty x)) rule (place_of x)

  pub finds : {A : Type 0} (o : Option A) (rule : TypeRule) (p : Place) → Stays (or_fails rule p o) (or_fails rule (move p) o)
  finds None rule p = refl
  finds (Some a) rule p = refl

  pub find_at : {A : Type 0} (f : Ty → Option A) (rule : TypeRule) (x : TypedExpr) → Stays (or_fails rule (place_of x) (f (ty x))) (or_fails rule (place_of (mt x)) (f (ty (mt x))))
  find_at f rule x = (λ i. or_fails rule (place_moved move x i) (f (ty_moved move x i))) ∙ finds (f (ty x)) rule (place_of x)

  -- ---- operators

  module _ (s : Declarations) (known : Capabilities) (p : Place) (a b : Expr) (x y : TypedExpr) where
    longs_at : (type : Ty) → Stays (longs x y type) (longs (mt x) (mt y) type)
    longs_at type =
        follows (as_long x) _ (λ u. u) _ _ (λ u. u) (check_at is_long NotLong x) λ u.
        follows (as_long y) _ (λ u. u) _ _ (λ u. u) (check_at is_long NotLong y) λ v. refl

    decimals_at : Stays (decimals x y) (decimals (mt x) (mt y))
    decimals_at =
        follows (as_decimal x) _ (λ u. u) _ _ (λ u. u) (check_at is_decimal NotDecimal x) λ u.
        follows (as_decimal y) _ (λ u. u) _ _ (λ u. u) (check_at is_decimal NotDecimal y) λ v. refl

    addresses_at : Stays (addresses x y) (addresses (mt x) (mt y))
    addresses_at =
        follows (as_ip x) _ (λ u. u) _ _ (λ u. u) (check_at is_ip NotIp x) λ u.
        follows (as_ip y) _ (λ u. u) _ _ (λ u. u) (check_at is_ip NotIp y) λ v. refl

    contained_at : Stays (contained p x y) (contained (move p) (mt x) (mt y))
    contained_at =
        follows (as_set x) _ (λ u. u) _ _ (λ u. u) (find_at member NotSet x) λ m.
        follows (joined p m (ty y)) (joined (move p) m (ty (mt y))) (λ u. u) _ _ (λ u. u)
        (ap (λ (t : Ty). joined (move p) m t) (ty_moved move y) ∙ finds (join m (ty y)) NoJoin p) λ both. refl

    sets_at : Stays (sets p x y) (sets (move p) (mt x) (mt y))
    sets_at =
        follows (as_set x) _ (λ u. u) _ _ (λ u. u) (find_at member NotSet x) λ m.
        follows (as_set y) _ (λ u. u) _ _ (λ u. u) (find_at member NotSet y) λ n.
        follows (joined p m n) _ (λ u. u) _ _ (λ u. u) (finds (join m n) NoJoin p) λ both. refl

    compared_at : (t u : Ty) → Stays (compared p t u) (compared (move p) t u)
    compared_at t u =
        either_way (is_some (join t u)) (λ v. v) (Ok types.Bool) _ (Ok types.Bool) _ refl
        (either_way (are_apart (entity_name t) (entity_name u)) (λ v. v) (Ok types.False) (fails NoJoin p) (Ok types.False) (fails NoJoin (move p)) refl refl)

    equal_at : (l m : Option Literal) (t u : Ty) → Stays (equal_by p l m t u) (equal_by (move p) l m t u)
    equal_at (Some l) (Some m) t u = refl
    equal_at (Some l) None t u = compared_at t u
    equal_at None m t u = compared_at t u

    equals_at : Stays (equal_by p (literal_of a) (literal_of b) (ty x) (ty y)) (equal_by (move p) (literal_of (me a)) (literal_of (me b)) (ty (mt x)) (ty (mt y)))
    equals_at =
        (λ i. equal_by (move p) (literal_moved move a i) (literal_moved move b i) (ty_moved move x i) (ty_moved move y i))
        ∙ equal_at (literal_of a) (literal_of b) (ty x) (ty y)

    pub within_at : Stays (within s x y) (within s (mt x) (mt y))
    within_at =
        follows (as_entity x) _ (λ u. u) _ _ (λ u. u) (find_at entity_name NotEntity x) λ n.
        follows (as_group y) _ (λ u. u) _ _ (λ u. u) (find_at group NotEntityOrSet y) λ m. refl

    tag_same : tag_of (me a) (me b) ≡ tag_of a b
    tag_same = let first = bare_moved move a in let second = bare_moved move b in λ i. record { object = first i; key = Tag (second i) }

    tags_at : Stays (tags s x y) (tags s (mt x) (mt y))
    tags_at =
        follows (as_entity x) _ (λ u. u) _ _ (λ u. u) (find_at entity_name NotEntity x) λ n.
        follows (as_string y) _ (λ u. u) _ _ (λ u. u) (check_at is_string NotString y) λ v. refl

    tag_test_at : Stays (tag_test s known a b x y) (tag_test s known (me a) (me b) (mt x) (mt y))
    tag_test_at =
        follows (tags s x y) _ (λ u. u) _ _ (λ u. u) tags_at λ o.
        ap (λ (c : Capability). Ok (has_tag o (is_known known c))) tag_same

    get_tag_at : (o : Option Ty) (k : Bool) → Stays (get_tag p o k) (get_tag (move p) o k)
    get_tag_at None k = refl
    get_tag_at (Some type) true = refl
    get_tag_at (Some type) false = refl

    tag_read_at : Stays (tag_read s known p a b x y) (tag_read s known (move p) (me a) (me b) (mt x) (mt y))
    tag_read_at =
        follows (tags s x y) _ (λ u. u) _ _ (λ u. u) tags_at λ o.
        ap (λ (c : Capability). get_tag (move p) o (is_known known c)) tag_same ∙ get_tag_at o (is_known known (tag_of a b))

    pub binary_at : (o : BinaryOperator) → Stays (binary s known p o a b x y) (binary s known (move p) o (me a) (me b) (mt x) (mt y))
    binary_at Less = longs_at types.Bool
    binary_at LessOrEqual = longs_at types.Bool
    binary_at Greater = longs_at types.Bool
    binary_at GreaterOrEqual = longs_at types.Bool
    binary_at Equal = equals_at
    binary_at In = within_at
    binary_at Add = longs_at types.Long
    binary_at Subtract = longs_at types.Long
    binary_at Multiply = longs_at types.Long
    binary_at Contains = contained_at
    binary_at ContainsAll = sets_at
    binary_at ContainsAny = sets_at
    binary_at HasTag = tag_test_at
    binary_at GetTag = tag_read_at
    binary_at LessThan = decimals_at
    binary_at LessThanOrEqual = decimals_at
    binary_at GreaterThan = decimals_at
    binary_at GreaterThanOrEqual = decimals_at
    binary_at IsInRange = addresses_at

    pub given_at : (o : BinaryOperator) (type : Ty) → given_by o (me a) (me b) type ≡ given_by o a b type
    given_at HasTag type = ap (λ (c : Capability). if is_either type then c ∷ [] else []) tag_same
    given_at _ type = refl

  module _ (p : Place) (a : Expr) (x : TypedExpr) where
    text_moved : text_of (me a) ≡ text_of a
    text_moved = ap (option_and_then text_in) (literal_moved move a)

    address_at : Stays (address x) (address (mt x))
    address_at = follows (as_ip x) _ (λ u. u) _ _ (λ u. u) (check_at is_ip NotIp x) λ u. refl

    read_as_at : (is : Bool) (type : Ty) → Stays (read_as is p type) (read_as is (move p) type)
    read_as_at is type = follows (check is BadLiteral p) _ (λ u. u) _ _ (λ u. u) (checks is BadLiteral p) λ u. refl

    reads_at : {A : Type 0} (read_text : List ℕ → Option A) (type : Ty) → Stays (read_as (reads read_text a) p type) (read_as (reads read_text (me a)) (move p) type)
    reads_at read_text type =
        ap (λ (t : Option (List ℕ)). read_as (is_some (option_and_then read_text t)) (move p) type) text_moved ∙ read_as_at (reads read_text a) type

    pub unary_at : (o : UnaryOperator) → Stays (unary p o a x) (unary (move p) o (me a) (mt x))
    unary_at Not = follows (as_boolean x) _ (λ u. u) _ _ (λ u. u) (check_at is_boolean NotBoolean x) λ u. ap (λ (t : Ty). Ok (negated t)) (ty_moved move x)
    unary_at Negate = follows (as_long x) _ (λ u. u) _ _ (λ u. u) (check_at is_long NotLong x) λ u. refl
    unary_at IsEmpty = follows (as_set x) _ (λ u. u) _ _ (λ u. u) (find_at member NotSet x) λ u. refl
    unary_at IsIpv4 = address_at
    unary_at IsIpv6 = address_at
    unary_at IsLoopback = address_at
    unary_at IsMulticast = address_at
    unary_at Decimal = reads_at decimal_of types.Decimal
    unary_at Ip = reads_at ip_of types.Ip

  -- ---- `in` of entities that are written

  uid_moved : (x : Expr) → uid_of (me x) ≡ uid_of x
  uid_moved x = ap (option_and_then uid_in) (literal_moved move x)

  uids_moved : (xs : List Expr) → uids_of (map me xs) ≡ uids_of xs
  uids_moved [] = refl
  uids_moved (x ∷ xs) = let first = uid_moved x in let rest = uids_moved xs in λ i. option_and_then (λ (u : Uid). option_map (λ (us : List Uid). u ∷ us) (rest i)) (first i)

  some_moved : (xs : List Expr) → some_uids_of (map me xs) ≡ some_uids_of xs
  some_moved [] = refl
  some_moved (x ∷ xs) = uids_moved (x ∷ xs)

  abbrev layers : Expr-F Expr → Expr-F Expr
  layers y = layer_moved move (map-Expr Expr Expr me y)

  group_at : (y : Expr-F Expr) → group_in (layers y) ≡ group_in y
  group_at (e.Set p members) = some_moved members
  group_at _ = refl

  pub decided_moved : (s : Declarations) (a b : Expr) → decided s (me a) (me b) ≡ decided s a b
  decided_moved s a b =
      let first : uid_of (me a) ≡ uid_of a = uid_moved a in
      let second : group_of (me b) ≡ group_of b = ap group_in (out_moved move b) ∙ group_at (out-Expr b) in
      λ i. decided_by (action_of s (first i)) (second i)

  leaf_at : (s : Declarations) (x : Expr) (y : Expr-F Expr) → leaf_in s (me x) (layers y) ≡ mt (leaf_in s x y)
  leaf_at s x (e.Literal p l) = sym (typed_Literal move p (literal_type s l) l)
  leaf_at s x _ = sym (typed_Skipped move x)

  leaf_moved : (s : Declarations) (x : Expr) → leaf s (me x) ≡ mt (leaf s x)
  leaf_moved s x = ap (leaf_in s (me x)) (out_moved move x) ∙ leaf_at s x (out-Expr x)

  all_leaves : (s : Declarations) (xs : List Expr) → map (leaf s) (map me xs) ≡ map mt (map (leaf s) xs)
  all_leaves s [] = refl
  all_leaves s (x ∷ xs) = let first = leaf_moved s x in let rest = all_leaves s xs in λ i. first i ∷ rest i

  first_moved : (xs : List TypedExpr) → first_type (map mt xs) ≡ first_type xs
  first_moved [] = refl
  first_moved (x ∷ xs) = ty_moved move x

  leaves_at : (s : Declarations) (x : Expr) (y : Expr-F Expr) → leaves_in s (me x) (layers y) ≡ mt (leaves_in s x y)
  leaves_at s x (e.Set p members) =
      let ls = all_leaves s members in
      let type : first_type (map (leaf s) (map me members)) ≡ first_type (map (leaf s) members) = ap first_type ls ∙ first_moved (map (leaf s) members) in
      (λ i. typed.Set (move p) (types.Set (type i)) (ls i)) ∙ sym (typed_Set move p (types.Set (first_type (map (leaf s) members))) (map (leaf s) members))
  leaves_at s x (e.Literal p l) = sym (typed_Literal move p (literal_type s l) l)
  leaves_at s x _ = sym (typed_Skipped move x)

  pub leaves_moved : (s : Declarations) (x : Expr) → leaves s (me x) ≡ mt (leaves s x)
  leaves_moved s x = ap (leaves_in s (me x)) (out_moved move x) ∙ leaves_at s x (out-Expr x)

  -- ---- names

  -- a name of a subject at a moved place; the places of later names are that of `has`
  abbrev subject_moved : Subject → Subject
  subject_moved o = record { object = o.object; at = move o.at; type = o.type }

  pub along_at : (s : Declarations) (p : Place) (known : Capabilities) (names : List (List ℕ)) (o : Subject) (q : Path) → Stays (along s p known o q names) (along s (move p) known (subject_moved o) q names)
  along_at s p known [] o q = refl
  along_at s p known (name ∷ names) o q =
      follows (as_object s o.at o.type) _ (λ u. u) _ _ (λ u. u) (finds (attributes s o.type) NotObject o.at) λ fields. by_field p q o name names (attribute name fields) (λ f. along_at s p known names (attribute_in p o name f) (longer known q o.object o.type name f))
    where
      by_field : (p : Place) (q : Path) (o : Subject) (name : List ℕ) (names : List (List ℕ)) (found : Option Field)
          → ((f : Field) → Stays (along s p known (attribute_in p o name f) (longer known q o.object o.type name f) names) (along s (move p) known (subject_moved (attribute_in p o name f)) (longer known q o.object o.type name f) names))
          → Stays (option_map_or (λ (f : Field). along s p known (attribute_in p o name f) (longer known q o.object o.type name f) names) found (Ok (ended q o.type name names)))
          (option_map_or (λ (f : Field). along s (move p) known (attribute_in (move p) (subject_moved o) name f) (longer known q o.object o.type name f) names) found (Ok (ended q o.type name names)))
      by_field p q o name names None later = refl
      by_field p q o name names (Some f) later = later f

  -- ---- attributes

  read_at : (p : Place) (o : Option Field) (k : Bool) → Stays (read p o k) (read (move p) o k)
  read_at p None k = refl
  read_at p (Some f) k = either_way (is_required f || k) (λ t. t) (Ok f.2) (fails MaybeAbsent p) (Ok f.2) (fails MaybeAbsent (move p)) refl refl

  pub read_type_at : (s : Declarations) (known : Capabilities) (p : Place) (name : List ℕ) (a : Expr) (x : TypedExpr) → Stays (read_type s known p name a x) (read_type s known (move p) name (me a) (mt x))
  read_type_at s known p name a x =
      let b = bare_moved move a in
      let same : attribute_of (me a) name ≡ attribute_of a name = λ i. record { object = b i; key = Attribute name } in
      follows (as_object s (place_of x) (ty x)) _ (λ u. u) _ _ (λ u. u) (find_at (attributes s) NotObject x) λ fields.
      ap (λ (c : Capability). read (move p) (attribute name fields) (is_known known c)) same ∙ read_at p (attribute name fields) (is_known known (attribute_of a name))

  -- ---- sets and records

  all_joined_at : (p : Place) (xs : List TypedExpr) (type : Ty) → Stays (all_joined p type xs) (all_joined (move p) type (map mt xs))
  all_joined_at p [] type = refl
  all_joined_at p (x ∷ xs) type =
      follows (joined p type (ty x)) (joined (move p) type (ty (mt x))) (λ u. u) _ _ (λ u. u)
      (ap (λ (t : Ty). joined (move p) type t) (ty_moved move x) ∙ finds (join type (ty x)) NoJoin p) λ both. all_joined_at p xs both

  pub member_type_at : (p : Place) (xs : List TypedExpr) → Stays (member_type p xs) (member_type (move p) (map mt xs))
  member_type_at p [] = refl
  member_type_at p (x ∷ xs) = ap (λ (t : Ty). all_joined (move p) t (map mt xs)) (ty_moved move x) ∙ all_joined_at p xs (ty x)

  fold_moved : (fs : List (List ℕ × TypedExpr)) (so_far : List (List ℕ × Ty)) → fold with_field so_far (typed_fields move fs) ≡ fold with_field so_far fs
  fold_moved [] so_far = refl
  fold_moved (f ∷ fs) so_far = ap (λ (t : Ty). fold with_field (insert_entry text_cmp so_far f.0 t) (typed_fields move fs)) (ty_moved move f.1) ∙ fold_moved fs (with_field so_far f)

  pub record_type_moved : (fs : List (List ℕ × TypedExpr)) → record_type (typed_fields move fs) ≡ record_type fs
  record_type_moved fs = ap (λ (ts : List (List ℕ × Ty)). types.Record (map (λ (f : List ℕ × Ty). (f.0, Required, f.1)) ts)) (fold_moved fs [])
