-- What compiled terms keep, by recursion over what typing gives, a row a construct: whatever each term's constructor keeps holds of
-- both terms of a typed expression, the second at the sort of its type.
use Rattle.std.proofs.Common.{◌≡◌, ℕ, ℤ, pos, List, [], ◌∷◌, ◌++◌, map, flat_map, fold, Bool, true, false, cond, if◌then◌else◌, ◌||◌, All, Option, Some, None, option_map, unwrap_or, Result, Ok, Contains, FitsSigned, Ordering, Less, Equal, Greater, lit<, lit≤, refl, ap, sym, subst, ◌∙◌}
use Rattle.std.specs.BTreeMap.{insert_entry}
use Rattle.std.specs.Int.{w64}
use Rattle.std.specs.List.{AllByRecursion, list_any}
use Rattle.std.specs.List.Sorted.{IsStrictlySortedBy}
use Rattle.std.specs.Map.{lookup, keys_of}
use Rattle.std.specs.Option.{option_and_then, option_map_or}
use Rattle.std.specs.Ordering.{match_ordering}
use Rattle.std.specs.Str.{bytes_eq}
use Rattle.std.proofs.lemmas.Cmp.{nat_list_cmp_total}
use Rattle.std.proofs.lemmas.List.{append_assoc}
use Rattle.std.proofs.lemmas.List.Elements.{All-nil, All-cons}
use Rattle.std.proofs.lemmas.Slice.Eq.{bytes_eq-Decides}
use Rattle.sc_lists.proofs.OrderedLaws.{no_pair_ascends, ascending-insert_entry}
use Rattle.sc_ast.specs.declared.expr.Expr.{Expr, Expr-F, roll-Expr, map-Expr}
use Rattle.sc_ast.specs.declared.expr.Expr.TheOpen as e
use Rattle.sc_ast.specs.declared.expr.Expr.TheVariants.{rolls-If, rolls-Or, rolls-And, rolls-Binary, rolls-Has, rolls-Like, rolls-Is, rolls-IsIn, rolls-Unary, rolls-Access, rolls-Literal, rolls-Set, rolls-Record}
use Rattle.sc_ast.specs.declared.expr.TypeName.{TypeName}
use Rattle.sc_ast.specs.declared.expr.Variable.{Variable}
use Rattle.sc_ast.specs.declared.expr.Variable.TheVariants.{Principal, Action, Resource, Context}
use Rattle.sc_ast.specs.declared.literal.Literal.{Literal}
use Rattle.sc_ast.specs.declared.literal.Literal.TheVariants as written
use Rattle.sc_ast.specs.declared.operator.BinaryOperator.{BinaryOperator}
use Rattle.sc_ast.specs.declared.operator.BinaryOperator.TheVariants as operator
use Rattle.sc_ast.specs.declared.operator.UnaryOperator.{UnaryOperator}
use Rattle.sc_ast.specs.declared.place.Place.{Place}
use Rattle.sc_ast.specs.Literals.{literal_uids, uids_step, expr_uids}
use Rattle.sc_decimal.specs.DecimalValue.{decimal_of}
use Rattle.sc_decimal.proofs.ValueLaws.{decimal_of_decides}
use Rattle.sc_eval.specs.Operators.{literal_value}
use Rattle.sc_eval.specs.Written.{constants_step, constants}
use Rattle.sc_ip.specs.declared.ip.Ip.{Ip}
use Rattle.sc_ip.specs.declared.ip.Ip.TheVariants.{V4, V6}
use Rattle.sc_ip.specs.Addresses.{IsIp}
use Rattle.sc_ip.specs.IpValue.{ip_of}
use Rattle.sc_names.specs.declared.uid.Uid.{Uid}
use Rattle.sc_names.specs.Uids.{text_cmp}
use Rattle.sc_pattern.specs.declared.part.Part.{Part}
use Rattle.sc_schema.specs.declared.declarations.Env.{Env}
use Rattle.sc_schema.specs.declared.ty.Presence.{Presence}
use Rattle.sc_schema.specs.declared.ty.Presence.TheVariants.{Required, Optional}
use Rattle.sc_schema.specs.declared.ty.Ty.{Ty, Ty-F, out-Ty, out-roll-Ty}
use Rattle.sc_schema.specs.declared.ty.Ty.TheOpen as t
use Rattle.sc_schema.specs.declared.ty.Ty.TheVariants as types
use Rattle.sc_schema.specs.declared.ty.Ty.TheVariants.{rolls-True, rolls-False, rolls-Long, rolls-String, rolls-Decimal, rolls-Ip, rolls-Entity, rolls-Set as type_rolls-Set, rolls-Record as type_rolls-Record}
use Rattle.sc_schema.specs.Declarations.{Declarations, attrs_of, tags_of, ancestor_types, context_of, kind_of}
use Rattle.sc_schema.specs.Lawful.{IsLawful}
use Rattle.sc_schema.proofs.LawfulLaws.{no_fields_lawful}
use Rattle.sc_sorts.specs.declared.sort.Sort.{Sort}
use Rattle.sc_sorts.specs.declared.sort.Sort.TheVariants as sort
use Rattle.sc_sorts.specs.Defaults.{is_option}
use Rattle.sc_sorts.specs.Entities.{entity_sort}
use Rattle.sc_sorts.specs.Inside.{SortFields, member_sort}
use Rattle.sc_sorts.specs.OfTypes.{with_presence, sort_of}
use Rattle.sc_values.specs.declared.value.Value.{Value}
use Rattle.sc_values.specs.declared.value.Value.TheVariants as value
use Rattle.sc_sorts.specs.declared.node.Leaf.TheVariants as leafs
use Rattle.sc_sorts.specs.declared.node.Literal.TheVariants as literal
use Rattle.sc_sorts.specs.declared.node.UnaryOp.TheVariants as unary
use Rattle.sc_sorts.specs.declared.node.BinaryOp.{BinaryOp}
use Rattle.sc_sorts.specs.declared.node.BinaryOp.TheVariants as binary
use Rattle.sc_typed.specs.declared.outcome.Typed.{Typed}
use Rattle.sc_typed.specs.declared.fault.TypeFault.{TypeFault}
use Rattle.sc_typed.specs.declared.fault.TypeRule.TheVariants.{NotObject, NoJoin}
use Rattle.sc_typed.specs.declared.typed_expr.HasStep.{HasStep}
use Rattle.sc_typed.specs.declared.typed_expr.TypedExpr.{TypedExpr}
use Rattle.sc_typed.specs.declared.typed_expr.TypedExpr.TheVariants as typed
use Rattle.sc_typed.specs.Capabilities.{Capabilities, is_known}
use Rattle.sc_typed.specs.Outcomes.{◌>>=◌, ty, or_fails}
use Rattle.sc_typed.specs.Types.{Field, is_true, is_true_in, is_false, is_false_in, is_boolean, is_boolean_in, entity_name, member, group, group_in, truth, record_fields, record_fields_in, join, attributes, attributes_in, attribute}
use Rattle.sc_typed.specs.Literals.{literal_of}
use Rattle.sc_typed.specs.TypedExprs.{expr_place, type_of}
use Rattle.sc_typed.proofs.TypeOfLaws.{type_of_If, type_of_Or, type_of_And, type_of_Binary, type_of_Has, type_of_Like, type_of_Is, type_of_IsIn, type_of_Unary, type_of_Access, type_of_Literal, type_of_Variable, type_of_Set, type_of_Record}
use Rattle.sc_typing_rules.specs.declared.path.Path.{Path}
use Rattle.sc_typing_rules.specs.Operators.{may_be_in, negated, has_tag}
use Rattle.sc_typing_rules.specs.Paths.{Subject, attribute_in, no_names, ended, held, maybe_held, has_always, named, longer, step, along}
use Rattle.sc_typing_rules.specs.Rules.{or_type, and_type, literal_type, literal_typed, leaves, variable_type, subject, all_joined, member_type, record_type}
use Rattle.sc_typing_rules.specs.Rules as rules
use Rattle.sc_typing_laws.specs.Operations.{IsComparison, less, less_or_equal, greater, greater_or_equal, IsArithmetic, addition, subtraction, multiplication, IsSetTest, all, any, IsDecimalComparison, decimal_less, decimal_less_or_equal, decimal_greater, decimal_greater_or_equal, IsOperation, of_comparison, of_arithmetic, of_literals, of_equal, of_apart, of_contains, of_sets, of_has_tag, of_get_tag, of_decimals, of_ranges, IsAddressTest, version_4, version_6, loopback, multicast, IsApplication, of_not, of_negate, of_is_empty, of_address_test, of_decimal, of_ip}
use Rattle.sc_typing_laws.specs.Derivations.{in_type, Derives, of_if_true, of_if_false, of_if, of_or_true, of_or, of_and_false, of_and, of_binary, of_in_decided, of_in, of_has, of_like, of_is, of_is_in_other, of_is_in_decided, of_is_in, of_unary, of_access, of_literal, of_variable, of_set, of_record, DeriveAll, no_member, with_member, DeriveFields, no_field, with_field}
use Rattle.sc_terms.specs.Trees.{Tree, Labelled, leaf, one, two}
use Rattle.sc_terms.specs.TreeSorts.{tree_sort}
use Rattle.sc_terms.specs.Folds.{literal_term, truth_term, not_term, and_term, or_term, choice_term, equal_term, field_term, present_term, held_term, bit_term, like_term, set_term, record_term}
use Rattle.sc_terms.specs.Joined.{all_of}
use Rattle.sc_term_laws.specs.Judging.{HasPlace, IsNumberSort, long, decimal}
use Rattle.sc_term_laws.specs.Judging as judged
use Rattle.sc_term_laws.specs.Tests.{has_name}
use Rattle.sc_term_laws.proofs.JudgingLaws.{member_of}
use Rattle.sc_term_laws.proofs.SortsLawful.{attrs_lawful, tags_lawful, context_lawful}
use Rattle.sc_term_laws.proofs.TestLaws.{same_sorts, above_is}
use Rattle.sc_constructs.specs.Code.{Code, CodeField, always, constant, after, after_both, where_so, only_where, same_sort, choice_code, branch_code, or_code, and_code, less_code, less_or_equal_code, greater_code, greater_or_equal_code, difference_code, zero_code, equal_code, contains_code, is_empty_code, within, in_either_code, is_loopback_code, is_multicast_code, spelled_code, is_code, oks, vals, set_code, field_codes, with_part, in_order, record_code}
use Rattle.sc_constructs.specs.Objects.{presence_of, attributes_sort, object_in, field_of, has_term, has_code, read_code, access_code, along_code, path_code, tag_type, has_tag_code, get_tag_code, above, may_be_above, in_one, in_some, in_term, is_decided, in_code, entity_term, written_term, context_sort, variable_term}
use Rattle.sc_constructs.specs.Objects as objects
use Rattle.sc_symeval.specs.Codes.{Part as Seen, of_choice, of_either, of_both, binary_code, unary_code, is_of_type, is_named, among_code, is_in_code, code_of}
use Rattle.sc_symeval.proofs.CodeLaws as coded
use Rattle.sc_symeval_laws.specs.TypeSorts.{sort_in}
use Rattle.sc_soundness_laws.proofs.ActingLaws.{uids_of}
use Rattle.sc_soundness_laws.proofs.ListLaws.{split}
use Rattle.sc_symeval_laws.proofs.ActingConstants.{constants_of}
use Rattle.sc_symeval_laws.proofs.DecidedLaws.{LiteralLaw, text_is, spelled_is, decided_told}
use Rattle.sc_symeval_laws.proofs.SortedLaws.{AreFields, entity_plain}
use Rattle.sc_symeval_laws.proofs.TypeSortLaws.{step as level, rolled_sort, sort_out, fields_sorts, no_option, boolean_sort, long_sort, string_sort, decimal_sort, ip_sort, entity_type_sort, set_type_sort, joined_sorts, schema_sort}
use Rattle.sc_typing_laws.proofs.PathLaws.{boolean_True, boolean_False, boolean_Bool}

-- what each constructor keeps, of what is written: some values, and some uids
pub record Keeps (s : Declarations) (env : Env) (Is : Sort → Tree → Type 0) (Proper : Value → Type 0) (Named : Uid → Type 0) : Type 0 where
  pub sorted : (k : Sort) (t : Tree) → Is k t → tree_sort t ≡ k
  pub truth : (b : Bool) → Is sort.Bool (truth_term b)
  pub zero : Is sort.Long (literal_term (literal.Long (pos 0)))
  pub number : (n : ℤ) → Proper (value.Long n) → Is sort.Long (literal_term (literal.Long n))
  pub text : (x : List ℕ) → Proper (value.String x) → Is sort.String (literal_term (literal.String x))
  pub decimal_number : (n : ℤ) → FitsSigned w64 n → Is sort.Decimal (literal_term (literal.Decimal n))
  pub address : (ip : Ip) → IsIp ip → Is sort.Ip (literal_term (literal.Ip ip))
  pub address_text : (text : List ℕ) (ip : Ip) → ip_of text ≡ Some ip → Is sort.Ip (literal_term (literal.Ip ip))
  pub uid : (u : Uid) → Named u → Is (entity_sort s u.type_name) (entity_term s u)
  pub action : Is (entity_sort s env.action.type_name) (entity_term s env.action)
  pub principal : Is (entity_sort s env.principal) (leaf (leafs.Principal (entity_sort s env.principal)))
  pub resource : Is (entity_sort s env.resource) (leaf (leafs.Resource (entity_sort s env.resource)))
  pub context : Is (context_sort s env) (leaf (leafs.Context (context_sort s env)))
  pub negation : (a : Tree) → Is sort.Bool a → Is sort.Bool (not_term a)
  pub both : (a b : Tree) → Is sort.Bool a → Is sort.Bool b → Is sort.Bool (and_term a b)
  pub either : (a b : Tree) → Is sort.Bool a → Is sort.Bool b → Is sort.Bool (or_term a b)
  pub chosen : (k : Sort) (c a b : Tree) → Is sort.Bool c → Is k a → Is k b → Is k (choice_term c a b)
  pub equation : (k : Sort) (a b : Tree) → is_option k ≡ false → Is k a → Is k b → Is sort.Bool (equal_term a b)
  pub component : (fs : SortFields) (name : List ℕ) (k : Sort) (a : Tree) → Is (sort.Record fs) a → lookup (bytes_eq name) fs ≡ Some k → Is k (field_term name a)
  pub present : (k : Sort) (a : Tree) → Is (sort.Option k) a → Is sort.Bool (present_term a)
  pub held : (k : Sort) (a : Tree) → is_option k ≡ false → Is (sort.Option k) a → Is k (held_term a)
  pub bit : (k : Sort) (i : ℕ) (a : Tree) → HasPlace k i → Is k a → Is sort.Bool (bit_term a i)
  pub like : (p : List Part) (a : Tree) → Is sort.String a → Is sort.Bool (like_term a p)
  pub all : (ts : List Tree) → All (Is sort.Bool) ts → Is sort.Bool (all_of ts)
  pub less : (k : Sort) (a b : Tree) → IsNumberSort k → Is k a → Is k b → Is sort.Bool (two binary.Less a b)
  pub arithmetic : (o : BinaryOp) (a b : Tree) → judged.IsArithmetic o → Is sort.Long a → Is sort.Long b → Is sort.Long (two o a b)
  pub overflow : (o : BinaryOp) (a b : Tree) → judged.IsOverflow o → Is sort.Long a → Is sort.Long b → Is sort.Bool (two o a b)
  pub in_range : (a b : Tree) → Is sort.Ip a → Is sort.Ip b → Is sort.Bool (two binary.InRange a b)
  pub attributes : (name : List ℕ) (type : Ty) (a : Tree) → attrs_of s name ≡ Some type → Is (entity_sort s name) a → Is (sort_of type) (one (unary.Attributes (sort_of type)) a)
  pub ancestors : (name u : List ℕ) (names : List (List ℕ)) (a : Tree) → ancestor_types s name ≡ Some names → Contains names u → Is (entity_sort s name) a → Is (sort.Set (entity_sort s u)) (one (unary.Ancestors (entity_sort s u)) a)
  pub keys : (name : List ℕ) (type : Ty) (a : Tree) → tags_of s name ≡ Some type → Is (entity_sort s name) a → Is (sort.Set sort.String) (one unary.Keys a)
  pub tag : (name : List ℕ) (type : Ty) (a k : Tree) → tags_of s name ≡ Some type → Is (entity_sort s name) a → Is sort.String k → Is (sort_of type) (two (binary.Tag (sort_of type)) a k)
  pub fields : (fs : SortFields) (ts : List Labelled) → IsStrictlySortedBy text_cmp (keys_of fs) → AllByRecursion (λ (n : List ℕ). Proper (value.String n)) (keys_of fs) → AreFields Is fs ts → Is (sort.Record fs) (record_term ts)
  pub members : (k : Sort) (t : Tree) (ts : List Tree) → is_option k ≡ false → AllByRecursion (Is k) (t ∷ ts) → Is (sort.Set k) (set_term k (t ∷ ts))
  pub nothing : (k : Sort) (a : Tree) → Is (sort.Set k) a → Is (sort.Set k) (set_term k [])
  pub member : (k : Sort) (x a : Tree) → Is k x → Is (sort.Set k) a → Is sort.Bool (two binary.Member x a)
  pub sets : (o : BinaryOp) (k : Sort) (a b : Tree) → judged.IsTestOfSets o → Is (sort.Set k) a → Is (sort.Set k) b → Is sort.Bool (two o a b)

-- ---- what is skipped

pub choice_true : (c a b : Seen) → is_true (ty c.expr) ≡ true → of_choice c a b ≡ branch_code c.code a.code
choice_true c a b h =
    ap (λ (t : Bool). if t then branch_code c.code a.code else (if is_false (ty c.expr) then branch_code c.code b.code else choice_code c.code a.code b.code)) h

pub choice_false : (c a b : Seen) → is_true (ty c.expr) ≡ false → is_false (ty c.expr) ≡ true → of_choice c a b ≡ branch_code c.code b.code
choice_false c a b h k =
    ap (λ (t : Bool). if t then branch_code c.code a.code else (if is_false (ty c.expr) then branch_code c.code b.code else choice_code c.code a.code b.code)) h
    ∙ ap (λ (t : Bool). if t then branch_code c.code b.code else choice_code c.code a.code b.code) k

pub choice_open : (c a b : Seen) → is_true (ty c.expr) ≡ false → is_false (ty c.expr) ≡ false → of_choice c a b ≡ choice_code c.code a.code b.code
choice_open c a b h k =
    ap (λ (t : Bool). if t then branch_code c.code a.code else (if is_false (ty c.expr) then branch_code c.code b.code else choice_code c.code a.code b.code)) h
    ∙ ap (λ (t : Bool). if t then branch_code c.code b.code else choice_code c.code a.code b.code) k

pub either_true : (a b : Seen) → is_true (ty a.expr) ≡ true → of_either a b ≡ a.code
either_true a b h = ap (λ (t : Bool). if t then a.code else or_code a.code b.code) h

pub either_open : (a b : Seen) → is_true (ty a.expr) ≡ false → of_either a b ≡ or_code a.code b.code
either_open a b h = ap (λ (t : Bool). if t then a.code else or_code a.code b.code) h

pub both_false : (a b : Seen) → is_false (ty a.expr) ≡ true → of_both a b ≡ a.code
both_false a b h = ap (λ (t : Bool). if t then a.code else and_code a.code b.code) h

pub both_open : (a b : Seen) → is_false (ty a.expr) ≡ false → of_both a b ≡ and_code a.code b.code
both_open a b h = ap (λ (t : Bool). if t then a.code else and_code a.code b.code) h

pub not_named : (s : Declarations) (type : Ty) (n : TypeName) (x y : TypedExpr) (a b : Code) → is_named n x ≡ false → is_in_code s type n x y a b ≡ is_code false a
not_named s type n x y a b h = ap (λ (c : Bool). if c then among_code s type x y a b else is_code false a) h

pub of_name : (s : Declarations) (type : Ty) (n : TypeName) (x y : TypedExpr) (a b : Code) → is_named n x ≡ true → is_in_code s type n x y a b ≡ among_code s type x y a b
of_name s type n x y a b h = ap (λ (c : Bool). if c then among_code s type x y a b else is_code false a) h

-- ---- the steps of `has`

-- which names are asked, each of what type: none, one that is never there, or a declared one and others behind it
pub data IsAlong (s : Declarations) : Ty → List (List ℕ) → List HasStep → Type 0 where
  at_end : (type : Ty) → IsAlong s type [] []
  never : (type : Ty) (name : List ℕ) (names : List (List ℕ)) (fields : List Field) (found : Ty) → attributes s type ≡ Some fields → attribute name fields ≡ None → IsAlong s type (name ∷ names) (step name type found ∷ [])
  declared : (type : Ty) (name : List ℕ) (names : List (List ℕ)) (fields : List Field) (f : Field) (found : Ty) (steps : List HasStep) → attributes s type ≡ Some fields → attribute name fields ≡ Some f
      → IsAlong s f.2 names steps → IsAlong s type (name ∷ names) (step name type found ∷ steps)

module _ (s : Declarations) (place : Place) (known : Capabilities) where
  -- steps that are added
  abbrev Adds : Ty → List (List ℕ) → Path → Path → Type 0
  Adds type names p r = (more : List HasStep) × (r.steps ≡ p.steps ++ more) × IsAlong s type names more

  of_path : (p r : Path) → ◌≡◌ {A = Result Path TypeFault} (Ok p) (Ok r) → p ≡ r
  of_path p r e = cc

  nothing_more : (xs : List HasStep) → xs ≡ xs ++ []
  nothing_more [] = refl
  nothing_more (x ∷ xs) = ap (λ (ys : List HasStep). x ∷ ys) (nothing_more xs)

  longer_steps : (b : Bool) (p : Path) (o : Subject) (name : List ℕ)
      → (found : Ty) × ((if b then held p o.type name else maybe_held p o.type name (named o.object name)).steps ≡ p.steps ++ step name o.type found ∷ [])
  longer_steps true p o name = (types.True, refl)
  longer_steps false p o name = (types.Bool, refl)

  -- after an object's attributes are found, and after one of these is
  abbrev asked_next : Subject → Path → List ℕ → List (List ℕ) → Option Field → Result Path TypeFault
  asked_next o p name names b = option_map_or (λ (f : Field). along s place known (attribute_in place o name f) (longer known p o.object o.type name f) names) b (Ok (ended p o.type name names))

  from_attribute : (name : List ℕ) (names : List (List ℕ)) (o : Subject) (p r : Path) (fields : List Field) (b : Option Field) → attributes s o.type ≡ Some fields → attribute name fields ≡ b
      → ((f : Field) → along s place known (attribute_in place o name f) (longer known p o.object o.type name f) names ≡ Ok r → Adds f.2 names (longer known p o.object o.type name f) r)
      → asked_next o p name names b ≡ Ok r → Adds o.type (name ∷ names) p r
  from_attribute name names o p r fields None at to later e =
      (step name o.type types.False ∷ [], ap (λ (q : Path). q.steps) (sym (of_path (ended p o.type name names) r e)), never o.type name names fields types.False at to)
  from_attribute name names o p r fields (Some f) at to later e =
      let q = later f e in
      let l = longer_steps (has_always o.type f || is_known (known ++ p.given) (named o.object name)) p o name in
      (step name o.type l.0 ∷ q.0, q.1 ∙ ap (λ (xs : List HasStep). xs ++ q.0) l.1 ∙ append_assoc p.steps (step name o.type l.0 ∷ []) q.0, declared o.type name names fields f l.0 q.0 at to q.2)

  from_object : (name : List ℕ) (names : List (List ℕ)) (o : Subject) (p r : Path) (a : Option (List Field)) → attributes s o.type ≡ a
      → ((f : Field) → along s place known (attribute_in place o name f) (longer known p o.object o.type name f) names ≡ Ok r → Adds f.2 names (longer known p o.object o.type name f) r)
      → (or_fails NotObject o.at a >>= λ fields. asked_next o p name names (attribute name fields)) ≡ Ok r → Adds o.type (name ∷ names) p r
  from_object name names o p r None at later e = absurd cc
  from_object name names o p r (Some fields) at later e = from_attribute name names o p r fields (attribute name fields) at refl later e

  steps_along : (names : List (List ℕ)) (o : Subject) (p r : Path) → along s place known o p names ≡ Ok r → Adds o.type names p r
  steps_along [] o p r e = ([], ap (λ (q : Path). q.steps) (sym (of_path p r e)) ∙ nothing_more p.steps, at_end o.type)
  steps_along (name ∷ names) o p r e =
      from_object name names o p r (attributes s o.type) refl (λ f. steps_along names (attribute_in place o name f) (longer known p o.object o.type name f) r) e

  -- what is asked along the names
  pub along_is : (names : List (List ℕ)) (o : Subject) (r : Path) → along s place known o no_names names ≡ Ok r → IsAlong s o.type names r.steps
  along_is names o r e = let q = steps_along names o no_names r e in subst (IsAlong s o.type names) (sym q.1) q.2

-- ---- sorts of types that rules give

truth_boolean : (b : Bool) → is_boolean (truth b) ≡ true
truth_boolean true = ap is_boolean_in (ap out-Ty (sym rolls-True) ∙ out-roll-Ty t.True)
truth_boolean false = ap is_boolean_in (ap out-Ty (sym rolls-False) ∙ out-roll-Ty t.False)

by_test : (P : Ty → Type 0) (b : Bool) (x y : Ty) → P x → P y → P (if b then x else y)
by_test P true x y h k = h
by_test P false x y h k = k

abbrev IsBoolean : Ty → Type 0
IsBoolean type = is_boolean type ≡ true

or_boolean : (x y : TypedExpr) → IsBoolean (ty y) → IsBoolean (or_type x y)
or_boolean x y h = by_test IsBoolean (is_false (ty x)) _ _ h (by_test IsBoolean (is_true (ty y)) _ _ boolean_True boolean_Bool)

and_boolean : (x y : TypedExpr) → IsBoolean (ty x) → IsBoolean (and_type x y)
and_boolean x y h = by_test IsBoolean (is_false (ty y)) _ _ boolean_False (by_test IsBoolean (is_true (ty y)) _ _ h boolean_Bool)

negated_boolean : (type : Ty) → IsBoolean (negated type)
negated_boolean type = by_test IsBoolean (is_false type) _ _ boolean_True (by_test IsBoolean (is_true type) _ _ boolean_False boolean_Bool)

in_boolean : (s : Declarations) (n m : List ℕ) → IsBoolean (in_type s n m)
in_boolean s n m = by_test IsBoolean (may_be_in s n m) _ _ boolean_Bool boolean_False

tag_boolean : (o : Option Ty) (b : Bool) → IsBoolean (has_tag o b)
tag_boolean None b = boolean_False
tag_boolean (Some type) b = by_test IsBoolean b _ _ boolean_True boolean_Bool

longer_boolean : (b : Bool) (p : Path) (type : Ty) (name : List ℕ) (c : _) → IsBoolean p.found → IsBoolean (if b then held p type name else maybe_held p type name c).found
longer_boolean true p type name c h = h
longer_boolean false p type name c h = boolean_Bool

module _ (s : Declarations) (place : Place) (known : Capabilities) where
  found_boolean_at : (name : List ℕ) (names : List (List ℕ)) (o : Subject) (p r : Path) (b : Option Field)
      → ((f : Field) → along s place known (attribute_in place o name f) (longer known p o.object o.type name f) names ≡ Ok r → IsBoolean r.found)
      → asked_next s place known o p name names b ≡ Ok r → IsBoolean r.found
  found_boolean_at name names o p r None later e = subst (λ (q : Path). IsBoolean q.found) (of_path s place known (ended p o.type name names) r e) boolean_False
  found_boolean_at name names o p r (Some f) later e = later f e

  found_boolean_in : (name : List ℕ) (names : List (List ℕ)) (o : Subject) (p r : Path) (a : Option (List Field))
      → ((f : Field) → along s place known (attribute_in place o name f) (longer known p o.object o.type name f) names ≡ Ok r → IsBoolean r.found)
      → (or_fails NotObject o.at a >>= λ fields. asked_next s place known o p name names (attribute name fields)) ≡ Ok r → IsBoolean r.found
  found_boolean_in name names o p r None later e = absurd cc
  found_boolean_in name names o p r (Some fields) later e = found_boolean_at name names o p r (attribute name fields) later e

  -- whether names are there is a truth value
  found_boolean : (names : List (List ℕ)) (o : Subject) (p r : Path) → IsBoolean p.found → along s place known o p names ≡ Ok r → IsBoolean r.found
  found_boolean [] o p r h e = subst (λ (q : Path). IsBoolean q.found) (of_path s place known p r e) h
  found_boolean (name ∷ names) o p r h e =
      found_boolean_in name names o p r (attributes s o.type)
      (λ f. found_boolean names (attribute_in place o name f) (longer known p o.object o.type name f) r
      (longer_boolean (has_always o.type f || is_known (known ++ p.given) (named o.object name)) p o.type name (named o.object name) h)) e

-- ---- types of members

module _ (s : Declarations) (place : Place) where
  abbrev OfSort : Ty → List TypedExpr → Type 0
  OfSort type xs = AllByRecursion (λ (x : TypedExpr). sort_in s (ty x) ≡ sort_in s type) xs

  of_type : (a b : Ty) → ◌≡◌ {A = Result Ty TypeFault} (Ok a) (Ok b) → a ≡ b
  of_type a b e = cc

  joined_from : (a : Ty) (xs : List TypedExpr) (u : Ty) → all_joined place a xs ≡ Ok u → (sort_in s a ≡ sort_in s u) × OfSort u xs
  joined_from a [] u e = (ap (sort_in s) (of_type a u e), tt)
  joined_from a (x ∷ xs) u e = by (join a (ty x)) refl e (λ v. joined_from v xs u)
    where
      by : (o : Option Ty) → join a (ty x) ≡ o → (or_fails NoJoin place o >>= λ both. all_joined place both xs) ≡ Ok u → ((v : Ty) → all_joined place v xs ≡ Ok u → (sort_in s v ≡ sort_in s u) × OfSort u xs)
          → (sort_in s a ≡ sort_in s u) × OfSort u (x ∷ xs)
      by None at f later = absurd cc
      by (Some v) at f later =
          let j = joined_sorts s a (ty x) v at in
          let k = later v f in
          (j.0 ∙ k.0, (j.1 ∙ k.0, k.1))

  member_sorts : (xs : List TypedExpr) (u : Ty) → member_type place xs ≡ Ok u → OfSort u xs
  member_sorts [] u e = absurd cc
  member_sorts (x ∷ xs) u e = let k = joined_from (ty x) xs u e in (k.0, k.1)

module _ (s : Declarations) (env : Env) (Is : Sort → Tree → Type 0) (Proper : Value → Type 0) (Named : Uid → Type 0) (kept : Keeps s env Is Proper Named) (lawful : IsLawful s) where
  -- both are kept: a truth value, and a term of a sort
  pub record AreTerms (k : Sort) (c : Code) : Type 0 where
    pub ok : Is sort.Bool c.ok
    pub val : Is k c.val

  moved : (j k : Sort) (c : Code) → j ≡ k → AreTerms j c → AreTerms k c
  moved j k c e h = subst (λ (q : Sort). AreTerms q c) e h

  -- ---- operands

  constant_is : (b : Bool) → AreTerms sort.Bool (constant b)
  constant_is b = record { ok = kept.truth true; val = kept.truth b }

  always_is : (k : Sort) (t : Tree) → Is k t → AreTerms k (always t)
  always_is k t h = record { ok = kept.truth true; val = h }

  after_is : (j k : Sort) (a : Code) (t : Tree) → AreTerms j a → Is k t → AreTerms k (after a t)
  after_is j k a t h v = record { ok = h.ok; val = v }

  after_both_is : (i j k : Sort) (a b : Code) (t : Tree) → AreTerms i a → AreTerms j b → Is k t → AreTerms k (after_both a b t)
  after_both_is i j k a b t h g v = record { ok = kept.both a.ok b.ok h.ok g.ok; val = v }

  where_so_is : (i j k : Sort) (a b : Code) (so t : Tree) → AreTerms i a → AreTerms j b → Is sort.Bool so → Is k t → AreTerms k (where_so a b so t)
  where_so_is i j k a b so t h g n v = record { ok = kept.both a.ok _ h.ok (kept.both b.ok so g.ok n); val = v }

  -- ---- `if`, `||`, `&&`

  choice_is : (k : Sort) (c a b : Code) → AreTerms sort.Bool c → AreTerms k a → AreTerms k b → AreTerms k (choice_code c a b)
  choice_is k c a b h g f = record {
    ok = kept.both c.ok _ h.ok (kept.chosen sort.Bool c.val a.ok b.ok h.val g.ok f.ok);
    val = kept.chosen k c.val a.val b.val h.val g.val f.val;
  }

  branch_is : (j k : Sort) (c a : Code) → AreTerms j c → AreTerms k a → AreTerms k (branch_code c a)
  branch_is j k c a h g = after_both_is j k k c a a.val h g g.val

  or_is : (a b : Code) → AreTerms sort.Bool a → AreTerms sort.Bool b → AreTerms sort.Bool (or_code a b)
  or_is a b h g = record { ok = kept.both a.ok _ h.ok (kept.either a.val b.ok h.val g.ok); val = kept.either a.val b.val h.val g.val }

  and_is : (a b : Code) → AreTerms sort.Bool a → AreTerms sort.Bool b → AreTerms sort.Bool (and_code a b)
  and_is a b h g = record {
    ok = kept.both a.ok _ h.ok (kept.either (not_term a.val) b.ok (kept.negation a.val h.val) g.ok);
    val = kept.both a.val b.val h.val g.val;
  }

  -- ---- numbers

  less_is : (k : Sort) (a b : Code) → IsNumberSort k → AreTerms k a → AreTerms k b → AreTerms sort.Bool (less_code a b)
  less_is k a b n h g = after_both_is k k sort.Bool a b _ h g (kept.less k a.val b.val n h.val g.val)

  less_or_equal_is : (k : Sort) (a b : Code) → IsNumberSort k → AreTerms k a → AreTerms k b → AreTerms sort.Bool (less_or_equal_code a b)
  less_or_equal_is k a b n h g = after_both_is k k sort.Bool a b _ h g (kept.negation _ (kept.less k b.val a.val n g.val h.val))

  greater_is : (k : Sort) (a b : Code) → IsNumberSort k → AreTerms k a → AreTerms k b → AreTerms sort.Bool (greater_code a b)
  greater_is k a b n h g = after_both_is k k sort.Bool a b _ h g (kept.less k b.val a.val n g.val h.val)

  greater_or_equal_is : (k : Sort) (a b : Code) → IsNumberSort k → AreTerms k a → AreTerms k b → AreTerms sort.Bool (greater_or_equal_code a b)
  greater_or_equal_is k a b n h g = after_both_is k k sort.Bool a b _ h g (kept.negation _ (kept.less k a.val b.val n h.val g.val))

  computed_is : (o p : BinaryOp) (a b : Code) → judged.IsArithmetic o → judged.IsOverflow p → AreTerms sort.Long a → AreTerms sort.Long b → AreTerms sort.Long (where_so a b (not_term (two p a.val b.val)) (two o a.val b.val))
  computed_is o p a b i j h g = where_so_is sort.Long sort.Long sort.Long a b _ _ h g (kept.negation _ (kept.overflow p a.val b.val j h.val g.val)) (kept.arithmetic o a.val b.val i h.val g.val)

  difference_is : (a b : Code) → AreTerms sort.Long a → AreTerms sort.Long b → AreTerms sort.Long (difference_code a b)
  difference_is a b h g = computed_is binary.Subtract binary.SubtractOverflows a b (judged.of_sum binary.Subtract judged.subtraction) judged.subtraction_overflow h g

  -- ---- `==`

  sorts_one : (k l : Sort) → same_sort k l ≡ true → k ≡ l
  unfolding same_sort
  sorts_one k l h = same_sorts k l h

  equal_is : (i j : Sort) (a b : Code) → is_option i ≡ false → AreTerms i a → AreTerms j b → AreTerms sort.Bool (equal_code a b)
  equal_is i j a b plain h g = after_both_is i j sort.Bool a b _ h g (by (same_sort (tree_sort a.val) (tree_sort b.val)) refl)
    where
      by : (r : Bool) → same_sort (tree_sort a.val) (tree_sort b.val) ≡ r → Is sort.Bool (only_where r (equal_term a.val b.val))
      by true e =
          let one : j ≡ i = sym (kept.sorted j b.val g.val) ∙ sym (sorts_one _ _ e) ∙ kept.sorted i a.val h.val in
          kept.equation i a.val b.val plain h.val (subst (λ (k : Sort). Is k b.val) one g.val)
      by false e = kept.truth false

  -- ---- sets

  contains_is : (k : Sort) (a b : Code) → AreTerms (sort.Set k) a → AreTerms k b → AreTerms sort.Bool (contains_code a b)
  contains_is k a b h g = after_both_is (sort.Set k) k sort.Bool a b _ h g (kept.member k b.val a.val g.val h.val)

  is_empty_is : (k : Sort) (a : Code) → AreTerms (sort.Set k) a → AreTerms sort.Bool (is_empty_code a)
  is_empty_is k a h =
      let own : member_sort (tree_sort a.val) ≡ k = ap member_sort (kept.sorted (sort.Set k) a.val h.val) ∙ member_of k in
      after_is (sort.Set k) sort.Bool a _ h
      (subst (λ (j : Sort). Is sort.Bool (two binary.Subset a.val (set_term j []))) (sym own) (kept.sets binary.Subset k a.val (set_term k []) judged.subset_test h.val (kept.nothing k a.val h.val)))

  -- ---- addresses

  within_is : (range : Ip) (a : Tree) → IsIp range → Is sort.Ip a → Is sort.Bool (within range a)
  within_is range a proper h = kept.in_range a _ h (kept.address range proper)

  in_either_is : (r q : Ip) (a : Code) → IsIp r → IsIp q → AreTerms sort.Ip a → AreTerms sort.Bool (in_either_code r q a)
  in_either_is r q a i j h = after_is sort.Ip sort.Bool a _ h (kept.either _ _ (within_is r a.val i h.val) (within_is q a.val j h.val))

  -- the bit that tells the version
  version_is : (a : Tree) → Is sort.Ip a → Is sort.Bool (bit_term a 0)
  version_is a h = kept.bit sort.Ip 0 a (judged.of_ip (lit< tt)) h

  loopback_is : (a : Code) → AreTerms sort.Ip a → AreTerms sort.Bool (is_loopback_code a)
  loopback_is a h = in_either_is (V4 0x7f00_0000 8) (V6 1 128) a (lit< tt, lit≤ tt) (lit< tt, lit≤ tt) h

  multicast_is : (a : Code) → AreTerms sort.Ip a → AreTerms sort.Bool (is_multicast_code a)
  multicast_is a h = in_either_is (V4 0xe000_0000 4) (V6 0xff00_0000_0000_0000_0000_0000_0000_0000 8) a (lit< tt, lit≤ tt) (lit< tt, lit≤ tt) h

  -- ---- attributes

  attribute_sort : (fields : List Field) (name : List ℕ) (f : Field) → attribute name fields ≡ Some f → lookup (bytes_eq name) (fields_sorts s fields) ≡ Some (with_presence f.1 (sort_in s f.2))
  attribute_sort [] name f e = absurd cc
  attribute_sort (g ∷ fields) name f e = by (bytes_eq name g.0) (attribute name fields) (lookup (bytes_eq name) (fields_sorts s fields)) e (attribute_sort fields name f)
    where
      by : (b : Bool) (later : Option Field) (found : Option Sort) → cond b (Some g) later ≡ Some f → (later ≡ Some f → found ≡ Some (with_presence f.1 (sort_in s f.2)))
          → cond b (Some (with_presence g.1 (sort_in s g.2))) found ≡ Some (with_presence f.1 (sort_in s f.2))
      by true later found h k = let is : g ≡ f = cc in ap (λ (x : Field). Some (with_presence x.1 (sort_in s x.2))) is
      by false later found h k = k h

  -- the record that an attribute is read of, whose sort has the attribute
  pub record IsObjectTerm (type : Ty) (name : List ℕ) (f : Field) (a : Tree) : Type 0 where
    pub sorts : SortFields
    pub object : Is (sort.Record sorts) (object_in s (out-Ty type) a)
    pub found : lookup (bytes_eq name) sorts ≡ Some (with_presence f.1 (sort_in s f.2))

  record_shape : (shape : Ty) (fields : List Field) → record_fields shape ≡ Some fields → sort_in s shape ≡ sort.Record (fields_sorts s fields)
  record_shape shape fields e = sort_out s shape ∙ at (out-Ty shape) e
    where
      at : (y : Ty-F Ty) → record_fields_in y ≡ Some fields → level s y ≡ sort.Record (fields_sorts s fields)
      at (t.Record gs) h = let is : gs ≡ fields = cc in ap (λ (fs : List Field). sort.Record (fields_sorts s fs)) is
      at _ h = absurd cc

  of_entity : (n name : List ℕ) (f : Field) (a : Tree) (o : Option Ty) (r : Option (List Field)) → attrs_of s n ≡ o → option_and_then record_fields o ≡ r → attribute name (unwrap_or r []) ≡ Some f → Is (entity_sort s n) a
      → (sorts : SortFields) × Is (sort.Record sorts) (one (unary.Attributes (attributes_sort s n)) a) × (lookup (bytes_eq name) sorts ≡ Some (with_presence f.1 (sort_in s f.2)))
  of_entity n name f a o None at to e h = absurd cc
  of_entity n name f a None (Some fields) at to e h = absurd cc
  of_entity n name f a (Some shape) (Some fields) at to e h =
      let own : sort_of shape ≡ sort.Record (fields_sorts s fields) = sym (schema_sort s lawful shape (attrs_lawful s lawful n shape at)) ∙ record_shape shape fields to in
      let whole : sort_of shape ≡ attributes_sort s n = ap (λ (p : Option Ty). sort_of (unwrap_or p (types.Record []))) (sym at) in (
        fields_sorts s fields,
        subst (λ (k : Sort). Is k (one (unary.Attributes (attributes_sort s n)) a)) own (subst (λ (k : Sort). Is (sort_of shape) (one (unary.Attributes k) a)) whole (kept.attributes n shape a at h)),
        attribute_sort fields name f e,
      )

  object_at : (type : Ty) (name : List ℕ) (f : Field) (a : Tree) (fields : List Field) (y : Ty-F Ty) → attributes_in s y ≡ Some fields → attribute name fields ≡ Some f → Is (level s y) a
      → (sorts : SortFields) × Is (sort.Record sorts) (object_in s y a) × (lookup (bytes_eq name) sorts ≡ Some (with_presence f.1 (sort_in s f.2)))
  object_at type name f a fields (t.Record gs) e g h =
      let is : gs ≡ fields = cc in
      (fields_sorts s gs, h, attribute_sort gs name f (ap (attribute name) is ∙ g))
  object_at type name f a fields (t.Entity kind) e g h =
      let is : unwrap_or (option_and_then record_fields (attrs_of s kind.name)) [] ≡ fields = cc in
      of_entity kind.name name f a (attrs_of s kind.name) (option_and_then record_fields (attrs_of s kind.name)) refl refl (ap (attribute name) is ∙ g) h
  object_at type name f a fields _ e g h = absurd cc

  pub object_is : (type : Ty) (name : List ℕ) (f : Field) (a : Tree) (fields : List Field) → attributes s type ≡ Some fields → attribute name fields ≡ Some f → Is (sort_in s type) a → IsObjectTerm type name f a
  object_is type name f a fields e g h =
      let q = object_at type name f a fields (out-Ty type) e g (subst (λ (k : Sort). Is k a) (sort_out s type) h) in
      record { sorts = q.0; object = q.1; found = q.2 }

  pub field_is : (type : Ty) (name : List ℕ) (f : Field) (a : Tree) (fields : List Field) → attributes s type ≡ Some fields → attribute name fields ≡ Some f → Is (sort_in s type) a
      → Is (with_presence f.1 (sort_in s f.2)) (field_of s type name a)
  field_is type name f a fields e g h = let q = object_is type name f a fields e g h in kept.component q.sorts name (with_presence f.1 (sort_in s f.2)) (object_in s (out-Ty type) a) q.object q.found

  -- whether it may lack a declared attribute, and one that isn't declared
  pub presence_told : (type : Ty) (name : List ℕ) (fields : List Field) (o : Option Field) → attributes s type ≡ Some fields → attribute name fields ≡ o → presence_of s type name ≡ option_map (λ (f : Field). f.1) o
  presence_told type name fields o e g =
      ap (λ (a : Option (List Field)). option_and_then (λ (fs : List Field). option_map (λ (f : Field). f.1) (attribute name fs)) a) e ∙ ap (option_map (λ (f : Field). f.1)) g

  has_by : (p : Presence) (k : Sort) (t : Tree) → Is (with_presence p k) t → Is sort.Bool (has_term (Some p) t)
  has_by Required k t h = kept.truth true
  has_by Optional k t h = kept.present k t h

  pub has_is : (type : Ty) (name : List ℕ) (f : Field) (a : Code) (fields : List Field) → attributes s type ≡ Some fields → attribute name fields ≡ Some f → AreTerms (sort_in s type) a → AreTerms sort.Bool (has_code s type name a)
  has_is type name f a fields e g h =
      after_is (sort_in s type) sort.Bool a _ h
      (subst (λ (o : Option Presence). Is sort.Bool (has_term o (field_of s type name a.val))) (sym (presence_told type name fields (Some f) e g))
      (has_by f.1 (sort_in s f.2) _ (field_is type name f a.val fields e g h.val)))

  has_none_is : (type : Ty) (name : List ℕ) (a : Code) (fields : List Field) → attributes s type ≡ Some fields → attribute name fields ≡ None → AreTerms (sort_in s type) a → AreTerms sort.Bool (has_code s type name a)
  has_none_is type name a fields e g h =
      after_is (sort_in s type) sort.Bool a _ h
      (subst (λ (o : Option Presence). Is sort.Bool (has_term o (field_of s type name a.val))) (sym (presence_told type name fields None e g)) (kept.truth false))

  read_by : (p : Presence) (k : Sort) (a : Code) (t : Tree) → is_option k ≡ false → Is sort.Bool a.ok → Is (with_presence p k) t → AreTerms k (read_code (Some p) a t)
  read_by Required k a t plain h g = record { ok = h; val = g }
  read_by Optional k a t plain h g = record { ok = kept.both a.ok _ h (kept.present k t g); val = kept.held k t plain g }

  pub access_is : (type : Ty) (name : List ℕ) (f : Field) (a : Code) (fields : List Field) → attributes s type ≡ Some fields → attribute name fields ≡ Some f → AreTerms (sort_in s type) a → AreTerms (sort_in s f.2) (access_code s type name a)
  access_is type name f a fields e g h =
      subst (λ (o : Option Presence). AreTerms (sort_in s f.2) (read_code o a (field_of s type name a.val))) (sym (presence_told type name fields (Some f) e g))
      (read_by f.1 (sort_in s f.2) a _ (no_option s f.2) h.ok (field_is type name f a.val fields e g h.val))

  along_kept : {type : Ty} {names : List (List ℕ)} {steps : List HasStep} → IsAlong s type names steps → (front a : Code) → AreTerms sort.Bool front → AreTerms (sort_in s type) a → AreTerms sort.Bool (along_code s front a steps)
  along_kept (at_end type) front a h g = h
  along_kept (never type name names fields found e f) front a h g = and_is front _ h (has_none_is type name a fields e f g)
  along_kept (declared type name names fields f found steps e d rest) front a h g =
      along_kept rest (and_code front (has_code s type name a)) (access_code s type name a) (and_is front _ h (has_is type name f a fields e d g)) (access_is type name f a fields e d g)

  path_kept : {type : Ty} {names : List (List ℕ)} {steps : List HasStep} → IsAlong s type names steps → (a : Code) → AreTerms (sort_in s type) a → AreTerms sort.Bool (path_code s a steps)
  path_kept (at_end type) a g = after_is (sort_in s type) sort.Bool a _ g (kept.truth true)
  path_kept (never type name names fields found e f) a g = has_none_is type name a fields e f g
  path_kept (declared type name names fields f found steps e d rest) a g =
      along_kept rest (has_code s type name a) (access_code s type name a) (has_is type name f a fields e d g) (access_is type name f a fields e d g)

  -- ---- tags

  tag_of : (type : Ty) (n : List ℕ) (o : Option Ty) → entity_name type ≡ Some n → tags_of s n ≡ o → tag_type s type ≡ o
  tag_of type n o e g = ap (option_and_then (tags_of s)) e ∙ g

  has_tag_is : (type : Ty) (n : List ℕ) (a b : Code) → entity_name type ≡ Some n → AreTerms (entity_sort s n) a → AreTerms sort.String b → AreTerms sort.Bool (has_tag_code (tag_type s type) a b)
  has_tag_is type n a b e h g =
      subst (λ (o : Option Ty). AreTerms sort.Bool (has_tag_code o a b)) (sym (tag_of type n (tags_of s n) e refl)) (by (tags_of s n) refl)
    where
      by : (o : Option Ty) → tags_of s n ≡ o → AreTerms sort.Bool (has_tag_code o a b)
      by (Some tag) at = after_both_is (entity_sort s n) sort.String sort.Bool a b _ h g (kept.member sort.String b.val _ g.val (kept.keys n tag a.val at h.val))
      by None at = after_both_is (entity_sort s n) sort.String sort.Bool a b _ h g (kept.truth false)

  get_tag_is : (type : Ty) (n : List ℕ) (tag : Ty) (a b : Code) → entity_name type ≡ Some n → tags_of s n ≡ Some tag → AreTerms (entity_sort s n) a → AreTerms sort.String b → AreTerms (sort_in s tag) (get_tag_code (tag_type s type) a b)
  get_tag_is type n tag a b e at h g =
      subst (λ (o : Option Ty). AreTerms (sort_in s tag) (get_tag_code o a b)) (sym (tag_of type n (Some tag) e at))
      (moved (sort_of tag) (sort_in s tag) _ (sym (schema_sort s lawful tag (tags_lawful s lawful n tag at)))
      (where_so_is (entity_sort s n) sort.String (sort_of tag) a b _ _ h g (kept.member sort.String b.val _ g.val (kept.keys n tag a.val at h.val)) (kept.tag n tag a.val b.val at h.val g.val)))

  -- ---- `in`

  same_entity : (n u : List ℕ) → bytes_eq n u ≡ true → entity_sort s u ≡ entity_sort s n
  same_entity n u e = ap (entity_sort s) (sym ((bytes_eq-Decides n u).0 e))

  above_kept : (n u : List ℕ) (a : Tree) → may_be_above s n u ≡ true → Is (entity_sort s n) a → Is (sort.Set (entity_sort s u)) (above s u a)
  above_kept n u a e h = let q = above_is s n u (by (ancestor_types s n) e) in kept.ancestors n u q.names a q.declared q.among h
    where
      by : (o : Option (List (List ℕ))) → list_any (bytes_eq u) (unwrap_or o []) ≡ true → has_name o u ≡ true
      by (Some names) e = e
      by None e = absurd cc

  in_one_is : (n u : List ℕ) (a b : Tree) → Is (entity_sort s n) a → Is (entity_sort s u) b → Is sort.Bool (in_one s n u a b)
  in_one_is n u a b h g = kept.either _ _ (same (bytes_eq n u) refl) (inside (may_be_above s n u) refl)
    where
      same : (r : Bool) → bytes_eq n u ≡ r → Is sort.Bool (only_where r (equal_term a b))
      same true e = kept.equation (entity_sort s n) a b (entity_plain n _) h (subst (λ (k : Sort). Is k b) (same_entity n u e) g)
      same false e = kept.truth false

      inside : (r : Bool) → may_be_above s n u ≡ r → Is sort.Bool (only_where r (two binary.Member b (above s u a)))
      inside true e = kept.member (entity_sort s u) b _ g (above_kept n u a e h)
      inside false e = kept.truth false

  in_some_is : (n u : List ℕ) (a b : Tree) → Is (entity_sort s n) a → Is (sort.Set (entity_sort s u)) b → Is sort.Bool (in_some s n u a b)
  in_some_is n u a b h g = kept.either _ _ (same (bytes_eq n u) refl) (inside (may_be_above s n u) refl)
    where
      same : (r : Bool) → bytes_eq n u ≡ r → Is sort.Bool (only_where r (two binary.Member a b))
      same true e = kept.member (entity_sort s u) a b (subst (λ (k : Sort). Is k a) (sym (same_entity n u e)) h) g
      same false e = kept.truth false

      inside : (r : Bool) → may_be_above s n u ≡ r → Is sort.Bool (only_where r (two binary.Common (above s u a) b))
      inside true e = kept.sets binary.Common (entity_sort s u) _ b judged.common_test (above_kept n u a e h) g
      inside false e = kept.truth false

  in_type_is : (n m : List ℕ) (y : Ty-F Ty) (a b : Tree) → group_in y ≡ Some m → Is (entity_sort s n) a → Is (level s y) b → Is sort.Bool (objects.in_type s n y a b)
  in_type_is n m (t.Entity kind) a b e h g = in_one_is n kind.name a b h g
  in_type_is n m (t.Set mem) a b e h g =
      subst (λ (o : Option (List ℕ)). Is sort.Bool (objects.in_some_of s n o a b)) (sym e)
      (in_some_is n m a b h (subst (λ (k : Sort). Is (sort.Set k) b) (entity_type_sort s mem m e) g))
  in_type_is n m _ a b e h g = kept.truth false

  in_term_is : (n m : List ℕ) (x y : Ty) (a b : Tree) → entity_name x ≡ Some n → group y ≡ Some m → Is (entity_sort s n) a → Is (sort_in s y) b → Is sort.Bool (in_term s (entity_name x) y a b)
  in_term_is n m x y a b e f h g =
      subst (λ (o : Option (List ℕ)). Is sort.Bool (in_term s o y a b)) (sym e) (in_type_is n m (out-Ty y) a b f h (subst (λ (k : Sort). Is k b) (sort_out s y) g))

  in_is : (n m : List ℕ) (type : Ty) (x y : TypedExpr) (a b : Code) → entity_name (ty x) ≡ Some n → group (ty y) ≡ Some m → AreTerms (entity_sort s n) a → AreTerms (sort_in s (ty y)) b → AreTerms sort.Bool (in_code s type x y a b)
  in_is n m type x y a b e f h g = by (is_decided s x y)
    where
      by : (r : Bool) → AreTerms sort.Bool (if r then constant (is_true type) else after_both a b (in_term s (entity_name (ty x)) (ty y) a.val b.val))
      by true = constant_is (is_true type)
      by false = after_both_is (entity_sort s n) (sort_in s (ty y)) sort.Bool a b _ h g (in_term_is n m (ty x) (ty y) a.val b.val e f h.val g.val)

  decided_is : (type : Ty) (x y : TypedExpr) (a b : Code) → is_decided s x y ≡ true → AreTerms sort.Bool (in_code s type x y a b)
  decided_is type x y a b e =
      subst (λ (r : Bool). AreTerms sort.Bool (if r then constant (is_true type) else after_both a b (in_term s (entity_name (ty x)) (ty y) a.val b.val))) (sym e) (constant_is (is_true type))

  -- ---- operators

  abbrev OperandOf : TypedExpr → Code → Type 0
  OperandOf x a = AreTerms (sort_in s (ty x)) a

  module _ (x y : TypedExpr) (a b : Code) (h : OperandOf x a) (g : OperandOf y b) where
    number_operands : (k : Sort) → sort_in s (ty x) ≡ k → sort_in s (ty y) ≡ k → AreTerms k a × AreTerms k b
    number_operands k e f = (moved _ k a e h, moved _ k b f g)

    comparison_kept : (k : Sort) (o : BinaryOperator) (type : Ty) → IsComparison o → IsNumberSort k → AreTerms k a → AreTerms k b → AreTerms sort.Bool (binary_code s o type x y a b)
    comparison_kept k _ type less n i j = less_is k a b n i j
    comparison_kept k _ type less_or_equal n i j = less_or_equal_is k a b n i j
    comparison_kept k _ type greater n i j = greater_is k a b n i j
    comparison_kept k _ type greater_or_equal n i j = greater_or_equal_is k a b n i j

    decimal_kept : (o : BinaryOperator) (type : Ty) → IsDecimalComparison o → AreTerms sort.Decimal a → AreTerms sort.Decimal b → AreTerms sort.Bool (binary_code s o type x y a b)
    decimal_kept _ type decimal_less i j = less_is sort.Decimal a b decimal i j
    decimal_kept _ type decimal_less_or_equal i j = less_or_equal_is sort.Decimal a b decimal i j
    decimal_kept _ type decimal_greater i j = greater_is sort.Decimal a b decimal i j
    decimal_kept _ type decimal_greater_or_equal i j = greater_or_equal_is sort.Decimal a b decimal i j

    arithmetic_kept : (o : BinaryOperator) (type : Ty) → IsArithmetic o → AreTerms sort.Long a → AreTerms sort.Long b → AreTerms sort.Long (binary_code s o type x y a b)
    arithmetic_kept _ type addition i j = computed_is binary.Add binary.AddOverflows a b (judged.of_sum binary.Add judged.addition) judged.addition_overflow i j
    arithmetic_kept _ type subtraction i j = difference_is a b i j
    arithmetic_kept _ type multiplication i j = computed_is binary.Multiply binary.MultiplyOverflows a b judged.multiplication judged.multiplication_overflow i j

    sets_kept : (k : Sort) (o : BinaryOperator) (type : Ty) → IsSetTest o → AreTerms (sort.Set k) a → AreTerms (sort.Set k) b → AreTerms sort.Bool (binary_code s o type x y a b)
    sets_kept k _ type all i j = after_both_is (sort.Set k) (sort.Set k) sort.Bool a b _ i j (kept.sets binary.Subset k b.val a.val judged.subset_test j.val i.val)
    sets_kept k _ type any i j = after_both_is (sort.Set k) (sort.Set k) sort.Bool a b _ i j (kept.sets binary.Common k a.val b.val judged.common_test i.val j.val)

    -- a truth value, at a Boolean type
    of_truths : (type : Ty) (c : Code) → is_boolean type ≡ true → AreTerms sort.Bool c → AreTerms (sort_in s type) c
    of_truths type c e i = moved sort.Bool (sort_in s type) c (sym (boolean_sort s type e)) i

    operation_kept : (known : Capabilities) (m n : Expr) (o : BinaryOperator) (type : Ty) → IsOperation s known m n x y o type → AreTerms (sort_in s type) (binary_code s o type x y a b)
    operation_kept known m n _ _ (of_comparison o i c d) =
        let p = number_operands sort.Long (long_sort s (ty x) c) (long_sort s (ty y) d) in of_truths _ _ boolean_Bool (comparison_kept sort.Long o _ i long p.0 p.1)
    operation_kept known m n _ _ (of_arithmetic o i c d) =
        let p = number_operands sort.Long (long_sort s (ty x) c) (long_sort s (ty y) d) in
        moved sort.Long _ _ (sym (rolled_sort s types.Long t.Long rolls-Long)) (arithmetic_kept o _ i p.0 p.1)
    operation_kept known m n _ _ (of_literals l r e f) = of_truths _ _ (truth_boolean _) (equal_is (sort_in s (ty x)) (sort_in s (ty y)) a b (no_option s (ty x)) h g)
    operation_kept known m n _ _ (of_equal both e j) = of_truths _ _ boolean_Bool (equal_is (sort_in s (ty x)) (sort_in s (ty y)) a b (no_option s (ty x)) h g)
    operation_kept known m n _ _ (of_apart i j l e f named r) = of_truths _ _ boolean_False (equal_is (sort_in s (ty x)) (sort_in s (ty y)) a b (no_option s (ty x)) h g)
    operation_kept known m n _ _ (of_contains element both c j) =
        let q = joined_sorts s element (ty y) both j in
        of_truths _ _ boolean_Bool (contains_is (sort_in s (ty y)) a b (moved _ _ a (set_type_sort s (ty x) element c ∙ ap sort.Set (q.0 ∙ sym q.1)) h) g)
    operation_kept known m n _ _ (of_sets o first second both i c d j) =
        let q = joined_sorts s first second both j in
        of_truths _ _ boolean_Bool (sets_kept (sort_in s both) o _ i (moved _ _ a (set_type_sort s (ty x) first c ∙ ap sort.Set q.0) h) (moved _ _ b (set_type_sort s (ty y) second d ∙ ap sort.Set q.1) g))
    operation_kept known m n _ _ (of_has_tag i e c) =
        of_truths _ _ (tag_boolean (tags_of s i) _) (has_tag_is (ty x) i a b e (moved _ _ a (entity_type_sort s (ty x) i e) h) (moved _ _ b (string_sort s (ty y) c) g))
    operation_kept known m n _ _ (of_get_tag i tag e c d f) =
        get_tag_is (ty x) i tag a b e d (moved _ _ a (entity_type_sort s (ty x) i e) h) (moved _ _ b (string_sort s (ty y) c) g)
    operation_kept known m n _ _ (of_decimals o i c d) =
        let p = number_operands sort.Decimal (decimal_sort s (ty x) c) (decimal_sort s (ty y) d) in of_truths _ _ boolean_Bool (decimal_kept o _ i p.0 p.1)
    operation_kept known m n _ _ (of_ranges c d) =
        let p = number_operands sort.Ip (ip_sort s (ty x) c) (ip_sort s (ty y) d) in
        of_truths _ _ boolean_Bool (after_both_is sort.Ip sort.Ip sort.Bool a b _ p.0 p.1 (kept.in_range a.val b.val p.0.val p.1.val))

  -- ---- one operand

  module _ (m : Expr) (x : TypedExpr) (a : Code) (h : OperandOf x a) (written_as : (l : Literal) → literal_of m ≡ Some l → (p : Place) × (x ≡ literal_typed s p l)) where
    boolean_code : (type : Ty) (c : Code) → is_boolean type ≡ true → AreTerms sort.Bool c → AreTerms (sort_in s type) c
    boolean_code type c e i = moved sort.Bool (sort_in s type) c (sym (boolean_sort s type e)) i

    address_kept : (o : UnaryOperator) → IsAddressTest o → AreTerms sort.Ip a → AreTerms sort.Bool (unary_code o x a)
    address_kept _ version_4 i = after_is sort.Ip sort.Bool a _ i (kept.negation _ (version_is a.val i.val))
    address_kept _ version_6 i = after_is sort.Ip sort.Bool a _ i (version_is a.val i.val)
    address_kept _ loopback i = loopback_is a i
    address_kept _ multicast i = multicast_is a i

    pub application_kept : (o : UnaryOperator) (type : Ty) → IsApplication m x o type → AreTerms (sort_in s type) (unary_code o x a)
    application_kept _ _ (of_not b) =
        boolean_code _ _ (negated_boolean (ty x)) (let i = moved _ _ a (boolean_sort s (ty x) b) h in after_is sort.Bool sort.Bool a _ i (kept.negation a.val i.val))
    application_kept _ _ (of_negate c) =
        moved sort.Long _ _ (sym (rolled_sort s types.Long t.Long rolls-Long)) (difference_is zero_code a (always_is sort.Long _ kept.zero) (moved _ _ a (long_sort s (ty x) c) h))
    application_kept _ _ (of_is_empty element c) = boolean_code _ _ boolean_Bool (is_empty_is (sort_in s element) a (moved _ _ a (set_type_sort s (ty x) element c) h))
    application_kept _ _ (of_address_test o i c) = boolean_code _ _ boolean_Bool (address_kept o i (moved _ _ a (ip_sort s (ty x) c) h))
    application_kept _ _ (of_decimal text n e r) =
        let q = written_as (written.String text) (text_is m text e) in
        moved sort.Decimal _ _ (sym (rolled_sort s types.Decimal t.Decimal rolls-Decimal))
        (subst (λ (o : _). AreTerms sort.Decimal (spelled_code o)) (sym (spelled_is literal.Decimal decimal_of s x q.0 text n q.1 r))
        (always_is sort.Decimal _ (kept.decimal_number n ((decimal_of_decides text n).0 r).in_range)))
    application_kept _ _ (of_ip text ip e r) =
        let q = written_as (written.String text) (text_is m text e) in
        moved sort.Ip _ _ (sym (rolled_sort s types.Ip t.Ip rolls-Ip))
        (subst (λ (o : _). AreTerms sort.Ip (spelled_code o)) (sym (spelled_is literal.Ip ip_of s x q.0 text ip q.1 r))
        (always_is sort.Ip _ (kept.address_text text ip r)))

  -- ---- literals and variables

  -- the sort of a type of entities, with the choices that it has
  entity_rolled : (name : List ℕ) → sort_in s (types.Entity (kind_of s name)) ≡ entity_sort s name
  entity_rolled name = rolled_sort s (types.Entity (kind_of s name)) (t.Entity (kind_of s name)) (rolls-Entity (kind_of s name))

  literal_kept : (l : Literal) → AllByRecursion Named (literal_uids l) → Proper (literal_value l) → Is (sort_in s (literal_type s l)) (written_term s l)
  literal_kept (written.Bool b) us c = subst (λ (k : Sort). Is k (truth_term b)) (sym (boolean_sort s (truth b) (truth_boolean b))) (kept.truth b)
  literal_kept (written.Long n) us c = subst (λ (k : Sort). Is k (literal_term (literal.Long n))) (sym (rolled_sort s types.Long t.Long rolls-Long)) (kept.number n c)
  literal_kept (written.String x) us c = subst (λ (k : Sort). Is k (literal_term (literal.String x))) (sym (rolled_sort s types.String t.String rolls-String)) (kept.text x c)
  literal_kept (written.Entity u) us c =
      subst (λ (k : Sort). Is k (entity_term s u)) (sym (entity_rolled u.type_name)) (kept.uid u us.0)

  context_type : (o : Option Ty) → context_of s env.action ≡ o → sort_of (unwrap_or o (types.Record [])) ≡ sort_in s (unwrap_or o (types.Record []))
  context_type (Some type) e = sym (schema_sort s lawful type (context_lawful s lawful env.action type e))
  context_type None e = sym (schema_sort s lawful (types.Record []) (no_fields_lawful s).proper)

  variable_kept : (v : Variable) → Is (sort_in s (variable_type s env v)) (variable_term s env v)
  variable_kept Principal = subst (λ (k : Sort). Is k (variable_term s env Principal)) (sym (entity_rolled env.principal)) kept.principal
  variable_kept Action = subst (λ (k : Sort). Is k (variable_term s env Action)) (sym (entity_rolled env.action.type_name)) kept.action
  variable_kept Resource = subst (λ (k : Sort). Is k (variable_term s env Resource)) (sym (entity_rolled env.resource)) kept.resource
  variable_kept Context = subst (λ (k : Sort). Is k (variable_term s env Context)) (context_type (context_of s env.action) refl) kept.context

  -- ---- sets that are written

  abbrev AreOperands : List TypedExpr → Type 0
  AreOperands xs = AllByRecursion (λ (x : TypedExpr). OperandOf x (code_of s env x)) xs

  member_oks : (xs : List TypedExpr) → AreOperands xs → All (Is sort.Bool) (oks (map (code_of s env) xs))
  member_oks [] h = All-nil (Is sort.Bool)
  member_oks (x ∷ xs) h = All-cons (Is sort.Bool) (code_of s env x).ok (oks (map (code_of s env) xs)) h.0.ok (member_oks xs h.1)

  member_vals : (type : Ty) (xs : List TypedExpr) → AllByRecursion (λ (x : TypedExpr). sort_in s (ty x) ≡ sort_in s type) xs → AreOperands xs → AllByRecursion (Is (sort_in s type)) (vals (map (code_of s env) xs))
  member_vals type [] e h = tt
  member_vals type (x ∷ xs) e h = (subst (λ (k : Sort). Is k (code_of s env x).val) e.0 h.0.val, member_vals type xs e.1 h.1)

  set_kept : (place : Place) (type : Ty) (xs : List TypedExpr) → member_type place xs ≡ Ok type → AreOperands xs → AreTerms (sort.Set (sort_in s type)) (set_code (map (code_of s env) xs))
  set_kept place type [] e h = absurd cc
  set_kept place type (x ∷ xs) e h =
      let sorts = member_sorts s place (x ∷ xs) type e in
      let own : tree_sort (code_of s env x).val ≡ sort_in s type = kept.sorted _ _ h.0.val ∙ sorts.0 in
      let each = member_vals type (x ∷ xs) sorts h in
      record {
        ok = kept.all (oks (map (code_of s env) (x ∷ xs))) (member_oks (x ∷ xs) h);
        val = subst (λ (k : Sort). Is (sort.Set (sort_in s type)) (set_term k (vals (map (code_of s env) (x ∷ xs))))) (sym own) (kept.members (sort_in s type) (code_of s env x).val (vals (map (code_of s env) xs)) (no_option s type) each);
      }

  -- ---- records that are written

  abbrev AreFieldOperands : List (List ℕ × TypedExpr) → Type 0
  AreFieldOperands fs = AllByRecursion (λ (f : List ℕ × TypedExpr). OperandOf f.1 (code_of s env f.1) × Proper (value.String f.0)) fs

  abbrev codes_in : List (List ℕ × TypedExpr) → List CodeField
  codes_in fs = map (λ (f : List ℕ × TypedExpr). (f.0, code_of s env f.1)) fs

  field_oks : (fs : List (List ℕ × TypedExpr)) → AreFieldOperands fs → All (Is sort.Bool) (oks (field_codes (codes_in fs)))
  field_oks [] h = All-nil (Is sort.Bool)
  field_oks (f ∷ fs) h = All-cons (Is sort.Bool) (code_of s env f.1).ok (oks (field_codes (codes_in fs))) h.0.0.ok (field_oks fs h.1)

  -- the types of fields and their terms, both in the order of names
  abbrev Match : List (List ℕ × Ty) → List Labelled → Type 0
  Match [] [] = Unit {0}
  Match [] (t ∷ ts) = ⊥
  Match (e ∷ es) [] = ⊥
  Match (e ∷ es) (t ∷ ts) = (e.0 ≡ t.0) × Is (sort_in s e.1) t.1 × Proper (value.String e.0) × Match es ts

  put_at : (o : Ordering) (e : List ℕ × Ty) (es : List (List ℕ × Ty)) (t : Labelled) (ts : List Labelled) (name : List ℕ) (type : Ty) (x : Tree) → e.0 ≡ t.0 → Is (sort_in s e.1) t.1 → Proper (value.String e.0) → Match es ts → Is (sort_in s type) x → Proper (value.String name)
      → Match (insert_entry text_cmp es name type) (insert_entry text_cmp ts name x)
      → Match (match_ordering o ((name, type) ∷ e ∷ es) ((e.0, type) ∷ es) (e ∷ insert_entry text_cmp es name type)) (match_ordering o ((name, x) ∷ t ∷ ts) ((t.0, x) ∷ ts) (t ∷ insert_entry text_cmp ts name x))
  put_at Less e es t ts name type x same here proper rest new fresh later = (refl, new, fresh, (same, here, proper, rest))
  put_at Equal e es t ts name type x same here proper rest new fresh later = (same, new, proper, rest)
  put_at Greater e es t ts name type x same here proper rest new fresh later = (same, here, proper, later)

  put_one : (es : List (List ℕ × Ty)) (ts : List Labelled) (name : List ℕ) (type : Ty) (x : Tree) → Match es ts → Is (sort_in s type) x → Proper (value.String name) → Match (insert_entry text_cmp es name type) (insert_entry text_cmp ts name x)
  put_one [] [] name type x h new fresh = (refl, new, fresh, tt)
  put_one [] (t ∷ ts) name type x h new fresh = absurd h
  put_one (e ∷ es) [] name type x h new fresh = absurd h
  put_one (e ∷ es) (t ∷ ts) name type x h new fresh =
      subst (λ (n : List ℕ). Match (insert_entry text_cmp (e ∷ es) name type) (match_ordering (text_cmp name n) ((name, x) ∷ t ∷ ts) ((t.0, x) ∷ ts) (t ∷ insert_entry text_cmp ts name x))) h.0
      (put_at (text_cmp name e.0) e es t ts name type x h.0 h.1 h.2 h.3 new fresh (put_one es ts name type x h.3 new fresh))

  put_all : (fs : List (List ℕ × TypedExpr)) (es : List (List ℕ × Ty)) (ts : List Labelled) → AreFieldOperands fs → Match es ts → Match (fold rules.with_field es fs) (fold with_part ts (codes_in fs))
  put_all [] es ts h k = k
  put_all (f ∷ fs) es ts h k = put_all fs (rules.with_field es f) (with_part ts (f.0, code_of s env f.1)) h.1 (put_one es ts f.0 (ty f.1) (code_of s env f.1).val k h.0.0.val h.0.1)

  put_ascends : (fs : List (List ℕ × TypedExpr)) (es : List (List ℕ × Ty)) → IsStrictlySortedBy text_cmp (keys_of es) → IsStrictlySortedBy text_cmp (keys_of (fold rules.with_field es fs))
  put_ascends [] es h = h
  put_ascends (f ∷ fs) es h = put_ascends fs (rules.with_field es f) (ascending-insert_entry nat_list_cmp_total es f.0 (ty f.1) h)

  -- the sorts of required fields
  abbrev sorts_of : List (List ℕ × Ty) → SortFields
  sorts_of es = map (λ (e : List ℕ × Ty). (e.0, sort_in s e.1)) es

  required_sorts : (es : List (List ℕ × Ty)) → fields_sorts s (map (λ (f : List ℕ × Ty). (f.0, Required, f.1)) es) ≡ sorts_of es
  required_sorts [] = refl
  required_sorts (e ∷ es) = ap (λ (fs : SortFields). (e.0, sort_in s e.1) ∷ fs) (required_sorts es)

  same_keys : (es : List (List ℕ × Ty)) → keys_of es ≡ keys_of (sorts_of es)
  same_keys [] = refl
  same_keys (e ∷ es) = ap (λ (ns : List (List ℕ)). e.0 ∷ ns) (same_keys es)

  names_proper : (es : List (List ℕ × Ty)) (ts : List Labelled) → Match es ts → AllByRecursion (λ (n : List ℕ). Proper (value.String n)) (keys_of (sorts_of es))
  names_proper [] ts h = tt
  names_proper (e ∷ es) [] h = absurd h
  names_proper (e ∷ es) (t ∷ ts) h = (h.2, names_proper es ts h.3)

  fields_are : (es : List (List ℕ × Ty)) (ts : List Labelled) → Match es ts → AreFields Is (sorts_of es) ts
  fields_are [] [] h = tt
  fields_are [] (t ∷ ts) h = absurd h
  fields_are (e ∷ es) [] h = absurd h
  fields_are (e ∷ es) (t ∷ ts) h = (h.0, h.1, no_option s e.1, fields_are es ts h.3)

  record_kept : (fs : List (List ℕ × TypedExpr)) → AreFieldOperands fs → AreTerms (sort_in s (record_type fs)) (record_code (codes_in fs))
  record_kept fs h =
      let es = fold rules.with_field [] fs in
      let m = put_all fs [] [] h tt in
      let ascending = subst (IsStrictlySortedBy text_cmp) (same_keys es) (put_ascends fs [] (no_pair_ascends {V = Ty} text_cmp [] refl)) in
      let own : sort_in s (record_type fs) ≡ sort.Record (sorts_of es) = rolled_sort s (record_type fs) _ (type_rolls-Record _) ∙ ap sort.Record (required_sorts es) in
      moved (sort.Record (sorts_of es)) _ _ (sym own) (record {
        ok = kept.all _ (field_oks fs h);
        val = kept.fields (sorts_of es) (in_order (codes_in fs)) ascending (names_proper es _ m) (fields_are es _ m);
      })

  -- ---- all constructs

  -- what typing gives, and what it is compiled to
  abbrev pub AreOf : Typed → Type 0
  AreOf u = OperandOf u.expr (code_of s env u.expr)

  -- a construct of a type, at what typing makes of it
  row : (u v : Typed) (type : Ty) (c : Code) → u ≡ v → code_of s env v.expr ≡ c → type_of v.expr ≡ Some type → AreTerms (sort_in s type) c → AreOf u
  row u v type c is code typed h =
      subst AreOf (sym is)
      (subst (λ (q : Ty). AreTerms (sort_in s q) (code_of s env v.expr)) (sym (ap (λ (o : Option Ty). unwrap_or o types.Bool) typed)) (subst (AreTerms (sort_in s type)) (sym code) h))

  -- at a Boolean type
  truth_row : (u v : Typed) (type : Ty) (c : Code) → u ≡ v → code_of s env v.expr ≡ c → type_of v.expr ≡ Some type → is_boolean type ≡ true → AreTerms sort.Bool c → AreOf u
  truth_row u v type c is code typed b h = row u v type c is code typed (moved sort.Bool (sort_in s type) c (sym (boolean_sort s type b)) h)

  -- an operand of a Boolean type
  boolean_of : (u : Typed) → is_boolean (ty u.expr) ≡ true → AreOf u → AreTerms sort.Bool (code_of s env u.expr)
  boolean_of u b h = moved _ sort.Bool _ (boolean_sort s (ty u.expr) b) h

  entity_of : (u : Typed) (n : List ℕ) → entity_name (ty u.expr) ≡ Some n → AreOf u → AreTerms (entity_sort s n) (code_of s env u.expr)
  entity_of u n e h = moved _ (entity_sort s n) _ (entity_type_sort s (ty u.expr) n e) h

  -- what is written in the parts
  abbrev Us : Expr → Type 0
  Us x = AllByRecursion Named (expr_uids x)

  abbrev Cs : Expr → Type 0
  Cs x = AllByRecursion Proper (constants x)

  uids_at : (z x : Expr) (y : Expr-F Expr) → z ≡ x → roll-Expr y ≡ x → Us z → AllByRecursion Named (uids_step (map-Expr Expr (List Uid) expr_uids y))
  uids_at z x y at rolls h = subst (AllByRecursion Named) (ap expr_uids at ∙ uids_of x y rolls) h

  constants_at : (z x : Expr) (y : Expr-F Expr) → z ≡ x → roll-Expr y ≡ x → Cs z → AllByRecursion Proper (constants_step (map-Expr Expr (List Value) constants y))
  constants_at z x y at rolls h = subst (AllByRecursion Proper) (ap constants at ∙ constants_of x y rolls) h

  two_uids : (a b : Expr) → AllByRecursion Named (expr_uids a ++ expr_uids b) → Us a × Us b
  two_uids a b h = split Named (expr_uids a) (expr_uids b) h

  two_constants : (a b : Expr) → AllByRecursion Proper (constants a ++ constants b) → Cs a × Cs b
  two_constants a b h = split Proper (constants a) (constants b) h

  boolean_true : (type : Ty) → is_true type ≡ true → is_boolean type ≡ true
  boolean_true type h = at (out-Ty type) h
    where
      at : (y : Ty-F Ty) → is_true_in y ≡ true → is_boolean_in y ≡ true
      at t.True h = refl
      at y h = absurd cc

  boolean_false : (type : Ty) → is_false type ≡ true → is_boolean type ≡ true
  boolean_false type h = at (out-Ty type) h
    where
      at : (y : Ty-F Ty) → is_false_in y ≡ true → is_boolean_in y ≡ true
      at t.False h = refl
      at y h = absurd cc

  -- the literal that an operand is
  literal_operand : (law : LiteralLaw) (a : Expr) (known : Capabilities) (x : Typed) → Derives s env a known x → (l : Literal) → literal_of a ≡ Some l → (p : Place) × (x.expr ≡ literal_typed s p l)
  literal_operand law a known x d l e = (expr_place a, ap (λ (v : Typed). v.expr) (law s env a known x l e d))

  module _ (law : LiteralLaw) where
    mutual
      -- a typed expression whose uids are named and whose constants are proper
      pub terms_of : {z : Expr} {known : Capabilities} {u : Typed} → Derives s env z known u → Us z → Cs z → AreOf u
      terms_of (of_if_true z known u p c a b x y at r f q is) uids consts =
          let us = split Named (expr_uids c) (expr_uids a ++ expr_uids b) (uids_at z _ (e.If p c a b) at (rolls-If p c a b) uids) in
          let cs = split Proper (constants c) (constants a ++ constants b) (constants_at z _ (e.If p c a b) at (rolls-If p c a b) consts) in
          row u _ (ty y.expr) _ is (coded.code_If s env p _ x.expr y.expr (typed.Skipped b) ∙ choice_true (coded.seen_in s env x.expr) (coded.seen_in s env y.expr) (coded.seen_in s env (typed.Skipped b)) f) (type_of_If p _ x.expr y.expr (typed.Skipped b))
          (branch_is _ _ _ _ (terms_of r us.0 cs.0) (terms_of q (two_uids a b us.1).0 (two_constants a b cs.1).0))
      terms_of (of_if_false z known u p c a b x y at r f g q is) uids consts =
          let us = split Named (expr_uids c) (expr_uids a ++ expr_uids b) (uids_at z _ (e.If p c a b) at (rolls-If p c a b) uids) in
          let cs = split Proper (constants c) (constants a ++ constants b) (constants_at z _ (e.If p c a b) at (rolls-If p c a b) consts) in
          row u _ (ty y.expr) _ is (coded.code_If s env p _ x.expr (typed.Skipped a) y.expr ∙ choice_false (coded.seen_in s env x.expr) (coded.seen_in s env (typed.Skipped a)) (coded.seen_in s env y.expr) f g) (type_of_If p _ x.expr (typed.Skipped a) y.expr)
          (branch_is _ _ _ _ (terms_of r us.0 cs.0) (terms_of q (two_uids a b us.1).1 (two_constants a b cs.1).1))
      terms_of (of_if z known u p c a b x y v type at r f g q l m j is) uids consts =
          let us = split Named (expr_uids c) (expr_uids a ++ expr_uids b) (uids_at z _ (e.If p c a b) at (rolls-If p c a b) uids) in
          let cs = split Proper (constants c) (constants a ++ constants b) (constants_at z _ (e.If p c a b) at (rolls-If p c a b) consts) in
          let js = joined_sorts s (ty y.expr) (ty v.expr) type j in
          row u _ type _ is (coded.code_If s env p type x.expr y.expr v.expr ∙ choice_open (coded.seen_in s env x.expr) (coded.seen_in s env y.expr) (coded.seen_in s env v.expr) f g) (type_of_If p type x.expr y.expr v.expr)
          (choice_is (sort_in s type) _ _ _ (boolean_of x m (terms_of r us.0 cs.0)) (moved _ _ _ js.0 (terms_of q (two_uids a b us.1).0 (two_constants a b cs.1).0)) (moved _ _ _ js.1 (terms_of l (two_uids a b us.1).1 (two_constants a b cs.1).1)))
      terms_of (of_or_true z known u p a b x at r f is) uids consts =
          let us = two_uids a b (uids_at z _ (e.Or p a b) at (rolls-Or p a b) uids) in
          let cs = two_constants a b (constants_at z _ (e.Or p a b) at (rolls-Or p a b) consts) in
          truth_row u _ types.True _ is (coded.code_Or s env p types.True x.expr (typed.Skipped b) ∙ either_true (coded.seen_in s env x.expr) (coded.seen_in s env (typed.Skipped b)) f) (type_of_Or p types.True x.expr (typed.Skipped b)) boolean_True
          (boolean_of x (boolean_true (ty x.expr) f) (terms_of r us.0 cs.0))
      terms_of (of_or z known u p a b x y at r f q c d is) uids consts =
          let us = two_uids a b (uids_at z _ (e.Or p a b) at (rolls-Or p a b) uids) in
          let cs = two_constants a b (constants_at z _ (e.Or p a b) at (rolls-Or p a b) consts) in
          truth_row u _ (or_type x.expr y.expr) _ is (coded.code_Or s env p _ x.expr y.expr ∙ either_open (coded.seen_in s env x.expr) (coded.seen_in s env y.expr) f) (type_of_Or p (or_type x.expr y.expr) x.expr y.expr) (or_boolean x.expr y.expr d)
          (or_is _ _ (boolean_of x c (terms_of r us.0 cs.0)) (boolean_of y d (terms_of q us.1 cs.1)))
      terms_of (of_and_false z known u p a b x at r f is) uids consts =
          let us = two_uids a b (uids_at z _ (e.And p a b) at (rolls-And p a b) uids) in
          let cs = two_constants a b (constants_at z _ (e.And p a b) at (rolls-And p a b) consts) in
          truth_row u _ types.False _ is (coded.code_And s env p types.False x.expr (typed.Skipped b) ∙ both_false (coded.seen_in s env x.expr) (coded.seen_in s env (typed.Skipped b)) f) (type_of_And p types.False x.expr (typed.Skipped b)) boolean_False
          (boolean_of x (boolean_false (ty x.expr) f) (terms_of r us.0 cs.0))
      terms_of (of_and z known u p a b x y at r f q c d is) uids consts =
          let us = two_uids a b (uids_at z _ (e.And p a b) at (rolls-And p a b) uids) in
          let cs = two_constants a b (constants_at z _ (e.And p a b) at (rolls-And p a b) consts) in
          truth_row u _ (and_type x.expr y.expr) _ is (coded.code_And s env p _ x.expr y.expr ∙ both_open (coded.seen_in s env x.expr) (coded.seen_in s env y.expr) f) (type_of_And p (and_type x.expr y.expr) x.expr y.expr) (and_boolean x.expr y.expr c)
          (and_is _ _ (boolean_of x c (terms_of r us.0 cs.0)) (boolean_of y d (terms_of q us.1 cs.1)))
      terms_of (of_binary z known u p o a b x y type at r q i is) uids consts =
          let us = two_uids a b (uids_at z _ (e.Binary p o a b) at (rolls-Binary p o a b) uids) in
          let cs = two_constants a b (constants_at z _ (e.Binary p o a b) at (rolls-Binary p o a b) consts) in
          row u _ type _ is (coded.code_Binary s env p type o x.expr y.expr) (type_of_Binary p type o x.expr y.expr)
          (operation_kept x.expr y.expr _ _ (terms_of r us.0 cs.0) (terms_of q us.1 cs.1) known a b o type i)
      terms_of (of_in_decided z known u p a b x is_in at r d is) uids consts =
          truth_row u _ (truth is_in) _ is (coded.code_Binary s env p (truth is_in) operator.In x.expr (leaves s b)) (type_of_Binary p (truth is_in) operator.In x.expr (leaves s b)) (truth_boolean is_in)
          (decided_is (truth is_in) x.expr (leaves s b) _ _ (decided_told s law env a b known x is_in d r))
      terms_of (of_in z known u p a b x y n m at r d q f g is) uids consts =
          let us = two_uids a b (uids_at z _ (e.Binary p operator.In a b) at (rolls-Binary p operator.In a b) uids) in
          let cs = two_constants a b (constants_at z _ (e.Binary p operator.In a b) at (rolls-Binary p operator.In a b) consts) in
          truth_row u _ (in_type s n m) _ is (coded.code_Binary s env p (in_type s n m) operator.In x.expr y.expr) (type_of_Binary p (in_type s n m) operator.In x.expr y.expr) (in_boolean s n m)
          (in_is n m (in_type s n m) x.expr y.expr _ _ f g (entity_of x n f (terms_of r us.0 cs.0)) (terms_of q us.1 cs.1))
      terms_of (of_has z known u p a names x r at d f is) uids consts =
          let us = uids_at z _ (e.Has p a names) at (rolls-Has p a names) uids in
          let cs = constants_at z _ (e.Has p a names) at (rolls-Has p a names) consts in
          truth_row u _ r.found _ is (coded.code_Has s env p r.found x.expr r.steps r.skipped) (type_of_Has p r.found x.expr r.steps r.skipped) (found_boolean s p known names (subject a x.expr) no_names r boolean_True f)
          (path_kept (along_is s p known names (subject a x.expr) r f) _ (terms_of d us cs))
      terms_of (of_like z known u p a pattern x at r c is) uids consts =
          let us = uids_at z _ (e.Like p a pattern) at (rolls-Like p a pattern) uids in
          let cs = constants_at z _ (e.Like p a pattern) at (rolls-Like p a pattern) consts in
          let h = moved _ sort.String _ (string_sort s (ty x.expr) c) (terms_of r us cs) in
          truth_row u _ types.Bool _ is (coded.code_Like s env p types.Bool x.expr pattern) (type_of_Like p types.Bool x.expr pattern) boolean_Bool (after_is sort.String sort.Bool _ _ h (kept.like pattern _ h.val))
      terms_of (of_is z known u p a n x m at r f is) uids consts =
          let us = uids_at z _ (e.Is p a n) at (rolls-Is p a n) uids in
          let cs = constants_at z _ (e.Is p a n) at (rolls-Is p a n) consts in
          truth_row u _ (truth (bytes_eq m n.name)) _ is (coded.code_Is s env p (truth (bytes_eq m n.name)) x.expr n) (type_of_Is p (truth (bytes_eq m n.name)) x.expr n) (truth_boolean (bytes_eq m n.name))
          (after_is _ sort.Bool _ _ (terms_of r us cs) (kept.truth _))
      terms_of (of_is_in_other z known u p q a b n x m at r f g is) uids consts =
          let us = two_uids a b (uids_at z _ (e.IsIn p a n q b) at (rolls-IsIn p a n q b) uids) in
          let cs = two_constants a b (constants_at z _ (e.IsIn p a n q b) at (rolls-IsIn p a n q b) consts) in
          truth_row u _ types.False _ is (coded.code_IsIn s env p types.False x.expr n q (typed.Skipped b) ∙ not_named s _ n x.expr (typed.Skipped b) _ _ (ap (is_of_type n.name) f ∙ g)) (type_of_IsIn p types.False x.expr n q (typed.Skipped b)) boolean_False
          (after_is _ sort.Bool _ _ (terms_of r us.0 cs.0) (kept.truth false))
      terms_of (of_is_in_decided z known u p q a b n x m is_in at r f g d is) uids consts =
          let us = two_uids a b (uids_at z _ (e.IsIn p a n q b) at (rolls-IsIn p a n q b) uids) in
          let cs = two_constants a b (constants_at z _ (e.IsIn p a n q b) at (rolls-IsIn p a n q b) consts) in
          truth_row u _ (truth is_in) _ is (coded.code_IsIn s env p (truth is_in) x.expr n q (leaves s b) ∙ of_name s _ n x.expr (leaves s b) _ _ (ap (is_of_type n.name) f ∙ g)) (type_of_IsIn p (truth is_in) x.expr n q (leaves s b)) (truth_boolean is_in)
          (and_is _ _ (after_is _ sort.Bool _ _ (terms_of r us.0 cs.0) (kept.truth true)) (decided_is (truth is_in) x.expr (leaves s b) _ _ (decided_told s law env a b known x is_in d r)))
      terms_of (of_is_in z known u p q a b n x y m k at r f g d i j is) uids consts =
          let us = two_uids a b (uids_at z _ (e.IsIn p a n q b) at (rolls-IsIn p a n q b) uids) in
          let cs = two_constants a b (constants_at z _ (e.IsIn p a n q b) at (rolls-IsIn p a n q b) consts) in
          let h = terms_of r us.0 cs.0 in
          truth_row u _ (in_type s m k) _ is (coded.code_IsIn s env p (in_type s m k) x.expr n q y.expr ∙ of_name s _ n x.expr y.expr _ _ (ap (is_of_type n.name) f ∙ g)) (type_of_IsIn p (in_type s m k) x.expr n q y.expr) (in_boolean s m k)
          (and_is _ _ (after_is _ sort.Bool _ _ h (kept.truth true)) (in_is m k (in_type s m k) x.expr y.expr _ _ f j (entity_of x m f h) (terms_of i us.1 cs.1)))
      terms_of (of_unary z known u p o a x type at r i is) uids consts =
          let us = uids_at z _ (e.Unary p o a) at (rolls-Unary p o a) uids in
          let cs = constants_at z _ (e.Unary p o a) at (rolls-Unary p o a) consts in
          row u _ type _ is (coded.code_Unary s env p type o x.expr) (type_of_Unary p type o x.expr) (application_kept a x.expr _ (terms_of r us cs) (literal_operand law a known x r) o type i)
      terms_of (of_access z known u p a name x fields f at r d g h is) uids consts =
          let us = uids_at z _ (e.Access p a name) at (rolls-Access p a name) uids in
          let cs = constants_at z _ (e.Access p a name) at (rolls-Access p a name) consts in
          row u _ f.2 _ is (coded.code_Access s env p f.2 x.expr name) (type_of_Access p f.2 x.expr name) (access_is (ty x.expr) name f _ fields d g (terms_of r us cs))
      terms_of (of_literal z known u p l at is) uids consts =
          row u _ (literal_type s l) _ is (coded.code_Literal s env p (literal_type s l) l) (type_of_Literal p (literal_type s l) l)
          (always_is _ _ (literal_kept l (uids_at z _ (e.Literal p l) at (rolls-Literal p l) uids) (constants_at z _ (e.Literal p l) at (rolls-Literal p l) consts).0))
      terms_of (of_variable z known u p v at is) uids consts =
          row u _ (variable_type s env v) _ is (coded.code_Variable s env p (variable_type s env v) v) (type_of_Variable p (variable_type s env v) v) (always_is _ _ (variable_kept v))
      terms_of (of_set z known u p members xs type at r f is) uids consts =
          row u _ (types.Set type) _ is (coded.code_Set s env p (types.Set type) xs) (type_of_Set p (types.Set type) xs)
          (moved _ _ _ (sym (rolled_sort s (types.Set type) (t.Set type) (type_rolls-Set type)))
          (set_kept p type xs f (all_terms r (uids_at z _ (e.Set p members) at (rolls-Set p members) uids) (constants_at z _ (e.Set p members) at (rolls-Set p members) consts))))
      terms_of (of_record z known u p fields xs at r is) uids consts =
          row u _ (record_type xs) _ is (coded.code_Record s env p (record_type xs) xs) (type_of_Record p (record_type xs) xs)
          (record_kept xs (field_terms r (uids_at z _ (e.Record p fields) at (rolls-Record p fields) uids) (constants_at z _ (e.Record p fields) at (rolls-Record p fields) consts)))

      all_terms : {zs : List Expr} {known : Capabilities} {us : List TypedExpr} → DeriveAll s env zs known us → AllByRecursion Named (flat_map (λ (us : List Uid). us) (map expr_uids zs))
          → AllByRecursion Proper (flat_map (λ (m : List Value). m) (map constants zs)) → AreOperands us
      all_terms (no_member known) uids consts = tt
      all_terms (with_member known z zs u us d rest) uids consts =
          let p = split Named (expr_uids z) _ uids in
          let q = split Proper (constants z) _ consts in
          (terms_of d p.0 q.0, all_terms rest p.1 q.1)

      field_terms : {zs : List (List ℕ × Expr)} {known : Capabilities} {us : List (List ℕ × TypedExpr)} → DeriveFields s env zs known us
          → AllByRecursion Named (flat_map (λ (f : List ℕ × List Uid). f.1) (map (λ (f : List ℕ × Expr). (f.0, expr_uids f.1)) zs))
          → AllByRecursion Proper (flat_map (λ (f : List ℕ × List Value). value.String f.0 ∷ f.1) (map (λ (f : List ℕ × Expr). (f.0, constants f.1)) zs)) → AreFieldOperands us
      field_terms (no_field known) uids consts = tt
      field_terms (with_field known name z zs u us d rest) uids consts =
          let p = split Named (expr_uids z) _ uids in
          let q = split Proper (constants z) _ consts.1 in
          ((terms_of d p.0 q.0, consts.0), field_terms rest p.1 q.1)
