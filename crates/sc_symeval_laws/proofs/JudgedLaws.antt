-- What an expression is compiled to are terms.
use Rattle.std.proofs.Common.{◌≡◌, ◌⊎◌, inl, inr, ℕ, ℤ, pos, List, [], ◌∷◌, map, Bool, true, false, cond, if◌then◌else◌, is_some, All, Option, Some, option_map, unwrap_or, Ok, Contains, IsTrue, FitsSigned, arith, refl, ap, sym, subst, ◌∙◌}
use Rattle.std.specs.Int.{w64}
use Rattle.std.specs.List.{AllByRecursion}
use Rattle.std.specs.List.Sorted.{IsStrictlySortedBy}
use Rattle.std.specs.Map.{lookup, keys_of}
use Rattle.std.specs.Str.{bytes_eq, IsUtf8}
use Rattle.sc_lists.proofs.ListLaws.{all_element, all_weaker, contains_map, contains_from_map, joined_from}
use Rattle.sc_ast.specs.declared.expr.Expr.{Expr}
use Rattle.sc_ast.specs.declared.policy.Policy.{Policy}
use Rattle.sc_ast.specs.Conditions.{condition}
use Rattle.sc_ast.specs.Literals.{expr_uids, policy_uids}
use Rattle.sc_eval.specs.Written.{constants, HasProperConstants}
use Rattle.sc_ip.specs.declared.ip.Ip.{Ip}
use Rattle.sc_ip.specs.Addresses.{IsIp}
use Rattle.sc_ip.specs.IpValue.{ip_of}
use Rattle.sc_laws.proofs.BoolLaws.{and_first}
use Rattle.sc_names.specs.declared.uid.Uid.{Uid}
use Rattle.sc_names.specs.Uids.{text_cmp}
use Rattle.sc_pattern.specs.declared.part.Part.{Part}
use Rattle.sc_schema.specs.declared.declarations.Action.{Action}
use Rattle.sc_schema.specs.declared.declarations.Env.{Env}
use Rattle.sc_schema.specs.declared.ty.Ty.{Ty}
use Rattle.sc_schema.specs.declared.ty.Ty.TheVariants as types
use Rattle.sc_schema.specs.Declarations.{Declarations, action, action_uids, context_of, is_action_type, entity_type, declared_choices, environment, environments_for, environments}
use Rattle.sc_schema.specs.Lawful.{IsLawful, IsEntityType}
use Rattle.sc_schema.proofs.LookupLaws.{action_found}
use Rattle.sc_sorts.specs.declared.sort.Sort.{Sort}
use Rattle.sc_sorts.specs.declared.sort.Sort.TheVariants as sort
use Rattle.sc_sorts.specs.Defaults.{is_option}
use Rattle.sc_sorts.specs.Entities.{choices_of, IsListed, entity_sort}
use Rattle.sc_sorts.specs.Inside.{SortFields}
use Rattle.sc_sorts.specs.OfTypes.{sort_of}
use Rattle.sc_sorts.proofs.EveryLaws.{in_Bool, in_Long, in_String, in_Decimal, in_Ip, in_Entity, in_Set, in_Option, in_Record}
use Rattle.sc_values.specs.declared.value.Value.TheVariants as value
use Rattle.sc_values.specs.Proper.{IsProperLevel, IsProper}
use Rattle.sc_values.proofs.EveryLaws.{every_Entity, every_level}
use Rattle.sc_values.proofs.OutLaws.{out_Long, out_String}
use Rattle.sc_sorts.specs.declared.node.Leaf.TheVariants as leafs
use Rattle.sc_typed.specs.declared.outcome.Typed.{Typed}
use Rattle.sc_typed.specs.Capabilities.{Capabilities}
use Rattle.sc_typed.specs.Outcomes.{ty}
use Rattle.sc_typing.specs.Names.{is_known, has_choice}
use Rattle.sc_typing.specs.Typing.{typing}
use Rattle.sc_soundness_laws.proofs.ActingLaws.{acting-uids}
use Rattle.sc_soundness_laws.proofs.ConditionLaws.{condition-uids}
use Rattle.sc_terms.specs.Trees.{Tree, Labelled, leaf, no_part, part, parts_of}
use Rattle.sc_terms.specs.Folds.{not_term, and_term, or_term, choice_term, equal_term, field_term, present_term, held_term, bit_term, like_term, without_label}
use Rattle.sc_terms.specs.Joined.{all_of}
use Rattle.sc_term_laws.specs.Judging.{IsTermOf, HasPlace, HaveSort, HaveFields}
use Rattle.sc_term_laws.specs.Judging as judged
use Rattle.sc_term_laws.specs.LawfulSorts.{AreNames, IsDeclared, IsSortLevel, IsSortOf, IsHeldSort}
use Rattle.sc_term_laws.proofs.ChoicesLaws.{action_listed}
use Rattle.sc_term_laws.proofs.JudgingLaws.{sort_is}
use Rattle.sc_term_laws.proofs.SortsLawful.{lawful_action, declared_action, above_declared, attrs_lawful, tags_lawful, context_lawful, type_lawful}
use Rattle.sc_constructs.specs.Objects.{context_sort}
use Rattle.sc_constructs.specs.Code.{Code}
use Rattle.sc_symeval.specs.Codes.{code_of}
use Rattle.sc_symeval.specs.Compiling.{policy_code}
use Rattle.sc_symeval_laws.specs.TypeSorts.{sort_in}
use Rattle.sc_symeval_laws.specs.Written.{IsSetting, IsWritten, IsWrittenExpr}
use Rattle.sc_symeval_laws.proofs.ActingConstants.{acting-constants}
use Rattle.sc_symeval_laws.proofs.DecidedLaws.{LiteralLaw}
use Rattle.sc_symeval_laws.proofs.ExpressionLaws.{Derived, derivation_of}
use Rattle.sc_symeval_laws.proofs.KeptLaws.{Keeps, terms_of}
use Rattle.sc_symeval_laws.proofs.PolicyLaws.{typed_as}
use Rattle.sc_symeval_laws.proofs.SortedLaws.{AreFields, string_plain, entity_plain}
use Rattle.sc_symeval_laws.proofs.TypeSortLaws.{boolean_sort}

-- what constructors that fold make of terms are terms, and the addresses that texts spell are addresses
pub record Made : Type 0 where
  pub negation : (s : Declarations) (env : Env) (written : List Uid) (a : Tree) → IsTermOf s env written sort.Bool a → IsTermOf s env written sort.Bool (not_term a)
  pub both : (s : Declarations) (env : Env) (written : List Uid) (a b : Tree) → IsTermOf s env written sort.Bool a → IsTermOf s env written sort.Bool b → IsTermOf s env written sort.Bool (and_term a b)
  pub either : (s : Declarations) (env : Env) (written : List Uid) (a b : Tree) → IsTermOf s env written sort.Bool a → IsTermOf s env written sort.Bool b → IsTermOf s env written sort.Bool (or_term a b)
  pub chosen : (s : Declarations) (env : Env) (written : List Uid) (k : Sort) (c a b : Tree) → IsTermOf s env written sort.Bool c → IsTermOf s env written k a → IsTermOf s env written k b → IsTermOf s env written k (choice_term c a b)
  pub equation : (s : Declarations) (env : Env) (written : List Uid) (k : Sort) (a b : Tree) → IsTermOf s env written k a → IsTermOf s env written k b → IsTermOf s env written sort.Bool (equal_term a b)
  pub component : (s : Declarations) (env : Env) (written : List Uid) (fs : SortFields) (name : List ℕ) (k : Sort) (a : Tree) → IsTermOf s env written (sort.Record fs) a → lookup (bytes_eq name) fs ≡ Some k → IsTermOf s env written k (field_term name a)
  pub present : (s : Declarations) (env : Env) (written : List Uid) (k : Sort) (a : Tree) → IsTermOf s env written (sort.Option k) a → IsTermOf s env written sort.Bool (present_term a)
  pub held : (s : Declarations) (env : Env) (written : List Uid) (k : Sort) (a : Tree) → IsTermOf s env written (sort.Option k) a → IsTermOf s env written k (held_term a)
  pub bit : (s : Declarations) (env : Env) (written : List Uid) (k : Sort) (i : ℕ) (a : Tree) → HasPlace k i → IsTermOf s env written k a → IsTermOf s env written sort.Bool (bit_term a i)
  pub like : (s : Declarations) (env : Env) (written : List Uid) (p : List Part) (a : Tree) → IsTermOf s env written sort.String a → IsTermOf s env written sort.Bool (like_term a p)
  pub all : (s : Declarations) (env : Env) (written : List Uid) (ts : List Tree) → All (IsTermOf s env written sort.Bool) ts → IsTermOf s env written sort.Bool (all_of ts)
  pub address : (text : List ℕ) (ip : Ip) → ip_of text ≡ Some ip → IsIp ip

-- a uid that policies write, or a declared action
abbrev pub IsNamed : Declarations → List Uid → Uid → Type 0
IsNamed s written u = Contains written u ⊎ Contains (action_uids s) u

-- ---- environments

-- what an environment of a schema is of
pub record IsEnvironment (s : Declarations) (env : Env) : Type 0 where
  pub of_action : Action
  pub among : Contains s.actions of_action
  pub action : of_action.uid ≡ env.action
  pub principal : IsEntityType s env.principal
  pub resource : IsEntityType s env.resource

environment_of : (s : Declarations) (env : Env) → IsLawful s → Contains (environments s) env → IsEnvironment s env
environment_of s env lawful has =
    let a = joined_from environments_for s.actions env has in
    let p = joined_from (λ n. map (environment a.0 n) a.0.resources) a.0.principals env a.2 in
    let r = contains_from_map (environment a.0 p.0) a.0.resources env p.2 in
    let law = lawful_action s lawful a.0 a.1 in
    record {
      of_action = a.0;
      among = a.1;
      action = ap (λ (e : Env). e.action) r.2;
      principal = subst (IsEntityType s) (ap (λ (e : Env). e.principal) r.2) (all_element (IsEntityType s) a.0.principals p.0 law.principal_types.declared p.1);
      resource = subst (IsEntityType s) (ap (λ (e : Env). e.resource) r.2) (all_element (IsEntityType s) a.0.resources r.0 law.resource_types.declared r.1);
    }

module _ (made : Made) (s : Declarations) (env : Env) (written : List Uid) (setting : IsSetting s env written) where
  abbrev lawful : IsLawful s
  lawful = setting.lawful

  place : IsEnvironment s env
  place = environment_of s env setting.lawful setting.environment

  -- a term of a sort of the schema
  record IsJudged (k : Sort) (t : Tree) : Type 0 where
    term : IsTermOf s env written k t
    lawful_sort : IsSortOf s k

  -- ---- sorts

  bool_sort : IsSortOf s sort.Bool
  bool_sort = (in_Bool (IsSortLevel s)).1 tt

  long_sort : IsSortOf s sort.Long
  long_sort = (in_Long (IsSortLevel s)).1 tt

  string_sort : IsSortOf s sort.String
  string_sort = (in_String (IsSortLevel s)).1 tt

  decimal_sort : IsSortOf s sort.Decimal
  decimal_sort = (in_Decimal (IsSortLevel s)).1 tt

  ip_sort : IsSortOf s sort.Ip
  ip_sort = (in_Ip (IsSortLevel s)).1 tt

  entity_lawful : (name : List ℕ) → IsDeclared s name → IsSortOf s (entity_sort s name)
  entity_lawful name h = (in_Entity (IsSortLevel s) name (choices_of s name)).1 (h, refl)

  set_lawful : (k : Sort) → is_option k ≡ false → IsSortOf s k → IsSortOf s (sort.Set k)
  set_lawful k plain h = (in_Set (IsSortLevel s) k).1 (plain, h)

  set_inside : (k : Sort) → IsSortOf s (sort.Set k) → IsHeldSort s k
  set_inside k h = (in_Set (IsSortLevel s) k).0 h

  option_inside : (k : Sort) → IsSortOf s (sort.Option k) → IsSortOf s k
  option_inside k h = ((in_Option (IsSortLevel s) k).0 h).1

  found_lawful : (fs : SortFields) (name : List ℕ) (k : Sort) → AllByRecursion (λ (f : List ℕ × Sort). IsSortOf s f.1) fs → lookup (bytes_eq name) fs ≡ Some k → IsSortOf s k
  found_lawful [] name k h e = absurd cc
  found_lawful (f ∷ fs) name k h e = by (bytes_eq name f.0) (lookup (bytes_eq name) fs) e (found_lawful fs name k h.1)
    where
      by : (b : Bool) (later : Option Sort) → cond b (Some f.1) later ≡ Some k → (later ≡ Some k → IsSortOf s k) → IsSortOf s k
      by true later g i = let is : f.1 ≡ k = cc in subst (IsSortOf s) is h.0
      by false later g i = i g

  field_lawful : (fs : SortFields) (name : List ℕ) (k : Sort) → IsSortOf s (sort.Record fs) → lookup (bytes_eq name) fs ≡ Some k → IsSortOf s k
  field_lawful fs name k h e = found_lawful fs name k ((in_Record (IsSortLevel s) fs).0 h).1 e

  -- ---- what is written

  declared_by : (b : Bool) (u : Uid) → is_action_type s u.type_name ≡ b → IsTrue (if b then is_some (action s u) else is_some (entity_type s u.type_name)) → IsDeclared s u.type_name
  declared_by true u e h = inr e
  declared_by false u e h = inl h

  uid_declared : (u : Uid) → IsNamed s written u → IsDeclared s u.type_name
  uid_declared u (inl has) = declared_by (is_action_type s u.type_name) u refl (and_first (is_known s u) (has_choice (declared_choices s u.type_name) u.id) (setting.declared u has))
  uid_declared u (inr has) = declared_action s lawful u has

  uid_written : (u : Uid) → IsNamed s written u → Contains written u ⊎ IsListed s u
  uid_written u (inl has) = inl has
  uid_written u (inr has) = inr (action_listed s u has)

  long_proper : (n : ℤ) → IsProper (value.Long n) → FitsSigned w64 n
  long_proper n h = subst IsProperLevel (out_Long n) (every_level IsProperLevel (value.Long n) h)

  text_proper : (x : List ℕ) → IsProper (value.String x) → IsUtf8 x
  text_proper x h = subst IsProperLevel (out_String x) (every_level IsProperLevel (value.String x) h)

  action_named : Contains (action_uids s) env.action
  action_named = subst (Contains (action_uids s)) place.action (contains_map (λ (a : Action). a.uid) s.actions place.of_action place.among)

  action_proper : IsProper (value.Entity env.action)
  action_proper =
      let law = lawful_action s lawful place.of_action place.among in
      subst (λ (u : Uid). IsProper (value.Entity u)) place.action (every_Entity IsProperLevel place.of_action.uid (law.type_text, law.id_text))

  context_is : context_of s env.action ≡ Some place.of_action.context
  context_is = ap (λ (u : Uid). option_map (λ (a : Action). a.context) (action s u)) (sym place.action) ∙ ap (option_map (λ (a : Action). a.context)) (action_found s place.of_action lawful place.among)

  context_judged : IsJudged (context_sort s env) (leaf (leafs.Context (context_sort s env)))
  context_judged =
      subst (λ (o : Option Ty). IsJudged (sort_of (unwrap_or o (types.Record []))) (leaf (leafs.Context (sort_of (unwrap_or o (types.Record [])))))) (sym context_is)
      (record { term = judged.of_context place.of_action.context context_is; lawful_sort = type_lawful s lawful place.of_action.context (context_lawful s lawful env.action place.of_action.context context_is) })

  -- ---- sets and records

  abbrev Is : Sort → Tree → Type 0
  Is = IsTermOf s env written

  bools : (ts : List Tree) → All (IsJudged sort.Bool) ts → All (Is sort.Bool) ts
  bools ts h = λ i x e. (h i x e).term

  members_judged : (k : Sort) (ts : List Tree) → AllByRecursion (IsJudged k) ts → HaveSort s env written k (parts_of (map without_label ts))
  members_judged k [] h = judged.no_member k
  members_judged k (t ∷ ts) h = judged.with_member k t _ h.0.term (members_judged k ts h.1)

  fields_judged : (fs : SortFields) (ts : List Labelled) → AreFields IsJudged fs ts → HaveFields s env written fs (parts_of ts)
  fields_judged [] [] h = judged.no_field
  fields_judged [] (t ∷ ts) h = absurd h
  fields_judged (f ∷ fs) [] h = absurd h
  fields_judged (f ∷ fs) (t ∷ ts) h =
      subst (λ (n : List ℕ). HaveFields s env written (f ∷ fs) (part n t.1 (parts_of ts))) h.0 (judged.with_field f.0 f.1 fs t.1 (parts_of ts) h.1.term (fields_judged fs ts h.3))

  fields_lawful : (fs : SortFields) (ts : List Labelled) → AreFields IsJudged fs ts → AllByRecursion (λ (f : List ℕ × Sort). IsSortOf s f.1) fs
  fields_lawful [] ts h = tt
  fields_lawful (f ∷ fs) [] h = absurd h
  fields_lawful (f ∷ fs) (t ∷ ts) h = (h.1.lawful_sort, fields_lawful fs ts h.3)

  names_are : (ns : List (List ℕ)) → IsStrictlySortedBy text_cmp ns → AllByRecursion (λ (n : List ℕ). IsProper (value.String n)) ns → AreNames ns
  names_are ns ascending proper = (ascending, all_weaker (λ (n : List ℕ). IsProper (value.String n)) IsUtf8 text_proper ns proper)

  -- ---- each constructor

  judged_kept : Keeps s env IsJudged IsProper (IsNamed s written)
  judged_kept = record {
    sorted = λ k t h. sort_is s env written k t h.term;
    truth = λ b. record { term = judged.of_truth b; lawful_sort = bool_sort };
    zero = record { term = judged.of_number (pos 0) (omega arith); lawful_sort = long_sort };
    number = λ n p. record { term = judged.of_number n (long_proper n p); lawful_sort = long_sort };
    text = λ x p. record { term = judged.of_text x (text_proper x p); lawful_sort = string_sort };
    decimal_number = λ n p. record { term = judged.of_decimal_number n p; lawful_sort = decimal_sort };
    address = λ ip p. record { term = judged.of_address ip p; lawful_sort = ip_sort };
    address_text = λ text ip e. record { term = judged.of_address ip (made.address text ip e); lawful_sort = ip_sort };
    uid = λ u p. record { term = judged.of_uid u (uid_written u p); lawful_sort = entity_lawful u.type_name (uid_declared u p) };
    action = record { term = judged.of_uid env.action (inr (action_listed s env.action action_named)); lawful_sort = entity_lawful env.action.type_name (declared_action s lawful env.action action_named) };
    principal = record { term = judged.of_principal; lawful_sort = entity_lawful env.principal (inl place.principal) };
    resource = record { term = judged.of_resource; lawful_sort = entity_lawful env.resource (inl place.resource) };
    context = context_judged;
    negation = λ a h. record { term = made.negation s env written a h.term; lawful_sort = bool_sort };
    both = λ a b h g. record { term = made.both s env written a b h.term g.term; lawful_sort = bool_sort };
    either = λ a b h g. record { term = made.either s env written a b h.term g.term; lawful_sort = bool_sort };
    chosen = λ k c a b h g f. record { term = made.chosen s env written k c a b h.term g.term f.term; lawful_sort = g.lawful_sort };
    equation = λ k a b plain h g. record { term = made.equation s env written k a b h.term g.term; lawful_sort = bool_sort };
    component = λ fs name k a h e. record { term = made.component s env written fs name k a h.term e; lawful_sort = field_lawful fs name k h.lawful_sort e };
    present = λ k a h. record { term = made.present s env written k a h.term; lawful_sort = bool_sort };
    held = λ k a plain h. record { term = made.held s env written k a h.term; lawful_sort = option_inside k h.lawful_sort };
    bit = λ k i a p h. record { term = made.bit s env written k i a p h.term; lawful_sort = bool_sort };
    like = λ p a h. record { term = made.like s env written p a h.term; lawful_sort = bool_sort };
    all = λ ts h. record { term = made.all s env written ts (bools ts h); lawful_sort = bool_sort };
    less = λ k a b n h g. record { term = judged.of_less k a b n h.term g.term; lawful_sort = bool_sort };
    arithmetic = λ o a b i h g. record { term = judged.of_arithmetic o a b i h.term g.term; lawful_sort = long_sort };
    overflow = λ o a b i h g. record { term = judged.of_overflow o a b i h.term g.term; lawful_sort = bool_sort };
    in_range = λ a b h g. record { term = judged.of_in_range a b h.term g.term; lawful_sort = bool_sort };
    attributes = λ name type a e h. record { term = judged.of_attributes name type a e h.term; lawful_sort = type_lawful s lawful type (attrs_lawful s lawful name type e) };
    ancestors = λ name u names a e c h. record {
      term = judged.of_ancestors name u names a e c h.term;
      lawful_sort = set_lawful (entity_sort s u) (entity_plain u (choices_of s u)) (entity_lawful u (above_declared s lawful name u names e c));
    };
    keys = λ name type a e h. record { term = judged.of_keys name type a e h.term; lawful_sort = set_lawful sort.String string_plain string_sort };
    tag = λ name type a k e h g. record { term = judged.of_tag name type a k e h.term g.term; lawful_sort = type_lawful s lawful type (tags_lawful s lawful name type e) };
    fields = λ fs ts ascending proper h. record {
      term = judged.of_record fs (parts_of ts) (names_are (keys_of fs) ascending proper) (fields_judged fs ts h);
      lawful_sort = (in_Record (IsSortLevel s) fs).1 (names_are (keys_of fs) ascending proper, fields_lawful fs ts h);
    };
    members = λ k t ts plain h. record {
      term = judged.of_set k _ (plain, h.0.lawful_sort) (members_judged k (t ∷ ts) h);
      lawful_sort = set_lawful k plain h.0.lawful_sort;
    };
    nothing = λ k a h. record { term = judged.of_set k no_part (set_inside k h.lawful_sort) (judged.no_member k); lawful_sort = h.lawful_sort };
    member = λ k x a h g. record { term = judged.of_member k x a h.term g.term; lawful_sort = bool_sort };
    sets = λ o k a b i h g. record { term = judged.of_sets o k a b i h.term g.term; lawful_sort = bool_sort };
  }

  -- a typed expression whose uids are named and whose constants are proper
  abbrev AreTermsOf : Typed → Type 0
  AreTermsOf t = Is sort.Bool (code_of s env t.expr).ok × Is (sort_in s (ty t.expr)) (code_of s env t.expr).val

  terms_from : LiteralLaw → Derived → (x : Expr) (known : Capabilities) (t : Typed) → typing s env x known ≡ Ok t → AllByRecursion (IsNamed s written) (expr_uids x) → HasProperConstants x → AreTermsOf t
  terms_from law derived x known t e uids consts =
      let k = terms_of s env IsJudged IsProper (IsNamed s written) judged_kept lawful law (derivation_of derived s env x known t e) uids consts in
      (k.ok.term, k.val.term)

-- ---- the laws

pub expression_terms : LiteralLaw → Derived → Made → (s : Declarations) (env : Env) (written : List Uid) (x : Expr) (known : Capabilities) (t : Typed) → IsSetting s env written → IsWrittenExpr written x → typing s env x known ≡ Ok t
    → IsTermOf s env written sort.Bool (code_of s env t.expr).ok × IsTermOf s env written (sort_in s (ty t.expr)) (code_of s env t.expr).val
expression_terms law derived made s env written x known t setting h e =
    terms_from made s env written setting law derived x known t e (all_weaker (Contains written) (IsNamed s written) (λ u has. inl has) (expr_uids x) h.uids) h.constants

pub policy_is_terms : LiteralLaw → Derived → Made → (s : Declarations) (env : Env) (written : List Uid) (p : Policy) (c : Code) → IsSetting s env written → IsWritten written p → policy_code s env p ≡ Some c
    → IsTermOf s env written sort.Bool c.ok × IsTermOf s env written sort.Bool c.val
policy_is_terms law derived made s env written p c setting h e =
    let t = typed_as s env p c e in
    let uids = acting-uids (IsNamed s written) env.action (inr (action_named made s env written setting)) (condition p)
    (condition-uids (IsNamed s written) p (all_weaker (Contains written) (IsNamed s written) (λ u has. inl has) (policy_uids p) h.uids)) in
    let k = terms_from made s env written setting law derived _ [] t.typed t.given uids (acting-constants IsProper env.action (action_proper made s env written setting) (condition p) h.constants) in
    subst (λ (d : Code). IsTermOf s env written sort.Bool d.ok × IsTermOf s env written sort.Bool d.val) t.code
    (k.0, subst (λ (q : Sort). IsTermOf s env written q (code_of s env t.typed.expr).val) (boolean_sort s (ty t.typed.expr) t.boolean) k.1)
