-- The sorts of compiled terms are those of types, whatever is written.
use Rattle.std.proofs.Common.{pos, [], ◌∷◌, refl, ap}
use Rattle.sc_lists.proofs.ListLaws.{all_always}
use Rattle.sc_ast.specs.declared.expr.Expr.{Expr}
use Rattle.sc_ast.specs.Literals.{expr_uids}
use Rattle.sc_eval.specs.Written.{constants}
use Rattle.sc_names.specs.declared.uid.Uid.{Uid}
use Rattle.sc_schema.specs.declared.declarations.Env.{Env}
use Rattle.sc_schema.specs.Declarations.{Declarations}
use Rattle.sc_schema.specs.Lawful.{IsLawful}
use Rattle.sc_sorts.specs.declared.sort.Sort.TheVariants as sort
use Rattle.sc_sorts.specs.Entities.{choices_of, entity_sort}
use Rattle.sc_sorts.specs.OfTypes.{sort_of}
use Rattle.sc_values.specs.declared.value.Value.{Value}
use Rattle.sc_world.specs.declared.world.World.{World}
use Rattle.sc_sorts.specs.declared.node.Literal.TheVariants as literal
use Rattle.sc_sorts.specs.declared.node.UnaryOp.TheVariants as unary
use Rattle.sc_sorts.specs.declared.node.BinaryOp.{BinaryOp}
use Rattle.sc_sorts.specs.declared.node.BinaryOp.TheVariants as binary
use Rattle.sc_terms.specs.Trees.{Tree, two}
use Rattle.sc_terms.specs.Values.{is_maybe}
use Rattle.sc_terms.proofs.FoldValues.{one_is, two_is}
use Rattle.sc_term_laws.specs.Judging as judged
use Rattle.sc_term_laws.proofs.DefaultTypeLaws.{no_option}
use Rattle.sc_typed.specs.declared.outcome.Typed.{Typed}
use Rattle.sc_typed.specs.Capabilities.{Capabilities}
use Rattle.sc_typed.specs.Outcomes.{ty}
use Rattle.sc_typing_laws.specs.Derivations.{Derives}
use Rattle.sc_constructs.specs.Objects.{context_sort}
use Rattle.sc_symeval.specs.Codes.{code_of}
use Rattle.sc_symeval_laws.specs.TypeSorts.{sort_in}
use Rattle.sc_symeval_laws.proofs.DecidedLaws.{LiteralLaw}
use Rattle.sc_symeval_laws.proofs.KeptLaws.{Keeps, AreTerms, terms_of}
use Rattle.sc_symeval_laws.proofs.SortedLaws.{IsSorted, long_plain, string_plain, decimal_plain, ip_plain, entity_plain, set_plain, literal_is, truth_sorted, principal_is, resource_is, context_is, not_sorted, and_sorted, or_sorted, chosen_sorted, equal_sorted, field_sorted, present_sorted, held_sorted, bit_sorted, like_sorted, all_sorted, two_is_bool, two_is_of, one_is_of, set_sorted, record_sorted}

-- nothing is asked of what is written
abbrev pub AnyValue : Value → Type 0
AnyValue x = Unit {0}

abbrev pub AnyUid : Uid → Type 0
AnyUid u = Unit {0}

module _ (s : Declarations) (env : Env) (w : World) where
  computed : (o : BinaryOp) (a b : Tree) → judged.IsArithmetic o → IsSorted w sort.Long (two o a b)
  computed _ a b (judged.of_sum _ judged.addition) = two_is_of w sort.Long binary.Add a b refl (ap is_maybe (two_is binary.Add a b w)) long_plain
  computed _ a b (judged.of_sum _ judged.subtraction) = two_is_of w sort.Long binary.Subtract a b refl (ap is_maybe (two_is binary.Subtract a b w)) long_plain
  computed _ a b judged.multiplication = two_is_of w sort.Long binary.Multiply a b refl (ap is_maybe (two_is binary.Multiply a b w)) long_plain

  overflowing : (o : BinaryOp) (a b : Tree) → judged.IsOverflow o → IsSorted w sort.Bool (two o a b)
  overflowing _ a b judged.addition_overflow = two_is_bool w binary.AddOverflows a b refl (ap is_maybe (two_is binary.AddOverflows a b w))
  overflowing _ a b judged.subtraction_overflow = two_is_bool w binary.SubtractOverflows a b refl (ap is_maybe (two_is binary.SubtractOverflows a b w))
  overflowing _ a b judged.multiplication_overflow = two_is_bool w binary.MultiplyOverflows a b refl (ap is_maybe (two_is binary.MultiplyOverflows a b w))

  tested : (o : BinaryOp) (a b : Tree) → judged.IsTestOfSets o → IsSorted w sort.Bool (two o a b)
  tested _ a b judged.subset_test = two_is_bool w binary.Subset a b refl (ap is_maybe (two_is binary.Subset a b w))
  tested _ a b judged.common_test = two_is_bool w binary.Common a b refl (ap is_maybe (two_is binary.Common a b w))

  pub sorted_kept : Keeps s env (IsSorted w) AnyValue AnyUid
  sorted_kept = record {
    sorted = λ k t h. h.sorted;
    truth = truth_sorted w;
    zero = literal_is w (literal.Long (pos 0)) long_plain;
    number = λ n p. literal_is w (literal.Long n) long_plain;
    text = λ x p. literal_is w (literal.String x) string_plain;
    decimal_number = λ n p. literal_is w (literal.Decimal n) decimal_plain;
    address = λ ip p. literal_is w (literal.Ip ip) ip_plain;
    address_text = λ text ip e. literal_is w (literal.Ip ip) ip_plain;
    uid = λ u p. literal_is w (literal.Entity u (choices_of s u.type_name)) (entity_plain u.type_name (choices_of s u.type_name));
    action = literal_is w (literal.Entity env.action (choices_of s env.action.type_name)) (entity_plain env.action.type_name (choices_of s env.action.type_name));
    principal = principal_is w (entity_sort s env.principal) (entity_plain env.principal (choices_of s env.principal));
    resource = resource_is w (entity_sort s env.resource) (entity_plain env.resource (choices_of s env.resource));
    context = context_is w (context_sort s env) (no_option _);
    negation = not_sorted w;
    both = λ a b h g. and_sorted w a b h g;
    either = λ a b h g. or_sorted w a b h g;
    chosen = λ k c a b h g f. chosen_sorted w k c a b g f;
    equation = λ k a b plain h g. equal_sorted w k a b plain h g;
    component = field_sorted w;
    present = present_sorted w;
    held = held_sorted w;
    bit = λ k i a p h. bit_sorted w i a;
    like = λ p a h. like_sorted w p a;
    all = all_sorted w;
    less = λ k a b n h g. two_is_bool w binary.Less a b refl (ap is_maybe (two_is binary.Less a b w));
    arithmetic = λ o a b i h g. computed o a b i;
    overflow = λ o a b i h g. overflowing o a b i;
    in_range = λ a b h g. two_is_bool w binary.InRange a b refl (ap is_maybe (two_is binary.InRange a b w));
    attributes = λ name type a e h. one_is_of w (sort_of type) (unary.Attributes (sort_of type)) a refl refl (ap is_maybe (one_is (unary.Attributes (sort_of type)) a w)) (no_option type);
    ancestors = λ name u names a e c h. one_is_of w (sort.Set (entity_sort s u)) (unary.Ancestors (entity_sort s u)) a refl refl (ap is_maybe (one_is (unary.Ancestors (entity_sort s u)) a w)) (set_plain (entity_sort s u));
    keys = λ name type a e h. one_is_of w (sort.Set sort.String) unary.Keys a refl refl (ap is_maybe (one_is unary.Keys a w)) (set_plain sort.String);
    tag = λ name type a k e h g. two_is_of w (sort_of type) (binary.Tag (sort_of type)) a k refl (ap is_maybe (two_is (binary.Tag (sort_of type)) a k w)) (no_option type);
    fields = λ fs ts ascending proper h. record_sorted w fs ts ascending h;
    members = λ k t ts plain h. set_sorted w k (t ∷ ts);
    nothing = λ k a h. set_sorted w k [];
    member = λ k x a h g. two_is_bool w binary.Member x a refl (ap is_maybe (two_is binary.Member x a w));
    sets = λ o k a b i h g. tested o a b i;
  }

  -- both terms of a typed expression
  pub sorted_terms : LiteralLaw → (lawful : IsLawful s) → (z : Expr) (known : Capabilities) (u : Typed) → Derives s env z known u
      → AreTerms s env (IsSorted w) AnyValue AnyUid sorted_kept lawful (sort_in s (ty u.expr)) (code_of s env u.expr)
  sorted_terms law lawful z known u d =
      terms_of s env (IsSorted w) AnyValue AnyUid sorted_kept lawful law d (all_always AnyUid (λ x. tt) (expr_uids z)) (all_always AnyValue (λ x. tt) (constants z))

  -- the term of its value
  pub sorted_value : LiteralLaw → IsLawful s → (z : Expr) (known : Capabilities) (u : Typed) → Derives s env z known u → IsSorted w (sort_in s (ty u.expr)) (code_of s env u.expr).val
  sorted_value law lawful z known u d = (sorted_terms law lawful z known u d).val
