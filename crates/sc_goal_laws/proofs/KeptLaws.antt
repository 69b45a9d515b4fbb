-- Plain terms, of the sorts of types, are what each construct is compiled to.
use Rattle.std.proofs.Common.{◌≡◌, false, pos, List, [], ◌∷◌, refl}
use Rattle.sc_lists.proofs.ListLaws.{all_weaker}
use Rattle.sc_names.specs.declared.uid.Uid.{Uid}
use Rattle.sc_schema.specs.declared.declarations.Env.{Env}
use Rattle.sc_schema.specs.Declarations.{Declarations}
use Rattle.sc_sorts.specs.declared.sort.Sort.{Sort}
use Rattle.sc_sorts.specs.Entities.{choices_of, entity_sort}
use Rattle.sc_sorts.specs.Inside.{SortFields}
use Rattle.sc_sorts.specs.OfTypes.{sort_of}
use Rattle.sc_world.specs.declared.world.World.{World}
use Rattle.sc_sorts.specs.declared.node.Leaf.TheVariants as leafs
use Rattle.sc_sorts.specs.declared.node.Literal.TheVariants as literal
use Rattle.sc_sorts.specs.declared.node.UnaryOp.TheVariants as unary
use Rattle.sc_sorts.specs.declared.node.BinaryOp.{BinaryOp}
use Rattle.sc_sorts.specs.declared.node.BinaryOp.TheVariants as binary
use Rattle.sc_sorts.specs.declared.node.ManyOp.TheVariants as manys
use Rattle.sc_terms.specs.Trees.{Tree, Labelled, no_part, parts_of}
use Rattle.sc_term_laws.specs.Judging as judged
use Rattle.sc_constructs.specs.Objects.{context_sort}
use Rattle.sc_closure_rules.specs.Goals.{is_pick}
use Rattle.sc_symeval_laws.proofs.KeptLaws.{Keeps}
use Rattle.sc_symeval_laws.proofs.SortedKept.{AnyValue, AnyUid, sorted_kept}
use Rattle.sc_symeval_laws.proofs.SortedLaws.{AreFields, IsSorted}
use Rattle.sc_goal_laws.proofs.PlainLaws.{IsPlain, plain_leaf, plain_one, plain_two, plain_many, ArePlain, no_more, one_more, truth_plain, not_plain, and_plain, or_plain, equal_plain, choice_plain, all_plain, field_plain, present_plain, held_plain, bit_plain, like_plain, members_plain}

arithmetic_picks_none : (o : BinaryOp) → judged.IsArithmetic o → is_pick o ≡ false
arithmetic_picks_none _ (judged.of_sum _ judged.addition) = refl
arithmetic_picks_none _ (judged.of_sum _ judged.subtraction) = refl
arithmetic_picks_none _ judged.multiplication = refl

overflow_picks_none : (o : BinaryOp) → judged.IsOverflow o → is_pick o ≡ false
overflow_picks_none _ judged.addition_overflow = refl
overflow_picks_none _ judged.subtraction_overflow = refl
overflow_picks_none _ judged.multiplication_overflow = refl

test_picks_none : (o : BinaryOp) → judged.IsTestOfSets o → is_pick o ≡ false
test_picks_none _ judged.subset_test = refl
test_picks_none _ judged.common_test = refl

-- sorts are one in every world, so any serves
module _ (s : Declarations) (env : Env) (w : World) (Named : Uid → Type 0) (acting : Named env.action) where
  abbrev pub IsOf : Sort → Tree → Type 0
  IsOf k t = IsSorted w k t × IsPlain Named t

  kept : Keeps s env (IsSorted w) AnyValue AnyUid
  kept = sorted_kept s env w

  fields_sorted : (fs : SortFields) (ts : List Labelled) → AreFields IsOf fs ts → AreFields (IsSorted w) fs ts
  fields_sorted [] [] h = tt
  fields_sorted [] (t ∷ ts) h = absurd h
  fields_sorted (f ∷ fs) [] h = absurd h
  fields_sorted (f ∷ fs) (t ∷ ts) h = (h.0, h.1.0, h.2, fields_sorted fs ts h.3)

  fields_plain : (fs : SortFields) (ts : List Labelled) → AreFields IsOf fs ts → ArePlain Named (parts_of ts)
  fields_plain [] [] h = no_more
  fields_plain [] (t ∷ ts) h = absurd h
  fields_plain (f ∷ fs) [] h = absurd h
  fields_plain (f ∷ fs) (t ∷ ts) h = one_more t.0 t.1 (parts_of ts) h.1.1 (fields_plain fs ts h.3)

  pub plain_kept : Keeps s env IsOf AnyValue Named
  plain_kept = record {
    sorted = λ k t h. kept.sorted k t h.0;
    truth = λ b. (kept.truth b, truth_plain Named b);
    zero = (kept.zero, plain_leaf (leafs.Literal (literal.Long (pos 0))) tt);
    number = λ n p. (kept.number n tt, plain_leaf (leafs.Literal (literal.Long n)) tt);
    text = λ x p. (kept.text x tt, plain_leaf (leafs.Literal (literal.String x)) tt);
    decimal_number = λ n p. (kept.decimal_number n p, plain_leaf (leafs.Literal (literal.Decimal n)) tt);
    address = λ ip p. (kept.address ip p, plain_leaf (leafs.Literal (literal.Ip ip)) tt);
    address_text = λ text ip e. (kept.address_text text ip e, plain_leaf (leafs.Literal (literal.Ip ip)) tt);
    uid = λ u p. (kept.uid u tt, plain_leaf (leafs.Literal (literal.Entity u (choices_of s u.type_name))) p);
    action = (kept.action, plain_leaf (leafs.Literal (literal.Entity env.action (choices_of s env.action.type_name))) acting);
    principal = (kept.principal, plain_leaf (leafs.Principal (entity_sort s env.principal)) tt);
    resource = (kept.resource, plain_leaf (leafs.Resource (entity_sort s env.resource)) tt);
    context = (kept.context, plain_leaf (leafs.Context (context_sort s env)) tt);
    negation = λ a h. (kept.negation a h.0, not_plain Named a h.1);
    both = λ a b h g. (kept.both a b h.0 g.0, and_plain Named a b h.1 g.1);
    either = λ a b h g. (kept.either a b h.0 g.0, or_plain Named a b h.1 g.1);
    chosen = λ k c a b h g f. (kept.chosen k c a b h.0 g.0 f.0, choice_plain Named a b g.1 f.1 c h.1);
    equation = λ k a b plain h g. (kept.equation k a b plain h.0 g.0, equal_plain Named a b h.1 g.1);
    component = λ fs name k a h e. (kept.component fs name k a h.0 e, field_plain Named name a h.1);
    present = λ k a h. (kept.present k a h.0, present_plain Named a h.1);
    held = λ k a plain h. (kept.held k a plain h.0, held_plain Named a h.1);
    bit = λ k i a p h. (kept.bit k i a p h.0, bit_plain Named i a h.1);
    like = λ p a h. (kept.like p a h.0, like_plain Named p a h.1);
    all = λ ts h. (kept.all ts (λ i x e. (h i x e).0), all_plain Named ts (λ i x e. (h i x e).1));
    less = λ k a b n h g. (kept.less k a b n h.0 g.0, plain_two binary.Less a b refl h.1 g.1);
    arithmetic = λ o a b i h g. (kept.arithmetic o a b i h.0 g.0, plain_two o a b (arithmetic_picks_none o i) h.1 g.1);
    overflow = λ o a b i h g. (kept.overflow o a b i h.0 g.0, plain_two o a b (overflow_picks_none o i) h.1 g.1);
    in_range = λ a b h g. (kept.in_range a b h.0 g.0, plain_two binary.InRange a b refl h.1 g.1);
    attributes = λ name type a e h. (kept.attributes name type a e h.0, plain_one (unary.Attributes (sort_of type)) a h.1);
    ancestors = λ name u names a e c h. (kept.ancestors name u names a e c h.0, plain_one (unary.Ancestors (entity_sort s u)) a h.1);
    keys = λ name type a e h. (kept.keys name type a e h.0, plain_one unary.Keys a h.1);
    tag = λ name type a k e h g. (kept.tag name type a k e h.0 g.0, plain_two (binary.Tag (sort_of type)) a k refl h.1 g.1);
    fields = λ fs ts ascending proper h. (kept.fields fs ts ascending proper (fields_sorted fs ts h), plain_many manys.Record (parts_of ts) (fields_plain fs ts h));
    members = λ k t ts plain h. (
      kept.members k t ts plain (all_weaker (IsOf k) (IsSorted w k) (λ x i. i.0) (t ∷ ts) h),
      plain_many (manys.Set k) _ (members_plain Named (t ∷ ts) (all_weaker (IsOf k) (IsPlain Named) (λ x i. i.1) (t ∷ ts) h)),
    );
    nothing = λ k a h. (kept.nothing k a h.0, plain_many (manys.Set k) no_part no_more);
    member = λ k x a h g. (kept.member k x a h.0 g.0, plain_two binary.Member x a refl h.1 g.1);
    sets = λ o k a b i h g. (kept.sets o k a b i h.0 g.0, plain_two o a b (test_picks_none o i) h.1 g.1);
  }
