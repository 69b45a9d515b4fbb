-- The parts of a term are terms.
use Rattle.std.proofs.Common.{inl, inr, List, [], ◌∷◌, sym, subst}
use Rattle.sc_lists.specs.Members.{Has}
use Rattle.sc_names.specs.declared.uid.Uid.{Uid}
use Rattle.sc_schema.specs.declared.declarations.Env.{Env}
use Rattle.sc_schema.specs.Declarations.{Declarations}
use Rattle.sc_sorts.specs.Inside.{SortFields}
use Rattle.sc_sorts.specs.declared.sort.Sort.{Sort}
use Rattle.sc_sorts.specs.declared.sort.Sort.TheVariants as sort
use Rattle.sc_sorts.specs.declared.node.BinaryOp.TheVariants as binary
use Rattle.sc_terms.specs.Trees.{Tree, two, Trees}
use Rattle.sc_terms.specs.TreeSorts.{tree_sort}
use Rattle.sc_term_laws.specs.Judging.{IsTermOf, IsTerm, HaveSort, HaveFields}
use Rattle.sc_term_laws.specs.Judging as judged
use Rattle.sc_term_laws.proofs.JudgingLaws.{sort_is}
use Rattle.sc_closure_rules.specs.Closure.{trees_in, parts}

module _ (d : Declarations) (env : Env) (literals : List Uid) where
  abbrev Of : Sort → Tree → Type 0
  Of = IsTermOf d env literals

  abbrev Is : Tree → Type 0
  Is = IsTerm d env literals

  pub own : (k : Sort) (t : Tree) → Of k t → Is t
  own k t h = subst (λ (l : Sort). Of l t) (sym (sort_is d env literals k t h)) h

  one_part : (k : Sort) (a t : Tree) → Of k a → Has (a ∷ []) t → Is t
  one_part k a t h (inl e) = subst Is e (own k a h)
  one_part k a t h (inr n) = absurd n

  two_parts : (j k : Sort) (a b t : Tree) → Of j a → Of k b → Has (a ∷ b ∷ []) t → Is t
  two_parts j k a b t h i (inl e) = subst Is e (own j a h)
  two_parts j k a b t h i (inr n) = one_part k b t i n

  three_parts : (k : Sort) (c a b t : Tree) → Of sort.Bool c → Of k a → Of k b → Has (c ∷ a ∷ b ∷ []) t → Is t
  three_parts k c a b t h i j (inl e) = subst Is e (own sort.Bool c h)
  three_parts k c a b t h i j (inr n) = two_parts k k a b t i j n

  pub members_made : (k : Sort) (ts : Trees) (t : Tree) → HaveSort d env literals k ts → Has (trees_in ts) t → Of k t
  members_made _ _ t (judged.no_member k) n = absurd n
  members_made _ _ t (judged.with_member k a ts h hs) (inl e) = subst (Of k) e h
  members_made _ _ t (judged.with_member k a ts h hs) (inr n) = members_made k ts t hs n

  fields_made : (fs : SortFields) (ts : Trees) (t : Tree) → HaveFields d env literals fs ts → Has (trees_in ts) t → Is t
  fields_made _ _ t judged.no_field n = absurd n
  fields_made _ _ t (judged.with_field name k fs a ts h hs) (inl e) = subst Is e (own k a h)
  fields_made _ _ t (judged.with_field name k fs a ts h hs) (inr n) = fields_made fs ts t hs n

  parts_of : (k : Sort) (x t : Tree) → Of k x → Has (parts x) t → Is t
  parts_of _ _ t (judged.of_truth b) n = absurd n
  parts_of _ _ t (judged.of_number m f) n = absurd n
  parts_of _ _ t (judged.of_text u f) n = absurd n
  parts_of _ _ t (judged.of_decimal_number m f) n = absurd n
  parts_of _ _ t (judged.of_address ip f) n = absurd n
  parts_of _ _ t (judged.of_uid u f) n = absurd n
  parts_of _ _ t (judged.of_default name f g) n = absurd n
  parts_of _ _ t (judged.of_none k f) n = absurd n
  parts_of _ _ t judged.of_principal n = absurd n
  parts_of _ _ t judged.of_resource n = absurd n
  parts_of _ _ t (judged.of_context u f) n = absurd n
  parts_of _ _ t (judged.of_not a h s) n = one_part sort.Bool a t h n
  parts_of _ _ t (judged.of_and a b h i s) n = two_parts sort.Bool sort.Bool a b t h i n
  parts_of _ _ t (judged.of_or a b h i s) n = two_parts sort.Bool sort.Bool a b t h i n
  parts_of _ _ t (judged.of_choice k c a b h i j s) n = three_parts k c a b t h i j n
  parts_of _ _ t (judged.of_equal k a b h i s) n = two_parts k k a b t h i n
  parts_of _ _ t (judged.of_arithmetic o a b f h i) n = two_parts sort.Long sort.Long a b t h i n
  parts_of _ _ t (judged.of_overflow o a b f h i) n = two_parts sort.Long sort.Long a b t h i n
  parts_of _ _ t (judged.of_less k a b f h i) n = two_parts k k a b t h i n
  parts_of _ _ t (judged.of_bit k i a f h s) n = one_part k a t h n
  parts_of _ _ t (judged.of_in_range a b h i) n = two_parts sort.Ip sort.Ip a b t h i n
  parts_of _ _ t (judged.of_carry o i a b f g h) n = one_part sort.Long (two o a b) t h n
  parts_of _ _ t (judged.of_low k i a b f g h j) n = two_parts k k a b t h j n
  parts_of _ _ t (judged.of_row i j a b f g h) n = one_part sort.Long (two binary.Multiply a b) t h n
  parts_of _ _ t (judged.of_product_carry i j a b f g h) n = one_part sort.Long (two binary.Multiply a b) t h n
  parts_of _ _ t (judged.of_attributes name u a f h) n = one_part _ a t h n
  parts_of _ _ t (judged.of_ancestors name above names a f g h) n = one_part _ a t h n
  parts_of _ _ t (judged.of_keys name u a f h) n = one_part _ a t h n
  parts_of _ _ t (judged.of_tag name u a k f h i) n = two_parts _ sort.String a k t h i n
  parts_of _ _ t (judged.of_field fs name k a h l s) n = one_part (sort.Record fs) a t h n
  parts_of _ _ t (judged.of_record fs ts f hs) n = fields_made fs ts t hs n
  parts_of _ _ t (judged.of_set k ts f hs) n = own k t (members_made k ts t hs n)
  parts_of _ _ t (judged.of_present k a h s) n = one_part (sort.Option k) a t h n
  parts_of _ _ t (judged.of_held k a h s) n = one_part (sort.Option k) a t h n
  parts_of _ _ t (judged.of_member k x a h i) n = two_parts k (sort.Set k) x a t h i n
  parts_of _ _ t (judged.of_sets o k a b f h i) n = two_parts (sort.Set k) (sort.Set k) a b t h i n
  parts_of _ _ t (judged.of_pick o k a b f h i) n = two_parts (sort.Set k) (sort.Set k) a b t h i n
  parts_of _ _ t (judged.of_like p a h s) n = one_part sort.String a t h n

  pub parts_made : (x t : Tree) → Is x → Has (parts x) t → Is t
  parts_made x t h n = parts_of (tree_sort x) x t h n
