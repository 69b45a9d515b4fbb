-- Each given entity is as its type, its ancestors and its kind have it.
use Rattle.std.proofs.Common.{◌≡◌, ℕ, Bool, false, List, [], map, flat_map, Option, Some, None, IsTrue, IsSomeAnd, IfSome, MatchOption, Contains, refl, sym, ap, ◌∙◌, subst}
use Rattle.std.specs.List.{AllByRecursion}
use Rattle.std.specs.List.Sorted.{IsStrictlySortedBy}
use Rattle.std.specs.Str.{IsUtf8}
use Rattle.sc_lists.specs.Members.{Has}
use Rattle.sc_lists.proofs.ListLaws.{all_weaker}
use Rattle.sc_lists.proofs.MemberLaws.{Has-from_Contains, Contains-from_Has, Has-AllByRecursion}
use Rattle.sc_lists.proofs.OrderedLaws.{none_ascends}
use Rattle.sc_laws.proofs.BoolLaws.{true_both}
use Rattle.sc_ip.specs.Addresses.{IsIp}
use Rattle.sc_bits.specs.Addresses.{ip_of}
use Rattle.sc_bits.specs.Blocks.{AreBlockBits}
use Rattle.sc_names.specs.declared.uid.Uid.{Uid}
use Rattle.sc_names.specs.Uids.{text_cmp}
use Rattle.sc_schema.specs.declared.declarations.Env.{Env}
use Rattle.sc_schema.specs.declared.ty.Ty.{Ty}
use Rattle.sc_schema.specs.Declarations.{Declarations, attrs_of, tags_of, ancestor_types, is_action_type}
use Rattle.sc_schema.specs.Lawful.{IsLawful}
use Rattle.sc_values.specs.declared.value.Value.{Value}
use Rattle.sc_values.specs.declared.value.Value.TheVariants as value
use Rattle.sc_values.specs.Proper.{IsProper, IsProperLevel, IsProperRecord, IsUidText}
use Rattle.sc_values.proofs.EveryLaws as every
use Rattle.sc_world.specs.declared.entity.EntityData.{EntityData}
use Rattle.sc_world.specs.Choices.{IsChoice}
use Rattle.sc_world.specs.Conforms.{conforms}
use Rattle.sc_world.specs.Sound.{IsSoundEntry, AreSound}
use Rattle.sc_world.specs.Stores.{stored}
use Rattle.sc_world.specs.WellFormed.{Entry, IsProperEntry}
use Rattle.sc_sorts.specs.Entities.{choices_of}
use Rattle.sc_sorts.specs.declared.node.UnaryOp.TheVariants as unary
use Rattle.sc_terms.specs.Trees.{Tree, one}
use Rattle.sc_terms.specs.TreeSorts.{tree_sort}
use Rattle.sc_closure_rules.specs.Goals.{IsGoal}
use Rattle.sc_model_laws.specs.Laws.{EquationsAgree}
use Rattle.sc_model_laws.specs.Vals.{Model}
use Rattle.sc_model_laws.specs.Models.{IsModel}
use Rattle.sc_model_laws.proofs.ChosenLaws.{uid_is_choice}
use Rattle.sc_model_laws.proofs.EntityLaws.{OfAncestors, of_ancestors, ancestors_sort, named_type, acyclic, transitive}
use Rattle.sc_model_laws.proofs.FittingLaws.{AreMade, assigned_sorted}
use Rattle.sc_model_world_laws.specs.Laws.{AreTexts}
use Rattle.sc_model_world_laws.specs.Rebuilt.{entity_said, tag_at, data_of, given_of}
use Rattle.sc_model_world_laws.proofs.EntryLaws.{IsAncestor, is_ancestor, ancestor_is, ancestors_ascend, keys_at, keys_ascend, tag_keys_are, no_keys, uid_is_text, entity_text, attributes_of_type, tags_of_type, key_text}
use Rattle.sc_model_world_laws.proofs.GivenLaws.{IsGivenEntry, given_each, given_only, IsPlainEntity, plain_entity}
use Rattle.sc_model_world_laws.proofs.TypeLaws.{has_attributes}

some_and : {T : Type 0} (o : Option T) (x : T) (P : T → Type 0) → o ≡ Some x → P x → IsSomeAnd o P
some_and o x P e h = subst (λ (q : Option _). IsSomeAnd q P) (sym e) h

module _ (d : Declarations) (env : Env) (literals : List Uid) (goal : Tree) (made : AreMade d env literals goal) (m : Model) (model : IsModel d env goal m) (lawful : IsLawful d) (is : IsGoal d env literals goal)
    (agree : EquationsAgree) (addressed : (f : ℕ → Bool) → AreBlockBits f → IsIp (ip_of f)) (texts : AreTexts d env goal m) where
  abbrev IsPlain : Uid → Type 0
  IsPlain = IsPlainEntity d env literals goal made m model lawful is

  abbrev Ancestor : Uid → Uid → Type 0
  Ancestor = IsAncestor d env literals goal made m model lawful is

  -- what an ancestor is by its terms
  ancestors_of : (u w : Uid) (a : Ancestor u w) → OfAncestors d env literals a.own a.entity
  ancestors_of u w a = of_ancestors d env literals (tree_sort (one (unary.Ancestors a.own) a.entity)) a.own a.entity (made (one (unary.Ancestors a.own) a.entity) a.closed)

  ancestor_type : (u w : Uid) (a : Ancestor u w) → (w.type_name ≡ (ancestors_of u w a).above) × ((ancestors_of u w a).name ≡ u.type_name)
  ancestor_type u w a =
      let p = ancestors_of u w a in
      let there = assigned_sorted d env literals goal made m model a.own (one (unary.Ancestors a.own) a.entity) a.member (ancestors_sort a.own a.entity) a.among in (
        ap (λ (x : Uid). x.type_name) (sym a.said) ∙ named_type d env literals goal made m model p.above a.member (there.1 ∙ p.own),
        sym (named_type d env literals goal made m model p.name a.entity p.sorted) ∙ ap (λ (x : Uid). x.type_name) a.named,
      )

  module _ (u : Uid) (p : IsPlain u) where
    -- ---- what is stored is made of values

    tags_proper_by : (o : Option Ty) → tags_of d u.type_name ≡ o → IsProperRecord (data_of d m u).tags
    tags_proper_by None e =
        subst (λ (ks : List (List ℕ)). IsProperRecord (map (tag_at d m u) ks)) (sym (no_keys d env literals goal made m model lawful is u e))
        (every.every_Record IsProperLevel [] (none_ascends text_cmp [] refl, tt) tt)
    tags_proper_by (Some t) e =
        let ks = keys_at d env literals goal made m model lawful is u in
        let names = sym (tag_keys_are d env literals goal made m model lawful is u ks) in
        every.every_Record IsProperLevel (data_of d m u).tags (
          subst (IsStrictlySortedBy text_cmp) names (keys_ascend d env literals goal made m model lawful is u),
          subst (AllByRecursion IsUtf8) names (Has-AllByRecursion IsUtf8 ks (λ key h. key_text d env literals goal made m model lawful is addressed texts u key h)),
        )
        (all_weaker _ (λ (f : List ℕ × Value). IsProper f.1) (λ f h. h.proper) (data_of d m u).tags (tags_of_type d env literals goal made m model lawful is addressed texts u t e))

    shape : (t : Ty) × (attrs_of d u.type_name ≡ Some t)
    shape = has_attributes d lawful u.type_name p.no_action p.declared

    ancestor_text : (w : Uid) → Has (data_of d m u).ancestors w → IsUidText w
    ancestor_text w h =
        let a = is_ancestor d env literals goal made m model lawful is u w h in
        subst IsUidText a.said (uid_is_text d env literals goal made m model lawful is addressed texts a.own a.entity a.member (ancestors_of u w a).above (ancestors_of u w a).own a.among)

    proper : IsProperEntry (u, data_of d m u)
    proper = record {
      uid = subst IsUidText p.said (entity_text d env literals goal made m model lawful is addressed texts p.name [] p.term p.closed p.sorted);
      attrs = (attributes_of_type d env literals goal made m model lawful is addressed texts u shape.0 shape.1).proper;
      tags = tags_proper_by (tags_of d u.type_name) refl;
      ancestors = ancestors_ascend d env literals goal made m model lawful is u;
      ancestor_texts = Has-AllByRecursion IsUidText (data_of d m u).ancestors ancestor_text;
    }

    -- ---- of its type

    tags_by : (o : Option Ty) → tags_of d u.type_name ≡ o → MatchOption o ((data_of d m u).tags ≡ []) (λ t. AllByRecursion (λ (f : List ℕ × Value). IsTrue (conforms t f.1)) (data_of d m u).tags)
    tags_by None e = ap (map (tag_at d m u)) (no_keys d env literals goal made m model lawful is u e)
    tags_by (Some t) e =
        all_weaker _ (λ (f : List ℕ × Value). IsTrue (conforms t f.1)) (λ f h. h.conform) (data_of d m u).tags (tags_of_type d env literals goal made m model lawful is addressed texts u t e)

    ancestor_among : (w : Uid) → Has (data_of d m u).ancestors w → IsSomeAnd (ancestor_types d u.type_name) (λ types. Contains types w.type_name)
    ancestor_among w h =
        let a = is_ancestor d env literals goal made m model lawful is u w h in
        let q = ancestors_of u w a in
        let names = ancestor_type u w a in
        some_and (ancestor_types d u.type_name) q.names (λ types. Contains types w.type_name) (ap (ancestor_types d) (sym names.1) ∙ q.declared) (subst (Contains q.names) (sym names.0) q.among)

    own_choice : IsChoice d u
    own_choice = subst (IsChoice d) p.said (uid_is_choice d env goal m model literals made lawful is p.name [] p.term p.closed p.sorted)

    ancestor_choice : (w : Uid) → Has (data_of d m u).ancestors w → IsChoice d w
    ancestor_choice w h =
        let a = is_ancestor d env literals goal made m model lawful is u w h in
        let q = ancestors_of u w a in
        let there = assigned_sorted d env literals goal made m model a.own (one (unary.Ancestors a.own) a.entity) a.member (ancestors_sort a.own a.entity) a.among in
        subst (IsChoice d) a.said (uid_is_choice d env goal m model literals made lawful is q.above (choices_of d q.above) a.member there.0 (there.1 ∙ q.own))

    -- ---- its ancestors

    above_above : (a : Uid) (x : EntityData) → Has (data_of d m u).ancestors a → stored a (given_of d m) ≡ Some x → AllByRecursion (λ b. Contains (data_of d m u).ancestors b) x.ancestors
    above_above a x h e =
        let near = is_ancestor d env literals goal made m model lawful is u a h in
        let same = (given_only d m (flat_map (entity_said m) m.closed) a x e).data_is in
        subst (λ (y : EntityData). AllByRecursion (λ b. Contains (data_of d m u).ancestors b) y.ancestors) (sym same)
        (Has-AllByRecursion (Contains (data_of d m u).ancestors) (data_of d m a).ancestors (λ b k.
        let far = is_ancestor d env literals goal made m model lawful is a b k in
        let plain : is_action_type d (m.uid near.entity).type_name ≡ false = ap (λ (w : Uid). is_action_type d w.type_name) near.named ∙ p.no_action in
        let r = transitive d env literals goal made m model lawful is agree near.own far.own near.entity near.member far.entity far.member plain near.closed near.among far.closed far.among (near.said ∙ sym far.named) in
        Contains-from_Has (data_of d m u).ancestors b
        (subst (Has (data_of d m u).ancestors) far.said (ancestor_is d env literals goal made m model lawful is u far.own near.entity far.member r.0 near.named r.1))))

    above_by : (a : Uid) → Has (data_of d m u).ancestors a → (o : Option EntityData) → stored a (given_of d m) ≡ o → IfSome o (λ x. AllByRecursion (λ b. Contains (data_of d m u).ancestors b) x.ancestors)
    above_by a h None e = tt
    above_by a h (Some x) e = above_above a x h e

    own_ancestor : Has (data_of d m u).ancestors u → ⊥
    own_ancestor h =
        let a = is_ancestor d env literals goal made m model lawful is u u h in
        acyclic d env literals goal made m model a.own a.entity a.member a.closed a.among (a.said ∙ sym a.named)

    sound : IsSoundEntry d (given_of d m) (u, data_of d m u)
    sound = record {
      proper = proper;
      attributes = some_and (attrs_of d u.type_name) shape.0 (λ t. IsTrue (conforms t (value.Record (data_of d m u).attrs))) shape.1
          (attributes_of_type d env literals goal made m model lawful is addressed texts u shape.0 shape.1).conform;
      tags = tags_by (tags_of d u.type_name) refl;
      ancestor_types = Has-AllByRecursion _ (data_of d m u).ancestors ancestor_among;
      transitive = Has-AllByRecursion _ (data_of d m u).ancestors (λ a h. above_by a h (stored a (given_of d m)) refl);
      acyclic = λ h. own_ancestor (Has-from_Contains (data_of d m u).ancestors u h);
      action = λ acts. absurd (true_both (is_action_type d u.type_name) acts p.no_action);
      choices = record { uid = own_choice; ancestors = Has-AllByRecursion (IsChoice d) (data_of d m u).ancestors ancestor_choice };
    }

  entry_sound : (x : Entry) → IsGivenEntry d m (flat_map (entity_said m) m.closed) x → IsSoundEntry d (given_of d m) x
  entry_sound x h =
      subst (λ (e : EntityData). IsSoundEntry d (given_of d m) (x.0, e)) (sym h.data_is) (sound x.0 (plain_entity d env literals goal made m model lawful is x.0 h.among))

  pub all_sound : AreSound d (given_of d m)
  all_sound = all_weaker (IsGivenEntry d m (flat_map (entity_said m) m.closed)) (IsSoundEntry d (given_of d m)) entry_sound (given_of d m) (given_each d m (flat_map (entity_said m) m.closed))
