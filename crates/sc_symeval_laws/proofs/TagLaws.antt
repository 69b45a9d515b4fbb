-- Tags: what `hasTag` and `getTag` are compiled to agrees with what they come to.
use Rattle.std.proofs.Common.{◌≡◌, ◌||◌, ℕ, List, [], ◌∷◌, map, true, false, Option, Some, None, MatchOption, unwrap_or, is_some, Ok, IsTrue, refl, ap, sym, subst, ◌∙◌}
use Rattle.std.specs.List.{AllByRecursion, list_any}
use Rattle.std.specs.Map.{keys_of}
use Rattle.std.specs.Option.{option_and_then}
use Rattle.std.specs.Str.{bytes_eq}
use Rattle.std.proofs.lemmas.Map.Made.{is_some-lookup}
use Rattle.std.proofs.lemmas.Slice.Eq.{bytes_eq-Decides}
use Rattle.sc_laws.proofs.BoolLaws.{same_truth}
use Rattle.sc_names.specs.declared.uid.Uid.{Uid}
use Rattle.sc_schema.specs.declared.declarations.Env.{Env}
use Rattle.sc_schema.specs.declared.ty.Ty.{Ty}
use Rattle.sc_schema.specs.Declarations.{Declarations, tags_of}
use Rattle.sc_values.specs.declared.value.Value.{Value, out-Value}
use Rattle.sc_values.specs.declared.value.Value.TheVariants as value
use Rattle.sc_values.specs.Records.{Fields, field}
use Rattle.sc_values.proofs.OutLaws.{out_Entity, out_Set, out_String}
use Rattle.sc_world.specs.declared.entity.EntityData.{EntityData}
use Rattle.sc_world.specs.declared.world.World.{World}
use Rattle.sc_world.specs.Conforms.{conforms}
use Rattle.sc_world.specs.Stores.{stored}
use Rattle.sc_world.specs.WellFormed.{IsWellFormed, HasTags}
use Rattle.sc_eval.specs.Outcomes.{Outcome, ◌>>=◌, as_text, text_in, of_bool}
use Rattle.sc_eval.specs.Collections.{is_same}
use Rattle.sc_eval.specs.Entities.{has_tag, tag_of, tag_or_missing}
use Rattle.sc_eval.specs.Operators.{tagged}
use Rattle.sc_eval.specs.CollectionLaws.{is_same-decides}
use Rattle.sc_typed.specs.Types.{is_string, entity_name}
use Rattle.sc_sorts.specs.declared.node.UnaryOp.TheVariants as unary
use Rattle.sc_sorts.specs.declared.node.BinaryOp.TheVariants as binary
use Rattle.sc_terms.specs.Trees.{Tree, one, two}
use Rattle.sc_terms.specs.Folds.{truth_term}
use Rattle.sc_terms.specs.Values.{Val, it, yes, val, text_seen, uid_seen, members_seen, members_in, value_in, entity_in, keys_value, tag_value, text_in as key_in, has_member}
use Rattle.sc_terms.proofs.FoldValues.{truth_is, one_is, two_is}
use Rattle.sc_soundness_laws.specs.Sound.{IsOf, OrOverflows}
use Rattle.sc_soundness_laws.proofs.ValueLaws.{entity_of, as_entity-is, string_of}
use Rattle.sc_soundness_laws.proofs.ObjectLaws.{of_stored, data_of}
use Rattle.sc_constructs.specs.Code.{Code}
use Rattle.sc_constructs.specs.Objects.{tag_type, has_key, has_tag_code, get_tag_code}
use Rattle.sc_sorts.specs.declared.sort.Sort.{Sort}
use Rattle.sc_sorts.specs.Defaults.{default_of}
use Rattle.sc_sorts.specs.OfTypes.{sort_of}
use Rattle.sc_symeval.specs.Agreement.{Meets, Agrees}
use Rattle.sc_symeval_laws.proofs.AgreeLaws.{meets_same, both_agree, where_agrees}

-- ---- keys

text_same : (a b : List ℕ) → value.String a ≡ value.String b → a ≡ b
text_same a b e = sym (ap text_seen (out_String a)) ∙ ap (λ (x : Value). text_seen (out-Value x)) e ∙ ap text_seen (out_String b)

string_same : (a b : List ℕ) → is_same (value.String a) (value.String b) ≡ bytes_eq a b
string_same a b =
    same_truth _ _ (is_same-decides (value.String a) (value.String b))
    ((λ t. ap value.String ((bytes_eq-Decides a b).0 t)), (λ e. (bytes_eq-Decides a b).1 (text_same a b e)))

abbrev keys : Fields → List Value
keys tags = map (λ (f : List ℕ × Value). value.String f.0) tags

member_of_keys : (key : List ℕ) (tags : Fields) → has_member (keys tags) (value.String key) ≡ list_any (bytes_eq key) (keys_of tags)
member_of_keys key [] = refl
member_of_keys key (f ∷ fs) = let first = string_same key f.0 in let rest = member_of_keys key fs in λ i. first i || rest i

-- a key is among those of the tags just where there is such a tag
pub keys_member : (key : List ℕ) (tags : Fields) → has_member (keys tags) (value.String key) ≡ is_some (field key tags)
keys_member key tags = member_of_keys key tags ∙ sym (is_some-lookup (bytes_eq key) tags)

module _ (s : Declarations) (env : Env) (literals : List Uid) (w : World) (well : IsWellFormed s env literals w) where
  of_value : (type : Ty) (o : Outcome) (x : Value) → OrOverflows (IsOf w type) o → o ≡ Ok x → IsOf w type x
  of_value type o x h is = subst (OrOverflows (IsOf w type)) is h

  -- what is asked of an entity and a key
  tagged_is : (x y : Value) (u : Uid) (key : List ℕ) (f : Uid → List ℕ → Outcome) → x ≡ value.Entity u → y ≡ value.String key → tagged x y f ≡ f u key
  tagged_is x y u key f e g =
      ap (λ r. r >>= λ v. as_text y >>= λ k. f v k) (as_entity-is w x u e) ∙ ap (λ r. r >>= λ k. f u k) (ap text_in (ap out-Value g ∙ out_String key))

  -- the keys of an entity that is stored
  keys_val : (t : Tree) (x : Value) (u : Uid) (d : EntityData) → val t w ≡ it x → x ≡ value.Entity u → stored u w.store ≡ Some d → members_in (val (one unary.Keys t) w) ≡ keys d.tags
  keys_val t x u d h e at =
      ap members_in (one_is unary.Keys t w)
      ∙ ap (λ (o : Option EntityData). members_in (it (keys_value o))) (ap (λ (v : Val). entity_in v w) (h ∙ ap it e) ∙ ap (λ z. stored (uid_seen z) w.store) (out_Entity u) ∙ at)
      ∙ ap members_seen (out_Set (keys d.tags))

  pub has_tag_agrees : (type key_type : Ty) (n : List ℕ) (a b : Code) (o p : Outcome) → Agrees w a o → Agrees w b p → entity_name type ≡ Some n → is_string key_type ≡ true
      → OrOverflows (IsOf w type) o → OrOverflows (IsOf w key_type) p
      → Agrees w (has_tag_code (tag_type s type) a b) (o >>= λ x. p >>= λ y. tagged x y (λ u key. of_bool (has_tag key (stored u w.store))))
  has_tag_agrees type key_type n a b o p h k e c first second =
      subst (λ (t : Option Ty). Agrees w (has_tag_code t a b) (o >>= λ x. p >>= λ y. tagged x y (λ u key. of_bool (has_tag key (stored u w.store))))) (sym (ap (option_and_then (tags_of s)) e))
      (by (tags_of s n) refl)
    where
      by : (t : Option Ty) → tags_of s n ≡ t → Agrees w (has_tag_code t a b) (o >>= λ x. p >>= λ y. tagged x y (λ u key. of_bool (has_tag key (stored u w.store))))
      by (Some tag) is = both_agree w a b (has_key a b) o p (λ x y. tagged x y (λ u key. of_bool (has_tag key (stored u w.store)))) h k λ x y i j m q.
          let u = entity_of w n type x e (of_value type o x first i) in
          let key = string_of w key_type y c (of_value key_type p y second j) in
          let d = data_of u.0 w.store u.1.stored in
          let told = tagged_is x y u.0 key.0 (λ v l. of_bool (has_tag l (stored v w.store))) u.1.entity key.1 ∙ ap (λ (r : Option EntityData). of_bool (has_tag key.0 r)) d.1 in
          let held = keys_val a.val x u.0 d.0 m u.1.entity d.1 in
          let asked = ap value_in (q ∙ ap it key.1) in
          subst (Meets (yes true) (val (has_key a b) w)) (sym told)
          (refl, two_is binary.Member b.val (one unary.Keys a.val) w ∙ (λ l. yes (has_member (held l) (asked l))) ∙ ap yes (keys_member key.0 d.0.tags))
      by None is = both_agree w a b (truth_term false) o p (λ x y. tagged x y (λ u key. of_bool (has_tag key (stored u w.store)))) h k λ x y i j m q.
          let u = entity_of w n type x e (of_value type o x first i) in
          let key = string_of w key_type y c (of_value key_type p y second j) in
          let d = data_of u.0 w.store u.1.stored in
          let tags : HasTags s (u.0, d.0) = of_stored (HasTags s) u.0 w.store d.0 d.1 well.tags in
          let none : d.0.tags ≡ [] = subst (λ (r : Option Ty). MatchOption r (d.0.tags ≡ []) (λ t. AllByRecursion (λ (f : List ℕ × Value). IsTrue (conforms t f.1)) d.0.tags)) (ap (tags_of s) u.1.named ∙ is) tags in
          let told =
          tagged_is x y u.0 key.0 (λ v l. of_bool (has_tag l (stored v w.store))) u.1.entity key.1 ∙ ap (λ (r : Option EntityData). of_bool (has_tag key.0 r)) d.1
          ∙ ap (λ (fs : Fields). of_bool (is_some (field key.0 fs))) none
          in
          subst (Meets (yes true) (val (truth_term false) w)) (sym told) (refl, truth_is false w)

  -- a tag that is there, and an error where it isn't
  tag_met : (r : Option Value) (default : Value) → Meets (yes (is_some r)) (it (unwrap_or r default)) (tag_or_missing r)
  tag_met (Some v) default = (refl, refl)
  tag_met None default = refl

  -- an entity's tag, or else the default
  tag_val : (own : Sort) (t k : Tree) (x y : Value) (u : Uid) (key : List ℕ) (d : EntityData) → val t w ≡ it x → x ≡ value.Entity u → val k w ≡ it y → y ≡ value.String key → stored u w.store ≡ Some d
      → val (two (binary.Tag own) t k) w ≡ it (unwrap_or (field key d.tags) (default_of own))
  tag_val own t k x y u key d h e g f at =
      let entity : entity_in (val t w) w ≡ Some d = ap (λ (v : Val). entity_in v w) (h ∙ ap it e) ∙ ap (λ z. stored (uid_seen z) w.store) (out_Entity u) ∙ at in
      let asked : key_in (val k w) ≡ key = ap key_in (g ∙ ap it f) ∙ ap text_seen (out_String key) in
      two_is (binary.Tag own) t k w ∙ λ i. it (tag_value own (asked i) (entity i))

  pub get_tag_agrees : (type key_type tag : Ty) (n : List ℕ) (a b : Code) (o p : Outcome) → Agrees w a o → Agrees w b p → entity_name type ≡ Some n → is_string key_type ≡ true → tags_of s n ≡ Some tag
      → OrOverflows (IsOf w type) o → OrOverflows (IsOf w key_type) p
      → Agrees w (get_tag_code (tag_type s type) a b) (o >>= λ x. p >>= λ y. tagged x y (λ u key. tag_of key (stored u w.store)))
  get_tag_agrees type key_type tag n a b o p h k e c is first second =
      subst (λ (t : Option Ty). Agrees w (get_tag_code t a b) (o >>= λ x. p >>= λ y. tagged x y (λ u key. tag_of key (stored u w.store)))) (sym (ap (option_and_then (tags_of s)) e ∙ is))
      (where_agrees w a b (has_key a b) (two (binary.Tag (sort_of tag)) a.val b.val) o p (λ x y. tagged x y (λ u key. tag_of key (stored u w.store))) h k λ x y i j m q.
      let u = entity_of w n type x e (of_value type o x first i) in
      let key = string_of w key_type y c (of_value key_type p y second j) in
      let d = data_of u.0 w.store u.1.stored in
      let told = tagged_is x y u.0 key.0 (λ v l. tag_of l (stored v w.store)) u.1.entity key.1 ∙ ap (λ (r : Option EntityData). tag_of key.0 r) d.1 in
      let held = keys_val a.val x u.0 d.0 m u.1.entity d.1 in
      let asked = ap value_in (q ∙ ap it key.1) in
      subst (Meets (val (has_key a b) w) (val (two (binary.Tag (sort_of tag)) a.val b.val) w)) (sym told)
      (meets_same _ (yes (is_some (field key.0 d.0.tags))) _ (it (unwrap_or (field key.0 d.0.tags) (default_of (sort_of tag)))) (tag_or_missing (field key.0 d.0.tags))
      (two_is binary.Member b.val (one unary.Keys a.val) w ∙ (λ l. yes (has_member (held l) (asked l))) ∙ ap yes (keys_member key.0 d.0.tags))
      (tag_val (sort_of tag) a.val b.val x y u.0 key.0 d.0 m u.1.entity q key.1 d.1)
      (tag_met (field key.0 d.0.tags) (default_of (sort_of tag)))))
