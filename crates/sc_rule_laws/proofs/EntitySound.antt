-- The rules of what is stored of entities are true in every well-formed world.
use Rattle.std.proofs.Common.{◌&&◌, ◌≡◌, ◌||◌, ◌==◌, ℕ, Bool, true, false, not, cond, inl, inr, List, [], ◌∷◌, map, filter, length, unwrap_or, IfSome, Option, Some, None, refl, sym, ap, ◌∙◌, subst, Contains}
use Rattle.std.specs.List.{AllByRecursion}
use Rattle.std.specs.Ordering.{is_eq}
use Rattle.std.specs.Str.{bytes_eq}
use Rattle.sc_lists.specs.Members.{Has}
use Rattle.sc_laws.proofs.BoolLaws.{and_second, never}
use Rattle.sc_lists.proofs.ListLaws.{all_element}
use Rattle.sc_lists.proofs.MemberLaws.{Has-map, map-Has, Has-from_Contains, Contains-from_Has}
use Rattle.sc_laws.proofs.OptionLaws.{same_some}
use Rattle.sc_lists.proofs.OrderingLaws.{is_eq_true}
use Rattle.sc_lists.proofs.TextLaws.{bytes_eq_true}
use Rattle.sc_names.specs.declared.uid.Uid.{Uid}
use Rattle.sc_names.specs.Uids.{uid_cmp}
use Rattle.sc_names.proofs.UidLaws.{uid_cmp_level}
use Rattle.sc_schema.specs.Declarations.{Declarations, action_ancestors}
use Rattle.sc_values.specs.declared.value.Value.{Value, Value-F, out-Value}
use Rattle.sc_values.specs.declared.value.Value.TheVariants as value
use Rattle.sc_values.specs.declared.value.Value.TheOpen as v
use Rattle.sc_values.specs.Records.{Fields, field}
use Rattle.sc_values.proofs.OutLaws.{out_Bool, out_Set, out_Entity, out_String}
use Rattle.sc_world.specs.declared.entity.EntityData.{EntityData}
use Rattle.sc_world.specs.declared.world.World.{World}
use Rattle.sc_world.specs.Stores.{Entities, stored}
use Rattle.sc_world.specs.WellFormed.{IsTransitive, IsAcyclic}
use Rattle.sc_world.proofs.FillLaws.{of_stored}
use Rattle.sc_sorts.specs.declared.sort.Sort.{Sort, out-Sort}
use Rattle.sc_sorts.specs.contracts.sort.SortPartialEq.TheImpl.{ghosts as sorts}
use Rattle.sc_sorts.specs.Defaults.{is_option, default_of}
use Rattle.sc_sorts.specs.Entities.{of_type_name, choices_of}
use Rattle.sc_sorts.specs.Inside.{name_in}
use Rattle.sc_sorts.specs.OrderLaws.{sort_eq_decides}
use Rattle.sc_sorts.specs.declared.node.Leaf.TheVariants as leafs
use Rattle.sc_sorts.specs.declared.node.Literal.TheVariants as literal
use Rattle.sc_sorts.specs.declared.node.UnaryOp.{UnaryOp}
use Rattle.sc_sorts.specs.declared.node.UnaryOp.TheVariants as unary
use Rattle.sc_sorts.specs.declared.node.BinaryOp.TheVariants as binary
use Rattle.sc_terms.specs.Trees.{Tree, leaf, one, two, choice, many}
use Rattle.sc_terms.specs.TreeSorts.{tree_sort}
use Rattle.sc_terms.specs.Order.{tree_eq}
use Rattle.sc_terms.specs.Folds.{equal_term, default_term}
use Rattle.sc_terms.specs.Values.{Val, it, maybe, val, value_in, uid_in, uid_seen, text_in, text_seen, members_in, members_seen, entity_in, attributes_value, ancestors_value, keys_value, tag_value, default_by}
use Rattle.sc_terms.proofs.OrderLaws.{tree_eq-exact}
use Rattle.sc_terms.proofs.FoldValues.{one_is, two_is}
use Rattle.sc_terms.proofs.DefaultValues.{default_is}
use Rattle.sc_rule_laws.proofs.MemberLaws.{filter_passes, filter_within, filter_kept}
use Rattle.sc_rule_laws.specs.Signed.{Signed, Said, so, unless, some_holds, Holds, is_true}
use Rattle.sc_rule_laws.specs.Places.{roots, half}
use Rattle.sc_rule_laws.specs.Terms.{member, above, keys, entity}
use Rattle.sc_rule_laws.specs.Entities.{en1_of, en1, same_sets, en2, en3_of, en3, en4, en5, en6, is_uid_in, is_literal_of, en7_of, en7_by, en7, chosen_of}
use Rattle.sc_rule_laws.proofs.ClauseLaws.{unless_else, so_else, so_holds, unless_holds, one_of, given_holds}
use Rattle.sc_rule_laws.proofs.EquationLaws.{is_equal, equal_so}
use Rattle.sc_rule_laws.proofs.MemberTruths.{is_member, member_so, member_moves}
use Rattle.sc_rule_laws.proofs.PlaceSound.{AreOne, places_one, half_holds, under_holds}

-- ---- ancestors

-- a value is an ancestor of what is stored, of a type
pub record IsAbove (name : List ℕ) (data_of : Option EntityData) (v : Value) : Type 0 where
  pub kept : EntityData
  pub is_kept : data_of ≡ Some kept
  pub uid : Uid
  pub there : Has kept.ancestors uid
  pub named : bytes_eq name uid.type_name ≡ true
  pub value_is : value.Entity uid ≡ v

ancestor_in : (name : List ℕ) (o : Option EntityData) (v : Value) → Has (members_seen (out-Value (ancestors_value name o))) v → IsAbove name o v
ancestor_in name None v h = absurd (subst (λ (x : Value-F Value). Has (members_seen x) v) (out_Set []) h)
ancestor_in name (Some e) v h =
    let test : Uid → Bool = λ u. bytes_eq name u.type_name in
    let (u, k, is) = map-Has value.Entity (filter test e.ancestors) v (subst (λ (x : Value-F Value). Has (members_seen x) v) (out_Set (map value.Entity (filter test e.ancestors))) h) in
    record { kept = e; is_kept = refl; uid = u; there = filter_within test e.ancestors u k; named = filter_passes test e.ancestors u k; value_is = is }

in_ancestors : (name : List ℕ) (e : EntityData) (u : Uid) → Has e.ancestors u → bytes_eq name u.type_name ≡ true → Has (members_seen (out-Value (ancestors_value name (Some e)))) (value.Entity u)
in_ancestors name e u h f =
    let test : Uid → Bool = λ v. bytes_eq name v.type_name in
    subst (λ (x : Value-F Value). Has (members_seen x) (value.Entity u)) (sym (out_Set (map value.Entity (filter test e.ancestors))))
    (Has-map value.Entity (filter test e.ancestors) u (filter_kept test e.ancestors u h f))

uid_of : (x : Val) (u : Uid) → value.Entity u ≡ value_in x → uid_in x ≡ u
uid_of x u e = ap (λ (v : Value). uid_seen (out-Value v)) (sym e) ∙ ap uid_seen (out_Entity u)

module _ (w : World) where
  abbrev Stored : Tree → Option EntityData
  Stored e = entity_in (val e w) w

  val_above : (k : Sort) (e : Tree) → members_in (val (above k e) w) ≡ members_seen (out-Value (ancestors_value (name_in (out-Sort k)) (entity_in (val e w) w)))
  val_above k e = ap members_in (one_is (unary.Ancestors k) e w)

  is_above : (k : Sort) (x e : Tree) → is_true (member x (above k e)) w ≡ true → IsAbove (name_in (out-Sort k)) (entity_in (val e w) w) (value_in (val x w))
  is_above k x e h =
      ancestor_in (name_in (out-Sort k)) (entity_in (val e w) w) (value_in (val x w))
      (subst (λ (ms : List Value). Has ms (value_in (val x w))) (val_above k e) (is_member w x (above k e) h))

  above_so : (k : Sort) (x e : Tree) (d : EntityData) (u : Uid) → entity_in (val e w) w ≡ Some d → Has d.ancestors u → bytes_eq (name_in (out-Sort k)) u.type_name ≡ true → value.Entity u ≡ value_in (val x w)
      → is_true (member x (above k e)) w ≡ true
  above_so k x e d u is h f same =
      let name = name_in (out-Sort k) in
      let has : Has (members_seen (out-Value (ancestors_value name (entity_in (val e w) w)))) (value.Entity u) =
      subst (λ (o : Option EntityData). Has (members_seen (out-Value (ancestors_value name o))) (value.Entity u)) (sym is) (in_ancestors name d u h f) in
      member_so w x (above k e) (subst (λ (ms : List Value). Has ms (value_in (val x w))) (sym (val_above k e)) (subst (Has (members_seen (out-Value (ancestors_value name (entity_in (val e w) w))))) same has))

  -- ---- EN1

  val_attributes : (k : Sort) (e : Tree) → val (one (unary.Attributes k) e) w ≡ it (attributes_value k (entity_in (val e w) w))
  val_attributes k e = one_is (unary.Attributes k) e w

  attributes_one : (k l : Sort) (e f : Tree) → k ≡ l → val e w ≡ val f w → AreOne w (one (unary.Attributes k) e) (one (unary.Attributes l) f)
  unfolding tree_sort
  attributes_one k l e f h d = record {
    value = val_attributes k e ∙ (λ i. it (attributes_value (h i) (entity_in (d i) w))) ∙ sym (val_attributes l f);
    sorted = h;
  }

  -- what is said of two terms holds where both have one value
  abbrev AlikeHolds : Tree → Tree → Said → Type 0
  AlikeHolds x y said = AreOne w x y → Holds w said

  alike_some : (said : Said) (parts : List Signed) → Holds w said → said ≡ Some parts → some_holds w parts ≡ true
  alike_some said parts h e = subst (Holds w) e h

  en1_by : (x y r q : Tree) (said : Said) → (AreOne w r q → Holds w said) → Holds w (en1_of r q said)
  en1_by x y (one (unary.Attributes k) e) (one (unary.Attributes l) f) said h =
      under_holds w (sorts.eq k l) (unless (equal_term e f) ∷ []) said (λ t parts p. unless_else w (equal_term e f) parts (λ d.
      alike_some said parts (h (attributes_one k l e f ((sort_eq_decides k l).0 t) (is_equal w e f d))) p))
  en1_by x y (one (unary.Attributes k) e) _ said h = tt
  en1_by x y _ q said h = tt

  pub en1_holds : (x y : Tree) (i : ℕ) (z : Option Tree) → Holds w (en1 x y i z)
  en1_holds x y i z = en1_by x y (roots x y).0 (roots x y).1 (half x y i z) (λ h. half_holds w x y i z (places_one w x y h).value)

  -- ---- EN2, EN3

  -- equal entities have one set of an operator
  same_set : (o q : UnaryOp) (e f : Tree) → same_sets o q ≡ true → val e w ≡ val f w → val (one o e) w ≡ val (one q f) w
  same_set (unary.Ancestors k) (unary.Ancestors l) e f h d =
      one_is (unary.Ancestors k) e w
      ∙ ap (λ (s : Sort). it (ancestors_value (name_in (out-Sort s)) (entity_in (val e w) w))) ((sort_eq_decides k l).0 h)
      ∙ ap (λ (x : Val). it (ancestors_value (name_in (out-Sort l)) (entity_in x w))) d
      ∙ sym (one_is (unary.Ancestors l) f w)
  same_set unary.Keys unary.Keys e f h d =
      one_is unary.Keys e w ∙ ap (λ (x : Val). it (keys_value (entity_in x w))) d ∙ sym (one_is unary.Keys f w)
  same_set (unary.Ancestors k) _ e f h d = absurd cc
  same_set unary.Keys _ e f h d = absurd cc
  same_set _ _ e f h d = absurd cc

  en2_at : (x : Tree) (o q : UnaryOp) (e f : Tree) → Holds w (en2 x (one o e) (one q f))
  en2_at x o q e f = given_holds w (same_sets o q) _ (λ t. unless_else w (equal_term e f) _ (λ d. unless_else w (member x (one o e)) _ (λ m. so_holds w (member x (one q f)) []
      (member_moves w x x (one o e) (one q f) refl (λ v n. subst (λ (y : Val). Has (members_in y) v) (same_set o q e f t (is_equal w e f d)) n) m))))

  pub en2_holds : (x s z : Tree) → Holds w (en2 x s z)
  en2_holds x (one o e) (one q f) = en2_at x o q e f
  en2_holds x (one o e) (leaf l) = tt
  en2_holds x (one o e) (two q f g) = tt
  en2_holds x (one o e) (choice c f g) = tt
  en2_holds x (one o e) (many q ts) = tt
  en2_holds x (leaf l) z = tt
  en2_holds x (two o a b) z = tt
  en2_holds x (choice c a b) z = tt
  en2_holds x (many o ts) z = tt

  val_tag : (s : Sort) (e k : Tree) → val (two (binary.Tag s) e k) w ≡ it (tag_value s (text_in (val k w)) (entity_in (val e w) w))
  val_tag s e k = two_is (binary.Tag s) e k w

  tags_one : (s t : Sort) (e k f l : Tree) → s ≡ t → val e w ≡ val f w → val k w ≡ val l w → AreOne w (two (binary.Tag s) e k) (two (binary.Tag t) f l)
  unfolding tree_sort
  tags_one s t e k f l h d c = record {
    value = val_tag s e k ∙ (λ i. it (tag_value (h i) (text_in (c i)) (entity_in (d i) w))) ∙ sym (val_tag t f l);
    sorted = h;
  }

  en3_by : (x y r q : Tree) (said : Said) → (AreOne w r q → Holds w said) → Holds w (en3_of r q said)
  en3_by x y (two (binary.Tag s) e k) (two (binary.Tag t) f l) said h =
      under_holds w (sorts.eq s t) (unless (equal_term e f) ∷ unless (equal_term k l) ∷ []) said (λ q parts p.
      unless_else w (equal_term e f) (unless (equal_term k l) ∷ parts) (λ d. unless_else w (equal_term k l) parts (λ c.
      alike_some said parts (h (tags_one s t e k f l ((sort_eq_decides s t).0 q) (is_equal w e f d) (is_equal w k l c))) p)))
  en3_by x y (two (binary.Tag s) e k) _ said h = tt
  en3_by x y _ q said h = tt

  pub en3_holds : (x y : Tree) (i : ℕ) (z : Option Tree) → Holds w (en3 x y i z)
  en3_holds x y i z = en3_by x y (roots x y).0 (roots x y).1 (half x y i z) (λ h. half_holds w x y i z (places_one w x y h).value)

  -- ---- EN4, EN5

  pub en4_holds : (e : Tree) → AllByRecursion IsAcyclic w.store → Holds w (en4 e)
  en4_holds e acyclic = unless_holds w (member e (above (tree_sort e) e)) [] (by (is_true (member e (above (tree_sort e) e)) w) refl)
    where
      own : IsAbove (name_in (out-Sort (tree_sort e))) (entity_in (val e w) w) (value_in (val e w)) → ⊥
      own h =
          let same : uid_in (val e w) ≡ h.uid = uid_of (val e w) h.uid h.value_is in
          let here : stored h.uid w.store ≡ Some h.kept = ap (λ (u : Uid). stored u w.store) (sym same) ∙ h.is_kept in
          of_stored IsAcyclic h.uid h.kept w.store acyclic here (Contains-from_Has h.kept.ancestors h.uid h.there)

      by : (b : Bool) → is_true (member e (above (tree_sort e) e)) w ≡ b → b ≡ false
      by false f = refl
      by true f = absurd (own (is_above (tree_sort e) e e f))

  -- the ancestors of an ancestor
  upwards : (es : Entities) (u v : Uid) (d c : EntityData) → AllByRecursion (IsTransitive es) es → stored u es ≡ Some d → Has d.ancestors v → stored v es ≡ Some c → (z : Uid) → Has c.ancestors z → Has d.ancestors z
  upwards es u v d c transitive is h there z k =
      let all = of_stored (IsTransitive es) u d es transitive is in
      let at = all_element _ d.ancestors v all (Contains-from_Has d.ancestors v h) in
      Has-from_Contains d.ancestors z (all_element _ c.ancestors z (at_some (λ (e : EntityData). AllByRecursion (λ (b : Uid). Contains d.ancestors b) e.ancestors) (stored v es) c there at) (Contains-from_Has c.ancestors z k))
    where
      at_some : (P : EntityData → Type 0) (o : Option EntityData) (c : EntityData) → o ≡ Some c → IfSome o P → P c
      at_some P (Some b) c e h = let f : b ≡ c = cc in subst P f h
      at_some P None c e h = absurd cc

  en5_at : (e f x g : Tree) (k : Sort) → AllByRecursion (IsTransitive w.store) w.store → Holds w (en5 e f x (one (unary.Ancestors k) g))
  en5_at e f x g k transitive = given_holds w (tree_eq f g) _ (λ t. unless_else w (member f (above (tree_sort f) e)) _ (λ m. unless_else w (member x (above k g)) _ (λ n.
      let lower = is_above (tree_sort f) f e m in
      let upper = is_above k x g n in
      let same : uid_in (val g w) ≡ lower.uid = ap (λ (z : Tree). uid_in (val z w)) (sym (tree_eq-exact f g t)) ∙ uid_of (val f w) lower.uid lower.value_is in
      let here : stored lower.uid w.store ≡ Some upper.kept = ap (λ (u : Uid). stored u w.store) (sym same) ∙ upper.is_kept in
      so_holds w (member x (above k e)) []
      (above_so k x e lower.kept upper.uid lower.is_kept (upwards w.store (uid_in (val e w)) lower.uid lower.kept upper.kept transitive lower.is_kept lower.there here upper.uid upper.there) upper.named upper.value_is))))

  pub en5_holds : (e f x u : Tree) → AllByRecursion (IsTransitive w.store) w.store → Holds w (en5 e f x u)
  en5_holds e f x (one (unary.Ancestors k) g) transitive = en5_at e f x g k transitive
  en5_holds e f x (one o g) transitive = tt
  en5_holds e f x (leaf l) transitive = tt
  en5_holds e f x (two o a b) transitive = tt
  en5_holds e f x (choice c a b) transitive = tt
  en5_holds e f x (many o ts) transitive = tt

  -- ---- EN6

  -- a string
  abbrev pub IsAText : Tree → Type 0
  IsAText k = (text : List ℕ) × (val k w ≡ it (value.String text))

  no_tag_by : (b : Bool) (key name : List ℕ) (x : Value) (later : Option Value) → bytes_eq key name ≡ b → (key ≡ name → ⊥) → later ≡ None → cond b (Some x) later ≡ None
  no_tag_by true key name x later e other f = absurd (other (bytes_eq_true key name e))
  no_tag_by false key name x later e other f = f

  -- what is no key has no tag
  no_tag : (key : List ℕ) (tags : Fields) → (Has (map (λ (f : List ℕ × Value). value.String f.0) tags) (value.String key) → ⊥) → field key tags ≡ None
  no_tag key [] h = refl
  no_tag key (f ∷ tags) h =
      no_tag_by (bytes_eq key f.0) key f.0 f.1 (field key tags) refl (λ e. h (inl (ap value.String (sym e)))) (no_tag key tags (λ k. h (inr k)))

  keyless : (s : Sort) (text : List ℕ) (o : Option EntityData) → (Has (members_seen (out-Value (keys_value o))) (value.String text) → ⊥) → tag_value s text o ≡ default_of s
  keyless s text None h = refl
  keyless s text (Some e) h =
      ap (λ (o : Option Value). unwrap_or o (default_of s)) (no_tag text e.tags (λ k.
      h (subst (λ (x : Value-F Value). Has (members_seen x) (value.String text)) (sym (out_Set (map (λ (f : List ℕ × Value). value.String f.0) e.tags))) k)))

  pub en6_at : (s : Sort) (e k : Tree) → is_option s ≡ false → IsAText k → Holds w (en6 (two (binary.Tag s) e k))
  en6_at s e k plain (text, is) =
      so_else w (member k (keys e)) _ (λ m. so_holds w (equal_term (two (binary.Tag s) e k) (default_term s)) []
      (equal_so w (two (binary.Tag s) e k) (default_term s)
      (val_tag s e k
      ∙ ap (λ (x : Val). it (tag_value s (text_in x) (entity_in (val e w) w))) is
      ∙ ap (λ (t : List ℕ). it (tag_value s t (entity_in (val e w) w))) (ap text_seen (out_String text))
      ∙ ap it (keyless s text (entity_in (val e w) w) (λ h. never ⊥ (sym (member_so w k (keys e)
      (subst (λ (x : Val). Has (members_in x) (value_in (val k w))) (sym (one_is unary.Keys e w)) (subst (Has (members_seen (out-Value (keys_value (entity_in (val e w) w))))) (ap value_in (sym is)) h))) ∙ m)))
      ∙ sym (default_is s w ∙ ap (λ (b : Bool). default_by b (default_of s)) plain))))

  -- ---- EN7, EN8, EQ9

  -- an action is stored with just these ancestors
  pub record StoresAction (u : Uid) (us : List Uid) : Type 0 where
    pub kept : EntityData
    pub is_kept : stored u w.store ≡ Some kept
    pub ancestors_are : kept.ancestors ≡ us

  val_uid : (u : Uid) (choices : List Uid) → val (leaf (leafs.Literal (literal.Entity u choices))) w ≡ it (value.Entity u)
  unfolding val
  val_uid u choices = refl

  uid_found : (us : List Uid) (u : Uid) → is_uid_in us u ≡ true → Has us u
  uid_found [] u e = absurd cc
  uid_found (v ∷ us) u e = by (is_eq (uid_cmp u v)) refl (uid_found us u) e
    where
      by : (b : Bool) → is_eq (uid_cmp u v) ≡ b → (is_uid_in us u ≡ true → Has us u) → (b || is_uid_in us u) ≡ true → Has (v ∷ us) u
      by true f later e = inl (sym (uid_cmp_level u v (is_eq_true (uid_cmp u v) f)))
      by false f later e = inr (later e)

  -- the uid of a literal that is among some
  listed_uid : (us : List Uid) (x : Tree) → is_literal_of us x ≡ true → (u : Uid) × (val x w ≡ it (value.Entity u)) × Has us u
  listed_uid us (leaf (leafs.Literal (literal.Entity u choices))) e = (u, val_uid u choices, uid_found us u e)
  listed_uid us (leaf (leafs.Literal (literal.Bool b))) e = absurd cc
  listed_uid us (leaf (leafs.Literal (literal.Long n))) e = absurd cc
  listed_uid us (leaf (leafs.Literal (literal.String t))) e = absurd cc
  listed_uid us (leaf (leafs.Literal (literal.Decimal n))) e = absurd cc
  listed_uid us (leaf (leafs.Literal (literal.Ip ip))) e = absurd cc
  listed_uid us (leaf (leafs.None k)) e = absurd cc
  listed_uid us (leaf (leafs.Principal k)) e = absurd cc
  listed_uid us (leaf (leafs.Resource k)) e = absurd cc
  listed_uid us (leaf (leafs.Context k)) e = absurd cc
  listed_uid us (one o a) e = absurd cc
  listed_uid us (two o a b) e = absurd cc
  listed_uid us (choice c a b) e = absurd cc
  listed_uid us (many o ts) e = absurd cc

  -- an entity is no truth value, which stands for what an option holds
  plain_uid : (x : Val) (u : Uid) → value.Entity u ≡ value_in x → x ≡ it (value.Entity u)
  plain_uid (it v) u f = ap it (sym f)
  plain_uid (maybe o) u f = let both : v.Entity u ≡ v.Bool false = sym (out_Entity u) ∙ ap out-Value f ∙ out_Bool false in absurd cc

  en7_at : (d : Declarations) (k : Sort) (u : Uid) (choices us : List Uid) (x : Tree) → StoresAction u us
      → some_holds w (en7_of d (above k (leaf (leafs.Literal (literal.Entity u choices)))) (of_type_name (name_in (out-Sort k)) us) x) ≡ true
  en7_at d k u choices us x is = by (is_literal_of typed x) refl
    where
      name : List ℕ
      name = name_in (out-Sort k)

      typed : List Uid
      typed = of_type_name (name_in (out-Sort k)) us

      a : Tree
      a = leaf (leafs.Literal (literal.Entity u choices))

      entity_is : entity_in (val a w) w ≡ Some is.kept
      entity_is = ap (λ (z : Val). entity_in z w) (val_uid u choices) ∙ ap (λ (z : Uid). stored z w.store) (ap uid_seen (out_Entity u)) ∙ is.is_kept

      by : (b : Bool) → is_literal_of typed x ≡ b → some_holds w (cond b (so (member x (above k a)) ∷ []) (unless (member x (above k a)) ∷ map (λ v. so (equal_term x (entity d v))) typed)) ≡ true
      by true e =
          let (v, x_is, h) = listed_uid typed x e in
          so_holds w (member x (above k a)) []
          (above_so k x a is.kept v entity_is
          (subst (λ (vs : List Uid). Has vs v) (sym is.ancestors_are) (filter_within (λ (z : Uid). bytes_eq name z.type_name) us v h))
          (filter_passes (λ (z : Uid). bytes_eq name z.type_name) us v h) (ap value_in (sym x_is)))
      by false e = unless_else w (member x (above k a)) _ (λ m.
          let up = is_above k x a m in
          let kept_is : up.kept ≡ is.kept = same_some (sym up.is_kept ∙ entity_is) in
          let there : Has us up.uid = subst (λ (vs : List Uid). Has vs up.uid) (ap (λ (z : EntityData). z.ancestors) kept_is ∙ is.ancestors_are) up.there in
          one_of w (λ z. equal_term x (entity d z)) typed up.uid (filter_kept (λ (z : Uid). bytes_eq name z.type_name) us up.uid there up.named)
          (equal_so w x (entity d up.uid) (plain_uid (val x w) up.uid up.value_is ∙ sym (val_uid up.uid (choices_of d up.uid.type_name)))))

  en7_known : (d : Declarations) (k : Sort) (u : Uid) (choices : List Uid) (o : Option (List Uid)) (x : Tree) → ((us : List Uid) → o ≡ Some us → StoresAction u us)
      → Holds w (en7_by d (above k (leaf (leafs.Literal (literal.Entity u choices)))) (name_in (out-Sort k)) o x)
  en7_known d k u choices None x is = tt
  en7_known d k u choices (Some us) x is = en7_at d k u choices us x (is us refl)

  pub en7_holds : (d : Declarations) (k : Sort) (u : Uid) (choices : List Uid) (x : Tree) → ((us : List Uid) → action_ancestors d u ≡ Some us → StoresAction u us)
      → Holds w (en7 d (one (unary.Ancestors k) (leaf (leafs.Literal (literal.Entity u choices)))) x)
  en7_holds d k u choices x is = en7_known d k u choices (action_ancestors d u) x is

  -- one of those that its sort lists
  pub chosen_at : (d : Declarations) (x : Tree) (asked : Bool) (us : List Uid) → (not (length us == 0) ≡ true → (u : Uid) × (val x w ≡ it (value.Entity u)) × Has us u) → Holds w (chosen_of d x asked us)
  chosen_at d x asked us found = given_holds w (asked && not (length us == 0)) _ (λ t.
      let (u, is, h) = found (and_second asked (not (length us == 0)) t) in
      one_of w (λ z. equal_term x (entity d z)) us u h (equal_so w x (entity d u) (is ∙ sym (val_uid u (choices_of d u.type_name)))))
