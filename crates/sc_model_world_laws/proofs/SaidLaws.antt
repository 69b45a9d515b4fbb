-- What a closed term says of an entity, and which terms say something.
use Rattle.std.proofs.Common.{◌≡◌, ◌&&◌, inl, inr, cond, ℕ, Bool, true, false, List, [], ◌∷◌, map, Some, None, refl, sym, ap, ◌∙◌, subst}
use Rattle.std.specs.Cmp.Derive.{both_true}
use Rattle.std.specs.Str.{bytes_eq}
use Rattle.std.proofs.lemmas.Slice.Eq.{bytes_eq-Decides}
use Rattle.sc_lists.proofs.MemberLaws.{Has-map, map-Has}
use Rattle.sc_lists.proofs.TextLaws.{bytes_eq_true}
use Rattle.sc_lists.specs.Members.{Has}
use Rattle.sc_names.specs.declared.uid.Uid.{Uid}
use Rattle.sc_schema.specs.Declarations.{uid_eq}
use Rattle.sc_schema.proofs.PlaceLaws.{uid_eq-Decides}
use Rattle.sc_values.specs.declared.value.Value.{Value}
use Rattle.sc_values.specs.Records.{Fields}
use Rattle.sc_sorts.specs.declared.sort.Sort.{Sort, Sort-F, out-Sort}
use Rattle.sc_sorts.specs.declared.sort.Sort.TheVariants as sort
use Rattle.sc_sorts.specs.declared.sort.Sort.TheVariants.{rolls-Entity}
use Rattle.sc_sorts.specs.declared.sort.Sort.TheOpen as s
use Rattle.sc_sorts.proofs.OutLaws.{out_Entity}
use Rattle.sc_sorts.specs.declared.node.Leaf.TheVariants.{Context}
use Rattle.sc_sorts.specs.declared.node.UnaryOp.TheVariants as unary
use Rattle.sc_sorts.specs.declared.node.BinaryOp.TheVariants as binary
use Rattle.sc_terms.specs.Trees.{Tree, leaf, one, two}
use Rattle.sc_terms.specs.TreeSorts.{tree_sort}
use Rattle.sc_terms.specs.Values.{value_in, record_in}
use Rattle.sc_term_laws.proofs.TestLaws.{at_level}
use Rattle.sc_model_laws.specs.Vals.{Model, assigned, val_of}
use Rattle.sc_model_world_laws.specs.Rebuilt.{attributes_said, ancestors_said, keys_said, tag_said, context_said, entity_by, entity_said}

one_uid : (u v : Uid) → uid_eq u v ≡ true → u ≡ v
one_uid u v e = (uid_eq-Decides u v).0 e

uid_same : (u v : Uid) → u ≡ v → uid_eq u v ≡ true
uid_same u v e = (uid_eq-Decides u v).1 e

module _ (m : Model) (u : Uid) where
  -- ---- attributes

  pub record SaysAttributes (y : Tree) (r : Fields) : Type 0 where
    pub own : Sort
    pub entity : Tree
    pub is : y ≡ one (unary.Attributes own) entity
    pub named : m.uid entity ≡ u
    pub said : r ≡ record_in (val_of m own y)

  pub attributes_told : (y : Tree) (r : Fields) → attributes_said m u y ≡ Some r → SaysAttributes y r
  attributes_told (one (unary.Attributes own) e) r h = by (uid_eq (m.uid e) u) refl h where
    by : (b : Bool) → uid_eq (m.uid e) u ≡ b → cond b (Some (record_in (val_of m own (one (unary.Attributes own) e)))) None ≡ Some r → SaysAttributes (one (unary.Attributes own) e) r
    by true q f = let same : record_in (val_of m own (one (unary.Attributes own) e)) ≡ r = cc in
        record { own = own; entity = e; is = refl; named = one_uid (m.uid e) u q; said = sym same }
    by false q f = absurd cc
  attributes_told _ r h = absurd cc

  pub says_attributes : (own : Sort) (e : Tree) → m.uid e ≡ u → attributes_said m u (one (unary.Attributes own) e) ≡ Some (record_in (val_of m own (one (unary.Attributes own) e)))
  says_attributes own e q = ap (λ (b : Bool). cond b (Some (record_in (val_of m own (one (unary.Attributes own) e)))) None) (uid_same (m.uid e) u q)

  -- ---- ancestors

  pub record SaysAncestor (y : Tree) (v : Uid) : Type 0 where
    pub own : Sort
    pub entity : Tree
    pub is : y ≡ one (unary.Ancestors own) entity
    pub named : m.uid entity ≡ u
    pub member : Tree
    pub among : Has (assigned m (one (unary.Ancestors own) entity)) member
    pub said : m.uid member ≡ v

  pub ancestors_told : (y : Tree) (v : Uid) → Has (ancestors_said m u y) v → SaysAncestor y v
  ancestors_told (one (unary.Ancestors own) e) v h = by (uid_eq (m.uid e) u) refl h where
    by : (b : Bool) → uid_eq (m.uid e) u ≡ b → Has (cond b (map m.uid (assigned m (one (unary.Ancestors own) e))) []) v → SaysAncestor (one (unary.Ancestors own) e) v
    by true q f = let y = map-Has m.uid (assigned m (one (unary.Ancestors own) e)) v f in
        record { own = own; entity = e; is = refl; named = one_uid (m.uid e) u q; member = y.0; among = y.1; said = y.2 }
    by false q f = absurd f
  ancestors_told _ v h = absurd h

  pub says_ancestor : (own : Sort) (e y : Tree) → m.uid e ≡ u → Has (assigned m (one (unary.Ancestors own) e)) y → Has (ancestors_said m u (one (unary.Ancestors own) e)) (m.uid y)
  says_ancestor own e y q h =
      subst (λ (b : Bool). Has (cond b (map m.uid (assigned m (one (unary.Ancestors own) e))) []) (m.uid y)) (sym (uid_same (m.uid e) u q))
      (Has-map m.uid (assigned m (one (unary.Ancestors own) e)) y h)

  -- ---- keys

  pub record SaysKey (y : Tree) (t : List ℕ) : Type 0 where
    pub entity : Tree
    pub is : y ≡ one unary.Keys entity
    pub named : m.uid entity ≡ u
    pub member : Tree
    pub among : Has (assigned m (one unary.Keys entity)) member
    pub said : m.text member ≡ t

  pub keys_told : (y : Tree) (t : List ℕ) → Has (keys_said m u y) t → SaysKey y t
  keys_told (one unary.Keys e) t h = by (uid_eq (m.uid e) u) refl h where
    by : (b : Bool) → uid_eq (m.uid e) u ≡ b → Has (cond b (map m.text (assigned m (one unary.Keys e))) []) t → SaysKey (one unary.Keys e) t
    by true q f = let y = map-Has m.text (assigned m (one unary.Keys e)) t f in
        record { entity = e; is = refl; named = one_uid (m.uid e) u q; member = y.0; among = y.1; said = y.2 }
    by false q f = absurd f
  keys_told _ t h = absurd h

  pub says_key : (e y : Tree) → m.uid e ≡ u → Has (assigned m (one unary.Keys e)) y → Has (keys_said m u (one unary.Keys e)) (m.text y)
  says_key e y q h =
      subst (λ (b : Bool). Has (cond b (map m.text (assigned m (one unary.Keys e))) []) (m.text y)) (sym (uid_same (m.uid e) u q)) (Has-map m.text (assigned m (one unary.Keys e)) y h)

  -- ---- tags

  pub record SaysTag (key : List ℕ) (y : Tree) (x : Value) : Type 0 where
    pub own : Sort
    pub entity : Tree
    pub under : Tree
    pub is : y ≡ two (binary.Tag own) entity under
    pub named : m.uid entity ≡ u
    pub keyed : m.text under ≡ key
    pub said : x ≡ value_in (val_of m own y)

  pub tag_told : (key : List ℕ) (y : Tree) (x : Value) → tag_said m u key y ≡ Some x → SaysTag key y x
  tag_told key (two (binary.Tag own) e k) x h = by (uid_eq (m.uid e) u) (bytes_eq (m.text k) key) refl refl h where
    by : (b c : Bool) → uid_eq (m.uid e) u ≡ b → bytes_eq (m.text k) key ≡ c → cond (b && c) (Some (value_in (val_of m own (two (binary.Tag own) e k)))) None ≡ Some x
        → SaysTag key (two (binary.Tag own) e k) x
    by true true q r f = let same : value_in (val_of m own (two (binary.Tag own) e k)) ≡ x = cc in
        record { own = own; entity = e; under = k; is = refl; named = one_uid (m.uid e) u q; keyed = bytes_eq_true (m.text k) key r; said = sym same }
    by true false q r f = absurd cc
    by false c q r f = absurd cc
  tag_told key _ x h = absurd cc

  pub says_tag : (own : Sort) (e k : Tree) → m.uid e ≡ u → tag_said m u (m.text k) (two (binary.Tag own) e k) ≡ Some (value_in (val_of m own (two (binary.Tag own) e k)))
  says_tag own e k q =
      ap (λ (b : Bool). cond b (Some (value_in (val_of m own (two (binary.Tag own) e k)))) None) (both_true (uid_same (m.uid e) u q) ((bytes_eq-Decides (m.text k) (m.text k)).1 refl))

module _ (m : Model) where
  -- ---- the context

  pub record SaysContext (y : Tree) (r : Fields) : Type 0 where
    pub own : Sort
    pub is : y ≡ leaf (Context own)
    pub said : r ≡ record_in (val_of m own y)

  pub context_told : (y : Tree) (r : Fields) → context_said m y ≡ Some r → SaysContext y r
  context_told (leaf (Context k)) r h = let same : record_in (val_of m k (leaf (Context k))) ≡ r = cc in record { own = k; is = refl; said = sym same }
  context_told _ r h = absurd cc

  -- ---- entities of types that are none of actions

  pub record SaysEntity (x : Tree) (u : Uid) : Type 0 where
    pub name : List ℕ
    pub sorted : tree_sort x ≡ sort.Entity name []
    pub said : m.uid x ≡ u

  pub entity_told : (x : Tree) (u : Uid) → Has (entity_said m x) u → SaysEntity x u
  entity_told x u h = by (out-Sort (tree_sort x)) refl h where
    by : (l : Sort-F Sort) → out-Sort (tree_sort x) ≡ l → Has (entity_by l (m.uid x)) u → SaysEntity x u
    by (s.Entity name []) e (inl is) = record { name = name; sorted = at_level (tree_sort x) (s.Entity name []) e ∙ rolls-Entity name []; said = is }
    by (s.Entity name []) e (inr none) = absurd none
    by (s.Entity name (v ∷ vs)) e f = absurd f
    by _ e f = absurd f

  pub says_entity : (name : List ℕ) (x : Tree) → tree_sort x ≡ sort.Entity name [] → Has (entity_said m x) (m.uid x)
  says_entity name x e = subst (λ (l : Sort-F Sort). Has (entity_by l (m.uid x)) (m.uid x)) (sym (ap out-Sort e ∙ out_Entity name [])) (inl refl)
