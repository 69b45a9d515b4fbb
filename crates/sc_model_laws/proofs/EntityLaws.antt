-- What a model tells of equal entities: they have the same attributes, ancestors, keys and tags. Ancestors of ancestors are ancestors,
-- none is its own, and a tag without a key is the default.
use Rattle.std.proofs.Common.{◌≡◌, ◌==◌, inl, inr, ℕ, Bool, true, false, length, List, [], ◌∷◌, Option, Some, unwrap_or, Contains, refl, sym, ap, ◌∙◌, subst}
use Rattle.std.specs.List.{AllByRecursion}
use Rattle.std.specs.Cmp.Derive.{both_true}
use Rattle.sc_lists.specs.Members.{Has}
use Rattle.sc_lists.proofs.MemberLaws.{Has-from_Contains}
use Rattle.sc_laws.proofs.OptionLaws.{same_some}
use Rattle.sc_laws.proofs.BoolLaws.{true_both}
use Rattle.sc_names.specs.declared.uid.Uid.{Uid}
use Rattle.sc_schema.specs.declared.declarations.Env.{Env}
use Rattle.sc_schema.specs.declared.ty.Ty.{Ty}
use Rattle.sc_schema.specs.Declarations.{Declarations, attrs_of, tags_of, ancestor_types, is_action_type}
use Rattle.sc_schema.specs.Lawful.{IsLawful}
use Rattle.sc_sorts.specs.declared.sort.Sort.{Sort, out-Sort}
use Rattle.sc_sorts.specs.declared.sort.Sort.TheVariants as sort
use Rattle.sc_sorts.specs.contracts.sort.SortPartialEq.TheImpl.{ghosts as sorts}
use Rattle.sc_sorts.specs.Entities.{choices_of, entity_sort}
use Rattle.sc_sorts.specs.OfTypes.{sort_of}
use Rattle.sc_sorts.specs.OrderLaws.{sort_eq_decides}
use Rattle.sc_sorts.proofs.OutLaws.{out_Entity}
use Rattle.sc_sorts.specs.declared.node.UnaryOp.{UnaryOp}
use Rattle.sc_sorts.specs.declared.node.UnaryOp.TheVariants as unary
use Rattle.sc_sorts.specs.declared.node.BinaryOp.TheVariants as binary
use Rattle.sc_terms.specs.Trees.{Tree, one, two}
use Rattle.sc_terms.specs.TreeSorts.{tree_sort}
use Rattle.sc_terms.specs.Order.{tree_eq}
use Rattle.sc_terms.specs.Folds.{equal_term, default_term}
use Rattle.sc_terms.specs.Values.{default_val}
use Rattle.sc_terms.proofs.OrderLaws.{tree_eq-itself}
use Rattle.sc_term_laws.specs.Judging.{IsTermOf}
use Rattle.sc_term_laws.specs.Judging as judged
use Rattle.sc_term_laws.proofs.JudgingLaws.{sort_is}
use Rattle.sc_term_laws.proofs.SortsLawful.{below_lists}
use Rattle.sc_rule_laws.specs.Signed.{Signed, Said, so, unless, given}
use Rattle.sc_rule_laws.specs.Terms.{one_sort, choices_in, choices_level}
use Rattle.sc_rule_laws.specs.Sets.{se1}
use Rattle.sc_rule_laws.specs.Entities.{same_sets, en1_of, en1, en2, en3_of, en3, en4, en5, en6}
use Rattle.sc_rule_laws.specs.Places.{roots, half, under}
use Rattle.sc_closure_rules.specs.Closure.{Closed, are_linked}
use Rattle.sc_closure_rules.proofs.UpLaws.{above_within}
use Rattle.sc_closure_rules.specs.Goals.{IsGoal}
use Rattle.sc_model_laws.specs.Assignments.{lit, some_hold}
use Rattle.sc_model_laws.specs.Consistent.{IsRuleAt, of_se1, of_en1, of_en2, of_en3, of_en4, of_en5, of_en6}
use Rattle.sc_model_laws.specs.Laws.{EquationsAgree}
use Rattle.sc_model_laws.specs.Vals.{Model, assigned, val_of}
use Rattle.sc_model_laws.specs.Models.{IsModel}
use Rattle.sc_model_laws.proofs.HoldLaws.{second, third, last, others}
use Rattle.sc_model_laws.proofs.ClosureLaws.{of_part, tag_keys, tag_key, tag_default, above_closed, strings_equation, entities_equation, linked_member, entity_member, ancestor_member}
use Rattle.sc_model_laws.proofs.DefaultLaws.{AreAddresses, is_default}
use Rattle.sc_model_laws.proofs.LinkLaws.{AreLinked, linked_val}
use Rattle.sc_model_laws.proofs.FittingLaws.{AreMade, is_assigned, assigned_is, assigned_sorted, lawful_at}

module _ (d : Declarations) (env : Env) (literals : List Uid) where
  -- attributes of an entity
  pub record OfAttributes (k : Sort) (e : Tree) : Type 0 where
    pub name : List ℕ
    pub type : Ty
    pub declared : attrs_of d name ≡ Some type
    pub own : k ≡ sort_of type
    pub sorted : tree_sort e ≡ entity_sort d name

  pub of_attributes : (j k : Sort) (e : Tree) → IsTermOf d env literals j (one (unary.Attributes k) e) → OfAttributes k e
  of_attributes _ _ _ (judged.of_attributes name t e g h) = record { name = name; type = t; declared = g; own = refl; sorted = sort_is d env literals (entity_sort d name) e h }

  -- ancestors of an entity, of a type
  pub record OfAncestors (k : Sort) (e : Tree) : Type 0 where
    pub name : List ℕ
    pub above : List ℕ
    pub names : List (List ℕ)
    pub declared : ancestor_types d name ≡ Some names
    pub among : Contains names above
    pub own : k ≡ entity_sort d above
    pub sorted : tree_sort e ≡ entity_sort d name

  pub of_ancestors : (j k : Sort) (e : Tree) → IsTermOf d env literals j (one (unary.Ancestors k) e) → OfAncestors k e
  of_ancestors _ _ _ (judged.of_ancestors name above names e g c h) =
      record { name = name; above = above; names = names; declared = g; among = c; own = refl; sorted = sort_is d env literals (entity_sort d name) e h }

  -- keys of an entity's tags
  pub record OfKeys (e : Tree) : Type 0 where
    pub name : List ℕ
    pub type : Ty
    pub declared : tags_of d name ≡ Some type
    pub sorted : tree_sort e ≡ entity_sort d name

  pub of_keys : (j : Sort) (e : Tree) → IsTermOf d env literals j (one unary.Keys e) → OfKeys e
  of_keys _ _ (judged.of_keys name t e g h) = record { name = name; type = t; declared = g; sorted = sort_is d env literals (entity_sort d name) e h }

  -- a tag of an entity
  pub record OfTag (k : Sort) (e x : Tree) : Type 0 where
    pub name : List ℕ
    pub type : Ty
    pub declared : tags_of d name ≡ Some type
    pub own : k ≡ sort_of type
    pub sorted : tree_sort e ≡ entity_sort d name
    pub key : tree_sort x ≡ sort.String

  pub of_tag : (j k : Sort) (e x : Tree) → IsTermOf d env literals j (two (binary.Tag k) e x) → OfTag k e x
  of_tag _ _ _ _ (judged.of_tag name t e x g h i) =
      record { name = name; type = t; declared = g; own = refl; sorted = sort_is d env literals (entity_sort d name) e h; key = sort_is d env literals sort.String x i }
  of_tag _ _ _ _ (judged.of_arithmetic _ _ _ (judged.of_sum _ i) _ _) = elim i [ ]
  of_tag _ _ _ _ (judged.of_overflow _ _ _ i _ _) = elim i [ ]
  of_tag _ _ _ _ (judged.of_sets _ _ _ _ i _ _) = elim i [ ]
  of_tag _ _ _ _ (judged.of_pick _ _ _ _ i _ _) = elim i [ ]

pub attributes_sort : (k : Sort) (e : Tree) → tree_sort (one (unary.Attributes k) e) ≡ k
unfolding tree_sort
attributes_sort k e = refl

pub ancestors_sort : (k : Sort) (e : Tree) → tree_sort (one (unary.Ancestors k) e) ≡ sort.Set k
unfolding tree_sort
ancestors_sort k e = refl

pub keys_sort : (e : Tree) → tree_sort (one unary.Keys e) ≡ sort.Set sort.String
unfolding tree_sort
keys_sort e = refl

pub tag_sort : (k : Sort) (e x : Tree) → tree_sort (two (binary.Tag k) e x) ≡ k
unfolding tree_sort
tag_sort k e x = refl

own_roots : (k l : Sort) (e f : Tree) → roots (one (unary.Attributes k) e) (one (unary.Attributes l) f) ≡ (one (unary.Attributes k) e, one (unary.Attributes l) f)
unfolding roots
own_roots k l e f = refl

tag_roots : (k l : Sort) (e f x y : Tree) → roots (two (binary.Tag k) e x) (two (binary.Tag l) f y) ≡ (two (binary.Tag k) e x, two (binary.Tag l) f y)
unfolding roots
tag_roots k l e f x y = refl

-- ancestors, and keys, of entities of one type are linked
one_type : (e f : Tree) → tree_sort e ≡ tree_sort f → one_sort e f ≡ true
one_type e f s = (sort_eq_decides (tree_sort e) (tree_sort f)).1 s

ancestors_linked : (k : Sort) (e f : Tree) → tree_sort e ≡ tree_sort f → are_linked (one (unary.Ancestors k) e) (one (unary.Ancestors k) f) ≡ true
unfolding roots
ancestors_linked k e f s = both_true (one_type (one (unary.Ancestors k) e) (one (unary.Ancestors k) f) (ancestors_sort k e ∙ sym (ancestors_sort k f))) (one_type e f s)

keys_linked : (e f : Tree) → tree_sort e ≡ tree_sort f → are_linked (one unary.Keys e) (one unary.Keys f) ≡ true
unfolding roots
keys_linked e f s = both_true (one_type (one unary.Keys e) (one unary.Keys f) (keys_sort e ∙ sym (keys_sort f))) (one_type e f s)

passed : (test : Bool) (parts : List Signed) → test ≡ true → given test parts ≡ Some parts
passed test parts e = ap (λ t. given t parts) e

module _ (d : Declarations) (env : Env) (literals : List Uid) (goal : Tree) (made : AreMade d env literals goal) (m : Model) (model : IsModel d env goal m) where
  abbrev IsClosed : Tree → Type 0
  IsClosed = Closed d env goal

  abbrev true_at : Tree → Type 0
  true_at t = lit m.truths t ≡ true

  pub ruled : (said : Said) (parts : List Signed) → IsRuleAt d (Closed d env goal) said → said ≡ Some parts → AllByRecursion (λ (s : Signed). Closed d env goal s.1) parts → some_hold m.truths parts ≡ true
  ruled said parts r e all = model.consistent.rules parts (subst (IsRuleAt d (Closed d env goal)) e r) all

  lit_member : (x y : Tree) → lit m.truths (two binary.Member y x) ≡ m.truths (two binary.Member y x)
  unfolding lit
  lit_member x y = refl

  pub member_true : (x y : Tree) → Has (assigned m x) y → Closed d env goal (two binary.Member y x) × (lit m.truths (two binary.Member y x) ≡ true)
  member_true x y h = let r = is_assigned d env literals goal made m model x y h in (r.0, lit_member x y ∙ r.1)

  pub true_member : (x y : Tree) → Closed d env goal (two binary.Member y x) → lit m.truths (two binary.Member y x) ≡ true → Has (assigned m x) y
  true_member x y c t = assigned_is d env literals goal made m model x y c (sym (lit_member x y) ∙ t)

  -- ---- entities by their names

  pub named_type : (name : List ℕ) (e : Tree) → tree_sort e ≡ entity_sort d name → (m.uid e).type_name ≡ name
  named_type name e s = model.typed name (choices_of d name) e s

  pub one_name : (name other : List ℕ) (e f : Tree) → tree_sort e ≡ entity_sort d name → tree_sort f ≡ entity_sort d other → m.uid e ≡ m.uid f → name ≡ other
  one_name name other e f s r u = sym (named_type name e s) ∙ ap (λ (v : Uid). v.type_name) u ∙ named_type other f r

  pub one_kind : (name other : List ℕ) (e f : Tree) → tree_sort e ≡ entity_sort d name → tree_sort f ≡ entity_sort d other → m.uid e ≡ m.uid f → tree_sort e ≡ tree_sort f
  one_kind name other e f s r u = s ∙ ap (entity_sort d) (one_name name other e f s r u) ∙ sym r

  -- the equation of two terms of one entity
  pub one_entity : (name : List ℕ) (e f : Tree) → tree_sort e ≡ entity_sort d name → tree_sort f ≡ entity_sort d name → Closed d env goal e → Closed d env goal f → m.uid e ≡ m.uid f
      → Closed d env goal (equal_term e f) × (lit m.truths (equal_term e f) ≡ true)
  one_entity name e f s r c i u = (
    entities_equation d env goal name (choices_of d name) e f s r c i,
    (model.uids name (choices_of d name) e f (c, s) (i, r)).0 u,
  )

  one_text : (x y : Tree) → tree_sort x ≡ sort.String → tree_sort y ≡ sort.String → IsClosed x → IsClosed y → m.text x ≡ m.text y → IsClosed (equal_term x y) × true_at (equal_term x y)
  one_text x y s r c i t = (strings_equation d env goal x y s r c i, (model.texts x y (c, s) (i, r)).0 t)

  -- ---- members of ancestors and keys

  -- what equals a member is a member
  moved : (x y s : Tree) → IsClosed x → IsClosed y → IsClosed s → IsClosed (equal_term x y) × true_at (equal_term x y) → IsClosed (two binary.Member x s) × true_at (two binary.Member x s)
      → IsClosed (two binary.Member y s) → true_at (two binary.Member y s)
  moved x y s c e g q h i =
      third m.truths false false true (equal_term x y) (two binary.Member x s) (two binary.Member y s)
      (ruled (se1 x y s) (unless (equal_term x y) ∷ unless (two binary.Member x s) ∷ so (two binary.Member y s) ∷ []) (of_se1 x y s c e g) refl (q.0, (h.0, (i, tt)))) q.1 h.1

  -- equal entities have the same members
  pub members_move : (o : UnaryOp) (k : Sort) (name other : List ℕ) (e f y : Tree) → same_sets o o ≡ true → are_linked (one o e) (one o f) ≡ true → tree_sort (one o e) ≡ sort.Set k → tree_sort (one o f) ≡ sort.Set k
      → tree_sort e ≡ entity_sort d name → tree_sort f ≡ entity_sort d other → Closed d env goal (one o e) → Closed d env goal (one o f) → m.uid e ≡ m.uid f
      → Has (assigned m (one o e)) y → Has (assigned m (one o f)) y
  members_move o k name other e f y same linked g h s r c i u a =
      let n : entity_sort d other ≡ entity_sort d name = ap (entity_sort d) (sym (one_name name other e f s r u)) in
      let q = one_entity name e f s (r ∙ n) (of_part d env goal (one o e) e c (inl refl)) (of_part d env goal (one o f) f i (inl refl)) u in
      let t = member_true (one o e) y a in
      let there = assigned_sorted d env literals goal made m model k (one o e) y g a in
      let after : Closed d env goal (two binary.Member y (one o f)) = linked_member d env goal k y (one o e) (one o f) refl t.0 h i linked in
      let parts : List Signed = unless (equal_term e f) ∷ unless (two binary.Member y (one o e)) ∷ so (two binary.Member y (one o f)) ∷ [] in
      true_member (one o f) y after
      (third m.truths false false true (equal_term e f) (two binary.Member y (one o e)) (two binary.Member y (one o f))
      (ruled (en2 y (one o e) (one o f)) parts (of_en2 y (one o e) (one o f) there.0 c i) (passed (same_sets o o) parts same) (q.0, (t.0, (after, tt)))) q.1 t.1)

  pub ancestors_move : (k : Sort) (e f y : Tree) → Closed d env goal (one (unary.Ancestors k) e) → Closed d env goal (one (unary.Ancestors k) f) → m.uid e ≡ m.uid f
      → Has (assigned m (one (unary.Ancestors k) e)) y → Has (assigned m (one (unary.Ancestors k) f)) y
  ancestors_move k e f y c i u a =
      let p = of_ancestors d env literals (tree_sort (one (unary.Ancestors k) e)) k e (made (one (unary.Ancestors k) e) c) in
      let q = of_ancestors d env literals (tree_sort (one (unary.Ancestors k) f)) k f (made (one (unary.Ancestors k) f) i) in
      members_move (unary.Ancestors k) k p.name q.name e f y ((sort_eq_decides k k).1 refl)
      (ancestors_linked k e f (one_kind p.name q.name e f p.sorted q.sorted u)) (ancestors_sort k e) (ancestors_sort k f) p.sorted q.sorted c i u a

  pub keys_move : (e f y : Tree) → Closed d env goal (one unary.Keys e) → Closed d env goal (one unary.Keys f) → m.uid e ≡ m.uid f
      → Has (assigned m (one unary.Keys e)) y → Has (assigned m (one unary.Keys f)) y
  keys_move e f y c i u a =
      let p = of_keys d env literals (tree_sort (one unary.Keys e)) e (made (one unary.Keys e) c) in
      let q = of_keys d env literals (tree_sort (one unary.Keys f)) f (made (one unary.Keys f) i) in
      members_move unary.Keys sort.String p.name q.name e f y refl (keys_linked e f (one_kind p.name q.name e f p.sorted q.sorted u)) (keys_sort e) (keys_sort f) p.sorted q.sorted c i u a

  -- ---- ancestors of ancestors

  -- an ancestor's term under its ancestors is one too
  ancestor_true : (k : Sort) (e y f : Tree) → IsClosed (one (unary.Ancestors k) e) → Has (assigned m (one (unary.Ancestors k) e)) y → IsClosed f → tree_sort f ≡ k
      → (c : IsClosed (two binary.Member f (one (unary.Ancestors k) e))) → m.uid y ≡ m.uid f → true_at (two binary.Member f (one (unary.Ancestors k) e))
  ancestor_true k e y f c a i s g u =
      let p = of_ancestors d env literals (tree_sort (one (unary.Ancestors k) e)) k e (made (one (unary.Ancestors k) e) c) in
      let there = assigned_sorted d env literals goal made m model k (one (unary.Ancestors k) e) y (ancestors_sort k e) a in
      moved y f (one (unary.Ancestors k) e) there.0 i c (one_entity p.above y f (there.1 ∙ p.own) (s ∙ p.own) there.0 i u) (member_true (one (unary.Ancestors k) e) y a) g

  pub acyclic : (k : Sort) (e y : Tree) → Closed d env goal (one (unary.Ancestors k) e) → Has (assigned m (one (unary.Ancestors k) e)) y → m.uid y ≡ m.uid e → ⊥
  acyclic k e y c a u =
      let p = of_ancestors d env literals (tree_sort (one (unary.Ancestors k) e)) k e (made (one (unary.Ancestors k) e) c) in
      let there = assigned_sorted d env literals goal made m model k (one (unary.Ancestors k) e) y (ancestors_sort k e) a in
      let i : Closed d env goal e = of_part d env goal (one (unary.Ancestors k) e) e c (inl refl) in
      let s : tree_sort e ≡ k = sym (one_kind p.above p.name y e (there.1 ∙ p.own) p.sorted u) ∙ there.1 in
      let g = entity_member d env goal k k e e c c s in
      let same : two binary.Member e (one (unary.Ancestors (tree_sort e)) e) ≡ two binary.Member e (one (unary.Ancestors k) e) = ap (λ (j : Sort). two binary.Member e (one (unary.Ancestors j) e)) s in
      let whole : Closed d env goal (two binary.Member e (one (unary.Ancestors (tree_sort e)) e)) = subst (Closed d env goal) (sym same) g in
      true_both (lit m.truths (two binary.Member e (one (unary.Ancestors k) e))) (ancestor_true k e y e c a i s g u)
      (ap (lit m.truths) (sym same)
      ∙ last m.truths false (two binary.Member e (one (unary.Ancestors (tree_sort e)) e))
      (ruled (en4 e) (unless (two binary.Member e (one (unary.Ancestors (tree_sort e)) e)) ∷ []) (of_en4 e i) refl (whole, tt)))

  -- ---- tags

  pub text_key : (k : Sort) (e x y : Tree) → Closed d env goal (two (binary.Tag k) e x) → Has (assigned m (one unary.Keys e)) y → m.text y ≡ m.text x → lit m.truths (two binary.Member x (one unary.Keys e)) ≡ true
  text_key k e x y c a t =
      let p = of_tag d env literals (tree_sort (two (binary.Tag k) e x)) k e x (made (two (binary.Tag k) e x) c) in
      let there = assigned_sorted d env literals goal made m model sort.String (one unary.Keys e) y (keys_sort e) a in
      let i : Closed d env goal x = of_part d env goal (two (binary.Tag k) e x) x c (inr (inl refl)) in
      moved y x (one unary.Keys e) there.0 i (tag_keys d env goal k e x c) (one_text y x there.1 p.key there.0 i t) (member_true (one unary.Keys e) y a) (tag_key d env goal k e x c)

  module _ (lawful : IsLawful d) (is : IsGoal d env literals goal) (agree : EquationsAgree) where
    -- ---- attributes

    pub one_attributes : (addresses : AreAddresses) (k l : Sort) (e f : Tree) → Closed d env goal (one (unary.Attributes k) e) → Closed d env goal (one (unary.Attributes l) f) → m.uid e ≡ m.uid f
        → val_of m k (one (unary.Attributes k) e) ≡ val_of m l (one (unary.Attributes l) f)
    one_attributes addresses k l e f c i u =
        let p = of_attributes d env literals (tree_sort (one (unary.Attributes k) e)) k e (made (one (unary.Attributes k) e) c) in
        let r = of_attributes d env literals (tree_sort (one (unary.Attributes l) f)) l f (made (one (unary.Attributes l) f) i) in
        let a : Tree = one (unary.Attributes k) e in
        let b : Tree = one (unary.Attributes l) f in
        let n = one_name p.name r.name e f p.sorted r.sorted u in
        let types : p.type ≡ r.type = same_some (sym p.declared ∙ ap (attrs_of d) n ∙ r.declared) in
        let kinds : k ≡ l = p.own ∙ ap sort_of types ∙ sym r.own in
        let q = one_entity p.name e f p.sorted (r.sorted ∙ ap (entity_sort d) (sym n)) (of_part d env goal (one (unary.Attributes k) e) e c (inl refl)) (of_part d env goal (one (unary.Attributes l) f) f i (inl refl)) u in
        let back = one_entity p.name f e (r.sorted ∙ ap (entity_sort d) (sym n)) p.sorted (of_part d env goal (one (unary.Attributes l) f) f i (inl refl)) (of_part d env goal (one (unary.Attributes k) e) e c (inl refl)) (sym u) in
        let same : sorts.eq k l ≡ true = (sort_eq_decides k l).1 kinds in
        let turned : sorts.eq l k ≡ true = (sort_eq_decides l k).1 (sym kinds) in
        let linked : AreLinked d env literals goal made m model addresses lawful is a b = record {
          built_first = refl;
          built_second = refl;
          own_forth = one_type e f (p.sorted ∙ ap (entity_sort d) n ∙ sym r.sorted);
          own_back = one_type f e (r.sorted ∙ ap (entity_sort d) (sym n) ∙ sym p.sorted);
          forth = λ x y at g h j z parts t w all.
              let said : en1 x y j z ≡ Some (unless (equal_term e f) ∷ parts) =
              (λ v. en1_of (at v).0 (at v).1 (half x y j z)) ∙ ap (λ (b : Bool). under b (unless (equal_term e f) ∷ []) (half x y j z)) same ∙ ap (under true (unless (equal_term e f) ∷ [])) w in
              others m.truths false (equal_term e f) parts (ruled (en1 x y j z) (unless (equal_term e f) ∷ parts) (of_en1 x y j z g h t) said (q.0, all)) q.1;
          back = λ x y at g h j z parts t w all.
              let said : en1 y x j z ≡ Some (unless (equal_term f e) ∷ parts) =
              (λ v. en1_of (at v).0 (at v).1 (half y x j z)) ∙ ap (λ (b : Bool). under b (unless (equal_term f e) ∷ []) (half y x j z)) turned ∙ ap (under true (unless (equal_term f e) ∷ [])) w in
              others m.truths false (equal_term f e) parts (ruled (en1 y x j z) (unless (equal_term f e) ∷ parts) (of_en1 y x j z h g t) said (back.0, all)) back.1;
        } in
        linked_val d env literals goal made m model addresses lawful is a b linked k c i (attributes_sort k e) (attributes_sort l f ∙ sym kinds) (own_roots k l e f) (own_roots l k f e)
        ∙ ap (λ (j : Sort). val_of m j (one (unary.Attributes l) f)) kinds

    -- ---- tags

    pub one_tag : (addresses : AreAddresses) (k l : Sort) (e f x y : Tree) → Closed d env goal (two (binary.Tag k) e x) → Closed d env goal (two (binary.Tag l) f y) → m.uid e ≡ m.uid f → m.text x ≡ m.text y
        → val_of m k (two (binary.Tag k) e x) ≡ val_of m l (two (binary.Tag l) f y)
    one_tag addresses k l e f x y c i u t =
        let p = of_tag d env literals (tree_sort (two (binary.Tag k) e x)) k e x (made (two (binary.Tag k) e x) c) in
        let r = of_tag d env literals (tree_sort (two (binary.Tag l) f y)) l f y (made (two (binary.Tag l) f y) i) in
        let a : Tree = two (binary.Tag k) e x in
        let b : Tree = two (binary.Tag l) f y in
        let n = one_name p.name r.name e f p.sorted r.sorted u in
        let types : p.type ≡ r.type = same_some (sym p.declared ∙ ap (tags_of d) n ∙ r.declared) in
        let kinds : k ≡ l = p.own ∙ ap sort_of types ∙ sym r.own in
        let q = one_entity p.name e f p.sorted (r.sorted ∙ ap (entity_sort d) (sym n)) (of_part d env goal (two (binary.Tag k) e x) e c (inl refl)) (of_part d env goal (two (binary.Tag l) f y) f i (inl refl)) u in
        let v = one_text x y p.key r.key (of_part d env goal (two (binary.Tag k) e x) x c (inr (inl refl))) (of_part d env goal (two (binary.Tag l) f y) y i (inr (inl refl))) t in
        let back = one_entity p.name f e (r.sorted ∙ ap (entity_sort d) (sym n)) p.sorted (of_part d env goal (two (binary.Tag l) f y) f i (inl refl)) (of_part d env goal (two (binary.Tag k) e x) e c (inl refl)) (sym u) in
        let keyed = one_text y x r.key p.key (of_part d env goal (two (binary.Tag l) f y) y i (inr (inl refl))) (of_part d env goal (two (binary.Tag k) e x) x c (inr (inl refl))) (sym t) in
        let same : sorts.eq k l ≡ true = (sort_eq_decides k l).1 kinds in
        let turned : sorts.eq l k ≡ true = (sort_eq_decides l k).1 (sym kinds) in
        let linked : AreLinked d env literals goal made m model addresses lawful is a b = record {
          built_first = refl;
          built_second = refl;
          own_forth = one_type e f (p.sorted ∙ ap (entity_sort d) n ∙ sym r.sorted);
          own_back = one_type f e (r.sorted ∙ ap (entity_sort d) (sym n) ∙ sym p.sorted);
          forth = λ z o at g h j w parts t said all.
              let whole : en3 z o j w ≡ Some (unless (equal_term e f) ∷ unless (equal_term x y) ∷ parts) =
              (λ v. en3_of (at v).0 (at v).1 (half z o j w)) ∙ ap (λ (b : Bool). under b (unless (equal_term e f) ∷ unless (equal_term x y) ∷ []) (half z o j w)) same
              ∙ ap (under true (unless (equal_term e f) ∷ unless (equal_term x y) ∷ [])) said in
              others m.truths false (equal_term x y) parts (others m.truths false (equal_term e f) (unless (equal_term x y) ∷ parts)
              (ruled (en3 z o j w) (unless (equal_term e f) ∷ unless (equal_term x y) ∷ parts) (of_en3 z o j w g h t) whole (q.0, (v.0, all))) q.1) v.1;
          back = λ z o at g h j w parts t said all.
              let whole : en3 o z j w ≡ Some (unless (equal_term f e) ∷ unless (equal_term y x) ∷ parts) =
              (λ v. en3_of (at v).0 (at v).1 (half o z j w)) ∙ ap (λ (b : Bool). under b (unless (equal_term f e) ∷ unless (equal_term y x) ∷ []) (half o z j w)) turned
              ∙ ap (under true (unless (equal_term f e) ∷ unless (equal_term y x) ∷ [])) said in
              others m.truths false (equal_term y x) parts (others m.truths false (equal_term f e) (unless (equal_term y x) ∷ parts)
              (ruled (en3 o z j w) (unless (equal_term f e) ∷ unless (equal_term y x) ∷ parts) (of_en3 o z j w h g t) whole (back.0, (keyed.0, all))) back.1) keyed.1;
        } in
        linked_val d env literals goal made m model addresses lawful is a b linked k c i (tag_sort k e x) (tag_sort l f y ∙ sym kinds) (tag_roots k l e f x y) (tag_roots l k f e y x)
        ∙ ap (λ (j : Sort). val_of m j (two (binary.Tag l) f y)) kinds

    pub absent_tag : (addresses : AreAddresses) (k : Sort) (e x : Tree) → Closed d env goal (two (binary.Tag k) e x) → lit m.truths (two binary.Member x (one unary.Keys e)) ≡ false
        → val_of m k (two (binary.Tag k) e x) ≡ default_val k
    absent_tag addresses k e x c t =
        let a : Tree = two (binary.Tag k) e x in
        let whole = tag_default d env goal k e x c in
        let parts : List Signed = so (two binary.Member x (one unary.Keys e)) ∷ so (equal_term (two (binary.Tag k) e x) (default_term k)) ∷ [] in
        is_default d env literals goal made m model addresses lawful is agree k (binary.Tag k) e x
        (lawful_at d env literals goal made m model lawful is k a (tag_sort k e x) c) (tag_sort k e x) c whole
        (second m.truths true true (two binary.Member x (one unary.Keys e)) (equal_term (two (binary.Tag k) e x) (default_term k))
        (ruled (en6 a) parts (of_en6 a c) refl (tag_key d env goal k e x c, (whole, tt))) t)

    -- ---- ancestors of ancestors

    -- an entity with ancestors that is no action is of a type that lists none
    no_listed : (name above : List ℕ) (names : List (List ℕ)) (e : Tree) → ancestor_types d name ≡ Some names → Contains names above → tree_sort e ≡ entity_sort d name → is_action_type d name ≡ false
        → (length (choices_in e) == 0) ≡ true
    no_listed name above names e types among s n =
        ap (λ (us : List Uid). length us == 0)
        (ap (λ (j : Sort). choices_level (out-Sort j)) s ∙ ap choices_level (out_Entity name (choices_of d name)) ∙ below_lists d lawful name above names types among n)

    pub transitive : (k l : Sort) (e y f z : Tree) → is_action_type d (m.uid e).type_name ≡ false → Closed d env goal (one (unary.Ancestors k) e) → Has (assigned m (one (unary.Ancestors k) e)) y
        → Closed d env goal (one (unary.Ancestors l) f) → Has (assigned m (one (unary.Ancestors l) f)) z → m.uid y ≡ m.uid f
        → Closed d env goal (one (unary.Ancestors l) e) × Has (assigned m (one (unary.Ancestors l) e)) z
    transitive k l e y f z plain c a i b u =
        let p = of_ancestors d env literals (tree_sort (one (unary.Ancestors k) e)) k e (made (one (unary.Ancestors k) e) c) in
        let q = of_ancestors d env literals (tree_sort (one (unary.Ancestors l) f)) l f (made (one (unary.Ancestors l) f) i) in
        let near = assigned_sorted d env literals goal made m model k (one (unary.Ancestors k) e) y (ancestors_sort k e) a in
        let far = assigned_sorted d env literals goal made m model l (one (unary.Ancestors l) f) z (ancestors_sort l f) b in
        let middle : p.above ≡ q.name = one_name p.above q.name y f (near.1 ∙ p.own) q.sorted u in
        let no_action : is_action_type d p.name ≡ false = ap (is_action_type d) (sym (named_type p.name e p.sorted)) ∙ plain in
        let among : Contains p.names q.above =
        above_within d lawful p.name q.name q.above p.names q.names no_action p.declared (subst (Contains p.names) middle p.among) q.declared q.among in
        let whole : Closed d env goal (one (unary.Ancestors l) e) =
        subst (λ (j : Sort). Closed d env goal (one (unary.Ancestors j) e)) (sym q.own)
        (above_closed d env goal k e p.name q.above (choices_of d p.name) p.sorted c
        (subst (λ (o : Option (List (List ℕ))). Has (unwrap_or o []) q.above) (sym p.declared) (Has-from_Contains p.names q.above among))) in
        let part : Closed d env goal f = of_part d env goal (one (unary.Ancestors l) f) f i (inl refl) in
        let s : tree_sort f ≡ k = q.sorted ∙ ap (entity_sort d) (sym middle) ∙ sym p.own in
        let g = entity_member d env goal k l e f c i s in
        let same : two binary.Member f (one (unary.Ancestors k) e) ≡ two binary.Member f (one (unary.Ancestors (tree_sort f)) e) = ap (λ (j : Sort). two binary.Member f (one (unary.Ancestors j) e)) (sym s) in
        let t = member_true (one (unary.Ancestors l) f) z b in
        let after = ancestor_member d env goal k l z e f t.0 c s (no_listed p.name p.above p.names e p.declared p.among p.sorted no_action) in
        let parts : List Signed = unless (two binary.Member f (one (unary.Ancestors (tree_sort f)) e)) ∷ unless (two binary.Member z (one (unary.Ancestors l) f)) ∷ so (two binary.Member z (one (unary.Ancestors l) e)) ∷ [] in (
          whole,
          true_member (one (unary.Ancestors l) e) z after
              (third m.truths false false true (two binary.Member f (one (unary.Ancestors (tree_sort f)) e)) (two binary.Member z (one (unary.Ancestors l) f)) (two binary.Member z (one (unary.Ancestors l) e))
              (ruled (en5 e f z (one (unary.Ancestors l) f)) parts (of_en5 e f z (one (unary.Ancestors l) f) (of_part d env goal (one (unary.Ancestors k) e) e c (inl refl)) part far.0 i)
              (passed (tree_eq f f) parts (tree_eq-itself f)) (subst (Closed d env goal) same g, (t.0, (after, tt))))
              (ap (lit m.truths) (sym same) ∙ ancestor_true k e y f c a part s g u) t.1),
        )
