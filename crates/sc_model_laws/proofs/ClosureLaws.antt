-- Which terms are closed with others.
use Rattle.std.proofs.Common.{◌≡◌, ◌==◌, ◌&&◌, inl, inr, ℕ, Bool, true, List, [], ◌∷◌, ◌++◌, map, length, Option, None, unwrap_or, refl, sym, ap, ◌∙◌, subst}
use Rattle.std.specs.Cmp.Derive.{both_true}
use Rattle.sc_lists.proofs.MemberLaws.{Has-left, Has-right, Has-map, Has-flat_map, Contains-from_Has}
use Rattle.sc_lists.specs.Members.{Has}
use Rattle.sc_names.specs.declared.uid.Uid.{Uid}
use Rattle.sc_schema.specs.declared.declarations.Env.{Env}
use Rattle.sc_schema.specs.Declarations.{Declarations, ancestor_types, action_ancestors}
use Rattle.sc_sorts.specs.declared.sort.Sort.{Sort, Sort-F, out-Sort}
use Rattle.sc_sorts.specs.declared.sort.Sort.TheVariants as sort
use Rattle.sc_sorts.specs.declared.sort.Sort.TheOpen as s
use Rattle.sc_sorts.specs.Entities.{of_type_name, entity_sort}
use Rattle.sc_sorts.specs.Inside.{SortField, SortFields}
use Rattle.sc_sorts.specs.OrderLaws.{sort_eq_decides}
use Rattle.sc_sorts.proofs.OutLaws.{out_String, out_Entity, out_Set, out_Record, out_Option}
use Rattle.sc_sorts.specs.declared.node.Literal.{Literal}
use Rattle.sc_sorts.specs.declared.node.UnaryOp.TheVariants as unary
use Rattle.sc_sorts.specs.declared.node.BinaryOp.TheVariants as binary
use Rattle.sc_terms.specs.Trees.{Tree, one, two}
use Rattle.sc_terms.specs.TreeSorts.{tree_sort}
use Rattle.sc_terms.specs.Folds.{literal_of, equal_term, field_term, held_term, default_term}
use Rattle.sc_term_definitions.specs.Definitions.{inputs_of}
use Rattle.sc_rule_laws.specs.Terms.{one_sort, choices_in, written}
use Rattle.sc_closure_rules.specs.Closure.{Closed, next, pair, choices_by, unless_literal, Role, named, candidate, set, above, inside, inside_by, choices, beside, parts, follow, follow_pair, half, meet, roles, roles_by, roles_in, unless_written, equated_by, members_by, are_linked, is_under, ancestors_by, ancestors_of, declared_ancestors, declared_members, uid_term}
use Rattle.sc_closure_rules.proofs.RoleLaws.{has_half}

module _ (d : Declarations) (env : Env) (goal : Tree) where
  abbrev IsClosed : Tree → Type 0
  IsClosed = Closed d env goal

  -- ---- with one

  later : (x y : Tree) → IsClosed x → Has (inside x ++ (choices x ++ (beside d x ++ parts x))) y → IsClosed y
  unfolding follow
  later x y c h = next x y c (Contains-from_Has (follow d x) y (Has-right (inputs_of x) (inside x ++ (choices x ++ (beside d x ++ parts x))) y h))

  of_inside : (x y : Tree) → IsClosed x → Has (inside x) y → IsClosed y
  of_inside x y c h = later x y c (Has-left (inside x) (choices x ++ (beside d x ++ parts x)) y h)

  of_beside : (x y : Tree) → IsClosed x → Has (beside d x) y → IsClosed y
  of_beside x y c h =
      later x y c (Has-right (inside x) (choices x ++ (beside d x ++ parts x)) y
      (Has-right (choices x) (beside d x ++ parts x) y (Has-left (beside d x) (parts x) y h)))

  pub of_part : (x y : Tree) → Closed d env goal x → Has (parts x) y → Closed d env goal y
  of_part x y c h =
      later x y c (Has-right (inside x) (choices x ++ (beside d x ++ parts x)) y
      (Has-right (choices x) (beside d x ++ parts x) y (Has-right (beside d x) (parts x) y h)))

  -- the entities that its sort lists, of one that isn't written
  pub choice_closed : (name : List ℕ) (us : List Uid) (x : Tree) (u : Uid) → tree_sort x ≡ sort.Entity name us → literal_of x ≡ None → Closed d env goal x → Has us u → Closed d env goal (uid_term us u)
  choice_closed name us x u e plain c h =
      let t = uid_term us u in
      let there : Has (choices_by (out-Sort (tree_sort x))) t = subst (λ (l : Sort-F Sort). Has (choices_by l) t) (sym (ap out-Sort e ∙ out_Entity name us)) (Has-map (uid_term us) us u h) in
      later x t c (Has-right (inside x) (choices x ++ (beside d x ++ parts x)) t
      (Has-left (choices x) (beside d x ++ parts x) t (subst (λ (o : Option Literal). Has (unless_literal o (choices_by (out-Sort (tree_sort x)))) t) (sym plain) there)))

  inside_at : (x y : Tree) (k : Sort) (l : Sort-F Sort) → tree_sort x ≡ k → out-Sort k ≡ l → IsClosed x → Has (inside_by l x) y → IsClosed y
  inside_at x y k l e o c h = of_inside x y c (subst (λ (z : Sort-F Sort). Has (inside_by z x) y) (sym (ap out-Sort e ∙ o)) h)

  pub field_closed : (fs : SortFields) (x : Tree) (f : SortField) → tree_sort x ≡ sort.Record fs → Closed d env goal x → Has fs f → Closed d env goal (field_term f.0 x)
  field_closed fs x f e c h =
      inside_at x (field_term f.0 x) (sort.Record fs) (s.Record fs) e (out_Record fs) c (Has-map (λ (f : SortField). field_term f.0 x) fs f h)

  pub held_closed : (k : Sort) (x : Tree) → tree_sort x ≡ sort.Option k → Closed d env goal x → Closed d env goal (held_term x)
  held_closed k x e c = inside_at x (held_term x) (sort.Option k) (s.Option k) e (out_Option k) c (inr (inl refl))

  -- ---- with an entity's tag

  pub tag_keys : (own : Sort) (e k : Tree) → Closed d env goal (two (binary.Tag own) e k) → Closed d env goal (one unary.Keys e)
  tag_keys own e k c = of_beside (two (binary.Tag own) e k) (one unary.Keys e) c (inl refl)

  pub tag_key : (own : Sort) (e k : Tree) → Closed d env goal (two (binary.Tag own) e k) → Closed d env goal (two binary.Member k (one unary.Keys e))
  tag_key own e k c = of_beside (two (binary.Tag own) e k) (two binary.Member k (one unary.Keys e)) c (inr (inl refl))

  pub tag_default : (own : Sort) (e k : Tree) → Closed d env goal (two (binary.Tag own) e k) → Closed d env goal (equal_term (two (binary.Tag own) e k) (default_term own))
  tag_default own e k c = of_beside (two (binary.Tag own) e k) (equal_term (two (binary.Tag own) e k) (default_term own)) c (inr (inr (inl refl)))

  -- ---- with an entity's ancestors

  above_by : (own : Sort) (e y : Tree) (name : List ℕ) (us : List Uid) → tree_sort e ≡ sort.Entity name us → IsClosed (one (unary.Ancestors own) e)
      → Has (ancestors_by d (s.Entity name us) own e) y → IsClosed y
  above_by own e y name us k c h =
      of_beside (one (unary.Ancestors own) e) y c (subst (λ (l : Sort-F Sort). Has (ancestors_by d l own e) y) (sym (ap out-Sort k ∙ out_Entity name us)) h)

  abbrev above_terms : List ℕ → Tree → List Tree
  above_terms name e = map (λ (n : List ℕ). ancestors_of (entity_sort d n) e) (unwrap_or (ancestor_types d name) [])

  -- those of another ancestor type
  pub above_closed : (own : Sort) (e : Tree) (name n : List ℕ) (us : List Uid) → tree_sort e ≡ sort.Entity name us → Closed d env goal (one (unary.Ancestors own) e)
      → Has (unwrap_or (ancestor_types d name) []) n → Closed d env goal (one (unary.Ancestors (entity_sort d n)) e)
  above_closed own e name n us k c h =
      above_by own e (one (unary.Ancestors (entity_sort d n)) e) name us k c
      (Has-left (above_terms name e) (declared_ancestors d own us) (one (unary.Ancestors (entity_sort d n)) e)
      (Has-map (λ (n : List ℕ). ancestors_of (entity_sort d n) e) (unwrap_or (ancestor_types d name) []) n h))

  declared_by : (own : Sort) (e y : Tree) (name : List ℕ) (us : List Uid) (u : Uid) → tree_sort e ≡ sort.Entity name us → IsClosed (one (unary.Ancestors own) e) → Has us u
      → Has (ancestors_of own (uid_term us u) ∷ declared_members d (out-Sort own) own (uid_term us u) u) y → IsClosed y
  declared_by own e y name us u k c i h =
      above_by own e y name us k c
      (Has-right (above_terms name e) (declared_ancestors d own us) y
      (Has-flat_map (λ (u : Uid). ancestors_of own (uid_term us u) ∷ declared_members d (out-Sort own) own (uid_term us u) u) us u y i h))

  -- those of each declared action
  pub declared_closed : (own : Sort) (e : Tree) (name : List ℕ) (us : List Uid) (u : Uid) → tree_sort e ≡ sort.Entity name us → Closed d env goal (one (unary.Ancestors own) e)
      → Has us u → Closed d env goal (one (unary.Ancestors own) (uid_term us u))
  declared_closed own e name us u k c i = declared_by own e (one (unary.Ancestors own) (uid_term us u)) name us u k c i (inl refl)

  -- with its declared ones as members
  pub declared_member : (type : List ℕ) (vs : List Uid) (e : Tree) (name : List ℕ) (us : List Uid) (u v : Uid) → tree_sort e ≡ sort.Entity name us
      → Closed d env goal (one (unary.Ancestors (sort.Entity type vs)) e) → Has us u → Has (of_type_name type (unwrap_or (action_ancestors d u) [])) v
      → Closed d env goal (two binary.Member (uid_term vs v) (one (unary.Ancestors (sort.Entity type vs)) (uid_term us u)))
  declared_member type vs e name us u v k c i h =
      let own : Sort = sort.Entity type vs in
      declared_by (sort.Entity type vs) e (two binary.Member (uid_term vs v) (one (unary.Ancestors (sort.Entity type vs)) (uid_term us u))) name us u k c i
      (inr (subst (λ (l : Sort-F Sort). Has (declared_members d l (sort.Entity type vs) (uid_term us u) u) (two binary.Member (uid_term vs v) (one (unary.Ancestors (sort.Entity type vs)) (uid_term us u)))) (sym (out_Entity type vs))
      (Has-map (λ (v : Uid). two binary.Member (uid_term vs v) (ancestors_of (sort.Entity type vs) (uid_term us u))) (of_type_name type (unwrap_or (action_ancestors d u) [])) v h)))

  -- ---- with two

  met : (x y z : Tree) (p q : Role) → IsClosed x → IsClosed y → Has (roles x) p → Has (roles y) q → Has (meet p q) z → IsClosed z
  met x y z p q c e h k l = pair x y z c e (Contains-from_Has (follow_pair x y) z (Has-left (half x y) (half y x) z (has_half x y z p q h k l)))

  role_at : (x : Tree) (k : Sort) (l : Sort-F Sort) (p : Role) → tree_sort x ≡ k → out-Sort k ≡ l → Has (roles_by l x) p → Has (roles x) p
  role_at x k l p e o h =
      Has-left (roles_by (out-Sort (tree_sort x)) x) (roles_in x) p (subst (λ (z : Sort-F Sort). Has (roles_by z x) p) (sym (ap out-Sort e ∙ o)) h)

  role_in : (x : Tree) (p : Role) → Has (roles_in x) p → Has (roles x) p
  role_in x p h = Has-right (roles_by (out-Sort (tree_sort x)) x) (roles_in x) p h

  equated : (e f x y : Tree) → tree_sort e ≡ tree_sort f → Has (equated_by (one_sort e f) x y) (equal_term x y)
  equated e f x y h = subst (λ b. Has (equated_by b x y) (equal_term x y)) (sym ((sort_eq_decides (tree_sort e) (tree_sort f)).1 h)) (inl refl)

  pub strings_equation : (x y : Tree) → tree_sort x ≡ sort.String → tree_sort y ≡ sort.String → Closed d env goal x → Closed d env goal y → Closed d env goal (equal_term x y)
  strings_equation x y e f c h =
      met x y (equal_term x y) (named x) (named y) c h (role_at x sort.String s.String (named x) e out_String (inl refl))
      (role_at y sort.String s.String (named y) f out_String (inl refl)) (equated x y x y (e ∙ sym f))

  pub entities_equation : (name : List ℕ) (us : List Uid) (x y : Tree) → tree_sort x ≡ sort.Entity name us → tree_sort y ≡ sort.Entity name us
      → Closed d env goal x → Closed d env goal y → Closed d env goal (equal_term x y)
  entities_equation name us x y e f c h =
      met x y (equal_term x y) (named x) (named y) c h (role_at x (sort.Entity name us) (s.Entity name us) (named x) e (out_Entity name us) (inl refl))
      (role_at y (sort.Entity name us) (s.Entity name us) (named y) f (out_Entity name us) (inl refl)) (equated x y x y (e ∙ sym f))

  -- ---- candidates of sets that are no set terms

  candidate_role : (x a : Tree) → written a ≡ None → Has (roles (two binary.Member x a)) (candidate x a)
  candidate_role x a e =
      role_in (two binary.Member x a) (candidate x a) (subst (λ (o : Option (List Tree)). Has (unless_written o (candidate x a)) (candidate x a)) (sym e) (inl refl))

  tested : (b : Bool) (x y : Tree) → b ≡ true → Has (members_by b x y) (two binary.Member x y)
  tested b x y e = subst (λ t. Has (members_by t x y) (two binary.Member x y)) (sym e) (inl refl)

  -- those of a set are those of a linked one
  pub linked_member : (k : Sort) (x a b : Tree) → written a ≡ None → Closed d env goal (two binary.Member x a) → tree_sort b ≡ sort.Set k → Closed d env goal b → are_linked a b ≡ true
      → Closed d env goal (two binary.Member x b)
  linked_member k x a b w c e h linked =
      met (two binary.Member x a) b (two binary.Member x b) (candidate x a) (set b) c h (candidate_role x a w) (role_at b (sort.Set k) (s.Set k) (set b) e (out_Set k) (inl refl))
      (tested (are_linked a b) x b linked)

  under : (f : Tree) (own : Sort) → tree_sort f ≡ own → is_under f own ≡ true
  under f own e = (sort_eq_decides (tree_sort f) own).1 e

  above_role : (own : Sort) (e : Tree) → Has (roles (one (unary.Ancestors own) e)) (above own e)
  above_role own e = role_in (one (unary.Ancestors own) e) (above own e) (inl refl)

  -- an entity of the type of another's ancestors is one of their candidates
  pub entity_member : (own k : Sort) (e f : Tree) → Closed d env goal (one (unary.Ancestors own) e) → Closed d env goal (one (unary.Ancestors k) f) → tree_sort f ≡ own
      → Closed d env goal (two binary.Member f (one (unary.Ancestors own) e))
  entity_member own k e f c h s =
      met (one (unary.Ancestors own) e) (one (unary.Ancestors k) f) (two binary.Member f (one (unary.Ancestors own) e)) (above own e) (above k f) c h (above_role own e) (above_role k f)
      (tested (is_under f own) f (one (unary.Ancestors own) e) (under f own s))

  -- and what is one of its ancestors' is one of the other's, where the other is no action
  pub ancestor_member : (own k : Sort) (x e f : Tree) → Closed d env goal (two binary.Member x (one (unary.Ancestors k) f)) → Closed d env goal (one (unary.Ancestors own) e) → tree_sort f ≡ own
      → (length (choices_in e) == 0) ≡ true → Closed d env goal (two binary.Member x (one (unary.Ancestors k) e))
  ancestor_member own k x e f c h s none =
      met (two binary.Member x (one (unary.Ancestors k) f)) (one (unary.Ancestors own) e) (two binary.Member x (one (unary.Ancestors k) e)) (candidate x (one (unary.Ancestors k) f)) (above own e) c h
      (candidate_role x (one (unary.Ancestors k) f) refl) (above_role own e)
      (tested (is_under f own && (length (choices_in e) == 0)) x (one (unary.Ancestors k) e) (both_true (under f own s) none))
