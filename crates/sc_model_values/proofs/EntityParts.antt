-- The rules of what is stored of entities speak of truth values, where they speak of terms.
use Rattle.std.proofs.Common.{◌≡◌, ◌==◌, ◌&&◌, ℕ, Bool, true, false, not, List, [], ◌∷◌, map, length, Contains, if◌then◌else◌, Option, Some, None, refl, sym, ap, ◌∙◌}
use Rattle.std.specs.List.{AllByRecursion}
use Rattle.sc_laws.proofs.BoolLaws.{and_first, and_second, never}
use Rattle.sc_lists.specs.Members.{Has}
use Rattle.sc_names.specs.declared.uid.Uid.{Uid}
use Rattle.sc_schema.specs.declared.declarations.Env.{Env}
use Rattle.sc_schema.specs.Declarations.{Declarations, environments, action_ancestors}
use Rattle.sc_schema.specs.Lawful.{IsLawful}
use Rattle.sc_world.specs.Named.{IsDeclared}
use Rattle.sc_sorts.specs.declared.sort.Sort.{Sort, Sort-F, out-Sort}
use Rattle.sc_sorts.specs.declared.sort.Sort.TheOpen as s
use Rattle.sc_sorts.specs.contracts.sort.SortPartialEq.TheImpl.{ghosts as sorts}
use Rattle.sc_sorts.specs.Entities.{of_type_name}
use Rattle.sc_sorts.specs.Inside.{name_in, member_sort}
use Rattle.sc_sorts.specs.declared.node.Leaf.TheVariants.{Literal}
use Rattle.sc_sorts.specs.declared.node.Literal.TheVariants as literal
use Rattle.sc_sorts.specs.declared.node.UnaryOp.{UnaryOp}
use Rattle.sc_sorts.specs.declared.node.UnaryOp.TheVariants as unary
use Rattle.sc_sorts.specs.declared.node.BinaryOp.TheVariants as binary
use Rattle.sc_terms.specs.Trees.{Tree, leaf, one, two}
use Rattle.sc_terms.specs.TreeSorts.{tree_sort}
use Rattle.sc_terms.specs.Folds.{constant, equal_term, default_term}
use Rattle.sc_term_laws.specs.Judging.{IsTermOf, IsTerm}
use Rattle.sc_term_laws.specs.Tests.{is_entity_sort, string_level, is_string}
use Rattle.sc_term_laws.proofs.BinaryJudged.{binary_kept}
use Rattle.sc_term_laws.proofs.DefaultMade.{default_made}
use Rattle.sc_term_laws.proofs.JudgingLaws.{sort_is, member_of}
use Rattle.sc_term_laws.proofs.TestLaws.{same_sorts}
use Rattle.sc_term_laws.proofs.UnaryJudged.{unary_kept}
use Rattle.sc_footprint.specs.Atoms.{is_bool, is_bool_in}
use Rattle.sc_footprint.proofs.SortLaws.{sort_lawful}
use Rattle.sc_rule_laws.specs.Signed.{Said, so, unless}
use Rattle.sc_rule_laws.specs.Terms.{member, above, keys, entity, choices_level, choices_in}
use Rattle.sc_rule_laws.specs.Places.{roots, half}
use Rattle.sc_rule_laws.specs.Entities.{en1_of, en1, same_sets, en2, en3_of, en3, en4, en5, en6, is_literal_of, en7_by, en7, chosen_of, is_acting, en8, eq9}
use Rattle.sc_model_values.proofs.PartSorts.{plain, plain_at, entity_plain, plain_equal, member_bool, same_equal, AreTruths, IsOfTruths, given_truths, mapped_truths}
use Rattle.sc_model_values.proofs.SetParts.{of_member}
use Rattle.sc_model_values.proofs.PlaceParts.{half_truths, under_truths}
use Rattle.sc_rule_laws.proofs.PlaceLaws.{places_sorted}

string_at : (k : Sort-F Sort) → string_level k ≡ true → is_bool_in k ≡ false
string_at s.String h = refl
string_at _ h = absurd cc

string_plain : (t : Tree) → is_string (tree_sort t) ≡ true → constant t ≡ None
string_plain t h = plain t (string_at (out-Sort (tree_sort t)) h)

module _ (d : Declarations) (env : Env) (written : List Uid) where
  abbrev Of : Sort → Tree → Type 0
  Of = IsTermOf d env written

  abbrev Is : Tree → Type 0
  Is = IsTerm d env written

  abbrev Truths : Said → Type 0
  Truths = IsOfTruths Is

  -- ---- attributes, ancestors and keys are of entities

  attributes_plain : (k : Sort) (e : Tree) → Is (one (unary.Attributes k) e) → constant e ≡ None
  attributes_plain k e h =
      entity_plain d e (and_first _ _ (unary_kept d env written (tree_sort (one (unary.Attributes k) e)) (unary.Attributes k) e h).1)

  ancestors_plain : (k : Sort) (e : Tree) → Is (above k e) → constant e ≡ None
  ancestors_plain k e h = entity_plain d e (and_first _ _ (unary_kept d env written (tree_sort (above k e)) (unary.Ancestors k) e h).1)

  keys_plain : (e : Tree) → Is (keys e) → constant e ≡ None
  keys_plain e h = entity_plain d e (and_first _ _ (unary_kept d env written (tree_sort (keys e)) unary.Keys e h).1)

  attributes_sort : (k : Sort) (e : Tree) → tree_sort (one (unary.Attributes k) e) ≡ k
  unfolding tree_sort
  attributes_sort k e = refl

  module _ (x y : Tree) (i : ℕ) (z : Option Tree) where
    en1_by : (r q : Tree) → r ≡ (roots x y).0 → q ≡ (roots x y).1 → Is r → Is q → Truths (en1_of r q (half x y i z))
    en1_by (one (unary.Attributes k) e) (one (unary.Attributes l) f) u v g h =
        under_truths Is (sorts.eq k l) (unless (equal_term e f) ∷ []) (half x y i z)
        (λ t. (plain_equal e f (attributes_plain k e g) (attributes_plain l f h), tt))
        (λ t. half_truths x y (places_sorted x y (ap tree_sort (sym u) ∙ attributes_sort k e ∙ same_sorts k l t ∙ sym (attributes_sort l f) ∙ ap tree_sort v)) i z)
    en1_by (one (unary.Attributes k) e) _ u v g h = tt
    en1_by _ q u v g h = tt

    pub en1_truths : Is (roots x y).0 → Is (roots x y).1 → Truths (en1 x y i z)
    en1_truths g h = en1_by (roots x y).0 (roots x y).1 refl refl g h

  owners_plain : (o q : UnaryOp) (e f : Tree) → same_sets o q ≡ true → Is (one o e) → Is (one q f) → (constant e ≡ None) × (constant f ≡ None)
  owners_plain (unary.Ancestors k) (unary.Ancestors l) e f t g h = (ancestors_plain k e g, ancestors_plain l f h)
  owners_plain unary.Keys unary.Keys e f t g h = (keys_plain e g, keys_plain f h)
  owners_plain _ _ e f t g h = never _ (sym t)

  pub en2_truths : (x y z : Tree) → Is y → Is z → Truths (en2 x y z)
  en2_truths x (one o e) (one q f) g h = given_truths Is (same_sets o q) _ (λ t.
      let are = owners_plain o q e f t g h in
      (plain_equal e f are.0 are.1, (member_bool x (one o e), (member_bool x (one q f), tt))))
  en2_truths x _ _ g h = tt

  -- ---- tags

  tag_plain : (k : Sort) (e l : Tree) → Is (two (binary.Tag k) e l) → (constant e ≡ None) × (constant l ≡ None)
  tag_plain k e l h =
      let test = (binary_kept d env written (tree_sort (two (binary.Tag k) e l)) (binary.Tag k) e l h).2 in
      (entity_plain d e (and_first _ _ test), string_plain l (and_first _ _ (and_second (is_entity_sort d (tree_sort e)) _ test)))

  tag_sort : (k : Sort) (e l : Tree) → tree_sort (two (binary.Tag k) e l) ≡ k
  unfolding tree_sort
  tag_sort k e l = refl

  module _ (x y : Tree) (i : ℕ) (z : Option Tree) where
    en3_by : (r q : Tree) → r ≡ (roots x y).0 → q ≡ (roots x y).1 → Is r → Is q → Truths (en3_of r q (half x y i z))
    en3_by (two (binary.Tag j) e k) (two (binary.Tag o) f l) u v g h =
        let first = tag_plain j e k g in
        let second = tag_plain o f l h in
        under_truths Is (sorts.eq j o) (unless (equal_term e f) ∷ unless (equal_term k l) ∷ []) (half x y i z)
        (λ t. (plain_equal e f first.0 second.0, (plain_equal k l first.1 second.1, tt)))
        (λ t. half_truths x y (places_sorted x y (ap tree_sort (sym u) ∙ tag_sort j e k ∙ same_sorts j o t ∙ sym (tag_sort o f l) ∙ ap tree_sort v)) i z)
    en3_by (two (binary.Tag j) e k) _ u v g h = tt
    en3_by _ q u v g h = tt

    pub en3_truths : Is (roots x y).0 → Is (roots x y).1 → Truths (en3 x y i z)
    en3_truths g h = en3_by (roots x y).0 (roots x y).1 refl refl g h

  pub en4_truths : (e : Tree) → Truths (en4 e)
  en4_truths e = λ all. (member_bool e (above (tree_sort e) e), tt)

  pub en5_truths : (e f x u : Tree) → Truths (en5 e f x u)
  en5_truths e f x (one (unary.Ancestors k) g) = given_truths Is _ _ (λ t.
      (member_bool f (above (tree_sort f) e), (member_bool x (above k g), (member_bool x (above k e), tt))))
  en5_truths e f x _ = tt

  -- ---- declared entities

  -- equations with written entities
  declared_truths : (x : Tree) (us : List Uid) → constant x ≡ None → AreTruths (map (λ u. so (equal_term x (entity d u))) us)
  declared_truths x us e = mapped_truths (λ u. so (equal_term x (entity d u))) us (λ u i. plain_equal x (entity d u) e refl)

  members_sort : (k : Sort) (e : Tree) → member_sort (tree_sort (above k e)) ≡ k
  unfolding tree_sort
  members_sort k e = member_of k

  -- what is a member of an entity's ancestors is an entity
  ancestor_plain : (k : Sort) (e x : Tree) → Is (above k e) → Is (member x (above k e)) → constant x ≡ None
  ancestor_plain k e x g h =
      let test = (unary_kept d env written (tree_sort (above k e)) (unary.Ancestors k) e g).1 in
      let own = and_first _ _ (and_second (is_entity_sort d (tree_sort e)) _ test) in
      let its_sort : tree_sort x ≡ k = sort_is d env written _ x (of_member d env written x (above k e) h)
      ∙ members_sort k e in
      entity_plain d x (ap (is_entity_sort d) its_sort ∙ own)

  -- what is said of a term and an action's ancestors, by whether it is written as one of them
  en7_at : (k : Sort) (e x : Tree) (us : List Uid) (b : Bool) → Is (above k e)
      → Truths (Some (if b then so (member x (above k e)) ∷ [] else unless (member x (above k e)) ∷ map (λ u. so (equal_term x (entity d u))) us))
  en7_at k e x us true h = λ all. (member_bool x (above k e), tt)
  en7_at k e x us false h = λ all. (member_bool x (above k e), declared_truths x us (ancestor_plain k e x h all.0))

  pub en7_truths : (y x : Tree) → Is y → Truths (en7 d y x)
  en7_truths (one (unary.Ancestors k) (leaf (Literal (literal.Entity u choices)))) x h = by (action_ancestors d u)
    where
      by : (o : Option (List Uid)) → Truths (en7_by d (above k (leaf (Literal (literal.Entity u choices)))) (name_in (out-Sort k)) o x)
      by None = tt
      by (Some us) =
          en7_at k (leaf (Literal (literal.Entity u choices))) x (of_type_name (name_in (out-Sort k)) us)
          (is_literal_of (of_type_name (name_in (out-Sort k)) us) x) h
  en7_truths _ x h = tt

  choices_plain : (k : Sort-F Sort) (x : Tree) → out-Sort (tree_sort x) ≡ k → (u : Uid) → Has (choices_level k) u → constant x ≡ None
  choices_plain (s.Entity name us) x e u i = plain_at x (s.Entity name us) e refl
  choices_plain _ x e u i = absurd i

  chosen_truths : (x : Tree) (asked : Bool) → Truths (chosen_of d x asked (choices_in x))
  chosen_truths x asked = given_truths Is (asked && not (length (choices_in x) == 0)) _ (λ t.
      mapped_truths (λ u. so (equal_term x (entity d u))) (choices_in x) (λ u i. plain_equal x (entity d u) (choices_plain (out-Sort (tree_sort x)) x refl u i) refl))

  pub en8_truths : (x : Tree) → Truths (en8 d x)
  en8_truths x = chosen_truths x (is_acting d x)

  pub eq9_truths : (x : Tree) → Truths (eq9 d x)
  eq9_truths x = chosen_truths x (not (is_acting d x))

  -- ---- tags that an entity hasn't

  module _ (lawful : IsLawful d) (among : Contains (environments d) env) (declared : AllByRecursion (IsDeclared d) written) where
    default_equal : (k : Sort) (e l : Tree) → Is (two (binary.Tag k) e l) → is_bool (equal_term (two (binary.Tag k) e l) (default_term k)) ≡ true
    unfolding tree_sort
    default_equal k e l h =
        same_equal d env written k (two (binary.Tag k) e l) (default_term k) h
        (default_made d env written k (sort_lawful d env written lawful among declared k (two (binary.Tag k) e l) h))

    pub en6_truths : (a : Tree) → Is a → Truths (en6 a)
    en6_truths (two (binary.Tag k) e l) h = λ all. (member_bool l (keys e), (default_equal k e l h, tt))
    en6_truths _ h = tt
