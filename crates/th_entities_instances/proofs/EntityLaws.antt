-- The literals of equations with an entity, which needn't be closed.
use Rattle.std.proofs.Common.{◌≡◌, ℕ, Ordering, Less, Equal, Greater, Bool, true, false, cond, inl, inr, List, [], ◌∷◌, find, Option, Some, None, Contains, refl, sym, ap, ◌∙◌, subst}
use Rattle.std.specs.Ordering.{is_eq, is_gt, ordering_reverse}
use Rattle.sc_lists.proofs.MemberLaws.{Has-from_Contains, Contains-from_Has}
use Rattle.sc_lists.specs.Members.{Has}
use Rattle.sc_lists.proofs.OrderingLaws.{is_eq_true}
use Rattle.sc_names.specs.declared.uid.Uid.{Uid}
use Rattle.sc_names.specs.Uids.{uid_cmp}
use Rattle.sc_names.proofs.UidLaws.{uid_cmp_total, uid_cmp_level}
use Rattle.sc_clauses.specs.declared.lit.Lit.{Lit}
use Rattle.sc_clauses.specs.Clauses.{positive, negation}
use Rattle.sc_schema.specs.declared.declarations.Env.{Env}
use Rattle.sc_schema.specs.Declarations.{Declarations}
use Rattle.sc_sorts.specs.declared.sort.Sort.{Sort}
use Rattle.sc_sorts.specs.Entities.{choices_of}
use Rattle.sc_sorts.specs.declared.node.Leaf.TheVariants as leafs
use Rattle.sc_sorts.specs.declared.node.Literal.{Literal}
use Rattle.sc_sorts.specs.declared.node.Literal.TheVariants as literal
use Rattle.sc_sorts.specs.declared.node.BinaryOp.TheVariants as binary
use Rattle.sc_terms.specs.Trees.{Tree, leaf, one, two, choice, many}
use Rattle.sc_terms.specs.TreeSorts.{tree_sort}
use Rattle.sc_terms.specs.Tables.{tree}
use Rattle.sc_terms.specs.Order.{tree_cmp, tree_eq}
use Rattle.sc_terms.specs.Folds.{equal_term, equation, literal_of, literal_term, not_term, other_equal}
use Rattle.sc_terms.proofs.OrderLaws.{tree_eq-exact}
use Rattle.sc_term_laws.specs.Judging.{IsTermOf}
use Rattle.sc_term_laws.specs.Judging as judged
use Rattle.sc_footprint.specs.Problems.{Posed, IsPosed, closed_terms, literal, literal_in}
use Rattle.sc_footprint.specs.Theories.{TermsHold}
use Rattle.sc_footprint.proofs.ProblemLaws.{term_judged}
use Rattle.sc_rule_instances.specs.EntityLiterals.{is_entity_literal}
use Rattle.sc_rule_instances.specs.Lookups.{IsFoundAmong, IsNumberAmong}
use Rattle.sc_rule_instances.proofs.PartLaws.{find_none}
use Rattle.sc_rule_laws.specs.Terms.{entity}
use Rattle.th_entities_instances.specs.Rows.{literal_equal}
use Rattle.th_entities_instances.proofs.AbsentLaws.{first_absent, second_absent, literal_truth, entity_number}

-- ---- uids

own_level : (o : Ordering) → o ≡ ordering_reverse o → is_eq o ≡ true
own_level Equal e = refl
own_level Less e = absurd cc
own_level Greater e = absurd cc

own_uid : (u : Uid) → is_eq (uid_cmp u u) ≡ true
own_uid u = own_level (uid_cmp u u) (uid_cmp_total.antisymm u u)

-- ---- what is found among closed terms

pub found_passes : (test : Tree → Bool) (ts : List Tree) (t : Tree) → find test ts ≡ Some t → Has ts t × (test t ≡ true)
found_passes test [] t = λ e. absurd cc
found_passes test (u ∷ us) t = by (test u) refl (found_passes test us t)
  where
    by : (b : Bool) → test u ≡ b → (find test us ≡ Some t → Has us t × (test t ≡ true)) → cond b (Some u) (find test us) ≡ Some t → Has (u ∷ us) t × (test t ≡ true)
    by true f rest e = let same : u ≡ t = cc in (inl same, ap test (sym same) ∙ f)
    by false f rest e = let r = rest e in (inr r.0, r.1)

-- the choices of a judged entity are its type's
choices_are : (d : Declarations) (env : Env) (written : List Uid) (k : Sort) (u : Uid) (us : List Uid) → IsTermOf d env written k (leaf (leafs.Literal (literal.Entity u us))) → us ≡ choices_of d u.type_name
choices_are _ _ _ _ _ _ (judged.of_uid u h) = refl
choices_are _ _ _ _ _ _ (judged.of_default name h e) = sym e

-- ---- equations

unlike : (x : Tree) (l : Literal) → literal_of x ≡ None → tree_eq x (literal_term l) ≡ false
unlike x l e = by (tree_eq x (literal_term l)) refl
  where
    by : (b : Bool) → tree_eq x (literal_term l) ≡ b → b ≡ false
    by false g = refl
    by true g = absurd (let f : None ≡ Some l = sym e ∙ ap literal_of (tree_eq-exact x (literal_term l) g) in cc)

-- of what is no literal an equation with a literal entity doesn't fold
plain : (x : Tree) (u : Uid) (us : List Uid) → literal_of x ≡ None → equal_term x (literal_term (literal.Entity u us)) ≡ equation (is_gt (tree_cmp x (literal_term (literal.Entity u us)))) x (literal_term (literal.Entity u us))
unfolding equal_term
plain (leaf (leafs.Literal l)) u us e = absurd cc
plain (leaf l) u us e = rw (unlike (leaf l) (literal.Entity u us) e) refl
plain (one o a) u us e = rw (unlike (one o a) (literal.Entity u us) e) refl
plain (two o a b) u us e = rw (unlike (two o a b) (literal.Entity u us) e) refl
plain (choice c a b) u us e = rw (unlike (choice c a b) (literal.Entity u us) e) refl
plain (many o ts) u us e = rw (unlike (many o ts) (literal.Entity u us) e) refl

module _ (laws : TermsHold) (p : Posed) (posed : IsPosed p) where
  literal_is : (u : Uid) (t : Tree) → is_entity_literal u t ≡ true → Contains (closed_terms p) t → t ≡ entity p.schema u
  literal_is u (leaf (leafs.Literal (literal.Entity v us))) h there =
      let same : v ≡ u = sym (uid_cmp_level u v (is_eq_true (uid_cmp u v) h)) in
      let own = choices_are p.schema p.env p.literals (tree_sort (leaf (leafs.Literal (literal.Entity v us)))) v us (term_judged laws p posed (leaf (leafs.Literal (literal.Entity v us))) there) in
      ap (λ (vs : List Uid). literal_term (literal.Entity v vs)) own ∙ ap (λ (w : Uid). literal_term (literal.Entity w (choices_of p.schema w.type_name))) same
  literal_is u _ h there = absurd cc

  pub entity_found : (x : Tree) (u : Uid) (n : ℕ) (l : Lit) → IsFoundAmong p (find (is_entity_literal u) (closed_terms p)) (Some n) → l ≡ literal_in p (equal_term x (tree p.nodes n)) → l ≡ literal_in p (equal_term x (entity p.schema u))
  entity_found x u n l = by (find (is_entity_literal u) (closed_terms p)) refl
    where
      by : (o : Option Tree) → find (is_entity_literal u) (closed_terms p) ≡ o → IsNumberAmong p.nodes o (Some n) → l ≡ literal_in p (equal_term x (tree p.nodes n)) → l ≡ literal_in p (equal_term x (entity p.schema u))
      by (Some t) e h f =
          let r = found_passes (is_entity_literal u) (closed_terms p) t e in
          f ∙ ap (λ (z : Tree). literal_in p (equal_term x z)) (h.is ∙ literal_is u t r.1 (Contains-from_Has (closed_terms p) t r.0))
      by None e h f = absurd h

  -- of two literals that are one where their trees are
  truth_literal : (t same : Bool) (a b : Tree) → (t ≡ true → same ≡ true) → cond same (positive 1) (negation (positive 1)) ≡ literal_in p (other_equal t (Some same) a b)
  truth_literal false same a b h = sym (literal_truth laws p posed same)
  truth_literal true same a b h = sym (literal_truth laws p posed true ∙ ap (λ (c : Bool). cond c (positive 1) (negation (positive 1))) (sym (h refl)))

  apart : (l : Literal) (u : Uid) (us : List Uid) → (l ≡ literal.Entity u us → ⊥) → tree_eq (literal_term l) (literal_term (literal.Entity u us)) ≡ true → false ≡ true
  apart l u us h e = absurd (let f = ap literal_of (tree_eq-exact (literal_term l) (literal_term (literal.Entity u us)) e) in h (some_one l (literal.Entity u us) f))
    where
      some_one : (a b : Literal) → Some a ≡ Some b → a ≡ b
      some_one a b e = cc

  written : (l : Literal) (u : Uid) → literal_equal l u ≡ literal_in p (equal_term (literal_term l) (entity p.schema u))
  unfolding equal_term not_term literal
  written (literal.Bool true) u = sym (ap positive (entity_number p u (choices_of p.schema u.type_name)))
  written (literal.Bool false) u = sym (ap (λ (k : ℕ). negation (positive k)) (entity_number p u (choices_of p.schema u.type_name)))
  written (literal.Entity v us) u =
      truth_literal (tree_eq (literal_term (literal.Entity v us)) (entity p.schema u)) (is_eq (uid_cmp v u)) (literal_term (literal.Entity v us)) (entity p.schema u)
      (λ e. let f = tree_eq-exact (literal_term (literal.Entity v us)) (entity p.schema u) e in subst (λ (w : Uid). is_eq (uid_cmp v w) ≡ true) (uid_of v us u (choices_of p.schema u.type_name) f) (own_uid v))
    where
      uid_of : (a : Uid) (cs : List Uid) (b : Uid) (bs : List Uid) → literal_term (literal.Entity a cs) ≡ literal_term (literal.Entity b bs) → a ≡ b
      uid_of a cs b bs e = cc
  written (literal.Long n) u =
      truth_literal (tree_eq (literal_term (literal.Long n)) (entity p.schema u)) false (literal_term (literal.Long n)) (entity p.schema u) (apart (literal.Long n) u (choices_of p.schema u.type_name) (λ e. (absurd cc)))
  written (literal.String n) u =
      truth_literal (tree_eq (literal_term (literal.String n)) (entity p.schema u)) false (literal_term (literal.String n)) (entity p.schema u) (apart (literal.String n) u (choices_of p.schema u.type_name) (λ e. (absurd cc)))
  written (literal.Decimal n) u =
      truth_literal (tree_eq (literal_term (literal.Decimal n)) (entity p.schema u)) false (literal_term (literal.Decimal n)) (entity p.schema u) (apart (literal.Decimal n) u (choices_of p.schema u.type_name) (λ e. (absurd cc)))
  written (literal.Ip n) u =
      truth_literal (tree_eq (literal_term (literal.Ip n)) (entity p.schema u)) false (literal_term (literal.Ip n)) (entity p.schema u) (apart (literal.Ip n) u (choices_of p.schema u.type_name) (λ e. (absurd cc)))

  pub entity_written : (x : Tree) (l : Literal) (u : Uid) → literal_of x ≡ Some l → literal_equal l u ≡ literal_in p (equal_term x (entity p.schema u))
  entity_written (leaf (leafs.Literal m)) l u e = let same : m ≡ l = cc in subst (λ (k : Literal). literal_equal k u ≡ literal_in p (equal_term (literal_term m) (entity p.schema u))) same (written m u)
  entity_written _ l u e = absurd cc

  nowhere : (b : Bool) (x t : Tree) → ¬ (Contains (closed_terms p) t) → positive 0 ≡ literal_in p (equation b x t)
  nowhere true x t h = first_absent laws p posed binary.Equal t x h
  nowhere false x t h = second_absent laws p posed binary.Equal x t h

  pub entity_absent : (x : Tree) (u : Uid) → literal_of x ≡ None → IsFoundAmong p (find (is_entity_literal u) (closed_terms p)) None → positive 0 ≡ literal_in p (equal_term x (entity p.schema u))
  entity_absent x u e = by (find (is_entity_literal u) (closed_terms p)) refl
    where
      by : (o : Option Tree) → find (is_entity_literal u) (closed_terms p) ≡ o → IsNumberAmong p.nodes o None → positive 0 ≡ literal_in p (equal_term x (entity p.schema u))
      by (Some t) f h = absurd h
      by None f h =
          nowhere (is_gt (tree_cmp x (entity p.schema u))) x (entity p.schema u) (λ k. find_none (is_entity_literal u) (closed_terms p) (entity p.schema u) f (own_uid u) (Has-from_Contains (closed_terms p) (entity p.schema u) k))
          ∙ ap (literal_in p) (sym (plain x u (choices_of p.schema u.type_name) e))
