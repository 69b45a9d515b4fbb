-- Rows of rules: what each says whatever its terms are, how many literals that has, and each of these.
use Rattle.std.proofs.Common.{◌≡◌, ◌≢◌, ◌<◌, ◌==◌, ◌&&◌, ℕ, zero, suc, Bool, true, false, not, List, [], ◌∷◌, map, length, slice_get, get_or, Option, Some, None, IsSomeAnd, if◌then◌else◌, refl, sym, ap, ◌∙◌, subst, arith}
use Rattle.std.proofs.lemmas.List.{length-map}
use Rattle.sc_names.specs.declared.uid.Uid.{Uid}
use Rattle.sc_clauses.specs.declared.lit.Lit.{Lit}
use Rattle.sc_clauses.specs.Clauses.{positive}
use Rattle.sc_schema.specs.Declarations.{Declarations}
use Rattle.sc_sorts.specs.declared.node.Leaf.TheVariants.{Literal}
use Rattle.sc_sorts.specs.declared.node.Literal.TheVariants as literal
use Rattle.sc_sorts.specs.declared.node.UnaryOp.TheVariants as unary
use Rattle.sc_sorts.specs.declared.node.BinaryOp.TheVariants as binary
use Rattle.sc_terms.specs.Trees.{Tree, leaf, one, two, choice, many}
use Rattle.sc_terms.specs.TreeSorts.{tree_sort}
use Rattle.sc_terms.specs.Folds.{equal_term, default_term}
use Rattle.sc_footprint.specs.Problems.{Posed, literal_in}
use Rattle.sc_rule_instances.specs.Clauses.{literal_for, clause_for, said_clause}
use Rattle.sc_rule_instances.specs.Saying.{count_of, literal_of}
use Rattle.sc_rule_laws.specs.Signed.{Signed, Said, so, unless, given}
use Rattle.sc_rule_laws.specs.Entities.{en2, en4, en5, en6, en7, en7_by, chosen_of}
use Rattle.sc_rule_laws.specs.Terms.{above, choices_in, entity, keys, member}
use Rattle.th_entities_instances.specs.Rows.{are_ancestors_of, are_same_sets, above_name, declared_above, is_tag, moved, owner, tag_entity, tag_key}

-- ---- what each rule says, whatever the terms are

pub sets_said : (x s z : Tree) → en2 x s z ≡ given (are_same_sets s z) (unless (equal_term (owner s) (owner z)) ∷ unless (member x s) ∷ so (member x z) ∷ [])
sets_said x (one o e) (one q f) = refl
sets_said x (one o e) (leaf l) = refl
sets_said x (one o e) (two q a b) = refl
sets_said x (one o e) (choice c a b) = refl
sets_said x (one o e) (many q ts) = refl
sets_said x (leaf l) z = refl
sets_said x (two o a b) z = refl
sets_said x (choice c a b) z = refl
sets_said x (many o ts) z = refl

pub through_said : (e f x u : Tree) → en5 e f x u ≡ given (are_ancestors_of f u) (unless (member f (above (tree_sort f) e)) ∷ unless (member x u) ∷ so (member x (moved u e)) ∷ [])
through_said e f x (one (unary.Ancestors k) g) = refl
through_said e f x _ = refl

pub lacking_said : (a : Tree) → en6 a ≡ given (is_tag a) (so (member (tag_key a) (keys (tag_entity a))) ∷ so (equal_term a (default_term (tree_sort a))) ∷ [])
unfolding tree_sort
lacking_said (two (binary.Tag s) e k) = refl
lacking_said _ = refl

pub declared_said : (d : Declarations) (s x : Tree) → en7 d s x ≡ en7_by d s (above_name s) (declared_above d s) x
declared_said d (one (unary.Ancestors k) (leaf (Literal (literal.Entity u choices)))) x = refl
declared_said d (one (unary.Ancestors k) _) x = refl
declared_said d _ x = refl

-- ---- how many literals

count_given : (test : Bool) (parts : List Signed) → (if test then Some (length parts) else None) ≡ count_of (given test parts)
count_given true parts = refl
count_given false parts = refl

pub count_said : (said : Said) (test : Bool) (parts : List Signed) (n : Option ℕ) → said ≡ given test parts → n ≡ (if test then Some (length parts) else None) → n ≡ count_of said
count_said said test parts n e f = f ∙ count_given test parts ∙ ap count_of (sym e)

module _ (p : Posed) where
  -- ---- literals by their places

  given_first : (test : Bool) (s : Signed) (parts : List Signed) (k : ℕ) (l : Lit) → IsSomeAnd (count_of (given test (s ∷ parts))) (λ n. k < n) → k ≡ 0 → l ≡ literal_for p s → l ≡ literal_of p (given test (s ∷ parts)) k
  unfolding said_clause
  given_first true s parts zero l h e f = f
  given_first true s parts (suc k) l h e f = absurd (omega (arith, e))
  given_first false s parts k l h e f = absurd h

  given_second : (test : Bool) (s t : Signed) (parts : List Signed) (k : ℕ) (l : Lit) → IsSomeAnd (count_of (given test (s ∷ t ∷ parts))) (λ n. k < n) → k ≡ 1 → l ≡ literal_for p t
      → l ≡ literal_of p (given test (s ∷ t ∷ parts)) k
  unfolding said_clause
  given_second true s t parts zero l h e f = absurd (omega (arith, e))
  given_second true s t parts (suc zero) l h e f = f
  given_second true s t parts (suc (suc k)) l h e f = absurd (omega (arith, e))
  given_second false s t parts k l h e f = absurd h

  given_last_of_two : (test : Bool) (s t : Signed) (k : ℕ) (l : Lit) → IsSomeAnd (count_of (given test (s ∷ t ∷ []))) (λ n. k < n) → k ≢ 0 → l ≡ literal_for p t → l ≡ literal_of p (given test (s ∷ t ∷ [])) k
  unfolding said_clause
  given_last_of_two true s t zero l h a f = absurd (a refl)
  given_last_of_two true s t (suc zero) l h a f = f
  given_last_of_two true s t (suc (suc k)) l h a f = absurd (omega (arith, h))
  given_last_of_two false s t k l h a f = absurd h

  given_last_of_three : (test : Bool) (s t u : Signed) (k : ℕ) (l : Lit) → IsSomeAnd (count_of (given test (s ∷ t ∷ u ∷ []))) (λ n. k < n) → k ≢ 0 → k ≢ 1 → l ≡ literal_for p u
      → l ≡ literal_of p (given test (s ∷ t ∷ u ∷ [])) k
  unfolding said_clause
  given_last_of_three true s t u zero l h a b f = absurd (a refl)
  given_last_of_three true s t u (suc zero) l h a b f = absurd (b refl)
  given_last_of_three true s t u (suc (suc zero)) l h a b f = f
  given_last_of_three true s t u (suc (suc (suc k))) l h a b f = absurd (omega (arith, h))
  given_last_of_three false s t u k l h a b f = absurd h

  module _ (said : Said) (test : Bool) where
    pub first : (s : Signed) (parts : List Signed) (k : ℕ) (l : Lit) → said ≡ given test (s ∷ parts) → IsSomeAnd (count_of said) (λ n. k < n) → k ≡ 0 → l ≡ literal_for p s → l ≡ literal_of p said k
    first s parts k l e h z f = subst (λ (u : Said). l ≡ literal_of p u k) (sym e) (given_first test s parts k l (subst (λ (u : Said). IsSomeAnd (count_of u) (λ n. k < n)) e h) z f)

    pub second : (s t : Signed) (parts : List Signed) (k : ℕ) (l : Lit) → said ≡ given test (s ∷ t ∷ parts) → IsSomeAnd (count_of said) (λ n. k < n) → k ≡ 1 → l ≡ literal_for p t → l ≡ literal_of p said k
    second s t parts k l e h z f = subst (λ (u : Said). l ≡ literal_of p u k) (sym e) (given_second test s t parts k l (subst (λ (u : Said). IsSomeAnd (count_of u) (λ n. k < n)) e h) z f)

    pub last_of_two : (s t : Signed) (k : ℕ) (l : Lit) → said ≡ given test (s ∷ t ∷ []) → IsSomeAnd (count_of said) (λ n. k < n) → k ≢ 0 → l ≡ literal_for p t → l ≡ literal_of p said k
    last_of_two s t k l e h a f = subst (λ (u : Said). l ≡ literal_of p u k) (sym e) (given_last_of_two test s t k l (subst (λ (u : Said). IsSomeAnd (count_of u) (λ n. k < n)) e h) a f)

    pub last_of_three : (s t u : Signed) (k : ℕ) (l : Lit) → said ≡ given test (s ∷ t ∷ u ∷ []) → IsSomeAnd (count_of said) (λ n. k < n) → k ≢ 0 → k ≢ 1 → l ≡ literal_for p u → l ≡ literal_of p said k
    last_of_three s t u k l e h a b f =
        subst (λ (v : Said). l ≡ literal_of p v k) (sym e) (given_last_of_three test s t u k l (subst (λ (v : Said). IsSomeAnd (count_of v) (λ n. k < n)) e h) a b f)

  pub own_place : (e : Tree) (k : ℕ) (l : Lit) → IsSomeAnd (count_of (en4 e)) (λ n. k < n) → l ≡ literal_for p (unless (member e (above (tree_sort e) e))) → l ≡ literal_of p (en4 e) k
  unfolding said_clause
  own_place e zero l h f = f
  own_place e (suc k) l h f = absurd (omega (arith, h))

  -- ---- a tag that its entity hasn't

  given_true : (test : Bool) (parts : List Signed) (P : ℕ → Type 0) → IsSomeAnd (count_of (given test parts)) P → test ≡ true
  given_true true parts P h = refl
  given_true false parts P h = absurd h

  pub lacking_tag : (a : Tree) (k : ℕ) → IsSomeAnd (count_of (en6 a)) (λ n. k < n) → is_tag a ≡ true
  lacking_tag a k h = given_true (is_tag a) (so (member (tag_key a) (keys (tag_entity a))) ∷ so (equal_term a (default_term (tree_sort a))) ∷ []) (λ n. k < n)
      (subst (λ (u : Said). IsSomeAnd (count_of u) (λ n. k < n)) (lacking_said a) h)

  -- ---- literals of entities that a term may be

  map_at : (d : Declarations) (x : Tree) (us : List Uid) (j : ℕ) (l : Lit) → ((u : Uid) → slice_get us j ≡ Some u → l ≡ literal_in p (equal_term x (entity d u))) → j < length us
      → l ≡ get_or (clause_for p (map (λ (u : Uid). so (equal_term x (entity d u))) us)) j (positive 0)
  map_at d x [] j l h b = absurd (omega (arith, b))
  map_at d x (u ∷ us) zero l h b = h u refl
  map_at d x (u ∷ us) (suc j) l h b = map_at d x us j l h (omega (arith, b))

  chosen_by : (d : Declarations) (x : Tree) (us : List Uid) (test : Bool) (k : ℕ) (l : Lit) → IsSomeAnd (count_of (given test (map (λ (u : Uid). so (equal_term x (entity d u))) us))) (λ n. k < n)
      → ((u : Uid) → slice_get us k ≡ Some u → l ≡ literal_in p (equal_term x (entity d u))) → l ≡ literal_of p (given test (map (λ (u : Uid). so (equal_term x (entity d u))) us)) k
  unfolding said_clause
  chosen_by d x us true k l h f = map_at d x us k l f (omega (arith, h, length-map us (λ (u : Uid). so (equal_term x (entity d u)))))
  chosen_by d x us false k l h f = absurd h

  pub chosen_literal : (d : Declarations) (x : Tree) (asked : Bool) (k : ℕ) (l : Lit) → IsSomeAnd (count_of (chosen_of d x asked (choices_in x))) (λ n. k < n)
      → ((u : Uid) → slice_get (choices_in x) k ≡ Some u → l ≡ literal_in p (equal_term x (entity d u))) → l ≡ literal_of p (chosen_of d x asked (choices_in x)) k
  chosen_literal d x asked = chosen_by d x (choices_in x) (asked && not (length (choices_in x) == 0))

pub chosen_count : (d : Declarations) (x : Tree) (asked : Bool) (us : List Uid) (n : Option ℕ) → us ≡ choices_in x → n ≡ (if asked && not (length us == 0) then Some (length us) else None)
    → n ≡ count_of (chosen_of d x asked (choices_in x))
chosen_count d x asked us n e f =
    let test = asked && not (length (choices_in x) == 0) in
    count_said (chosen_of d x asked (choices_in x)) test (map (λ (u : Uid). so (equal_term x (entity d u))) (choices_in x)) n refl
    (f ∙ ap (λ (vs : List Uid). if asked && not (length vs == 0) then Some (length vs) else None) e
    ∙ ap (λ (k : ℕ). if test then Some k else None) (sym (length-map (choices_in x) (λ (u : Uid). so (equal_term x (entity d u))))))

-- a place of it is one of the choices
pub chosen_place : (d : Declarations) (x : Tree) (asked : Bool) (us : List Uid) (k : ℕ) → us ≡ choices_in x → IsSomeAnd (count_of (chosen_of d x asked (choices_in x))) (λ n. k < n) → k < length us
chosen_place d x asked us k e h = subst (λ (vs : List Uid). k < length vs) (sym e) (by (asked && not (length (choices_in x) == 0)) h)
  where
    by : (test : Bool) → IsSomeAnd (count_of (given test (map (λ (u : Uid). so (equal_term x (entity d u))) (choices_in x)))) (λ n. k < n) → k < length (choices_in x)
    by true z = omega (arith, z, length-map (choices_in x) (λ (u : Uid). so (equal_term x (entity d u))))
    by false z = absurd z
