-- EN7's literals: what declared ancestors of a type say of a term.
use Rattle.std.proofs.Common.{◌≡◌, ◌≢◌, ◌<◌, ◌-◌, ◌+◌, ℕ, zero, suc, Bool, true, false, cond, List, [], ◌∷◌, map, length, slice_get, get_or, Option, Some, None, IsSomeAnd, refl, sym, ap, ◌∙◌, subst, arith}
use Rattle.std.proofs.lemmas.List.{length-map}
use Rattle.sc_names.specs.declared.uid.Uid.{Uid}
use Rattle.sc_clauses.specs.declared.lit.Lit.{Lit}
use Rattle.sc_clauses.specs.Clauses.{positive}
use Rattle.sc_schema.specs.Declarations.{Declarations}
use Rattle.sc_sorts.specs.Entities.{of_type_name}
use Rattle.sc_terms.specs.Trees.{Tree}
use Rattle.sc_terms.specs.Folds.{equal_term}
use Rattle.sc_footprint.specs.Problems.{Posed, literal_in}
use Rattle.sc_rule_instances.specs.Clauses.{literal_for, clause_for, said_clause}
use Rattle.sc_rule_instances.specs.Saying.{count_of, literal_of}
use Rattle.sc_rule_laws.specs.Signed.{Signed, Said, so, unless}
use Rattle.sc_rule_laws.specs.Entities.{en7, en7_by, en7_of, is_literal_of}
use Rattle.sc_rule_laws.specs.Terms.{entity, member}
use Rattle.th_entities_instances.specs.Rows.{above_name, declared_above}
use Rattle.th_entities_instances.proofs.RowLaws.{declared_said}

module _ (d : Declarations) (s x : Tree) where
  pub nothing_said : None ≡ declared_above d s → en7 d s x ≡ None
  nothing_said e = declared_said d s x ∙ ap (λ (o : Option (List Uid)). en7_by d s (above_name s) o x) (sym e)

  pub said_of : (us : List Uid) → Some us ≡ declared_above d s → en7 d s x ≡ Some (en7_of d s (of_type_name (above_name s) us) x)
  said_of us e = declared_said d s x ∙ ap (λ (o : Option (List Uid)). en7_by d s (above_name s) o x) (sym e)

  pub one_said : (us : List Uid) (name : List ℕ) → Some us ≡ declared_above d s → name ≡ above_name s → is_literal_of (of_type_name name us) x ≡ true → en7 d s x ≡ Some (so (member x s) ∷ [])
  one_said us name e f h =
      let one : is_literal_of (of_type_name (above_name s) us) x ≡ true = ap (λ (n : List ℕ). is_literal_of (of_type_name n us) x) (sym f) ∙ h in
      said_of us e ∙ ap (λ (b : Bool). Some (cond b (so (member x s) ∷ []) (unless (member x s) ∷ map (λ (u : Uid). so (equal_term x (entity d u))) (of_type_name (above_name s) us)))) one

  pub each_said : (us : List Uid) (name : List ℕ) → Some us ≡ declared_above d s → name ≡ above_name s → is_literal_of (of_type_name name us) x ≡ false
      → en7 d s x ≡ Some (unless (member x s) ∷ map (λ (u : Uid). so (equal_term x (entity d u))) (of_type_name name us))
  each_said us name e f h =
      let one : is_literal_of (of_type_name (above_name s) us) x ≡ false = ap (λ (n : List ℕ). is_literal_of (of_type_name n us) x) (sym f) ∙ h in
      said_of us e ∙ ap (λ (b : Bool). Some (cond b (so (member x s) ∷ []) (unless (member x s) ∷ map (λ (u : Uid). so (equal_term x (entity d u))) (of_type_name (above_name s) us)))) one
      ∙ ap (λ (n : List ℕ). Some (unless (member x s) ∷ map (λ (u : Uid). so (equal_term x (entity d u))) (of_type_name n us))) (sym f)

  -- ---- how many

  pub none_counted : None ≡ declared_above d s → None ≡ count_of (en7 d s x)
  none_counted e = ap count_of (sym (nothing_said e))

  pub one_counted : (us : List Uid) (name : List ℕ) → Some us ≡ declared_above d s → name ≡ above_name s → is_literal_of (of_type_name name us) x ≡ true → Some 1 ≡ count_of (en7 d s x)
  one_counted us name e f h = ap count_of (sym (one_said us name e f h))

  pub each_counted : (us : List Uid) (name : List ℕ) (n : ℕ) → Some us ≡ declared_above d s → name ≡ above_name s → is_literal_of (of_type_name name us) x ≡ false → n ≡ length (of_type_name name us) → Some (n + 1) ≡ count_of (en7 d s x)
  each_counted us name n e f h k =
      let more : n + 1 ≡ suc (length (map (λ (u : Uid). so (equal_term x (entity d u))) (of_type_name name us))) = omega (arith, k, length-map (of_type_name name us) (λ (u : Uid). so (equal_term x (entity d u)))) in
      ap (λ (m : ℕ). Some m) more ∙ ap count_of (sym (each_said us name e f h))

  -- ---- literals

  module _ (p : Posed) (k : ℕ) (l : Lit) where
    one_at : (j : ℕ) → IsSomeAnd (count_of (Some (so (member x s) ∷ []))) (λ n. j < n) → l ≡ literal_for p (so (member x s)) → l ≡ literal_of p (Some (so (member x s) ∷ [])) j
    unfolding said_clause
    one_at zero h f = f
    one_at (suc j) h f = absurd (omega (arith, h))

    pub one_literal : (us : List Uid) (name : List ℕ) → Some us ≡ declared_above d s → name ≡ above_name s → is_literal_of (of_type_name name us) x ≡ true → IsSomeAnd (count_of (en7 d s x)) (λ n. k < n)
        → l ≡ literal_for p (so (member x s)) → l ≡ literal_of p (en7 d s x) k
    one_literal us name e f h z g =
        subst (λ (u : Said). l ≡ literal_of p u k) (sym (one_said us name e f h)) (one_at k (subst (λ (u : Said). IsSomeAnd (count_of u) (λ n. k < n)) (one_said us name e f h) z) g)

    first_at : (parts : List Signed) (j : ℕ) → j ≡ 0 → l ≡ literal_for p (unless (member x s)) → l ≡ literal_of p (Some (unless (member x s) ∷ parts)) j
    unfolding said_clause
    first_at parts zero e f = f
    first_at parts (suc j) e f = absurd (omega (arith, e))

    pub first_literal : (us : List Uid) (name : List ℕ) → Some us ≡ declared_above d s → name ≡ above_name s → is_literal_of (of_type_name name us) x ≡ false → k ≡ 0 → l ≡ literal_for p (unless (member x s)) → l ≡ literal_of p (en7 d s x) k
    first_literal us name e f h z g = subst (λ (u : Said). l ≡ literal_of p u k) (sym (each_said us name e f h)) (first_at (map (λ (u : Uid). so (equal_term x (entity d u))) (of_type_name name us)) k z g)

    map_at : (us : List Uid) (j : ℕ) → ((u : Uid) → slice_get us j ≡ Some u → l ≡ literal_in p (equal_term x (entity d u))) → j < length us → l ≡ get_or (clause_for p (map (λ (u : Uid). so (equal_term x (entity d u))) us)) j (positive 0)
    map_at [] j h b = absurd (omega (arith, b))
    map_at (u ∷ us) zero h b = h u refl
    map_at (u ∷ us) (suc j) h b = map_at us j h (omega (arith, b))

    each_at : (us : List Uid) (j : ℕ) → k ≡ j → k ≢ 0 → IsSomeAnd (count_of (Some (unless (member x s) ∷ map (λ (u : Uid). so (equal_term x (entity d u))) us))) (λ n. j < n)
        → ((u : Uid) → slice_get us (k - 1) ≡ Some u → l ≡ literal_in p (equal_term x (entity d u))) → l ≡ literal_of p (Some (unless (member x s) ∷ map (λ (u : Uid). so (equal_term x (entity d u))) us)) j
    unfolding said_clause
    each_at us zero i a h f = absurd (a i)
    each_at us (suc j) i a h f =
        let one : k - 1 ≡ j = omega (arith, i) in
        map_at us j (λ u e. f u (ap (λ (z : ℕ). slice_get us z) one ∙ e)) (omega (arith, h, length-map us (λ (u : Uid). so (equal_term x (entity d u)))))

    pub each_literal : (us : List Uid) (name : List ℕ) → Some us ≡ declared_above d s → name ≡ above_name s → is_literal_of (of_type_name name us) x ≡ false → IsSomeAnd (count_of (en7 d s x)) (λ n. k < n) → k ≢ 0
        → ((u : Uid) → slice_get (of_type_name name us) (k - 1) ≡ Some u → l ≡ literal_in p (equal_term x (entity d u))) → l ≡ literal_of p (en7 d s x) k
    each_literal us name e f h z a g =
        subst (λ (u : Said). l ≡ literal_of p u k) (sym (each_said us name e f h))
        (each_at (of_type_name name us) k refl a (subst (λ (u : Said). IsSomeAnd (count_of u) (λ n. k < n)) (each_said us name e f h) z) g)

    pub no_literal : None ≡ declared_above d s → positive 0 ≡ literal_of p (en7 d s x) k
    unfolding said_clause
    no_literal e = sym (ap (λ (u : Said). literal_of p u k) (nothing_said e))
