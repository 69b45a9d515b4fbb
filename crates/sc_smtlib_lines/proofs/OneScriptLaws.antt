-- There is one script of a goal.
use Rattle.std.proofs.Common.{◌≡◌, ◌↔◌, ◌⊎◌, inl, inr, ⊎_elim, ◌<◌, ℕ, List, [], ◌∷◌, ◌++◌, length, map, flat_map, true, false, refl, sym, ap, ◌∙◌, subst}
use Rattle.std.proofs.lemmas.List.{length-map}
use Rattle.std.specs.Cmp.{IsTotalOrder}
use Rattle.std.proofs.lemmas.Cmp.{nat_cmp_total}
use Rattle.std.specs.List.{AllByRecursion}
use Rattle.std.specs.List.Sorted.{IsStrictlySortedBy}
use Rattle.std.specs.Ordering.{is_lt, ordering_reverse, ordering_then, nat_cmp}
use Rattle.std.specs.declared.cmp.Ordering.{Ordering}
use Rattle.std.specs.declared.cmp.Ordering.TheVariants.{Less, Equal, Greater}
use Rattle.sc_lists.specs.Members.{Has}
use Rattle.sc_lists.proofs.MemberLaws.{AllByRecursion-Has}
use Rattle.sc_terms.specs.Trees.{Tree}
use Rattle.sc_terms.specs.Order.{tree_cmp}
use Rattle.sc_terms.proofs.OrderLaws.{tree_cmp_total}
use Rattle.sc_sorts.specs.declared.sort.Sort.{Sort}
use Rattle.sc_sorts.specs.Order.{sort_cmp}
use Rattle.sc_sorts.specs.OrderLaws.{sort_cmp_total}
use Rattle.sc_closure_rules.specs.Closure.{parts}
use Rattle.sc_turns.specs.Turns.{InTurn}
use Rattle.sc_turns.proofs.OneOrderLaws.{one_order}
use Rattle.sc_smtlib_lines.specs.declared.functions.Function.{Function}
use Rattle.sc_smtlib_lines.specs.contracts.functions.FunctionOrd.TheImpl.Laws.{total-law}
use Rattle.sc_smtlib_lines.specs.Depths.{depth, depth_cmp}
use Rattle.sc_smtlib_lines.specs.Functions.{function_cmp}
use Rattle.sc_smtlib_lines.specs.Names.{part_places, places_of}
use Rattle.sc_smtlib_lines.specs.Scripts.{IsScript, IsScriptBy, declarations, assertions, functions_of, with_newline}
use Rattle.sc_smtlib_lines.specs.Subterms.{AreJust, datatypes_of}
use Rattle.sc_smtlib_terms.specs.Forms.{IsSubterm}

-- ---- lists in order of the same members are one

-- never the one way and the other
pub record IsStrict {X : Type 0} (R : X → X → Ordering) : Type 0 where
  pub apart : (a b : X) → R a b ≡ Less → R b a ≡ Less → ⊥

less_once : (o p : Ordering) → o ≡ ordering_reverse p → o ≡ Less → p ≡ Less → ⊥
less_once o p e h k = let f : true ≡ false = ap is_lt (sym h ∙ e ∙ ap ordering_reverse k) in absurd cc

strict_total : {X : Type 0} (R : X → X → Ordering) → IsTotalOrder R → IsStrict R
strict_total R total = record { apart = λ a b h k. less_once (R a b) (R b a) (total.antisymm a b) h k }

module _ {X : Type 0} (R : X → X → Ordering) (strict : IsStrict R) where
  below : (x : X) (xs : List X) → IsStrictlySortedBy R (x ∷ xs) → AllByRecursion (λ y. R x y ≡ Less) xs
  unfolding IsStrictlySortedBy
  below x xs h = h.0

  rest : (x : X) (xs : List X) → IsStrictlySortedBy R (x ∷ xs) → IsStrictlySortedBy R xs
  unfolding IsStrictlySortedBy
  rest x xs h = h.1

  -- the first is not among the others
  not_later : (x : X) (xs : List X) → IsStrictlySortedBy R (x ∷ xs) → Has xs x → ⊥
  not_later x xs h k = let e = AllByRecursion-Has (λ y. R x y ≡ Less) xs x (below x xs h) k in strict.apart x x e e

  first : (x y : X) (xs ys : List X) → IsStrictlySortedBy R (x ∷ xs) → IsStrictlySortedBy R (y ∷ ys) → Has (y ∷ ys) x → Has (x ∷ xs) y → x ≡ y
  first x y xs ys h k (inl e) m = sym e
  first x y xs ys h k (inr n) (inl e) = e
  first x y xs ys h k (inr n) (inr m) =
      absurd (strict.apart x y (AllByRecursion-Has (λ z. R x z ≡ Less) xs y (below x xs h) m) (AllByRecursion-Has (λ z. R y z ≡ Less) ys x (below y ys k) n))

  others : (x y z : X) (xs ys : List X) → x ≡ y → IsStrictlySortedBy R (x ∷ xs) → Has xs z → Has (y ∷ ys) z → Has ys z
  others x y z xs ys e h m (inl same) = absurd (not_later x xs h (subst (Has xs) (sym same ∙ sym e) m))
  others x y z xs ys e h m (inr n) = n

  pub one_list : (xs ys : List X) → IsStrictlySortedBy R xs → IsStrictlySortedBy R ys → ((z : X) → Has xs z → Has ys z) → ((z : X) → Has ys z → Has xs z) → xs ≡ ys
  one_list [] [] h k f g = refl
  one_list [] (y ∷ ys) h k f g = absurd (g y (inl refl))
  one_list (x ∷ xs) [] h k f g = absurd (f x (inl refl))
  one_list (x ∷ xs) (y ∷ ys) h k f g =
      let e : x ≡ y = first x y xs ys h k (f x (inl refl)) (g y (inl refl)) in
      let es : xs ≡ ys = one_list xs ys (rest x xs h) (rest y ys k) (λ z m. others x y z xs ys e h m (f z (inr m))) (λ z m. others y x z ys xs (sym e) k m (g z (inr m))) in
      λ i. e i ∷ es i

  pub one_just : (P : X → Type 0) (xs ys : List X) → AreJust R P xs → AreJust R P ys → xs ≡ ys
  one_just P xs ys a b = one_list xs ys a.ascending b.ascending (λ z m. (b.just z).1 ((a.just z).0 m)) (λ z m. (a.just z).1 ((b.just z).0 m))

-- ---- datatypes

then_less : (o p : Ordering) → ordering_then o p ≡ Less → (o ≡ Less) ⊎ ((o ≡ Equal) × (p ≡ Less))
then_less Less p h = inl refl
then_less Equal p h = inr (refl, h)
then_less Greater p h = let f : false ≡ true = ap is_lt h in absurd cc

reversed : (o p : Ordering) → o ≡ ordering_reverse p → p ≡ Equal → o ≡ Equal
reversed o p e h = e ∙ ap ordering_reverse h

depth_strict : IsStrict depth_cmp
depth_strict = record { apart = λ a b h k. by a b (then_less (nat_cmp (depth a) (depth b)) (sort_cmp a b) h) (then_less (nat_cmp (depth b) (depth a)) (sort_cmp b a) k) }
  where
    equal_less : (o : Ordering) → o ≡ Equal → o ≡ Less → ⊥
    equal_less o e h = let f : false ≡ true = sym (ap is_lt e) ∙ ap is_lt h in absurd cc

    by : (a b : Sort) → (nat_cmp (depth a) (depth b) ≡ Less) ⊎ ((nat_cmp (depth a) (depth b) ≡ Equal) × (sort_cmp a b ≡ Less))
        → (nat_cmp (depth b) (depth a) ≡ Less) ⊎ ((nat_cmp (depth b) (depth a) ≡ Equal) × (sort_cmp b a ≡ Less)) → ⊥
    by a b (inl h) (inl k) = less_once _ _ (nat_cmp_total.antisymm (depth a) (depth b)) h k
    by a b (inl h) (inr k) = equal_less _ (reversed _ _ (nat_cmp_total.antisymm (depth a) (depth b)) k.0) h
    by a b (inr h) (inl k) = equal_less _ (reversed _ _ (nat_cmp_total.antisymm (depth b) (depth a)) h.0) k
    by a b (inr h) (inr k) = less_once _ _ (sort_cmp_total.antisymm a b) h.1 k.1

-- ---- scripts

one_text : (goal : Tree) (ts : List Tree) (ds : List Sort) (a b : List ℕ) → IsScriptBy goal ts ds a → IsScriptBy goal ts ds b → a ≡ b
one_text goal ts ds a b p q =
    let fs = one_just function_cmp (strict_total function_cmp total-law) (Has (functions_of ds ts)) p.functions q.functions p.used q.used in
    let many = sym (length-map ts (λ t. places_of ts (parts t))) in
    let os = one_order (part_places ts) p.order q.order p.in_turn q.in_turn
    (λ x h. p.whole x (subst (λ n. x < n) (sym many) h)) (λ x h. q.whole x (subst (λ n. x < n) (sym many) h)) in
    p.is ∙ ap (λ z. flat_map with_newline (declarations ds ts z ++ assertions ds ts p.order goal)) fs
    ∙ ap (λ z. flat_map with_newline (declarations ds ts q.functions ++ assertions ds ts z goal)) os ∙ sym q.is

pub one_script : (goal : Tree) (a b : List ℕ) → IsScript goal a → IsScript goal b → a ≡ b
one_script goal a b p q =
    let ts = one_just tree_cmp (strict_total tree_cmp tree_cmp_total) (IsSubterm goal) p.terms q.terms p.subterms q.subterms in
    let told = subst (λ z. AreJust depth_cmp (Has (datatypes_of z)) p.datatypes) ts p.told_of in
    let ds = one_just depth_cmp depth_strict (Has (datatypes_of q.terms)) p.datatypes q.datatypes told q.told_of in
    one_text goal q.terms q.datatypes a b (subst (λ z. IsScriptBy goal q.terms z a) ds (subst (λ z. IsScriptBy goal z p.datatypes a) ts p.by)) q.by

pub whole_script : (goal : Tree) (ts : List Tree) (ds es : List Sort) (v : List ℕ) → AreJust tree_cmp (IsSubterm goal) ts → AreJust depth_cmp (Has (datatypes_of ts)) ds
    → es ≡ ds → IsScriptBy goal ts es v → IsScript goal v
whole_script goal ts ds es v subterms told e by =
    record { terms = ts; datatypes = ds; subterms = subterms; told_of = told; by = subst (λ z. IsScriptBy goal ts z v) e by }
