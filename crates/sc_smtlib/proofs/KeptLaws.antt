-- The closed terms of a problem that are subterms of its goal.
use Rattle.std.proofs.Common.{◌≡◌, ◌<◌, ◌≤◌, ◌+◌, inl, inr, ⊎_elim, ℕ, zero, suc, Bool, true, false, List, [], ◌∷◌, map, length, drop, filter, nat_eq, refl, sym, ap, ◌∙◌, subst, arith}
use Rattle.std.proofs.lemmas.List.{drop_all}
use Rattle.std.specs.List.{AllByRecursion, IsDistinct}
use Rattle.std.specs.List.Sorted.{IsStrictlySortedBy}
use Rattle.std.specs.declared.cmp.Ordering.TheVariants.{Less}
use Rattle.sc_lists.specs.Members.{Has}
use Rattle.sc_lists.proofs.MemberLaws.{Has-map, map-Has, Has-right, Has-from_Contains, Contains-from_Has, AllByRecursion-Has}
use Rattle.sc_lists.proofs.ListLaws.{AllByRecursion-filter}
use Rattle.sc_lists.proofs.OrderingLaws.{less≢equal}
use Rattle.sc_laws.proofs.NumberLaws.{nat_eq_true}
use Rattle.sc_schema.specs.declared.declarations.Env.{Env}
use Rattle.sc_schema.specs.Declarations.{Declarations}
use Rattle.sc_sorts.specs.declared.node.Node.{Node}
use Rattle.sc_terms.specs.Trees.{Tree}
use Rattle.sc_terms.specs.Tables.{tree, IsTable}
use Rattle.sc_terms.specs.Order.{tree_cmp}
use Rattle.sc_terms.proofs.OrderLaws.{tree_cmp_level}
use Rattle.sc_closure_rules.specs.Closure.{Closed, of_goal, next, follow, inside, choices, beside, parts}
use Rattle.sc_closure.specs.Following.{put_new}
use Rattle.sc_closure.proofs.PuttingLaws.{all_listed}
use Rattle.sc_footprint.specs.Problems.{Posed, IsPosed, closed_terms, goal_term}
use Rattle.sc_smtlib_lines.specs.Subterms.{AreJust}
use Rattle.sc_smtlib_terms.specs.Forms.{IsSubterm, whole, part_of}
use Rattle.sc_smtlib.specs.Marks.{is_marked, kept_at, AreMarked}
use Rattle.sc_smtlib.proofs.MarkLaws.{has_mark, past_marks}

-- ---- the closed terms one after the other

one_kept : (marks : List Bool) (x : ℕ) (xs ks : List ℕ) (b : Bool) → is_marked marks x ≡ b
    → put_new (put_new ks (filter (is_marked marks) (x ∷ []))) (filter (is_marked marks) xs) ≡ put_new ks (filter (is_marked marks) (x ∷ xs))
one_kept marks x xs ks true t = rw t refl
one_kept marks x xs ks false t = rw t refl

kept_next : (marks : List Bool) (closed : List ℕ) (i : ℕ) (ks new all : List ℕ) → i < length closed → new ≡ put_new ks (kept_at marks closed i)
    → put_new ks (filter (is_marked marks) (drop i closed)) ≡ all → put_new new (filter (is_marked marks) (drop (suc i) closed)) ≡ all
kept_next marks [] i ks new all h e f = absurd (omega (arith, h))
kept_next marks (x ∷ xs) zero ks new all h e f = ap (λ z. put_new z (filter (is_marked marks) xs)) e ∙ one_kept marks x xs ks (is_marked marks x) refl ∙ f
kept_next marks (x ∷ xs) (suc i) ks new all h e f = kept_next marks xs i ks new all (omega (arith, h)) e f

pub kept_more : (marks : List Bool) (closed : List ℕ) (i : ℕ) (ks new all : List ℕ) → i < length closed → new ≡ put_new ks (kept_at marks closed i)
    → put_new ks (filter (is_marked marks) (drop i closed)) ≡ all → put_new new (filter (is_marked marks) (drop (i + 1) closed)) ≡ all
kept_more marks closed i ks new all h e f =
    let further : suc i ≡ i + 1 = omega arith in
    subst (λ z. put_new new (filter (is_marked marks) (drop z closed)) ≡ all) further (kept_next marks closed i ks new all h e f)

-- ---- numbers of terms that ascend come once

below_apart : (xs : List Node) (n : ℕ) (ns : List ℕ) → AllByRecursion (λ t. tree_cmp (tree xs n) t ≡ Less) (map (tree xs) ns) → AllByRecursion (λ m. nat_eq n m ≡ false) ns
below_apart xs n [] h = tt
below_apart xs n (m ∷ ns) h = (by (nat_eq n m) refl, below_apart xs n ns h.1)
  where
    by : (b : Bool) → nat_eq n m ≡ b → nat_eq n m ≡ false
    by true e =
        let same : n ≡ m = nat_eq_true n m e in
        absurd (less≢equal (sym h.0 ∙ (tree_cmp_level (tree xs n) (tree xs m)).1 (ap (tree xs) same)))
    by false e = e

once : (xs : List Node) (ns : List ℕ) → IsStrictlySortedBy tree_cmp (map (tree xs) ns) → IsDistinct nat_eq ns
unfolding IsStrictlySortedBy IsDistinct
once xs [] h = tt
once xs (n ∷ ns) h = (below_apart xs n ns h.0, once xs ns h.1)

pub all_kept : (marks : List Bool) (p : Posed) (rest ks : List ℕ) → IsPosed p → rest ≡ []
    → put_new ks (filter (is_marked marks) rest) ≡ put_new [] (filter (is_marked marks) p.closed) → ks ≡ filter (is_marked marks) p.closed
all_kept marks p rest ks posed e f = all_listed (is_marked marks) p.closed rest ks e (once p.nodes p.closed posed.are_closed.ordered) f

-- all were looked at
pub kept_end : (marks : List Bool) (p : Posed) (i : ℕ) (ks : List ℕ) → IsPosed p → length p.closed ≤ i
    → put_new ks (filter (is_marked marks) (drop i p.closed)) ≡ put_new [] (filter (is_marked marks) p.closed) → ks ≡ filter (is_marked marks) p.closed
kept_end marks p i ks posed h e = all_kept marks p (drop i p.closed) ks posed (drop_all i p.closed h) e

-- ---- those that are marked are the subterms of the goal

below_step : (xs : List Node) (q : ℕ → Bool) (t : Tree) (n : ℕ) (ns : List ℕ) (b : Bool) → q n ≡ b → tree_cmp t (tree xs n) ≡ Less
    → AllByRecursion (λ u. tree_cmp t u ≡ Less) (map (tree xs) (filter q ns)) → AllByRecursion (λ u. tree_cmp t u ≡ Less) (map (tree xs) (filter q (n ∷ ns)))
below_step xs q t n ns true e h rest = rw e (h, rest)
below_step xs q t n ns false e h rest = rw e rest

still_below : (xs : List Node) (q : ℕ → Bool) (t : Tree) (ns : List ℕ) → AllByRecursion (λ u. tree_cmp t u ≡ Less) (map (tree xs) ns)
    → AllByRecursion (λ u. tree_cmp t u ≡ Less) (map (tree xs) (filter q ns))
still_below xs q t [] h = tt
still_below xs q t (n ∷ ns) h = below_step xs q t n ns (q n) refl h.0 (still_below xs q t ns h.1)

sorted_step : (xs : List Node) (q : ℕ → Bool) (n : ℕ) (ns : List ℕ) (b : Bool) → q n ≡ b → IsStrictlySortedBy tree_cmp (map (tree xs) (n ∷ ns))
    → IsStrictlySortedBy tree_cmp (map (tree xs) (filter q ns)) → IsStrictlySortedBy tree_cmp (map (tree xs) (filter q (n ∷ ns)))
unfolding IsStrictlySortedBy
sorted_step xs q n ns true e h rest = rw e (still_below xs q (tree xs n) ns h.0, rest)
sorted_step xs q n ns false e h rest = rw e rest

still_sorted : (xs : List Node) (q : ℕ → Bool) (ns : List ℕ) → IsStrictlySortedBy tree_cmp (map (tree xs) ns) → IsStrictlySortedBy tree_cmp (map (tree xs) (filter q ns))
unfolding IsStrictlySortedBy
still_sorted xs q [] h = tt
still_sorted xs q (n ∷ ns) h = sorted_step xs q n ns (q n) refl h (still_sorted xs q ns h.1)

passes_step : (q : ℕ → Bool) (m n : ℕ) (ns : List ℕ) (b : Bool) → q m ≡ b → (Has (filter q ns) n → q n ≡ true) → Has (filter q (m ∷ ns)) n → q n ≡ true
passes_step q m n ns true e further k = let now = rw e at k in ⊎_elim (λ same. subst (λ z. q z ≡ true) same e) further now
passes_step q m n ns false e further k = further (rw e at k)

passes : (q : ℕ → Bool) (ns : List ℕ) (n : ℕ) → Has (filter q ns) n → q n ≡ true
passes q [] n h = absurd h
passes q (m ∷ ns) n h = passes_step q m n ns (q m) refl (λ k. passes q ns n k) h

stays_step : (q : ℕ → Bool) (m n : ℕ) (ns : List ℕ) (b : Bool) → q m ≡ b → (Has ns n → Has (filter q ns) n) → q n ≡ true → Has (m ∷ ns) n → Has (filter q (m ∷ ns)) n
stays_step q m n ns true t further e (inl same) = rw t (inl same)
stays_step q m n ns true t further e (inr k) = rw t (inr (further k))
stays_step q m n ns false t further e (inl same) = let f : true ≡ false = sym (subst (λ z. q z ≡ true) (sym same) e) ∙ t in absurd cc
stays_step q m n ns false t further e (inr k) = rw t (further k)

stays : (q : ℕ → Bool) (ns : List ℕ) (n : ℕ) → Has ns n → q n ≡ true → Has (filter q ns) n
stays q [] n h e = absurd h
stays q (m ∷ ns) n h e = stays_step q m n ns (q m) refl (λ k. stays q ns n k e) e h

is_closed : (d : Declarations) (env : Env) (goal t : Tree) → IsSubterm goal t → Closed d env goal t
unfolding follow
is_closed d env goal _ whole = of_goal
is_closed d env goal _ (part_of t p h k) =
    next t p (is_closed d env goal t h)
    (Contains-from_Has _ p (Has-right _ _ p (Has-right (inside t) _ p (Has-right (choices t) _ p (Has-right (beside d t) (parts t) p k)))))

marked_within : (xs : List Node) (goal : ℕ) (marks : List Bool) → AreMarked xs goal 0 marks → goal < length xs → (n : ℕ) → is_marked marks n ≡ true → n < length xs
marked_within xs goal marks is h n e = omega (arith, h, is.as_many, past_marks marks n e)

pub just_kept : (p : Posed) (marks : List Bool) → IsTable p.nodes → IsPosed p → AreMarked p.nodes p.goal 0 marks
    → AreJust tree_cmp (IsSubterm (goal_term p)) (map (tree p.nodes) (filter (is_marked marks) p.closed))
just_kept p marks table posed is = record {
  ascending = still_sorted p.nodes (is_marked marks) p.closed posed.are_closed.ordered;
  just = λ t. (to t, from t);
}
  where
    to : (t : Tree) → Has (map (tree p.nodes) (filter (is_marked marks) p.closed)) t → IsSubterm (goal_term p) t
    to t h =
        let k = map-Has (tree p.nodes) (filter (is_marked marks) p.closed) t h in
        subst (IsSubterm (goal_term p)) k.2 (is.sound k.0 (passes (is_marked marks) p.closed k.0 k.1))

    from : (t : Tree) → IsSubterm (goal_term p) t → Has (map (tree p.nodes) (filter (is_marked marks) p.closed)) t
    from t h =
        let m = has_mark p.nodes p.goal marks is t h in
        let k = map-Has (tree p.nodes) p.closed t (Has-from_Contains (closed_terms p) t ((posed.are_closed.just t).1 (is_closed p.schema p.env (goal_term p) t h))) in
        let same : m.0 ≡ k.0 = table.apart m.0 k.0 (marked_within p.nodes p.goal marks is posed.goal_within m.0 m.1) (AllByRecursion-Has (λ n. n < length p.nodes) p.closed k.0 posed.within k.1) (m.2 ∙ sym k.2) in
        subst (Has (map (tree p.nodes) (filter (is_marked marks) p.closed))) k.2
        (Has-map (tree p.nodes) (filter (is_marked marks) p.closed) k.0 (stays (is_marked marks) p.closed k.0 k.1 (subst (λ n. is_marked marks n ≡ true) same m.1)))

pub kept_within : (l : ℕ) (q : ℕ → Bool) (ns : List ℕ) → AllByRecursion (λ n. n < l) ns → AllByRecursion (λ n. n < l) (filter q ns)
kept_within l q ns h = AllByRecursion-filter q (λ n. n < l) ns h

pub subterms_kept : (p : Posed) (xs : List Node) (goal : ℕ) (marks slice : List Bool) (keys : List ℕ) → xs ≡ p.nodes → goal ≡ p.goal → IsTable xs → IsPosed p
    → AreMarked xs goal 0 marks → slice ≡ marks → keys ≡ filter (is_marked slice) p.closed → AreJust tree_cmp (IsSubterm (tree xs goal)) (map (tree xs) keys)
subterms_kept p xs goal marks slice keys e f table posed is g h =
    subst (λ z. AreJust tree_cmp (IsSubterm (tree z goal)) (map (tree z) keys)) (sym e)
    (subst (λ z. AreJust tree_cmp (IsSubterm (tree p.nodes z)) (map (tree p.nodes) keys)) (sym f)
    (subst (λ z. AreJust tree_cmp (IsSubterm (goal_term p)) (map (tree p.nodes) z)) (sym (h ∙ ap (λ m. filter (is_marked m) p.closed) g))
    (just_kept p marks (subst IsTable e table) posed (subst (λ z. AreMarked z p.goal 0 marks) e (subst (λ z. AreMarked xs z 0 marks) f is)))))

pub numbers_kept : (p : Posed) (xs : List Node) (slice : List Bool) (keys : List ℕ) → xs ≡ p.nodes → IsPosed p → keys ≡ filter (is_marked slice) p.closed
    → AllByRecursion (λ n. n < length xs) keys
numbers_kept p xs slice keys e posed h =
    subst (λ z. AllByRecursion (λ n. n < length z) keys) (sym e)
    (subst (λ z. AllByRecursion (λ n. n < length p.nodes) z) (sym h) (kept_within (length p.nodes) (is_marked slice) p.closed posed.within))

pub same_goal : (p : Posed) (xs : List Node) (goal : ℕ) → xs ≡ p.nodes → goal ≡ p.goal → tree xs goal ≡ goal_term p
same_goal p xs goal e f = ap (λ z. tree z goal) e ∙ ap (tree p.nodes) f
