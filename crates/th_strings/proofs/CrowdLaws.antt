-- Crowds of strings: each is a falsified instance of ST3, and each falsified instance is one.
use Rattle.std.proofs.Common.{◌≡◌, ◌≢◌, ◌<◌, ◌≤◌, ◌&&◌, ◌==◌, ℕ, zero, suc, Bool, true, false, inl, inr, List, [], ◌∷◌, map, length, slice_get, get_or, Option, Some, None, IfSome, IfNone, unwrap_or, refl, sym, ap, ◌∙◌, subst, arith, eq-eqb}
use Rattle.std.proofs.lemmas.List.{length-map}
use Rattle.std.proofs.lemmas.List.Elements.{All-from_recursion, recursion_from_All}
use Rattle.std.proofs.lemmas.List.Kept.{AllPairs-cons}
use Rattle.std.specs.List.{All, AllByRecursion, AllPairs, list_all}
use Rattle.sc_laws.proofs.NumberLaws.{nat_eq_true}
use Rattle.sc_laws.proofs.OptionLaws.{same_some}
use Rattle.sc_lists.specs.Members.{Has}
use Rattle.sc_lists.proofs.MemberLaws.{Has-place, AllByRecursion-Has, Has-AllByRecursion, map-Has, Has-map}
use Rattle.sc_lists.proofs.ListLaws.{list_all_true}
use Rattle.sc_languages.specs.Strings.{AreDistinct}
use Rattle.sc_clauses.specs.Assignments.{Assignment}
use Rattle.sc_terms.specs.Tables.{tree}
use Rattle.sc_terms.specs.Trees.{Tree}
use Rattle.sc_footprint.specs.Problems.{Posed, IsPosed, term_of}
use Rattle.sc_rule_instances.proofs.FalseLaws.{true_isnt_false}
use Rattle.sc_rule_instances.proofs.KnownLaws.{few_is}
use Rattle.sc_rule_instances.specs.Known.{few_items, is_falsified, named_at, truth_of}
use Rattle.sc_rule_laws.specs.Signed.{given}
use Rattle.sc_rule_laws.specs.Strings.{Pattern, Signs, AreFew, crowd, st3}
use Rattle.sc_rule_laws.specs.Terms.{is_string}
use Rattle.sc_rule_laws.proofs.MemberLaws.{all_has}
use Rattle.th_strings_instances.proofs.FewLaws.{few_greater, few_asked, distinct_within}
use Rattle.th_strings_instances.specs.Instances.{all_at, on_all, with_term}
use Rattle.th_strings_instances.specs.declared.rule.StringRule.{StringRule}
use Rattle.th_strings_instances.specs.declared.rule.StringRule.TheVariants.{St3}
use Rattle.th_strings_instances.proofs.RulesHold.{with_view}
use Rattle.sc_falsified.specs.declared.crowds.Crowd.{Crowd}
use Rattle.sc_falsified.specs.Crowds.{Fits, IsCrowd, IsWithin, NoneCrowded}
use Rattle.th_strings.specs.Known.{row_at, row_of, sign_of}
use Rattle.th_strings.specs.Scarce.{AreScarce, IsScarce, IsScarceIf}
use Rattle.th_strings.specs.Texts.{AreTexts}
use Rattle.th_strings.specs.Violated.{IsViolated, AreCrowdsFree, IsRuleOf}
use Rattle.th_strings.proofs.MatchLaws.{string_text}
use Rattle.th_strings.proofs.TheoryLaws.{rule_out}
use Rattle.th_strings.proofs.OutLaws.{AreApart, AreAllApart, outs, broken, crowd_out, out_crowd}
use Rattle.th_strings.proofs.PlaceLaws.{equal_known, number_named, named_place, truth_view, truth_is, sign_is}

-- ---- lists

pairs_first : {X : Type 0} (R : X → X → Type 0) (x : X) (xs : List X) → AllPairs R (x ∷ xs) → All (R x) xs
pairs_first R x xs h = λ i d less. h 0 (suc i) d (omega arith) (omega (arith, less))

pairs_rest : {X : Type 0} (R : X → X → Type 0) (x : X) (xs : List X) → AllPairs R (x ∷ xs) → AllPairs R xs
pairs_rest R x xs h = λ i j d low high. h (suc i) (suc j) d (omega (arith, low)) (omega (arith, high))

-- ---- ST3 at terms

module _ (p : Posed) (m : Assignment) (qs : List Pattern) (v : Signs) where
  st3_out : (ts : List Tree) → length v ≡ length qs → AllByRecursion (λ t. is_string t ≡ true) ts → AllByRecursion (λ t. IsWithin v (row_at p m qs t)) ts → AreAllApart p m ts → is_falsified p m (st3 qs v ts) ≡ true
  unfolding is_falsified
  st3_out ts size strings fit apart =
      let same : (length v == length qs) ≡ true = eq-eqb (length v) (length qs) size in
      rw (same, list_all_true is_string ts strings) (broken p m (crowd qs v ts) (crowd_out p m qs v ts fit apart))

  out_st3 : (ts : List Tree) → is_falsified p m (st3 qs v ts) ≡ true
      → (length v ≡ length qs) × AllByRecursion (λ t. is_string t ≡ true) ts × AllByRecursion (λ t. IsWithin v (row_at p m qs t)) ts × AreAllApart p m ts
  unfolding is_falsified
  out_st3 ts = by (length v == length qs) (list_all is_string ts) refl refl
    where
      by : (a b : Bool) → (length v == length qs) ≡ a → list_all is_string ts ≡ b → is_falsified p m (given (a && b) (crowd qs v ts)) ≡ true
          → (length v ≡ length qs) × AllByRecursion (λ t. is_string t ≡ true) ts × AllByRecursion (λ t. IsWithin v (row_at p m qs t)) ts × AreAllApart p m ts
      by true true e f h =
          let size : length v ≡ length qs = nat_eq_true (length v) (length qs) e in
          let r = out_crowd p m qs v ts (omega (arith, size)) (outs p m (crowd qs v ts) h) in
          (size, Has-AllByRecursion (λ t. is_string t ≡ true) ts (λ t there. all_has is_string ts t f there), r.0, r.1)
      by true false e f h = absurd cc
      by false b e f h = absurd cc

  all_view : (o : Option (List Tree)) → is_falsified p m (on_all o (st3 qs v)) ≡ true → (ts : List Tree) × (o ≡ Some ts) × (is_falsified p m (st3 qs v ts) ≡ true)
  unfolding is_falsified
  all_view (Some ts) h = (ts, refl, h)
  all_view None h = absurd cc

-- ---- a crowd of closed terms, by their numbers

module _ (p : Posed) (m : Assignment) (qs : List Pattern) (ns : List ℕ) where
  abbrev pub rows : List Signs
  rows = map (λ n. row_of p m qs (term_of p n)) ns

  abbrev pub number : ℕ → ℕ
  number i = get_or ns i 0

  -- the closed term at a place
  abbrev at : ℕ → Tree
  at i = tree p.nodes (unwrap_or (named_at p ns i) 0)

  abbrev IsNamed : ℕ → Type 0
  IsNamed i = (x : ℕ) × (named_at p ns i ≡ Some x)

  at_named : (i x : ℕ) → named_at p ns i ≡ Some x → at i ≡ tree p.nodes x
  at_named i x e = ap (λ (o : Option ℕ). tree p.nodes (unwrap_or o 0)) e

  term_at : (i : ℕ) → IsNamed i → term_of p (number i) ≡ Some (at i)
  term_at i (x, e) = (number_named p m ns i x e).1 ∙ ap Some (sym (at_named i x e))

  terms_at : (items : List ℕ) → AllByRecursion IsNamed items → all_at p (map number items) ≡ Some (map at items)
  terms_at [] h = refl
  terms_at (i ∷ items) h = ap (λ (o : Option Tree). with_term o (all_at p (map number items))) (term_at i h.0) ∙ ap (with_term (Some (at i))) (terms_at items h.1)

  apart_at : (i j : ℕ) → truth_of p m ns i j ≡ Some false → AreApart p m (at i) (at j)
  apart_at i j e =
      let (x, y, f, g, k) = truth_view p m ns i j false e in
      ap (λ (t : Tree). equal_known p m t (at j)) (at_named i x f) ∙ ap (equal_known p m (tree p.nodes x)) (at_named j y g) ∙ k

  sign_at : (i j : ℕ) → IsNamed i → sign_of rows i j ≡ get_or (row_at p m qs (at i)) j None
  sign_at i j (x, e) = sign_is p m ns qs i j x e ∙ ap (λ (t : Tree). get_or (row_at p m qs t) j None) (sym (at_named i x e))

  -- what is known of the closed term at each of several places
  each_at : (P : Tree → Type 0) (items : List ℕ) → ((i : ℕ) → Has items i → P (at i)) → AllByRecursion P (map at items)
  each_at P items h = Has-AllByRecursion P (map at items) (λ t there. let (i, i_in, same) = map-Has at items t there in subst P same (h i i_in))

  all_apart : (items : List ℕ) → AllPairs (λ i j. truth_of p m ns i j ≡ Some false) items → AreAllApart p m (map at items)
  all_apart [] h = tt
  all_apart (i ∷ items) h = (
    each_at (AreApart p m (at i)) items (λ j there. apart_at i j (AllByRecursion-Has (λ j. truth_of p m ns i j ≡ Some false) items j
        (recursion_from_All (λ j. truth_of p m ns i j ≡ Some false) items (pairs_first (λ i j. truth_of p m ns i j ≡ Some false) i items h)) there)),
    all_apart items (pairs_rest (λ i j. truth_of p m ns i j ≡ Some false) i items h),
  )

  -- the closed term of a scarce number is a string
  scarce_named : (count i : ℕ) → AllByRecursion (IsScarce p m qs count) ns → i < length ns → IsNamed i × (is_string (at i) ≡ true)
  scarce_named count i each less = by ns i each less refl
    where
      place : (xs : List ℕ) (k : ℕ) → AllByRecursion (IsScarce p m qs count) xs → k < length xs → (n : ℕ) × (slice_get xs k ≡ Some n) × IsScarce p m qs count n
      place [] k h l = absurd (omega (arith, l))
      place (x ∷ xs) zero h l = (x, refl, h.0)
      place (x ∷ xs) (suc k) h l = place xs k h.1 (omega (arith, l))

      term_is : (o : Option Tree) → IsScarceIf p m qs count o → (t : Tree) × (o ≡ Some t) × (is_string t ≡ true)
      term_is (Some t) h = (t, refl, h.0)
      term_is None h = absurd h

      by : (xs : List ℕ) (k : ℕ) → AllByRecursion (IsScarce p m qs count) xs → k < length xs → xs ≡ ns → IsNamed k × (is_string (at k) ≡ true)
      by xs k h l same =
          let (n, there, own) = place xs k h l in
          let (t, t_is, string) = term_is (term_of p n) own in
          let (x, named, x_is) = named_place p m ns k n t (subst (λ (ys : List ℕ). slice_get ys k ≡ Some n) same there) t_is in
          ((x, named), ap is_string (at_named k x named ∙ x_is) ∙ string)

  abbrev pub Crowded : List ℕ → Signs → Type 0
  Crowded items signs = IsCrowd (truth_of p m ns) (sign_of rows) (AreFew qs) (few_items (length ns)) (length qs) items signs

  module _ (posed : IsPosed p) (count : ℕ) (all : List ℕ) (texts : AreTexts p all) (scarce : AreScarce p m qs count all ns) where
    size_is : few_items (length ns) ≡ length ns
    size_is = few_is p (length ns) posed (omega (arith, scarce.few, texts.few))

    pub items_within : (items : List ℕ) (signs : Signs) → Crowded items signs → AllByRecursion (λ i. i < length ns) items
    items_within items signs c = recursion_from_All (λ i. i < length ns) items (subst (λ k. All (λ i. i < k) items) size_is c.chosen.within)

    pub crowd_found : (items : List ℕ) (signs : Signs) → Crowded items signs → IsViolated p m qs (St3 signs (map number items))
    crowd_found items signs c =
        let within = items_within items signs c in
        let scarce_at : (i : ℕ) → Has items i → IsNamed i × (is_string (at i) ≡ true) = λ i there. scarce_named count i scarce.each (AllByRecursion-Has (λ i. i < length ns) items i within there) in
        let fits : (i : ℕ) → Has items i → Fits (sign_of rows) signs i = λ i there. AllByRecursion-Has (Fits (sign_of rows) signs) items i (recursion_from_All (Fits (sign_of rows) signs) items c.chosen.fit) there in
        let named = Has-AllByRecursion IsNamed items (λ i there. (scarce_at i there).0) in
        let strings = each_at (λ t. is_string t ≡ true) items (λ i there. (scarce_at i there).1) in
        let fit = each_at (λ t. IsWithin signs (row_at p m qs t)) items (λ i there j s e. sym (sign_at i j (scarce_at i there).0) ∙ fits i there j s e) in
        let out = st3_out p m qs signs (map at items) c.chosen.sized strings fit (all_apart items c.chosen.apart) in (
          ap (λ (o : Option (List Tree)). is_falsified p m (on_all o (st3 qs signs))) (terms_at items named) ∙ out,
          subst (AreFew qs signs) (sym (length-map items number)) c.too_many,
        )

    -- ---- there is no other crowd

    has_term : (ks : List ℕ) (ts : List Tree) (k : ℕ) (t : Tree) → all_at p ks ≡ Some ts → term_of p k ≡ Some t → Has ks k → Has ts t
    has_term [] ts k t e f h = absurd h
    has_term (l ∷ ks) ts k t e f h =
        let (u, us, g, i, same) = with_view (term_of p l) (all_at p ks) ts e in
        subst (λ (vs : List Tree). Has vs t) (sym same)
        (elim h [ inl is ↦ inl (same_some (sym g ∙ ap (term_of p) is ∙ f)) | inr later ↦ inr (has_term ks us k t i f later) ])

    -- terms that differ have different numbers
    apart_distinct : (ks : List ℕ) (ts : List Tree) → all_at p ks ≡ Some ts → AreAllApart p m ts → AreDistinct ks
    apart_distinct [] ts e h = tt
    apart_distinct (k ∷ ks) ts e h =
        let (u, us, g, i, same) = with_view (term_of p k) (all_at p ks) ts e in
        let apart = subst (AreAllApart p m) same h in
        (λ there. true_isnt_false p m u posed (AllByRecursion-Has (AreApart p m u) us u apart.0 (has_term ks us k u i g there)), apart_distinct ks us i apart.1)

    module _ (v : Signs) (less : ℕ) where
      -- a string with the signs of a crowd is scarce
      abbrev Own : Tree → Type 0
      Own t = (is_string t ≡ true) × IsWithin v (row_at p m qs t)

      in_texts : (ks : List ℕ) (ts : List Tree) → all_at p ks ≡ Some ts → AllByRecursion (λ t. is_string t ≡ true) ts → (k : ℕ) → Has ks k → Has all k
      in_texts [] ts e h k there = absurd there
      in_texts (l ∷ ks) ts e h k there =
          let (u, us, g, i, same) = with_view (term_of p l) (all_at p ks) ts e in
          let strings = subst (AllByRecursion (λ t. is_string t ≡ true)) same h in
          elim there [ inl is ↦ subst (Has all) is (texts.all l u g (string_text u strings.0)) | inr later ↦ in_texts ks us i strings.1 k later ]

      all_scarce : AreFew qs v less → less ≤ count → (ks : List ℕ) (ts : List Tree) → all_at p ks ≡ Some ts → AllByRecursion (λ t. is_string t ≡ true) ts → AllByRecursion (λ t. IsWithin v (row_at p m qs t)) ts → AllByRecursion (Has ns) ks
      all_scarce few within [] ts e h k = tt
      all_scarce few within (l ∷ ks) ts e h k =
          let (u, us, g, i, same) = with_view (term_of p l) (all_at p ks) ts e in
          let strings = subst (AllByRecursion (λ t. is_string t ≡ true)) same h in
          let fit = subst (AllByRecursion (λ t. IsWithin v (row_at p m qs t))) same k in
          let own : IsScarce p m qs count l = subst (IsScarceIf p m qs count) (sym g) (strings.0, few_greater qs (row_at p m qs u) less count within (few_asked qs v (row_at p m qs u) less fit.0 few)) in
          (scarce.all l (texts.all l u g (string_text u strings.0)) own, all_scarce few within ks us i strings.1 fit.1)

    -- the places of a crowd's numbers among the scarce ones
    places : (ks : List ℕ) → AllByRecursion (Has ns) ks → List ℕ
    places [] h = []
    places (k ∷ ks) h = (Has-place ns k h.0).0 ∷ places ks h.1

    places_length : (ks : List ℕ) (h : AllByRecursion (Has ns) ks) → length (places ks h) ≡ length ks
    unfolding places
    places_length [] h = refl
    places_length (k ∷ ks) h = ap suc (places_length ks h.1)

    places_within : (ks : List ℕ) (h : AllByRecursion (Has ns) ks) → AllByRecursion (λ i. i < length ns) (places ks h)
    unfolding places
    places_within [] h = tt
    places_within (k ∷ ks) h = ((Has-place ns k h.0).1, places_within ks h.1)

    places_named : (ks : List ℕ) (ts : List Tree) → all_at p ks ≡ Some ts → (h : AllByRecursion (Has ns) ks) → AllByRecursion IsNamed (places ks h) × (map at (places ks h) ≡ ts)
    unfolding places
    places_named [] ts e h = let same : [] ≡ ts = same_some e in (tt, same)
    places_named (k ∷ ks) ts e h =
        let (u, us, g, i, same) = with_view (term_of p k) (all_at p ks) ts e in
        let (j, j_in, j_at) = Has-place ns k h.0 in
        let (x, named, is) = named_place p m ns (Has-place ns k h.0).0 k u (Has-place ns k h.0).2 g in
        let rest = places_named ks us i h.1 in
        let first : at (Has-place ns k h.0).0 ≡ u = at_named (Has-place ns k h.0).0 x named ∙ is in
        (((x, named), rest.0), ap (λ (t : Tree). t ∷ map at (places ks h.1)) first ∙ ap (λ (vs : List Tree). u ∷ vs) rest.1 ∙ sym same)

    known_apart : (i j : ℕ) → IsNamed i → IsNamed j → AreApart p m (at i) (at j) → truth_of p m ns i j ≡ Some false
    known_apart i j (x, e) (y, f) h =
        let plain : equal_known p m (tree p.nodes x) (tree p.nodes y) ≡ Some false
        = ap (λ (t : Tree). equal_known p m t (tree p.nodes y)) (sym (at_named i x e)) ∙ ap (equal_known p m (at i)) (sym (at_named j y f)) ∙ h in
        let other : x ≢ y = λ same. true_isnt_false p m (tree p.nodes y) posed (subst (λ (n : ℕ). equal_known p m (tree p.nodes n) (tree p.nodes y) ≡ Some false) same plain) in
        truth_is p m ns i j x y false e f other plain

    apart_pairs : (items : List ℕ) → AllByRecursion IsNamed items → AreAllApart p m (map at items) → AllPairs (λ i j. truth_of p m ns i j ≡ Some false) items
    apart_pairs [] h k = λ i j d low high. absurd (omega (arith, high))
    apart_pairs (i ∷ items) h k =
        AllPairs-cons (λ i j. truth_of p m ns i j ≡ Some false) i items
        (All-from_recursion (λ j. truth_of p m ns i j ≡ Some false) items (Has-AllByRecursion (λ j. truth_of p m ns i j ≡ Some false) items (λ j there.
        known_apart i j h.0 (AllByRecursion-Has IsNamed items j h.1 there) (AllByRecursion-Has (AreApart p m (at i)) (map at items) (at j) k.0 (Has-map at items j there)))))
        (apart_pairs items h.1 k.1)

    module _ (none : NoneCrowded (truth_of p m ns) (sign_of rows) (AreFew qs) (few_items (length ns)) (length qs)) (is_count : length all ≤ count) where
      no_crowd : (v : Signs) (ks : List ℕ) (ts : List Tree) → all_at p ks ≡ Some ts → length v ≡ length qs → AllByRecursion (λ t. is_string t ≡ true) ts → AllByRecursion (λ t. IsWithin v (row_at p m qs t)) ts → AreAllApart p m ts
          → AreFew qs v (length ks) → ⊥
      no_crowd v ks ts e size strings fit apart few =
          let fewer = distinct_within ks all (apart_distinct ks ts e apart) (in_texts v (length ks) ks ts e strings) in
          let there = all_scarce v (length ks) few (omega (arith, fewer, is_count)) ks ts e strings fit in
          let items = places ks there in
          let named = places_named ks ts e there in
          let each : (i : ℕ) → Has items i → IsWithin v (row_at p m qs (at i)) = λ i here. AllByRecursion-Has (λ t. IsWithin v (row_at p m qs t)) (map at items) (at i)
          (subst (AllByRecursion (λ t. IsWithin v (row_at p m qs t))) (sym named.1) fit) (Has-map at items i here) in
          none items v (record {
            chosen = record {
              within = subst (λ k. All (λ i. i < k) items) (sym size_is) (All-from_recursion (λ i. i < length ns) items (places_within ks there));
              apart = apart_pairs items named.0 (subst (AreAllApart p m) (sym named.1) apart);
              sized = size;
              fit = All-from_recursion (Fits (sign_of rows) v) items (Has-AllByRecursion (Fits (sign_of rows) v) items (λ i here j s g. sign_at i j (AllByRecursion-Has IsNamed items i named.0 here) ∙ each i here j s g));
            };
            too_many = subst (AreFew qs v) (sym (places_length ks there)) few;
          })

      pub crowds_free : AreCrowdsFree p m qs
      crowds_free v ks (out, few) =
          let (ts, e, falsified) = all_view p m qs v (all_at p ks) out in
          let (size, strings, fit, apart) = out_st3 p m qs v ts falsified in
          no_crowd v ks ts e size strings fit apart few

    -- ---- the converse, of what a search finds

    module _ (rs : List Signs) (same : rs ≡ rows) (o : Option Crowd) where
      abbrev Told : Crowd → Type 0
      Told c = IsCrowd (truth_of p m ns) (sign_of rs) (AreFew qs) (few_items (length ns)) (length qs) c.items.items c.signs.items

      told : (c : Crowd) → o ≡ Some c → IfSome o Told → Crowded c.items.items c.signs.items
      told c is found =
          subst (λ (vs : List Signs). IsCrowd (truth_of p m ns) (sign_of vs) (AreFew qs) (few_items (length ns)) (length qs) c.items.items c.signs.items) same (subst (λ q. IfSome q Told) is found)

      pub crowd_told : (c : Crowd) (rule : StringRule) → o ≡ Some c → IfSome o Told → IsRuleOf c.signs.items (map number c.items.items) rule → IsViolated p m qs rule
      crowd_told c rule is found e = rule_out p m qs c.signs.items (map number c.items.items) rule e (crowd_found c.items.items c.signs.items (told c is found))

      pub crowd_places : (c : Crowd) → o ≡ Some c → IfSome o Told → AllByRecursion (λ i. i < length ns) c.items.items
      crowd_places c is found = items_within c.items.items c.signs.items (told c is found)

      pub crowd_none : length all ≤ count → o ≡ None → IfNone o (NoneCrowded (truth_of p m ns) (sign_of rs) (AreFew qs) (few_items (length ns)) (length qs)) → AreCrowdsFree p m qs
      crowd_none is_count is none =
          crowds_free
          (subst (λ (vs : List Signs). NoneCrowded (truth_of p m ns) (sign_of vs) (AreFew qs) (few_items (length ns)) (length qs)) same
          (subst (λ q. IfNone q (NoneCrowded (truth_of p m ns) (sign_of rs) (AreFew qs) (few_items (length ns)) (length qs))) is none)) is_count
