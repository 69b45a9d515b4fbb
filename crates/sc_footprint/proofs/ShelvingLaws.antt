-- Closed terms on shelves.
use Rattle.std.proofs.Common.{◌≡◌, ◌↔◌, ℕ, zero, suc, ◌+◌, ◌<◌, ◌≤◌, ◌==◌, ◌&&◌, ◌||◌, Bool, true, false, not, cond, List, [], ◌∷◌, ◌++◌, filter, find, take, drop, set, length, slice_get, get_or, Some, refl, sym, ap, ◌∙◌, subst, arith}
use Rattle.std.proofs.Common.{append-nil, append_assoc}
use Rattle.std.proofs.lemmas.Bool.{true≢false}
use Rattle.std.proofs.lemmas.Bool.Decides.{nat_tests}
use Rattle.std.proofs.lemmas.List.Elements.{filter-append}
use Rattle.std.proofs.lemmas.Option.{slice_get_read}
use Rattle.std.specs.List.{AllByRecursion, list_any}
use Rattle.sc_laws.proofs.BoolLaws.{and_first, and_second, or_first, or_second, and_false}
use Rattle.sc_lists.proofs.ListLaws.{all_append}
use Rattle.sc_laws.proofs.OptionLaws.{same_some}
use Rattle.sc_lists.proofs.SeqLaws.{set_is}
use Rattle.sc_sorts.specs.declared.sort.Sort.{Sort}
use Rattle.sc_sorts.specs.contracts.sort.SortPartialEq.TheImpl.{ghosts as sorts}
use Rattle.sc_sorts.specs.declared.node.Node.{Node}
use Rattle.sc_terms.specs.Trees.{Tree}
use Rattle.sc_terms.specs.Tables.{tree}
use Rattle.sc_terms.specs.TreeSorts.{tree_sort}
use Rattle.sc_closure.specs.Making.{stood}
use Rattle.sc_rule_laws.specs.Terms.{one_sort}
use Rattle.sc_closure.specs.Places.{place_among}
use Rattle.sc_footprint.proofs.CompanionLaws.{take_all}
use Rattle.sc_footprint.specs.declared.kind.Kind.{Kind}
use Rattle.sc_footprint.specs.declared.kind.Kind.TheVariants as kind
use Rattle.sc_footprint.specs.declared.shelves.Shelf.{Shelf}
use Rattle.sc_footprint.specs.Indices.{is_shelf, terms_on, terms_at}
use Rattle.sc_footprint.specs.Kinds.{place, same_kind}
use Rattle.sc_footprint.specs.Shelves.{key_of, has_key_like, is_of_kind, is_candidate}
use Rattle.sc_footprint.specs.Shelving.{AreWithin, if_so, IsAdded, first_place, is_like, is_among, is_told, belongs, AreShelving, AreShelved}

-- ---- lists

split_at : {X : Type 0} (xs : List X) (i : ℕ) (x : X) → i < length xs → x ≡ get_or xs i x → xs ≡ take i xs ++ x ∷ drop (i + 1) xs
split_at [] i x h is = absurd (omega (arith, h))
split_at {X} (y ∷ ys) zero x h is = ap (λ (z : X). z ∷ ys) (sym is)
split_at {X} (y ∷ ys) (suc i) x h is = let e : suc i + 1 ≡ suc (i + 1) = omega arith in rw e (ap (λ (zs : List X). y ∷ zs) (split_at ys i x (omega (arith, h)) is))

-- ---- the first place whose element passes a test

record IsFirst (test : Shelf → Bool) (ss : List Shelf) (i : ℕ) : Type 0 where
  before : list_any test (take i ss) ≡ false
  there : (s : Shelf) → slice_get ss i ≡ Some s → test s ≡ true

first_is : (test : Shelf → Bool) (ss : List Shelf) → IsFirst test ss (first_place test ss)
first_is test [] = record { before = refl; there = λ s e. absurd cc }
first_is test (x ∷ ss) = by (test x) refl (first_is test ss)
  where
    by : (b : Bool) → test x ≡ b → IsFirst test ss (first_place test ss) → IsFirst test (x ∷ ss) (cond b 0 (first_place test ss + 1))
    by true e rest = record { before = refl; there = λ s k. ap test (sym (same_some k)) ∙ e }
    by false e rest =
        let next : first_place test ss + 1 ≡ suc (first_place test ss) = omega arith in
        rw next (record { before = ap (λ (b : Bool). b || list_any test (take (first_place test ss) ss)) e ∙ rest.before; there = rest.there })

-- ---- kinds and sorts, by their equations

same_place : (m n : ℕ) → (m == n) ≡ true → m ≡ n
same_place m n h = grind (arith, nat_tests)

-- that `==` of sorts finds them equal just where they are one comes from below
module _ (sort_is : (k l : Sort) → sorts.eq k l ≡ true ↔ k ≡ l) (xs : List Node) where
  both : (a b : Bool) → a ≡ true → b ≡ true → (a && b) ≡ true
  both true b h k = k
  both false b h k = absurd (true≢false (sym h))

  -- the shelf of a kind and a sort is like another just where these are so
  like_shelf : (k : Kind) (key : ℕ) (l : Kind) (m : ℕ) (s : Shelf) → is_shelf xs k key s ≡ true → is_shelf xs l m s ≡ is_like xs k key l m
  like_shelf k key l m s h =
      let kinds : place s.kind ≡ place k = same_place (place s.kind) (place k) (and_first (same_kind s.kind k) (one_sort (tree xs s.key) (tree xs key)) h) in
      let keys : tree_sort (tree xs s.key) ≡ tree_sort (tree xs key) = (sort_is (tree_sort (tree xs s.key)) (tree_sort (tree xs key))).0 (and_second (same_kind s.kind k) (one_sort (tree xs s.key) (tree xs key)) h) in
      ap (λ (n : ℕ). (n == place l) && one_sort (tree xs s.key) (tree xs m)) kinds ∙ ap (λ (j : Sort). same_kind k l && sorts.eq j (tree_sort (tree xs m))) keys

  unlike_shelf : (k : Kind) (key : ℕ) (l : Kind) (m : ℕ) (s : Shelf) → is_like xs k key l m ≡ true → is_shelf xs l m s ≡ is_shelf xs k key s
  unlike_shelf k key l m s h =
      let kinds : place k ≡ place l = same_place (place k) (place l) (and_first (same_kind k l) (one_sort (tree xs key) (tree xs m)) h) in
      let keys : tree_sort (tree xs key) ≡ tree_sort (tree xs m) = (sort_is (tree_sort (tree xs key)) (tree_sort (tree xs m))).0 (and_second (same_kind k l) (one_sort (tree xs key) (tree xs m)) h) in
      sym (ap (λ (n : ℕ). (place s.kind == n) && one_sort (tree xs s.key) (tree xs key)) kinds ∙ ap (λ (j : Sort). same_kind s.kind l && sorts.eq (tree_sort (tree xs s.key)) j) keys)

  -- ---- one term more

  module _ (k : Kind) (key n : ℕ) where
    -- the terms of a kind and a sort, after the first shelf
    abbrev at_first : Bool → Shelf → List ℕ → List ℕ
    at_first b s ns = cond b s.terms.items ns

    at_head : (l : Kind) (m : ℕ) (s : Shelf) (ss : List Shelf) → terms_at xs (s ∷ ss) l m ≡ at_first (is_shelf xs l m s) s (terms_at xs ss l m)
    at_head l m s ss = by (is_shelf xs l m s)
      where
        by : (b : Bool) → terms_on (cond b (Some s) (find (is_shelf xs l m) ss)) ≡ cond b s.terms.items (terms_on (find (is_shelf xs l m) ss))
        by true = refl
        by false = refl

    -- the first shelf is like, and takes it
    taken_here : (l : Kind) (m : ℕ) (s t : Shelf) (ss : List Shelf) → is_shelf xs k key s ≡ true → t.kind ≡ s.kind → t.key ≡ s.key → t.terms.items ≡ s.terms.items ++ n ∷ []
        → terms_at xs (t ∷ ss) l m ≡ terms_at xs (s ∷ ss) l m ++ if_so (is_like xs k key l m) n
    taken_here l m s t ss h kinds keys terms =
        let same : is_shelf xs l m t ≡ is_shelf xs l m s = ap (λ (j : Kind). same_kind j l && one_sort (tree xs t.key) (tree xs m)) kinds ∙ ap (λ (i : ℕ). same_kind s.kind l && one_sort (tree xs i) (tree xs m)) keys in
        at_head l m t ss ∙ ap (λ (b : Bool). at_first b t (terms_at xs ss l m)) same ∙ by (is_shelf xs l m s) (like_shelf k key l m s h)
        ∙ ap (λ (ns : List ℕ). ns ++ if_so (is_like xs k key l m) n) (sym (at_head l m s ss))
      where
        by : (b : Bool) → b ≡ is_like xs k key l m → at_first b t (terms_at xs ss l m) ≡ at_first b s (terms_at xs ss l m) ++ if_so (is_like xs k key l m) n
        by true e = terms ∙ ap (λ (c : Bool). s.terms.items ++ if_so c n) e
        by false e = sym (append-nil (terms_at xs ss l m)) ∙ ap (λ (c : Bool). terms_at xs ss l m ++ if_so c n) e

    -- the first shelf isn't like, and a later one takes it
    taken_later : (l : Kind) (m : ℕ) (s : Shelf) (ss ts : List Shelf) → is_shelf xs k key s ≡ false → terms_at xs ts l m ≡ terms_at xs ss l m ++ if_so (is_like xs k key l m) n
        → terms_at xs (s ∷ ts) l m ≡ terms_at xs (s ∷ ss) l m ++ if_so (is_like xs k key l m) n
    taken_later l m s ss ts h rest =
        at_head l m s ts ∙ by (is_like xs k key l m) refl ∙ ap (λ (ns : List ℕ). ns ++ if_so (is_like xs k key l m) n) (sym (at_head l m s ss))
      where
        plain : (b : Bool) → is_like xs k key l m ≡ false → at_first b s (terms_at xs ts l m) ≡ at_first b s (terms_at xs ss l m) ++ if_so (is_like xs k key l m) n
        plain true e = sym (ap (λ (c : Bool). s.terms.items ++ if_so c n) e ∙ append-nil s.terms.items)
        plain false e = rest

        by : (b : Bool) → is_like xs k key l m ≡ b → at_first (is_shelf xs l m s) s (terms_at xs ts l m) ≡ at_first (is_shelf xs l m s) s (terms_at xs ss l m) ++ if_so (is_like xs k key l m) n
        by true e =
            let no : is_shelf xs l m s ≡ false = unlike_shelf k key l m s e ∙ h in
            ap (λ (b : Bool). at_first b s (terms_at xs ts l m)) no ∙ rest ∙ ap (λ (b : Bool). at_first b s (terms_at xs ss l m) ++ if_so (is_like xs k key l m) n) (sym no)
        by false e = plain (is_shelf xs l m s) e

    -- no shelf is like, and a new one takes it
    taken_last : (l : Kind) (m : ℕ) (t : Shelf) (ss : List Shelf) → list_any (is_shelf xs k key) ss ≡ false → t.kind ≡ k → t.key ≡ key → t.terms.items ≡ n ∷ []
        → terms_at xs (ss ++ t ∷ []) l m ≡ terms_at xs ss l m ++ if_so (is_like xs k key l m) n
    taken_last l m t [] h kinds keys terms =
        let same : is_shelf xs l m t ≡ is_like xs k key l m = ap (λ (j : Kind). same_kind j l && one_sort (tree xs t.key) (tree xs m)) kinds ∙ ap (λ (i : ℕ). same_kind k l && one_sort (tree xs i) (tree xs m)) keys in
        at_head l m t [] ∙ by (is_shelf xs l m t) same
      where
        by : (b : Bool) → b ≡ is_like xs k key l m → at_first b t [] ≡ if_so (is_like xs k key l m) n
        by true e = terms ∙ ap (λ (c : Bool). if_so c n) e
        by false e = ap (λ (c : Bool). if_so c n) e
    taken_last l m t (s ∷ ss) h kinds keys terms =
        taken_later l m s ss (ss ++ t ∷ []) (or_first (is_shelf xs k key s) (list_any (is_shelf xs k key) ss) h)
        (taken_last l m t ss (or_second (is_shelf xs k key s) (list_any (is_shelf xs k key) ss) h) kinds keys terms)

    -- the shelf at a place is the first like one, and takes it
    taken_at : (l : Kind) (m : ℕ) (s t : Shelf) (before after : List Shelf) → list_any (is_shelf xs k key) before ≡ false → is_shelf xs k key s ≡ true → t.kind ≡ s.kind → t.key ≡ s.key
        → t.terms.items ≡ s.terms.items ++ n ∷ [] → terms_at xs (before ++ t ∷ after) l m ≡ terms_at xs (before ++ s ∷ after) l m ++ if_so (is_like xs k key l m) n
    taken_at l m s t [] after h is kinds keys terms = taken_here l m s t after is kinds keys terms
    taken_at l m s t (x ∷ before) after h is kinds keys terms =
        taken_later l m x (before ++ s ∷ after) (before ++ t ∷ after) (or_first (is_shelf xs k key x) (list_any (is_shelf xs k key) before) h)
        (taken_at l m s t before after (or_second (is_shelf xs k key x) (list_any (is_shelf xs k key) before) h) is kinds keys terms)

    -- ---- the same for what the code does

    within_set : (before after : List Shelf) (s t : Shelf) → AreWithin xs (before ++ s ∷ after) → t.key ≡ s.key → t.terms.items ≡ s.terms.items ++ n ∷ [] → n < length xs → AreWithin xs (before ++ t ∷ after)
    within_set [] after s t w keys terms h = record {
      keys_in = (subst (λ (i : ℕ). i < length xs) (sym keys) w.keys_in.0, w.keys_in.1);
      terms_in = (subst (AllByRecursion (λ i. i < length xs)) (sym terms) (all_append (λ i. i < length xs) s.terms.items (n ∷ []) w.terms_in.0 (h, tt)), w.terms_in.1);
    }
    within_set (x ∷ before) after s t w keys terms h =
        let rest : AreWithin xs (before ++ t ∷ after) = within_set before after s t (record { keys_in = w.keys_in.1; terms_in = w.terms_in.1 }) keys terms h in
        record { keys_in = (w.keys_in.0, rest.keys_in); terms_in = (w.terms_in.0, rest.terms_in) }

    within_last : (ss : List Shelf) (t : Shelf) → AreWithin xs ss → t.key ≡ key → key < length xs → t.terms.items ≡ n ∷ [] → n < length xs → AreWithin xs (ss ++ t ∷ [])
    within_last ss t w keys below terms h = record {
      keys_in = all_append (λ (s : Shelf). s.key < length xs) ss (t ∷ []) w.keys_in (subst (λ (i : ℕ). i < length xs) (sym keys) below, tt);
      terms_in = all_append (λ (s : Shelf). AllByRecursion (λ i. i < length xs) s.terms.items) ss (t ∷ []) w.terms_in (subst (AllByRecursion (λ i. i < length xs)) (sym terms) (h, tt), tt);
    }

    -- the first like shelf takes it
    pub added_at : (ss ts : List Shelf) (i : ℕ) (s t : Shelf) → i ≡ first_place (is_shelf xs k key) ss → i < length ss → s ≡ get_or ss i s → t.kind ≡ s.kind → t.key ≡ s.key → t.terms.items ≡ s.terms.items ++ n ∷ []
        → ts ≡ set ss i t → AreWithin xs ss → n < length xs → IsAdded xs ss ts n (is_like xs k key)
    added_at ss ts i s t place short here kinds keys terms is w h =
        let first : IsFirst (is_shelf xs k key) ss i = subst (IsFirst (is_shelf xs k key) ss) (sym place) (first_is (is_shelf xs k key) ss) in
        let old : ss ≡ take i ss ++ s ∷ drop (i + 1) ss = split_at ss i s short here in
        let new : ts ≡ take i ss ++ t ∷ drop (i + 1) ss = is ∙ set_is ss i t short in
        let found : is_shelf xs k key s ≡ true = first.there s (slice_get_read ss (length ss) i s refl short here) in
        record {
          within = subst (AreWithin xs) (sym new) (within_set (take i ss) (drop (i + 1) ss) s t (subst (AreWithin xs) old w) keys terms h);
          each = λ l m below.
              ap (λ (us : List Shelf). terms_at xs us l m) new ∙ taken_at l m s t (take i ss) (drop (i + 1) ss) first.before found kinds keys terms
              ∙ ap (λ (us : List Shelf). terms_at xs us l m ++ if_so (is_like xs k key l m) n) (sym old);
        }

    -- a new shelf takes it
    pub added_last : (ss ts : List Shelf) (i : ℕ) (t : Shelf) → i ≡ first_place (is_shelf xs k key) ss → length ss ≤ i → t.kind ≡ k → t.key ≡ key → t.terms.items ≡ n ∷ [] → ts ≡ ss ++ t ∷ []
        → AreWithin xs ss → key < length xs → n < length xs → IsAdded xs ss ts n (is_like xs k key)
    added_last ss ts i t place past kinds keys terms is w below h =
        let first : IsFirst (is_shelf xs k key) ss i = subst (IsFirst (is_shelf xs k key) ss) (sym place) (first_is (is_shelf xs k key) ss) in
        let none : list_any (is_shelf xs k key) ss ≡ false = subst (λ (us : List Shelf). list_any (is_shelf xs k key) us ≡ false) (take_all i ss past) first.before in
        record {
          within = subst (AreWithin xs) (sym is) (within_last ss t w keys below terms h);
          each = λ l m inside. ap (λ (us : List Shelf). terms_at xs us l m) is ∙ taken_last l m t ss none kinds keys terms;
        }

-- ---- what is put on no shelf, and tests that are one

module _ (xs : List Node) where
  pub not_added : (ss : List Shelf) (n : ℕ) (test : Kind → ℕ → Bool) → AreWithin xs ss → ((k : Kind) (m : ℕ) → test k m ≡ false) → IsAdded xs ss ss n test
  not_added ss n test w none = record {
    within = w;
    each = λ k m h. sym (append-nil (terms_at xs ss k m)) ∙ ap (λ (b : Bool). terms_at xs ss k m ++ if_so b n) (sym (none k m));
  }

  pub added_as : (ss ts : List Shelf) (n : ℕ) (test other : Kind → ℕ → Bool) → ((k : Kind) (m : ℕ) → test k m ≡ other k m) → IsAdded xs ss ts n test → IsAdded xs ss ts n other
  added_as ss ts n test other same a = record {
    within = a.within;
    each = λ k m h. a.each k m h ∙ ap (λ (b : Bool). terms_at xs ss k m ++ if_so b n) (same k m);
  }

  -- no candidate, and one
  pub not_among : (candidates : List ℕ) (n : ℕ) → (place_among candidates n == 0) ≡ true → (k : Kind) (m : ℕ) → is_among xs candidates n k m ≡ false
  not_among candidates n e k m = ap (λ (b : Bool). same_kind kind.Candidate k && (not b && one_sort (tree xs n) (tree xs m))) e ∙ and_false (same_kind kind.Candidate k)

  pub like_among : (candidates : List ℕ) (n : ℕ) → (place_among candidates n == 0) ≡ false → (k : Kind) (m : ℕ) → is_like xs kind.Candidate n k m ≡ is_among xs candidates n k m
  like_among candidates n e k m = ap (λ (b : Bool). same_kind kind.Candidate k && (not b && one_sort (tree xs n) (tree xs m))) (sym e)

-- ---- all closed terms

module _ (xs : List Node) where
  filter_push : (p : ℕ → Bool) (ns : List ℕ) (n : ℕ) → filter p (ns ++ n ∷ []) ≡ filter p ns ++ if_so (p n) n
  filter_push p ns n = filter-append p ns (n ∷ []) ∙ ap (λ (l : List ℕ). filter p ns ++ l) (by (p n))
    where
      by : (b : Bool) → cond b (n ∷ []) [] ≡ if_so b n
      by true = refl
      by false = refl

  -- on which shelves a term is put, of all three calls
  module _ (all candidates : List ℕ) (n : ℕ) (is : not (place_among candidates n == 0) ≡ is_candidate (stood xs all) (tree xs n)) where
    three : (k : Kind) (m : ℕ) (ns : List ℕ) → ((ns ++ if_so (is_like xs kind.Any n k m) n) ++ if_so (is_among xs candidates n k m) n) ++ if_so (is_told xs n k m) n ≡ ns ++ if_so (belongs xs all n k m) n
    three kind.Any m ns = append-nil ((ns ++ if_so (one_sort (tree xs n) (tree xs m)) n) ++ []) ∙ append-nil (ns ++ if_so (one_sort (tree xs n) (tree xs m)) n)
    three kind.Candidate m ns =
        append-nil ((ns ++ []) ++ if_so (not (place_among candidates n == 0) && one_sort (tree xs n) (tree xs m)) n) ∙ ap (λ (l : List ℕ). l ++ if_so (not (place_among candidates n == 0) && one_sort (tree xs n) (tree xs m)) n) (append-nil ns)
        ∙ ap (λ (b : Bool). ns ++ if_so (b && one_sort (tree xs n) (tree xs m)) n) is
    three kind.Attributes m ns = ap (λ (l : List ℕ). l ++ if_so (is_told xs n kind.Attributes m) n) (append-nil (ns ++ []) ∙ append-nil ns)
    three kind.Ancestors m ns = ap (λ (l : List ℕ). l ++ if_so (is_told xs n kind.Ancestors m) n) (append-nil (ns ++ []) ∙ append-nil ns)
    three kind.Keys m ns = ap (λ (l : List ℕ). l ++ if_so (is_told xs n kind.Keys m) n) (append-nil (ns ++ []) ∙ append-nil ns)
    three kind.Tag m ns = ap (λ (l : List ℕ). l ++ if_so (is_told xs n kind.Tag m) n) (append-nil (ns ++ []) ∙ append-nil ns)

    pub shelving_step : (rest : List ℕ) (ss ts us vs : List Shelf) → AreShelving xs all (n ∷ rest) ss → IsAdded xs ss ts n (is_like xs kind.Any n) → IsAdded xs ts us n (is_among xs candidates n) → IsAdded xs us vs n (is_told xs n)
        → AreShelving xs all rest vs
    shelving_step rest ss ts us vs so_far a b c = record {
      within = c.within;
      done = so_far.done ++ n ∷ [];
      are = so_far.are ∙ sym (append_assoc so_far.done (n ∷ []) rest);
      each = λ k m h.
          c.each k m h ∙ ap (λ (l : List ℕ). l ++ if_so (is_told xs n k m) n) (b.each k m h ∙ ap (λ (l : List ℕ). l ++ if_so (is_among xs candidates n k m) n) (a.each k m h))
          ∙ three k m (terms_at xs ss k m) ∙ ap (λ (l : List ℕ). l ++ if_so (belongs xs all n k m) n) (so_far.each k m h) ∙ sym (filter_push (λ i. belongs xs all i k m) so_far.done n);
    }

  -- what holds of the terms on all shelves holds of those on one
  pub all_on : (P : ℕ → Type 0) (ss : List Shelf) (l : Kind) (m : ℕ) → AllByRecursion (λ (s : Shelf). AllByRecursion P s.terms.items) ss → AllByRecursion P (terms_at xs ss l m)
  all_on P [] l m h = tt
  all_on P (s ∷ ss) l m h = by (is_shelf xs l m s) h.0 (all_on P ss l m h.1)
    where
      by : (b : Bool) → AllByRecursion P s.terms.items → AllByRecursion P (terms_at xs ss l m) → AllByRecursion P (terms_on (cond b (Some s) (find (is_shelf xs l m) ss)))
      by true here rest = here
      by false here rest = rest

  stood_filter : (p : Tree → Bool) (ns : List ℕ) → stood xs (filter (λ n. p (tree xs n)) ns) ≡ filter p (stood xs ns)
  stood_filter p [] = refl
  stood_filter p (n ∷ ns) = by (p (tree xs n)) (stood_filter p ns)
    where
      by : (b : Bool) → stood xs (filter (λ m. p (tree xs m)) ns) ≡ filter p (stood xs ns)
          → stood xs (cond b (n ∷ filter (λ m. p (tree xs m)) ns) (filter (λ m. p (tree xs m)) ns)) ≡ cond b (tree xs n ∷ filter p (stood xs ns)) (filter p (stood xs ns))
      by true e = ap (λ (l : List Tree). tree xs n ∷ l) e
      by false e = e

  pub shelving_end : (all rest : List ℕ) (ss : List Shelf) → rest ≡ [] → AreShelving xs all rest ss → AreShelved xs all ss
  shelving_end all rest ss e so_far =
      let whole : so_far.done ≡ all = sym (so_far.are ∙ ap (λ (l : List ℕ). so_far.done ++ l) e ∙ append-nil so_far.done) in
      record {
        within = so_far.within;
        each = λ k m h.
            ap (stood xs) (so_far.each k m h) ∙ stood_filter (λ t. is_of_kind (stood xs all) k t && has_key_like (tree xs m) (key_of k t)) so_far.done
            ∙ ap (λ (ns : List ℕ). filter (λ t. is_of_kind (stood xs all) k t && has_key_like (tree xs m) (key_of k t)) (stood xs ns)) whole;
      }
