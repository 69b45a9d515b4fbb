-- Groups of one sort: a term that joins one of them, and what goes with a term and theirs.
use Rattle.std.proofs.Common.{◌≡◌, ◌⊎◌, inl, inr, ⊎_elim, ℕ, zero, suc, ◌+◌, ◌<◌, ◌≤◌, Bool, true, List, [], ◌∷◌, ◌++◌, map, take, get_or, length, refl, sym, ap, ◌∙◌, subst, arith}
use Rattle.std.proofs.lemmas.Grind.{flat_map-append}
use Rattle.std.proofs.lemmas.List.{map-append}
use Rattle.std.specs.Prelude.{slice_set}
use Rattle.std.specs.List.{AllByRecursion}
use Rattle.sc_lists.proofs.ListLaws.{all_append}
use Rattle.sc_lists.proofs.MemberLaws.{Has-left, Has-right, Has-append, Has-last, Has-push, Has-map, map-Has, AllByRecursion-Has}
use Rattle.sc_lists.specs.Members.{Has}
use Rattle.sc_sorts.specs.declared.sort.Sort.{Sort}
use Rattle.sc_sorts.specs.declared.node.Node.{Node}
use Rattle.sc_terms.specs.Trees.{Tree}
use Rattle.sc_terms.specs.TreeSorts.{tree_sort}
use Rattle.sc_terms.specs.Folds.{literal_of}
use Rattle.sc_terms.specs.Tables.{tree, Keeps}
use Rattle.sc_closure_rules.proofs.TestLaws.{same_sorts}
use Rattle.sc_closure_rules.specs.Making.{Puts, stood}
use Rattle.sc_closure_rules.proofs.MakingLaws.{puts_same, stood_later}
use Rattle.sc_closure_rules.proofs.MemberLaws.{within_later, within_push}
use Rattle.sc_rule_laws.specs.Terms.{one_sort}
use Rattle.sc_closure_rules.proofs.LoopLaws.{all_next, all_end}
use Rattle.sc_candidates.proofs.DividedLaws.{divided_push, divided_later, item_at, where_in, in_where}
use Rattle.sc_closure.specs.declared.roles.Group.{Group}
use Rattle.sc_closure.specs.declared.roles.Meeting.{Meeting}
use Rattle.sc_candidates.specs.Values.{value_in, where_so}
use Rattle.sc_closure.specs.Following.{grouped, no_group, group_with, with_member, IsDivided, IsGroup, AreGroups, IsGroupWithin, Joins, met_term, is_met, met_terms, pattern_in, met_in, met_among}

-- ---- a term joins a group at a place

-- what holds of each member
all_push : (P : ℕ → Type 0) (ns : List ℕ) (n : ℕ) → AllByRecursion P ns → P n → AllByRecursion P (ns ++ n ∷ [])
all_push P ns n h k = all_append P ns (n ∷ []) h (k, tt)

module _ (value : Bool) (term : ℕ) where
  abbrev set_at : List Group → ℕ → List Group
  set_at gs p = slice_set gs p (with_member value (get_or gs p no_group) term)

  set_there : (gs : List Group) (p : ℕ) → p < length gs → Has (grouped (set_at gs p)) term
  set_there [] p h = absurd (omega arith)
  set_there (g ∷ gs) zero h = Has-left (g.members ++ term ∷ []) (grouped gs) term (Has-last g.members term)
  set_there (g ∷ gs) (suc p) h = Has-right g.members (grouped (set_at gs p)) term (set_there gs p (omega arith))

  set_old : (gs : List Group) (p n : ℕ) → p < length gs → Has (grouped gs) n → Has (grouped (set_at gs p)) n
  set_old [] p n h k = absurd k
  set_old (g ∷ gs) zero n h k =
      ⊎_elim (λ i. Has-left (g.members ++ term ∷ []) (grouped gs) n (Has-left g.members (term ∷ []) n i)) (λ i. Has-right (g.members ++ term ∷ []) (grouped gs) n i)
      (Has-append g.members (grouped gs) n k)
  set_old (g ∷ gs) (suc p) n h k =
      ⊎_elim (λ i. Has-left g.members (grouped (set_at gs p)) n i) (λ i. Has-right g.members (grouped (set_at gs p)) n (set_old gs p n (omega arith) i)) (Has-append g.members (grouped gs) n k)

  set_only : (gs : List Group) (p n : ℕ) → p < length gs → Has (grouped (set_at gs p)) n → Has (grouped gs) n ⊎ (term ≡ n)
  set_only [] p n h k = absurd (omega arith)
  set_only (g ∷ gs) zero n h k =
      ⊎_elim (λ i. ⊎_elim (λ j. inl (Has-left g.members (grouped gs) n j)) inr (Has-push g.members term n i)) (λ i. inl (Has-right g.members (grouped gs) n i))
      (Has-append (g.members ++ term ∷ []) (grouped gs) n k)
  set_only (g ∷ gs) (suc p) n h k =
      ⊎_elim (λ i. inl (Has-left g.members (grouped gs) n i)) (λ i. ⊎_elim (λ j. inl (Has-right g.members (grouped gs) n j)) inr (set_only gs p n (omega arith) i))
      (Has-append g.members (grouped (set_at gs p)) n k)

  module _ (xs : List Node) (term_in : term < length xs) (told : value ≡ value_in (literal_of (tree xs term))) where
    set_group : (g : Group) → tree_sort (tree xs g.first) ≡ tree_sort (tree xs term) → IsGroup xs g → IsGroup xs (with_member value g term)
    set_group g e h = record {
      first_in = h.first_in;
      members_in = within_push (length xs) term g.members h.members_in term_in;
      alike = all_push (λ n. tree_sort (tree xs n) ≡ tree_sort (tree xs g.first)) g.members term h.alike (sym e);
      divided = divided_push xs value g.members g.others term told h.divided;
    }

    set_are : (gs : List Group) (p : ℕ) → p < length gs → tree_sort (tree xs (get_or gs p no_group).first) ≡ tree_sort (tree xs term) → AreGroups xs gs → AreGroups xs (set_at gs p)
    set_are [] p h e k = absurd (omega arith)
    set_are (g ∷ gs) zero h e k = (set_group g e k.0, k.1)
    set_are (g ∷ gs) (suc p) h e k = (k.0, set_are gs p (omega arith) e k.1)

    new_are : (gs : List Group) → AreGroups xs gs → AreGroups xs (gs ++ group_with value term ∷ [])
    new_are gs k = all_append (IsGroup xs) gs (group_with value term ∷ []) k (record { first_in = term_in; members_in = (term_in, tt); alike = (refl, tt); divided = divided_push xs value [] [] term told (record { others_in = λ n i. absurd i; divided = λ n i. absurd i }) }, tt)

  new_grouped : (gs : List Group) → grouped (gs ++ group_with value term ∷ []) ≡ grouped gs ++ term ∷ []
  new_grouped gs = flat_map-append (λ (g : Group). g.members) gs (group_with value term ∷ [])

module _ (xs : List Node) (gs hs : List Group) (term : ℕ) (term_in : term < length xs) (value : Bool) (told : value ≡ value_in (literal_of (tree xs term))) where
  pub joins_at : (p : ℕ) → p < length gs → one_sort (tree xs (get_or gs p no_group).first) (tree xs term) ≡ true → hs ≡ slice_set gs p (with_member value (get_or gs p no_group) term) → Joins xs gs hs term
  joins_at p h e is =
      let same = same_sorts (tree_sort (tree xs (get_or gs p no_group).first)) (tree_sort (tree xs term)) e in
      subst (λ (l : List Group). Joins xs gs l term) (sym is)
      (record {
        there = set_there value term gs p h;
        old_there = λ n k. set_old value term gs p n h k;
        only = λ n k. set_only value term gs p n h k;
        are = set_are value term xs term_in told gs p h same;
      })

  pub joins_new : hs ≡ gs ++ group_with value term ∷ [] → Joins xs gs hs term
  joins_new is =
      let all = new_grouped value term gs in
      subst (λ (l : List Group). Joins xs gs l term) (sym is)
      (record {
        there = subst (λ (l : List ℕ). Has l term) (sym all) (Has-last (grouped gs) term);
        old_there = λ n k. subst (λ (l : List ℕ). Has l n) (sym all) (Has-left (grouped gs) (term ∷ []) n k);
        only = λ n k. Has-push (grouped gs) term n (subst (λ (l : List ℕ). Has l n) all k);
        are = new_are value term xs term_in told gs;
      })

-- ---- groups stay while the table grows

pub groups_within : (xs : List Node) (gs : List Group) → AreGroups xs gs → AllByRecursion (IsGroupWithin (length xs)) gs
groups_within xs [] h = tt
groups_within xs (g ∷ gs) h = ((h.0.first_in, h.0.members_in), groups_within xs gs h.1)

pub groups_divided : (xs : List Node) (gs : List Group) → AreGroups xs gs → AllByRecursion (IsDivided xs) gs
groups_divided xs [] h = tt
groups_divided xs (g ∷ gs) h = (h.0.divided, groups_divided xs gs h.1)

pub members_within : (l : ℕ) (gs : List Group) → AllByRecursion (IsGroupWithin l) gs → AllByRecursion (λ n. n < l) (grouped gs)
members_within l [] h = tt
members_within l (g ∷ gs) h = all_append (λ n. n < l) g.members (grouped gs) h.0.1 (members_within l gs h.1)

pub group_at : (l : ℕ) (gs : List Group) → AllByRecursion (IsGroupWithin l) gs → (i : ℕ) (g : Group) → i < length gs → g ≡ get_or gs i g → IsGroupWithin l g
group_at l gs h i g k e = item_at (IsGroupWithin l) gs h i g k e

pub divided_at : (xs : List Node) (gs : List Group) → AllByRecursion (IsDivided xs) gs → (i : ℕ) (g : Group) → i < length gs → g ≡ get_or gs i g → IsDivided xs g
divided_at xs gs h i g k e = item_at (IsDivided xs) gs h i g k e

pub group_later : (l m : ℕ) (g : Group) → l ≤ m → IsGroupWithin l g → IsGroupWithin m g
group_later l m g e h = (omega (arith, e, h.0), within_later l m e g.members h.1)

pub within_more : (l m : ℕ) (gs : List Group) → l ≤ m → AllByRecursion (IsGroupWithin l) gs → AllByRecursion (IsGroupWithin m) gs
within_more l m [] e h = tt
within_more l m (g ∷ gs) e h = ((omega (arith, e, h.0.0), within_later l m e g.members h.0.1), within_more l m gs e h.1)

module _ (xs ys : List Node) (e : Keeps xs ys) where
  alike_later : (k : Sort) (ns : List ℕ) → AllByRecursion (λ n. n < length xs) ns → AllByRecursion (λ n. tree_sort (tree xs n) ≡ k) ns → AllByRecursion (λ n. tree_sort (tree ys n) ≡ k) ns
  alike_later k [] h a = tt
  alike_later k (n ∷ ns) h a = (ap tree_sort (e.same n h.0) ∙ a.0, alike_later k ns h.1 a.1)

  pub groups_later : (gs : List Group) → AreGroups xs gs → AreGroups ys gs
  groups_later [] h = tt
  groups_later (g ∷ gs) h =
      let first_stays : tree ys g.first ≡ tree xs g.first = e.same g.first h.0.first_in in (
        record {
          first_in = omega (arith, h.0.first_in, e.longer);
          members_in = within_later (length xs) (length ys) e.longer g.members h.0.members_in;
          alike = alike_later (tree_sort (tree ys g.first)) g.members h.0.members_in
              (subst (λ (t : Tree). AllByRecursion (λ n. tree_sort (tree xs n) ≡ tree_sort t) g.members) (sym first_stays) h.0.alike);
          divided = divided_later xs ys e g.members g.others h.0.members_in h.0.divided;
        },
        groups_later gs h.1,
      )

  -- what goes with a term and a group's stays
  pub in_stays : (m : Meeting) (g : Group) (x : Tree) → IsGroupWithin (length xs) g → met_in m (tree ys g.first) (stood ys g.members) x ≡ met_in m (tree xs g.first) (stood xs g.members) x
  in_stays m g x h =
      ap (λ (t : Tree). met_in m t (stood ys g.members) x) (e.same g.first h.0) ∙ ap (λ (ts : List Tree). met_in m (tree xs g.first) ts x) (stood_later xs ys e g.members h.1)

  pub among_stays : (m : Meeting) (gs : List Group) (x : Tree) → AllByRecursion (IsGroupWithin (length xs)) gs → met_among m ys gs x ≡ met_among m xs gs x
  among_stays m [] x h = refl
  among_stays m (g ∷ gs) x h =
      ap (λ (ts : List Tree). ts ++ met_among m ys gs x) (in_stays m g x h.0) ∙ ap (λ (ts : List Tree). met_in m (tree xs g.first) (stood xs g.members) x ++ ts) (among_stays m gs x h.1)

-- so far, and all of them
pub groups_end : (m : Meeting) (gs : List Group) (s0 s1 : List Node) (ls ms : List ℕ) (i : ℕ) (x : Tree) → Puts s0 s1 ls ms (met_among m s0 (take i gs) x) → length gs ≤ i → Puts s0 s1 ls ms (met_among m s0 gs x)
groups_end m gs s0 s1 ls ms i x p h = all_end (λ (f : Group). met_in m (tree s0 f.first) (stood s0 f.members) x) gs s0 s1 ls ms i p h

-- what goes with each of these, by their numbers
pub met_stood : (m : Meeting) (xs : List Node) (ns : List ℕ) (x : Tree) → map (λ (n : ℕ). met_term m (tree xs n) x) ns ≡ met_terms m (stood xs ns) x
met_stood m xs [] x = refl
met_stood m xs (n ∷ ns) x = ap (λ (ts : List Tree). met_term m (tree xs n) x ∷ ts) (met_stood m xs ns x)

-- a pattern that one of these asks
pub pattern_there : (xs : List Node) (ns : List ℕ) (i n : ℕ) → i < length ns → pattern_in (tree xs (get_or ns i 0)) ≡ pattern_in (tree xs n) → Has (map pattern_in (stood xs ns)) (pattern_in (tree xs n))
pattern_there xs [] i n h e = absurd (omega arith)
pattern_there xs (m ∷ ms) zero n h e = inl e
pattern_there xs (m ∷ ms) (suc i) n h e = inr (pattern_there xs ms i n (omega arith) e)

-- one group more
pub groups_next : (m : Meeting) (gs : List Group) (s0 s1 s2 : List Node) (ls ms ns : List ℕ) (i term : ℕ) (g : Group) → AllByRecursion (IsGroupWithin (length s0)) gs → term < length s0
    → Puts s0 s1 ls ms (met_among m s0 (take i gs) (tree s0 term)) → i < length gs → g ≡ get_or gs i g → Puts s1 s2 ms ns (met_in m (tree s1 g.first) (stood s1 g.members) (tree s1 term))
    → Puts s0 s2 ls ns (met_among m s0 (take (i + 1) gs) (tree s0 term))
groups_next m gs s0 s1 s2 ls ms ns i term g within term_in so_far h at p =
    let here = group_at (length s0) gs within i g h at in
    let same : met_in m (tree s1 g.first) (stood s1 g.members) (tree s1 term) ≡ met_in m (tree s0 g.first) (stood s0 g.members) (tree s0 term) =
    ap (met_in m (tree s1 g.first) (stood s1 g.members)) (so_far.kept.same term term_in) ∙ in_stays s0 s1 so_far.kept m g (tree s0 term) here in
    all_next (λ (f : Group). met_in m (tree s0 f.first) (stood s0 f.members) (tree s0 term)) gs s0 s1 ls ms i so_far s2 ns g h at
    (puts_same s1 s2 ms ns (met_in m (tree s1 g.first) (stood s1 g.members) (tree s1 term)) (met_in m (tree s0 g.first) (stood s0 g.members) (tree s0 term)) same p)

-- ---- what goes with a term and those of groups, by each of them

-- one of these, where something goes with it
pub record IsMet (m : Meeting) (ts : List Tree) (x z : Tree) : Type 0 where
  pub other : Tree
  pub among : Has ts other
  pub meets : is_met m (tree_sort other) (tree_sort x) ≡ true
  pub is : met_term m other x ≡ z

pub met_patterns_has : (b : Bool) (m : Meeting) (ts : List Tree) (x z : Tree) → Has (where_so b (met_terms m ts x)) z → (b ≡ true) × (t : Tree) × Has ts t × (met_term m t x ≡ z)
met_patterns_has b m ts x z h = let k = where_in b (met_terms m ts x) z h in let q = map-Has (λ (t : Tree). met_term m t x) ts z k.1 in (k.0, q.0, q.1, q.2)

pub has_met_patterns : (b : Bool) (m : Meeting) (ts : List Tree) (x t : Tree) → b ≡ true → Has ts t → Has (where_so b (met_terms m ts x)) (met_term m t x)
has_met_patterns b m ts x t e h = in_where b (met_terms m ts x) (met_term m t x) e (Has-map (λ (u : Tree). met_term m u x) ts t h)

module _ (xs : List Node) (m : Meeting) (x : Tree) where
  abbrev k : Sort
  k = tree_sort x

  alike_has : (g : Group) (n : ℕ) → IsGroup xs g → Has g.members n → tree_sort (tree xs n) ≡ tree_sort (tree xs g.first)
  alike_has g n is h = AllByRecursion-Has (λ m. tree_sort (tree xs m) ≡ tree_sort (tree xs g.first)) g.members n is.alike h

  in_has : (g : Group) (z : Tree) → IsGroup xs g → Has (met_in m (tree xs g.first) (stood xs g.members) x) z → IsMet m (stood xs g.members) x z
  in_has g z is h =
      let q = met_patterns_has (is_met m (tree_sort (tree xs g.first)) k) m (stood xs g.members) x z h in
      let n = map-Has (tree xs) g.members q.1 q.2 in
      let alike : tree_sort q.1 ≡ tree_sort (tree xs g.first) = ap tree_sort (sym n.2) ∙ alike_has g n.0 is n.1 in
      record { other = q.1; among = q.2; meets = ap (λ (l : Sort). is_met m l k) alike ∙ q.0; is = q.3 }

  has_in : (g : Group) (n : ℕ) → IsGroup xs g → Has g.members n → is_met m (tree_sort (tree xs n)) k ≡ true → Has (met_in m (tree xs g.first) (stood xs g.members) x) (met_term m (tree xs n) x)
  has_in g n is h e =
      has_met_patterns (is_met m (tree_sort (tree xs g.first)) k) m (stood xs g.members) x (tree xs n)
      (ap (λ (l : Sort). is_met m l k) (sym (alike_has g n is h)) ∙ e) (Has-map (tree xs) g.members n h)

  first_of : (g : Group) (gs : List Group) (z : Tree) → IsMet m (stood xs g.members) x z → IsMet m (stood xs (grouped (g ∷ gs))) x z
  first_of g gs z q = record {
    other = q.other;
    among = subst (λ (ts : List Tree). Has ts q.other) (sym (map-append (tree xs) g.members (grouped gs))) (Has-left (stood xs g.members) (stood xs (grouped gs)) q.other q.among);
    meets = q.meets;
    is = q.is;
  }

  later_of : (g : Group) (gs : List Group) (z : Tree) → IsMet m (stood xs (grouped gs)) x z → IsMet m (stood xs (grouped (g ∷ gs))) x z
  later_of g gs z q = record {
    other = q.other;
    among = subst (λ (ts : List Tree). Has ts q.other) (sym (map-append (tree xs) g.members (grouped gs))) (Has-right (stood xs g.members) (stood xs (grouped gs)) q.other q.among);
    meets = q.meets;
    is = q.is;
  }

  pub among_has : (gs : List Group) (z : Tree) → AreGroups xs gs → Has (met_among m xs gs x) z → IsMet m (stood xs (grouped gs)) x z
  among_has [] z are h = absurd h
  among_has (g ∷ gs) z are h =
      ⊎_elim (λ i. first_of g gs z (in_has g z are.0 i)) (λ i. later_of g gs z (among_has gs z are.1 i)) (Has-append (met_in m (tree xs g.first) (stood xs g.members) x) (met_among m xs gs x) z h)

  number_among : (gs : List Group) (n : ℕ) → AreGroups xs gs → Has (grouped gs) n → is_met m (tree_sort (tree xs n)) k ≡ true → Has (met_among m xs gs x) (met_term m (tree xs n) x)
  number_among [] n are h e = absurd h
  number_among (g ∷ gs) n are h e =
      ⊎_elim (λ i. Has-left (met_in m (tree xs g.first) (stood xs g.members) x) (met_among m xs gs x) (met_term m (tree xs n) x) (has_in g n are.0 i e))
      (λ i. Has-right (met_in m (tree xs g.first) (stood xs g.members) x) (met_among m xs gs x) (met_term m (tree xs n) x) (number_among gs n are.1 i e)) (Has-append g.members (grouped gs) n h)

  pub has_among : (gs : List Group) (t : Tree) → AreGroups xs gs → Has (stood xs (grouped gs)) t → is_met m (tree_sort t) k ≡ true → Has (met_among m xs gs x) (met_term m t x)
  has_among gs t are h e =
      let q = map-Has (tree xs) (grouped gs) t h in
      subst (λ (u : Tree). Has (met_among m xs gs x) (met_term m u x)) q.2 (number_among gs q.0 are q.1 (subst (λ (u : Tree). is_met m (tree_sort u) k ≡ true) (sym q.2) e))
