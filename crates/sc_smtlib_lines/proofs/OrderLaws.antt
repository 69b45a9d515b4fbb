-- Terms can be told in turn: their parts are terms, and smaller.
use Rattle.std.proofs.Common.{◌≡◌, ◌<◌, ◌≤◌, ◌+◌, ◌-◌, ◌⊎◌, inl, inr, ⊎_elim, ℕ, zero, suc, List, [], ◌∷◌, map, length, get_or, false, refl, sym, ap, ◌∙◌, subst, arith}
use Rattle.std.proofs.lemmas.List.{length-map}
use Rattle.sc_lists.specs.Members.{Has}
use Rattle.sc_lists.proofs.MemberLaws.{Has-push, map-Has}
use Rattle.sc_terms.specs.Trees.{Tree, leaf, one, two, choice, many, Trees, no_part, part}
use Rattle.sc_terms.specs.Folds.{truth_term}
use Rattle.sc_terms.specs.Order.{tree_cmp}
use Rattle.sc_closure_rules.specs.Closure.{parts, trees_in}
use Rattle.sc_turns.specs.Turns.{parts_at, InTurn, begins, goes_on, AreThings, AreRanked}
use Rattle.sc_smtlib_lines.specs.Gaining.{AreClosed}
use Rattle.sc_smtlib_lines.specs.Names.{places_of, part_places}
use Rattle.sc_footprint.specs.Problems.{number_among}
use Rattle.sc_smtlib_lines.specs.Subterms.{AreJust}
use Rattle.sc_smtlib_terms.specs.Forms.{IsSubterm, part_of}
use Rattle.sc_smtlib_lines.proofs.PlaceLaws.{stands_at, within_place}

-- ---- sizes

abbrev mutual
  size : Tree → ℕ
  size (leaf l) = 0
  size (one o a) = suc (size a)
  size (two o a b) = suc (size a + size b)
  size (choice c a b) = suc (size c + (size a + size b))
  size (many o ts) = suc (size_of ts)

  size_of : Trees → ℕ
  size_of no_part = 0
  size_of (part l t ts) = size t + size_of ts

in_trees : (ts : Trees) (p : Tree) → Has (trees_in ts) p → size p ≤ size_of ts
in_trees no_part p h = absurd h
in_trees (part l t ts) p (inl e) = subst (λ z. size z ≤ size t + size_of ts) e (omega arith)
in_trees (part l t ts) p (inr h) = omega (arith, in_trees ts p h)

smaller : (t p : Tree) → Has (parts t) p → size p < size t
smaller (leaf l) p h = absurd h
smaller (one o a) p (inl e) = subst (λ z. size z < suc (size a)) e (omega arith)
smaller (one o a) p (inr h) = absurd h
smaller (two o a b) p (inl e) = subst (λ z. size z < suc (size a + size b)) e (omega arith)
smaller (two o a b) p (inr (inl e)) = subst (λ z. size z < suc (size a + size b)) e (omega arith)
smaller (two o a b) p (inr (inr h)) = absurd h
smaller (choice c a b) p (inl e) = subst (λ z. size z < suc (size c + (size a + size b))) e (omega arith)
smaller (choice c a b) p (inr (inl e)) = subst (λ z. size z < suc (size c + (size a + size b))) e (omega arith)
smaller (choice c a b) p (inr (inr (inl e))) = subst (λ z. size z < suc (size c + (size a + size b))) e (omega arith)
smaller (choice c a b) p (inr (inr (inr h))) = absurd h
smaller (many o ts) p h = omega (arith, in_trees ts p h)

-- ---- the parts at a place

abbrev none : Tree
none = truth_term false

-- by all terms, and those from some place on
part_from : (all ts : List Tree) (x q : ℕ) → Has (get_or (map (λ t. places_of all (parts t)) ts) x []) q
    → (t : Tree) × (get_or ts x none ≡ t) × Has ts t × (p : Tree) × Has (parts t) p × (number_among all p - 1 ≡ q)
part_from all [] x q h = absurd h
part_from all (t ∷ ts) zero q h = let k = map-Has (λ p. number_among all p - 1) (parts t) q h in (t, refl, inl refl, k.0, k.1, k.2)
part_from all (t ∷ ts) (suc x) q h = let k = part_from all ts x q h in (k.0, k.1, inr k.2, k.3, k.4, k.5)

pub are_things : (ts : List Tree) → AreClosed ts → AreThings (part_places ts)
are_things ts closed x q h =
    let k = part_from ts ts x q h in
    subst (λ n. q < n) (sym (length-map ts (λ t. places_of ts (parts t)))) (subst (λ n. n < length ts) k.5 (within_place ts k.3 (closed k.0 k.3 k.2 k.4)))

abbrev rank : List Tree → ℕ → ℕ
rank ts x = size (get_or ts x none)

pub are_ranked : (ts : List Tree) → AreClosed ts → AreRanked (part_places ts) (rank ts)
are_ranked ts closed x q h =
    let k = part_from ts ts x q h in
    let here : get_or ts q none ≡ k.3 = ap (λ n. get_or ts n none) (sym k.5) ∙ stands_at ts k.3 none (closed k.0 k.3 k.2 k.4) in
    subst (λ z. size z < rank ts x) (sym here) (subst (λ z. size k.3 < size z) (sym k.1) (smaller k.0 k.3 k.4))

-- ---- what is told in turn is within

in_turn_within : (parts : List (List ℕ)) (all : List ℕ) → InTurn parts all → (x : ℕ) → Has all x → x < length parts
in_turn_within parts _ begins x h = absurd h
in_turn_within parts _ (goes_on told y t n) x h =
    ⊎_elim (λ k. in_turn_within parts told t x k) (λ e. subst (λ z. z < length parts) e n.ready.within) (Has-push told y x h)

pub told_within : (ts : List Tree) (os : List ℕ) → InTurn (part_places ts) os → (x : ℕ) → Has os x → x < length ts
told_within ts os t x h = subst (λ n. x < n) (length-map ts (λ u. places_of ts (parts u))) (in_turn_within (part_places ts) os t x h)

pub told_whole : (ts : List Tree) (os : List ℕ) → AreClosed ts
    → ((rank : ℕ → ℕ) → AreRanked (part_places ts) rank → (x : ℕ) → x < length (part_places ts) → Has os x)
    → (x : ℕ) → x < length ts → Has os x
told_whole ts os closed whole x h = whole (rank ts) (are_ranked ts closed) x (subst (λ n. x < n) (sym (length-map ts (λ u. places_of ts (parts u)))) h)

pub closed_subterms : (goal : Tree) (ts : List Tree) → AreJust tree_cmp (IsSubterm goal) ts → AreClosed ts
closed_subterms goal ts is t p h k = (is.just p).1 (part_of t p ((is.just t).0 h) k)
