-- The terms that go with a closed term, by their places: what is inside it comes first, where it is no truth value.
use Rattle.std.proofs.Common.{◌≡◌, ◌<◌, ℕ, zero, suc, false, cond, length, slice_get, Option, Some, None, IsSome, Contains, option_and_then, refl, sym, ap, ◌∙◌}
use Rattle.sc_lists.proofs.ListLaws.{all_element, contains_map}
use Rattle.sc_lists.proofs.MemberLaws.{Has-from_Contains}
use Rattle.sc_laws.proofs.OptionLaws.{same_some}
use Rattle.sc_laws.proofs.NumberLaws.{suc_isnt_zero}
use Rattle.sc_terms.specs.Trees.{Tree}
use Rattle.sc_terms.specs.Tables.{tree, IsTable}
use Rattle.sc_terms.proofs.OrderLaws.{tree_cmp_level}
use Rattle.sc_footprint.specs.Atoms.{is_bool}
use Rattle.sc_footprint.specs.Places.{place_among}
use Rattle.sc_footprint.specs.Closure.{follow, inside}
use Rattle.sc_footprint.specs.Problems.{Posed, IsPosed, closed_terms, numbered, number_of, if_any, term_of, companion}
use Rattle.sc_footprint.proofs.IndexLaws.{number_is_place}
use Rattle.sc_footprint.proofs.NumberingLaws.{numbered_map, numbered_back}
use Rattle.sc_rule_instances.proofs.FollowLaws.{follows}

-- ---- by their numbers

any_some : (j k : ℕ) → if_any j ≡ Some k → j ≡ k
any_some zero k e = absurd cc
any_some (suc j) k e = same_some (sym (ap (λ b. cond b None (Some (suc j))) (suc_isnt_zero j)) ∙ e)

any_none : (j : ℕ) → if_any j ≡ None → j ≡ 0
any_none zero e = refl
any_none (suc j) e = let no : Some (suc j) ≡ None = sym (ap (λ b. cond b None (Some (suc j))) (suc_isnt_zero j)) ∙ e in absurd cc

module _ (p : Posed) (table : IsTable p.nodes) (posed : IsPosed p) (n : ℕ) (there : Contains p.closed n) where
  pub closed_within : n < length p.nodes
  closed_within = all_element (λ (m : ℕ). m < length p.nodes) p.closed n posed.within there

  place_back : numbered (closed_terms p) (place_among p.closed n) ≡ Some (tree p.nodes n)
  place_back =
      ap (numbered (closed_terms p)) (sym (number_is_place p.nodes table tree_cmp_level p.closed n posed.within closed_within))
      ∙ numbered_back tree_cmp_level (closed_terms p) (tree p.nodes n) (Has-from_Contains (closed_terms p) (tree p.nodes n) (contains_map (tree p.nodes) p.closed n there))

  -- it has a number
  pub has_number : number_of p n ≡ None → ⊥
  has_number e = let no : None ≡ Some (tree p.nodes n) = ap (numbered (closed_terms p)) (sym (any_none (place_among p.closed n) e)) ∙ place_back in absurd cc

  pub number_back : (k : ℕ) → number_of p n ≡ Some k → term_of p k ≡ Some (tree p.nodes n)
  number_back k e = numbered_map (tree p.nodes) p.closed k ∙ ap (numbered (closed_terms p)) (sym (any_some (place_among p.closed n) k e)) ∙ place_back

  pub companion_inside : (k i : ℕ) → number_of p n ≡ Some k → is_bool (tree p.nodes n) ≡ false → IsSome (slice_get (inside (tree p.nodes n)) i)
      → companion p k i ≡ slice_get (inside (tree p.nodes n)) i
  companion_inside k i e h some =
      ap (option_and_then (λ (x : Tree). slice_get (follow p.schema x) i)) (number_back k e) ∙ follows p.schema (tree p.nodes n) i h some

  pub none_inside : (k i : ℕ) → number_of p n ≡ Some k → is_bool (tree p.nodes n) ≡ false → IsSome (slice_get (inside (tree p.nodes n)) i)
      → None ≡ companion p k i → ⊥
  none_inside k i e h some none = by (slice_get (inside (tree p.nodes n)) i) some (none ∙ companion_inside k i e h some)
    where
      by : (o : Option Tree) → IsSome o → None ≡ o → ⊥
      by (Some t) s f = absurd cc
      by None s f = absurd cc
