-- Terms are put into classes, one equation after the other, until all that are known to be equal are in one.
use Rattle.std.proofs.Common.{◌≡◌, ◌≢◌, ◌<◌, ◌≤◌, ◌+◌, ◌++◌, ℕ, true, false, List, [], ◌∷◌, length, get_or, Some, None, refl, sym, ap, ◌∙◌, subst, arith, ⊎_elim}
use Rattle.std.proofs.lemmas.Bool.{cases_eq}
use Rattle.std.proofs.lemmas.List.{length-append, get_or_append_left, get_or_push}
use Rattle.sc_laws.proofs.NumberLaws.{last_or_before}
use Rattle.sc_laws.proofs.OptionLaws.{same_some}
use Rattle.sc_clauses.specs.Assignments.{Assignment, value_of}
use Rattle.sc_sorts.specs.declared.node.BinaryOp.TheVariants.{Equal}
use Rattle.sc_terms.specs.Trees.{Tree, two}
use Rattle.sc_terms.specs.Tables.{tree, IsTable}
use Rattle.sc_footprint.specs.Problems.{Posed, IsPosed, atoms, numbered}
use Rattle.sc_footprint.proofs.NumberingLaws.{within_count}
use Rattle.sc_rule_instances.proofs.KnownLaws.{truth_turned}
use Rattle.sc_rule_instances.specs.Known.{few_items, named_at, truth_of}
use Rattle.sc_falsified.specs.Classes.{AreLabels}
use Rattle.th_equal.specs.Naming.{AreNamed}
use Rattle.th_equal.specs.Classes.{IsAlong, IsSame, IsCoarser}
use Rattle.th_equal.specs.Equated.{AreSides}
use Rattle.th_equal.specs.Joining.{AreSidesJoined, IsAtomJoined, AreAtomsJoined, IsPairJoined, IsRowJoined, IsItemJoined, AreRowsJoined, IsLabelAt, AreFirstLabels, has_choices}
use Rattle.th_equal.proofs.ClassLaws.{same_coarser}
use Rattle.th_equal.proofs.EquationLaws.{IsTrueAtom, Reason, first_twice, second_twice, by_atom, by_turned, reason}
use Rattle.th_equal.proofs.ChainLaws.{known_places, named_term, named_within, of_places}

module _ (p : Posed) where
  -- ---- the sides of a term

  pub sides_none : (t : Tree) (ps : List ℕ) → ((a b : Tree) → t ≢ two Equal a b) → AreSidesJoined p t ps
  unfolding AreSidesJoined
  sides_none t ps none a b one other is = absurd (none (tree p.nodes a) (tree p.nodes b) is)

  pub sides_joined : (t : Tree) (a b : ℕ) (ps : List ℕ) → IsTable p.nodes → AreSides p t a b → IsSame ps a b → AreSidesJoined p t ps
  unfolding AreSidesJoined
  sides_joined t a b ps table sides same c d one other is =
      let both : two Equal (tree p.nodes a) (tree p.nodes b) ≡ two Equal (tree p.nodes c) (tree p.nodes d) = sym sides.is ∙ is in
      let left : tree p.nodes a ≡ tree p.nodes c = cc in
      let right : tree p.nodes b ≡ tree p.nodes d = cc in
      let first : a ≡ c = table.apart a c sides.first_in one left in
      let second : b ≡ d = table.apart b d sides.second_in other right in
      subst (λ (k : ℕ). IsSame ps k d) first (subst (λ (k : ℕ). IsSame ps a k) second same)

  pub sides_coarser : (t : Tree) (ps qs : List ℕ) → IsCoarser ps qs → AreSidesJoined p t ps → AreSidesJoined p t qs
  unfolding AreSidesJoined
  sides_coarser t ps qs coarser h a b one other is = same_coarser ps qs a b coarser (h a b one other is)

  module _ (m : Assignment) where
    -- ---- atoms

    pub atom_untrue : (n : ℕ) (ps : List ℕ) → (value_of m n ≡ Some true → ⊥) → IsAtomJoined p m n ps
    unfolding IsAtomJoined
    atom_untrue n ps other value = absurd (other value)

    pub atom_none : (n : ℕ) (ps : List ℕ) → numbered (atoms p) n ≡ None → IsAtomJoined p m n ps
    unfolding IsAtomJoined
    atom_none n ps none value t is = let never : None ≡ Some t = sym none ∙ is in absurd cc

    pub atom_joined : (n k : ℕ) (ps : List ℕ) → Some (tree p.nodes k) ≡ numbered (atoms p) n → AreSidesJoined p (tree p.nodes k) ps → IsAtomJoined p m n ps
    unfolding IsAtomJoined
    atom_joined n k ps stands h value t is = subst (λ (s : Tree). AreSidesJoined p s ps) (same_some (stands ∙ is)) h

    atom_coarser : (n : ℕ) (ps qs : List ℕ) → IsCoarser ps qs → IsAtomJoined p m n ps → IsAtomJoined p m n qs
    unfolding IsAtomJoined
    atom_coarser n ps qs coarser h value t is = sides_coarser t ps qs coarser (h value t is)

    pub atoms_start : (ps : List ℕ) → AreAtomsJoined p m 0 ps
    unfolding AreAtomsJoined
    atoms_start ps n low = let none : n ≡ 0 = omega (arith, low) in atom_none n ps (ap (numbered (atoms p)) none)

    pub atoms_next : (n : ℕ) (ps qs : List ℕ) → AreAtomsJoined p m n ps → IsCoarser ps qs → IsAtomJoined p m (n + 1) qs → AreAtomsJoined p m (n + 1) qs
    unfolding AreAtomsJoined
    atoms_next n ps qs before coarser now k low =
        ⊎_elim (λ (less : k < n + 1). atom_coarser k ps qs coarser (before k (omega (arith, less)))) (λ (same : k ≡ n + 1). subst (λ (i : ℕ). IsAtomJoined p m i qs) (sym same) now) (last_or_before k (n + 1) (omega (arith, low)))

    pub atoms_end : (n count : ℕ) (ps : List ℕ) → count ≤ n → AreAtomsJoined p m n ps → AreAtomsJoined p m count ps
    unfolding AreAtomsJoined
    atoms_end n count ps past h k low = h k (omega (arith, low, past))

    -- ---- items

    module _ (ns : List ℕ) where
      pub pair_apart : (i j : ℕ) (ps : List ℕ) → (truth_of p m ns i j ≡ Some true → ⊥) → IsPairJoined p m ns i j ps
      unfolding IsPairJoined
      pair_apart i j ps other x y first second is = absurd (other is)

      pub pair_first_none : (i j : ℕ) (ps : List ℕ) → named_at p ns i ≡ None → IsPairJoined p m ns i j ps
      unfolding IsPairJoined
      pair_first_none i j ps none x y first second is = let never : None ≡ Some x = sym none ∙ first in absurd cc

      pub pair_second_none : (i j : ℕ) (ps : List ℕ) → named_at p ns j ≡ None → IsPairJoined p m ns i j ps
      unfolding IsPairJoined
      pair_second_none i j ps none x y first second is = let never : None ≡ Some y = sym none ∙ second in absurd cc

      pub pair_joined : (i j a b : ℕ) (ps : List ℕ) → Some a ≡ named_at p ns i → Some b ≡ named_at p ns j → IsSame ps a b → IsPairJoined p m ns i j ps
      unfolding IsPairJoined
      pair_joined i j a b ps left right same x y first second is =
          subst (λ (k : ℕ). IsSame ps k y) (same_some (left ∙ first)) (subst (λ (k : ℕ). IsSame ps a k) (same_some (right ∙ second)) same)

      pair_coarser : (i j : ℕ) (ps qs : List ℕ) → IsCoarser ps qs → IsPairJoined p m ns i j ps → IsPairJoined p m ns i j qs
      unfolding IsPairJoined
      pair_coarser i j ps qs coarser h x y first second is = same_coarser ps qs x y coarser (h x y first second is)

      pub row_start : (i : ℕ) (ps : List ℕ) → IsRowJoined p m ns i 0 ps
      unfolding IsRowJoined
      row_start i ps j less = absurd (omega (arith, less))

      pub row_next : (i n : ℕ) (ps qs : List ℕ) → IsRowJoined p m ns i n ps → IsCoarser ps qs → IsPairJoined p m ns i n qs → IsRowJoined p m ns i (n + 1) qs
      unfolding IsRowJoined
      row_next i n ps qs before coarser now j less =
          ⊎_elim (λ (l : j < n). pair_coarser i j ps qs coarser (before j l)) (λ (same : j ≡ n). subst (λ (k : ℕ). IsPairJoined p m ns i k qs) (sym same) now) (last_or_before j n less)

      pub row_end : (i n count : ℕ) (ps : List ℕ) → count ≤ n → IsRowJoined p m ns i n ps → IsRowJoined p m ns i count ps
      unfolding IsRowJoined
      row_end i n count ps past h j less = h j (omega (arith, less, past))

      row_coarser : (i n : ℕ) (ps qs : List ℕ) → IsCoarser ps qs → IsRowJoined p m ns i n ps → IsRowJoined p m ns i n qs
      unfolding IsRowJoined
      row_coarser i n ps qs coarser h j less = pair_coarser i j ps qs coarser (h j less)

      pub item_none : (i : ℕ) (ps : List ℕ) → named_at p ns i ≡ None → IsItemJoined p m ns i ps
      unfolding IsItemJoined
      item_none i ps none x is some = let never : None ≡ Some x = sym none ∙ is in absurd cc

      pub item_plain : (i a : ℕ) (ps : List ℕ) → Some a ≡ named_at p ns i → has_choices (tree p.nodes a) ≡ false → IsItemJoined p m ns i ps
      unfolding IsItemJoined
      item_plain i a ps first none x is some =
          let never : true ≡ false = sym some ∙ ap (λ (k : ℕ). has_choices (tree p.nodes k)) (sym (same_some (first ∙ is))) ∙ none in absurd cc

      pub item_joined : (i : ℕ) (ps : List ℕ) → IsRowJoined p m ns i (few_items (length ns)) ps → IsItemJoined p m ns i ps
      unfolding IsItemJoined
      item_joined i ps h x is some = h

      item_coarser : (i : ℕ) (ps qs : List ℕ) → IsCoarser ps qs → IsItemJoined p m ns i ps → IsItemJoined p m ns i qs
      unfolding IsItemJoined
      item_coarser i ps qs coarser h x is some = row_coarser i (few_items (length ns)) ps qs coarser (h x is some)

      pub rows_start : (ps : List ℕ) → AreRowsJoined p m ns 0 ps
      unfolding AreRowsJoined
      rows_start ps i less = absurd (omega (arith, less))

      pub rows_next : (n : ℕ) (ps qs : List ℕ) → AreRowsJoined p m ns n ps → IsCoarser ps qs → IsItemJoined p m ns n qs → AreRowsJoined p m ns (n + 1) qs
      unfolding AreRowsJoined
      rows_next n ps qs before coarser now i less =
          ⊎_elim (λ (l : i < n). item_coarser i ps qs coarser (before i l)) (λ (same : i ≡ n). subst (λ (k : ℕ). IsItemJoined p m ns k qs) (sym same) now) (last_or_before i n less)

      pub rows_end : (n count : ℕ) (ps : List ℕ) → count ≤ n → AreRowsJoined p m ns n ps → AreRowsJoined p m ns count ps
      unfolding AreRowsJoined
      rows_end n count ps past h i less = h i (omega (arith, less, past))

      -- ---- labels

      module _ (ps qs ls found : List ℕ) (posed : IsPosed p) (table : IsTable p.nodes) (are : AreNamed p ns) (joined : AreAtomsJoined p m (length (atoms p)) ps) (rows : AreRowsJoined p m ns (few_items (length ns)) qs)
          (coarser : IsCoarser ps qs) (along : IsAlong qs ls) where
        by_number : (n x y : ℕ) → x < length p.nodes → y < length p.nodes → IsTrueAtom p m n (two Equal (tree p.nodes x) (tree p.nodes y)) → get_or ls x 0 ≡ get_or ls y 0
        unfolding AreAtomsJoined IsAtomJoined AreSidesJoined
        by_number n x y one other atom =
            let small = within_count (atoms p) n (two Equal (tree p.nodes x) (tree p.nodes y)) atom.is in
            (joined n small.1 atom.value (two Equal (tree p.nodes x) (tree p.nodes y)) atom.is x y one other refl).same ls (coarser.kept ls along)

        by_row : (i j x y : ℕ) → i < few_items (length ns) → j < few_items (length ns) → named_at p ns i ≡ Some x → named_at p ns j ≡ Some y → has_choices (tree p.nodes x) ≡ true → truth_of p m ns i j ≡ Some true → get_or ls x 0 ≡ get_or ls y 0
        unfolding AreRowsJoined IsItemJoined IsRowJoined IsPairJoined
        by_row i j x y one other e f some is = (rows i one x e some j other x y e f is).same ls along

        by_reason : (i j x y : ℕ) → i < few_items (length ns) → j < few_items (length ns) → named_at p ns i ≡ Some x → named_at p ns j ≡ Some y → truth_of p m ns i j ≡ Some true → Reason p m (tree p.nodes x) (tree p.nodes y)
            → get_or ls x 0 ≡ get_or ls y 0
        by_reason i j x y one other e f is (first_twice some) = by_row i j x y one other e f some is
        by_reason i j x y one other e f is (second_twice some) = sym (by_row j i y x other one f e some (truth_turned p m ns j i ∙ is))
        by_reason i j x y one other e f is (by_atom n atom) = by_number n x y (named_within p m ns i x posed e) (named_within p m ns j y posed f) atom
        by_reason i j x y one other e f is (by_turned n atom) = sym (by_number n y x (named_within p m ns j y posed f) (named_within p m ns i x posed e) atom)

        same_label : (i j x y : ℕ) → i < few_items (length ns) → j < few_items (length ns) → named_at p ns i ≡ Some x → named_at p ns j ≡ Some y → truth_of p m ns i j ≡ Some true → get_or ls x 0 ≡ get_or ls y 0
        same_label i j x y one other e f is =
            let first = named_term p m ns i x are e in
            let second = named_term p m ns j y are f in
            let below = named_within p m ns i x posed e in
            let under = named_within p m ns j y posed f in
            ⊎_elim (λ (same : x ≡ y). ap (λ (k : ℕ). get_or ls k 0) same)
            (λ (apart : x ≢ y).
            by_reason i j x y one other e f is
            (reason p m (tree p.nodes x) (tree p.nodes y) posed first.1 second.1 (λ same. apart (table.apart x y below under same)) (of_places p m ns are i j x y true e f is)))
            (cases_eq x y)

        pub labels_are : AreFirstLabels p ns ls (few_items (length ns)) found → AreLabels (truth_of p m ns) (few_items (length ns)) found
        unfolding IsLabelAt
        labels_are h = record {
          sized = h.sized;
          joined = λ i j one other is.
              let place = known_places p m ns are i j true is in
              h.at i one place.0 place.2 ∙ same_label i j place.0 place.1 one other place.2 place.3 is ∙ sym (h.at j other place.1 place.3);
        }

-- ---- labels of items, one after the other

module _ (p : Posed) (ns ls : List ℕ) where
  pub label_none : (i l : ℕ) → named_at p ns i ≡ None → IsLabelAt p ns ls i l
  unfolding IsLabelAt
  label_none i l none x is = let never : None ≡ Some x = sym none ∙ is in absurd cc

  pub label_some : (i a l : ℕ) → Some a ≡ named_at p ns i → l ≡ get_or ls a 0 → IsLabelAt p ns ls i l
  unfolding IsLabelAt
  label_some i a l first e x is = e ∙ ap (λ (k : ℕ). get_or ls k 0) (same_some (first ∙ is))

  pub labels_start : AreFirstLabels p ns ls 0 []
  labels_start = record { sized = refl; at = λ i less. absurd (omega (arith, less)) }

  pub labels_end : (n count : ℕ) (found : List ℕ) → n ≡ count → AreFirstLabels p ns ls n found → AreFirstLabels p ns ls count found
  labels_end n count found same h = subst (λ (k : ℕ). AreFirstLabels p ns ls k found) same h

  pub labels_next : (n l : ℕ) (found : List ℕ) → AreFirstLabels p ns ls n found → IsLabelAt p ns ls n l → AreFirstLabels p ns ls (n + 1) (found ++ l ∷ [])
  labels_next n l found h now = record {
    sized = omega (arith, length-append found (l ∷ []), h.sized);
    at = λ i less.
        ⊎_elim (λ (before : i < n). subst (IsLabelAt p ns ls i) (sym (get_or_append_left found (l ∷ []) 0 i (omega (arith, before, h.sized)))) (h.at i before))
        (λ (same : i ≡ n). subst (IsLabelAt p ns ls i) (sym (get_or_push found l 0 i (h.sized ∙ sym same))) (subst (λ (k : ℕ). IsLabelAt p ns ls k l) (sym same) now))
        (last_or_before i n less);
  }
