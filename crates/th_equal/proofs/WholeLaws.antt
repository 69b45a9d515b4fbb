-- Each falsified instance of EQ2 to EQ8 is named by a closed term, so none is where all that closed terms name are free.
use Rattle.std.proofs.Common.{◌≡◌, ◌≢◌, ◌⊎◌, ℕ, zero, suc, Bool, true, false, inl, inr, List, ◌∷◌, slice_get, Option, Some, None, Contains, refl, sym, ◌∙◌, subst}
use Rattle.std.proofs.lemmas.Bool.{and_parts, true≢false}
use Rattle.sc_lists.proofs.MemberLaws.{Has-from_Contains}
use Rattle.sc_laws.proofs.OptionLaws.{same_some}
use Rattle.sc_clauses.specs.Assignments.{Assignment}
use Rattle.sc_sorts.specs.declared.sort.Sort.{Sort, out-Sort}
use Rattle.sc_sorts.specs.Inside.{SortField, SortFields}
use Rattle.sc_sorts.specs.declared.node.BinaryOp.TheVariants.{Equal}
use Rattle.sc_terms.specs.Trees.{Tree, two}
use Rattle.sc_terms.specs.TreeSorts.{tree_sort}
use Rattle.sc_terms.specs.Folds.{equal_term, field_term, present_term, held_term}
use Rattle.sc_footprint.specs.Problems.{Posed, IsPosed, closed_terms, literal_in, term_of}
use Rattle.sc_rule_laws.specs.Equal.{are_options, eq3, eq3_of, eq4, eq4_of, eq5, eq6, eq7, field_at, field_equal}
use Rattle.sc_rule_laws.specs.Signed.{Signed, Said, so, unless, given}
use Rattle.sc_rule_laws.specs.Terms.{fields_of, is_option, one_sort}
use Rattle.sc_rule_laws.proofs.EqualSound.{one_sort_is}
use Rattle.sc_rule_laws.proofs.EquationLaws.{no_constant}
use Rattle.sc_rule_instances.proofs.FalseLaws.{asked_equation, false_known, false_negation, true_isnt_false, known_atom}
use Rattle.sc_rule_instances.specs.declared.rule.EqualRule.TheVariants.{Eq1, Eq2, Eq3, Eq4, Eq5, Eq6, Eq7, Eq8}
use Rattle.sc_rule_instances.specs.Instances.{equal_said, on_two}
use Rattle.sc_rule_instances.specs.Known.{known, is_falsified, NoneFalsified}
use Rattle.th_equal.specs.Naming.{IsChainFree}
use Rattle.th_equal.specs.Free.{IsKept, IsPairFree, AreTermsFree}
use Rattle.th_equal.proofs.CompositeLaws.{is_composite, is_composite_level, record_composite, option_composite, no_literal}
use Rattle.th_equal.proofs.FreeLaws.{nothing_kept}
use Rattle.th_equal.proofs.NumberLaws.{closed_number}

-- two records or options of one sort that aren't one, of whose equation something is known
record AreEquated (p : Posed) (a b : Tree) : Type 0 where
  composite : is_composite a ≡ true
  same_sort : one_sort a b ≡ true
  asked : (literal_in p (equal_term a b)).atom ≢ 0
  apart : a ≢ b

module _ (p : Posed) (m : Assignment) where
  abbrev Out : Said → Type 0
  Out said = is_falsified p m said ≡ true

  abbrev known_in : Tree → Option Bool
  known_in t = known m (literal_in p t)

  -- ---- one literal at a time

  nothing_out : Out None → ⊥
  nothing_out h = true≢false (sym h ∙ nothing_kept p m)

  so_out : (t : Tree) (parts : List Signed) → Out (Some (so t ∷ parts)) → (known_in t ≡ Some false) × Out (Some parts)
  unfolding is_falsified
  so_out t parts h = let k = and_parts _ _ h in (false_known m (literal_in p t) k.0, k.1)

  unless_out : (t : Tree) (parts : List Signed) → Out (Some (unless t ∷ parts)) → (known_in t ≡ Some true) × Out (Some parts)
  unfolding is_falsified
  unless_out t parts h = let k = and_parts _ _ h in (false_negation m (literal_in p t) k.0, k.1)

  given_out : (test : Bool) (parts : List Signed) → Out (given test parts) → (test ≡ true) × Out (Some parts)
  given_out true parts h = (refl, h)
  given_out false parts h = absurd (nothing_out h)

  -- it is enough that it isn't falsified where it is
  kept_if : (said : Said) → (Out said → IsKept p m said) → IsKept p m said
  kept_if said h = by (is_falsified p m said) refl
    where
      by : (b : Bool) → is_falsified p m said ≡ b → is_falsified p m said ≡ false
      by false e = e
      by true e = h e

  never_both : (t : Tree) → known_in t ≡ Some true → known_in t ≡ Some false → ⊥
  never_both t e f = true≢false (same_some (sym e ∙ f))

  module _ (posed : IsPosed p) where
    -- what is known not to be equal isn't one
    unequal : (x : Tree → Tree) (a b : Tree) → known_in (equal_term (x a) (x b)) ≡ Some false → a ≢ b
    unequal x a b e same = true_isnt_false p m (x a) posed (subst (λ (u : Tree). known_in (equal_term (x a) (x u)) ≡ Some false) (sym same) e)

    -- ---- the equation of two terms of which an instance is falsified

    of_field : (a b : Tree) (fs : SortFields) (f : Option SortField) → fields_of a ≡ Some fs → Out (eq3_of a b f) → AreEquated p a b
    of_field a b fs None e h = absurd (nothing_out h)
    of_field a b fs (Some f) e h =
        let (sorted, parts) = given_out (one_sort a b) _ h in
        let (equal, rest) = unless_out (equal_term a b) _ parts in
        let (other, end) = so_out (field_equal a b f) _ rest in
        record {
          composite = record_composite (out-Sort (tree_sort a)) fs e;
          same_sort = sorted;
          asked = known_atom m (literal_in p (equal_term a b)) true equal;
          apart = unequal (field_term f.0) a b other;
        }

    of_eq3 : (a b : Tree) (i : ℕ) (fs : Option SortFields) → fields_of a ≡ fs → Out (eq3_of a b (field_at fs i)) → AreEquated p a b
    of_eq3 a b i None e h = absurd (nothing_out h)
    of_eq3 a b i (Some fs) e h = of_field a b fs (slice_get fs i) e h

    of_eq4 : (a b : Tree) (fs : Option SortFields) → fields_of a ≡ fs → Out (eq4_of a b fs) → AreEquated p a b
    of_eq4 a b None e h = absurd (nothing_out h)
    of_eq4 a b (Some fs) e h =
        let (sorted, parts) = given_out (one_sort a b) _ h in
        let (unlike, rest) = so_out (equal_term a b) _ parts in
        record {
          composite = record_composite (out-Sort (tree_sort a)) fs e;
          same_sort = sorted;
          asked = known_atom m (literal_in p (equal_term a b)) false unlike;
          apart = unequal (λ t. t) a b unlike;
        }

    -- of options, by the truth that is known of their equation
    of_options : (a b : Tree) (v : Bool) → are_options a b ≡ true → known_in (equal_term a b) ≡ Some v → a ≢ b → AreEquated p a b
    of_options a b v options h other =
        let both = and_parts (one_sort a b) (is_option a) options in
        record { composite = option_composite (out-Sort (tree_sort a)) both.1; same_sort = both.0; asked = known_atom m (literal_in p (equal_term a b)) v h; apart = other }

    of_eq5 : (a b : Tree) → Out (eq5 a b) → AreEquated p a b
    of_eq5 a b h =
        let (options, parts) = given_out (are_options a b) _ h in
        let (equal, rest) = unless_out (equal_term a b) _ parts in
        let (here, last) = unless_out (present_term a) _ rest in
        let (there, end) = so_out (present_term b) _ last in
        of_options a b true options equal (λ same. never_both (present_term a) here (subst (λ (t : Tree). known_in (present_term t) ≡ Some false) (sym same) there))

    of_eq6 : (a b : Tree) → Out (eq6 a b) → AreEquated p a b
    of_eq6 a b h =
        let (options, parts) = given_out (are_options a b) _ h in
        let (equal, rest) = unless_out (equal_term a b) _ parts in
        let (unlike, end) = so_out (equal_term (held_term a) (held_term b)) _ rest in
        of_options a b true options equal (unequal held_term a b unlike)

    of_eq7 : (a b : Tree) (side : ℕ) → Out (eq7 a b side) → AreEquated p a b
    of_eq7 a b zero h =
        let (options, parts) = given_out (are_options a b) _ h in
        let (unlike, rest) = so_out (equal_term a b) _ parts in
        of_options a b false options unlike (unequal (λ t. t) a b unlike)
    of_eq7 a b (suc zero) h =
        let (options, parts) = given_out (are_options a b) _ h in
        let (unlike, rest) = so_out (equal_term a b) _ parts in
        of_options a b false options unlike (unequal (λ t. t) a b unlike)
    of_eq7 a b (suc (suc side)) h = absurd (nothing_out h)

    module _ (free : AreTermsFree p m) where
      -- ---- it is closed, one way round or the other

      here_free : (r s : ℕ) (a b : Tree) → term_of p r ≡ Some a → term_of p s ≡ Some b → Contains (closed_terms p) (two Equal a b) → IsPairFree p m (Some a) (Some b)
      here_free r s a b e f h =
          let (n, g) = closed_number p (two Equal a b) (Has-from_Contains (closed_terms p) (two Equal a b) h) in
          ((free n).equation (two Equal a b) g a b refl r s e f).0

      turned_free : (r s : ℕ) (a b : Tree) → term_of p r ≡ Some a → term_of p s ≡ Some b → Contains (closed_terms p) (two Equal b a) → IsPairFree p m (Some a) (Some b)
      turned_free r s a b e f h =
          let (n, g) = closed_number p (two Equal b a) (Has-from_Contains (closed_terms p) (two Equal b a) h) in
          ((free n).equation (two Equal b a) g b a refl s r f e).1

      equated_free : (r s : ℕ) (a b : Tree) → term_of p r ≡ Some a → term_of p s ≡ Some b → AreEquated p a b → IsPairFree p m (Some a) (Some b)
      equated_free r s a b e f h =
          let plain = no_literal a h.composite in
          let other = no_literal b (subst (λ (k : Sort). is_composite_level (out-Sort k) ≡ true) (one_sort_is a b h.same_sort) h.composite) in
          by (asked_equation p a b plain (no_constant a plain) (no_constant b other) h.asked)
        where
          by : (a ≡ b) ⊎ (Contains (closed_terms p) (two Equal a b) ⊎ Contains (closed_terms p) (two Equal b a)) → IsPairFree p m (Some a) (Some b)
          by (inl same) = absurd (h.apart same)
          by (inr (inl there)) = here_free r s a b e f there
          by (inr (inr there)) = turned_free r s a b e f there

      -- ---- so none is falsified

      pair_kept : (rule : Tree → Tree → Said) → ((a b : Tree) → Out (rule a b) → AreEquated p a b) → ((a b : Tree) → IsPairFree p m (Some a) (Some b) → IsKept p m (rule a b))
          → (r s : ℕ) → IsKept p m (on_two (term_of p r) (term_of p s) rule)
      pair_kept rule told read r s = by (term_of p r) (term_of p s) refl refl
        where
          by : (o q : Option Tree) → term_of p r ≡ o → term_of p s ≡ q → is_falsified p m (on_two o q rule) ≡ false
          by (Some a) (Some b) e f = kept_if (rule a b) (λ h. read a b (equated_free r s a b e f (told a b h)))
          by (Some a) None e f = nothing_kept p m
          by None q e f = nothing_kept p m

      pub none_falsified : IsChainFree p m → NoneFalsified equal_said p m
      none_falsified chains (Eq1 a b c) = chains a b c
      none_falsified chains (Eq2 x side) = (free x).eq2_free side
      none_falsified chains (Eq3 r s i) = pair_kept (λ t u. eq3 t u i) (λ a b h. of_eq3 a b i (fields_of a) refl h) (λ a b k. k.records.eq3_free i) r s
      none_falsified chains (Eq4 r s) = pair_kept eq4 (λ a b h. of_eq4 a b (fields_of a) refl h) (λ a b k. k.records.eq4_free) r s
      none_falsified chains (Eq5 o q) = pair_kept eq5 of_eq5 (λ a b k. k.options.eq5_free) o q
      none_falsified chains (Eq6 o q) = pair_kept eq6 of_eq6 (λ a b k. k.options.eq6_free) o q
      none_falsified chains (Eq7 o q side) = pair_kept (λ t u. eq7 t u side) (λ a b h. of_eq7 a b side h) (λ a b k. k.options.eq7_free side) o q
      none_falsified chains (Eq8 o) = (free o).eq8_free
