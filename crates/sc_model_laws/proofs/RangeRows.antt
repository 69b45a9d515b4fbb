-- Whether an address lies in a range has its value where the addresses have theirs.
use Rattle.std.proofs.Common.{◌≡◌, ◌+◌, ◌<◌, inl, inr, ℕ, Bool, true, not, List, map, arith, refl, sym, ap, ◌∙◌}
use Rattle.std.specs.Cmp.{both_ways}
use Rattle.std.specs.List.{list_all}
use Rattle.sc_lists.proofs.MemberLaws.{Has-map, map-Has}
use Rattle.sc_lists.specs.Members.{Has}
use Rattle.sc_ip.specs.Addresses.{is_in_range}
use Rattle.sc_names.specs.declared.uid.Uid.{Uid}
use Rattle.sc_schema.specs.declared.declarations.Env.{Env}
use Rattle.sc_schema.specs.Declarations.{Declarations}
use Rattle.sc_values.proofs.OutLaws as out
use Rattle.sc_world.specs.declared.world.World.{World}
use Rattle.sc_sorts.specs.declared.sort.Sort.TheVariants as sort
use Rattle.sc_sorts.specs.declared.node.BinaryOp.TheVariants as binary
use Rattle.sc_bits.specs.Adders.{differ}
use Rattle.sc_bits.specs.Addresses.{ip_of}
use Rattle.sc_bits.specs.Blocks.{AgreeInRange, AreBlockBits, agrees_at}
use Rattle.sc_terms.specs.Trees.{Tree, two}
use Rattle.sc_terms.specs.TreeSorts.{tree_sort}
use Rattle.sc_terms.specs.Folds.{equal_term, bit_term}
use Rattle.sc_terms.specs.Values.{yes, val, ip_in, ip_seen}
use Rattle.sc_terms.proofs.FoldValues.{two_is}
use Rattle.sc_term_definitions.specs.Definitions.{definition, all, counted, place_agrees, range_inputs}
use Rattle.sc_rule_laws.proofs.MemberLaws.{all_has, has_all}
use Rattle.sc_closure_rules.specs.Closure.{Closed}
use Rattle.sc_model_laws.specs.Assignments.{lit}
use Rattle.sc_model_laws.specs.Vals.{Model, bits_of}
use Rattle.sc_model_laws.specs.Models.{IsModel}
use Rattle.sc_model_laws.specs.Rows.{IsRight}
use Rattle.sc_model_laws.proofs.ClaimLaws.{AreTerms, AreAddresses, by_definition, input_of, bit_sort, counted_below, lit_equal}
use Rattle.sc_model_laws.proofs.ClosedLaws.{of_part, counted_place}
use Rattle.sc_model_laws.proofs.FoldedBits.{place_told}
use Rattle.sc_model_laws.proofs.RowLaws.{at_sort, right_truth}
use Rattle.sc_model_laws.proofs.ValLaws.{val_Ip}

range_is : (a b : Tree) → definition (two binary.InRange a b) ≡ all (range_inputs a b)
unfolding definition
range_is a b = refl

module _ (d : Declarations) (env : Env) (literals : List Uid) (goal : Tree) (addresses : AreAddresses) (terms : AreTerms d env literals goal) (m : Model) (is : IsModel d env goal m) (w : World) where
  -- the address that a term has
  address : (a : Tree) → tree_sort a ≡ sort.Ip → IsRight m w a → ip_in (val a w) ≡ ip_of (bits_of m a)
  address a e r =
      ap ip_in (at_sort d env literals goal addresses terms m is w sort.Ip a e r ∙ val_Ip m a) ∙ ap ip_seen (out.out_Ip (ip_of (bits_of m a)))

  module _ (a b : Tree) (c : Closed d env goal (two binary.InRange a b)) where
    range_told : lit m.truths (two binary.InRange a b) ≡ list_all (λ (u : Bool). u) (map (lit m.truths) (range_inputs a b))
    unfolding tree_sort
    range_told = by_definition d env literals goal addresses terms m is (two binary.InRange a b) (all (range_inputs a b)) refl (range_is a b) c

    input : (t : Tree) → Has (range_inputs a b) t → Closed d env goal t
    input t h = input_of d env literals goal addresses terms m is (two binary.InRange a b) (all (range_inputs a b)) t (range_is a b) c h

    -- the versions' equation, and what is said of a place
    version_told : lit m.truths (equal_term (bit_term a 0) (bit_term b 0)) ≡ not (differ (bits_of m a 0) (bits_of m b 0))
    version_told =
        lit_equal d env literals goal addresses terms m is (bit_term a 0) (bit_term b 0) (bit_sort a 0) (bit_sort b 0)
        (input (equal_term (bit_term a 0) (bit_term b 0)) (inl refl))

    place_there : (j : ℕ) → j < 128 → Has (range_inputs a b) (place_agrees a b j)
    place_there j h = inr (Has-map (place_agrees a b) (counted 0 128) j (counted_place 128 j h))

    place_is : (j : ℕ) → j < 128 → lit m.truths (place_agrees a b j) ≡ agrees_at (bits_of m a) (bits_of m b) j
    place_is j h = (place_told d env literals goal addresses terms m is a b j).of_closed (input (place_agrees a b j) (place_there j h))

    agree : lit m.truths (two binary.InRange a b) ≡ true → AgreeInRange (bits_of m a) (bits_of m b)
    agree t = record {
      version = sym version_told ∙ each (equal_term (bit_term a 0) (bit_term b 0)) (inl refl);
      places = λ j h. sym (place_is j h) ∙ each (place_agrees a b j) (place_there j h);
    }
      where
        each : (x : Tree) → Has (range_inputs a b) x → lit m.truths x ≡ true
        each x h =
            all_has (λ (u : Bool). u) (map (lit m.truths) (range_inputs a b)) (lit m.truths x) (sym range_told ∙ t)
            (Has-map (lit m.truths) (range_inputs a b) x h)

    input_true : AgreeInRange (bits_of m a) (bits_of m b) → (x : Tree) → Has (range_inputs a b) x → lit m.truths x ≡ true
    input_true h x (inl e) = ap (lit m.truths) (sym e) ∙ version_told ∙ h.version
    input_true h x (inr later) =
        let j = map-Has (place_agrees a b) (counted 0 128) x later in
        let within : j.0 < 0 + 128 = counted_below 128 0 j.0 j.1 in
        let below : j.0 < 128 = omega (arith, within) in
        ap (lit m.truths) (sym j.2) ∙ place_is j.0 below ∙ h.places j.0 below

    agreed : AgreeInRange (bits_of m a) (bits_of m b) → lit m.truths (two binary.InRange a b) ≡ true
    agreed h = range_told ∙ has_all (λ (u : Bool). u) (map (lit m.truths) (range_inputs a b)) (λ u k.
        let t = map-Has (lit m.truths) (range_inputs a b) u k in
        sym t.2 ∙ input_true h t.0 t.1)

  pub right_in_range : (a b : Tree) → tree_sort a ≡ sort.Ip → tree_sort b ≡ sort.Ip → Closed d env goal (two binary.InRange a b) → IsRight m w a → IsRight m w b → IsRight m w (two binary.InRange a b)
  unfolding tree_sort
  right_in_range a b e f c r q =
      let first : AreBlockBits (bits_of m a) = is.consistent.addresses a (of_part d env goal (two binary.InRange a b) a c (inl refl)) e in
      let later : AreBlockBits (bits_of m b) = is.consistent.addresses b (of_part d env goal (two binary.InRange a b) b c (inr (inl refl))) f in
      let range = addresses.range (bits_of m a) (bits_of m b) first later in
      right_truth d env literals goal addresses terms m is w (two binary.InRange a b) (is_in_range (ip_of (bits_of m a)) (ip_of (bits_of m b))) refl
      (two_is binary.InRange a b w ∙ (λ i. yes (is_in_range (address a e r i) (address b f q i))))
      (both_ways (is_in_range (ip_of (bits_of m a)) (ip_of (bits_of m b))) (lit m.truths (two binary.InRange a b)) (λ t. agreed a b c (range.0 t)) (λ t. range.1 (agree a b c t)))
