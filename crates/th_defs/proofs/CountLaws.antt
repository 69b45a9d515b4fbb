-- How many defining clauses there are: fewer than 2 ^ 32.
use Rattle.std.proofs.Common.{◌≡◌, ◌≤◌, ◌<◌, ◌+◌, ◌-◌, ◌*◌, ◌^◌, ℕ, zero, suc, Bool, true, false, List, [], ◌∷◌, map, filter, flat_map, length, refl, sym, ap, ◌∙◌, subst, arith, length-append}
use Rattle.std.proofs.lemmas.List.{length-map}
use Rattle.std.proofs.lemmas.List.Kept.{IsStrictlySortedBy-filter}
use Rattle.std.specs.List.{AllByRecursion, IsDistinct}
use Rattle.std.specs.List.Sorted.{IsStrictlySortedBy}
use Rattle.std.specs.declared.cmp.Ordering.TheVariants.{Less, Equal}
use Rattle.sc_lists.proofs.ListLaws.{all_element}
use Rattle.sc_lists.proofs.MemberLaws.{map-Has, Has-from_Contains, Contains-from_Has}
use Rattle.sc_lists.specs.Members.{Has}
use Rattle.sc_clauses.specs.declared.lit.Lit.{Lit}
use Rattle.sc_clauses.specs.Clauses.{Clause, negation}
use Rattle.sc_sorts.specs.declared.node.UnaryOp.TheVariants.{Bit}
use Rattle.sc_terms.proofs.OrderLaws.{tree_cmp_level, tree_eq-exact}
use Rattle.sc_terms.specs.Order.{tree_cmp, tree_eq}
use Rattle.sc_terms.specs.Trees.{Tree, one}
use Rattle.sc_terms.specs.Folds.{bit_term}
use Rattle.sc_term_definitions.specs.declared.function.Shape.{Shape}
use Rattle.sc_term_definitions.specs.declared.function.Shape.TheVariants.{Table, All, NotAll, Fixed, Free}
use Rattle.sc_term_definitions.specs.Definitions.{shape_of, inputs_of}
use Rattle.sc_term_definitions.specs.Functions.{rows}
use Rattle.sc_footprint.specs.Atoms.{is_atom}
use Rattle.sc_footprint.proofs.NumberingLaws.{Has-filter}
use Rattle.sc_footprint.proofs.OverLaws.{no_more}
use Rattle.sc_footprint.proofs.TruthLaws.{atom_is}
use Rattle.sc_footprint.specs.Definitions.{clauses_by, turned, definition_clauses, address_clauses, is_address, defining}
use Rattle.sc_footprint.specs.Problems.{Posed, IsPosed, closed_terms, atoms, goal_literal, literal_in}
use Rattle.sc_footprint.specs.Theories.{TermsHold}
use Rattle.th_defs.specs.DefinitionLaws.{IsTruth, IsAddress, unwritten_bit}
use Rattle.th_defs.specs.Items.{HasInputs}
use Rattle.th_defs.specs.Laws.{before, defining_is, has_laws}
use Rattle.th_defs.proofs.InputLaws.{has_inputs}
use Rattle.th_defs.proofs.LoopLaws.{kept_fewer}
use Rattle.th_defs.proofs.PlaceLaws.{row_count_is, turned_long, conjunction_count}
use Rattle.th_defs.proofs.ReadLaws.{address_count}

-- ---- of each atom and of each address

joined_step : (m n a b : ℕ) → a ≤ m → b ≤ m * n → a + b ≤ m * suc n
joined_step m n a b h k = omega (arith, h, k)

joined_short : {X : Type 0} (m : ℕ) (f : X → List Clause) (xs : List X) → ((x : X) → length (f x) ≤ m) → length (flat_map f xs) ≤ m * length xs
joined_short m f [] h = omega arith
joined_short m f (x ∷ xs) h =
    subst (λ (n : ℕ). n ≤ m * suc (length xs)) (sym (length-append (f x) (flat_map f xs))) (joined_step m (length xs) (length (f x)) (length (flat_map f xs)) (h x) (joined_short m f xs h))

few_rows : (n : ℕ) → n ≤ 3 → 2 ^ n ≤ 258
few_rows zero h = omega arith
few_rows (suc zero) h = omega arith
few_rows (suc (suc zero)) h = omega arith
few_rows (suc (suc (suc zero))) h = omega arith
few_rows (suc (suc (suc (suc n)))) h = absurd (omega (arith, h))

defined_by : (shape : Shape) (x : Lit) (ls : List Lit) → HasInputs shape (length ls) → length (clauses_by shape x ls) ≤ 258
defined_by (Table f t) x ls h =
    let many : length (clauses_by (Table f t) x ls) ≡ 2 ^ length ls = length-map (rows (length (turned t ls))) _ ∙ ap (λ (k : ℕ). length (rows k)) (turned_long t ls) ∙ row_count_is (length ls) in
    subst (λ (n : ℕ). n ≤ 258) (sym many) (few_rows (length ls) h.1)
defined_by All x ls h = let e = conjunction_count x ls in omega (arith, e, h)
defined_by NotAll x ls h = let e = conjunction_count (negation x) ls in omega (arith, e, h)
defined_by (Fixed b) x ls h = omega arith
defined_by Free x ls h = omega arith

defined_short : (lit : Tree → Lit) (x : Tree) → length (definition_clauses lit x) ≤ 258
defined_short lit x =
    let inputs : HasInputs (shape_of x) (length (map lit (inputs_of x))) = subst (HasInputs (shape_of x)) (sym (length-map (inputs_of x) lit)) (has_inputs x) in
    let a = kept_fewer (clauses_by (shape_of x) (lit x) (map lit (inputs_of x))) in
    let b = defined_by (shape_of x) (lit x) (map lit (inputs_of x)) inputs in
    omega (arith, a, b)

address_short : (lit : Tree → Lit) (t : Tree) → length (address_clauses lit t) ≤ 319
address_short lit t = let e = address_count (λ i. lit (bit_term t i)) in omega (arith, e)

-- ---- the first bit of an address is an atom, so there are no more addresses than atoms

abbrev first_bit : Tree → Tree
first_bit t = one (Bit 0) t

abbrev under : Tree → Tree
under (one o t) = t
under t = t

bits_apart : (x y : Tree) → tree_cmp x y ≡ Less → tree_eq (first_bit x) (first_bit y) ≡ false
bits_apart x y h = by (tree_eq (first_bit x) (first_bit y)) refl
  where
    by : (b : Bool) → tree_eq (first_bit x) (first_bit y) ≡ b → b ≡ false
    by true e =
        let same : x ≡ y = ap under (tree_eq-exact (first_bit x) (first_bit y) e) in
        absurd (let never : Equal ≡ Less = sym ((tree_cmp_level x y).1 same) ∙ h in cc)
    by false e = refl

none_alike : (x : Tree) (ts : List Tree) → AllByRecursion (λ y. tree_cmp x y ≡ Less) ts → AllByRecursion (λ y. tree_eq (first_bit x) y ≡ false) (map first_bit ts)
none_alike x [] h = tt
none_alike x (t ∷ ts) h = (bits_apart x t h.0, none_alike x ts h.1)

bits_once : (ts : List Tree) → IsStrictlySortedBy tree_cmp ts → IsDistinct tree_eq (map first_bit ts)
unfolding IsStrictlySortedBy IsDistinct
bits_once [] h = tt
bits_once (t ∷ ts) h = (none_alike t ts h.0, bits_once ts h.1)

module _ (terms : TermsHold) (p : Posed) (posed : IsPosed p) where
  abbrev addresses : List Tree
  addresses = filter is_address (closed_terms p)

  bit_atom : (t : Tree) → Has addresses t → Has (atoms p) (first_bit t)
  bit_atom t h =
      let is : IsAddress p t = all_element (IsAddress p) addresses t (has_laws terms p posed).addresses (Contains-from_Has addresses t h) in
      let truth : IsTruth p (first_bit t) = subst (IsTruth p) (unwritten_bit t 0 is.unwritten) (is.bits 0 (omega arith)) in
      Has-filter is_atom (closed_terms p) (first_bit t) (Has-from_Contains (closed_terms p) (first_bit t) truth.closed) (atom_is (first_bit t) truth.bool refl)

  few_addresses : length addresses ≤ length (atoms p)
  few_addresses =
      let once = bits_once addresses (IsStrictlySortedBy-filter tree_cmp is_address (closed_terms p) posed.are_closed.ordered) in
      let there = λ (t : Tree) (h : Has (map first_bit addresses) t). let a = map-Has first_bit addresses t h in subst (Has (atoms p)) a.2 (bit_atom a.0 a.1) in
      let fewer = no_more (map first_bit addresses) (atoms p) once there in
      omega (arith, fewer, length-map addresses first_bit)

  few_before : length (before p) < 2 ^ 32 - 1
  few_before =
      let a = joined_short 258 (definition_clauses (literal_in p)) (atoms p) (defined_short (literal_in p)) in
      let b = joined_short 319 (address_clauses (literal_in p)) addresses (address_short (literal_in p)) in
      let both = length-append (flat_map (definition_clauses (literal_in p)) (atoms p)) (flat_map (address_clauses (literal_in p)) addresses) in
      let c = few_addresses in
      let d = posed.few in
      omega (arith, a, b, both, c, d)

  pub few_clauses : length (before p) < 2 ^ 64
  few_clauses = let h = few_before in omega (arith, h)

  pub few_defining : length (defining p) < 2 ^ 32
  few_defining =
      let h = few_before in
      let all = ap length (defining_is p) ∙ length-append (before p) ((goal_literal p ∷ []) ∷ []) in
      omega (arith, h, all)
