-- The clauses of all items, one item after the other, are the defining clauses but the last.
use Rattle.std.proofs.Common.{◌≡◌, ◌≢◌, ◌<◌, ◌≤◌, ◌+◌, ◌-◌, ◌==◌, ℕ, zero, suc, Bool, true, false, not, cond, List, [], ◌∷◌, ◌++◌, map, flat_map, filter, length, slice_get, nat_lt, Option, Some, None, option_map, option_and_then, unwrap_or, Contains, refl, sym, ap, ◌∙◌, arith}
use Rattle.std.proofs.Common.{append-nil, append_assoc}
use Rattle.std.proofs.lemmas.Bool.{and_parts}
use Rattle.std.proofs.lemmas.Option.{slice_get_within}
use Rattle.std.specs.List.{AllByRecursion}
use Rattle.sc_lists.proofs.ListLaws.{all_append, all_element, contains_place, contains_map}
use Rattle.sc_lists.proofs.MemberLaws.{Has-from_Contains}
use Rattle.sc_laws.proofs.NumberLaws.{eqb_false, some_isnt_zero, nat_lt_true}
use Rattle.sc_laws.proofs.BoolLaws.{and_false}
use Rattle.sc_schema.specs.Declarations.{Declarations}
use Rattle.sc_clauses.specs.declared.lit.Lit.{Lit}
use Rattle.sc_clauses.specs.Clauses.{Clause, bool_eq, positive, negation}
use Rattle.sc_sorts.specs.declared.sort.Sort.{Sort, Sort-F, out-Sort}
use Rattle.sc_sorts.specs.declared.sort.Sort.TheOpen as s
use Rattle.sc_sorts.proofs.OutLaws.{out_Bool}
use Rattle.sc_sorts.specs.declared.node.Leaf.TheVariants as leafs
use Rattle.sc_sorts.specs.declared.node.Literal.TheVariants as literals
use Rattle.sc_sorts.specs.declared.node.UnaryOp.TheVariants as unary
use Rattle.sc_sorts.specs.declared.node.BinaryOp.TheVariants as binary
use Rattle.sc_terms.proofs.OrderLaws.{tree_cmp_level}
use Rattle.sc_terms.specs.Folds.{bit_term, literal_of}
use Rattle.sc_terms.specs.Tables.{tree}
use Rattle.sc_terms.specs.Trees.{Tree, leaf, one, two, choice, many}
use Rattle.sc_terms.specs.TreeSorts.{tree_sort}
use Rattle.sc_term_definitions.proofs.MakingLaws.{counted_next}
use Rattle.sc_term_definitions.specs.Definitions.{counted, definition, chosen_of, shape_of, inputs_of}
use Rattle.sc_footprint.specs.Closure.{inside, inside_by, bit_terms, choices, beside, parts, follow}
use Rattle.sc_footprint.proofs.NumberingLaws.{numbered_map, numbered_back}
use Rattle.sc_footprint.specs.Definitions.{is_tautology, kept, clauses_by, definition_clauses, mask_clause, short_clauses, address_by, address_clauses, is_address, is_address_in, is_other}
use Rattle.sc_footprint.specs.Problems.{Posed, IsPosed, closed_terms, atoms, literal_in, number_among, numbered, term_of}
use Rattle.sc_footprint.specs.Theories.{TermsHold}
use Rattle.th_defs.specs.declared.item.Item.TheVariants as item
use Rattle.th_defs.specs.DefinitionLaws.{IsTruth, IsAddress, all_flat, atoms_are, bits_apart, counted_below, map_all}
use Rattle.th_defs.specs.Items.{companion_or, kept_clauses, definition_of, if_atom, if_address, address_of, item_at, item_count}
use Rattle.th_defs.specs.Laws.{HasLaws, before, bit_closed, has_laws, ip_sort}
use Rattle.th_defs.proofs.ItemLaws.{inputs_read}
use Rattle.th_defs.proofs.ReadLaws.{not_less}

-- ---- lists by places

-- joined over the places of a list
joined_places : {X : Type 0} (f : ℕ → List Clause) (g : X → List Clause) (from : ℕ) (xs : List X) → ((i : ℕ) (x : X) → slice_get xs i ≡ Some x → f (from + i) ≡ g x) → flat_map f (counted from (length xs)) ≡ flat_map g xs
unfolding counted
joined_places f g from [] same = refl
joined_places {X} f g from (x ∷ xs) same =
    let here : from + 0 ≡ from = omega arith in
    let first : f from ≡ g x = ap f (sym here) ∙ same 0 x refl in
    let rest : flat_map f (counted (suc from) (length xs)) ≡ flat_map g xs =
    joined_places f g (suc from) xs (λ i y e. (let next : suc from + i ≡ from + suc i = omega arith in ap f next) ∙ same (suc i) y e) in
    ap (λ (l : List Clause). l ++ flat_map f (counted (suc from) (length xs))) first ∙ ap (λ (l : List Clause). g x ++ l) rest

pub counted_both : (from m n : ℕ) → counted from (m + n) ≡ counted from m ++ counted (from + m) n
unfolding counted
counted_both from zero n = let a : 0 + n ≡ n = omega arith in let b : from ≡ from + 0 = omega arith in ap (counted from) a ∙ ap (λ (k : ℕ). counted k n) b
counted_both from (suc m) n =
    let a : suc m + n ≡ suc (m + n) = omega arith in
    let b : suc from + m ≡ from + suc m = omega arith in
    ap (counted from) a ∙ ap (λ (l : List ℕ). from ∷ l) (counted_both (suc from) m n ∙ ap (λ (k : ℕ). counted (suc from) m ++ counted k n) b)

pub joined_append : (f : ℕ → List Clause) (ms ns : List ℕ) → flat_map f (ms ++ ns) ≡ flat_map f ms ++ flat_map f ns
joined_append f [] ns = refl
joined_append f (m ∷ ms) ns = ap (λ (l : List Clause). f m ++ l) (joined_append f ms ns) ∙ sym (append_assoc (f m) (flat_map f ms) (flat_map f ns))

joined_map : (g : Tree → List Clause) (f : ℕ → Tree) (ns : List ℕ) → flat_map g (map f ns) ≡ flat_map (λ n. g (f n)) ns
joined_map g f [] = refl
joined_map g f (n ∷ ns) = ap (λ (l : List Clause). g (f n) ++ l) (joined_map g f ns)

-- what passes a test, joined
joined_filter : (test : Tree → Bool) (g : Tree → List Clause) (ts : List Tree) → flat_map (λ t. cond (test t) (g t) []) ts ≡ flat_map g (filter test ts)
joined_filter test g [] = refl
joined_filter test g (t ∷ ts) = by (test t) (joined_filter test g ts)
  where
    by : (b : Bool) → flat_map (λ u. cond (test u) (g u) []) ts ≡ flat_map g (filter test ts) → cond b (g t) [] ++ flat_map (λ u. cond (test u) (g u) []) ts ≡ flat_map g (cond b (t ∷ filter test ts) (filter test ts))
    by true e = ap (λ (l : List Clause). g t ++ l) e
    by false e = e

-- ---- two literals of different atoms are no tautology

never_same : (b : Bool) → bool_eq (not b) b ≡ false
never_same true = refl
never_same false = refl

pub pair_plain : (l m : Lit) → l.atom ≢ m.atom → is_tautology (l ∷ m ∷ []) ≡ false
pair_plain l m apart =
    let a : (l.atom == m.atom) ≡ false = eqb_false l.atom m.atom apart in
    let b : (m.atom == l.atom) ≡ false = eqb_false m.atom l.atom (λ e. apart (sym e)) in
    let c = never_same l.negated in
    let d = never_same m.negated in
    let e = and_false (l.atom == l.atom) in
    let f = and_false (m.atom == m.atom) in
    rw (a, b, c, d, e, f) refl

-- ---- items

module _ (p : Posed) where
  -- the clauses of the items before a place
  abbrev pub upto : ℕ → List Clause
  upto k = flat_map (λ j. kept_clauses p (item_at p j)) (counted 0 k)

  pub upto_next : (k : ℕ) → upto (k + 1) ≡ upto k ++ kept_clauses p (item_at p k)
  upto_next k =
      let next : k + 1 ≡ suc k = omega arith in
      let place : 0 + k ≡ k = omega arith in
      ap upto next ∙ ap (flat_map (λ j. kept_clauses p (item_at p j))) (counted_next 0 k ∙ ap (λ (i : ℕ). counted 0 k ++ i ∷ []) place)
      ∙ joined_append (λ j. kept_clauses p (item_at p j)) (counted 0 k) (k ∷ []) ∙ ap (λ (l : List Clause). upto k ++ l) (append-nil (kept_clauses p (item_at p k)))

-- ---- addresses by their bits

same_places : {X : Type 0} (f g : ℕ → X) (from n : ℕ) → ((i : ℕ) → from ≤ i → i < from + n → f i ≡ g i) → map f (counted from n) ≡ map g (counted from n)
unfolding counted
same_places f g from zero same = refl
same_places {X} f g from (suc n) same =
    ap (λ (x : X). x ∷ map f (counted (suc from) n)) (same from (omega arith) (omega arith))
    ∙ ap (λ (l : List X). g from ∷ l) (same_places f g (suc from) n (λ i h k. same i (omega (arith, h)) (omega (arith, k))))

same_joined : (f g : ℕ → List Clause) (from n : ℕ) → ((i : ℕ) → from ≤ i → i < from + n → f i ≡ g i) → flat_map f (counted from n) ≡ flat_map g (counted from n)
unfolding counted
same_joined f g from zero same = refl
same_joined f g from (suc n) same =
    ap (λ (l : List Clause). l ++ flat_map f (counted (suc from) n)) (same from (omega arith) (omega arith))
    ∙ ap (λ (l : List Clause). g from ++ l) (same_joined f g (suc from) n (λ i h k. same i (omega (arith, h)) (omega (arith, k))))

address_same : (f g : ℕ → Lit) → ((i : ℕ) → i < 257 → f i ≡ g i) → address_by f ≡ address_by g
address_same f g same =
    ap (λ (l : List Clause). l ++ flat_map (short_clauses f) (counted 32 96))
    (same_places (mask_clause f) (mask_clause g) 0 127 (λ i h k. ap (λ (l : Lit). negation l ∷ f (1 + i) ∷ []) (same (2 + i) (omega (arith, k))) ∙ ap (λ (l : Lit). negation (g (2 + i)) ∷ l ∷ []) (same (1 + i) (omega (arith, k)))))
    ∙ ap (λ (l : List Clause). map (mask_clause g) (counted 0 127) ++ l)
    (same_joined (short_clauses f) (short_clauses g) 32 96 (λ i h k.
    ap (λ (l : Lit). (l ∷ negation (f (1 + i)) ∷ []) ∷ (l ∷ negation (f (129 + i)) ∷ []) ∷ []) (same 0 (omega arith))
    ∙ ap (λ (l : Lit). (g 0 ∷ negation l ∷ []) ∷ (g 0 ∷ negation (f (129 + i)) ∷ []) ∷ []) (same (1 + i) (omega (arith, k)))
    ∙ ap (λ (l : Lit). (g 0 ∷ negation (g (1 + i)) ∷ []) ∷ (g 0 ∷ negation l ∷ []) ∷ []) (same (129 + i) (omega (arith, k)))))

kept_all : (cs : List Clause) → AllByRecursion (λ c. is_tautology c ≡ false) cs → kept cs ≡ cs
kept_all [] h = refl
kept_all (c ∷ cs) h = ap (λ (b : Bool). cond (not b) (c ∷ kept cs) (kept cs)) h.0 ∙ ap (λ (l : List Clause). c ∷ l) (kept_all cs h.1)

-- what is no truth value has no definition
no_inputs : (t : Tree) → out-Sort (tree_sort t) ≡ s.Ip → inputs_of t ≡ []
unfolding definition tree_sort
no_inputs (leaf (leafs.Literal (literals.Bool true))) h = absurd (let e = sym out_Bool ∙ h in cc)
no_inputs (leaf _) h = refl
no_inputs (one (unary.Bit i) a) h = absurd (let e = sym out_Bool ∙ h in cc)
no_inputs (one (unary.CarryIn i) a) h = absurd (let e = sym out_Bool ∙ h in cc)
no_inputs (one (unary.ProductRow i j) a) h = absurd (let e = sym out_Bool ∙ h in cc)
no_inputs (one (unary.ProductCarry i j) a) h = absurd (let e = sym out_Bool ∙ h in cc)
no_inputs (one _ a) h = refl
no_inputs (two binary.And a b) h = absurd (let e = sym out_Bool ∙ h in cc)
no_inputs (two binary.Or a b) h = absurd (let e = sym out_Bool ∙ h in cc)
no_inputs (two binary.Equal a b) h = absurd (let e = sym out_Bool ∙ h in cc)
no_inputs (two binary.AddOverflows a b) h = absurd (let e = sym out_Bool ∙ h in cc)
no_inputs (two binary.SubtractOverflows a b) h = absurd (let e = sym out_Bool ∙ h in cc)
no_inputs (two binary.MultiplyOverflows a b) h = absurd (let e = sym out_Bool ∙ h in cc)
no_inputs (two binary.Less a b) h = absurd (let e = sym out_Bool ∙ h in cc)
no_inputs (two binary.InRange a b) h = absurd (let e = sym out_Bool ∙ h in cc)
no_inputs (two (binary.Low i) a b) h = absurd (let e = sym out_Bool ∙ h in cc)
no_inputs (two _ a b) h = refl
no_inputs (choice c a b) h = ap (λ (k : Sort-F Sort). (chosen_of k c a b).inputs) h
no_inputs (many o ts) h = refl

front : (ts us : List Tree) (i : ℕ) (t : Tree) → slice_get ts i ≡ Some t → slice_get (ts ++ us) i ≡ Some t
front [] us i t h = absurd cc
front (x ∷ ts) us zero t h = h
front (x ∷ ts) us (suc i) t h = front ts us i t h

counted_read : (f : ℕ → Tree) (from n i : ℕ) → i < n → slice_get (map f (counted from n)) i ≡ Some (f (from + i))
unfolding counted
counted_read f from zero i h = absurd (omega (arith, h))
counted_read f from (suc n) zero h = let e : from ≡ from + 0 = omega arith in ap (λ (k : ℕ). Some (f k)) e
counted_read f from (suc n) (suc i) h = let e : suc from + i ≡ from + suc i = omega arith in counted_read f (suc from) n i (omega (arith, h)) ∙ ap (λ (k : ℕ). Some (f k)) e

module _ (d : Declarations) (t : Tree) (ip : out-Sort (tree_sort t) ≡ s.Ip) where
  bit_follows : (i : ℕ) → i < 257 → slice_get (follow d t) i ≡ Some (bit_term t i)
  unfolding follow
  bit_follows i h =
      let e : 0 + i ≡ i = omega arith in
      ap (λ (ts : List Tree). slice_get (ts ++ (inside t ++ (choices t ++ (beside d t ++ parts t)))) i) (no_inputs t ip)
      ∙ ap (λ (k : Sort-F Sort). slice_get (inside_by k t ++ (choices t ++ (beside d t ++ parts t))) i) ip
      ∙ front (bit_terms 257 t) (choices t ++ (beside d t ++ parts t)) i (bit_term t i) (counted_read (bit_term t) 0 257 i h ∙ ap (λ (k : ℕ). Some (bit_term t k)) e)

-- ---- all items

module _ (terms : TermsHold) (p : Posed) (posed : IsPosed p) where
  abbrev laws : HasLaws p
  laws = has_laws terms p posed

  abbrev lit : Tree → Lit
  lit = literal_in p

  -- the definition of an atom
  definition_item : (x : Tree) → Contains (closed_terms p) x → kept_clauses p (definition_of p x) ≡ definition_clauses lit x
  definition_item x h =
      let n : ℕ = number_among (closed_terms p) x in
      let is : term_of p n ≡ Some x = numbered_map (tree p.nodes) p.closed n ∙ numbered_back tree_cmp_level (closed_terms p) x (Has-from_Contains (closed_terms p) x h) in
      ap (λ (ls : List Lit). kept (clauses_by (shape_of x) (lit x) ls)) (inputs_read p n x is)

  first_items : flat_map (λ j. kept_clauses p (item_at p j)) (counted 0 (length (atoms p))) ≡ flat_map (definition_clauses lit) (atoms p)
  first_items = joined_places (λ j. kept_clauses p (item_at p j)) (definition_clauses lit) 0 (atoms p) (λ i x e. at i x e)
    where
      at : (i : ℕ) (x : Tree) → slice_get (atoms p) i ≡ Some x → kept_clauses p (item_at p (0 + i)) ≡ definition_clauses lit x
      at i x e =
          let zero_more : 0 + i ≡ i = omega arith in
          let below : nat_lt i (length (atoms p)) ≡ true = nat_lt_true i (length (atoms p)) (slice_get_within (atoms p) i x e) in
          let some : (i + 1 == 0) ≡ false = some_isnt_zero (i + 1) (omega arith) in
          let back : i + 1 - 1 ≡ i = omega arith in
          let number : numbered (atoms p) (i + 1) ≡ Some x = ap (λ (b : Bool). cond b None (slice_get (atoms p) (i + 1 - 1))) some ∙ ap (slice_get (atoms p)) back ∙ e in
          let is : item_at p (0 + i) ≡ definition_of p x =
          ap (item_at p) zero_more ∙ ap (λ (b : Bool). cond b (if_atom p (numbered (atoms p) (i + 1))) (address_of p (i - length (atoms p) + 1))) below ∙ ap (if_atom p) number in
          let closed : IsTruth p x = all_element (IsTruth p) (atoms p) x (atoms_are p) (contains_place (atoms p) i x e) in
          ap (kept_clauses p) is ∙ definition_item x closed.closed

  -- two bits of an address are two atoms
  all_plain : (t : Tree) → IsAddress p t → AllByRecursion (λ c. is_tautology c ≡ false) (address_clauses lit t)
  all_plain t is =
      all_append (λ c. is_tautology c ≡ false) (map (mask_clause (λ i. lit (bit_term t i))) (counted 0 127)) (flat_map (short_clauses (λ i. lit (bit_term t i))) (counted 32 96))
      (map_all (λ c. is_tautology c ≡ false) (mask_clause (λ i. lit (bit_term t i))) (counted 0 127)
      (counted_below 0 127 127 (λ j. is_tautology (mask_clause (λ i. lit (bit_term t i)) j) ≡ false) (λ j k l. mask_plain j l) (omega arith)))
      (all_flat (λ c. is_tautology c ≡ false) (short_clauses (λ i. lit (bit_term t i))) (counted 32 96)
      (counted_below 32 96 128 (λ j. AllByRecursion (λ c. is_tautology c ≡ false) (short_clauses (λ i. lit (bit_term t i)) j)) (λ j k l. short_plain j l) (omega arith)))
    where
      apart : (i j : ℕ) → i < 257 → j < 257 → i ≢ j → (lit (bit_term t i)).atom ≢ (lit (bit_term t j)).atom
      apart = bits_apart p laws.listed laws.inputs laws.back t is

      mask_plain : (j : ℕ) → j < 127 → is_tautology (mask_clause (λ i. lit (bit_term t i)) j) ≡ false
      mask_plain j l = pair_plain (negation (lit (bit_term t (2 + j)))) (lit (bit_term t (1 + j))) (apart (2 + j) (1 + j) (omega (arith, l)) (omega (arith, l)) (λ e. omega (arith, e)))

      short_plain : (j : ℕ) → j < 128 → AllByRecursion (λ c. is_tautology c ≡ false) (short_clauses (λ i. lit (bit_term t i)) j)
      short_plain j l = (
        pair_plain (lit (bit_term t 0)) (negation (lit (bit_term t (1 + j)))) (apart 0 (1 + j) (omega arith) (omega (arith, l)) (λ e. omega (arith, e))),
        (pair_plain (lit (bit_term t 0)) (negation (lit (bit_term t (129 + j)))) (apart 0 (129 + j) (omega arith) (omega (arith, l)) (λ e. omega (arith, e))), tt),
      )

  -- an address, by its number
  address_item : (n : ℕ) (t : Tree) → term_of p n ≡ Some t → IsAddress p t → kept_clauses p (item.Address n) ≡ address_clauses lit t
  address_item n t is address =
      let ip : out-Sort (tree_sort t) ≡ s.Ip = ip_sort (out-Sort (tree_sort t)) (and_parts (is_address_in (out-Sort (tree_sort t))) (is_other (literal_of t)) address.unwritten).0 in
      let read = λ (i : ℕ) (h : i < 257). let r : companion_or p n i ≡ lit (bit_term t i) =
      ap (λ (o : Option Tree). unwrap_or (option_map lit (option_and_then (λ (x : Tree). slice_get (follow p.schema x) i) o)) (positive 1)) is
      ∙ ap (λ (o : Option Tree). unwrap_or (option_map lit o) (positive 1)) (bit_follows p.schema t ip i h) in r in
      ap kept (address_same (companion_or p n) (λ i. lit (bit_term t i)) read) ∙ kept_all (address_clauses lit t) (all_plain t address)

  -- the closed terms, of which addresses have clauses
  abbrev of_term : Tree → List Clause
  of_term t = cond (is_address t) (address_clauses lit t) []

  term_item : (i m : ℕ) → slice_get p.closed i ≡ Some m → kept_clauses p (item_at p (length (atoms p) + i)) ≡ of_term (tree p.nodes m)
  term_item i m e = ap (kept_clauses p) is ∙ by (is_address (tree p.nodes m)) refl
    where
      past : nat_lt (length (atoms p) + i) (length (atoms p)) ≡ false
      past = not_less (length (atoms p) + i) (length (atoms p)) (omega arith)

      place : length (atoms p) + i - length (atoms p) + 1 ≡ i + 1
      place = omega arith

      some : (i + 1 == 0) ≡ false
      some = some_isnt_zero (i + 1) (omega arith)

      back : i + 1 - 1 ≡ i
      back = omega arith

      term : term_of p (i + 1) ≡ Some (tree p.nodes m)
      term = ap (λ (b : Bool). option_map (tree p.nodes) (cond b None (slice_get p.closed (i + 1 - 1)))) some ∙ ap (λ (k : ℕ). option_map (tree p.nodes) (slice_get p.closed k)) back ∙ ap (option_map (tree p.nodes)) e

      is : item_at p (length (atoms p) + i) ≡ if_address (i + 1) (Some (tree p.nodes m))
      is =
          ap (λ (b : Bool). cond b (if_atom p (numbered (atoms p) (length (atoms p) + i + 1))) (address_of p (length (atoms p) + i - length (atoms p) + 1))) past
          ∙ ap (address_of p) place ∙ ap (if_address (i + 1)) term

      there : Contains (closed_terms p) (tree p.nodes m)
      there = contains_map (tree p.nodes) p.closed m (contains_place p.closed i m e)

      by : (b : Bool) → is_address (tree p.nodes m) ≡ b → kept_clauses p (cond b (item.Address (i + 1)) item.Nothing) ≡ cond b (address_clauses lit (tree p.nodes m)) []
      by true u = address_item (i + 1) (tree p.nodes m) term (record { closed = there; unwritten = u; bits = bit_closed terms p posed (tree p.nodes m) there u })
      by false u = refl

  last_items : flat_map (λ j. kept_clauses p (item_at p j)) (counted (length (atoms p)) (length p.closed)) ≡ flat_map (address_clauses lit) (filter is_address (closed_terms p))
  last_items =
      joined_places (λ j. kept_clauses p (item_at p j)) (λ m. of_term (tree p.nodes m)) (length (atoms p)) p.closed term_item
      ∙ sym (joined_map of_term (tree p.nodes) p.closed) ∙ joined_filter is_address (address_clauses lit) (closed_terms p)

  pub all_items : upto p (item_count p) ≡ before p
  all_items =
      let zero_more : 0 + length (atoms p) ≡ length (atoms p) = omega arith in
      ap (flat_map (λ j. kept_clauses p (item_at p j))) (counted_both 0 (length (atoms p)) (length p.closed) ∙ ap (λ (k : ℕ). counted 0 (length (atoms p)) ++ counted k (length p.closed)) zero_more)
      ∙ joined_append (λ j. kept_clauses p (item_at p j)) (counted 0 (length (atoms p))) (counted (length (atoms p)) (length p.closed))
      ∙ ap (λ (l : List Clause). l ++ flat_map (λ j. kept_clauses p (item_at p j)) (counted (length (atoms p)) (length p.closed))) first_items
      ∙ ap (λ (l : List Clause). flat_map (definition_clauses lit) (atoms p) ++ l) last_items
