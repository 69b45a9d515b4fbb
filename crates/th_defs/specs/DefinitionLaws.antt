-- Laws of the clauses that define a problem, given what the literals of its closed truth values say.
use Rattle.std.proofs.Common.{◌≡◌, ◌≢◌, ◌&&◌, ◌<◌, ◌≤◌, ◌+◌, ℕ, zero, suc, List, [], ◌∷◌, map, filter, length, Bool, true, false, not, ◌||◌, Option, Some, None, IsTrue, IfSome, refl, sym, ap, ◌∙◌, subst, arith}
use Rattle.std.specs.List.{All, AllByRecursion, Contains, flat_map}
use Rattle.std.proofs.lemmas.Bool.{and_parts, true≢false}
use Rattle.std.proofs.lemmas.List.Elements.{All-contains_itself, recursion_from_All, All-weaker}
use Rattle.sc_lists.proofs.ListLaws.{all_append, contains_first, contains_rest}
use Rattle.sc_laws.proofs.OptionLaws.{same_some}
use Rattle.sc_bits.specs.Blocks.{AreBlockBits}
use Rattle.sc_world.specs.declared.world.World.{World}
use Rattle.sc_clauses.proofs.LitLaws.{holds_negation}
use Rattle.sc_clauses.specs.declared.lit.Lit.{Lit}
use Rattle.sc_clauses.specs.Clauses.{Clause, negation, holds, clause_holds}
use Rattle.sc_sorts.specs.declared.sort.Sort.{out-Sort}
use Rattle.sc_sorts.specs.declared.node.Literal.{Literal}
use Rattle.sc_sorts.specs.declared.node.UnaryOp.TheVariants.{Bit}
use Rattle.sc_terms.specs.Trees.{Tree, one}
use Rattle.sc_terms.specs.TreeSorts.{tree_sort}
use Rattle.sc_terms.specs.Folds.{bit_term, bit_by, literal_of}
use Rattle.sc_term_definitions.specs.Definitions.{counted, shape_of, inputs_of}
use Rattle.sc_term_definitions.specs.Truths.{is_true, truths_of, defined, IsAsDefined}
use Rattle.sc_footprint.specs.Atoms.{is_atom, is_bool, is_opposite}
use Rattle.sc_footprint.specs.Problems.{Posed, closed_terms, atoms, atom_number, numbered, literal, literal_in}
use Rattle.sc_footprint.specs.Definitions.{clauses_by, definition_clauses, mask_clause, short_clauses, address_clauses, is_address, is_address_in, is_other}
use Rattle.sc_footprint.specs.Theories.{IsListed}
use Rattle.sc_footprint.specs.Truths.{truths}
use Rattle.th_defs.specs.ClauseLaws.{filtered, kept_true, clauses_true, AreTrue, IsAs, IsLawful, AreListed, kept_lawful, clauses_listed, pair_lawful}

-- a closed term that is a truth value
pub record IsTruth (p : Posed) (t : Tree) : Type 0 where
  pub closed : Contains (closed_terms p) t
  pub bool : is_bool t ≡ true

-- a closed address that isn't written, each of whose bits is a closed truth value
pub record IsAddress (p : Posed) (t : Tree) : Type 0 where
  pub closed : Contains (closed_terms p) t
  pub unwritten : is_address t ≡ true
  pub bits : (i : ℕ) → i < 257 → IsTruth p (bit_term t i)

-- ---- lists of clauses

pub all_flat : {X Y : Type 0} (P : Y → Type 0) (f : X → List Y) (xs : List X)
    → AllByRecursion (λ x. AllByRecursion P (f x)) xs → AllByRecursion P (flat_map f xs)
all_flat P f [] h = tt
all_flat P f (x ∷ xs) h = all_append P (f x) (flat_map f xs) h.0 (all_flat P f xs h.1)

-- each listed atom is a closed truth value
pub atoms_are : (p : Posed) → AllByRecursion (IsTruth p) (atoms p)
atoms_are p =
    let closed : All (Contains (closed_terms p)) (closed_terms p) = All-contains_itself (closed_terms p) in
    let each = λ (t : Tree) (h : Contains (closed_terms p) t) (e : is_atom t ≡ true). let truth : IsTruth p t =
    record { closed = h; bool = (and_parts (is_bool t) (not (is_opposite t)) e).0 } in truth in
    filtered is_atom (IsTruth p) (closed_terms p)
    (recursion_from_All (λ t. is_atom t ≡ true → IsTruth p t) (closed_terms p)
    (All-weaker (Contains (closed_terms p)) (λ t. is_atom t ≡ true → IsTruth p t) each (closed_terms p) closed))

-- a fact of the clauses of each atom and of each address is one of all clauses but the goal's
module _ (p : Posed) (P : Clause → Type 0)
    (defines : (t : Tree) → IsTruth p t → AllByRecursion P (definition_clauses (literal_in p) t))
    (addresses : AllByRecursion (IsAddress p) (filter is_address (closed_terms p)))
    (of_address : (t : Tree) → IsAddress p t → AllByRecursion P (address_clauses (literal_in p) t)) where
  each_atom : (ts : List Tree) → AllByRecursion (IsTruth p) ts
      → AllByRecursion (λ t. AllByRecursion P (definition_clauses (literal_in p) t)) ts
  each_atom [] h = tt
  each_atom (t ∷ ts) h = (defines t h.0, each_atom ts h.1)

  each_address : (ts : List Tree) → AllByRecursion (IsAddress p) ts
      → AllByRecursion (λ t. AllByRecursion P (address_clauses (literal_in p) t)) ts
  each_address [] h = tt
  each_address (t ∷ ts) h = (of_address t h.0, each_address ts h.1)

  pub of_all : AllByRecursion P (flat_map (definition_clauses (literal_in p)) (atoms p))
      × AllByRecursion P (flat_map (address_clauses (literal_in p)) (filter is_address (closed_terms p)))
  of_all = (
    all_flat P (definition_clauses (literal_in p)) (atoms p) (each_atom (atoms p) (atoms_are p)),
    all_flat P (address_clauses (literal_in p)) (filter is_address (closed_terms p))
        (each_address (filter is_address (closed_terms p)) addresses),
  )

-- ---- bits of addresses

-- of a term that isn't written each bit is a term of its own
pub unwritten_bit : (t : Tree) (i : ℕ) → is_address t ≡ true → bit_term t i ≡ one (Bit i) t
unfolding bit_term
unwritten_bit t i h = by (literal_of t)
    (and_parts (is_address_in (out-Sort (tree_sort t))) (is_other (literal_of t)) h).1
  where
    by : (o : Option Literal) → is_other o ≡ true → bit_by o t i ≡ one (Bit i) t
    by None k = refl
    by (Some l) k = absurd (true≢false (sym k))

abbrev bit_place : Tree → ℕ
bit_place (one (Bit i) t) = i
bit_place _ = 0

-- numbers that are counted are from the first on and below the end
pub counted_below : (from n m : ℕ) (P : ℕ → Type 0) → ((i : ℕ) → from ≤ i → i < m → P i) → from + n ≤ m
    → AllByRecursion P (counted from n)
unfolding counted
counted_below from zero m P h e = tt
counted_below from (suc n) m P h e = (
  h from (omega arith) (omega (arith, e)),
  counted_below (suc from) n m P (λ i k l. h i (omega (arith, k)) l)
      (omega (arith, e)),
)

pub map_all : {X Y : Type 0} (P : Y → Type 0) (f : X → Y) (xs : List X) → AllByRecursion (λ x. P (f x)) xs
    → AllByRecursion P (map f xs)
map_all P f [] h = tt
map_all P f (x ∷ xs) h = (h.0, map_all P f xs h.1)

-- ---- form

module _ (p : Posed) (listed : (t : Tree) → IsTruth p t → IsListed (length (atoms p)) (literal_in p t))
    (inputs : (x t : Tree) → IsTruth p x → Contains (inputs_of x) t → IsTruth p t) where
  inputs_listed : (ts : List Tree) → ((t : Tree) → Contains ts t → IsTruth p t)
      → AreListed (length (atoms p)) (map (literal_in p) ts)
  inputs_listed [] h = tt
  inputs_listed (t ∷ ts) h = (
    listed t (h t (contains_first t ts)),
    inputs_listed ts
        (λ u k. h u (contains_rest t ts u k)),
  )

  pub lawful_definition : (x : Tree) → IsTruth p x
      → AllByRecursion (IsLawful (length (atoms p))) (definition_clauses (literal_in p) x)
  lawful_definition x is =
      kept_lawful (length (atoms p)) (clauses_by (shape_of x) (literal_in p x) (map (literal_in p) (inputs_of x)))
      (clauses_listed (length (atoms p)) (shape_of x) (literal_in p x) (map (literal_in p) (inputs_of x))
      (listed x is) (inputs_listed (inputs_of x) (λ t h. inputs x t is h)))

  -- two bits of an address that isn't written are two atoms, so no clause of it holds a literal with its negation
  module _ (back : (t : Tree) → IsTruth p t → is_atom t ≡ true → numbered (atoms p) (atom_number p t) ≡ Some t)
      (t : Tree) (is : IsAddress p t) where
    bit_is : (i : ℕ) → bit_term t i ≡ one (Bit i) t
    bit_is i = unwritten_bit t i is.unwritten

    bit_truth : (i : ℕ) → i < 257 → IsTruth p (one (Bit i) t)
    bit_truth i h = subst (IsTruth p) (bit_is i) (is.bits i h)

    bit_back : (i : ℕ) → i < 257 → numbered (atoms p) (atom_number p (one (Bit i) t)) ≡ Some (one (Bit i) t)
    bit_back i h = back (one (Bit i) t) (bit_truth i h) (ap (λ (b : Bool). b && true) (bit_truth i h).bool)

    bit_atom : (i : ℕ) → (literal_in p (bit_term t i)).atom ≡ atom_number p (one (Bit i) t)
    unfolding literal
    bit_atom i = ap (λ (u : Tree). (literal (atom_number p) u).atom) (bit_is i)

    pub bits_apart : (i j : ℕ) → i < 257 → j < 257 → i ≢ j
        → (literal_in p (bit_term t i)).atom ≢ (literal_in p (bit_term t j)).atom
    bits_apart i j h k apart e =
        let numbers : atom_number p (one (Bit i) t) ≡ atom_number p (one (Bit j) t) =
        sym (bit_atom i) ∙ e ∙ bit_atom j in
        let terms : Some (one (Bit i) t) ≡ Some (one (Bit j) t) = sym (bit_back i h) ∙ ap (numbered (atoms p)) numbers
        ∙ bit_back j k in
        apart (ap bit_place (same_some terms))

    bit_listed : (i : ℕ) → i < 257 → IsListed (length (atoms p)) (literal_in p (bit_term t i))
    bit_listed i h = listed (bit_term t i) (is.bits i h)

    mask_lawful : (j : ℕ) → j < 127 → IsLawful (length (atoms p)) (mask_clause (λ i. literal_in p (bit_term t i)) j)
    mask_lawful j h =
        pair_lawful (length (atoms p)) (negation (literal_in p (bit_term t (2 + j))))
        (literal_in p (bit_term t (1 + j))) (bit_listed (2 + j) (omega (arith, h)))
        (bit_listed (1 + j) (omega (arith, h)))
        (bits_apart (2 + j) (1 + j) (omega (arith, h)) (omega (arith, h)) (λ e. omega (arith, e)))

    short_lawful : (j : ℕ) → 32 ≤ j → j < 128
        → AllByRecursion (IsLawful (length (atoms p))) (short_clauses (λ i. literal_in p (bit_term t i)) j)
    short_lawful j l h = (
      pair_lawful (length (atoms p)) (literal_in p (bit_term t 0)) (negation (literal_in p (bit_term t (1 + j))))
          (bit_listed 0 (omega arith)) (bit_listed (1 + j) (omega (arith, h)))
          (bits_apart 0 (1 + j) (omega arith) (omega (arith, h)) (λ e. omega (arith, e))),
      (
        pair_lawful (length (atoms p)) (literal_in p (bit_term t 0)) (negation (literal_in p (bit_term t (129 + j))))
            (bit_listed 0 (omega arith)) (bit_listed (129 + j) (omega (arith, h)))
            (bits_apart 0 (129 + j) (omega arith) (omega (arith, h)) (λ e. omega (arith, e))),
        tt,
      ),
    )

    pub lawful_address : AllByRecursion (IsLawful (length (atoms p))) (address_clauses (literal_in p) t)
    lawful_address =
        all_append (IsLawful (length (atoms p)))
        (map (mask_clause (λ i. literal_in p (bit_term t i))) (counted 0 127))
        (flat_map (short_clauses (λ i. literal_in p (bit_term t i))) (counted 32 96))
        (map_all (IsLawful (length (atoms p))) (mask_clause (λ i. literal_in p (bit_term t i))) (counted 0 127)
        (counted_below 0 127 127 (λ j. IsLawful (length (atoms p)) (mask_clause (λ i. literal_in p (bit_term t i)) j))
        (λ j k l. mask_lawful j l) (omega arith)))
        (all_flat (IsLawful (length (atoms p))) (short_clauses (λ i. literal_in p (bit_term t i))) (counted 32 96)
        (counted_below 32 96 128 (λ j. AllByRecursion (IsLawful (length (atoms p)))
        (short_clauses (λ i. literal_in p (bit_term t i)) j)) (λ j k l. short_lawful j k l) (omega arith)))

-- ---- truth

module _ (p : Posed) (w : World) (told : (t : Tree) → IsTruth p t → holds (truths p w) (literal_in p t) ≡ is_true t w)
    (inputs : (x t : Tree) → IsTruth p x → Contains (inputs_of x) t → IsTruth p t) where
  inputs_told : (ts : List Tree) → ((t : Tree) → Contains ts t → IsTruth p t)
      → map (holds (truths p w)) (map (literal_in p) ts) ≡ truths_of ts w
  inputs_told [] h = refl
  inputs_told (t ∷ ts) h =
      ap (λ (b : Bool). b ∷ map (holds (truths p w)) (map (literal_in p) ts)) (told t (h t (contains_first t ts)))
      ∙ ap (λ (us : List Bool). is_true t w ∷ us) (inputs_told ts (λ u k. h u (contains_rest t ts u k)))

  as_defined : (x : Tree) (o : Option Bool) → IsTruth p x → IfSome o (λ b. is_true x w ≡ b)
      → IsAs (truths p w) (literal_in p x) o
  as_defined x None is h = tt
  as_defined x (Some b) is h = told x is ∙ h

  pub true_definition : (x : Tree) → IsTruth p x → IsAsDefined x w
      → AreTrue (truths p w) (definition_clauses (literal_in p) x)
  true_definition x is h =
      let same = inputs_told (inputs_of x) (λ t k. inputs x t is k) in
      kept_true (truths p w) (clauses_by (shape_of x) (literal_in p x) (map (literal_in p) (inputs_of x)))
      (clauses_true (truths p w) (shape_of x) (literal_in p x) (map (literal_in p) (inputs_of x))
      (as_defined x (defined (shape_of x) (map (holds (truths p w)) (map (literal_in p) (inputs_of x)))) is
      (subst (λ (us : List Bool). IfSome (defined (shape_of x) us) (λ b. is_true x w ≡ b)) (sym same) h)))

  -- two literals of a clause, of which one is true
  either : (l m : Lit) (a b : Bool) → holds (truths p w) l ≡ a → holds (truths p w) m ≡ b → IsTrue (a || b)
      → clause_holds (truths p w) (l ∷ m ∷ []) ≡ true
  either l m true b e f h = ap (λ (c : Bool). c || (holds (truths p w) m || false)) e
  either l m false true e f h = rw (e, f) refl
  either l m false false e f h = absurd (true≢false (sym h))

  negated : (l : Lit) (b : Bool) → holds (truths p w) l ≡ b → holds (truths p w) (negation l) ≡ not b
  negated l b e = holds_negation (truths p w) l ∙ ap not e

  abbrev bit : Tree → ℕ → Bool
  bit t i = is_true (bit_term t i) w

  mask_true : (t : Tree) (is : IsAddress p t) → AreBlockBits (bit t) → (j : ℕ) → j < 127
      → clause_holds (truths p w) (mask_clause (λ i. literal_in p (bit_term t i)) j) ≡ true
  mask_true t is h j k =
      either (negation (literal_in p (bit_term t (2 + j)))) (literal_in p (bit_term t (1 + j))) (not (bit t (2 + j)))
      (bit t (1 + j))
      (negated (literal_in p (bit_term t (2 + j))) (bit t (2 + j))
      (told (bit_term t (2 + j)) (is.bits (2 + j) (omega (arith, k)))))
      (told (bit_term t (1 + j)) (is.bits (1 + j) (omega (arith, k)))) (h.mask j k)

  short_true : (t : Tree) (is : IsAddress p t) → AreBlockBits (bit t) → (j : ℕ) → 32 ≤ j → j < 128
      → AreTrue (truths p w) (short_clauses (λ i. literal_in p (bit_term t i)) j)
  short_true t is h j k l = (
    either (literal_in p (bit_term t 0)) (negation (literal_in p (bit_term t (1 + j)))) (bit t 0)
        (not (bit t (1 + j))) (told (bit_term t 0) (is.bits 0 (omega arith)))
        (negated (literal_in p (bit_term t (1 + j))) (bit t (1 + j))
        (told (bit_term t (1 + j)) (is.bits (1 + j) (omega (arith, l))))) (h.short_mask j k l),
    (
      either (literal_in p (bit_term t 0)) (negation (literal_in p (bit_term t (129 + j)))) (bit t 0)
          (not (bit t (129 + j))) (told (bit_term t 0) (is.bits 0 (omega arith)))
          (negated (literal_in p (bit_term t (129 + j))) (bit t (129 + j))
          (told (bit_term t (129 + j)) (is.bits (129 + j) (omega (arith, l))))) (h.short_address j k l),
      tt,
    ),
  )

  pub true_address : (t : Tree) → IsAddress p t → AreBlockBits (λ i. is_true (bit_term t i) w)
      → AreTrue (truths p w) (address_clauses (literal_in p) t)
  true_address t is h =
      all_append (λ c. clause_holds (truths p w) c ≡ true)
      (map (mask_clause (λ i. literal_in p (bit_term t i))) (counted 0 127))
      (flat_map (short_clauses (λ i. literal_in p (bit_term t i))) (counted 32 96))
      (map_all (λ c. clause_holds (truths p w) c ≡ true) (mask_clause (λ i. literal_in p (bit_term t i)))
      (counted 0 127)
      (counted_below 0 127 127 (λ j. clause_holds (truths p w) (mask_clause (λ i. literal_in p (bit_term t i)) j)
      ≡ true) (λ j k l. mask_true t is h j l) (omega arith)))
      (all_flat (λ c. clause_holds (truths p w) c ≡ true) (short_clauses (λ i. literal_in p (bit_term t i)))
      (counted 32 96)
      (counted_below 32 96 128 (λ j. AreTrue (truths p w) (short_clauses (λ i. literal_in p (bit_term t i)) j))
      (λ j k l. short_true t is h j k l) (omega arith)))
