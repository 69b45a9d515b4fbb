-- The laws of the theory of defining clauses, by what is proved of all terms.
use Rattle.std.proofs.Common.{◌≡◌, ◌+◌, ◌-◌, ◌<◌, ℕ, zero, suc, inl, inr, List, [], ◌∷◌, ◌++◌, filter, length, Some, true, false, refl, sym, ap, subst, ◌∙◌, arith, length-append}
use Rattle.std.specs.Prelude.{nat_lt}
use Rattle.std.specs.List.{All, AllByRecursion, Contains, flat_map, slice_index_or}
use Rattle.std.specs.Str.{bytes_eq}
use Rattle.std.proofs.lemmas.Bool.{and_parts, ltb-true, true≢false}
use Rattle.std.proofs.lemmas.List.{get_or_append_left}
use Rattle.std.proofs.lemmas.List.Elements.{All-append, All-contains, All-contains_itself, All-cons, All-nil, All-from_recursion, recursion_from_All}
use Rattle.sc_lists.proofs.ListLaws.{all_append}
use Rattle.sc_lists.proofs.MemberLaws.{Has-left, Has-right, Has-map}
use Rattle.sc_lists.specs.Members.{Has}
use Rattle.sc_schema.specs.Declarations.{Declarations}
use Rattle.sc_bits.specs.Blocks.{AreBlockBits}
use Rattle.sc_world.specs.declared.world.World.{World}
use Rattle.sc_clauses.specs.declared.step.Instance.{Instance}
use Rattle.sc_clauses.specs.Clauses.{Clause, holds}
use Rattle.sc_sorts.specs.declared.sort.Sort.{Sort, Sort-F, out-Sort, roll-Sort, roll-out-Sort}
use Rattle.sc_sorts.specs.declared.sort.Sort.TheVariants as sort
use Rattle.sc_sorts.specs.declared.sort.Sort.TheVariants.{rolls-Ip}
use Rattle.sc_sorts.specs.declared.sort.Sort.TheOpen as s
use Rattle.sc_sorts.proofs.OutLaws.{out_Bool}
use Rattle.sc_sorts.specs.declared.node.UnaryOp.TheVariants.{Bit}
use Rattle.sc_terms.proofs.OrderLaws.{tree_cmp_total, tree_cmp_level}
use Rattle.sc_terms.specs.Trees.{Tree, one}
use Rattle.sc_terms.specs.TreeSorts.{tree_sort}
use Rattle.sc_terms.specs.Folds.{bit_term, literal_of}
use Rattle.sc_term_definitions.specs.Definitions.{counted, inputs_of}
use Rattle.sc_term_definitions.specs.Truths.{is_true, IsAsDefined}
use Rattle.sc_footprint.specs.Atoms.{is_atom, is_bool, is_bool_in}
use Rattle.sc_footprint.specs.Closure.{inside, inside_by, bit_terms, choices, beside, parts, follow}
use Rattle.sc_footprint.specs.Problems.{Posed, IsPosed, closed_terms, atoms, atom_number, numbered, literal_in, goal_term, goal_literal}
use Rattle.sc_footprint.specs.Definitions.{definition_clauses, address_clauses, is_address, is_address_in, is_other, defining}
use Rattle.sc_footprint.specs.Theories.{IsListed, IsClauseOf, TermsHold}
use Rattle.sc_footprint.proofs.ProblemLaws.{goal_told, input_told, literal_listed, literal_told, as_defined, bits_told}
use Rattle.sc_footprint.proofs.TruthLaws.{atom_back, follow_closed}
use Rattle.sc_footprint.specs.Truths.{truths, IsWorldOf, IsTrueIn, Satisfies}
use Rattle.sc_footprint.specs.Written.{is_instance}
use Rattle.th_defs.specs.Instances.{number_in, is_before_last, is_definition, definition_clause}
use Rattle.th_defs.specs.ClauseLaws.{filtered, IsLawful, unit_true, unit_lawful}
use Rattle.th_defs.specs.DefinitionLaws.{IsTruth, IsAddress, of_all, unwritten_bit, lawful_definition, lawful_address, true_definition, true_address}

-- What holds of closed terms of a problem: clauses of `problem_laws` and `definition_laws`, at one problem.
pub record HasLaws (p : Posed) : Type 0 where
  pub listed : (t : Tree) → IsTruth p t → IsListed (length (atoms p)) (literal_in p t)
  pub inputs : (x t : Tree) → IsTruth p x → Contains (inputs_of x) t → IsTruth p t
  pub goal : IsTruth p (goal_term p)
  pub addresses : AllByRecursion (IsAddress p) (filter is_address (closed_terms p))
  pub back : (t : Tree) → IsTruth p t → is_atom t ≡ true → numbered (atoms p) (atom_number p t) ≡ Some t
  pub told : (w : World) (t : Tree) → IsWorldOf p w → IsTruth p t → holds (truths p w) (literal_in p t) ≡ is_true t w
  pub defined : (w : World) (t : Tree) → IsWorldOf p w → IsTruth p t → IsAsDefined t w
  pub block : (w : World) (t : Tree) → IsWorldOf p w → IsAddress p t → AreBlockBits (λ i. is_true (bit_term t i) w)

-- all clauses but the last
abbrev pub before : Posed → List Clause
before p = flat_map (definition_clauses (literal_in p)) (atoms p)
    ++ flat_map (address_clauses (literal_in p)) (filter is_address (closed_terms p))

-- ---- instances

-- what holds of all but the last holds of the one of each number before the last
pub at_before : (P : Clause → Type 0) (before : List Clause) (c : Clause) (n : ℕ) → All P before
    → is_before_last (before ++ c ∷ []) n ≡ true → P (slice_index_or (before ++ c ∷ []) (n - 1) [])
at_before P before c n h e =
    let tests = and_parts (nat_lt 0 n) (nat_lt n (length (before ++ c ∷ []))) e in
    let positive : 0 < n = ltb-true 0 n tests.0 in
    let below : n < length (before ++ c ∷ []) = ltb-true n (length (before ++ c ∷ [])) tests.1 in
    let long = length-append before (c ∷ []) in
    let lt : n - 1 < length before = omega arith in
    subst P (sym (get_or_append_left before (c ∷ []) [] (n - 1) lt)) (h (n - 1) [] lt)

append_twice : (xs ys zs : List Clause) → xs ++ (ys ++ zs) ≡ (xs ++ ys) ++ zs
append_twice [] ys zs = refl
append_twice (x ∷ xs) ys zs = ap (λ (l : List Clause). x ∷ l) (append_twice xs ys zs)

pub defining_is : (p : Posed) → defining p ≡ before p ++ (goal_literal p ∷ []) ∷ []
defining_is p = append_twice (flat_map (definition_clauses (literal_in p)) (atoms p))
    (flat_map (address_clauses (literal_in p)) (filter is_address (closed_terms p))) ((goal_literal p ∷ []) ∷ [])

of_instance : (p : Posed) (i : Instance) (P : Clause → Type 0) → is_definition p i ≡ true → All P (before p)
    → P (definition_clause p i)
of_instance p i P e h =
    let number = (and_parts (bytes_eq i.rule []) (is_before_last (defining p) (number_in i.words)) e).1 in
    let there : is_before_last (before p ++ (goal_literal p ∷ []) ∷ []) (number_in i.words) ≡ true =
    ap (λ (cs : List Clause). is_before_last cs (number_in i.words)) (sym (defining_is p)) ∙ number in
    subst (λ (cs : List Clause). P (slice_index_or cs (number_in i.words - 1) [])) (sym (defining_is p))
    (at_before P (before p) (goal_literal p ∷ []) (number_in i.words) h there)

module _ (p : Posed) (laws : HasLaws p) where
  abbrev Lawful : Clause → Type 0
  Lawful = IsLawful (length (atoms p))

  before_lawful : All Lawful (before p)
  before_lawful =
      let both = of_all p Lawful (lawful_definition p laws.listed laws.inputs) laws.addresses
      (lawful_address p laws.listed laws.inputs laws.back) in
      All-from_recursion Lawful (before p)
      (all_append Lawful (flat_map (definition_clauses (literal_in p)) (atoms p))
      (flat_map (address_clauses (literal_in p)) (filter is_address (closed_terms p))) both.0 both.1)

  before_true : (w : World) → IsWorldOf p w → All (IsTrueIn p w) (before p)
  before_true w formed =
      let both = of_all p (IsTrueIn p w)
      (λ t is. true_definition p w (λ u k. laws.told w u formed k) laws.inputs t is (laws.defined w t formed is))
      laws.addresses
      (λ t is. true_address p w (λ u k. laws.told w u formed k) laws.inputs t is (laws.block w t formed is)) in
      All-from_recursion (IsTrueIn p w) (before p)
      (all_append (IsTrueIn p w) (flat_map (definition_clauses (literal_in p)) (atoms p))
      (flat_map (address_clauses (literal_in p)) (filter is_address (closed_terms p))) both.0 both.1)

  pub sound_at : (i : Instance) (w : World) → is_definition p i ≡ true → IsWorldOf p w
      → IsTrueIn p w (definition_clause p i)
  sound_at i w e formed = of_instance p i (IsTrueIn p w) e (before_true w formed)

  pub lawful_at : (i : Instance) → is_definition p i ≡ true → IsClauseOf p (definition_clause p i)
  lawful_at i e = of_instance p i Lawful e before_lawful

  with_goal : (P : Clause → Type 0) → All P (before p) → P (goal_literal p ∷ []) → (c : Clause)
      → Contains (defining p) c → P c
  with_goal P h e c k =
      All-contains P (before p ++ (goal_literal p ∷ []) ∷ []) c
      (All-append P (before p) ((goal_literal p ∷ []) ∷ []) h (All-cons P (goal_literal p ∷ []) [] e (All-nil P)))
      (subst (λ (cs : List Clause). Contains cs c) (defining_is p) k)

  pub clause_lawful : (c : Clause) → Contains (defining p) c → IsClauseOf p c
  clause_lawful c k = with_goal Lawful before_lawful
      (unit_lawful (length (atoms p)) (goal_literal p) (laws.listed (goal_term p) laws.goal)) c k

  pub clause_true : (w : World) (c : Clause) → Satisfies p w → Contains (defining p) c → IsTrueIn p w c
  clause_true w c s k = with_goal (IsTrueIn p w) (before_true w s.well_formed)
      (unit_true (truths p w) (goal_literal p) (laws.told w (goal_term p) s.well_formed laws.goal ∙ s.goal_true)) c k

-- ---- the laws of the theory

-- ---- these hold of each problem

pub ip_sort : (k : Sort-F Sort) → is_address_in k ≡ true → k ≡ s.Ip
ip_sort s.Ip h = refl
ip_sort _ h = absurd cc

has_counted : (from n i : ℕ) → i < n → Has (counted from n) (from + i)
unfolding counted
has_counted from zero i h = absurd (omega (arith, h))
has_counted from (suc n) zero h = inl (omega arith)
has_counted from (suc n) (suc i) h = let e : suc from + i ≡ from + suc i =
    omega arith in inr (subst (Has (counted (suc from) n)) e (has_counted (suc from) n i (omega (arith, h))))

address_sort : (t : Tree) → is_address t ≡ true → tree_sort t ≡ sort.Ip
address_sort t h =
    sym (roll-out-Sort (tree_sort t))
    ∙ ap roll-Sort (ip_sort (out-Sort (tree_sort t))
    (and_parts (is_address_in (out-Sort (tree_sort t))) (is_other (literal_of t)) h).0) ∙ rolls-Ip

inside_follows : (d : Declarations) (x t : Tree) → Has (inside x) t → Has (follow d x) t
unfolding follow
inside_follows d x t h = Has-right (inputs_of x) (inside x ++ (choices x ++ (beside d x ++ parts x))) t
    (Has-left (inside x) (choices x ++ (beside d x ++ parts x)) t h)

bit_bool : (t : Tree) (i : ℕ) → is_bool (one (Bit i) t) ≡ true
unfolding tree_sort
bit_bool t i = ap is_bool_in out_Bool

module _ (laws : TermsHold) (p : Posed) (posed : IsPosed p) where
  pub bit_closed : (t : Tree) → Contains (closed_terms p) t → is_address t ≡ true → (i : ℕ) → i < 257
      → IsTruth p (bit_term t i)
  bit_closed t h k i below =
      let ip : out-Sort (tree_sort t) ≡ s.Ip =
      ip_sort (out-Sort (tree_sort t))
      (and_parts (is_address_in (out-Sort (tree_sort t))) (is_other (literal_of t)) k).0 in
      let all : inside t ≡ bit_terms 257 t = ap (λ (z : Sort-F Sort). inside_by z t) ip in
      let there : Has (inside t) (bit_term t i) =
      subst (λ (ts : List Tree). Has ts (bit_term t i)) (sym all)
      (Has-map (bit_term t) (counted 0 257) i
      (let e : 0 + i ≡ i = omega arith in subst (Has (counted 0 257)) e (has_counted 0 257 i below))) in
      record {
        closed = follow_closed tree_cmp_total tree_cmp_level laws.closed p posed t (bit_term t i) h
            (inside_follows p.schema t (bit_term t i) there);
        bool = subst (λ (u : Tree). is_bool u ≡ true) (sym (unwritten_bit t i k)) (bit_bool t i);
      }

  addresses_closed : (ts : List Tree) → AllByRecursion (Contains (closed_terms p)) ts
      → AllByRecursion (λ t. is_address t ≡ true → IsAddress p t) ts
  addresses_closed [] h = tt
  addresses_closed (t ∷ ts) h =
      (λ e. record { closed = h.0; unwritten = e; bits = bit_closed t h.0 e }, addresses_closed ts h.1)

  pub has_laws : HasLaws p
  has_laws = record {
    listed = λ t is. literal_listed laws p posed t is.closed is.bool;
    inputs = λ x t is h. let k = input_told laws p posed x t is.closed is.bool h in record { closed = k.0; bool = k.1 };
    goal = let k = goal_told laws p posed in record { closed = k.0; bool = k.1 };
    addresses = filtered is_address (IsAddress p) (closed_terms p)
        (addresses_closed (closed_terms p)
        (recursion_from_All (Contains (closed_terms p)) (closed_terms p) (All-contains_itself (closed_terms p))));
    back = λ t is a. atom_back tree_cmp_total tree_cmp_level laws.closed p posed t is.closed a;
    told = λ w t formed is. literal_told laws p posed w formed t is.closed is.bool;
    defined = λ w t formed is. as_defined laws p posed w formed t is.closed is.bool;
    block = λ w t formed is. bits_told laws p posed w formed t is.closed (address_sort t is.unwritten);
  }

pub instance_sound : (p : Posed) (i : Instance) (w : World) → TermsHold → IsPosed p → is_definition p i ≡ true
    → IsWorldOf p w → IsTrueIn p w (definition_clause p i)
instance_sound p i w laws posed e formed = sound_at p (has_laws laws p posed) i w e formed

pub instance_lawful : (p : Posed) (i : Instance) → TermsHold → IsPosed p → is_definition p i ≡ true
    → IsClauseOf p (definition_clause p i)
instance_lawful p i laws posed e = lawful_at p (has_laws laws p posed) i e

-- the rule of a defining clause has the empty word
pub instance_written : (p : Posed) (i : Instance) → IsPosed p → is_definition p i ≡ true → bytes_eq i.rule [] ≡ false
    → is_instance i ≡ true
instance_written p i posed e h =
    absurd (true≢false (sym ((and_parts (bytes_eq i.rule []) (is_before_last (defining p) (number_in i.words))
    e).0) ∙ h))
