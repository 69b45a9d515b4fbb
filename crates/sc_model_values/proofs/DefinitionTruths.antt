-- Where no defining clause is falsified, closed truth values are as they are defined, and the bits of closed addresses are
-- those of one.
use Rattle.std.proofs.Common.{◌≡◌, ◌<◌, ◌≤◌, ◌+◌, ◌-◌, ◌||◌, ℕ, zero, suc, Bool, true, false, not, IsTrue, inl, inr, List, [], ◌∷◌, ◌++◌, map, filter, flat_map, length, IfSome, Contains, refl, sym, ap, ◌∙◌, subst, arith}
use Rattle.std.specs.Cmp.Derive.{both_true}
use Rattle.sc_laws.proofs.BoolLaws.{or_false, never}
use Rattle.sc_lists.proofs.MemberLaws.{Has-left, Has-right, Has-map, Has-flat_map, Has-from_Contains, Contains-from_Has}
use Rattle.sc_lists.specs.Members.{Has}
use Rattle.sc_names.specs.declared.uid.Uid.{Uid}
use Rattle.sc_ip.specs.declared.ip.Ip.{Ip}
use Rattle.sc_ip.specs.Addresses.{IsIp}
use Rattle.sc_bits.specs.Addresses.{ip_bit}
use Rattle.sc_bits.specs.Blocks.{AreBlockBits}
use Rattle.sc_schema.specs.declared.declarations.Env.{Env}
use Rattle.sc_schema.specs.Declarations.{Declarations}
use Rattle.sc_clauses.specs.declared.lit.Lit.{Lit}
use Rattle.sc_clauses.specs.Assignments.{Assignment}
use Rattle.sc_clauses.specs.Clauses.{Clause, negation, holds, clause_holds}
use Rattle.sc_clauses.proofs.LitLaws.{holds_negation}
use Rattle.sc_sorts.specs.declared.sort.Sort.{Sort, out-Sort}
use Rattle.sc_sorts.specs.declared.sort.Sort.TheVariants as sort
use Rattle.sc_sorts.proofs.OutLaws.{out_Bool, out_Long, out_String, out_Decimal, out_Ip, out_Entity}
use Rattle.sc_sorts.specs.declared.node.Leaf.TheVariants.{Literal}
use Rattle.sc_sorts.specs.declared.node.Literal.TheVariants as literal
use Rattle.sc_sorts.specs.declared.node.UnaryOp.TheVariants.{Not}
use Rattle.sc_terms.specs.Trees.{Tree, leaf, one}
use Rattle.sc_terms.specs.TreeSorts.{tree_sort}
use Rattle.sc_terms.specs.Folds.{truth_term, literal_term, literal_of, bit_term}
use Rattle.sc_term_laws.specs.Judging.{IsTermOf}
use Rattle.sc_term_laws.specs.Judging as judged
use Rattle.sc_term_definitions.specs.declared.function.Shape.{Shape}
use Rattle.sc_term_definitions.specs.declared.function.Shape.TheVariants.{Free}
use Rattle.sc_term_definitions.specs.Definitions.{counted, definition, shape_of, inputs_of}
use Rattle.sc_term_definitions.specs.Truths.{defined}
use Rattle.sc_footprint.specs.Atoms.{is_atom, is_opposite}
use Rattle.sc_footprint.specs.Closure.{of_true}
use Rattle.sc_rule_laws.proofs.MemberLaws.{filter_kept}
use Rattle.sc_footprint.specs.Problems.{Posed, IsPosed, closed_terms, goal_term, goal_literal, atoms, literal_in}
use Rattle.sc_footprint.specs.Definitions.{clauses_by, definition_clauses, mask_clause, short_clauses, address_clauses, is_address, is_address_in, is_other, defining}
use Rattle.sc_footprint.specs.Theories.{TermsHold}
use Rattle.sc_footprint.proofs.KindLaws.{bool_is}
use Rattle.sc_footprint.proofs.TruthLaws.{atom_is, holds_positive}
use Rattle.sc_rule_instances.proofs.LiteralLaws.{literal_truth}
use Rattle.sc_model_laws.specs.Assignments.{lit}
use Rattle.th_defs.specs.ClauseLaws.{IsAs}
use Rattle.th_defs.specs.Laws.{has_laws, clause_lawful}
use Rattle.sc_model_values.specs.Models.{truth_in}
use Rattle.sc_model_values.specs.Laws.{IsClosed, FalsifiesNothing}
use Rattle.sc_model_values.proofs.ClauseTruths.{atom_truth, clause_true}
use Rattle.sc_model_values.proofs.LiteralTruths.{literal_told, literals_told}
use Rattle.sc_model_values.proofs.ShapeLaws.{AllTrue, whole_true, clauses_tell, as_said}

-- ---- terms that nothing defines

opposite_free : (x : Tree) → is_opposite x ≡ true → shape_of x ≡ Free
unfolding definition
opposite_free (leaf (Literal (literal.Bool false))) h = refl
opposite_free (one Not a) h = refl
opposite_free _ h = never _ (sym h)

-- ---- addresses that are written

abbrev pub BitsAreOfAddresses : Type 0
BitsAreOfAddresses = (p : Ip) → IsIp p → AreBlockBits (ip_bit p)

module _ (d : Declarations) (env : Env) (written : List Uid) where
  address_is : (k : Sort) (ip : Ip) → IsTermOf d env written k (literal_term (literal.Ip ip)) → IsIp ip
  address_is _ _ (judged.of_address ip h) = h

  bits_written : BitsAreOfAddresses → (m : Tree → Bool) (k : Sort) (x : Tree) → IsTermOf d env written k x → is_address_in (out-Sort (tree_sort x)) ≡ true → is_other (literal_of x) ≡ false
      → AreBlockBits (λ i. lit m (bit_term x i))
  unfolding tree_sort bit_term lit
  bits_written bits m k (leaf (Literal (literal.Ip ip))) h a o = bits ip (address_is k ip h)
  bits_written bits m k (leaf (Literal (literal.Bool b))) h a o = never _ (sym a ∙ ap is_address_in out_Bool)
  bits_written bits m k (leaf (Literal (literal.Long n))) h a o = never _ (sym a ∙ ap is_address_in out_Long)
  bits_written bits m k (leaf (Literal (literal.String t))) h a o = never _ (sym a ∙ ap is_address_in out_String)
  bits_written bits m k (leaf (Literal (literal.Decimal n))) h a o = never _ (sym a ∙ ap is_address_in out_Decimal)
  bits_written bits m k (leaf (Literal (literal.Entity u us))) h a o = never _ (sym a ∙ ap is_address_in (out_Entity u.type_name us))
  bits_written bits m k _ h a o = never _ o

-- ---- numbers that are counted

counted_at : (from n i : ℕ) → i < n → Has (counted from n) (from + i)
unfolding counted
counted_at from zero i h = absurd (omega (arith, h))
counted_at from (suc n) zero h = inl (omega arith)
counted_at from (suc n) (suc i) h =
    let e : suc from + i ≡ from + suc i = omega arith in
    inr (subst (Has (counted (suc from) n)) e (counted_at (suc from) n i (omega (arith, h))))

counted_there : (from n i : ℕ) → from ≤ i → i < from + n → Has (counted from n) i
counted_there from n i h k =
    let e : from + (i - from) ≡ i = omega (arith, h) in
    subst (Has (counted from n)) e (counted_at from n (i - from) (omega (arith, h, k)))

-- ---- of a problem

module _ (laws : TermsHold) (bits : BitsAreOfAddresses) (p : Posed) (posed : IsPosed p) (m : Assignment) (nothing : FalsifiesNothing p m) where
  abbrev v : ℕ → Bool
  v = atom_truth m

  abbrev M : Tree → Bool
  M = truth_in p m

  defining_true : (c : Clause) → Contains (defining p) c → clause_holds v c ≡ true
  defining_true c h =
      clause_true m (length (atoms p)) nothing.total c (λ l i. (clause_lawful p (has_laws laws p posed) c h l (Contains-from_Has c l i)).0)
      (nothing.defined c h)

  closed_there : (t : Tree) → IsClosed p t → Has (closed_terms p) t
  closed_there t c = Has-from_Contains (closed_terms p) t ((posed.are_closed.just t).1 c)

  -- ---- definitions

  abbrev defined_first : List Clause
  defined_first = flat_map (definition_clauses (literal_in p)) (atoms p)

  abbrev of_addresses : List Clause
  of_addresses = flat_map (address_clauses (literal_in p)) (filter is_address (closed_terms p))

  definition_true : (x : Tree) → IsClosed p x → is_atom x ≡ true → AllTrue v (definition_clauses (literal_in p) x)
  definition_true x c a d h =
      let there : Has (atoms p) x = filter_kept is_atom (closed_terms p) x (closed_there x c) a in
      defining_true d (Contains-from_Has (defining p) d (Has-left defined_first (of_addresses ++ (goal_literal p ∷ []) ∷ []) d
      (Has-flat_map (definition_clauses (literal_in p)) (atoms p) x d there h)))

  definition_told : (x : Tree) → IsClosed p x → is_atom x ≡ true
      → IsAs v (literal_in p x) (defined (shape_of x) (map (holds v) (map (literal_in p) (inputs_of x))))
  definition_told x c a =
      clauses_tell v (shape_of x) (literal_in p x) (map (literal_in p) (inputs_of x))
      (whole_true v (clauses_by (shape_of x) (literal_in p x) (map (literal_in p) (inputs_of x))) (definition_true x c a))

  true_atom : is_atom (truth_term true) ≡ true
  unfolding tree_sort
  true_atom = atom_is (truth_term true) (bool_is (truth_term true) refl) refl

  -- atom 1 is `true`
  pub first_true : v 1 ≡ true
  unfolding definition
  first_true = sym (holds_positive v 1) ∙ ap (holds v) (sym (literal_truth p posed true)) ∙ definition_told (truth_term true) of_true true_atom

  pub as_defined : (x : Tree) → IsClosed p x → tree_sort x ≡ sort.Bool → IfSome (defined (shape_of x) (map (lit M) (inputs_of x))) (λ b. lit M x ≡ b)
  as_defined x c e = by (is_opposite x) refl
    where
      by : (b : Bool) → is_opposite x ≡ b → IfSome (defined (shape_of x) (map (lit M) (inputs_of x))) (λ b. lit M x ≡ b)
      by true o = subst (λ (s : Shape). IfSome (defined s (map (lit M) (inputs_of x))) (λ b. lit M x ≡ b)) (sym (opposite_free x o)) tt
      by false o =
          subst (λ (us : List Bool). IfSome (defined (shape_of x) us) (λ b. lit M x ≡ b))
          (literals_told p posed m first_true (inputs_of x))
          (as_said v (literal_in p x) (lit M x) (defined (shape_of x) (map (holds v) (map (literal_in p) (inputs_of x))))
          (literal_told p posed m first_true x) (definition_told x c (atom_is x (bool_is x e) o)))

  -- ---- addresses

  abbrev L : Tree → ℕ → Lit
  L x i = literal_in p (bit_term x i)

  abbrev bit : Tree → ℕ → Bool
  bit x i = lit M (bit_term x i)

  address_true : (x : Tree) → IsClosed p x → is_address x ≡ true → AllTrue v (address_clauses (literal_in p) x)
  address_true x c a d h =
      let there : Has (filter is_address (closed_terms p)) x = filter_kept is_address (closed_terms p) x (closed_there x c) a in
      defining_true d (Contains-from_Has (defining p) d (Has-right defined_first (of_addresses ++ (goal_literal p ∷ []) ∷ []) d
      (Has-left of_addresses ((goal_literal p ∷ []) ∷ []) d (Has-flat_map (address_clauses (literal_in p)) (filter is_address (closed_terms p)) x d there h))))

  bit_told : (x : Tree) (i : ℕ) → holds v (L x i) ≡ bit x i
  bit_told x i = literal_told p posed m first_true (bit_term x i)

  bit_negated : (x : Tree) (i : ℕ) → holds v (negation (L x i)) ≡ not (bit x i)
  bit_negated x i = holds_negation v (L x i) ∙ ap not (bit_told x i)

  -- of a clause of two literals one is true
  either : (k l : Lit) (a b : Bool) → holds v k ≡ a → holds v l ≡ b → clause_holds v (k ∷ l ∷ []) ≡ true → IsTrue (a || b)
  either k l a b e f h =
      ap (λ (z : Bool). z || b) (sym e) ∙ ap (λ (z : Bool). holds v k || z) (sym f ∙ sym (or_false (holds v l))) ∙ h

  bits_unwritten : (x : Tree) → IsClosed p x → is_address x ≡ true → AreBlockBits (bit x)
  bits_unwritten x c a =
      let masks = map (mask_clause (L x)) (counted 0 127) in
      let shorts = flat_map (short_clauses (L x)) (counted 32 96) in
      record {
        mask = λ j below. either (negation (L x (2 + j))) (L x (1 + j)) (not (bit x (2 + j))) (bit x (1 + j)) (bit_negated x (2 + j)) (bit_told x (1 + j))
            (address_true x c a (mask_clause (L x) j) (Has-left masks shorts (mask_clause (L x) j)
            (Has-map (mask_clause (L x)) (counted 0 127) j (counted_there 0 127 j (omega arith) (omega (arith, below))))));
        short_mask = λ j least below. either (L x 0) (negation (L x (1 + j))) (bit x 0) (not (bit x (1 + j))) (bit_told x 0) (bit_negated x (1 + j))
            (address_true x c a (L x 0 ∷ negation (L x (1 + j)) ∷ []) (Has-right masks shorts (L x 0 ∷ negation (L x (1 + j)) ∷ [])
            (Has-flat_map (short_clauses (L x)) (counted 32 96) j (L x 0 ∷ negation (L x (1 + j)) ∷ []) (counted_there 32 96 j least (omega (arith, below))) (inl refl))));
        short_address = λ j least below. either (L x 0) (negation (L x (129 + j))) (bit x 0) (not (bit x (129 + j))) (bit_told x 0) (bit_negated x (129 + j))
            (address_true x c a (L x 0 ∷ negation (L x (129 + j)) ∷ []) (Has-right masks shorts (L x 0 ∷ negation (L x (129 + j)) ∷ [])
            (Has-flat_map (short_clauses (L x)) (counted 32 96) j (L x 0 ∷ negation (L x (129 + j)) ∷ []) (counted_there 32 96 j least (omega (arith, below))) (inr (inl refl)))));
      }

  pub bits_block : (x : Tree) → IsClosed p x → tree_sort x ≡ sort.Ip → AreBlockBits (bit x)
  bits_block x c e = by (is_other (literal_of x)) refl
    where
      of_sort : is_address_in (out-Sort (tree_sort x)) ≡ true
      of_sort = ap (λ (k : Sort). is_address_in (out-Sort k)) e ∙ ap is_address_in out_Ip

      by : (b : Bool) → is_other (literal_of x) ≡ b → AreBlockBits (bit x)
      by true o = bits_unwritten x c (both_true of_sort o)
      by false o =
          bits_written p.schema p.env p.literals bits M (tree_sort x) x (laws.closed p.schema p.env p.literals (goal_term p) x posed.lawful posed.goal_is c) of_sort o
