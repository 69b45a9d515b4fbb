-- Closed terms have equal values just where their equation is true: of truth values, of what has bits, and of what has names.
use Rattle.std.proofs.Common.{◌≡◌, ◌<◌, ◌+◌, inl, inr, ℕ, zero, suc, arith, Bool, true, false, not, ℤ, List, [], map, Option, Some, None, refl, sym, ap, ◌∙◌, subst}
use Rattle.std.specs.Int.{w64}
use Rattle.std.specs.Prelude.{⊤, ◌↔◌, IfSome, FitsSigned, IsTrue}
use Rattle.std.specs.List.{list_all}
use Rattle.std.specs.Str.{IsUtf8}
use Rattle.sc_lists.proofs.MemberLaws.{Has-map, map-Has}
use Rattle.sc_lists.specs.Members.{Has}
use Rattle.sc_ip.specs.declared.ip.Ip.{Ip}
use Rattle.sc_ip.specs.Addresses.{IsIp, is_in_range}
use Rattle.sc_names.specs.declared.uid.Uid.{Uid}
use Rattle.sc_schema.specs.declared.declarations.Env.{Env}
use Rattle.sc_schema.specs.Declarations.{Declarations}
use Rattle.sc_values.specs.declared.value.Value.TheVariants as value
use Rattle.sc_values.proofs.OutLaws as out
use Rattle.sc_world.specs.declared.world.World.{World}
use Rattle.sc_sorts.specs.declared.sort.Sort.{Sort, Sort-F, out-Sort}
use Rattle.sc_sorts.specs.declared.sort.Sort.TheVariants as sort
use Rattle.sc_sorts.specs.declared.sort.Sort.TheOpen as s
use Rattle.sc_sorts.proofs.OutLaws.{out_Bool, out_Long, out_String, out_Decimal, out_Ip, out_Entity}
use Rattle.sc_sorts.specs.Literals.{same_entity}
use Rattle.sc_sorts.specs.NodeSorts.{literal_sort}
use Rattle.sc_sorts.specs.declared.node.Leaf.TheVariants as leafs
use Rattle.sc_sorts.specs.declared.node.Literal.{Literal}
use Rattle.sc_sorts.specs.declared.node.Literal.TheVariants as literal
use Rattle.sc_sorts.specs.declared.node.BinaryOp.TheVariants as binary
use Rattle.sc_bits.specs.Adders.{differ}
use Rattle.sc_bits.specs.Addresses.{ip_bit, ip_of}
use Rattle.sc_bits.specs.Bits.{bit64, of_bits64}
use Rattle.sc_bits.specs.Blocks.{AgreeInRange, AreBlockBits}
use Rattle.sc_bits.proofs.IntegerLaws.{of_bits-bit64, of_bits-same, bit64-of_bits}
use Rattle.sc_terms.proofs.EqualLaws.{constant_is}
use Rattle.sc_terms.specs.Trees.{Tree, leaf, two}
use Rattle.sc_terms.specs.TreeSorts.{tree_sort}
use Rattle.sc_terms.specs.Folds.{constant, literal_of, truth_term, literal_term, equal_by, equal_term, bit_by, bit_term}
use Rattle.sc_terms.specs.Values.{it, yes, val, value_in, number_in, ip_in, ip_seen, number_seen, text_in, text_seen, uid_in, uid_seen, truth, value_eq, val_eq, literal_value}
use Rattle.sc_terms.proofs.FoldValues.{literal_is, truth_is, truth_yes}
use Rattle.sc_terms.proofs.EqualValues.{value_eq-exact, value_eq-same}
use Rattle.sc_term_definitions.specs.Definitions.{Definition, definition, equal_of, counted}
use Rattle.sc_term_definitions.specs.Truths.{defined}
use Rattle.sc_term_definitions.proofs.EquationLaws.{alike, alike_back}
use Rattle.sc_term_laws.specs.Judging.{IsTermOf}
use Rattle.sc_term_laws.specs.Judging as judged
use Rattle.sc_term_laws.specs.LawfulSorts.{IsSortOf}
use Rattle.sc_term_laws.specs.Tests.{bool_level, is_bool}
use Rattle.sc_rule_laws.specs.Signed.{is_true}
use Rattle.sc_rule_laws.proofs.EquationLaws.{equality}
use Rattle.sc_rule_laws.proofs.MemberLaws.{all_has, has_all}
use Rattle.sc_closure_rules.specs.Closure.{Closed}
use Rattle.sc_model_laws.specs.Assignments.{lit}
use Rattle.sc_model_laws.specs.Vals.{Model, bits_of, val_of}
use Rattle.sc_model_laws.specs.Models.{IsModel}
use Rattle.sc_model_laws.proofs.ClosedLaws.{counted_place, of_input}
use Rattle.sc_model_laws.proofs.EquationTerms.{Equation, is_one, are_literals, is_straight, is_turned, equation_of, lit_truth, lit_constant, lit_not}
use Rattle.sc_model_laws.proofs.ValLaws.{val_Bool, val_Long, val_String, val_Decimal, val_Ip, val_Entity}

-- each closed term is a term, of a sort of the schema
pub record AreTerms (d : Declarations) (env : Env) (literals : List Uid) (goal : Tree) : Type 0 where
  pub made : (x : Tree) → Closed d env goal x → IsTermOf d env literals (tree_sort x) x
  pub lawful : (x : Tree) → Closed d env goal x → IsSortOf d (tree_sort x)

-- what the bits of addresses promise
pub record AreAddresses : Type 0 where
  pub fits : (f : ℕ → Bool) → AreBlockBits f → IsIp (ip_of f)
  pub bits : (f : ℕ → Bool) → AreBlockBits f → (k : ℕ) → k < 257 → ip_bit (ip_of f) k ≡ f k
  pub only : (a b : Ip) → IsIp a → IsIp b → ((k : ℕ) → k < 257 → ip_bit a k ≡ ip_bit b k) → a ≡ b
  pub clauses : (a : Ip) → IsIp a → AreBlockBits (ip_bit a)
  pub range : (f g : ℕ → Bool) → AreBlockBits f → AreBlockBits g → IsTrue (is_in_range (ip_of f) (ip_of g)) ↔ AgreeInRange f g

-- ---- truth values

same_truth : (b : Bool) → true ≡ not (differ b b)
same_truth true = refl
same_truth false = refl

same_true : (b c : Bool) → b ≡ true → c ≡ not (differ b c)
same_true true true e = refl
same_true true false e = refl
same_true false c e = absurd cc

same_false : (b c : Bool) → b ≡ false → not c ≡ not (differ b c)
same_false false c e = refl
same_false true c e = absurd cc

same_turned : (b c : Bool) → not (differ b c) ≡ not (differ c b)
same_turned true true = refl
same_turned true false = refl
same_turned false true = refl
same_turned false false = refl

pub counted_below : (n from i : ℕ) → Has (counted from n) i → i < from + n
unfolding counted
counted_below zero from i h = absurd h
counted_below (suc n) from i (inl is) = let less : from < from + suc n = omega arith in subst (λ (k : ℕ). k < from + suc n) is less
counted_below (suc n) from i (inr later) = let less : i < suc from + n = counted_below n (suc from) i later in omega (arith, less)

-- no world is asked of literals
pub nowhere : World
nowhere =
    let nobody : Uid = record { type_name = []; id = [] } in
    record { request = record { principal = nobody; action = nobody; resource = nobody; context = [] }; store = [] }

-- two literals that fold are one value just where their equation is true
same_literals : (k l : Literal) → equal_term (literal_term k) (literal_term l) ≡ truth_term (same_entity k l)
    → same_entity k l ≡ value_eq (literal_value k) (literal_value l)
same_literals k l e =
    let first : val (literal_term k) nowhere ≡ it (literal_value k) = literal_is (literal_term k) k nowhere refl in
    let second : val (literal_term l) nowhere ≡ it (literal_value l) = literal_is (literal_term l) l nowhere refl in
    sym (ap (λ t. is_true t nowhere) e ∙ ap truth (truth_is (same_entity k l) nowhere) ∙ truth_yes (same_entity k l))
    ∙ equality nowhere (literal_term k) (literal_term l) ∙ (λ i. val_eq (first i) (second i))

literal_bool : (k : Literal) → literal_sort k ≡ sort.Bool → (b : Bool) × (k ≡ literal.Bool b)
literal_bool (literal.Bool b) e = (b, refl)
literal_bool (literal.Long n) e = let both : false ≡ true = ap bool_level (sym out_Long) ∙ ap is_bool e ∙ ap bool_level out_Bool in absurd cc
literal_bool (literal.String t) e = let both : false ≡ true = ap bool_level (sym out_String) ∙ ap is_bool e ∙ ap bool_level out_Bool in absurd cc
literal_bool (literal.Decimal n) e = let both : false ≡ true = ap bool_level (sym out_Decimal) ∙ ap is_bool e ∙ ap bool_level out_Bool in absurd cc
literal_bool (literal.Ip a) e = let both : false ≡ true = ap bool_level (sym out_Ip) ∙ ap is_bool e ∙ ap bool_level out_Bool in absurd cc
literal_bool (literal.Entity u us) e =
    let both : false ≡ true = ap bool_level (sym (out_Entity u.type_name us)) ∙ ap is_bool e ∙ ap bool_level out_Bool in absurd cc

pub sort_of_literal : (k : Literal) → tree_sort (literal_term k) ≡ literal_sort k
unfolding tree_sort
sort_of_literal k = refl

pub equation_sort : (x y : Tree) → tree_sort (two binary.Equal x y) ≡ sort.Bool
unfolding tree_sort
equation_sort x y = refl

pub bit_sort : (x : Tree) (i : ℕ) → tree_sort (bit_term x i) ≡ sort.Bool
unfolding bit_term tree_sort
bit_sort x i = by (literal_of x) where
  by : (o : Option Literal) → tree_sort (bit_by o x i) ≡ sort.Bool
  by (Some l) = refl
  by None = refl

-- a term that is no truth value is no constant
pub no_truth : (k : Sort) (x : Tree) → tree_sort x ≡ k → is_bool k ≡ false → constant x ≡ None
no_truth k x e n = by (constant x) refl where
  by : (o : Option Bool) → constant x ≡ o → o ≡ None
  by None f = refl
  by (Some b) f =
      let one : k ≡ sort.Bool = sym e ∙ ap tree_sort (constant_is x b f) ∙ sort_of_literal (literal.Bool b) in
      let both : true ≡ false = ap bool_level (sym out_Bool) ∙ ap is_bool (sym one) ∙ n in
      absurd cc

-- what is kept of numbers, texts and addresses in literals
abbrev pub Holds : Literal → Type 0
Holds (literal.Long n) = FitsSigned w64 n
Holds (literal.String t) = IsUtf8 t
Holds (literal.Decimal n) = FitsSigned w64 n
Holds (literal.Ip a) = IsIp a
Holds _ = ⊤

pub literal_kept : (d : Declarations) (env : Env) (written : List Uid) (k : Sort) (l : Literal) → IsTermOf d env written k (leaf (leafs.Literal l)) → Holds l
literal_kept d env written _ _ (judged.of_truth b) = tt
literal_kept d env written _ _ (judged.of_number n h) = h
literal_kept d env written _ _ (judged.of_text text h) = h
literal_kept d env written _ _ (judged.of_decimal_number n h) = h
literal_kept d env written _ _ (judged.of_address ip h) = h
literal_kept d env written _ _ (judged.of_uid u h) = tt
literal_kept d env written _ _ (judged.of_default name h e) = tt

module _ (d : Declarations) (env : Env) (literals : List Uid) (goal : Tree) (addresses : AreAddresses) (terms : AreTerms d env literals goal) (m : Model) (is : IsModel d env goal m) where
  -- the equation of two terms is true just where their values are one
  pub record Agrees (k : Sort) (x y : Tree) : Type 0 where
    pub same : lit m.truths (equal_term x y) ≡ true → val_of m k x ≡ val_of m k y
    pub told : val_of m k x ≡ val_of m k y → lit m.truths (equal_term x y) ≡ true

  -- closed terms of a sort
  pub record ArePaired (k : Sort) (x y : Tree) : Type 0 where
    pub first : Closed d env goal x
    pub second : Closed d env goal y
    pub first_sort : tree_sort x ≡ k
    pub second_sort : tree_sort y ≡ k

  abbrev pub Claim : Sort → Type 0
  Claim k = (x y : Tree) → ArePaired k x y → Closed d env goal (equal_term x y) → Agrees k x y

  -- the same where the equation doesn't fold and has these sides
  abbrev pub Straight : Sort → Type 0
  Straight k = (x y : Tree) → ArePaired k x y → Closed d env goal (two binary.Equal x y) → equal_term x y ≡ two binary.Equal x y → Agrees k x y

  turn : (k : Sort) (x y : Tree) → ArePaired k x y → ArePaired k y x
  turn k x y p = record { first = p.second; second = p.first; first_sort = p.second_sort; second_sort = p.first_sort }

  -- ---- literals

  literal_bits : (l : Literal) (n : ℤ) → ((i : ℕ) → bits_of m (literal_term l) i ≡ bit64 n i) → FitsSigned w64 n → of_bits64 (bits_of m (literal_term l)) ≡ n
  literal_bits l n h f = of_bits-same w64 (bits_of m (literal_term l)) (bit64 n) (λ i k. h i) ∙ of_bits-bit64 w64 n f

  literal_at : (l : Literal) → Closed d env goal (literal_term l) → Holds l → val_of m (literal_sort l) (literal_term l) ≡ it (literal_value l)
  unfolding bit_term lit
  literal_at (literal.Bool b) c h = val_Bool m (truth_term b)
  literal_at (literal.Long n) c h = val_Long m (literal_term (literal.Long n)) ∙ ap (λ z. it (value.Long z)) (literal_bits (literal.Long n) n (λ i. refl) h)
  literal_at (literal.String t) c h = val_String m (literal_term (literal.String t)) ∙ ap (λ z. it (value.String z)) (is.literal_text t c)
  literal_at (literal.Decimal n) c h = val_Decimal m (literal_term (literal.Decimal n)) ∙ ap (λ z. it (value.Decimal z)) (literal_bits (literal.Decimal n) n (λ i. refl) h)
  literal_at (literal.Ip a) c h =
      let f : ℕ → Bool = bits_of m (literal_term (literal.Ip a)) in
      let blocks : AreBlockBits f = addresses.clauses a h in
      val_Ip m (literal_term (literal.Ip a)) ∙ ap (λ z. it (value.Ip z))
      (addresses.only (ip_of f) a (addresses.fits f blocks) h (λ k b. addresses.bits f blocks k b))
  literal_at (literal.Entity u us) c h = val_Entity m u.type_name us (literal_term (literal.Entity u us)) ∙ ap (λ z. it (value.Entity z)) (is.literal_uid u us c)

  pub literal_val : (k : Sort) (l : Literal) → tree_sort (literal_term l) ≡ k → Closed d env goal (literal_term l) → val_of m k (literal_term l) ≡ it (literal_value l)
  literal_val k l e c =
      ap (λ (j : Sort). val_of m j (literal_term l)) (sym e ∙ sort_of_literal l)
      ∙ literal_at l c (literal_kept d env literals (tree_sort (literal_term l)) l (terms.made (literal_term l) c))

  -- ---- equations that fold, or have the other side first

  pub by_straight : (k : Sort) → is_bool k ≡ false → Straight k → Claim k
  by_straight k n st x y p c = by (equal_term x y) refl c (equation_of x y (no_truth k x p.first_sort n) (no_truth k y p.second_sort n)) where
    by : (z : Tree) → equal_term x y ≡ z → Closed d env goal z → Equation x y z → Agrees k x y
    by _ e c (is_one h) = record { same = λ t. ap (val_of m k) h; told = λ t. ap (lit m.truths) e ∙ lit_truth m.truths true }
    by _ e c (are_literals j l h i) =
        let first : val_of m k x ≡ it (literal_value j) =
        ap (val_of m k) h ∙ literal_val k j (ap tree_sort (sym h) ∙ p.first_sort) (subst (Closed d env goal) h p.first) in
        let second : val_of m k y ≡ it (literal_value l) =
        ap (val_of m k) i ∙ literal_val k l (ap tree_sort (sym i) ∙ p.second_sort) (subst (Closed d env goal) i p.second) in
        let told_by : lit m.truths (equal_term x y) ≡ value_eq (literal_value j) (literal_value l) =
        ap (lit m.truths) e ∙ lit_truth m.truths (same_entity j l) ∙ same_literals j l ((λ r. equal_term (sym h r) (sym i r)) ∙ e) in
        record {
          same = λ t. first ∙ ap it (value_eq-exact (literal_value j) (literal_value l) (sym told_by ∙ t)) ∙ sym second;
          told = λ t. told_by ∙ value_eq-same (literal_value j) (literal_value l) (ap value_in (sym first ∙ t ∙ second));
        }
    by _ e c (is_straight h) = st x y p c h
    by _ e c (is_turned h) =
        let back : Agrees k y x = st y x (turn k x y p) c h in
        let one : equal_term x y ≡ equal_term y x = e ∙ sym h in
        record {
          same = λ t. sym (back.same (ap (lit m.truths) (sym one) ∙ t));
          told = λ t. ap (lit m.truths) one ∙ back.told (sym t);
        }

  -- ---- definitions

  pub by_definition : (x : Tree) (D : Definition) → tree_sort x ≡ sort.Bool → definition x ≡ D → Closed d env goal x → IfSome (defined D.shape (map (lit m.truths) D.inputs)) (λ b. lit m.truths x ≡ b)
  by_definition x D k e c = subst (λ (E : Definition). IfSome (defined E.shape (map (lit m.truths) E.inputs)) (λ b. lit m.truths x ≡ b)) e (is.consistent.definitions x c k)

  equal_definition : (x y : Tree) (k : Sort) (l : Sort-F Sort) → tree_sort x ≡ k → out-Sort k ≡ l → definition (two binary.Equal x y) ≡ equal_of l x y
  unfolding definition
  equal_definition x y k l e o = ap (λ z. equal_of z x y) (ap out-Sort e ∙ o)

  -- ---- truth values

  straight_bools : (x y : Tree) → tree_sort x ≡ sort.Bool → Closed d env goal (two binary.Equal x y) → lit m.truths (two binary.Equal x y) ≡ not (differ (lit m.truths x) (lit m.truths y))
  straight_bools x y e c = by_definition (two binary.Equal x y) (equal_of s.Bool x y) (equation_sort x y) (equal_definition x y sort.Bool s.Bool e out_Bool) c

  literal_constant : (x : Tree) (k : Literal) → x ≡ literal_term k → tree_sort x ≡ sort.Bool → constant x ≡ None → ⊥
  literal_constant x k h e n =
      let bool = literal_bool k (sym (sort_of_literal k) ∙ ap tree_sort (sym h) ∙ e) in
      let both : Some bool.0 ≡ None = ap constant (ap literal_term (sym bool.1) ∙ sym h) ∙ n in
      absurd cc

  plain_bools : (x y : Tree) → tree_sort x ≡ sort.Bool → tree_sort y ≡ sort.Bool → constant x ≡ None → constant y ≡ None
      → (constant (equal_term x y) ≡ None → Closed d env goal (equal_term x y)) → lit m.truths (equal_term x y) ≡ not (differ (lit m.truths x) (lit m.truths y))
  plain_bools x y e f a b c = by (equal_term x y) refl (equation_of x y a b) where
    by : (z : Tree) → equal_term x y ≡ z → Equation x y z → lit m.truths z ≡ not (differ (lit m.truths x) (lit m.truths y))
    by _ q (is_one h) = lit_truth m.truths true ∙ same_truth (lit m.truths x) ∙ ap (λ z. not (differ (lit m.truths x) (lit m.truths z))) h
    by _ q (are_literals k l h i) = absurd (literal_constant x k h e a)
    by _ q (is_straight h) = straight_bools x y e (subst (Closed d env goal) q (c (ap constant q)))
    by _ q (is_turned h) = straight_bools y x f (subst (Closed d env goal) q (c (ap constant q))) ∙ same_turned (lit m.truths y) (lit m.truths x)

  -- an equation that folds to a truth value needn't be closed
  pub lit_equal_unless : (x y : Tree) → tree_sort x ≡ sort.Bool → tree_sort y ≡ sort.Bool → (constant (equal_term x y) ≡ None → Closed d env goal (equal_term x y))
      → lit m.truths (equal_term x y) ≡ not (differ (lit m.truths x) (lit m.truths y))
  unfolding equal_term
  lit_equal_unless x y e f c = by (constant x) (constant y) refl refl where
    by : (o p : Option Bool) → constant x ≡ o → constant y ≡ p → lit m.truths (equal_term x y) ≡ not (differ (lit m.truths x) (lit m.truths y))
    by (Some true) p a b =
        ap (λ (o : Option Bool). lit m.truths (equal_by o (constant y) x y)) a ∙ same_true (lit m.truths x) (lit m.truths y) (lit_constant m.truths x true a)
    by (Some false) p a b =
        ap (λ (o : Option Bool). lit m.truths (equal_by o (constant y) x y)) a ∙ lit_not m.truths y ∙ same_false (lit m.truths x) (lit m.truths y) (lit_constant m.truths x false a)
    by None (Some true) a b =
        (λ i. lit m.truths (equal_by (a i) (b i) x y)) ∙ same_true (lit m.truths y) (lit m.truths x) (lit_constant m.truths y true b)
        ∙ same_turned (lit m.truths y) (lit m.truths x)
    by None (Some false) a b =
        (λ i. lit m.truths (equal_by (a i) (b i) x y)) ∙ lit_not m.truths x ∙ same_false (lit m.truths y) (lit m.truths x) (lit_constant m.truths y false b)
        ∙ same_turned (lit m.truths y) (lit m.truths x)
    by None None a b = plain_bools x y e f a b c

  pub lit_equal : (x y : Tree) → tree_sort x ≡ sort.Bool → tree_sort y ≡ sort.Bool → Closed d env goal (equal_term x y)
      → lit m.truths (equal_term x y) ≡ not (differ (lit m.truths x) (lit m.truths y))
  lit_equal x y e f c = lit_equal_unless x y e f (λ n. c)

  pub bool_step : Claim sort.Bool
  bool_step x y p c =
      let whole = lit_equal x y p.first_sort p.second_sort c in
      record {
        same = λ t. val_Bool m x ∙ ap yes (alike (lit m.truths x) (lit m.truths y) (sym whole ∙ t)) ∙ sym (val_Bool m y);
        told = λ t. whole ∙ alike_back (lit m.truths x) (lit m.truths y) (sym (truth_yes (lit m.truths x)) ∙ ap truth (sym (val_Bool m x) ∙ t ∙ val_Bool m y) ∙ truth_yes (lit m.truths y));
      }

  -- ---- what has bits

  module _ (n : ℕ) (x y : Tree) where
    abbrev bit_equation : ℕ → Tree
    bit_equation i = equal_term (bit_term x i) (bit_term y i)

    -- an equation is true just where so many bits are alike
    module _ (b : Bool) (whole : b ≡ list_all (λ (u : Bool). u) (map (lit m.truths) (map (λ i. equal_term (bit_term x i) (bit_term y i)) (counted 0 n))))
        (closed : (i : ℕ) → i < n → Closed d env goal (equal_term (bit_term x i) (bit_term y i))) where
      bits_alike : b ≡ true → (i : ℕ) → i < n → bits_of m x i ≡ bits_of m y i
      bits_alike e i h =
          alike (bits_of m x i) (bits_of m y i)
          (sym (lit_equal (bit_term x i) (bit_term y i) (bit_sort x i) (bit_sort y i) (closed i h))
          ∙ all_has (λ (u : Bool). u) (map (lit m.truths) (map (λ i. equal_term (bit_term x i) (bit_term y i)) (counted 0 n)))
          (lit m.truths (bit_equation i)) (sym whole ∙ e)
          (Has-map (lit m.truths) (map (λ i. equal_term (bit_term x i) (bit_term y i)) (counted 0 n)) (bit_equation i)
          (Has-map (λ i. equal_term (bit_term x i) (bit_term y i)) (counted 0 n) i (counted_place n i h))))

      alike_bits : ((i : ℕ) → i < n → bits_of m x i ≡ bits_of m y i) → b ≡ true
      alike_bits h = whole ∙ has_all (λ (u : Bool). u) (map (lit m.truths) (map (λ i. equal_term (bit_term x i) (bit_term y i)) (counted 0 n))) (λ u k.
          let t = map-Has (lit m.truths) (map (λ i. equal_term (bit_term x i) (bit_term y i)) (counted 0 n)) u k in
          let j = map-Has (λ i. equal_term (bit_term x i) (bit_term y i)) (counted 0 n) t.0 t.1 in
          let within : j.0 < 0 + n = counted_below n 0 j.0 j.1 in
          let below : j.0 < n = omega (arith, within) in
          sym t.2 ∙ ap (lit m.truths) (sym j.2)
          ∙ lit_equal (bit_term x j.0) (bit_term y j.0) (bit_sort x j.0) (bit_sort y j.0) (closed j.0 below)
          ∙ alike_back (bits_of m x j.0) (bits_of m y j.0) (h j.0 below))

  pub input_of : (x : Tree) (D : Definition) (t : Tree) → definition x ≡ D → Closed d env goal x → Has D.inputs t → Closed d env goal t
  input_of x D t e c h = of_input d env goal x t c (subst (λ (E : Definition). Has E.inputs t) (sym e) h)

  -- numbers of 64 bits that are alike
  same_numbers : (x y : Tree) → ((i : ℕ) → i < 64 → bits_of m x i ≡ bits_of m y i) → of_bits64 (bits_of m x) ≡ of_bits64 (bits_of m y)
  same_numbers x y h = of_bits-same w64 (bits_of m x) (bits_of m y) h

  numbers_same : (x y : Tree) → of_bits64 (bits_of m x) ≡ of_bits64 (bits_of m y) → (i : ℕ) → i < 64 → bits_of m x i ≡ bits_of m y i
  numbers_same x y e i h = sym (bit64-of_bits w64 (bits_of m x) i h) ∙ ap (λ z. bit64 z i) e ∙ bit64-of_bits w64 (bits_of m y) i h

  bit_input : (n : ℕ) (x y : Tree) (i : ℕ) → i < n → Has (map (λ i. equal_term (bit_term x i) (bit_term y i)) (counted 0 n)) (equal_term (bit_term x i) (bit_term y i))
  bit_input n x y i h = Has-map (λ i. equal_term (bit_term x i) (bit_term y i)) (counted 0 n) i (counted_place n i h)

  module _ (x y : Tree) (p : ArePaired sort.Long x y) (c : Closed d env goal (two binary.Equal x y)) (e : equal_term x y ≡ two binary.Equal x y) where
    long_whole : lit m.truths (equal_term x y) ≡ list_all (λ (u : Bool). u) (map (lit m.truths) (map (λ i. equal_term (bit_term x i) (bit_term y i)) (counted 0 64)))
    long_whole =
        ap (lit m.truths) e
        ∙ by_definition (two binary.Equal x y) (equal_of s.Long x y) (equation_sort x y) (equal_definition x y sort.Long s.Long p.first_sort out_Long) c

    long_inputs : (i : ℕ) → i < 64 → Closed d env goal (equal_term (bit_term x i) (bit_term y i))
    long_inputs i h =
        input_of (two binary.Equal x y) (equal_of s.Long x y) (equal_term (bit_term x i) (bit_term y i))
        (equal_definition x y sort.Long s.Long p.first_sort out_Long) c (bit_input 64 x y i h)

    long_agrees : Agrees sort.Long x y
    long_agrees = record {
      same = λ t. val_Long m x ∙ ap (λ z. it (value.Long z)) (same_numbers x y (bits_alike 64 x y (lit m.truths (equal_term x y)) long_whole long_inputs t)) ∙ sym (val_Long m y);
      told = λ t.
          let one : of_bits64 (bits_of m x) ≡ of_bits64 (bits_of m y) =
          sym (ap number_seen (out.out_Long (of_bits64 (bits_of m x)))) ∙ ap number_in (sym (val_Long m x) ∙ t ∙ val_Long m y) ∙ ap number_seen (out.out_Long (of_bits64 (bits_of m y))) in
          alike_bits 64 x y (lit m.truths (equal_term x y)) long_whole long_inputs (numbers_same x y one);
    }

  module _ (x y : Tree) (p : ArePaired sort.Decimal x y) (c : Closed d env goal (two binary.Equal x y)) (e : equal_term x y ≡ two binary.Equal x y) where
    decimal_whole : lit m.truths (equal_term x y) ≡ list_all (λ (u : Bool). u) (map (lit m.truths) (map (λ i. equal_term (bit_term x i) (bit_term y i)) (counted 0 64)))
    decimal_whole =
        ap (lit m.truths) e
        ∙ by_definition (two binary.Equal x y) (equal_of s.Decimal x y) (equation_sort x y) (equal_definition x y sort.Decimal s.Decimal p.first_sort out_Decimal) c

    decimal_inputs : (i : ℕ) → i < 64 → Closed d env goal (equal_term (bit_term x i) (bit_term y i))
    decimal_inputs i h =
        input_of (two binary.Equal x y) (equal_of s.Decimal x y) (equal_term (bit_term x i) (bit_term y i))
        (equal_definition x y sort.Decimal s.Decimal p.first_sort out_Decimal) c (bit_input 64 x y i h)

    decimal_agrees : Agrees sort.Decimal x y
    decimal_agrees = record {
      same = λ t. val_Decimal m x ∙ ap (λ z. it (value.Decimal z)) (same_numbers x y (bits_alike 64 x y (lit m.truths (equal_term x y)) decimal_whole decimal_inputs t)) ∙ sym (val_Decimal m y);
      told = λ t.
          let one : of_bits64 (bits_of m x) ≡ of_bits64 (bits_of m y) =
          sym (ap number_seen (out.out_Decimal (of_bits64 (bits_of m x)))) ∙ ap number_in (sym (val_Decimal m x) ∙ t ∙ val_Decimal m y) ∙ ap number_seen (out.out_Decimal (of_bits64 (bits_of m y))) in
          alike_bits 64 x y (lit m.truths (equal_term x y)) decimal_whole decimal_inputs (numbers_same x y one);
    }

  module _ (x y : Tree) (p : ArePaired sort.Ip x y) (c : Closed d env goal (two binary.Equal x y)) (e : equal_term x y ≡ two binary.Equal x y) where
    ip_whole : lit m.truths (equal_term x y) ≡ list_all (λ (u : Bool). u) (map (lit m.truths) (map (λ i. equal_term (bit_term x i) (bit_term y i)) (counted 0 257)))
    ip_whole =
        ap (lit m.truths) e
        ∙ by_definition (two binary.Equal x y) (equal_of s.Ip x y) (equation_sort x y) (equal_definition x y sort.Ip s.Ip p.first_sort out_Ip) c

    ip_inputs : (i : ℕ) → i < 257 → Closed d env goal (equal_term (bit_term x i) (bit_term y i))
    ip_inputs i h =
        input_of (two binary.Equal x y) (equal_of s.Ip x y) (equal_term (bit_term x i) (bit_term y i))
        (equal_definition x y sort.Ip s.Ip p.first_sort out_Ip) c (bit_input 257 x y i h)

    first_block : AreBlockBits (bits_of m x)
    first_block = is.consistent.addresses x p.first p.first_sort

    second_block : AreBlockBits (bits_of m y)
    second_block = is.consistent.addresses y p.second p.second_sort

    ip_agrees : Agrees sort.Ip x y
    ip_agrees = record {
      same = λ t.
          let alike = bits_alike 257 x y (lit m.truths (equal_term x y)) ip_whole ip_inputs t in
          val_Ip m x
          ∙ ap (λ z. it (value.Ip z)) (addresses.only (ip_of (bits_of m x)) (ip_of (bits_of m y)) (addresses.fits (bits_of m x) first_block) (addresses.fits (bits_of m y) second_block)
          (λ k h. addresses.bits (bits_of m x) first_block k h ∙ alike k h ∙ sym (addresses.bits (bits_of m y) second_block k h)))
          ∙ sym (val_Ip m y);
      told = λ t.
          let one : ip_of (bits_of m x) ≡ ip_of (bits_of m y) =
          sym (ap ip_seen (out.out_Ip (ip_of (bits_of m x)))) ∙ ap ip_in (sym (val_Ip m x) ∙ t ∙ val_Ip m y) ∙ ap ip_seen (out.out_Ip (ip_of (bits_of m y))) in
          alike_bits 257 x y (lit m.truths (equal_term x y)) ip_whole ip_inputs
          (λ k h. sym (addresses.bits (bits_of m x) first_block k h) ∙ ap (λ z. ip_bit z k) one ∙ addresses.bits (bits_of m y) second_block k h);
    }

  pub long_step : Claim sort.Long
  long_step = by_straight sort.Long (ap bool_level out_Long) long_agrees

  pub decimal_step : Claim sort.Decimal
  decimal_step = by_straight sort.Decimal (ap bool_level out_Decimal) decimal_agrees

  pub ip_step : Claim sort.Ip
  ip_step = by_straight sort.Ip (ap bool_level out_Ip) ip_agrees

  -- ---- what has names

  pub string_step : Claim sort.String
  string_step x y p c =
      let named = is.texts x y (p.first, p.first_sort) (p.second, p.second_sort) in
      record {
        same = λ t. val_String m x ∙ ap (λ z. it (value.String z)) (named.1 t) ∙ sym (val_String m y);
        told = λ t.
            named.0 (sym (ap text_seen (out.out_String (m.text x))) ∙ ap text_in (sym (val_String m x) ∙ t ∙ val_String m y) ∙ ap text_seen (out.out_String (m.text y)));
      }

  pub entity_step : (name : List ℕ) (us : List Uid) → Claim (sort.Entity name us)
  entity_step name us x y p c =
      let named = is.uids name us x y (p.first, p.first_sort) (p.second, p.second_sort) in
      record {
        same = λ t. val_Entity m name us x ∙ ap (λ z. it (value.Entity z)) (named.1 t) ∙ sym (val_Entity m name us y);
        told = λ t.
            named.0 (sym (ap uid_seen (out.out_Entity (m.uid x))) ∙ ap uid_in (sym (val_Entity m name us x) ∙ t ∙ val_Entity m name us y) ∙ ap uid_seen (out.out_Entity (m.uid y)));
      }
