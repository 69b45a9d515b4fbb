-- What each operator's term comes to, of operands whose values are of the kind that typing gives.
use Rattle.std.proofs.Common.{◌≡◌, ℕ, ℤ, pos, neg_ℤ, ◌+ℤ◌, ◌-ℤ◌, ◌*ℤ◌, int_lt, int_le, List, [], ◌∷◌, Bool, true, false, not, ◌||◌, if◌then◌else◌, Ok, Err, refl, ap, sym, subst, ◌∙◌, arith}
use Rattle.std.specs.Int.{w64, int_wrap}
use Rattle.std.specs.List.{list_any, list_all}
use Rattle.std.specs.Str.{chars}
use Rattle.std.proofs.Math.IntN.{+ℤ_idl}
use Rattle.std.proofs.lemmas.Int.{ints, int_wrap_fits}
use Rattle.std.proofs.lemmas.Bool.Decides.{nat_tests}
use Rattle.sc_bits.specs.Adders.{leaves64}
use Rattle.sc_bits.specs.Addresses.{ip_bit}
use Rattle.sc_ip.specs.declared.ip.Ip.{Ip}
use Rattle.sc_ip.specs.declared.ip.Ip.TheVariants.{V4, V6}
use Rattle.sc_ip.specs.Addresses.{is_version_4, is_in_range, is_loopback, is_multicast}
use Rattle.sc_pattern.specs.declared.part.Part.{Part}
use Rattle.sc_pattern.specs.Language.{is_match}
use Rattle.sc_values.specs.declared.value.Value.{Value, out-Value}
use Rattle.sc_values.specs.declared.value.Value.TheVariants as value
use Rattle.sc_values.proofs.OutLaws.{out_Long, out_String, out_Set, out_Decimal, out_Ip}
use Rattle.sc_world.specs.declared.world.World.{World}
use Rattle.sc_eval.specs.declared.error.EvalError.TheVariants.{Overflow}
use Rattle.sc_eval.specs.Outcomes.{Outcome, ◌>>=◌, fits, of_bool, of_long}
use Rattle.sc_eval.specs.Collections.{is_member}
use Rattle.sc_eval.specs.Operators.{is_empty}
use Rattle.sc_eval.specs.CollectionLaws.{any-decides}
use Rattle.sc_laws.proofs.BoolLaws.{same_truth}
use Rattle.sc_sorts.specs.Inside.{member_sort}
use Rattle.sc_sorts.specs.declared.node.Literal.TheVariants as literal
use Rattle.sc_sorts.specs.declared.node.UnaryOp.TheVariants as unary
use Rattle.sc_sorts.specs.declared.node.BinaryOp.TheVariants as binary
use Rattle.sc_sorts.specs.declared.node.Leaf.TheVariants.{Literal}
use Rattle.sc_terms.specs.Trees.{Tree, one, two}
use Rattle.sc_terms.specs.TreeSorts.{tree_sort}
use Rattle.sc_terms.specs.Folds.{literal_term, not_term, or_term, bit_term, set_term}
use Rattle.sc_terms.specs.Values.{Val, it, yes, val, level, number_seen, number_in, ip_seen, ip_in, members_seen, members_in, value_in, bit_seen, like_seen, has_member, set_from, not_value, or_value}
use Rattle.sc_terms.proofs.FoldValues.{not_yes, not_is, or_is, bit_is, like_is, one_is, two_is, leaf_is}
use Rattle.sc_terms.proofs.RecordValues.{set_value}
use Rattle.sc_constructs.specs.Code.{Code, less, less_code, less_or_equal_code, greater_code, greater_or_equal_code, sum_code, difference_code, product_code, zero_code, negative_code, contains_code, contains_all_code, contains_any_code, is_empty_code, is_version_4_code, is_version_6_code, in_range_code, within, in_either_code, is_loopback_code, is_multicast_code, like_code}
use Rattle.sc_symeval.specs.Agreement.{Meets, Agrees}
use Rattle.sc_symeval_laws.proofs.AgreeLaws.{or_yes, always_agrees, after_agrees, both_agree, where_agrees}

-- ---- numbers

le_is : (m n : ℤ) → int_le m n ≡ not (int_lt n m)
le_is m n = grind (arith, ints)

wrapped : (z : ℤ) → fits z ≡ true → int_wrap w64 z ≡ z
wrapped z h = int_wrap_fits w64 z (grind (arith, ints, nat_tests))

-- a truth value that a term has
truth_met : (g t : Val) (b : Bool) (o : Outcome) → g ≡ yes true → t ≡ yes b → o ≡ of_bool b → Meets g t o
truth_met g t b o e f is = subst (Meets g t) (sym is) (e, f)

-- a number that leaves the range errs
number_met : (g t : Val) (z : ℤ) (o : Outcome) → g ≡ yes (not (leaves64 z)) → t ≡ it (value.Long (int_wrap w64 z)) → o ≡ of_long z → Meets g t o
number_met g t z o e f is = subst (Meets g t) (sym is) (by (fits z) refl)
  where
    by : (b : Bool) → fits z ≡ b → Meets g t (of_long z)
    by true h =
        subst (λ (c : Bool). Meets g t (if c then Ok (value.Long z) else Err Overflow)) (sym h)
        (e ∙ ap (λ (c : Bool). yes (not (not c))) h, f ∙ ap (λ (n : ℤ). it (value.Long n)) (wrapped z h))
    by false h =
        subst (λ (c : Bool). Meets g t (if c then Ok (value.Long z) else Err Overflow)) (sym h)
        (e ∙ ap (λ (c : Bool). yes (not (not c))) h)

-- the number that a value is, or its ten-thousandths
abbrev pub IsNumber : Value → ℤ → Type 0
IsNumber x n = number_seen (out-Value x) ≡ n

pub of_long_value : (x : Value) (n : ℤ) → x ≡ value.Long n → IsNumber x n
of_long_value x n e = ap number_seen (ap out-Value e ∙ out_Long n)

pub of_decimal_value : (x : Value) (n : ℤ) → x ≡ value.Decimal n → IsNumber x n
of_decimal_value x n e = ap number_seen (ap out-Value e ∙ out_Decimal n)

nothing_from : set_from [] ≡ []
unfolding set_from
nothing_from = refl

module _ (w : World) where
  number_of : (t : Tree) (x : Value) (n : ℤ) → val t w ≡ it x → IsNumber x n → number_in (val t w) ≡ n
  number_of t x n h e = ap number_in h ∙ e

  less_val : (a b : Tree) (m n : ℤ) → number_in (val a w) ≡ m → number_in (val b w) ≡ n → val (less a b) w ≡ yes (int_lt m n)
  less_val a b m n p q = two_is binary.Less a b w ∙ λ i. yes (int_lt (p i) (q i))

  not_less_val : (a b : Tree) (m n : ℤ) → number_in (val a w) ≡ m → number_in (val b w) ≡ n → val (not_term (less b a)) w ≡ yes (int_le m n)
  not_less_val a b m n p q = not_is (less b a) w ∙ ap not_value (less_val b a n m q p) ∙ not_yes (int_lt n m) ∙ ap yes (sym (le_is m n))

  -- two operands that are numbers
  abbrev AreNumbers : (ℤ → ℤ → Outcome) → Outcome → Outcome → (Value → Value → Outcome) → Type 0
  AreNumbers g o p f = (x y : Value) → o ≡ Ok x → p ≡ Ok y → (m : ℤ) × (n : ℤ) × IsNumber x m × IsNumber y n × (f x y ≡ g m n)

  module _ (a b : Code) (o p : Outcome) (f : Value → Value → Outcome) (h : Agrees w a o) (k : Agrees w b p) where
    -- `a < b`, `a <= b`, `a > b`, `a >= b`

    pub less_agrees : AreNumbers (λ m n. of_bool (int_lt m n)) o p f → Agrees w (less_code a b) (o >>= λ x. p >>= λ y. f x y)
    less_agrees g = both_agree w a b _ o p f h k λ x y e d u v.
        let r = g x y e d in truth_met _ _ (int_lt r.0 r.1) (f x y) refl (less_val a.val b.val r.0 r.1 (number_of a.val x r.0 u r.2) (number_of b.val y r.1 v r.3)) r.4

    pub less_or_equal_agrees : AreNumbers (λ m n. of_bool (int_le m n)) o p f → Agrees w (less_or_equal_code a b) (o >>= λ x. p >>= λ y. f x y)
    less_or_equal_agrees g = both_agree w a b _ o p f h k λ x y e d u v.
        let r = g x y e d in truth_met _ _ (int_le r.0 r.1) (f x y) refl (not_less_val a.val b.val r.0 r.1 (number_of a.val x r.0 u r.2) (number_of b.val y r.1 v r.3)) r.4

    pub greater_agrees : AreNumbers (λ m n. of_bool (int_lt n m)) o p f → Agrees w (greater_code a b) (o >>= λ x. p >>= λ y. f x y)
    greater_agrees g = both_agree w a b _ o p f h k λ x y e d u v.
        let r = g x y e d in truth_met _ _ (int_lt r.1 r.0) (f x y) refl (less_val b.val a.val r.1 r.0 (number_of b.val y r.1 v r.3) (number_of a.val x r.0 u r.2)) r.4

    pub greater_or_equal_agrees : AreNumbers (λ m n. of_bool (int_le n m)) o p f → Agrees w (greater_or_equal_code a b) (o >>= λ x. p >>= λ y. f x y)
    greater_or_equal_agrees g = both_agree w a b _ o p f h k λ x y e d u v.
        let r = g x y e d in truth_met _ _ (int_le r.1 r.0) (f x y) refl (not_less_val b.val a.val r.1 r.0 (number_of b.val y r.1 v r.3) (number_of a.val x r.0 u r.2)) r.4

    -- `a + b`, `a - b`, `a * b`

    pub sum_agrees : AreNumbers (λ m n. of_long (m +ℤ n)) o p f → Agrees w (sum_code a b) (o >>= λ x. p >>= λ y. f x y)
    sum_agrees g = where_agrees w a b _ _ o p f h k λ x y e d u v.
        let r = g x y e d in
        let m = number_of a.val x r.0 u r.2 in
        let n = number_of b.val y r.1 v r.3 in
        number_met _ _ (r.0 +ℤ r.1) (f x y)
        (not_is (two binary.AddOverflows a.val b.val) w ∙ ap not_value (two_is binary.AddOverflows a.val b.val w ∙ λ i. yes (leaves64 (m i +ℤ n i))) ∙ not_yes (leaves64 (r.0 +ℤ r.1)))
        (two_is binary.Add a.val b.val w ∙ λ i. it (value.Long (int_wrap w64 (m i +ℤ n i)))) r.4

    pub difference_agrees : AreNumbers (λ m n. of_long (m -ℤ n)) o p f → Agrees w (difference_code a b) (o >>= λ x. p >>= λ y. f x y)
    difference_agrees g = where_agrees w a b _ _ o p f h k λ x y e d u v.
        let r = g x y e d in
        let m = number_of a.val x r.0 u r.2 in
        let n = number_of b.val y r.1 v r.3 in
        number_met _ _ (r.0 -ℤ r.1) (f x y)
        (not_is (two binary.SubtractOverflows a.val b.val) w ∙ ap not_value (two_is binary.SubtractOverflows a.val b.val w ∙ λ i. yes (leaves64 (m i -ℤ n i))) ∙ not_yes (leaves64 (r.0 -ℤ r.1)))
        (two_is binary.Subtract a.val b.val w ∙ λ i. it (value.Long (int_wrap w64 (m i -ℤ n i)))) r.4

    pub product_agrees : AreNumbers (λ m n. of_long (m *ℤ n)) o p f → Agrees w (product_code a b) (o >>= λ x. p >>= λ y. f x y)
    product_agrees g = where_agrees w a b _ _ o p f h k λ x y e d u v.
        let r = g x y e d in
        let m = number_of a.val x r.0 u r.2 in
        let n = number_of b.val y r.1 v r.3 in
        number_met _ _ (r.0 *ℤ r.1) (f x y)
        (not_is (two binary.MultiplyOverflows a.val b.val) w ∙ ap not_value (two_is binary.MultiplyOverflows a.val b.val w ∙ λ i. yes (leaves64 (m i *ℤ n i))) ∙ not_yes (leaves64 (r.0 *ℤ r.1)))
        (two_is binary.Multiply a.val b.val w ∙ λ i. it (value.Long (int_wrap w64 (m i *ℤ n i)))) r.4

    -- ---- sets

    abbrev AreSets : (List Value → List Value → Outcome) → Type 0
    AreSets g = (x y : Value) → o ≡ Ok x → p ≡ Ok y → (s : List Value) × (t : List Value) × (x ≡ value.Set s) × (y ≡ value.Set t) × (f x y ≡ g s t)

    pub contains_agrees : ((x y : Value) → o ≡ Ok x → p ≡ Ok y → (s : List Value) × (x ≡ value.Set s) × (f x y ≡ of_bool (is_member s y)))
        → Agrees w (contains_code a b) (o >>= λ x. p >>= λ y. f x y)
    contains_agrees g = both_agree w a b _ o p f h k λ x y e d u v.
        let r = g x y e d in
        let s = members_of a.val x r.0 u r.1 in
        let z = ap value_in v in
        truth_met _ _ (is_member r.0 y) (f x y) refl (two_is binary.Member b.val a.val w ∙ λ i. yes (has_member (s i) (z i))) r.2
      where
        members_of : (t : Tree) (x : Value) (s : List Value) → val t w ≡ it x → x ≡ value.Set s → members_in (val t w) ≡ s
        members_of t x s u e = ap members_in u ∙ ap members_seen (ap out-Value e ∙ out_Set s)

    pub contains_all_agrees : AreSets (λ s t. of_bool (list_all (is_member s) t)) → Agrees w (contains_all_code a b) (o >>= λ x. p >>= λ y. f x y)
    contains_all_agrees g = both_agree w a b _ o p f h k λ x y e d u v.
        let r = g x y e d in
        let s = ap members_in u ∙ ap members_seen (ap out-Value r.2 ∙ out_Set r.0) in
        let t = ap members_in v ∙ ap members_seen (ap out-Value r.3 ∙ out_Set r.1) in
        truth_met _ _ (list_all (is_member r.0) r.1) (f x y) refl (two_is binary.Subset b.val a.val w ∙ λ i. yes (list_all (has_member (s i)) (t i))) r.4

    pub contains_any_agrees : AreSets (λ s t. of_bool (list_any (is_member s) t)) → Agrees w (contains_any_code a b) (o >>= λ x. p >>= λ y. f x y)
    contains_any_agrees g = both_agree w a b _ o p f h k λ x y e d u v.
        let r = g x y e d in
        let s = ap members_in u ∙ ap members_seen (ap out-Value r.2 ∙ out_Set r.0) in
        let t = ap members_in v ∙ ap members_seen (ap out-Value r.3 ∙ out_Set r.1) in
        truth_met _ _ (list_any (is_member r.0) r.1) (f x y) refl (two_is binary.Common a.val b.val w ∙ (λ i. yes (list_any (has_member (t i)) (s i))) ∙ ap yes (exchanged r.0 r.1)) r.4
      where
        -- some member of one is in the other, either way round
        exchanged : (s t : List Value) → list_any (is_member t) s ≡ list_any (is_member s) t
        exchanged s t = same_truth _ _ (any-decides s t) (let d = any-decides t s in (λ h. let m = d.0 h in (m.0, m.2, m.1), λ m. d.1 (m.0, m.2, m.1)))

    -- ---- addresses

    pub in_range_agrees : ((x y : Value) → o ≡ Ok x → p ≡ Ok y → (c : Ip) × (d : Ip) × (x ≡ value.Ip c) × (y ≡ value.Ip d) × (f x y ≡ of_bool (is_in_range c d)))
        → Agrees w (in_range_code a b) (o >>= λ x. p >>= λ y. f x y)
    in_range_agrees g = both_agree w a b _ o p f h k λ x y e d u v.
        let r = g x y e d in
        let c = ap ip_in u ∙ ap ip_seen (ap out-Value r.2 ∙ out_Ip r.0) in
        let q = ap ip_in v ∙ ap ip_seen (ap out-Value r.3 ∙ out_Ip r.1) in
        truth_met _ _ (is_in_range r.0 r.1) (f x y) refl (two_is binary.InRange a.val b.val w ∙ λ i. yes (is_in_range (c i) (q i))) r.4

  -- ---- one operand

  -- the bit that tells the version
  version_bit : (a : Ip) → ip_bit a 0 ≡ not (is_version_4 a)
  version_bit (V4 x p) = refl
  version_bit (V6 x p) = refl

  one_bit : (t : Tree) (x : Value) (c : Ip) → val t w ≡ it x → x ≡ value.Ip c → val (one (unary.Bit 0) t) w ≡ yes (ip_bit c 0)
  one_bit t x c u e = one_is (unary.Bit 0) t w ∙ ap (λ (v : Val). yes (bit_seen (level v) 0)) (u ∙ ap it e) ∙ ap (λ z. yes (bit_seen z 0)) (out_Ip c)

  pub either_val : (a b : Tree) (p q : Bool) → val a w ≡ yes p → val b w ≡ yes q → val (or_term a b) w ≡ yes (p || q)
  either_val a b true q h k = or_is a b w ∙ ap (λ (v : Val). or_value v (val b w)) h ∙ or_yes true (val b w)
  either_val a b false q h k = or_is a b w ∙ ap (λ (v : Val). or_value v (val b w)) h ∙ or_yes false (val b w) ∙ k

  within_val : (range : Ip) (t : Tree) (a : Ip) → ip_in (val t w) ≡ a → val (within range t) w ≡ yes (is_in_range a range)
  within_val range t a h =
      two_is binary.InRange t (literal_term (literal.Ip range)) w
      ∙ λ i. yes (is_in_range (h i) ((ap ip_in (leaf_is (Literal (literal.Ip range)) w) ∙ ap ip_seen (out_Ip range)) i))

  module _ (a : Code) (o : Outcome) (f : Value → Outcome) (h : Agrees w a o) where
    -- `-a`
    pub negative_agrees : ((x : Value) → o ≡ Ok x → (n : ℤ) × IsNumber x n × (f x ≡ of_long (neg_ℤ n))) → Agrees w (negative_code a) (o >>= f)
    negative_agrees g =
        difference_agrees zero_code a (Ok (value.Long (pos 0))) o (λ z x. f x) (always_agrees w _ (value.Long (pos 0)) (leaf_is (Literal (literal.Long (pos 0))) w)) h
        (λ z x e d. let r = g x d in (pos 0, r.0, zero_is z e, r.1, r.2 ∙ ap of_long (below r.0)))
      where
        zero_is : (z : Value) → ◌≡◌ {A = Outcome} (Ok (value.Long (pos 0))) (Ok z) → IsNumber z (pos 0)
        zero_is z e = ap (λ (r : Outcome). number_of_ok r) (sym e) ∙ ap number_seen (out_Long (pos 0))
          where
            number_of_ok : Outcome → ℤ
            number_of_ok (Ok x) = number_seen (out-Value x)
            number_of_ok (Err e) = pos 0

        below : (n : ℤ) → neg_ℤ n ≡ pos 0 -ℤ n
        below n = sym (+ℤ_idl (neg_ℤ n))

    abbrev IsAddress : (Ip → Bool) → Type 0
    IsAddress g = (x : Value) → o ≡ Ok x → (c : Ip) × (x ≡ value.Ip c) × (f x ≡ of_bool (g c))

    pub version_6_agrees : IsAddress (λ c. not (is_version_4 c)) → Agrees w (is_version_6_code a) (o >>= f)
    version_6_agrees g = after_agrees w a _ o f h λ x e u.
        let r = g x e in
        truth_met _ _ (not (is_version_4 r.0)) (f x) refl (bit_is a.val 0 w ∙ one_bit a.val x r.0 u r.1 ∙ ap yes (version_bit r.0)) r.2

    pub version_4_agrees : IsAddress is_version_4 → Agrees w (is_version_4_code a) (o >>= f)
    version_4_agrees g = after_agrees w a _ o f h λ x e u.
        let r = g x e in
        truth_met _ _ (is_version_4 r.0) (f x) refl
        (not_is (bit_term a.val 0) w ∙ ap not_value (bit_is a.val 0 w ∙ one_bit a.val x r.0 u r.1 ∙ ap yes (version_bit r.0)) ∙ not_yes (not (is_version_4 r.0)) ∙ ap yes (twice (is_version_4 r.0))) r.2
      where
        twice : (b : Bool) → not (not b) ≡ b
        twice true = refl
        twice false = refl

    in_either_agrees : (r q : Ip) (test : Ip → Bool) → ((c : Ip) → test c ≡ (is_in_range c r || is_in_range c q)) → IsAddress test → Agrees w (in_either_code r q a) (o >>= f)
    in_either_agrees r q test same g = after_agrees w a _ o f h λ x e u.
        let t = g x e in
        let c = ap ip_in u ∙ ap ip_seen (ap out-Value t.1 ∙ out_Ip t.0) in
        truth_met _ _ (test t.0) (f x) refl
        (either_val (within r a.val) (within q a.val) (is_in_range t.0 r) (is_in_range t.0 q) (within_val r a.val t.0 c) (within_val q a.val t.0 c) ∙ ap yes (sym (same t.0))) t.2

    pub loopback_agrees : IsAddress is_loopback → Agrees w (is_loopback_code a) (o >>= f)
    loopback_agrees = in_either_agrees (V4 0x7f00_0000 8) (V6 1 128) is_loopback (λ c. refl)

    pub multicast_agrees : IsAddress is_multicast → Agrees w (is_multicast_code a) (o >>= f)
    multicast_agrees = in_either_agrees (V4 0xe000_0000 4) (V6 0xff00_0000_0000_0000_0000_0000_0000_0000 8) is_multicast (λ c. refl)

    -- `a.isEmpty()`
    pub is_empty_agrees : ((x : Value) → o ≡ Ok x → (s : List Value) × (x ≡ value.Set s) × (f x ≡ of_bool (is_empty s))) → Agrees w (is_empty_code a) (o >>= f)
    is_empty_agrees g = after_agrees w a _ o f h λ x e u.
        let r = g x e in
        let s = ap members_in u ∙ ap members_seen (ap out-Value r.1 ∙ out_Set r.0) in
        truth_met _ _ (is_empty r.0) (f x) refl
        (two_is binary.Subset a.val (set_term (member_sort (tree_sort a.val)) []) w ∙ (λ i. yes (list_all (has_member (none_in i)) (s i))) ∙ ap yes (no_member r.0)) r.2
      where
        none_in : members_in (val (set_term (member_sort (tree_sort a.val)) []) w) ≡ []
        none_in = ap members_in (set_value (member_sort (tree_sort a.val)) [] w ∙ ap (λ (xs : List Value). it (value.Set xs)) nothing_from) ∙ ap members_seen (out_Set [])

        no_member : (s : List Value) → list_all (has_member []) s ≡ is_empty s
        no_member [] = refl
        no_member (x ∷ xs) = refl

    -- `a like "pattern"`
    pub like_agrees : (pattern : List Part) → ((x : Value) → o ≡ Ok x → (text : List ℕ) × (x ≡ value.String text) × (f x ≡ of_bool (is_match pattern (chars text)))) → Agrees w (like_code pattern a) (o >>= f)
    like_agrees pattern g = after_agrees w a _ o f h λ x e u.
        let r = g x e in
        truth_met _ _ (is_match pattern (chars r.0)) (f x) refl (like_is a.val pattern w ∙ like_val a.val x r.0 u r.1) r.2
      where
        like_val : (t : Tree) (x : Value) (text : List ℕ) → val t w ≡ it x → x ≡ value.String text → val (one (unary.Like pattern) t) w ≡ yes (is_match pattern (chars text))
        like_val t x text u e = one_is (unary.Like pattern) t w ∙ ap (λ (v : Val). yes (like_seen (level v) pattern)) (u ∙ ap it e) ∙ ap (λ z. yes (like_seen z pattern)) (out_String text)
