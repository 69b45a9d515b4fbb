-- One part of a duration more: what the rest says of the whole.
use Rattle.std.proofs.Common.{◌≡◌, ◌≢◌, ℕ, ◌+◌, ◌*◌, ◌^◌, ◌<◌, ◌≤◌, List, [], ◌∷◌, length, Option, Some, None, refl, ap, sym, ◌∙◌, arith, subst}
use Rattle.std.specs.Option.{SomeIff, IfSome, IfNone}
use Rattle.std.specs.Str.Parse.{digits_value}
use Rattle.sc_date_texts.specs.declared.unit.Unit.{Unit}
use Rattle.sc_date_texts.specs.declared.unit.Unit.TheVariants.{Day, Hour, Minute, Second, Millisecond}
use Rattle.sc_date_texts.specs.Units.{word_of, milliseconds_of}
use Rattle.sc_date_texts.specs.DurationText.{IsParts, nothing, without, with_unit}
use Rattle.sc_date_texts.specs.Fronts.{IsFront, front_digits}
use Rattle.sc_date_texts.specs.Apart.{AreApart}
use Rattle.sc_date_texts.proofs.PartLaws.{cut, begins, lacks, taken, take_unit, left_out, front_some}

-- a text has parts of one sum at most
pub parts_only : (us : List Unit) (text : List ℕ) (m n : ℕ) → AreApart us → IsParts us text m → IsParts us text n → m ≡ n
parts_only us text m n apart (nothing e z) q = none q
  where
    none : IsParts [] text n → m ≡ n
    none (nothing f y) = z ∙ sym y
parts_only us text m n apart (without {unit = u} {smaller = smaller} p) q = parts_only smaller text m n apart.1 p (other q)
  where
    other : IsParts (u ∷ smaller) text n → IsParts smaller text n
    other (without r) = r
    other (with_unit ds rest k e num r v) =
        let c = cut u text ds rest e num.1 (begins smaller rest k r) in
        absurd (lacks smaller text (word_of u) m apart.0 p (front_some text (subst (λ l. 0 < length l) (sym c.digits_are) num.0)) c.word_is)
parts_only us text m n apart (with_unit {unit = u} {smaller = smaller} ds rest k e num p v) q =
    let c = cut u text ds rest e num.1 (begins smaller rest k p) in
    let t = taken u smaller text n apart (subst (λ l. 0 < length l) (sym c.digits_are) num.0) c.word_is q in
    let same = parts_only smaller rest k t.0 apart.1 p (subst (λ r. IsParts smaller r t.0) c.rest_is t.1) in
    let value = ap (λ l. digits_value 10 l * milliseconds_of u) c.digits_are in
    let w = t.2 in
    omega arith

pub record IsTaken (units : List Unit) (u : Unit) (us : List Unit) (text ds word rest : List ℕ) : Type 0 where
  pub units_are : units ≡ u ∷ us
  pub apart : AreApart units
  pub front : IsFront text ds word rest
  pub is_part : (0 < length ds) × (word ≡ word_of u)

-- the sum of a text with this unit is that of its rest and of this part
taken_sum : (units : List Unit) (u : Unit) (us : List Unit) (text ds word rest : List ℕ) → IsTaken units u us text ds word rest → (n : ℕ) → IsParts units text n
    → (m : ℕ) × IsParts us rest m × (n ≡ digits_value 10 ds * milliseconds_of u + m)
taken_sum units u us text ds word rest t n p =
    let f = t.front in
    let k = taken u us text n (subst AreApart t.units_are t.apart) (subst (λ l. 0 < length l) f.digits_are t.is_part.0) (sym f.word_is ∙ t.is_part.1) (subst (λ l. IsParts l text n) t.units_are p) in
    (k.0, subst (λ l. IsParts us l k.0) (sym f.rest_is) k.1, k.2 ∙ ap (λ l. digits_value 10 l * milliseconds_of u + k.0) (sym f.digits_are))

-- a count of a unit is at most its milliseconds
unit_counts : (u : Unit) (n : ℕ) → n ≤ n * milliseconds_of u
unit_counts Day n = omega arith
unit_counts Hour n = omega arith
unit_counts Minute n = omega arith
unit_counts Second n = omega arith
unit_counts Millisecond n = omega arith

module _ (units : List Unit) (u : Unit) (us : List Unit) (text ds word rest : List ℕ) (t : IsTaken units u us text ds word rest) where
  pub large_number : (digits_value 10 ds < 2 ^ 64 → ⊥) → (n : ℕ) → n < 2 ^ 64 → IsParts units text n → ⊥
  large_number over n small p =
      let k = taken_sum units u us text ds word rest t n p in
      let one = unit_counts u (digits_value 10 ds) in let e = k.2 in
      over (omega arith)

  pub large_product : (digits_value 10 ds * milliseconds_of u < 2 ^ 64 → ⊥) → (n : ℕ) → n < 2 ^ 64 → IsParts units text n → ⊥
  large_product over n small p =
      let k = taken_sum units u us text ds word rest t n p in let e = k.2 in
      over (omega arith)

  pub no_rest : ((m : ℕ) → m < 2 ^ 64 → IsParts us rest m → ⊥) → (n : ℕ) → n < 2 ^ 64 → IsParts units text n → ⊥
  no_rest none n small p =
      let k = taken_sum units u us text ds word rest t n p in let e = k.2 in
      none k.0 (omega arith) k.1

  pub sum_some : (here m : ℕ) (r : Option ℕ) → here ≡ digits_value 10 ds * milliseconds_of u → IsParts us rest m → SomeIff r (here + m < 2 ^ 64) (here + m)
      → IfSome r (λ n. IsParts units text n)
  sum_some here m None v p h = tt
  sum_some here m (Some n) v p h =
      let f = t.front in
      let q = take_unit u us text m (subst (λ l. 0 < length l) f.digits_are t.is_part.0) (sym f.word_is ∙ t.is_part.1) (subst (λ l. IsParts us l m) f.rest_is p) in
      let e : n ≡ digits_value 10 (front_digits text) * milliseconds_of u + m = h.1 ∙ ap (λ x. x + m) v ∙ ap (λ l. digits_value 10 l * milliseconds_of u + m) f.digits_are in
      subst (λ l. IsParts l text n) (sym t.units_are) (subst (IsParts (u ∷ us) text) (sym e) q)

  pub sum_none : (here m : ℕ) (r : Option ℕ) → here ≡ digits_value 10 ds * milliseconds_of u → IsParts us rest m → SomeIff r (here + m < 2 ^ 64) (here + m)
      → IfNone r ((n : ℕ) → n < 2 ^ 64 → IsParts units text n → ⊥)
  sum_none here m None v p h = λ n small q.
      let k = taken_sum units u us text ds word rest t n q in
      let same = parts_only us rest k.0 m (subst AreApart t.units_are t.apart).1 k.1 p in let e = k.2 in
      h (omega arith)
  sum_none here m (Some x) v p h = tt

-- where the text begins with no digits and the word of the largest unit
pub none_of : (units : List Unit) (u : Unit) (us : List Unit) (text ds word rest : List ℕ) → units ≡ u ∷ us → IsFront text ds word rest → (((0 < length ds) × (word ≡ word_of u)) → ⊥)
    → (n : ℕ) → IsParts units text n → IsParts us text n
none_of units u us text ds word rest e f other n p =
    left_out u us text n (λ some is. other (subst (λ l. 0 < length l) (sym f.digits_are) some, f.word_is ∙ is)) (subst (λ l. IsParts l text n) e p)

pub left_some : (units : List Unit) (u : Unit) (us : List Unit) (text : List ℕ) (r : Option ℕ) → units ≡ u ∷ us → IfSome r (λ n. IsParts us text n) → IfSome r (λ n. IsParts units text n)
left_some units u us text None e h = tt
left_some units u us text (Some n) e h = subst (λ l. IsParts l text n) (sym e) (without h)

pub left_none : (units : List Unit) (us : List Unit) (text : List ℕ) (r : Option ℕ) → ((n : ℕ) → IsParts units text n → IsParts us text n)
    → IfNone r ((n : ℕ) → n < 2 ^ 64 → IsParts us text n → ⊥) → IfNone r ((n : ℕ) → n < 2 ^ 64 → IsParts units text n → ⊥)
left_none units us text None to h = λ n small p. h n small (to n p)
left_none units us text (Some m) to h = tt

pub no_length : {A : Type 0} (xs : List A) → length xs ≡ 0 → xs ≡ []
no_length [] e = refl
no_length (x ∷ xs) e = absurd (omega arith)

-- the product that the code forms
pub product_is : (v m n k : ℕ) → m ≡ n → k ≡ v → n * v < 2 ^ 64 → m * k < 2 ^ 64
product_is v m n k e f h = let p : m * k ≡ n * v = (λ i. e i * f i) in omega arith

pub here_is : (here m k n v : ℕ) → here ≡ m * k → m ≡ n → k ≡ v → here ≡ n * v
here_is here m k n v e f g = e ∙ (λ i. f i * g i)

pub no_units : (units : List Unit) (text : List ℕ) → units ≡ [] → text ≡ [] → IsParts units text 0
no_units units text e f = subst (λ l. IsParts l text 0) (sym e) (nothing f refl)

pub no_units_more : (units : List Unit) (text : List ℕ) → units ≡ [] → text ≢ [] → (n : ℕ) → IsParts units text n → ⊥
no_units_more units text e some n p = only (subst (λ l. IsParts l text n) e p)
  where
    only : IsParts [] text n → ⊥
    only (nothing f z) = some f
