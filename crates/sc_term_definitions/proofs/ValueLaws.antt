-- What the values of truth values, numbers and addresses are, and their bits.
use Rattle.std.proofs.Common.{◌≡◌, ℕ, ℤ, Bool, true, false, None, FitsSigned, refl, sym, ap, ◌∙◌, subst}
use Rattle.std.specs.Int.{w64}
use Rattle.sc_ip.specs.declared.ip.Ip.{Ip}
use Rattle.sc_ip.specs.Addresses.{IsIp}
use Rattle.sc_schema.specs.Declarations.{Declarations}
use Rattle.sc_sorts.specs.declared.sort.Sort.{Sort}
use Rattle.sc_sorts.specs.declared.sort.Sort.TheVariants as sort
use Rattle.sc_sorts.specs.declared.sort.Sort.TheVariants.{rolls-Bool, rolls-Long, rolls-Decimal, rolls-Ip}
use Rattle.sc_sorts.specs.declared.sort.Sort.TheOpen as s
use Rattle.sc_sorts.specs.Defaults.{is_option}
use Rattle.sc_sorts.proofs.OutLaws.{out_Bool, out_Long, out_Decimal, out_Ip}
use Rattle.sc_values.specs.declared.value.Value.{Value, Value-F, out-Value, roll-Value, roll-out-Value}
use Rattle.sc_values.specs.declared.value.Value.TheVariants as value
use Rattle.sc_values.specs.declared.value.Value.TheOpen as v
use Rattle.sc_values.specs.Proper.{IsProper, IsProperLevel}
use Rattle.sc_values.proofs.LevelLaws as proper
use Rattle.sc_values.proofs.OutLaws as out
use Rattle.sc_world.specs.Conforms.{is_bool, is_long, is_decimal, is_ip}
use Rattle.sc_world.specs.Stores.{Entities}
use Rattle.sc_bits.specs.Bits.{bit64}
use Rattle.sc_bits.specs.Addresses.{ip_bit}
use Rattle.sc_terms.specs.Values.{Val, it, yes, value_in, truth, seen, bool_seen, level, number_in, number_seen, ip_in, ip_seen, bit_seen}
use Rattle.sc_terms.proofs.FoldValues.{truth_yes}
use Rattle.sc_term_laws.specs.Fitting.{Fits, as_value, as_option}
use Rattle.sc_term_laws.specs.Judging.{IsNumberSort, long, decimal}
use Rattle.sc_term_laws.proofs.FitVals.{fits_at, no_option_at}
use Rattle.sc_term_laws.proofs.FitSets.{value_of}

-- ---- by kind

bool_at : (x : Value-F Value) → is_bool x ≡ true → (b : Bool) × (x ≡ v.Bool b)
bool_at (v.Bool b) h = (b, refl)
bool_at _ h = absurd cc

long_at : (x : Value-F Value) → is_long x ≡ true → (n : ℤ) × (x ≡ v.Long n)
long_at (v.Long n) h = (n, refl)
long_at _ h = absurd cc

decimal_at : (x : Value-F Value) → is_decimal x ≡ true → (n : ℤ) × (x ≡ v.Decimal n)
decimal_at (v.Decimal n) h = (n, refl)
decimal_at _ h = absurd cc

ip_at : (x : Value-F Value) → is_ip x ≡ true → (a : Ip) × (x ≡ v.Ip a)
ip_at (v.Ip a) h = (a, refl)
ip_at _ h = absurd cc

-- a value by what it is made of
whole : (x : Value) (y : Value-F Value) (z : Value) → out-Value x ≡ y → roll-Value y ≡ z → x ≡ z
whole x y z e f = sym (roll-out-Value x) ∙ ap roll-Value e ∙ f

-- ---- numbers and addresses, and their bits

-- a number of 64 bits, made so
pub record IsNumber (make : ℤ → Value) (x : Val) : Type 0 where
  pub shown : x ≡ it (make (number_in x))
  pub bits : (i : ℕ) → bit_seen (level x) i ≡ bit64 (number_in x) i
  pub fits : FitsSigned w64 (number_in x)
  pub unseen : seen x ≡ None

pub record IsAddress (x : Val) : Type 0 where
  pub shown : x ≡ it (value.Ip (ip_in x))
  pub bits : bit_seen (level x) ≡ ip_bit (ip_in x)
  pub is : IsIp (ip_in x)
  pub unseen : seen x ≡ None

long_number : (n : ℤ) → FitsSigned w64 n → IsNumber value.Long (it (value.Long n))
long_number n h =
    let same : number_in (it (value.Long n)) ≡ n = ap number_seen (out.out_Long n) in
    record {
      shown = ap (λ (m : ℤ). it (value.Long m)) (sym same);
      bits = λ i. ap (λ (l : Value-F Value). bit_seen l i) (out.out_Long n) ∙ ap (λ (m : ℤ). bit64 m i) (sym same);
      fits = subst (FitsSigned w64) (sym same) h;
      unseen = ap bool_seen (out.out_Long n);
    }

decimal_number : (n : ℤ) → FitsSigned w64 n → IsNumber value.Decimal (it (value.Decimal n))
decimal_number n h =
    let same : number_in (it (value.Decimal n)) ≡ n = ap number_seen (out.out_Decimal n) in
    record {
      shown = ap (λ (m : ℤ). it (value.Decimal m)) (sym same);
      bits = λ i. ap (λ (l : Value-F Value). bit_seen l i) (out.out_Decimal n) ∙ ap (λ (m : ℤ). bit64 m i) (sym same);
      fits = subst (FitsSigned w64) (sym same) h;
      unseen = ap bool_seen (out.out_Decimal n);
    }

address : (a : Ip) → IsIp a → IsAddress (it (value.Ip a))
address a h =
    let same : ip_in (it (value.Ip a)) ≡ a = ap ip_seen (out.out_Ip a) in
    let bits : bit_seen (level (it (value.Ip a))) ≡ ip_bit a = λ k i. bit_seen (out.out_Ip a k) i in
    record {
      shown = ap (λ (p : Ip). it (value.Ip p)) (sym same);
      bits = bits ∙ ap ip_bit (sym same);
      is = subst IsIp (sym same) h;
      unseen = ap bool_seen (out.out_Ip a);
    }

-- ---- values that fit a sort

module _ (d : Declarations) (es : Entities) where
  abbrev FitsVal : Sort → Val → Type 0
  FitsVal = Fits d es

  is_value : (k : Sort) (x : Val) → is_option k ≡ false → FitsVal k x → x ≡ it (value_in x)
  is_value k _ none (as_value x same h) = refl
  is_value k _ none (as_option o some h) = absurd cc

  pub truth_is : (x : Val) → FitsVal sort.Bool x → x ≡ yes (truth x)
  truth_is x h =
      let none : is_option sort.Bool ≡ false = no_option_at sort.Bool s.Bool out_Bool refl in
      let is = value_of d es sort.Bool x none h in
      let told = bool_at (out-Value (value_in x)) (ap (λ (z : Value → Bool). z (value_in x)) (sym (fits_at sort.Bool s.Bool rolls-Bool)) ∙ is.of_sort) in
      let same : x ≡ yes told.0 = is_value sort.Bool x none h ∙ ap it (whole (value_in x) (v.Bool told.0) (value.Bool told.0) told.1 (value.rolls-Bool told.0)) in
      same ∙ ap yes (sym (truth_yes told.0) ∙ ap truth (sym same))

  pub long_is : (x : Val) → FitsVal sort.Long x → IsNumber value.Long x
  long_is x h =
      let none : is_option sort.Long ≡ false = no_option_at sort.Long s.Long out_Long refl in
      let is = value_of d es sort.Long x none h in
      let told = long_at (out-Value (value_in x)) (ap (λ (z : Value → Bool). z (value_in x)) (sym (fits_at sort.Long s.Long rolls-Long)) ∙ is.of_sort) in
      let same = whole (value_in x) (v.Long told.0) (value.Long told.0) told.1 (value.rolls-Long told.0) in
      let whole_is : x ≡ it (value.Long told.0) = is_value sort.Long x none h ∙ ap it same in
      subst (IsNumber value.Long) (sym whole_is) (long_number told.0 ((proper.in_Long IsProperLevel told.0).0 (subst IsProper same is.proper)))

  pub decimal_is : (x : Val) → FitsVal sort.Decimal x → IsNumber value.Decimal x
  decimal_is x h =
      let none : is_option sort.Decimal ≡ false = no_option_at sort.Decimal s.Decimal out_Decimal refl in
      let is = value_of d es sort.Decimal x none h in
      let told = decimal_at (out-Value (value_in x)) (ap (λ (z : Value → Bool). z (value_in x)) (sym (fits_at sort.Decimal s.Decimal rolls-Decimal)) ∙ is.of_sort) in
      let same = whole (value_in x) (v.Decimal told.0) (value.Decimal told.0) told.1 (value.rolls-Decimal told.0) in
      let whole_is : x ≡ it (value.Decimal told.0) = is_value sort.Decimal x none h ∙ ap it same in
      subst (IsNumber value.Decimal) (sym whole_is) (decimal_number told.0 ((proper.in_Decimal IsProperLevel told.0).0 (subst IsProper same is.proper)))

  pub address_is : (x : Val) → FitsVal sort.Ip x → IsAddress x
  address_is x h =
      let none : is_option sort.Ip ≡ false = no_option_at sort.Ip s.Ip out_Ip refl in
      let is = value_of d es sort.Ip x none h in
      let told = ip_at (out-Value (value_in x)) (ap (λ (z : Value → Bool). z (value_in x)) (sym (fits_at sort.Ip s.Ip rolls-Ip)) ∙ is.of_sort) in
      let same = whole (value_in x) (v.Ip told.0) (value.Ip told.0) told.1 (value.rolls-Ip told.0) in
      let whole_is : x ≡ it (value.Ip told.0) = is_value sort.Ip x none h ∙ ap it same in
      subst IsAddress (sym whole_is) (address told.0 ((proper.in_Ip IsProperLevel told.0).0 (subst IsProper same is.proper)))

  -- a number of either kind
  pub number_is : (k : Sort) (x : Val) → IsNumberSort k → FitsVal k x → (make : ℤ → Value) × IsNumber make x
  number_is _ x long h = (value.Long, long_is x h)
  number_is _ x decimal h = (value.Decimal, decimal_is x h)
