-- Values of a type, by the kind of the type, and operators on values of their kinds.
use Rattle.std.proofs.Common.{◌≡◌, ℤ, List, true, Ok, IsTrue, ap, sym, ◌∙◌}
use Rattle.sc_ip.specs.declared.ip.Ip.{Ip}
use Rattle.sc_schema.specs.declared.ty.Ty.{Ty, Ty-F, out-Ty}
use Rattle.sc_schema.specs.declared.ty.Ty.TheOpen as t
use Rattle.sc_values.specs.declared.value.Value.{Value, out-Value, roll-Value, roll-out-Value}
use Rattle.sc_values.specs.declared.value.Value.TheOpen as v
use Rattle.sc_values.specs.declared.value.Value.TheVariants as value
use Rattle.sc_values.specs.declared.value.Value.TheVariants.{rolls-Long, rolls-Decimal, rolls-Ip}
use Rattle.sc_values.proofs.OutLaws.{out_Long, out_Decimal, out_Ip, out_Set}
use Rattle.sc_world.specs.declared.world.World.{World}
use Rattle.sc_eval.specs.Outcomes.{Outcome, ◌>>=◌, as_long, as_decimal, as_address, as_set, long_in, decimal_in, address_in, set_in}
use Rattle.sc_eval.specs.Operators.{longs, decimals, addresses, sets}
use Rattle.sc_typed.specs.Types.{is_long, is_long_in, is_decimal, is_decimal_in, is_ip, is_ip_in}
use Rattle.sc_soundness_laws.specs.Sound.{IsOf}
use Rattle.sc_soundness_laws.proofs.ValueLaws.{fits, conforms-out, decimal_value, ip_value, long_value}

-- ---- the number or the address that a value is

long_at : (y : Ty-F Ty) (x : Value) → is_long_in y ≡ true → IsTrue (fits y x) → (n : ℤ) × (out-Value x ≡ v.Long n)
long_at t.Long x k h = long_value (out-Value x) h
long_at y x k h = absurd cc

decimal_at : (y : Ty-F Ty) (x : Value) → is_decimal_in y ≡ true → IsTrue (fits y x) → (n : ℤ) × (out-Value x ≡ v.Decimal n)
decimal_at t.Decimal x k h = decimal_value (out-Value x) h
decimal_at y x k h = absurd cc

ip_at : (y : Ty-F Ty) (x : Value) → is_ip_in y ≡ true → IsTrue (fits y x) → (a : Ip) × (out-Value x ≡ v.Ip a)
ip_at t.Ip x k h = ip_value (out-Value x) h
ip_at y x k h = absurd cc

module _ (w : World) where
  pub long_of : (type : Ty) (x : Value) → is_long type ≡ true → IsOf w type x → (n : ℤ) × (x ≡ value.Long n)
  long_of type x k h = let p = long_at (out-Ty type) x k (sym (conforms-out type x) ∙ h.conforming) in (p.0, sym (roll-out-Value x) ∙ ap roll-Value p.1 ∙ rolls-Long p.0)

  pub decimal_of : (type : Ty) (x : Value) → is_decimal type ≡ true → IsOf w type x → (n : ℤ) × (x ≡ value.Decimal n)
  decimal_of type x k h = let p = decimal_at (out-Ty type) x k (sym (conforms-out type x) ∙ h.conforming) in (p.0, sym (roll-out-Value x) ∙ ap roll-Value p.1 ∙ rolls-Decimal p.0)

  pub address_of : (type : Ty) (x : Value) → is_ip type ≡ true → IsOf w type x → (a : Ip) × (x ≡ value.Ip a)
  address_of type x k h = let p = ip_at (out-Ty type) x k (sym (conforms-out type x) ∙ h.conforming) in (p.0, sym (roll-out-Value x) ∙ ap roll-Value p.1 ∙ rolls-Ip p.0)

-- ---- operators on them

pub long_is : (x : Value) (n : ℤ) → x ≡ value.Long n → as_long x ≡ Ok n
long_is x n e = ap long_in (ap out-Value e ∙ out_Long n)

pub decimal_is : (x : Value) (n : ℤ) → x ≡ value.Decimal n → as_decimal x ≡ Ok n
decimal_is x n e = ap decimal_in (ap out-Value e ∙ out_Decimal n)

pub address_is : (x : Value) (a : Ip) → x ≡ value.Ip a → as_address x ≡ Ok a
address_is x a e = ap address_in (ap out-Value e ∙ out_Ip a)

pub set_is : (x : Value) (s : List Value) → x ≡ value.Set s → as_set x ≡ Ok s
set_is x s e = ap set_in (ap out-Value e ∙ out_Set s)

pub longs_are : (x y : Value) (m n : ℤ) (f : ℤ → ℤ → Outcome) → x ≡ value.Long m → y ≡ value.Long n → longs x y f ≡ f m n
longs_are x y m n f e d = ap (λ r. r >>= λ i. as_long y >>= λ j. f i j) (long_is x m e) ∙ ap (λ r. r >>= λ j. f m j) (long_is y n d)

pub decimals_are : (x y : Value) (m n : ℤ) (f : ℤ → ℤ → Outcome) → x ≡ value.Decimal m → y ≡ value.Decimal n → decimals x y f ≡ f m n
decimals_are x y m n f e d = ap (λ r. r >>= λ i. as_decimal y >>= λ j. f i j) (decimal_is x m e) ∙ ap (λ r. r >>= λ j. f m j) (decimal_is y n d)

pub addresses_are : (x y : Value) (a b : Ip) (f : Ip → Ip → Outcome) → x ≡ value.Ip a → y ≡ value.Ip b → addresses x y f ≡ f a b
addresses_are x y a b f e d = ap (λ r. r >>= λ i. as_address y >>= λ j. f i j) (address_is x a e) ∙ ap (λ r. r >>= λ j. f a j) (address_is y b d)

pub sets_are : (x y : Value) (s t : List Value) (f : List Value → List Value → Outcome) → x ≡ value.Set s → y ≡ value.Set t → sets x y f ≡ f s t
sets_are x y s t f e d = ap (λ r. r >>= λ i. as_set y >>= λ j. f i j) (set_is x s e) ∙ ap (λ r. r >>= λ j. f s j) (set_is y t d)
