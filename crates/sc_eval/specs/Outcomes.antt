-- What evaluation gives, and values that have to be of one kind.
use Rattle.std.specs.Prelude.{ℕ, List, Bool, ℤ, pos, negsuc, ◌-◌, ◌^◌, ◌&&◌, int_le, if◌then◌else◌, Option, Some, None, Result, Ok, Err}
use Rattle.sc_ip.specs.declared.ip.Ip.{Ip}
use Rattle.sc_names.specs.declared.uid.Uid.{Uid}
use Rattle.sc_eval.specs.declared.error.EvalError.{EvalError}
use Rattle.sc_eval.specs.declared.error.EvalError.TheVariants.{TypeError, Overflow, BadText}
use Rattle.sc_values.specs.declared.value.Value.{Value, Value-F, out-Value}
use Rattle.sc_values.specs.declared.value.Value.TheOpen as v
use Rattle.sc_values.specs.declared.value.Value.TheVariants as value

-- a value, or why there is none
abbrev pub Outcome : Type 0
Outcome = Result Value EvalError

-- the first error stands
infixl 10 ◌>>=◌
abbrev pub ◌>>=◌ : {A B : Type 0} → Result A EvalError → (A → Result B EvalError) → Result B EvalError
(Ok x) >>= f = f x
(Err e) >>= f = Err e

-- ---- a value that has to be of one kind

abbrev pub bool_in : Value-F Value → Result Bool EvalError
bool_in (v.Bool b) = Ok b
bool_in _ = Err TypeError

abbrev pub long_in : Value-F Value → Result ℤ EvalError
long_in (v.Long n) = Ok n
long_in _ = Err TypeError

abbrev pub text_in : Value-F Value → Result (List ℕ) EvalError
text_in (v.String text) = Ok text
text_in _ = Err TypeError

abbrev pub entity_in : Value-F Value → Result Uid EvalError
entity_in (v.Entity u) = Ok u
entity_in _ = Err TypeError

abbrev pub set_in : Value-F Value → Result (List Value) EvalError
set_in (v.Set members) = Ok members
set_in _ = Err TypeError

abbrev pub decimal_in : Value-F Value → Result ℤ EvalError
decimal_in (v.Decimal n) = Ok n
decimal_in _ = Err TypeError

abbrev pub address_in : Value-F Value → Result Ip EvalError
address_in (v.Ip a) = Ok a
address_in _ = Err TypeError

abbrev pub as_bool : Value → Result Bool EvalError
as_bool x = bool_in (out-Value x)

abbrev pub as_long : Value → Result ℤ EvalError
as_long x = long_in (out-Value x)

abbrev pub as_text : Value → Result (List ℕ) EvalError
as_text x = text_in (out-Value x)

abbrev pub as_entity : Value → Result Uid EvalError
as_entity x = entity_in (out-Value x)

abbrev pub as_set : Value → Result (List Value) EvalError
as_set x = set_in (out-Value x)

abbrev pub as_decimal : Value → Result ℤ EvalError
as_decimal x = decimal_in (out-Value x)

abbrev pub as_address : Value → Result Ip EvalError
as_address x = address_in (out-Value x)

-- a Bool, and what it decides
abbrev pub decide : Outcome → (Bool → Outcome) → Outcome
decide o f = o >>= λ x. as_bool x >>= f

-- ---- what an operator gives

abbrev pub of_bool : Bool → Outcome
of_bool b = Ok (value.Bool b)

-- from the least to the greatest number of 64 bits
abbrev pub fits : ℤ → Bool
fits n = int_le (negsuc (2 ^ 63 - 1)) n && int_le n (pos (2 ^ 63 - 1))

abbrev pub of_long : ℤ → Outcome
of_long n = if fits n then Ok (value.Long n) else Err Overflow

-- what a text spells
abbrev pub of_text : {A : Type 0} → (A → Value) → Option A → Outcome
of_text kind None = Err BadText
of_text kind (Some x) = Ok (kind x)
