-- Literals as a script writes them.
use Rattle.std.specs.Prelude.{◌-◌, ◌*◌, ◌^◌, ℕ, ℤ, Bool, true, false, List}
use Rattle.std.specs.Fmt.{decimal}
use Rattle.std.specs.Int.{cast_unsigned, w64}
use Rattle.sc_ip.specs.declared.ip.Ip.{Ip}
use Rattle.sc_ip.specs.declared.ip.Ip.TheVariants.{V4, V6}
use Rattle.sc_names.specs.declared.uid.Uid.{Uid}
use Rattle.sc_sorts.specs.declared.node.Literal.{Literal}
use Rattle.sc_sorts.specs.declared.node.Literal.TheVariants as literal
use Rattle.sc_smtlib_forms.specs.Forms.{plain, with_one, with_three}
use Rattle.sc_smtlib_forms.specs.Characters.{inner_text}
use Rattle.sc_smtlib_forms.specs.declared.form.Form.TheVariants as form
use Rattle.sc_smtlib_terms.specs.Sorts.{constructor_word}

abbrev pub truth_text : Bool → List ℕ
truth_text true = plain form.True
truth_text false = plain form.False

-- the highest bits set, so many
abbrev pub mask : ℕ → ℕ
mask prefix = 2 ^ 128 - 2 ^ (128 - prefix)

abbrev pub wide : ℕ → List ℕ
wide n = with_one form.Number128 (decimal n)

abbrev pub address_text : Bool → ℕ → ℕ → List ℕ
address_text is_v6 prefix address = with_three form.Address (truth_text is_v6) (wide (mask prefix)) (wide address)

-- an address of version 4 stands in the highest bits
abbrev pub ip_text : Ip → List ℕ
ip_text (V4 address prefix) = address_text false prefix (address * 2 ^ 96)
ip_text (V6 address prefix) = address_text true prefix address

abbrev pub uid_text : Uid → List Uid → List ℕ
uid_text u us = with_three form.Uid (constructor_word us) u.type_name (inner_text u.id)

-- a number of 64 bits, as one without a sign
abbrev pub long_text : ℤ → List ℕ
long_text n = with_one form.Number64 (decimal (cast_unsigned w64 n))

abbrev pub string_text : List ℕ → List ℕ
string_text text = with_one form.Text (inner_text text)

unfoldable pub literal_body : Literal → List ℕ
literal_body (literal.Bool b) = truth_text b
literal_body (literal.Long n) = long_text n
literal_body (literal.String text) = string_text text
literal_body (literal.Decimal n) = long_text n
literal_body (literal.Ip ip) = ip_text ip
literal_body (literal.Entity u us) = uid_text u us
