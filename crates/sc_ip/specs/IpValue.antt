-- The address that a text stands for, found by going through the text: what a definition can compute with. It decides
-- the relation `IsIpText`.
use Rattle.std.specs.Prelude.{ℕ, ◌+◌, ◌-◌, List, [], ◌∷◌, ◌++◌, length, replicate, Option, Some, None, Bool, true, ◌&&◌, ◌==◌, nat_lt, nat_le, if◌then◌else◌, option_map}
use Rattle.std.specs.Option.{option_and_then}
use Rattle.std.specs.List.{slice_split}
use Rattle.std.specs.Char.{digit_value}
use Rattle.std.specs.Str.{bytes_eq}
use Rattle.std.specs.Str.Parse.{digits_value}
use Rattle.std.specs.Int.Digits.{number_from_digits}
use Rattle.std.specs.Fmt.{decimal}
use Rattle.sc_ip.specs.declared.ip.Ip.{Ip}
use Rattle.sc_ip.specs.declared.ip.Ip.TheVariants.{V4, V6}
use Rattle.sc_ip.specs.Addresses.{width_of}
use Rattle.sc_ip.specs.IpText.{with_prefix}

abbrev pub are_digits : ℕ → List ℕ → Bool
are_digits radix [] = true
are_digits radix (c ∷ cs) = nat_lt (digit_value c) radix && are_digits radix cs

abbrev pub decimal_group : List ℕ → Option ℕ
decimal_group text = let n = digits_value 10 text in if nat_lt n 256 && bytes_eq text (decimal n) then Some n else None

abbrev pub hexadecimal_group : List ℕ → Option ℕ
hexadecimal_group text = if nat_lt 0 (length text) && (are_digits 16 text && nat_le (length text) 4)
    then Some (digits_value 16 text) else None

-- the numbers of groups, if each is one
abbrev pub numbers_of_all : (List ℕ → Option ℕ) → List (List ℕ) → Option (List ℕ)
numbers_of_all number [] = Some []
numbers_of_all number (group ∷ groups) =
    option_and_then (λ n. option_map (λ ns. n ∷ ns) (numbers_of_all number groups)) (number group)

-- the numbers of the groups between separators, and none of the empty text
abbrev pub numbers_of : ℕ → (List ℕ → Option ℕ) → List ℕ → Option (List ℕ)
numbers_of separator number [] = Some []
numbers_of separator number (b ∷ bs) = numbers_of_all number (slice_split (λ c. c == separator) (b ∷ bs))

-- so many groups as one number
abbrev pub number_of : ℕ → ℕ → List ℕ → Option ℕ
number_of count base numbers = if length numbers == count then Some (number_from_digits base numbers) else None

abbrev pub v4_of : List ℕ → Option ℕ
v4_of text = option_and_then (number_of 4 256) (numbers_of 46 decimal_group text)

-- what stands before the first two colons, and behind them
abbrev pub cut_at_colons : List ℕ → Option (List ℕ × List ℕ)
cut_at_colons [] = None
cut_at_colons (b ∷ []) = None
cut_at_colons (b ∷ c ∷ bs) =
    if b == 58 && c == 58 then Some ([], bs) else option_map (λ p. (b ∷ p.0, p.1)) (cut_at_colons (c ∷ bs))

abbrev pub joined : List ℕ → List ℕ → Option ℕ
joined before after = if nat_le (length before + length after) 7
    then Some (number_from_digits 65536
    (before ++ (replicate (8 - (length before + length after)) 0 ++ after))) else None

abbrev pub gap_of : List ℕ × List ℕ → Option ℕ
gap_of p = option_and_then (λ before. option_and_then (joined before) (numbers_of 58 hexadecimal_group p.1))
    (numbers_of 58 hexadecimal_group p.0)

abbrev pub full_of : List ℕ → Option ℕ
full_of text = option_and_then (number_of 8 65536) (numbers_of 58 hexadecimal_group text)

abbrev pub v6_by : List ℕ → Option (List ℕ × List ℕ) → Option ℕ
v6_by text None = full_of text
v6_by text (Some p) = gap_of p

abbrev pub address_by : Option ℕ → Option ℕ → Option Ip
address_by (Some n) other = Some (V4 n 32)
address_by None other = option_map (λ n. V6 n 128) other

-- the address of a text without a prefix
unfoldable pub address_from : List ℕ → Option Ip
address_from text = address_by (v4_of text) (v6_by text (cut_at_colons text))

-- what stands before the first slash, and behind it
abbrev pub cut_at_slash : List ℕ → Option (List ℕ × List ℕ)
cut_at_slash [] = None
cut_at_slash (b ∷ bs) = if b == 47 then Some ([], bs) else option_map (λ p. (b ∷ p.0, p.1)) (cut_at_slash bs)

abbrev pub prefixed_by : Ip → ℕ → Option Ip
prefixed_by a n = if nat_le n (width_of a) then Some (with_prefix a n) else None

abbrev pub ip_by : List ℕ → Option (List ℕ × List ℕ) → Option Ip
ip_by text None = address_from text
ip_by text (Some p) = option_and_then (λ a. option_and_then (prefixed_by a) (decimal_group p.1)) (address_from p.0)

unfoldable pub ip_of : List ℕ → Option Ip
ip_of text = ip_by text (cut_at_slash text)
