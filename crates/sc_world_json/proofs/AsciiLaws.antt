-- The texts of decimal numbers and of addresses are ASCII.
use Rattle.std.proofs.Common.{ℕ, suc, ◌+◌, ◌/◌, ◌%◌, ◌^◌, ◌<◌, ◌≤◌, ℤ, pos, negsuc, List, [], ◌∷◌, map, false, IsAscii, decimal, FitsSigned, w64, lit<, lit≤, arith}
use Rattle.std.proofs.lemmas.Bool.Decides.{nat_tests}
use Rattle.std.proofs.lemmas.Fmt.{IsAscii-decimal, digits_is_IsNumeral}
use Rattle.std.proofs.lemmas.Str.{IsAscii-append}
use Rattle.std.proofs.lemmas.Str.Ascii.{IsAscii-nil, IsAscii-cons}
use Rattle.std.specs.Char.{digit_value}
use Rattle.std.specs.Fmt.{digits}
use Rattle.std.specs.List.{AllByRecursion, join_with_byte}
use Rattle.std.specs.Str.Parse.{AllDigits}
use Rattle.sc_decimal.specs.DecimalText.{four_digits, magnitude_text, decimal_text}
use Rattle.sc_ip.specs.declared.ip.Ip.{Ip}
use Rattle.sc_ip.specs.declared.ip.Ip.TheVariants.{V4, V6}
use Rattle.sc_ip.specs.Addresses.{IsIp}
use Rattle.sc_ip.specs.IpText.{bytes_of, groups_of, ip_text}

-- ---- decimal numbers

four_low : (n : ℕ) → n < 10000 → IsAscii (four_digits n)
four_low n h =
    let last : IsAscii ((48 + n % 10) ∷ []) = IsAscii-cons (48 + n % 10) [] (omega arith) IsAscii-nil in
    let third : IsAscii ((48 + n / 10 % 10) ∷ (48 + n % 10) ∷ []) = IsAscii-cons (48 + n / 10 % 10) ((48 + n % 10) ∷ []) (omega arith) last in
    let second : IsAscii ((48 + n / 100 % 10) ∷ (48 + n / 10 % 10) ∷ (48 + n % 10) ∷ []) = IsAscii-cons (48 + n / 100 % 10) ((48 + n / 10 % 10) ∷ (48 + n % 10) ∷ []) (omega arith) third in
    IsAscii-cons (48 + n / 1000) ((48 + n / 100 % 10) ∷ (48 + n / 10 % 10) ∷ (48 + n % 10) ∷ []) (omega arith) second

magnitude_low : (n : ℕ) → n < 2 ^ 64 → IsAscii (magnitude_text n)
magnitude_low n h =
    IsAscii-append (decimal (n / 10000)) (46 ∷ four_digits (n % 10000)) (IsAscii-decimal (n / 10000) (omega arith))
    (IsAscii-cons 46 (four_digits (n % 10000)) (lit< tt) (four_low (n % 10000) (omega arith)))

pub decimal_low : (z : ℤ) → FitsSigned w64 z → IsAscii (decimal_text z)
decimal_low (pos n) h = magnitude_low n (omega arith)
decimal_low (negsuc n) h = IsAscii-cons 45 (magnitude_text (suc n)) (lit< tt) (magnitude_low (suc n) (omega arith))

-- ---- addresses

join_low : (c : ℕ) → c < 128 → (parts : List (List ℕ)) → AllByRecursion IsAscii parts → IsAscii (join_with_byte c parts)
join_low c h [] all = IsAscii-nil
join_low c h (x ∷ []) all = all.0
join_low c h (x ∷ y ∷ xs) all =
    IsAscii-append x (c ∷ join_with_byte c (y ∷ xs)) all.0 (IsAscii-cons c (join_with_byte c (y ∷ xs)) h (join_low c h (y ∷ xs) all.1))

hexadecimal_low : (c : ℕ) → digit_value c < 16 → c < 128
hexadecimal_low c h = grind (arith, nat_tests)

digits_low : (ds : List ℕ) → AllDigits 16 ds → IsAscii ds
digits_low [] d = IsAscii-nil
digits_low (c ∷ cs) d = IsAscii-cons c cs (hexadecimal_low c d.0) (digits_low cs d.1)

bytes_low : (ns : List ℕ) → AllByRecursion IsAscii (map (λ n. decimal (n % 256)) ns)
bytes_low [] = tt
bytes_low (n ∷ ns) = (IsAscii-decimal (n % 256) (omega arith), bytes_low ns)

groups_low : (ns : List ℕ) → AllByRecursion IsAscii (map (λ n. digits 16 false (n % 65536)) ns)
groups_low [] = tt
groups_low (n ∷ ns) = (digits_low (digits 16 false (n % 65536)) (digits_is_IsNumeral 16 false (lit≤ tt) (lit≤ tt) (n % 65536) (omega arith)).0.1, groups_low ns)

prefix_low : (prefix : ℕ) → prefix ≤ 128 → IsAscii (47 ∷ decimal prefix)
prefix_low prefix h = IsAscii-cons 47 (decimal prefix) (lit< tt) (IsAscii-decimal prefix (omega arith))

pub ip_low : (a : Ip) → IsIp a → IsAscii (ip_text a)
ip_low (V4 address prefix) h =
    let text = join_with_byte 46 (map decimal (bytes_of address)) in
    let low = join_low 46 (lit< tt) (map decimal (bytes_of address)) (bytes_low (map (λ place. address / 256 ^ place) (3 ∷ 2 ∷ 1 ∷ 0 ∷ []))) in
    IsAscii-append text (47 ∷ decimal prefix) low (prefix_low prefix (omega (arith, h.1)))
ip_low (V6 address prefix) h =
    let text = join_with_byte 58 (map (digits 16 false) (groups_of address)) in
    let low = join_low 58 (lit< tt) (map (digits 16 false) (groups_of address)) (groups_low (map (λ place. address / 65536 ^ place) (7 ∷ 6 ∷ 5 ∷ 4 ∷ 3 ∷ 2 ∷ 1 ∷ 0 ∷ []))) in
    IsAscii-append text (47 ∷ decimal prefix) low (prefix_low prefix (omega (arith, h.1)))
