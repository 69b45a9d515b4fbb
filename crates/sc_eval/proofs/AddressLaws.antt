-- The address that a text stands for is within its version's bits.
use Rattle.std.proofs.Common.{◌≡◌, ℕ, zero, suc, ◌+◌, ◌-◌, ◌^◌, ◌<◌, ◌≤◌, List, [], ◌∷◌, ◌++◌, length, replicate, arith, lit<, lit≤, ap, sym, ◌∙◌, subst, length-append}
use Rattle.std.specs.Int.Digits.{AllBelowBase, number_from_digits}
use Rattle.std.proofs.lemmas.Int.Digits.{number_lt}
use Rattle.std.proofs.lemmas.List.{length-replicate}
use Rattle.sc_lists.proofs.ListLaws.{all_append}
use Rattle.sc_ip.specs.declared.ip.Ip.{Ip}
use Rattle.sc_ip.specs.declared.ip.Ip.TheVariants.{V4, V6}
use Rattle.sc_ip.specs.declared.notation.Notation.TheVariants.{Hexadecimal}
use Rattle.sc_ip.specs.Addresses.{IsIp}
use Rattle.sc_ip.specs.IpText.{IsHexadecimalGroup, AreGroups, IsV6Text, full, gap, IsAddressText, v4, v6, IsIpText, alone, prefixed}
use Rattle.sc_ip.proofs.GroupLaws.{group-lt}
use Rattle.sc_ip.proofs.AddressLaws.{v4-lt}

groups_below : (text ns : List ℕ) → AreGroups 58 IsHexadecimalGroup text ns → AllBelowBase 65536 ns
groups_below text [] g = tt
groups_below text (n ∷ []) g = (group-lt Hexadecimal text n g, tt)
groups_below text (n ∷ m ∷ ns) g = (group-lt Hexadecimal g.0 n g.3, groups_below g.1 (m ∷ ns) g.4)

zeros_below : (k : ℕ) → AllBelowBase 65536 (replicate k 0)
zeros_below zero = tt
zeros_below (suc k) = (lit< tt, zeros_below k)

-- eight numbers of 16 bits
eight_fit : (ns : List ℕ) (a : ℕ) → AllBelowBase 65536 ns → length ns ≡ 8 → a ≡ number_from_digits 65536 ns → a < 2 ^ 128
eight_fit ns a below eight value =
    let l = number_lt 65536 ns below in
    let e : 65536 ^ length ns ≡ 65536 ^ 8 = ap (λ k. 65536 ^ k) eight in
    omega arith

whole : (m n k : ℕ) → m + n ≤ 7 → k ≡ 8 - (m + n) → m + (k + n) ≡ 8
whole m n k few is = omega (arith, few, is)

-- at most seven groups and the zeros for the others
eight_in_all : (before after : List ℕ) → length before + length after ≤ 7 → length (before ++ (replicate (8 - (length before + length after)) 0 ++ after)) ≡ 8
eight_in_all before after few =
    let zeros : List ℕ = replicate (8 - (length before + length after)) 0 in
    length-append before (zeros ++ after) ∙ ap (λ (n : ℕ). length before + n) (length-append zeros after)
    ∙ whole (length before) (length after) (length zeros) few (length-replicate {A = ℕ} (8 - (length before + length after)) 0)

v6-lt : (text : List ℕ) (a : ℕ) → IsV6Text text a → a < 2 ^ 128
v6-lt text a (full f) = eight_fit f.numbers a (groups_below text f.numbers f.groups) f.eight f.value
v6-lt text a (gap {front = front} {back = back} cut g) =
    let zeros : List ℕ = replicate (8 - (length g.before + length g.after)) 0 in
    eight_fit (g.before ++ (zeros ++ g.after)) a
    (all_append (λ d. d < 65536) g.before (zeros ++ g.after) (groups_below front g.before g.front_groups) (all_append (λ d. d < 65536) zeros g.after (zeros_below (8 - (length g.before + length g.after))) (groups_below back g.after g.back_groups)))
    (eight_in_all g.before g.after g.at_most_seven) g.value

address_is : (text : List ℕ) (a : Ip) → IsAddressText text a → IsIp a
address_is text a (v4 {address = n} t is) = subst IsIp (sym is) (v4-lt text n t, lit≤ tt)
address_is text a (v6 {address = n} t is) = subst IsIp (sym is) (v6-lt text n t, lit≤ tt)

pub text_is_ip : (text : List ℕ) (a : Ip) → IsIpText text a → IsIp a
text_is_ip text a (alone t) = address_is text a t
text_is_ip text a (prefixed {part = part} {prefix = p} {b = V4 n q} cut t le is) = subst IsIp (sym is) ((address_is part (V4 n q) t).0, le)
text_is_ip text a (prefixed {part = part} {prefix = p} {b = V6 n q} cut t le is) = subst IsIp (sym is) ((address_is part (V6 n q) t).0, le)
