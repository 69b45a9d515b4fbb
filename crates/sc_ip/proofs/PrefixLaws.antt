-- The slash tells the address from the prefix, so a text stands for one address with a prefix at most.
use Rattle.std.proofs.Common.{◌≡◌, ℕ, ◌<◌, ◌≤◌, List, ◌∷◌, ◌++◌, Option, Some, None, arith, lit<, lit≤, ap, sym, ◌∙◌, subst, IfSome, IfNone, Bor}
use Rattle.std.specs.Option.{SomeIff}
use Rattle.std.specs.Fmt.{decimal}
use Rattle.std.proofs.lemmas.Fmt.{decimal_injective}
use Rattle.std.proofs.lemmas.Str.Pattern.{IsSplitOnceResult, split_parts}
use Rattle.sc_ip.specs.declared.ip.Ip.{Ip}
use Rattle.sc_ip.specs.declared.ip.Ip.TheVariants.{V4, V6}
use Rattle.sc_ip.specs.Addresses.{width_of}
use Rattle.sc_ip.specs.IpText.{IsAddressText, with_prefix, IsIpText, alone, prefixed}
use Rattle.sc_ip.proofs.GroupLaws.{Lacks, lacks_from_index, same_cut, no_cut}
use Rattle.sc_ip.proofs.AddressLaws.{address_lacks_slash, address_only}

pub width-le : (a : Ip) → width_of a ≤ 128
width-le (V4 address prefix) = lit≤ tt
width-le (V6 address prefix) = lit≤ tt

-- what stands round the slash
pub record IsBehind (part rest : List ℕ) (a : Ip) : Type 0 where
  pub whole : Ip
  pub prefix : ℕ
  pub whole_text : IsAddressText part whole
  pub digits : rest ≡ decimal prefix
  pub at_most : prefix ≤ width_of whole
  pub small : prefix < 256
  pub is : a ≡ with_prefix whole prefix

behind_of : (text part rest : List ℕ) (a : Ip) → text ≡ part ++ (47 ∷ rest) → Lacks 47 part → IsIpText text a → IsBehind part rest a
behind_of text part rest a e l (alone x) = absurd (no_cut 47 part rest text (address_lacks_slash text a x) e)
behind_of text part rest a e l (prefixed {part = p} {prefix = n} {b = b} i x most j) =
    let same = same_cut 47 p (decimal n) part rest (address_lacks_slash p b x) l (sym i ∙ e) in
    let P : List ℕ → Type 0 = λ t. IsAddressText t b in
    record { whole = b; prefix = n; whole_text = subst P same.0 x; digits = sym same.1; at_most = most; small = (let w = width-le b in omega arith); is = j }

-- a split at the slash
pub split_at_slash : (text : List ℕ) (x : Bor (List ℕ) × Bor (List ℕ)) → IsSplitOnceResult 47 text (Some x) → (a : Ip) → IsIpText text a → IsBehind x.0.now x.1.now a
split_at_slash text x h a t =
    let p = split_parts 47 text (Some x) h (lit< tt) in
    behind_of text x.0.now x.1.now a p.0 (lacks_from_index 47 x.0.now p.1) t

pub without_slash : (text : List ℕ) → IsSplitOnceResult 47 text None → (a : Ip) → IsIpText text a → IsAddressText text a
without_slash text h a (alone x) = x
without_slash text h a (prefixed {part = p} {prefix = n} i x most j) =
    absurd (no_cut 47 p (decimal n) text (lacks_from_index 47 text (split_parts 47 text None h (lit< tt))) i)

pub prefix_some : (text : List ℕ) (x : Bor (List ℕ) × Bor (List ℕ)) (whole : Ip) (n : ℕ) (r : Option Ip) → IsSplitOnceResult 47 text (Some x) → IsAddressText x.0.now whole → x.1.now ≡ decimal n
    → SomeIff r (n ≤ width_of whole) (with_prefix whole n) → IfSome r (λ a. IsIpText text a)
prefix_some text x whole n None h w e s = tt
prefix_some text x whole n (Some a) h w e s =
    let p = split_parts 47 text (Some x) h (lit< tt) in
    prefixed (p.0 ∙ ap (λ t. x.0.now ++ (47 ∷ t)) e) w s.0 s.1

pub prefix_none : (text : List ℕ) (x : Bor (List ℕ) × Bor (List ℕ)) (whole : Ip) (n : ℕ) (r : Option Ip) → n < 256 → IsSplitOnceResult 47 text (Some x) → IsAddressText x.0.now whole → x.1.now ≡ decimal n
    → SomeIff r (n ≤ width_of whole) (with_prefix whole n) → IfNone r ((a : Ip) → IsIpText text a → ⊥)
prefix_none text x whole n (Some a) small h w e s = tt
prefix_none text x whole n None small h w e s = λ a t.
    let b = split_at_slash text x h a t in
    let same : b.whole ≡ whole = address_only x.0.now b.whole whole b.whole_text w in
    let bits = b.small in
    let number : b.prefix ≡ n = decimal_injective b.prefix n (omega arith) (omega arith) (sym b.digits ∙ e) in
    let width : width_of b.whole ≡ width_of whole = ap width_of same in
    s (let most = b.at_most in omega arith)

-- a text stands for one address with a prefix at most
pub ip_only : (text : List ℕ) (a b : Ip) → IsIpText text a → IsIpText text b → a ≡ b
ip_only text a b (alone x) (alone y) = address_only text a b x y
ip_only text a b (alone x) (prefixed {part = p} {prefix = n} i y most j) = absurd (no_cut 47 p (decimal n) text (address_lacks_slash text a x) i)
ip_only text a b (prefixed {part = p} {prefix = n} {b = whole} i x most j) t =
    let k = behind_of text p (decimal n) b i (address_lacks_slash p whole x) t in
    let same : whole ≡ k.whole = address_only p whole k.whole x k.whole_text in
    let bits = k.small in
    let w = width-le whole in
    let number : n ≡ k.prefix = decimal_injective n k.prefix (omega arith) (omega arith) k.digits in
    let equal : (c d : Ip) (m o : ℕ) → c ≡ d → m ≡ o → with_prefix c m ≡ with_prefix d o = λ c d m o p q. cc in
    j ∙ (equal whole k.whole n k.prefix same number ∙ sym k.is)
