-- The texts of addresses: what their groups make, and that a text stands for one address at most.
use Rattle.std.proofs.Common.{◌≡◌, ◌≢◌, ℕ, zero, suc, ◌+◌, ◌-◌, ◌*◌, ◌^◌, ◌<◌, ◌≤◌, List, [], ◌∷◌, ◌++◌, length, get_or, replicate, Option, Some, None, refl, arith, lit<, lit≤, ap, sym, ◌∙◌, subst, length-append, IfNone, Result, Ok, Err}
use Rattle.std.specs.Result.{result_ok, OkIff}
use Rattle.std.specs.Char.{digit_value}
use Rattle.std.specs.Int.Digits.{number_from_digits, number_from_digits_after, AllBelowBase}
use Rattle.std.proofs.lemmas.Int.Digits.{number_lt, number_after_append}
use Rattle.std.proofs.lemmas.List.{get_or_append_left}
use Rattle.std.proofs.lemmas.Nat.{pow-add}
use Rattle.std.proofs.Math.Nat.{mul-le-mul, pow-suc, pow-le-pow_right}
use Rattle.sc_ip.specs.declared.ip.Ip.{Ip}
use Rattle.sc_ip.specs.declared.ip.Ip.TheVariants.{V4, V6}
use Rattle.sc_ip.specs.declared.notation.Notation.{Notation}
use Rattle.sc_ip.specs.declared.notation.Notation.TheVariants.{Decimal, Hexadecimal}
use Rattle.sc_ip.specs.IpText.{IsHexadecimalGroup, IsV4Text, IsFullText, IsGap, IsV6Text, full, gap, IsAddressText, v4, v6}
use Rattle.sc_ip.specs.Notations.{base_of, AreGroupsOf, Counts}
use Rattle.sc_ip.proofs.GroupLaws.{Lacks, index_lacks, no_cut, lacks_append, separator_lacks, group_some, group-lt, groups_only, groups_lack}

-- behind m groups stand 8 - m zero groups
pub filled_fits : (v m : ℕ) → v < 65536 ^ m → m ≤ 8 → v * 65536 ^ (8 - m) + 65536 ^ (8 - m) ≤ 2 ^ 128
filled_fits v m h l =
    let up : (v + 1) * 65536 ^ (8 - m) ≤ 65536 ^ m * 65536 ^ (8 - m) = mul-le-mul (omega arith) (omega arith) in
    let e : 65536 ^ (m + (8 - m)) ≡ 65536 ^ m * 65536 ^ (8 - m) = pow-add 65536 m (8 - m) in
    let all : m + (8 - m) ≡ 8 = omega arith in
    let f : 65536 ^ (m + (8 - m)) ≡ 65536 ^ 8 = ap (λ k. 65536 ^ k) all in
    omega arith

pub filled-lt : (v m : ℕ) → v < 65536 ^ m → m ≤ 8 → v * 65536 ^ (8 - m) < 2 ^ 128
filled-lt v m h l =
    let a = filled_fits v m h l in
    let at_least : 0 ≤ 8 - m = omega arith in
    let b : 65536 ^ 0 ≤ 65536 ^ (8 - m) = pow-le-pow_right {n = 65536} (lit< tt) at_least in
    omega arith

pub seven_fit : (m : ℕ) → 0 < m → 65536 ^ (8 - m) < 2 ^ 128
seven_fit m h =
    let le : 8 - m ≤ 7 = omega arith in
    let up : 65536 ^ (8 - m) ≤ 65536 ^ 7 = pow-le-pow_right {n = 65536} (lit< tt) le in
    omega arith

pub gap_fits : (v u m n : ℕ) → v * 65536 ^ (8 - m) + 65536 ^ (8 - m) ≤ 2 ^ 128 → u < 65536 ^ n → m + n ≤ 7 → v * 65536 ^ (8 - m) + u < 2 ^ 128
gap_fits v u m n h l few =
    let le : n ≤ 8 - m = omega arith in
    let up : 65536 ^ n ≤ 65536 ^ (8 - m) = pow-le-pow_right {n = 65536} (lit< tt) le in
    omega arith

one_place : (v p : ℕ) → (v * 65536 + 0) * p ≡ v * (p * 65536)
one_place v p = omega arith

place_and_group : (v p n r : ℕ) → (v * 65536 + n) * p + r ≡ v * (p * 65536) + ((0 * 65536 + n) * p + r)
place_and_group v p n r = omega arith

places : (v p q r : ℕ) → v * p * q + r ≡ v * (p * q) + r
places v p q r = omega arith

-- zero groups behind a number
zeros_after : (v k : ℕ) → number_from_digits_after 65536 v (replicate k 0) ≡ v * 65536 ^ k
zeros_after v zero = omega arith
zeros_after v (suc k) = zeros_after (v * 65536 + 0) k ∙ (one_place v (65536 ^ k) ∙ ap (λ p. v * p) (sym (pow-suc 65536 k)))

-- what stands before groups has their places' worth
number_after : (v : ℕ) (ns : List ℕ) → number_from_digits_after 65536 v ns ≡ v * 65536 ^ length ns + number_from_digits 65536 ns
number_after v [] = omega arith
number_after v (n ∷ ns) =
    number_after (v * 65536 + n) ns
    ∙ (place_and_group v (65536 ^ length ns) n (number_from_digits 65536 ns)
    ∙ (ap (λ p. v * p + ((0 * 65536 + n) * 65536 ^ length ns + number_from_digits 65536 ns)) (sym (pow-suc 65536 (length ns)))
    ∙ ap (λ r. v * 65536 ^ suc (length ns) + r) (sym (number_after (0 * 65536 + n) ns))))

-- groups, zeros and groups
gap_number : (before after : List ℕ) (k : ℕ) → number_from_digits 65536 (before ++ (replicate k 0 ++ after)) ≡ number_from_digits 65536 before * 65536 ^ (k + length after) + number_from_digits 65536 after
gap_number before after k =
    number_after_append 65536 0 before (replicate k 0 ++ after)
    ∙ (number_after_append 65536 (number_from_digits 65536 before) (replicate k 0) after
    ∙ (ap (λ v. number_from_digits_after 65536 v after) (zeros_after (number_from_digits 65536 before) k)
    ∙ (number_after (number_from_digits 65536 before * 65536 ^ k) after
    ∙ (places (number_from_digits 65536 before) (65536 ^ k) (65536 ^ length after) (number_from_digits 65536 after)
    ∙ ap (λ p. number_from_digits 65536 before * p + number_from_digits 65536 after) (sym (pow-add 65536 k (length after)))))))

pub gap_is : (front back : List ℕ) (v m u n r : ℕ) → Counts Hexadecimal front v m → Counts Hexadecimal back u n → m + n ≤ 7 → r ≡ v * 65536 ^ (8 - m) + u → IsGap front back r
gap_is front back v m u n r f b few is = record {
  before = f.numbers;
  after = b.numbers;
  front_groups = f.groups;
  back_groups = b.groups;
  at_most_seven = let i = f.count_is in let j = b.count_is in omega arith;
  value =
      let i = f.count_is in let j = b.count_is in
      let places_are : 8 - (length f.numbers + length b.numbers) + length b.numbers ≡ 8 - m = omega arith in
      let e : 65536 ^ (8 - (length f.numbers + length b.numbers) + length b.numbers) ≡ 65536 ^ (8 - m) = ap (λ k. 65536 ^ k) places_are in
      let g = gap_number f.numbers b.numbers (8 - (length f.numbers + length b.numbers)) in
      is ∙ (ap (λ p. p * 65536 ^ (8 - m) + u) f.value_is ∙ (ap (λ p. number_from_digits 65536 f.numbers * 65536 ^ (8 - m) + p) b.value_is
      ∙ sym (g ∙ ap (λ p. number_from_digits 65536 f.numbers * p + number_from_digits 65536 b.numbers) e)));
}

pub gap_count : (front back : List ℕ) (v m u n a : ℕ) → Counts Hexadecimal front v m → Counts Hexadecimal back u n → IsGap front back a → m + n ≤ 7
gap_count front back v m u n a f b g =
    let i : length f.numbers ≡ length g.before = ap length (groups_only Hexadecimal front f.numbers g.before f.groups g.front_groups) in
    let j : length b.numbers ≡ length g.after = ap length (groups_only Hexadecimal back b.numbers g.after b.groups g.back_groups) in
    let k = f.count_is in let l = b.count_is in let s = g.at_most_seven in
    omega arith

pub full_count : (text : List ℕ) (v c a : ℕ) → Counts Hexadecimal text v c → IsFullText text a → c ≡ 8
full_count text v c a g f =
    let i : length g.numbers ≡ length f.numbers = ap length (groups_only Hexadecimal text g.numbers f.numbers g.groups f.groups) in
    g.count_is ∙ (i ∙ f.eight)

pub v4_count : (text : List ℕ) (v c a : ℕ) → Counts Decimal text v c → IsV4Text text a → (c ≡ 4) × (v ≡ a)
v4_count text v c a g f =
    let same = groups_only Decimal text g.numbers f.numbers g.groups f.groups in
    let i : length g.numbers ≡ length f.numbers = ap length same in
    (g.count_is ∙ (i ∙ f.four), g.value_is ∙ (ap (number_from_digits 256) same ∙ sym f.value))

-- groups make a number of as many digits
groups_below : (w : Notation) (text ns : List ℕ) → AreGroupsOf w text ns → AllBelowBase (base_of w) ns
groups_below w text [] g = tt
groups_below w text (n ∷ []) g = (group-lt w text n g, tt)
groups_below w text (n ∷ m ∷ ns) g = (group-lt w g.0 n g.3, groups_below w g.1 (m ∷ ns) g.4)

pub v4-lt : (text : List ℕ) (a : ℕ) → IsV4Text text a → a < 2 ^ 32
v4-lt text a f =
    let l = number_lt 256 f.numbers (groups_below Decimal text f.numbers f.groups) in
    let e : 256 ^ length f.numbers ≡ 256 ^ 4 = ap (λ k. 256 ^ k) f.four in
    let v = f.value in
    omega arith

pub v4_fits : {E : Type 0} (text : List ℕ) (v c : ℕ) (r : Result ℕ E) → Counts Decimal text v c → OkIff r (v < 2 ^ 32) v → IfNone (result_ok r) ((a : ℕ) → IsV4Text text a → ⊥)
v4_fits text v c (Ok x) g h = tt
v4_fits text v c (Err e) g h = λ a f. h (let l = v4-lt text a f in let s = (v4_count text v c a g f).1 in omega arith)

-- no colon has a colon next to it, and none stands last
abbrev pub IsSingle : List ℕ → Type 0
IsSingle [] = Unit {0}
IsSingle (c ∷ []) = c ≢ 58
IsSingle (c ∷ d ∷ bs) = (c ≡ 58 → d ≢ 58) × IsSingle (d ∷ bs)

single_tail : (c : ℕ) (bs : List ℕ) → IsSingle (c ∷ bs) → IsSingle bs
single_tail c [] h = tt
single_tail c (d ∷ bs) h = h.1

lacks_single : (bs : List ℕ) → Lacks 58 bs → IsSingle bs
lacks_single [] h = tt
lacks_single (c ∷ []) h = h.0
lacks_single (c ∷ d ∷ bs) h = ((λ e. absurd (h.0 e)), lacks_single (d ∷ bs) h.1)

single_join : (xs ys : List ℕ) → Lacks 58 xs → 0 < length ys → get_or ys 0 0 ≢ 58 → IsSingle ys → IsSingle (xs ++ (58 ∷ ys))
single_join [] [] l some first s = absurd (omega arith)
single_join [] (y ∷ ys) l some first s = ((λ e. first), s)
single_join (x ∷ []) ys l some first s = ((λ e. absurd (l.0 e)), single_join [] ys tt some first s)
single_join (x ∷ z ∷ xs) ys l some first s = ((λ e. absurd (l.0 e)), single_join (z ∷ xs) ys l.1 some first s)

single_no_pair : (bs xs ys : List ℕ) → IsSingle bs → bs ≡ xs ++ (58 ∷ 58 ∷ ys) → ⊥
single_no_pair [] [] ys s e = cc
single_no_pair [] (x ∷ xs) ys s e = cc
single_no_pair (c ∷ []) [] ys s e = cc
single_no_pair (c ∷ d ∷ bs) [] ys s e = let p : c ≡ 58 = cc in let q : d ≡ 58 = cc in s.0 p q
single_no_pair (c ∷ bs) (x ∷ xs) ys s e = single_no_pair bs xs ys (single_tail c bs s) (cc)

-- two colons tell what stands before and behind
pair_cut : (xs ys us vs : List ℕ) → IsSingle xs → IsSingle ys → get_or ys 0 0 ≢ 58 → xs ++ (58 ∷ 58 ∷ ys) ≡ us ++ (58 ∷ 58 ∷ vs) → (xs ≡ us) × (ys ≡ vs)
pair_cut [] ys [] vs s t first e = (refl, cc)
pair_cut [] [] (u ∷ []) vs s t first e = cc
pair_cut [] (y ∷ ys) (u ∷ []) vs s t first e = let h : y ≡ 58 = cc in absurd (first h)
pair_cut [] ys (u ∷ w ∷ us) vs s t first e = absurd (single_no_pair ys us vs t (cc))
pair_cut (x ∷ []) ys [] vs s t first e = let h : x ≡ 58 = cc in absurd (s h)
pair_cut (x ∷ z ∷ xs) ys [] vs s t first e = let h : x ≡ 58 = cc in let k : z ≡ 58 = cc in absurd (s.0 h k)
pair_cut (x ∷ xs) ys (u ∷ us) vs s t first e =
    let h : x ≡ u = cc in
    let i = pair_cut xs ys us vs (single_tail x xs s) t first (cc) in
    (cc, i.1)

group_first : (text : List ℕ) (n : ℕ) → IsHexadecimalGroup text n → get_or text 0 0 ≢ 58
group_first text n g = index_lacks 58 text (separator_lacks Hexadecimal text n g) 0 (group_some Hexadecimal text n g)

groups_first : (text ns : List ℕ) → AreGroupsOf Hexadecimal text ns → get_or text 0 0 ≢ 58
groups_first text [] g = let e : get_or text 0 0 ≡ 0 = ap (λ l. get_or l 0 0) g in omega arith
groups_first text (n ∷ []) g = group_first text n g
groups_first text (n ∷ m ∷ ns) g =
    let e : get_or text 0 0 ≡ get_or g.0 0 0 = ap (λ l. get_or l 0 0) g.2 ∙ get_or_append_left g.0 (58 ∷ g.1) 0 0 (group_some Hexadecimal g.0 n g.3) in
    λ h. group_first g.0 n g.3 (sym e ∙ h)

groups_some : (text ns : List ℕ) → AreGroupsOf Hexadecimal text ns → 0 < length ns → 0 < length text
groups_some text [] g some = absurd (omega arith)
groups_some text (n ∷ []) g some = group_some Hexadecimal text n g
groups_some text (n ∷ m ∷ ns) g some =
    let e : length text ≡ length (g.0 ++ (58 ∷ g.1)) = ap length g.2 in
    let l = length-append g.0 (58 ∷ g.1) in
    let s = group_some Hexadecimal g.0 n g.3 in
    omega arith

pub groups_single : (text ns : List ℕ) → AreGroupsOf Hexadecimal text ns → IsSingle text
groups_single text [] g = let P : List ℕ → Type 0 = λ t. IsSingle t in subst P (sym g) tt
groups_single text (n ∷ []) g = lacks_single text (separator_lacks Hexadecimal text n g)
groups_single text (n ∷ m ∷ ns) g =
    let P : List ℕ → Type 0 = λ t. IsSingle t in
    subst P (sym g.2) (single_join g.0 g.1 (separator_lacks Hexadecimal g.0 n g.3) (groups_some g.1 (m ∷ ns) g.4 (omega arith)) (groups_first g.1 (m ∷ ns) g.4) (groups_single g.1 (m ∷ ns) g.4))

full_only : (text : List ℕ) (a b : ℕ) → IsFullText text a → IsFullText text b → a ≡ b
full_only text a b f g = f.value ∙ (ap (number_from_digits 65536) (groups_only Hexadecimal text f.numbers g.numbers f.groups g.groups) ∙ sym g.value)

gap_only : (front back : List ℕ) (a b : ℕ) → IsGap front back a → IsGap front back b → a ≡ b
gap_only front back a b f g =
    let i = groups_only Hexadecimal front f.before g.before f.front_groups g.front_groups in
    let j = groups_only Hexadecimal back f.after g.after f.back_groups g.back_groups in
    let same : (xs ys us vs : List ℕ) → xs ≡ us → ys ≡ vs → number_from_digits 65536 (xs ++ (replicate (8 - (length xs + length ys)) 0 ++ ys)) ≡ number_from_digits 65536 (us ++ (replicate (8 - (length us + length vs)) 0 ++ vs)) = λ xs ys us vs p q. cc in
    f.value ∙ (same f.before f.after g.before g.after i j ∙ sym g.value)

-- groups with a gap are cut in one way
pub gap_parts : (front back us vs : List ℕ) (a : ℕ) → IsGap front back a → front ++ (58 ∷ 58 ∷ back) ≡ us ++ (58 ∷ 58 ∷ vs) → (front ≡ us) × (back ≡ vs)
gap_parts front back us vs a g e =
    pair_cut front back us vs (groups_single front g.before g.front_groups) (groups_single back g.after g.back_groups) (groups_first back g.after g.back_groups) e

-- eight groups have no gap
pub full_no_gap : (text us vs : List ℕ) (a : ℕ) → IsFullText text a → text ≡ us ++ (58 ∷ 58 ∷ vs) → ⊥
full_no_gap text us vs a f e = single_no_pair text us vs (groups_single text f.numbers f.groups) e

gap_at : (us vs front back : List ℕ) (a : ℕ) → us ≡ front → vs ≡ back → IsGap us vs a → IsGap front back a
gap_at us vs front back a i j g = let P : List ℕ → Type 0 = λ t. IsGap t vs a in let Q : List ℕ → Type 0 = λ t. IsGap front t a in subst Q j (subst P i g)

-- what stands round two colons tells whether the text is an address
pub v6_at_gap : (text front back : List ℕ) (a : ℕ) → text ≡ front ++ (58 ∷ 58 ∷ back) → IsV6Text text a → IsGap front back a
v6_at_gap text front back a e (full f) = absurd (full_no_gap text front back a f e)
v6_at_gap text front back a e (gap {front = us} {back = vs} p g) =
    let same = gap_parts us vs front back a g (sym p ∙ e) in
    gap_at us vs front back a same.0 same.1 g

-- and so does the text where no two colons stand
pub v6_without_gap : (text : List ℕ) (a : ℕ) → ((us vs : List ℕ) → text ≢ us ++ (58 ∷ (58 ∷ vs))) → IsV6Text text a → IsFullText text a
v6_without_gap text a none (full f) = f
v6_without_gap text a none (gap {front = us} {back = vs} p g) = absurd (none us vs p)

v6_only : (text : List ℕ) (a b : ℕ) → IsV6Text text a → IsV6Text text b → a ≡ b
v6_only text a b (full f) (full g) = full_only text a b f g
v6_only text a b (full f) (gap {front = us} {back = vs} p g) = absurd (full_no_gap text us vs a f p)
v6_only text a b (gap {front = us} {back = vs} p g) h = gap_only us vs a b g (v6_at_gap text us vs b p h)

v4_only : (text : List ℕ) (a b : ℕ) → IsV4Text text a → IsV4Text text b → a ≡ b
v4_only text a b f g = f.value ∙ (ap (number_from_digits 256) (groups_only Decimal text f.numbers g.numbers f.groups g.groups) ∙ sym g.value)

-- a text of version 4 has a dot, and one of version 6 none
v6_lacks : (c : ℕ) → 16 ≤ digit_value c → 58 ≢ c → (text : List ℕ) (a : ℕ) → IsV6Text text a → Lacks c text
v6_lacks c high other text a (full f) = groups_lack Hexadecimal c high other text f.numbers f.groups
v6_lacks c high other text a (gap {front = us} {back = vs} p g) =
    let P : List ℕ → Type 0 = λ t. Lacks c t in
    subst P (sym p) (lacks_append c us (58 ∷ 58 ∷ vs) (groups_lack Hexadecimal c high other us g.before g.front_groups) (other, (other, groups_lack Hexadecimal c high other vs g.after g.back_groups)))

pub one_version : (text : List ℕ) (a b : ℕ) → IsV4Text text a → IsV6Text text b → ⊥
one_version text a b f g = dotted f.numbers f.groups f.four
  where
    dotted : (ns : List ℕ) → AreGroupsOf Decimal text ns → length ns ≡ 4 → ⊥
    dotted [] h four = omega arith
    dotted (n ∷ []) h four = omega arith
    dotted (n ∷ m ∷ ns) h four = no_cut 46 h.0 h.1 text (v6_lacks 46 (lit≤ tt) (λ e. omega arith) text b g) h.2

pub address_lacks_slash : (text : List ℕ) (a : Ip) → IsAddressText text a → Lacks 47 text
address_lacks_slash text a (v4 f e) = groups_lack Decimal 47 (lit≤ tt) (λ i. omega arith) text f.numbers f.groups
address_lacks_slash text a (v6 {address = n} f e) = v6_lacks 47 (lit≤ tt) (λ i. omega arith) text n f

pub address_only : (text : List ℕ) (a b : Ip) → IsAddressText text a → IsAddressText text b → a ≡ b
address_only text a b (v4 {address = m} f i) (v4 {address = n} g j) = i ∙ (ap (λ k. V4 k 32) (v4_only text m n f g) ∙ sym j)
address_only text a b (v4 {address = m} f i) (v6 {address = n} g j) = absurd (one_version text m n f g)
address_only text a b (v6 {address = m} f i) (v4 {address = n} g j) = absurd (one_version text n m g f)
address_only text a b (v6 {address = m} f i) (v6 {address = n} g j) = i ∙ (ap (λ k. V6 k 128) (v6_only text m n f g) ∙ sym j)

pub address_none : (text : List ℕ) → ((n : ℕ) → IsV4Text text n → ⊥) → ((n : ℕ) → IsV6Text text n → ⊥) → (a : Ip) → IsAddressText text a → ⊥
address_none text no_v4 no_v6 a (v4 {address = n} f e) = no_v4 n f
address_none text no_v4 no_v6 a (v6 {address = n} f e) = no_v6 n f

-- what a weaker fact says of no value
pub IfNone-weaker : {X : Type 0} (r : Option X) (P Q : Type 0) → IfNone r P → (P → Q) → IfNone r Q
IfNone-weaker None P Q p f = f p
IfNone-weaker (Some x) P Q p f = tt
