-- Groups with separators between them: a text stands for one list of numbers at most, and which bytes it lacks.
use Rattle.std.proofs.Common.{◌≡◌, ◌≢◌, ℕ, zero, suc, ◌+◌, ◌*◌, ◌^◌, ◌<◌, ◌≤◌, List, [], ◌∷◌, ◌++◌, length, get_or, Option, Some, None, refl, arith, lit<, lit≤, ap, sym, ◌∙◌, subst, Bor, IfSome, IfNone}
use Rattle.std.specs.Str.Parse.{AllDigits}
use Rattle.std.specs.Char.{digit_value}
use Rattle.std.specs.Fmt.{decimal}
use Rattle.std.specs.Int.Digits.{number_from_digits_after}
use Rattle.std.proofs.lemmas.Fmt.{decimal_is_IsNumeral, decimal_injective}
use Rattle.std.proofs.lemmas.Str.Pattern.{IsSplitOnceResult, split_parts}
use Rattle.std.proofs.Math.Nat.{mul-le-mul, pow-suc, pow-le-pow_right}
use Rattle.sc_ip.specs.declared.notation.Notation.{Notation}
use Rattle.sc_ip.specs.declared.notation.Notation.TheVariants.{Decimal, Hexadecimal}
use Rattle.sc_ip.specs.Notations.{separator_of, base_of, IsGroupOf, AreGroupsOf, Adds}
use Rattle.sc_ip.proofs.NotationLaws.{hexadecimal-lt}

-- the list lacks the byte
abbrev pub Lacks : ℕ → List ℕ → Type 0
Lacks c [] = Unit {0}
Lacks c (b ∷ bs) = (b ≢ c) × Lacks c bs

pub index_lacks : (c : ℕ) (bs : List ℕ) → Lacks c bs → (i : ℕ) → i < length bs → get_or bs i 0 ≢ c
index_lacks c [] h i l = absurd (omega arith)
index_lacks c (b ∷ bs) h zero l = h.0
index_lacks c (b ∷ bs) h (suc i) l = index_lacks c bs h.1 i (omega arith)

pub lacks_from_index : (c : ℕ) (bs : List ℕ) → ((i : ℕ) → i < length bs → get_or bs i 0 ≢ c) → Lacks c bs
lacks_from_index c [] h = tt
lacks_from_index c (b ∷ bs) h = (h 0 (omega arith), lacks_from_index c bs (λ i l. h (suc i) (omega arith)))

-- the byte's place tells the two parts
pub same_cut : (c : ℕ) (xs ys us vs : List ℕ) → Lacks c xs → Lacks c us → xs ++ (c ∷ ys) ≡ us ++ (c ∷ vs) → (xs ≡ us) × (ys ≡ vs)
same_cut c [] ys [] vs p q e = (refl, cc)
same_cut c [] ys (u ∷ us) vs p q e = let h : u ≡ c = cc in absurd (q.0 h)
same_cut c (x ∷ xs) ys [] vs p q e = let h : x ≡ c = cc in absurd (p.0 h)
same_cut c (x ∷ xs) ys (u ∷ us) vs p q e =
    let h : x ≡ u = cc in
    let i = same_cut c xs ys us vs p.1 q.1 (cc) in
    (cc, i.1)

pub no_cut : (c : ℕ) (xs ys bs : List ℕ) → Lacks c bs → bs ≡ xs ++ (c ∷ ys) → ⊥
no_cut c [] ys [] h e = cc
no_cut c [] ys (b ∷ bs) h e = let i : b ≡ c = cc in h.0 i
no_cut c (x ∷ xs) ys [] h e = cc
no_cut c (x ∷ xs) ys (b ∷ bs) h e = no_cut c xs ys bs h.1 (cc)

pub lacks_append : (c : ℕ) (xs ys : List ℕ) → Lacks c xs → Lacks c ys → Lacks c (xs ++ ys)
lacks_append c [] ys p q = q
lacks_append c (x ∷ xs) ys p q = (p.0, lacks_append c xs ys p.1 q)

-- digits lack what is no digit
digits_lack : (radix c : ℕ) → radix ≤ digit_value c → (ds : List ℕ) → AllDigits radix ds → Lacks c ds
digits_lack radix c high [] all = tt
digits_lack radix c high (d ∷ ds) all =
    ((λ e. let f : digit_value d ≡ digit_value c = ap digit_value e in let g = all.0 in omega arith), digits_lack radix c high ds all.1)

pub decimal_lacks : (c n : ℕ) → 10 ≤ digit_value c → n < 256 → Lacks c (decimal n)
decimal_lacks c n high small = let d = decimal_is_IsNumeral n (omega arith) in digits_lack 10 c high (decimal n) d.0.1

-- a group has no byte of which the value is 16 or more, as separators
pub group_lacks : (w : Notation) (c : ℕ) → 16 ≤ digit_value c → (text : List ℕ) (n : ℕ) → IsGroupOf w text n → Lacks c text
group_lacks Decimal c high text n g =
    let P : List ℕ → Type 0 = λ l. Lacks c l in subst P (sym g.1) (decimal_lacks c n (omega arith) g.0)
group_lacks Hexadecimal c high text n g = digits_lack 16 c high text g.0.1

pub separator_lacks : (w : Notation) (text : List ℕ) (n : ℕ) → IsGroupOf w text n → Lacks (separator_of w) text
separator_lacks Decimal text n g = group_lacks Decimal 46 (lit≤ tt) text n g
separator_lacks Hexadecimal text n g = group_lacks Hexadecimal 58 (lit≤ tt) text n g

pub group_some : (w : Notation) (text : List ℕ) (n : ℕ) → IsGroupOf w text n → 0 < length text
group_some Decimal text n g =
    let d = decimal_is_IsNumeral n (let s = g.0 in omega arith) in
    let e : length text ≡ length (decimal n) = ap length g.1 in
    let h = d.0.0 in omega arith
group_some Hexadecimal text n g = g.0.0

pub group_only : (w : Notation) (text : List ℕ) (m n : ℕ) → IsGroupOf w text m → IsGroupOf w text n → m ≡ n
group_only Decimal text m n g h = decimal_injective m n (let s = g.0 in omega arith) (let s = h.0 in omega arith) (sym g.1 ∙ h.1)
group_only Hexadecimal text m n g h = g.2 ∙ sym h.2

pub group-lt : (w : Notation) (text : List ℕ) (n : ℕ) → IsGroupOf w text n → n < base_of w
group-lt Decimal text n g = g.0
group-lt Hexadecimal text n g = let h = hexadecimal-lt text g.0.1 g.1 in let e = g.2 in omega arith

pub base-le : (w : Notation) → base_of w ≤ 65536
base-le Decimal = lit≤ tt
base-le Hexadecimal = lit≤ tt

-- one more group keeps the number in range
pub one_more-lt : (v c base g : ℕ) → v < 65536 ^ c → base ≤ 65536 → g < base → v * base + g < 65536 ^ (c + 1)
one_more-lt v c base g h b l =
    let up : (v + 1) * base ≤ 65536 ^ c * 65536 = mul-le-mul (omega arith) b in
    let e : 65536 ^ suc c ≡ 65536 ^ c * 65536 = pow-suc 65536 c in
    let f : 65536 ^ (c + 1) ≡ 65536 ^ suc c = ap (λ k. 65536 ^ k) (omega arith) in
    omega arith

pub groups-le : (c : ℕ) → c ≤ 8 → 65536 ^ c ≤ 2 ^ 128
groups-le c h = pow-le-pow_right {n = 65536} (lit< tt) h

pub one_more_fits : (v c base g : ℕ) → c < 8 → v < 65536 ^ c → base ≤ 65536 → g < base → v * base + g < 2 ^ 128
one_more_fits v c base g few h b l =
    let a = one_more-lt v c base g h b l in
    let d = groups-le (c + 1) (omega arith) in
    omega arith

-- where a separator stands first, the groups are the first one and the others
pub record IsFirst (w : Notation) (group rest numbers : List ℕ) : Type 0 where
  pub first : ℕ
  pub second : ℕ
  pub others : List ℕ
  pub numbers_are : numbers ≡ first ∷ second ∷ others
  pub first_group : IsGroupOf w group first
  pub other_groups : AreGroupsOf w rest (second ∷ others)

pub first_of : (w : Notation) (text group rest numbers : List ℕ) → text ≡ group ++ (separator_of w ∷ rest) → Lacks (separator_of w) group → AreGroupsOf w text numbers → 0 < length numbers → IsFirst w group rest numbers
first_of w text group rest [] e l g some = absurd (omega arith)
first_of w text group rest (n ∷ []) e l g some = absurd (no_cut (separator_of w) group rest text (separator_lacks w text n g) e)
first_of w text group rest (n ∷ m ∷ ns) e l g some =
    let other = g.0 in
    let later = g.1 in
    let same = same_cut (separator_of w) other later group rest (separator_lacks w other n g.3) l (sym g.2 ∙ e) in
    let P : List ℕ → Type 0 = λ t. IsGroupOf w t n in
    let Q : List ℕ → Type 0 = λ t. AreGroupsOf w t (m ∷ ns) in
    record { first = n; second = m; others = ns; numbers_are = refl; first_group = subst P same.0 g.3; other_groups = subst Q same.1 g.4 }

-- where none stands, there is one group
pub single_of : (w : Notation) (text numbers : List ℕ) → Lacks (separator_of w) text → AreGroupsOf w text numbers → 0 < length numbers → (n : ℕ) × IsGroupOf w text n
single_of w text [] l g some = absurd (omega arith)
single_of w text (n ∷ []) l g some = (n, g)
single_of w text (n ∷ m ∷ ns) l g some = absurd (no_cut (separator_of w) g.0 g.1 text l g.2)

-- the numbers of a text are told by it
pub groups_only : (w : Notation) (text ms ns : List ℕ) → AreGroupsOf w text ms → AreGroupsOf w text ns → ms ≡ ns
groups_only w text [] [] g h = refl
groups_only w text [] (n ∷ []) g h = absurd (let a = group_some w text n h in let b : length text ≡ 0 = ap length g in omega arith)
groups_only w text [] (n ∷ k ∷ ns) g h = absurd (no_cut (separator_of w) h.0 h.1 text (let P : List ℕ → Type 0 = λ t. Lacks (separator_of w) t in subst P (sym g) tt) h.2)
groups_only w text (m ∷ []) [] g h = absurd (let a = group_some w text m g in let b : length text ≡ 0 = ap length h in omega arith)
groups_only w text (m ∷ j ∷ ms) [] g h = absurd (no_cut (separator_of w) g.0 g.1 text (let P : List ℕ → Type 0 = λ t. Lacks (separator_of w) t in subst P (sym h) tt) g.2)
groups_only w text (m ∷ []) (n ∷ []) g h = ap (λ k. k ∷ []) (group_only w text m n g h)
groups_only w text (m ∷ []) (n ∷ k ∷ ns) g h = absurd (no_cut (separator_of w) h.0 h.1 text (separator_lacks w text m g) h.2)
groups_only w text (m ∷ j ∷ ms) (n ∷ []) g h = absurd (no_cut (separator_of w) g.0 g.1 text (separator_lacks w text n h) g.2)
groups_only w text (m ∷ j ∷ ms) (n ∷ k ∷ ns) g h =
    let same = same_cut (separator_of w) g.0 g.1 h.0 h.1 (separator_lacks w g.0 m g.3) (separator_lacks w h.0 n h.3) (sym g.2 ∙ h.2) in
    let P : List ℕ → Type 0 = λ t. IsGroupOf w t m in
    let Q : List ℕ → Type 0 = λ t. AreGroupsOf w t (j ∷ ms) in
    let a : m ≡ n = group_only w h.0 m n (subst P same.0 g.3) h.3 in
    let b : j ∷ ms ≡ k ∷ ns = groups_only w h.1 (j ∷ ms) (k ∷ ns) (subst Q same.1 g.4) h.4 in
    cc

-- a text of groups lacks all but digits and its separator
pub groups_lack : (w : Notation) (c : ℕ) → 16 ≤ digit_value c → separator_of w ≢ c → (text ns : List ℕ) → AreGroupsOf w text ns → Lacks c text
groups_lack w c high other text [] g = let P : List ℕ → Type 0 = λ t. Lacks c t in subst P (sym g) tt
groups_lack w c high other text (n ∷ []) g = group_lacks w c high text n g
groups_lack w c high other text (n ∷ m ∷ ns) g =
    let P : List ℕ → Type 0 = λ t. Lacks c t in
    subst P (sym g.2) (lacks_append c g.0 (separator_of w ∷ g.1) (group_lacks w c high g.0 n g.3) (other, groups_lack w c high other g.1 (m ∷ ns) g.4))

-- one group more
pub adds_one : (w : Notation) (text : List ℕ) (n v c : ℕ) → IsGroupOf w text n → Adds w text v c (v * base_of w + n) (c + 1)
adds_one w text n v c g = record { numbers = n ∷ []; groups = g; some = lit< tt; value_is = refl; count_is = refl }

pub adds_more : (w : Notation) (text group rest : List ℕ) (n v c new_v new_c : ℕ) → text ≡ group ++ (separator_of w ∷ rest) → IsGroupOf w group n
    → Adds w rest (v * base_of w + n) (c + 1) new_v new_c → Adds w text v c new_v new_c
adds_more w text group rest n v c new_v new_c e g a = put a.numbers a.groups a.some a.value_is a.count_is
  where
    put : (ns : List ℕ) → AreGroupsOf w rest ns → 0 < length ns → new_v ≡ number_from_digits_after (base_of w) (v * base_of w + n) ns → new_c ≡ c + 1 + length ns → Adds w text v c new_v new_c
    put [] gs some value count = absurd (omega arith)
    put (m ∷ ns) gs some value count = record { numbers = n ∷ m ∷ ns; groups = (group, rest, e, g, gs); some = omega arith; value_is = value; count_is = omega arith }

separator-lt : (w : Notation) → separator_of w < 128
separator-lt Decimal = lit< tt
separator-lt Hexadecimal = lit< tt

-- what a split at the separator gives
pub parts_at : (w : Notation) (c : ℕ) (text : List ℕ) (x : Bor (List ℕ) × Bor (List ℕ)) → c ≡ separator_of w → IsSplitOnceResult c text (Some x) → (text ≡ x.0.now ++ (separator_of w ∷ x.1.now)) × Lacks (separator_of w) x.0.now
parts_at w c text x e h =
    let p = split_parts c text (Some x) h (let l = separator-lt w in omega arith) in
    let P : ℕ → Type 0 = λ d. (text ≡ x.0.now ++ (d ∷ x.1.now)) × Lacks d x.0.now in
    subst P e (p.0, lacks_from_index c x.0.now p.1)

pub lacks_at : (w : Notation) (c : ℕ) (text : List ℕ) → c ≡ separator_of w → IsSplitOnceResult c text None → Lacks (separator_of w) text
lacks_at w c text e h =
    let p = split_parts c text None h (let l = separator-lt w in omega arith) in
    let P : ℕ → Type 0 = λ d. Lacks d text in
    subst P e (lacks_from_index c text p)

-- after the first group, what the others give or refuse is what all give or refuse
pub some_more : (w : Notation) (text group rest : List ℕ) (n v c new_c : ℕ) {X : Type 0} (r : Option X) (value count : X → ℕ) → text ≡ group ++ (separator_of w ∷ rest) → IsGroupOf w group n → new_c ≡ c + 1
    → IfSome r (λ g. Adds w rest (v * base_of w + n) new_c (value g) (count g)) → IfSome r (λ g. Adds w text v c (value g) (count g))
some_more w text group rest n v c new_c None value count e g k h = tt
some_more w text group rest n v c new_c (Some x) value count e g k h =
    let P : ℕ → Type 0 = λ m. Adds w rest (v * base_of w + n) m (value x) (count x) in
    adds_more w text group rest n v c (value x) (count x) e g (subst P k h)

pub none_more : (w : Notation) (text group rest : List ℕ) (c new_c : ℕ) {X : Type 0} (r : Option X) → text ≡ group ++ (separator_of w ∷ rest) → Lacks (separator_of w) group → new_c ≡ c + 1
    → IfNone r ((ns : List ℕ) → AreGroupsOf w rest ns → 0 < length ns → new_c + length ns ≤ 8 → ⊥)
    → IfNone r ((ns : List ℕ) → AreGroupsOf w text ns → 0 < length ns → c + length ns ≤ 8 → ⊥)
none_more w text group rest c new_c (Some x) e l k h = tt
none_more w text group rest c new_c None e l k h = λ ns gs some room.
    let f = first_of w text group rest ns e l gs some in
    let n : length ns ≡ length (f.first ∷ f.second ∷ f.others) = ap length f.numbers_are in
    h (f.second ∷ f.others) f.other_groups (omega arith) (omega arith)
