-- `ip_of` decides which text stands for which address.
use Rattle.std.proofs.Common.{◌≡◌, ◌≢◌, ℕ, ◌+◌, ◌-◌, ◌<◌, List, [], ◌∷◌, ◌++◌, length, replicate, length-append, Option, Some, None, refl, arith, ap, sym, ◌∙◌, subst, Bool, true, false, ◌&&◌, cond, eqb, ◌↔◌, Result, Ok, Err, IfOk, OnErr}
use Rattle.std.specs.Option.{option_and_then, option_map}
use Rattle.std.specs.Result.{result_ok}
use Rattle.std.specs.List.{All, slice_split, join_with_byte}
use Rattle.std.specs.Char.{digit_value}
use Rattle.std.specs.Str.Parse.{AllDigits, digits_value}
use Rattle.std.specs.Int.Digits.{number_from_digits}
use Rattle.std.specs.Fmt.{decimal}
use Rattle.std.specs.Cmp.Lexicographic.{bytes_decides}
use Rattle.std.proofs.lemmas.Fmt.{decimal_is_IsNumeral}
use Rattle.std.proofs.lemmas.List.Splits.{slice_split_none, slice_split_at, length-slice_split, join_with_byte-slice_split}
use Rattle.std.proofs.lemmas.List.Elements.{All-nil, All-cons}
use Rattle.std.proofs.lemmas.Bool.{eq-eqb, eqb-true, lt-ltb, ltb-true, le-leb, leb-true, and_parts, and_from}
use Rattle.std.proofs.lemmas.Option.{cond_some}
use Rattle.sc_ip.proofs.PrefixLaws.{width-le}
use Rattle.sc_laws.proofs.NumberLaws.{eqb_false}
use Rattle.sc_laws.proofs.OptionLaws.{option_map_some, option_and_then_some}
use Rattle.sc_ip.specs.declared.ip.Ip.{Ip}
use Rattle.sc_ip.specs.declared.ip.Ip.TheVariants.{V4, V6}
use Rattle.sc_ip.specs.declared.notation.Notation.{Notation}
use Rattle.sc_ip.specs.declared.notation.Notation.TheVariants.{Decimal, Hexadecimal}
use Rattle.sc_ip.specs.Addresses.{width_of}
use Rattle.sc_ip.specs.IpText.{IsV4Text, IsFullText, IsGap, IsV6Text, full, gap, IsAddressText, v4, v6, with_prefix, IsIpText, alone, prefixed}
use Rattle.sc_ip.specs.IpValue.{are_digits, decimal_group, hexadecimal_group, numbers_of_all, numbers_of, number_of, v4_of, cut_at_colons, joined, gap_of, full_of, v6_by, address_by, address_from, cut_at_slash, prefixed_by, ip_by, ip_of}
use Rattle.sc_ip.specs.Notations.{separator_of, IsGroupOf, AreGroupsOf}
use Rattle.sc_ip.proofs.GroupLaws.{Lacks, separator_lacks, group_some}
use Rattle.sc_ip.proofs.AddressLaws.{IsSingle, groups_single, one_version, address_lacks_slash}

if_some : {X : Type 0} (b : Bool) (x : X) → b ≡ true → cond b (Some x) None ≡ Some x
if_some b x e = rw e

some_then : {X Y : Type 0} (f : X → Option Y) (o : Option X) (x : X) (y : Y) → o ≡ Some x → f x ≡ Some y → option_and_then f o ≡ Some y
some_then f o x y p q = ap (option_and_then f) p ∙ q

digits_from : (radix : ℕ) (ds : List ℕ) → AllDigits radix ds → are_digits radix ds ≡ true
digits_from radix [] h = refl
digits_from radix (c ∷ cs) h = and_from _ _ (lt-ltb (digit_value c) radix h.0) (digits_from radix cs h.1)

digits_to : (radix : ℕ) (ds : List ℕ) → are_digits radix ds ≡ true → AllDigits radix ds
digits_to radix [] h = tt
digits_to radix (c ∷ cs) h = let p = and_parts _ _ h in (ltb-true (digit_value c) radix p.0, digits_to radix cs p.1)

-- the reader of a group
abbrev pub group_of : Notation → List ℕ → Option ℕ
group_of Decimal = decimal_group
group_of Hexadecimal = hexadecimal_group

group_from : (w : Notation) (text : List ℕ) (n : ℕ) → IsGroupOf w text n → group_of w text ≡ Some n
group_from Decimal text n g =
    let d = decimal_is_IsNumeral n (let s = g.0 in omega arith) in
    let v : digits_value 10 text ≡ n = ap (digits_value 10) g.1 ∙ d.1 in
    let same : text ≡ decimal (digits_value 10 text) = g.1 ∙ ap decimal (sym v) in
    if_some _ (digits_value 10 text) (and_from _ _ (lt-ltb (digits_value 10 text) 256 (let s = g.0 in omega arith)) ((bytes_decides text (decimal (digits_value 10 text))).1 same)) ∙ ap Some v
group_from Hexadecimal text n g =
    if_some _ (digits_value 16 text) (and_from _ _ (lt-ltb 0 (length text) g.0.0) (and_from _ _ (digits_from 16 text g.0.1) (le-leb (length text) 4 g.1))) ∙ ap Some (sym g.2)

group_to : (w : Notation) (text : List ℕ) (n : ℕ) → group_of w text ≡ Some n → IsGroupOf w text n
group_to Decimal text n e =
    let s = cond_some _ (digits_value 10 text) n e in
    let a = and_parts _ _ s.0 in
    let small = ltb-true (digits_value 10 text) 256 a.0 in
    let same = (bytes_decides text (decimal (digits_value 10 text))).0 a.1 in
    let v = s.1 in
    (omega arith, same ∙ ap decimal v)
group_to Hexadecimal text n e =
    let s = cond_some _ (digits_value 16 text) n e in
    let a = and_parts _ _ s.0 in
    let b = and_parts _ _ a.1 in
    ((ltb-true 0 (length text) a.0, digits_to 16 text b.0), leb-true (length text) 4 b.1, sym s.1)

lacks_all : (c : ℕ) (bs : List ℕ) → Lacks c bs → All (λ b. eqb b c ≡ false) bs
lacks_all c [] h = All-nil (λ b. eqb b c ≡ false)
lacks_all c (b ∷ bs) h = All-cons (λ d. eqb d c ≡ false) b bs (eqb_false b c h.0) (lacks_all c bs h.1)

-- the numbers of groups
abbrev pub numbers_at : Notation → List ℕ → Option (List ℕ)
numbers_at w text = numbers_of (separator_of w) (group_of w) text

all_more : (w : Notation) (group : List ℕ) (groups : List (List ℕ)) (n : ℕ) (ns : List ℕ) → group_of w group ≡ Some n → numbers_of_all (group_of w) groups ≡ Some ns → numbers_of_all (group_of w) (group ∷ groups) ≡ Some (n ∷ ns)
all_more w group groups n ns p q =
    some_then _ (group_of w group) n (n ∷ ns) p (ap (option_map (λ k. n ∷ k)) q)

all_at : (w : Notation) (text : List ℕ) → 0 < length text → numbers_at w text ≡ numbers_of_all (group_of w) (slice_split (λ c. eqb c (separator_of w)) text)
all_at w [] some = absurd (omega arith)
all_at w (b ∷ bs) some = refl

groups_length : (w : Notation) (text : List ℕ) (n : ℕ) (ns : List ℕ) → AreGroupsOf w text (n ∷ ns) → 0 < length text
groups_length w text n [] g = group_some w text n g
groups_length w text n (m ∷ ns) g =
    let e : length text ≡ length (g.0 ++ (separator_of w ∷ g.1)) = ap length g.2 in
    let l = length-append g.0 (separator_of w ∷ g.1) in
    omega arith

numbers_from : (w : Notation) (text ns : List ℕ) → AreGroupsOf w text ns → numbers_at w text ≡ Some ns
numbers_from w text [] g = ap (numbers_at w) g
numbers_from w text (n ∷ []) g =
    all_at w text (group_some w text n g)
    ∙ (ap (numbers_of_all (group_of w)) (slice_split_none (λ c. eqb c (separator_of w)) text (lacks_all (separator_of w) text (separator_lacks w text n g)))
    ∙ all_more w text [] n [] (group_from w text n g) refl)
numbers_from w text (n ∷ m ∷ ns) g =
    all_at w text (groups_length w text n (m ∷ ns) g)
    ∙ (ap (λ t. numbers_of_all (group_of w) (slice_split (λ c. eqb c (separator_of w)) t)) g.2
    ∙ (ap (numbers_of_all (group_of w)) (slice_split_at (λ c. eqb c (separator_of w)) g.0 (separator_of w) g.1 (lacks_all (separator_of w) g.0 (separator_lacks w g.0 n g.3)) (eq-eqb (separator_of w) (separator_of w) refl))
    ∙ all_more w g.0 (slice_split (λ c. eqb c (separator_of w)) g.1) n (m ∷ ns) (group_from w g.0 n g.3)
    (sym (all_at w g.1 (groups_length w g.1 m ns g.4)) ∙ numbers_from w g.1 (m ∷ ns) g.4)))

all_length : (w : Notation) (groups : List (List ℕ)) (ns : List ℕ) → numbers_of_all (group_of w) groups ≡ Some ns → length ns ≡ length groups
all_length w [] ns e = let is : [] ≡ ns = cc in ap length (sym is)
all_length w (x ∷ xs) ns e =
    let t = option_and_then_some (λ (n : ℕ). option_map (λ k. n ∷ k) (numbers_of_all (group_of w) xs)) (group_of w x) ns e in
    let m = option_map_some (λ k. t.0 ∷ k) (numbers_of_all (group_of w) xs) ns t.2 in
    let i = all_length w xs m.0 m.1 in
    let j : length ns ≡ length (t.0 ∷ m.0) = ap length (sym m.2) in
    omega arith

one_more : (w : Notation) (group rest : List ℕ) (n : ℕ) (ns : List ℕ) → IsGroupOf w group n → AreGroupsOf w rest ns → 0 < length ns → AreGroupsOf w (group ++ (separator_of w ∷ rest)) (n ∷ ns)
one_more w group rest n [] g h some = absurd (omega arith)
one_more w group rest n (m ∷ ns) g h some = (group, rest, refl, g, h)

pieces_to : (w : Notation) (groups : List (List ℕ)) (ns : List ℕ) → 0 < length groups → numbers_of_all (group_of w) groups ≡ Some ns → AreGroupsOf w (join_with_byte (separator_of w) groups) ns
pieces_to w [] ns some e = absurd (omega arith)
pieces_to w (x ∷ []) ns some e =
    let t = option_and_then_some (λ (n : ℕ). option_map (λ k. n ∷ k) (numbers_of_all (group_of w) [])) (group_of w x) ns e in
    let is : t.0 ∷ [] ≡ ns = (let f = t.2 in cc) in
    let P : List ℕ → Type 0 = λ k. AreGroupsOf w x k in
    subst P is (group_to w x t.0 t.1)
pieces_to w (x ∷ y ∷ xs) ns some e =
    let t = option_and_then_some (λ (n : ℕ). option_map (λ k. n ∷ k) (numbers_of_all (group_of w) (y ∷ xs))) (group_of w x) ns e in
    let m = option_map_some (λ k. t.0 ∷ k) (numbers_of_all (group_of w) (y ∷ xs)) ns t.2 in
    let l = all_length w (y ∷ xs) m.0 m.1 in
    let P : List ℕ → Type 0 = λ k. AreGroupsOf w (join_with_byte (separator_of w) (x ∷ y ∷ xs)) k in
    subst P m.2 (one_more w x (join_with_byte (separator_of w) (y ∷ xs)) t.0 m.0 (group_to w x t.0 t.1) (pieces_to w (y ∷ xs) m.0 (omega arith) m.1) (omega arith))

numbers_to : (w : Notation) (text ns : List ℕ) → numbers_at w text ≡ Some ns → AreGroupsOf w text ns
numbers_to w [] ns e = let is : [] ≡ ns = cc in let P : List ℕ → Type 0 = λ k. AreGroupsOf w [] k in subst P is refl
numbers_to w (b ∷ bs) ns e =
    let P : List ℕ → Type 0 = λ t. AreGroupsOf w t ns in
    let l = length-slice_split (λ c. eqb c (separator_of w)) (b ∷ bs) in
    subst P (join_with_byte-slice_split (separator_of w) (b ∷ bs)) (pieces_to w (slice_split (λ c. eqb c (separator_of w)) (b ∷ bs)) ns (omega arith) e)

counted : (count base : ℕ) (ns : List ℕ) (a : ℕ) → length ns ≡ count → a ≡ number_from_digits base ns → number_of count base ns ≡ Some a
counted count base ns a l v = if_some _ (number_from_digits base ns) (eq-eqb (length ns) count l) ∙ ap Some (sym v)

count_is : (count base : ℕ) (ns : List ℕ) (a : ℕ) → number_of count base ns ≡ Some a → (length ns ≡ count) × (a ≡ number_from_digits base ns)
count_is count base ns a e = let s = cond_some _ (number_from_digits base ns) a e in (eqb-true (length ns) count s.0, sym s.1)

v4_from : (text : List ℕ) (a : ℕ) → IsV4Text text a → v4_of text ≡ Some a
v4_from text a f = some_then (number_of 4 256) (numbers_at Decimal text) f.numbers a (numbers_from Decimal text f.numbers f.groups) (counted 4 256 f.numbers a f.four f.value)

v4_to : (text : List ℕ) (a : ℕ) → v4_of text ≡ Some a → IsV4Text text a
v4_to text a e =
    let t = option_and_then_some (number_of 4 256) (numbers_at Decimal text) a e in
    let c = count_is 4 256 t.0 a t.2 in
    record { numbers = t.0; groups = numbers_to Decimal text t.0 t.1; four = c.0; value = c.1 }

full_from : (text : List ℕ) (a : ℕ) → IsFullText text a → full_of text ≡ Some a
full_from text a f = some_then (number_of 8 65536) (numbers_at Hexadecimal text) f.numbers a (numbers_from Hexadecimal text f.numbers f.groups) (counted 8 65536 f.numbers a f.eight f.value)

full_to : (text : List ℕ) (a : ℕ) → full_of text ≡ Some a → IsFullText text a
full_to text a e =
    let t = option_and_then_some (number_of 8 65536) (numbers_at Hexadecimal text) a e in
    let c = count_is 8 65536 t.0 a t.2 in
    record { numbers = t.0; groups = numbers_to Hexadecimal text t.0 t.1; eight = c.0; value = c.1 }

gap_from : (front back : List ℕ) (a : ℕ) → IsGap front back a → gap_of (front, back) ≡ Some a
gap_from front back a g =
    some_then (λ before. option_and_then (joined before) (numbers_at Hexadecimal back)) (numbers_at Hexadecimal front) g.before a (numbers_from Hexadecimal front g.before g.front_groups)
    (some_then (joined g.before) (numbers_at Hexadecimal back) g.after a (numbers_from Hexadecimal back g.after g.back_groups)
    (if_some _ (number_from_digits 65536 (g.before ++ (replicate (8 - (length g.before + length g.after)) 0 ++ g.after))) (le-leb (length g.before + length g.after) 7 g.at_most_seven) ∙ ap Some (sym g.value)))

gap_to : (front back : List ℕ) (a : ℕ) → gap_of (front, back) ≡ Some a → IsGap front back a
gap_to front back a e =
    let t = option_and_then_some (λ before. option_and_then (joined before) (numbers_at Hexadecimal back)) (numbers_at Hexadecimal front) a e in
    let u = option_and_then_some (joined t.0) (numbers_at Hexadecimal back) a t.2 in
    let s = cond_some _ (number_from_digits 65536 (t.0 ++ (replicate (8 - (length t.0 + length u.0)) 0 ++ u.0))) a u.2 in
    record {
      before = t.0;
      after = u.0;
      front_groups = numbers_to Hexadecimal front t.0 t.1;
      back_groups = numbers_to Hexadecimal back u.0 u.1;
      at_most_seven = leb-true (length t.0 + length u.0) 7 s.0;
      value = sym s.1;
    }

no_pair : (b c : ℕ) → (b ≡ 58 → c ≢ 58) → eqb b 58 && eqb c 58 ≡ false
no_pair b c h = by_test (eqb b 58 && eqb c 58) refl
  where
    by_test : (t : Bool) → eqb b 58 && eqb c 58 ≡ t → eqb b 58 && eqb c 58 ≡ false
    by_test false e = e
    by_test true e = let p = and_parts _ _ e in absurd (h (eqb-true b 58 p.0) (eqb-true c 58 p.1))

colons_from : (front back : List ℕ) → IsSingle front → cut_at_colons (front ++ (58 ∷ 58 ∷ back)) ≡ Some (front, back)
colons_from [] back s = refl
colons_from (b ∷ []) back s = rw (no_pair b 58 (λ e. absurd (s e)))
colons_from (b ∷ c ∷ bs) back s = rw (no_pair b c s.0, colons_from (c ∷ bs) back s.1)

colons_none : (text : List ℕ) → IsSingle text → cut_at_colons text ≡ None
colons_none [] s = refl
colons_none (b ∷ []) s = refl
colons_none (b ∷ c ∷ bs) s = rw (no_pair b c s.0, colons_none (c ∷ bs) s.1)

colons_to : (text : List ℕ) (p : List ℕ × List ℕ) → cut_at_colons text ≡ Some p → text ≡ p.0 ++ (58 ∷ 58 ∷ p.1)
colons_to [] p e = absurd (cc)
colons_to (b ∷ []) p e = absurd (cc)
colons_to (b ∷ c ∷ bs) p e = by_test (eqb b 58 && eqb c 58) refl e (λ q i. colons_to (c ∷ bs) q i)
  where
    by_test : (t : Bool) → eqb b 58 && eqb c 58 ≡ t → cond t (Some ([], bs)) (option_map (λ q. (b ∷ q.0, q.1)) (cut_at_colons (c ∷ bs))) ≡ Some p
        → ((q : List ℕ × List ℕ) → cut_at_colons (c ∷ bs) ≡ Some q → c ∷ bs ≡ q.0 ++ (58 ∷ 58 ∷ q.1)) → b ∷ c ∷ bs ≡ p.0 ++ (58 ∷ 58 ∷ p.1)
    by_test true same e rest =
        let is : ([], bs) ≡ p = cc in
        let t = and_parts _ _ same in
        let P : List ℕ × List ℕ → Type 0 = λ q. b ∷ c ∷ bs ≡ q.0 ++ (58 ∷ 58 ∷ q.1) in
        let i = eqb-true b 58 t.0 in
        let j = eqb-true c 58 t.1 in
        subst P is (cc)
    by_test false same e rest =
        let m = option_map_some (λ (q : List ℕ × List ℕ). (b ∷ q.0, q.1)) (cut_at_colons (c ∷ bs)) p e in
        let P : List ℕ × List ℕ → Type 0 = λ q. b ∷ c ∷ bs ≡ q.0 ++ (58 ∷ 58 ∷ q.1) in
        subst P m.2 (ap (λ l. b ∷ l) (rest m.0 m.1))

v6_from : (text : List ℕ) (a : ℕ) → IsV6Text text a → v6_by text (cut_at_colons text) ≡ Some a
v6_from text a (full f) = ap (v6_by text) (colons_none text (groups_single text f.numbers f.groups)) ∙ full_from text a f
v6_from text a (gap {front = front} {back = back} e g) =
    ap (λ t. v6_by text (cut_at_colons t)) e ∙ (ap (v6_by text) (colons_from front back (groups_single front g.before g.front_groups)) ∙ gap_from front back a g)

v6_to : (text : List ℕ) (a : ℕ) → v6_by text (cut_at_colons text) ≡ Some a → IsV6Text text a
v6_to text a e = by_cut (cut_at_colons text) refl e
  where
    by_cut : (o : Option (List ℕ × List ℕ)) → cut_at_colons text ≡ o → v6_by text o ≡ Some a → IsV6Text text a
    by_cut None cut e = full (full_to text a e)
    by_cut (Some p) cut e = gap (colons_to text p cut) (gap_to p.0 p.1 a e)

address_found : (text : List ℕ) (a : Ip) → IsAddressText text a → address_from text ≡ Some a
unfolding address_from
address_found text a (v4 {address = n} f e) = ap (λ o. address_by o (v6_by text (cut_at_colons text))) (v4_from text n f) ∙ ap Some (sym e)
address_found text a (v6 {address = n} f e) = by_v4 (v4_of text) refl
  where
    by_v4 : (o : Option ℕ) → v4_of text ≡ o → address_by (v4_of text) (v6_by text (cut_at_colons text)) ≡ Some a
    by_v4 None none = ap (λ o. address_by o (v6_by text (cut_at_colons text))) none ∙ (ap (address_by None) (v6_from text n f) ∙ ap Some (sym e))
    by_v4 (Some m) some = absurd (one_version text m n (v4_to text m some) f)

address_to : (text : List ℕ) (a : Ip) → address_from text ≡ Some a → IsAddressText text a
unfolding address_from
address_to text a e = by_v4 (v4_of text) refl e
  where
    by_v4 : (o : Option ℕ) → v4_of text ≡ o → address_by o (v6_by text (cut_at_colons text)) ≡ Some a → IsAddressText text a
    by_v4 (Some n) some e = v4 (v4_to text n some) (let is : V4 n 32 ≡ a = cc in sym is)
    by_v4 None none e = let m = option_map_some (λ (n : ℕ). V6 n 128) (v6_by text (cut_at_colons text)) a e in v6 (v6_to text m.0 m.1) (sym m.2)

slash_from : (part rest : List ℕ) → Lacks 47 part → cut_at_slash (part ++ (47 ∷ rest)) ≡ Some (part, rest)
slash_from [] rest l = refl
slash_from (b ∷ bs) rest l = rw (eqb_false b 47 l.0, slash_from bs rest l.1)

slash_none : (text : List ℕ) → Lacks 47 text → cut_at_slash text ≡ None
slash_none [] l = refl
slash_none (b ∷ bs) l = rw (eqb_false b 47 l.0, slash_none bs l.1)

slash_to : (text : List ℕ) (p : List ℕ × List ℕ) → cut_at_slash text ≡ Some p → text ≡ p.0 ++ (47 ∷ p.1)
slash_to [] p e = absurd (cc)
slash_to (b ∷ bs) p e = by_test (eqb b 47) refl e (λ q i. slash_to bs q i)
  where
    by_test : (t : Bool) → eqb b 47 ≡ t → cond t (Some ([], bs)) (option_map (λ q. (b ∷ q.0, q.1)) (cut_at_slash bs)) ≡ Some p → ((q : List ℕ × List ℕ) → cut_at_slash bs ≡ Some q → bs ≡ q.0 ++ (47 ∷ q.1)) → b ∷ bs ≡ p.0 ++ (47 ∷ p.1)
    by_test true same e rest =
        let is : ([], bs) ≡ p = cc in
        let P : List ℕ × List ℕ → Type 0 = λ q. b ∷ bs ≡ q.0 ++ (47 ∷ q.1) in
        subst P is (ap (λ c. c ∷ bs) (eqb-true b 47 same))
    by_test false same e rest =
        let m = option_map_some (λ (q : List ℕ × List ℕ). (b ∷ q.0, q.1)) (cut_at_slash bs) p e in
        let P : List ℕ × List ℕ → Type 0 = λ q. b ∷ bs ≡ q.0 ++ (47 ∷ q.1) in
        subst P m.2 (ap (λ l. b ∷ l) (rest m.0 m.1))

ip_found : (text : List ℕ) (a : Ip) → IsIpText text a → ip_of text ≡ Some a
unfolding ip_of
ip_found text a (alone x) = ap (ip_by text) (slash_none text (address_lacks_slash text a x)) ∙ address_found text a x
ip_found text a (prefixed {part = part} {prefix = n} {b = b} e x most is) =
    let small : n < 256 = (let w = width-le b in omega arith) in
    ap (λ t. ip_by text (cut_at_slash t)) e
    ∙ (ap (ip_by text) (slash_from part (decimal n) (address_lacks_slash part b x))
    ∙ some_then (λ c. option_and_then (prefixed_by c) (decimal_group (decimal n))) (address_from part) b a (address_found part b x)
    (some_then (prefixed_by b) (decimal_group (decimal n)) n a (group_from Decimal (decimal n) n (small, refl)) (if_some _ (with_prefix b n) (le-leb n (width_of b) most) ∙ ap Some (sym is))))

ip_to : (text : List ℕ) (a : Ip) → ip_of text ≡ Some a → IsIpText text a
unfolding ip_of
ip_to text a e = by_cut (cut_at_slash text) refl e
  where
    by_cut : (o : Option (List ℕ × List ℕ)) → cut_at_slash text ≡ o → ip_by text o ≡ Some a → IsIpText text a
    by_cut None cut e = alone (address_to text a e)
    by_cut (Some p) cut e =
        let t = option_and_then_some (λ b. option_and_then (prefixed_by b) (decimal_group p.1)) (address_from p.0) a e in
        let u = option_and_then_some (prefixed_by t.0) (decimal_group p.1) a t.2 in
        let s = cond_some _ (with_prefix t.0 u.0) a u.2 in
        let g = group_to Decimal p.1 u.0 u.1 in
        prefixed (slash_to text p cut ∙ ap (λ l. p.0 ++ (47 ∷ l)) g.1) (address_to p.0 t.0 t.1) (leb-true u.0 (width_of t.0) s.0) (sym s.1)

-- the address that is found is the one that the text stands for
pub ip_of_decides : (text : List ℕ) (a : Ip) → (ip_of text ≡ Some a) ↔ IsIpText text a
ip_of_decides text a = (ip_to text a, ip_found text a)

-- what is read is what is found
pub read_is : {E : Type 0} (text : List ℕ) (r : Result Ip E) → IfOk r (λ a. IsIpText text a) → OnErr r ((a : Ip) → IsIpText text a → ⊥) → result_ok r ≡ ip_of text
read_is text (Ok a) ok err = sym (ip_found text a ok)
read_is text (Err e) ok err = none (ip_of text) refl
  where
    none : (o : Option Ip) → ip_of text ≡ o → None ≡ ip_of text
    none None e = sym e
    none (Some a) e = absurd (err a (ip_to text a e))
