-- What white space and comments leave.
use Rattle.std.proofs.Common.{◌≡◌, ℕ, ◌-◌, ◌<◌, ◌≤◌, ◌&&◌, List, [], ◌∷◌, ◌++◌, length, drop, Bool, true, false, cond, eqb, refl, sym, ◌∙◌, ap, subst, arith, length-append, length-drop, eqb-true, inl, inr, get_or, None, zero, suc}
use Rattle.std.specs.Prelude.{codes, MatchBool}
use Rattle.std.specs.Char.{encode_utf8, is_whitespace}
use Rattle.std.specs.Str.{IsUtf8, IsCharBoundary, chars, encode_utf8_all, skip_leading_whitespace, trim_start}
use Rattle.std.specs.Str.Pattern.{HasPrefixMatch, FindsTextPrefix}
use Rattle.std.specs.List.{take_while, starts_with}
use Rattle.std.proofs.lemmas.Bool.{cases_lt}
use Rattle.std.proofs.lemmas.Bool.Decides.{nat_tests}
use Rattle.std.proofs.lemmas.Str.{IsCharBoundary-before_ascii, IsCharBoundary-end, IsUtf8-drop, IsUtf8-past_char, cons_from_encodes, encodes-chars}
use Rattle.std.proofs.lemmas.Str.Pattern.{starts_text}
use Rattle.std.proofs.lemmas.List.{take-append-drop, drop_at}
use Rattle.std.proofs.lemmas.List.Sums.{take_while-cons}
use Rattle.sc_lists.proofs.TextLaws.{take_while_stops, take_while_within, take_while_front, take_while_passes}
use Rattle.sc_lexer.specs.Blanks.{ends_line, stays_in_line, EndsLine, BeginsNoSpace, Skips, none, space, comment, Leads}

-- white space

no_space : (cs es : List ℕ) (c : ℕ) → skip_leading_whitespace cs ≡ c ∷ es → is_whitespace c ≡ true → ⊥
no_space [] es c e h = cc
no_space (d ∷ cs) es c e h = elim (is_whitespace d) as (λ b. is_whitespace d ≡ b → cond b (skip_leading_whitespace cs) (d ∷ cs) ≡ c ∷ es → ⊥) [
  | true ↦ λ k f. no_space cs es c f h
  | false ↦ λ k f. let same : d ≡ c = cc in let both : false ≡ true = sym k ∙ ap is_whitespace same ∙ h in cc
] refl e

pub BeginsNoSpace_trim : (t r : List ℕ) → r ≡ trim_start t → BeginsNoSpace r
unfolding trim_start
BeginsNoSpace_trim t r e = record {
  space = λ c rest scalar white is.
      let k = cons_from_encodes (skip_leading_whitespace (chars t)) rest c (sym e ∙ is) in
      no_space (chars t) k.0 c k.1 white;
}

skips_space : (cs left : List ℕ) → Skips (encode_utf8_all (skip_leading_whitespace cs)) left → Skips (encode_utf8_all cs) left
skips_space [] left s = s
skips_space (c ∷ cs) left s = elim (is_whitespace c) as (λ b. is_whitespace c ≡ b → Skips (encode_utf8_all (cond b (skip_leading_whitespace cs) (c ∷ cs))) left → Skips (encode_utf8_all (c ∷ cs)) left) [
  | true ↦ λ k f. space c (encode_utf8_all cs) left k (skips_space cs left f)
  | false ↦ λ k f. f
] refl s

pub Leads_trim : (t r : List ℕ) → r ≡ trim_start t → IsUtf8 t → Leads t r
unfolding trim_start
Leads_trim t r e u = record {
  leads = λ left s. subst (λ bs. Skips bs left) (encodes-chars t u) (skips_space (chars t) left (subst (λ bs. Skips bs left) e s));
}

-- a line and what comes after it
pub take_while-drop : (p : ℕ → Bool) (cs : List ℕ) → take_while p cs ++ drop (length (take_while p cs)) cs ≡ cs
take_while-drop p cs = ap (λ xs. xs ++ drop (length (take_while p cs)) cs) (sym (take_while_front p cs)) ∙ take-append-drop (length (take_while p cs)) cs

EndsLine-from : (s : List ℕ) → take_while stays_in_line s ≡ [] → EndsLine s
EndsLine-from [] e = tt
EndsLine-from (c ∷ cs) e = elim (ends_line c) as (λ b. ends_line c ≡ b → b ≡ true) [
  | true ↦ λ k. refl
  | false ↦ λ k. absurd (let f : c ∷ take_while stays_in_line cs ≡ [] = (rw (take_while-cons, k) at e) in cc)
] refl

EndsLine-drop : (s : List ℕ) → EndsLine (drop (length (take_while stays_in_line s)) s)
EndsLine-drop s = EndsLine-from (drop (length (take_while stays_in_line s)) s) (take_while_stops stays_in_line s)

-- a comment's slashes
slashes : (t : List ℕ) → starts_with eqb t (codes "//") ≡ true → (s : List ℕ) × (t ≡ 47 ∷ 47 ∷ s)
slashes [] h = cc
slashes (a ∷ []) h = elim (eqb 47 a) as (λ b. (b && false) ≡ true → (s : List ℕ) × (a ∷ [] ≡ 47 ∷ 47 ∷ s)) [ true ↦ λ k. cc | false ↦ λ k. cc ] h
slashes (a ∷ b ∷ s) h = elim (eqb 47 a) as (λ x. eqb 47 a ≡ x → (x && (eqb 47 b && true)) ≡ true → (s' : List ℕ) × (a ∷ b ∷ s ≡ 47 ∷ 47 ∷ s')) [
  | true ↦ λ e k. elim (eqb 47 b) as (λ y. eqb 47 b ≡ y → (y && true) ≡ true → (s' : List ℕ) × (a ∷ b ∷ s ≡ 47 ∷ 47 ∷ s')) [
    | true ↦ λ f m. (s, let p : 47 ≡ a = eqb-true 47 a e in let q : 47 ≡ b = eqb-true 47 b f in cc)
    | false ↦ λ f m. cc
  ] refl k
  | false ↦ λ e k. cc
] refl h

pub starts_comment : (r : Bool) (t : List ℕ) → MatchBool r (HasPrefixMatch (FindsTextPrefix (codes "//")) t) (FindsTextPrefix (codes "//") t None) → r ≡ starts_with eqb t (codes "//")
starts_comment r t h = starts_text r (codes "//") t h

Leads_line : (s left : List ℕ) → Skips (drop (length (take_while stays_in_line s)) s) left → Skips (47 ∷ 47 ∷ s) left
Leads_line s left k =
    subst (λ bs. Skips (47 ∷ 47 ∷ bs) left) (take_while-drop stays_in_line s)
    (comment (take_while stays_in_line s) (drop (length (take_while stays_in_line s)) s) left (take_while_passes stays_in_line s) (EndsLine-drop s) k)

line_slashes : (s : List ℕ) → drop (length (take_while stays_in_line (47 ∷ 47 ∷ s))) (47 ∷ 47 ∷ s) ≡ drop (length (take_while stays_in_line s)) s
line_slashes s = rw (take_while-cons stays_in_line 47 (47 ∷ s), take_while-cons stays_in_line 47 s) refl

pub Leads_comment : (t line r : List ℕ) → line ≡ drop (length (take_while stays_in_line t)) t → r ≡ trim_start line → IsUtf8 line → starts_with eqb t (codes "//") ≡ true → Leads t r
Leads_comment t line r e f u h =
    let parts = slashes t h in
    let after : line ≡ drop (length (take_while stays_in_line parts.0)) parts.0 = e ∙ ap (λ bs. drop (length (take_while stays_in_line bs)) bs) parts.1 ∙ line_slashes parts.0 in
    record { leads = λ left s. subst (λ bs. Skips bs left) (sym parts.1) (Leads_line parts.0 left (subst (λ bs. Skips bs left) after ((Leads_trim line r f u).leads left s))) }

pub shorter_comment : (t line : List ℕ) → line ≡ drop (length (take_while stays_in_line t)) t → starts_with eqb t (codes "//") ≡ true → length line < length t
shorter_comment t line e h =
    let parts = slashes t h in
    let after : line ≡ drop (length (take_while stays_in_line parts.0)) parts.0 = e ∙ ap (λ bs. drop (length (take_while stays_in_line bs)) bs) parts.1 ∙ line_slashes parts.0 in
    let long : length t ≡ length (47 ∷ 47 ∷ parts.0) = ap length parts.1 in
    let short : length line ≡ length parts.0 - length (take_while stays_in_line parts.0) = ap length after ∙ length-drop (length (take_while stays_in_line parts.0)) parts.0 in
    omega arith

-- a text may be cut where a line ends
small : (c : ℕ) → ends_line c ≡ true → c < 128
small c e = grind (arith, nat_tests)

small_at : (s : List ℕ) (n : ℕ) → n < length s → EndsLine (drop n s) → get_or s n 0 < 128
small_at [] n h e = absurd (omega arith)
small_at (c ∷ cs) zero h e = small c e
small_at (c ∷ cs) (suc n) h e = small_at cs n (omega arith) e

boundary_of : (s : List ℕ) (n : ℕ) → n ≤ length s → EndsLine (drop n s) → IsCharBoundary s n
boundary_of s n h e = elim (cases_lt n (length s)) [
  | inl less ↦ IsCharBoundary-before_ascii s n less (small_at s n less e)
  | inr above ↦ let k : length s ≡ n = omega arith in subst (IsCharBoundary s) k (IsCharBoundary-end s)
]

pub line_boundary : (t : List ℕ) (n : ℕ) → n ≡ length (take_while stays_in_line t) → IsCharBoundary t n
line_boundary t n e = rw e (boundary_of t (length (take_while stays_in_line t)) (take_while_within stays_in_line t) (EndsLine-drop t))

-- several steps

pub Leads_add : (a b c : List ℕ) → Leads a b → Leads b c → Leads a c
Leads_add a b c l m = record { leads = λ left s. l.leads left (m.leads left s) }

no_slashes : (t rest : List ℕ) → t ≡ 47 ∷ 47 ∷ rest → starts_with eqb t (codes "//") ≡ true
no_slashes t rest e = rw e refl

pub Leads_end : (t r : List ℕ) → Leads t r → BeginsNoSpace r → starts_with eqb r (codes "//") ≡ false → Skips t r
Leads_end t r l n h = l.leads r (none r n (record { slashes = λ rest e. let both : false ≡ true = sym h ∙ no_slashes r rest e in cc }))

pub length-Skips : {bytes left : List ℕ} → Skips bytes left → length left ≤ length bytes
length-Skips (none b s c) = omega arith
length-Skips (space c rest left w s) = let less : length left ≤ length rest = length-Skips s in omega (arith, length-append {A = ℕ})
length-Skips (comment line rest left i e s) = let less : length left ≤ length rest = length-Skips s in omega (arith, length-append {A = ℕ})

pub within_end : (t r : List ℕ) → Leads t r → BeginsNoSpace r → starts_with eqb r (codes "//") ≡ false → length r ≤ length t
within_end t r l n h = length-Skips (Leads_end t r l n h)

pub IsUtf8-Skips : {bytes left : List ℕ} → Skips bytes left → IsUtf8 bytes → IsUtf8 left
IsUtf8-Skips (none b s c) u = u
IsUtf8-Skips (space c rest left w s) u = IsUtf8-Skips s (IsUtf8-past_char (encode_utf8 c ++ rest) rest c u refl)
IsUtf8-Skips (comment line rest left i e s) u =
    let whole = 47 ∷ 47 ∷ (line ++ rest) in
    let after : drop (length line) (line ++ rest) ≡ rest = drop_at line rest (length line) refl in
    let cut : IsCharBoundary whole (length (47 ∷ 47 ∷ line)) = boundary_of whole (length (47 ∷ 47 ∷ line)) (omega (arith, length-append line rest)) (subst EndsLine (sym after) e) in
    IsUtf8-Skips s (subst IsUtf8 after (IsUtf8-drop whole (length (47 ∷ 47 ∷ line)) u cut))
