-- Each list of bytes has tokens, or a first place where it has none.
use Rattle.std.proofs.Common.{◌≡◌, ◌≢◌, inl, inr, ℕ, zero, suc, ◌+◌, ◌-◌, ◌<◌, ◌≤◌, List, [], ◌∷◌, ◌++◌, length, take, drop, get_or, Bool, true, false, cond, eqb, eqb-true, eq-eqb, arith, refl, sym, ap, subst, ◌∙◌, Result, Ok, Err, length-append, length-drop}
use Rattle.std.specs.Prelude.{codes}
use Rattle.std.specs.declared.option.Option.{Option}
use Rattle.std.specs.declared.option.Option.TheVariants.{Some, None}
use Rattle.std.specs.Char.{encode_utf8, is_whitespace}
use Rattle.std.specs.List.{take_while, starts_with}
use Rattle.std.specs.Str.{IsUtf8, is_utf8, IsValidUpTo, chars, encode_utf8_all, skip_leading_whitespace, trim_start, bytes_eq}
use Rattle.std.proofs.Math.Seq.{take-append_seam, take-length}
use Rattle.std.proofs.lemmas.Bool.{cases_Bool, cases_lt}
use Rattle.std.proofs.lemmas.List.{take-append-drop, length-take-le, nil_from_length}
use Rattle.std.proofs.lemmas.Str.{IsUtf8-nil, IsUtf8-drop, IsUtf8-past_char, IsUtf8-from_is_utf8, is_utf8-from_IsUtf8, encodes-chars}
use Rattle.sc_laws.proofs.BoolLaws.{never}
use Rattle.sc_lexer.specs.declared.token.Kind.{Kind}
use Rattle.sc_lexer.specs.declared.token.Kind.TheVariants.{Str}
use Rattle.sc_lexer.specs.declared.token.LexFault.{LexFault}
use Rattle.sc_lexer.specs.declared.token.LexFault.TheVariants.{BadUtf8, BadToken, BadEscape}
use Rattle.sc_lexer.specs.declared.token.Token.{Token}
use Rattle.sc_lexer.specs.Blanks.{stays_in_line, Skips}
use Rattle.sc_lexer.specs.Escapes.{IsSpelled, IsBadEscape, escape_of}
use Rattle.sc_lexer.specs.Fronts.{IsFront, IsNext}
use Rattle.sc_lexer.specs.Parts.{allows, IsPart}
use Rattle.sc_lexer.specs.Reading.{Reads, ends, no_token, bad_escape, some_token, token_of, before, Lexes, ill_formed, text}
use Rattle.sc_lexer.specs.Tokens.{kind_of, BeginsWith, BeginsNoToken}
use Rattle.sc_lexer.proofs.BlankLaws.{BeginsNoSpace_trim, Leads_trim, Leads_comment, Leads_end, line_boundary, shorter_comment, length-Skips, IsUtf8-Skips}
use Rattle.sc_lexer.proofs.ReadingLaws.{front_boundary, shorter}
use Rattle.sc_lexer.proofs.SpellingLaws.{IsPart_plain, IsPart_escape, BeginsBadEscape_none, BeginsBadEscape_star, IsSpelled_start, IsSpelled_more, IsSpelled_all, IsBadEscape_at}
use Rattle.sc_parser_laws.proofs.ChoiceLaws.{kind_or}

-- ---- white space and comments

-- a text without the white space at its start is a text, and no longer
record IsRest (t r : List ℕ) : Type 0 where
  pub short : length r ≤ length t
  pub utf8 : IsUtf8 r

rest_of : (cs t : List ℕ) → encode_utf8_all cs ≡ t → IsUtf8 t → IsRest t (encode_utf8_all (skip_leading_whitespace cs))
rest_of [] t e u = record { short = omega (arith, ap length e); utf8 = subst IsUtf8 (sym e) u }
rest_of (c ∷ cs) t e u = elim (is_whitespace c) as (λ b. is_whitespace c ≡ b → IsRest t (encode_utf8_all (cond b (skip_leading_whitespace cs) (c ∷ cs)))) [
  | true ↦ λ k.
      let rest = encode_utf8_all cs in
      let more = rest_of cs rest refl (IsUtf8-past_char t rest c u (sym e)) in
      let whole : length (encode_utf8 c) + length rest ≡ length t = sym (length-append (encode_utf8 c) rest) ∙ ap length e in
      record { short = omega (arith, more.short, whole); utf8 = more.utf8 }
  | false ↦ λ k. record { short = omega (arith, ap length e); utf8 = subst IsUtf8 (sym e) u }
] refl

trimmed : (t : List ℕ) → IsUtf8 t → IsRest t (trim_start t)
unfolding trim_start
trimmed t u = rest_of (chars t) t (encodes-chars t u) u

blanks_by : (n : ℕ) (t : List ℕ) → length t < n → IsUtf8 t → (left : List ℕ) × Skips (trim_start t) left
blanks_by zero t short u = absurd (omega (arith, short))
blanks_by (suc n) t short u =
    let r = trim_start t in
    let rest = trimmed t u in
    elim (cases_Bool (starts_with eqb r (codes "//"))) [
      | inl comment ↦
          let line = drop (length (take_while stays_in_line r)) r in
          let utf8 = IsUtf8-drop r (length (take_while stays_in_line r)) rest.utf8 (line_boundary r (length (take_while stays_in_line r)) refl) in
          let less = shorter_comment r line refl comment in
          let later = blanks_by n line (omega (arith, short, rest.short, less)) utf8 in
          (later.0, (Leads_comment r line (trim_start line) refl refl utf8 comment).leads later.0 later.1)
      | inr none ↦ (r, Leads_end r r (record { leads = λ left s. s }) (BeginsNoSpace_trim t r refl) none)
    ]

blanks : (t : List ℕ) → IsUtf8 t → (left : List ℕ) × Skips t left
blanks t u = let s = blanks_by (suc (length t)) t (omega arith) u in (s.0, (Leads_trim t (trim_start t) refl u).leads s.0 s.1)

-- ---- the longest token

front_is : (bytes word others : List ℕ) → bytes ≡ word ++ others → take (length word) bytes ≡ word
front_is bytes word others e = ap (take (length word)) e ∙ take-append_seam word others

-- no longer front of the bytes is a token
abbrev NoneAbove : List ℕ → ℕ → Type 0
NoneAbove bytes n = (m : ℕ) → n < m → kind_of (take m bytes) ≡ None

-- the longest token that begins the bytes, or none does
data Begins (bytes : List ℕ) : Type 0 where
  token : (kind : Kind) (len : ℕ) → IsFront bytes kind len → Begins bytes
  nothing : BeginsNoToken bytes → Begins bytes

longest_front : (bytes : List ℕ) (n : ℕ) (kind : Kind) → n ≤ length bytes → NoneAbove bytes n → kind_of (take n bytes) ≡ Some kind → IsFront bytes kind n
longest_front bytes n kind within above is = record {
  within = within;
  begins = record {
    parts = sym (take-append-drop n bytes);
    is = is;
    longest = λ longer others other e told. elim (cases_lt n (length longer)) [
      | inl more ↦ absurd (let clash : None ≡ Some other = sym (above (length longer) more) ∙ ap kind_of (front_is bytes longer others e) ∙ told in cc)
      | inr few ↦ let size : length (take n bytes) ≡ n = length-take-le n bytes within in omega (arith, few, size)
    ];
  };
}

no_front : (bytes : List ℕ) → NoneAbove bytes 0 → kind_of (take 0 bytes) ≡ None → BeginsNoToken bytes
no_front bytes above none word others e = elim (cases_lt 0 (length word)) [
  | inl some ↦ ap kind_of (sym (front_is bytes word others e)) ∙ above (length word) some
  | inr few ↦
      let size : length word ≡ 0 = omega (arith, few) in
      ap kind_of (sym (front_is bytes word others e) ∙ ap (λ (n : ℕ). take n bytes) size) ∙ none
]

above_now : (bytes : List ℕ) (n : ℕ) → NoneAbove bytes (suc n) → kind_of (take (suc n) bytes) ≡ None → NoneAbove bytes n
above_now bytes n above none m h = elim (cases_lt (suc n) m) [
  | inl more ↦ above m more
  | inr few ↦ let same : m ≡ suc n = omega (arith, h, few) in ap (λ (k : ℕ). kind_of (take k bytes)) same ∙ none
]

begins_by : (bytes : List ℕ) (n : ℕ) → n ≤ length bytes → NoneAbove bytes n → (o : Option Kind) → kind_of (take n bytes) ≡ o → Begins bytes
begins_by bytes n within above (Some kind) e = token kind n (longest_front bytes n kind within above e)
begins_by bytes zero within above None e = nothing (no_front bytes above e)
begins_by bytes (suc n) within above None e = begins_by bytes n (omega (arith, within)) (above_now bytes n above e) (kind_of (take n bytes)) refl

-- past its end the bytes have no further front
whole_front : (bytes : List ℕ) (m : ℕ) → length bytes ≤ m → take m bytes ≡ bytes
whole_front [] zero h = refl
whole_front [] (suc m) h = refl
whole_front (b ∷ bytes) zero h = absurd (omega (arith, h))
whole_front (b ∷ bytes) (suc m) h = ap (λ bs. b ∷ bs) (whole_front bytes m (omega (arith, h)))

token_of_bytes : (bytes : List ℕ) → Begins bytes
token_of_bytes bytes = by (kind_of bytes) refl
  where
    above : kind_of bytes ≡ None → NoneAbove bytes (length bytes)
    above none m h = ap kind_of (whole_front bytes m (omega (arith, h))) ∙ none

    by : (o : Option Kind) → kind_of bytes ≡ o → Begins bytes
    by (Some kind) e = token kind (length bytes) (record {
      within = omega arith;
      begins = record {
        parts = sym (take-append-drop (length bytes) bytes);
        is = ap kind_of (take-length bytes) ∙ e;
        longest = λ longer others other told is.
            let size : length bytes ≡ length longer + length others = ap length told ∙ length-append longer others in
            let all : length (take (length bytes) bytes) ≡ length bytes = ap length (take-length bytes) in
            omega (arith, size, all);
      };
    })
    by None e = begins_by bytes (length bytes) (omega arith) (above e) None (ap kind_of (take-length bytes) ∙ e)

-- ---- escapes

-- all backslashes of a string begin escapes, or the first that doesn't
data Escapes (like : Bool) (word : List ℕ) : Type 0 where
  spelled : IsSpelled like word → Escapes like word
  bad : (front back : List ℕ) → IsBadEscape like word front back → Escapes like word

-- what stands from a place on
abbrev from : List ℕ → ℕ → List ℕ
from word at = take (length word - at) (drop at word)

-- the string goes on by a part, or a backslash stands there that begins no escape
data Goes (like : Bool) (word : List ℕ) (at : ℕ) : Type 0 where
  part : (k : ℕ) → IsPart like (from word at) k → Goes like word at
  stops : (front back : List ℕ) → IsBadEscape like word front back → Goes like word at

module _ (like : Bool) (word : List ℕ) where
  abbrev ahead : ℕ → List ℕ
  ahead at = from word at

  ahead_len : (at : ℕ) → at ≤ length word → length (ahead at) ≡ length word - at
  ahead_len at h = length-take-le (length word - at) (drop at word) (let e = length-drop at word in omega (arith, e))

  escaped : (at : ℕ) → IsSpelled like (take at word) → 0 < length (ahead at) → get_or (ahead at) 0 0 ≡ 92 → (o : _) → escape_of (take (length (ahead at) - 1) (drop 1 (ahead at))) ≡ o → Goes like word at
  escaped at s some is None e = stops (take at word) (drop (at + 1) word) (IsBadEscape_at like word at s (BeginsBadEscape_none like (ahead at) some is (sym e)))
  escaped at s some is (Some x) e = elim (cases_Bool (allows like x.piece)) [
    | inl allowed ↦ part (x.len + 1) (IsPart_escape like (ahead at) x some is (sym e) allowed)
    | inr refused ↦ stops (take at word) (drop (at + 1) word) (IsBadEscape_at like word at s (BeginsBadEscape_star like (ahead at) x some is (sym e) refused))
  ]

  goes : (at : ℕ) → at < length word → IsSpelled like (take at word) → Goes like word at
  goes at more s =
      let size = ahead_len at (omega (arith, more)) in
      let some : 0 < length (ahead at) = omega (arith, size, more) in
      elim (cases_Bool (eqb (get_or (ahead at) 0 0) 92)) [
        | inl is ↦ escaped at s some (eqb-true (get_or (ahead at) 0 0) 92 is) (escape_of (take (length (ahead at) - 1) (drop 1 (ahead at)))) refl
        | inr other ↦ part 1 (IsPart_plain like (ahead at) some (λ e. never ⊥ (sym (eq-eqb (get_or (ahead at) 0 0) 92 e) ∙ other)))
      ]

  escapes_from : (n at : ℕ) → length word ≤ at + n → at ≤ length word → IsSpelled like (take at word) → Escapes like word
  escapes_from zero at few within s = spelled (IsSpelled_all like word at s (omega (arith, few, within)))
  escapes_from (suc n) at few within s = elim (cases_lt at (length word)) [
    | inl more ↦ elim (goes at more s) [
      | part k p ↦
          let size = ahead_len at within in
          let some = p.some in
          let inside = p.within in
          escapes_from n (at + k) (omega (arith, few, some)) (omega (arith, inside, size, within)) (IsSpelled_more like word at k s p)
      | stops front back b ↦ bad front back b
    ]
    | inr past ↦ spelled (IsSpelled_all like word at s (omega (arith, past, within)))
  ]

  escapes : Escapes like word
  escapes = escapes_from (length word) 0 (omega arith) (omega arith) (IsSpelled_start like)

-- ---- the tokens of a text

-- the next token, or why there is none
data Next (whole : ℕ) (like : Bool) (bytes left : List ℕ) : Type 0 where
  next : (kind : Kind) (len : ℕ) → IsNext like left kind len → Next whole like bytes left
  fault : (f : LexFault) → Reads whole like bytes (Err f) → Next whole like bytes left

next_of : (whole : ℕ) (like : Bool) (bytes left : List ℕ) → Skips bytes left → left ≢ [] → Next whole like bytes left
next_of whole like bytes left s some = elim (token_of_bytes left) [
  | nothing none ↦ fault (BadToken (whole - length left)) (no_token like bytes left s some none)
  | token kind len f ↦ elim (escapes like (take len left)) [
    | spelled all ↦ next kind len (record { front = f; escapes = λ e. all })
    | bad front back b ↦ elim (kind_or kind Str) [
      | inl same ↦ fault (BadEscape (whole - length (92 ∷ (back ++ drop len left)))) (bad_escape like bytes left (take len left) (drop len left) front back s (subst (BeginsWith left (take len left) (drop len left)) same f.begins) b)
      | inr other ↦ next kind len (record { front = f; escapes = λ e. absurd (other e) })
    ]
  ]
]

reads_by : (n whole : ℕ) (like : Bool) (bytes : List ℕ) → length bytes < n → IsUtf8 bytes → (r : Result (List Token) LexFault) × Reads whole like bytes r
reads_by zero whole like bytes short u = absurd (omega (arith, short))
reads_by (suc n) whole like bytes short u =
    let skipped = blanks bytes u in
    let left = skipped.0 in
    let s = skipped.1 in
    elim (cases_lt 0 (length left)) [
      | inr few ↦ (Ok [], ends like bytes (subst (Skips bytes) (nil_from_length left (omega (arith, few))) s))
      | inl some ↦ elim (next_of whole like bytes left s (λ e. let size = ap length e in omega (arith, some, size))) [
        | fault f r ↦ (Err f, r)
        | next kind len x ↦
            let rest = drop len left in
            let less = shorter bytes left like kind len (length-Skips s) x in
            let utf8 = IsUtf8-drop left len (IsUtf8-Skips s u) (front_boundary left kind len x.front (IsUtf8-Skips s u)) in
            let later = reads_by n whole (bytes_eq (take len left) (codes "like")) rest (omega (arith, short, less)) utf8 in
            (before (token_of whole kind (take len left) rest) later.0, some_token like bytes left (take len left) rest kind later.0 s x.front.begins x.escapes later.1)
      ]
    ]

-- ---- the first ill-formed sequence

not_utf8 : (bytes : List ℕ) → is_utf8 bytes ≡ false → IsUtf8 bytes → ⊥
not_utf8 bytes h u = never ⊥ (sym (is_utf8-from_IsUtf8 bytes u) ∙ h)

valid_by : (bytes : List ℕ) (n : ℕ) → n ≤ length bytes → ((m : ℕ) → n ≤ m → IsUtf8 (take m bytes) → ⊥) → (at : ℕ) × IsValidUpTo bytes at
valid_by bytes zero within above = absurd (above 0 (omega arith) IsUtf8-nil)
valid_by bytes (suc n) within above = elim (cases_Bool (is_utf8 (take n bytes))) [
  | inl is ↦ (n, record { short = omega (arith, within); front = IsUtf8-from_is_utf8 (take n bytes) is; longest = λ m h u. above m (omega (arith, h)) u })
  | inr other ↦ valid_by bytes n (omega (arith, within)) (λ m h u. elim (cases_lt n m) [
    | inl more ↦ above m (omega (arith, more)) u
    | inr few ↦ let same : m ≡ n = omega (arith, h, few) in not_utf8 (take n bytes) other (subst (λ (k : ℕ). IsUtf8 (take k bytes)) same u)
  ])
]

pub lexing : (bytes : List ℕ) → (r : Result (List Token) LexFault) × Lexes bytes r
lexing bytes = elim (cases_Bool (is_utf8 bytes)) [
  | inl is ↦
      let u = IsUtf8-from_is_utf8 bytes is in
      let r = reads_by (suc (length bytes)) (length bytes) false bytes (omega arith) u in
      (r.0, text r.0 u r.1)
  | inr other ↦
      let none = not_utf8 bytes other in
      let at = valid_by bytes (length bytes) (omega arith) (λ m h u. none (subst IsUtf8 (whole_front bytes m h) u)) in
      (Err (BadUtf8 at.0), ill_formed at.0 none at.1)
]
