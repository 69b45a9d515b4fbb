-- Texts that are one token where others follow.
use Rattle.std.proofs.Common.{◌≡◌, ◌≢◌, ℕ, ◌+◌, ◌-◌, ◌<◌, ◌≤◌, List, [], ◌∷◌, ◌++◌, length, take, drop, get_or, Bool, true, false, refl, sym, ◌∙◌, ap, subst, arith, length-append, Some, None}
use Rattle.std.specs.Char.{is_ascii_digit, is_whitespace}
use Rattle.std.specs.List.{list_all, take_while}
use Rattle.std.specs.Str.{IsAscii}
use Rattle.std.specs.Str.Parse.{AllDigits}
use Rattle.std.proofs.lemmas.Bool.Decides.{nat_tests}
use Rattle.std.proofs.lemmas.List.{take_at, drop_at}
use Rattle.std.proofs.lemmas.List.Sums.{take_while-cons}
use Rattle.std.proofs.lemmas.Str.{encode_ascii, encode_same}
use Rattle.std.proofs.lemmas.Str.Ascii.{IsAscii-nil, IsAscii-cons}
use Rattle.std.proofs.lemmas.Str.Parse.{digit_from_value}
use Rattle.sc_laws.proofs.BoolLaws.{and_first, and_second}
use Rattle.sc_lists.proofs.ListLaws.{rest_is}
use Rattle.sc_names.specs.Names.{begins_word, goes_on_word}
use Rattle.sc_lexer.specs.Blanks.{BeginsNoSpace, BeginsNoComment}
use Rattle.sc_lexer.specs.Escapes.{IsSpelled, ends, plain}
use Rattle.sc_lexer.specs.Fronts.{IsFront, long_sign}
use Rattle.sc_lexer.specs.Tokens.{BeginsWith, closes, one_sign}
use Rattle.sc_lexer.specs.declared.token.Kind.{Kind}
use Rattle.sc_lexer.specs.declared.token.Kind.TheVariants.{Word, Number, Str}
use Rattle.sc_lexer.proofs.FrontLaws.{IsFront_word, IsFront_number, IsFront_string, IsFront_one, IsFront_two}
use Rattle.sc_lexer.proofs.StringLaws.{closes-plain}
use Rattle.sc_generated_laws.specs.Items.{IsItem}
use Rattle.sc_generated_laws.specs.Lines.{group_text}

-- ---- what a first byte rules out

-- neither white space nor a slash
record IsPlain (b : ℕ) : Type 0 where
  small : b < 128
  black : is_whitespace b ≡ false
  no_slash : b ≢ 47

no_space : (bytes : List ℕ) → 0 < length bytes → IsPlain (get_or bytes 0 0) → BeginsNoSpace bytes
no_space [] some p = absurd (omega arith)
no_space (b ∷ bytes) some p = record {
  space = λ c rest scalar white e.
      let same = (encode_same b c bytes rest (ap (λ (x : List ℕ). x ++ bytes) (encode_ascii b p.small) ∙ e)).0 in
      let both : false ≡ true = sym p.black ∙ ap is_whitespace same ∙ white in
      cc;
}

no_comment : (bytes : List ℕ) → 0 < length bytes → IsPlain (get_or bytes 0 0) → BeginsNoComment bytes
no_comment [] some p = absurd (omega arith)
no_comment (b ∷ bytes) some p = record { slashes = λ rest e. p.no_slash (ap (λ (x : List ℕ). get_or x 0 0) e) }

word_plain : (b : ℕ) → begins_word b ≡ true → IsPlain b
word_plain b h = record { small = grind (arith, nat_tests); black = grind (arith, nat_tests); no_slash = λ e. grind (arith, nat_tests) }

digit_plain : (b : ℕ) → is_ascii_digit b ≡ true → IsPlain b
digit_plain b h = record { small = grind (arith, nat_tests); black = grind (arith, nat_tests); no_slash = λ e. grind (arith, nat_tests) }

digit_no_word : (b : ℕ) → is_ascii_digit b ≡ true → begins_word b ≡ false
digit_no_word b h = grind (arith, nat_tests)

-- ---- from the front of some bytes

begins_text : (text rest : List ℕ) (kind : Kind) → IsFront (text ++ rest) kind (length text) → BeginsWith (text ++ rest) text rest kind
begins_text text rest kind f =
    subst (λ (r : List ℕ). BeginsWith (text ++ rest) text r kind) (drop_at text rest (length text) refl)
    (subst (λ (t : List ℕ). BeginsWith (text ++ rest) t (drop (length text) (text ++ rest)) kind) (take_at text rest (length text) refl) f.begins)

some_bytes : (text rest : List ℕ) → 0 < length text → 0 < length (text ++ rest)
some_bytes text rest h = omega (arith, length-append text rest)

pub word_item : (text rest : List ℕ) → IsAscii text → 0 < length text → begins_word (get_or (text ++ rest) 0 0) ≡ true → length text ≡ length (take_while goes_on_word (text ++ rest)) → IsItem Word text rest
word_item text rest a some h e =
    let all = some_bytes text rest some in
    let black = word_plain (get_or (text ++ rest) 0 0) h in
    record {
      begins = begins_text text rest Word (IsFront_word (text ++ rest) (length text) h all e);
      space = no_space (text ++ rest) all black;
      comment = no_comment (text ++ rest) all black;
      escapes = λ like k. absurd cc;
      ascii = a;
    }

-- a sign with these bytes behind it
record IsSignFront (kind : Kind) (text rest : List ℕ) : Type 0 where
  ascii : IsAscii text
  some : 0 < length text
  black : IsPlain (get_or (text ++ rest) 0 0)
  no_string : kind ≢ Str
  front : IsFront (text ++ rest) kind (length text)

sign_item : (text rest : List ℕ) (kind : Kind) → IsSignFront kind text rest → IsItem kind text rest
sign_item text rest kind s =
    let all = some_bytes text rest s.some in
    record {
      begins = begins_text text rest kind s.front;
      space = no_space (text ++ rest) all s.black;
      comment = no_comment (text ++ rest) all s.black;
      escapes = λ like k. absurd (s.no_string k);
      ascii = s.ascii;
    }

-- a byte that begins neither a word nor a number nor a string nor a comment nor white space
pub record IsSignByte (a : ℕ) : Type 0 where
  pub small : a < 128
  pub black : is_whitespace a ≡ false
  pub no_slash : a ≢ 47
  pub no_word : begins_word a ≡ false
  pub no_digit : is_ascii_digit a ≡ false
  pub no_quote : a ≢ 34

sign_plain : (a : ℕ) → IsSignByte a → IsPlain a
sign_plain a s = record { small = s.small; black = s.black; no_slash = s.no_slash }

pub one_item : (a : ℕ) (rest : List ℕ) (kind : Kind) → IsSignByte a → kind ≢ Str → None ≡ long_sign (a ∷ rest) → Some kind ≡ one_sign a → IsItem kind (a ∷ []) rest
one_item a rest kind s k l o = sign_item (a ∷ []) rest kind (record {
  ascii = IsAscii-cons a [] s.small IsAscii-nil;
  some = omega arith;
  black = sign_plain a s;
  no_string = k;
  front = IsFront_one (a ∷ rest) kind l o (omega arith) s.no_word s.no_digit s.no_quote;
})

pub two_item : (a b : ℕ) (rest : List ℕ) (kind : Kind) → IsSignByte a → b < 128 → kind ≢ Str → Some kind ≡ long_sign (a ∷ b ∷ rest) → IsItem kind (a ∷ b ∷ []) rest
two_item a b rest kind s t k l = sign_item (a ∷ b ∷ []) rest kind (record {
  ascii = IsAscii-cons a (b ∷ []) s.small (IsAscii-cons b [] t IsAscii-nil);
  some = omega arith;
  black = sign_plain a s;
  no_string = k;
  front = IsFront_two (a ∷ b ∷ rest) kind l s.no_word s.no_digit s.no_quote;
})

-- ---- digits

pub are_digits : (ds : List ℕ) → AllDigits 10 ds → list_all is_ascii_digit ds ≡ true
are_digits [] h = refl
are_digits (d ∷ ds) h = let k = digit_from_value d h.0 in let one : is_ascii_digit d ≡ true = grind (arith, nat_tests) in rw one (are_digits ds h.1)

digit_small : (d : ℕ) → is_ascii_digit d ≡ true → d < 128
digit_small d h = grind (arith, nat_tests)

digits_ascii : (ds : List ℕ) → list_all is_ascii_digit ds ≡ true → IsAscii ds
digits_ascii [] h = IsAscii-nil
digits_ascii (d ∷ ds) h = IsAscii-cons d ds (digit_small d (and_first (is_ascii_digit d) (list_all is_ascii_digit ds) h)) (digits_ascii ds (and_second (is_ascii_digit d) (list_all is_ascii_digit ds) h))

-- the digits before a space are all of a run
digits_run : (ds rest : List ℕ) → list_all is_ascii_digit ds ≡ true → length ds ≡ length (take_while is_ascii_digit (ds ++ (32 ∷ rest)))
digits_run [] rest h = refl
digits_run (d ∷ ds) rest h =
    let first = and_first (is_ascii_digit d) (list_all is_ascii_digit ds) h in
    let others = digits_run ds rest (and_second (is_ascii_digit d) (list_all is_ascii_digit ds) h) in
    rw (take_while-cons is_ascii_digit d (ds ++ (32 ∷ rest)), first) (omega (arith, others))

first_digit : (ds rest : List ℕ) → 0 < length ds → list_all is_ascii_digit ds ≡ true → is_ascii_digit (get_or (ds ++ rest) 0 0) ≡ true
first_digit [] rest some h = absurd (omega arith)
first_digit (d ∷ ds) rest some h = and_first (is_ascii_digit d) (list_all is_ascii_digit ds) h

pub number_item : (ds rest : List ℕ) → 0 < length ds → list_all is_ascii_digit ds ≡ true → IsItem Number ds (32 ∷ rest)
number_item ds rest some h =
    let all = some_bytes ds (32 ∷ rest) some in
    let first = first_digit ds (32 ∷ rest) some h in
    let black = digit_plain (get_or (ds ++ (32 ∷ rest)) 0 0) first in
    record {
      begins = begins_text ds (32 ∷ rest) Number (IsFront_number (ds ++ (32 ∷ rest)) (length ds) (digit_no_word (get_or (ds ++ (32 ∷ rest)) 0 0) first) first all (digits_run ds rest h));
      space = no_space (ds ++ (32 ∷ rest)) all black;
      comment = no_comment (ds ++ (32 ∷ rest)) all black;
      escapes = λ like k. absurd cc;
      ascii = digits_ascii ds h;
    }

-- ---- a string of a letter and digits

closed : (ds : List ℕ) → list_all is_ascii_digit ds ≡ true → closes (ds ++ (34 ∷ [])) ≡ true
unfolding closes
closed [] h = refl
closed (d ∷ ds) h =
    let first = and_first (is_ascii_digit d) (list_all is_ascii_digit ds) h in
    closes-plain d (ds ++ (34 ∷ [])) (λ e. grind (arith, nat_tests)) (λ e. grind (arith, nat_tests)) ∙ closed ds (and_second (is_ascii_digit d) (list_all is_ascii_digit ds) h)

plain_digits : (like : Bool) (ds : List ℕ) → list_all is_ascii_digit ds ≡ true → IsSpelled like (ds ++ (34 ∷ []))
plain_digits like [] h = plain 34 [] (λ e. omega arith) ends
plain_digits like (d ∷ ds) h = plain d (ds ++ (34 ∷ [])) (λ e. let first = and_first (is_ascii_digit d) (list_all is_ascii_digit ds) h in grind (arith, nat_tests)) (plain_digits like ds (and_second (is_ascii_digit d) (list_all is_ascii_digit ds) h))

string_ascii : (ds : List ℕ) → list_all is_ascii_digit ds ≡ true → IsAscii (ds ++ (34 ∷ []))
string_ascii [] h = IsAscii-cons 34 [] (omega arith) IsAscii-nil
string_ascii (d ∷ ds) h = IsAscii-cons d (ds ++ (34 ∷ [])) (digit_small d (and_first (is_ascii_digit d) (list_all is_ascii_digit ds) h)) (string_ascii ds (and_second (is_ascii_digit d) (list_all is_ascii_digit ds) h))

string_front : (ds rest : List ℕ) → list_all is_ascii_digit ds ≡ true → IsFront (group_text ds ++ rest) Str (length (group_text ds))
string_front ds rest h =
    let inner = 103 ∷ (ds ++ (34 ∷ [])) in
    let after : take (length (34 ∷ (inner ++ rest)) - 1) (drop 1 (34 ∷ (inner ++ rest))) ≡ inner ++ rest = rest_is 34 (inner ++ rest) in
    let within : length inner ≤ length (inner ++ rest) = omega (arith, length-append inner rest) in
    let front : closes (take (length inner) (inner ++ rest)) ≡ true = ap closes (take_at inner rest (length inner) refl) ∙ closes-plain 103 (ds ++ (34 ∷ [])) (λ e. omega arith) (λ e. omega arith) ∙ closed ds h in
    let size : length inner + 1 ≡ length (group_text ds) = omega arith in
    subst (IsFront (group_text ds ++ rest) Str) size
    (IsFront_string (group_text ds ++ rest) (length inner) (omega arith) refl (subst (λ (bs : List ℕ). length inner ≤ length bs) (sym after) within) (subst (λ (bs : List ℕ). closes (take (length inner) bs) ≡ true) (sym after) front))

pub group_item : (ds rest : List ℕ) → list_all is_ascii_digit ds ≡ true → IsItem Str (group_text ds) rest
group_item ds rest h =
    let black : IsPlain 34 = record { small = omega arith; black = refl; no_slash = λ e. omega arith } in
    record {
      begins = begins_text (group_text ds) rest Str (string_front ds rest h);
      space = no_space (group_text ds ++ rest) (omega arith) black;
      comment = no_comment (group_text ds ++ rest) (omega arith) black;
      escapes = λ like k. plain 34 (103 ∷ (ds ++ (34 ∷ []))) (λ e. omega arith) (plain 103 (ds ++ (34 ∷ [])) (λ e. omega arith) (plain_digits like ds h));
      ascii = IsAscii-cons 34 (103 ∷ (ds ++ (34 ∷ []))) (omega arith) (IsAscii-cons 103 (ds ++ (34 ∷ [])) (omega arith) (string_ascii ds h));
    }
