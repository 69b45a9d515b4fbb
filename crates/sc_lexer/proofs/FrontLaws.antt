-- The longest token that some bytes begin with.
use Rattle.std.proofs.Common.{◌≡◌, ◌≢◌, ℕ, zero, suc, ◌+◌, ◌-◌, ◌<◌, ◌≤◌, ◌==◌, List, [], ◌∷◌, ◌++◌, length, take, drop, get_or, Bool, true, false, cond, inl, inr, refl, sym, ◌∙◌, ap, subst, arith, add-one, length-append, Some, None}
use Rattle.std.specs.Char.{is_ascii_digit}
use Rattle.std.specs.List.{list_all, take_while}
use Rattle.std.specs.declared.option.Option.{Option}
use Rattle.std.proofs.lemmas.Bool.Decides.{nat_tests}
use Rattle.std.specs.Str.{IsUtf8, IsCharBoundary}
use Rattle.std.proofs.lemmas.Str.{IsCharBoundary-after_ascii}
use Rattle.std.proofs.lemmas.List.{take-append-drop, get_or_append_left}
use Rattle.std.proofs.Math.Seq.{take-append_seam}
use Rattle.std.proofs.lemmas.List.Sums.{take_while-cons}
use Rattle.std.proofs.lemmas.Bool.{cases_Bool}
use Rattle.sc_names.proofs.PartsLaws.{goes_on}
use Rattle.sc_laws.proofs.BoolLaws.{and_second, and_first}
use Rattle.sc_lists.proofs.TextLaws.{take_while_within, take_while_front, take_while_passes}
use Rattle.sc_lists.proofs.ListLaws.{rest_is}
use Rattle.sc_names.specs.Names.{begins_word, goes_on_word, is_word}
use Rattle.sc_lexer.specs.declared.token.Kind.{Kind}
use Rattle.sc_lexer.specs.declared.token.Kind.TheVariants.{Word, Number, Str}
use Rattle.sc_lexer.specs.Tokens.{is_number, is_string, closes, one_sign, two_sign, sign_of, kind_of, BeginsNoToken}
use Rattle.sc_lexer.specs.Fronts.{IsFront, long_sign}
use Rattle.sc_lexer.proofs.StringLaws.{closes_once, closes_last, last_more}

-- what the first byte says of a token

no_sign : (a : ℕ) (u : List ℕ) → one_sign a ≡ None → ((b : ℕ) → two_sign a b ≡ None) → sign_of (a ∷ u) ≡ None
no_sign a [] h k = h
no_sign a (b ∷ []) h k = k b
no_sign a (b ∷ c ∷ u) h k = refl

word_no_one : (a : ℕ) → begins_word a ≡ true → one_sign a ≡ None
unfolding one_sign
word_no_one a h = grind (arith, nat_tests)

word_no_two : (a b : ℕ) → begins_word a ≡ true → two_sign a b ≡ None
unfolding two_sign
word_no_two a b h = grind (arith, nat_tests)

word_no_digit : (a : ℕ) → begins_word a ≡ true → is_ascii_digit a ≡ false
word_no_digit a h = grind (arith, nat_tests)

word_no_quote : (a : ℕ) → begins_word a ≡ true → (a == 34) ≡ false
word_no_quote a h = grind (arith, nat_tests)

digit_no_one : (a : ℕ) → is_ascii_digit a ≡ true → one_sign a ≡ None
unfolding one_sign
digit_no_one a h = grind (arith, nat_tests)

digit_no_two : (a b : ℕ) → is_ascii_digit a ≡ true → two_sign a b ≡ None
unfolding two_sign
digit_no_two a b h = grind (arith, nat_tests)

digit_no_quote : (a : ℕ) → is_ascii_digit a ≡ true → (a == 34) ≡ false
digit_no_quote a h = grind (arith, nat_tests)

quote_no_sign : (u : List ℕ) → sign_of (34 ∷ u) ≡ None
unfolding one_sign two_sign
quote_no_sign u = no_sign 34 u refl (λ b. refl)

kind-word : (a : ℕ) (u : List ℕ) → begins_word a ≡ true → kind_of (a ∷ u) ≡ cond (list_all goes_on_word u) (Some Word) None
unfolding kind_of
kind-word a u h = elim (list_all goes_on_word u) as (λ b. list_all goes_on_word u ≡ b → kind_of (a ∷ u) ≡ cond b (Some Word) None) [
  | true ↦ λ e. rw (h, e) refl
  | false ↦ λ e. rw (h, e, word_no_digit a h, word_no_quote a h) (no_sign a u (word_no_one a h) (λ b. word_no_two a b h))
] refl

kind-number : (a : ℕ) (u : List ℕ) → begins_word a ≡ false → is_ascii_digit a ≡ true → kind_of (a ∷ u) ≡ cond (list_all is_ascii_digit u) (Some Number) None
unfolding kind_of
kind-number a u h d = elim (list_all is_ascii_digit u) as (λ b. list_all is_ascii_digit u ≡ b → kind_of (a ∷ u) ≡ cond b (Some Number) None) [
  | true ↦ λ e. rw (h, d, e) refl
  | false ↦ λ e. rw (h, d, e, digit_no_quote a d) (no_sign a u (digit_no_one a d) (λ b. digit_no_two a b d))
] refl

kind-string : (u : List ℕ) → kind_of (34 ∷ u) ≡ cond (closes u) (Some Str) None
unfolding kind_of
kind-string u = elim (closes u) as (λ b. closes u ≡ b → kind_of (34 ∷ u) ≡ cond b (Some Str) None) [
  | true ↦ λ e. rw e refl
  | false ↦ λ e. rw e (quote_no_sign u)
] refl

kind-sign : (a : ℕ) (u : List ℕ) → begins_word a ≡ false → is_ascii_digit a ≡ false → (a == 34) ≡ false → kind_of (a ∷ u) ≡ sign_of (a ∷ u)
unfolding kind_of
kind-sign a u h d q = rw (h, d, q) refl

pub kind-nil : kind_of [] ≡ None
unfolding kind_of
kind-nil = refl

-- a run of bytes is the longest
run_longest : (p : ℕ → Bool) (u v cs : List ℕ) → cs ≡ u ++ v → list_all p u ≡ true → length u ≤ length (take_while p cs)
run_longest p [] v cs e h = omega arith
run_longest p (x ∷ u) v cs e h = rw (e, take_while-cons p x (u ++ v)) (elim (p x) as (λ b. p x ≡ b → length (x ∷ u) ≤ length (cond b (x ∷ take_while p (u ++ v)) [])) [
  | true ↦ λ k. let more : length u ≤ length (take_while p (u ++ v)) = run_longest p u v (u ++ v) refl (rw k at h) in omega arith
  | false ↦ λ k. absurd (let no : false ≡ true = rw k at h in cc)
] refl)

some_true : (k other : Kind) (b : Bool) → cond b (Some k) None ≡ Some other → b ≡ true
some_true k other true e = refl
some_true k other false e = cc

-- a kind whose tokens are the runs of bytes that pass p, where the first byte is a
longest_run : (p : ℕ → Bool) (kind : Kind) (a : ℕ) (cs : List ℕ) → p a ≡ true → ((u : List ℕ) → kind_of (a ∷ u) ≡ cond (list_all p u) (Some kind) None)
    → (longer others : List ℕ) (other : Kind) → a ∷ cs ≡ longer ++ others → kind_of longer ≡ Some other → length longer ≤ length (take_while p (a ∷ cs))
longest_run p kind a cs h k [] others other e is = omega arith
longest_run p kind a cs h k (x ∷ u) others other e is =
    let first : x ≡ a = cc in
    let all : list_all p u ≡ true = some_true kind other (list_all p u) (sym (k u) ∙ subst (λ y. kind_of (y ∷ u) ≡ Some other) first is) in
    run_longest p (x ∷ u) others (a ∷ cs) e (rw (first, h) all)

run : (p : ℕ → Bool) (kind : Kind) (a : ℕ) (cs : List ℕ) → p a ≡ true → ((u : List ℕ) → kind_of (a ∷ u) ≡ cond (list_all p u) (Some kind) None)
    → IsFront (a ∷ cs) kind (length (take_while p (a ∷ cs)))
run p kind a cs h k = record {
  within = take_while_within p (a ∷ cs);
  begins = record {
    parts = sym (take-append-drop (length (take_while p (a ∷ cs))) (a ∷ cs));
    is = rw (take_while_front p (a ∷ cs), take_while-cons p a cs, h) (k (take_while p cs) ∙ ap (λ b. cond b (Some kind) None) (take_while_passes p cs));
    longest = λ longer others other e is. rw (take_while_front p (a ∷ cs)) (longest_run p kind a cs h k longer others other e is);
  };
}

pub IsFront_word : (bytes : List ℕ) (n : ℕ) → begins_word (get_or bytes 0 0) ≡ true → 0 < length bytes → n ≡ length (take_while goes_on_word bytes) → IsFront bytes Word n
IsFront_word [] n h some e = absurd (omega arith)
IsFront_word (a ∷ cs) n h some e = rw e (run goes_on_word Word a cs (goes_on a h) (λ u. kind-word a u h))

pub IsFront_number : (bytes : List ℕ) (n : ℕ) → begins_word (get_or bytes 0 0) ≡ false → is_ascii_digit (get_or bytes 0 0) ≡ true → 0 < length bytes → n ≡ length (take_while is_ascii_digit bytes) → IsFront bytes Number n
IsFront_number [] n h d some e = absurd (omega arith)
IsFront_number (a ∷ cs) n h d some e = rw e (run is_ascii_digit Number a cs d (λ u. kind-number a u h d))

pub BeginsNoToken_nil : BeginsNoToken []
BeginsNoToken_nil [] rest e = kind-nil
BeginsNoToken_nil (x ∷ u) rest e = cc

pub BeginsNoToken_empty : (bytes : List ℕ) → length bytes ≡ 0 → BeginsNoToken bytes
BeginsNoToken_empty [] h = BeginsNoToken_nil
BeginsNoToken_empty (a ∷ cs) h = absurd (omega arith)

-- strings

longest_string : (cs : List ℕ) (n : ℕ) → closes (take n cs) ≡ true
    → (longer others : List ℕ) (other : Kind) → 34 ∷ cs ≡ longer ++ others → kind_of longer ≡ Some other → length longer ≤ length (34 ∷ take n cs)
longest_string cs n e [] others other f is = omega arith
longest_string cs n e (x ∷ u) others other f is =
    let first : x ≡ 34 = cc in
    let rest : u ++ others ≡ cs = cc in
    let all : closes u ≡ true = some_true Str other (closes u) (sym (kind-string u) ∙ subst (λ y. kind_of (y ∷ u) ≡ Some other) first is) in
    let short : length u ≤ length (take n cs) = closes_once u others (take n cs) (drop n cs) (rest ∙ sym (take-append-drop n cs)) all e in
    omega arith

string_front : (cs : List ℕ) (n : ℕ) → n ≤ length cs → closes (take n cs) ≡ true → IsFront (34 ∷ cs) Str (suc n)
string_front cs n h e = record {
  within = omega arith;
  begins = record {
    parts = sym (take-append-drop (suc n) (34 ∷ cs));
    is = kind-string (take n cs) ∙ ap (λ b. cond b (Some Str) None) e;
    longest = longest_string cs n e;
  };
}

pub IsFront_string : (bytes : List ℕ) (n : ℕ) → 0 < length bytes → get_or bytes 0 0 ≡ 34 → n ≤ length (take (length bytes - 1) (drop 1 bytes)) → closes (take n (take (length bytes - 1) (drop 1 bytes))) ≡ true
    → IsFront bytes Str (n + 1)
IsFront_string [] n some q h e = absurd (omega arith)
IsFront_string (a ∷ cs) n some q h e =
    let within : n ≤ length cs = subst (λ bs. n ≤ length bs) (rest_is a cs) h in
    let closed : closes (take n cs) ≡ true = subst (λ bs. closes (take n bs) ≡ true) (rest_is a cs) e in
    rw (add-one, q) (string_front cs n within closed)

no_string : (cs : List ℕ) → ((n : ℕ) → closes (take n cs) ≡ false) → BeginsNoToken (34 ∷ cs)
no_string cs h [] rest e = kind-nil
no_string cs h (x ∷ u) rest e =
    let first : 34 ≡ x = cc in
    let after : cs ≡ u ++ rest = cc in
    let same : take (length u) cs ≡ u = ap (take (length u)) after ∙ take-append_seam u rest in
    let unclosed : closes u ≡ false = ap closes (sym same) ∙ h (length u) in
    subst (λ y. kind_of (y ∷ u) ≡ None) first (kind-string u ∙ ap (λ b. cond b (Some Str) None) unclosed)

pub BeginsNoToken_string : (bytes : List ℕ) → 0 < length bytes → get_or bytes 0 0 ≡ 34 → ((n : ℕ) → closes (take n (take (length bytes - 1) (drop 1 bytes))) ≡ false) → BeginsNoToken bytes
BeginsNoToken_string [] some q h = absurd (omega arith)
BeginsNoToken_string (a ∷ cs) some q h = rw q (no_string cs (λ n. subst (λ bs. closes (take n bs) ≡ false) (rest_is a cs) (h n)))

-- signs

differs : (a : ℕ) → a ≢ 34 → (a == 34) ≡ false
differs a h = grind (arith, nat_tests)

sign_short : (t : List ℕ) (k : Kind) → sign_of t ≡ Some k → length t ≤ 2
sign_short [] k e = omega arith
sign_short (a ∷ []) k e = omega arith
sign_short (a ∷ b ∷ []) k e = omega arith
sign_short (a ∷ b ∷ c ∷ cs) k e = cc

-- the first byte begins neither a word, nor a number, nor a string
record BeginsSign (a : ℕ) : Type 0 where
  no_word : begins_word a ≡ false
  no_number : is_ascii_digit a ≡ false
  no_quote : (a == 34) ≡ false

sign_kind : (a x : ℕ) (u : List ℕ) (k : Option Kind) → BeginsSign a → a ≡ x → kind_of (x ∷ u) ≡ k → sign_of (a ∷ u) ≡ k
sign_kind a x u k s e is = sym (kind-sign a u s.no_word s.no_number s.no_quote) ∙ subst (λ y. kind_of (y ∷ u) ≡ k) (sym e) is

longest_two : (a : ℕ) (bytes : List ℕ) → BeginsSign a → (longer others : List ℕ) (other : Kind) → a ∷ bytes ≡ longer ++ others → kind_of longer ≡ Some other → length longer ≤ 2
longest_two a bytes s [] others other f is = omega arith
longest_two a bytes s (x ∷ u) others other f is =
    let first : a ≡ x = cc in
    let short : length (a ∷ u) ≤ 2 = sign_short (a ∷ u) other (sign_kind a x u (Some other) s first is) in omega arith

two_front : (a b : ℕ) (cs : List ℕ) (kind : Kind) → two_sign a b ≡ Some kind → BeginsSign a → IsFront (a ∷ b ∷ cs) kind 2
two_front a b cs kind h s = record {
  within = omega arith;
  begins = record {
    parts = refl;
    is = kind-sign a (b ∷ []) s.no_word s.no_number s.no_quote ∙ h;
    longest = λ longer others other f is. let k : length longer ≤ 2 = longest_two a (b ∷ cs) s longer others other f is in omega arith;
  };
}

pub IsFront_two : (bytes : List ℕ) (kind : Kind) → Some kind ≡ long_sign bytes → begins_word (get_or bytes 0 0) ≡ false → is_ascii_digit (get_or bytes 0 0) ≡ false → get_or bytes 0 0 ≢ 34 → IsFront bytes kind 2
unfolding long_sign
IsFront_two [] kind h w d q = cc
IsFront_two (a ∷ []) kind h w d q = cc
IsFront_two (a ∷ b ∷ cs) kind h w d q = two_front a b cs kind (sym h) (record { no_word = w; no_number = d; no_quote = differs a q })

longest_one : (a : ℕ) (cs : List ℕ) → long_sign (a ∷ cs) ≡ None → BeginsSign a → (longer others : List ℕ) (other : Kind) → a ∷ cs ≡ longer ++ others → kind_of longer ≡ Some other → length longer ≤ 1
unfolding long_sign
longest_one a cs l s [] others other f is = omega arith
longest_one a cs l s (x ∷ []) others other f is = omega arith
longest_one a cs l s (x ∷ y ∷ []) others other f is =
    let first : a ≡ x = cc in
    let two : two_sign a y ≡ Some other = sign_kind a x (y ∷ []) (Some other) s first is in
    let rest : cs ≡ y ∷ others = cc in
    let nothing : two_sign a y ≡ None = subst (λ bs. long_sign (a ∷ bs) ≡ None) rest l in
    absurd (let both : None ≡ Some other = sym nothing ∙ two in cc)
longest_one a cs l s (x ∷ y ∷ z ∷ u) others other f is =
    let first : a ≡ x = cc in
    absurd (let no_one : None ≡ Some other = sign_kind a x (y ∷ z ∷ u) (Some other) s first is in cc)

one_front : (a : ℕ) (cs : List ℕ) (kind : Kind) → long_sign (a ∷ cs) ≡ None → one_sign a ≡ Some kind → BeginsSign a → IsFront (a ∷ cs) kind 1
one_front a cs kind l h s = record {
  within = omega arith;
  begins = record {
    parts = refl;
    is = kind-sign a [] s.no_word s.no_number s.no_quote ∙ h;
    longest = λ longer others other f is. let k : length longer ≤ 1 = longest_one a cs l s longer others other f is in omega arith;
  };
}

pub IsFront_one : (bytes : List ℕ) (kind : Kind) → None ≡ long_sign bytes → Some kind ≡ one_sign (get_or bytes 0 0) → 0 < length bytes → begins_word (get_or bytes 0 0) ≡ false → is_ascii_digit (get_or bytes 0 0) ≡ false → get_or bytes 0 0 ≢ 34 → IsFront bytes kind 1
IsFront_one [] kind l h some w d q = absurd (omega arith)
IsFront_one (a ∷ cs) kind l h some w d q = one_front a cs kind (sym l) (sym h) (record { no_word = w; no_number = d; no_quote = differs a q })

no_sign_of : (a : ℕ) (u rest : List ℕ) → one_sign a ≡ None → long_sign (a ∷ (u ++ rest)) ≡ None → sign_of (a ∷ u) ≡ None
unfolding long_sign
no_sign_of a [] rest h k = h
no_sign_of a (b ∷ []) rest h k = k
no_sign_of a (b ∷ c ∷ u) rest h k = refl

none_front : (a : ℕ) (cs : List ℕ) → long_sign (a ∷ cs) ≡ None → one_sign a ≡ None → BeginsSign a → BeginsNoToken (a ∷ cs)
none_front a cs l h s [] rest e = kind-nil
none_front a cs l h s (x ∷ u) rest e =
    let first : a ≡ x = cc in
    let after : cs ≡ u ++ rest = cc in
    let nothing : sign_of (a ∷ u) ≡ None = no_sign_of a u rest h (subst (λ bs. long_sign (a ∷ bs) ≡ None) after l) in
    subst (λ y. kind_of (y ∷ u) ≡ None) first (kind-sign a u s.no_word s.no_number s.no_quote ∙ nothing)

pub BeginsNoToken_sign : (bytes : List ℕ) → None ≡ long_sign bytes → None ≡ one_sign (get_or bytes 0 0) → 0 < length bytes → begins_word (get_or bytes 0 0) ≡ false → is_ascii_digit (get_or bytes 0 0) ≡ false → get_or bytes 0 0 ≢ 34 → BeginsNoToken bytes
BeginsNoToken_sign [] l h some w d q = absurd (omega arith)
BeginsNoToken_sign (a ∷ cs) l h some w d q = none_front a cs (sym l) (sym h) (record { no_word = w; no_number = d; no_quote = differs a q })

pub long_sign_short : (bytes : List ℕ) → length bytes < 2 → None ≡ long_sign bytes
unfolding long_sign
long_sign_short [] h = refl
long_sign_short (a ∷ []) h = refl
long_sign_short (a ∷ b ∷ cs) h = absurd (omega arith)

pub long_sign_two : (bytes : List ℕ) → 2 ≤ length bytes → two_sign (get_or bytes 0 0) (get_or bytes 1 0) ≡ long_sign bytes
unfolding long_sign
long_sign_two [] h = absurd (omega arith)
long_sign_two (a ∷ []) h = absurd (omega arith)
long_sign_two (a ∷ b ∷ cs) h = refl

-- a token ends with an ASCII byte

-- some bytes, of which the last is ASCII
pub record EndsAscii (t : List ℕ) : Type 0 where
  pub some : 0 < length t
  pub last : get_or t (length t - 1) 0 < 128

all_small : (p : ℕ → Bool) (cs : List ℕ) (i : ℕ) → ((c : ℕ) → p c ≡ true → c < 128) → list_all p cs ≡ true → i < length cs → get_or cs i 0 < 128
all_small p [] i f h l = absurd (omega arith)
all_small p (c ∷ cs) zero f h l = f c (and_first (p c) (list_all p cs) h)
all_small p (c ∷ cs) (suc i) f h l = all_small p cs i f (and_second (p c) (list_all p cs) h) (omega arith)

pub word_small : (c : ℕ) → goes_on_word c ≡ true → c < 128
word_small c h = grind (arith, nat_tests)

pub digit_small : (c : ℕ) → is_ascii_digit c ≡ true → c < 128
digit_small c h = grind (arith, nat_tests)

EndsAscii-word : (t : List ℕ) → is_word t ≡ true → EndsAscii t
EndsAscii-word [] h = cc
EndsAscii-word (c ∷ cs) h =
    let all : list_all goes_on_word (c ∷ cs) ≡ true = rw (goes_on c (and_first (begins_word c) (list_all goes_on_word cs) h)) (and_second (begins_word c) (list_all goes_on_word cs) h) in
    record { some = omega arith; last = all_small goes_on_word (c ∷ cs) (length (c ∷ cs) - 1) word_small all (omega arith) }

EndsAscii-number : (t : List ℕ) → is_number t ≡ true → EndsAscii t
EndsAscii-number [] h = cc
EndsAscii-number (c ∷ cs) h = record { some = omega arith; last = all_small is_ascii_digit (c ∷ cs) (length (c ∷ cs) - 1) digit_small h (omega arith) }

EndsAscii-string : (t : List ℕ) → is_string t ≡ true → EndsAscii t
EndsAscii-string [] h = cc
EndsAscii-string (c ∷ cs) h =
    let end = closes_last cs (and_second (c == 34) (closes cs) h) in
    record { some = omega arith; last = rw (last_more c cs end.0, end.1) (omega arith) }

one_small : (a : ℕ) (k : Kind) → one_sign a ≡ Some k → a < 128
unfolding one_sign
one_small a k h = grind (arith, nat_tests)

two_small : (a b : ℕ) (k : Kind) → two_sign a b ≡ Some k → b < 128
unfolding two_sign
two_small a b k h = grind (arith, nat_tests)

EndsAscii-sign : (t : List ℕ) (k : Kind) → sign_of t ≡ Some k → EndsAscii t
EndsAscii-sign [] k h = cc
EndsAscii-sign (a ∷ []) k h = record { some = omega arith; last = one_small a k h }
EndsAscii-sign (a ∷ b ∷ []) k h = record { some = omega arith; last = two_small a b k h }
EndsAscii-sign (a ∷ b ∷ c ∷ cs) k h = cc

pub ends_ascii : (t : List ℕ) (k : Kind) → kind_of t ≡ Some k → EndsAscii t
unfolding kind_of
ends_ascii t k h = elim (cases_Bool (is_word t)) [
  | inl word ↦ EndsAscii-word t word
  | inr no_word ↦ elim (cases_Bool (is_number t)) [
    | inl number ↦ EndsAscii-number t number
    | inr no_number ↦ elim (cases_Bool (is_string t)) [
      | inl string ↦ EndsAscii-string t string
      | inr no_string ↦ EndsAscii-sign t k (rw (no_word, no_number, no_string) at h)
    ]
  ]
]

-- a text may be cut where a token ends
pub token_boundary : (bytes t rest : List ℕ) (kind : Kind) → bytes ≡ t ++ rest → kind_of t ≡ Some kind → IsUtf8 bytes → IsCharBoundary bytes (length t)
token_boundary bytes t rest kind e h u =
    let end = ends_ascii t kind h in
    let at : length t - 1 < length t = omega (arith, end.some) in
    let same : get_or bytes (length t - 1) 0 ≡ get_or t (length t - 1) 0 = ap (λ (bs : List ℕ). get_or bs (length t - 1) 0) e ∙ get_or_append_left t rest 0 (length t - 1) at in
    let next : length t - 1 + 1 ≡ length t = omega arith in
    subst (IsCharBoundary bytes) next (IsCharBoundary-after_ascii bytes (length t - 1) u (omega (arith, ap length e, length-append t rest)) (omega (arith, same, end.last)))
