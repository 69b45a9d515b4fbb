-- The texts of words and numbers are UTF-8.
use Rattle.std.proofs.Common.{◌≡◌, ℕ, ◌<◌, List, [], ◌∷◌, Bool, true, Some, arith}
use Rattle.std.proofs.lemmas.Bool.Decides.{nat_tests}
use Rattle.std.proofs.lemmas.Str.{IsUtf8-from_ascii}
use Rattle.std.proofs.lemmas.Str.Ascii.{IsAscii-nil, IsAscii-cons}
use Rattle.std.specs.Char.{is_ascii_digit}
use Rattle.std.specs.List.{list_all}
use Rattle.std.specs.Str.{IsAscii, IsUtf8}
use Rattle.sc_lexer.proofs.FrontLaws.{word_small, digit_small}
use Rattle.sc_laws.proofs.BoolLaws.{and_first, and_second}
use Rattle.sc_names.specs.Names.{begins_word, goes_on_word, is_word}
use Rattle.sc_lexer.specs.declared.token.Kind.{Kind}
use Rattle.sc_lexer.specs.declared.token.Kind.TheVariants.{Word, Number}
use Rattle.sc_lexer.specs.Tokens.{is_number, kind_of}
use Rattle.sc_lexer.proofs.KindLaws.{is_word-kind, is_number-kind}

begins_ascii : (c : ℕ) → begins_word c ≡ true → c < 128
begins_ascii c h = grind (arith, nat_tests)

all_ascii : (p : ℕ → Bool) (cs : List ℕ) → ((c : ℕ) → p c ≡ true → c < 128) → list_all p cs ≡ true → IsAscii cs
all_ascii p [] f h = IsAscii-nil
all_ascii p (c ∷ cs) f h = IsAscii-cons c cs (f c (and_first (p c) (list_all p cs) h)) (all_ascii p cs f (and_second (p c) (list_all p cs) h))

word_ascii : (t : List ℕ) → is_word t ≡ true → IsAscii t
word_ascii [] h = cc
word_ascii (c ∷ cs) h = IsAscii-cons c cs (begins_ascii c (and_first (begins_word c) (list_all goes_on_word cs) h)) (all_ascii goes_on_word cs word_small (and_second (begins_word c) (list_all goes_on_word cs) h))

number_ascii : (t : List ℕ) → is_number t ≡ true → IsAscii t
number_ascii [] h = cc
number_ascii (c ∷ cs) h = all_ascii is_ascii_digit (c ∷ cs) digit_small h

pub word_utf8 : (t : List ℕ) (k : Kind) → kind_of t ≡ Some k → k ≡ Word → IsUtf8 t
word_utf8 t k h e = IsUtf8-from_ascii t (word_ascii t (is_word-kind t (rw e at h)))

pub number_utf8 : (t : List ℕ) (k : Kind) → kind_of t ≡ Some k → k ≡ Number → IsUtf8 t
number_utf8 t k h e = IsUtf8-from_ascii t (number_ascii t (is_number-kind t (rw e at h)))
