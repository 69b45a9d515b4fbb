-- Texts as lists of characters.
use Rattle.std.proofs.Common.{◌≡◌, ℕ, ◌+◌, ◌<◌, ◌≤◌, List, [], ◌∷◌, ◌++◌, true, map, take, drop, length, get_or, refl, sym, ◌∙◌, ap, append-nil}
use Rattle.std.proofs.lemmas.List.{take_more, map-append, drop_all}
use Rattle.std.proofs.lemmas.Bool.{and_parts, and_from}
use Rattle.std.proofs.lemmas.Str.{chars-encodes, scalars-chars}
use Rattle.std.specs.Str.{IsUtf8, chars, encode_utf8_all}
use lib.Utf8.{scalars, scalar}
use Rattle.sc_languages.specs.Strings.{IsText}

scalars_text : (text : List ℕ) → IsText text → scalars text ≡ true
scalars_text [] h = refl
scalars_text (c ∷ text) h = and_from (scalar c) (scalars text) h.0 (scalars_text text h.1)

pub text_back : (text bytes : List ℕ) (i : ℕ) → IsText text → length text ≤ i → bytes ++ encode_utf8_all (drop i text) ≡ encode_utf8_all text → chars bytes ≡ text
text_back text bytes i h past e =
    ap chars (sym (append-nil bytes) ∙ ap (λ l. bytes ++ encode_utf8_all l) (sym (drop_all i text past)) ∙ e) ∙ chars-encodes text (scalars_text text h)

pub texts_next : {S : Type 0} (f : S → List ℕ) (now new : List S) (s : S) (words : List (List ℕ)) (i : ℕ) (word : List ℕ) → i < length words → word ≡ get_or words i word
    → f s ≡ word → new ≡ now ++ s ∷ [] → map f now ≡ take i words → map f new ≡ take (i + 1) words
texts_next f now new s words i word within read is more so_far =
    ap (map f) more ∙ map-append f now (s ∷ []) ∙ ap (λ l. l ++ f s ∷ []) so_far ∙ ap (λ w. take i words ++ w ∷ []) (is ∙ read) ∙ sym (take_more words i word within)

-- the characters of a `str` are Unicode scalar values
text_scalars : (text : List ℕ) → scalars text ≡ true → IsText text
text_scalars [] h = tt
text_scalars (c ∷ text) h = let both = and_parts (scalar c) (scalars text) h in (both.0, text_scalars text both.1)

pub text_chars : (bytes : List ℕ) → IsUtf8 bytes → IsText (chars bytes)
text_chars bytes h = text_scalars (chars bytes) (scalars-chars bytes h)
