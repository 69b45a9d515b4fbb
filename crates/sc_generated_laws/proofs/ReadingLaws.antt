-- What is read of a text that is tokens with gaps behind them.
use Rattle.std.proofs.Common.{◌≡◌, ℕ, ◌+◌, ◌-◌, ◌<◌, List, [], ◌∷◌, ◌++◌, length, take, drop, map, Bool, true, false, refl, sym, ◌∙◌, ap, subst, arith, length-append, append_assoc}
use Rattle.std.specs.Char.{is_whitespace}
use Rattle.std.specs.Prelude.{Result, Ok}
use Rattle.std.specs.Str.{IsAscii, IsUtf8, chars, trim_start}
use Rattle.std.proofs.lemmas.List.{take_at, drop_at}
use Rattle.std.proofs.lemmas.Str.{encode_ascii, IsAscii-append, IsUtf8-from_ascii}
use Rattle.std.proofs.lemmas.Str.Ascii.{IsAscii-nil, IsAscii-cons}
use Rattle.sc_lexer.specs.Blanks.{Skips, BeginsNoComment, BeginsNoSpace, none, space}
use Rattle.sc_lexer.specs.Reading.{Reads, ends, no_token, bad_escape, some_token, token_of, text}
use Rattle.sc_lexer.specs.Spans.{text_of}
use Rattle.sc_lexer.specs.declared.token.Kind.{Kind}
use Rattle.sc_lexer.specs.declared.token.LexFault.{LexFault}
use Rattle.sc_lexer.specs.declared.token.Token.{Token}
use Rattle.sc_lexer.proofs.BlankLaws.{BeginsNoSpace_trim}
use Rattle.sc_lexemes.specs.Shapes.{shape_of, lexeme_of}
use Rattle.sc_parser.specs.Spelling.{AreLexemes}
use Rattle.sc_generated_laws.specs.Items.{Gap, nothing, gap_text, Item, spelled, tokens_of, lexemes_of, AreItems, no_items, more_items}
use Rattle.sc_generated_laws.specs.Items as gap

-- ---- tokens

skips_blank : (c : ℕ) (rest left : List ℕ) → c < 128 → is_whitespace c ≡ true → Skips rest left → Skips (c ∷ rest) left
skips_blank c rest left small white s = subst (λ (x : List ℕ). Skips (x ++ rest) left) (encode_ascii c small) (space c rest left white s)

reads_blank : {whole : ℕ} {like : Bool} {rest : List ℕ} {r : Result (List Token) LexFault} (c : ℕ) → c < 128 → is_whitespace c ≡ true → Reads whole like rest r → Reads whole like (c ∷ rest) r
reads_blank c small white (ends like rest s) = ends like (c ∷ rest) (skips_blank c rest [] small white s)
reads_blank c small white (no_token like rest left s some lacks) = no_token like (c ∷ rest) left (skips_blank c rest left small white s) some lacks
reads_blank c small white (bad_escape like rest left t others front back s begins bad) = bad_escape like (c ∷ rest) left t others front back (skips_blank c rest left small white s) begins bad
reads_blank c small white (some_token like rest left t others kind more s begins has reads) = some_token like (c ∷ rest) left t others kind more (skips_blank c rest left small white s) begins has reads

reads_gap : {whole : ℕ} {like : Bool} {rest : List ℕ} {r : Result (List Token) LexFault} (g : Gap) → Reads whole like rest r → Reads whole like (gap_text g ++ rest) r
reads_gap nothing h = h
reads_gap gap.space h = reads_blank 32 (omega arith) refl h
reads_gap gap.line h = reads_blank 10 (omega arith) refl h

no_space : BeginsNoSpace []
unfolding trim_start chars
no_space = BeginsNoSpace_trim [] [] refl

no_comment : BeginsNoComment []
no_comment = record { slashes = λ rest e. cc }

reads_items : (whole : ℕ) (is : List Item) → AreItems is → (like : Bool) → Reads whole like (spelled is) (Ok (tokens_of whole is))
reads_items whole [] no_items like = ends like [] (none [] no_space no_comment)
reads_items whole (i ∷ is) (more_items first h) like =
    let rest = gap_text i.gap ++ spelled is in
    some_token like (i.text ++ rest) (i.text ++ rest) i.text rest i.kind (Ok (tokens_of whole is)) (none (i.text ++ rest) first.space first.comment) first.begins (first.escapes like)
    (reads_gap i.gap (reads_items whole is h _))

-- ---- what they say

start_is : (bytes front rest : List ℕ) → bytes ≡ front ++ rest → length bytes - length rest ≡ length front
start_is bytes front rest e = let size : length bytes ≡ length front + length rest = ap length e ∙ length-append front rest in omega arith

text_is : (bytes front t rest : List ℕ) (kind : Kind) → bytes ≡ front ++ (t ++ rest) → text_of bytes (token_of (length bytes) kind t rest) ≡ t
text_is bytes front t rest kind e =
    let start : length bytes - length (t ++ rest) ≡ length front = start_is bytes front (t ++ rest) e in
    let all : bytes ≡ (front ++ t) ++ rest = e ∙ sym (append_assoc front t rest) in
    let end : length bytes - length rest ≡ length front + length t = start_is bytes (front ++ t) rest all ∙ length-append front t in
    let size : length front + length t - length front ≡ length t = omega arith in
    rw (end, start, size) (ap (take (length t)) (ap (drop (length front)) e ∙ drop_at front (t ++ rest) (length front) refl) ∙ take_at t rest (length t) refl)

lexeme_is : (bytes front t rest : List ℕ) (kind : Kind) → bytes ≡ front ++ (t ++ rest) → lexeme_of bytes (token_of (length bytes) kind t rest) ≡ record { place = record { offset = length bytes - length (t ++ rest) }; shape = shape_of kind t }
lexeme_is bytes front t rest kind e = ap (λ (x : List ℕ). record { place = record { offset = length bytes - length (t ++ rest) }; shape = shape_of kind x }) (text_is bytes front t rest kind e)

lexemes_are : (bytes front : List ℕ) (is : List Item) → bytes ≡ front ++ spelled is → lexemes_of (length bytes) is ≡ map (lexeme_of bytes) (tokens_of (length bytes) is)
lexemes_are bytes front [] e = refl
lexemes_are bytes front (i ∷ is) e =
    let rest = gap_text i.gap ++ spelled is in
    let behind : bytes ≡ ((front ++ i.text) ++ gap_text i.gap) ++ spelled is = e ∙ sym (append_assoc front i.text rest) ∙ sym (append_assoc (front ++ i.text) (gap_text i.gap) (spelled is)) in
    let first = lexeme_is bytes front i.text rest i.kind e in
    let others = lexemes_are bytes ((front ++ i.text) ++ gap_text i.gap) is behind in
    rw (first, others) refl

-- ---- the file

gap_ascii : (g : Gap) → IsAscii (gap_text g)
gap_ascii nothing = IsAscii-nil
gap_ascii gap.space = IsAscii-cons 32 [] (omega arith) IsAscii-nil
gap_ascii gap.line = IsAscii-cons 10 [] (omega arith) IsAscii-nil

items_ascii : (is : List Item) → AreItems is → IsAscii (spelled is)
items_ascii [] no_items = IsAscii-nil
items_ascii (i ∷ is) (more_items first h) = IsAscii-append i.text (gap_text i.gap ++ spelled is) first.ascii (IsAscii-append (gap_text i.gap) (spelled is) (gap_ascii i.gap) (items_ascii is h))

pub items_lexed : (bytes : List ℕ) (is : List Item) → bytes ≡ spelled is → AreItems is → AreLexemes bytes (lexemes_of (length bytes) is)
items_lexed bytes is e h = record {
  tokens = tokens_of (length bytes) is;
  lexed = text (Ok (tokens_of (length bytes) is)) (subst IsUtf8 (sym e) (IsUtf8-from_ascii (spelled is) (items_ascii is h))) (subst (λ (bs : List ℕ). Reads (length bytes) false bs (Ok (tokens_of (length bytes) is))) (sym e) (reads_items (length bytes) is h false));
  are = lexemes_are bytes [] is e;
}
