-- A line of a generated text is its tokens with gaps behind them.
use Rattle.std.proofs.Common.{◌≡◌, ℕ, ◌<◌, ◌==◌, List, [], ◌∷◌, ◌++◌, codes, length, nat_lt, get_or, true, false, refl, arith}
use Rattle.std.specs.Char.{is_ascii_digit, is_whitespace}
use Rattle.std.specs.List.{list_all, take_while}
use Rattle.std.specs.Str.{IsAscii}
use Rattle.std.proofs.lemmas.Bool.Decides.{nat_tests}
use Rattle.std.proofs.lemmas.Str.Ascii.{IsAscii-nil, IsAscii-cons}
use Rattle.sc_laws.proofs.BoolLaws.{and_first, and_second}
use Rattle.sc_names.specs.Names.{begins_word, goes_on_word}
use Rattle.sc_lexer.specs.Fronts.{long_sign}
use Rattle.sc_lexer.specs.Tokens.{one_sign, two_sign}
use Rattle.sc_lexer.specs.declared.token.Kind.TheVariants as kind
use Rattle.sc_generated_laws.specs.Items.{Item, IsItem, AreItems, more_items}
use Rattle.sc_generated_laws.specs.Lines.{items_of}
use Rattle.sc_generated_laws.proofs.ItemLaws.{IsSignByte, word_item, one_item, two_item, number_item, group_item}

-- ---- bytes

small : (c : ℕ) → nat_lt c 128 ≡ true → c < 128
small c h = grind (arith, nat_tests)

ascii : (bs : List ℕ) → list_all (λ c. nat_lt c 128) bs ≡ true → IsAscii bs
ascii [] h = IsAscii-nil
ascii (c ∷ cs) h = IsAscii-cons c cs (small c (and_first (nat_lt c 128) (list_all (λ c. nat_lt c 128) cs) h)) (ascii cs (and_second (nat_lt c 128) (list_all (λ c. nat_lt c 128) cs) h))

sign : (a : ℕ) → a < 128 → is_whitespace a ≡ false → (a == 47) ≡ false → begins_word a ≡ false → is_ascii_digit a ≡ false → (a == 34) ≡ false → IsSignByte a
sign a s w n b d q = record { small = s; black = w; no_slash = λ e. grind (arith, nat_tests); no_word = b; no_digit = d; no_quote = λ e. grind (arith, nat_tests) }

-- ---- tokens

word : (w rest : List ℕ) → list_all (λ c. nat_lt c 128) w ≡ true → 0 < length w → begins_word (get_or (w ++ rest) 0 0) ≡ true → length w ≡ length (take_while goes_on_word (w ++ rest)) → IsItem kind.Word w rest
word w rest a some h e = word_item w rest (ascii w a) some h e

pub items_are : (c d g : List ℕ) → 0 < length c → list_all is_ascii_digit c ≡ true → 0 < length d → list_all is_ascii_digit d ≡ true → list_all is_ascii_digit g ≡ true
    → (more : List Item) → AreItems more → AreItems (items_of c d g ++ more)
unfolding one_sign two_sign long_sign
items_are c d g some_c digits_c some_d digits_d digits_g more h =
    let open_parenthesis = sign 40 (omega arith) refl refl refl refl refl in
    let close_parenthesis = sign 41 (omega arith) refl refl refl refl refl in
    let comma = sign 44 (omega arith) refl refl refl refl refl in
    let open_brace = sign 123 (omega arith) refl refl refl refl refl in
    let close_brace = sign 125 (omega arith) refl refl refl refl refl in
    let dot = sign 46 (omega arith) refl refl refl refl refl in
    let plus = sign 43 (omega arith) refl refl refl refl refl in
    let greater = sign 62 (omega arith) refl refl refl refl refl in
    let ampersand = sign 38 (omega arith) refl refl refl refl refl in
    let colon = sign 58 (omega arith) refl refl refl refl refl in
    let semicolon = sign 59 (omega arith) refl refl refl refl refl in
    more_items (word (codes "permit") _ refl (omega arith) refl refl)
    (more_items (one_item 40 _ kind.OpenParenthesis open_parenthesis (λ e. cc) refl refl)
    (more_items (word (codes "principal") _ refl (omega arith) refl refl)
    (more_items (one_item 44 _ kind.Comma comma (λ e. cc) refl refl)
    (more_items (word (codes "action") _ refl (omega arith) refl refl)
    (more_items (one_item 44 _ kind.Comma comma (λ e. cc) refl refl)
    (more_items (word (codes "resource") _ refl (omega arith) refl refl)
    (more_items (one_item 41 _ kind.CloseParenthesis close_parenthesis (λ e. cc) refl refl)
    (more_items (word (codes "when") _ refl (omega arith) refl refl)
    (more_items (one_item 123 _ kind.OpenBrace open_brace (λ e. cc) refl refl)
    (more_items (word (codes "context") _ refl (omega arith) refl refl)
    (more_items (one_item 46 _ kind.Dot dot (λ e. cc) refl refl)
    (more_items (word (codes "n") _ refl (omega arith) refl refl)
    (more_items (one_item 43 _ kind.Plus plus (λ e. cc) refl refl)
    (more_items (number_item c _ some_c digits_c)
    (more_items (one_item 62 _ kind.Greater greater (λ e. cc) refl refl)
    (more_items (number_item d _ some_d digits_d)
    (more_items (two_item 38 38 _ kind.And ampersand (omega arith) (λ e. cc) refl)
    (more_items (word (codes "principal") _ refl (omega arith) refl refl)
    (more_items (word (codes "in") _ refl (omega arith) refl refl)
    (more_items (word (codes "Group") _ refl (omega arith) refl refl)
    (more_items (two_item 58 58 _ kind.DoubleColon colon (omega arith) (λ e. cc) refl)
    (more_items (group_item g _ digits_g)
    (more_items (one_item 125 _ kind.CloseBrace close_brace (λ e. cc) refl refl)
    (more_items (one_item 59 _ kind.Semicolon semicolon (λ e. cc) refl refl)
    h))))))))))))))))))))))))
