-- Laws of the words of a step's line.
use Rattle.std.proofs.Common.{◌≡◌, ◌<◌, ◌≤◌, ◌==◌, ℕ, zero, suc, List, [], ◌∷◌, ◌++◌, map, drop, get_or, length, Bool, true, false, not, ◌||◌, nat_le, nat_lt, ⊎_elim, Option, Some, None, refl, sym, ap, ◌∙◌, subst, arith}
use Rattle.std.proofs.Math.Dec.{eqb-suc-zero}
use Rattle.std.specs.List.{list_all, join_with_byte, slice_split, All}
use Rattle.std.specs.Fmt.{decimal}
use Rattle.std.specs.Str.{IsUtf8, IsAscii, bytes_eq}
use Rattle.std.proofs.lemmas.Bool.{and_parts, and_from, leb-true, ltb-true, lt-ltb, both_ways, eq-eqb, ne_eqb, or_cases, true≢false}
use Rattle.std.proofs.lemmas.Fmt.{decimal_injective, decimal_digit, decimal_is_IsNumeral}
use Rattle.std.proofs.lemmas.Str.{IsUtf8-from_ascii}
use Rattle.std.specs.Str.Parse.{AllDigits}
use Rattle.std.proofs.lemmas.List.Folds.{list_all-append}
use Rattle.std.proofs.lemmas.List.Splits.{slice_split_none, slice_split_at, join_with_byte-slice_split}
use Rattle.std.proofs.lemmas.Slice.Eq.{bytes_eq-Decides}
use Rattle.sc_clauses.specs.declared.lit.Lit.{Lit}
use Rattle.sc_clauses.specs.declared.step.Word.{Word}
use Rattle.sc_clauses.specs.declared.step.Word.TheVariants.{Number, Signs}
use Rattle.sc_clauses.specs.declared.step.Step.{Step}
use Rattle.sc_clauses.specs.declared.step.Step.TheVariants.{Instance, Learned}
use Rattle.sc_clauses.specs.declared.step.Instance as instance
use Rattle.sc_clauses.specs.declared.step.Learned as learned
use Rattle.sc_logs.specs.Writable.{is_lit, is_hint, are_hints, is_learned, is_writable}
use Rattle.sc_footprint.specs.Written.{is_number, is_between, is_letter_or_digit, is_rule_word, is_word, is_instance}
use Rattle.sc_logs.specs.Texts.{ended_words, sign_text, word_text, lit_text, zero_text, has_no_zero, instance_words, hint_words, learned_words, step_words, step_line}
use Rattle.sc_logs.specs.Readings.{Reads}
use Rattle.sc_logs.proofs.NumberLaws.{number_small, digit_at_least}
use Rattle.sc_logs.proofs.WordLaws.{hint_number}

-- ---- bytes above the space

-- each byte is above the space
abbrev pub is_visible : List ℕ → Bool
is_visible word = list_all (λ b. nat_lt 32 b) word

between_visible : (first last byte : ℕ) → 32 < first → is_between first last byte ≡ true → nat_lt 32 byte ≡ true
between_visible first last byte h e = let at_least : first ≤ byte = leb-true first byte (and_parts (nat_le first byte) _ e).0 in lt-ltb 32 byte (omega arith)

between_ascii : (first last byte : ℕ) → last < 128 → is_between first last byte ≡ true → byte < 128
between_ascii first last byte h e = let at_most : byte ≤ last = leb-true byte last (and_parts _ (nat_le byte last) e).1 in omega arith

letter_visible : (byte : ℕ) → is_letter_or_digit byte ≡ true → nat_lt 32 byte ≡ true
letter_visible byte e =
    ⊎_elim (λ (h : is_between 48 57 byte || is_between 65 90 byte ≡ true).
    ⊎_elim (λ (d : is_between 48 57 byte ≡ true). between_visible 48 57 byte (omega arith) d) (λ (u : is_between 65 90 byte ≡ true). between_visible 65 90 byte (omega arith) u) (or_cases (is_between 48 57 byte) (is_between 65 90 byte) h))
    (λ (l : is_between 97 122 byte ≡ true). between_visible 97 122 byte (omega arith) l) (or_cases (is_between 48 57 byte || is_between 65 90 byte) (is_between 97 122 byte) e)

letter_ascii : (byte : ℕ) → is_letter_or_digit byte ≡ true → byte < 128
letter_ascii byte e =
    ⊎_elim (λ (h : is_between 48 57 byte || is_between 65 90 byte ≡ true).
    ⊎_elim (λ (d : is_between 48 57 byte ≡ true). between_ascii 48 57 byte (omega arith) d) (λ (u : is_between 65 90 byte ≡ true). between_ascii 65 90 byte (omega arith) u) (or_cases (is_between 48 57 byte) (is_between 65 90 byte) h))
    (λ (l : is_between 97 122 byte ≡ true). between_ascii 97 122 byte (omega arith) l) (or_cases (is_between 48 57 byte || is_between 65 90 byte) (is_between 97 122 byte) e)

letters_visible : (rule : List ℕ) → list_all is_letter_or_digit rule ≡ true → is_visible rule ≡ true
letters_visible [] e = refl
letters_visible (b ∷ rule) e =
    let parts = and_parts (is_letter_or_digit b) (list_all is_letter_or_digit rule) e in
    and_from (nat_lt 32 b) (is_visible rule) (letter_visible b parts.0) (letters_visible rule parts.1)

letters_ascii : (rule : List ℕ) → list_all is_letter_or_digit rule ≡ true → IsAscii rule
letters_ascii [] e i = omega arith
letters_ascii (b ∷ rule) e zero = letter_ascii b (and_parts (is_letter_or_digit b) (list_all is_letter_or_digit rule) e).0
letters_ascii (b ∷ rule) e (suc i) = letters_ascii rule (and_parts (is_letter_or_digit b) (list_all is_letter_or_digit rule) e).1 i

-- ---- the rule's word

pub rule_visible : (rule : List ℕ) → is_rule_word rule ≡ true → is_visible rule ≡ true
rule_visible rule e = letters_visible rule (and_parts _ (list_all is_letter_or_digit rule) e).1

pub rule_utf8 : (rule : List ℕ) → is_rule_word rule ≡ true → IsUtf8 rule
rule_utf8 rule e = IsUtf8-from_ascii rule (letters_ascii rule (and_parts _ (list_all is_letter_or_digit rule) e).1)

pub rule_none : (word : List ℕ) → ¬ IsUtf8 word → Reads is_rule_word (λ r. r) word None
rule_none word h rule t e = h (subst IsUtf8 e (rule_utf8 rule t))

-- ---- lists that end in `0`

pub first_same : {X : Type 0} {x y : X} {xs ys : List X} → x ∷ xs ≡ y ∷ ys → x ≡ y
first_same {x = x} e = ap (λ zs. get_or zs 0 x) e

pub rest_same : {X : Type 0} {x y : X} {xs ys : List X} → x ∷ xs ≡ y ∷ ys → xs ≡ ys
rest_same e = ap (drop 1) e

pub cons_same : {X : Type 0} {x y : X} {a b : List X} → x ≡ y → a ≡ b → x ∷ a ≡ y ∷ b
cons_same p q = λ i. p i ∷ q i

-- ---- literals, `0`, hints, `0`

lit_no_zero_at : (n : ℕ) (b : Bool) → is_lit (record { atom = n; negated = b }) ≡ true → lit_text (record { atom = n; negated = b }) ≡ zero_text → ⊥
lit_no_zero_at n true t e = let first : 45 ≡ 48 = first_same e in both_ways (45 == 48) refl (eq-eqb 45 48 first)
lit_no_zero_at n false t e =
    let parts = and_parts (nat_lt 0 n) (is_number n) t in
    let is_zero : n ≡ 0 = decimal_injective n 0 (number_small n parts.1) (omega arith) (e ∙ sym (decimal_digit 0 (omega arith))) in
    let positive : 0 < n = ltb-true 0 n parts.0 in
    absurd (omega arith)

pub lit_no_zero : (l : Lit) → is_lit l ≡ true → lit_text l ≡ zero_text → ⊥
lit_no_zero l t e = lit_no_zero_at l.atom l.negated t e

pub text_no_zero : (w : List ℕ) (b : Bool) → bytes_eq w zero_text ≡ b → (w ≡ zero_text → ⊥) → not b ≡ true
text_no_zero w true is h = absurd (h ((bytes_eq-Decides w zero_text).0 is))
text_no_zero w false is h = refl

pub lits_no_zero : (c : List Lit) → list_all is_lit c ≡ true → has_no_zero (map lit_text c) ≡ true
lits_no_zero [] e = refl
lits_no_zero (l ∷ c) e =
    let parts = and_parts (is_lit l) (list_all is_lit c) e in
    and_from _ (has_no_zero (map lit_text c)) (text_no_zero (lit_text l) _ refl (lit_no_zero l parts.0)) (lits_no_zero c parts.1)

pub hint_no_zero : (h : ℕ) → is_hint h ≡ true → decimal h ≡ zero_text → ⊥
hint_no_zero h t e = lit_no_zero (record { atom = h; negated = false }) t e

-- ---- values, `0`, and further words

module _ {X : Type 0} (test : X → Bool) (text : X → List ℕ) (never : (x : X) → test x ≡ true → text x ≡ zero_text → ⊥) where
  abbrev AreEnded : List (List ℕ) → Option (List X × List (List ℕ)) → Type 0
  AreEnded words o = Reads (λ p. list_all test p.0) (ended_words text) words o

  -- what follows the first `0`
  same_left : (xs ys : List X) (a b : List (List ℕ)) → list_all test xs ≡ true → list_all test ys ≡ true → map text xs ++ zero_text ∷ a ≡ map text ys ++ zero_text ∷ b → a ≡ b
  same_left [] [] a b s t e = rest_same e
  same_left [] (y ∷ ys) a b s t e = absurd (never y (and_parts (test y) (list_all test ys) t).0 (sym (first_same e)))
  same_left (x ∷ xs) [] a b s t e = absurd (never x (and_parts (test x) (list_all test xs) s).0 (first_same e))
  same_left (x ∷ xs) (y ∷ ys) a b s t e = same_left xs ys a b (and_parts (test x) (list_all test xs) s).1 (and_parts (test y) (list_all test ys) t).1 (rest_same e)

  behind : (xs ys : List X) (words left : List (List ℕ)) → AreEnded words None → list_all test xs ≡ true → list_all test ys ≡ true → map text ys ++ zero_text ∷ left ≡ map text xs ++ words → ⊥
  behind [] ys words left none s t e = none (ys, left) t e
  behind (x ∷ xs) [] words left none s t e = never x (and_parts (test x) (list_all test xs) s).0 (sym (first_same e))
  behind (x ∷ xs) (y ∷ ys) words left none s t e = behind xs ys words left none (and_parts (test x) (list_all test xs) s).1 (and_parts (test y) (list_all test ys) t).1 (rest_same e)

  -- where no `0` ends the words behind some that are read, none ends all of them
  more_none : (all words : List (List ℕ)) (xs : List X) → all ≡ map text xs ++ words → list_all test xs ≡ true → AreEnded words None → AreEnded all None
  more_none all words xs is s none p t e = behind xs p.0 words p.1 none s t (e ∙ is)

  other_word : (w : List ℕ) (ws left : List (List ℕ)) (ys : List X) → bytes_eq w zero_text ≡ false → Reads test text w None → list_all test ys ≡ true → map text ys ++ zero_text ∷ left ≡ w ∷ ws → ⊥
  other_word w ws left [] f none t e = both_ways (bytes_eq w zero_text) f ((bytes_eq-Decides w zero_text).1 (sym (first_same e)))
  other_word w ws left (y ∷ ys) f none t e = none y (and_parts (test y) (list_all test ys) t).0 (first_same e)

  no_word : (left : List (List ℕ)) (ys : List X) → map text ys ++ zero_text ∷ left ≡ [] → ⊥
  no_word left [] e = absurd cc
  no_word left (y ∷ ys) e = absurd cc

  -- a word that is neither `0` nor a value's
  pub ended_none : (all words ws : List (List ℕ)) (w : List ℕ) (xs : List X) → all ≡ map text xs ++ words → words ≡ w ∷ ws → list_all test xs ≡ true → bytes_eq w zero_text ≡ false → Reads test text w None → AreEnded all None
  ended_none all words ws w xs is next s f none = more_none all words xs is s (λ p t e. other_word w ws p.1 p.0 f none t (e ∙ next))

  -- no word is left
  pub ended_never : (all words : List (List ℕ)) (xs : List X) → all ≡ map text xs ++ words → words ≡ [] → list_all test xs ≡ true → AreEnded all None
  ended_never all words xs is end s = more_none all words xs is s (λ p t e. no_word p.1 p.0 (e ∙ end))

-- ---- the hints that end a line

abbrev pub AreHints : List (List ℕ) → Option (List ℕ × List (List ℕ)) → Type 0
AreHints words o = Reads (λ p. list_all is_hint p.0) (ended_words decimal) words o

pub hints_none : (words : List (List ℕ)) → AreHints words None → Reads are_hints hint_words words None
hints_none words none hints t e = none (hints, []) (and_parts _ (list_all is_hint hints) t).1 e

pub hints_nothing : (words left : List (List ℕ)) (hints : List ℕ) → AreHints words (Some (hints, left)) → true ≡ (length hints == 0) → Reads are_hints hint_words words None
hints_nothing words left (h ∷ hints) read none = absurd (true≢false (none ∙ eqb-suc-zero (length hints)))
hints_nothing words left [] read none = λ hints t e. by hints t (e ∙ sym read.1) where
  by : (hints : List ℕ) → are_hints hints ≡ true → hint_words hints ≡ zero_text ∷ left → ⊥
  by [] t e = true≢false (sym t)
  by (h ∷ hints) t e = hint_no_zero h (and_parts (is_hint h) (list_all is_hint hints) (and_parts _ (list_all is_hint (h ∷ hints)) t).1).0 (first_same e)

pub hints_more : (words left : List (List ℕ)) (hints : List ℕ) (w : List ℕ) (ws : List (List ℕ)) → AreHints words (Some (hints, left)) → left ≡ w ∷ ws → Reads are_hints hint_words words None
hints_more words left hints w ws read more others t e =
    let end : [] ≡ left = same_left is_hint decimal hint_no_zero others hints [] left (and_parts _ (list_all is_hint others) t).1 read.0 (e ∙ sym read.1) in
    absurd cc

-- ---- the words of a learned clause

abbrev pub AreLits : List (List ℕ) → Option (List Lit × List (List ℕ)) → Type 0
AreLits words o = Reads (λ p. list_all is_lit p.0) (ended_words lit_text) words o

pub learned_no_lits : (words : List (List ℕ)) → AreLits words None → Reads is_learned learned_words words None
learned_no_lits words none l t e = none (l.clause, hint_words l.hints) (and_parts (list_all is_lit l.clause) (are_hints l.hints) t).0 e

pub learned_no_hints : (words left : List (List ℕ)) (c : List Lit) → AreLits words (Some (c, left)) → Reads are_hints hint_words left None → Reads is_learned learned_words words None
learned_no_hints words left c read none l t e =
    let parts = and_parts (list_all is_lit l.clause) (are_hints l.hints) t in
    none l.hints parts.1 (same_left is_lit lit_text lit_no_zero l.clause c (hint_words l.hints) left parts.0 read.0 (e ∙ sym read.1))

-- ---- a line and its words

visible_digits : (bs : List ℕ) → AllDigits 10 bs → is_visible bs ≡ true
visible_digits [] h = refl
visible_digits (b ∷ bs) h =
    let digit : 48 ≤ b = digit_at_least b h.0 in
    and_from (nat_lt 32 b) (is_visible bs) (lt-ltb 32 b (omega arith)) (visible_digits bs h.1)

decimal_visible : (n : ℕ) → is_number n ≡ true → is_visible (decimal n) ≡ true
decimal_visible n e = visible_digits (decimal n) (decimal_is_IsNumeral n (number_small n e)).0.1

signs_visible : (signs : List (Option Bool)) → is_visible (map sign_text signs) ≡ true
signs_visible [] = refl
signs_visible (Some true ∷ signs) = signs_visible signs
signs_visible (Some false ∷ signs) = signs_visible signs
signs_visible (None ∷ signs) = signs_visible signs

word_visible : (w : Word) → is_word w ≡ true → is_visible (word_text w) ≡ true
word_visible (Number n) e = decimal_visible n e
word_visible (Signs signs) e = signs_visible signs

lit_visible_at : (n : ℕ) (b : Bool) → is_number n ≡ true → is_visible (lit_text (record { atom = n; negated = b })) ≡ true
lit_visible_at n true e = decimal_visible n e
lit_visible_at n false e = decimal_visible n e

lit_visible : (l : Lit) → is_lit l ≡ true → is_visible (lit_text l) ≡ true
lit_visible l e = lit_visible_at l.atom l.negated (and_parts _ (is_number l.atom) e).1

each_visible : {X : Type 0} (test : X → Bool) (text : X → List ℕ) (xs : List X) → ((x : X) → test x ≡ true → is_visible (text x) ≡ true) → list_all test xs ≡ true → list_all is_visible (map text xs) ≡ true
each_visible test text [] h e = refl
each_visible test text (x ∷ xs) h e =
    let parts = and_parts (test x) (list_all test xs) e in
    and_from (is_visible (text x)) (list_all is_visible (map text xs)) (h x parts.0) (each_visible test text xs h parts.1)

append_visible : (a b : List (List ℕ)) → list_all is_visible a ≡ true → list_all is_visible b ≡ true → list_all is_visible (a ++ b) ≡ true
append_visible a b e f = list_all-append is_visible a b ∙ and_from (list_all is_visible a) (list_all is_visible b) e f

hints_visible : (hints : List ℕ) → are_hints hints ≡ true → list_all is_visible (hint_words hints) ≡ true
hints_visible hints e =
    append_visible (map decimal hints) (zero_text ∷ []) (each_visible is_hint decimal hints (λ h f. decimal_visible h (hint_number h f)) (and_parts _ (list_all is_hint hints) e).1) refl

instance_visible : (i : instance.Instance) → is_instance i ≡ true → list_all is_visible (instance_words i) ≡ true
instance_visible i e =
    let parts = and_parts (is_rule_word i.rule) (list_all is_word i.words) e in
    and_from (is_visible i.rule) (list_all is_visible (map word_text i.words)) (rule_visible i.rule parts.0) (each_visible is_word word_text i.words word_visible parts.1)

learned_visible : (l : learned.Learned) → is_learned l ≡ true → list_all is_visible (learned_words l) ≡ true
learned_visible l e =
    let parts = and_parts (list_all is_lit l.clause) (are_hints l.hints) e in
    append_visible (map lit_text l.clause) (zero_text ∷ hint_words l.hints) (each_visible is_lit lit_text l.clause lit_visible parts.0) (hints_visible l.hints parts.1)

pub step_visible : (s : Step) → is_writable s ≡ true → list_all is_visible (step_words s) ≡ true
step_visible (Instance i) e = instance_visible i e
step_visible (Learned l) e = learned_visible l e

no_space : (w : List ℕ) → is_visible w ≡ true → All (λ b. (b == 32) ≡ false) w
no_space [] e k d h = absurd (omega arith)
no_space (b ∷ w) e zero d h =
    let above : 32 < b = ltb-true 32 b (and_parts (nat_lt 32 b) (is_visible w) e).0 in
    ne_eqb b 32 (λ (q : b ≡ 32). absurd (omega arith))
no_space (b ∷ w) e (suc k) d h = no_space w (and_parts (nat_lt 32 b) (is_visible w) e).1 k d (omega arith)

-- the words of a line are cut at its spaces
pub words_split : (w : List ℕ) (ws : List (List ℕ)) → list_all is_visible (w ∷ ws) ≡ true → slice_split (λ b. b == 32) (join_with_byte 32 (w ∷ ws)) ≡ w ∷ ws
words_split w [] e = slice_split_none (λ b. b == 32) w (no_space w (and_parts (is_visible w) true e).0)
words_split w (x ∷ ws) e =
    let parts = and_parts (is_visible w) (list_all is_visible (x ∷ ws)) e in
    slice_split_at (λ b. b == 32) w 32 (join_with_byte 32 (x ∷ ws)) (no_space w parts.0) refl ∙ cons_same refl (words_split x ws parts.1)

pub line_split : (s : Step) → is_writable s ≡ true → slice_split (λ b. b == 32) (step_line s) ≡ step_words s
line_split (Instance i) e = words_split (116 ∷ []) (instance_words i) (step_visible (Instance i) e)
line_split (Learned l) e = words_split (108 ∷ []) (learned_words l) (step_visible (Learned l) e)

-- what is read of the words behind a line's first one is read of the line
pub line_reads : {X : Type 0} (make : X → Step) (test : X → Bool) (text : X → List (List ℕ)) (kind line : List ℕ) (words left : List (List ℕ)) (o : Option X)
    → ((x : X) → is_writable (make x) ≡ test x) → ((x : X) → step_words (make x) ≡ kind ∷ text x)
    → words ≡ slice_split (λ b. b == 32) line → words ≡ kind ∷ left → Reads test text left o → Reads test (λ x. step_line (make x)) line o
line_reads make test text kind line words left (Some x) fits spelled cut is read =
    (read.0, ap (join_with_byte 32) (spelled x ∙ ap (λ (ws : List (List ℕ)). kind ∷ ws) read.1 ∙ sym is ∙ cut) ∙ join_with_byte-slice_split 32 line)
line_reads make test text kind line words left None fits spelled cut is none = λ x t e.
    none x t (rest_same (sym (spelled x) ∙ sym (line_split (make x) (fits x ∙ t)) ∙ ap (slice_split (λ b. b == 32)) e ∙ sym cut ∙ is))

-- a line of neither kind
pub neither_read : (line : List ℕ) → Reads is_learned (λ l. step_line (Learned l)) line None → Reads is_instance (λ i. step_line (Instance i)) line None → Reads is_writable step_line line None
neither_read line no_learned no_instance (Instance i) t e = no_instance i t e
neither_read line no_learned no_instance (Learned l) t e = no_learned l t e
