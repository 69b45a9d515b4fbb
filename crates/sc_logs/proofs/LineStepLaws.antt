-- The step of a line is the one whose line it is.
use Rattle.std.proofs.Common.{◌≡◌, ◌<◌, ◌≤◌, ◌==◌, ◌||◌, ◌&&◌, ℕ, List, [], ◌∷◌, ◌++◌, map, Bool, true, false, not, cond, Option, Some, None, refl, sym, ap, ◌∙◌, subst, arith}
use Rattle.std.specs.List.{list_all, slice_split}
use Rattle.std.specs.Fmt.{decimal}
use Rattle.std.specs.Str.{bytes_eq}
use Rattle.std.specs.Str.Parse.{digits_value}
use Rattle.std.proofs.lemmas.Bool.{and_parts, and_from, not-true, ne_eqb, true≢false, cond-false}
use Rattle.std.proofs.lemmas.Fmt.{decimal_is_IsNumeral}
use Rattle.std.proofs.lemmas.Slice.Eq.{bytes_eq-Decides}
use Rattle.sc_clauses.specs.declared.lit.Lit.{Lit}
use Rattle.sc_clauses.specs.declared.step.Word.{Word}
use Rattle.sc_clauses.specs.declared.step.Word.TheVariants.{Number, Signs}
use Rattle.sc_clauses.specs.declared.step.Step.{Step}
use Rattle.sc_clauses.specs.declared.step.Step.TheVariants.{Instance, Learned}
use Rattle.sc_clauses.specs.declared.step.Instance as instance
use Rattle.sc_clauses.specs.declared.step.Learned as learned
use Rattle.sc_logs.specs.LineSteps.{begins_with, likely_sign, likely_word, likely_lit, before_zero, after_zero, likely_learned, likely_instance, likely_step, step_of}
use Rattle.sc_logs.specs.Readings.{Reads}
use Rattle.sc_logs.specs.Texts.{sign_text, word_text, lit_text, zero_text, has_no_zero, instance_words, hint_words, learned_words, step_words, step_line}
use Rattle.sc_logs.specs.Writable.{is_lit, is_hint, are_hints, is_learned, is_writable}
use Rattle.sc_footprint.specs.Written.{is_number, is_rule_word, is_word, is_instance}
use Rattle.sc_logs.proofs.NumberLaws.{number_small, decimal_begins}
use Rattle.sc_logs.proofs.WordLaws.{hint_number}
use Rattle.sc_logs.proofs.LineLaws.{cons_same, lit_no_zero, lits_no_zero, text_no_zero, line_split}

-- ---- words

value_back : (n : ℕ) → is_number n ≡ true → digits_value 10 (decimal n) ≡ n
value_back n e = (decimal_is_IsNumeral n (number_small n e)).1

-- a number's text begins with no sign
no_sign : (sign n : ℕ) (w : List ℕ) → sign < 48 → is_number n ≡ true → decimal n ≡ w → begins_with sign w ≡ false
no_sign sign n [] h e is = refl
no_sign sign n (b ∷ w) h e is = let digit : 48 ≤ b = decimal_begins n w b e is in ne_eqb b sign (λ (q : b ≡ sign). absurd (omega arith))

signs_back : (signs : List (Option Bool)) → map likely_sign (map sign_text signs) ≡ signs
signs_back [] = refl
signs_back (Some true ∷ signs) = cons_same refl (signs_back signs)
signs_back (Some false ∷ signs) = cons_same refl (signs_back signs)
signs_back (None ∷ signs) = cons_same refl (signs_back signs)

neither : {X : Type 0} (a b c : Bool) (x y : X) → a ≡ false → b ≡ false → c ≡ false → cond (a || b || c) x y ≡ y
neither true b c x y e f g = absurd (true≢false e)
neither false true c x y e f g = absurd (true≢false f)
neither false false true x y e f g = absurd (true≢false g)
neither false false false x y e f g = refl

word_back : (w : Word) → is_word w ≡ true → likely_word (word_text w) ≡ w
word_back (Number n) e =
    neither _ _ _ _ _ (no_sign 43 n (decimal n) (omega arith) e refl) (no_sign 45 n (decimal n) (omega arith) e refl) (no_sign 46 n (decimal n) (omega arith) e refl)
    ∙ ap Number (value_back n e)
word_back (Signs []) e = absurd (true≢false (sym e))
word_back (Signs (Some true ∷ signs)) e = ap Signs (signs_back (Some true ∷ signs))
word_back (Signs (Some false ∷ signs)) e = ap Signs (signs_back (Some false ∷ signs))
word_back (Signs (None ∷ signs)) e = ap Signs (signs_back (None ∷ signs))

abbrev lit_at : Bool → ℕ → Lit
lit_at b n = record { atom = n; negated = b }

lit_back_at : (n : ℕ) (b : Bool) → is_number n ≡ true → likely_lit (lit_text (lit_at b n)) ≡ lit_at b n
lit_back_at n true e = ap (lit_at true) (value_back n e)
lit_back_at n false e = cond-false _ _ _ (no_sign 45 n (decimal n) (omega arith) e refl) ∙ ap (lit_at false) (value_back n e)

lit_back : (l : Lit) → is_lit l ≡ true → likely_lit (lit_text l) ≡ l
lit_back l e = lit_back_at l.atom l.negated (and_parts _ (is_number l.atom) e).1

map_back : {X : Type 0} (test : X → Bool) (text : X → List ℕ) (back : List ℕ → X) (xs : List X) → ((x : X) → test x ≡ true → back (text x) ≡ x) → list_all test xs ≡ true → map back (map text xs) ≡ xs
map_back test text back [] h e = refl
map_back test text back (x ∷ xs) h e =
    let parts = and_parts (test x) (list_all test xs) e in
    cons_same (h x parts.0) (map_back test text back xs h parts.1)

-- ---- steps

before_first : (a b : List (List ℕ)) → has_no_zero a ≡ true → before_zero (a ++ zero_text ∷ b) ≡ a
before_first [] b e = refl
before_first (w ∷ a) b e =
    let parts = and_parts (not (bytes_eq w zero_text)) (has_no_zero a) e in
    cond-false (bytes_eq w zero_text) _ _ (not-true (bytes_eq w zero_text) parts.0) ∙ cons_same refl (before_first a b parts.1)

after_first : (a b : List (List ℕ)) → has_no_zero a ≡ true → after_zero (a ++ zero_text ∷ b) ≡ b
after_first [] b e = refl
after_first (w ∷ a) b e =
    let parts = and_parts (not (bytes_eq w zero_text)) (has_no_zero a) e in
    cond-false (bytes_eq w zero_text) _ _ (not-true (bytes_eq w zero_text) parts.0) ∙ after_first a b parts.1

hints_no_zero : (hints : List ℕ) → list_all is_hint hints ≡ true → has_no_zero (map decimal hints) ≡ true
hints_no_zero [] e = refl
hints_no_zero (h ∷ hints) e =
    let parts = and_parts (is_hint h) (list_all is_hint hints) e in
    and_from _ (has_no_zero (map decimal hints)) (text_no_zero (decimal h) _ refl (lit_no_zero (lit_at false h) parts.0)) (hints_no_zero hints parts.1)

instance_back : (i : instance.Instance) → is_instance i ≡ true → likely_instance (instance_words i) ≡ i
instance_back i e =
    let words : map likely_word (map word_text i.words) ≡ i.words = map_back is_word word_text likely_word i.words word_back (and_parts (is_rule_word i.rule) (list_all is_word i.words) e).1 in
    λ k. record { rule = i.rule; words = words k }

learned_back : (l : learned.Learned) → is_learned l ≡ true → likely_learned (learned_words l) ≡ l
learned_back l e =
    let parts = and_parts (list_all is_lit l.clause) (are_hints l.hints) e in
    let lits = lits_no_zero l.clause parts.0 in
    let hint = (and_parts _ (list_all is_hint l.hints) parts.1).1 in
    let clause : map likely_lit (before_zero (learned_words l)) ≡ l.clause
    = ap (map likely_lit) (before_first (map lit_text l.clause) (hint_words l.hints) lits) ∙ map_back is_lit lit_text likely_lit l.clause lit_back parts.0 in
    let hints : map (digits_value 10) (before_zero (after_zero (learned_words l))) ≡ l.hints
    = ap (λ (ws : List (List ℕ)). map (digits_value 10) (before_zero ws)) (after_first (map lit_text l.clause) (hint_words l.hints) lits)
    ∙ (ap (map (digits_value 10)) (before_first (map decimal l.hints) [] (hints_no_zero l.hints hint))
    ∙ map_back is_hint decimal (digits_value 10) l.hints (λ h f. value_back h (hint_number h f)) hint) in
    λ k. record { clause = clause k; hints = hints k }

step_back : (s : Step) → is_writable s ≡ true → likely_step (step_words s) ≡ s
step_back (Instance i) e = ap Instance (instance_back i e)
step_back (Learned l) e = ap Learned (learned_back l e)

line_back : (s : Step) → is_writable s ≡ true → likely_step (slice_split (λ b. b == 32) (step_line s)) ≡ s
line_back s e = ap likely_step (line_split s e) ∙ step_back s e

-- ---- lines

-- steps of one line are one
pub line_injective : (s t : Step) → is_writable s ≡ true → is_writable t ≡ true → step_line s ≡ step_line t → s ≡ t
line_injective s t e f h = sym (line_back s e) ∙ ap (λ (line : List ℕ). likely_step (slice_split (λ b. b == 32) line)) h ∙ line_back t f

written_reads : (s : Step) (line : List ℕ) (b : Bool) → is_writable s && bytes_eq (step_line s) line ≡ b → ((t : Step) → is_writable t ≡ true → step_line t ≡ line → t ≡ s)
    → Reads is_writable step_line line (cond b (Some s) None)
written_reads s line true e only =
    let parts = and_parts (is_writable s) (bytes_eq (step_line s) line) e in
    (parts.0, (bytes_eq-Decides (step_line s) line).0 parts.1)
written_reads s line false e only = λ t w is.
    let same : t ≡ s = only t w is in
    let fits : is_writable s ≡ true = subst (λ (x : Step). is_writable x ≡ true) same w in
    let text : step_line s ≡ line = subst (λ (x : Step). step_line x ≡ line) same is in
    true≢false (sym (and_from (is_writable s) (bytes_eq (step_line s) line) fits ((bytes_eq-Decides (step_line s) line).1 text)) ∙ e)

pub step_reads : (line : List ℕ) → Reads is_writable step_line line (step_of line)
unfolding step_of
step_reads line =
    written_reads (likely_step (slice_split (λ b. b == 32) line)) line _ refl
    (λ t w is. sym (line_back t w) ∙ ap (λ (bytes : List ℕ). likely_step (slice_split (λ b. b == 32) bytes)) is)

reads_once : (line : List ℕ) (a b : Option Step) → Reads is_writable step_line line a → Reads is_writable step_line line b → a ≡ b
reads_once line (Some s) (Some t) x y = ap Some (line_injective s t x.0 y.0 (x.1 ∙ sym y.1))
reads_once line (Some s) None x y = absurd (y s x.0 x.1)
reads_once line None (Some t) x y = absurd (x t y.0 y.1)
reads_once line None None x y = refl

-- what is read of a line is its step
pub step_is : (line : List ℕ) (o : Option Step) → Reads is_writable step_line line o → o ≡ step_of line
step_is line o read = reads_once line o (step_of line) read (step_reads line)
