-- What is written is read again, and an instance that names a rule has a text that a log can hold.
use Rattle.std.proofs.Common.{◌≡◌, ◌&&◌, ℕ, Bool, true, false, List, [], ◌∷◌, map, codes, Option, Some, None, cond, refl, ap, ◌∙◌}
use Rattle.std.specs.List.{list_all}
use Rattle.sc_clauses.specs.declared.step.Instance.{Instance}
use Rattle.sc_clauses.specs.declared.step.Word.{Word}
use Rattle.sc_clauses.specs.declared.step.Word.TheVariants.{Number, Signs as Signed}
use Rattle.sc_footprint.specs.Written.{is_word, is_rule_word}
use Rattle.sc_rule_laws.specs.Strings.{Signs}
use Rattle.sc_rule_instances.proofs.NameLaws.{one_word, last_word}
use Rattle.th_strings_instances.specs.declared.rule.StringRule.{StringRule}
use Rattle.th_strings_instances.specs.Names.{is_numeral, number_in, three_numbers, matched, plain_named, counted_named, counted_if, string_named, string_rule}

-- ---- numbers as words are those numbers

pub all_numerals : (ns : List ℕ) → list_all is_numeral (map Number ns) ≡ true
all_numerals [] = refl
all_numerals (n ∷ ns) = all_numerals ns

pub numbers_back : (ns : List ℕ) → map number_in (map Number ns) ≡ ns
numbers_back [] = refl
numbers_back (n ∷ ns) = ap (λ (ms : List ℕ). n ∷ ms) (numbers_back ns)

-- ---- an instance of words that a log can hold

pub named_back : (i : Instance) (word : List ℕ) (ws : List Word) → i.rule ≡ word → i.words ≡ ws → list_all is_word ws ≡ true → string_rule i ≡ string_named word ws
named_back i word ws e f h =
    ap (λ (vs : List Word). cond (list_all is_word vs) (string_named i.rule vs) None) f ∙ ap (λ (b : Bool). cond b (string_named i.rule ws) None) h ∙ ap (λ (r : List ℕ). string_named r ws) e

pub matched_back : (a b c : ℕ) (ws : List Word) (o : Option StringRule) → ws ≡ map Number (a ∷ b ∷ c ∷ []) → o ≡ string_named (codes "ST1") ws → o ≡ Some (matched a b c)
matched_back a b c ws o e h = h ∙ ap (string_named (codes "ST1")) e

pub counted_back : (word : List ℕ) (v : Signs) (ns : List ℕ) (ws : List Word) (o : Option StringRule) → ws ≡ Signed v ∷ map Number ns → o ≡ string_named word ws → o ≡ counted_named word v ns
counted_back word v ns ws o e h =
    h ∙ ap (string_named word) e ∙ ap (λ (b : Bool). cond b (counted_named word v (map number_in (map Number ns))) None) (all_numerals ns) ∙ ap (counted_named word v) (numbers_back ns)

-- ---- texts

counted_word : (rule : List ℕ) (v : Signs) (ns : List ℕ) (r : StringRule) → counted_named rule v ns ≡ Some r → is_rule_word rule ≡ true
counted_word rule v ns r = one_word rule (codes "ST2") _ r _ refl (last_word rule (codes "ST3") _ r refl)

if_word : (rule : List ℕ) (v : Signs) (ws : List Word) (r : StringRule) → counted_if rule v ws ≡ Some r → is_rule_word rule ≡ true
if_word rule v ws r = by (list_all is_numeral ws)
  where
    by : (b : Bool) → cond b (counted_named rule v (map number_in ws)) None ≡ Some r → is_rule_word rule ≡ true
    by true = counted_word rule v (map number_in ws) r
    by false = λ e. absurd cc

plain_word : (rule : List ℕ) (o : Option (ℕ × ℕ × ℕ)) (r : StringRule) → plain_named rule o ≡ Some r → is_rule_word rule ≡ true
plain_word rule (Some (a, b, c)) r = last_word rule (codes "ST1") _ r refl
plain_word rule None r = λ e. absurd cc

named_word : (rule : List ℕ) (ws : List Word) (r : StringRule) → string_named rule ws ≡ Some r → is_rule_word rule ≡ true
named_word rule (Signed v ∷ ws) r = if_word rule v ws r
named_word rule (Number n ∷ ws) r = plain_word rule (three_numbers (Number n ∷ ws)) r
named_word rule [] r = plain_word rule None r

pub string_text : (rule : List ℕ) (ws : List Word) (r : StringRule) → cond (list_all is_word ws) (string_named rule ws) None ≡ Some r → (is_rule_word rule && list_all is_word ws) ≡ true
string_text rule ws r = by (list_all is_word ws)
  where
    by : (b : Bool) → cond b (string_named rule ws) None ≡ Some r → (is_rule_word rule && b) ≡ true
    by true e = ap (λ (a : Bool). a && true) (named_word rule ws r e)
    by false e = absurd cc
