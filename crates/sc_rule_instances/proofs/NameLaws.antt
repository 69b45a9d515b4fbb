-- What is written is read again, whichever rule it is, and an instance that names a rule has a text that a log can hold.
use Rattle.std.proofs.Common.{◌≡◌, ◌&&◌, ℕ, Bool, true, false, List, [], ◌∷◌, map, codes, Option, Some, None, cond, refl, sym, ap, ◌∙◌, subst}
use Rattle.std.specs.List.{list_all}
use Rattle.sc_lists.proofs.TextLaws.{bytes_eq_true}
use Rattle.sc_clauses.specs.declared.step.Instance.{Instance}
use Rattle.sc_clauses.specs.declared.step.Word.{Word}
use Rattle.sc_clauses.specs.declared.step.Word.TheVariants.{Number}
use Rattle.sc_footprint.specs.Written.{is_number, is_word, is_rule_word}
use Rattle.sc_rule_instances.specs.declared.rule.EqualRule.{EqualRule}
use Rattle.sc_rule_instances.specs.declared.rule.SetRule.{SetRule}
use Rattle.sc_rule_instances.specs.declared.rule.EntityRule.{EntityRule}
use Rattle.sc_rule_instances.specs.declared.words.Numbers.{Numbers}
use Rattle.sc_rule_instances.specs.declared.words.Numbers.TheVariants.{One, Two, Three, Four, Other}
use Rattle.sc_rule_instances.specs.Names.{numbers_of, numbers_in, is_named, equal_named, equal_rule, set_named, set_rule, entity_named, entity_rule}

-- numbers that a log can hold, as words
words_small : (ns : List ℕ) → list_all is_number ns ≡ true → list_all is_word (map Number ns) ≡ true
words_small [] h = refl
words_small (n ∷ ns) h = by (is_number n) h (words_small ns)
  where
    by : (b : Bool) → (b && list_all is_number ns) ≡ true → (list_all is_number ns ≡ true → list_all is_word (map Number ns) ≡ true) → (b && list_all is_word (map Number ns)) ≡ true
    by true e rest = rest e
    by false e rest = cc

numbers_back : (ns : List ℕ) → list_all is_number ns ≡ true → numbers_in (map Number ns) ≡ numbers_of (map Number ns)
numbers_back ns h = ap (λ (b : Bool). cond b (numbers_of (map Number ns)) Other) (words_small ns h)

-- an instance with the words of a rule is of that rule
named_back : {R : Type 0} (named : List ℕ → Numbers → Option R) (i : Instance) (word : List ℕ) (ns : List ℕ) (rule : R) → i.rule ≡ word → i.words ≡ map Number ns → list_all is_number ns ≡ true
    → named word (numbers_of (map Number ns)) ≡ Some rule → named i.rule (numbers_in i.words) ≡ Some rule
named_back named i word ns rule e f small h =
    ap (λ (r : List ℕ). named r (numbers_in i.words)) e ∙ ap (λ (vs : List Word). named word (numbers_in vs)) f ∙ ap (named word) (numbers_back ns small) ∙ h

pub equal_back : (i : Instance) (word : List ℕ) (ns : List ℕ) (rule : EqualRule) → i.rule ≡ word → i.words ≡ map Number ns → list_all is_number ns ≡ true → equal_named word (numbers_of (map Number ns)) ≡ Some rule
    → equal_rule i ≡ Some rule
equal_back = named_back equal_named

pub set_back : (i : Instance) (word : List ℕ) (ns : List ℕ) (rule : SetRule) → i.rule ≡ word → i.words ≡ map Number ns → list_all is_number ns ≡ true → set_named word (numbers_of (map Number ns)) ≡ Some rule
    → set_rule i ≡ Some rule
set_back = named_back set_named

pub entity_back : (i : Instance) (word : List ℕ) (ns : List ℕ) (rule : EntityRule) → i.rule ≡ word → i.words ≡ map Number ns → list_all is_number ns ≡ true → entity_named word (numbers_of (map Number ns)) ≡ Some rule
    → entity_rule i ≡ Some rule
entity_back = named_back entity_named

-- ---- texts

-- a rule that has one word, or is another's
pub one_word : {R : Type 0} (rule word : List ℕ) (x r : R) (rest : Option R) → is_rule_word word ≡ true → (rest ≡ Some r → is_rule_word rule ≡ true) → cond (is_named rule word) (Some x) rest ≡ Some r
    → is_rule_word rule ≡ true
one_word {R} rule word x r rest plain others = by (is_named rule word) refl
  where
    by : (b : Bool) → is_named rule word ≡ b → cond b (Some x) rest ≡ Some r → is_rule_word rule ≡ true
    by true e h = subst (λ (w : List ℕ). is_rule_word w ≡ true) (sym (bytes_eq_true rule word e)) plain
    by false e h = others h

pub last_word : {R : Type 0} (rule word : List ℕ) (x r : R) → is_rule_word word ≡ true → cond (is_named rule word) (Some x) None ≡ Some r → is_rule_word rule ≡ true
last_word rule word x r plain = one_word rule word x r None plain (λ e. absurd cc)

equal_word : (rule : List ℕ) (n : Numbers) (r : EqualRule) → equal_named rule n ≡ Some r → is_rule_word rule ≡ true
equal_word rule (One a) r = last_word rule (codes "EQ8") _ r refl
equal_word rule (Two a b) r =
    one_word rule (codes "EQ2") _ r _ refl (one_word rule (codes "EQ4") _ r _ refl (one_word rule (codes "EQ5") _ r _ refl (last_word rule (codes "EQ6") _ r refl)))
equal_word rule (Three a b c) r = one_word rule (codes "EQ1") _ r _ refl (one_word rule (codes "EQ3") _ r _ refl (last_word rule (codes "EQ7") _ r refl))
equal_word rule (Four a b c d) r = λ e. absurd cc
equal_word rule Other r = λ e. absurd cc

set_word : (rule : List ℕ) (n : Numbers) (r : SetRule) → set_named rule n ≡ Some r → is_rule_word rule ≡ true
set_word rule (One a) r = λ e. absurd cc
set_word rule (Two a b) r = last_word rule (codes "SE2") _ r refl
set_word rule (Three a b c) r =
    one_word rule (codes "SE1") _ r _ refl (one_word rule (codes "SE3") _ r _ refl (one_word rule (codes "SE4") _ r _ refl
    (one_word rule (codes "SE5") _ r _ refl (one_word rule (codes "SE6") _ r _ refl (one_word rule (codes "SE7") _ r _ refl (one_word rule (codes "SE8") _ r _ refl
    (one_word rule (codes "SE9") _ r _ refl (last_word rule (codes "SE10") _ r refl))))))))
set_word rule (Four a b c d) r = λ e. absurd cc
set_word rule Other r = λ e. absurd cc

entity_word : (rule : List ℕ) (n : Numbers) (r : EntityRule) → entity_named rule n ≡ Some r → is_rule_word rule ≡ true
entity_word rule (One a) r = one_word rule (codes "EN4") _ r _ refl (one_word rule (codes "EN6") _ r _ refl (one_word rule (codes "EN8") _ r _ refl (last_word rule (codes "EQ9") _ r refl)))
entity_word rule (Two a b) r = last_word rule (codes "EN7") _ r refl
entity_word rule (Three a b c) r = one_word rule (codes "EN1") _ r _ refl (one_word rule (codes "EN2") _ r _ refl (last_word rule (codes "EN3") _ r refl))
entity_word rule (Four a b c d) r = last_word rule (codes "EN5") _ r refl
entity_word rule Other r = λ e. absurd cc

-- what names a rule can be written
named_text : {R : Type 0} (named : List ℕ → Numbers → Option R) → ((rule : List ℕ) (n : Numbers) (r : R) → named rule n ≡ Some r → is_rule_word rule ≡ true) → ((rule : List ℕ) → named rule Other ≡ None)
    → (rule : List ℕ) (ws : List Word) (r : R) → named rule (numbers_in ws) ≡ Some r → (is_rule_word rule && list_all is_word ws) ≡ true
named_text {R} named word other rule ws r = by (list_all is_word ws)
  where
    by : (b : Bool) → named rule (cond b (numbers_of ws) Other) ≡ Some r → (is_rule_word rule && b) ≡ true
    by true e = ap (λ (a : Bool). a && true) (word rule (numbers_of ws) r e)
    by false e = let f : None ≡ Some r = sym (other rule) ∙ e in absurd cc

pub equal_text : (rule : List ℕ) (ws : List Word) (r : EqualRule) → equal_named rule (numbers_in ws) ≡ Some r → (is_rule_word rule && list_all is_word ws) ≡ true
equal_text = named_text equal_named equal_word (λ rule. refl)

pub set_text : (rule : List ℕ) (ws : List Word) (r : SetRule) → set_named rule (numbers_in ws) ≡ Some r → (is_rule_word rule && list_all is_word ws) ≡ true
set_text = named_text set_named set_word (λ rule. refl)

pub entity_text : (rule : List ℕ) (ws : List Word) (r : EntityRule) → entity_named rule (numbers_in ws) ≡ Some r → (is_rule_word rule && list_all is_word ws) ≡ true
entity_text = named_text entity_named entity_word (λ rule. refl)
