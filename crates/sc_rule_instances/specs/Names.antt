-- Which rule an instance names, with the numbers that it gives: of closed terms, but for i, which is a plain number.
-- Each is one that a log can hold.
use Rattle.std.specs.Prelude.{◌≡◌, ℕ, Bool, List, [], ◌∷◌, codes, Option, Some, None, if◌then◌else◌, refl}
use Rattle.std.specs.List.{list_all}
use Rattle.std.specs.Str.{bytes_eq}
use Rattle.sc_clauses.specs.declared.step.Instance.{Instance}
use Rattle.sc_clauses.specs.declared.step.Word.{Word}
use Rattle.sc_clauses.specs.declared.step.Word.TheVariants.{Number}
use Rattle.sc_footprint.specs.Written.{is_word}
use Rattle.sc_rule_instances.specs.declared.words.Numbers.{Numbers}
use Rattle.sc_rule_instances.specs.declared.words.Numbers.TheVariants.{One, Two, Three, Four, Other}
use Rattle.sc_rule_instances.specs.declared.rule.EqualRule.{EqualRule}
use Rattle.sc_rule_instances.specs.declared.rule.EqualRule.TheVariants.{Eq1, Eq2, Eq3, Eq4, Eq5, Eq6, Eq7, Eq8}
use Rattle.sc_rule_instances.specs.declared.rule.SetRule.{SetRule}
use Rattle.sc_rule_instances.specs.declared.rule.SetRule.TheVariants.{Se1, Se2, Se3, Se4, Se5, Se6, Se7, Se8, Se9, Se10}
use Rattle.sc_rule_instances.specs.declared.rule.EntityRule.{EntityRule}
use Rattle.sc_rule_instances.specs.declared.rule.EntityRule.TheVariants.{En1, En2, En3, En4, En5, En6, En7, En8, Eq9}

-- the numbers that words are, where there are one to four
abbrev pub numbers_of : List Word → Numbers
numbers_of (Number a ∷ []) = One a
numbers_of (Number a ∷ Number b ∷ []) = Two a b
numbers_of (Number a ∷ Number b ∷ Number c ∷ []) = Three a b c
numbers_of (Number a ∷ Number b ∷ Number c ∷ Number d ∷ []) = Four a b c d
numbers_of _ = Other

-- the same where a log can hold each of the words
abbrev pub numbers_in : List Word → Numbers
numbers_in ws = if list_all is_word ws then numbers_of ws else Other

-- the rule has this word
abbrev pub is_named : List ℕ → List ℕ → Bool
is_named rule word = bytes_eq rule word

-- ---- EQ

abbrev pub equal_two : List ℕ → ℕ → ℕ → Option EqualRule
equal_two rule a b =
    if is_named rule (codes "EQ2") then Some (Eq2 a b)
    else if is_named rule (codes "EQ4") then Some (Eq4 a b)
    else if is_named rule (codes "EQ5") then Some (Eq5 a b)
    else if is_named rule (codes "EQ6") then Some (Eq6 a b)
    else None

abbrev pub equal_three : List ℕ → ℕ → ℕ → ℕ → Option EqualRule
equal_three rule a b c =
    if is_named rule (codes "EQ1") then Some (Eq1 a b c)
    else if is_named rule (codes "EQ3") then Some (Eq3 a b c)
    else if is_named rule (codes "EQ7") then Some (Eq7 a b c)
    else None

abbrev pub equal_named : List ℕ → Numbers → Option EqualRule
equal_named rule (One a) = if is_named rule (codes "EQ8") then Some (Eq8 a) else None
equal_named rule (Two a b) = equal_two rule a b
equal_named rule (Three a b c) = equal_three rule a b c
equal_named rule _ = None

abbrev pub equal_rule : Instance → Option EqualRule
equal_rule i = equal_named i.rule (numbers_in i.words)

-- ---- SE

abbrev pub set_three : List ℕ → ℕ → ℕ → ℕ → Option SetRule
set_three rule a b c =
    if is_named rule (codes "SE1") then Some (Se1 a b c)
    else if is_named rule (codes "SE3") then Some (Se3 a b c)
    else if is_named rule (codes "SE4") then Some (Se4 a b c)
    else if is_named rule (codes "SE5") then Some (Se5 a b c)
    else if is_named rule (codes "SE6") then Some (Se6 a b c)
    else if is_named rule (codes "SE7") then Some (Se7 a b c)
    else if is_named rule (codes "SE8") then Some (Se8 a b c)
    else if is_named rule (codes "SE9") then Some (Se9 a b c)
    else if is_named rule (codes "SE10") then Some (Se10 a b c)
    else None

abbrev pub set_named : List ℕ → Numbers → Option SetRule
set_named rule (Two a b) = if is_named rule (codes "SE2") then Some (Se2 a b) else None
set_named rule (Three a b c) = set_three rule a b c
set_named rule _ = None

abbrev pub set_rule : Instance → Option SetRule
set_rule i = set_named i.rule (numbers_in i.words)

-- ---- EN, and EQ9

abbrev pub entity_one : List ℕ → ℕ → Option EntityRule
entity_one rule a =
    if is_named rule (codes "EN4") then Some (En4 a)
    else if is_named rule (codes "EN6") then Some (En6 a)
    else if is_named rule (codes "EN8") then Some (En8 a)
    else if is_named rule (codes "EQ9") then Some (Eq9 a)
    else None

abbrev pub entity_two : List ℕ → ℕ → ℕ → Option EntityRule
entity_two rule a b =
    if is_named rule (codes "EN7") then Some (En7 a b) else None

abbrev pub entity_three : List ℕ → ℕ → ℕ → ℕ → Option EntityRule
entity_three rule a b c =
    if is_named rule (codes "EN1") then Some (En1 a b c)
    else if is_named rule (codes "EN2") then Some (En2 a b c)
    else if is_named rule (codes "EN3") then Some (En3 a b c)
    else None

abbrev pub entity_named : List ℕ → Numbers → Option EntityRule
entity_named rule (One a) = entity_one rule a
entity_named rule (Two a b) = entity_two rule a b
entity_named rule (Three a b c) = entity_three rule a b c
entity_named rule (Four a b c d) = if is_named rule (codes "EN5") then Some (En5 a b c d) else None
entity_named rule _ = None

abbrev pub entity_rule : Instance → Option EntityRule
entity_rule i = entity_named i.rule (numbers_in i.words)

-- ---- worked rows

pub eq1_is_named : equal_named (codes "EQ1") (numbers_of (Number 4 ∷ Number 7 ∷ Number 5 ∷ [])) ≡ Some (Eq1 4 7 5)
eq1_is_named = refl

pub eq1_wants_three : equal_named (codes "EQ1") (numbers_of (Number 4 ∷ Number 7 ∷ [])) ≡ None
eq1_wants_three = refl

pub se8_is_named : set_named (codes "SE8") (numbers_of (Number 4 ∷ Number 4 ∷ Number 2 ∷ [])) ≡ Some (Se8 4 4 2)
se8_is_named = refl

pub se10_is_named : set_named (codes "SE10") (numbers_of (Number 4 ∷ Number 5 ∷ Number 0 ∷ [])) ≡ Some (Se10 4 5 0)
se10_is_named = refl

pub en5_is_named : entity_named (codes "EN5") (numbers_of (Number 1 ∷ Number 2 ∷ Number 3 ∷ Number 9 ∷ []))
    ≡ Some (En5 1 2 3 9)
en5_is_named = refl

pub eq9_is_of_entities : entity_named (codes "EQ9") (numbers_of (Number 4 ∷ [])) ≡ Some (Eq9 4)
eq9_is_of_entities = refl

pub eq9_is_of_no_equation : equal_named (codes "EQ9") (numbers_of (Number 4 ∷ [])) ≡ None
eq9_is_of_no_equation = refl
