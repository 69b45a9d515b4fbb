-- What the instances of a problem say, one row a rule.
use Rattle.std.specs.Prelude.{IsTrue, Option, Some, None}
use Rattle.sc_clauses.specs.declared.step.Instance.{Instance}
use Rattle.sc_clauses.specs.Clauses.{Clause}
use Rattle.sc_terms.specs.Trees.{Tree}
use Rattle.sc_footprint.specs.Problems.{Posed, term_of}
use Rattle.sc_rule_instances.specs.declared.rule.EqualRule.{EqualRule}
use Rattle.sc_rule_instances.specs.declared.rule.EqualRule.TheVariants.{Eq1, Eq2, Eq3, Eq4, Eq5, Eq6, Eq7, Eq8}
use Rattle.sc_rule_instances.specs.declared.rule.SetRule.{SetRule}
use Rattle.sc_rule_instances.specs.declared.rule.SetRule.TheVariants.{Se1, Se2, Se3, Se4, Se5, Se6, Se7, Se8, Se9, Se10}
use Rattle.sc_rule_instances.specs.declared.rule.EntityRule.{EntityRule}
use Rattle.sc_rule_instances.specs.declared.rule.EntityRule.TheVariants.{En1, En2, En3, En4, En5, En6, En7, En8, Eq9}
use Rattle.sc_rule_laws.specs.Signed.{Said}
use Rattle.sc_rule_instances.specs.Clauses.{is_instance, said_clause}
use Rattle.sc_rule_laws.specs.Equal.{eq1, eq2, eq3, eq4, eq5, eq6, eq7, eq8}
use Rattle.sc_rule_laws.specs.Sets.{se1, se2, se3, se4, se5, se6, se7, se8, se9, se10}
use Rattle.sc_rule_laws.specs.Entities.{en1, en2, en3, en4, en5, en6, en7, en8, eq9}
use Rattle.sc_rule_instances.specs.Names.{equal_rule, set_rule, entity_rule}

-- a rule on one closed term, on two, three and four
abbrev pub on_one : Option Tree → (Tree → Said) → Said
on_one (Some a) rule = rule a
on_one None rule = None

abbrev pub on_two : Option Tree → Option Tree → (Tree → Tree → Said) → Said
on_two (Some a) (Some b) rule = rule a b
on_two _ _ rule = None

abbrev pub on_three : Option Tree → Option Tree → Option Tree → (Tree → Tree → Tree → Said) → Said
on_three (Some a) (Some b) (Some c) rule = rule a b c
on_three _ _ _ rule = None

abbrev pub on_four : Option Tree → Option Tree → Option Tree → Option Tree → (Tree → Tree → Tree → Tree → Said) → Said
on_four (Some a) (Some b) (Some c) (Some d) rule = rule a b c d
on_four _ _ _ _ rule = None

-- ---- equations

abbrev pub equal_said : Posed → EqualRule → Said
equal_said p (Eq1 a b c) = on_three (term_of p a) (term_of p b) (term_of p c) eq1
equal_said p (Eq2 x i) = on_one (term_of p x) (λ t. eq2 t i)
equal_said p (Eq3 r s i) = on_two (term_of p r) (term_of p s) (λ t u. eq3 t u i)
equal_said p (Eq4 r s) = on_two (term_of p r) (term_of p s) eq4
equal_said p (Eq5 o q) = on_two (term_of p o) (term_of p q) eq5
equal_said p (Eq6 o q) = on_two (term_of p o) (term_of p q) eq6
equal_said p (Eq7 o q i) = on_two (term_of p o) (term_of p q) (λ t u. eq7 t u i)
equal_said p (Eq8 o) = on_one (term_of p o) eq8

-- ---- sets

abbrev pub set_said : Posed → SetRule → Said
set_said p (Se1 x y s) = on_three (term_of p x) (term_of p y) (term_of p s) se1
set_said p (Se2 x s) = on_two (term_of p x) (term_of p s) se2
set_said p (Se3 x s i) = on_two (term_of p x) (term_of p s) (λ t u. se3 t u i)
set_said p (Se4 s t x) = on_three (term_of p s) (term_of p t) (term_of p x) se4
set_said p (Se5 s t i) = on_two (term_of p s) (term_of p t) (λ u v. se5 u v i)
set_said p (Se6 s t i) = on_two (term_of p s) (term_of p t) (λ u v. se6 u v i)
set_said p (Se7 s t x) = on_three (term_of p s) (term_of p t) (term_of p x) se7
set_said p (Se8 s t i) = on_two (term_of p s) (term_of p t) (λ u v. se8 u v i)
set_said p (Se9 s t i) = on_two (term_of p s) (term_of p t) (λ u v. se9 u v i)
set_said p (Se10 s t i) = on_two (term_of p s) (term_of p t) (λ u v. se10 u v i)

-- ---- entities

abbrev pub entity_said : Posed → EntityRule → Said
entity_said p (En1 x y i) = on_two (term_of p x) (term_of p y) (λ t u. en1 t u i (term_of p i))
entity_said p (En2 x s z) = on_three (term_of p x) (term_of p s) (term_of p z) en2
entity_said p (En3 x y i) = on_two (term_of p x) (term_of p y) (λ t u. en3 t u i (term_of p i))
entity_said p (En4 e) = on_one (term_of p e) en4
entity_said p (En5 e f x u) = on_four (term_of p e) (term_of p f) (term_of p x) (term_of p u) en5
entity_said p (En6 a) = on_one (term_of p a) en6
entity_said p (En7 s x) = on_two (term_of p s) (term_of p x) (en7 p.schema)
entity_said p (En8 x) = on_one (term_of p x) (en8 p.schema)
entity_said p (Eq9 x) = on_one (term_of p x) (eq9 p.schema)

-- ---- of the instances that are written

abbrev pub said_by : {R : Type 0} → (R → Said) → Option R → Said
said_by say (Some rule) = say rule
said_by say None = None

abbrev pub equal_of : Posed → Instance → Said
equal_of p i = said_by (equal_said p) (equal_rule i)

abbrev pub set_of : Posed → Instance → Said
set_of p i = said_by (set_said p) (set_rule i)

abbrev pub entity_of : Posed → Instance → Said
entity_of p i = said_by (entity_said p) (entity_rule i)

-- what the theory of equations has, and so the others
abbrev pub HasEqual : Posed → Instance → Type 0
HasEqual p i = IsTrue (is_instance p (equal_of p i))

abbrev pub HasSet : Posed → Instance → Type 0
HasSet p i = IsTrue (is_instance p (set_of p i))

abbrev pub HasEntity : Posed → Instance → Type 0
HasEntity p i = IsTrue (is_instance p (entity_of p i))

abbrev pub equal_clause : Posed → Instance → Clause
equal_clause p i = said_clause p (equal_of p i)

abbrev pub set_clause : Posed → Instance → Clause
set_clause p i = said_clause p (set_of p i)

abbrev pub entity_clause : Posed → Instance → Clause
entity_clause p i = said_clause p (entity_of p i)
