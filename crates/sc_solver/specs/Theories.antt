-- The instances of all theories, and their clauses.
use Rattle.std.specs.Prelude.{IsTrue, []}
use Rattle.sc_clauses.specs.Clauses.{Clause}
use Rattle.sc_clauses.specs.declared.step.Instance.{Instance}
use Rattle.sc_footprint.specs.Problems.{Posed}
use Rattle.th_defs.specs.Instances.{is_definition, definition_clause}
use Rattle.sc_rule_instances.specs.Instances.{HasEqual, HasSet, HasEntity, equal_clause, set_clause, entity_clause}
use Rattle.th_strings_instances.specs.Instances.{HasString, string_clause}
use Rattle.sc_solver.specs.declared.family.Family.{Family}
use Rattle.sc_solver.specs.declared.family.Family.TheVariants.{Definition, Equal, Set, Entity, String, Other}
use Rattle.sc_solver.specs.Families.{family}

-- it is an instance of the theory that it belongs to
unfoldable pub has_of : Family → Posed → Instance → Type 0
has_of Definition p i = IsTrue (is_definition p i)
has_of Equal p i = HasEqual p i
has_of Set p i = HasSet p i
has_of Entity p i = HasEntity p i
has_of String p i = HasString p i
has_of Other p i = ⊥

unfoldable pub clause_of : Family → Posed → Instance → Clause
clause_of Definition p i = definition_clause p i
clause_of Equal p i = equal_clause p i
clause_of Set p i = set_clause p i
clause_of Entity p i = entity_clause p i
clause_of String p i = string_clause p i
clause_of Other p i = []

abbrev pub HasRule : Posed → Instance → Type 0
HasRule p i = has_of (family i.rule) p i

abbrev pub rule_clause : Posed → Instance → Clause
rule_clause p i = clause_of (family i.rule) p i

-- the same without the defining clauses
unfoldable pub has_other : Family → Posed → Instance → Type 0
has_other Definition p i = ⊥
has_other Equal p i = HasEqual p i
has_other Set p i = HasSet p i
has_other Entity p i = HasEntity p i
has_other String p i = HasString p i
has_other Other p i = ⊥

abbrev pub HasOtherRule : Posed → Instance → Type 0
HasOtherRule p i = has_other (family i.rule) p i
