-- An assignment that falsifies no clause of a problem and of its instances falsifies nothing.
use Rattle.std.specs.Prelude.{◌≡◌, ◌≤◌, ◌<◌, ◌^◌, ℕ, false, length, IsSome}
use Rattle.std.specs.List.{Contains}
use Rattle.sc_clauses.specs.Assignments.{Assignment, value_of, falsifies}
use Rattle.sc_clauses.specs.Clauses.{Clause}
use Rattle.sc_clauses.specs.declared.step.Instance.{Instance}
use Rattle.sc_footprint.specs.Closure.{follow}
use Rattle.sc_footprint.specs.Definitions.{defining}
use Rattle.sc_footprint.specs.Problems.{Posed, IsPosed, atoms, closed_terms}
use Rattle.sc_rule_instances.specs.Instances.{HasEqual, HasSet, HasEntity, equal_clause, set_clause, entity_clause}
use Rattle.sc_model_values.specs.Laws.{FalsifiesNothing}
use Rattle.th_strings_instances.specs.Instances.{HasString, string_clause}
use Rattle.sc_terms.specs.Trees.{Tree}

-- a log can hold the places of the terms that go with a closed one
abbrev pub HasSmallPlaces : Posed → Type 0
HasSmallPlaces p = (t : Tree) → Contains (closed_terms p) t → length (follow p.schema t) < 10 ^ 18

-- each listed atom has a value, and neither a defining clause nor the clause of an instance is falsified
pub record FalsifiesNoInstance (p : Posed) (m : Assignment) : Type 0 where
  pub total : (n : ℕ) → 1 ≤ n → n ≤ length (atoms p) → IsSome (value_of m n)
  pub defined : (c : Clause) → Contains (defining p) c → falsifies m c ≡ false
  pub equal : (i : Instance) → HasEqual p i → falsifies m (equal_clause p i) ≡ false
  pub sets : (i : Instance) → HasSet p i → falsifies m (set_clause p i) ≡ false
  pub entities : (i : Instance) → HasEntity p i → falsifies m (entity_clause p i) ≡ false
  pub strings : (i : Instance) → HasString p i → falsifies m (string_clause p i) ≡ false

-- Then each rule holds, whether its numbers can be written or not, and the rules of strings hold at any patterns.
abbrev pub InstancesSuffice : Type 0
InstancesSuffice = (p : Posed) (m : Assignment) → IsPosed p → HasSmallPlaces p → FalsifiesNoInstance p m
    → FalsifiesNothing p m
