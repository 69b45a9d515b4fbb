-- An assignment that a search finds gives closed terms truths that are consistent.
use Rattle.std.proofs.Common.{ap, ◌∙◌}
use Rattle.sc_clauses.specs.Assignments.{Assignment, falsifies}
use Rattle.sc_footprint.specs.Problems.{Posed, IsPosed, goal_term}
use Rattle.sc_model_consistency.specs.Laws.{HasSmallPlaces, FalsifiesNoInstance, InstancesSuffice}
use Rattle.sc_model_consistency.specs.ModelLaws.{TruthsAreConsistent}
use Rattle.sc_model_consistency.specs.Models.{truth_in}
use Rattle.sc_model_laws.specs.Consistent as assigned
use Rattle.sc_solver.specs.FamilyLaws.{equal_family, set_family, entity_family, string_family}
use Rattle.sc_solver.specs.OtherLaws.{of_equal, of_set, of_entity, of_string}
use Rattle.sc_solver.specs.Rebuilding.{IsConsistent}

no_instance : (p : Posed) (m : Assignment) → IsConsistent p m → FalsifiesNoInstance p m
no_instance p m is = record {
  total = is.total;
  defined = is.defined;
  equal = λ i h. (let of = of_equal p i (equal_family p i h) in ap (falsifies m) of.1 ∙ is.ruled i (of.0.0 h));
  sets = λ i h. (let of = of_set p i (set_family p i h) in ap (falsifies m) of.1 ∙ is.ruled i (of.0.0 h));
  entities = λ i h. (let of = of_entity p i (entity_family p i h) in ap (falsifies m) of.1 ∙ is.ruled i (of.0.0 h));
  strings = λ i h. (let of = of_string p i (string_family p i h) in ap (falsifies m) of.1 ∙ is.ruled i (of.0.0 h));
}

pub truths_consistent : InstancesSuffice → TruthsAreConsistent → (p : Posed) (m : Assignment) → IsPosed p → HasSmallPlaces p
    → IsConsistent p m → assigned.IsConsistent p.schema p.env (goal_term p) (truth_in p m)
truths_consistent suffice consistent p m posed small is = consistent p m posed (suffice p m posed small (no_instance p m is))
