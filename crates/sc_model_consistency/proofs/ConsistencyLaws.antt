-- What falsifies no instance falsifies nothing.
use Rattle.sc_footprint.specs.Theories.{TermsHold}
use Rattle.sc_model_consistency.specs.Laws.{InstancesSuffice}
use Rattle.sc_model_consistency.proofs.RulesFree.{equal_free, sets_free, entities_free}
use Rattle.sc_model_consistency.proofs.StringsHold.{strings_hold}

pub instances_suffice : TermsHold → InstancesSuffice
instances_suffice laws p m posed places none = record {
  total = none.total;
  defined = none.defined;
  equal = equal_free p posed places m none.equal;
  sets = sets_free p posed places m none.sets;
  entities = entities_free p posed places m none.entities;
  strings = strings_hold laws p posed m none.total none.defined none.strings;
}
