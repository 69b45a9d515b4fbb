-- None of the instances is falsified where none of each rule is.
use Rattle.std.proofs.Common.{ℕ, Bool, true, false}
use Rattle.sc_clauses.specs.Assignments.{Assignment}
use Rattle.sc_footprint.specs.Problems.{Posed}
use Rattle.sc_rule_instances.specs.declared.rule.EntityRule.TheVariants.{En1, En2, En3, En4, En5, En6, En7, En8, Eq9}
use Rattle.sc_rule_instances.specs.Instances.{entity_said}
use Rattle.sc_rule_instances.specs.Known.{NoneFalsified}
use Rattle.th_entities.specs.Alike.{IsAlikeFree}
use Rattle.th_entities.specs.Free.{IsFree, IsChosenFree}

pub none_falsified : (p : Posed) (m : Assignment) → ((tags : Bool) (x y : ℕ) → IsAlikeFree p m tags x y) → ((s z x : ℕ) → IsFree p m (En2 x s z)) → ((e : ℕ) → IsFree p m (En4 e)) → ((u f e x : ℕ) → IsFree p m (En5 e f x u))
    → ((a : ℕ) → IsFree p m (En6 a)) → ((s x : ℕ) → IsFree p m (En7 s x)) → ((x : ℕ) → IsChosenFree p m x) → NoneFalsified entity_said p m
none_falsified p m alike h2 h4 h5 h6 h7 h8 (En1 x y i) = alike false x y i
none_falsified p m alike h2 h4 h5 h6 h7 h8 (En2 x s z) = h2 s z x
none_falsified p m alike h2 h4 h5 h6 h7 h8 (En3 x y i) = alike true x y i
none_falsified p m alike h2 h4 h5 h6 h7 h8 (En4 e) = h4 e
none_falsified p m alike h2 h4 h5 h6 h7 h8 (En5 e f x u) = h5 u f e x
none_falsified p m alike h2 h4 h5 h6 h7 h8 (En6 a) = h6 a
none_falsified p m alike h2 h4 h5 h6 h7 h8 (En7 s x) = h7 s x
none_falsified p m alike h2 h4 h5 h6 h7 h8 (En8 x) = (h8 x).0
none_falsified p m alike h2 h4 h5 h6 h7 h8 (Eq9 x) = (h8 x).1
