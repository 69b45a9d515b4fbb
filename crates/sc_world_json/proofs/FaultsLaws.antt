-- What a walk over items or members is.
use Rattle.std.proofs.Common.{refl}
use Rattle.sc_json.proofs.WalkLaws.{IsItemsWalk, IsMembersWalk}
use Rattle.sc_world_json.specs.declared.form.Form.{Form}
use Rattle.sc_world_json.specs.declared.level.Level.{Level}
use Rattle.sc_world_json.specs.Faults.{under, value_fault, items_fault, members_fault, member_fault}

pub items_walk : (form : Form) → IsItemsWalk under (value_fault form) (items_fault form)
unfolding value_fault
items_walk form = record { end = λ n. refl; next = λ n d ds. refl }

pub members_walk : (level : Level) → IsMembersWalk under (member_fault level) (members_fault level)
unfolding value_fault
members_walk level = record { next = λ key d ms. refl }
