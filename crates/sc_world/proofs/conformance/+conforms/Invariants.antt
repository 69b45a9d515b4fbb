use Rattle.std.proofs.Common.{◌≡◌, ◌+◌, ◌*◌, ℕ, List, drop}
use Rattle.std.specs.List.{list_all}
use Rattle.sc_schema.specs.declared.ty.Presence.{Presence}
use Rattle.sc_schema.specs.declared.ty.Ty.{Ty, size-Ty}
use Rattle.sc_values.specs.Records.{field}
use Rattle.sc_world.specs.Conforms.{conforms, passes}
use Rattle.sc_world.proofs.conformance.+conforms.Given as goal

abbrev pub decreases-conforms : goal.decreases-conforms
decreases-conforms l = 5 * size-Ty l.ty.now

abbrev pub decreases-passes : goal.decreases-passes
decreases-passes l = 5 * size-Ty l.ty.now + 1

abbrev pub decreases-each_conforms : goal.decreases-each_conforms
decreases-each_conforms l = 5 * size-Ty l.ty.now + 1

abbrev pub decreases-is_set_of : goal.decreases-is_set_of
decreases-is_set_of l = 5 * size-Ty l.member.now + 2

abbrev pub decreases-attributes_pass : goal.decreases-attributes_pass
decreases-attributes_pass l = 5 * goal.size-attributes_pass l + 2

abbrev pub decreases-fits : goal.decreases-fits
decreases-fits l = 5 * goal.size-fits l + 3

abbrev pub decreases-is_record_of : goal.decreases-is_record_of
decreases-is_record_of l = 5 * goal.size-is_record_of l + 4

abbrev pub invariant-each_conforms-loop-member : goal.invariant-each_conforms-loop-member
invariant-each_conforms-loop-member l = list_all (conforms l.ty) (drop l.member-index l.members) ≡ list_all (conforms l.ty) l.members

abbrev pub invariant-attributes_pass-loop-attribute : goal.invariant-attributes_pass-loop-attribute
invariant-attributes_pass-loop-attribute l =
    list_all (λ (a : List ℕ × Presence × Ty). passes a.1 (conforms a.2) (field a.0 l.fields)) (drop l.attribute-index l.attributes)
    ≡ list_all (λ (a : List ℕ × Presence × Ty). passes a.1 (conforms a.2) (field a.0 l.fields)) l.attributes
