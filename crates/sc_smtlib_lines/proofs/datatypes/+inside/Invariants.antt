use Rattle.std.proofs.Common.{◌+◌, ◌*◌, ℕ, List, drop, flat_map}
use denote.Param.Weighed.{most}
use Rattle.sc_sorts.specs.declared.sort.Sort.{Sort, size-Sort}
use Rattle.sc_smtlib_lines.specs.Gaining.{AreLayered, Leads, sorts_in}
use Rattle.sc_smtlib_lines.specs.Subterms.{datatypes_in}
use Rattle.sc_smtlib_lines.proofs.datatypes.+inside.Given as goal

abbrev pub decreases-put_inside : goal.decreases-put_inside
decreases-put_inside l = 3 * size-Sort l.sort.now

abbrev pub decreases-put_fields : goal.decreases-put_fields
decreases-put_fields l = 3 * most (λ (f : List ℕ × Sort). size-Sort f.1) l.fields.now + 2

abbrev pub invariant-put_fields-loop-field : goal.invariant-put_fields-loop-field
invariant-put_fields-loop-field l = record {
  layered : AreLayered l.set;
  leads : Leads (sorts_in l.fn.set) (sorts_in l.set) (flat_map (λ (f : List ℕ × Sort). datatypes_in f.1) (drop l.field-index l.fields))
      (flat_map (λ (f : List ℕ × Sort). datatypes_in f.1) l.fields);
}
