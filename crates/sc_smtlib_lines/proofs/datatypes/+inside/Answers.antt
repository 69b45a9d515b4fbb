use Rattle.std.proofs.Common.{◌+◌, ℕ, List, ap, drop, flat_map, rules, sym}
use Rattle.sc_sorts.specs.declared.sort.Sort.{Sort}
use Rattle.sc_smtlib_lines.specs.Subterms.{datatypes_in}
use Rattle.sc_smtlib_lines.proofs.DatatypeLaws.{drop_step}
use Rattle.sc_smtlib_lines.proofs.GainingLaws.{leads_on}
use Rattle.sc_smtlib_lines.proofs.datatypes.+inside.Goals as goal

pub put_fields-loop-field-preserved : goal.put_fields-loop-field-preserved
put_fields-loop-field-preserved t c = record {
  layered = c.in_ok-put_inside.ensures.layered;
  leads = leads_on _ _ _ _ (datatypes_in c.field-item.result.1) _ _
      (ap (flat_map (λ (f : List ℕ × Sort). datatypes_in f.1)) (drop_step c.args.fields.now c.loop-field.field-index c.field-item.result (search rules) (search rules)))
      c.loop-field.invariant.leads c.in_ok-put_inside.ensures.gains;
}
