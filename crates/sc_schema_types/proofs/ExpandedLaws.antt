-- What tables of outlines and of types say of a schema.
use Rattle.std.proofs.Common.{◌≡◌, ℕ, List, Option, Some, None, sym, ap, ◌∙◌}
use Rattle.std.proofs.Math.Path.{fun_ext}
use Rattle.sc_schema.specs.declared.expanded.ExpandedSchema.{ExpandedSchema}
use Rattle.sc_schema.specs.declared.resolved_schema.ResolvedSchema.{ResolvedSchema}
use Rattle.sc_schema_syntax.specs.declared.fault.SchemaFault.{SchemaFault}
use Rattle.sc_schema_types.specs.declared.outline.Outline.{Outline}
use Rattle.sc_schema_types.specs.References.{Names, Bodies, body_of}
use Rattle.sc_schema_types.specs.Orders.{IsOrder}
use Rattle.sc_schema_types.specs.Expansions.{kinds_of, Meaning}
use Rattle.sc_schema_types.specs.Faults.{Judge, fault_of, first_fault}
use Rattle.sc_schema_types.specs.Tables.{meaning_by, outlines_by, judged_by}
use Rattle.sc_schema_types.specs.Types.{expanded_schema, IsExpansion, HasTypeFault}
use Rattle.sc_schema_types.proofs.OutlinedLaws.{judged_by_outlines}
use Rattle.sc_schema_types.proofs.UniqueLaws.{order_means}

module _ (s : ResolvedSchema) (order : Names) (ordered : IsOrder s order) (bodies : Bodies) (same : (name : List ℕ) → bodies name ≡ body_of s name) (outlines : List ℕ → Outline) (made : outlines ≡ outlines_by bodies order) where
  same_bodies : bodies ≡ body_of s
  same_bodies = fun_ext same

  judged_so : judged_by outlines ≡ fault_of (kinds_of s) (meaning_by (kinds_of s) (body_of s) order)
  judged_so = ap judged_by (made ∙ ap (λ (b : Bodies). outlines_by b order) same_bodies) ∙ judged_by_outlines (kinds_of s) (body_of s) order

  found_so : (found : Option SchemaFault) → found ≡ first_fault (judged_by outlines) s → first_fault (fault_of (kinds_of s) (meaning_by (kinds_of s) (body_of s) order)) s ≡ found
  found_so found is = ap (λ (j : Judge). first_fault j s) (sym judged_so) ∙ sym is

  pub refused : (fault : SchemaFault) → Some fault ≡ first_fault (judged_by outlines) s → HasTypeFault s fault
  refused fault is = record { order = order; ordered = ordered; m = meaning_by (kinds_of s) (body_of s) order; means = order_means s order ordered; told = found_so (Some fault) is }

  pub written_out : (m : Meaning) (x : ExpandedSchema) → None ≡ first_fault (judged_by outlines) s → m ≡ meaning_by (kinds_of s) bodies order → x ≡ expanded_schema m s → IsExpansion s x
  written_out m x none means is = record {
    order = order;
    ordered = ordered;
    m = meaning_by (kinds_of s) (body_of s) order;
    means = order_means s order ordered;
    no_fault = found_so None none;
    schema = is ∙ ap (λ (n : Meaning). expanded_schema n s) (means ∙ ap (λ (b : Bodies). meaning_by (kinds_of s) b order) same_bodies);
  }
