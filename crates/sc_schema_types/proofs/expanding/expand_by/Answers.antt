use Rattle.std.proofs.Common.{sym, ap, ◌∙◌}
use Rattle.sc_schema_types.specs.Expansions.{Kinds}
use Rattle.sc_schema_types.specs.Tables.{body_in, outline_in, type_in, meaning_by}
use Rattle.sc_schema_types.specs.Types.{expanded_by}
use Rattle.sc_schema_types.proofs.ExpandedLaws.{refused, written_out}
use Rattle.sc_schema_types.proofs.expanding.expand_by.Goals as goal

pub returns-in-Some : goal.returns-in-Some
returns-in-Some c = record {
  ok = tt;
  err = refused c.args.schema.now c.args.order.now c.requires.order (body_in c.args.bodies.now.entries) c.requires.bodies (outline_in c.args.outlines.now.entries) c.requires.outlines
      c.in-Some.fault (sym c.in-Some.is ∙ c.in_ok-fault.ensures);
}

pub returns-in_ok-expanded_by-in-None-clause-ok : goal.returns-in_ok-expanded_by-in-None-clause-ok
returns-in_ok-expanded_by-in-None-clause-ok c =
    written_out c.args.schema.now c.args.order.now c.requires.order (body_in c.args.bodies.now.entries) c.requires.bodies (outline_in c.args.outlines.now.entries) c.requires.outlines
    (type_in c.in_ok-table-in-None.table.entries) c.in_ok-expanded_by-in-None.field-0 (sym c.in-None.is ∙ c.in_ok-fault.ensures)
    (c.in_ok-table-in-None.ensures ∙ ap (λ (k : Kinds). meaning_by k (body_in c.args.bodies.now.entries) c.args.order.now) c.requires.kinds)
    (c.in_ok-expanded_by-in-None.ensures ∙ ap (λ (k : Kinds). expanded_by k (type_in c.in_ok-table-in-None.table.entries) c.args.schema.now) c.requires.kinds)
