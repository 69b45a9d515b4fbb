use Rattle.std.proofs.Common.{◌∙◌, sym, ap, true}
use Rattle.sc_schema_types.specs.Tables.{nothing, around, outlined, outline_in}
use Rattle.sc_schema_types.proofs.OutlineLaws.{outlined_all, outlined_Record}
use Rattle.sc_schema_types.proofs.outline.+outline.Goals as goal

pub outline_of-returns-in-Record : goal.outline_of-returns-in-Record
outline_of-returns-in-Record t c =
    let table = outline_in c.args.table.now.entries in
    c.around-in-Record.ensures
    ∙ ap (around true) (c.outline_of_all.ensures ∙ ap (outlined_all table nothing) c.as_slice.ensures)
    ∙ sym (outlined_Record table c.in-Record.attributes)
    ∙ ap (outlined table) (sym c.in-Record.is)
