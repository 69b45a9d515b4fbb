use Rattle.std.proofs.Common.{◌∙◌, sym, true, false}
use Rattle.sc_world.proofs.ConformsLaws.{has_shape_tested}
use Rattle.sc_world.proofs.conformance.+conforms.Goals as goal

pub fits-returns-then-each_passes : goal.fits-returns-then-each_passes
fits-returns-then-each_passes t c =
    has_shape_tested c.args.attributes.now c.args.fields.now true _ (sym c.if-each_passes.true ∙ c.attributes_pass-each_passes.ensures) c.are_declared-declared.ensures

pub fits-returns-else-each_passes : goal.fits-returns-else-each_passes
fits-returns-else-each_passes t c =
    c.if-each_passes.false
    ∙ has_shape_tested c.args.attributes.now c.args.fields.now false _ (sym c.if-each_passes.false ∙ c.attributes_pass-each_passes.ensures) c.are_declared-declared.ensures
