use Rattle.std.proofs.Common.{refl}
use Rattle.sc_schema_types.proofs.SearchesLaws.{skips_more}
use Rattle.sc_schema_types.proofs.search.skip_placed.Goals as goal

pub loop-name-preserved : goal.loop-name-preserved
loop-name-preserved c =
    skips_more c.args.marks.now.entries c.args.names.now c.args.from c.loop-name.at c.in-Some.name.now c.loop-name.invariant
    c.in-Some.ensures.lookup.3.1 (c.if-not-is_marked.ensures.0 refl)
