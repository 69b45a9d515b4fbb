use Rattle.std.proofs.Common.{subst}
use Rattle.std.specs.List.{AllByRecursion}
use Rattle.sc_world.specs.WellFormed.{IsProperEntry}
use Rattle.sc_world_json.proofs.worlds.entity_values.Goals as goal

pub entity_value-requires : goal.entity_value-requires
entity_value-requires c =
    let here = subst (AllByRecursion IsProperEntry) c.in-Some.ensures.steps c.loop-uid.invariant.2 in
    record { attrs = here.0.attrs; tags = here.0.tags }
