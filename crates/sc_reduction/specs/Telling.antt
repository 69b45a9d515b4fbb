-- How policies of an effect stand in a world.
use Rattle.std.specs.Prelude.{Bool}
use Rattle.sc_ast.specs.declared.policy.Effect.{Effect}
use Rattle.sc_ast.specs.declared.policy.Effect.TheVariants.{Permit, Forbid}
use Rattle.sc_ast.specs.declared.policy.Policy.{Policy}
use Rattle.sc_auth.specs.Decisions.{is_forbidding, is_permitting}
use Rattle.sc_world.specs.declared.world.World.{World}

-- a policy of this effect that is satisfied
abbrev pub satisfied_with : Effect → World → Policy → Bool
satisfied_with Permit w p = is_permitting w p
satisfied_with Forbid w p = is_forbidding w p
