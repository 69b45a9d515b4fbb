-- What keeps a world from being well-formed: its request, or else the least stored entity that isn't as it has to be,
-- or else the least entity that isn't stored and has to be.
use Rattle.std.specs.Prelude.{List, Option, Some, None, Contains}
use Rattle.std.specs.List.{AllByRecursion}
use Rattle.sc_names.specs.declared.uid.Uid.{Uid}
use Rattle.sc_schema.specs.declared.declarations.Env.{Env}
use Rattle.sc_schema.specs.Declarations.{Declarations, environments}
use Rattle.sc_world.specs.declared.world.Request.{Request}
use Rattle.sc_world.specs.declared.world.World.{World}
use Rattle.sc_world.specs.Least.{IsBroken, wanted, IsMissing, IsLeast}
use Rattle.sc_world.specs.Sound.{AreSound}
use Rattle.sc_world.specs.WellFormed.{IsProperRequest, IsRequestOf, IsStored}
use Rattle.sc_replay.specs.declared.breaks.Break.{Break}
use Rattle.sc_replay.specs.declared.breaks.Break.TheVariants as break

-- a request is made of values, and is one of an environment of the schema
pub record IsSoundRequest (s : Declarations) (r : Request) : Type 0 where
  pub proper : IsProperRequest r
  pub env : Env
  pub listed : Contains (environments s) env
  pub fits : IsRequestOf s env r

-- what keeps the world from being well-formed, or that nothing does
pub data IsFirstBreak (s : Declarations) (literals : List Uid) (w : World) : Option Break → Type 0 where
  in_request : ¬ IsSoundRequest s w.request → IsFirstBreak s literals w (Some break.Request)
  in_entity : (u : Uid) → IsSoundRequest s w.request → IsLeast (IsBroken s w.store) u
      → IsFirstBreak s literals w (Some (break.Entity u))
  missing : (u : Uid) → IsSoundRequest s w.request → AreSound s w.store → IsLeast (IsMissing s literals w) u
      → IsFirstBreak s literals w (Some (break.Missing u))
  nowhere : IsSoundRequest s w.request → AreSound s w.store → AllByRecursion (IsStored w.store) (wanted s literals w)
      → IsFirstBreak s literals w None
