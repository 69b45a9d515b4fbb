-- For private clauses: a sound request as it is tested.
use Rattle.std.specs.Prelude.{Contains}
use Rattle.sc_schema.specs.declared.declarations.Env.{Env}
use Rattle.sc_schema.specs.Declarations.{Declarations, environments}
use Rattle.sc_world.specs.declared.world.Request.{Request}
use Rattle.sc_world.specs.Tests.{Holds}
use Rattle.sc_world.specs.WellFormed.{IsProperRequest, IsRequestOf}

-- the request is one of the environment
abbrev pub IsOneOf : Declarations → Request → Env → Type 0
IsOneOf s r env = IsRequestOf s env r

-- a sound request, by what is tested of it
pub record HasSoundParts (s : Declarations) (r : Request) : Type 0 where
  pub proper : IsProperRequest r
  pub listed : (env : Env) × Contains (environments s) env × Holds (IsOneOf s r) env
