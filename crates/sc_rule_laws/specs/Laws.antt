-- Where rules are true.
use Rattle.std.specs.Prelude.{List}
use Rattle.sc_names.specs.declared.uid.Uid.{Uid}
use Rattle.sc_schema.specs.declared.declarations.Env.{Env}
use Rattle.sc_schema.specs.Declarations.{Declarations}
use Rattle.sc_schema.specs.Lawful.{IsLawful}
use Rattle.sc_world.specs.declared.world.World.{World}
use Rattle.sc_world.specs.WellFormed.{IsWellFormed}
use Rattle.sc_terms.specs.Trees.{Tree}
use Rattle.sc_term_laws.specs.Judging.{IsTerm}

-- in each well-formed world of a lawful schema, of the terms that there are over the schema
abbrev pub InWorlds : (Declarations → (Tree → Type 0) → World → Type 0) → Type 0
InWorlds P = (d : Declarations) (env : Env) (written : List Uid) (w : World)
    → IsLawful d → IsWellFormed d env written w → P d (IsTerm d env written) w
