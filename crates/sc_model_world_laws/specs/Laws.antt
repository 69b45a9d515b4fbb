-- The world of a consistent assignment is well-formed, and each closed truth value has its truth there.
use Rattle.std.specs.Prelude.{List}
use Rattle.sc_names.specs.declared.uid.Uid.{Uid}
use Rattle.sc_schema.specs.declared.declarations.Env.{Env}
use Rattle.sc_schema.specs.Declarations.{Declarations}
use Rattle.sc_schema.specs.Lawful.{IsLawful}
use Rattle.sc_world.specs.declared.world.World.{World}
use Rattle.sc_world.specs.Named.{IsRequestAmong}
use Rattle.sc_world.specs.Sound.{AreSound}
use Rattle.sc_terms.specs.Trees.{Tree}
use Rattle.std.specs.Str.{IsUtf8}
use Rattle.sc_closure_rules.specs.Closure.{Closed}
use Rattle.sc_closure_rules.specs.Goals.{IsGoal}
use Rattle.sc_model_laws.specs.Vals.{Model}
use Rattle.sc_model_laws.specs.Models.{IsModel}
use Rattle.sc_model_laws.specs.Rows.{HoldsModel}
use Rattle.sc_model_world_laws.specs.Rebuilt.{given_of, request_of, IsRebuilt}

-- names are texts
pub record AreTexts (d : Declarations) (env : Env) (goal : Tree) (m : Model) : Type 0 where
  pub texts : (x : Tree) → Closed d env goal x → IsUtf8 (m.text x)
  pub ids : (x : Tree) → Closed d env goal x → IsUtf8 (m.uid x).id

-- what a well-formed world is built of: a request of the environment, and given entities as their types have them
abbrev pub CanBeRebuilt : Type 0
CanBeRebuilt = (d : Declarations) (env : Env) (literals : List Uid) (goal : Tree) (m : Model)
    → IsLawful d → IsGoal d env literals goal → IsModel d env goal m → AreTexts d env goal m
    → IsRequestAmong d env (request_of d env m) literals × AreSound d (given_of d m)

-- variables and what is stored have the values of the model, so all closed terms have that are covered
abbrev pub RebuiltHoldsModel : Type 0
RebuiltHoldsModel = (d : Declarations) (env : Env) (literals : List Uid) (goal : Tree) (m : Model) (w : World)
    → IsLawful d → IsGoal d env literals goal → IsModel d env goal m → IsRebuilt d env literals m w
    → HoldsModel d env goal m w
