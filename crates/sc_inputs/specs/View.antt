-- What the refusals of the program stand for.
use Rattle.sc_inputs.specs.Refusals as spec
use Rattle.sc_inputs.specs.declared.refusal.Side.{Side}
use Rattle.sc_inputs.specs.declared.refusal.Side.TheVariants as side
use Rattle.sc_inputs.specs.declared.refusal.FileName.{FileName}
use Rattle.sc_inputs.specs.declared.refusal.FileName.TheVariants as file
use Rattle.sc_inputs.specs.declared.refusal.Refusal.{Refusal}
use Rattle.sc_inputs.specs.declared.refusal.Refusal.TheVariants as refusal

abbrev pub side_view : Side → spec.Side
side_view side.Policies = spec.policies_side
side_view side.Against = spec.against_side

abbrev pub file_view : FileName → spec.File
file_view file.Schema = spec.schema_file
file_view (file.Policies s) = spec.policy_file (side_view s)
file_view file.World = spec.world_file
file_view file.Log = spec.log_file

abbrev pub refusal_view : Refusal → spec.Refusal
refusal_view refusal.Usage = spec.usage
refusal_view (refusal.SchemaText f) = spec.schema_text f
refusal_view (refusal.PolicyText s f) = spec.policy_text (side_view s) f
refusal_view (refusal.WorldText f) = spec.world_text f
refusal_view (refusal.UnknownName s f) = spec.unknown_name (side_view s) f
refusal_view (refusal.IllTyped s f) = spec.ill_typed (side_view s) f
refusal_view (refusal.NoEnvironment place count) = spec.no_environment place count
refusal_view (refusal.ReadFault f) = spec.read_fault (file_view f)
refusal_view (refusal.TooLong f) = spec.too_long (file_view f)
