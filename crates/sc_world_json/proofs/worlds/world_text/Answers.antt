use Rattle.std.proofs.Common.{◌∙◌, ap}
use Rattle.std.proofs.lemmas.Result.{IfOk-weaker}
use Rattle.serde_json.specs.Written.{has_float, compact_text}
use Rattle.sc_world_json.specs.Text.{world_data, world_text}
use Rattle.sc_world_json.proofs.WholeLaws.{no_float}
use Rattle.sc_world_json.proofs.WholeWorlds.{whole-world}
use Rattle.sc_world_json.proofs.worlds.world_text.Goals as goal

pub returns : goal.returns
unfolding world_text
returns c =
    let json = c.in_ok-world_value.ensures in
    let plain = no_float (world_data c.args.world.now) (whole-world c.args.world.now c.requires) in
    IfOk-weaker c.to_string.result _ _ (λ s h. h (ap has_float json ∙ plain) ∙ ap compact_text json) c.to_string.ensures.text
