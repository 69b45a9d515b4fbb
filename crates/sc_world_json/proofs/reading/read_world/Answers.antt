use Rattle.std.proofs.lemmas.Result.{IfOk-weaker, IfErr-weaker}
use Rattle.sc_world_json.proofs.reading.read_world.Goals as goal

pub returns-in-Ok-clause-ok : goal.returns-in-Ok-clause-ok
returns-in-Ok-clause-ok c = IfOk-weaker c.world_in.result _ _ (λ world says. says _ c.in-Ok.ensures.ok) c.world_in.ensures.ok

pub returns-in-Ok-clause-err : goal.returns-in-Ok-clause-err
returns-in-Ok-clause-err c = IfErr-weaker c.world_in.result _ _ (λ fault refuses. refuses _ c.in-Ok.ensures.ok) c.world_in.ensures.err
