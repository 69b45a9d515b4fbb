use Rattle.std.proofs.lemmas.Result.{IfOk-weaker, IfErr-weaker}
use Rattle.sc_schema_syntax.proofs.reading.read_syntax.Goals as goal

pub returns-in-Ok-clause-ok : goal.returns-in-Ok-clause-ok
returns-in-Ok-clause-ok c = IfOk-weaker c.schema_in.result _ _ (λ schema says. says _ c.in-Ok.ensures.ok) c.schema_in.ensures.ok

pub returns-in-Ok-clause-err : goal.returns-in-Ok-clause-err
returns-in-Ok-clause-err c = IfErr-weaker c.schema_in.result _ _ (λ fault refuses. refuses _ c.in-Ok.ensures.ok) c.schema_in.ensures.err
