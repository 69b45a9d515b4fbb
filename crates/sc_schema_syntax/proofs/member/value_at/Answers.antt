use Rattle.serde_json.specs.View.{view}
use Rattle.sc_schema_syntax.proofs.DepthLaws.{inside_some}
use Rattle.sc_schema_syntax.proofs.member.value_at.Goals as goal

pub returns-clause-inside : goal.returns-clause-inside
returns-clause-inside c = inside_some c.args.name.now (view c.args.value.now) c.get.result c.get.ensures
