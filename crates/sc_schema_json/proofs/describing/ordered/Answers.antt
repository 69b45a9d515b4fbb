use Rattle.std.proofs.Common.{rules}
use Rattle.sc_names.specs.Uids.{uid_cmp}
use Rattle.sc_schema_json.specs.Above.{IsLeastCycle}
use Rattle.sc_schema_json.specs.Spelling.{links_of, of_actions}
use Rattle.sc_schema_json.proofs.DescribingLaws.{ordered_by}
use Rattle.sc_schema_json.proofs.describing.ordered.Goals as goal

pub returns-in-Some-clause-err : goal.returns-in-Some-clause-err
returns-in-Some-clause-err c =
    let least : IsLeastCycle uid_cmp (links_of c.args.resolved.now) c.in-Some.uid = search rules in
    of_actions c.in-Some.uid (ordered_by c.args.resolved.now c.args.order.now c.requires.ordered) least
