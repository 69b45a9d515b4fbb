use Rattle.std.proofs.Common.{◌≡◌, Some, None, rules}
use Rattle.serde_json.specs.Read.{read}
use Rattle.sc_json.specs.Trees.{no_tree}
use Rattle.sc_schema_syntax.proofs.reading.tree_of.Goals as goal

pub returns-else-is_memory-clause-err : goal.returns-else-is_memory-clause-err
returns-else-is_memory-clause-err c = no_tree (λ d h.
    let text = h.text in
    let none : read c.args.bytes.now ≡ None = search rules in
    let some : read c.args.bytes.now ≡ Some d = h.tree in
    cc)
