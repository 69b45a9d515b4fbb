use Rattle.std.proofs.lemmas.Result.{IfOk-weaker}
use Rattle.th_strings_instances.proofs.NameLaws.{counted_back}
use Rattle.th_strings_instances.proofs.writing.counted.Goals as goal

pub returns : goal.returns
returns c = IfOk-weaker c.instance.result _ _ (λ i h. counted_back c.args.rule.now c.args.signs.now c.args.strings.now _ _ c.in_ok-words.ensures h) c.instance.ensures
