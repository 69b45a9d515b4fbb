use Rattle.std.proofs.Common.{refl}
use Rattle.std.proofs.lemmas.Result.{IfOk-weaker}
use Rattle.sc_clauses.specs.declared.step.Step.TheVariants.{Instance}
use Rattle.sc_logs.specs.Texts.{instance_words}
use Rattle.sc_footprint.specs.Written.{is_instance}
use Rattle.sc_logs.proofs.LineLaws.{line_reads}
use Rattle.sc_logs.proofs.lines.read_instance.Goals as goal

pub returns : goal.returns
returns c =
    IfOk-weaker c.instance_of.result _ _ (λ o read. line_reads Instance is_instance instance_words _ c.args.line.now c.new-words.result c.begins.new.words o (λ i. refl) (λ i. refl) c.new-words.ensures c.if-not-begins.ensures read) c.instance_of.ensures
