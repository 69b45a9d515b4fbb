use Rattle.std.proofs.Common.{refl}
use Rattle.std.proofs.lemmas.Result.{IfOk-weaker}
use Rattle.sc_clauses.specs.declared.step.Step.TheVariants.{Learned}
use Rattle.sc_logs.specs.Texts.{learned_words}
use Rattle.sc_logs.specs.Writable.{is_learned}
use Rattle.sc_logs.proofs.LineLaws.{line_reads}
use Rattle.sc_logs.proofs.lines.read_learned.Goals as goal

pub returns : goal.returns
returns c =
    IfOk-weaker c.read_clause.result _ _ (λ found read. line_reads Learned is_learned learned_words _ c.args.line.now c.new-words.result c.begins.new.words _ (λ l. refl) (λ l. refl) c.new-words.ensures c.if-not-begins.ensures read) c.read_clause.ensures
