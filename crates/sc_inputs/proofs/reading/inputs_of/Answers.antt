use Rattle.std.proofs.Common.{◌≡◌, subst}
use Rattle.sc_command.specs.CommandLine.{Commands, words_view}
use Rattle.sc_inputs.specs.Serving.{served_view, work_view}
use Rattle.sc_inputs.specs.declared.serving.Work.{Work}
use Rattle.sc_inputs.specs.declared.serving.Work.TheVariants.{OnFiles}
use Rattle.sc_inputs.specs.Refusals.{no_command}
use Rattle.sc_inputs.proofs.ReadingLaws.{words_fail, words_read}
use Rattle.sc_inputs.proofs.reading.inputs_of.Goals as goal

pub returns-in-Ok-Some-OnFiles-clause-reads : goal.returns-in-Ok-Some-OnFiles-clause-reads
returns-in-Ok-Some-OnFiles-clause-reads g c =
    let here : c.in-Ok-Some-OnFiles.field-0-0 ≡ OnFiles c.in-Ok-Some-OnFiles.command = cc (c.in-Ok-Some-OnFiles.field-0-0-is, c.in-Ok-Some-OnFiles.command-is) in
    words_read _ _ (served_view c.in-Ok-Some-OnFiles.command)
    (subst (λ (w : Work). Commands (words_view c.args.words.now) (work_view w)) here (rw c.in-Ok-Some-OnFiles.field-0-is at c.in-Ok-Some-OnFiles.ensures.found)) c.with_command.result c.with_command.ensures.reads

pub returns-in-Ok-Some-OnFiles-clause-fails : goal.returns-in-Ok-Some-OnFiles-clause-fails
returns-in-Ok-Some-OnFiles-clause-fails g c =
    let here : c.in-Ok-Some-OnFiles.field-0-0 ≡ OnFiles c.in-Ok-Some-OnFiles.command = cc (c.in-Ok-Some-OnFiles.field-0-0-is, c.in-Ok-Some-OnFiles.command-is) in
    words_fail _ _ (served_view c.in-Ok-Some-OnFiles.command) _
    (subst (λ (w : Work). Commands (words_view c.args.words.now) (work_view w)) here (rw c.in-Ok-Some-OnFiles.field-0-is at c.in-Ok-Some-OnFiles.ensures.found)) c.with_command.result c.with_command.ensures.fails

pub returns-in-Ok-None-clause-fails : goal.returns-in-Ok-None-clause-fails
returns-in-Ok-None-clause-fails g c = no_command (rw c.in-Ok-None.field-0-is at c.in-Ok-None.ensures.none)
