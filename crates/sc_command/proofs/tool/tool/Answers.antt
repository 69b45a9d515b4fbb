use Rattle.std.proofs.Common.{◌≡◌, ◌∙◌, ap, ap₂}
use Rattle.std.proofs.lemmas.Result.{IfOk-weaker}
use Rattle.clap.specs.Words.{App, app_of, with_subcommand}
use Rattle.clap.proofs.SimpleLemmas.{plain_fields}
use Rattle.sc_command.specs.CommandLine.{logging_line, reduce_line, tool}
use Rattle.sc_command.proofs.tool.tool.Goals as goal

pub returns : goal.returns
unfolding tool
returns c =
    let reduce = c.in_ok-reduce_line in
    let generate = c.in_ok-generate_line in
    let first : app_of c.in_ok-line.line ≡ with_subcommand logging_line reduce_line.top =
    c.in_ok-line.ensures.shape (plain_fields reduce.field-0 (ap (λ (a : App). a.top.is_plain) reduce.ensures)).globals
    ∙ ap₂ with_subcommand c.in_ok-logging_line.ensures (ap (λ (a : App). a.top) reduce.ensures) in
    IfOk-weaker c.subcommand-2.result _ _
    (λ line h. h.shape (plain_fields generate.field-0 (ap (λ (a : App). a.top.is_plain) generate.ensures)).globals
    ∙ ap₂ with_subcommand first (ap (λ (a : App). a.top) generate.ensures)) c.subcommand-2.ensures
