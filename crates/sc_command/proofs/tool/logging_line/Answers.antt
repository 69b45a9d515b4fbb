use Rattle.std.proofs.Common.{◌≡◌, ◌∙◌, ap, ap₂}
use Rattle.std.proofs.lemmas.Result.{IfOk-weaker}
use Rattle.clap.specs.Words.{App, app_of, with_subcommand}
use Rattle.clap.proofs.SimpleLemmas.{plain_fields}
use Rattle.sc_command.specs.CommandLine.{log_line, logging_line, served_line}
use Rattle.sc_command.proofs.tool.logging_line.Goals as goal

pub returns : goal.returns
unfolding logging_line
returns c =
    let log = c.in_ok-log_line in
    let check = c.in_ok-check_line in
    let first : app_of c.in_ok-line.line ≡ with_subcommand served_line log_line.top =
    c.in_ok-line.ensures.shape (plain_fields log.field-0 (ap (λ (a : App). a.top.is_plain) log.ensures)).globals
    ∙ ap₂ with_subcommand c.in_ok-served_line.ensures (ap (λ (a : App). a.top) log.ensures) in
    IfOk-weaker c.subcommand-2.result _ _
    (λ line h. h.shape (plain_fields check.field-0 (ap (λ (a : App). a.top.is_plain) check.ensures)).globals
    ∙ ap₂ with_subcommand first (ap (λ (a : App). a.top) check.ensures)) c.subcommand-2.ensures
