use Rattle.std.proofs.Common.{◌≡◌, ◌∙◌, ap, ap₂}
use Rattle.std.proofs.lemmas.Result.{IfOk-weaker}
use Rattle.clap.specs.Words.{App, app_of, with_subcommand}
use Rattle.clap.proofs.SimpleLemmas.{plain_fields}
use Rattle.sc_command.specs.CommandLine.{analyse_line, bare_tool, served_line}
use Rattle.sc_command.proofs.tool.served_line.Goals as goal

pub returns : goal.returns
unfolding served_line
returns c =
    let analyse = c.in_ok-analyse_line in
    let replay = c.in_ok-replay_line in
    let first : app_of c.in_ok-line.line ≡ with_subcommand bare_tool analyse_line.top =
    c.in_ok-line.ensures.shape (plain_fields analyse.field-0 (ap (λ (a : App). a.top.is_plain) analyse.ensures)).globals
    ∙ ap₂ with_subcommand c.bare_tool.ensures (ap (λ (a : App). a.top) analyse.ensures) in
    IfOk-weaker c.subcommand-2.result _ _
    (λ line h. h.shape (plain_fields replay.field-0 (ap (λ (a : App). a.top.is_plain) replay.ensures)).globals
    ∙ ap₂ with_subcommand first (ap (λ (a : App). a.top) replay.ensures)) c.subcommand-2.ensures
