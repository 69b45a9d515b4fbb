use Rattle.std.proofs.Common.{◌≡◌, ◌∙◌, true, refl, sym, ap, ⊎_elim, subst}
use Rattle.clap.specs.Words.{App, IsAmong, fault_of, is_simple, is_simple_and_free, kind_of, subcommand_of}
use Rattle.clap.proofs.OnLiterals.{clap_on_literals}
use Rattle.sc_command.specs.CommandLine.{logging_line, served_line, tool, words_view}
use Rattle.sc_command.proofs.reading.matches_of.Goals as goal

is_plain_line : is_simple tool ≡ true
unfolding tool logging_line served_line clap_on_literals
is_plain_line = refl

is_free_line : is_simple_and_free tool ≡ true
unfolding tool logging_line served_line clap_on_literals
is_free_line = refl

pub returns-in-Ok-clause-accepted : goal.returns-in-Ok-clause-accepted
returns-in-Ok-clause-accepted c =
    let words = words_view c.args.words.now in
    ap (λ (line : App). fault_of line words) (sym c.in_ok-tool.ensures)
    ∙ c.in-Ok.ensures.kinds (ap is_simple_and_free c.in_ok-tool.ensures ∙ is_free_line)

pub returns-in-Ok-clause-entered : goal.returns-in-Ok-clause-entered
returns-in-Ok-clause-entered c =
    let words = words_view c.args.words.now in
    (c.in-Ok.ensures.matches (ap is_simple c.in_ok-tool.ensures ∙ is_plain_line)).1
    ∙ ap (λ (line : App). subcommand_of line words) c.in_ok-tool.ensures

pub returns-clause-refused : goal.returns-clause-refused
returns-clause-refused c = λ none.
    let words = words_view c.args.words.now in
    let same = ap (λ (line : App). fault_of line words) c.in_ok-tool.ensures ∙ none in
    ⊎_elim (λ e. c.in_default.not-OutOfMemory (c.kind.ensures ∙ e))
    (λ among. subst (IsAmong (kind_of c.in-Err.error)) same among)
    (c.in-Err.ensures.kinds (ap is_simple_and_free c.in_ok-tool.ensures ∙ is_free_line))
