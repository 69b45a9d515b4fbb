use Rattle.std.proofs.Common.{◌∙◌, sym}
use Rattle.clap.specs.Words.{found_of, rows_of, subcommand_rows_of}
use Rattle.sc_command.proofs.CommandLaws.{no_generate, no_reduce}
use Rattle.sc_command.proofs.reading.command_in.Goals as goal

pub returns-in_err-reduce_of-clause-none : goal.returns-in_err-reduce_of-clause-none
returns-in_err-reduce_of-clause-none c =
    rw c.from_residual-in_err-reduce_of.ensures
    (no_reduce (subcommand_rows_of c.args.matches.now) c.in-Some.name.now (rows_of (found_of c.in-Some.values.now)) (sym c.in-Some.ensures) (sym c.eq-5.ensures ∙ c.if-eq-5.true) c.in_err-reduce_of.ensures.none)

pub returns-in_err-generate_of-clause-none : goal.returns-in_err-generate_of-clause-none
returns-in_err-generate_of-clause-none c =
    rw c.from_residual-in_err-generate_of.ensures
    (no_generate (subcommand_rows_of c.args.matches.now) c.in-Some.name.now (rows_of (found_of c.in-Some.values.now)) (sym c.in-Some.ensures) (sym c.eq-6.ensures ∙ c.if-eq-6.true) c.in_err-generate_of.ensures.none)
