-- The command line, and which command words are.
use Rattle.std.specs.Prelude.{◌≡◌, ◌≤◌, ◌==◌, ℕ, List, [], ◌∷◌, map, Bool, true, false, Option, Some, None, is_some, option_map, String, string_bytes, codes}
use Rattle.std.specs.Str.Parse.{IsNumeral, digits_value}
use Rattle.std.specs.declared.alloc.Global.{Global}
use Rattle.clap.specs.Words.{App, Row, Rule, Text, fault_of, first_of, found_of, new_app, new_rule, rows_of, subcommand_of, with_rule, with_subcommand}
use Rattle.clap.specs.Simple.{on_top}
use Rattle.clap.specs.declared.builder.action.ArgAction.TheVariants.{Set}
use Rattle.clap.specs.declared.parser.matches.ArgMatches.{ArgMatches}
use Rattle.sc_question.specs.Questions.{name_of, takes_two}
use Rattle.sc_question.specs.declared.question.Question.{Question}
use Rattle.sc_question.specs.declared.question.Question.TheVariants.{Equivalent}
use Rattle.sc_command.specs.declared.command.Analyse as analyse_code
use Rattle.sc_command.specs.declared.command.Asked as asked_code
use Rattle.sc_command.specs.declared.command.Check as check_code
use Rattle.sc_command.specs.declared.command.Generate as generate_code
use Rattle.sc_command.specs.declared.command.Log as log_code
use Rattle.sc_command.specs.declared.command.Reduce as reduce_code
use Rattle.sc_command.specs.declared.command.Replay as replay_code
use Rattle.sc_command.specs.declared.command.Command as command_code
use Rattle.sc_command.specs.declared.command.Command.TheVariants as command_kind

-- ---- the command line

-- an option `--name` with one value of any text
abbrev pub option : Text → Rule
option name = record (new_rule name) { long = Some name; action = Some Set }

-- the same, which has to be there
abbrev pub required : Text → Rule
required name = record (option name) { required = true }

-- a subcommand that reads a schema file and a policy file
abbrev pub on_files : Text → App
on_files name = with_rule (with_rule (new_app name) (required (codes "schema"))) (required (codes "policies"))

-- a subcommand that asks a question of them, or of them and those of a second policy file
abbrev pub asking : Text → App
asking name = with_rule (with_rule (on_files name) (option (codes "against"))) (required (codes "query"))

abbrev pub analyse_line : App
analyse_line = with_rule (asking (codes "analyse")) (required (codes "budget"))

abbrev pub replay_line : App
replay_line = with_rule (on_files (codes "replay")) (required (codes "world"))

abbrev pub log_line : App
log_line = with_rule (with_rule (asking (codes "log")) (required (codes "budget"))) (required (codes "env"))

abbrev pub check_line : App
check_line = with_rule (with_rule (asking (codes "check")) (required (codes "env"))) (required (codes "log"))

abbrev pub reduce_line : App
reduce_line = with_rule (on_files (codes "reduce")) (required (codes "budget"))

abbrev pub generate_line : App
generate_line = with_rule (new_app (codes "generate")) (required (codes "size"))

-- the words begin with the name of a subcommand
abbrev pub bare_tool : App
bare_tool = on_top (λ s. record s { no_binary_name = true; subcommand_required = true })
    (new_app (codes "cedar_symcc"))

-- the commands that read no log and write none
unfoldable pub served_line : App
served_line = with_subcommand (with_subcommand bare_tool analyse_line.top) replay_line.top

-- these, and those that write a log and read one
unfoldable pub logging_line : App
logging_line = with_subcommand (with_subcommand served_line log_line.top) check_line.top

unfoldable pub tool : App
tool = with_subcommand (with_subcommand logging_line reduce_line.top) generate_line.top

-- ---- commands

-- a question, and the policies that it is asked of
pub record Asked : Type 0 where
  pub schema : Text
  pub policies : Text
  pub against : Option Text
  pub question : Question

pub record Analyse : Type 0 where
  pub asked : Asked
  pub budget : ℕ

pub record Replay : Type 0 where
  pub schema : Text
  pub policies : Text
  pub world : Text

-- the environment by its place among those of the schema, counted from 0
pub record Log : Type 0 where
  pub asked : Asked
  pub budget : ℕ
  pub environment : ℕ

pub record Check : Type 0 where
  pub asked : Asked
  pub environment : ℕ
  pub log : Text

-- whether the policies are equivalent to fewer of them
pub record Reduce : Type 0 where
  pub asked : Asked
  pub budget : ℕ

-- whether so many generated policies are equivalent to the same in reverse order
pub record Generate : Type 0 where
  pub size : ℕ

pub data Command : Type 0 where
  analyse : Analyse → Command
  replay : Replay → Command
  write_log : Log → Command
  check_log : Check → Command
  reduce : Reduce → Command
  generate : Generate → Command

-- the word begins with `+`
abbrev pub begins_with_plus : Text → Bool
begins_with_plus [] = false
begins_with_plus (c ∷ cs) = c == 43

-- decimal digits, perhaps with leading zeros, for a number within these bounds
pub record IsNumber (low high : ℕ) (text : Text) (n : ℕ) : Type 0 where
  pub digits : IsNumeral 10 text
  pub value : digits_value 10 text ≡ n
  pub least : low ≤ n
  pub most : n ≤ high

-- a number from 1 to a thousand million
abbrev pub IsBudget : Text → ℕ → Type 0
IsBudget text n = IsNumber 1 1000000000 text n

-- a number of 32 bits
abbrev pub IsPlace : Text → ℕ → Type 0
IsPlace text n = IsNumber 0 4294967295 text n

-- a number from 1 to a thousand
abbrev pub IsSize : Text → ℕ → Type 0
IsSize text n = IsNumber 1 1000 text n

-- the value that each option was given
abbrev pub Values : Type 0
Values = Text → Option Text

-- the option `--budget` was given this budget
pub record HasBudget (given : Values) (n : ℕ) : Type 0 where
  pub text : Text
  pub given_text : given (codes "budget") ≡ Some text
  pub spelled : IsBudget text n

-- the option `--env` was given this place
pub record HasPlace (given : Values) (n : ℕ) : Type 0 where
  pub text : Text
  pub given_text : given (codes "env") ≡ Some text
  pub spelled : IsPlace text n

-- the option `--size` was given this size
pub record HasSize (given : Values) (n : ℕ) : Type 0 where
  pub text : Text
  pub given_text : given (codes "size") ≡ Some text
  pub spelled : IsSize text n

-- the options were given this question and these policies; a second set stands with the questions of two sets alone
pub record IsAsked (given : Values) (a : Asked) : Type 0 where
  pub schema_given : given (codes "schema") ≡ Some a.schema
  pub policies_given : given (codes "policies") ≡ Some a.policies
  pub against_given : given (codes "against") ≡ a.against
  pub query_given : given (codes "query") ≡ Some (name_of a.question)
  pub second_set : is_some a.against ≡ takes_two a.question

-- the options of `analyse` were given what this command says
pub record IsAnalyse (given : Values) (a : Analyse) : Type 0 where
  pub asked_given : IsAsked given a.asked
  pub budget_given : HasBudget given a.budget

-- the options of `log` were given what this command says
pub record IsLog (given : Values) (l : Log) : Type 0 where
  pub asked_given : IsAsked given l.asked
  pub budget_given : HasBudget given l.budget
  pub place_given : HasPlace given l.environment

-- the options of `check` were given what this command says
pub record IsCheck (given : Values) (c : Check) : Type 0 where
  pub asked_given : IsAsked given c.asked
  pub place_given : HasPlace given c.environment
  pub log_given : given (codes "log") ≡ Some c.log

-- the options of `replay` were given what this command says
pub record IsReplay (given : Values) (r : Replay) : Type 0 where
  pub schema_given : given (codes "schema") ≡ Some r.schema
  pub policies_given : given (codes "policies") ≡ Some r.policies
  pub world_given : given (codes "world") ≡ Some r.world

-- the options of `reduce` were given what this command says
pub record IsReduce (given : Values) (r : Reduce) : Type 0 where
  pub schema_given : given (codes "schema") ≡ Some r.asked.schema
  pub policies_given : given (codes "policies") ≡ Some r.asked.policies
  pub no_second_set : r.asked.against ≡ None
  pub question_is : r.asked.question ≡ Equivalent
  pub budget_given : HasBudget given r.budget

-- the option of `generate` was given what this command says
pub record IsGenerate (given : Values) (g : Generate) : Type 0 where
  pub size_given : HasSize given g.size

abbrev pub values_of : List Row → Values
values_of rows name = first_of name rows

-- the subcommand of this name, whose options were given these rows, is this command
abbrev pub Reads : Option (Text × List Row) → Command → Type 0
Reads entered (analyse a) = (rows : List Row) × (entered ≡ Some (codes "analyse", rows)) × IsAnalyse (values_of rows) a
Reads entered (replay r) = (rows : List Row) × (entered ≡ Some (codes "replay", rows)) × IsReplay (values_of rows) r
Reads entered (write_log l) = (rows : List Row) × (entered ≡ Some (codes "log", rows)) × IsLog (values_of rows) l
Reads entered (check_log c) = (rows : List Row) × (entered ≡ Some (codes "check", rows)) × IsCheck (values_of rows) c
Reads entered (reduce r) = (rows : List Row) × (entered ≡ Some (codes "reduce", rows)) × IsReduce (values_of rows) r
Reads entered (generate g) = (rows : List Row) × (entered ≡ Some (codes "generate", rows)) × IsGenerate (values_of rows) g

-- `clap` accepts the words by this command line, and what they give is this command
pub record Commands (words : List Text) (c : Command) : Type 0 where
  pub accepted : fault_of tool words ≡ []
  pub reads : Reads (subcommand_of tool words) c

-- ---- what calls give and take

abbrev pub words_view : List (String Global) → List Text
words_view words = map string_bytes words

abbrev pub given_of : ArgMatches → Values
given_of m = values_of (rows_of (found_of m))

abbrev pub asked_view : asked_code.Asked → Asked
asked_view a = record {
  schema = a.schema.now;
  policies = a.policies.now;
  against = option_map (λ s. s.now) a.against;
  question = a.question;
}

abbrev pub analyse_view : analyse_code.Analyse → Analyse
analyse_view a = record { asked = asked_view a.asked; budget = a.budget }

abbrev pub replay_view : replay_code.Replay → Replay
replay_view r = record { schema = r.schema.now; policies = r.policies.now; world = r.world.now }

abbrev pub log_view : log_code.Log → Log
log_view l = record { asked = asked_view l.asked; budget = l.budget; environment = l.environment }

abbrev pub check_view : check_code.Check → Check
check_view c = record { asked = asked_view c.asked; environment = c.environment; log = c.log.now }

abbrev pub reduce_view : reduce_code.Reduce → Reduce
reduce_view r = record { asked = asked_view r.asked; budget = r.budget }

abbrev pub generate_view : generate_code.Generate → Generate
generate_view g = record { size = g.size }

abbrev pub command_view : command_code.Command → Command
command_view (command_kind.Analyse a) = analyse (analyse_view a)
command_view (command_kind.Replay r) = replay (replay_view r)
command_view (command_kind.Log l) = write_log (log_view l)
command_view (command_kind.Check c) = check_log (check_view c)
command_view (command_kind.Reduce r) = reduce (reduce_view r)
command_view (command_kind.Generate g) = generate (generate_view g)
