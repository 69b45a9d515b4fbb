-- The commands, by what is done: with the policies of files under a schema, or with generated policies.
use Rattle.std.specs.Prelude.{◌≡◌, ◌≤◌, ℕ, List, Bool, false, Option, Some, None, option_map, is_some, ⊤}
use Rattle.sc_question.specs.Questions.{takes_two}
use Rattle.sc_question.specs.declared.question.Question.{Question}
use Rattle.sc_command.specs.CommandLine.{Asked, Command as AnyCommand, Commands, analyse, check_log, generate, reduce, replay, write_log}
use Rattle.sc_inputs.specs.declared.serving.Aim as aim_code
use Rattle.sc_inputs.specs.declared.serving.Aim.TheVariants as aim
use Rattle.sc_inputs.specs.declared.serving.Served.{Served}
use Rattle.sc_inputs.specs.declared.serving.Task as code
use Rattle.sc_inputs.specs.declared.serving.Task.TheVariants as task
use Rattle.sc_inputs.specs.declared.serving.Work.{Work}
use Rattle.sc_inputs.specs.declared.serving.Work.TheVariants as work

-- what a question is asked for
pub data Aim : Type 0 where
  -- a report on each environment, within this budget
  reporting : ℕ → Aim
  -- the log of the environment at this place, within this budget
  logging : (budget place : ℕ) → Aim
  -- a verdict on the log in the file of this name, for the environment at this place
  checking : ℕ → List ℕ → Aim
  -- which policies do nothing, within this budget for each in each environment
  reducing : ℕ → Aim

-- what is done with a policy file
pub data Task : Type 0 where
  -- to ask a question of the policies, and of those of another file where it takes two sets
  asking : Question → Option (List ℕ) → Aim → Task
  -- to tell what they do in the world of the file of this name
  replaying : List ℕ → Task

pub record Command : Type 0 where
  pub schema : List ℕ
  pub policies : List ℕ
  pub task : Task

-- to ask this for an aim, among all commands
abbrev pub asked_for : Asked → Aim → AnyCommand
asked_for asked (reporting budget) = analyse (record { asked = asked; budget = budget })
asked_for asked (logging budget place) = write_log (record { asked = asked; budget = budget; environment = place })
asked_for asked (checking place log) = check_log (record { asked = asked; environment = place; log = log })
asked_for asked (reducing budget) = reduce (record { asked = asked; budget = budget })

-- a task under a schema file and a policy file, among all commands
abbrev pub command_for : List ℕ → List ℕ → Task → AnyCommand
command_for schema policies (asking question against a) =
    asked_for (record { schema = schema; policies = policies; against = against; question = question }) a
command_for schema policies (replaying world) = replay (record { schema = schema; policies = policies; world = world })

abbrev pub as_command : Command → AnyCommand
as_command c = command_for c.schema c.policies c.task

-- the words are this command
abbrev pub Serves : List (List ℕ) → Command → Type 0
Serves words c = Commands words (as_command c)

-- the words are the command to ask a question of so many generated policies
abbrev pub Generates : List (List ℕ) → ℕ → Type 0
Generates words size = Commands words (generate (record { size = size }))

-- the words are no command
abbrev pub IsNoCommand : List (List ℕ) → Type 0
IsNoCommand words = (c : AnyCommand) → Commands words c → ⊥

-- a budget allows some work
abbrev pub HasUnits : Aim → Type 0
HasUnits (reporting budget) = 1 ≤ budget
HasUnits (logging budget place) = 1 ≤ budget
HasUnits (checking place log) = ⊤
HasUnits (reducing budget) = 1 ≤ budget

abbrev pub MayWork : Task → Type 0
MayWork (asking question against a) = HasUnits a
MayWork (replaying world) = ⊤

-- whether a second file is named: the question takes two sets; but policies that are to be fewer are compared with
-- themselves
abbrev pub has_second : Aim → Question → Bool
has_second (reporting budget) question = takes_two question
has_second (logging budget place) question = takes_two question
has_second (checking place log) question = takes_two question
has_second (reducing budget) question = false

abbrev pub HasSets : Task → Type 0
HasSets (asking question against a) = is_some against ≡ has_second a question
HasSets (replaying world) = ⊤

-- the place of the environment that is named, where one is
abbrev pub place_in : Aim → Option ℕ
place_in (reporting budget) = None
place_in (logging budget place) = Some place
place_in (checking place log) = Some place
place_in (reducing budget) = None

-- the second policy file, the world file and the log file that are named, where one is
abbrev pub against_in : Task → Option (List ℕ)
against_in (asking question against a) = against
against_in (replaying world) = None

abbrev pub world_in : Task → Option (List ℕ)
world_in (asking question against a) = None
world_in (replaying world) = Some world

abbrev pub log_of : Aim → Option (List ℕ)
log_of (reporting budget) = None
log_of (logging budget place) = None
log_of (checking place log) = Some log
log_of (reducing budget) = None

abbrev pub log_in : Task → Option (List ℕ)
log_in (asking question against a) = log_of a
log_in (replaying world) = None

abbrev pub aim_view : aim_code.Aim → Aim
aim_view (aim.Report budget) = reporting budget
aim_view (aim.Log budget place) = logging budget place
aim_view (aim.Check place log) = checking place log.now
aim_view (aim.Reduce budget) = reducing budget

abbrev pub task_view : code.Task → Task
task_view (task.Ask question against a) = asking question (option_map (λ name. name.now) against) (aim_view a)
task_view (task.Replay world) = replaying world.now

abbrev pub served_view : Served → Command
served_view s = record { schema = s.schema.now; policies = s.policies.now; task = task_view s.task }

abbrev pub work_view : Work → AnyCommand
work_view (work.OnFiles s) = as_command (served_view s)
work_view (work.Generate size) = generate (record { size = size })
