-- How a run ends.
use Rattle.std.specs.Prelude.{◌≡◌, ◌≢◌, ◌≤◌, ◌<◌, ◌⊎◌, ℕ, List, [], ◌∷◌, true, false, Option, Some, None, length, slice_get, take, String, ⊤}
use Rattle.std.specs.Global.{Global}
use Rattle.std.specs.List.{Contains}
use Rattle.sc_outside.specs.Counts.{Rose}
use Rattle.sc_outside.specs.Failures.{FailedAt}
use Rattle.sc_outside.specs.Writes.{Written, all_appended, appended}
use Rattle.sc_outside.specs.declared.traits.Files as files
use Rattle.sc_outside.specs.declared.traits.Sink as sink
use Rattle.sc_command.specs.CommandLine.{words_view}
use Rattle.sc_ast.specs.declared.policy.Policy.{Policy}
use Rattle.sc_ast.specs.Literals.{literals}
use Rattle.sc_question.specs.declared.question.Question.{Question}
use Rattle.sc_clauses.specs.declared.step.Step.{Step}
use Rattle.sc_replay.specs.Reports.{status_of}
use Rattle.sc_schema.specs.declared.declarations.Env.{Env}
use Rattle.sc_schema.specs.Declarations.{Declarations, environments}
use Rattle.sc_schema_json.specs.Spelling as schema_file
use Rattle.sc_schema_syntax.specs.declared.fault.SchemaFault.{SchemaFault}
use Rattle.sc_parser.specs.declared.fault.PolicyFault.{PolicyFault}
use Rattle.sc_parser.specs.Spelling.{Spells, HasFault}
use Rattle.sc_typing.specs.declared.ill_typed.IllTyped.{IllTyped}
use Rattle.sc_typing.specs.declared.name_fault.NameFault.{NameFault}
use Rattle.sc_typing.specs.Names.{name_fault}
use Rattle.sc_world.specs.declared.world.World.{World}
use Rattle.sc_world.specs.WellFormed.{IsWellFormed}
use Rattle.sc_replay.specs.declared.breaks.Break.{Break}
use Rattle.sc_world_json.specs.declared.fault.WorldFault.{WorldFault}
use Rattle.sc_world_json.specs.Reading as world_file
use Rattle.sc_inputs.specs.Serving.{Aim, Command, Generates, Serves, asking, checking, logging, place_in, reducing, replaying, reporting}
use Rattle.sc_inputs.specs.Readings.{ReadsAll, ReadsWorld}
use Rattle.sc_checker.specs.declared.checking.Reason.{Reason}
use Rattle.sc_reports.specs.Analyses.{asked, asked_within}
use Rattle.sc_reports.specs.Claims.{Answer, Checked, Claims, IsShort, IsShown, accepted, answer_text, rejected}
use Rattle.sc_reports.specs.Logs.{Logged, Shows, log_lines}
use Rattle.sc_reports.specs.Progress.{Reported}
use Rattle.sc_reduction.specs.Lines.{status_of as reduction_status}
use Rattle.sc_reduction.specs.Reductions.{IsReduction, kept, without}
use Rattle.sc_reduction.specs.Trials as trial
use Rattle.sc_reduction.specs.declared.fate.Fate.{Fate}
use Rattle.sc_run.specs.Generates.{IsGenerated, Summed, summary}
use Rattle.sc_run.specs.Reduces.{Reduced, lines_of as reduced_lines, to_reduce}
use Rattle.sc_run.specs.Replays.{Finds, Replayed, lines_of}
use Rattle.sc_inputs.specs.Refusals.{File, Refusal, Side, name_of, read_fault, IsRefusal, code_of, refusal_text, Content, IsContent, IsTooLong, ReadsSchema, HasPolicies, HasWorld, HasEnvironment, IsLongLog, RefusesLog, ReachesAim, ReachesQuestion, ReachesWorld, names_fault, types_fault, AreServed, limit, log_limit}
use Rattle.sc_reports.specs.Reports.{Asked, Line, counterexample, IsReport, AlwaysHas, Violates, IsUndecided, has_counterexample, has_open, report_texts}
use Rattle.sc_inputs.specs.declared.inputs.Claim.{Claim}
use Rattle.sc_inputs.specs.declared.inputs.Scene.{Scene}

-- a count of faults, before a run and after it
pub record Change : Type 0 where
  pub before : ℕ
  pub now : ℕ

-- there was a fault: the count went up, or stands at its last value
abbrev pub HasRisen : Change → Type 0
HasRisen c = Rose c.before c.now

abbrev pub WentUp : Change → Type 0
WentUp c = c.before < c.now

-- What a run sees and does: what the files hold, the words, the counts of read faults and of write faults, the name
-- of the file of the call that failed last, what was written before it and is written after it, and the status.
pub record Run : Type 0 where
  pub content : Content
  pub words : List (List ℕ)
  pub reads : Change
  pub failed : Option (List ℕ)
  pub writes : Change
  pub before : Written
  pub after : Written
  pub code : ℕ

-- a run over files and a sink, each before it and after it
abbrev pub run_of : {F O : Type 0} → files.Ghosts F → sink.Ghosts O → F → F → O → O → List (String Global) → ℕ → Run
run_of source out files files' written written' words code = record {
  content = source.content files;
  words = words_view words;
  reads = record { before = source.faults files; now = source.faults files' };
  failed = source.failed files';
  writes = record { before = out.faults written; now = out.faults written' };
  before = out.written written;
  after = out.written written';
  code = code;
}

-- a call for the file of this name failed, and was the last one that did
abbrev pub FailsFor : Run → List ℕ → Type 0
FailsFor r = FailedAt r.reads.before r.reads.now r.failed

-- what is replayed
abbrev pub scene : Declarations → List Policy → World → Scene
scene s ps w = record { schema = s; policies = ps; world = w }

-- the environment that there is, or none
abbrev pub listed : Option Env → List Env
listed None = []
listed (Some env) = env ∷ []

-- the environments that are asked about for an aim: all, or the one that is named
abbrev pub asked_about : Declarations → Aim → List Env
asked_about s (reporting budget) = environments s
asked_about s (logging budget place) = listed (slice_get (environments s) place)
asked_about s (checking place log) = listed (slice_get (environments s) place)
asked_about s (reducing budget) = environments s

-- the units that an aim allows; a check looks for nothing
abbrev pub budget_in : Aim → ℕ
budget_in (reporting budget) = budget
budget_in (logging budget place) = budget
budget_in (checking place log) = 0
budget_in (reducing budget) = budget

-- what is asked for an aim
abbrev pub asked_for : Declarations → Question → List Policy → Option (List Policy) → Aim → Asked
asked_for s question first against aim = asked s question first against (budget_in aim)

-- a refusal's line is written whole, or a front of it; or a report, a log or what is said of one is written, as far
-- as it came; or memory ran out before anything was written. The logs are those of the lines that say `unknown`.
pub data Ends (r : Run) (spent : List (List Step)) : Type 0 where
  refused : (a : Refusal) → IsRefusal r.content r.words (FailsFor r) a → r.code ≡ code_of a
      → r.after ≡ appended r.before (refusal_text a) → spent ≡ [] → Ends r spent
  refusal_cut : (a : Refusal) (n : ℕ) → IsRefusal r.content r.words (FailsFor r) a → HasRisen r.writes → r.code ≡ 21
      → r.after ≡ appended r.before (take n (refusal_text a)) → spent ≡ [] → Ends r spent
  reported : (s : Declarations) (question : Question) (first : List Policy) (against : Option (List Policy))
      (budget : ℕ) → ReadsAll r.content r.words s question first against (reporting budget)
      → Reported (asked s question first against budget) r.before r.after (HasRisen r.writes) r.code spent
      → Ends r spent
  wrote_log : (s : Declarations) (question : Question) (first : List Policy) (against : Option (List Policy))
      (budget place : ℕ) (env : Env) → ReadsAll r.content r.words s question first against (logging budget place)
      → slice_get (environments s) place ≡ Some env
      → Logged (asked s question first against budget) env r.before r.after (HasRisen r.writes) r.code spent
      → Ends r spent
  checked_log : (s : Declarations) (question : Question) (first : List Policy) (against : Option (List Policy))
      (place : ℕ) (name : List ℕ) (env : Env)
      → ReadsAll r.content r.words s question first against (checking place name)
      → slice_get (environments s) place ≡ Some env
      → Checked (r.content name) (asked s question first against 0) env r.before r.after (HasRisen r.writes)
      r.code → spent ≡ [] → Ends r spent
  replayed : (s : Declarations) (ps : List Policy) (w : World) → ReadsWorld r.content r.words s ps w
      → Replayed (scene s ps w) r.before r.after (HasRisen r.writes) r.code → spent ≡ [] → Ends r spent
  reduced : (s : Declarations) (question : Question) (first : List Policy) (against : Option (List Policy))
      (budget : ℕ) → ReadsAll r.content r.words s question first against (reducing budget)
      → Reduced (to_reduce s first budget) r.before r.after (HasRisen r.writes) r.code spent → Ends r spent
  generated : (size : ℕ) → Generates r.words size → Summed size r.before r.after (HasRisen r.writes) r.code spent
      → Ends r spent
  no_memory : r.code ≡ 30 → r.after ≡ r.before → spent ≡ [] → Ends r spent

-- what an aim is
abbrev pub IsReporting : Aim → Type 0
IsReporting (reporting budget) = ⊤
IsReporting (logging budget place) = ⊥
IsReporting (checking place name) = ⊥
IsReporting (reducing budget) = ⊥

abbrev pub IsLogging : Aim → Type 0
IsLogging (reporting budget) = ⊥
IsLogging (logging budget place) = ⊤
IsLogging (checking place name) = ⊥
IsLogging (reducing budget) = ⊥

abbrev pub IsChecking : Aim → Type 0
IsChecking (reporting budget) = ⊥
IsChecking (logging budget place) = ⊥
IsChecking (checking place name) = ⊤
IsChecking (reducing budget) = ⊥

abbrev pub IsReducing : Aim → Type 0
IsReducing (reporting budget) = ⊥
IsReducing (logging budget place) = ⊥
IsReducing (checking place name) = ⊥
IsReducing (reducing budget) = ⊤

-- what the words ask, and a whole report on it that is written
pub record Reports (r : Run) : Type 0 where
  pub schema : Declarations
  pub question : Question
  pub first : List Policy
  pub against : Option (List Policy)
  pub aim : Aim
  pub reads : ReadsAll r.content r.words schema question first against aim
  pub lines : List Line
  pub report : IsReport (asked_for schema question first against aim) (asked_about schema aim) lines
  pub text : r.after ≡ all_appended r.before (report_texts lines)

abbrev pub asked_by : {r : Run} → Reports r → Asked
asked_by x = asked_for x.schema x.question x.first x.against x.aim

-- each environment is reported to hold: every well-formed world of it has the property
pub record AllHold (r : Run) : Type 0 where
  pub told : Reports r
  pub of_all : IsReporting told.aim
  pub always : (env : Env) → Contains (environments told.schema) env → AlwaysHas (asked_by told) env

-- a line prints a world, which is a well-formed one of the line's environment and lacks the property
pub record SomeFails (r : Run) : Type 0 where
  pub told : Reports r
  pub env : Env
  pub world : World
  pub printed : Contains told.lines (record { env = env; verdict = counterexample world })
  pub violates : Violates (asked_by told) env world

-- no line is a counterexample, and some line tells of its environment neither that nor that it holds
pub record SomeOpen (r : Run) : Type 0 where
  pub told : Reports r
  pub none_fails : has_counterexample told.lines ≡ false
  pub some_open : has_open told.lines ≡ true

-- a log of just as many units as the budget, of the problem of one of the environments
pub record IsLogged (r : Run) (log : List Step) : Type 0 where
  pub schema : Declarations
  pub question : Question
  pub first : List Policy
  pub against : Option (List Policy)
  pub aim : Aim
  pub reads : ReadsAll r.content r.words schema question first against aim
  pub env : Env
  pub listed : Contains (asked_about schema aim) env
  pub undecided : IsUndecided (asked_for schema question first against aim) env (budget_in aim) log

-- a whole report on a world is written, and what it finds first is this, or nothing
pub record Tells (r : Run) (found : Option Break) : Type 0 where
  pub schema : Declarations
  pub policies : List Policy
  pub world : World
  pub reads : ReadsWorld r.content r.words schema policies world
  pub first : Finds (scene schema policies world) found
  pub text : r.after ≡ all_appended r.before (lines_of (scene schema policies world) found)

-- a whole report tells that nothing keeps a world from being well-formed, and the world is well-formed for an
-- environment of the schema and the uids that the policies write
pub record IsWell (r : Run) : Type 0 where
  pub told : Tells r None
  pub env : Env
  pub listed : Contains (environments told.schema) env
  pub well_formed : IsWellFormed told.schema env (literals told.policies) told.world

-- the words are a command to ask a question for an aim of this kind
pub record AsksFor (IsKind : Aim → Type 0) (r : Run) : Type 0 where
  pub command : Command
  pub commands : Serves r.words command
  pub question : Question
  pub name : Option (List ℕ)
  pub aim : Aim
  pub task : command.task ≡ asking question name aim
  pub kind : IsKind aim

-- the words are a command to ask a question, to write a log, or to check one
abbrev pub AsksQuestion : Run → Type 0
AsksQuestion r = AsksFor IsReporting r

abbrev pub WritesLog : Run → Type 0
WritesLog r = AsksFor IsLogging r

abbrev pub ChecksLog : Run → Type 0
ChecksLog r = AsksFor IsChecking r

-- the words are a command to replay a world
pub record ReplaysWorld (r : Run) : Type 0 where
  pub command : Command
  pub commands : Serves r.words command
  pub name : List ℕ
  pub task : command.task ≡ replaying name

-- the log of the environment that is named is written whole, and shows that each of its well-formed worlds has the
-- property
pub record LogIsWritten (r : Run) : Type 0 where
  pub schema : Declarations
  pub question : Question
  pub first : List Policy
  pub against : Option (List Policy)
  pub budget : ℕ
  pub place : ℕ
  pub reads : ReadsAll r.content r.words schema question first against (logging budget place)
  pub env : Env
  pub named : slice_get (environments schema) place ≡ Some env
  pub log : List Step
  pub shows : Shows (asked schema question first against budget) env log
  pub text : r.after ≡ all_appended r.before (log_lines log)

-- this is said of the log of the environment that is named
pub record SaysOf (r : Run) (a : Answer) : Type 0 where
  pub schema : Declarations
  pub question : Question
  pub first : List Policy
  pub against : Option (List Policy)
  pub place : ℕ
  pub name : List ℕ
  pub reads : ReadsAll r.content r.words schema question first against (checking place name)
  pub env : Env
  pub named : slice_get (environments schema) place ≡ Some env
  pub short : IsShort (r.content name)
  pub claims : Claims (r.content name) (asked schema question first against 0) env a
  pub text : r.after ≡ appended r.before (answer_text env a)

-- a log is accepted: each well-formed world of the environment that is named has the property, whatever bytes the log
-- file has, and where these are told, they are the text of a log that shows it
abbrev pub LogIsAccepted : Run → Type 0
LogIsAccepted r = SaysOf r accepted

-- a log is rejected at its least step at fault, for this reason
abbrev pub LogIsRejected : Run → Type 0
LogIsRejected r = (step : ℕ) × (why : Reason) × SaysOf r (rejected step why)

-- the words are a command to reduce a policy set
abbrev pub ReducesSet : Run → Type 0
ReducesSet r = AsksFor IsReducing r

-- what becomes of each policy of the file is written whole, and is so: those that stay decide as all do in each
-- environment, and each line of one that is kept prints a well-formed world in which those that stay decide otherwise
-- without it
pub record SetIsReduced (r : Run) : Type 0 where
  pub schema : Declarations
  pub question : Question
  pub policies : List Policy
  pub against : Option (List Policy)
  pub budget : ℕ
  pub reads : ReadsAll r.content r.words schema question policies against (reducing budget)
  pub fates : List Fate
  pub is_reduction : IsReduction (to_reduce schema policies budget) fates
  pub status : r.code ≡ reduction_status fates
  pub text : r.after ≡ all_appended r.before (reduced_lines (to_reduce schema policies budget) fates)

-- the words are a command to ask whether so many generated policies are equivalent to the same in reverse order
abbrev pub AsksGenerated : Run → Type 0
AsksGenerated r = (size : ℕ) × Generates r.words size

-- what such words ask, and the summary and a whole report on it that are written
pub record GeneratedReports (r : Run) : Type 0 where
  pub size : ℕ
  pub commands : Generates r.words size
  pub asks : Asked
  pub is_generated : IsGenerated size asks
  pub lines : List Line
  pub report : IsReport asks (environments asks.schema) lines
  pub text : r.after ≡ all_appended (appended r.before (summary size)) (report_texts lines)

-- each environment is reported to hold: in every well-formed world of it the policies decide the same in either order
pub record GeneratedHold (r : Run) : Type 0 where
  pub told : GeneratedReports r
  pub always : (env : Env) → Contains (environments told.asks.schema) env → AlwaysHas told.asks env

-- some line says that it isn't known of its environment
pub record GeneratedOpen (r : Run) : Type 0 where
  pub told : GeneratedReports r
  pub some_open : has_open told.lines ≡ true

-- a log of a million units, of the problem of one of the environments
pub record IsGeneratedLogged (r : Run) (log : List Step) : Type 0 where
  pub size : ℕ
  pub commands : Generates r.words size
  pub asks : Asked
  pub is_generated : IsGenerated size asks
  pub env : Env
  pub listed : Contains (environments asks.schema) env
  pub undecided : IsUndecided asks env 1000000 log

-- the statuses of generated policies: it is found that all holds, or it isn't known of some environment; or the write
-- failed, or memory ran out. A counterexample there is none.
abbrev pub IsOfGenerated : ℕ → Type 0
IsOfGenerated code = (code ≡ 0) ⊎ ((code ≡ 2) ⊎ ((code ≡ 21) ⊎ (code ≡ 30)))

-- status 0: a question's property holds in each environment, or a world is replayed that is well-formed, or a log is
-- written or accepted, or a policy set is reduced, or generated policies are equivalent
abbrev pub AllWell : Run → Type 0
AllWell r = AllHold r ⊎ (IsWell r ⊎ (LogIsWritten r ⊎ (LogIsAccepted r ⊎ (SetIsReduced r ⊎ GeneratedHold r))))

-- status 2: some environment is open, or it isn't known of some policy whether it matters
abbrev pub SomeLeft : Run → Type 0
SomeLeft r = SomeOpen r ⊎ (SetIsReduced r ⊎ GeneratedOpen r)

-- a log of just as many units as the budget, of the problem whether those policies that stay decide otherwise without
-- one of them
pub record IsFateLogged (r : Run) (log : List Step) : Type 0 where
  pub schema : Declarations
  pub question : Question
  pub policies : List Policy
  pub against : Option (List Policy)
  pub budget : ℕ
  pub reads : ReadsAll r.content r.words schema question policies against (reducing budget)
  pub fates : List Fate
  pub is_reduction : IsReduction (to_reduce schema policies budget) fates
  pub place : ℕ
  pub env : Env
  pub listed : Contains (environments schema) env
  pub undecided : trial.IsUndecided (without (to_reduce schema policies budget) (kept fates) place) env log

-- a log is of an environment that is asked about, or of a policy of a set that is reduced
abbrev pub IsOfLog : Run → List Step → Type 0
IsOfLog r log = IsLogged r log ⊎ (IsFateLogged r log ⊎ IsGeneratedLogged r log)

-- status 3: a world is replayed that isn't well-formed
abbrev pub IsBroken : Run → Type 0
IsBroken r = (b : Break) × Tells r (Some b)

-- the words are a command whose schema file is told
pub record SchemaTold (r : Run) : Type 0 where
  pub command : Command
  pub commands : Serves r.words command
  pub bytes : List ℕ
  pub told : r.content command.schema ≡ Some bytes

-- and spells a schema, and the policy file is told too
pub record PoliciesTold (r : Run) : Type 0 where
  pub command : Command
  pub commands : Serves r.words command
  pub schema_bytes : List ℕ
  pub schema_told : r.content command.schema ≡ Some schema_bytes
  pub schema_short : length schema_bytes ≤ limit
  pub schema : Declarations
  pub spelled : schema_file.Spells schema_bytes schema
  pub bytes : List ℕ
  pub told : r.content command.policies ≡ Some bytes

-- a question is asked, and its policy file spells policies
pub record QuestionSpelled (r : Run) : Type 0 where
  pub before : PoliciesTold r
  pub short : length before.bytes ≤ limit
  pub question : Question
  pub name : Option (List ℕ)
  pub aim : Aim
  pub task : before.command.task ≡ asking question name aim
  pub policies : List Policy
  pub spelled : Spells before.bytes policies

-- the file of this name, where there is one, is told and short enough, and spells the policies
pub data AgainstTold (content : Content) : Option (List ℕ) → Option (List Policy) → Type 0 where
  no_file : AgainstTold content None None
  told_file : (name bytes : List ℕ) (ps : List Policy) → content name ≡ Some bytes → length bytes ≤ limit
      → Spells bytes ps → AgainstTold content (Some name) (Some ps)

-- all policy files of a question are told, short enough and spelled
pub record AllSpelled (r : Run) : Type 0 where
  pub before : QuestionSpelled r
  pub others : Option (List Policy)
  pub against : AgainstTold r.content before.name others

-- the words are a command to ask a question, its schema file and policy files are told and short enough, they spell a
-- schema and policies, and the policies write declared names alone and are typed in each environment
abbrev pub IsServed : Run → Type 0
IsServed r = (t : AllSpelled r) × AreServed t.before.before.schema t.before.policies t.others

-- the log that is to be checked, where one is, is told
abbrev pub LogIsTold : Content → Aim → Type 0
LogIsTold content (reporting budget) = ⊤
LogIsTold content (logging budget place) = ⊤
LogIsTold content (reducing budget) = ⊤
LogIsTold content (checking place name) = (bytes : List ℕ) × (content name ≡ Some bytes) × (length bytes ≤ log_limit)

-- the same, the schema has the environment that is named, where one is, and the log that is to be checked, where one
-- is, is told and short enough
pub record IsReadable (r : Run) : Type 0 where
  pub served : IsServed r
  pub environment : HasEnvironment served.0.before.before.schema served.0.before.aim
  pub log : LogIsTold r.content served.0.before.aim

-- the environment that is named is none of the schema
pub record PlaceIsMissing (r : Run) : Type 0 where
  pub served : IsServed r
  pub place : ℕ
  pub named : place_in served.0.before.aim ≡ Some place
  pub beyond : length (environments served.0.before.before.schema) ≤ place

-- the log that is to be checked is told and too long
pub record LogIsLong (r : Run) : Type 0 where
  pub served : IsServed r
  pub place : ℕ
  pub name : List ℕ
  pub aim_is : served.0.before.aim ≡ checking place name
  pub within : place < length (environments served.0.before.before.schema)
  pub bytes : List ℕ
  pub told : r.content name ≡ Some bytes
  pub long : log_limit < length bytes

-- a log is to be checked: all files are as for a question, the schema has the environment that is named, and the log
-- file is told and short enough
pub record ReadsLog (r : Run) : Type 0 where
  pub served : IsServed r
  pub place : ℕ
  pub name : List ℕ
  pub aim_is : served.0.before.aim ≡ checking place name
  pub env : Env
  pub named : slice_get (environments served.0.before.before.schema) place ≡ Some env
  pub bytes : List ℕ
  pub told : r.content name ≡ Some bytes
  pub short : length bytes ≤ log_limit

abbrev pub asked_of_log : {r : Run} → ReadsLog r → Asked
asked_of_log x =
    asked x.served.0.before.before.schema x.served.0.before.question x.served.0.before.policies x.served.0.others 0

-- what the log file holds is the text of an accepted log of the environment's problem, or it isn't
abbrev pub LogIsRight : Run → Type 0
LogIsRight r = (x : ReadsLog r) × IsShown (asked_of_log x) x.env x.bytes

abbrev pub LogIsWrong : Run → Type 0
LogIsWrong r = (x : ReadsLog r) × ¬ IsShown (asked_of_log x) x.env x.bytes

-- this status, unless the problem is too large or memory ran out
abbrev pub MustSay : ℕ → ℕ → Type 0
MustSay n code = (code ≡ n) ⊎ ((code ≡ 2) ⊎ (code ≡ 30))

-- one of the statuses of a whole report, or want of memory
abbrev pub IsWhole : ℕ → Type 0
IsWhole code = (code ≡ 0) ⊎ ((code ≡ 1) ⊎ ((code ≡ 2) ⊎ (code ≡ 30)))

-- one of the statuses of what is written whole for an aim, or want of memory
abbrev pub IsWholeFor : Aim → ℕ → Type 0
IsWholeFor (reporting budget) code = IsWhole code
IsWholeFor (logging budget place) code = IsWhole code
IsWholeFor (checking place name) code = (code ≡ 14) ⊎ IsWhole code
IsWholeFor (reducing budget) code = (code ≡ 0) ⊎ ((code ≡ 2) ⊎ (code ≡ 30))

-- this status, unless the write failed or memory ran out
abbrev pub MustBe : ℕ → ℕ → Type 0
MustBe n code = (code ≡ n) ⊎ ((code ≡ 21) ⊎ (code ≡ 30))

-- the words are a command to compare two sets of policies, the second in the file of this name, and the files before
-- that are read
pub record ReachesAgainst (content : Content) (words : List (List ℕ)) (name : List ℕ) : Type 0 where
  pub command : Command
  pub commands : Serves words command
  pub question : Question
  pub aim : Aim
  pub task : command.task ≡ asking question (Some name) aim
  pub schema : Declarations
  pub reads : ReadsSchema content command schema
  pub first : List Policy
  pub policies : HasPolicies content command.policies first

-- a call for this file of the command failed, and was the last one that did
pub record IsUnreadFile (r : Run) (file : File) : Type 0 where
  pub command : Command
  pub commands : Serves r.words command
  pub name : List ℕ
  pub named : name_of command file ≡ Some name
  pub failed : FailsFor r name

-- a file of the command is unread, and the line names it
abbrev pub IsUnread : Run → Type 0
IsUnread r = (file : File) × IsUnreadFile r file × (r.after ≡ appended r.before (refusal_text (read_fault file)))

-- a file of the command is told and longer than its limit, and the files before it are read
pub data TooLong (r : Run) : Type 0 where
  schema_long : (c : Command) → Serves r.words c → IsTooLong r.content c.schema → TooLong r
  policies_long : (c : Command) → Serves r.words c → (s : Declarations) → ReadsSchema r.content c s
      → IsTooLong r.content c.policies → TooLong r
  against_long : (name : List ℕ) → ReachesAgainst r.content r.words name → IsTooLong r.content name → TooLong r
  log_long : (s : Declarations) (question : Question) (first : List Policy) (against : Option (List Policy))
      (place : ℕ) (name : List ℕ) → ReachesAim r.content r.words s question first against (checking place name)
      → IsLongLog r.content name → TooLong r
  world_long : (s : Declarations) (ps : List Policy) (name : List ℕ) → ReachesWorld r.content r.words s ps name
      → IsTooLong r.content name → TooLong r

-- the environment that is named is none of the schema, and all that is asked for is read and served
pub record IsMisplaced (r : Run) : Type 0 where
  pub schema : Declarations
  pub question : Question
  pub first : List Policy
  pub against : Option (List Policy)
  pub aim : Aim
  pub reaches : ReachesQuestion r.content r.words schema question first against aim
  pub served : AreServed schema first against
  pub place : ℕ
  pub named : place_in aim ≡ Some place
  pub beyond : length (environments schema) ≤ place

-- the schema file of the command spells no schema, and its first fault is told
pub record IsFaultySchema (r : Run) : Type 0 where
  pub command : Command
  pub commands : Serves r.words command
  pub bytes : List ℕ
  pub told : IsContent r.content command.schema bytes
  pub fault : SchemaFault
  pub has : schema_file.HasFault bytes fault

-- a policy file of the command spells no policies, its first fault is told, and the files before it are read
pub data IsFaulty (r : Run) : Type 0 where
  policies_faulty : (c : Command) → Serves r.words c → (s : Declarations) → ReadsSchema r.content c s
      → (bytes : List ℕ) → IsContent r.content c.policies bytes → (f : PolicyFault) → HasFault bytes f → IsFaulty r
  against_faulty : (name : List ℕ) → ReachesAgainst r.content r.words name → (bytes : List ℕ)
      → IsContent r.content name bytes → (f : PolicyFault) → HasFault bytes f → IsFaulty r

-- the world file of the command spells no world, its first fault is told, and the files before it are read
pub record IsFaultyWorld (r : Run) : Type 0 where
  pub schema : Declarations
  pub policies : List Policy
  pub name : List ℕ
  pub reaches : ReachesWorld r.content r.words schema policies name
  pub bytes : List ℕ
  pub told : IsContent r.content name bytes
  pub fault : WorldFault
  pub has : world_file.HasFault bytes fault

-- the policies of a replay write a name that isn't declared, the first one is told, and all files are read
pub record HasUnknownName (r : Run) : Type 0 where
  pub schema : Declarations
  pub policies : List Policy
  pub name : List ℕ
  pub world : World
  pub reaches : ReachesWorld r.content r.words schema policies name
  pub has : HasWorld r.content name world
  pub fault : NameFault
  pub is : name_fault schema policies ≡ Some fault

-- all files of a question are read, and its policies write a name that isn't declared, or one of them has no type in
-- an environment: the first one, of the first set that has one, is told
pub data IsIllTyped (s : Declarations) (first : List Policy) (against : Option (List Policy)) : Type 0 where
  undeclared : (side : Side) (f : NameFault) → names_fault s first against ≡ Some (side, f) → IsIllTyped s first against
  untyped : (side : Side) (f : IllTyped) → names_fault s first against ≡ None
      → types_fault s first against ≡ Some (side, f) → IsIllTyped s first against

pub record IsUntypedQuestion (r : Run) : Type 0 where
  pub schema : Declarations
  pub question : Question
  pub first : List Policy
  pub against : Option (List Policy)
  pub aim : Aim
  pub reaches : ReachesQuestion r.content r.words schema question first against aim
  pub ill_typed : IsIllTyped schema first against

-- status 13: an undeclared name, or a policy without a type
abbrev pub IsUntyped : Run → Type 0
IsUntyped r = HasUnknownName r ⊎ IsUntypedQuestion r

-- the words are a command to replay a world whose files are told, and the first two spell a schema and policies
pub record WorldTold (r : Run) : Type 0 where
  pub command : Command
  pub commands : Serves r.words command
  pub name : List ℕ
  pub task : command.task ≡ replaying name
  pub schema_bytes : List ℕ
  pub policy_bytes : List ℕ
  pub bytes : List ℕ
  pub schema_told : r.content command.schema ≡ Some schema_bytes
  pub policies_told : r.content command.policies ≡ Some policy_bytes
  pub told : r.content name ≡ Some bytes
  pub schema_short : length schema_bytes ≤ limit
  pub policies_short : length policy_bytes ≤ limit
  pub schema : Declarations
  pub policies : List Policy
  pub schema_spelled : schema_file.Spells schema_bytes schema
  pub policies_spelled : Spells policy_bytes policies

abbrev pub SchemaIsLong : Run → Type 0
SchemaIsLong r = (t : SchemaTold r) × (limit < length t.bytes)

abbrev pub SchemaIsFaulty : Run → Type 0
SchemaIsFaulty r = (t : SchemaTold r) × (length t.bytes ≤ limit)
    × ((s : Declarations) → schema_file.Spells t.bytes s → ⊥)

abbrev pub PoliciesAreLong : Run → Type 0
PoliciesAreLong r = (t : PoliciesTold r) × (limit < length t.bytes)

abbrev pub PoliciesAreFaulty : Run → Type 0
PoliciesAreFaulty r = (t : PoliciesTold r) × (length t.bytes ≤ limit) × ((ps : List Policy) → Spells t.bytes ps → ⊥)

abbrev pub WorldIsLong : Run → Type 0
WorldIsLong r = (t : WorldTold r) × (limit < length t.bytes)

abbrev pub WorldIsFaulty : Run → Type 0
WorldIsFaulty r = (t : WorldTold r) × (length t.bytes ≤ limit) × ((w : World) → world_file.SpellsWorld t.bytes w → ⊥)

-- its world file spells a world
pub record WorldSpelled (r : Run) : Type 0 where
  pub before : WorldTold r
  pub short : length before.bytes ≤ limit
  pub world : World
  pub spelled : world_file.SpellsWorld before.bytes world

-- a second policy file is told where the question takes two sets
pub record AgainstNamed (r : Run) : Type 0 where
  pub before : QuestionSpelled r
  pub file : List ℕ
  pub named : before.name ≡ Some file
  pub bytes : List ℕ
  pub told : r.content file ≡ Some bytes

abbrev pub AgainstIsLong : Run → Type 0
AgainstIsLong r = (t : AgainstNamed r) × (limit < length t.bytes)

abbrev pub AgainstIsFaulty : Run → Type 0
AgainstIsFaulty r = (t : AgainstNamed r) × (length t.bytes ≤ limit) × ((ps : List Policy) → Spells t.bytes ps → ⊥)

-- all files are read, and the policies write a name that isn't declared
abbrev pub NamesAreUnknown : Run → Type 0
NamesAreUnknown r =
    ((t : WorldSpelled r) × ((f : NameFault) × (name_fault t.before.schema t.before.policies ≡ Some f)))
    ⊎ ((t : AllSpelled r) × (names_fault t.before.before.schema t.before.policies t.others ≢ None))

-- a question is asked of policies that write declared names alone, and one of them isn't typed
abbrev pub PoliciesAreUntyped : Run → Type 0
PoliciesAreUntyped r =
    (t : AllSpelled r) × (names_fault t.before.before.schema t.before.policies t.others ≡ None)
    × (types_fault t.before.before.schema t.before.policies t.others ≢ None)

abbrev pub IsReplayable : Run → Type 0
IsReplayable r = (t : WorldSpelled r) × (name_fault t.before.schema t.before.policies ≡ None)

-- the whole report on the world is written, and the status says whether it is well-formed; or memory ran out
abbrev pub IsReplayed : (r : Run) → IsReplayable r → Type 0
IsReplayed r x =
    ((found : Option Break) × Finds (scene x.0.before.schema x.0.before.policies x.0.world) found
    × (r.code ≡ status_of found)
    × (r.after ≡ all_appended r.before (lines_of (scene x.0.before.schema x.0.before.policies x.0.world) found)))
    ⊎ (r.code ≡ 30)

-- how a refusal ends: its line is written whole, or a front of it, or memory runs out and nothing is written
abbrev pub Refuses : Refusal → Written → Written → Type 0 → ℕ → Type 0
Refuses a old new rose code =
    ((code ≡ code_of a) × (new ≡ appended old (refusal_text a)))
    ⊎ ((rose × (code ≡ 21) × ((n : ℕ) × (new ≡ appended old (take n (refusal_text a))))) ⊎ ((code ≡ 30) × (new ≡ old)))

-- how checking the log of a claim ends: what is said of it is written, as far as it came; or it is refused
abbrev pub ChecksClaim : Claim → Env → Content → (List ℕ → Type 0) → Written → Written → Type 0 → ℕ → Type 0
ChecksClaim claim env content failed old new rose code =
    Checked (content claim.log.now) (asked_within claim.asking 0) env old new rose code
    ⊎ ((a : Refusal) × RefusesLog content claim.log.now failed a × Refuses a old new rose code)
