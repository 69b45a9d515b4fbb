-- What is promised of each run.
use Rattle.std.specs.Prelude.{◌≡◌, ◌⊎◌, List}
use Rattle.std.specs.List.{Contains}
use Rattle.sc_clauses.specs.declared.step.Step.{Step}
use Rattle.sc_inputs.specs.Serving.{IsNoCommand}
use Rattle.sc_run.specs.Runs.{Run, HasRisen, WentUp, Ends, AllWell, AllHold, AsksGenerated, AsksQuestion, GeneratedHold, GeneratedOpen, ChecksLog, WritesLog, ReducesSet, ReplaysWorld, IsMisplaced, IsWell, LogIsAccepted, LogIsLong, LogIsRejected, LogIsWritten, PlaceIsMissing, SetIsReduced, SomeFails, SomeLeft, IsOfGenerated, IsOfLog, IsBroken, IsReadable, IsWholeFor, IsReplayable, IsReplayed, MustBe, TooLong, SchemaIsLong, SchemaIsFaulty, PoliciesAreLong, PoliciesAreFaulty, AgainstIsLong, AgainstIsFaulty, PoliciesAreUntyped, WorldIsLong, WorldIsFaulty, NamesAreUnknown, IsFaulty, IsFaultySchema, IsFaultyWorld, IsUntyped, LogIsRight, LogIsWrong, MustSay, IsUnread}

-- no read failed, and no write did
abbrev pub AllRead : Run → Type 0
AllRead r = ¬ HasRisen r.reads

abbrev pub AllWritten : Run → Type 0
AllWritten r = ¬ HasRisen r.writes

-- The logs are those that the run answers with.
pub record Promises (r : Run) (logs : List (List Step)) : Type 0 where
  -- How it ends, whatever comes: what is written, and the status.
  pub ends : Ends r logs
  -- 0 comes only where each environment is reported to hold: each of its well-formed worlds has the property; or
  -- where a world is replayed that is well-formed for an environment of the schema; or where a log is written that
  -- shows the property of the environment that is named, or is accepted for it; or where a policy set is reduced, and
  -- of each policy it is known whether it matters; or where generated policies are found to be equivalent to the same
  -- in reverse order.
  pub holds : r.code ≡ 0 → AllWell r
  -- Of a question 0 says that each well-formed world of each environment has the property.
  pub always : AsksQuestion r → r.code ≡ 0 → AllHold r
  -- Of a replay 0 says that the world is well-formed.
  pub well_formed : ReplaysWorld r → r.code ≡ 0 → IsWell r
  -- Where a log is to be written 0 says that it is, and shows that each well-formed world of the environment has the
  -- property.
  pub written : WritesLog r → r.code ≡ 0 → LogIsWritten r
  -- Where a log is to be checked 0 says that it is accepted, and that means, whatever bytes the log file has: each
  -- well-formed world of the environment has the property.
  pub accepted : ChecksLog r → r.code ≡ 0 → LogIsAccepted r
  -- 14 comes only where a log is checked and rejected, at its least step at fault and for what that step lacks.
  pub rejected : r.code ≡ 14 → LogIsRejected r
  -- A log that is accepted is said to be, and one that isn't is rejected, unless the environment's problem is too
  -- large or memory ran out, where no read or write failed.
  pub right : LogIsRight r → AllRead r → AllWritten r → MustSay 0 r.code
  pub wrong : LogIsWrong r → AllRead r → AllWritten r → MustSay 14 r.code
  -- 1 comes only where a line prints a counterexample: a well-formed world of its environment that lacks the property.
  pub counterexample : r.code ≡ 1 → SomeFails r
  -- 2 comes only where no line prints a counterexample and some line says `unknown` or `over limit`, of a question or
  -- of generated policies; or where a policy set is reduced, and of some policy it isn't known whether it matters.
  pub undecided : r.code ≡ 2 → SomeLeft r
  -- Where a policy set is to be reduced 0 and 2 say that it is: the whole report is written, and the status is 2
  -- exactly where a line says `unproved` or `over limit`.
  pub reduced : ReducesSet r → (r.code ≡ 0) ⊎ (r.code ≡ 2) → SetIsReduced r
  -- Of generated policies 0 says that their summary and a whole report are written, and that in each well-formed
  -- world of each environment they decide the same in either order. 2 says that both are written, and that some line
  -- says `unknown` or `over limit`.
  pub generated : AsksGenerated r → r.code ≡ 0 → GeneratedHold r
  pub generated_open : AsksGenerated r → r.code ≡ 2 → GeneratedOpen r
  -- And there is no other status, but where the write failed or memory ran out.
  pub generated_status : AsksGenerated r → IsOfGenerated r.code
  -- Each log is of an environment that is reported as unknown, or of a policy that is reported as unproved: as many
  -- units as the budget, each lawful, new and true, and one more step is due.
  pub spent : (log : List Step) → Contains logs log → IsOfLog r log
  -- 3 comes only where a world is replayed, and its report tells what keeps it from being well-formed, first of all.
  pub replayed : r.code ≡ 3 → IsBroken r
  -- Where all files of a question are told, short enough and spelled, the policies are declared and typed, and no
  -- read or write failed, the schema has the environment that is named, where one is, and the log that is to be
  -- checked, where one is, is told and short enough, all that is asked for is written or memory ran out.
  pub complete : (x : IsReadable r) → AllRead r → AllWritten r → IsWholeFor x.served.0.before.aim r.code
  -- Where all files of a replay are so, and the policies write declared names alone, the whole report on the world is
  -- written, and the status says whether the world is well-formed; or memory ran out.
  pub complete_replay : (x : IsReplayable r) → AllRead r → AllWritten r → IsReplayed r x
  -- Words that are no command are refused, and nothing else is refused so.
  pub unusable : IsNoCommand r.words → MustBe 10 r.code
  pub usage : r.code ≡ 10 → IsNoCommand r.words
  -- Files that are too long or spell nothing are refused, and so are policies that write undeclared names or are
  -- ill-typed, where no read failed.
  pub schema_is_long : SchemaIsLong r → AllRead r → MustBe 22 r.code
  pub schema_is_faulty : SchemaIsFaulty r → AllRead r → MustBe 12 r.code
  pub policies_are_long : PoliciesAreLong r → AllRead r → MustBe 22 r.code
  pub policies_are_faulty : PoliciesAreFaulty r → AllRead r → MustBe 11 r.code
  pub against_is_long : AgainstIsLong r → AllRead r → MustBe 22 r.code
  pub against_is_faulty : AgainstIsFaulty r → AllRead r → MustBe 11 r.code
  pub world_is_long : WorldIsLong r → AllRead r → MustBe 22 r.code
  pub world_is_faulty : WorldIsFaulty r → AllRead r → MustBe 17 r.code
  pub names_are_unknown : NamesAreUnknown r → AllRead r → MustBe 13 r.code
  pub policies_are_untyped : PoliciesAreUntyped r → AllRead r → MustBe 13 r.code
  -- An environment that is named and isn't there is refused, and so is a log that is too long.
  pub place_is_missing : PlaceIsMissing r → AllRead r → MustBe 16 r.code
  pub log_is_long : LogIsLong r → AllRead r → MustBe 22 r.code
  -- A failure is told: no read or write that failed is passed over.
  pub read_told : WentUp r.reads → MustBe 20 r.code
  pub write_told : WentUp r.writes → r.code ≡ 21
  -- The cause of each status.
  pub policy_fault : r.code ≡ 11 → IsFaulty r
  pub schema_fault : r.code ≡ 12 → IsFaultySchema r
  pub untyped : r.code ≡ 13 → IsUntyped r
  pub misplaced : r.code ≡ 16 → IsMisplaced r
  pub world_fault : r.code ≡ 17 → IsFaultyWorld r
  pub read_fault : r.code ≡ 20 → IsUnread r
  pub write_fault : r.code ≡ 21 → HasRisen r.writes
  pub too_long : r.code ≡ 22 → TooLong r
