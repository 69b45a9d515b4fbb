-- What a run's end tells.
use Rattle.std.proofs.Common.{◌≡◌, ◌≤◌, ◌<◌, ◌==◌, ◌↔◌, ◌++◌, ℕ, zero, suc, List, [], ◌∷◌, map, Bool, true, false, Option, Some, None, Contains, length, slice_get, refl, sym, ap, ◌∙◌, subst, arith, ⊎_elim, inl, inr, ◌⊎◌}
use Rattle.std.specs.Bool.{⊤}
use Rattle.std.specs.List.{AllByRecursion}
use Rattle.std.proofs.lemmas.Bool.{or_cases}
use Rattle.std.proofs.lemmas.List.Elements.{Contains-append_left}
use Rattle.sc_laws.proofs.BoolLaws.{or_first, or_second}
use Rattle.sc_replay.specs.Reports as outcome
use Rattle.sc_schema.specs.declared.declarations.Env.{Env}
use Rattle.sc_schema.specs.Declarations.{Declarations, environments}
use Rattle.sc_ast.specs.Literals.{literals}
use Rattle.sc_ast.specs.declared.policy.Policy.{Policy}
use Rattle.sc_clauses.specs.declared.step.Step.{Step}
use Rattle.sc_names.specs.declared.uid.Uid.{Uid}
use Rattle.sc_question.specs.declared.question.Question.{Question}
use Rattle.sc_world.specs.declared.world.World.{World}
use Rattle.sc_world.specs.Stores.{IsMap}
use Rattle.sc_world.specs.WellFormed.{IsWellFormed}
use Rattle.sc_replay.specs.Breaks.{IsFirstBreak}
use Rattle.sc_replay.specs.declared.breaks.Break.{Break}
use Rattle.sc_world_json.specs.Reading as world
use Rattle.sc_inputs.specs.Serving.{Aim, Command, Generates, IsNoCommand, Serves, checking, logging, reducing, reporting, against_in, world_in, log_in}
use Rattle.sc_inputs.proofs.ReadingLaws.{log_rises}
use Rattle.sc_inputs.specs.declared.inputs.Claim.{Claim}
use Rattle.sc_inputs.specs.Refusals.{Content}
use Rattle.std.proofs.Math.Path.{fun_ext}
use Rattle.sc_run.specs.Runs.{ChecksClaim}
use Rattle.sc_inputs.proofs.ServingLaws.{same_task, not_both_tasks, not_generated, one_question, size_within}
use Rattle.sc_inputs.specs.Readings.{ReadsAll, ReadsWorld, IsReadFault}
use Rattle.sc_inputs.specs.View.{refusal_view}
use Rattle.sc_inputs.specs.declared.refusal.Refusal as answer
use Rattle.sc_inputs.specs.declared.refusal.Refusal.TheVariants as refusal
use Rattle.sc_lists.specs.declared.fault.Fault.TheVariants.{Told}
use Rattle.sc_inputs.specs.Refusals.{Refusal, refusal_text, policies_side, against_side, usage, schema_text, policy_text, world_text, unknown_name, ill_typed, read_fault, too_long, IsRefusal, no_command, of_schema, of_policies, of_against, of_world, of_names, of_log, of_place, of_question, no_environment, AreServed, ReachesAim, RefusesLog, log_unread, RefusesPlace, misplaced, RefusesQuestion, unread, long, RefusesSchema, schema_unread, schema_faulty, RefusesPolicies, policies_unread, RefusesWorld, world_unread, world_faulty, code_of, ReadsSchema, ReachesQuestion, ReachesWorld}
use Rattle.sc_inputs.specs.Refusals as spec
use Rattle.sc_reports.specs.Analyses.{asked}
use Rattle.sc_reports.specs.Claims.{Answer, Checked, Claims, IsShort, accepted, answer_code, answer_front, answer_text, answer_whole, rejected, too_large, unchecked}
use Rattle.sc_reports.specs.Logs.{Logged, log_first, log_front, log_whole, other_front, other_whole, unlogged}
use Rattle.sc_reports.specs.Progress.{Reported, whole, cut, cut_none, stopped}
use Rattle.sc_command.specs.CommandLine.{generate}
use Rattle.sc_run.specs.Generates.{IsGenerated, Summed, summary, summary_cut, summed, unsummed}
use Rattle.sc_run.specs.Reduces.{Reduced, to_reduce, reduced_whole, reduced_front, reduced_first, unreduced}
use Rattle.sc_run.proofs.ReductionLaws.{ReducedCode, fate-logged, reduction-codes}
use Rattle.sc_run.specs.Replays.{Replayed, told_whole, told_front, told_first, untold}
use Rattle.sc_outside.specs.Writes.{Written, all_appended, appended}
use Rattle.sc_reports.specs.Reports.{Asked, IsReport, line_text, report_texts, Line, Verdict, holds, counterexample, unknown, over_limit, IsLine, AlwaysHas, Violates, IsUndecided, is_counterexample, is_open, has_counterexample, has_open, status_by, status_of, log_of, logs_of}
use Rattle.sc_run.specs.Runs.{Run, HasRisen, Ends, refused, refusal_cut, generated, reduced, reported, replayed, wrote_log, checked_log, no_memory, scene, asked_about, asked_for, listed, IsReporting, IsLogging, IsChecking, IsReducing, AsksFor, ChecksLog, WritesLog, ReducesSet, SetIsReduced, SomeLeft, AsksGenerated, GeneratedHold, GeneratedOpen, GeneratedReports, IsGeneratedLogged, IsOfGenerated, IsOfLog, LogIsAccepted, LogIsRejected, LogIsWritten, SaysOf, IsMisplaced, log_long, Refuses, MustBe, Reports, AllHold, Tells, IsWell, AllWell, AsksQuestion, ReplaysWorld, SomeFails, SomeOpen, IsLogged, IsBroken, ReachesAgainst, TooLong, schema_long, policies_long, against_long, world_long, IsFaulty, policies_faulty, against_faulty, IsFaultySchema, IsFaultyWorld, IsUntyped, undeclared, untyped, FailsFor, IsUnread, IsUnreadFile}

pub refusal-ends : (r : Run) (spent : List (List Step)) (a : Refusal) (n : ℕ) → IsRefusal r.content r.words (FailsFor r) a → Refuses a r.before r.after (HasRisen r.writes) n → r.code ≡ n → spent ≡ [] → Ends r spent
refusal-ends r spent a n h e is none =
    ⊎_elim (λ w. refused a h (is ∙ w.0) w.1 none) (λ s. ⊎_elim (λ f. refusal_cut a f.2.0 h f.0 (is ∙ f.1) f.2.1 none) (λ m. no_memory (is ∙ m.0) m.1 none) s) e

pub replay-ends : (r : Run) (spent : List (List Step)) (s : Declarations) (ps : List Policy) (w : World) (n : ℕ) → ReadsWorld r.content r.words s ps w → Replayed (scene s ps w) r.before r.after (HasRisen r.writes) n → r.code ≡ n → spent ≡ [] → Ends r spent
replay-ends r spent s ps w n reads h is none = replayed s ps w reads (subst (λ (k : ℕ). Replayed (scene s ps w) r.before r.after (HasRisen r.writes) k) (sym is) h) none

pub log-ends : (r : Run) (spent : List (List Step)) (s : Declarations) (question : Question) (first : List Policy) (against : Option (List Policy)) (place : ℕ) (name : List ℕ) (env : Env) (n : ℕ) → ReadsAll r.content r.words s question first against (checking place name)
    → slice_get (environments s) place ≡ Some env → Checked (r.content name) (asked s question first against 0) env r.before r.after (HasRisen r.writes) n → r.code ≡ n → spent ≡ [] → Ends r spent
log-ends r spent s question first against place name env n reads at report is none =
    checked_log s question first against place name env reads at (subst (λ (k : ℕ). Checked (r.content name) (asked s question first against 0) env r.before r.after (HasRisen r.writes) k) (sym is) report) none

-- a check of a log ends with what is said of it, or the log is refused
pub claim-ends : (r : Run) (spent : List (List Step)) (claim : Claim) (env : Env) (content : Content) (risen : List ℕ → Type 0) (n : ℕ)
    → ReadsAll r.content r.words claim.asking.schema claim.asking.question claim.asking.policies claim.asking.against (checking claim.environment claim.log.now)
    → slice_get (environments claim.asking.schema) claim.environment ≡ Some env → ((file : List ℕ) → content file ≡ r.content file) → ((file : List ℕ) → risen file → FailsFor r file)
    → ChecksClaim claim env content risen r.before r.after (HasRisen r.writes) n → r.code ≡ n → spent ≡ [] → Ends r spent
claim-ends r spent claim env content risen n reads at same since h is none =
    let i = claim.asking in
    let name = claim.log.now in
    ⊎_elim (λ c. log-ends r spent i.schema i.question i.policies i.against claim.environment name env n reads at
    (subst (λ (o : Option (List ℕ)). Checked o (asked i.schema i.question i.policies i.against 0) env r.before r.after (HasRisen r.writes) n) (same name) c) is none)
    (λ (x : (a : Refusal) × RefusesLog content name risen a × Refuses a r.before r.after (HasRisen r.writes) n).
    let here = subst (λ (c : Content). RefusesLog c name risen x.0) (fun_ext same) x.1 in
    refusal-ends r spent x.0 n (of_log x.0 i.schema i.question i.policies i.against claim.environment name reads.reached (log_rises since r.content name x.0 here)) x.2 is none) h

-- the environment at a place that is within the list
pub found-at : (xs : List Env) (k : ℕ) → k < length xs → (env : Env) × (slice_get xs k ≡ Some env)
found-at [] k h = absurd (omega (arith, h))
found-at (x ∷ xs) zero h = (x, refl)
found-at (x ∷ xs) (suc k) h = found-at xs k (omega (arith, h))

-- a refusal ends with its status, unless the write failed or memory ran out
pub refused-must : (a : Refusal) (old new : Written) (rose : Type 0) (n : ℕ) → Refuses a old new rose n → MustBe (code_of a) n
refused-must a old new rose n h = ⊎_elim (λ w. inl w.0) (λ s. ⊎_elim (λ f. inr (inl f.1)) (λ m. inr (inr m.0)) s) h

-- the status of a file that couldn't be read
unread-code : (r : answer.Refusal) → IsReadFault (Told r) → code_of (refusal_view r) ≡ 20
unread-code refusal.Usage h = absurd h
unread-code (refusal.SchemaText f) h = absurd h
unread-code (refusal.PolicyText s f) h = absurd h
unread-code (refusal.WorldText f) h = absurd h
unread-code (refusal.UnknownName s f) h = absurd h
unread-code (refusal.IllTyped s f) h = absurd h
unread-code (refusal.NoEnvironment place count) h = absurd h
unread-code (refusal.ReadFault f) h = refl
unread-code (refusal.TooLong f) h = absurd h

pub unread-must : (r : answer.Refusal) (old new : Written) (rose : Type 0) (n code : ℕ) → IsReadFault (Told r) → Refuses (refusal_view r) old new rose n → code ≡ n → MustBe 20 code
unread-must r old new rose n code h refuses is =
    subst (λ (k : ℕ). MustBe 20 k) (sym is) (subst (λ (k : ℕ). MustBe k n) (unread-code r h) (refused-must (refusal_view r) old new rose n refuses))

-- ---- statuses

none-found : (a b : Bool) → status_by a b ≡ 0 → (a ≡ false) × (b ≡ false)
none-found true b e = absurd (omega arith)
none-found false true e = absurd (omega arith)
none-found false false e = (refl, refl)

some-found : (a b : Bool) → status_by a b ≡ 1 → a ≡ true
some-found true b e = refl
some-found false true e = absurd (omega arith)
some-found false false e = absurd (omega arith)

open-found : (a b : Bool) → status_by a b ≡ 2 → (a ≡ false) × (b ≡ true)
open-found true b e = absurd (omega arith)
open-found false true e = (refl, refl)
open-found false false e = absurd (omega arith)

status-three : (a b : Bool) → status_by a b ≤ 2
status-three true b = omega arith
status-three false true = omega arith
status-three false false = omega arith

-- a whole report ends with 0, 1 or 2
pub status-code : (lines : List Line) (code : ℕ) → code ≡ status_of lines → code ≤ 2
status-code lines code c = let most = status-three (has_counterexample lines) (has_open lines) in omega (arith, c, most)

-- the status of a refusal is none of those that a report ends with
record IsOfRefusal (n : ℕ) : Type 0 where
  pub least : 10 ≤ n
  pub most : n < 30
  pub no_write : n ≡ 21 → ⊥

refusal-code : (a : Refusal) → IsOfRefusal (code_of a)
refusal-code usage = record { least = omega arith; most = omega arith; no_write = λ e. absurd (omega (arith, e)) }
refusal-code (schema_text f) = record { least = omega arith; most = omega arith; no_write = λ e. absurd (omega (arith, e)) }
refusal-code (policy_text side f) = record { least = omega arith; most = omega arith; no_write = λ e. absurd (omega (arith, e)) }
refusal-code (world_text f) = record { least = omega arith; most = omega arith; no_write = λ e. absurd (omega (arith, e)) }
refusal-code (unknown_name side f) = record { least = omega arith; most = omega arith; no_write = λ e. absurd (omega (arith, e)) }
refusal-code (ill_typed side f) = record { least = omega arith; most = omega arith; no_write = λ e. absurd (omega (arith, e)) }
refusal-code (no_environment place count) = record { least = omega arith; most = omega arith; no_write = λ e. absurd (omega (arith, e)) }
refusal-code (read_fault f) = record { least = omega arith; most = omega arith; no_write = λ e. absurd (omega (arith, e)) }
refusal-code (too_long f) = record { least = omega arith; most = omega arith; no_write = λ e. absurd (omega (arith, e)) }

-- ---- whole reports

line-holds : (q : Asked) (env : Env) (v : Verdict) → is_counterexample v ≡ false → is_open v ≡ false → IsLine q (record { env = env; verdict = v }) → AlwaysHas q env
line-holds q env holds e o t = t.0
line-holds q env (counterexample w) e o t = absurd cc
line-holds q env (unknown units log) e o t = absurd cc
line-holds q env over_limit e o t = absurd cc

lines-hold : (q : Asked) (lines : List Line) → has_counterexample lines ≡ false → has_open lines ≡ false → AllByRecursion (IsLine q) lines → (env : Env) → Contains (map (λ (l : Line). l.env) lines) env → AlwaysHas q env
lines-hold q [] e o t env (k, h, s) = absurd (omega arith)
lines-hold q (l ∷ lines) e o t env (zero, h, s) = subst (AlwaysHas q) s (line-holds q l.env l.verdict (or_first _ _ e) (or_first _ _ o) t.0)
lines-hold q (l ∷ lines) e o t env (suc k, h, s) =
    lines-hold q lines (or_second (is_counterexample l.verdict) _ e) (or_second (is_open l.verdict) _ o) t.1 env (k, omega arith, s)

record Printed (q : Asked) (lines : List Line) : Type 0 where
  pub env : Env
  pub world : World
  pub printed : Contains lines (record { env = env; verdict = counterexample world })
  pub violates : Violates q env world

line-fails : (q : Asked) (l : Line) (lines : List Line) (v : Verdict) → l.verdict ≡ v → is_counterexample v ≡ true → IsLine q l → Printed q (l ∷ lines)
line-fails q l lines holds s e t = absurd cc
line-fails q l lines (unknown units log) s e t = absurd cc
line-fails q l lines over_limit s e t = absurd cc
line-fails q l lines (counterexample w) s e t =
    let with_verdict : Verdict → Line = λ v. record { env = l.env; verdict = v } in
    let same : l ≡ record { env = l.env; verdict = counterexample w } = ap with_verdict s in
    record { env = l.env; world = w; printed = (0, omega arith, same); violates = (subst (IsLine q) same t).0 }

printed-later : (q : Asked) (l : Line) (lines : List Line) → Printed q lines → Printed q (l ∷ lines)
printed-later q l lines p = record { env = p.env; world = p.world; printed = (suc p.printed.0, omega (arith, p.printed.1), p.printed.2); violates = p.violates }

lines-fail : (q : Asked) (lines : List Line) → has_counterexample lines ≡ true → AllByRecursion (IsLine q) lines → Printed q lines
lines-fail q [] e t = absurd cc
lines-fail q (l ∷ lines) e t =
    ⊎_elim (λ (h : is_counterexample l.verdict ≡ true). line-fails q l lines l.verdict refl h t.0) (λ h. printed-later q l lines (lines-fail q lines h t.1)) (or_cases (is_counterexample l.verdict) (has_counterexample lines) e)

-- ---- the logs of a report

-- a log of the budget's units, of the problem of one of these environments
record LogOf (q : Asked) (envs : List Env) (log : List Step) : Type 0 where
  pub env : Env
  pub listed : Contains envs env
  pub undecided : IsUndecided q env q.budget log

abbrev envs_of : List Line → List Env
envs_of lines = map (λ (l : Line). l.env) lines

logged-later : (q : Asked) (l : Line) (lines : List Line) (log : List Step) → LogOf q (envs_of lines) log → LogOf q (envs_of (l ∷ lines)) log
logged-later q l lines log x = record { env = x.env; listed = (suc x.listed.0, omega (arith, x.listed.1), x.listed.2); undecided = x.undecided }

logged-here : (q : Asked) (l : Line) (lines : List Line) (v : Verdict) (log : List Step) → l.verdict ≡ v → IsLine q l → Contains (log_of v ++ logs_of lines) log → (Contains (logs_of lines) log → LogOf q (envs_of lines) log)
    → LogOf q (envs_of (l ∷ lines)) log
logged-here q l lines holds log at t among later = logged-later q l lines log (later among)
logged-here q l lines (counterexample w) log at t among later = logged-later q l lines log (later among)
logged-here q l lines over_limit log at t among later = logged-later q l lines log (later among)
logged-here q l lines (unknown units first) log at t (zero, h, is) later =
    let with_verdict : Verdict → Line = λ v. record { env = l.env; verdict = v } in
    let same : l ≡ record { env = l.env; verdict = unknown units first } = ap with_verdict at in
    let claim = subst (IsLine q) same t in
    record { env = l.env; listed = (0, omega arith, refl); undecided = subst (IsUndecided q l.env q.budget) is (subst (λ n. IsUndecided q l.env n first) claim.0 claim.1) }
logged-here q l lines (unknown units first) log at t (suc k, h, is) later = logged-later q l lines log (later (k, omega arith, is))

logged-in : (q : Asked) (lines : List Line) (log : List Step) → AllByRecursion (IsLine q) lines → Contains (logs_of lines) log → LogOf q (envs_of lines) log
logged-in q [] log t (k, h, is) = absurd (omega arith)
logged-in q (l ∷ lines) log t among = logged-here q l lines l.verdict log refl t.0 among (λ later. logged-in q lines log t.1 later)

front-true : (q : Asked) (lines more : List Line) → AllByRecursion (IsLine q) (lines ++ more) → AllByRecursion (IsLine q) lines
front-true q [] more t = tt
front-true q (l ∷ lines) more t = (t.0, front-true q lines more t.1)

front-listed : (es rest : List Env) (env : Env) → Contains es env → Contains (es ++ rest) env
front-listed [] rest env (k, h, is) = absurd (omega arith)
front-listed (e ∷ es) rest env (zero, h, is) = (0, omega arith, is)
front-listed (e ∷ es) rest env (suc k, h, is) = let later = front-listed es rest env (k, omega arith, is) in (suc later.0, omega (arith, later.1), later.2)

envs-front : (lines more : List Line) → envs_of (lines ++ more) ≡ envs_of lines ++ envs_of more
envs-front [] more = refl
envs-front (l ∷ lines) more = ap (λ es. l.env ∷ es) (envs-front lines more)

logged-among : (q : Asked) (es envs : List Env) (log : List Step) → es ≡ envs → LogOf q es log → LogOf q envs log
logged-among q es envs log is x = subst (λ us. LogOf q us log) is x

logged-before : (q : Asked) (es rest envs : List Env) (log : List Step) → es ++ rest ≡ envs → LogOf q es log → LogOf q envs log
logged-before q es rest envs log is x = logged-among q (es ++ rest) envs log is (record { env = x.env; listed = front-listed es rest x.env x.listed; undecided = x.undecided })

among-logs : (q : Asked) (lines : List Line) (spent : List (List Step)) (log : List Step) → spent ≡ logs_of lines → AllByRecursion (IsLine q) lines → Contains spent log → LogOf q (envs_of lines) log
among-logs q lines spent log is t among = logged-in q lines log t (subst (λ logs. Contains logs log) is among)

none-spent : (spent : List (List Step)) (log : List Step) → spent ≡ [] → Contains spent log → ⊥
none-spent spent log is among = let none = subst (λ logs. Contains logs log) is among in omega (arith, none.1)

logged-reported : (q : Asked) (old new : Written) (rose : Type 0) (code : ℕ) (spent : List (List Step)) (log : List Step) → Reported q old new rose code spent → Contains spent log → LogOf q (environments q.schema) log
logged-reported q old new rose code spent log (whole lines report c text logs) among = logged-among q (envs_of lines) (environments q.schema) log report.in_order (among-logs q lines spent log logs report.lines_true among)
logged-reported q old new rose code spent log (cut lines next n front risen c text logs) among =
    let here = among-logs q lines spent log logs (front-true q lines (next ∷ []) front.lines_true) among in
    logged-before q (envs_of (lines ++ next ∷ [])) front.rest (environments q.schema) log front.in_order
    (logged-before q (envs_of lines) (envs_of (next ∷ [])) (envs_of (lines ++ next ∷ [])) log (sym (envs-front lines (next ∷ []))) here)
logged-reported q old new rose code spent log (cut_none n none risen c text logs) among = absurd (none-spent spent log logs among)
logged-reported q old new rose code spent log (stopped lines front c text logs) among =
    logged-before q (envs_of lines) front.rest (environments q.schema) log front.in_order (among-logs q lines spent log logs front.lines_true among)

none-but : (v : Verdict) (log : List Step) → Contains (log_of v) log → Contains (log_of v ++ []) log
none-but v log among = Contains-append_left (log_of v) [] log among

listed-as : (s : Declarations) (place : ℕ) (env : Env) → slice_get (environments s) place ≡ Some env → env ∷ [] ≡ listed (slice_get (environments s) place)
listed-as s place env at = ap listed (sym at)

-- the log of a line that is written in place of a log
other-logged : (r : Run) (spent : List (List Step)) (s : Declarations) (question : Question) (first : List Policy) (against : Option (List Policy)) (budget place : ℕ) (env : Env) → ReadsAll r.content r.words s question first against (logging budget place)
    → slice_get (environments s) place ≡ Some env → Logged (asked s question first against budget) env r.before r.after (HasRisen r.writes) r.code spent → (log : List Step) → Contains spent log → IsLogged r log
other-logged r spent s question first against budget place env reads at (log_whole shown shows c text none) log among = absurd (none-spent spent log none among)
other-logged r spent s question first against budget place env reads at (log_front shown lines next rest n shows order rose c text none) log among = absurd (none-spent spent log none among)
other-logged r spent s question first against budget place env reads at (log_first shown lines rest shows order c text none) log among = absurd (none-spent spent log none among)
other-logged r spent s question first against budget place env reads at (other_whole l other c text logs) log among =
    let q = asked s question first against budget in
    let x = logged-in q (l ∷ []) log (other.line_true, tt) (none-but l.verdict log (subst (λ ls. Contains ls log) logs among)) in
    let here : l.env ∷ [] ≡ listed (slice_get (environments s) place) = ap (λ e. e ∷ []) other.env_is ∙ listed-as s place env at in
    record { schema = s; question = question; first = first; against = against; aim = logging budget place; reads = reads; env = x.env; listed = subst (λ es. Contains es x.env) here x.listed; undecided = x.undecided }
other-logged r spent s question first against budget place env reads at (other_front l n other rose c text none) log among = absurd (none-spent spent log none among)
other-logged r spent s question first against budget place env reads at (unlogged c text none) log among = absurd (none-spent spent log none among)

-- the log of a line of generated policies
generated-logged : (r : Run) (spent : List (List Step)) (size : ℕ) → Generates r.words size → Summed size r.before r.after (HasRisen r.writes) r.code spent → (log : List Step) → Contains spent log → IsGeneratedLogged r log
generated-logged r spent size commands (summed q is report) log among =
    let x = logged-reported q (appended r.before (summary size)) r.after (HasRisen r.writes) r.code spent log report among in
    record { size = size; commands = commands; asks = q; is_generated = is; env = x.env; listed = x.listed; undecided = subst (λ (units : ℕ). IsUndecided q x.env units log) is.budget x.undecided }
generated-logged r spent size commands (summary_cut n rose c text none) log among = absurd (none-spent spent log none among)
generated-logged r spent size commands (unsummed c text none) log among = absurd (none-spent spent log none among)

-- each log is of an environment that is asked about, or of a policy for which the budget was spent
pub logged : (r : Run) (spent : List (List Step)) → Ends r spent → (log : List Step) → Contains spent log → IsOfLog r log
logged r spent (refused a h c t none) log among = absurd (none-spent spent log none among)
logged r spent (refusal_cut a n h rose c t none) log among = absurd (none-spent spent log none among)
logged r spent (reported s question first against budget reads report) log among =
    let x = logged-reported (asked s question first against budget) r.before r.after (HasRisen r.writes) r.code spent log report among in
    inl (record { schema = s; question = question; first = first; against = against; aim = reporting budget; reads = reads; env = x.env; listed = x.listed; undecided = x.undecided })
logged r spent (wrote_log s question first against budget place env reads at report) log among = inl (other-logged r spent s question first against budget place env reads at report log among)
logged r spent (checked_log s question first against place name env reads at report none) log among = absurd (none-spent spent log none among)
logged r spent (replayed s ps w reads report none) log among = absurd (none-spent spent log none among)
logged r spent (reduced s question first against budget reads report) log among =
    let x = fate-logged (to_reduce s first budget) r.before r.after (HasRisen r.writes) r.code spent report log among in
    inr (inl (record {
      schema = s;
      question = question;
      policies = first;
      against = against;
      budget = budget;
      reads = reads;
      fates = x.fates;
      is_reduction = x.is_reduction;
      place = x.place;
      env = x.env;
      listed = x.listed;
      undecided = x.undecided;
    }))
logged r spent (generated size commands report) log among = inr (inr (generated-logged r spent size commands report log among))
logged r spent (no_memory c t none) log among = absurd (none-spent spent log none among)

-- ---- what is written of one environment

-- where a log is to be written, a whole report is written, or the write failed, or memory ran out
abbrev WrittenCode : ℕ → Type 0 → Type 0
WrittenCode code rose = (code ≤ 2) ⊎ (((code ≡ 21) × rose) ⊎ (code ≡ 30))

logged-codes : (q : Asked) (env : Env) (old new : Written) (rose : Type 0) (code : ℕ) (spent : List (List Step)) → Logged q env old new rose code spent → WrittenCode code rose
logged-codes q env old new rose code spent (log_whole log shows c text none) = inl (omega (arith, c))
logged-codes q env old new rose code spent (log_front log lines next rest n shows order risen c text none) = inr (inl (c, risen))
logged-codes q env old new rose code spent (log_first log lines rest shows order c text none) = inr (inr c)
logged-codes q env old new rose code spent (other_whole l other c text logs) = inl (status-code (l ∷ []) code c)
logged-codes q env old new rose code spent (other_front l n other risen c text none) = inr (inl (c, risen))
logged-codes q env old new rose code spent (unlogged c text none) = inr (inr c)

reported-codes : (q : Asked) (old new : Written) (rose : Type 0) (code : ℕ) (spent : List (List Step)) → Reported q old new rose code spent → WrittenCode code rose
reported-codes q old new rose code spent (whole lines report c text logs) = inl (status-code lines code c)
reported-codes q old new rose code spent (cut lines next n front risen c text logs) = inr (inl (c, risen))
reported-codes q old new rose code spent (cut_none n none risen c text logs) = inr (inl (c, risen))
reported-codes q old new rose code spent (stopped lines front c text logs) = inr (inr c)

-- the same of generated policies
summed-codes : (size : ℕ) (old new : Written) (rose : Type 0) (code : ℕ) (spent : List (List Step)) → Summed size old new rose code spent → WrittenCode code rose
summed-codes size old new rose code spent (summed q is report) = reported-codes q (appended old (summary size)) new rose code spent report
summed-codes size old new rose code spent (summary_cut n risen c text none) = inr (inl (c, risen))
summed-codes size old new rose code spent (unsummed c text none) = inr (inr c)

-- where a log is to be checked, it is said to be accepted or rejected, or not to be checked, or the write failed, or memory ran out
abbrev Said : ℕ → Type 0 → Type 0
Said code rose = ((code ≡ 14) ⊎ ((code ≡ 0) ⊎ (code ≡ 2))) ⊎ (((code ≡ 21) × rose) ⊎ (code ≡ 30))

answer-codes : (a : Answer) (code : ℕ) → code ≡ answer_code a → (code ≡ 14) ⊎ ((code ≡ 0) ⊎ (code ≡ 2))
answer-codes accepted code c = inr (inl c)
answer-codes (rejected step why) code c = inl c
answer-codes too_large code c = inr (inr c)

checked-codes : (content : Option (List ℕ)) (q : Asked) (env : Env) (old new : Written) (rose : Type 0) (code : ℕ) → Checked content q env old new rose code → Said code rose
checked-codes content q env old new rose code (answer_whole a short claims c text) = inl (answer-codes a code c)
checked-codes content q env old new rose code (answer_front a n short claims risen c text) = inr (inl (c, risen))
checked-codes content q env old new rose code (unchecked c text) = inr (inr c)

-- a status that isn't among these
none-written : (code : ℕ) (rose : Type 0) → WrittenCode code rose → 3 ≤ code → (code ≡ 21 → ⊥) → (code ≡ 30 → ⊥) → ⊥
none-written code rose w least f g = ⊎_elim (λ (h : code ≤ 2). omega (arith, h, least)) (λ x. ⊎_elim (λ (h : (code ≡ 21) × rose). f h.0) g x) w

none-said : (code : ℕ) (rose : Type 0) → Said code rose → (code ≡ 14 → ⊥) → (code ≡ 0 → ⊥) → (code ≡ 2 → ⊥) → (code ≡ 21 → ⊥) → (code ≡ 30 → ⊥) → ⊥
none-said code rose w a b d f g = ⊎_elim (λ x. ⊎_elim a (λ y. ⊎_elim b d y) x) (λ x. ⊎_elim (λ (h : (code ≡ 21) × rose). f h.0) g x) w

-- a status that no reduction ends with
none-reduced : (code : ℕ) (rose : Type 0) → ReducedCode code rose → (code ≡ 0 → ⊥) → (code ≡ 2 → ⊥) → (code ≡ 21 → ⊥) → (code ≡ 30 → ⊥) → ⊥
none-reduced code rose w a b f g = ⊎_elim (λ x. ⊎_elim a b x) (λ x. ⊎_elim (λ (h : (code ≡ 21) × rose). f h.0) g x) w

reduced-rose : (code : ℕ) (rose : Type 0) → ReducedCode code rose → code ≡ 21 → rose
reduced-rose code rose w e =
    ⊎_elim (λ x. absurd (⊎_elim (λ (h : code ≡ 0). omega (arith, h, e)) (λ (h : code ≡ 2). omega (arith, h, e)) x))
    (λ x. ⊎_elim (λ (h : (code ≡ 21) × rose). h.1) (λ (h : code ≡ 30). absurd (omega (arith, h, e))) x) w

written-rose : (code : ℕ) (rose : Type 0) → WrittenCode code rose → code ≡ 21 → rose
written-rose code rose w e = ⊎_elim (λ (h : code ≤ 2). absurd (omega (arith, h, e))) (λ x. ⊎_elim (λ (h : (code ≡ 21) × rose). h.1) (λ (h : code ≡ 30). absurd (omega (arith, h, e))) x) w

said-rose : (code : ℕ) (rose : Type 0) → Said code rose → code ≡ 21 → rose
said-rose code rose w e =
    ⊎_elim (λ x. absurd (⊎_elim (λ (h : code ≡ 14). omega (arith, h, e)) (λ y. ⊎_elim (λ (h : code ≡ 0). omega (arith, h, e)) (λ (h : code ≡ 2). omega (arith, h, e)) y) x))
    (λ x. ⊎_elim (λ (h : (code ≡ 21) × rose). h.1) (λ (h : code ≡ 30). absurd (omega (arith, h, e))) x) w

-- ---- what a status of a report tells

-- nothing keeps a world from being well-formed exactly where it is well-formed
abbrev pub Nowhere : Type 0
Nowhere = (s : Declarations) (us : List Uid) (w : World) → IsMap w.store → IsFirstBreak s us w None ↔ ((env : Env) × Contains (environments s) env × IsWellFormed s env us w)

-- in a world that bytes spell each uid is stored once
abbrev pub Stored : Type 0
Stored = (bytes : List ℕ) (w : World) → world.SpellsWorld bytes w → IsMap w.store

-- with a status below 10 a report is whole
record Whole (q : Asked) (old new : Written) (code : ℕ) : Type 0 where
  pub lines : List Line
  pub report : IsReport q (environments q.schema) lines
  pub is : code ≡ status_of lines
  pub text : new ≡ all_appended old (report_texts lines)

whole-reported : (q : Asked) (old new : Written) (rose : Type 0) (code : ℕ) (spent : List (List Step)) → Reported q old new rose code spent → code < 10 → Whole q old new code
whole-reported q old new rose code spent (whole lines report c text logs) e = record { lines = lines; report = report; is = c; text = text }
whole-reported q old new rose code spent (cut lines next n front risen c text logs) e = absurd (omega (arith, c, e))
whole-reported q old new rose code spent (cut_none n none risen c text logs) e = absurd (omega (arith, c, e))
whole-reported q old new rose code spent (stopped lines front c text logs) e = absurd (omega (arith, c, e))

module _ (r : Run) (spent : List (List Step)) where
  reports-of : (s : Declarations) (question : Question) (first : List Policy) (against : Option (List Policy)) (budget : ℕ) → ReadsAll r.content r.words s question first against (reporting budget)
      → Whole (asked s question first against budget) r.before r.after r.code → Reports r
  reports-of s question first against budget reads x =
      record { schema = s; question = question; first = first; against = against; aim = reporting budget; reads = reads; lines = x.lines; report = x.report; text = x.text }

  -- one line, of the environment that is named
  line-of : (s : Declarations) (question : Question) (first : List Policy) (against : Option (List Policy)) (aim : Aim) (env : Env) → ReadsAll r.content r.words s question first against aim → env ∷ [] ≡ asked_about s aim
      → (l : Line) → IsLine (asked_for s question first against aim) l → l.env ≡ env → r.after ≡ appended r.before (line_text l) → Reports r
  line-of s question first against aim env reads about l true_line is text = record {
    schema = s;
    question = question;
    first = first;
    against = against;
    aim = aim;
    reads = reads;
    lines = l ∷ [];
    report = record { in_order = ap (λ e. e ∷ []) is ∙ about; lines_true = (true_line, tt) };
    text = text;
  }

  hold-reported : (s : Declarations) (question : Question) (first : List Policy) (against : Option (List Policy)) (budget : ℕ) → ReadsAll r.content r.words s question first against (reporting budget)
      → Reported (asked s question first against budget) r.before r.after (HasRisen r.writes) r.code spent → r.code ≡ 0 → AllHold r
  unfolding reports-of
  hold-reported s question first against budget reads report e =
      let q = asked s question first against budget in
      let x = whole-reported q r.before r.after (HasRisen r.writes) r.code spent report (omega (arith, e)) in
      let none = none-found (has_counterexample x.lines) (has_open x.lines) (sym x.is ∙ e) in
      record {
        told = reports-of s question first against budget reads x;
        of_all = tt;
        always = λ env h. lines-hold q x.lines none.0 none.1 x.report.lines_true env (subst (λ es. Contains es env) (sym x.report.in_order) h);
      }

  well-replayed : (s : Declarations) (ps : List Policy) (w : World) → ReadsWorld r.content r.words s ps w → Replayed (scene s ps w) r.before r.after (HasRisen r.writes) r.code → r.code ≡ 0 → Tells r None
  well-replayed s ps w reads (told_whole None finds c text) e = record { schema = s; policies = ps; world = w; reads = reads; first = finds; text = text }
  well-replayed s ps w reads (told_whole (Some b) finds c text) e = absurd (omega (arith, c, e))
  well-replayed s ps w reads (told_front found lines next rest n finds order rose c text) e = absurd (omega (arith, c, e))
  well-replayed s ps w reads (told_first found lines rest finds order c text) e = absurd (omega (arith, c, e))
  well-replayed s ps w reads (untold c text) e = absurd (omega (arith, c, e))

  is-well : Nowhere → Stored → Tells r None → IsWell r
  is-well nowhere stored t =
      let x = (nowhere t.schema (literals t.policies) t.world (stored t.reads.spelled.bytes t.world t.reads.spelled.spelled)).0 t.first in
      record { told = t; env = x.0; listed = x.1; well_formed = x.2 }

  -- a line that is written in place of a log doesn't say that the property holds
  other-open : (v : Verdict) (env : Env) → (v ≡ holds → ⊥) → status_of (record { env = env; verdict = v } ∷ []) ≡ 0 → ⊥
  other-open holds env not_shown e = not_shown refl
  other-open (counterexample w) env not_shown e = omega (arith, e)
  other-open (unknown units log) env not_shown e = omega (arith, e)
  other-open over_limit env not_shown e = omega (arith, e)

  log-written : (s : Declarations) (question : Question) (first : List Policy) (against : Option (List Policy)) (budget place : ℕ) (env : Env) → ReadsAll r.content r.words s question first against (logging budget place)
      → slice_get (environments s) place ≡ Some env → Logged (asked s question first against budget) env r.before r.after (HasRisen r.writes) r.code spent → r.code ≡ 0 → LogIsWritten r
  log-written s question first against budget place env reads at (log_whole log shows c text none) e =
      record { schema = s; question = question; first = first; against = against; budget = budget; place = place; reads = reads; env = env; named = at; log = log; shows = shows; text = text }
  log-written s question first against budget place env reads at (log_front log lines next rest n shows order rose c text none) e = absurd (omega (arith, c, e))
  log-written s question first against budget place env reads at (log_first log lines rest shows order c text none) e = absurd (omega (arith, c, e))
  log-written s question first against budget place env reads at (other_whole l other c text logs) e = absurd (other-open l.verdict l.env other.not_shown (sym c ∙ e))
  log-written s question first against budget place env reads at (other_front l n other rose c text none) e = absurd (omega (arith, c, e))
  log-written s question first against budget place env reads at (unlogged c text none) e = absurd (omega (arith, c, e))

  says : (s : Declarations) (question : Question) (first : List Policy) (against : Option (List Policy)) (place : ℕ) (name : List ℕ) (env : Env) → ReadsAll r.content r.words s question first against (checking place name)
      → slice_get (environments s) place ≡ Some env → (a : Answer) → IsShort (r.content name) → Claims (r.content name) (asked s question first against 0) env a → r.after ≡ appended r.before (answer_text env a) → SaysOf r a
  says s question first against place name env reads at a short claims text =
      record { schema = s; question = question; first = first; against = against; place = place; name = name; reads = reads; env = env; named = at; short = short; claims = claims; text = text }

  log-accepted : (s : Declarations) (question : Question) (first : List Policy) (against : Option (List Policy)) (place : ℕ) (name : List ℕ) (env : Env) → ReadsAll r.content r.words s question first against (checking place name)
      → slice_get (environments s) place ≡ Some env → Checked (r.content name) (asked s question first against 0) env r.before r.after (HasRisen r.writes) r.code → r.code ≡ 0 → LogIsAccepted r
  log-accepted s question first against place name env reads at (answer_whole accepted short claims c text) e = says s question first against place name env reads at accepted short claims text
  log-accepted s question first against place name env reads at (answer_whole (rejected step why) short claims c text) e = absurd (omega (arith, c, e))
  log-accepted s question first against place name env reads at (answer_whole too_large short claims c text) e = absurd (omega (arith, c, e))
  log-accepted s question first against place name env reads at (answer_front a n short claims rose c text) e = absurd (omega (arith, c, e))
  log-accepted s question first against place name env reads at (unchecked c text) e = absurd (omega (arith, c, e))

  log-rejected : (s : Declarations) (question : Question) (first : List Policy) (against : Option (List Policy)) (place : ℕ) (name : List ℕ) (env : Env) → ReadsAll r.content r.words s question first against (checking place name)
      → slice_get (environments s) place ≡ Some env → Checked (r.content name) (asked s question first against 0) env r.before r.after (HasRisen r.writes) r.code → r.code ≡ 14 → LogIsRejected r
  log-rejected s question first against place name env reads at (answer_whole accepted short claims c text) e = absurd (omega (arith, c, e))
  log-rejected s question first against place name env reads at (answer_whole (rejected step why) short claims c text) e = (step, why, says s question first against place name env reads at (rejected step why) short claims text)
  log-rejected s question first against place name env reads at (answer_whole too_large short claims c text) e = absurd (omega (arith, c, e))
  log-rejected s question first against place name env reads at (answer_front a n short claims rose c text) e = absurd (omega (arith, c, e))
  log-rejected s question first against place name env reads at (unchecked c text) e = absurd (omega (arith, c, e))

  set-reduced : (s : Declarations) (question : Question) (first : List Policy) (against : Option (List Policy)) (budget : ℕ) → ReadsAll r.content r.words s question first against (reducing budget)
      → Reduced (to_reduce s first budget) r.before r.after (HasRisen r.writes) r.code spent → r.code < 10 → SetIsReduced r
  set-reduced s question first against budget reads (reduced_whole fates is c text logs) low =
      record { schema = s; question = question; policies = first; against = against; budget = budget; reads = reads; fates = fates; is_reduction = is; status = c; text = text }
  set-reduced s question first against budget reads (reduced_front fates lines next rest n is order rose c text logs) low = absurd (omega (arith, c, low))
  set-reduced s question first against budget reads (reduced_first fates lines rest is order c text logs) low = absurd (omega (arith, c, low))
  set-reduced s question first against budget reads (unreduced c text none) low = absurd (omega (arith, c, low))

  -- a whole report on generated policies
  generated-told : (size : ℕ) → Generates r.words size → (q : Asked) → IsGenerated size q → Whole q (appended r.before (summary size)) r.after r.code → GeneratedReports r
  generated-told size commands q is x = record { size = size; commands = commands; asks = q; is_generated = is; lines = x.lines; report = x.report; text = x.text }

  generated-hold : (size : ℕ) → Generates r.words size → Summed size r.before r.after (HasRisen r.writes) r.code spent → r.code ≡ 0 → GeneratedHold r
  unfolding generated-told
  generated-hold size commands (summed q is report) e =
      let x = whole-reported q (appended r.before (summary size)) r.after (HasRisen r.writes) r.code spent report (omega (arith, e)) in
      let none = none-found (has_counterexample x.lines) (has_open x.lines) (sym x.is ∙ e) in
      record {
        told = generated-told size commands q is x;
        always = λ env h. lines-hold q x.lines none.0 none.1 x.report.lines_true env (subst (λ es. Contains es env) (sym x.report.in_order) h);
      }
  generated-hold size commands (summary_cut n rose c text none) e = absurd (omega (arith, c, e))
  generated-hold size commands (unsummed c text none) e = absurd (omega (arith, c, e))

  generated-left : (size : ℕ) → Generates r.words size → Summed size r.before r.after (HasRisen r.writes) r.code spent → r.code ≡ 2 → GeneratedOpen r
  unfolding generated-told
  generated-left size commands (summed q is report) e =
      let x = whole-reported q (appended r.before (summary size)) r.after (HasRisen r.writes) r.code spent report (omega (arith, e)) in
      record { told = generated-told size commands q is x; some_open = (open-found (has_counterexample x.lines) (has_open x.lines) (sym x.is ∙ e)).1 }
  generated-left size commands (summary_cut n rose c text none) e = absurd (omega (arith, c, e))
  generated-left size commands (unsummed c text none) e = absurd (omega (arith, c, e))

  pub all-well : Nowhere → Stored → Ends r spent → r.code ≡ 0 → AllWell r
  all-well nowhere stored (refused a h c t none) e = absurd (let is = refusal-code a in omega (arith, is.least, c, e))
  all-well nowhere stored (refusal_cut a n h rose c t none) e = absurd (omega (arith, c, e))
  all-well nowhere stored (reported s question first against budget reads report) e = inl (hold-reported s question first against budget reads report e)
  all-well nowhere stored (wrote_log s question first against budget place env reads at report) e = inr (inr (inl (log-written s question first against budget place env reads at report e)))
  all-well nowhere stored (checked_log s question first against place name env reads at report none) e = inr (inr (inr (inl (log-accepted s question first against place name env reads at report e))))
  all-well nowhere stored (replayed s ps w reads report none) e = inr (inl (is-well nowhere stored (well-replayed s ps w reads report e)))
  all-well nowhere stored (reduced s question first against budget reads report) e = inr (inr (inr (inr (inl (set-reduced s question first against budget reads report (omega (arith, e)))))))
  all-well nowhere stored (generated size commands report) e = inr (inr (inr (inr (inr (generated-hold size commands report e)))))
  all-well nowhere stored (no_memory c t none) e = absurd (omega (arith, c, e))

  -- the aim of what is done is of the kind that the words have
  kind-of : (K : Aim → Type 0) → AsksFor K r → (s : Declarations) (question : Question) (first : List Policy) (against : Option (List Policy)) (aim : Aim) → ReachesQuestion r.content r.words s question first against aim → K aim
  kind-of K x s question first against aim reaches =
      subst K ((one_question x.command.task x.question question x.name reaches.name x.aim aim x.task (same_task r.words x.command reaches.command x.commands reaches.commands ∙ reaches.task)).2) x.kind

  not-replayed : (K : Aim → Type 0) → AsksFor K r → IsWell r → ⊥
  not-replayed K x w =
      let reaches = w.told.reads.reaches in
      not_both_tasks x.command.task x.question x.name x.aim w.told.reads.name x.task (same_task r.words x.command reaches.command x.commands reaches.commands ∙ reaches.task)

  -- words on files generate no policies
  not-made : (K : Aim → Type 0) → AsksFor K r → GeneratedHold r → ⊥
  not-made K x w = not_generated r.words x.command w.told.size x.commands w.told.commands

  not-asked : ReplaysWorld r → (s : Declarations) (question : Question) (first : List Policy) (against : Option (List Policy)) (aim : Aim) → ReachesQuestion r.content r.words s question first against aim → ⊥
  not-asked x s question first against aim reaches =
      not_both_tasks reaches.command.task question reaches.name aim x.name reaches.task (same_task r.words reaches.command x.command reaches.commands x.commands ∙ x.task)

  kind-held : (K : Aim → Type 0) → AsksFor K r → (h : AllHold r) → K h.told.aim
  kind-held K x h = kind-of K x h.told.schema h.told.question h.told.first h.told.against h.told.aim h.told.reads.reached.reaches

  kind-written : (K : Aim → Type 0) → AsksFor K r → (w : LogIsWritten r) → K (logging w.budget w.place)
  kind-written K x w = kind-of K x w.schema w.question w.first w.against (logging w.budget w.place) w.reads.reached.reaches

  kind-accepted : (K : Aim → Type 0) → AsksFor K r → (y : LogIsAccepted r) → K (checking y.place y.name)
  kind-accepted K x y = kind-of K x y.schema y.question y.first y.against (checking y.place y.name) y.reads.reached.reaches

  not-reporting : (aim : Aim) → IsReporting aim → IsLogging aim → ⊥
  not-reporting (reporting budget) a b = b
  not-reporting (logging budget place) a b = a
  not-reporting (checking place name) a b = a
  not-reporting (reducing budget) a b = a

  not-checking : (aim : Aim) → IsReporting aim → IsChecking aim → ⊥
  not-checking (reporting budget) a b = b
  not-checking (logging budget place) a b = a
  not-checking (checking place name) a b = a
  not-checking (reducing budget) a b = a

  kind-reduced : (K : Aim → Type 0) → AsksFor K r → (y : SetIsReduced r) → K (reducing y.budget)
  kind-reduced K x y = kind-of K x y.schema y.question y.policies y.against (reducing y.budget) y.reads.reached.reaches

  pub all-hold : Nowhere → Stored → Ends r spent → AsksQuestion r → r.code ≡ 0 → AllHold r
  all-hold nowhere stored ends x e =
      ⊎_elim (λ (h : AllHold r). h)
      (λ y. ⊎_elim (λ (w : IsWell r). absurd (not-replayed IsReporting x w))
      (λ z. ⊎_elim (λ (w : LogIsWritten r). absurd (kind-written IsReporting x w))
      (λ v. ⊎_elim (λ (w : LogIsAccepted r). absurd (kind-accepted IsReporting x w)) (λ u. ⊎_elim (λ (w : SetIsReduced r). absurd (kind-reduced IsReporting x w)) (λ (w : GeneratedHold r). absurd (not-made IsReporting x w)) u) v) z) y) (all-well nowhere stored ends e)

  pub log-is-written : Nowhere → Stored → Ends r spent → WritesLog r → r.code ≡ 0 → LogIsWritten r
  log-is-written nowhere stored ends x e =
      ⊎_elim (λ (h : AllHold r). absurd (not-reporting h.told.aim h.of_all (kind-held IsLogging x h)))
      (λ y. ⊎_elim (λ (w : IsWell r). absurd (not-replayed IsLogging x w))
      (λ z. ⊎_elim (λ (w : LogIsWritten r). w)
      (λ v. ⊎_elim (λ (w : LogIsAccepted r). absurd (kind-accepted IsLogging x w)) (λ u. ⊎_elim (λ (w : SetIsReduced r). absurd (kind-reduced IsLogging x w)) (λ (w : GeneratedHold r). absurd (not-made IsLogging x w)) u) v) z) y) (all-well nowhere stored ends e)

  pub log-is-accepted : Nowhere → Stored → Ends r spent → ChecksLog r → r.code ≡ 0 → LogIsAccepted r
  log-is-accepted nowhere stored ends x e =
      ⊎_elim (λ (h : AllHold r). absurd (not-checking h.told.aim h.of_all (kind-held IsChecking x h)))
      (λ y. ⊎_elim (λ (w : IsWell r). absurd (not-replayed IsChecking x w))
      (λ z. ⊎_elim (λ (w : LogIsWritten r). absurd (kind-written IsChecking x w))
      (λ v. ⊎_elim (λ (w : LogIsAccepted r). w) (λ u. ⊎_elim (λ (w : SetIsReduced r). absurd (kind-reduced IsChecking x w)) (λ (w : GeneratedHold r). absurd (not-made IsChecking x w)) u) v) z) y) (all-well nowhere stored ends e)

  pub well-formed : Nowhere → Stored → Ends r spent → ReplaysWorld r → r.code ≡ 0 → IsWell r
  well-formed nowhere stored ends x e =
      ⊎_elim (λ (h : AllHold r). absurd (not-asked x h.told.schema h.told.question h.told.first h.told.against h.told.aim h.told.reads.reached.reaches))
      (λ y. ⊎_elim (λ (w : IsWell r). w)
      (λ z. ⊎_elim (λ (w : LogIsWritten r). absurd (not-asked x w.schema w.question w.first w.against (logging w.budget w.place) w.reads.reached.reaches))
      (λ v. ⊎_elim (λ (w : LogIsAccepted r). absurd (not-asked x w.schema w.question w.first w.against (checking w.place w.name) w.reads.reached.reaches))
      (λ u. ⊎_elim (λ (w : SetIsReduced r). absurd (not-asked x w.schema w.question w.policies w.against (reducing w.budget) w.reads.reached.reaches))
      (λ (w : GeneratedHold r). absurd (not_generated r.words x.command w.told.size x.commands w.told.commands)) u) v) z) y) (all-well nowhere stored ends e)

  broken-replayed : (s : Declarations) (ps : List Policy) (w : World) → ReadsWorld r.content r.words s ps w → Replayed (scene s ps w) r.before r.after (HasRisen r.writes) r.code → r.code ≡ 3 → IsBroken r
  broken-replayed s ps w reads (told_whole None finds c text) e = absurd (omega (arith, c, e))
  broken-replayed s ps w reads (told_whole (Some b) finds c text) e = (b, record { schema = s; policies = ps; world = w; reads = reads; first = finds; text = text })
  broken-replayed s ps w reads (told_front found lines next rest n finds order rose c text) e = absurd (omega (arith, c, e))
  broken-replayed s ps w reads (told_first found lines rest finds order c text) e = absurd (omega (arith, c, e))
  broken-replayed s ps w reads (untold c text) e = absurd (omega (arith, c, e))

  not-three : (q : Asked) → Reported q r.before r.after (HasRisen r.writes) r.code spent → r.code ≡ 3 → ⊥
  not-three q report e =
      let x = whole-reported q r.before r.after (HasRisen r.writes) r.code spent report (omega (arith, e)) in
      let most = status-code x.lines r.code x.is in omega (arith, most, e)

  pub is-broken : Ends r spent → r.code ≡ 3 → IsBroken r
  is-broken (refused a h c t none) e = absurd (let is = refusal-code a in omega (arith, is.least, c, e))
  is-broken (refusal_cut a n h rose c t none) e = absurd (omega (arith, c, e))
  is-broken (reported s question first against budget reads report) e = absurd (not-three (asked s question first against budget) report e)
  is-broken (wrote_log s question first against budget place env reads at report) e =
      absurd (none-written r.code (HasRisen r.writes) (logged-codes (asked s question first against budget) env r.before r.after (HasRisen r.writes) r.code spent report) (omega (arith, e)) (λ h. omega (arith, h, e)) (λ h. omega (arith, h, e)))
  is-broken (checked_log s question first against place name env reads at report none) e =
      absurd (none-said r.code (HasRisen r.writes) (checked-codes (r.content name) (asked s question first against 0) env r.before r.after (HasRisen r.writes) r.code report)
      (λ h. omega (arith, h, e)) (λ h. omega (arith, h, e)) (λ h. omega (arith, h, e)) (λ h. omega (arith, h, e)) (λ h. omega (arith, h, e)))
  is-broken (replayed s ps w reads report none) e = broken-replayed s ps w reads report e
  is-broken (reduced s question first against budget reads report) e =
      absurd (none-reduced r.code (HasRisen r.writes) (reduction-codes (to_reduce s first budget) r.before r.after (HasRisen r.writes) r.code spent report) (λ h. omega (arith, h, e)) (λ h. omega (arith, h, e)) (λ h. omega (arith, h, e)) (λ h. omega (arith, h, e)))
  is-broken (generated size commands report) e =
      absurd (none-written r.code (HasRisen r.writes) (summed-codes size r.before r.after (HasRisen r.writes) r.code spent report) (omega (arith, e)) (λ h. omega (arith, h, e)) (λ h. omega (arith, h, e)))
  is-broken (no_memory c t none) e = absurd (omega (arith, c, e))

  fail-reported : (s : Declarations) (question : Question) (first : List Policy) (against : Option (List Policy)) (budget : ℕ) → ReadsAll r.content r.words s question first against (reporting budget)
      → Reported (asked s question first against budget) r.before r.after (HasRisen r.writes) r.code spent → r.code ≡ 1 → SomeFails r
  unfolding reports-of
  fail-reported s question first against budget reads report e =
      let q = asked s question first against budget in
      let x = whole-reported q r.before r.after (HasRisen r.writes) r.code spent report (omega (arith, e)) in
      let p = lines-fail q x.lines (some-found (has_counterexample x.lines) (has_open x.lines) (sym x.is ∙ e)) x.report.lines_true in
      record { told = reports-of s question first against budget reads x; env = p.env; world = p.world; printed = p.printed; violates = p.violates }

  open-reported : (s : Declarations) (question : Question) (first : List Policy) (against : Option (List Policy)) (budget : ℕ) → ReadsAll r.content r.words s question first against (reporting budget)
      → Reported (asked s question first against budget) r.before r.after (HasRisen r.writes) r.code spent → r.code ≡ 2 → SomeOpen r
  unfolding reports-of
  open-reported s question first against budget reads report e =
      let x = whole-reported (asked s question first against budget) r.before r.after (HasRisen r.writes) r.code spent report (omega (arith, e)) in
      let found = open-found (has_counterexample x.lines) (has_open x.lines) (sym x.is ∙ e) in
      record { told = reports-of s question first against budget reads x; none_fails = found.0; some_open = found.1 }

  -- a counterexample that is written in place of a log
  fail-logged : (s : Declarations) (question : Question) (first : List Policy) (against : Option (List Policy)) (budget place : ℕ) (env : Env) → ReadsAll r.content r.words s question first against (logging budget place)
      → slice_get (environments s) place ≡ Some env → Logged (asked s question first against budget) env r.before r.after (HasRisen r.writes) r.code spent → r.code ≡ 1 → SomeFails r
  unfolding line-of
  fail-logged s question first against budget place env reads at (log_whole log shows c text none) e = absurd (omega (arith, c, e))
  fail-logged s question first against budget place env reads at (log_front log lines next rest n shows order rose c text none) e = absurd (omega (arith, c, e))
  fail-logged s question first against budget place env reads at (log_first log lines rest shows order c text none) e = absurd (omega (arith, c, e))
  fail-logged s question first against budget place env reads at (other_whole l other c text logs) e =
      let lines = l ∷ [] in
      let p = lines-fail (asked s question first against budget) lines (some-found (has_counterexample lines) (has_open lines) (sym c ∙ e)) (other.line_true, tt) in
      record {
        told = line-of s question first against (logging budget place) env reads (listed-as s place env at) l other.line_true other.env_is text;
        env = p.env;
        world = p.world;
        printed = p.printed;
        violates = p.violates;
      }
  fail-logged s question first against budget place env reads at (other_front l n other rose c text none) e = absurd (omega (arith, c, e))
  fail-logged s question first against budget place env reads at (unlogged c text none) e = absurd (omega (arith, c, e))

  -- an open line that is written in place of a log
  open-logged : (s : Declarations) (question : Question) (first : List Policy) (against : Option (List Policy)) (budget place : ℕ) (env : Env) → ReadsAll r.content r.words s question first against (logging budget place)
      → slice_get (environments s) place ≡ Some env → Logged (asked s question first against budget) env r.before r.after (HasRisen r.writes) r.code spent → r.code ≡ 2 → SomeOpen r
  unfolding line-of
  open-logged s question first against budget place env reads at (log_whole log shows c text none) e = absurd (omega (arith, c, e))
  open-logged s question first against budget place env reads at (log_front log lines next rest n shows order rose c text none) e = absurd (omega (arith, c, e))
  open-logged s question first against budget place env reads at (log_first log lines rest shows order c text none) e = absurd (omega (arith, c, e))
  open-logged s question first against budget place env reads at (other_whole l other c text logs) e =
      let lines = l ∷ [] in
      let found = open-found (has_counterexample lines) (has_open lines) (sym c ∙ e) in
      record { told = line-of s question first against (logging budget place) env reads (listed-as s place env at) l other.line_true other.env_is text; none_fails = found.0; some_open = found.1 }
  open-logged s question first against budget place env reads at (other_front l n other rose c text none) e = absurd (omega (arith, c, e))
  open-logged s question first against budget place env reads at (unlogged c text none) e = absurd (omega (arith, c, e))

  -- an environment that is too large for a log of it to be checked
  open-checked : (s : Declarations) (question : Question) (first : List Policy) (against : Option (List Policy)) (place : ℕ) (name : List ℕ) (env : Env) → ReadsAll r.content r.words s question first against (checking place name)
      → slice_get (environments s) place ≡ Some env → Checked (r.content name) (asked s question first against 0) env r.before r.after (HasRisen r.writes) r.code → r.code ≡ 2 → SomeOpen r
  unfolding line-of
  open-checked s question first against place name env reads at (answer_whole accepted short claims c text) e = absurd (omega (arith, c, e))
  open-checked s question first against place name env reads at (answer_whole (rejected step why) short claims c text) e = absurd (omega (arith, c, e))
  open-checked s question first against place name env reads at (answer_whole too_large short claims c text) e =
      record { told = line-of s question first against (checking place name) env reads (listed-as s place env at) (record { env = env; verdict = over_limit }) claims refl text; none_fails = refl; some_open = refl }
  open-checked s question first against place name env reads at (answer_front a n short claims rose c text) e = absurd (omega (arith, c, e))
  open-checked s question first against place name env reads at (unchecked c text) e = absurd (omega (arith, c, e))

-- ---- reports on worlds

replay-two : (found : Option Break) (code : ℕ) → code ≡ outcome.status_of found → (code ≡ 0) ⊎ (code ≡ 3)
replay-two None code c = inl c
replay-two (Some b) code c = inr c

-- with another status than 0 and 3 memory ran out, or the write failed
replayed-other : (s : Declarations) (ps : List Policy) (w : World) (old new : Written) (rose : Type 0) (code : ℕ) → Replayed (scene s ps w) old new rose code
    → (code ≡ 0 → ⊥) → (code ≡ 3 → ⊥) → (code ≡ 30) ⊎ ((code ≡ 21) × rose)
replayed-other s ps w old new rose code (told_whole found finds c text) f g = absurd (⊎_elim f g (replay-two found code c))
replayed-other s ps w old new rose code (told_front found lines next rest n finds order risen c text) f g = inr (c, risen)
replayed-other s ps w old new rose code (told_first found lines rest finds order c text) f g = inl c
replayed-other s ps w old new rose code (untold c text) f g = inl c

reported-high : (q : Asked) (old new : Written) (rose : Type 0) (code : ℕ) (spent : List (List Step)) → Reported q old new rose code spent → 10 ≤ code → (code ≡ 21 → ⊥) → (code ≡ 30 → ⊥) → ⊥
reported-high q old new rose code spent (whole lines report c text logs) e f g = let most = status-code lines code c in omega (arith, most, e)
reported-high q old new rose code spent (cut lines next n front risen c text logs) e f g = f c
reported-high q old new rose code spent (cut_none n none risen c text logs) e f g = f c
reported-high q old new rose code spent (stopped lines front c text logs) e f g = g c

replayed-high : (s : Declarations) (ps : List Policy) (w : World) (old new : Written) (rose : Type 0) (code : ℕ) → Replayed (scene s ps w) old new rose code → 10 ≤ code → (code ≡ 21 → ⊥) → (code ≡ 30 → ⊥) → ⊥
replayed-high s ps w old new rose code report e f g =
    ⊎_elim (λ (h : code ≡ 30). g h) (λ (h : (code ≡ 21) × rose). f h.0)
    (replayed-other s ps w old new rose code report (λ h. omega (arith, h, e)) (λ h. omega (arith, h, e)))

-- no refusal has the status of a log that is rejected
not-rejection : (a : Refusal) → code_of a ≡ 14 → ⊥
not-rejection usage e = omega (arith, e)
not-rejection (schema_text f) e = omega (arith, e)
not-rejection (policy_text side f) e = omega (arith, e)
not-rejection (world_text f) e = omega (arith, e)
not-rejection (unknown_name side f) e = omega (arith, e)
not-rejection (ill_typed side f) e = omega (arith, e)
not-rejection (no_environment place count) e = omega (arith, e)
not-rejection (read_fault f) e = omega (arith, e)
not-rejection (too_long f) e = omega (arith, e)

-- no world tells generated policies from the same in reverse order
abbrev pub NeverViolated : Type 0
NeverViolated = (size : ℕ) (q : Asked) (env : Env) (w : World) → size ≤ 1000 → IsGenerated size q → Violates q env w → ⊥

-- so none is printed
none-printed : NeverViolated → (size : ℕ) (q : Asked) → size ≤ 1000 → IsGenerated size q → (lines : List Line) → AllByRecursion (IsLine q) lines → has_counterexample lines ≡ true → ⊥
none-printed never size q within is lines told e = let p = lines-fail q lines e told in never size q p.env p.world within is p.violates

-- and the status isn't that of a counterexample
by-lines : (fails open-ones : Bool) (code : ℕ) → (fails ≡ true → ⊥) → code ≡ status_by fails open-ones → IsOfGenerated code
by-lines true open-ones code none c = absurd (none refl)
by-lines false true code none c = inr (inl c)
by-lines false false code none c = inl c

reported-status : NeverViolated → (size : ℕ) (q : Asked) → size ≤ 1000 → IsGenerated size q → (old new : Written) (rose : Type 0) (code : ℕ) (spent : List (List Step)) → Reported q old new rose code spent → IsOfGenerated code
reported-status never size q within is old new rose code spent (whole lines report c text logs) =
    by-lines (has_counterexample lines) (has_open lines) code (λ e. none-printed never size q within is lines report.lines_true e) c
reported-status never size q within is old new rose code spent (cut lines next n front risen c text logs) = inr (inr (inl c))
reported-status never size q within is old new rose code spent (cut_none n none risen c text logs) = inr (inr (inl c))
reported-status never size q within is old new rose code spent (stopped lines front c text logs) = inr (inr (inr c))

summed-status : NeverViolated → (size : ℕ) → size ≤ 1000 → (old new : Written) (rose : Type 0) (code : ℕ) (spent : List (List Step)) → Summed size old new rose code spent → IsOfGenerated code
summed-status never size within old new rose code spent (summed q is report) = reported-status never size q within is (appended old (summary size)) new rose code spent report
summed-status never size within old new rose code spent (summary_cut n risen c text none) = inr (inr (inl c))
summed-status never size within old new rose code spent (unsummed c text none) = inr (inr (inr c))

module _ (r : Run) (spent : List (List Step)) where
  not-between : (s : Declarations) (ps : List Policy) (w : World) → Replayed (scene s ps w) r.before r.after (HasRisen r.writes) r.code → 1 ≤ r.code → r.code ≤ 2 → ⊥
  not-between s ps w report least most =
      ⊎_elim (λ (h : r.code ≡ 30). omega (arith, h, most)) (λ (h : (r.code ≡ 21) × (HasRisen r.writes)). omega (arith, h.0, most))
      (replayed-other s ps w r.before r.after (HasRisen r.writes) r.code report (λ h. omega (arith, h, least)) (λ h. omega (arith, h, most)))

  none-failing : NeverViolated → (size : ℕ) → Generates r.words size → Summed size r.before r.after (HasRisen r.writes) r.code spent → r.code ≡ 1 → ⊥
  none-failing never size commands (summed q is report) e =
      let x = whole-reported q (appended r.before (summary size)) r.after (HasRisen r.writes) r.code spent report (omega (arith, e)) in
      none-printed never size q (size_within r.words size commands) is x.lines x.report.lines_true (some-found (has_counterexample x.lines) (has_open x.lines) (sym x.is ∙ e))
  none-failing never size commands (summary_cut n rose c text none) e = omega (arith, c, e)
  none-failing never size commands (unsummed c text none) e = omega (arith, c, e)

  pub some-fails : NeverViolated → Ends r spent → r.code ≡ 1 → SomeFails r
  some-fails never (refused a h c t none) e = absurd (let is = refusal-code a in omega (arith, is.least, c, e))
  some-fails never (refusal_cut a n h rose c t none) e = absurd (omega (arith, c, e))
  some-fails never (reported s question first against budget reads report) e = fail-reported r spent s question first against budget reads report e
  some-fails never (wrote_log s question first against budget place env reads at report) e = fail-logged r spent s question first against budget place env reads at report e
  some-fails never (checked_log s question first against place name env reads at report none) e =
      absurd (none-said r.code (HasRisen r.writes) (checked-codes (r.content name) (asked s question first against 0) env r.before r.after (HasRisen r.writes) r.code report)
      (λ h. omega (arith, h, e)) (λ h. omega (arith, h, e)) (λ h. omega (arith, h, e)) (λ h. omega (arith, h, e)) (λ h. omega (arith, h, e)))
  some-fails never (replayed s ps w reads report none) e = absurd (not-between s ps w report (omega (arith, e)) (omega (arith, e)))
  some-fails never (reduced s question first against budget reads report) e =
      absurd (none-reduced r.code (HasRisen r.writes) (reduction-codes (to_reduce s first budget) r.before r.after (HasRisen r.writes) r.code spent report) (λ h. omega (arith, h, e)) (λ h. omega (arith, h, e)) (λ h. omega (arith, h, e)) (λ h. omega (arith, h, e)))
  some-fails never (generated size commands report) e = absurd (none-failing never size commands report e)
  some-fails never (no_memory c t none) e = absurd (omega (arith, c, e))

  pub some-left : Ends r spent → r.code ≡ 2 → SomeLeft r
  some-left (refused a h c t none) e = absurd (let is = refusal-code a in omega (arith, is.least, c, e))
  some-left (refusal_cut a n h rose c t none) e = absurd (omega (arith, c, e))
  some-left (reported s question first against budget reads report) e = inl (open-reported r spent s question first against budget reads report e)
  some-left (wrote_log s question first against budget place env reads at report) e = inl (open-logged r spent s question first against budget place env reads at report e)
  some-left (checked_log s question first against place name env reads at report none) e = inl (open-checked r spent s question first against place name env reads at report e)
  some-left (replayed s ps w reads report none) e = absurd (not-between s ps w report (omega (arith, e)) (omega (arith, e)))
  some-left (reduced s question first against budget reads report) e = inr (inl (set-reduced r spent s question first against budget reads report (omega (arith, e))))
  some-left (generated size commands report) e = inr (inr (generated-left r spent size commands report e))
  some-left (no_memory c t none) e = absurd (omega (arith, c, e))

  -- the words of a reduction are no others
  not-reducing : ReducesSet r → (s : Declarations) (question : Question) (first : List Policy) (against : Option (List Policy)) (aim : Aim) → ReachesQuestion r.content r.words s question first against aim → (IsReducing aim → ⊥) → ⊥
  not-reducing x s question first against aim reaches other = other (kind-of r spent IsReducing x s question first against aim reaches)

  pub set-is-reduced : Ends r spent → ReducesSet r → (r.code ≡ 0) ⊎ (r.code ≡ 2) → SetIsReduced r
  set-is-reduced ends x e = by ends (⊎_elim (λ (h : r.code ≡ 0). omega (arith, h)) (λ (h : r.code ≡ 2). omega (arith, h)) e)
    where
      by : Ends r spent → r.code < 10 → SetIsReduced r
      by (refused a h c t none) low = absurd (let is = refusal-code a in omega (arith, is.least, c, low))
      by (refusal_cut a n h rose c t none) low = absurd (omega (arith, c, low))
      by (reported s question first against budget reads report) low = absurd (not-reducing x s question first against (reporting budget) reads.reached.reaches (λ h. h))
      by (wrote_log s question first against budget place env reads at report) low = absurd (not-reducing x s question first against (logging budget place) reads.reached.reaches (λ h. h))
      by (checked_log s question first against place name env reads at report none) low = absurd (not-reducing x s question first against (checking place name) reads.reached.reaches (λ h. h))
      by (replayed s ps w reads report none) low =
          absurd (not_both_tasks x.command.task x.question x.name x.aim reads.name x.task (same_task r.words x.command reads.reaches.command x.commands reads.reaches.commands ∙ reads.reaches.task))
      by (reduced s question first against budget reads report) low = set-reduced r spent s question first against budget reads report low
      by (generated size commands report) low = absurd (not_generated r.words x.command size x.commands commands)
      by (no_memory c t none) low = absurd (omega (arith, c, low))

  pub is-rejected : Ends r spent → r.code ≡ 14 → LogIsRejected r
  is-rejected (refused a h c t none) e = absurd (not-rejection a (sym c ∙ e))
  is-rejected (refusal_cut a n h rose c t none) e = absurd (omega (arith, c, e))
  is-rejected (reported s question first against budget reads report) e =
      absurd (reported-high (asked s question first against budget) r.before r.after (HasRisen r.writes) r.code spent report (omega (arith, e)) (λ h. omega (arith, h, e)) (λ h. omega (arith, h, e)))
  is-rejected (wrote_log s question first against budget place env reads at report) e =
      absurd (none-written r.code (HasRisen r.writes) (logged-codes (asked s question first against budget) env r.before r.after (HasRisen r.writes) r.code spent report) (omega (arith, e)) (λ h. omega (arith, h, e)) (λ h. omega (arith, h, e)))
  is-rejected (checked_log s question first against place name env reads at report none) e = log-rejected r spent s question first against place name env reads at report e
  is-rejected (replayed s ps w reads report none) e =
      absurd (replayed-high s ps w r.before r.after (HasRisen r.writes) r.code report (omega (arith, e)) (λ h. omega (arith, h, e)) (λ h. omega (arith, h, e)))
  is-rejected (reduced s question first against budget reads report) e =
      absurd (none-reduced r.code (HasRisen r.writes) (reduction-codes (to_reduce s first budget) r.before r.after (HasRisen r.writes) r.code spent report) (λ h. omega (arith, h, e)) (λ h. omega (arith, h, e)) (λ h. omega (arith, h, e)) (λ h. omega (arith, h, e)))
  is-rejected (generated size commands report) e =
      absurd (none-written r.code (HasRisen r.writes) (summed-codes size r.before r.after (HasRisen r.writes) r.code spent report) (omega (arith, e)) (λ h. omega (arith, h, e)) (λ h. omega (arith, h, e)))
  is-rejected (no_memory c t none) e = absurd (omega (arith, c, e))

-- ---- the refusal that a status tells

record RefusedAs (r : Run) (n : ℕ) : Type 0 where
  pub refusal : Refusal
  pub is : IsRefusal r.content r.words (FailsFor r) refusal
  pub code : code_of refusal ≡ n
  pub text : r.after ≡ appended r.before (refusal_text refusal)

by-code : (r : Run) (spent : List (List Step)) (n : ℕ) → Ends r spent → r.code ≡ n → 10 ≤ n → (n ≡ 14 → ⊥) → (n ≡ 21 → ⊥) → (n ≡ 30 → ⊥) → RefusedAs r n
by-code r spent n (refused a h c t none) e l p f g = record { refusal = a; is = h; code = sym c ∙ e; text = t }
by-code r spent n (refusal_cut a k h rose c t none) e l p f g = absurd (f (sym e ∙ c))
by-code r spent n (reported s question first against budget reads report) e l p f g =
    absurd (reported-high (asked s question first against budget) r.before r.after (HasRisen r.writes) r.code spent report (omega (arith, e, l)) (λ h. f (sym e ∙ h)) (λ h. g (sym e ∙ h)))
by-code r spent n (wrote_log s question first against budget place env reads at report) e l p f g =
    absurd (none-written r.code (HasRisen r.writes) (logged-codes (asked s question first against budget) env r.before r.after (HasRisen r.writes) r.code spent report) (omega (arith, e, l)) (λ h. f (sym e ∙ h)) (λ h. g (sym e ∙ h)))
by-code r spent n (checked_log s question first against place name env reads at report none) e l p f g =
    absurd (none-said r.code (HasRisen r.writes) (checked-codes (r.content name) (asked s question first against 0) env r.before r.after (HasRisen r.writes) r.code report)
    (λ h. p (sym e ∙ h)) (λ h. omega (arith, h, e, l)) (λ h. omega (arith, h, e, l)) (λ h. f (sym e ∙ h)) (λ h. g (sym e ∙ h)))
by-code r spent n (replayed s ps w reads report none) e l p f g =
    absurd (replayed-high s ps w r.before r.after (HasRisen r.writes) r.code report (omega (arith, e, l)) (λ h. f (sym e ∙ h)) (λ h. g (sym e ∙ h)))
by-code r spent n (reduced s question first against budget reads report) e l p f g =
    absurd (none-reduced r.code (HasRisen r.writes) (reduction-codes (to_reduce s first budget) r.before r.after (HasRisen r.writes) r.code spent report)
    (λ h. omega (arith, h, e, l)) (λ h. omega (arith, h, e, l)) (λ h. f (sym e ∙ h)) (λ h. g (sym e ∙ h)))
by-code r spent n (generated size commands report) e l p f g =
    absurd (none-written r.code (HasRisen r.writes) (summed-codes size r.before r.after (HasRisen r.writes) r.code spent report) (omega (arith, e, l)) (λ h. f (sym e ∙ h)) (λ h. g (sym e ∙ h)))
by-code r spent n (no_memory c t none) e l p f g = absurd (g (sym e ∙ c))

-- what a refusal tells of the run
abbrev CauseOf : Run → Refusal → Type 0
CauseOf r usage = IsNoCommand r.words
CauseOf r (schema_text f) = IsFaultySchema r
CauseOf r (policy_text side f) = IsFaulty r
CauseOf r (world_text f) = IsFaultyWorld r
CauseOf r (unknown_name side f) = IsUntyped r
CauseOf r (ill_typed side f) = IsUntyped r
CauseOf r (no_environment place count) = IsMisplaced r
CauseOf r (read_fault f) = IsUnreadFile r f
CauseOf r (too_long f) = TooLong r

schema-cause : (r : Run) (c : Command) → Serves r.words c → (a : Refusal) → RefusesSchema r.content c (FailsFor r) a → CauseOf r a
schema-cause r c h _ (schema_unread _ (unread at)) = record { command = c; commands = h; name = c.schema; named = refl; failed = at }
schema-cause r c h _ (schema_unread _ (long is)) = schema_long c h is
schema-cause r c h _ (schema_faulty f bytes is has) = record { command = c; commands = h; bytes = bytes; told = is; fault = f; has = has }

policies-cause : (r : Run) (c : Command) (s : Declarations) → Serves r.words c → ReadsSchema r.content c s → (a : Refusal) → RefusesPolicies r.content c.policies policies_side (FailsFor r) a → CauseOf r a
policies-cause r c s h reads _ (policies_unread _ (unread at)) = record { command = c; commands = h; name = c.policies; named = refl; failed = at }
policies-cause r c s h reads _ (policies_unread _ (long is)) = policies_long c h s reads is
policies-cause r c s h reads _ (spec.policies_faulty f bytes is has) = policies_faulty c h s reads bytes is f has

against-cause : (r : Run) (name : List ℕ) → ReachesAgainst r.content r.words name → (a : Refusal) → RefusesPolicies r.content name against_side (FailsFor r) a → CauseOf r a
against-cause r name reaches _ (policies_unread _ (unread at)) = record { command = reaches.command; commands = reaches.commands; name = name; named = ap against_in reaches.task; failed = at }
against-cause r name reaches _ (policies_unread _ (long is)) = against_long name reaches is
against-cause r name reaches _ (spec.policies_faulty f bytes is has) = against_faulty name reaches bytes is f has

world-cause : (r : Run) (s : Declarations) (ps : List Policy) (name : List ℕ) → ReachesWorld r.content r.words s ps name → (a : Refusal) → RefusesWorld r.content name (FailsFor r) a → CauseOf r a
world-cause r s ps name reaches _ (world_unread _ (unread at)) = record { command = reaches.command; commands = reaches.commands; name = name; named = ap world_in reaches.task; failed = at }
world-cause r s ps name reaches _ (world_unread _ (long is)) = world_long s ps name reaches is
world-cause r s ps name reaches _ (world_faulty f bytes is has) = record { schema = s; policies = ps; name = name; reaches = reaches; bytes = bytes; told = is; fault = f; has = has }

question-cause : (r : Run) (s : Declarations) (question : Question) (first : List Policy) (against : Option (List Policy)) (aim : Aim) → ReachesQuestion r.content r.words s question first against aim
    → (a : Refusal) → RefusesQuestion s first against a → CauseOf r a
question-cause r s question first against aim reaches _ (spec.undeclared side f is) =
    inr (record { schema = s; question = question; first = first; against = against; aim = aim; reaches = reaches; ill_typed = undeclared side f is })
question-cause r s question first against aim reaches _ (spec.untyped side f declared is) =
    inr (record { schema = s; question = question; first = first; against = against; aim = aim; reaches = reaches; ill_typed = untyped side f declared is })

place-cause : (r : Run) (s : Declarations) (question : Question) (first : List Policy) (against : Option (List Policy)) (aim : Aim) → ReachesQuestion r.content r.words s question first against aim → AreServed s first against
    → (a : Refusal) → RefusesPlace s aim a → CauseOf r a
place-cause r s question first against aim reaches served _ (misplaced place is beyond) =
    record { schema = s; question = question; first = first; against = against; aim = aim; reaches = reaches; served = served; place = place; named = is; beyond = beyond }

log-cause : (r : Run) (s : Declarations) (question : Question) (first : List Policy) (against : Option (List Policy)) (place : ℕ) (name : List ℕ) → ReachesAim r.content r.words s question first against (checking place name)
    → (a : Refusal) → RefusesLog r.content name (FailsFor r) a → CauseOf r a
log-cause r s question first against place name reaches _ (log_unread at) =
    let command = reaches.reaches in
    record { command = command.command; commands = command.commands; name = name; named = ap log_in command.task; failed = at }
log-cause r s question first against place name reaches _ (spec.log_long is) = log_long s question first against place name reaches is

cause-of : (r : Run) (a : Refusal) → IsRefusal r.content r.words (FailsFor r) a → CauseOf r a
cause-of r _ (no_command none) = none
cause-of r _ (of_schema a c h i) = schema-cause r c h a i
cause-of r _ (of_policies a c s h reads i) = policies-cause r c s h reads a i
cause-of r _ (of_against a c s question name aim first h task reads has i) =
    against-cause r name (record { command = c; commands = h; question = question; aim = aim; task = task; schema = s; reads = reads; first = first; policies = has }) a i
cause-of r _ (of_world a s ps name reaches i) = world-cause r s ps name reaches a i
cause-of r _ (of_names f s ps name w reaches has is) = inl (record { schema = s; policies = ps; name = name; world = w; reaches = reaches; has = has; fault = f; is = is })
cause-of r _ (of_question a s question first against aim reaches i) = question-cause r s question first against aim reaches a i
cause-of r _ (of_place a s question first against aim reaches served i) = place-cause r s question first against aim reaches served a i
cause-of r _ (of_log a s question first against place name reaches i) = log-cause r s question first against place name reaches a i

-- what a status tells of the run, where it is that of a refusal
abbrev either : Bool → Type 0 → Type 0 → Type 0
either true A B = A
either false A B = B

abbrev Cause : Run → ℕ → Type 0
Cause r n =
    either (n == 10) (IsNoCommand r.words)
    (either (n == 12) (IsFaultySchema r)
    (either (n == 11) (IsFaulty r)
    (either (n == 17) (IsFaultyWorld r)
    (either (n == 13) (IsUntyped r)
    (either (n == 20) (IsUnread r)
    (either (n == 22) (TooLong r)
    (either (n == 16) (IsMisplaced r) ⊤)))))))

cause-at : (r : Run) (a : Refusal) → r.after ≡ appended r.before (refusal_text a) → CauseOf r a → Cause r (code_of a)
cause-at r usage says h = h
cause-at r (schema_text f) says h = h
cause-at r (policy_text side f) says h = h
cause-at r (world_text f) says h = h
cause-at r (unknown_name side f) says h = h
cause-at r (ill_typed side f) says h = h
cause-at r (no_environment place count) says h = h
cause-at r (read_fault f) says h = (f, h, says)
cause-at r (too_long f) says h = h

told-by : (r : Run) (spent : List (List Step)) (n : ℕ) → Ends r spent → r.code ≡ n → 10 ≤ n → (n ≡ 14 → ⊥) → (n ≡ 21 → ⊥) → (n ≡ 30 → ⊥) → Cause r n
told-by r spent n ends e l p f g = let w = by-code r spent n ends e l p f g in subst (Cause r) w.code (cause-at r w.refusal w.text (cause-of r w.refusal w.is))

pub no-command : (r : Run) (spent : List (List Step)) → Ends r spent → r.code ≡ 10 → IsNoCommand r.words
no-command r spent ends e = told-by r spent 10 ends e (omega arith) (λ h. omega (arith, h)) (λ h. omega (arith, h)) (λ h. omega (arith, h))

pub is-unread : (r : Run) (spent : List (List Step)) → Ends r spent → r.code ≡ 20 → IsUnread r
is-unread r spent ends e = told-by r spent 20 ends e (omega arith) (λ h. omega (arith, h)) (λ h. omega (arith, h)) (λ h. omega (arith, h))

pub is-too-long : (r : Run) (spent : List (List Step)) → Ends r spent → r.code ≡ 22 → TooLong r
is-too-long r spent ends e = told-by r spent 22 ends e (omega arith) (λ h. omega (arith, h)) (λ h. omega (arith, h)) (λ h. omega (arith, h))

pub is-faulty : (r : Run) (spent : List (List Step)) → Ends r spent → r.code ≡ 11 → IsFaulty r
is-faulty r spent ends e = told-by r spent 11 ends e (omega arith) (λ h. omega (arith, h)) (λ h. omega (arith, h)) (λ h. omega (arith, h))

pub is-faulty-schema : (r : Run) (spent : List (List Step)) → Ends r spent → r.code ≡ 12 → IsFaultySchema r
is-faulty-schema r spent ends e = told-by r spent 12 ends e (omega arith) (λ h. omega (arith, h)) (λ h. omega (arith, h)) (λ h. omega (arith, h))

pub is-faulty-world : (r : Run) (spent : List (List Step)) → Ends r spent → r.code ≡ 17 → IsFaultyWorld r
is-faulty-world r spent ends e = told-by r spent 17 ends e (omega arith) (λ h. omega (arith, h)) (λ h. omega (arith, h)) (λ h. omega (arith, h))

pub is-untyped : (r : Run) (spent : List (List Step)) → Ends r spent → r.code ≡ 13 → IsUntyped r
is-untyped r spent ends e = told-by r spent 13 ends e (omega arith) (λ h. omega (arith, h)) (λ h. omega (arith, h)) (λ h. omega (arith, h))

pub is-misplaced : (r : Run) (spent : List (List Step)) → Ends r spent → r.code ≡ 16 → IsMisplaced r
is-misplaced r spent ends e = told-by r spent 16 ends e (omega arith) (λ h. omega (arith, h)) (λ h. omega (arith, h)) (λ h. omega (arith, h))

reported-rose : (q : Asked) (old new : Written) (rose : Type 0) (code : ℕ) (spent : List (List Step)) → Reported q old new rose code spent → code ≡ 21 → rose
reported-rose q old new rose code spent (whole lines report c text logs) e = absurd (let most = status-code lines code c in omega (arith, most, e))
reported-rose q old new rose code spent (cut lines next n front risen c text logs) e = risen
reported-rose q old new rose code spent (cut_none n none risen c text logs) e = risen
reported-rose q old new rose code spent (stopped lines front c text logs) e = absurd (omega (arith, c, e))

replayed-rose : (s : Declarations) (ps : List Policy) (w : World) (old new : Written) (rose : Type 0) (code : ℕ) → Replayed (scene s ps w) old new rose code → code ≡ 21 → rose
replayed-rose s ps w old new rose code report e =
    ⊎_elim (λ (h : code ≡ 30). absurd (omega (arith, h, e))) (λ (h : (code ≡ 21) × rose). h.1)
    (replayed-other s ps w old new rose code report (λ h. omega (arith, h, e)) (λ h. omega (arith, h, e)))

pub write-rose : (r : Run) (spent : List (List Step)) → Ends r spent → r.code ≡ 21 → HasRisen r.writes
write-rose r spent (refused a h c t none) e = absurd (let is = refusal-code a in is.no_write (sym c ∙ e))
write-rose r spent (refusal_cut a k h rose c t none) e = rose
write-rose r spent (reported s question first against budget reads report) e = reported-rose (asked s question first against budget) r.before r.after (HasRisen r.writes) r.code spent report e
write-rose r spent (wrote_log s question first against budget place env reads at report) e =
    written-rose r.code (HasRisen r.writes) (logged-codes (asked s question first against budget) env r.before r.after (HasRisen r.writes) r.code spent report) e
write-rose r spent (checked_log s question first against place name env reads at report none) e =
    said-rose r.code (HasRisen r.writes) (checked-codes (r.content name) (asked s question first against 0) env r.before r.after (HasRisen r.writes) r.code report) e
write-rose r spent (replayed s ps w reads report none) e = replayed-rose s ps w r.before r.after (HasRisen r.writes) r.code report e
write-rose r spent (reduced s question first against budget reads report) e =
    reduced-rose r.code (HasRisen r.writes) (reduction-codes (to_reduce s first budget) r.before r.after (HasRisen r.writes) r.code spent report) e
write-rose r spent (generated size commands report) e = written-rose r.code (HasRisen r.writes) (summed-codes size r.before r.after (HasRisen r.writes) r.code spent report) e
write-rose r spent (no_memory c t none) e = absurd (omega (arith, c, e))

-- ---- words that generate policies

module _ (r : Run) (spent : List (List Step)) where
  -- they are refused for nothing
  none-refused : (size : ℕ) → Generates r.words size → (a : Refusal) → IsRefusal r.content r.words (FailsFor r) a → ⊥
  none-refused size h _ (no_command none) = none (generate (record { size = size })) h
  none-refused size h _ (of_schema a c k i) = not_generated r.words c size k h
  none-refused size h _ (of_policies a c s k reads i) = not_generated r.words c size k h
  none-refused size h _ (of_against a c s question name aim first k task reads has i) = not_generated r.words c size k h
  none-refused size h _ (of_world a s ps name reaches i) = not_generated r.words reaches.command size reaches.commands h
  none-refused size h _ (of_names f s ps name w reaches has is) = not_generated r.words reaches.command size reaches.commands h
  none-refused size h _ (of_question a s question first against aim reaches i) = not_generated r.words reaches.command size reaches.commands h
  none-refused size h _ (of_place a s question first against aim reaches served i) = not_generated r.words reaches.command size reaches.commands h
  none-refused size h _ (of_log a s question first against place name reaches i) = not_generated r.words reaches.reaches.command size reaches.reaches.commands h

  -- nor is anything read for them
  none-read : (size : ℕ) → Generates r.words size → (s : Declarations) (question : Question) (first : List Policy) (against : Option (List Policy)) (aim : Aim) → ReadsAll r.content r.words s question first against aim → ⊥
  none-read size h s question first against aim reads = not_generated r.words reads.reached.reaches.command size reads.reached.reaches.commands h

  -- so their summary and report are written, as far as they came, or memory ran out
  abbrev IsMade : Type 0
  IsMade = ((size : ℕ) × Generates r.words size × Summed size r.before r.after (HasRisen r.writes) r.code spent) ⊎ (r.code ≡ 30)

  made : Ends r spent → AsksGenerated r → IsMade
  made (refused a h c t none) x = absurd (none-refused x.0 x.1 a h)
  made (refusal_cut a n h rose c t none) x = absurd (none-refused x.0 x.1 a h)
  made (reported s question first against budget reads report) x = absurd (none-read x.0 x.1 s question first against (reporting budget) reads)
  made (wrote_log s question first against budget place env reads at report) x = absurd (none-read x.0 x.1 s question first against (logging budget place) reads)
  made (checked_log s question first against place name env reads at report none) x = absurd (none-read x.0 x.1 s question first against (checking place name) reads)
  made (replayed s ps w reads report none) x = absurd (not_generated r.words reads.reaches.command x.0 reads.reaches.commands x.1)
  made (reduced s question first against budget reads report) x = absurd (none-read x.0 x.1 s question first against (reducing budget) reads)
  made (generated size commands report) x = inl (size, commands, report)
  made (no_memory c t none) x = inr c

  pub generated-held : Ends r spent → AsksGenerated r → r.code ≡ 0 → GeneratedHold r
  generated-held ends x e = ⊎_elim (λ y. generated-hold r spent y.0 y.1 y.2 e) (λ (c : r.code ≡ 30). absurd (omega (arith, c, e))) (made ends x)

  pub generated-is-open : Ends r spent → AsksGenerated r → r.code ≡ 2 → GeneratedOpen r
  generated-is-open ends x e = ⊎_elim (λ y. generated-left r spent y.0 y.1 y.2 e) (λ (c : r.code ≡ 30). absurd (omega (arith, c, e))) (made ends x)

  pub generated-status : NeverViolated → Ends r spent → AsksGenerated r → IsOfGenerated r.code
  generated-status never ends x =
      ⊎_elim (λ y. summed-status never y.0 (size_within r.words y.0 y.1) r.before r.after (HasRisen r.writes) r.code spent y.2) (λ (c : r.code ≡ 30). inr (inr (inr c))) (made ends x)
