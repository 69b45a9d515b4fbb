-- What a run must end with, since the words and the files determine what is read.
use Rattle.std.proofs.Common.{◌≡◌, ◌≢◌, ◌≤◌, ◌<◌, ◌⊎◌, ℕ, zero, suc, List, [], ◌∷◌, Option, Some, None, IfSome, length, slice_get, refl, sym, ap, ◌∙◌, subst, arith, ⊎_elim, inl, inr}
use Rattle.std.specs.Bool.{⊤}
use Rattle.std.proofs.lemmas.Option.{slice_get_within}
use Rattle.sc_schema.specs.declared.declarations.Env.{Env}
use Rattle.sc_schema.specs.Declarations.{Declarations, environments}
use Rattle.sc_schema_json.specs.Spelling as json
use Rattle.sc_ast.specs.declared.policy.Policy.{Policy}
use Rattle.sc_clauses.specs.declared.step.Step.{Step}
use Rattle.sc_parser.specs.Spelling.{Spells, HasFault}
use Rattle.sc_question.specs.declared.question.Question.{Question}
use Rattle.sc_typing.specs.declared.name_fault.NameFault.{NameFault}
use Rattle.sc_typing.specs.Names.{name_fault}
use Rattle.sc_world.specs.declared.world.World.{World}
use Rattle.sc_world_json.specs.Reading as world
use Rattle.sc_inputs.specs.Serving.{Aim, Command, Generates, IsNoCommand, Serves, as_command, asking, checking, logging, place_in, reducing, reporting}
use Rattle.sc_inputs.proofs.ServingLaws.{same_policies, same_schema, same_task, not_both_tasks, not_generated, one_world_file, one_question}
use Rattle.sc_inputs.specs.Readings.{ReadsAll, ReadsWorld}
use Rattle.sc_inputs.specs.Refusals.{Refusal, Side, policies_side, against_side, IsRefusal, no_command, of_schema, of_policies, of_against, of_world, of_names, of_log, of_place, of_question, RefusesLog, log_long, log_unread, RefusesPlace, misplaced, RefusesQuestion, undeclared, untyped, unread, long, RefusesSchema, schema_unread, schema_faulty, RefusesPolicies, policies_unread, policies_faulty, RefusesWorld, world_unread, world_faulty, code_of, Content, IsContent, IsTooLong, ReadsSchema, HasPolicies, HasAgainst, HasWorld, AreServed, HasEnvironment, IsLongLog, ReachesAim, ReachesQuestion, ReachesWorld, names_fault, types_fault, limit, log_limit}
use Rattle.sc_checker.specs.declared.checking.Reason.{Reason}
use Rattle.sc_checker.specs.declared.checking.Verdict.TheVariants.{Rejected}
use Rattle.sc_reports.specs.Claims.{Answer, Checked, Claims, HasTextVerdict, IsShort, IsShown, accepted, answer_code, answer_front, answer_whole, rejected, too_large, unchecked}
use Rattle.sc_reports.specs.Logs.{Logged, log_first, log_front, log_whole, other_front, other_whole, unlogged}
use Rattle.sc_reports.specs.Progress.{Reported, whole, cut, cut_none, stopped}
use Rattle.sc_run.specs.Replays.{Replayed, told_whole, told_front, told_first, untold}
use Rattle.sc_reports.specs.Reports.{Asked}
use Rattle.sc_run.specs.Runs.{Run, HasRisen, Ends, refused, refusal_cut, generated, reduced, reported, replayed, wrote_log, checked_log, no_memory, scene, IsReadable, IsServed, IsWhole, IsWholeFor, LogIsLong, LogIsTold, MustBe, PlaceIsMissing, SchemaTold, PoliciesTold, AgainstTold, no_file, told_file, AgainstNamed, AllSpelled, WorldTold, WorldSpelled, QuestionSpelled, SchemaIsLong, SchemaIsFaulty, PoliciesAreLong, PoliciesAreFaulty, AgainstIsLong, AgainstIsFaulty, WorldIsLong, WorldIsFaulty, NamesAreUnknown, PoliciesAreUntyped, IsReplayable, IsReplayed, LogIsRight, LogIsWrong, MustSay, ReadsLog, asked_of_log, FailsFor}
use Rattle.sc_command.specs.CommandLine.{generate}
use Rattle.sc_run.specs.Reduces.{Reduced, to_reduce}
use Rattle.sc_run.proofs.ReductionLaws.{reduction-codes}
use Rattle.sc_reduction.specs.Reductions.{Asked as Reduction}
use Rattle.sc_reports.specs.Analyses.{asked}
use Rattle.sc_run.proofs.SpellingLaws.{not_both, one_set}
use Rattle.sc_run.proofs.StatusLaws.{status-code}

-- ---- the words and the files determine what is read

content-is : (content : Content) (name b bytes : List ℕ) → content name ≡ Some b → IsContent content name bytes → (bytes ≡ b) × (length b ≤ limit)
content-is content name b bytes at h = rw at at h

long-is : (content : Content) (name b : List ℕ) → content name ≡ Some b → IsTooLong content name → limit < length b
long-is content name b at h = rw at at h

schema-spelled : (content : Content) (c : Command) (b : List ℕ) (s : Declarations) → content c.schema ≡ Some b → ReadsSchema content c s → json.Spells b s
schema-spelled content c b s at h = subst (λ bytes. json.Spells bytes s) (content-is content c.schema b h.bytes at h.told).0 h.spelled

policies-spelled : (content : Content) (name b : List ℕ) (ps : List Policy) → content name ≡ Some b → HasPolicies content name ps → Spells b ps
policies-spelled content name b ps at h = subst (λ bytes. Spells bytes ps) (content-is content name b h.bytes at h.told).0 h.spelled

world-spelled : (content : Content) (name b : List ℕ) (w : World) → content name ≡ Some b → HasWorld content name w → world.SpellsWorld b w
world-spelled content name b w at h = subst (λ bytes. world.SpellsWorld bytes w) (content-is content name b h.bytes at h.told).0 h.spelled

-- a file that is told, short enough and spelled isn't refused
file-read : (content : Content) (name b : List ℕ) (ps : List Policy) (side : Side) (failed : List ℕ → Type 0) → content name ≡ Some b → length b ≤ limit → Spells b ps → ((file : List ℕ) → failed file → ⊥) → (a : Refusal) → RefusesPolicies content name side failed a → ⊥
file-read content name b ps side failed at short spells calm _ (policies_unread _ (unread here)) = calm name here
file-read content name b ps side failed at short spells calm _ (policies_unread _ (long is)) = let far = long-is content name b at is in omega (arith, short, far)
file-read content name b ps side failed at short spells calm _ (policies_faulty f bytes is has) = not_both spells (subst (λ b. HasFault b f) (content-is content name b bytes at is).0 has)

-- ---- a second policy file

-- it isn't refused
against-file-read : (content : Content) (m : Option (List ℕ)) (o : Option (List Policy)) (name : List ℕ) (failed : List ℕ → Type 0) → AgainstTold content m o → m ≡ Some name → ((file : List ℕ) → failed file → ⊥) → (a : Refusal) → RefusesPolicies content name against_side failed a → ⊥
against-file-read content _ _ name failed no_file is calm a h = absurd cc
against-file-read content _ _ name failed (told_file file bytes ps at short spells) is calm a h =
    let same : file ≡ name = cc in
    file-read content name bytes ps against_side failed (subst (λ n. content n ≡ Some bytes) same at) short spells calm a h

-- and it spells one set
one-against : (content : Content) (m n : Option (List ℕ)) (o p : Option (List Policy)) → AgainstTold content m o → m ≡ n → HasAgainst content n p → p ≡ o
one-against content _ None _ None no_file is h = refl
one-against content _ None _ (Some ps) no_file is h = absurd h
one-against content _ (Some n) _ p no_file is h = absurd cc
one-against content _ None _ p (told_file file bytes ps at short spells) is h = absurd cc
one-against content _ (Some n) _ None (told_file file bytes ps at short spells) is h = absurd h
one-against content _ (Some n) _ (Some qs) (told_file file bytes ps at short spells) is h =
    let same : file ≡ n = cc in
    ap Some (one_set (policies-spelled content n bytes qs (subst (λ k. content k ≡ Some bytes) same at) h) spells)

-- a file of this name that is read isn't refused so
named-content : (content : Content) (n : Option (List ℕ)) (p : Option (List Policy)) (file : List ℕ) → n ≡ Some file → HasAgainst content n p → (ps : List Policy) × HasPolicies content file ps
named-content content None p file is h = absurd cc
named-content content (Some m) None file is h = absurd h
named-content content (Some m) (Some ps) file is h = let same : m ≡ file = cc in (ps, subst (λ k. HasPolicies content k ps) same h)

-- a text that is accepted isn't rejected
abbrev ShownOnce : Type 0
ShownOnce = (q : Asked) (env : Env) (text : List ℕ) (step : ℕ) (why : Reason) → IsShown q env text → ¬ HasTextVerdict q env text (Rejected step why)

-- ---- what is reached

-- a schema and policies that the words and the files give
record Reaches (content : Content) (words : List (List ℕ)) (s : Declarations) (ps : List Policy) : Type 0 where
  pub command : Command
  pub commands : Serves words command
  pub schema : ReadsSchema content command s
  pub policies : HasPolicies content command.policies ps

reach-world : (content : Content) (words : List (List ℕ)) (s : Declarations) (ps : List Policy) (name : List ℕ) → ReachesWorld content words s ps name → Reaches content words s ps
reach-world content words s ps name x = record { command = x.command; commands = x.commands; schema = x.schema; policies = x.policies }

-- the log that is to be checked, where one is, isn't too long, where it is told
abbrev HasShortLog : Content → Aim → Type 0
HasShortLog content (reporting budget) = ⊤
HasShortLog content (logging budget place) = ⊤
HasShortLog content (checking place name) = IsShort (content name)
HasShortLog content (reducing budget) = ⊤

-- a run must end with a status, where each refusal that may come has it, and no report comes
record Only (r : Run) (n : ℕ) : Type 0 where
  pub words : IsNoCommand r.words → 10 ≡ n
  pub schema : (a : Refusal) (c : Command) → Serves r.words c → RefusesSchema r.content c (FailsFor r) a → code_of a ≡ n
  pub policies : (a : Refusal) (c : Command) (s : Declarations) → Serves r.words c → ReadsSchema r.content c s → RefusesPolicies r.content c.policies policies_side (FailsFor r) a → code_of a ≡ n
  pub others : (a : Refusal) (c : Command) (s : Declarations) (question : Question) (name : List ℕ) (aim : Aim) (first : List Policy) → Serves r.words c → c.task ≡ asking question (Some name) aim → ReadsSchema r.content c s
      → HasPolicies r.content c.policies first → RefusesPolicies r.content name against_side (FailsFor r) a → code_of a ≡ n
  pub world : (a : Refusal) (s : Declarations) (ps : List Policy) (name : List ℕ) → ReachesWorld r.content r.words s ps name → RefusesWorld r.content name (FailsFor r) a → code_of a ≡ n
  pub names : (f : NameFault) (s : Declarations) (ps : List Policy) (name : List ℕ) (w : World) → ReachesWorld r.content r.words s ps name → HasWorld r.content name w → name_fault s ps ≡ Some f → 13 ≡ n
  pub question : (a : Refusal) (s : Declarations) (question : Question) (first : List Policy) (against : Option (List Policy)) (aim : Aim) → ReachesQuestion r.content r.words s question first against aim → RefusesQuestion s first against a → code_of a ≡ n
  pub place : (a : Refusal) (s : Declarations) (question : Question) (first : List Policy) (against : Option (List Policy)) (aim : Aim) → ReachesQuestion r.content r.words s question first against aim → AreServed s first against → RefusesPlace s aim a → code_of a ≡ n
  pub log : (a : Refusal) (s : Declarations) (question : Question) (first : List Policy) (against : Option (List Policy)) (place : ℕ) (name : List ℕ) → ReachesAim r.content r.words s question first against (checking place name) → RefusesLog r.content name (FailsFor r) a → code_of a ≡ n
  pub report : (s : Declarations) (question : Question) (first : List Policy) (against : Option (List Policy)) (aim : Aim) → ReadsAll r.content r.words s question first against aim → HasShortLog r.content aim → ⊥
  pub replay : (s : Declarations) (ps : List Policy) (w : World) → ReadsWorld r.content r.words s ps w → ⊥
  pub made : (size : ℕ) → Generates r.words size → ⊥

module _ (r : Run) (spent : List (List Step)) where
  schema-at : (c d : Command) (b : List ℕ) → Serves r.words d → r.content d.schema ≡ Some b → Serves r.words c → r.content c.schema ≡ Some b
  schema-at c d b k told h = ap r.content (same_schema r.words c d h k) ∙ told

  policies-at : (c d : Command) (b : List ℕ) → Serves r.words d → r.content d.policies ≡ Some b → Serves r.words c → r.content c.policies ≡ Some b
  policies-at c d b k told h = ap r.content (same_policies r.words c d h k) ∙ told

  refused-as : (n : ℕ) → Only r n → (a : Refusal) → IsRefusal r.content r.words (FailsFor r) a → code_of a ≡ n
  refused-as n x _ (no_command none) = x.words none
  refused-as n x _ (of_schema a c h i) = x.schema a c h i
  refused-as n x _ (of_policies a c s h reads i) = x.policies a c s h reads i
  refused-as n x _ (of_against a c s question name aim first h task reads has i) = x.others a c s question name aim first h task reads has i
  refused-as n x _ (of_world a s ps name reaches i) = x.world a s ps name reaches i
  refused-as n x _ (of_names f s ps name w reaches has is) = x.names f s ps name w reaches has is
  refused-as n x _ (of_question a s question first against aim reaches i) = x.question a s question first against aim reaches i
  refused-as n x _ (of_place a s question first against aim reaches served i) = x.place a s question first against aim reaches served i
  refused-as n x _ (of_log a s question first against place name reaches i) = x.log a s question first against place name reaches i

  checked-must : (n place : ℕ) (name : List ℕ) (q : Asked) (env : Env) → (IsShort (r.content name) → ⊥) → Checked (r.content name) q env r.before r.after (HasRisen r.writes) r.code → MustBe n r.code
  checked-must n place name q env none (answer_whole a short claims c text) = absurd (none short)
  checked-must n place name q env none (answer_front a k short claims rose c text) = absurd (none short)
  checked-must n place name q env none (unchecked c text) = inr (inr c)

  must-be : (n : ℕ) → Ends r spent → Only r n → MustBe n r.code
  must-be n (refused a h c t none) x = inl (c ∙ refused-as n x a h)
  must-be n (refusal_cut a k h rose c t none) x = inr (inl c)
  must-be n (reported s question first against budget reads report) x = absurd (x.report s question first against (reporting budget) reads tt)
  must-be n (wrote_log s question first against budget place env reads at report) x = absurd (x.report s question first against (logging budget place) reads tt)
  must-be n (checked_log s question first against place name env reads at report none) x = checked-must n place name _ env (λ short. x.report s question first against (checking place name) reads short) report
  must-be n (reduced s question first against budget reads report) x = absurd (x.report s question first against (reducing budget) reads tt)
  must-be n (replayed s ps w reads report none) x = absurd (x.replay s ps w reads)
  must-be n (generated size commands report) x = absurd (x.made size commands)
  must-be n (no_memory c t none) x = inr (inr c)

  pub unusable : Ends r spent → IsNoCommand r.words → MustBe 10 r.code
  unusable ends all = let none : (c : Command) → Serves r.words c → ⊥ = λ c h. all (as_command c) h in must-be 10 ends (record {
    words = λ h. refl;
    schema = λ a c h i. absurd (none c h);
    policies = λ a c s h reads i. absurd (none c h);
    others = λ a c s question name aim first h task reads has i. absurd (none c h);
    world = λ a s ps name reaches i. absurd (none reaches.command reaches.commands);
    names = λ f s ps name w reaches has is. absurd (none reaches.command reaches.commands);
    question = λ a s question first against aim reaches i. absurd (none reaches.command reaches.commands);
    place = λ a s question first against aim reaches served i. absurd (none reaches.command reaches.commands);
    log = λ a s question first against place name reaches i. absurd (none reaches.reaches.command reaches.reaches.commands);
    report = λ s question first against aim reads short. none reads.reached.reaches.command reads.reached.reaches.commands;
    replay = λ s ps w reads. none reads.reaches.command reads.reaches.commands;
    made = λ size h. all (generate (record { size = size })) h;
  })

  -- ---- a schema file that isn't read

  -- where no schema is read, what comes is what the schema file is refused for
  at-schema : (n : ℕ) (d : Command) → Serves r.words d → ((c : Command) → Serves r.words c → (s : Declarations) → ReadsSchema r.content c s → ⊥)
      → ((a : Refusal) (c : Command) → Serves r.words c → RefusesSchema r.content c (FailsFor r) a → code_of a ≡ n) → Only r n
  at-schema n d k unread_schema refuses = record {
    words = λ none. absurd (none (as_command d) k);
    schema = refuses;
    policies = λ a c s h reads i. absurd (unread_schema c h s reads);
    others = λ a c s question name aim first h task reads has i. absurd (unread_schema c h s reads);
    world = λ a s ps name reaches i. absurd (unread_schema reaches.command reaches.commands s reaches.schema);
    names = λ f s ps name w reaches has is. absurd (unread_schema reaches.command reaches.commands s reaches.schema);
    question = λ a s question first against aim reaches i. absurd (unread_schema reaches.command reaches.commands s reaches.schema);
    place = λ a s question first against aim reaches served i. absurd (unread_schema reaches.command reaches.commands s reaches.schema);
    log = λ a s question first against place name reaches i. absurd (unread_schema reaches.reaches.command reaches.reaches.commands s reaches.reaches.schema);
    report = λ s question first against aim reads short. unread_schema reads.reached.reaches.command reads.reached.reaches.commands s reads.reached.reaches.schema;
    replay = λ s ps w reads. unread_schema reads.reaches.command reads.reaches.commands s reads.reaches.schema;
    made = λ size h. not_generated r.words d size k h;
  }

  long-unread : (t : SchemaTold r) → limit < length t.bytes → (c : Command) → Serves r.words c → (bytes : List ℕ) → IsContent r.content c.schema bytes → ⊥
  long-unread t far c h bytes is = omega (arith, far, (content-is r.content c.schema t.bytes bytes (schema-at c t.command t.bytes t.commands t.told h) is).1)

  schema-long-case : (t : SchemaTold r) → limit < length t.bytes → (HasRisen r.reads → ⊥) → (a : Refusal) (c : Command) → Serves r.words c → RefusesSchema r.content c (FailsFor r) a → code_of a ≡ 22
  schema-long-case t far calm _ c h (schema_unread _ (unread here)) = absurd (calm here.rose)
  schema-long-case t far calm _ c h (schema_unread _ (long is)) = refl
  schema-long-case t far calm _ c h (schema_faulty f bytes is has) = absurd (long-unread t far c h bytes is)

  pub schema-is-long : Ends r spent → SchemaIsLong r → (HasRisen r.reads → ⊥) → MustBe 22 r.code
  schema-is-long ends x calm =
      must-be 22 ends (at-schema 22 x.0.command x.0.commands (λ c h s reads. long-unread x.0 x.1 c h reads.bytes reads.told) (schema-long-case x.0 x.1 calm))

  not-read : (x : SchemaIsFaulty r) → (c : Command) → Serves r.words c → (s : Declarations) → ReadsSchema r.content c s → ⊥
  not-read x c h s reads = x.2 s (schema-spelled r.content c x.0.bytes s (schema-at c x.0.command x.0.bytes x.0.commands x.0.told h) reads)

  schema-faulty-case : (x : SchemaIsFaulty r) → (HasRisen r.reads → ⊥) → (a : Refusal) (c : Command) → Serves r.words c → RefusesSchema r.content c (FailsFor r) a → code_of a ≡ 12
  schema-faulty-case x calm _ c h (schema_unread _ (unread here)) = absurd (calm here.rose)
  schema-faulty-case x calm _ c h (schema_unread _ (long is)) =
      absurd (omega (arith, x.1, long-is r.content c.schema x.0.bytes (schema-at c x.0.command x.0.bytes x.0.commands x.0.told h) is))
  schema-faulty-case x calm _ c h (schema_faulty f bytes is has) = refl

  pub schema-is-faulty : Ends r spent → SchemaIsFaulty r → (HasRisen r.reads → ⊥) → MustBe 12 r.code
  schema-is-faulty ends x calm = must-be 12 ends (at-schema 12 x.0.command x.0.commands (not-read x) (schema-faulty-case x calm))

  -- ---- a policy file, where the schema is read

  policies-content : (t : PoliciesTold r) → (c : Command) → Serves r.words c → (bytes : List ℕ) → IsContent r.content c.policies bytes → (bytes ≡ t.bytes) × (length t.bytes ≤ limit)
  policies-content t c h bytes is = content-is r.content c.policies t.bytes bytes (policies-at c t.command t.bytes t.commands t.told h) is

  no-long-policies : (t : PoliciesTold r) → length t.bytes ≤ limit → (c : Command) → Serves r.words c → IsTooLong r.content c.policies → ⊥
  no-long-policies t short c h far = omega (arith, short, long-is r.content c.policies t.bytes (policies-at c t.command t.bytes t.commands t.told h) far)

  -- ---- where bytes spell one schema at most, and have no fault then

  module _ (settled : (bytes : List ℕ) → json.IsSettled bytes) where
    -- the schema file isn't refused where it spells a schema
    schema-read : (t : PoliciesTold r) → (HasRisen r.reads → ⊥) → (a : Refusal) (c : Command) → Serves r.words c → RefusesSchema r.content c (FailsFor r) a → ⊥
    schema-read t calm _ c h (schema_unread _ (unread here)) = calm here.rose
    schema-read t calm _ c h (schema_unread _ (long is)) =
        omega (arith, t.schema_short, long-is r.content c.schema t.schema_bytes (schema-at c t.command t.schema_bytes t.commands t.schema_told h) is)
    schema-read t calm _ c h (schema_faulty f bytes is has) =
        let same = (content-is r.content c.schema t.schema_bytes bytes (schema-at c t.command t.schema_bytes t.commands t.schema_told h) is).0 in
        (settled t.schema_bytes).not_both t.schema f t.spelled (subst (λ b. json.HasFault b f) same has)

    one-schema : (t : PoliciesTold r) → (c : Command) → Serves r.words c → (s : Declarations) → ReadsSchema r.content c s → s ≡ t.schema
    one-schema t c h s reads =
        (settled t.schema_bytes).one_schema s t.schema (schema-spelled r.content c t.schema_bytes s (schema-at c t.command t.schema_bytes t.commands t.schema_told h) reads) t.spelled

    -- where no policies are read, what comes is what the policy file is refused for
    at-policies : (n : ℕ) (t : PoliciesTold r) → (HasRisen r.reads → ⊥)
        → ((c : Command) → Serves r.words c → (bytes : List ℕ) → IsContent r.content c.policies bytes → (ps : List Policy) → Spells bytes ps → ⊥)
        → ((a : Refusal) (c : Command) (s : Declarations) → Serves r.words c → ReadsSchema r.content c s → RefusesPolicies r.content c.policies policies_side (FailsFor r) a → code_of a ≡ n) → Only r n
    at-policies n t calm unread_policies refuses = record {
      words = λ none. absurd (none (as_command t.command) t.commands);
      schema = λ a c h i. absurd (schema-read t calm a c h i);
      policies = refuses;
      others = λ a c s question name aim first h task reads has i. absurd (unread_policies c h has.bytes has.told first has.spelled);
      world = λ a s ps name reaches i. absurd (unread_policies reaches.command reaches.commands reaches.policies.bytes reaches.policies.told ps reaches.policies.spelled);
      names = λ f s ps name w reaches has is. absurd (unread_policies reaches.command reaches.commands reaches.policies.bytes reaches.policies.told ps reaches.policies.spelled);
      question = λ a s question first against aim reaches i. absurd (unread_policies reaches.command reaches.commands reaches.policies.bytes reaches.policies.told first reaches.policies.spelled);
      place = λ a s question first against aim reaches served i. absurd (unread_policies reaches.command reaches.commands reaches.policies.bytes reaches.policies.told first reaches.policies.spelled);
      log = λ a s question first against place name reaches i. absurd (unread_policies reaches.reaches.command reaches.reaches.commands reaches.reaches.policies.bytes reaches.reaches.policies.told first reaches.reaches.policies.spelled);
      report = λ s question first against aim reads short. unread_policies reads.reached.reaches.command reads.reached.reaches.commands reads.reached.reaches.policies.bytes reads.reached.reaches.policies.told first reads.reached.reaches.policies.spelled;
      replay = λ s ps w reads. unread_policies reads.reaches.command reads.reaches.commands reads.reaches.policies.bytes reads.reaches.policies.told ps reads.reaches.policies.spelled;
      made = λ size h. not_generated r.words t.command size t.commands h;
    }

    policies-long-case : (t : PoliciesTold r) → limit < length t.bytes → (HasRisen r.reads → ⊥) → (a : Refusal) (c : Command) (s : Declarations) → Serves r.words c → ReadsSchema r.content c s → RefusesPolicies r.content c.policies policies_side (FailsFor r) a → code_of a ≡ 22
    policies-long-case t far calm _ c s h reads (policies_unread _ (unread here)) = absurd (calm here.rose)
    policies-long-case t far calm _ c s h reads (policies_unread _ (long is)) = refl
    policies-long-case t far calm _ c s h reads (policies_faulty f bytes is has) = absurd (omega (arith, far, (policies-content t c h bytes is).1))

    pub policies-are-long : Ends r spent → PoliciesAreLong r → (HasRisen r.reads → ⊥) → MustBe 22 r.code
    policies-are-long ends x calm =
        must-be 22 ends (at-policies 22 x.0 calm (λ c h bytes is ps spells. omega (arith, x.1, (policies-content x.0 c h bytes is).1)) (policies-long-case x.0 x.1 calm))

    unspelled : (x : PoliciesAreFaulty r) → (c : Command) → Serves r.words c → (bytes : List ℕ) → IsContent r.content c.policies bytes → (ps : List Policy) → Spells bytes ps → ⊥
    unspelled x c h bytes is ps spells = x.2 ps (subst (λ b. Spells b ps) (policies-content x.0 c h bytes is).0 spells)

    faulty-case : (x : PoliciesAreFaulty r) → (HasRisen r.reads → ⊥) → (a : Refusal) (c : Command) (s : Declarations) → Serves r.words c → ReadsSchema r.content c s → RefusesPolicies r.content c.policies policies_side (FailsFor r) a → code_of a ≡ 11
    faulty-case x calm _ c s h reads (policies_unread _ (unread here)) = absurd (calm here.rose)
    faulty-case x calm _ c s h reads (policies_unread _ (long is)) = absurd (no-long-policies x.0 x.1 c h is)
    faulty-case x calm _ c s h reads (policies_faulty f bytes is has) = refl

    pub policies-are-faulty : Ends r spent → PoliciesAreFaulty r → (HasRisen r.reads → ⊥) → MustBe 11 r.code
    policies-are-faulty ends x calm = must-be 11 ends (at-policies 11 x.0 calm (unspelled x) (faulty-case x calm))

    -- ---- a policy file that spells policies

    -- it isn't refused
    policies-read : (t : PoliciesTold r) → length t.bytes ≤ limit → (ps : List Policy) → Spells t.bytes ps → (HasRisen r.reads → ⊥) → (a : Refusal) (c : Command) → Serves r.words c → RefusesPolicies r.content c.policies policies_side (FailsFor r) a → ⊥
    policies-read t short ps spells calm _ c h (policies_unread _ (unread here)) = calm here.rose
    policies-read t short ps spells calm _ c h (policies_unread _ (long is)) = no-long-policies t short c h is
    policies-read t short ps spells calm _ c h (policies_faulty f bytes is has) = not_both spells (subst (λ b. HasFault b f) (policies-content t c h bytes is).0 has)

    one-policies : (t : PoliciesTold r) (qs : List Policy) → Spells t.bytes qs → (c : Command) → Serves r.words c → (ps : List Policy) → HasPolicies r.content c.policies ps → ps ≡ qs
    one-policies t qs spells c h ps has = one_set (policies-spelled r.content c.policies t.bytes ps (policies-at c t.command t.bytes t.commands t.told h) has) spells

    -- the names that policies which are reached write, under their schema, are those of these
    names-in : (t : PoliciesTold r) (qs : List Policy) → Spells t.bytes qs → (o : Option NameFault) (s : Declarations) (ps : List Policy) → Reaches r.content r.words s ps → name_fault s ps ≡ o → name_fault t.schema qs ≡ o
    names-in t qs spells o s ps x e =
        subst (λ d. name_fault d qs ≡ o) (one-schema t x.command x.commands s x.schema) (subst (λ us. name_fault s us ≡ o) (one-policies t qs spells x.command x.commands ps x.policies) e)

    -- ---- policies of which a question is asked

    question-read : (t : QuestionSpelled r) → (HasRisen r.reads → ⊥) → (a : Refusal) (c : Command) → Serves r.words c → RefusesPolicies r.content c.policies policies_side (FailsFor r) a → ⊥
    question-read t calm a c h i = policies-read t.before t.short t.policies t.spelled calm a c h i

    -- no world is replayed
    no-replay : (t : QuestionSpelled r) → (s : Declarations) (ps : List Policy) (name : List ℕ) → ReachesWorld r.content r.words s ps name → ⊥
    no-replay t s ps name reaches =
        not_both_tasks t.before.command.task t.question t.name t.aim name t.task (same_task r.words t.before.command reaches.command t.before.commands reaches.commands ∙ reaches.task)

    -- the second file is the one that the words name
    one-name : (t : QuestionSpelled r) (c : Command) (question : Question) (name : Option (List ℕ)) (aim : Aim) → Serves r.words c → c.task ≡ asking question name aim → t.name ≡ name
    one-name t c question name aim h task =
        (one_question t.before.command.task t.question question t.name name t.aim aim t.task (same_task r.words t.before.command c t.before.commands h ∙ task)).1

    -- ---- a second policy file, where the first is read

    one-file : (t : AgainstNamed r) (c : Command) (question : Question) (name : List ℕ) (aim : Aim) → Serves r.words c → c.task ≡ asking question (Some name) aim → name ≡ t.file
    one-file t c question name aim h task = let named = t.named in let other = one-name t.before c question (Some name) aim h task in cc

    -- no question is reached where the second file isn't read
    no-question : (t : AgainstNamed r) → ((ps : List Policy) → HasPolicies r.content t.file ps → ⊥)
        → (s : Declarations) (question : Question) (first : List Policy) (against : Option (List Policy)) (aim : Aim) → ReachesQuestion r.content r.words s question first against aim → ⊥
    no-question t unread_file s question first against aim x =
        let same = sym (one-name t.before x.command question x.name aim x.commands x.task) ∙ t.named in
        let has = named-content r.content x.name against t.file same x.others in
        unread_file has.0 has.1

    -- where no second file is read, what comes is what it is refused for
    at-against : (n : ℕ) (t : AgainstNamed r) → (HasRisen r.reads → ⊥) → ((ps : List Policy) → HasPolicies r.content t.file ps → ⊥)
        → ((a : Refusal) → RefusesPolicies r.content t.file against_side (FailsFor r) a → code_of a ≡ n) → Only r n
    at-against n t calm unread_file refuses = record {
      words = λ none. absurd (none (as_command t.before.before.command) t.before.before.commands);
      schema = λ a c h i. absurd (schema-read t.before.before calm a c h i);
      policies = λ a c s h reads i. absurd (question-read t.before calm a c h i);
      others = λ a c s question name aim first h task reads has i.
          let same : name ≡ t.file = one-file t c question name aim h task in
          refuses a (subst (λ file. RefusesPolicies r.content file against_side (FailsFor r) a) same i);
      world = λ a s ps name reaches i. absurd (no-replay t.before s ps name reaches);
      names = λ f s ps name w reaches has is. absurd (no-replay t.before s ps name reaches);
      question = λ a s question first against aim reaches i. absurd (no-question t unread_file s question first against aim reaches);
      place = λ a s question first against aim reaches served i. absurd (no-question t unread_file s question first against aim reaches);
      log = λ a s question first against place name reaches i. absurd (no-question t unread_file s question first against (checking place name) reaches.reaches);
      report = λ s question first against aim reads short. no-question t unread_file s question first against aim reads.reached.reaches;
      replay = λ s ps w reads. no-replay t.before s ps reads.name reads.reaches;
      made = λ size h. not_generated r.words t.before.before.command size t.before.before.commands h;
    }

    against-content : (t : AgainstNamed r) (bytes : List ℕ) → IsContent r.content t.file bytes → (bytes ≡ t.bytes) × (length t.bytes ≤ limit)
    against-content t bytes is = content-is r.content t.file t.bytes bytes t.told is

    against-long-case : (t : AgainstNamed r) → limit < length t.bytes → (HasRisen r.reads → ⊥) → (a : Refusal) → RefusesPolicies r.content t.file against_side (FailsFor r) a → code_of a ≡ 22
    against-long-case t far calm _ (policies_unread _ (unread here)) = absurd (calm here.rose)
    against-long-case t far calm _ (policies_unread _ (long is)) = refl
    against-long-case t far calm _ (policies_faulty f bytes is has) = absurd (omega (arith, far, (against-content t bytes is).1))

    pub against-is-long : Ends r spent → AgainstIsLong r → (HasRisen r.reads → ⊥) → MustBe 22 r.code
    against-is-long ends x calm =
        must-be 22 ends (at-against 22 x.0 calm (λ ps has. omega (arith, x.1, (against-content x.0 has.bytes has.told).1)) (against-long-case x.0 x.1 calm))

    against-faulty-case : (t : AgainstNamed r) → length t.bytes ≤ limit → (HasRisen r.reads → ⊥) → (a : Refusal) → RefusesPolicies r.content t.file against_side (FailsFor r) a → code_of a ≡ 11
    against-faulty-case t short calm _ (policies_unread _ (unread here)) = absurd (calm here.rose)
    against-faulty-case t short calm _ (policies_unread _ (long is)) = absurd (let far = long-is r.content t.file t.bytes t.told is in omega (arith, short, far))
    against-faulty-case t short calm _ (policies_faulty f bytes is has) = refl

    pub against-is-faulty : Ends r spent → AgainstIsFaulty r → (HasRisen r.reads → ⊥) → MustBe 11 r.code
    against-is-faulty ends x calm =
        must-be 11 ends (at-against 11 x.0 calm (λ ps has. x.2 ps (subst (λ b. Spells b ps) (against-content x.0 has.bytes has.told).0 has.spelled)) (against-faulty-case x.0 x.1 calm))

    -- ---- policies that are all spelled

    -- what is found in the policies that are reached, under their schema, is found in these
    found-in : {X : Type 0} (t : AllSpelled r) (find : Declarations → List Policy → Option (List Policy) → Option X) (o : Option X) (s : Declarations) (question : Question) (first : List Policy) (against : Option (List Policy)) (aim : Aim)
        → ReachesQuestion r.content r.words s question first against aim → find s first against ≡ o → find t.before.before.schema t.before.policies t.others ≡ o
    found-in t find o s question first against aim x e =
        let schema = one-schema t.before.before x.command x.commands s x.schema in
        let policies = one-policies t.before.before t.before.policies t.before.spelled x.command x.commands first x.policies in
        let others = one-against r.content t.before.name x.name t.others against t.against (one-name t.before x.command question x.name aim x.commands x.task) x.others in
        subst (λ d. find d t.before.policies t.others ≡ o) schema (subst (λ ps. find s ps t.others ≡ o) policies (subst (λ qs. find s first qs ≡ o) others e))

    -- it isn't found where these have none
    has-none : {X : Type 0} (t : AllSpelled r) (find : Declarations → List Policy → Option (List Policy) → Option X) (f : X) (s : Declarations) (question : Question) (first : List Policy) (against : Option (List Policy)) (aim : Aim)
        → find t.before.before.schema t.before.policies t.others ≡ None → ReachesQuestion r.content r.words s question first against aim → find s first against ≡ Some f → ⊥
    has-none t find f s question first against aim none x e = let some = found-in t find (Some f) s question first against aim x e in absurd cc

    -- and it is found where these have one
    has-some : {X : Type 0} (t : AllSpelled r) (find : Declarations → List Policy → Option (List Policy) → Option X) (s : Declarations) (question : Question) (first : List Policy) (against : Option (List Policy)) (aim : Aim)
        → find t.before.before.schema t.before.policies t.others ≢ None → ReachesQuestion r.content r.words s question first against aim → find s first against ≡ None → ⊥
    has-some t find s question first against aim some x e = some (found-in t find None s question first against aim x e)

    against-read : (t : AllSpelled r) → (HasRisen r.reads → ⊥) → (a : Refusal) (c : Command) (question : Question) (name : List ℕ) (aim : Aim) → Serves r.words c → c.task ≡ asking question (Some name) aim
        → RefusesPolicies r.content name against_side (FailsFor r) a → ⊥
    against-read t calm a c question name aim h task i =
        against-file-read r.content t.before.name t.others name (FailsFor r) t.against (one-name t.before c question (Some name) aim h task) (λ file here. calm here.rose) a i

    -- where a question is asked, what comes is what its policies are refused for
    at-question : (n : ℕ) (t : AllSpelled r) → (HasRisen r.reads → ⊥)
        → ((a : Refusal) (s : Declarations) (question : Question) (first : List Policy) (against : Option (List Policy)) (aim : Aim) → ReachesQuestion r.content r.words s question first against aim → RefusesQuestion s first against a → code_of a ≡ n)
        → ((s : Declarations) (question : Question) (first : List Policy) (against : Option (List Policy)) (aim : Aim) → ReachesQuestion r.content r.words s question first against aim → AreServed s first against → ⊥) → Only r n
    at-question n t calm refuses unserved = record {
      words = λ none. absurd (none (as_command t.before.before.command) t.before.before.commands);
      schema = λ a c h i. absurd (schema-read t.before.before calm a c h i);
      policies = λ a c s h reads i. absurd (question-read t.before calm a c h i);
      others = λ a c s question name aim first h task reads has i. absurd (against-read t calm a c question name aim h task i);
      world = λ a s ps name reaches i. absurd (no-replay t.before s ps name reaches);
      names = λ f s ps name w reaches has is. absurd (no-replay t.before s ps name reaches);
      question = refuses;
      place = λ a s question first against aim reaches served i. absurd (unserved s question first against aim reaches served);
      log = λ a s question first against place name reaches i. absurd (unserved s question first against (checking place name) reaches.reaches reaches.served);
      report = λ s question first against aim reads short. unserved s question first against aim reads.reached.reaches reads.reached.served;
      replay = λ s ps w reads. no-replay t.before s ps reads.name reads.reaches;
      made = λ size h. not_generated r.words t.before.before.command size t.before.before.commands h;
    }

    -- they write a name that isn't declared
    unknown-case : (t : AllSpelled r) → names_fault t.before.before.schema t.before.policies t.others ≢ None
        → (a : Refusal) (s : Declarations) (question : Question) (first : List Policy) (against : Option (List Policy)) (aim : Aim) → ReachesQuestion r.content r.words s question first against aim → RefusesQuestion s first against a → code_of a ≡ 13
    unknown-case t some _ s question first against aim reaches (undeclared side f is) = refl
    unknown-case t some _ s question first against aim reaches (untyped side f declared is) = refl

    question-unknown : Ends r spent → (t : AllSpelled r) → names_fault t.before.before.schema t.before.policies t.others ≢ None → (HasRisen r.reads → ⊥) → MustBe 13 r.code
    question-unknown ends t some calm =
        must-be 13 ends (at-question 13 t calm (unknown-case t some)
        (λ s question first against aim reaches served. has-some t names_fault s question first against aim some reaches served.declared))

    -- one of them isn't typed
    untyped-case : (t : AllSpelled r) → types_fault t.before.before.schema t.before.policies t.others ≢ None
        → (a : Refusal) (s : Declarations) (question : Question) (first : List Policy) (against : Option (List Policy)) (aim : Aim) → ReachesQuestion r.content r.words s question first against aim → RefusesQuestion s first against a → code_of a ≡ 13
    untyped-case t some _ s question first against aim reaches (undeclared side f is) = refl
    untyped-case t some _ s question first against aim reaches (untyped side f declared is) = refl

    pub policies-are-untyped : Ends r spent → PoliciesAreUntyped r → (HasRisen r.reads → ⊥) → MustBe 13 r.code
    policies-are-untyped ends x calm =
        must-be 13 ends (at-question 13 x.0 calm (untyped-case x.0 x.2)
        (λ s question first against aim reaches served. has-some x.0 types_fault s question first against aim x.2 reaches served.typed))

    -- ---- policies that are served

    -- they aren't refused
    question-served : (x : IsServed r) → (a : Refusal) (s : Declarations) (question : Question) (first : List Policy) (against : Option (List Policy)) (aim : Aim) → ReachesQuestion r.content r.words s question first against aim → RefusesQuestion s first against a → ⊥
    question-served x _ s question first against aim reaches (undeclared side f is) = has-none x.0 names_fault (side, f) s question first against aim x.1.declared reaches is
    question-served x _ s question first against aim reaches (untyped side f declared is) = has-none x.0 types_fault (side, f) s question first against aim x.1.typed reaches is

    -- the aim is the one that the words name, and the schema the one that is spelled
    one-aim : (t : AllSpelled r) (s : Declarations) (question : Question) (first : List Policy) (against : Option (List Policy)) (aim : Aim) → ReachesQuestion r.content r.words s question first against aim → t.before.aim ≡ aim
    one-aim t s question first against aim x =
        (one_question t.before.before.command.task t.before.question question t.before.name x.name t.before.aim aim t.before.task (same_task r.words t.before.before.command x.command t.before.before.commands x.commands ∙ x.task)).2

    reached-schema-is : (t : AllSpelled r) (s : Declarations) (question : Question) (first : List Policy) (against : Option (List Policy)) (aim : Aim) → ReachesQuestion r.content r.words s question first against aim → s ≡ t.before.before.schema
    reached-schema-is t s question first against aim x = one-schema t.before.before x.command x.commands s x.schema

    environment-is : (x : IsServed r) (s : Declarations) (question : Question) (first : List Policy) (against : Option (List Policy)) (aim : Aim) → ReachesAim r.content r.words s question first against aim → HasEnvironment x.0.before.before.schema x.0.before.aim
    environment-is x s question first against aim reached =
        subst (λ d. HasEnvironment d x.0.before.aim) (reached-schema-is x.0 s question first against aim reached.reaches)
        (subst (λ (m : Aim). HasEnvironment s m) (sym (one-aim x.0 s question first against aim reached.reaches)) reached.environment)

    -- where policies are served, what comes is what the place or the log is refused for
    at-aim : (n : ℕ) (x : IsServed r) → (HasRisen r.reads → ⊥)
        → ((a : Refusal) → RefusesPlace x.0.before.before.schema x.0.before.aim a → code_of a ≡ n)
        → ((a : Refusal) (place : ℕ) (name : List ℕ) → x.0.before.aim ≡ checking place name → HasEnvironment x.0.before.before.schema x.0.before.aim → RefusesLog r.content name (FailsFor r) a → code_of a ≡ n)
        → (HasEnvironment x.0.before.before.schema x.0.before.aim → HasShortLog r.content x.0.before.aim → ⊥) → Only r n
    at-aim n x calm placeless unread-log done = record {
      words = λ none. absurd (none (as_command x.0.before.before.command) x.0.before.before.commands);
      schema = λ a c h i. absurd (schema-read x.0.before.before calm a c h i);
      policies = λ a c s h reads i. absurd (question-read x.0.before calm a c h i);
      others = λ a c s question name aim first h task reads has i. absurd (against-read x.0 calm a c question name aim h task i);
      world = λ a s ps name reaches i. absurd (no-replay x.0.before s ps name reaches);
      names = λ f s ps name w reaches has is. absurd (no-replay x.0.before s ps name reaches);
      question = λ a s question first against aim reaches i. absurd (question-served x a s question first against aim reaches i);
      place = λ a s question first against aim reaches served i.
          placeless a (subst (λ d. RefusesPlace d x.0.before.aim a) (reached-schema-is x.0 s question first against aim reaches) (subst (λ (m : Aim). RefusesPlace s m a) (sym (one-aim x.0 s question first against aim reaches)) i));
      log = λ a s question first against place name reaches i.
          unread-log a place name (one-aim x.0 s question first against (checking place name) reaches.reaches) (environment-is x s question first against (checking place name) reaches) i;
      report = λ s question first against aim reads short.
          done (environment-is x s question first against aim reads.reached) (subst (HasShortLog r.content) (sym (one-aim x.0 s question first against aim reads.reached.reaches)) short);
      replay = λ s ps w reads. no-replay x.0.before s ps reads.name reads.reaches;
      made = λ size h. not_generated r.words x.0.before.before.command size x.0.before.before.commands h;
    }

    -- a place that is none of the schema's
    not-within : (s : Declarations) (aim : Aim) (place : ℕ) → place_in aim ≡ Some place → length (environments s) ≤ place → HasEnvironment s aim → ⊥
    not-within s aim place is beyond has = let within : place < length (environments s) = subst (λ (o : Option ℕ). IfSome o (λ k. k < length (environments s))) is has in omega (arith, within, beyond)

    misplaced-code : (s : Declarations) (aim : Aim) (a : Refusal) → RefusesPlace s aim a → code_of a ≡ 16
    misplaced-code s aim _ (misplaced place is beyond) = refl

    well-placed : (s : Declarations) (aim : Aim) → HasEnvironment s aim → (a : Refusal) → RefusesPlace s aim a → ⊥
    well-placed s aim has _ (misplaced place is beyond) = not-within s aim place is beyond has

    pub place-is-missing : Ends r spent → PlaceIsMissing r → (HasRisen r.reads → ⊥) → MustBe 16 r.code
    place-is-missing ends x calm =
        let s = x.served.0.before.before.schema in
        let aim = x.served.0.before.aim in
        must-be 16 ends (at-aim 16 x.served calm (misplaced-code s aim) (λ a place name is has i. absurd (not-within s aim x.place x.named x.beyond has)) (λ has short. not-within s aim x.place x.named x.beyond has))

    -- a log that is too long
    log-long-case : (content : Content) (name : List ℕ) (failed : List ℕ → Type 0) → ((file : List ℕ) → failed file → ⊥) → (a : Refusal) → RefusesLog content name failed a → code_of a ≡ 22
    log-long-case content name failed calm _ (log_unread here) = absurd (calm name here)
    log-long-case content name failed calm _ (log_long is) = refl

    log-short : (content : Content) (name bytes : List ℕ) → content name ≡ Some bytes → IsShort (content name) → length bytes ≤ log_limit
    log-short content name bytes told short = subst (λ (o : Option (List ℕ)). IsShort o) told short

    long-log : (content : Content) (name bytes : List ℕ) → content name ≡ Some bytes → IsLongLog content name → log_limit < length bytes
    long-log content name bytes told far = subst (λ (o : Option (List ℕ)). IfSome o (λ text. log_limit < length text)) told far

    pub log-is-long : Ends r spent → LogIsLong r → (HasRisen r.reads → ⊥) → MustBe 22 r.code
    log-is-long ends x calm =
        let s = x.served.0.before.before.schema in
        let aim = x.served.0.before.aim in
        let has : HasEnvironment s aim = subst (λ (m : Aim). HasEnvironment s m) (sym x.aim_is) x.within in
        must-be 22 ends (at-aim 22 x.served calm (λ a i. absurd (well-placed s aim has a i)) (λ a place name is h i. log-long-case r.content name (FailsFor r) (λ file here. calm here.rose) a i)
        (λ h short. let within = log-short r.content x.name x.bytes x.told (subst (HasShortLog r.content) x.aim_is short) in let far = x.long in omega (arith, within, far)))

    -- ---- where all of a question is readable

    log-read : (content : Content) (aim : Aim) (place : ℕ) (name : List ℕ) (failed : List ℕ → Type 0) → LogIsTold content aim → aim ≡ checking place name → ((file : List ℕ) → failed file → ⊥) → (a : Refusal) → RefusesLog content name failed a → ⊥
    log-read content aim place name failed told is calm _ (log_unread here) = calm name here
    log-read content aim place name failed told is calm _ (log_long beyond) =
        let t = subst (LogIsTold content) is told in let far = long-log content name t.0 t.1 beyond in let near = t.2 in omega (arith, far, near)

    none-refused : (x : IsReadable r) → (HasRisen r.reads → ⊥) → (a : Refusal) → IsRefusal r.content r.words (FailsFor r) a → ⊥
    none-refused x calm _ (no_command none) = none (as_command x.served.0.before.before.command) x.served.0.before.before.commands
    none-refused x calm _ (of_schema a c h i) = schema-read x.served.0.before.before calm a c h i
    none-refused x calm _ (of_policies a c s h reads i) = question-read x.served.0.before calm a c h i
    none-refused x calm _ (of_against a c s question name aim first h task reads has i) = against-read x.served.0 calm a c question name aim h task i
    none-refused x calm _ (of_world a s ps name reaches i) = no-replay x.served.0.before s ps name reaches
    none-refused x calm _ (of_names f s ps name w reaches has is) = no-replay x.served.0.before s ps name reaches
    none-refused x calm _ (of_question a s question first against aim reaches i) = question-served x.served a s question first against aim reaches i
    none-refused x calm _ (of_place a s question first against aim reaches served i) =
        well-placed x.served.0.before.before.schema x.served.0.before.aim x.environment a
        (subst (λ d. RefusesPlace d x.served.0.before.aim a) (reached-schema-is x.served.0 s question first against aim reaches) (subst (λ (m : Aim). RefusesPlace s m a) (sym (one-aim x.served.0 s question first against aim reaches)) i))
    none-refused x calm _ (of_log a s question first against place name reaches i) =
        log-read r.content x.served.0.before.aim place name (FailsFor r) x.log (one-aim x.served.0 s question first against (checking place name) reaches.reaches) (λ file here. calm here.rose) a i

    whole-code : (code : ℕ) → code ≤ 2 → IsWhole code
    whole-code zero most = inl refl
    whole-code (suc zero) most = inr (inl refl)
    whole-code (suc (suc zero)) most = inr (inr (inl refl))
    whole-code (suc (suc (suc n))) most = absurd (omega arith)

    reported-whole : (q : Asked) → Reported q r.before r.after (HasRisen r.writes) r.code spent → (HasRisen r.writes → ⊥) → IsWhole r.code
    reported-whole q (whole lines report c text logs) calm = whole-code r.code (status-code lines r.code c)
    reported-whole q (cut lines next n front rose c text logs) calm = absurd (calm rose)
    reported-whole q (cut_none n none rose c text logs) calm = absurd (calm rose)
    reported-whole q (stopped lines front c text logs) calm = inr (inr (inr c))

    logged-whole : (q : Asked) (env : Env) → Logged q env r.before r.after (HasRisen r.writes) r.code spent → (HasRisen r.writes → ⊥) → IsWhole r.code
    logged-whole q env (log_whole log shows c text none) calm = inl c
    logged-whole q env (log_front log lines next rest n shows order rose c text none) calm = absurd (calm rose)
    logged-whole q env (log_first log lines rest shows order c text none) calm = inr (inr (inr c))
    logged-whole q env (other_whole l other c text logs) calm = whole-code r.code (status-code (l ∷ []) r.code c)
    logged-whole q env (other_front l n other rose c text none) calm = absurd (calm rose)
    logged-whole q env (unlogged c text none) calm = inr (inr (inr c))

    answered-whole : (a : Answer) (code : ℕ) → code ≡ answer_code a → (code ≡ 14) ⊎ IsWhole code
    answered-whole accepted code c = inr (inl c)
    answered-whole (rejected step why) code c = inl c
    answered-whole too_large code c = inr (inr (inr (inl c)))

    checked-whole : (content : Option (List ℕ)) (q : Asked) (env : Env) → Checked content q env r.before r.after (HasRisen r.writes) r.code → (HasRisen r.writes → ⊥) → (r.code ≡ 14) ⊎ IsWhole r.code
    checked-whole content q env (answer_whole a short claims c text) calm = answered-whole a r.code c
    checked-whole content q env (answer_front a n short claims rose c text) calm = absurd (calm rose)
    checked-whole content q env (unchecked c text) calm = inr (inr (inr (inr c)))

    reduction-whole : (y : Reduction) → Reduced y r.before r.after (HasRisen r.writes) r.code spent → (HasRisen r.writes → ⊥) → (r.code ≡ 0) ⊎ ((r.code ≡ 2) ⊎ (r.code ≡ 30))
    reduction-whole y report calm =
        ⊎_elim (λ h. ⊎_elim (λ (e : r.code ≡ 0). inl e) (λ (e : r.code ≡ 2). inr (inl e)) h)
        (λ h. ⊎_elim (λ (x : (r.code ≡ 21) × (HasRisen r.writes)). absurd (calm x.1)) (λ (e : r.code ≡ 30). inr (inr e)) h) (reduction-codes y r.before r.after (HasRisen r.writes) r.code spent report)

    -- want of memory is one of the statuses of each aim
    out-of-memory : (aim : Aim) (code : ℕ) → code ≡ 30 → IsWholeFor aim code
    out-of-memory (reporting budget) code c = inr (inr (inr c))
    out-of-memory (logging budget place) code c = inr (inr (inr c))
    out-of-memory (checking place name) code c = inr (inr (inr (inr c)))
    out-of-memory (reducing budget) code c = inr (inr c)

    -- what is done is for the aim that the words name
    for-aim : (x : IsReadable r) (s : Declarations) (question : Question) (first : List Policy) (against : Option (List Policy)) (aim : Aim) → ReadsAll r.content r.words s question first against aim → IsWholeFor aim r.code → IsWholeFor x.served.0.before.aim r.code
    for-aim x s question first against aim reads h = subst (λ (m : Aim). IsWholeFor m r.code) (sym (one-aim x.served.0 s question first against aim reads.reached.reaches)) h

    pub complete : Ends r spent → (x : IsReadable r) → (HasRisen r.reads → ⊥) → (HasRisen r.writes → ⊥) → IsWholeFor x.served.0.before.aim r.code
    complete (refused a h c t none) x calm still = absurd (none-refused x calm a h)
    complete (refusal_cut a k h rose c t none) x calm still = absurd (still rose)
    complete (reported s question first against budget reads report) x calm still = for-aim x s question first against (reporting budget) reads (reported-whole (asked s question first against budget) report still)
    complete (wrote_log s question first against budget place env reads at report) x calm still = for-aim x s question first against (logging budget place) reads (logged-whole (asked s question first against budget) env report still)
    complete (checked_log s question first against place name env reads at report none) x calm still = for-aim x s question first against (checking place name) reads (checked-whole (r.content name) (asked s question first against 0) env report still)
    complete (reduced s question first against budget reads report) x calm still = for-aim x s question first against (reducing budget) reads (reduction-whole (to_reduce s first budget) report still)
    complete (replayed s ps w reads report none) x calm still = absurd (no-replay x.served.0.before s ps reads.name reads.reaches)
    complete (generated size commands report) x calm still = absurd (not_generated r.words x.served.0.before.before.command size x.served.0.before.before.commands commands)
    complete (no_memory c t none) x calm still = out-of-memory x.served.0.before.aim r.code c

    -- ---- a log that is checked

    -- what is asked is what the words and the files ask
    one-asked : (t : AllSpelled r) (s : Declarations) (question : Question) (first : List Policy) (against : Option (List Policy)) (aim : Aim) → ReachesQuestion r.content r.words s question first against aim
        → asked s question first against 0 ≡ asked t.before.before.schema t.before.question t.before.policies t.others 0
    one-asked t s question first against aim x =
        let schema = one-schema t.before.before x.command x.commands s x.schema in
        let policies = one-policies t.before.before t.before.policies t.before.spelled x.command x.commands first x.policies in
        let others = one-against r.content t.before.name x.name t.others against t.against (one-name t.before x.command question x.name aim x.commands x.task) x.others in
        let same : question ≡ t.before.question
        = sym (one_question t.before.before.command.task t.before.question question t.before.name x.name t.before.aim aim t.before.task (same_task r.words t.before.before.command x.command t.before.before.commands x.commands ∙ x.task)).0 in
        λ i. asked (schema i) (same i) (policies i) (others i) 0

    readable-log : (x : ReadsLog r) → IsReadable r
    readable-log x = record {
      served = x.served;
      environment = subst (λ (m : Aim). HasEnvironment x.served.0.before.before.schema m) (sym x.aim_is) (slice_get_within (environments x.served.0.before.before.schema) x.place x.env x.named);
      log = subst (LogIsTold r.content) (sym x.aim_is) (x.bytes, x.told, x.short);
    }

    -- the log is the one that is named, and the environment too
    this-log : (x : ReadsLog r) (s : Declarations) (question : Question) (first : List Policy) (against : Option (List Policy)) (place : ℕ) (name : List ℕ) (env : Env) → ReadsAll r.content r.words s question first against (checking place name)
        → slice_get (environments s) place ≡ Some env → Checked (r.content name) (asked s question first against 0) env r.before r.after (HasRisen r.writes) r.code
        → Checked (Some x.bytes) (asked_of_log x) x.env r.before r.after (HasRisen r.writes) r.code
    this-log x s question first against place name env reads at report =
        let reaches = reads.reached.reaches in
        let aims : checking place name ≡ checking x.place x.name = sym (one-aim x.served.0 s question first against (checking place name) reaches) ∙ x.aim_is in
        let there : place ≡ x.place = cc in
        let named : name ≡ x.name = cc in
        let schema = reached-schema-is x.served.0 s question first against (checking place name) reaches in
        let both : Some env ≡ Some x.env = sym at ∙ ((λ i. slice_get (environments (schema i)) (there i)) ∙ x.named) in
        let envs : env ≡ x.env = cc in
        subst (λ (e : Env). Checked (Some x.bytes) (asked_of_log x) e r.before r.after (HasRisen r.writes) r.code) envs
        (subst (λ (q : Asked). Checked (Some x.bytes) q env r.before r.after (HasRisen r.writes) r.code) (one-asked x.served.0 s question first against (checking place name) reaches)
        (subst (λ (o : Option (List ℕ)). Checked o (asked s question first against 0) env r.before r.after (HasRisen r.writes) r.code) (ap r.content named ∙ x.told) report))

    said-whole : (x : ReadsLog r) (n : ℕ) → ((a : Answer) → Claims (Some x.bytes) (asked_of_log x) x.env a → r.code ≡ answer_code a → MustSay n r.code)
        → Checked (Some x.bytes) (asked_of_log x) x.env r.before r.after (HasRisen r.writes) r.code → (HasRisen r.writes → ⊥) → MustSay n r.code
    said-whole x n says (answer_whole a short claims c text) still = says a claims c
    said-whole x n says (answer_front a k short claims rose c text) still = absurd (still rose)
    said-whole x n says (unchecked c text) still = inr (inr c)

    not-checking : (x : ReadsLog r) (s : Declarations) (question : Question) (first : List Policy) (against : Option (List Policy)) (aim : Aim) → ReachesQuestion r.content r.words s question first against aim → aim ≡ checking x.place x.name
    not-checking x s question first against aim reaches = sym (one-aim x.served.0 s question first against aim reaches) ∙ x.aim_is

    must-say : (x : ReadsLog r) (n : ℕ) → ((a : Answer) → Claims (Some x.bytes) (asked_of_log x) x.env a → r.code ≡ answer_code a → MustSay n r.code) → Ends r spent → (HasRisen r.reads → ⊥) → (HasRisen r.writes → ⊥) → MustSay n r.code
    must-say x n says (refused a h c t none) calm still = absurd (none-refused (readable-log x) calm a h)
    must-say x n says (refusal_cut a k h rose c t none) calm still = absurd (still rose)
    must-say x n says (reported s question first against budget reads report) calm still =
        absurd (let other = not-checking x s question first against (reporting budget) reads.reached.reaches in cc)
    must-say x n says (wrote_log s question first against budget place env reads at report) calm still =
        absurd (let other = not-checking x s question first against (logging budget place) reads.reached.reaches in cc)
    must-say x n says (reduced s question first against budget reads report) calm still =
        absurd (let other = not-checking x s question first against (reducing budget) reads.reached.reaches in cc)
    must-say x n says (checked_log s question first against place name env reads at report none) calm still = said-whole x n says (this-log x s question first against place name env reads at report) still
    must-say x n says (replayed s ps w reads report none) calm still = absurd (no-replay x.served.0.before s ps reads.name reads.reaches)
    must-say x n says (generated size commands report) calm still = absurd (not_generated r.words x.served.0.before.before.command size x.served.0.before.before.commands commands)
    must-say x n says (no_memory c t none) calm still = inr (inr c)

    right-answer : ShownOnce → (x : ReadsLog r) → IsShown (asked_of_log x) x.env x.bytes → (a : Answer) → Claims (Some x.bytes) (asked_of_log x) x.env a → r.code ≡ answer_code a → MustSay 0 r.code
    right-answer once x shown accepted claims c = inl c
    right-answer once x shown (rejected step why) claims c = absurd (once (asked_of_log x) x.env x.bytes step why shown claims.1)
    right-answer once x shown too_large claims c = inr (inl c)

    wrong-answer : (x : ReadsLog r) → ¬ IsShown (asked_of_log x) x.env x.bytes → (a : Answer) → Claims (Some x.bytes) (asked_of_log x) x.env a → r.code ≡ answer_code a → MustSay 14 r.code
    wrong-answer x never accepted claims c = absurd (never claims.2)
    wrong-answer x never (rejected step why) claims c = inl c
    wrong-answer x never too_large claims c = inr (inl c)

    pub right-log : ShownOnce → Ends r spent → LogIsRight r → (HasRisen r.reads → ⊥) → (HasRisen r.writes → ⊥) → MustSay 0 r.code
    right-log once ends x calm still = must-say x.0 0 (right-answer once x.0 x.1) ends calm still

    pub wrong-log : Ends r spent → LogIsWrong r → (HasRisen r.reads → ⊥) → (HasRisen r.writes → ⊥) → MustSay 14 r.code
    wrong-log ends x calm still = must-say x.0 14 (wrong-answer x.0 x.1) ends calm still

    -- ---- a world file, where the schema and the policies are read

    policies_told : WorldTold r → PoliciesTold r
    policies_told t = record {
      command = t.command;
      commands = t.commands;
      schema_bytes = t.schema_bytes;
      schema_told = t.schema_told;
      schema_short = t.schema_short;
      schema = t.schema;
      spelled = t.schema_spelled;
      bytes = t.policy_bytes;
      told = t.policies_told;
    }

    world-schema : (t : WorldTold r) → (HasRisen r.reads → ⊥) → (a : Refusal) (c : Command) → Serves r.words c → RefusesSchema r.content c (FailsFor r) a → ⊥
    world-schema t calm a c h i = schema-read (policies_told t) calm a c h i

    -- no question is asked where the words are a command to replay
    no-report : (t : WorldTold r) → (c : Command) → Serves r.words c → (question : Question) (name : Option (List ℕ)) (aim : Aim) → c.task ≡ asking question name aim → ⊥
    no-report t c h question name aim task = not_both_tasks t.command.task question name aim t.name (same_task r.words t.command c t.commands h ∙ task) t.task

    none-asked : (t : WorldTold r) (s : Declarations) (question : Question) (first : List Policy) (against : Option (List Policy)) (aim : Aim) → ReachesQuestion r.content r.words s question first against aim → ⊥
    none-asked t s question first against aim x = no-report t x.command x.commands question x.name aim x.task

    world-policies : (t : WorldTold r) → (HasRisen r.reads → ⊥) → (a : Refusal) (c : Command) → Serves r.words c → RefusesPolicies r.content c.policies policies_side (FailsFor r) a → ⊥
    unfolding policies_told
    world-policies t calm a c h i = policies-read (policies_told t) t.policies_short t.policies t.policies_spelled calm a c h i

    -- what is reached is this schema, these policies and this file
    reached-file : (t : WorldTold r) → (s : Declarations) (ps : List Policy) (name : List ℕ) → ReachesWorld r.content r.words s ps name → name ≡ t.name
    reached-file t s ps name reaches =
        one_world_file t.command.task name t.name (same_task r.words t.command reaches.command t.commands reaches.commands ∙ reaches.task) t.task

    reached-schema : (t : WorldTold r) → (s : Declarations) (ps : List Policy) (name : List ℕ) → ReachesWorld r.content r.words s ps name → s ≡ t.schema
    unfolding policies_told
    reached-schema t s ps name reaches = one-schema (policies_told t) reaches.command reaches.commands s reaches.schema

    reached-policies : (t : WorldTold r) → (s : Declarations) (ps : List Policy) (name : List ℕ) → ReachesWorld r.content r.words s ps name → ps ≡ t.policies
    unfolding policies_told
    reached-policies t s ps name reaches = one-policies (policies_told t) t.policies t.policies_spelled reaches.command reaches.commands ps reaches.policies

    world-at : (t : WorldTold r) → (s : Declarations) (ps : List Policy) (name : List ℕ) → ReachesWorld r.content r.words s ps name → r.content name ≡ Some t.bytes
    world-at t s ps name reaches = ap r.content (reached-file t s ps name reaches) ∙ t.told

    -- where no world is read, what comes is what the world file is refused for
    at-world : (n : ℕ) (t : WorldTold r) → (HasRisen r.reads → ⊥)
        → ((s : Declarations) (ps : List Policy) (name : List ℕ) → ReachesWorld r.content r.words s ps name → (w : World) → HasWorld r.content name w → ⊥)
        → ((a : Refusal) (s : Declarations) (ps : List Policy) (name : List ℕ) → ReachesWorld r.content r.words s ps name → RefusesWorld r.content name (FailsFor r) a → code_of a ≡ n) → Only r n
    at-world n t calm unread_world refuses = record {
      words = λ none. absurd (none (as_command t.command) t.commands);
      schema = λ a c h i. absurd (world-schema t calm a c h i);
      policies = λ a c s h reads i. absurd (world-policies t calm a c h i);
      others = λ a c s question name aim first h task reads has i. absurd (no-report t c h question (Some name) aim task);
      world = refuses;
      names = λ f s ps name w reaches has is. absurd (unread_world s ps name reaches w has);
      question = λ a s question first against aim reaches i. absurd (none-asked t s question first against aim reaches);
      place = λ a s question first against aim reaches served i. absurd (none-asked t s question first against aim reaches);
      log = λ a s question first against place name reaches i. absurd (none-asked t s question first against (checking place name) reaches.reaches);
      report = λ s question first against aim reads short. none-asked t s question first against aim reads.reached.reaches;
      replay = λ s ps w reads. unread_world s ps reads.name reads.reaches w reads.spelled;
      made = λ size h. not_generated r.words t.command size t.commands h;
    }

    world-long-case : (t : WorldTold r) → limit < length t.bytes → (HasRisen r.reads → ⊥) → (a : Refusal) (s : Declarations) (ps : List Policy) (name : List ℕ) → ReachesWorld r.content r.words s ps name → RefusesWorld r.content name (FailsFor r) a → code_of a ≡ 22
    world-long-case t far calm _ s ps name reaches (world_unread _ (unread here)) = absurd (calm here.rose)
    world-long-case t far calm _ s ps name reaches (world_unread _ (long is)) = refl
    world-long-case t far calm _ s ps name reaches (world_faulty f bytes is has) =
        absurd (omega (arith, far, (content-is r.content name t.bytes bytes (world-at t s ps name reaches) is).1))

    pub world-is-long : Ends r spent → WorldIsLong r → (HasRisen r.reads → ⊥) → MustBe 22 r.code
    world-is-long ends x calm =
        must-be 22 ends (at-world 22 x.0 calm
        (λ s ps name reaches w has. omega (arith, x.1, (content-is r.content name x.0.bytes has.bytes (world-at x.0 s ps name reaches) has.told).1)) (world-long-case x.0 x.1 calm))

    world-faulty-case : (t : WorldTold r) → length t.bytes ≤ limit → (HasRisen r.reads → ⊥) → (a : Refusal) (s : Declarations) (ps : List Policy) (name : List ℕ) → ReachesWorld r.content r.words s ps name → RefusesWorld r.content name (FailsFor r) a → code_of a ≡ 17
    world-faulty-case t short calm _ s ps name reaches (world_unread _ (unread here)) = absurd (calm here.rose)
    world-faulty-case t short calm _ s ps name reaches (world_unread _ (long is)) = absurd (omega (arith, short, long-is r.content name t.bytes (world-at t s ps name reaches) is))
    world-faulty-case t short calm _ s ps name reaches (world_faulty f bytes is has) = refl

    pub world-is-faulty : Ends r spent → WorldIsFaulty r → (HasRisen r.reads → ⊥) → MustBe 17 r.code
    world-is-faulty ends x calm =
        must-be 17 ends (at-world 17 x.0 calm (λ s ps name reaches w has. x.2 w (world-spelled r.content name x.0.bytes w (world-at x.0 s ps name reaches) has)) (world-faulty-case x.0 x.1 calm))

    -- ---- where bytes spell one world at most, and have no fault then

    module _ (worlds : (bytes : List ℕ) → world.IsSettled bytes) where
      world-read : (t : WorldSpelled r) → (HasRisen r.reads → ⊥) → (a : Refusal) (s : Declarations) (ps : List Policy) (name : List ℕ) → ReachesWorld r.content r.words s ps name → RefusesWorld r.content name (FailsFor r) a → ⊥
      world-read t calm _ s ps name reaches (world_unread _ (unread here)) = calm here.rose
      world-read t calm _ s ps name reaches (world_unread _ (long is)) = omega (arith, t.short, long-is r.content name t.before.bytes (world-at t.before s ps name reaches) is)
      world-read t calm _ s ps name reaches (world_faulty f bytes is has) =
          let same = (content-is r.content name t.before.bytes bytes (world-at t.before s ps name reaches) is).0 in
          (worlds t.before.bytes).not_both t.world f t.spelled (subst (λ b. world.HasFault b f) same has)

      one-world : (t : WorldSpelled r) → (s : Declarations) (ps : List Policy) (name : List ℕ) → ReachesWorld r.content r.words s ps name → (w : World) → HasWorld r.content name w → w ≡ t.world
      one-world t s ps name reaches w has = (worlds t.before.bytes).one_world w t.world (world-spelled r.content name t.before.bytes w (world-at t.before s ps name reaches) has) t.spelled

      -- what is reached has the names that these policies have under this schema
      reached-names : (t : WorldTold r) (o : Option NameFault) → (s : Declarations) (ps : List Policy) → Reaches r.content r.words s ps → name_fault s ps ≡ o → name_fault t.schema t.policies ≡ o
      unfolding policies_told
      reached-names t o s ps x e = names-in (policies_told t) t.policies t.policies_spelled o s ps x e

      replay-unknown : Ends r spent → (t : WorldSpelled r) (f : NameFault) → name_fault t.before.schema t.before.policies ≡ Some f → (HasRisen r.reads → ⊥) → MustBe 13 r.code
      replay-unknown ends t f first calm = must-be 13 ends (record {
        words = λ none. absurd (none (as_command t.before.command) t.before.commands);
        schema = λ a c h i. absurd (world-schema t.before calm a c h i);
        policies = λ a c s h reads i. absurd (world-policies t.before calm a c h i);
        others = λ a c s question name aim first h task reads has i. absurd (no-report t.before c h question (Some name) aim task);
        world = λ a s ps name reaches i. absurd (world-read t calm a s ps name reaches i);
        names = λ g s ps name w reaches has is. refl;
        question = λ a s question first against aim reaches i. absurd (none-asked t.before s question first against aim reaches);
        place = λ a s question first against aim reaches served i. absurd (none-asked t.before s question first against aim reaches);
        log = λ a s question first against place name reaches i. absurd (none-asked t.before s question first against (checking place name) reaches.reaches);
        report = λ s question first against aim reads short. none-asked t.before s question first against aim reads.reached.reaches;
        replay = λ s ps w reads. absurd (let none = reached-names t.before None s ps (reach-world r.content r.words s ps reads.name reads.reaches) reads.declared in cc);
        made = λ size h. not_generated r.words t.before.command size t.before.commands h;
      })

      pub names-are-unknown : Ends r spent → NamesAreUnknown r → (HasRisen r.reads → ⊥) → MustBe 13 r.code
      names-are-unknown ends x calm = ⊎_elim (λ y. replay-unknown ends y.0 y.1.0 y.1.1 calm) (λ y. question-unknown ends y.0 y.1 calm) x

      -- ---- where all of a replay is readable

      replayable : (x : IsReplayable r) → (HasRisen r.reads → ⊥) → (a : Refusal) → IsRefusal r.content r.words (FailsFor r) a → ⊥
      replayable x calm _ (no_command none) = none (as_command x.0.before.command) x.0.before.commands
      replayable x calm _ (of_schema a c h i) = world-schema x.0.before calm a c h i
      replayable x calm _ (of_policies a c s h reads i) = world-policies x.0.before calm a c h i
      replayable x calm _ (of_world a s ps name reaches i) = world-read x.0 calm a s ps name reaches i
      replayable x calm _ (of_against a c s question name aim first h task reads has i) = no-report x.0.before c h question (Some name) aim task
      replayable x calm _ (of_names f s ps name w reaches has is) = absurd (let some = reached-names x.0.before (Some f) s ps (reach-world r.content r.words s ps name reaches) is in let none = x.1 in cc)
      replayable x calm _ (of_question a s question first against aim reaches i) = none-asked x.0.before s question first against aim reaches
      replayable x calm _ (of_place a s question first against aim reaches served i) = none-asked x.0.before s question first against aim reaches
      replayable x calm _ (of_log a s question first against place name reaches i) = none-asked x.0.before s question first against (checking place name) reaches.reaches

      replayed-whole : (x : IsReplayable r) → Replayed (scene x.0.before.schema x.0.before.policies x.0.world) r.before r.after (HasRisen r.writes) r.code → (HasRisen r.writes → ⊥) → IsReplayed r x
      replayed-whole x (told_whole found finds c text) still = inl (found, finds, c, text)
      replayed-whole x (told_front found lines next rest n finds order rose c text) still = absurd (still rose)
      replayed-whole x (told_first found lines rest finds order c text) still = inr c
      replayed-whole x (untold c text) still = inr c

      -- what is replayed is this world, these policies and this schema
      this-scene : (x : IsReplayable r) (s : Declarations) (ps : List Policy) (w : World) → ReadsWorld r.content r.words s ps w → Replayed (scene s ps w) r.before r.after (HasRisen r.writes) r.code
          → Replayed (scene x.0.before.schema x.0.before.policies x.0.world) r.before r.after (HasRisen r.writes) r.code
      this-scene x s ps w reads report =
          let world = one-world x.0 s ps reads.name reads.reaches w reads.spelled in
          let policies = reached-policies x.0.before s ps reads.name reads.reaches in
          let schema = reached-schema x.0.before s ps reads.name reads.reaches in
          subst (λ d. Replayed (scene d x.0.before.policies x.0.world) r.before r.after (HasRisen r.writes) r.code) schema
          (subst (λ qs. Replayed (scene s qs x.0.world) r.before r.after (HasRisen r.writes) r.code) policies (subst (λ v. Replayed (scene s ps v) r.before r.after (HasRisen r.writes) r.code) world report))

      pub complete-replay : Ends r spent → (x : IsReplayable r) → (HasRisen r.reads → ⊥) → (HasRisen r.writes → ⊥) → IsReplayed r x
      complete-replay (refused a h c t none) x calm still = absurd (replayable x calm a h)
      complete-replay (refusal_cut a k h rose c t none) x calm still = absurd (still rose)
      complete-replay (reported s question first against budget reads report) x calm still = absurd (none-asked x.0.before s question first against (reporting budget) reads.reached.reaches)
      complete-replay (wrote_log s question first against budget place env reads at report) x calm still = absurd (none-asked x.0.before s question first against (logging budget place) reads.reached.reaches)
      complete-replay (checked_log s question first against place name env reads at report none) x calm still = absurd (none-asked x.0.before s question first against (checking place name) reads.reached.reaches)
      complete-replay (reduced s question first against budget reads report) x calm still = absurd (none-asked x.0.before s question first against (reducing budget) reads.reached.reaches)
      complete-replay (replayed s ps w reads report none) x calm still = replayed-whole x (this-scene x s ps w reads report) still
      complete-replay (generated size commands report) x calm still = absurd (not_generated r.words x.0.before.command size x.0.before.commands commands)
      complete-replay (no_memory c t none) x calm still = inr c
