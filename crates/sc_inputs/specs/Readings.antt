-- What reading gives, and why it ends.
use Rattle.std.specs.Prelude.{◌≡◌, ℕ, List, Option, Some, None, is_some, Result, Ok, Err, ⊤}
use Rattle.sc_lists.specs.declared.fault.Fault.{Fault}
use Rattle.sc_lists.specs.declared.fault.Fault.TheVariants.{Told, NoMemory}
use Rattle.sc_ast.specs.declared.policy.Policy.{Policy}
use Rattle.sc_schema.specs.Declarations.{Declarations}
use Rattle.sc_schema_json.specs.Spelling as schema
use Rattle.sc_schema_syntax.specs.declared.fault.SchemaFault.{SchemaFault}
use Rattle.sc_parser.specs.declared.fault.PolicyFault.{PolicyFault}
use Rattle.sc_parser.specs.Spelling.{HasFault}
use Rattle.sc_question.specs.declared.question.Question.{Question}
use Rattle.sc_typing.specs.declared.name_fault.NameFault.{NameFault}
use Rattle.sc_typing.specs.Names.{name_fault}
use Rattle.sc_world.specs.declared.world.World.{World}
use Rattle.sc_world_json.specs.declared.fault.WorldFault.{WorldFault}
use Rattle.sc_world_json.specs.Reading as world
use Rattle.sc_inputs.specs.Serving.{Aim, Command, Generates, HasUnits, asking, checking, has_second, logging, reducing, replaying, reporting}
use Rattle.sc_inputs.specs.Refusals as spec
use Rattle.sc_inputs.specs.View.{refusal_view}
use Rattle.sc_inputs.specs.declared.inputs.Asking.{Asking}
use Rattle.sc_inputs.specs.declared.inputs.Inputs.{Inputs}
use Rattle.sc_inputs.specs.declared.inputs.Inputs.TheVariants.{Asked, Replayed, Logged, Checked, Reduced, Generated}
use Rattle.sc_inputs.specs.declared.inputs.Scene.{Scene}
use Rattle.sc_inputs.specs.declared.refusal.Refusal.{Refusal}
use Rattle.sc_inputs.specs.declared.refusal.Refusal.TheVariants.{ReadFault}

-- ---- a command whose files are read

-- the words are a command to ask this question for this aim, its files were read and spell a schema and these
-- policies, which write declared names alone and are typed in each environment, and the environment that is named is
-- one of the schema; the budget allows some work, and there is a second set where the question takes two, unless the
-- first is to be reduced
pub record ReadsAll (content : spec.Content) (words : List (List ℕ)) (s : Declarations) (question : Question)
    (first : List Policy) (against : Option (List Policy)) (aim : Aim) : Type 0 where
  pub reached : spec.ReachesAim content words s question first against aim
  pub units : HasUnits aim
  pub sets : is_some against ≡ has_second aim question

-- the words are a command to replay a world, its files were read and spell a schema, policies and the world, and the
-- policies write declared names alone
pub record ReadsWorld (content : spec.Content) (words : List (List ℕ)) (s : Declarations) (ps : List Policy)
    (w : World) : Type 0 where
  pub name : List ℕ
  pub reaches : spec.ReachesWorld content words s ps name
  pub spelled : spec.HasWorld content name w
  pub declared : name_fault s ps ≡ None

-- ---- calls that may be refused

-- a refusal that may come, or want of memory
abbrev pub FailsWith : (spec.Refusal → Type 0) → Fault Refusal → Type 0
FailsWith P (Told r) = P (refusal_view r)
FailsWith P NoMemory = ⊤

-- a file couldn't be read
abbrev pub IsReadFault : Fault Refusal → Type 0
IsReadFault (Told (ReadFault file)) = ⊤
IsReadFault _ = ⊥

-- it is answered so
abbrev pub IsUnread : {T : Type 0} → Result T (Fault Refusal) → Type 0
IsUnread (Ok x) = ⊥
IsUnread (Err fault) = IsReadFault fault

-- a check for a fault: there is none, or it is refused, or memory runs out
abbrev pub Checks : {F : Type 0} → Option F → (F → spec.Refusal) → Result (Unit {0}) (Fault Refusal) → Type 0
Checks fault refused (Ok x) = fault ≡ None
Checks {F} fault refused (Err (Told r)) = (f : F) × (fault ≡ Some f) × (refusal_view r ≡ refused f)
Checks fault refused (Err NoMemory) = ⊤

-- ---- what bytes are refused for

-- they spell no schema
abbrev pub IsNoSchema : List ℕ → spec.Refusal → Type 0
IsNoSchema bytes a = (f : SchemaFault) × (a ≡ spec.schema_text f) × schema.HasFault bytes f

-- they spell no policies
abbrev pub IsNoPolicies : List ℕ → spec.Side → spec.Refusal → Type 0
IsNoPolicies bytes side a = (f : PolicyFault) × (a ≡ spec.policy_text side f) × HasFault bytes f

-- they spell no world
abbrev pub IsNoWorld : List ℕ → spec.Refusal → Type 0
IsNoWorld bytes a = (f : WorldFault) × (a ≡ spec.world_text f) × world.HasFault bytes f

-- ---- what the files of a command give

-- where the schema is read: the policies of a question
pub record ReadsAsking (content : spec.Content) (c : Command) (s : Declarations) (aim : Aim) (i : Asking) : Type 0 where
  pub schema : i.schema ≡ s
  pub name : Option (List ℕ)
  pub task : c.task ≡ asking i.question name aim
  pub policies_read : spec.HasPolicies content c.policies i.policies
  pub others_read : spec.HasAgainst content name i.against
  pub served : spec.AreServed s i.policies i.against
  pub environment : spec.HasEnvironment s aim

-- where the schema is read: policies and a world
pub record ReadsScene (content : spec.Content) (policies name : List ℕ) (s : Declarations) (x : Scene) : Type 0 where
  pub schema : x.schema ≡ s
  pub policies_read : spec.HasPolicies content policies x.policies
  pub world : spec.HasWorld content name x.world
  pub names : name_fault s x.policies ≡ None

abbrev pub ReadsRest : spec.Content → Command → Declarations → Inputs → Type 0
ReadsRest content c s (Asked i) = ReadsAsking content c s (reporting i.budget) i.asking
ReadsRest content c s (Logged i) = ReadsAsking content c s (logging i.analysis.budget i.environment) i.analysis.asking
ReadsRest content c s (Checked i) = ReadsAsking content c s (checking i.environment i.log.now) i.asking
ReadsRest content c s (Reduced i) = ReadsAsking content c s (reducing i.budget) i.asking
ReadsRest content c s (Generated size) = ⊥
ReadsRest content c s (Replayed x) = (name : List ℕ) × (c.task ≡ replaying name)
    × ReadsScene content c.policies name s x

-- all files are read
pub record ReadsInputs (content : spec.Content) (c : Command) (i : Inputs) : Type 0 where
  pub declared : Declarations
  pub schema : spec.ReadsSchema content c declared
  pub rest : ReadsRest content c declared i

-- what the words and the files give of a question
abbrev pub IsAskedFor : spec.Content → List (List ℕ) → Aim → Asking → Type 0
IsAskedFor content words aim i = ReadsAll content words i.schema i.question i.policies i.against aim

-- what the words and the files give
abbrev pub IsRead : spec.Content → List (List ℕ) → Inputs → Type 0
IsRead content words (Asked i) = IsAskedFor content words (reporting i.budget) i.asking
IsRead content words (Logged i) = IsAskedFor content words (logging i.analysis.budget i.environment) i.analysis.asking
IsRead content words (Checked i) = IsAskedFor content words (checking i.environment i.log.now) i.asking
IsRead content words (Reduced i) = IsAskedFor content words (reducing i.budget) i.asking
IsRead content words (Generated size) = Generates words size
IsRead content words (Replayed x) = ReadsWorld content words x.schema x.policies x.world

-- ---- why the files of a command are refused, where the schema is read

-- the policy files of a question
pub data RefusesSets (content : spec.Content) (policies : List ℕ) (against : Option (List ℕ))
    (failed : List ℕ → Type 0) : spec.Refusal → Type 0 where
  by_first : (a : spec.Refusal) → spec.RefusesPolicies content policies spec.policies_side failed a
      → RefusesSets content policies against failed a
  by_against : (a : spec.Refusal) (first : List Policy) (name : List ℕ) → spec.HasPolicies content policies first
      → against ≡ Some name → spec.RefusesPolicies content name spec.against_side failed a
      → RefusesSets content policies against failed a

pub data RefusesAsking (content : spec.Content) (policies : List ℕ) (against : Option (List ℕ)) (aim : Aim)
    (failed : List ℕ → Type 0) (s : Declarations) : spec.Refusal → Type 0 where
  by_files : (a : spec.Refusal) → RefusesSets content policies against failed a
      → RefusesAsking content policies against aim failed s a
  by_question : (a : spec.Refusal) (first : List Policy) (second : Option (List Policy))
      → spec.HasPolicies content policies first → spec.HasAgainst content against second
      → spec.RefusesQuestion s first second a → RefusesAsking content policies against aim failed s a
  by_place : (a : spec.Refusal) (first : List Policy) (second : Option (List Policy))
      → spec.HasPolicies content policies first → spec.HasAgainst content against second
      → spec.AreServed s first second → spec.RefusesPlace s aim a
      → RefusesAsking content policies against aim failed s a

pub data RefusesScene (content : spec.Content) (policies name : List ℕ) (failed : List ℕ → Type 0)
    (s : Declarations) : spec.Refusal → Type 0 where
  by_policies : (a : spec.Refusal) → spec.RefusesPolicies content policies spec.policies_side failed a
      → RefusesScene content policies name failed s a
  by_world : (a : spec.Refusal) (ps : List Policy) → spec.HasPolicies content policies ps
      → spec.RefusesWorld content name failed a → RefusesScene content policies name failed s a
  by_names : (f : NameFault) (ps : List Policy) (w : World) → spec.HasPolicies content policies ps
      → spec.HasWorld content name w → name_fault s ps ≡ Some f
      → RefusesScene content policies name failed s (spec.unknown_name spec.policies_side f)
