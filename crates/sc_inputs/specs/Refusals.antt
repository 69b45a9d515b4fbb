-- The answers other than a report, and when each may come.
use Rattle.std.specs.Prelude.{◌≡◌, ◌≤◌, ◌<◌, ℕ, List, ◌++◌, Option, IfSome, Some, None, option_map, codes, length, ⊤}
use Rattle.std.specs.Fmt.{decimal}
use Rattle.std.specs.Option.{option_or}
use Rattle.sc_schema.specs.Declarations.{Declarations, environments}
use Rattle.sc_schema_json.specs.Spelling as schema
use Rattle.sc_schema_syntax.specs.declared.fault.SchemaFault.{SchemaFault}
use Rattle.sc_ast.specs.declared.policy.Policy.{Policy}
use Rattle.sc_parser.specs.declared.fault.PolicyFault.{PolicyFault}
use Rattle.sc_parser.specs.Spelling.{Spells, HasFault}
use Rattle.sc_typing.specs.declared.name_fault.NameFault.{NameFault}
use Rattle.sc_typing.specs.declared.ill_typed.IllTyped.{IllTyped}
use Rattle.sc_typing.specs.Checking.{type_fault}
use Rattle.sc_typing.specs.Names.{name_fault}
use Rattle.sc_world.specs.declared.world.World.{World}
use Rattle.sc_world_json.specs.declared.fault.WorldFault.{WorldFault}
use Rattle.sc_world_json.specs.Reading as world
use Rattle.sc_inputs.specs.Serving.{Aim, Command, IsNoCommand, Serves, asking, checking, place_in, replaying, against_in, log_in, world_in}
use Rattle.sc_inputs.specs.FaultTexts.{fault_text, schema_fault_text, world_fault_text, name_fault_text, type_fault_text}
use Rattle.sc_question.specs.declared.question.Question.{Question}

-- a policy set of a command
pub data Side : Type 0 where
  policies_side : Side
  against_side : Side

pub data File : Type 0 where
  schema_file : File
  policy_file : Side → File
  world_file : File
  log_file : File

pub data Refusal : Type 0 where
  usage : Refusal
  schema_text : SchemaFault → Refusal
  policy_text : Side → PolicyFault → Refusal
  world_text : WorldFault → Refusal
  unknown_name : Side → NameFault → Refusal
  ill_typed : Side → IllTyped → Refusal
  -- this place is none of so many environments
  no_environment : (place count : ℕ) → Refusal
  read_fault : File → Refusal
  too_long : File → Refusal

abbrev pub side_name : Side → List ℕ
side_name policies_side = codes "policies"
side_name against_side = codes "against"

abbrev pub file_name : File → List ℕ
file_name schema_file = codes "schema"
file_name (policy_file side) = side_name side
file_name world_file = codes "world"
file_name log_file = codes "log"

abbrev pub code_of : Refusal → ℕ
code_of usage = 10
code_of (schema_text f) = 12
code_of (policy_text side f) = 11
code_of (world_text f) = 17
code_of (unknown_name side f) = 13
code_of (ill_typed side f) = 13
code_of (no_environment place count) = 16
code_of (read_fault f) = 20
code_of (too_long f) = 22

-- an error of policies of a side
abbrev pub on_side : List ℕ → Side → List ℕ → List ℕ
on_side front side text = front ++ (side_name side ++ (codes " " ++ (text ++ codes "\n")))

-- a place that is none of so many environments
unfoldable pub place_text : ℕ → ℕ → List ℕ
place_text place count = codes "error 16 environment "
    ++ (decimal place ++ (codes " of " ++ (decimal count ++ codes "\n")))

abbrev pub refusal_text : Refusal → List ℕ
refusal_text usage = codes "error 10 usage\n"
refusal_text (schema_text f) = codes "error 12 " ++ schema_fault_text f ++ codes "\n"
refusal_text (policy_text side f) = on_side (codes "error 11 ") side (fault_text f)
refusal_text (world_text f) = codes "error 17 " ++ world_fault_text f ++ codes "\n"
refusal_text (unknown_name side f) = on_side (codes "error 13 ") side (name_fault_text f)
refusal_text (ill_typed side f) = on_side (codes "error 13 ") side (type_fault_text f)
refusal_text (no_environment place count) = place_text place count
refusal_text (read_fault f) = codes "error 20 " ++ file_name f ++ codes "\n"
refusal_text (too_long f) = codes "error 22 " ++ file_name f ++ codes "\n"

-- ---- files

-- the name of a file of a command, where it has one
abbrev pub name_of : Command → File → Option (List ℕ)
name_of c schema_file = Some c.schema
name_of c (policy_file policies_side) = Some c.policies
name_of c (policy_file against_side) = against_in c.task
name_of c world_file = world_in c.task
name_of c log_file = log_in c.task

-- how long a file may be, but for a log
abbrev pub limit : ℕ
limit = 16777216

-- how long a log may be
abbrev pub log_limit : ℕ
log_limit = 1073741824

-- what the file of a name holds, where that is told
abbrev pub Content : Type 0
Content = List ℕ → Option (List ℕ)

-- the bytes are those of the file, where these are told
abbrev pub IsContent : Content → List ℕ → List ℕ → Type 0
IsContent content name bytes = IfSome (content name) (λ told. (bytes ≡ told) × (length told ≤ limit))

-- the file is too long, where its content is told
abbrev pub IsTooLong : Content → List ℕ → Type 0
IsTooLong content name = IfSome (content name) (λ told. limit < length told)

-- the same of a log
abbrev pub IsLongLog : Content → List ℕ → Type 0
IsLongLog content name = IfSome (content name) (λ told. log_limit < length told)

-- the schema file spells the schema
pub record ReadsSchema (content : Content) (c : Command) (s : Declarations) : Type 0 where
  pub bytes : List ℕ
  pub told : IsContent content c.schema bytes
  pub spelled : schema.Spells bytes s

-- the file of this name spells the policies
pub record HasPolicies (content : Content) (name : List ℕ) (ps : List Policy) : Type 0 where
  pub bytes : List ℕ
  pub told : IsContent content name bytes
  pub spelled : Spells bytes ps

-- the file of this name spells the world
pub record HasWorld (content : Content) (name : List ℕ) (w : World) : Type 0 where
  pub bytes : List ℕ
  pub told : IsContent content name bytes
  pub spelled : world.SpellsWorld bytes w

-- the file of this name, where there is one, spells the policies
abbrev pub HasAgainst : Content → Option (List ℕ) → Option (List Policy) → Type 0
HasAgainst content None None = ⊤
HasAgainst content None (Some ps) = ⊥
HasAgainst content (Some name) None = ⊥
HasAgainst content (Some name) (Some ps) = HasPolicies content name ps

-- the words are the command to ask a question, for an aim, of the policies `first`, and of `against` where it takes
-- two sets; its schema file and policy files are read
pub record ReachesQuestion (content : Content) (words : List (List ℕ)) (s : Declarations) (question : Question)
    (first : List Policy) (against : Option (List Policy)) (aim : Aim) : Type 0 where
  pub command : Command
  pub commands : Serves words command
  pub name : Option (List ℕ)
  pub task : command.task ≡ asking question name aim
  pub schema : ReadsSchema content command s
  pub policies : HasPolicies content command.policies first
  pub others : HasAgainst content name against

-- the words are the command to replay the world of the file of this name, whose other files spell the schema and the
-- policies
pub record ReachesWorld (content : Content) (words : List (List ℕ)) (s : Declarations) (ps : List Policy)
    (name : List ℕ) : Type 0 where
  pub command : Command
  pub commands : Serves words command
  pub task : command.task ≡ replaying name
  pub schema : ReadsSchema content command s
  pub policies : HasPolicies content command.policies ps

-- ---- faults of one or two policy sets: the first set that has one tells it

abbrev pub on : {F : Type 0} → Side → Option F → Option (Side × F)
on side fault = option_map (λ f. (side, f)) fault

abbrev pub in_against : {F : Type 0} → (List Policy → Option F) → Option (List Policy) → Option (Side × F)
in_against fault None = None
in_against fault (Some ps) = on against_side (fault ps)

abbrev pub first_fault : {F : Type 0} → (List Policy → Option F) → List Policy → Option (List Policy)
    → Option (Side × F)
first_fault fault first against = option_or (on policies_side (fault first)) (in_against fault against)

-- the first name that isn't declared, and the first policy without a type
abbrev pub names_fault : Declarations → List Policy → Option (List Policy) → Option (Side × NameFault)
names_fault s first against = first_fault (name_fault s) first against

abbrev pub types_fault : Declarations → List Policy → Option (List Policy) → Option (Side × IllTyped)
types_fault s first against = first_fault (type_fault s) first against

-- the policies write declared names alone, and are typed in each environment
pub record AreServed (s : Declarations) (first : List Policy) (against : Option (List Policy)) : Type 0 where
  pub declared : names_fault s first against ≡ None
  pub typed : types_fault s first against ≡ None

-- the schema has the environment that is named, where one is
abbrev pub HasEnvironment : Declarations → Aim → Type 0
HasEnvironment s aim = IfSome (place_in aim) (λ place. place < length (environments s))

-- the words are the command to ask a question, for an aim, of policies that are read, write declared names alone, and
-- are typed in each environment, of a schema with the environment that is named
pub record ReachesAim (content : Content) (words : List (List ℕ)) (s : Declarations) (question : Question)
    (first : List Policy) (against : Option (List Policy)) (aim : Aim) : Type 0 where
  pub reaches : ReachesQuestion content words s question first against aim
  pub served : AreServed s first against
  pub environment : HasEnvironment s aim

-- ---- refusals; `failed` says of the name of a file that a call for it failed, and was the last that did

-- a file isn't read: the call for it failed, or it is too long
pub data RefusesFile (content : Content) (name : List ℕ) (failed : List ℕ → Type 0) (file : File) : Refusal
    → Type 0 where
  unread : failed name → RefusesFile content name failed file (read_fault file)
  long : IsTooLong content name → RefusesFile content name failed file (too_long file)

-- the schema file isn't read, or spells no schema
pub data RefusesSchema (content : Content) (c : Command) (failed : List ℕ → Type 0) : Refusal → Type 0 where
  schema_unread : (a : Refusal) → RefusesFile content c.schema failed schema_file a → RefusesSchema content c failed a
  schema_faulty : (f : SchemaFault) (bytes : List ℕ) → IsContent content c.schema bytes → schema.HasFault bytes f
      → RefusesSchema content c failed (schema_text f)

-- the policy file of this name isn't read, or spells no policies
pub data RefusesPolicies (content : Content) (name : List ℕ) (side : Side) (failed : List ℕ → Type 0) : Refusal
    → Type 0 where
  policies_unread : (a : Refusal) → RefusesFile content name failed (policy_file side) a
      → RefusesPolicies content name side failed a
  policies_faulty : (f : PolicyFault) (bytes : List ℕ) → IsContent content name bytes → HasFault bytes f
      → RefusesPolicies content name side failed (policy_text side f)

-- the world file of this name isn't read, or spells no world
pub data RefusesWorld (content : Content) (name : List ℕ) (failed : List ℕ → Type 0) : Refusal → Type 0 where
  world_unread : (a : Refusal) → RefusesFile content name failed world_file a → RefusesWorld content name failed a
  world_faulty : (f : WorldFault) (bytes : List ℕ) → IsContent content name bytes → world.HasFault bytes f
      → RefusesWorld content name failed (world_text f)

-- the log in the file of this name isn't read whole
pub data RefusesLog (content : Content) (name : List ℕ) (failed : List ℕ → Type 0) : Refusal → Type 0 where
  log_unread : failed name → RefusesLog content name failed (read_fault log_file)
  log_long : IsLongLog content name → RefusesLog content name failed (too_long log_file)

-- all policy files of a question are read, and its policies are refused: a name isn't declared; or all are, and a
-- policy has no type
pub data RefusesQuestion (s : Declarations) (first : List Policy) (against : Option (List Policy)) : Refusal
    → Type 0 where
  undeclared : (side : Side) (f : NameFault) → names_fault s first against ≡ Some (side, f)
      → RefusesQuestion s first against (unknown_name side f)
  untyped : (side : Side) (f : IllTyped) → names_fault s first against ≡ None
      → types_fault s first against ≡ Some (side, f) → RefusesQuestion s first against (ill_typed side f)

-- the environment that is named is none of the schema
pub data RefusesPlace (s : Declarations) (aim : Aim) : Refusal → Type 0 where
  misplaced : (place : ℕ) → place_in aim ≡ Some place → length (environments s) ≤ place
      → RefusesPlace s aim (no_environment place (length (environments s)))

-- the words are no command; or a file is refused, where those before it are read; or, where all files are read, the
-- policies of a replay write a name that isn't declared, or those of a question are refused, or the environment that
-- is named is none; or the log that is to be checked is refused, where all else is read
pub data IsRefusal (content : Content) (words : List (List ℕ)) (failed : List ℕ → Type 0) : Refusal → Type 0 where
  no_command : IsNoCommand words → IsRefusal content words failed usage
  of_schema : (a : Refusal) (c : Command) → Serves words c → RefusesSchema content c failed a
      → IsRefusal content words failed a
  of_policies : (a : Refusal) (c : Command) (s : Declarations) → Serves words c → ReadsSchema content c s
      → RefusesPolicies content c.policies policies_side failed a → IsRefusal content words failed a
  of_against : (a : Refusal) (c : Command) (s : Declarations) (question : Question) (name : List ℕ) (aim : Aim)
      (first : List Policy) → Serves words c → c.task ≡ asking question (Some name) aim → ReadsSchema content c s
      → HasPolicies content c.policies first → RefusesPolicies content name against_side failed a
      → IsRefusal content words failed a
  of_world : (a : Refusal) (s : Declarations) (ps : List Policy) (name : List ℕ)
      → ReachesWorld content words s ps name → RefusesWorld content name failed a → IsRefusal content words failed a
  of_names : (f : NameFault) (s : Declarations) (ps : List Policy) (name : List ℕ) (w : World)
      → ReachesWorld content words s ps name → HasWorld content name w → name_fault s ps ≡ Some f
      → IsRefusal content words failed (unknown_name policies_side f)
  of_question : (a : Refusal) (s : Declarations) (question : Question) (first : List Policy)
      (against : Option (List Policy)) (aim : Aim) → ReachesQuestion content words s question first against aim
      → RefusesQuestion s first against a → IsRefusal content words failed a
  of_place : (a : Refusal) (s : Declarations) (question : Question) (first : List Policy)
      (against : Option (List Policy)) (aim : Aim) → ReachesQuestion content words s question first against aim
      → AreServed s first against → RefusesPlace s aim a → IsRefusal content words failed a
  of_log : (a : Refusal) (s : Declarations) (question : Question) (first : List Policy)
      (against : Option (List Policy)) (place : ℕ) (name : List ℕ)
      → ReachesAim content words s question first against (checking place name) → RefusesLog content name failed a
      → IsRefusal content words failed a
