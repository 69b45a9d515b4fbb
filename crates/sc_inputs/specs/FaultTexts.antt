-- The faults of files as text: a fault's name, and its place where it has one, in bytes of a policy file or as a path
-- in a schema file or a world file.
use Rattle.std.specs.Prelude.{ℕ, List, ◌++◌, codes}
use Rattle.std.specs.Fmt.{decimal}
use Rattle.sc_ast.specs.declared.place.Place.{Place}
use Rattle.sc_names.specs.Escapes.{escaped_text, uid_text}
use Rattle.sc_parser.specs.declared.fault.PolicyFault.{PolicyFault}
use Rattle.sc_parser.specs.declared.fault.PolicyFault.TheVariants.{BadUtf8, BadToken, BadEscape, Unexpected, UnexpectedEnd, TooManyPolicies, Template, TooDeep, IntRange, DuplicateKey, BadCall}
use Rattle.sc_schema_syntax.specs.declared.fault.SchemaFault.{SchemaFault}
use Rattle.sc_schema_syntax.specs.declared.fault.SchemaFault.TheVariants.{NotJson, BadShape, BadName, UnknownType, UnknownAction, TypeCycle, ActionCycle, NotRecord, TypeTooLarge, TooManyEnvironments}
use Rattle.sc_schema.specs.declared.declarations.Env.{Env}
use Rattle.sc_typed.specs.declared.fault.TypeRule.{TypeRule}
use Rattle.sc_typed.specs.declared.fault.TypeRule.TheVariants as rule
use Rattle.sc_typing.specs.declared.ill_typed.IllTyped.{IllTyped}
use Rattle.sc_typing.specs.declared.name_fault.NameFault.{NameFault}
use Rattle.sc_typing.specs.declared.name_fault.NameKind.{NameKind}
use Rattle.sc_typing.specs.declared.name_fault.NameKind.TheVariants as kind
use Rattle.sc_world_json.specs.declared.fault.WorldFault.{WorldFault}
use Rattle.sc_world_json.specs.declared.fault.WorldFault.TheVariants as world

-- a name and a place
unfoldable pub placed : List ℕ → Place → List ℕ
placed name p = name ++ (codes " at " ++ decimal p.offset)

abbrev pub fault_text : PolicyFault → List ℕ
fault_text (BadUtf8 p) = placed (codes "BadUtf8") p
fault_text (BadToken p) = placed (codes "BadToken") p
fault_text (BadEscape p) = placed (codes "BadEscape") p
fault_text (Unexpected p) = placed (codes "Unexpected") p
fault_text UnexpectedEnd = codes "UnexpectedEnd"
fault_text TooManyPolicies = codes "TooManyPolicies"
fault_text (Template p) = placed (codes "Template") p
fault_text (TooDeep p) = placed (codes "TooDeep") p
fault_text (IntRange p) = placed (codes "IntRange") p
fault_text (DuplicateKey p) = placed (codes "DuplicateKey") p
fault_text (BadCall p) = placed (codes "BadCall") p

-- a name and a text
unfoldable pub named : List ℕ → List ℕ → List ℕ
named name text = name ++ (codes " at " ++ text)

-- a name and a path, with the escapes of uids
abbrev pub on_path : List ℕ → List ℕ → List ℕ
on_path name path = named name (escaped_text path)

abbrev pub schema_fault_text : SchemaFault → List ℕ
schema_fault_text NotJson = codes "NotJson"
schema_fault_text (BadShape path) = on_path (codes "BadShape") path
schema_fault_text (BadName path) = on_path (codes "BadName") path
schema_fault_text (UnknownType path) = on_path (codes "UnknownType") path
schema_fault_text (UnknownAction path) = on_path (codes "UnknownAction") path
schema_fault_text (TypeCycle name) = named (codes "TypeCycle") name
schema_fault_text (ActionCycle uid) = named (codes "ActionCycle") (uid_text uid)
schema_fault_text (NotRecord path) = on_path (codes "NotRecord") path
schema_fault_text (TypeTooLarge path) = on_path (codes "TypeTooLarge") path
schema_fault_text TooManyEnvironments = codes "TooManyEnvironments"

abbrev pub world_fault_text : WorldFault → List ℕ
world_fault_text world.NotJson = codes "NotJson"
world_fault_text (world.BadWorld path) = on_path (codes "BadWorld") path

abbrev pub kind_name : NameKind → List ℕ
kind_name kind.UnknownEntityType = codes "UnknownEntityType"
kind_name kind.UnknownAction = codes "UnknownAction"
kind_name kind.UnknownChoice = codes "UnknownChoice"

-- a name that isn't declared: the policy that writes it, what it stands for, and its place
unfoldable pub name_fault_text : NameFault → List ℕ
name_fault_text f = codes "policy" ++ (decimal f.policy ++ (codes " " ++ placed (kind_name f.kind) f.place))

-- an environment, as lines name it
unfoldable pub env_text : Env → List ℕ
env_text env = codes "env " ++ env.principal ++ codes " " ++ uid_text env.action ++ codes " " ++ env.resource

abbrev pub rule_name : TypeRule → List ℕ
rule_name rule.NotBoolean = codes "NotBoolean"
rule_name rule.NoJoin = codes "NoJoin"
rule_name rule.NotLong = codes "NotLong"
rule_name rule.NotEntity = codes "NotEntity"
rule_name rule.NotEntityOrSet = codes "NotEntityOrSet"
rule_name rule.NotObject = codes "NotObject"
rule_name rule.NoAttribute = codes "NoAttribute"
rule_name rule.MaybeAbsent = codes "MaybeAbsent"
rule_name rule.NotString = codes "NotString"
rule_name rule.NoTags = codes "NoTags"
rule_name rule.TagMaybeAbsent = codes "TagMaybeAbsent"
rule_name rule.NotSet = codes "NotSet"
rule_name rule.EmptySet = codes "EmptySet"
rule_name rule.BadLiteral = codes "BadLiteral"
rule_name rule.NotDecimal = codes "NotDecimal"
rule_name rule.NotIp = codes "NotIp"

-- a policy without a type: which one, the environment, the rule that it breaks there, and its place
unfoldable pub type_fault_text : IllTyped → List ℕ
type_fault_text f = codes "policy"
    ++ (decimal f.policy ++ (codes " "
    ++ (env_text f.env ++ (codes " " ++ placed (rule_name f.fault.rule) f.fault.at))))
