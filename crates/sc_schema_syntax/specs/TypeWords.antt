-- The words that stand at the member `type` of a type.
use Rattle.std.specs.Prelude.{ℕ, List, Bool, ◌||◌, if◌then◌else◌, codes}
use Rattle.std.specs.Str.{bytes_eq}
use Rattle.sc_schema_syntax.specs.declared.type_word.TypeWord.{TypeWord}
use Rattle.sc_schema_syntax.specs.declared.type_word.TypeWord.TheVariants as word

-- what a word means: any that has no meaning of its own is a common type's name
abbrev pub type_word : List ℕ → TypeWord
type_word w =
    if bytes_eq w (codes "Boolean") then word.Boolean
    else (if bytes_eq w (codes "Long") then word.Long
    else (if bytes_eq w (codes "String") then word.String
    else (if bytes_eq w (codes "Set") then word.Set
    else (if bytes_eq w (codes "Record") then word.Record
    else (if bytes_eq w (codes "Entity") then word.Entity
    else (if bytes_eq w (codes "Extension") then word.Extension
    else (if bytes_eq w (codes "EntityOrCommon") then word.EntityOrCommon
    else word.Common)))))))

-- no common type can have the name
abbrev pub is_reserved : List ℕ → Bool
is_reserved w =
    bytes_eq w (codes "Bool") || bytes_eq w (codes "Boolean") || bytes_eq w (codes "Long") || bytes_eq w
    (codes "String") || bytes_eq w (codes "Set")
    || bytes_eq w (codes "Record") || bytes_eq w (codes "Entity") || bytes_eq w (codes "Extension") || bytes_eq w
    (codes "EntityOrCommon")

-- an extension type's name
abbrev pub is_extension : List ℕ → Bool
is_extension name = bytes_eq name (codes "ipaddr") || bytes_eq name (codes "decimal")
