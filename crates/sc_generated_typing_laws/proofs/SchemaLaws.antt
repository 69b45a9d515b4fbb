-- The text of the schema spells it.
use Rattle.std.proofs.Common.{◌≡◌, refl, Some}
use Rattle.std.specs.Str.{IsUtf8}
use lib.Utf8.{encode}
use Rattle.serde_json.specs.Read.{read}
use Rattle.serde_json.proofs.OnLiterals.{serde_json_on_literals}
use Rattle.sc_names.specs.Paths.{parts}
use Rattle.sc_json.specs.Pointers.{escaped}
use Rattle.sc_schema_syntax.specs.Faults.{value_fault}
use Rattle.sc_schema_syntax.specs.Syntax.{Spells}
use Rattle.sc_schema_syntax.specs.Written.{schema_of}
use Rattle.sc_generated.specs.Generated.{schema_text}
use Rattle.sc_generated_typing_laws.specs.Schema.{tree}

text_utf8 : IsUtf8 schema_text
unfolding schema_text encode
text_utf8 = (schema_text, (refl, refl))

tree_read : read schema_text ≡ Some tree
unfolding schema_text tree serde_json_on_literals
tree_read = refl

pub written : Spells schema_text (schema_of tree)
unfolding tree value_fault escaped parts
written = record { d = tree; tree = record { text = text_utf8; tree = tree_read }; no_fault = refl; meant = refl }
