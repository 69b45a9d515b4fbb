-- The text spells one schema.
use Rattle.std.proofs.Common.{◌∙◌, ℕ, List, subst}
use Rattle.sc_schema_json.specs.Spelling.{Spells}
use Rattle.sc_generated.specs.Generated.{schema_text}
use Rattle.sc_generated_typing_laws.specs.Schema.{declared}
use Rattle.sc_generated_question.proofs.reading.generated_schema.Goals as goal

pub returns-in-Ok : goal.returns-in-Ok
returns-in-Ok c =
    (c.spelling_laws.ensures schema_text).one_schema c.in-Ok.schema declared
    (subst (λ (bs : List ℕ). Spells bs c.in-Ok.schema) (c.as_bytes.ensures.value ∙ c.schema_text.ensures) c.in-Ok.ensures.ok) c.generated_typing_laws.ensures.schema
