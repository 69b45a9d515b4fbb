use Rattle.std.proofs.Common.{◌≡◌, ◌∙◌, ℕ, List, None, slice_get, ap, sym}
use Rattle.sc_schema.specs.Declarations.{choices_of}
use Rattle.sc_world.proofs.ChoiceLaws.{same_choices, no_choices}
use Rattle.sc_world.proofs.default_value.first_choice.Goals as goal

pub returns-in-Some : goal.returns-in-Some
returns-in-Some c =
    c.first.ensures.value ∙ ap (λ (ids : List (List ℕ)). slice_get ids 0) (same_choices (choices_of c.args.s.now c.args.name.now) _ c.in-Some.ensures)

pub returns-in-None : goal.returns-in-None
returns-in-None c = sym (ap (λ (ids : List (List ℕ)). slice_get ids 0) (no_choices (choices_of c.args.s.now c.args.name.now) c.in-None.ensures))
