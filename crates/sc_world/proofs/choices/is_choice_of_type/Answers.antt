use Rattle.std.proofs.Common.{◌≡◌, ◌∙◌, true, ℕ, List, ap, sym}
use Rattle.sc_schema.specs.Declarations.{choices_of}
use Rattle.sc_world.specs.Choices.{is_choice}
use Rattle.sc_world.proofs.ChoiceLaws.{same_choices, no_choices}
use Rattle.sc_world.proofs.choices.is_choice_of_type.Goals as goal

pub returns-in-Some : goal.returns-in-Some
returns-in-Some c =
    let u = c.args.uid.now in
    c.is_choice_among.ensures ∙ ap (λ (ids : List (List ℕ)). is_choice ids u.id) (same_choices (choices_of c.args.s.now u.type_name) _ c.in-Some.ensures)

pub returns-in-None : goal.returns-in-None
returns-in-None c =
    let u = c.args.uid.now in
    sym (ap (λ (ids : List (List ℕ)). is_choice ids u.id) (no_choices (choices_of c.args.s.now u.type_name) c.in-None.ensures))
