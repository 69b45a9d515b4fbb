use Rattle.std.proofs.Common.{◌≡◌, IfOk, subst}
use Rattle.sc_names.specs.declared.uid.Uid.{Uid}
use Rattle.sc_schema.specs.Declarations.{choices_of}
use Rattle.sc_world.proofs.ChoiceLaws.{first_found, first_absent}
use Rattle.sc_world.proofs.default_value.first_entity.Goals as goal

pub returns-in-Some : goal.returns-in-Some
returns-in-Some c =
    let name = c.args.name.now in
    subst (λ (u : Uid). IfOk c.uid_of.result (λ v. v ≡ u)) (first_found name _ (choices_of c.args.s.now name) c.in-Some.ensures) c.uid_of.ensures

pub returns-in-None : goal.returns-in-None
returns-in-None c =
    let name = c.args.name.now in
    subst (λ (u : Uid). IfOk c.nameless.result (λ v. v ≡ u)) (first_absent name (choices_of c.args.s.now name) c.in-None.ensures) c.nameless.ensures
