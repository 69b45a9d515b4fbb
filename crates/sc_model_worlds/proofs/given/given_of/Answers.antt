use Rattle.std.proofs.Common.{◌≡◌, ◌∙◌, IfOk, subst}
use Rattle.sc_world.specs.Stores.{Entities}
use Rattle.sc_model_worlds.proofs.GivenLaws.{given_by}
use Rattle.sc_model_worlds.proofs.given.given_of.Goals as goal

pub returns : goal.returns
returns c =
    subst (λ (z : Entities). IfOk c.stored_of.result (λ es. es ≡ z))
    (given_by c.args.problem.now c.args.m.now c.args.names.now c.as_slice-numbers.result.now c.as_slice.result.now (c.as_slice-numbers.ensures ∙ c.in_ok-closed.ensures.value) (c.as_slice.ensures ∙ c.in_ok-uids.ensures))
    c.stored_of.ensures
