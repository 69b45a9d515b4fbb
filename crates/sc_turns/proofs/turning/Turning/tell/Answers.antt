use Rattle.std.proofs.Common.{◌∙◌, subst, refl}
use Rattle.sc_turns.specs.Turning.{IsTurning, among}
use Rattle.sc_turns.proofs.TurningLaws.{goes_on_with, with_ready}
use Rattle.sc_turns.proofs.turning.Turning.tell.Goals as goal

pub returns-in_default-clause-kept : goal.returns-in_default-clause-kept
returns-in_default-clause-kept c =
    with_ready _ _ _ _ (among c.args.self.now.ready) _ _ c.requires.kept (λ p. (c.in_default.ensures p).0) (λ p. (c.in_default.ensures p).1)

pub returns-in_default-clause-more : goal.returns-in_default-clause-more
returns-in_default-clause-more c = λ p. (c.in_default.ensures p).1

pub returns-clause-kept : goal.returns-clause-kept
returns-clause-kept c =
    let s = c.args.self.now in
    let is = subst (IsTurning s.parts s.told s.marks.items s.waiting.items (among s.ready)) c.requires.none c.requires.kept in
    goes_on_with s.parts s.told s.marks.items s.waiting.items (among s.ready) c.in-Some.x is c.in-Some.ensures.0 c.in-Some.ensures.1 _ _ _ _ _
    c.in_ok-push.ensures.ok refl c.take_list.ensures.rest (c.into_vec.ensures ∙ c.take_list.ensures.taken) c.in-Some.ensures.2
