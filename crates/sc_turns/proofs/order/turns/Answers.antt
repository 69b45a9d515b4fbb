use Rattle.std.proofs.Common.{◌∙◌, ◌<◌, ℕ, length, sym, subst}
use Rattle.sc_lists.specs.Members.{Has}
use Rattle.sc_turns.specs.Turns.{AreRanked}
use Rattle.sc_turns.proofs.TurningLaws.{whole_told, when_false}
use Rattle.sc_turns.proofs.order.turns.Goals as goal

pub returns-then-not-branch-clause-whole : goal.returns-then-not-branch-clause-whole
returns-then-not-branch-clause-whole c =
    let state = c.tell.new.self in
    subst (λ told. (rank : ℕ → ℕ) → AreRanked c.args.parts rank → (x : ℕ) → x < length c.args.parts → Has told x) (sym c.told_of.ensures)
    (whole_told c.args.parts state c.in_ok-tell.ensures.kept (c.in_ok-tell.ensures.parts ∙ c.loop-turn.invariant.same)
    (when_false _ _ _ c.in_ok-tell.ensures.rest c.if-not-branch.true) (when_false _ _ _ c.in_ok-tell.ensures.more c.if-not-branch.true))
