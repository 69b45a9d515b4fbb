use Rattle.sc_languages.proofs.SearchLaws.{followed_start, followed_more}
use Rattle.sc_languages.proofs.search.follow.Goals as goal

pub loop-c-init : goal.loop-c-init
loop-c-init c = followed_start _ _ _ _ _

pub loop-c-preserved : goal.loop-c-preserved
loop-c-preserved c =
    followed_more _ _ _ _ _ c.loop-c.c-index c.c-item.result _ _ _ c.loop-c-test.true c.c-item.is c.loop-c.invariant c.in_ok-found.ensures.scalar
    (rw c.in_default.is at c.in_ok-found.ensures.none)
