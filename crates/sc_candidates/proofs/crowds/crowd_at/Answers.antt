use Rattle.std.proofs.Common.{rules, ◌≡◌, ◌∙◌, length}
use Rattle.std.specs.Vec.{vec_len}
use Rattle.sc_candidates.proofs.JoinLaws.{placed_here, placed_new}
use Rattle.sc_candidates.proofs.crowds.crowd_at.Goals as goal

pub returns-in-Some : goal.returns-in-Some
returns-in-Some c = placed_here _ c.args.crowds.now.items _ _ (rw c.deref.ensures.value at c.in-Some.ensures.within) (rw c.deref.ensures.value at c.in-Some.ensures.same)

pub returns-in_ok-push-in-None : goal.returns-in_ok-push-in-None
returns-in_ok-push-in-None c =
    let size : vec_len c.args.crowds.now ≡ length c.args.crowds.now.items = search rules in
    placed_new _ c.args.crowds.now.items _ _ _ c.requires.set_in (c.len-count.ensures ∙ size) (rw c.crowd_over.ensures at c.in_ok-push-in-None.ensures.items)
