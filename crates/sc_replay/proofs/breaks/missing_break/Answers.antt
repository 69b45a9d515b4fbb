use Rattle.std.proofs.Common.{sym, subst}
use Rattle.sc_world.specs.Least.{IsMissing, IsLeast}
use Rattle.sc_replay.specs.Breaks.{missing, nowhere}
use Rattle.sc_replay.proofs.breaks.missing_break.Goals as goal

pub returns-in_ok-try_clone-in-Some : goal.returns-in_ok-try_clone-in-Some
returns-in_ok-try_clone-in-Some c =
    λ request sound. missing c.in_ok-try_clone-in-Some.field-0 request sound
    (subst (IsLeast (IsMissing c.args.s.now c.args.lits.now c.args.w.now)) (sym c.in_ok-try_clone-in-Some.ensures) c.in-Some.ensures)

pub returns-in-None : goal.returns-in-None
returns-in-None c = λ request sound. nowhere request sound c.in-None.ensures
