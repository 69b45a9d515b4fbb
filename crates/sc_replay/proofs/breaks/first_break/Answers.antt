use Rattle.std.proofs.Common.{sym, subst}
use Rattle.std.proofs.lemmas.Result.{IfOk-weaker}
use Rattle.sc_world.specs.Least.{IsBroken, IsLeast}
use Rattle.sc_world.proofs.BrokenLaws.{not_sound}
use Rattle.sc_replay.specs.Breaks.{in_request, in_entity}
use Rattle.sc_replay.proofs.breaks.first_break.Goals as goal

pub returns-then-not-is_sound_request : goal.returns-then-not-is_sound_request
returns-then-not-is_sound_request c = in_request (not_sound _ c.is_sound_request.ensures c.if-not-is_sound_request.true)

pub returns-in_ok-try_clone-in-Some : goal.returns-in_ok-try_clone-in-Some
returns-in_ok-try_clone-in-Some c =
    in_entity c.in_ok-try_clone-in-Some.field-0 (c.is_sound_request.ensures.0 c.if-not-is_sound_request.false)
    (subst (IsLeast (IsBroken c.args.s.now c.args.w.now.store)) (sym c.in_ok-try_clone-in-Some.ensures) c.in-Some.ensures.least)

pub returns-in-None : goal.returns-in-None
returns-in-None c =
    IfOk-weaker c.missing_break.result _ _ (λ found h. h (c.is_sound_request.ensures.0 c.if-not-is_sound_request.false) c.in-None.ensures.least) c.missing_break.ensures
