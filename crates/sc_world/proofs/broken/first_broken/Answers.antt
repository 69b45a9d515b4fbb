use Rattle.std.proofs.Common.{◌≡◌, rules, sym, subst}
use Rattle.sc_world.specs.Stores.{Entities}
use Rattle.sc_world.proofs.BrokenLaws.{IsSoFar, nothing_yet, one_further, first_here, all_sound, not_sound}
use Rattle.sc_world.proofs.broken.first_broken.Goals as goal

pub loop-uid-init : goal.loop-uid-init
loop-uid-init c =
    let es = c.args.store.now in
    let all : c.into_iter-uid-iterator.result ≡ es = search rules in
    record { goes_on = tt; ends = tt; so_far = subst (λ (xs : Entities). IsSoFar c.args.s.now es xs) (sym all) (nothing_yet c.args.s.now es) }

pub loop-uid-preserved : goal.loop-uid-preserved
loop-uid-preserved c =
    let es = c.args.store.now in
    let so_far = subst (λ (xs : Entities). IsSoFar c.args.s.now es xs) c.in-Some.ensures.steps c.loop-uid.invariant.so_far in
    record { goes_on = tt; ends = tt; so_far = one_further c.args.s.now es _ _ so_far (c.is_sound_entry.ensures.0 c.if-not-is_sound_entry.false) }

pub returns-then-not-is_sound_entry-clause-least : goal.returns-then-not-is_sound_entry-clause-least
returns-then-not-is_sound_entry-clause-least c =
    let es = c.args.store.now in
    let so_far = subst (λ (xs : Entities). IsSoFar c.args.s.now es xs) c.in-Some.ensures.steps c.loop-uid.invariant.so_far in
    first_here c.args.s.now es _ _ c.entities.ensures.ascending so_far (not_sound _ c.is_sound_entry.ensures c.if-not-is_sound_entry.true)

pub returns-clause-least : goal.returns-clause-least
returns-clause-least c =
    let es = c.args.store.now in
    all_sound c.args.s.now es (subst (λ (xs : Entities). IsSoFar c.args.s.now es xs) c.in-None.ensures.steps.0 c.loop-uid.invariant.so_far)
