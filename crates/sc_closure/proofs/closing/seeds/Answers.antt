use Rattle.sc_closure.proofs.SeedLaws.{seeds_stand, seeds_within}
use Rattle.sc_closure.proofs.closing.seeds.Goals as goal

pub returns-clause-within : goal.returns-clause-within
returns-clause-within c =
    rw c.in_ok-vec.ensures.items
    (seeds_within c.args.schema.now c.args.env.now _ _ _ _ c.args.goal _ _ _ _ _ c.requires c.in_ok-truth.ensures.kept c.in_ok-principal.ensures.kept c.in_ok-resource.ensures.kept c.in_ok-truth.ensures.ok c.in_ok-user.ensures
    c.in_ok-principal.ensures.ok c.in_ok-thing.ensures c.in_ok-resource.ensures.ok)

pub returns-clause-ok : goal.returns-clause-ok
returns-clause-ok c =
    rw c.in_ok-vec.ensures.items
    (seeds_stand c.args.schema.now c.args.env.now _ _ _ _ c.args.goal _ _ _ _ _ c.requires c.in_ok-truth.ensures.kept c.in_ok-principal.ensures.kept c.in_ok-resource.ensures.kept c.in_ok-truth.ensures.ok c.in_ok-user.ensures
    c.in_ok-principal.ensures.ok c.in_ok-thing.ensures c.in_ok-resource.ensures.ok)
