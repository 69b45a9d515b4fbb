use Rattle.std.proofs.Common.{rules}
use Rattle.std.proofs.lemmas.Fn.{always_returns_same}
use Rattle.sc_lists.proofs.OrderedLaws.{searched}
use Rattle.sc_lists.proofs.pairs.place.Goals as goal

-- the closure compares a pair's key with the one that is looked for
pub returns-clause-found : goal.returns-clause-found
returns-clause-found g c =
    let compares = c.binary_search_by.ensures.position (λ p. g.K.Ord.cmp p.0 c.args.key.now) (always_returns_same _ _ _ (λ a r f called. (search rules, search rules))) in
    (searched g.met.K.Ord.total (λ p. p.0) c.args.pairs.now c.args.key.now _ c.requires c.binary_search_by.ensures.bound compares).0

pub returns-clause-absent : goal.returns-clause-absent
returns-clause-absent g c =
    let compares = c.binary_search_by.ensures.position (λ p. g.K.Ord.cmp p.0 c.args.key.now) (always_returns_same _ _ _ (λ a r f called. (search rules, search rules))) in
    (searched g.met.K.Ord.total (λ p. p.0) c.args.pairs.now c.args.key.now _ c.requires c.binary_search_by.ensures.bound compares).1
