use Rattle.std.proofs.Common.{◌<◌, ◌∙◌, List, length, sym, ap, subst}
use Rattle.std.specs.List.{AllByRecursion}
use Rattle.sc_footprint.specs.declared.shelves.Shelf.{Shelf}
use Rattle.sc_footprint.specs.Indices.{terms_at}
use Rattle.sc_footprint.specs.Problems.{Posed}
use Rattle.sc_footprint.proofs.ShelvingLaws.{all_on}
use Rattle.sc_footprint.proofs.problem.Problem.shelf.Goals as goal

pub returns-clause-within : goal.returns-clause-within
returns-clause-within c =
    let are = c.shelf_of.ensures ∙ ap (λ (ss : List Shelf). terms_at c.self.inside.terms ss c.args.kind c.args.term) c.deref.ensures.value in
    subst (λ (p : Posed). AllByRecursion (λ t. t < length p.nodes) c.shelf_of.result.now) c.self.view_is
    (subst (AllByRecursion (λ t. t < length c.self.inside.terms)) (sym are) (all_on _ _ _ _ _ c.self.invariant.shelves_are.within))
