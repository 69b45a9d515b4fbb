use Rattle.std.proofs.Common.{arith}
use Rattle.sc_terms.proofs.TableLaws.{keeps_then}
use Rattle.sc_closure.proofs.MemberLaws.{within_later}
use Rattle.sc_footprint.proofs.CompanionLaws.{companions_many}
use Rattle.sc_term_order.proofs.OrderingLaws.{within_moved}
use Rattle.sc_footprint.proofs.PosingLaws.{is_kept, some_moved}
use Rattle.sc_footprint.proofs.closing.parts_of.Goals as goal

pub companions_of-requires-clause-within : goal.companions_of-requires-clause-within
companions_of-requires-clause-within c = within_moved _ _ _ c.in_ok-sort_by_term.ensures.same c.in_ok-closed.ensures.closed.within

pub companions_of-requires-clause-terms : goal.companions_of-requires-clause-terms
companions_of-requires-clause-terms c =
    some_moved _ _ _ _ _ _ _ (λ t h. c.closed_laws.ensures.judged _ _ _ _ t c.laws.ensures.lawful c.requires.goal h) c.in_ok-closed.ensures.closed.sound c.in_ok-sort_by_term.ensures.same

pub atoms_among-requires : goal.atoms_among-requires
atoms_among-requires c =
    within_later _ _ c.in_ok-companions.ensures.kept.longer _ (within_moved _ _ _ c.in_ok-sort_by_term.ensures.same c.in_ok-closed.ensures.closed.within)

pub shelves_of-requires : goal.shelves_of-requires
shelves_of-requires c =
    within_later _ _ c.in_ok-companions.ensures.kept.longer _ (within_moved _ _ _ c.in_ok-sort_by_term.ensures.same c.in_ok-closed.ensures.closed.within)

pub returns-clause-ok : goal.returns-clause-ok
returns-clause-ok c =
    let kept = keeps_then _ _ _ c.in_ok-closed.ensures.kept c.in_ok-companions.ensures.kept in
    let many = companions_many _ _ _ _ _ c.in_ok-companions.ensures.ok in
    is_kept _ _ _ _ _ _ _ _ _ _ _ _ _ c.in_ok-closed.ensures.closed c.in_ok-sort_by_term.ensures.same c.in_ok-sort_by_term.ensures.ordered c.in_ok-companions.ensures.kept c.in_ok-atoms.ensures
    c.in_ok-closed.ensures.few c.laws.ensures.lawful c.requires.within c.requires.goal kept c.in_ok-sort_by_term.ensures.once (omega (arith, many, c.in_ok-companions.ensures.small)) c.in_ok-companions.ensures.ok
    (record { keys_within = c.in_ok-shelves.ensures.within.keys_in; within = c.in_ok-shelves.ensures.within.terms_in; each = c.in_ok-shelves.ensures.each })
