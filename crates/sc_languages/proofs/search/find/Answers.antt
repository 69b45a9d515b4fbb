use Rattle.std.proofs.Common.{◌∙◌}
use Rattle.sc_languages.proofs.ListLaws.{Has-read}
use Rattle.sc_languages.proofs.SearchLaws.{entries_start, entries_next, entries_all}
use Rattle.sc_languages.proofs.search.find.Goals as goal

pub walk-requires-in-loop-w-clause-text : goal.walk-requires-in-loop-w-clause-text
walk-requires-in-loop-w-clause-text c = rw c.as_slice-in-loop-w.ensures (c.requires.texts _ (Has-read _ c.loop-w.w-index c.w-item.result c.loop-w-test.true c.w-item.is))

pub loop-w-init : goal.loop-w-init
loop-w-init c = entries_start _ _ _ _ _ _ (c.as_slice.ensures.value ∙ c.new-empty.ensures.items) (rw c.in_default.is at c.in_ok-at_start.ensures.none)

pub loop-w-preserved : goal.loop-w-preserved
loop-w-preserved c =
    entries_next _ _ _ c.loop-w.w-index c.w-item.result _ _ c.loop-w-test.true c.w-item.is c.loop-w.invariant
    (rw (c.in_default-on_the_way.is, c.as_slice-in-loop-w.ensures) at c.in_ok-on_the_way.ensures.none)

pub search-requires-clause-entries : goal.search-requires-clause-entries
search-requires-clause-entries c = entries_all _ _ _ _ _ c.loop-w-test.false c.loop-w.invariant
