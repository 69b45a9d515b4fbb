use Rattle.std.proofs.Common.{sym, ◌∙◌}
use Rattle.sc_languages.proofs.SearchLaws.{search_start, search_step, search_found, search_none}
use Rattle.sc_languages.proofs.search.search.Goals as goal

pub loop-others-init : goal.loop-others-init
loop-others-init c = search_start _ _ _ _ c.requires.entries

pub returns-in_default-clause-none : goal.returns-in_default-clause-none
returns-in_default-clause-none c =
    search_none _ _ _ _ _ c.loop-others.invariant (sym (rw c.in_default.is at c.in_ok-marks.ensures.value)) c.requires.covers

pub returns-in-Some-outcome-clause-found : goal.returns-in-Some-outcome-clause-found
returns-in-Some-outcome-clause-found c =
    search_found _ _ _ _ _ c.loop-others.invariant c.as_slice.result.now (c.in-Some.marks.items, c.in-Some.word.items) _ (sym (rw c.in-Some.is at c.in_ok-marks.ensures.value))
    (rw (c.in-Some-outcome.is, c.as_slice-in-loop-others.ensures.value, c.as_slice-in-loop-others-2.ensures.value) at c.in_ok-outcome.ensures.found)

pub loop-others-preserved : goal.loop-others-preserved
loop-others-preserved c =
    search_step _ _ _ _ _ c.loop-others.invariant c.as_slice.result.now (c.in-Some.marks.items, c.in-Some.word.items) _ (c.as_slice.ensures.value ∙ c.new-others.ensures.items)
    (sym (rw c.in-Some.is at c.in_ok-marks.ensures.value))
    (rw (c.in_default-outcome.is, c.as_slice-in-loop-others.ensures.value, c.as_slice-in-loop-others-2.ensures.value) at c.in_ok-outcome.ensures.none)
