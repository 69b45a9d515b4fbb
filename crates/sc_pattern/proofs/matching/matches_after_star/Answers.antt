use Rattle.std.proofs.Common.{rules}
use Rattle.sc_pattern.proofs.MatchLaws.{next_star, star_more, not_here, found, never, iff_trans}
use Rattle.sc_pattern.proofs.matching.matches_after_star.Goals as goal
use Rattle.sc_pattern.proofs.matching.matches_after_star.Goals.{in-Some+in_default-split_first+else-is_end, in_default}

pub loop-left-preserved-in-Some-split_first : goal.loop-left-preserved-in-Some-split_first
loop-left-preserved-in-Some-split_first c =
    (search rules, iff_trans c.loop-left.invariant.1 (next_star _ _ _ _ _ _ c.in-Some.ensures c.in-Some-split_first.ensures.cases.0))

pub returns-then-is_end : goal.returns-then-is_end
returns-then-is_end c = found _ _ _ _ _ c.loop-left.invariant.1 c.in-Some.ensures c.in_default-split_first.ensures.cases c.if-is_end.ensures

pub returns-in_default-split_char : goal.returns-in_default-split_char
returns-in_default-split_char c =
    elim c.match-after_run.branch [
      | in-Some+in_default-split_first+else-is_end w ↦
          never _ _ _ c.loop-left.invariant.1 c.in_default-split_char.ensures (not_here _ _ _ _ w.in-Some.ensures w.in_default-split_first.ensures.cases w.if-is_end.ensures)
      | in_default w ↦ never _ _ _ c.loop-left.invariant.1 c.in_default-split_char.ensures w.in_default.ensures
    ]

pub loop-left-preserved : goal.loop-left-preserved
loop-left-preserved c = (
  search rules,
  iff_trans c.loop-left.invariant.1 (star_more _ _ _ _ c.in-Some-split_char.ensures (elim c.match-after_run.branch [
    | in-Some+in_default-split_first+else-is_end w ↦ not_here _ _ _ _ w.in-Some.ensures w.in_default-split_first.ensures.cases w.if-is_end.ensures
    | in_default w ↦ w.in_default.ensures
  ])),
)
