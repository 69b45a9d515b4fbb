use Rattle.std.proofs.Common.{rules, ◌∙◌, ap, ◌∷◌}
use Rattle.std.specs.Str.{chars}
use Rattle.sc_pattern.proofs.MatchLaws.{ends_early, has_another, after_more}
use Rattle.sc_pattern.proofs.matching.after_run.Goals as goal

pub returns-in_err-first : goal.returns-in_err-first
returns-in_err-first c = rw c.from_residual.ensures (ends_early _ _ _ _ _ _ c.in-Some.ensures c.in_err-first.ensures c.loop-wanted.invariant.1)

pub returns-then-first-wanted : goal.returns-then-first-wanted
returns-then-first-wanted c = has_another _ _ _ _ _ _ _ _ c.in-Some.ensures c.in_ok-first.ensures c.if-first-wanted.true c.loop-wanted.invariant.1

pub loop-wanted-preserved : goal.loop-wanted-preserved
loop-wanted-preserved c = (search rules, after_more _ _ _ _ _ _ _ c.in-Some.ensures (c.in_ok-first.ensures ∙ ap (λ n. n ∷ chars c.in_ok-first.shorter.now) c.if-first-wanted.false) c.loop-wanted.invariant.1)
