use Rattle.std.proofs.Common.{◌∙◌, ap, subst, replicate, false, []}
use Rattle.std.specs.Ordering.{nat_cmp}
use Rattle.std.specs.List.{list_any}
use Rattle.std.specs.BTreeMap.{is_at}
use Rattle.sc_turns.specs.Turning.{AreAll}
use Rattle.sc_turns.proofs.TurningLaws.{starts}
use Rattle.sc_turns.proofs.turning.Turning.new.Goals as goal

pub returns-clause-kept : goal.returns-clause-kept
returns-clause-kept c =
    starts c.args.parts _ _ _ _ c.requires
    (c.in_ok-marks.ensures ∙ ap (λ n. replicate n false) c.len-count.ensures)
    (c.in_ok-waiting.ensures ∙ ap (λ n. replicate n []) c.len-count.ensures)
    (λ p. ap (λ ks. list_any (is_at (nat_cmp p)) ks) c.new-2.ensures.empty)
    (subst (λ n. AreAll n c.in_ok-ahead.ahead.items) c.len-count.ensures c.in_ok-ahead.ensures)
    _ c.new.ensures
