use Rattle.std.proofs.Common.{flat_map, refl, rules, drop, ◌+◌, ap, length}
use Rattle.sc_smtlib_lines.specs.Scripts.{choices_lines}
use Rattle.sc_smtlib_lines.proofs.DatatypeLaws.{drop_step}
use Rattle.sc_smtlib_lines.proofs.PutLaws.{put_step}
use Rattle.sc_smtlib_lines.proofs.declarations.put_choices.Goals as goal

pub loop-sort-preserved : goal.loop-sort-preserved
loop-sort-preserved c =
    put_step (λ ks. flat_map (choices_lines c.args.sorts.now) ks) (λ k. choices_lines c.args.sorts.now k) (λ x xs. refl) _ _ _ (drop c.loop-sort.sort-index c.args.sorts.now) (drop (c.loop-sort.sort-index + 1) c.args.sorts.now) _
    (drop_step c.args.sorts.now c.loop-sort.sort-index _ (search rules) (search rules)) c.loop-sort.invariant c.in_ok-put_choices_of.ensures
