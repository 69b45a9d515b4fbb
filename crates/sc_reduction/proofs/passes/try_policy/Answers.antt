use Rattle.std.proofs.Common.{Bool, List, ap, false, subst, sym, ◌∙◌}
use Rattle.sc_reduction.specs.Passes.{IsTried}
use Rattle.std.specs.Prelude.{slice_set}
use Rattle.sc_reduction.specs.Marked.{asked_by}
use Rattle.sc_reduction.proofs.PassLaws.{found_without, leaves_tried, stays_tried}
use Rattle.sc_reduction.proofs.passes.try_policy.Goals as goal
use Rattle.sc_reduction.proofs.passes.try_policy.Goals.{then-not-stays, else-not-stays}

pub returns : goal.returns
returns c =
    let r = asked_by c.args.task.now in
    let found = found_without r c.args.kept.now.items _ _ _ _ c.args.place c.in_ok-fate.fate c.deref-2.ensures.value c.deref.ensures.value c.deref-3.ensures.value c.in_ok-fewer.ensures c.in_ok-fate.ensures in
    elim c.if-not-stays.branch [
      | then-not-stays w ↦ record {
        tried = leaves_tried r c.args.kept.now.items c.if-not-stays.kept.items c.args.place c.in_ok-fate.fate (sym c.stays.ensures ∙ w.if-not-stays.true) (ap (λ v. v.items) w.kept-is ∙ c.in_ok-fewer.ensures ∙ ap (λ (ms : List Bool). slice_set ms c.args.place false) c.deref.ensures.value) c.requires.equivalent found;
      }
      | else-not-stays w ↦ record {
        tried = subst (λ (ms : List Bool). IsTried r c.args.kept.now.items c.args.place ms c.in_ok-fate.fate) (ap (λ v. v.items) (sym w.kept-is)) (stays_tried r c.args.kept.now.items c.args.place c.index.result.now c.in_ok-fate.fate c.requires.within c.index.ensures c.if-not-index.false (sym c.stays.ensures ∙ w.if-not-stays.false) c.requires.equivalent found);
      }
    ]
