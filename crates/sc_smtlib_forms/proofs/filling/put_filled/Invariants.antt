use Rattle.std.proofs.Common.{◌≡◌, ◌++◌, drop}
use Rattle.std.specs.List.{flat_map}
use Rattle.sc_smtlib_forms.specs.Forms.{put_for, template}
use Rattle.sc_smtlib_forms.proofs.filling.put_filled.Given as goal

abbrev pub invariant-loop-b : goal.invariant-loop-b
invariant-loop-b l = l.out.items ++ flat_map (put_for l.w l.x l.y) (drop l.b-index (template l.fn.form)) ≡ l.fn.out.items ++ flat_map (put_for l.w l.x l.y) (template l.fn.form)
