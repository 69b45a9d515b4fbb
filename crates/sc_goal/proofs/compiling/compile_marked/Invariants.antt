use Rattle.sc_terms.specs.Tables.{Keeps}
use Rattle.sc_symeval.specs.Settings.{IsReady}
use Rattle.sc_goal.proofs.CompilingLaws.{AreSoFar, marked_from}
use Rattle.sc_goal.specs.Goals.{compiled}
use Rattle.sc_goal.specs.Selections.{selected}
use Rattle.sc_goal.proofs.compiling.compile_marked.Given as goal

abbrev pub invariant-loop-place : goal.invariant-loop-place
invariant-loop-place l = record {
  ready : IsReady l.terms l.setting;
  kept : Keeps l.fn.terms l.terms;
  so_far : AreSoFar (compiled l.setting.schema.now l.setting.env.now) (selected l.marks l.policies) (marked_from l.place l.marks l.policies) l.terms l.compiled;
}
