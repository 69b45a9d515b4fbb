use Rattle.std.proofs.Common.{◌∙◌, ap, is_some, ℕ, List}
use Rattle.sc_checker.specs.Streams.{Checking}
use Rattle.sc_checker.proofs.StreamLaws.{held, longer, kept_at_fault, kept_on}
use Rattle.sc_checker.proofs.line_checker.LineChecker.keep.Goals as goal

pub returns-then-is_at_fault-clause-kept : goal.returns-then-is_at_fault-clause-kept
returns-then-is_at_fault-clause-kept c = kept_at_fault c.args.self.now c.args.bytes.now (c.if-is_at_fault.ensures ∙ ap (λ (k : Checking). is_some k.progress.fault) c.self.view_is)

pub returns-clause-kept : goal.returns-clause-kept
returns-clause-kept c =
    kept_on c.args.self.now _ c.args.bytes.now (c.if-is_at_fault.ensures ∙ ap (λ (k : Checking). is_some k.progress.fault) c.self.view_is)
    (ap (λ (l : List ℕ). held c.self.inside.begun l c.self.inside.steps) c.in_ok-extend_from_slice.ensures.items
    ∙ ap (λ (k : Checking). longer k c.args.bytes.now) c.self.view_is)
