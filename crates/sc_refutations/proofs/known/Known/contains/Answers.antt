use Rattle.std.proofs.Common.{◌<◌, ◌∙◌, ap, length, sym, subst, slice_get, ℕ, List}
use Rattle.sc_refutations.specs.Known.{says}
use Rattle.sc_refutations.proofs.CodeLaws.{negation_below}
use Rattle.sc_refutations.proofs.known.Known.contains.Goals as goal

pub is_false-requires : goal.is_false-requires
is_false-requires c =
    subst (λ (k : ℕ). k < length c.as_slice.result.now) (sym c.negation_of.ensures)
    (negation_below c.args.self.now.count (length c.as_slice.result.now) c.args.code (ap length c.as_slice.ensures.value ∙ c.args.self.now.room) c.requires)

pub returns : goal.returns
returns c =
    c.is_false.ensures
    ∙ (ap (λ (marks : List ℕ). says c.args.self.now.step (slice_get marks c.negation_of.result)) c.as_slice.ensures.value
    ∙ ap (λ (i : ℕ). says c.args.self.now.step (slice_get c.args.self.now.marks.items i)) c.negation_of.ensures)
