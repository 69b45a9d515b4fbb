-- A file is read in one way.
use Rattle.std.proofs.Common.{◌≡◌, ℕ, List, Ok, sym, subst}
use Rattle.sc_parser.specs.Spelling.{Spells, spelled}
use Rattle.sc_generated_question.proofs.reading.policies.Goals as goal

pub returns-in-Ok : goal.returns-in-Ok
returns-in-Ok c = λ ps h.
    let told : Ok ps ≡ Ok c.in-Ok.policies = c.in-Ok.ensures.complete (Ok ps) (spelled ps (subst (λ (bs : List ℕ). Spells bs ps) (sym c.as_bytes.ensures.value) h)) in
    cc
