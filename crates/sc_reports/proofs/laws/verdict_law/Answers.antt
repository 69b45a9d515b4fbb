use Rattle.sc_reports.proofs.ClaimLaws.{not-both}
use Rattle.sc_reports.proofs.laws.verdict_law.Goals as goal

pub returns : goal.returns
returns c q env text step why shown rejected = not-both c.accepted_law.ensures (λ p u v x y. c.stream_laws.ensures.once c.new-rules.result p text u v x y) q env step why shown rejected
