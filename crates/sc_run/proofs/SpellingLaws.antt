-- Bytes spell one list of policies at most, and have no fault then.
use Rattle.std.proofs.Common.{◌≡◌, ℕ, List, Ok, Err}
use Rattle.sc_ast.specs.declared.policy.Policy.{Policy}
use Rattle.sc_parser.specs.declared.fault.PolicyFault.{PolicyFault}
use Rattle.sc_parser.specs.Spelling.{Spells, HasFault, spelled, faulty}
use Rattle.sc_parser.proofs.ReadingLaws.{one_reading}

pub not_both : {bytes : List ℕ} {ps : List Policy} {f : PolicyFault} → Spells bytes ps → HasFault bytes f → ⊥
not_both {bytes = bytes} {ps = ps} {f = f} s h = let same = one_reading bytes (Ok ps) (Err f) (spelled ps s) (faulty f h) in absurd cc

pub one_set : {bytes : List ℕ} {ps qs : List Policy} → Spells bytes ps → Spells bytes qs → ps ≡ qs
one_set {bytes = bytes} {ps = ps} {qs = qs} a b = let same = one_reading bytes (Ok ps) (Ok qs) (spelled ps a) (spelled qs b) in cc
