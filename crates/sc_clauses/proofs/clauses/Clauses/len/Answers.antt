use Rattle.std.proofs.Common.{◌≡◌, length, sym, ◌∙◌, rules}
use Rattle.sc_clauses.proofs.ArrayLaws.{cut_length}
use Rattle.sc_clauses.proofs.clauses.Clauses.len.Goals as goal

pub returns : goal.returns
returns c =
    let e : c.len.result ≡ length c.self.inside.ends.items = search rules in
    rw (← c.self.view_is) (e ∙ sym (cut_length _ _ _))
