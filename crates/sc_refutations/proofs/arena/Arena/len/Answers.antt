use Rattle.std.proofs.Common.{◌≡◌, length, sym, ◌∙◌, rules}
use Rattle.sc_refutations.proofs.ArenaLaws.{pieces_length}
use Rattle.sc_refutations.proofs.arena.Arena.len.Goals as goal

pub returns : goal.returns
returns c =
    let e : c.len.result ≡ length c.self.inside.ends.items = search rules in
    rw (← c.self.view_is) (e ∙ sym (pieces_length _ _ _))
