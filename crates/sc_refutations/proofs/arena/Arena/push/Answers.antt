use Rattle.std.proofs.Common.{◌≡◌, ◌∙◌, ◌+◌, ◌++◌, ◌∷◌, [], length, sym, ap, rules}
use Rattle.std.proofs.lemmas.List.{length-append}
use Rattle.sc_refutations.proofs.ArenaLaws.{pieces_more, ordered_more}
use Rattle.sc_refutations.proofs.arena.Arena.push.Goals as goal

pub invariant_of-self-2 : goal.invariant_of-self-2
invariant_of-self-2 c =
    let end = c.len.result + length c.args.clause.now in
    let codes : c.write_reserved.new.codes.items ≡ c.self.inside.codes.items ++ c.args.clause.now = search rules in
    let ends : c.push_reserved.new.self.items ≡ c.self.inside.ends.items ++ end ∷ [] = search rules in
    let at : end ≡ length c.self.inside.codes.items + length c.args.clause.now = search rules in
    rw ends (ordered_more 0 (length c.self.inside.codes.items) (length c.args.clause.now) c.self.inside.ends.items end (length c.write_reserved.new.codes.items) c.self.invariant at
    (ap length codes ∙ (length-append c.self.inside.codes.items c.args.clause.now ∙ sym at)))

pub returns : goal.returns
returns c =
    let end = c.len.result + length c.args.clause.now in
    let codes : c.write_reserved.new.codes.items ≡ c.self.inside.codes.items ++ c.args.clause.now = search rules in
    let ends : c.push_reserved.new.self.items ≡ c.self.inside.ends.items ++ end ∷ [] = search rules in
    let at : end ≡ length c.self.inside.codes.items + length c.args.clause.now = search rules in
    rw (codes, ends, ← c.self.view_is) (pieces_more 0 c.self.inside.codes.items c.args.clause.now c.self.inside.ends.items end c.self.invariant at)
