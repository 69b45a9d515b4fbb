use Rattle.std.proofs.Common.{◌≡◌, ◌+◌, ◌++◌, ◌∷◌, [], length, ap, ◌∙◌, refl, rules}
use Rattle.std.proofs.lemmas.List.{length-append}
use Rattle.sc_refutations.proofs.ArenaLaws.{pieces_more, ordered_more}
use Rattle.sc_refutations.proofs.refuting.learn.Goals as goal

pub invariant_of-clauses-then-write_shown : goal.invariant_of-clauses-then-write_shown
invariant_of-clauses-then-write_shown c =
    let inside = c.clauses.inside in
    let codes : c.write_shown.new.codes.items ≡ c.clauses.inside.codes.items ++ c.args.clause.now = search rules in
    let ends : c.push_reserved.new.self.items ≡ c.clauses.inside.ends.items ++ (length c.clauses.inside.codes.items + length c.args.clause.now) ∷ [] = search rules in
    rw ends (ordered_more 0 (length inside.codes.items) (length c.args.clause.now) inside.ends.items _ (length c.write_shown.new.codes.items) c.clauses.invariant refl
    (ap length codes ∙ length-append inside.codes.items c.args.clause.now))

pub returns-then-write_shown-clause-clauses : goal.returns-then-write_shown-clause-clauses
returns-then-write_shown-clause-clauses c =
    let inside = c.clauses.inside in
    let codes : c.write_shown.new.codes.items ≡ c.clauses.inside.codes.items ++ c.args.clause.now = search rules in
    let ends : c.push_reserved.new.self.items ≡ c.clauses.inside.ends.items ++ (length c.clauses.inside.codes.items + length c.args.clause.now) ∷ [] = search rules in
    rw (codes, ends, ← c.clauses.view_is) (pieces_more 0 inside.codes.items c.args.clause.now inside.ends.items _ c.clauses.invariant refl)
