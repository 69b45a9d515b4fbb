use Rattle.std.proofs.Common.{◌≡◌, ◌+◌, ◌++◌, ◌&&◌, ℕ, List, true, length, map, sym, ap, ◌∙◌, arith, rules}
use Rattle.std.proofs.lemmas.List.{length-append}
use Rattle.sc_clauses.specs.Clauses.{Clause}
use Rattle.sc_refutations.specs.Arenas.{lit_of, pieces}
use Rattle.sc_refutations.specs.Known.{marked}
use Rattle.sc_refutations.specs.Refutations.{LitSet, is_clause, are_listed, negated, refutes}
use Rattle.sc_refutations.proofs.ArenaLaws.{pieces_kept, ordered_within}
use Rattle.sc_refutations.proofs.refuting.write_shown.Goals as goal

pub follow-requires-clause-listed : goal.follow-requires-clause-listed
follow-requires-clause-listed c =
    let codes : c.as_slice.result.now ≡ c.args.codes.now.items ++ c.args.clause.now = search rules in
    ap (λ (xs : List ℕ). are_listed c.write_false.new.known.count (pieces 0 xs c.args.ends.now)) codes
    ∙ (ap (are_listed c.write_false.new.known.count) (pieces_kept 0 c.args.codes.now.items c.args.clause.now c.args.ends.now c.requires.ordered)
    ∙ (ap (λ (n : ℕ). are_listed n (pieces 0 c.args.codes.now.items c.args.ends.now)) c.write_false.ensures.count ∙ c.requires.listed))

pub follow-requires-clause-within : goal.follow-requires-clause-within
follow-requires-clause-within c =
    let codes : c.as_slice.result.now ≡ c.args.codes.now.items ++ c.args.clause.now = search rules in
    let long : length c.as_slice.result.now ≡ length c.args.codes.now.items + length c.args.clause.now = ap length codes ∙ length-append c.args.codes.now.items c.args.clause.now in
    ordered_within 0 c.args.ends.now (length c.args.codes.now.items) (length c.as_slice.result.now) (omega (arith, long)) c.requires.ordered

pub returns-clause-shown : goal.returns-clause-shown
returns-clause-shown c =
    let codes : c.as_slice.result.now ≡ c.args.codes.now.items ++ c.args.clause.now = search rules in
    let is : is_clause c.args.known.now.count (map lit_of c.args.clause.now) ≡ true = search rules in
    let known : marked c.write_false.new.known.step c.write_false.new.known.marks.items ≡ negated (map lit_of c.args.clause.now) = search rules in
    let kept : pieces 0 c.as_slice.result.now c.args.ends.now ≡ pieces 0 c.args.codes.now.items c.args.ends.now
    = ap (λ (xs : List ℕ). pieces 0 xs c.args.ends.now) codes ∙ pieces_kept 0 c.args.codes.now.items c.args.clause.now c.args.ends.now c.requires.ordered in
    c.follow.ensures.shown
    ∙ (ap (λ (cs : List Clause). refutes cs (marked c.write_false.new.known.step c.write_false.new.known.marks.items) c.args.hints.now) kept
    ∙ (ap (λ (k : LitSet). refutes (pieces 0 c.args.codes.now.items c.args.ends.now) k c.args.hints.now) known
    ∙ sym (ap (λ b. b && refutes (pieces 0 c.args.codes.now.items c.args.ends.now) (negated (map lit_of c.args.clause.now)) c.args.hints.now) is)))
