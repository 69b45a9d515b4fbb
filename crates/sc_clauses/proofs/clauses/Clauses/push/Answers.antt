use Rattle.std.proofs.Common.{◌≡◌, ◌++◌, ◌∷◌, [], length, take, ◌∙◌, rules}
use Rattle.sc_clauses.specs.Arrays.{start_at}
use Rattle.sc_clauses.proofs.ArrayLaws.{anyway, shortened, shortened_ends, unpushed, unpushed_ends, pushed, pushed_ends}
use Rattle.sc_clauses.proofs.clauses.Clauses.push.Goals as goal

pub invariant_of-self : goal.invariant_of-self
invariant_of-self c =
    let s : c.start-from.result ≡ start_at c.self.inside.ends.items (length c.self.inside.ends.items) = search rules in
    let e : c.extend_from_slice.new.self.items ≡ take c.start-from.result c.self.inside.literals.items = search rules in
    rw e (shortened_ends _ _ _ c.self.invariant s)

pub returns-in_err-extend_from_slice-clause-err : goal.returns-in_err-extend_from_slice-clause-err
returns-in_err-extend_from_slice-clause-err c =
    let s : c.start-from.result ≡ start_at c.self.inside.ends.items (length c.self.inside.ends.items) = search rules in
    let e : c.extend_from_slice.new.self.items ≡ take c.start-from.result c.self.inside.literals.items = search rules in
    anyway c.from_residual.result (rw e (shortened _ _ _ c.self.invariant s ∙ c.self.view_is))

pub invariant_of-self-in_err-push : goal.invariant_of-self-in_err-push
invariant_of-self-in_err-push c =
    let s : c.start-from.result ≡ start_at c.self.inside.ends.items (length c.self.inside.ends.items) = search rules in
    let e : c.extend_from_slice.new.self.items ≡ take c.start-from.result c.self.inside.literals.items ++ c.args.clause.now = search rules in
    let f : c.push.new.self.items ≡ c.self.inside.ends.items = search rules in
    rw (e, f) (unpushed_ends _ _ _ _ c.self.invariant s)

pub returns-in_err-push-clause-err : goal.returns-in_err-push-clause-err
returns-in_err-push-clause-err c =
    let s : c.start-from.result ≡ start_at c.self.inside.ends.items (length c.self.inside.ends.items) = search rules in
    let e : c.extend_from_slice.new.self.items ≡ take c.start-from.result c.self.inside.literals.items ++ c.args.clause.now = search rules in
    let f : c.push.new.self.items ≡ c.self.inside.ends.items = search rules in
    anyway c.from_residual-in_err-push.result (rw (e, f) (unpushed _ c.args.clause.now _ _ c.self.invariant s ∙ c.self.view_is))

pub invariant_of-self-2 : goal.invariant_of-self-2
invariant_of-self-2 c =
    let s : c.start-from.result ≡ start_at c.self.inside.ends.items (length c.self.inside.ends.items) = search rules in
    let e : c.extend_from_slice.new.self.items ≡ take c.start-from.result c.self.inside.literals.items ++ c.args.clause.now = search rules in
    let f : c.push.new.self.items ≡ c.self.inside.ends.items ++ length c.extend_from_slice.new.self.items ∷ [] = search rules in
    rw (f, e) (pushed_ends _ _ _ _ c.self.invariant s)

pub returns-clause-ok : goal.returns-clause-ok
returns-clause-ok c =
    let s : c.start-from.result ≡ start_at c.self.inside.ends.items (length c.self.inside.ends.items) = search rules in
    let e : c.extend_from_slice.new.self.items ≡ take c.start-from.result c.self.inside.literals.items ++ c.args.clause.now = search rules in
    let f : c.push.new.self.items ≡ c.self.inside.ends.items ++ length c.extend_from_slice.new.self.items ∷ [] = search rules in
    rw (f, e, ← c.self.view_is) (pushed _ _ _ _ c.self.invariant s)
