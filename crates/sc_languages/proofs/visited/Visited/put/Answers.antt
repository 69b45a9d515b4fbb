use Rattle.std.proofs.Common.{sym}
use Rattle.sc_languages.proofs.VisitedLaws.{put_there, put_new}
use Rattle.sc_languages.proofs.visited.Visited.put.Goals as goal

pub returns-then-contains_key : goal.returns-then-contains_key
returns-then-contains_key c =
    put_there (λ k. k.items) (λ v. v.items) c.self.inside.entries.entries _ _ _ c.self.view_is (rw c.as_slice.ensures.value at (sym c.if-contains_key.ensures))

pub returns : goal.returns
returns c =
    put_new (λ k. k.items) (λ v. v.items) c.self.inside.entries.entries c.insert.new.self.entries _ c.as_slice.result.now c.args.marks c.args.word c.self.view_is c.as_slice.ensures.value
    c.in_ok-insert.ensures.entries (sym c.if-contains_key.ensures)
