use Rattle.std.proofs.Common.{◌≡◌, ◌∙◌, length, rules}
use Rattle.sc_refutations.proofs.CodeLaws.{mark_listed}
use Rattle.sc_refutations.proofs.known.Known.has_mark.Goals as goal

pub returns : goal.returns
returns c =
    let size : c.len.result ≡ length c.args.self.now.marks.items = search rules in
    mark_listed c.args.self.now.count c.len.result c.args.code (size ∙ c.args.self.now.room) c.requires
