use Rattle.std.proofs.Common.{◌≡◌, length, suc, ap, ◌∙◌, rules, nat_eq, if◌then◌else◌, Vec, Global}
use Rattle.sc_graphs.specs.declared.path.Mark.{Mark}
use Rattle.sc_graphs.specs.declared.path.Mark.TheVariants.{OnPath}
use Rattle.sc_graphs.specs.Paths.{mark_in, unmet}
use Rattle.sc_graphs.proofs.LeaveLaws.{unmet_entered}
use Rattle.sc_graphs.proofs.MoveLaws.{marks_entered}
use Rattle.sc_graphs.proofs.path.Search.enter.Goals as goal

pub returns-clause-count : goal.returns-clause-count
returns-clause-count c = ap (λ (ms : Vec Mark Global). suc (unmet ms.items)) c.loop-next.invariant.marks ∙ unmet_entered c.args.self.now.marks.items c.args.node c.len-3.result c.requires

pub returns-clause-marks : goal.returns-clause-marks
returns-clause-marks c = λ n.
    let at : c.len-3.result ≡ length c.args.self.now.path.items = search rules in
    ap (λ (ms : Vec Mark Global). mark_in ms.items n) c.loop-next.invariant.marks
    ∙ marks_entered c.args.self.now.marks.items c.args.node c.len-3.result c.requires n
    ∙ ap (λ t. if nat_eq c.args.node n then OnPath t else mark_in c.args.self.now.marks.items n) at
