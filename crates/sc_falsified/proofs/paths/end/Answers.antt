use Rattle.std.proofs.Common.{rules, ◌<◌}
use Rattle.sc_falsified.proofs.PathLaws.{end_joined, end_unreached}
use Rattle.sc_falsified.proofs.paths.end.Goals.{then-reaches+else-is, else-reaches}
use Rattle.sc_falsified.proofs.paths.end.Goals as goal

pub loop-c-preserved : goal.loop-c-preserved
loop-c-preserved g c =
    let size = c.requires.sized in
    let test = c.loop-c-test.true in
    let less : c.loop-c.c < g.P.Paths.ends c.args.paths.now = search rules in
    elim c.if-reaches.branch [
      | then-reaches+else-is w ↦ end_joined (g.P.Paths.second c.args.paths.now) (g.P.Paths.third c.args.paths.now) c.args.a c.args.b c.loop-c.c (search rules) c.loop-c.invariant
      | else-reaches w ↦
          end_unreached (g.P.Paths.second c.args.paths.now) (g.P.Paths.third c.args.paths.now) (g.P.Paths.ends c.args.paths.now) c.args.a c.args.b c.loop-c.c c.args.reach.now c.requires less
          (search rules) c.loop-c.invariant
    ]
