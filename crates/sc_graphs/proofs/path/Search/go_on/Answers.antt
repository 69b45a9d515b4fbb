use Rattle.std.proofs.Common.{◌<◌, ◌≤◌, ℕ, length, sym, subst, ◌∙◌, rules, Vec, Global}
use Rattle.sc_graphs.specs.declared.path.Mark.{Mark}
use Rattle.sc_graphs.specs.Paths.{IsSearch, nothing}
use Rattle.sc_graphs.proofs.MoveLaws.{goes_back, goes_past, goes_in, goes_round}
use Rattle.sc_graphs.proofs.path.Search.go_on.Goals as goal

pub returns-then-len-part-clause-stands : goal.returns-then-len-part-clause-stands
returns-then-len-part-clause-stands c =
    let few : length c.args.self.now.waiting.items ≤ c.args.part.waiting = search rules in
    goes_back c.args.graph.now c.args.self.now c.args.part c.requires c.leave.new.self few c.leave.ensures.marks c.leave.ensures.path c.leave.ensures.parts c.leave.ensures.waiting

pub returns-in_ok-push-in-Left-clause-stands : goal.returns-in_ok-push-in-Left-clause-stands
returns-in_ok-push-in-Left-clause-stands c =
    let more : c.args.part.waiting < length c.args.self.now.waiting.items = search rules in
    goes_past c.args.graph.now c.args.self.now c.args.part c.requires c.pop.new.self.items c.in-Some.node c.in-Some.ensures.items more c.push.new.self.items c.in-Left.field-0
    c.in_ok-push-in-Left.ensures.items (sym c.mark.ensures ∙ c.in-Left.is)

pub returns-in_ok-enter-in-New-clause-stands : goal.returns-in_ok-enter-in-New-clause-stands
returns-in_ok-enter-in-New-clause-stands c =
    let more : c.args.part.waiting < length c.args.self.now.waiting.items = search rules in
    goes_in c.args.graph.now c.args.self.now c.args.part c.requires c.pop.new.self.items c.in-Some.node c.in-Some.ensures.items more c.push-in-New.new.self.items c.enter.new.self
    c.in_ok-push-in-New.ensures.items (sym c.mark.ensures ∙ c.in-New.is) c.in_ok-enter-in-New.ensures.path c.in_ok-enter-in-New.ensures.parts c.in_ok-enter-in-New.ensures.waiting
    c.in_ok-enter-in-New.ensures.marks

pub returns-in_ok-push-in-OnPath-clause-stands : goal.returns-in_ok-push-in-OnPath-clause-stands
returns-in_ok-push-in-OnPath-clause-stands c =
    let more : c.args.part.waiting < length c.args.self.now.waiting.items = search rules in
    let told = c.part_at-joined.ensures in
    subst (λ (ms : Vec Mark Global). IsSearch c.args.graph.now ms.items c.part_at-joined.new.self.path.items c.push-in-OnPath.new.self.items c.part_at-joined.new.self.waiting.items nothing) (sym told.marks)
    (subst (λ (xs : Vec ℕ Global). IsSearch c.args.graph.now c.args.self.now.marks.items xs.items c.push-in-OnPath.new.self.items c.part_at-joined.new.self.waiting.items nothing) (sym told.path)
    (subst (λ (ws : Vec ℕ Global). IsSearch c.args.graph.now c.args.self.now.marks.items c.args.self.now.path.items c.push-in-OnPath.new.self.items ws.items nothing) (sym told.waiting)
    (goes_round c.args.graph.now c.args.self.now c.args.part c.requires c.pop.new.self.items c.in-Some.node c.in-Some.ensures.items more c.part_at-joined.new.self.parts.items c.push-in-OnPath.new.self.items
    c.part_at-joined.result c.in-OnPath.place (sym c.mark.ensures ∙ c.in-OnPath.is) told.joined c.in_ok-push-in-OnPath.ensures.items)))
