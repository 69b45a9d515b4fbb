use Rattle.std.proofs.Common.{◌≡◌, Option, Some, Vec, Global, length, ap, ◌∙◌, arith}
use Rattle.std.proofs.Math.ListN.{set}
use Rattle.sc_propagation.proofs.WatchLaws.{rewatched}
use Rattle.sc_propagation.proofs.watches.Watches.watch.Goals as goal
use Rattle.sc_propagation.specs.Watches.{watch_in, watch_of}
use Rattle.sc_propagation.specs.declared.watches.Watch.{Watch}

pub list-requires-2 : goal.list-requires-2
list-requires-2 c = λ sign. let e = c.in_ok-list.ensures.lists.sizes sign in let lt = c.requires.second sign in omega arith

pub set_pair-requires : goal.set_pair-requires
set_pair-requires c =
    let e : length c.list-2.new.self.pairs.items ≡ length c.args.self.now.pairs.items = ap (λ (v : Vec (Option Watch) Global). length v.items) (c.in_ok-list-2.ensures.pairs ∙ c.in_ok-list.ensures.pairs) in
    let lt = c.requires.within in
    omega arith

pub returns : goal.returns
returns c =
    let w = c.args.self.now in
    let a = c.list.new.self in
    let b = c.list-2.new.self in
    let same = ap (λ (v : Vec (Option Watch) Global). watch_in v.items c.args.place) c.in_ok-list.ensures.pairs in
    let pairs = c.set_pair.ensures ∙ ap (λ (v : Vec (Option Watch) Global). set v.items c.args.place (Some c.args.watch)) (c.in_ok-list-2.ensures.pairs ∙ c.in_ok-list.ensures.pairs) in
    rewatched c.args.place c.args.watch w.pairs.items (watch_of a c.args.place) w.lists a.lists _ same c.in_ok-list.ensures.lists c.in_ok-list-2.ensures.lists pairs
