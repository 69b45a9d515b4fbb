use Rattle.std.proofs.Common.{◌≡◌, ◌+◌, [], ◌∷◌, List, ℕ, Option, None, IfOk, inl, inr, refl, length, subst, sym, ap, ◌∙◌, arith, rules}
use Rattle.std.proofs.lemmas.List.{length-append}
use Rattle.sc_propagation.proofs.watches.Watches.add.Goals as goal
use Rattle.sc_propagation.specs.Watches.{IsAdded, IsRewatched, IsWatched}
use Rattle.sc_propagation.specs.declared.watches.Watch.{Watch}
use Rattle.sc_propagation.specs.declared.watches.Watches.{Watches}

pub returns-in-None : goal.returns-in-None
returns-in-None c =
    let new : Watches = record { pairs = c.push.new.self; lists = c.args.self.now.lists } in
    subst (λ (o : Option Watch). IsAdded o c.args.self.now new) (sym c.in-None.is) (c.in_ok-push.ensures.items, refl)

pub watch-requires-clause-within : goal.watch-requires-clause-within
watch-requires-clause-within c =
    let items = c.args.self.now.pairs.items in
    let e : c.len-place.result ≡ length items = search rules in
    let f : length c.push.new.self.items ≡ length items + 1 = ap length c.in_ok-push.ensures.items ∙ length-append items (None ∷ []) in
    omega arith

pub watch-requires-clause-first : goal.watch-requires-clause-first
watch-requires-clause-first c = λ sign. c.requires c.in-Some.watch.first sign (subst (λ (o : Option Watch). IsWatched o c.in-Some.watch.first) (sym c.in-Some.is) (inl refl))

pub watch-requires-clause-second : goal.watch-requires-clause-second
watch-requires-clause-second c = λ sign. c.requires c.in-Some.watch.second sign (subst (λ (o : Option Watch). IsWatched o c.in-Some.watch.second) (sym c.in-Some.is) (inr refl))

pub returns-in-Some : goal.returns-in-Some
returns-in-Some c =
    let w = c.args.self.now in
    let new = c.watch.new.self in
    let place : c.len-place.result ≡ length w.pairs.items = search rules in
    subst (λ (o : Option Watch). IfOk c.watch.result (λ _. IsAdded o w new)) (sym c.in-Some.is)
    (subst (λ (ps : List (Option Watch)). IfOk c.watch.result (λ _. IsRewatched (length w.pairs.items) c.in-Some.watch ps w.lists new)) c.in_ok-push.ensures.items
    (subst (λ (k : ℕ). IfOk c.watch.result (λ _. IsRewatched k c.in-Some.watch c.push.new.self.items w.lists new)) place c.watch.ensures))
