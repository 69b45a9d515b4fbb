use Rattle.std.proofs.Common.{◌<◌, ℕ, length, sym, subst, IfOk}
use Rattle.std.proofs.lemmas.Result.{IfOk-weaker}
use Rattle.sc_lists.specs.Members.{Has}
use Rattle.sc_turns.specs.Turns.{AreRanked, AreThings, InTurn}
use Rattle.sc_smtlib_lines.specs.Gaining.{terms_of}
use Rattle.sc_smtlib_lines.proofs.OrderLaws.{are_things, told_within, told_whole}
use Rattle.sc_smtlib_lines.proofs.order.order.Goals as goal

pub turns-requires : goal.turns-requires
turns-requires c = subst AreThings (sym c.in_ok-parts.ensures) (are_things (terms_of c.args.names.now) c.requires.closed)

pub returns-clause-in_turn : goal.returns-clause-in_turn
returns-clause-in_turn c = subst (λ z. IfOk c.turns.result (InTurn z)) c.in_ok-parts.ensures c.turns.ensures.in_turn

pub returns-clause-whole : goal.returns-clause-whole
returns-clause-whole c =
    IfOk-weaker c.turns.result _ _
    (λ os h. told_whole (terms_of c.args.names.now) os c.requires.closed
    (subst (λ z. (rank : ℕ → ℕ) → AreRanked z rank → (x : ℕ) → x < length z → Has os x) c.in_ok-parts.ensures h))
    c.turns.ensures.whole

pub returns-clause-within : goal.returns-clause-within
returns-clause-within c =
    IfOk-weaker c.turns.result _ _ (λ os h. told_within (terms_of c.args.names.now) os (subst (λ z. InTurn z os) c.in_ok-parts.ensures h)) c.turns.ensures.in_turn
