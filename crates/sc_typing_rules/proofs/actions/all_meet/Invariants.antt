use Rattle.std.proofs.Common.{◌≡◌, ◌∷◌, ◌||◌, option_map, drop}
use Rattle.sc_typing_rules.specs.Operators.{uids_of, meets}
use Rattle.sc_typing_rules.proofs.actions.all_meet.Given as goal

abbrev pub invariant-loop-member : goal.invariant-loop-member
invariant-loop-member l =
    option_map (λ us. l.found || meets (l.action ∷ l.above) us) (uids_of (drop l.member-index l.members))
    ≡ option_map (meets (l.action ∷ l.above)) (uids_of l.members)
