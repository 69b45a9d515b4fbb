use Rattle.std.proofs.Common.{◌==◌, ◌∙◌, ℕ, sym, ap}
use Rattle.sc_laws.proofs.NumberLaws.{eqb_false}
use Rattle.sc_footprint.proofs.ShelvingLaws.{not_added, added_as, not_among, like_among}
use Rattle.sc_footprint.proofs.shelves.put_candidate.Goals as goal

pub returns-then-place_in-eq0 : goal.returns-then-place_in-eq0
returns-then-place_in-eq0 c =
    not_added _ _ _ _ c.requires.within (not_among c.args.terms.now c.args.candidates.now.keys c.args.n (ap (λ (k : ℕ). k == 0) (sym c.place_in.ensures ∙ c.if-place_in-eq0.true)))

pub returns : goal.returns
returns c =
    let some = eqb_false _ 0 (λ e. c.if-place_in-eq0.false (c.place_in.ensures ∙ e)) in
    added_as _ _ _ _ _ _ (like_among c.args.terms.now c.args.candidates.now.keys c.args.n some) c.in_ok-put_on.ensures
