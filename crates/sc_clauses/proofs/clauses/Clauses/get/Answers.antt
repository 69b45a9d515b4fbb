use Rattle.std.proofs.Common.{◌≡◌, ◌<◌, ◌≤◌, ℕ, List, slice_get, get_or, length, sym, ap, ◌∙◌, refl, rules}
use Rattle.std.proofs.lemmas.Option.{slice_get_past, slice_get_read}
use Rattle.sc_clauses.specs.Arrays.{start_at}
use Rattle.sc_clauses.proofs.ArrayLaws.{found, not_found}
use Rattle.sc_clauses.proofs.clauses.Clauses.get.Goals as goal

pub returns-in_err-until : goal.returns-in_err-until
returns-in_err-until c =
    let past : length c.deref.result.now ≤ c.args.place = search rules in
    let e = slice_get_past c.deref.result.now c.args.place past in
    rw (← c.self.view_is, c.from_residual.ensures) (not_found _ _ _ (sym e ∙ ap (λ (ends : List ℕ). slice_get ends c.args.place) c.deref.ensures.value))

pub returns : goal.returns
returns c =
    let within : c.args.place < length c.deref.result.now = search rules in
    let read : c.in_ok-until.field-0.now ≡ get_or c.deref.result.now c.args.place c.in_ok-until.field-0.now = search rules in
    let e = slice_get_read c.deref.result.now (length c.deref.result.now) c.args.place c.in_ok-until.field-0.now refl within read in
    let s : c.start-from.result ≡ start_at c.self.inside.ends.items c.args.place = search rules in
    rw (← c.self.view_is) (found _ _ _ c.start-from.result c.in_ok-until.field-0.now c.get-2.result c.self.invariant (ap (λ (ends : List ℕ). slice_get ends c.args.place) (sym c.deref.ensures.value) ∙ e) s (search rules))
