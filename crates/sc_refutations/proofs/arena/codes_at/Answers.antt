use Rattle.std.proofs.Common.{◌≡◌, ◌<◌, ◌≤◌, ◌-◌, ℕ, List, Some, map, take, drop, get_or, length, sym, ap, ◌∙◌, refl, rules, arith}
use Rattle.std.proofs.lemmas.Option.{slice_get_past, slice_get_read}
use Rattle.sc_refutations.specs.Arenas.{lit_of}
use Rattle.sc_refutations.proofs.ArenaLaws.{get_none, get_some, end_within}
use Rattle.sc_refutations.proofs.arena.codes_at.Goals as goal

pub returns-in_err-end : goal.returns-in_err-end
returns-in_err-end c =
    let past : length c.args.ends.now ≤ c.args.place = search rules in
    rw c.from_residual.ensures (sym (get_none 0 c.args.codes.now c.args.ends.now c.args.place (slice_get_past c.args.ends.now c.args.place past)))

pub start_at-start-requires : goal.start_at-start-requires
start_at-start-requires c =
    let within : c.args.place < length c.args.ends.now = search rules in
    omega (arith, within)

pub part-requires-clause-ordered : goal.part-requires-clause-ordered
part-requires-clause-ordered c =
    let within : c.args.place < length c.args.ends.now = search rules in
    let read : c.in_ok-end.field-0.now ≡ get_or c.args.ends.now c.args.place c.in_ok-end.field-0.now = search rules in
    let e = slice_get_read c.args.ends.now (length c.args.ends.now) c.args.place c.in_ok-end.field-0.now refl within read in
    let low = (end_within 0 c.args.ends.now (length c.args.codes.now) c.args.place c.in_ok-end.field-0.now c.requires e).0 in
    let begins = c.start_at-start.ensures in
    omega (arith, begins, low)

pub part-requires-clause-within : goal.part-requires-clause-within
part-requires-clause-within c =
    let within : c.args.place < length c.args.ends.now = search rules in
    let read : c.in_ok-end.field-0.now ≡ get_or c.args.ends.now c.args.place c.in_ok-end.field-0.now = search rules in
    let e = slice_get_read c.args.ends.now (length c.args.ends.now) c.args.place c.in_ok-end.field-0.now refl within read in
    (end_within 0 c.args.ends.now (length c.args.codes.now) c.args.place c.in_ok-end.field-0.now c.requires e).1

pub returns : goal.returns
returns c =
    let within : c.args.place < length c.args.ends.now = search rules in
    let read : c.in_ok-end.field-0.now ≡ get_or c.args.ends.now c.args.place c.in_ok-end.field-0.now = search rules in
    let e = slice_get_read c.args.ends.now (length c.args.ends.now) c.args.place c.in_ok-end.field-0.now refl within read in
    ap (λ (xs : List ℕ). Some (map lit_of xs)) c.part.ensures
    ∙ (ap (λ (start : ℕ). Some (map lit_of (take (c.in_ok-end.field-0.now - start) (drop start c.args.codes.now)))) c.start_at-start.ensures
    ∙ sym (get_some 0 c.args.codes.now c.args.ends.now c.args.place c.in_ok-end.field-0.now e))
