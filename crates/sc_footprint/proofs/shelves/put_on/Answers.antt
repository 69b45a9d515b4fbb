use Rattle.std.proofs.Common.{◌≡◌, ◌≤◌, ◌<◌, ◌∙◌, get_or, length, refl, ap, rules}
use Rattle.sc_footprint.specs.declared.shelves.Shelf.{Shelf}
use Rattle.sc_footprint.specs.Indices.{is_shelf}
use Rattle.sc_footprint.specs.Shelving.{first_place}
use Rattle.sc_footprint.proofs.ShelvingLaws.{added_at, added_last}
use Rattle.sc_footprint.proofs.shelves.put_on.Goals as goal

pub returns-then-place-len : goal.returns-then-place-len
returns-then-place-len c =
    let place = c.place_on-place.ensures ∙ ap (first_place (is_shelf c.args.terms.now c.args.kind c.args.key)) c.as_slice.ensures.value in
    let short : c.place_on-place.result < length c.args.shelves.now.items = search rules in
    let here : c.index_mut.result.now ≡ get_or c.args.shelves.now.items c.place_on-place.result c.index_mut.result.now = search rules in
    let shelf : Shelf = record { kind = c.index_mut.result.now.kind; key = c.index_mut.result.now.key; terms = c.push.new.self } in
    added_at c.sort_laws.ensures.same c.args.terms.now c.args.kind c.args.key c.args.term c.args.shelves.now.items _ c.place_on-place.result c.index_mut.result.now shelf place short here refl refl
    c.in_ok-push.ensures.items refl c.requires.within c.requires.term_in

pub returns : goal.returns
returns c =
    let place = c.place_on-place.ensures ∙ ap (first_place (is_shelf c.args.terms.now c.args.kind c.args.key)) c.as_slice.ensures.value in
    let past : length c.args.shelves.now.items ≤ c.place_on-place.result = search rules in
    let shelf : Shelf = record { kind = c.args.kind; key = c.args.key; terms = c.in_ok-members.members } in
    added_last c.sort_laws.ensures.same c.args.terms.now c.args.kind c.args.key c.args.term c.args.shelves.now.items _ c.place_on-place.result shelf place past refl refl
    c.in_ok-members.ensures.items c.in_ok-push-2.ensures.items c.requires.within c.requires.key_in c.requires.term_in
