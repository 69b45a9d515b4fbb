use Rattle.std.proofs.Common.{sym, ap, ◌∙◌, subst, ◌<◌, ◌≡◌, true, false}
use Rattle.std.proofs.lemmas.Result.{on_ok_weaker}
use Rattle.std.specs.List.{AllByRecursion}
use Rattle.std.specs.Option.{option_copied}
use Rattle.sc_lists.specs.Members.{Has}
use Rattle.sc_lists.proofs.MemberLaws.{Has-last}
use Rattle.sc_turns.specs.Turning.{is_told}
use Rattle.sc_turns.proofs.TurningLaws.{may_be_told, has_to_wait, own_parts, no_parts}
use Rattle.sc_turns.proofs.turning.Turning.look_at.Goals as goal

pub returns-in_default-clause-kept : goal.returns-in_default-clause-kept
returns-in_default-clause-kept c =
    absurd (no_parts c.args.self.now.parts c.args.x (sym c.get.ensures ∙ ap option_copied c.in_default.is) (c.requires.left c.args.x (Has-last _ c.args.x)).0)

pub list_at-requires : goal.list_at-requires
list_at-requires c =
    let own = own_parts c.args.self.now.parts c.args.x c.in-Some.parts.now (sym c.get.ensures ∙ ap option_copied c.in-Some.is) in
    let part = subst (λ z. Has z c.in-Some-first_unmarked.part) (c.as_slice-2.ensures ∙ sym own) c.in-Some-first_unmarked.ensures.0 in
    subst (λ n. c.in-Some-first_unmarked.part < n) (sym c.requires.as_lists) (c.requires.things c.args.x c.in-Some-first_unmarked.part part)

pub returns-in-None-clause-kept : goal.returns-in-None-clause-kept
returns-in-None-clause-kept c =
    let own = own_parts c.args.self.now.parts c.args.x c.in-Some.parts.now (sym c.get.ensures ∙ ap option_copied c.in-Some.is) in
    let marks = c.as_slice.ensures.value in
    let stand = subst (λ z. AllByRecursion (λ p. is_told c.args.self.now.marks.items p ≡ true) z) (c.as_slice-2.ensures ∙ sym own)
    (subst (λ m. AllByRecursion (λ p. is_told m p ≡ true) c.as_slice-2.result.now) marks c.in-None.ensures) in
    on_ok_weaker c.put.result (λ more. may_be_told _ _ _ _ _ _ _ c.requires _ stand more) c.put.ensures

pub returns-in-Some-first_unmarked-clause-kept : goal.returns-in-Some-first_unmarked-clause-kept
returns-in-Some-first_unmarked-clause-kept c =
    let own = own_parts c.args.self.now.parts c.args.x c.in-Some.parts.now (sym c.get.ensures ∙ ap option_copied c.in-Some.is) in
    let part = subst (λ z. Has z c.in-Some-first_unmarked.part) (c.as_slice-2.ensures ∙ sym own) c.in-Some-first_unmarked.ensures.0 in
    let untold = subst (λ m. is_told m c.in-Some-first_unmarked.part ≡ false) c.as_slice.ensures.value c.in-Some-first_unmarked.ensures.1 in
    on_ok_weaker c.list_at.result (λ more. has_to_wait _ _ _ _ _ _ _ c.requires c.in-Some-first_unmarked.part _ part untold more) c.list_at.ensures
