use Rattle.std.proofs.Common.{List, ℕ, length, subst}
use Rattle.sc_terms.specs.Tables.{IsTable}
use Rattle.sc_rule_instances.specs.Known.{few_items}
use Rattle.th_equal.specs.Classes.{IsAlong}
use Rattle.th_equal.specs.Joining.{AreFirstLabels}
use Rattle.th_equal.proofs.JoinLaws.{labels_are}
use Rattle.th_equal.proofs.joining.item_labels.Goals as goal

pub returns : goal.returns
returns c =
    let table = subst IsTable c.terms.ensures c.laws-2.ensures in
    let along = subst (λ (qs : List ℕ). IsAlong qs c.in_ok-labels.labels.items) c.as_slice.ensures.value c.in_ok-labels.ensures.along in
    let found =
    subst (λ (ls : List ℕ). AreFirstLabels c.args.named.now.problem.now c.args.named.now.numbers.items ls (few_items (length c.args.named.now.numbers.items)) c.in_ok-found.found.items)
    c.as_slice-2.ensures.value c.in_ok-found.ensures in
    labels_are c.args.named.now.problem.now c.args.named.now.m.now c.args.named.now.numbers.items c.join_atoms.new.parents.items c.join_rows.new.parents.items c.in_ok-labels.labels.items c.in_ok-found.found.items
    c.laws.ensures table c.requires c.join_atoms.ensures.joined c.join_rows.ensures.joined c.join_rows.ensures.coarser along found
