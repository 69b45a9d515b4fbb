use Rattle.std.proofs.Common.{◌≡◌, drop}
use Rattle.serde_json.specs.View.{items_view, members_view}
use Rattle.sc_schema_syntax.specs.Forms.{form_at}
use Rattle.sc_schema_syntax.specs.Faults.{items_fault, members_fault}
use Rattle.sc_schema_syntax.proofs.checking.+checking.Given as goal

abbrev pub invariant-items_fault-loop-number : goal.invariant-items_fault-loop-number
invariant-items_fault-loop-number l =
    items_fault (form_at l.each (items_view l.items.items)) 0 (items_view l.items.items)
    ≡ items_fault (form_at l.each (items_view l.items.items)) l.number (items_view (drop l.number l.items.items))

abbrev pub invariant-members_fault-loop-name : goal.invariant-members_fault-loop-name
invariant-members_fault-loop-name l = record {
  goes_on : (goal.iterator-members_fault-loop-name).can_next l.name-iterator;
  ends : (goal.iterator-members_fault-loop-name).is_finite l.name-iterator;
  rest : members_fault l.level (members_view l.members.entries) ≡ members_fault l.level (members_view l.name-iterator);
}
