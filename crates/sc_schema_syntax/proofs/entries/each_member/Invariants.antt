use Rattle.std.proofs.Common.{◌≡◌, ◌++◌, map, option_map}
use Rattle.serde_json.specs.View.{view, members_view}
use Rattle.sc_schema_syntax.specs.Written.{entries, entries_of}
use Rattle.sc_schema_syntax.proofs.entries.each_member.Given as goal

abbrev pub invariant-loop-name : goal.invariant-loop-name
invariant-loop-name g l = record {
  goes_on : (goal.iterator-loop-name g).can_next l.name-iterator;
  ends : (goal.iterator-loop-name g).is_finite l.name-iterator;
  so_far : l.all ++ map g.T.FromMember.said (entries (members_view l.name-iterator)) ≡ map g.T.FromMember.said (entries_of (option_map (λ v. view v.now) l.fn.value));
}
