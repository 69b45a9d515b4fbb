use Rattle.std.proofs.Common.{◌≡◌, length}
use Rattle.std.specs.List.{list_all}
use Rattle.sc_terms.specs.Tables.{AreBelow, at_numbers}
use Rattle.sc_term_laws.specs.Tests.{member_test}
use Rattle.sc_term_laws.proofs.many.are_members.Given as goal

abbrev pub invariant-loop-part : goal.invariant-loop-part
invariant-loop-part l =
    record {
      here : AreBelow (length l.terms) l.rest;
      same : list_all (member_test l.member) (at_numbers l.terms l.parts) ≡ list_all (member_test l.member) (at_numbers l.terms l.rest);
    }

abbrev pub decreases-loop-part : goal.decreases-loop-part
decreases-loop-part l = length l.rest
