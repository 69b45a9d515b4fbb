use Rattle.std.proofs.Common.{◌≡◌, ◌+◌, ◌*◌, map, take, length}
use Rattle.sc_sorts.specs.declared.sort.Sort.{size-Sort}
use Rattle.sc_terms.specs.Tables.{AreBelow, Keeps, at_numbers}
use Rattle.sc_terms.proofs.DefaultLaws.{with_default}
use Rattle.sc_terms.proofs.terms.Terms.+defaults.Given as goal

abbrev pub decreases-default_of : goal.decreases-default_of
decreases-default_of l = 3 * size-Sort l.sort.now

abbrev pub decreases-put_default : goal.decreases-put_default
decreases-put_default l = 3 * size-Sort l.field.now.1 + 1

abbrev pub decreases-default_record : goal.decreases-default_record
decreases-default_record l = 3 * goal.size-default_record l + 2

abbrev pub invariant-default_record-loop-field : goal.invariant-default_record-loop-field
invariant-default_record-loop-field l =
    record {
      kept : Keeps l.fn.self l.self;
      below : AreBelow (length l.self) l.parts;
      listed : at_numbers l.self l.parts ≡ map with_default (take l.field-index l.fields);
    }
