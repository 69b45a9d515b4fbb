use Rattle.std.proofs.Common.{◌<◌, [], ℕ, map, length}
use Rattle.std.specs.List.{AllByRecursion}
use Rattle.sc_terms.specs.Tables.{tree}
use Rattle.sc_smtlib_lines.specs.Gaining.{AreLayered, Leads, sorts_in}
use Rattle.sc_smtlib_lines.specs.Subterms.{datatypes_of}
use Rattle.sc_smtlib_lines.proofs.datatypes.layers.Given as goal

abbrev pub invariant-loop-n : goal.invariant-loop-n
invariant-loop-n l = record {
  layered : AreLayered l.set;
  within : AllByRecursion (λ n. n < length l.fn.terms) l.rest;
  leads : Leads [] (sorts_in l.set) (datatypes_of (map (tree l.fn.terms) l.rest)) (datatypes_of (map (tree l.fn.terms) l.fn.numbers));
}

abbrev pub decreases-loop-n : goal.decreases-loop-n
decreases-loop-n l = length l.rest
