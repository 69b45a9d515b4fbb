use Rattle.std.proofs.Common.{◌≡◌, ◌++◌, map, drop, length, true}
use Rattle.std.specs.List.{list_all}
use Rattle.std.specs.Option.{option_to_list}
use Rattle.sc_refutations.specs.Arenas.{lit_of, has_code, lit_found}
use Rattle.sc_refutations.specs.Known.{marked, have_marks}
use Rattle.sc_refutations.specs.Refutations.{residual, open_lits}
use Rattle.sc_refutations.proofs.refuting.left_of.Given as goal

-- what was found before the rest of the clause, and the rest, leave what the whole clause leaves
abbrev pub invariant-loop-code : goal.invariant-loop-code
invariant-loop-code l = record {
  left : residual (option_to_list (lit_found l.found) ++ open_lits (marked l.step l.marks) (map lit_of (drop l.code-index l.codes)))
      ≡ residual (open_lits (marked l.step l.marks) (map lit_of l.codes));
  have : have_marks (length l.marks) (map lit_of (drop l.code-index l.codes)) ≡ true;
  coded : list_all has_code (map lit_of (drop l.code-index l.codes)) ≡ true;
}
