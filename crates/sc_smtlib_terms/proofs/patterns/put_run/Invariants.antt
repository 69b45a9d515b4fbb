use Rattle.std.proofs.Common.{◌≡◌, ◌++◌, drop}
use Rattle.std.specs.List.{flat_map}
use Rattle.sc_smtlib_forms.specs.Characters.{text_character}
use Rattle.sc_smtlib_terms.proofs.patterns.put_run.Given as goal

abbrev pub invariant-loop-c : goal.invariant-loop-c
invariant-loop-c l = l.out.items ++ flat_map text_character (drop l.c-index l.run) ≡ l.fn.out.items ++ flat_map text_character l.run
