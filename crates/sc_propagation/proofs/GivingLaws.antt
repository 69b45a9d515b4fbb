-- A clause that is false but for one open literal, or false and not empty, has a literal that isn't true, and the others are false.
use Rattle.std.proofs.Common.{◌≡◌, ◌≢◌, ℕ, List, [], ◌∷◌, Bool, true, false, length, sym, subst, refl}
use Rattle.std.specs.List.{Contains}
use Rattle.sc_lists.proofs.ListLaws.{contains_first}
use Rattle.sc_clauses.proofs.LitLaws.{negation_twice}
use Rattle.sc_clauses.specs.Clauses.{Clause, negation}
use Rattle.sc_clauses.specs.declared.lit.Lit.{Lit}
use Rattle.sc_propagation.specs.Giving.{Gives}
use Rattle.sc_propagation.specs.Readings.{IsUnitAt, AreFalse}
use Rattle.sc_propagation.specs.Trails.{AllInCells, true_before}
use Rattle.sc_propagation.specs.declared.trail.Trail.{Trail}
use Rattle.sc_propagation.proofs.CellLaws.{consistent}
use Rattle.sc_propagation.proofs.ReadingLaws.{free-before}

pub of_unit : (t : Trail) (c : Clause) (l : Lit) → AllInCells (length t.cells.items) c → IsUnitAt t.cells.items (length t.lits.items) c l → Gives t c
of_unit t c l inside unit = record {
  in_cells = inside;
  lit = l;
  has = unit.0;
  not_true = subst (λ (w : Lit). true_before t.cells.items (length t.lits.items) w ≡ false) (negation_twice l) (free-before t.cells.items (length t.lits.items) (negation l) unit.1);
  others = unit.2;
}

pub of_false : (t : Trail) (c : Clause) → AllInCells (length t.cells.items) c → AreFalse t.cells.items (length t.lits.items) c → c ≢ [] → Gives t c
of_false t [] inside all some = absurd (some refl)
of_false t (l ∷ c) inside all some = record {
  in_cells = inside;
  lit = l;
  has = contains_first l c;
  not_true = subst (λ (w : Lit). true_before t.cells.items (length t.lits.items) w ≡ false) (negation_twice l) (consistent t.cells.items (length t.lits.items) (negation l) (all l (contains_first l c)));
  others = λ m has ne. all m has;
}
