use Rattle.std.proofs.Common.{◌≡◌, [], ◌∷◌, ℕ, List, Bool, true, false, not, eqb, length, map, IsTrue, refl, sym, ap, ◌∙◌, true≢false}
use Rattle.std.proofs.lemmas.Bool.Decides.{Decides-eqb}
use Rattle.sc_refutations.specs.Arenas.{lit_of}
use Rattle.sc_propagation.proofs.GivingLaws.{of_unit, of_false}
use Rattle.sc_propagation.proofs.trail.Trail.is_due.Goals as goal

pub returns-in-Unit : goal.returns-in-Unit
returns-in-Unit c = λ _. of_unit _ _ _ (c.are_in_cells.ensures c.if-not-are_in_cells.false) c.in-Unit.ensures

not_empty : (codes : List ℕ) (b : Bool) → b ≡ eqb (length codes) 0 → IsTrue (not b) → map lit_of codes ≡ [] → ⊥
not_empty [] b is some nil = cc
not_empty (x ∷ xs) b is some nil = cc

pub returns-in-Falsified : goal.returns-in-Falsified
returns-in-Falsified c = λ some. of_false _ _ (c.are_in_cells.ensures c.if-not-are_in_cells.false) c.in-Falsified.ensures (λ nil. not_empty c.args.clause.now c.is_empty.result c.is_empty.ensures some nil)
