use Rattle.std.proofs.Common.{◌≡◌, ◌≤◌, ◌-◌, ◌^◌, length, nat_eq}
use Rattle.std.specs.List.{IsDistinct}
use Rattle.sc_terms.specs.Tables.{tree, Keeps}
use Rattle.sc_closure.specs.Atoms.{most_atoms}
use Rattle.sc_closure.specs.Following.{atoms_of, Held, AreRoles, IsClosing}
use Rattle.sc_closure.proofs.closing.closed_with.Given as goal

abbrev pub invariant-loop-n : goal.invariant-loop-n
invariant-loop-n l = record {
  short : l.done ≤ length l.closed.keys;
  once : IsDistinct nat_eq l.closed.keys;
  closing : IsClosing l.schema l.env (tree l.fn.terms l.goal) l.terms l.closed.keys (Held l.terms l.roles) l.done;
  are : AreRoles l.terms l.roles;
  counted : l.atoms ≡ length (atoms_of l.terms l.closed.keys);
  few : l.atoms ≤ most_atoms;
  kept : Keeps l.fn.terms l.terms;
}

abbrev pub decreases-loop-n : goal.decreases-loop-n
decreases-loop-n l = 2 ^ 64 - l.done
