use Rattle.std.proofs.Common.{◌≡◌, ℕ, List, ◌++◌, map}
use Rattle.sc_schema.specs.declared.ty.Presence.TheVariants.{Required}
use Rattle.sc_schema.specs.declared.ty.Ty.{Ty}
use Rattle.sc_typing_rules.proofs.collections.required.Given as goal

abbrev pub invariant-loop-name : goal.invariant-loop-name
invariant-loop-name l = l.fields ++ map (λ (f : List ℕ × Ty). (f.0, Required, f.1)) l.name-iterator ≡ map (λ (f : List ℕ × Ty). (f.0, Required, f.1)) l.fn.types.entries
