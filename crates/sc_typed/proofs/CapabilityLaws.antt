-- What is known in either of two lists of capabilities.
use Rattle.std.proofs.Common.{◌≡◌, ◌||◌, [], ◌∷◌, ◌++◌, refl, ap, ◌∙◌}
use Rattle.std.specs.List.{list_any}
use Rattle.sc_laws.proofs.BoolLaws.{or_assoc}
use Rattle.sc_typed.specs.declared.capability.Capability.{Capability}
use Rattle.sc_typed.specs.Capabilities.{Capabilities, same, is_known}

pub either_known : (a b : Capabilities) (c : Capability) → (is_known a c || is_known b c) ≡ is_known (a ++ b) c
unfolding is_known
either_known [] b c = refl
either_known (d ∷ a) b c = or_assoc (same c d) (list_any (same c) a) (list_any (same c) b) ∙ ap (λ r. same c d || r) (either_known a b c)
