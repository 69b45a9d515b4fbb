-- What goes with two terms goes with two of their roles.
use Rattle.std.proofs.Common.{flat_map}
use Rattle.sc_lists.proofs.MemberLaws.{Has-flat_map, flat_map-Has}
use Rattle.sc_lists.specs.Members.{Has}
use Rattle.sc_terms.specs.Trees.{Tree}
use Rattle.sc_closure_rules.specs.Closure.{half, Role, roles, meet}

pub half_has : (x y z : Tree) → Has (half x y) z → (p : Role) × (q : Role) × Has (roles x) p × Has (roles y) q × Has (meet p q) z
half_has x y z h =
    let k = flat_map-Has (λ p. flat_map (meet p) (roles y)) (roles x) z h in
    let l = flat_map-Has (meet k.0) (roles y) z k.2 in
    (k.0, l.0, k.1, l.1, l.2)

pub has_half : (x y z : Tree) (p q : Role) → Has (roles x) p → Has (roles y) q → Has (meet p q) z → Has (half x y) z
has_half x y z p q h k e = Has-flat_map (λ r. flat_map (meet r) (roles y)) (roles x) p z h (Has-flat_map (meet p) (roles y) q z k e)
