-- `has` with several names, a name more.
use Rattle.std.proofs.Common.{◌≡◌, List, ◌∷◌, ap, ◌∙◌}
use Rattle.sc_schema.specs.Declarations.{Declarations}
use Rattle.sc_typed.specs.declared.typed_expr.HasStep.{HasStep}
use Rattle.sc_sorts.specs.declared.node.Node.{Node}
use Rattle.sc_terms.specs.Tables.{Keeps}
use Rattle.sc_constructs.specs.declared.opt.Opt.{Opt}
use Rattle.sc_constructs.specs.Code.{Code, and_code}
use Rattle.sc_constructs.specs.Objects.{has_code, access_code, along_code}
use Rattle.sc_constructs.specs.Numbers.{StandsAs, code_at}
use Rattle.sc_constructs.proofs.NumbersLaws.{as_later, code_is}

-- one name more: the front and the object that the loop goes on with are those that the definition goes on with
pub still_along : (s : Declarations) (xs ws bs ys : List Node) (front object found front_next object_next : Opt) (whole : Code) (step : HasStep) (rest : List HasStep)
    → along_code s (code_at xs front) (code_at xs object) (step ∷ rest) ≡ whole
    → Keeps xs ws → Keeps ws bs → Keeps bs ys
    → StandsAs ws found (has_code s step.object step.name (code_at xs object))
    → StandsAs bs front_next (and_code (code_at ws front) (code_at ws found))
    → StandsAs ys object_next (access_code s step.object step.name (code_at bs object))
    → code_at ws front ≡ code_at xs front → code_at bs object ≡ code_at xs object
    → along_code s (code_at ys front_next) (code_at ys object_next) rest ≡ whole
still_along s xs ws bs ys front object found front_next object_next whole step rest is k l m h g f front_same object_same =
    let found_is : code_at ws found ≡ has_code s step.object step.name (code_at xs object) = code_is ws found _ h in
    let p : code_at ys front_next ≡ and_code (code_at xs front) (has_code s step.object step.name (code_at xs object)) =
    code_is ys front_next _ (as_later bs ys front_next _ m g) ∙ λ i. and_code (front_same i) (found_is i)
    in
    let q : code_at ys object_next ≡ access_code s step.object step.name (code_at xs object) =
    code_is ys object_next _ f ∙ ap (access_code s step.object step.name) object_same
    in
    (λ i. along_code s (p i) (q i) rest) ∙ is

-- numbers of a table stand for the same terms later
pub code_later : (xs ys : List Node) (o : Opt) (c : Code) → Keeps xs ys → StandsAs xs o c → code_at ys o ≡ c
code_later xs ys o c kept h = code_is ys o c (as_later xs ys o c kept h)
