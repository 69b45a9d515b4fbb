-- How many environments actions have: one for each pair of a type of principals and a type of resources.
use Rattle.std.proofs.Common.{◌≡◌, ◌+◌, ◌*◌, ◌<◌, ◌≤◌, ℕ, suc, List, [], ◌∷◌, length, map, take, get_or, ap, ◌∙◌, arith}
use Rattle.std.specs.List.{flat_map}
use Rattle.std.proofs.lemmas.List.{length-map, length-append}
use Rattle.std.proofs.lemmas.List.Folds.{length-flat_map-take}
use Rattle.sc_schema.specs.declared.declarations.Action.{Action}
use Rattle.sc_schema.specs.Declarations.{environment, environments_for}

no_rows : (m : ℕ) → 0 ≡ 0 * m
no_rows m = omega arith

one_row_more : (n m : ℕ) → m + n * m ≡ suc n * m
one_row_more n m = omega arith

length_rows : {A B X : Type 0} (f : A → B → X) (xs : List A) (ys : List B) → length (flat_map (λ x. map (f x) ys) xs) ≡ length xs * length ys
length_rows f [] ys = no_rows (length ys)
length_rows {A} f (x ∷ xs) ys =
    let rest = flat_map (λ (z : A). map (f z) ys) xs in
    length-append (map (f x) ys) rest
    ∙ (ap (λ (n : ℕ). n + length rest) (length-map ys (f x)) ∙ (ap (λ (n : ℕ). length ys + n) (length_rows f xs ys) ∙ one_row_more (length xs) (length ys)))

pub environments_counted : (a : Action) → length (environments_for a) ≡ length a.principals * length a.resources
environments_counted a = length_rows (environment a) a.principals a.resources

-- an action that has more than is left of a number, once the environments of those before it are taken away
pub more_than_left : (actions : List Action) (at left most : ℕ) (a : Action) → left + length (flat_map environments_for (take at actions)) ≡ most → at < length actions → a ≡ get_or actions at a
    → (length (environments_for a) ≤ left → ⊥) → most < length (flat_map environments_for actions)
more_than_left actions at left most a kept within is more =
    let all = length-flat_map-take environments_for actions at a within in
    let here : length (environments_for a) ≡ length (environments_for (get_or actions at a)) = ap (λ (b : Action). length (environments_for b)) is in
    omega (arith, kept, all, here, more)
