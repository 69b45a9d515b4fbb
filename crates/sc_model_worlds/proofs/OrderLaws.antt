-- Members are put in order from the last one on.
use Rattle.std.proofs.Common.{◌≡◌, ◌++◌, List, [], ◌∷◌, length, refl, sym, ap, ◌∙◌, arith}
use Rattle.std.specs.BTreeSet.{insert_key}
use Rattle.std.specs.declared.cmp.Ordering.{Ordering}
use Rattle.sc_model_world_laws.specs.Rebuilt.{in_order}

-- in order, where some are already
abbrev pub ordered_from : {K : Type 0} → (K → K → Ordering) → List K → List K → List K
ordered_from cmp done [] = done
ordered_from cmp done (x ∷ xs) = insert_key cmp (ordered_from cmp done xs) x

pub ordered_all : {K : Type 0} (cmp : K → K → Ordering) (xs : List K) → ordered_from cmp [] xs ≡ in_order cmp xs
unfolding in_order
ordered_all cmp [] = refl
ordered_all cmp (x ∷ xs) = ap (λ ys. insert_key cmp ys x) (ordered_all cmp xs)

pub ordered_last : {K : Type 0} (cmp : K → K → Ordering) (done xs : List K) (x : K) → ordered_from cmp done (xs ++ x ∷ []) ≡ ordered_from cmp (insert_key cmp done x) xs
ordered_last cmp done [] x = refl
ordered_last cmp done (y ∷ ys) x = ap (λ zs. insert_key cmp zs y) (ordered_last cmp done ys x)

pub ordered_step : {K : Type 0} (cmp : K → K → Ordering) (done new xs ys whole : List K) (x : K) → xs ≡ ys ++ x ∷ [] → new ≡ insert_key cmp done x
    → ordered_from cmp done xs ≡ in_order cmp whole → ordered_from cmp new ys ≡ in_order cmp whole
ordered_step {K} cmp done new xs ys whole x e put so_far =
    ap (λ (zs : List K). ordered_from cmp zs ys) put ∙ sym (ordered_last cmp done ys x) ∙ sym (ap (ordered_from cmp done) e) ∙ so_far

pub ordered_done : {K : Type 0} (cmp : K → K → Ordering) (done xs whole : List K) → length xs ≡ 0 → ordered_from cmp done xs ≡ in_order cmp whole → done ≡ in_order cmp whole
ordered_done cmp done [] whole none so_far = so_far
ordered_done cmp done (x ∷ xs) whole none so_far = absurd (omega (arith, none))
