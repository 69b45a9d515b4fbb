-- What holds of each element of a list, as one is put at its end.
use Rattle.std.proofs.Common.{List, [], ◌∷◌, ◌++◌}
use Rattle.std.specs.List.{AllByRecursion}

module _ {X : Type 0} where
  pub all_push : (P : X → Type 0) (xs : List X) (y : X) → AllByRecursion P xs → P y → AllByRecursion P (xs ++ y ∷ [])
  all_push P [] y all here = (here, tt)
  all_push P (x ∷ xs) y all here = (all.0, all_push P xs y all.1 here)

  pub all_front : (P : X → Type 0) (xs : List X) (y : X) → AllByRecursion P (xs ++ y ∷ []) → AllByRecursion P xs × P y
  all_front P [] y all = (tt, all.0)
  all_front P (x ∷ xs) y all =
      let rest = all_front P xs y all.1 in
      ((all.0, rest.0), rest.1)

  pub all_weaker : (P Q : X → Type 0) (xs : List X) → ((x : X) → P x → Q x) → AllByRecursion P xs → AllByRecursion Q xs
  all_weaker P Q [] f all = tt
  all_weaker P Q (x ∷ xs) f all = (f x all.0, all_weaker P Q xs f all.1)
