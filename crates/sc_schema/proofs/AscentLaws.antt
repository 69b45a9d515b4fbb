-- What is found in a schema is lawful, and the types above those of actions ascend.
use Rattle.std.proofs.Common.{◌≡◌, ℕ, List, [], ◌∷◌, Bool, true, false, cond, Option, Some, None, sym, subst}
use Rattle.std.specs.List.{AllByRecursion, list_any}
use Rattle.std.specs.Option.{option_copied}
use Rattle.std.specs.Borrow.{Bor}
use Rattle.std.specs.Prelude.{IfSome, find}
use Rattle.std.specs.Str.{bytes_eq}
use Rattle.sc_names.specs.declared.uid.Uid.{Uid}
use Rattle.sc_schema.specs.declared.declarations.EntityType.{EntityType}
use Rattle.sc_schema.specs.declared.declarations.Action.{Action}
use Rattle.sc_schema.specs.Declarations.{Declarations, entity_type, action, types_above, in_order}
use Rattle.sc_schema.specs.Indices.{types_above_actions}
use Rattle.sc_schema.specs.Lawful.{AreAscending, IsLawfulType, IsLawfulAction, IsLawful}
use Rattle.sc_schema.proofs.IndexLaws.{in_order_ascending}

-- what holds of each element holds of the one that is found
pub of_found : {X : Type 0} (P : X → Type 0) (test : X → Bool) (xs : List X) → AllByRecursion P xs → IfSome (find test xs) P
of_found P test [] h = tt
of_found P test (x ∷ xs) h = step (test x) (find test xs) (of_found P test xs h.1) where
  step : (b : Bool) (later : Option _) → IfSome later P → IfSome (cond b (Some x) later) P
  step true later k = h.0
  step false later k = k

behind : {X : Type 0} (P : X → Type 0) (r : Option (Bor X)) (o : Option X) → option_copied r ≡ o → IfSome o P → IfSome r (λ x. P x.now)
behind P None o is h = tt
behind P (Some x) o is h = subst (λ p. IfSome p P) (sym is) h

-- what is found in a schema is lawful
pub type_is_lawful : (s t : Declarations) → IsLawful s → s ≡ t → (name : List ℕ) (r : Option (Bor EntityType)) → option_copied r ≡ entity_type t name → IfSome r (λ x. IsLawfulType t x.now)
type_is_lawful s t h same name r is =
    behind (IsLawfulType t) r (entity_type t name) is
    (subst (λ (d : Declarations). IfSome (entity_type d name) (IsLawfulType d)) same (of_found (IsLawfulType s) _ s.types h.each_type))

pub action_is_lawful : (s t : Declarations) → IsLawful s → s ≡ t → (u : Uid) (r : Option (Bor Action)) → option_copied r ≡ action t u → IfSome r (λ x. IsLawfulAction t x.now)
action_is_lawful s t h same u r is =
    behind (IsLawfulAction t) r (action t u) is
    (subst (λ (d : Declarations). IfSome (action d u) (IsLawfulAction d)) same (of_found (IsLawfulAction s) _ s.actions h.each_action))

-- the types above those of actions ascend
pub above_ascend : (actions : List Action) (name : List ℕ) (names : List (List ℕ)) → Some names ≡ types_above_actions actions name → AreAscending names
above_ascend actions name names is =
    subst (λ o. IfSome o AreAscending) (sym is) (step (list_any (λ (a : Action). bytes_eq name a.uid.type_name) actions)) where
      step : (b : Bool) → IfSome (cond b (Some (in_order (types_above actions name))) None) AreAscending
      step true = in_order_ascending (types_above actions name)
      step false = tt
