-- The environments of a schema ascend.
use Rattle.std.proofs.Common.{◌≡◌, ℕ, List, [], ◌∷◌, ◌++◌, map, refl, ap}
use Rattle.std.specs.List.{AllByRecursion, flat_map}
use Rattle.std.specs.List.Sorted.{IsStrictlySortedBy}
use Rattle.std.specs.Ordering.{ordering_then}
use Rattle.std.specs.declared.cmp.Ordering.{Ordering}
use Rattle.std.specs.declared.cmp.Ordering.TheVariants.{Less, Equal}
use Rattle.std.proofs.lemmas.Cmp.{nat_list_cmp_total}
use Rattle.sc_lists.proofs.ListLaws.{all_append, all_weaker, all_always}
use Rattle.sc_names.specs.declared.uid.Uid.{Uid}
use Rattle.sc_names.specs.Uids.{text_cmp, uid_cmp}
use Rattle.sc_schema.specs.declared.declarations.Action.{Action}
use Rattle.sc_schema.specs.declared.declarations.Env.{Env}
use Rattle.sc_schema.specs.Declarations.{Declarations, environment, environments_for, environments, env_cmp}
use Rattle.sc_schema.specs.Lawful.{AreAscending, IsLawfulAction, IsLawful}
use Rattle.sc_schema.proofs.OrderLaws.{level_itself}

-- each element of one list is below each of another
abbrev AreBelow : {X : Type 0} → (X → X → Ordering) → List X → List X → Type 0
AreBelow R xs ys = AllByRecursion (λ x. AllByRecursion (λ y. R x y ≡ Less) ys) xs

all-map : {A X : Type 0} (P : X → Type 0) (f : A → X) (cs : List A) → AllByRecursion (λ a. P (f a)) cs → AllByRecursion P (map f cs)
all-map P f [] h = tt
all-map P f (a ∷ cs) h = (h.0, all-map P f cs h.1)

all-flat_map : {A X : Type 0} (P : X → Type 0) (f : A → List X) (cs : List A) → AllByRecursion (λ a. AllByRecursion P (f a)) cs → AllByRecursion P (flat_map f cs)
all-flat_map P f [] h = tt
all-flat_map P f (a ∷ cs) h = all_append P (f a) (flat_map f cs) h.0 (all-flat_map P f cs h.1)

-- the rows of a list, each below the next
sorted-append : {X : Type 0} (R : X → X → Ordering) (xs ys : List X) → IsStrictlySortedBy R xs → IsStrictlySortedBy R ys → AreBelow R xs ys → IsStrictlySortedBy R (xs ++ ys)
unfolding IsStrictlySortedBy
sorted-append R [] ys a b h = b
sorted-append R (x ∷ xs) ys a b h = (all_append (λ y. R x y ≡ Less) xs ys a.0 h.0, sorted-append R xs ys a.1 b h.1)

below_rows : {A X : Type 0} (R : X → X → Ordering) (f : A → List X) (xs : List X) (cs : List A) → AllByRecursion (λ a. AreBelow R xs (f a)) cs → AreBelow R xs (flat_map f cs)
below_rows R f [] cs h = tt
below_rows R f (x ∷ xs) cs h = (
  all-flat_map (λ y. R x y ≡ Less) f cs (all_weaker (λ a. AreBelow R (x ∷ xs) (f a)) (λ a. AllByRecursion (λ y. R x y ≡ Less) (f a)) (λ a k. k.0) cs h),
  below_rows R f xs cs (all_weaker (λ a. AreBelow R (x ∷ xs) (f a)) (λ a. AreBelow R xs (f a)) (λ a k. k.1) cs h),
)

sorted-map : {A X : Type 0} (R : X → X → Ordering) (S : A → A → Ordering) (f : A → X) → ((a b : A) → S a b ≡ Less → R (f a) (f b) ≡ Less) → (cs : List A) → IsStrictlySortedBy S cs → IsStrictlySortedBy R (map f cs)
unfolding IsStrictlySortedBy
sorted-map R S f keeps [] h = tt
sorted-map R S f keeps (a ∷ cs) h =
    (all-map (λ y. R (f a) y ≡ Less) f cs (all_weaker (λ b. S a b ≡ Less) (λ b. R (f a) (f b) ≡ Less) (keeps a) cs h.0), sorted-map R S f keeps cs h.1)

-- by a key, rows of lesser keys are below those of greater ones
sorted-rows : {A X K : Type 0} (R : X → X → Ordering) (S : K → K → Ordering) (key : A → K) (f : A → List X) → ((a b : A) → S (key a) (key b) ≡ Less → AreBelow R (f a) (f b)) → (cs : List A)
    → AllByRecursion (λ a. IsStrictlySortedBy R (f a)) cs → IsStrictlySortedBy S (map key cs) → IsStrictlySortedBy R (flat_map f cs)
unfolding IsStrictlySortedBy
sorted-rows R S key f below [] each h = tt
sorted-rows R S key f below (a ∷ cs) each h =
    sorted-append R (f a) (flat_map f cs) each.0 (sorted-rows R S key f below cs each.1 h.1) (below_rows R f (f a) cs (later cs h.0)) where
      later : (bs : List _) → AllByRecursion (λ k. S (key a) k ≡ Less) (map key bs) → AllByRecursion (λ b. AreBelow R (f a) (f b)) bs
      later [] h = tt
      later (b ∷ bs) h = (below a b h.0, later bs h.1)

-- ---- environments

then_later : (a b : Ordering) → a ≡ Equal → b ≡ Less → ordering_then a b ≡ Less
then_later a b h k = rw (h, k) refl

then_first : (a b : Ordering) → a ≡ Less → ordering_then a b ≡ Less
then_first a b h = rw h refl

level_text : (n : List ℕ) → text_cmp n n ≡ Equal
level_text = level_itself nat_list_cmp_total

level_uid : (u : Uid) → uid_cmp u u ≡ Equal
level_uid u = rw (level_text u.type_name, level_text u.id) refl

by_resource : (a : Action) (p r q : List ℕ) → text_cmp r q ≡ Less → env_cmp (environment a p r) (environment a p q) ≡ Less
by_resource a p r q h = then_later _ _ (level_uid a.uid) (then_later _ _ (level_text p) h)

by_principal : (a : Action) (p q r s : List ℕ) → text_cmp p q ≡ Less → env_cmp (environment a p r) (environment a q s) ≡ Less
by_principal a p q r s h = then_later _ _ (level_uid a.uid) (then_first _ _ h)

rows_below : (a : Action) (rs : List (List ℕ)) (p q : List ℕ) → text_cmp p q ≡ Less → AreBelow env_cmp (map (environment a p) rs) (map (environment a q) rs)
rows_below a rs p q h =
    all-map _ (environment a p) rs (all_always _ (λ r. all-map _ (environment a q) rs (all_always _ (λ s. by_principal a p q r s h) rs)) rs)

map-same : (xs : List (List ℕ)) → map (λ (x : List ℕ). x) xs ≡ xs
map-same [] = refl
map-same (x ∷ xs) = ap (λ (ys : List (List ℕ)). x ∷ ys) (map-same xs)

sorted-action : (a : Action) → AreAscending a.principals → AreAscending a.resources → IsStrictlySortedBy env_cmp (environments_for a)
sorted-action a ps rs =
    sorted-rows env_cmp text_cmp (λ (p : List ℕ). p) (λ p. map (environment a p) a.resources) (rows_below a a.resources) a.principals
    (all_always _ (λ p. sorted-map env_cmp text_cmp (environment a p) (by_resource a p) a.resources rs) a.principals)
    (rw map-same ps)

all-environments : (P : Env → Type 0) (a : Action) → ((p r : List ℕ) → P (environment a p r)) → AllByRecursion P (environments_for a)
all-environments P a f = all-flat_map P _ a.principals (all_always _ (λ p. all-map P (environment a p) a.resources (all_always _ (f p) a.resources)) a.principals)

actions_below : (a b : Action) → uid_cmp a.uid b.uid ≡ Less → AreBelow env_cmp (environments_for a) (environments_for b)
actions_below a b h = all-environments _ a (λ p r. all-environments _ b (λ q s. then_first _ _ h))

pub environments_ascend : (s : Declarations) → IsLawful s → IsStrictlySortedBy env_cmp (environments s)
environments_ascend s h =
    sorted-rows env_cmp uid_cmp (λ (a : Action). a.uid) environments_for actions_below s.actions
    (all_weaker (IsLawfulAction s) (λ a. IsStrictlySortedBy env_cmp (environments_for a)) (λ a k. sorted-action a k.principal_types.ascending k.resource_types.ascending) s.actions h.each_action)
    h.actions_ascend
