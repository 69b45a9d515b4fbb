-- A store after one more entity.
use Rattle.std.proofs.Common.{◌≡◌, List, [], ◌∷◌, Ordering, Less, Equal, Greater, is_eq, Bool, true, false, IsSome, refl, ap, ◌∙◌, cond, Option, Some}
use Rattle.std.specs.List.{AllByRecursion}
use Rattle.std.specs.List.Sorted.{IsStrictlySortedBy}
use Rattle.std.specs.Map.{keys_of, lookup}
use Rattle.std.specs.BTreeMap.{insert_entry, is_at}
use Rattle.std.specs.Ordering.{match_ordering, ordering_reverse}
use Rattle.std.specs.Cmp.{IsTotalOrder}
use Rattle.std.proofs.lemmas.Cmp.{tied_itself}
use Rattle.sc_names.specs.declared.uid.Uid.{Uid}
use Rattle.sc_names.specs.Uids.{uid_cmp}
use Rattle.sc_names.proofs.UidLaws.{uid_cmp_total}
use Rattle.sc_world.specs.declared.entity.EntityData.{EntityData}
use Rattle.sc_world.specs.Stores.{Entities, stored, with_entity, IsMap}

-- ---- entries put into a map in order

all-inserted_at : {K X : Type 0} (P : K × X → Type 0) (R : K → K → Ordering) (o : Ordering) (e : K × X) (es : List (K × X)) (k : K) (v : X) → P (k, v) → P (e.0, v) → P e → AllByRecursion P es → AllByRecursion P (insert_entry R es k v)
    → AllByRecursion P (match_ordering o ((k, v) ∷ e ∷ es) ((e.0, v) ∷ es) (e ∷ insert_entry R es k v))
all-inserted_at P R Less e es k v n c h hs later = (n, (h, hs))
all-inserted_at P R Equal e es k v n c h hs later = (c, hs)
all-inserted_at P R Greater e es k v n c h hs later = (h, later)

all-inserted : {K X : Type 0} (P : K × X → Type 0) (R : K → K → Ordering) (es : List (K × X)) (k : K) (v : X) → P (k, v) → ((e : K × X) → P e → P (e.0, v)) → AllByRecursion P es → AllByRecursion P (insert_entry R es k v)
all-inserted P R [] k v n c h = (n, tt)
all-inserted P R (e ∷ es) k v n c h = all-inserted_at P R (R k e.0) e es k v n (c e h.0) h.0 h.1 (all-inserted P R es k v n c h.1)

all-keys_at : {K X : Type 0} (P : K → Type 0) (R : K → K → Ordering) (o : Ordering) (e : K × X) (es : List (K × X)) (k : K) (v : X) → P k → P e.0 → AllByRecursion P (keys_of es) → AllByRecursion P (keys_of (insert_entry R es k v))
    → AllByRecursion P (keys_of (match_ordering o ((k, v) ∷ e ∷ es) ((e.0, v) ∷ es) (e ∷ insert_entry R es k v)))
all-keys_at P R Less e es k v n h hs later = (n, (h, hs))
all-keys_at P R Equal e es k v n h hs later = (h, hs)
all-keys_at P R Greater e es k v n h hs later = (h, later)

all-keys : {K X : Type 0} (P : K → Type 0) (R : K → K → Ordering) (es : List (K × X)) (k : K) (v : X) → P k → AllByRecursion P (keys_of es) → AllByRecursion P (keys_of (insert_entry R es k v))
all-keys P R [] k v n h = (n, tt)
all-keys P R (e ∷ es) k v n h = all-keys_at P R (R k e.0) e es k v n h.0 h.1 (all-keys P R es k v n h.1)

below-all : {K : Type 0} {R : K → K → Ordering} (o : IsTotalOrder R) (k e : K) (ks : List K) → R k e ≡ Less → AllByRecursion (λ y. R e y ≡ Less) ks → AllByRecursion (λ y. R k y ≡ Less) ks
below-all o k e [] lt h = tt
below-all o k e (x ∷ ks) lt h = (o.trans k e x lt h.0, below-all o k e ks lt h.1)

sorted-inserted_at : {K X : Type 0} {R : K → K → Ordering} (t : IsTotalOrder R) (o : Ordering) (e : K × X) (es : List (K × X)) (k : K) (v : X) → R k e.0 ≡ o → AllByRecursion (λ y. R e.0 y ≡ Less) (keys_of es) → IsStrictlySortedBy R (keys_of es) → IsStrictlySortedBy R (keys_of (insert_entry R es k v))
    → IsStrictlySortedBy R (keys_of (match_ordering o ((k, v) ∷ e ∷ es) ((e.0, v) ∷ es) (e ∷ insert_entry R es k v)))
unfolding IsStrictlySortedBy
sorted-inserted_at t Less e es k v is h hs later = ((is, below-all t k e.0 (keys_of es) is h), (h, hs))
sorted-inserted_at t Equal e es k v is h hs later = (h, hs)
sorted-inserted_at {R} t Greater e es k v is h hs later = (all-keys (λ y. R e.0 y ≡ Less) R es k v (t.antisymm e.0 k ∙ ap ordering_reverse is) h, later)

sorted-inserted : {K X : Type 0} {R : K → K → Ordering} (t : IsTotalOrder R) (es : List (K × X)) (k : K) (v : X) → IsStrictlySortedBy R (keys_of es) → IsStrictlySortedBy R (keys_of (insert_entry R es k v))
unfolding IsStrictlySortedBy
sorted-inserted t [] k v h = (tt, tt)
sorted-inserted {R} t (e ∷ es) k v h = sorted-inserted_at t (R k e.0) e es k v refl h.0 h.1 (sorted-inserted t es k v h.1)

found-cond : {X : Type 0} (b : Bool) (x : X) (o : Option X) → b ≡ true → IsSome (cond b (Some x) o)
found-cond true x o e = refl
found-cond false x o e = absurd cc

kept-cond : {X : Type 0} (b : Bool) (x y : X) (o p : Option X) → (IsSome o → IsSome p) → IsSome (cond b (Some x) o) → IsSome (cond b (Some y) p)
kept-cond true x y o p f h = refl
kept-cond false x y o p f h = f h

some-cond : {X : Type 0} (b : Bool) (x : X) (o : Option X) → IsSome o → IsSome (cond b (Some x) o)
some-cond true x o h = refl
some-cond false x o h = h

found-inserted_at : {K X : Type 0} {R : K → K → Ordering} (t : IsTotalOrder R) (o : Ordering) (e : K × X) (es : List (K × X)) (k : K) (v : X) → R k e.0 ≡ o → IsSome (lookup (is_at (R k)) (insert_entry R es k v))
    → IsSome (lookup (is_at (R k)) (match_ordering o ((k, v) ∷ e ∷ es) ((e.0, v) ∷ es) (e ∷ insert_entry R es k v)))
found-inserted_at t Less e es k v is later = found-cond _ _ _ (ap is_eq (tied_itself t k))
found-inserted_at t Equal e es k v is later = found-cond _ _ _ (ap is_eq is)
found-inserted_at t Greater e es k v is later = some-cond _ _ _ later

found-inserted : {K X : Type 0} {R : K → K → Ordering} (t : IsTotalOrder R) (es : List (K × X)) (k : K) (v : X) → IsSome (lookup (is_at (R k)) (insert_entry R es k v))
found-inserted t [] k v = found-cond _ _ _ (ap is_eq (tied_itself t k))
found-inserted {R} t (e ∷ es) k v = found-inserted_at t (R k e.0) e es k v refl (found-inserted t es k v)

kept-inserted_at : {K X : Type 0} (p : K → Bool) (R : K → K → Ordering) (o : Ordering) (e : K × X) (es : List (K × X)) (k : K) (v : X) → IsSome (lookup p (e ∷ es)) → (IsSome (lookup p es) → IsSome (lookup p (insert_entry R es k v)))
    → IsSome (lookup p (match_ordering o ((k, v) ∷ e ∷ es) ((e.0, v) ∷ es) (e ∷ insert_entry R es k v)))
kept-inserted_at p R Less e es k v h f = some-cond _ _ _ h
kept-inserted_at p R Equal e es k v h f = kept-cond (p e.0) e.1 v (lookup p es) (lookup p es) (λ x. x) h
kept-inserted_at p R Greater e es k v h f = kept-cond (p e.0) e.1 e.1 (lookup p es) (lookup p (insert_entry R es k v)) f h

kept-inserted : {K X : Type 0} (p : K → Bool) (R : K → K → Ordering) (es : List (K × X)) (k : K) (v : X) → IsSome (lookup p es) → IsSome (lookup p (insert_entry R es k v))
kept-inserted p R [] k v h = absurd cc
kept-inserted p R (e ∷ es) k v h = kept-inserted_at p R (R k e.0) e es k v h (kept-inserted p R es k v)

-- ---- one more entity

-- what holds of each entry, and of each with the new data, holds of each entry afterwards
pub All-with_entity : (P : Uid × EntityData → Type 0) (u : Uid) (e : EntityData) (es : Entities) → P (u, e) → ((x : Uid × EntityData) → P x → P (x.0, e)) → AllByRecursion P es → AllByRecursion P (with_entity u e es)
unfolding with_entity
All-with_entity P u e es n c h = all-inserted P uid_cmp es u e n c h

pub IsMap-with_entity : (u : Uid) (e : EntityData) (es : Entities) → IsMap es → IsMap (with_entity u e es)
unfolding with_entity
IsMap-with_entity u e es h = sorted-inserted uid_cmp_total es u e h

-- the entity is stored
pub stored-with_entity : (u : Uid) (e : EntityData) (es : Entities) → IsSome (stored u (with_entity u e es))
unfolding with_entity stored
stored-with_entity u e es = found-inserted uid_cmp_total es u e

-- what was stored still is
pub stored-kept : (u v : Uid) (e : EntityData) (es : Entities) → IsSome (stored u es) → IsSome (stored u (with_entity v e es))
unfolding with_entity stored
stored-kept u v e es h = kept-inserted (is_at (uid_cmp u)) uid_cmp es v e h
