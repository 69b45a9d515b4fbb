-- What the definitions of decisions come to.
use Rattle.std.proofs.Common.{◌≡◌, ◌↔◌, ◌⊎◌, inl, inr, ℕ, ◌+◌, ◌<◌, ◌≤◌, zero, suc, List, [], ◌∷◌, length, Bool, true, false, ◌&&◌, not, IsTrue, if◌then◌else◌, IsSomeAnd, slice_get, slice_index, Ok, Err, Any, Contains, refl, sym, ap, subst, ◌∙◌, arith, add-zero, zero-add}
use Rattle.std.specs.List.{list_any}
use Rattle.std.specs.List.Sorted.{IsStrictlyIncreasing}
use Rattle.std.proofs.lemmas.List.Folds.{Any-from_list_any, list_any-from_Any}
use Rattle.std.proofs.lemmas.List.Elements.{Contains-get_or}
use Rattle.sc_lists.proofs.ListLaws.{contains_nothing, contains_split, contains_rest, contains_first}
use Rattle.sc_ast.specs.declared.policy.Policy.{Policy}
use Rattle.sc_ast.specs.declared.policy.Effect.{Effect}
use Rattle.sc_ast.specs.declared.policy.Effect.TheVariants.{Permit, Forbid}
use Rattle.sc_ast.specs.Conditions.{condition}
use Rattle.sc_values.specs.declared.value.Value.{Value, Value-F, out-Value, roll-Value, roll-out-Value}
use Rattle.sc_values.specs.declared.value.Value.TheOpen as v
use Rattle.sc_values.specs.declared.value.Value.TheVariants as value
use Rattle.sc_values.specs.declared.value.Value.TheVariants.{rolls-Bool}
use Rattle.sc_values.proofs.OutLaws.{out_Bool}
use Rattle.sc_world.specs.declared.world.World.{World}
use Rattle.sc_eval.specs.Outcomes.{Outcome}
use Rattle.sc_eval.specs.Eval.{eval}
use Rattle.sc_auth.specs.Decisions.{true_in, is_true, satisfied, permits, is_permitting, is_forbidding, allows, places_from, places}

-- ---- one policy

true_there : (y : Value-F Value) → true_in y ≡ true → y ≡ v.Bool true
true_there (v.Bool true) h = refl
true_there (v.Bool false) h = cc
true_there (v.Long n) h = cc
true_there (v.String text) h = cc
true_there (v.Entity u) h = cc
true_there (v.Set members) h = cc
true_there (v.Record fields) h = cc
true_there (v.Decimal n) h = cc
true_there (v.Ip a) h = cc

is_true-value : (o : Outcome) → is_true o ≡ true → o ≡ Ok (value.Bool true)
is_true-value (Err e) h = cc
is_true-value (Ok x) h = ap Ok (sym (roll-out-Value x) ∙ ap roll-Value (true_there (out-Value x) h) ∙ rolls-Bool true)

pub is_true-decides : (o : Outcome) → IsTrue (is_true o) ↔ (o ≡ Ok (value.Bool true))
is_true-decides o = (is_true-value o, λ e. ap is_true e ∙ ap true_in (out_Bool true))

pub satisfied_decides : (w : World) (p : Policy) → IsTrue (satisfied w p) ↔ (eval (condition p) w ≡ Ok (value.Bool true))
satisfied_decides w p = is_true-decides (eval (condition p) w)

-- ---- a set of policies

permit-decides : (e : Effect) (b : Bool) → IsTrue (permits e && b) ↔ (e ≡ Permit) × IsTrue b
permit-decides Permit b = (λ h. (refl, h), λ h. h.1)
permit-decides Forbid b = (λ h. cc, λ h. let clash : Forbid ≡ Permit = h.0 in cc)

forbid-decides : (e : Effect) (b : Bool) → IsTrue (not (permits e) && b) ↔ (e ≡ Forbid) × IsTrue b
forbid-decides Permit b = (λ h. cc, λ h. let clash : Permit ≡ Forbid = h.0 in cc)
forbid-decides Forbid b = (λ h. (refl, h), λ h. h.1)

any-decides : {P : Policy → Type 0} (test : Policy → Bool) → ((p : Policy) → IsTrue (test p) ↔ P p) → (ps : List Policy) → IsTrue (list_any test ps) ↔ Any P ps
any-decides test is ps = (
  λ h. let some = Any-from_list_any test ps h in (some.0, some.1, some.2, some.3, (is some.1).0 some.4),
  λ some. list_any-from_Any test ps (some.0, some.1, some.2, some.3, (is some.1).1 some.4),
)

and_not : {P Q : Type 0} (a b : Bool) → (IsTrue a ↔ P) → (IsTrue b ↔ Q) → IsTrue (a && not b) ↔ P × ¬ Q
and_not true true p q = (λ h. cc, λ h. absurd (h.1 (q.0 refl)))
and_not true false p q = (λ h. (p.0 refl, λ y. let clash : false ≡ true = q.1 y in cc), λ h. refl)
and_not false b p q = (λ h. cc, λ h. let clash : false ≡ true = p.1 h.0 in cc)

pub allows_decides : (w : World) (ps : List Policy)
    → IsTrue (allows w ps) ↔ Any (λ p. (p.effect ≡ Permit) × IsTrue (satisfied w p)) ps × ¬ Any (λ p. (p.effect ≡ Forbid) × IsTrue (satisfied w p)) ps
allows_decides w ps =
    and_not (list_any (is_permitting w) ps) (list_any (is_forbidding w) ps)
    (any-decides (is_permitting w) (λ p. permit-decides p.effect (satisfied w p)) ps)
    (any-decides (is_forbidding w) (λ p. forbid-decides p.effect (satisfied w p)) ps)

-- ---- places

listed_at : (b : Bool) (m n : ℕ) (ns : List ℕ) → Contains (if b then m ∷ ns else ns) n → (IsTrue b × (m ≡ n)) ⊎ Contains ns n
listed_at true m n ns has = elim (contains_split m ns n has) [ inl is ↦ inl (refl, is) | inr later ↦ inr later ]
listed_at false m n ns has = inr has

-- what is listed is the place of a policy that passes
places_from-passes : (test : Policy → Bool) (m : ℕ) (ps : List Policy) (n : ℕ) → Contains (places_from m test ps) n → (k : ℕ) × (n ≡ m + k) × IsSomeAnd (slice_get ps k) (λ p. IsTrue (test p))
places_from-passes test m [] n has = absurd (contains_nothing n has)
places_from-passes test m (p ∷ ps) n has = elim (listed_at (test p) m n (places_from (m + 1) test ps) has) [
  | inl here ↦ (zero, sym here.1 ∙ sym (add-zero m), here.0)
  | inr later ↦ let rest = places_from-passes test (m + 1) ps n later in (suc rest.0, rest.1 ∙ omega arith, rest.2)
]

keeps : (b : Bool) (m n : ℕ) (ns : List ℕ) → Contains ns n → Contains (if b then m ∷ ns else ns) n
keeps true m n ns has = contains_rest m ns n has
keeps false m n ns has = has

heads : (b : Bool) (m : ℕ) (ns : List ℕ) → IsTrue b → Contains (if b then m ∷ ns else ns) m
heads true m ns h = contains_first m ns
heads false m ns h = cc

passes-places_from : (test : Policy → Bool) (m : ℕ) (ps : List Policy) (k : ℕ) → IsSomeAnd (slice_get ps k) (λ p. IsTrue (test p)) → Contains (places_from m test ps) (m + k)
passes-places_from test m [] k h = absurd h
passes-places_from test m (p ∷ ps) zero h = subst (Contains (places_from m test (p ∷ ps))) (sym (add-zero m)) (heads (test p) m (places_from (m + 1) test ps) h)
passes-places_from test m (p ∷ ps) (suc k) h =
    let same : m + 1 + k ≡ m + suc k = omega arith in
    keeps (test p) m (m + suc k) (places_from (m + 1) test ps) (subst (Contains (places_from (m + 1) test ps)) same (passes-places_from test (m + 1) ps k h))

pub places_decides : (test : Policy → Bool) (ps : List Policy) (n : ℕ) → Contains (places test ps) n ↔ IsSomeAnd (slice_get ps n) (λ p. IsTrue (test p))
places_decides test ps n = (
  λ has. let told = places_from-passes test 0 ps n has in subst (λ k. IsSomeAnd (slice_get ps k) (λ p. IsTrue (test p))) (sym (told.1 ∙ zero-add told.0)) told.2,
  λ h. subst (Contains (places test ps)) (zero-add n) (passes-places_from test 0 ps n h),
)

-- places ascend
rises : (m : ℕ) (ns : List ℕ) → (0 < length ns → m < slice_index ns 0) → IsStrictlyIncreasing ns → IsStrictlyIncreasing (m ∷ ns)
rises m ns first rest zero within = first (omega arith)
rises m ns first rest (suc k) within =
    let next : suc (k + 1) ≡ suc k + 1 = omega arith in
    subst (λ j. slice_index ns k < slice_index (m ∷ ns) j) next (rest k (omega arith))

rises_on : (b : Bool) (m : ℕ) (ns : List ℕ) → (0 < length ns → m < slice_index ns 0) → IsStrictlyIncreasing ns → IsStrictlyIncreasing (if b then m ∷ ns else ns)
rises_on true m ns first rest = rises m ns first rest
rises_on false m ns first rest = rest

places_from-above : (test : Policy → Bool) (m : ℕ) (ps : List Policy) → 0 < length (places_from m test ps) → m ≤ slice_index (places_from m test ps) 0
places_from-above test m ps some =
    let told = places_from-passes test m ps (slice_index (places_from m test ps) 0) (Contains-get_or (places_from m test ps) 0 0 some) in
    omega (arith, told.1)

places_from-rises : (test : Policy → Bool) (m : ℕ) (ps : List Policy) → IsStrictlyIncreasing (places_from m test ps)
places_from-rises test m [] = λ k within. absurd (omega (arith, within))
places_from-rises test m (p ∷ ps) =
    rises_on (test p) m (places_from (m + 1) test ps) (λ some. let above = places_from-above test (m + 1) ps some in omega (arith, above)) (places_from-rises test (m + 1) ps)

pub places_rises : (test : Policy → Bool) (ps : List Policy) → IsStrictlyIncreasing (places test ps)
places_rises test ps = places_from-rises test 0 ps
