-- The least of some uids that isn't stored.
use Rattle.std.proofs.Common.{◌≡◌, ◌≢◌, ◌↔◌, ◌⊎◌, ◌+◌, ◌<◌, ◌≤◌, ℕ, length, get_or, drop, add-one, List, [], ◌∷◌, ◌++◌, Bool, true, false, Option, Some, None, IsSome, IsTrue, Contains, is_some, inl, inr, refl, sym, ap, ◌∙◌, subst}
use Rattle.std.proofs.Math.Seq.{drop-cons}
use Rattle.std.proofs.lemmas.List.{drop_all}
use Rattle.std.specs.Prelude.{if◌then◌else◌, flat_map, option_map, MatchOption}
use Rattle.std.specs.List.{AllByRecursion}
use Rattle.std.specs.Ordering.{match_ordering, ordering_reverse, is_gt}
use Rattle.std.specs.declared.cmp.Ordering.{Ordering}
use Rattle.std.specs.declared.cmp.Ordering.TheVariants.{Less, Equal, Greater}
use Rattle.std.proofs.lemmas.Cmp.{tied_itself, upto}
use Rattle.sc_lists.proofs.ListLaws.{contains_nothing, contains_split, contains_rest, contains_first}
use Rattle.sc_lists.proofs.OrderingLaws.{is_gt_false}
use Rattle.sc_names.specs.declared.uid.Uid.{Uid}
use Rattle.sc_names.specs.Uids.{uid_cmp}
use Rattle.sc_names.proofs.UidLaws.{uid_cmp_total, uid_cmp_level}
use Rattle.sc_world.specs.declared.entity.EntityData.{EntityData}
use Rattle.sc_world.specs.Stores.{Entities, stored}
use Rattle.sc_world.specs.WellFormed.{IsStored}
use Rattle.sc_world.specs.Least.{IsLeast}
use Rattle.sc_world.specs.Tests.{lesser_of, lesser, least_missing}

-- ---- in pieces

pub least_missing-append : (es : Entities) (least : Option Uid) (xs ys : List Uid) → least_missing es least (xs ++ ys) ≡ least_missing es (least_missing es least xs) ys
unfolding least_missing
least_missing-append es least [] ys = refl
least_missing-append es least (x ∷ xs) ys = least_missing-append es (lesser es least x) xs ys

-- of what is gone through and what is to come
pub least_more : {X : Type 0} (es : Entities) (f : X → List Uid) (o new whole : Option Uid) (x : X) (rest : List X) → new ≡ least_missing es o (f x)
    → least_missing es o (flat_map f (x ∷ rest)) ≡ whole → least_missing es new (flat_map f rest) ≡ whole
least_more es f o new whole x rest told so_far =
    ap (λ (p : Option Uid). least_missing es p (flat_map f rest)) told ∙ (sym (least_missing-append es o (f x) (flat_map f rest)) ∙ so_far)

-- going through what an iterator still has
pub least_step : {X : Type 0} (es : Entities) (f : X → List Uid) (o new whole : Option Uid) (xs : List X) (x : X) (rest : List X) → xs ≡ x ∷ rest → new ≡ least_missing es o (f x)
    → least_missing es o (flat_map f xs) ≡ whole → least_missing es new (flat_map f rest) ≡ whole
least_step es f o new whole xs x rest steps told so_far = least_more es f o new whole x rest told (ap (λ ys. least_missing es o (flat_map f ys)) (sym steps) ∙ so_far)

pub least_stop : {X : Type 0} (es : Entities) (f : X → List Uid) (o whole : Option Uid) (xs : List X) → xs ≡ [] → least_missing es o (flat_map f xs) ≡ whole → o ≡ whole
unfolding least_missing
least_stop es f o whole xs none so_far = sym (ap (λ ys. least_missing es o (flat_map f ys)) none) ∙ so_far

pub least_next : {X : Type 0} (es : Entities) (f : X → List Uid) (o new whole : Option Uid) (xs : List X) (n : ℕ) (x : X) → x ≡ get_or xs n x → n < length xs → new ≡ least_missing es o (f x)
    → least_missing es o (flat_map f (drop n xs)) ≡ whole → least_missing es new (flat_map f (drop (n + 1) xs)) ≡ whole
least_next es f o new whole xs n x here within told so_far =
    let cut : drop n xs ≡ x ∷ drop (n + 1) xs = rw (add-one, drop-cons xs n x, ← here) refl in
    least_more es f o new whole x (drop (n + 1) xs) told (ap (λ ys. least_missing es o (flat_map f ys)) (sym cut) ∙ so_far)

pub least_end : {X : Type 0} (es : Entities) (f : X → List Uid) (o whole : Option Uid) (xs : List X) (n : ℕ) → length xs ≤ n → least_missing es o (flat_map f (drop n xs)) ≡ whole → o ≡ whole
unfolding least_missing
least_end es f o whole xs n beyond so_far = sym (ap (λ ys. least_missing es o (flat_map f ys)) (drop_all n xs beyond)) ∙ so_far

pub least_one : (es : Entities) (o : Option Uid) (u : Uid) → least_missing es o (u ∷ []) ≡ lesser es o u
unfolding least_missing
least_one es o u = refl

pub least_none : (es : Entities) (o : Option Uid) → least_missing es o [] ≡ o
unfolding least_missing
least_none es o = refl

pub least_uid_next : (es : Entities) (o new whole : Option Uid) (us : List Uid) (n : ℕ) (u : Uid) → u ≡ get_or us n u → n < length us → new ≡ lesser es o u
    → least_missing es o (drop n us) ≡ whole → least_missing es new (drop (n + 1) us) ≡ whole
unfolding least_missing
least_uid_next es o new whole us n u here within told so_far =
    let cut : drop n us ≡ u ∷ drop (n + 1) us = rw (add-one, drop-cons us n u, ← here) refl in
    ap (λ (p : Option Uid). least_missing es p (drop (n + 1) us)) told ∙ (ap (λ (ws : List Uid). least_missing es o ws) (sym cut) ∙ so_far)

pub least_uid_end : (es : Entities) (o whole : Option Uid) (us : List Uid) (n : ℕ) → length us ≤ n → least_missing es o (drop n us) ≡ whole → o ≡ whole
unfolding least_missing
least_uid_end es o whole us n beyond so_far = sym (ap (λ (ws : List Uid). least_missing es o ws) (drop_all n us beyond)) ∙ so_far

-- ---- what is least

-- the least of which it holds, or that there is none
abbrev pub IsLeastOf : (Uid → Type 0) → Option Uid → Type 0
IsLeastOf P None = (u : Uid) → ¬ P u
IsLeastOf P (Some u) = IsLeast P u

same_least : (P Q : Uid → Type 0) → ((u : Uid) → P u → Q u) → ((u : Uid) → Q u → P u) → (o : Option Uid) → IsLeastOf P o → IsLeastOf Q o
same_least P Q to from None h = λ u q. h u (from u q)
same_least P Q to from (Some u) h = record { here = to u h.here; least = λ w q. h.least w (from w q) }

abbrev IsLost : Entities → Uid → Type 0
IsLost es u = stored u es ≡ None

abbrev With : Entities → (Uid → Type 0) → Uid → Uid → Type 0
With es P u w = P w ⊎ ((w ≡ u) × IsLost es w)

pub itself : (u w : Uid) → w ≡ u → uid_cmp u w ≢ Greater
itself u w is above =
    let tied : uid_cmp u w ≡ Equal = ap (uid_cmp u) is ∙ tied_itself uid_cmp_total u in
    let both : Equal ≡ Greater = sym tied ∙ above in
    cc

not_gt : (o : Ordering) → o ≢ Greater → is_gt o ≡ false
not_gt Less h = refl
not_gt Equal h = refl
not_gt Greater h = absurd (h refl)

below_both : (u v w : Uid) → uid_cmp u v ≢ Greater → uid_cmp v w ≢ Greater → uid_cmp u w ≢ Greater
below_both u v w h k = is_gt_false (uid_cmp u w) (upto uid_cmp_total u v w (not_gt (uid_cmp u v) h) (not_gt (uid_cmp v w) k))

-- the second isn't stored and is the lesser of the two
second_least : (es : Entities) (P : Uid → Type 0) (v u : Uid) → IsLeast P v → IsLost es u → uid_cmp u v ≢ Greater → IsLeast (With es P u) u
second_least es P v u h lost below = record {
  here = inr (refl, lost);
  least = λ w k. elim k [ inl p ↦ below_both u v w below (h.least w p) | inr q ↦ itself u w q.0 ];
}

-- the first is the lesser of the two, or tied with the other
first_least : (es : Entities) (P : Uid → Type 0) (v u : Uid) → IsLeast P v → uid_cmp v u ≢ Greater → IsLeast (With es P u) v
first_least es P v u h below = record {
  here = inl h.here;
  least = λ w k. elim k [ inl p ↦ h.least w p | inr q ↦ subst (λ (x : Uid). uid_cmp v x ≢ Greater) (sym q.0) below ];
}

pub less_below : (u v : Uid) → uid_cmp u v ≡ Less → uid_cmp u v ≢ Greater
less_below u v less above = let both : Less ≡ Greater = sym less ∙ above in cc

equal_below : (u v : Uid) → uid_cmp u v ≡ Equal → uid_cmp v u ≢ Greater
equal_below u v tied = itself v u (uid_cmp_level u v tied)

greater_below : (u v : Uid) → uid_cmp u v ≡ Greater → uid_cmp v u ≢ Greater
greater_below u v greater above =
    let turned : uid_cmp v u ≡ Less = uid_cmp_total.antisymm v u ∙ ap ordering_reverse greater in
    let both : Less ≡ Greater = sym turned ∙ above in
    cc

least_at : (es : Entities) (P : Uid → Type 0) (v u : Uid) (c : Ordering) → uid_cmp u v ≡ c → IsLeast P v → IsLost es u → IsLeast (With es P u) (match_ordering c u v v)
least_at es P v u Less is h lost = second_least es P v u h lost (less_below u v is)
least_at es P v u Equal is h lost = first_least es P v u h (equal_below u v is)
least_at es P v u Greater is h lost = first_least es P v u h (greater_below u v is)

lost_counts : (es : Entities) (P : Uid → Type 0) (least : Option Uid) (u : Uid) → IsLeastOf P least → IsLost es u → IsLeastOf (With es P u) (lesser_of least u)
lost_counts es P None u h lost = record {
  here = inr (refl, lost);
  least = λ w k. elim k [ inl p ↦ absurd (h w p) | inr q ↦ itself u w q.0 ];
}
lost_counts es P (Some v) u h lost = least_at es P v u (uid_cmp u v) refl h lost

stored_stays : (es : Entities) (P : Uid → Type 0) (least : Option Uid) (u : Uid) (e : EntityData) → IsLeastOf P least → stored u es ≡ Some e → IsLeastOf (With es P u) least
stored_stays es P least u e h is =
    same_least P (With es P u) (λ w p. inl p) (λ w k. elim k [
      | inl p ↦ p
      | inr q ↦ absurd (let both : Some e ≡ None = sym is ∙ (ap (λ (x : Uid). stored x es) (sym q.0) ∙ q.1) in cc)
    ]) least h

one_more : (es : Entities) (P : Uid → Type 0) (least : Option Uid) (u : Uid) → IsLeastOf P least → IsLeastOf (With es P u) (lesser es least u)
unfolding lesser
one_more es P least u h = at (stored u es) refl where
  at : (o : Option EntityData) → stored u es ≡ o → IsLeastOf (With es P u) (if is_some o then least else lesser_of least u)
  at None is = lost_counts es P least u h is
  at (Some e) is = stored_stays es P least u e h is

abbrev Among : Entities → (Uid → Type 0) → List Uid → Uid → Type 0
Among es P us w = P w ⊎ (Contains us w × IsLost es w)

to_more : (es : Entities) (P : Uid → Type 0) (u : Uid) (us : List Uid) (w : Uid) → Among es (With es P u) us w → Among es P (u ∷ us) w
to_more es P u us w k = elim k [
  | inl p ↦ elim p [ inl q ↦ inl q | inr q ↦ inr (subst (λ (x : Uid). Contains (u ∷ us) x) (sym q.0) (contains_first u us), q.1) ]
  | inr q ↦ inr (contains_rest u us w q.0, q.1)
]

from_more : (es : Entities) (P : Uid → Type 0) (u : Uid) (us : List Uid) (w : Uid) → Among es P (u ∷ us) w → Among es (With es P u) us w
from_more es P u us w k = elim k [
  | inl p ↦ inl (inl p)
  | inr q ↦ elim (contains_split u us w q.0) [ inl is ↦ inl (inr (sym is, q.1)) | inr later ↦ inr (later, q.1) ]
]

least_among : (es : Entities) (P : Uid → Type 0) (least : Option Uid) (us : List Uid) → IsLeastOf P least → IsLeastOf (Among es P us) (least_missing es least us)
unfolding least_missing
least_among es P least [] h =
    same_least P (Among es P []) (λ w p. inl p) (λ w k. elim k [ inl p ↦ p | inr q ↦ absurd (contains_nothing w q.0) ]) least h
least_among es P least (u ∷ us) h =
    same_least (Among es (With es P u) us) (Among es P (u ∷ us)) (to_more es P u us) (from_more es P u us) (least_missing es (lesser es least u) us)
    (least_among es (With es P u) (lesser es least u) us (one_more es P least u h))

-- the least of the uids that aren't stored, or that there is none
pub least_missing_is : (es : Entities) (us : List Uid) → IsLeastOf (λ w. Contains us w × IsLost es w) (least_missing es None us)
least_missing_is es us =
    same_least (Among es (λ w. ⊥) us) (λ w. Contains us w × IsLost es w) (λ w k. elim k [ inl p ↦ absurd p | inr q ↦ q ]) (λ w q. inr q) (least_missing es None us)
    (least_among es (λ w. ⊥) None us (λ u p. p))

stored_by : (es : Entities) (u : Uid) (o : Option EntityData) → stored u es ≡ o → (stored u es ≡ None → ⊥) → IsStored es u
stored_by es u None is h = absurd (h is)
stored_by es u (Some e) is h = subst IsSome (sym is) refl

-- where none of some uids is missing, each is stored
pub none_missing : (es : Entities) (us : List Uid) → ((u : Uid) → ¬ (Contains us u × IsLost es u)) → AllByRecursion (IsStored es) us
none_missing es [] h = tt
none_missing es (u ∷ us) h = (
  stored_by es u (stored u es) refl (λ lost. h u (contains_first u us, lost)),
  none_missing es us (λ w k. h w (contains_rest u us w k.0, k.1)),
)

-- ---- of lists after one another

pub least_of_three : (es : Entities) (o a b r : Option Uid) (xs ys zs : List Uid) → a ≡ least_missing es o xs → b ≡ least_missing es a ys → r ≡ least_missing es b zs → r ≡ least_missing es o (xs ++ (ys ++ zs))
least_of_three es o a b r xs ys zs first second third =
    let both : b ≡ least_missing es (least_missing es o xs) ys = second ∙ ap (λ (p : Option Uid). least_missing es p ys) first in
    third ∙ (ap (λ (p : Option Uid). least_missing es p zs) both
    ∙ (sym (least_missing-append es (least_missing es o xs) ys zs) ∙ sym (least_missing-append es o xs (ys ++ zs))))

-- of four lists after one another
pub least_of_four : (es : Entities) (o a b c r : Option Uid) (xs ys zs us : List Uid) → a ≡ least_missing es o xs → b ≡ least_missing es a ys → c ≡ least_missing es b zs → r ≡ least_missing es c us
    → r ≡ least_missing es o (xs ++ (ys ++ (zs ++ us)))
least_of_four es o a b c r xs ys zs us first second third fourth =
    least_of_three es a b c r ys zs us second third fourth
    ∙ (ap (λ (p : Option Uid). least_missing es p (ys ++ (zs ++ us))) first ∙ sym (least_missing-append es o xs (ys ++ (zs ++ us))))

-- of a request's uids
pub least_of_request : (es : Entities) (a b c r : Option Uid) (u v w : Uid) (us : List Uid) → a ≡ lesser es None u → b ≡ lesser es a v → c ≡ lesser es b w → r ≡ least_missing es c us
    → r ≡ least_missing es None (u ∷ (v ∷ (w ∷ us)))
unfolding least_missing
least_of_request es a b c r u v w us first second third fourth =
    let two : b ≡ lesser es (lesser es None u) v = second ∙ ap (λ (p : Option Uid). lesser es p v) first in
    let three : c ≡ lesser es (lesser es (lesser es None u) v) w = third ∙ ap (λ (p : Option Uid). lesser es p w) two in
    fourth ∙ ap (λ (p : Option Uid). least_missing es p us) three

-- ---- the lesser of two, as it is tested

told_stored : (es : Entities) (u : Uid) (b : Bool) → (IsTrue b ↔ IsStored es u) → b ≡ is_some (stored u es)
told_stored es u true test = sym (test.0 refl)
told_stored es u false test = at (is_some (stored u es)) refl where
  at : (c : Bool) → is_some (stored u es) ≡ c → false ≡ is_some (stored u es)
  at true is = test.1 is ∙ sym is
  at false is = sym is

pub lesser_told : (es : Entities) (o r : Option Uid) (u : Uid) (b c : Bool) → (IsTrue b ↔ IsStored es u) → b ≡ c → r ≡ (if c then o else lesser_of o u) → r ≡ lesser es o u
unfolding lesser
lesser_told es o r u b c test is told =
    told ∙ ap (λ (d : Bool). if d then o else lesser_of o u) (sym is ∙ told_stored es u b test)

-- ---- the least that is missing from a world

pub found_least : {X : Type 0} (es : Entities) (us : List Uid) (view : X → Uid) (o : Option X) → option_map view o ≡ least_missing es None us
    → MatchOption o (AllByRecursion (IsStored es) us) (λ x. IsLeast (λ w. Contains us w × IsLost es w) (view x))
found_least es us view None is = none_missing es us (subst (IsLeastOf (λ w. Contains us w × IsLost es w)) (sym is) (least_missing_is es us))
found_least es us view (Some x) is = subst (IsLeastOf (λ w. Contains us w × IsLost es w)) (sym is) (least_missing_is es us)
