-- Going through the stored entities: the first that isn't sound is the least.
use Rattle.std.proofs.Common.{◌≡◌, [], ◌∷◌, ◌++◌, append_assoc, append-nil, Bool, false, true, IsTrue, ◌↔◌, Contains, inl, inr, refl, sym, ap, ◌∙◌, subst}
use Rattle.std.specs.List.{AllByRecursion}
use Rattle.std.specs.List.Sorted.{IsStrictlySortedBy}
use Rattle.std.specs.Map.{keys_of}
use Rattle.std.specs.declared.cmp.Ordering.TheVariants.{Less}
use Rattle.std.proofs.lemmas.List.Elements.{All-from_recursion, All-contains, Contains-append_right, Contains-append_cases}
use Rattle.std.proofs.lemmas.Map.Keys.{sorted_head, sorted_tail}
use Rattle.sc_lists.proofs.ListLaws.{contains_split, contains_first}
use Rattle.sc_names.specs.declared.uid.Uid.{Uid}
use Rattle.sc_names.specs.Uids.{uid_cmp}
use Rattle.sc_schema.specs.Declarations.{Declarations}
use Rattle.sc_world.specs.Least.{IsBroken, IsLeast}
use Rattle.sc_world.specs.Sound.{IsSoundEntry, AreSound}
use Rattle.sc_world.specs.Stores.{Entities, IsMap}
use Rattle.sc_world.specs.WellFormed.{Entry}
use Rattle.sc_world.proofs.LeastLaws.{itself, less_below}

-- what has been gone through is sound, and what is to come is the rest
pub record IsSoFar (s : Declarations) (es rest : Entities) : Type 0 where
  pub done : Entities
  pub whole : done ++ rest ≡ es
  pub sound : AllByRecursion (IsSoundEntry s es) done

pub nothing_yet : (s : Declarations) (es : Entities) → IsSoFar s es es
nothing_yet s es = record { done = []; whole = refl; sound = tt }

with_last : (s : Declarations) (es done : Entities) (x : Entry) → AllByRecursion (IsSoundEntry s es) done → IsSoundEntry s es x → AllByRecursion (IsSoundEntry s es) (done ++ x ∷ [])
with_last s es [] x h k = (k, tt)
with_last s es (y ∷ done) x h k = (h.0, with_last s es done x h.1 k)

pub one_further : (s : Declarations) (es rest : Entities) (x : Entry) → IsSoFar s es (x ∷ rest) → IsSoundEntry s es x → IsSoFar s es rest
one_further s es rest x h k = record {
  done = h.done ++ x ∷ [];
  whole = append_assoc h.done (x ∷ []) rest ∙ h.whole;
  sound = with_last s es h.done x h.sound k;
}

pub all_sound : (s : Declarations) (es : Entities) → IsSoFar s es [] → AreSound s es
all_sound s es h = subst (AllByRecursion (IsSoundEntry s es)) (sym (append-nil h.done) ∙ h.whole) h.sound

later_above : (done : Entities) (x : Entry) (rest : Entities) → IsStrictlySortedBy uid_cmp (keys_of (done ++ x ∷ rest)) → AllByRecursion (λ y. uid_cmp x.0 y ≡ Less) (keys_of rest)
later_above [] x rest h = sorted_head uid_cmp x.0 (keys_of rest) h
later_above (y ∷ done) x rest h = later_above done x rest (sorted_tail uid_cmp y.0 (keys_of (done ++ x ∷ rest)) h)

entries_above : (u : Uid) (rest : Entities) → AllByRecursion (λ y. uid_cmp u y ≡ Less) (keys_of rest) → AllByRecursion (λ (y : Entry). uid_cmp u y.0 ≡ Less) rest
entries_above u [] h = tt
entries_above u (y ∷ rest) h = (h.0, entries_above u rest h.1)

pub first_here : (s : Declarations) (es rest : Entities) (x : Entry) → IsMap es → IsSoFar s es (x ∷ rest) → ¬ IsSoundEntry s es x → IsLeast (IsBroken s es) x.0
first_here s es rest x ascending h k =
    let above = later_above h.done x rest (subst (λ (zs : Entities). IsStrictlySortedBy uid_cmp (keys_of zs)) (sym h.whole) ascending) in
    let above_all = All-from_recursion (λ (y : Entry). uid_cmp x.0 y.0 ≡ Less) rest (entries_above x.0 rest above) in
    let here = subst (λ (zs : Entities). Contains zs x) h.whole (Contains-append_right h.done (x ∷ rest) x (contains_first x rest)) in
    record {
      here = (x.1, here, k);
      least = λ w broken.
          let entry : Entry = (w, broken.0) in
          elim (Contains-append_cases h.done (x ∷ rest) entry (subst (λ (zs : Entities). Contains zs entry) (sym h.whole) broken.1)) [
            | inl before ↦ absurd (broken.2 (All-contains (IsSoundEntry s es) h.done entry (All-from_recursion (IsSoundEntry s es) h.done h.sound) before))
            | inr after ↦ elim (contains_split x rest entry after) [
              | inl is ↦ itself x.0 w (ap (λ (y : Entry). y.0) (sym is))
              | inr later ↦ less_below x.0 w (All-contains (λ (y : Entry). uid_cmp x.0 y.0 ≡ Less) rest entry above_all later)
            ]
          ];
    }

pub not_sound : {P : Type 0} (b : Bool) → (IsTrue b ↔ P) → b ≡ false → ¬ P
not_sound b test fails p = let both : false ≡ true = sym fails ∙ test.1 p in cc
