-- A change of watched literals keeps clauses listed.
use Rattle.std.proofs.Common.{◌≡◌, ◌≢◌, ◌⊎◌, inl, inr, ⊎_elim, ℕ, ◌+◌, ◌-◌, ◌<◌, ◌≤◌, List, [], ◌∷◌, ◌++◌, length, refl, sym, ap, ◌∙◌, subst, arith, get_or-set_same, get_or-set_other, Option, Some, None, replicate}
use Rattle.std.specs.List.{Contains, swap_remove}
use Rattle.std.proofs.Math.ListN.{set, get_or-append, get_or-eq_default}
use Rattle.std.proofs.Math.Seq.{get_or-append_seam}
use Rattle.std.proofs.lemmas.Bool.{cases_eq}
use Rattle.std.proofs.lemmas.List.{length-append, length-replicate}
use Rattle.std.proofs.lemmas.List.Elements.{Contains-append_left, Contains-push, Contains-push_cases}
use Rattle.sc_lists.proofs.ListLaws.{all_the_same}
use Rattle.sc_clauses.specs.declared.lit.Lit.{Lit}
use Rattle.sc_propagation.proofs.WatchedLitLaws.{lit-cases}
use Rattle.sc_propagation.proofs.RemovedLaws.{removed-length}
use Rattle.sc_propagation.specs.Lists.{AreEmpty, IsListSet, places_of}
use Rattle.sc_propagation.specs.Watches.{AreUnset, IsAdded, IsListedToo, IsRewatched, IsSifted, IsWatched, watch_in, watch_of}
use Rattle.sc_propagation.specs.declared.lists.Lists.{Lists}
use Rattle.sc_propagation.specs.declared.watches.Watch.{Watch}
use Rattle.sc_propagation.specs.declared.watches.Watches.{Watches}

pub listed-too : (place : ℕ) (lit : Lit) (was : Option Watch) (o new : Lists) → ¬ IsWatched was lit → IsListSet lit (places_of o lit ++ place ∷ []) o new → IsListedToo place lit was o new
listed-too place lit was o new apart h = record {
  sizes = h.sizes;
  kept = λ l i has.
      ⊎_elim
      (λ (e : l ≡ lit).
      subst (λ (m : Lit). Contains (places_of new m) i) (sym e)
      (subst (λ (ps : List ℕ). Contains ps i) (sym h.here) (Contains-append_left (places_of o lit) (place ∷ []) i (subst (λ (m : Lit). Contains (places_of o m) i) e has))))
      (λ (ne : l ≢ lit). subst (λ (ps : List ℕ). Contains ps i) (sym (h.elsewhere l ne)) has)
      (lit-cases l lit);
  added = inl (subst (λ (ps : List ℕ). Contains ps place) (sym h.here) (Contains-push (places_of o lit) place));
  only = λ l i has.
      ⊎_elim
      (λ (e : l ≡ lit).
      ⊎_elim
      (λ (old : Contains (places_of o lit) i). inl (subst (λ (m : Lit). Contains (places_of o m) i) (sym e) old))
      (λ (is : place ≡ i). inr (sym is))
      (Contains-push_cases (places_of o lit) place i (subst (λ (ps : List ℕ). Contains ps i) h.here (subst (λ (m : Lit). Contains (places_of new m) i) e has))))
      (λ (ne : l ≢ lit). inl (subst (λ (ps : List ℕ). Contains ps i) (h.elsewhere l ne) has))
      (lit-cases l lit);
  elsewhere = h.elsewhere;
  same = λ w. absurd (apart w);
}

pub listed-already : (place : ℕ) (lit : Lit) (was : Option Watch) (o : Lists) → IsWatched was lit → IsListedToo place lit was o o
listed-already place lit was o h = record { sizes = λ s. refl; kept = λ l i has. has; added = inr h; only = λ l i has. inl has; elsewhere = λ l ne. refl; same = λ w. refl }

pub rewatched : (place : ℕ) (watch : Watch) (pairs : List (Option Watch)) (was : Option Watch) (o a : Lists) (new : Watches) → was ≡ watch_in pairs place → IsListedToo place watch.first (watch_in pairs place) o a → IsListedToo place watch.second was a new.lists
    → new.pairs.items ≡ set pairs place (Some watch) → IsRewatched place watch pairs o new
rewatched place watch pairs was o a new same h k is = record {
  pairs_set = is;
  sizes = λ s. k.sizes s ∙ h.sizes s;
  kept = λ l i has. k.kept l i (h.kept l i has);
  added = λ l w.
      ⊎_elim
      (λ (e : l ≡ watch.first).
      ⊎_elim
      (λ (has : Contains (places_of a watch.first) place). inl (subst (λ (m : Lit). Contains (places_of new.lists m) place) (sym e) (k.kept watch.first place has)))
      (λ (old : IsWatched (watch_in pairs place) watch.first). inr (subst (λ (m : Lit). IsWatched (watch_in pairs place) m) (sym e) old))
      h.added)
      (λ (e : l ≡ watch.second).
      ⊎_elim
      (λ (has : Contains (places_of new.lists watch.second) place). inl (subst (λ (m : Lit). Contains (places_of new.lists m) place) (sym e) has))
      (λ (old : IsWatched was watch.second). inr (subst (λ (m : Lit). IsWatched (watch_in pairs place) m) (sym e) (subst (λ (p : Option Watch). IsWatched p watch.second) same old)))
      k.added)
      w;
  only = λ l i has.
      ⊎_elim
      (λ (old : Contains (places_of a l) i). h.only l i old)
      (λ (e : i ≡ place). inr e)
      (k.only l i has);
  elsewhere = λ l no. k.elsewhere l (λ e. no (inr e)) ∙ h.elsewhere l (λ e. no (inl e));
  same = λ l watched.
      let in_second : places_of new.lists l ≡ places_of a l =
      ⊎_elim
      (λ (e : l ≡ watch.second).
      let old : IsWatched was watch.second = subst (λ (p : Option Watch). IsWatched p watch.second) (sym same) (subst (λ (m : Lit). IsWatched (watch_in pairs place) m) e (watched (inr e))) in
      subst (λ (m : Lit). places_of new.lists m ≡ places_of a m) (sym e) (k.same old))
      (λ (ne : l ≢ watch.second). k.elsewhere l ne)
      (lit-cases l watch.second)
      in
      let in_first : places_of a l ≡ places_of o l =
      ⊎_elim
      (λ (e : l ≡ watch.first).
      let old : IsWatched (watch_in pairs place) watch.first = subst (λ (m : Lit). IsWatched (watch_in pairs place) m) e (watched (inl e)) in
      subst (λ (m : Lit). places_of a m ≡ places_of o m) (sym e) (h.same old))
      (λ (ne : l ≢ watch.first). h.elsewhere l ne)
      (lit-cases l watch.first)
      in
      in_second ∙ in_first;
}

pub set-watch-here : (pairs : List (Option Watch)) (new : List (Option Watch)) (place : ℕ) (watch : Watch) → place < length pairs → new ≡ set pairs place (Some watch) → watch_in new place ≡ Some watch
set-watch-here pairs new place watch lt e = ap (λ (ps : List (Option Watch)). watch_in ps place) e ∙ get_or-set_same pairs place (Some watch) None lt

pub set-watch-other : (pairs : List (Option Watch)) (new : List (Option Watch)) (place i : ℕ) (watch : Watch) → i ≢ place → new ≡ set pairs place (Some watch) → watch_in new i ≡ watch_in pairs i
set-watch-other pairs new place i watch ne e = ap (λ (ps : List (Option Watch)). watch_in ps i) e ∙ get_or-set_other pairs place i (Some watch) None ne

pub longer-below : (pairs : List (Option Watch)) (i : ℕ) → i < length pairs → watch_in (pairs ++ None ∷ []) i ≡ watch_in pairs i
longer-below pairs i lt = get_or-append pairs (None ∷ []) None i lt

pub longer-beyond : (pairs : List (Option Watch)) (i : ℕ) → length pairs ≤ i → watch_in (pairs ++ None ∷ []) i ≡ None
longer-beyond pairs i le =
    let len : length (pairs ++ None ∷ []) ≡ length pairs + 1 = length-append pairs (None ∷ []) in
    ⊎_elim
    (λ (e : i ≡ length pairs). subst (λ (j : ℕ). watch_in (pairs ++ None ∷ []) j ≡ None) (sym e) (get_or-append_seam pairs None [] None))
    (λ (ne : i ≢ length pairs). get_or-eq_default (pairs ++ None ∷ []) None (omega arith))
    (cases_eq i (length pairs))

pub added-below : (pair : Option Watch) (old new : Watches) → IsAdded pair old new → (i : ℕ) → i < length old.pairs.items → watch_of new i ≡ watch_of old i
added-below None old new k i lt = ap (λ (ps : List (Option Watch)). watch_in ps i) k.0 ∙ longer-below old.pairs.items i lt
added-below (Some watch) old new k i lt =
    set-watch-other (old.pairs.items ++ None ∷ []) new.pairs.items (length old.pairs.items) i watch (λ e. omega arith) k.pairs_set ∙ longer-below old.pairs.items i lt

pub added-last : (pair : Option Watch) (old new : Watches) → IsAdded pair old new → watch_of new (length old.pairs.items) ≡ pair
added-last None old new k = ap (λ (ps : List (Option Watch)). watch_in ps (length old.pairs.items)) k.0 ∙ longer-beyond old.pairs.items (length old.pairs.items) (omega arith)
added-last (Some watch) old new k =
    set-watch-here (old.pairs.items ++ None ∷ []) new.pairs.items (length old.pairs.items) watch (let e : length (old.pairs.items ++ None ∷ []) ≡ length old.pairs.items + 1 = length-append old.pairs.items (None ∷ []) in omega arith) k.pairs_set

pub unset : (n count : ℕ) (w : Watches) → w.pairs.items ≡ replicate count None → AreEmpty n w.lists → AreUnset n count w
unset n count w is empty = record {
  paired = ap length is ∙ length-replicate count None;
  unset = λ i. ap (λ (ps : List (Option Watch)). watch_in ps i) is ∙ all_the_same count i None;
  empty = empty;
}

pub sifted-pairs : (lit : Lit) (at : ℕ) (old new : Watches) (next : ℕ) → IsSifted lit at old new next → new.pairs ≡ old.pairs
sifted-pairs lit at old new next (inl h) = h.1
sifted-pairs lit at old new next (inr h) = h.1

-- the rest of the list gets shorter
pub sifted-shorter : (lit : Lit) (at : ℕ) (old new : Watches) (next : ℕ) → at < length (places_of old.lists lit) → IsSifted lit at old new next → length (places_of new.lists lit) - next < length (places_of old.lists lit) - at
sifted-shorter lit at old new next lt (inl (is, pairs, lists)) =
    let e : length (places_of new.lists lit) ≡ length (places_of old.lists lit) = ap (λ (o : Lists). length (places_of o lit)) lists in
    omega arith
sifted-shorter lit at old new next lt (inr (is, pairs, gone, s)) =
    let e : length (places_of new.lists lit) ≡ length (swap_remove (places_of old.lists lit) at 0) = ap length s.here in
    let f = removed-length (places_of old.lists lit) at lt in
    omega arith
