-- The parts of a path.
use Rattle.std.proofs.Common.{◌≡◌, ◌⊎◌, ◌<◌, ◌≤◌, ℕ, List, [], ◌∷◌, ◌++◌, get_or, refl, sym, subst, ◌∙◌, inl, inr, arith, Contains}
use Rattle.std.proofs.lemmas.Bool.{cases_lt}
use Rattle.std.proofs.lemmas.List.{same_from_push}
use Rattle.std.proofs.lemmas.List.Elements.{Contains-push, Contains-push_cases, Contains-append_left}
use Rattle.sc_lists.proofs.ListLaws.{contains_nothing}
use Rattle.sc_graphs.specs.declared.path.Part.{Part}
use Rattle.sc_graphs.specs.Reaching.{Reaches}
use Rattle.sc_graphs.specs.Graphs.{Follows}
use Rattle.sc_graphs.specs.Paths.{node_at, Leads, IsPart, AreParts, none, more, IsJoining}

no_push : {X : Type 0} (xs : List X) (x : X) → xs ++ x ∷ [] ≡ [] → ⊥
no_push [] x h = absurd cc
no_push (y ∷ xs) x h = absurd cc

module _ {graph : List (List ℕ)} {path waiting : List ℕ} where
  pub parts_pop : (front : List Part) (part : Part) (end last : ℕ) → AreParts graph path waiting (front ++ part ∷ []) end last
      → AreParts graph path waiting front part.first part.waiting × IsPart graph path waiting part end last
  parts_pop front part end last (none parts e l empty zero) = absurd (no_push front part empty)
  parts_pop front part end last (more parts others other e l same before is) =
      let both = same_from_push front others part other same in
      let fronts : AreParts graph path waiting front other.first other.waiting = subst (λ (ps : List Part). AreParts graph path waiting ps other.first other.waiting) (sym both.0) before in (
        subst (λ (q : Part). AreParts graph path waiting front q.first q.waiting) (sym both.1) fronts,
        subst (λ (q : Part). IsPart graph path waiting q e l) (sym both.1) is,
      )

  pub parts_none : (parts : List Part) (end last : ℕ) → parts ≡ [] → AreParts graph path waiting parts end last → end ≡ 0
  parts_none parts end last empty (none _ e l _ zero) = zero
  parts_none parts end last empty (more _ front part e l same before is) = absurd (no_push front part (sym same ∙ empty))

  pub parts_push : (front : List Part) (part : Part) (end last : ℕ) → AreParts graph path waiting front part.first part.waiting → IsPart graph path waiting part end last
      → AreParts graph path waiting (front ++ part ∷ []) end last
  parts_push front part end last before is = more (front ++ part ∷ []) front part end last refl before is

  -- each part begins before the end
  pub parts_below : (parts : List Part) (end last : ℕ) → AreParts graph path waiting parts end last → (q : Part) → Contains parts q → (q.first < end) × (q.waiting ≤ last)
  parts_below parts end last (none _ e l empty zero) q has = absurd (contains_nothing q (subst (λ (ps : List Part). Contains ps q) empty has))
  parts_below parts end last (more _ front part e l same before is) q has = pick (Contains-push_cases front part q (subst (λ (ps : List Part). Contains ps q) same has)) (parts_below front part.first part.waiting before q) where
    pick : Contains front q ⊎ (part ≡ q) → (Contains front q → (q.first < part.first) × (q.waiting ≤ part.waiting)) → (q.first < e) × (q.waiting ≤ l)
    pick (inl earlier) below =
        let here : q.first < part.first = (below earlier).0 in
        let there : q.waiting ≤ part.waiting = (below earlier).1 in
        let some : part.first < e = is.some in
        let waits : part.waiting ≤ l = is.waits in
        (omega (arith, here, some), omega (arith, there, waits))
    pick (inr here) below = subst (λ (r : Part). (r.first < e) × (r.waiting ≤ l)) here (is.some, is.waits)

-- the same on another path and other waiting nodes that agree up to where the parts end
module _ {graph : List (List ℕ)} {path waiting other others : List ℕ} where
  part_same : (part : Part) (end last : ℕ) → ((p : ℕ) → p < end → node_at other p ≡ node_at path p) → ((k : ℕ) → k < last → get_or others k 0 ≡ get_or waiting k 0)
      → IsPart graph path waiting part end last → IsPart graph other others part end last
  part_same part end last same behind is =
      let first : node_at path part.first ≡ node_at other part.first = sym (same part.first is.some) in
      record {
        some = is.some;
        waits = is.waits;
        back = λ p from below. subst (λ (a : ℕ). Leads graph a (node_at other part.first)) (sym (same p below)) (subst (λ (b : ℕ). Leads graph (node_at path p) b) first (is.back p from below));
        alone = is.alone;
        round = λ cyclic. subst (λ (a : ℕ). Reaches (Follows graph) a a) first (is.round cyclic);
        fed = λ k from below. (let s = is.fed k from below in (
          s.0,
          s.1,
          s.2,
          subst (λ (a : ℕ). Follows graph a (get_or others k 0)) (sym (same s.0 s.2)) (subst (λ (b : ℕ). Follows graph (node_at path s.0) b) (sym (behind k below)) s.3),
        ));
      }

  pub parts_same : (parts : List Part) (end last : ℕ) → ((p : ℕ) → p < end → node_at other p ≡ node_at path p) → ((k : ℕ) → k < last → get_or others k 0 ≡ get_or waiting k 0)
      → AreParts graph path waiting parts end last → AreParts graph other others parts end last
  parts_same parts end last same behind (none _ e l empty zero) = none parts e l empty zero
  parts_same parts end last same behind (more _ front part e l is_front before is) =
      let some : part.first < e = is.some in
      let waits : part.waiting ≤ l = is.waits in
      more parts front part e l is_front
      (parts_same front part.first part.waiting (λ p below. same p (omega (arith, below, some))) (λ k below. behind k (omega (arith, below, waits))) before) (part_same part e l same behind is)

-- ---- parts are joined

module _ (graph : List (List ℕ)) (path waiting : List ℕ) (all : List Part) (place end last : ℕ) where
  pub joining_first : (front : List Part) (part : Part) → all ≡ front ++ part ∷ [] → place < end → AreParts graph path waiting all end last → IsJoining graph path waiting all front part place end last
  joining_first front part same inside parts =
      let both = parts_pop front part end last (subst (λ (ps : List Part). AreParts graph path waiting ps end last) same parts) in
      record {
        before = both.0;
        own_end = end;
        own_last = last;
        is = both.1;
        inside = inside;
        waits = both.1.waits;
        fed = both.1.fed;
        kept = λ q has. subst (λ (ps : List Part). Contains ps q) (sym same) has;
      }

  pub joining_next : (old front : List Part) (part next : Part) → IsJoining graph path waiting all old part place end last → AreParts graph path waiting all end last → old ≡ front ++ next ∷ [] → place < part.first
      → IsJoining graph path waiting all front next place end last
  joining_next old front part next j parts same less =
      let under : part.first < end = (parts_below all end last parts part (j.kept part (Contains-push old part))).0 in
      let both = parts_pop front next part.first part.waiting (subst (λ (ps : List Part). AreParts graph path waiting ps part.first part.waiting) same j.before) in
      let up : next.first < part.first = both.1.some in
      let waits : next.waiting ≤ part.waiting = both.1.waits in
      let more_waits : part.waiting ≤ last = j.waits in
      record {
        before = both.0;
        own_end = part.first;
        own_last = part.waiting;
        is = both.1;
        inside = less;
        waits = omega (arith, waits, more_waits);
        fed = λ k from below. elim (cases_lt k part.waiting) [
          | inl early ↦ (let s = both.1.fed k from early in (s.0, s.1, (let b : s.0 < part.first = s.2 in omega (arith, b, under)), s.3))
          | inr late ↦ (let s = j.fed k late below in (s.0, (let b : part.first ≤ s.0 = s.1 in omega (arith, b, up)), s.2, s.3))
        ];
        kept = λ q has. j.kept q (Contains-append_left old (part ∷ []) q (subst (λ (ps : List Part). Contains ps q) (sym same) has));
      }

  -- the first part of all has the first place
  pub joining_ends : (old : List Part) (part : Part) → IsJoining graph path waiting all old part place end last → old ≡ [] → place < part.first → ⊥
  joining_ends old part j empty less = let zero : part.first ≡ 0 = parts_none old part.first part.waiting empty j.before in omega (arith, less, zero)
