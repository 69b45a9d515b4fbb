-- The steps of a search for cycles, as its calls tell them.
use Rattle.std.proofs.Common.{◌≡◌, ◌≢◌, ◌<◌, ◌≤◌, ◌+◌, ◌-◌, ℕ, List, [], ◌∷◌, ◌++◌, Bool, true, false, ◌⊎◌, cond, length, take, set, nat_eq, refl, sym, ap, subst, ◌∙◌, inl, inr, arith, Vec, Global}
use Rattle.std.proofs.lemmas.Bool.{cases_eq}
use Rattle.std.proofs.lemmas.Bool.Decides.{nat_tests}
use Rattle.std.proofs.lemmas.List.{get_or-set_same, get_or-set_other, length_push}
use Rattle.sc_graphs.specs.declared.path.Mark.{Mark}
use Rattle.sc_graphs.specs.declared.path.Mark.TheVariants.{New, OnPath, Left}
use Rattle.sc_graphs.specs.declared.path.Part.{Part}
use Rattle.sc_graphs.specs.declared.path.Search.{Search}
use Rattle.sc_graphs.specs.Reaching.{Reaches}
use Rattle.sc_graphs.specs.Graphs.{successors, Follows}
use Rattle.sc_graphs.specs.Paths.{mark_in, node_at, AreParts, IsPassed, Waits, bound, IsSearch, nothing, Stands, StandsAt, entered, left_from, IsJoined, Goes}
use Rattle.sc_graphs.proofs.PartLaws.{parts_none}
use Rattle.sc_graphs.proofs.PathLaws.{on_not_new, taken, all_reach, passes_left, enters, joins, by_eq}
use Rattle.sc_graphs.proofs.LeaveLaws.{leaves, new_within}

pub popped_none : {X : Type 0} (old new : List X) (count : ℕ) → old ≡ new ++ [] → new ≡ take (count - 1) old → count ≡ 0 → old ≡ []
popped_none old new count items rest zero =
    let none : new ≡ [] = rest ∙ ap (λ (n : ℕ). take (n - 1) old) zero in
    items ∙ ap (λ xs. xs ++ []) none

room : (old new : List ℕ) (n from : ℕ) → old ≡ new ++ n ∷ [] → from < length old → from ≤ length new
room old new n from is less = let long : length old ≡ length new + 1 = ap length is ∙ length_push new n in omega (arith, less, long)

-- ---- a node is put on the path

pub marks_entered : (marks : List Mark) (n t : ℕ) → mark_in marks n ≡ New → (m : ℕ) → mark_in (set marks n (OnPath t)) m ≡ cond (nat_eq n m) (OnPath t) (mark_in marks m)
marks_entered marks n t new m = elim (cases_eq m n) [
  | inl same ↦ ap (mark_in (set marks n (OnPath t))) same ∙ get_or-set_same marks n (OnPath t) (Left false) (new_within marks n new)
      ∙ sym (ap (λ (b : Bool). cond b (OnPath t) (mark_in marks m)) (is_eq n m (sym same)))
  | inr other ↦ get_or-set_other marks n m (OnPath t) (Left false) other ∙ sym (ap (λ (b : Bool). cond b (OnPath t) (mark_in marks m)) (not_eq n m (λ e. other (sym e))))
] where
  is_eq : (x y : ℕ) → x ≡ y → nat_eq x y ≡ true
  is_eq x y e = grind (arith, nat_tests)

  not_eq : (x y : ℕ) → x ≢ y → nat_eq x y ≡ false
  not_eq x y e = grind (arith, nat_tests)

abbrev Puts : List Mark → ℕ → ℕ → List Mark → Type 0
Puts old n t new = (m : ℕ) → mark_in new m ≡ cond (nat_eq n m) (OnPath t) (mark_in old m)

pub entered_goes : (old new : List Mark) (n t : ℕ) → mark_in old n ≡ New → Puts old n t new → Goes old new
entered_goes old new n t is put = record {
  left = λ m b left. by_eq (mark_in new m ≡ Left b) n m (OnPath t) (mark_in old m) (mark_in new m) (put m)
      (λ same at. absurd (let no_left : New ≡ Left b = sym is ∙ (ap (mark_in old) same ∙ left) in cc)) (λ other at. at ∙ left);
  met = λ m new_there. by_eq (mark_in old m ≡ New) n m (OnPath t) (mark_in old m) (mark_in new m) (put m) (λ same at. on_not_new (sym at ∙ new_there)) (λ other at. sym at ∙ new_there);
}

pub entered_met : (old new : List Mark) (n t : ℕ) → Puts old n t new → mark_in new n ≢ New
entered_met old new n t put is = by_eq ⊥ n n (OnPath t) (mark_in old n) (mark_in new n) (put n) (λ same at. on_not_new (sym at ∙ is)) (λ other at. absurd (other refl))

module _ (graph : List (List ℕ)) (old new : Search) (n : ℕ) (is_new : mark_in old.marks.items n ≡ New) where
  -- the first node of a path
  pub starts : Stands graph old → old.parts.items ≡ [] → new.path.items ≡ old.path.items ++ n ∷ [] → new.parts.items ≡ old.parts.items ++ entered old.path.items old.waiting.items ∷ []
      → new.waiting.items ≡ old.waiting.items ++ successors graph n → Puts old.marks.items n (length old.path.items) new.marks.items → Stands graph new
  starts s empty path parts waiting put =
      let short : length old.path.items ≡ 0 = parts_none old.parts.items (length old.path.items) (length old.waiting.items) empty s.covered in
      subst (λ (xs : List ℕ). IsSearch graph new.marks.items xs new.parts.items new.waiting.items nothing) (sym path)
      (subst (λ (ps : List Part). IsSearch graph new.marks.items (old.path.items ++ n ∷ []) ps new.waiting.items nothing) (sym parts)
      (subst (λ (ws : List ℕ). IsSearch graph new.marks.items (old.path.items ++ n ∷ []) (old.parts.items ++ entered old.path.items old.waiting.items ∷ []) ws nothing) (sym waiting)
      (enters graph old.marks.items old.path.items old.parts.items old.waiting.items n weaker is_new (λ p below. absurd (omega (arith, below, short))) new.marks.items put))) where
        weaker : IsSearch graph old.marks.items old.path.items old.parts.items old.waiting.items (λ m. m ≡ n)
        weaker = record {
          nodes = s.nodes;
          covered = s.covered;
          pending = λ q has. record { each = λ p m from within leads. pick q m ((s.pending q has).each p m from within leads) };
        } where
          pick : (q : Part) (m : ℕ) → IsPassed old.marks.items (bound q) m ⊎ (Waits old.waiting.items q.waiting m ⊎ nothing m)
              → IsPassed old.marks.items (bound q) m ⊎ (Waits old.waiting.items q.waiting m ⊎ (m ≡ n))
          pick q m (inl passed) = inl passed
          pick q m (inr (inl w)) = inr (inl w)
          pick q m (inr (inr never)) = absurd never

module _ (graph : List (List ℕ)) (old : Search) (part : Part) (s : StandsAt graph old part) where
  -- nothing waits behind the last part: it is left
  pub goes_back : (new : Search) → length old.waiting.items ≤ part.waiting
      → ((n : ℕ) → mark_in new.marks.items n ≡ left_from part.first (length old.path.items) part.cyclic (mark_in old.marks.items n))
      → new.path.items ≡ take part.first old.path.items → new.parts ≡ old.parts → new.waiting ≡ old.waiting → Stands graph new
  goes_back new few put path parts waiting =
      subst (λ (xs : List ℕ). IsSearch graph new.marks.items xs new.parts.items new.waiting.items nothing) (sym path)
      (subst (λ (ps : Vec Part Global). IsSearch graph new.marks.items (take part.first old.path.items) ps.items new.waiting.items nothing) (sym parts)
      (subst (λ (ws : Vec ℕ Global). IsSearch graph new.marks.items (take part.first old.path.items) old.parts.items ws.items nothing) (sym waiting)
      (leaves graph old.marks.items new.marks.items old.path.items old.parts.items part old.waiting.items s few put)))

  module _ (waiting : List ℕ) (n : ℕ) (is : old.waiting.items ≡ waiting ++ n ∷ []) (more : part.waiting < length old.waiting.items) where
    seen : IsSearch graph old.marks.items old.path.items (old.parts.items ++ part ∷ []) (waiting ++ n ∷ []) nothing
    seen = subst (λ (ws : List ℕ). IsSearch graph old.marks.items old.path.items (old.parts.items ++ part ∷ []) ws nothing) is s

    some : part.waiting ≤ length waiting
    some = room old.waiting.items waiting n part.waiting is more

    without : IsSearch graph old.marks.items old.path.items (old.parts.items ++ part ∷ []) waiting (λ m. m ≡ n)
    unfolding seen some
    without = taken graph old.marks.items old.path.items old.parts.items part waiting n seen some

    reach : (p : ℕ) → p < length old.path.items → Reaches (Follows graph) (node_at old.path.items p) n
    unfolding seen some
    reach = all_reach graph old.marks.items old.path.items old.parts.items part waiting n seen some

    pub goes_past : (parts : List Part) (b : Bool) → parts ≡ old.parts.items ++ part ∷ [] → mark_in old.marks.items n ≡ Left b → IsSearch graph old.marks.items old.path.items parts waiting nothing
    unfolding without
    goes_past parts b same left = subst (λ (ps : List Part). IsSearch graph old.marks.items old.path.items ps waiting nothing) (sym same) (passes_left n b without left)

    pub goes_in : (parts : List Part) (new : Search) → parts ≡ old.parts.items ++ part ∷ [] → mark_in old.marks.items n ≡ New → new.path.items ≡ old.path.items ++ n ∷ []
        → new.parts.items ≡ parts ++ entered old.path.items waiting ∷ [] → new.waiting.items ≡ waiting ++ successors graph n → Puts old.marks.items n (length old.path.items) new.marks.items → Stands graph new
    unfolding without reach
    goes_in parts new same is_new path there behind put =
        subst (λ (xs : List ℕ). IsSearch graph new.marks.items xs new.parts.items new.waiting.items nothing) (sym path)
        (subst (λ (ps : List Part). IsSearch graph new.marks.items (old.path.items ++ n ∷ []) ps new.waiting.items nothing) (sym (there ∙ ap (λ (ps : List Part). ps ++ entered old.path.items waiting ∷ []) same))
        (subst (λ (ws : List ℕ). IsSearch graph new.marks.items (old.path.items ++ n ∷ []) ((old.parts.items ++ part ∷ []) ++ entered old.path.items waiting ∷ []) ws nothing) (sym behind)
        (enters graph old.marks.items old.path.items (old.parts.items ++ part ∷ []) waiting n without is_new reach new.marks.items put)))

    pub goes_round : (others parts : List Part) (joined : Part) (place : ℕ) → mark_in old.marks.items n ≡ OnPath place
        → ((g : List (List ℕ)) (path ws : List ℕ) (end held : ℕ) → place < end → AreParts g path ws (old.parts.items ++ part ∷ []) end held → IsJoined g path ws (old.parts.items ++ part ∷ []) others joined place end held)
        → parts ≡ others ++ joined ∷ [] → IsSearch graph old.marks.items old.path.items parts waiting nothing
    unfolding without reach
    goes_round others parts joined place at told same =
        subst (λ (ps : List Part). IsSearch graph old.marks.items old.path.items ps waiting nothing) (sym same)
        (joins graph old.marks.items old.path.items old.parts.items others part joined waiting n place without at reach
        (told graph old.path.items waiting (length old.path.items) (length waiting) (without.nodes.on.places n place at).0 without.covered))
