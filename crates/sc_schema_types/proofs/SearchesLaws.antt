-- What a search for an order keeps at each of its moves.
use Rattle.std.proofs.Common.{◌≡◌, ◌≢◌, ◌⊎◌, ◌<◌, ◌≤◌, ◌+◌, ℕ, List, [], ◌∷◌, ◌++◌, length, take, get_or, Bool, true, false, cond, Option, Some, None, Contains, slice_get, refl, sym, ap, ◌∙◌, inl, inr, subst, arith}
use Rattle.std.specs.BTreeMap.{is_at}
use Rattle.std.specs.List.{All, IsDistinct}
use Rattle.std.specs.Str.{bytes_eq}
use Rattle.std.proofs.lemmas.Bool.{cases_lt}
use Rattle.std.proofs.lemmas.List.Elements.{Contains-append_left, Contains-push, Contains-push_cases}
use Rattle.std.proofs.lemmas.Option.{slice_get_within, slice_get-get_or, get_or_from_slice_get}
use Rattle.std.proofs.lemmas.List.{take_at, take-append-le, get_or_append_left, get_or_default, get_or_push, length_push, map_push}
use Rattle.sc_lists.proofs.ListLaws.{contains_nothing, contains_first}
use Rattle.sc_names.specs.Uids.{text_cmp}
use Rattle.sc_schema_types.specs.declared.search.Mark.{Mark}
use Rattle.sc_schema_types.specs.declared.search.Mark.TheVariants.{Open, Placed}
use Rattle.sc_schema_types.specs.declared.search.Step.{Step}
use Rattle.sc_schema_types.specs.declared.search.Search.{Search}
use Rattle.sc_schema_types.specs.References.{Names, Bodies, Graph, Reaches, references}
use Rattle.sc_schema_types.specs.Orders.{LeadsBack}
use Rattle.sc_schema_types.specs.Searches.{Marks, mark_in, marked_in, names_on, IsPath, IsStep, AreMarks, IsOnce, IsSearch, IsRested, opened, IsKnown, GoesOn}
use Rattle.sc_schema_types.proofs.MembersLaws.{all_push, all_front, all_weaker}
use Rattle.sc_schema_types.proofs.OnceLaws.{once_opened, once_left, once_first, no_mark}
use Rattle.sc_graphs.specs.Reaching.{step as at_once}
use Rattle.sc_graphs.proofs.ReachesLaws.{then_one}
use Rattle.sc_schema_types.proofs.ReachesLaws.{path_push, path_pop, path_one, path_reach}
use Rattle.sc_schema_types.proofs.TextsLaws.{at_same, same_at}

-- ---- the order

AreBefore : Graph → Names → List ℕ → Type 0
AreBefore graph names a = All (Contains names) (graph a)

leads_back_old : (graph : Graph) (order : Names) (x : List ℕ) (i : ℕ) → LeadsBack graph order → i < length order → AreBefore graph (take i (order ++ x ∷ [])) (get_or (order ++ x ∷ []) i [])
unfolding AreBefore
leads_back_old graph order x i h within =
    subst (λ (names : Names). AreBefore graph names (get_or (order ++ x ∷ []) i [])) (sym (take-append-le i order (x ∷ []) (omega (arith, within))))
    (subst (AreBefore graph (take i order)) (sym (get_or_append_left order (x ∷ []) [] i within)) (h i within))

leads_back_new : (graph : Graph) (order : Names) (x : List ℕ) (i : ℕ) → All (Contains order) (graph x) → length order ≡ i → AreBefore graph (take i (order ++ x ∷ [])) (get_or (order ++ x ∷ []) i [])
unfolding AreBefore
leads_back_new graph order x i h at_end =
    subst (λ (names : Names). AreBefore graph names (get_or (order ++ x ∷ []) i [])) (sym (take_at order (x ∷ []) i at_end))
    (subst (AreBefore graph order) (sym (get_or_push order x [] i at_end)) h)

-- one more name, which leads to those in the order alone
pub leads_back_push : (graph : Graph) (order : Names) (x : List ℕ) → LeadsBack graph order → All (Contains order) (graph x) → LeadsBack graph (order ++ x ∷ [])
unfolding AreBefore
leads_back_push graph order x h new i within = elim (cases_lt i (length order)) [
  | inl less ↦ leads_back_old graph order x i h less
  | inr above ↦ leads_back_new graph order x i new (omega (arith, within, length_push order x))
]

-- ---- the marks

by_test : (P : Type 0) (b : Bool) (m : Mark) (o : Option Mark) (n : Mark) → cond b (Some m) o ≡ Some n → (b ≡ true → m ≡ n → P) → (b ≡ false → o ≡ Some n → P) → P
by_test P true m o n h f g = f refl (let e : Some m ≡ Some n = h in cc)
by_test P false m o n h f g = g refl h

not_open : (P : Type 0) → Open ≡ Placed → P
not_open P h = absurd cc

not_placed : (P : Type 0) → Placed ≡ Open → P
not_placed P h = absurd cc

marks_opened : (order path : Names) (old new : Marks) (name : List ℕ) → AreMarks order path old → ((q : List ℕ) → mark_in new q ≡ marked_in old name Open q) → AreMarks order (path ++ name ∷ []) new
marks_opened order path old new name h put = record {
  placed = λ q is. by_test (Contains order q) (is_at (text_cmp name) q) Open (mark_in old q) Placed (sym (put q) ∙ is) (λ here m. not_open _ m) (λ there is_old. h.placed q is_old);
  open_ones = λ q is. by_test (Contains (path ++ name ∷ []) q) (is_at (text_cmp name) q) Open (mark_in old q) Open (sym (put q) ∙ is)
      (λ here m. subst (Contains (path ++ name ∷ [])) (at_same name q here) (Contains-push path name)) (λ there is_old. Contains-append_left path (name ∷ []) q (h.open_ones q is_old));
}

still_on : (path : Names) (name q : List ℕ) → is_at (text_cmp name) q ≡ false → Contains path q ⊎ (name ≡ q) → Contains path q
still_on path name q there (inl found) = found
still_on path name q there (inr is) = absurd (let no : true ≡ false = sym (same_at name q is) ∙ there in cc)

marks_left : (order path : Names) (old new : Marks) (name : List ℕ) → AreMarks order (path ++ name ∷ []) old → ((q : List ℕ) → mark_in new q ≡ marked_in old name Placed q) → AreMarks (order ++ name ∷ []) path new
marks_left order path old new name h put = record {
  placed = λ q is. by_test (Contains (order ++ name ∷ []) q) (is_at (text_cmp name) q) Placed (mark_in old q) Placed (sym (put q) ∙ is)
      (λ here m. subst (Contains (order ++ name ∷ [])) (at_same name q here) (Contains-push order name)) (λ there is_old. Contains-append_left order (name ∷ []) q (h.placed q is_old));
  open_ones = λ q is. by_test (Contains path q) (is_at (text_cmp name) q) Placed (mark_in old q) Open (sym (put q) ∙ is) (λ here m. not_placed _ m)
      (λ there is_old. still_on path name q there (Contains-push_cases path name q (h.open_ones q is_old)));
}

-- ---- the moves

names_push : (path : List Step) (step : Step) → names_on (path ++ step ∷ []) ≡ names_on path ++ step.name ∷ []
names_push path step = map_push (λ (s : Step). s.name) path step

module _ (bodies : Bodies) where
  step_later : (order : Names) (x : List ℕ) (step : Step) → IsStep bodies order step → IsStep bodies (order ++ x ∷ []) step
  step_later order x step h = record { named = h.named; behind = λ k d below within. Contains-append_left order (x ∷ []) _ (h.behind k d below within) }

  step_opened : (order : Names) (name : List ℕ) → IsStep bodies order (opened bodies name)
  step_opened order name = record { named = refl; behind = λ k d below within. absurd (omega (arith, below)) }

  -- a common type is put on the path
  pub enters : (order : Names) (path : List Step) (old new : Marks) (name : List ℕ) → IsSearch bodies order path old → IsPath (references bodies) (names_on path ++ name ∷ []) → mark_in old name ≡ None
      → ((q : List ℕ) → mark_in new q ≡ marked_in old name Open q) → IsSearch bodies order (path ++ opened bodies name ∷ []) new
  enters order path old new name h link none put = record {
    leads_back = h.leads_back;
    linked = subst (IsPath (references bodies)) (sym (names_push path (opened bodies name))) link;
    steps = all_push (IsStep bodies order) path (opened bodies name) h.steps (step_opened order name);
    marked = subst (λ (names : Names). AreMarks order names new) (sym (names_push path (opened bodies name))) (marks_opened order (names_on path) old new name h.marked put);
    once = subst (λ (names : Names). IsOnce order names new) (sym (names_push path (opened bodies name))) (once_opened order (names_on path) old new name h.once none put);
  }

  -- more of what the end of the path names is known to have its place
  pub advances : (order : Names) (path : List Step) (marks : Marks) (old new : Step) → IsSearch bodies order (path ++ old ∷ []) marks → new.name ≡ old.name → IsStep bodies order new
      → IsSearch bodies order (path ++ new ∷ []) marks
  advances order path marks old new h same is =
      let names : names_on (path ++ old ∷ []) ≡ names_on (path ++ new ∷ []) = names_push path old ∙ ap (λ (n : List ℕ). names_on path ++ n ∷ []) (sym same) ∙ sym (names_push path new) in
      record {
        leads_back = h.leads_back;
        linked = subst (IsPath (references bodies)) names h.linked;
        steps = all_push (IsStep bodies order) path new (all_front (IsStep bodies order) path old h.steps).0 is;
        marked = subst (λ (ns : Names). AreMarks order ns marks) names h.marked;
        once = subst (λ (ns : Names). IsOnce order ns marks) names h.once;
      }

  -- the end of the path, where all that it names have their places, gets its own
  pub leaves : (order : Names) (path : List Step) (old new : Marks) (step : Step) → IsSearch bodies order (path ++ step ∷ []) old → All (Contains order) (references bodies step.name)
      → ((q : List ℕ) → mark_in new q ≡ marked_in old step.name Placed q) → IsSearch bodies (order ++ step.name ∷ []) path new
  leaves order path old new step h all put = record {
    leads_back = leads_back_push (references bodies) order step.name h.leads_back all;
    linked = path_pop (references bodies) (names_on path) step.name (subst (IsPath (references bodies)) (names_push path step) h.linked);
    steps = all_weaker (IsStep bodies order) (IsStep bodies (order ++ step.name ∷ [])) path (step_later order step.name) (all_front (IsStep bodies order) path step h.steps).0;
    marked = marks_left order (names_on path) old new step.name (subst (λ (ns : Names). AreMarks order ns old) (names_push path step) h.marked) put;
    once = once_left order (names_on path) old new step.name (subst (λ (ns : Names). IsOnce order ns old) (names_push path step) h.once) put;
  }

  -- a common type on the path that its end names reaches itself
  pub closes : (order : Names) (path : List Step) (marks : Marks) (step : Step) (q : List ℕ) → IsSearch bodies order (path ++ step ∷ []) marks
      → mark_in marks q ≡ Some Open → Contains (references bodies step.name) q → Reaches (references bodies) q q
  closes order path marks step q h is_open leads = pick (Contains-push_cases (names_on path) step.name q (subst (λ (ns : Names). Contains ns q) (names_push path step) (h.marked.open_ones q is_open))) where
    pick : Contains (names_on path) q ⊎ (step.name ≡ q) → Reaches (references bodies) q q
    pick (inl found) = then_one q (path_reach (references bodies) (names_on path) step.name q (subst (IsPath (references bodies)) (names_push path step) h.linked) found) leads
    pick (inr is) = at_once q q (subst (λ (a : List ℕ). Contains (references bodies a) q) is leads)

-- ---- what is known stays known

known_left : (order : Names) (path : List Step) (step : Step) (q : List ℕ) → IsKnown order (path ++ step ∷ []) q → IsKnown (order ++ step.name ∷ []) path q
known_left order path step q (inl found) = inl (Contains-append_left order (step.name ∷ []) q found)
known_left order path step q (inr on) = pick (Contains-push_cases (names_on path) step.name q (subst (λ (ns : Names). Contains ns q) (names_push path step) on)) where
  pick : Contains (names_on path) q ⊎ (step.name ≡ q) → IsKnown (order ++ step.name ∷ []) path q
  pick (inl found) = inr found
  pick (inr is) = inl (subst (Contains (order ++ step.name ∷ [])) is (Contains-push order step.name))

known_entered : (order : Names) (path : List Step) (old new more : Step) (q : List ℕ) → new.name ≡ old.name → IsKnown order (path ++ old ∷ []) q → IsKnown order ((path ++ new ∷ []) ++ more ∷ []) q
known_entered order path old new more q same (inl found) = inl found
known_entered order path old new more q same (inr on) =
    inr (subst (λ (ns : Names). Contains ns q) (sym (names_push (path ++ new ∷ []) more))
    (Contains-append_left (names_on (path ++ new ∷ [])) (more.name ∷ []) q
    (subst (λ (ns : Names). Contains ns q) (names_push path old ∙ ap (λ (n : List ℕ). names_on path ++ n ∷ []) (sym same) ∙ sym (names_push path new)) on)))

-- ---- a step of the search

-- all that a common type names have their places, where those before a place have them and the others do by their marks
placed_below : (order path : Names) (marks : Marks) (next : Names) (from at : ℕ) → AreMarks order path marks
    → ((k : ℕ) (d : List ℕ) → k < from → k < length next → Contains order (get_or next k d))
    → ((k : ℕ) (d : List ℕ) → from ≤ k → k < at → mark_in marks (get_or next k d) ≡ Some Placed)
    → (k : ℕ) (d : List ℕ) → k < at → k < length next → Contains order (get_or next k d)
placed_below order path marks next from at h before skipped k d below within = elim (cases_lt k from) [
  | inl less ↦ before k d less within
  | inr above ↦ h.placed (get_or next k d) (skipped k d above below)
]

-- one more name has its place by its mark
pub skips_more : (marks : Marks) (names : Names) (from at : ℕ) (name : List ℕ) → ((k : ℕ) (d : List ℕ) → from ≤ k → k < at → mark_in marks (get_or names k d) ≡ Some Placed)
    → ((d : List ℕ) → name ≡ get_or names at d) → mark_in marks name ≡ Some Placed
    → (k : ℕ) (d : List ℕ) → from ≤ k → k < at + 1 → mark_in marks (get_or names k d) ≡ Some Placed
skips_more marks names from at name before is here k d above less = elim (cases_lt k at) [
  | inl earlier ↦ before k d above earlier
  | inr last ↦
      let same : k ≡ at = omega (arith, less, last) in
      subst (λ (q : List ℕ). mark_in marks q ≡ Some Placed) (is d ∙ sym (ap (λ (i : ℕ). get_or names i d) same)) here
]

pub record Skips (marks : Marks) (next : Names) (from at : ℕ) : Type 0 where
  pub over : (k : ℕ) (d : List ℕ) → from ≤ k → k < at → mark_in marks (get_or next k d) ≡ Some Placed

module _ (bodies : Bodies) (order : Names) (path : List Step) (marks : Marks) (step : Step) (h : IsSearch bodies order (path ++ step ∷ []) marks) (at : ℕ) (skips : Skips marks step.next step.placed at) where
  last : IsStep bodies order step
  last = (all_front (IsStep bodies order) path step h.steps).1

  below : (k : ℕ) (d : List ℕ) → k < at → k < length step.next → Contains order (get_or step.next k d)
  unfolding last
  below = placed_below order (names_on (path ++ step ∷ [])) marks step.next step.placed at h.marked last.behind skips.over

  -- where no name is left that has no place
  pub all_placed : length step.next ≤ at → All (Contains order) (references bodies step.name)
  unfolding below last
  all_placed beyond = subst (All (Contains order)) last.named (λ k d within. below k d (omega (arith, within, beyond)) within)

  pub moved : (new : Step) → new.name ≡ step.name → new.next ≡ step.next → new.placed ≡ at → IsStep bodies order new
  unfolding below last
  moved new name next place = record {
    named = next ∙ last.named ∙ ap (references bodies) (sym name);
    behind = λ k d less within. subst (λ (ns : Names). Contains order (get_or ns k d)) (sym next) (below k d (omega (arith, less, place)) (subst (λ (ns : Names). k < length ns) next within));
  }

  pub named_next : (q : List ℕ) → at < length step.next → q ≡ get_or step.next at q → Contains (references bodies step.name) q
  unfolding last
  named_next q within is = subst (λ (ns : Names). Contains ns q) last.named (at, within, sym is)

  -- the next name is on the path
  pub meets : (q : List ℕ) → slice_get step.next at ≡ Some q → mark_in marks q ≡ Some Open → Reaches (references bodies) q q
  meets q found is_open = closes bodies order path marks step q h is_open (named_next q (slice_get_within step.next at q found) (sym (get_or_from_slice_get step.next at q q found)))

past : (names : Names) (i : ℕ) → slice_get names i ≡ None → length names ≤ i
past names i none = elim (cases_lt i (length names)) [
  | inl less ↦ absurd (let both : Some (get_or names i []) ≡ None = sym (slice_get-get_or names i [] less) ∙ none in cc)
  | inr beyond ↦ beyond
]

pub skips_seen : (marks : Marks) (seen next : Names) (from at : ℕ) → seen ≡ next → ((k : ℕ) (d : List ℕ) → from ≤ k → k < at → mark_in marks (get_or seen k d) ≡ Some Placed) → Skips marks next from at
skips_seen marks seen next from at same over = subst (λ (ns : Names). Skips marks ns from at) same (record { over = over })

-- the name at the place that is found isn't placed
pub stops_at : (marks : Marks) (seen next : Names) (at : ℕ) (q : List ℕ) → seen ≡ next → ((name : List ℕ) → slice_get seen at ≡ Some name → mark_in marks name ≢ Some Placed)
    → slice_get next at ≡ Some q → mark_in marks q ≡ Some Placed → ⊥
stops_at marks seen next at q same stops found = stops q (ap (λ (ns : Names). slice_get ns at) same ∙ found)

-- the end of the path gets its place
pub goes_back : (bodies : Bodies) (old new : Search) (step : Step) (at : ℕ) → IsSearch bodies old.order.items (old.path.items ++ step ∷ []) old.marks.entries → Skips old.marks.entries step.next step.placed at → slice_get step.next at ≡ None
    → new.order.items ≡ old.order.items ++ step.name ∷ [] → new.path.items ≡ old.path.items → ((q : List ℕ) → mark_in new.marks.entries q ≡ marked_in old.marks.entries step.name Placed q) → GoesOn bodies old step new
goes_back bodies old new step at h skips none order path marks =
    let all : All (Contains old.order.items) (references bodies step.name) = all_placed bodies old.order.items old.path.items old.marks.entries step h at skips (past step.next at none) in
    let order_sound : IsSearch bodies new.order.items old.path.items new.marks.entries =
    subst (λ (ns : Names). IsSearch bodies ns old.path.items new.marks.entries) (sym order) (leaves bodies old.order.items old.path.items old.marks.entries new.marks.entries step h all marks) in
    record {
      sound = subst (λ (p : List Step). IsSearch bodies new.order.items p new.marks.entries) (sym path) order_sound;
      further = omega (arith, ap (λ (ns : Names). length ns) order, ap (λ (p : List Step). length p) path, length_push old.order.items step.name);
      keeps = λ q known. subst (λ (p : List Step). IsKnown new.order.items p q) (sym path) (subst (λ (ns : Names). IsKnown ns old.path.items q) (sym order) (known_left old.order.items old.path.items step q known));
    }

-- the next name comes behind the end of the path
pub goes_down : (bodies : Bodies) (old new : Search) (step further : Step) (q : List ℕ) (at : ℕ) → IsSearch bodies old.order.items (old.path.items ++ step ∷ []) old.marks.entries → Skips old.marks.entries step.next step.placed at
    → slice_get step.next at ≡ Some q → mark_in old.marks.entries q ≡ None → further.name ≡ step.name → further.next ≡ step.next → further.placed ≡ at
    → new.order.items ≡ old.order.items → new.path.items ≡ (old.path.items ++ further ∷ []) ++ opened bodies q ∷ [] → ((r : List ℕ) → mark_in new.marks.entries r ≡ marked_in old.marks.entries q Open r) → GoesOn bodies old step new
goes_down bodies old new step further q at h skips found none name next place order path marks =
    let moved_step : IsStep bodies old.order.items further = moved bodies old.order.items old.path.items old.marks.entries step h at skips further name next place in
    let before : IsSearch bodies old.order.items (old.path.items ++ further ∷ []) old.marks.entries = advances bodies old.order.items old.path.items old.marks.entries step further h name moved_step in
    let leads : Contains (references bodies further.name) q = subst (λ (n : List ℕ). Contains (references bodies n) q) (sym name) (named_next bodies old.order.items old.path.items old.marks.entries step h at skips q (slice_get_within step.next at q found) (sym (get_or_from_slice_get step.next at q q found))) in
    let link : IsPath (references bodies) (names_on (old.path.items ++ further ∷ []) ++ q ∷ []) =
    subst (λ (ns : Names). IsPath (references bodies) (ns ++ q ∷ [])) (sym (names_push old.path.items further))
    (path_push (references bodies) (names_on old.path.items) further.name q (subst (IsPath (references bodies)) (names_push old.path.items further) before.linked) leads) in
    let after : IsSearch bodies old.order.items ((old.path.items ++ further ∷ []) ++ opened bodies q ∷ []) new.marks.entries =
    enters bodies old.order.items (old.path.items ++ further ∷ []) old.marks.entries new.marks.entries q before link none marks in
    record {
      sound = subst (λ (p : List Step). IsSearch bodies new.order.items p new.marks.entries) (sym path) (subst (λ (ns : Names). IsSearch bodies ns ((old.path.items ++ further ∷ []) ++ opened bodies q ∷ []) new.marks.entries) (sym order) after);
      further = omega (arith, ap (λ (ns : Names). length ns) order, ap (λ (p : List Step). length p) path, length_push (old.path.items ++ further ∷ []) (opened bodies q), length_push old.path.items further);
      keeps = λ r known. subst (λ (p : List Step). IsKnown new.order.items p r) (sym path)
          (subst (λ (ns : Names). IsKnown ns ((old.path.items ++ further ∷ []) ++ opened bodies q ∷ []) r) (sym order) (known_entered old.order.items old.path.items step further (opened bodies q) r name known));
    }

-- where nothing is on the path, a name that isn't placed has no mark
pub rests_unmarked : (bodies : Bodies) (search : Search) (q : List ℕ) → IsRested bodies search → (mark_in search.marks.entries q ≡ Some Placed → ⊥) → mark_in search.marks.entries q ≡ None
rests_unmarked bodies search q h placed = no_mark search.marks.entries q placed (λ is_open. contains_nothing q (h.sound.marked.open_ones q is_open))

-- a common type and all that it reaches get their places: nothing that has its place loses it
pub record IsPlacing (bodies : Bodies) (first : Names) (start : List ℕ) (search : Search) : Type 0 where
  pub sound : IsSearch bodies search.order.items search.path.items search.marks.entries
  pub keeps : (q : List ℕ) → Contains first q → IsKnown search.order.items search.path.items q
  pub begun : IsKnown search.order.items search.path.items start

pub placing_first : (bodies : Bodies) (old new : Search) (start : List ℕ) → IsRested bodies old → mark_in old.marks.entries start ≡ None → new.order.items ≡ old.order.items → new.path.items ≡ old.path.items ++ opened bodies start ∷ []
    → ((q : List ℕ) → mark_in new.marks.entries q ≡ marked_in old.marks.entries start Open q) → IsPlacing bodies old.order.items start new
placing_first bodies old new start h none order path marks =
    let path_is : new.path.items ≡ opened bodies start ∷ [] = path ∙ ap (λ (p : List Step). p ++ opened bodies start ∷ []) h.no_path in
    let after : IsSearch bodies old.order.items (opened bodies start ∷ []) new.marks.entries = enters bodies old.order.items [] old.marks.entries new.marks.entries start h.sound (path_one (references bodies) start) none marks in
    record {
      sound = subst (λ (p : List Step). IsSearch bodies new.order.items p new.marks.entries) (sym path_is) (subst (λ (ns : Names). IsSearch bodies ns (opened bodies start ∷ []) new.marks.entries) (sym order) after);
      keeps = λ q has. inl (subst (λ (ns : Names). Contains ns q) (sym order) has);
      begun = inr (subst (λ (p : List Step). Contains (names_on p) start) (sym path_is) (contains_first start []));
    }

known_after : (bodies : Bodies) (popped : Search) (path : List Step) (step : Step) (new : Search) (q : List ℕ) → path ≡ popped.path.items ++ step ∷ [] → GoesOn bodies popped step new → IsKnown popped.order.items path q → IsKnown new.order.items new.path.items q
known_after bodies popped path step new q is goes known = goes.keeps q (subst (λ (p : List Step). IsKnown popped.order.items p q) is known)

pub placing_next : (bodies : Bodies) (first : Names) (start : List ℕ) (old popped new : Search) (step : Step) → IsPlacing bodies first start old → old.path.items ≡ popped.path.items ++ step ∷ [] → popped.order.items ≡ old.order.items → GoesOn bodies popped step new
    → IsPlacing bodies first start new
placing_next bodies first start old popped new step h path order goes = record {
  sound = goes.sound;
  keeps = λ q has. known_after bodies popped old.path.items step new q path goes (subst (λ (ns : Names). IsKnown ns old.path.items q) (sym order) (h.keeps q has));
  begun = known_after bodies popped old.path.items step new start path goes (subst (λ (ns : Names). IsKnown ns old.path.items start) (sym order) h.begun);
}

-- nothing is on the path any more
placed_known : (order : Names) (path : List Step) (q : List ℕ) → path ≡ [] → IsKnown order path q → Contains order q
placed_known order path q none (inl has) = has
placed_known order path q none (inr on) = absurd (contains_nothing q (subst (λ (p : List Step). Contains (names_on p) q) none on))

pub placing_last : (bodies : Bodies) (first : Names) (start : List ℕ) (old new : Search) → IsPlacing bodies first start old → old.path.items ≡ new.path.items ++ [] → new.path.items ≡ [] → new.order.items ≡ old.order.items → new.marks.entries ≡ old.marks.entries
    → IsRested bodies new × Contains new.order.items start × ((q : List ℕ) → Contains first q → Contains new.order.items q)
placing_last bodies first start old new h path new_none order marks =
    let old_none : old.path.items ≡ [] = path ∙ ap (λ (p : List Step). p ++ []) new_none in
    let rested : IsSearch bodies old.order.items [] old.marks.entries = subst (λ (p : List Step). IsSearch bodies old.order.items p old.marks.entries) old_none h.sound in (
      record { no_path = new_none; sound = subst (λ (ms : Marks). IsSearch bodies new.order.items [] ms) (sym marks) (subst (λ (ns : Names). IsSearch bodies ns [] old.marks.entries) (sym order) rested) },
      subst (λ (ns : Names). Contains ns start) (sym order) (placed_known old.order.items old.path.items start old_none h.begun),
      λ q has. subst (λ (ns : Names). Contains ns q) (sym order) (placed_known old.order.items old.path.items q old_none (h.keeps q has)),
    )

-- ---- one name after the other

-- the search stands still, and these names have their places
pub record ArePlaced (bodies : Bodies) (search : Search) (names : Names) (at : ℕ) : Type 0 where
  pub rested : IsRested bodies search
  pub all : (k : ℕ) (d : List ℕ) → k < at → Contains search.order.items (get_or names k d)

nothing_leads : (graph : Graph) → LeadsBack graph []
nothing_leads graph i within = absurd (omega (arith, within))

no_marks : (marks : Marks) → marks ≡ [] → AreMarks [] [] marks
no_marks marks none = record {
  placed = λ q is. absurd (let both : None ≡ Some Placed = sym (ap (λ (ms : Marks). mark_in ms q) none) ∙ is in cc);
  open_ones = λ q is. absurd (let both : None ≡ Some Open = sym (ap (λ (ms : Marks). mark_in ms q) none) ∙ is in cc);
}

pub placed_first : (bodies : Bodies) (search : Search) (names : Names) → search.order.items ≡ [] → search.path.items ≡ [] → search.marks.entries ≡ [] → ArePlaced bodies search names 0
unfolding IsPath
placed_first bodies search names order path marks =
    let sound : IsSearch bodies [] [] search.marks.entries = record { leads_back = nothing_leads (references bodies); linked = tt; steps = tt; marked = no_marks search.marks.entries marks; once = once_first search.marks.entries } in
    record {
      rested = record { no_path = path; sound = subst (λ (ns : Names). IsSearch bodies ns [] search.marks.entries) (sym order) sound };
      all = λ k d below. absurd (omega (arith, below));
    }

placed_at : (order names : Names) (at k : ℕ) (d name : List ℕ) → at < length names → name ≡ get_or names at name → Contains order name → k ≡ at → Contains order (get_or names k d)
placed_at order names at k d name within is has same = subst (Contains order) (is ∙ get_or_default names at name d within ∙ sym (ap (λ (i : ℕ). get_or names i d) same)) has

pub placed_next : (bodies : Bodies) (old new : Search) (names : Names) (at : ℕ) (name : List ℕ) → ArePlaced bodies old names at → at < length names → name ≡ get_or names at name
    → IsRested bodies new × Contains new.order.items name × ((q : List ℕ) → Contains old.order.items q → Contains new.order.items q) → ArePlaced bodies new names (at + 1)
placed_next bodies old new names at name h within is more = record {
  rested = more.0;
  all = λ k d below. elim (cases_lt k at) [
    | inl earlier ↦ more.2 (get_or names k d) (h.all k d earlier)
    | inr last ↦ placed_at new.order.items names at k d name within is more.1 (omega (arith, below, last))
  ];
}

pub placed_last : (bodies : Bodies) (search : Search) (names order : Names) (at : ℕ) → ArePlaced bodies search names at → length names ≤ at → order ≡ search.order.items → All (Contains order) names × LeadsBack (references bodies) order × IsDistinct bytes_eq order
placed_last bodies search names order at h beyond is = (
  λ k d within. subst (λ (ns : Names). Contains ns (get_or names k d)) (sym is) (h.all k d (omega (arith, within, beyond))),
  subst (LeadsBack (references bodies)) (sym is) h.rested.sound.leads_back,
  subst (IsDistinct bytes_eq) (sym is) h.rested.sound.once.order_once,
)
