-- What a search for cycles keeps at each of its steps.
use Rattle.std.proofs.Common.{◌≡◌, ◌≢◌, ◌⊎◌, ◌<◌, ◌≤◌, ◌+◌, ◌-◌, ◌↔◌, ℕ, List, [], ◌∷◌, ◌++◌, Bool, true, false, cond, length, get_or, nat_eq, refl, sym, ap, subst, ◌∙◌, inl, inr, arith, Contains}
use Rattle.std.proofs.lemmas.Bool.{cases_lt, cases_eq}
use Rattle.std.proofs.lemmas.Bool.Decides.{nat_tests}
use Rattle.std.proofs.lemmas.List.{get_or_append_left, get_or_push, get_or-append_right, length_push, length-append}
use Rattle.std.proofs.lemmas.List.Elements.{Contains-push, Contains-push_cases, Contains-append_left}
use Rattle.sc_graphs.specs.declared.path.Mark.{Mark}
use Rattle.sc_graphs.specs.declared.path.Mark.TheVariants.{New, OnPath, Left}
use Rattle.sc_graphs.specs.declared.path.Part.{Part}
use Rattle.sc_graphs.specs.Reaching.{Reaches, step}
use Rattle.sc_graphs.specs.Graphs.{successors, Follows}
use Rattle.sc_graphs.specs.Paths.{mark_in, node_at, Leads, AreOn, IsMarked, IsPart, AreParts, IsPassed, is_left, is_on, Waits, bound, IsPending, IsSearch, nothing, entered, IsJoined}
use Rattle.sc_graphs.proofs.PartLaws.{parts_pop, parts_push, parts_below, parts_same}
use Rattle.sc_graphs.proofs.ReachesLaws.{further, led, leads_on}
use Rattle.sc_graphs.proofs.SearchLaws.{stands, has_one}

-- ---- marks

pub left_not_new : {P : Type 0} {b : Bool} → Left b ≡ New → P
left_not_new h = absurd cc

pub on_not_new : {P : Type 0} {t : ℕ} → OnPath t ≡ New → P
on_not_new h = absurd cc

pub left_not_on : {P : Type 0} {b : Bool} {t : ℕ} → Left b ≡ OnPath t → P
left_not_on h = absurd cc

pub same_left : {a b : Bool} → Left a ≡ Left b → a ≡ b
same_left h = cc

pub same_on : {a b : ℕ} → OnPath a ≡ OnPath b → a ≡ b
same_on h = cc

pub known : (P : Type 0) (m : Mark) → (m ≡ New → P) → ((t : ℕ) → m ≡ OnPath t → P) → ((b : Bool) → m ≡ Left b → P) → P
known P New f g h = f refl
known P (OnPath t) f g h = g t refl
known P (Left b) f g h = h b refl

-- ---- one node is taken from those that wait

pub record HasSource (graph : List (List ℕ)) (path : List ℕ) (part : Part) (n : ℕ) : Type 0 where
  pub place : ℕ
  pub from : part.first ≤ place
  pub within : place < length path
  pub leads : Follows graph (node_at path place) n

module _ (graph : List (List ℕ)) (marks : List Mark) (path : List ℕ) (front : List Part) (part : Part) (waiting : List ℕ) (n : ℕ)
    (s : IsSearch graph marks path (front ++ part ∷ []) (waiting ++ n ∷ []) nothing) (some : part.waiting ≤ length waiting) where
  long : length (waiting ++ n ∷ []) ≡ length waiting + 1
  long = length_push waiting n

  popped : AreParts graph path (waiting ++ n ∷ []) front part.first part.waiting × IsPart graph path (waiting ++ n ∷ []) part (length path) (length (waiting ++ n ∷ []))
  popped = parts_pop front part (length path) (length (waiting ++ n ∷ [])) s.covered

  agree : (k : ℕ) → k < length waiting → get_or waiting k 0 ≡ get_or (waiting ++ n ∷ []) k 0
  agree k less = sym (get_or_append_left waiting (n ∷ []) 0 k less)

  shorter : IsPart graph path waiting part (length path) (length waiting)
  unfolding popped long agree
  shorter = record {
    some = popped.1.some;
    waits = some;
    back = popped.1.back;
    alone = popped.1.alone;
    round = popped.1.round;
    fed = λ k from below. (let q = popped.1.fed k from (omega (arith, below, long)) in (q.0, q.1, q.2, subst (λ (m : ℕ). Follows graph (node_at path q.0) m) (sym (agree k below)) q.3));
  }

  waits_or : (from m : ℕ) → Waits (waiting ++ n ∷ []) from m → Waits waiting from m ⊎ (m ≡ n)
  unfolding long agree
  waits_or from m w = elim (cases_lt w.0 (length waiting)) [
    | inl less ↦ inl (w.0, w.1, less, agree w.0 less ∙ w.3)
    | inr more ↦ inr (let below : w.0 < length (waiting ++ n ∷ []) = w.2 in let last : length waiting ≡ w.0 = omega (arith, long, more, below) in sym w.3 ∙ get_or_push waiting n 0 w.0 last)
  ]

  pub taken : IsSearch graph marks path (front ++ part ∷ []) waiting (λ m. m ≡ n)
  unfolding shorter popped agree waits_or
  taken = record {
    nodes = s.nodes;
    covered = parts_push front part (length path) (length waiting)
        (parts_same front part.first part.waiting (λ p below. refl) (λ k below. agree k (omega (arith, below, some))) popped.0) shorter;
    pending = λ q has. record { each = λ p m from within leads. or_taken q m ((s.pending q has).each p m from within leads) };
  } where
    or_taken : (q : Part) (m : ℕ) → IsPassed marks (bound q) m ⊎ (Waits (waiting ++ n ∷ []) q.waiting m ⊎ nothing m) → IsPassed marks (bound q) m ⊎ (Waits waiting q.waiting m ⊎ (m ≡ n))
    or_taken q m (inl passed) = inl passed
    or_taken q m (inr (inl w)) = inr (waits_or q.waiting m w)
    or_taken q m (inr (inr never)) = absurd never

  pub source : HasSource graph path part n
  unfolding popped long
  source = (let q = popped.1.fed (length waiting) some (omega (arith, long)) in record {
    place = q.0;
    from = q.1;
    within = q.2;
    leads = subst (λ (m : ℕ). Follows graph (node_at path q.0) m) (get_or_push waiting n 0 (length waiting) refl) q.3;
  })

  -- each node of the path reaches it
  pub all_reach : (p : ℕ) → p < length path → Reaches (Follows graph) (node_at path p) n
  unfolding source popped
  all_reach p within = elim (cases_lt source.place p) [
    | inl later ↦ led (popped.1.back p (let f : part.first ≤ source.place = source.from in omega (arith, later, f)) within) (from_first (cases_eq part.first source.place))
    | inr before ↦ up_to p (cases_eq p source.place) before
  ] where
    last : Reaches (Follows graph) (node_at path source.place) n
    last = step (node_at path source.place) n source.leads

    from_first : (part.first ≡ source.place) ⊎ (part.first ≢ source.place) → Reaches (Follows graph) (node_at path part.first) n
    from_first (inl same) = subst (λ (q : ℕ). Reaches (Follows graph) (node_at path q) n) (sym same) last
    from_first (inr other) = further (s.nodes.chain part.first source.place (let f : part.first ≤ source.place = source.from in omega (arith, other, f)) source.within) last

    up_to : (q : ℕ) → (q ≡ source.place) ⊎ (q ≢ source.place) → q ≤ source.place → Reaches (Follows graph) (node_at path q) n
    up_to q (inl same) under = subst (λ (r : ℕ). Reaches (Follows graph) (node_at path r) n) (sym same) last
    up_to q (inr other) under = further (s.nodes.chain q source.place (omega (arith, other, under)) source.within) last

-- ---- it was left before

pub passes_left : {graph : List (List ℕ)} {marks : List Mark} {path : List ℕ} {parts : List Part} {waiting : List ℕ} (n : ℕ) (b : Bool)
    → IsSearch graph marks path parts waiting (λ m. m ≡ n) → mark_in marks n ≡ Left b → IsSearch graph marks path parts waiting nothing
passes_left {graph} {marks} {path} {parts} {waiting} n b s is = record {
  nodes = s.nodes;
  covered = s.covered;
  pending = λ q has. record { each = λ p m from within leads. drop q m ((s.pending q has).each p m from within leads) };
} where
  drop : (q : Part) (m : ℕ) → IsPassed marks (bound q) m ⊎ (Waits waiting q.waiting m ⊎ (m ≡ n)) → IsPassed marks (bound q) m ⊎ (Waits waiting q.waiting m ⊎ nothing m)
  drop q m (inl passed) = inl passed
  drop q m (inr (inl w)) = inr (inl w)
  drop q m (inr (inr same)) = inl (is_left b (ap (mark_in marks) same ∙ is))

-- ---- it is new

pub by_eq : (P : Type 0) (n m : ℕ) (a b c : Mark) → c ≡ cond (nat_eq n m) a b → (n ≡ m → c ≡ a → P) → (n ≢ m → c ≡ b → P) → P
by_eq P n m a b c h f g = elim (cases_eq n m) [
  | inl same ↦ f same (h ∙ ap (λ (t : Bool). cond t a b) (is_eq n m same))
  | inr other ↦ g other (h ∙ ap (λ (t : Bool). cond t a b) (not_eq n m other))
] where
  is_eq : (x y : ℕ) → x ≡ y → nat_eq x y ≡ true
  is_eq x y e = grind (arith, nat_tests)

  not_eq : (x y : ℕ) → x ≢ y → nat_eq x y ≡ false
  not_eq x y e = grind (arith, nat_tests)

bound_under : (b : Bool) (f e : ℕ) → f < e → cond b f (f + 1) ≤ e
bound_under true f e h = omega (arith, h)
bound_under false f e h = omega (arith, h)

bound_least : (b : Bool) (f : ℕ) → f ≤ cond b f (f + 1)
bound_least true f = omega arith
bound_least false f = omega arith

module _ (graph : List (List ℕ)) (marks : List Mark) (path : List ℕ) (parts : List Part) (waiting : List ℕ) (n : ℕ)
    (s : IsSearch graph marks path parts waiting (λ m. m ≡ n)) (new : mark_in marks n ≡ New)
    (reach : (p : ℕ) → p < length path → Reaches (Follows graph) (node_at path p) n)
    (others : List Mark) (put : (m : ℕ) → mark_in others m ≡ cond (nat_eq n m) (OnPath (length path)) (mark_in marks m)) where
  cases : (P : Type 0) (m : ℕ) → (n ≡ m → mark_in others m ≡ OnPath (length path) → P) → (n ≢ m → mark_in others m ≡ mark_in marks m → P) → P
  cases P m = by_eq P n m (OnPath (length path)) (mark_in marks m) (mark_in others m) (put m)

  kept : (m : ℕ) → n ≢ m → mark_in others m ≡ mark_in marks m
  kept m other = cases (mark_in others m ≡ mark_in marks m) m (λ same is. absurd (other same)) (λ _ is. is)

  here : mark_in others n ≡ OnPath (length path)
  here = cases (mark_in others n ≡ OnPath (length path)) n (λ same is. is) (λ other is. absurd (other refl))

  not_new : (m : ℕ) → (mark_in marks m ≡ New → ⊥) → n ≢ m
  not_new m h same = h (ap (mark_in marks) (sym same) ∙ new)

  extended : length (path ++ n ∷ []) ≡ length path + 1
  extended = length_push path n

  old_place : (p : ℕ) → p < length path → node_at (path ++ n ∷ []) p ≡ node_at path p
  old_place p below = get_or_append_left path (n ∷ []) 0 p below

  last_place : node_at (path ++ n ∷ []) (length path) ≡ n
  last_place = get_or_push path n 0 (length path) refl

  on_now : AreOn others (path ++ n ∷ [])
  unfolding cases kept here not_new extended old_place last_place
  on_now = record {
    places = λ m t is. cases ((t < length (path ++ n ∷ [])) × (node_at (path ++ n ∷ []) t ≡ m)) m
        (λ same at. (let e : length path ≡ t = same_on (sym at ∙ is) in (omega (arith, e, extended), ap (node_at (path ++ n ∷ [])) (sym e) ∙ (last_place ∙ same))))
        (λ other at. (let old = s.nodes.on.places m t (sym at ∙ is) in let less : t < length path = old.0 in (omega (arith, less, extended), old_place t less ∙ old.1)));
    marked = λ p below. elim (cases_lt p (length path)) [
      | inl less ↦ (let was = s.nodes.on.marked p less in let other : n ≢ node_at path p = not_new (node_at path p) (λ is. on_not_new (sym was ∙ is)) in
          ap (mark_in others) (old_place p less) ∙ (kept (node_at path p) other ∙ was))
      | inr more ↦ (let e : length path ≡ p = omega (arith, below, more, extended) in ap (mark_in others) (ap (node_at (path ++ n ∷ [])) (sym e) ∙ last_place) ∙ (here ∙ ap OnPath e))
    ];
  }

  marked_now : IsMarked graph others (path ++ n ∷ [])
  unfolding cases kept here not_new extended old_place last_place on_now
  marked_now = record {
    on = on_now;
    settled = λ m b is. cases ((b ≡ true) ↔ Reaches (Follows graph) m m) m (λ same at. left_not_on (sym is ∙ at)) (λ other at. s.nodes.settled m b (sym at ∙ is));
    closed = λ m k b is leads. cases ((c : Bool) × (mark_in others k ≡ Left c)) m (λ same at. left_not_on (sym is ∙ at))
        (λ other at. (let old = s.nodes.closed m k b (sym at ∙ is) leads in (old.0, kept k (not_new k (λ e. left_not_new (sym old.1 ∙ e))) ∙ old.1)));
    chain = λ p q less below. elim (cases_lt q (length path)) [
      | inl inside ↦ subst (λ (a : ℕ). Reaches (Follows graph) a (node_at (path ++ n ∷ []) q)) (sym (old_place p (omega (arith, less, inside))))
          (subst (λ (b : ℕ). Reaches (Follows graph) (node_at path p) b) (sym (old_place q inside)) (s.nodes.chain p q less inside))
      | inr more ↦ (let e : length path ≡ q = omega (arith, below, more, extended) in
          subst (λ (a : ℕ). Reaches (Follows graph) a (node_at (path ++ n ∷ []) q)) (sym (old_place p (omega (arith, less, e))))
          (subst (λ (b : ℕ). Reaches (Follows graph) (node_at path p) b) (sym (ap (node_at (path ++ n ∷ [])) (sym e) ∙ last_place)) (reach p (omega (arith, less, e)))))
    ];
  }

  abbrev now_waiting : List ℕ
  now_waiting = waiting ++ successors graph n

  longer : length now_waiting ≡ length waiting + length (successors graph n)
  longer = length-append waiting (successors graph n)

  -- what follows the node waits
  follows_waits : (from m : ℕ) → from ≤ length waiting → Follows graph n m → Waits now_waiting from m
  unfolding longer
  follows_waits from m under leads = (let at = stands (successors graph n) m leads in let less : at.0 < length (successors graph n) = at.1 in (
    length waiting + at.0,
    omega (arith, under),
    omega (arith, less, longer),
    get_or-append_right waiting (successors graph n) (length waiting) (length waiting + at.0) 0 refl (omega arith)
        ∙ (ap (λ (k : ℕ). get_or (successors graph n) k 0) (let e : length waiting + at.0 - length waiting ≡ at.0 = omega arith in e) ∙ at.2),
  ))

  waits_still : (from m : ℕ) → Waits waiting from m → Waits now_waiting from m
  unfolding longer
  waits_still from m w = (w.0, w.1, (let less : w.0 < length waiting = w.2 in omega (arith, less, longer)), get_or_append_left waiting (successors graph n) 0 w.0 w.2 ∙ w.3)

  parts_now : AreParts graph (path ++ n ∷ []) now_waiting (parts ++ entered path waiting ∷ []) (length (path ++ n ∷ [])) (length now_waiting)
  unfolding longer extended old_place last_place
  parts_now = parts_push parts (entered path waiting) (length (path ++ n ∷ [])) (length now_waiting)
      (parts_same parts (length path) (length waiting) old_place (λ k below. get_or_append_left waiting (successors graph n) 0 k below) s.covered)
      (record {
        some = omega (arith, extended);
        waits = omega (arith, longer);
        back = λ p from below. inl (ap (node_at (path ++ n ∷ [])) (let e : p ≡ length path = omega (arith, from, below, extended) in e));
        alone = λ _. extended;
        round = λ is. absurd (let no : false ≡ true = is in cc);
        fed = λ k from below. (
          length path,
          omega arith,
          omega (arith, extended),
          subst (λ (a : ℕ). Follows graph a (get_or now_waiting k 0)) (sym last_place)
              (subst (λ (m : ℕ). Follows graph n m) (sym (get_or-append_right waiting (successors graph n) (length waiting) k 0 refl from)) (has_one (successors graph n) (k - length waiting) (omega (arith, from, below, longer)))),
        );
      })

  pending_now : (q : Part) → q.first ≤ length path → q.waiting ≤ length waiting
      → ((p m : ℕ) → q.first ≤ p → p < length path → Follows graph (node_at path p) m → IsPassed marks (bound q) m ⊎ (Waits waiting q.waiting m ⊎ (m ≡ n)))
      → (q.first < length path) ⊎ (q.first ≡ length path) → IsPending graph others (path ++ n ∷ []) now_waiting q nothing
  unfolding kept here not_new extended old_place last_place follows_waits waits_still
  pending_now q under early each old = record {
    each = λ p m from below leads. elim (cases_lt p (length path)) [
      | inl less ↦ carry m old (λ is. (let f : q.first ≤ p = from in omega (arith, is, f, less))) (each p m from less (subst (λ (a : ℕ). Follows graph a m) (old_place p less) leads))
      | inr more ↦ (let e : length path ≡ p = omega (arith, below, more, extended) in
          inr (inl (follows_waits q.waiting m early (subst (λ (a : ℕ). Follows graph a m) (ap (node_at (path ++ n ∷ [])) (sym e) ∙ last_place) leads))))
    ];
  } where
    carry : (m : ℕ) → (q.first < length path) ⊎ (q.first ≡ length path) → (q.first ≡ length path → ⊥) → IsPassed marks (bound q) m ⊎ (Waits waiting q.waiting m ⊎ (m ≡ n))
        → IsPassed others (bound q) m ⊎ (Waits now_waiting q.waiting m ⊎ nothing m)
    carry m o never (inl (is_left b is)) = inl (is_left b (kept m (not_new m (λ e. left_not_new (sym is ∙ e))) ∙ is))
    carry m o never (inl (is_on t is above)) = inl (is_on t (kept m (not_new m (λ e. on_not_new (sym is ∙ e))) ∙ is) above)
    carry m o never (inr (inl w)) = inr (inl (waits_still q.waiting m w))
    carry m (inl less) never (inr (inr same)) = inl (is_on (length path) (ap (mark_in others) same ∙ here) (bound_under q.cyclic q.first (length path) less))
    carry m (inr last) never (inr (inr same)) = absurd (never last)

  pub enters : IsSearch graph others (path ++ n ∷ []) (parts ++ entered path waiting ∷ []) now_waiting nothing
  unfolding marked_now parts_now pending_now
  enters = record {
    nodes = marked_now;
    covered = parts_now;
    pending = λ q has. pick q (Contains-push_cases parts (entered path waiting) q has);
  } where
    pick : (q : Part) → Contains parts q ⊎ (entered path waiting ≡ q) → IsPending graph others (path ++ n ∷ []) now_waiting q nothing
    pick q (inl found) = (let below = parts_below parts (length path) (length waiting) s.covered q found in let less : q.first < length path = below.0 in
        pending_now q (omega (arith, less)) below.1 (λ p m from within leads. (s.pending q found).each p m from within leads) (inl less))
    pick q (inr is) = subst (λ (r : Part). IsPending graph others (path ++ n ∷ []) now_waiting r nothing) is
        (pending_now (entered path waiting) (omega arith) (omega arith) (λ p m from within leads. absurd (let f : length path ≤ p = from in omega (arith, f, within))) (inr refl))

-- ---- it is on the path

module _ (graph : List (List ℕ)) (marks : List Mark) (path : List ℕ) (front others : List Part) (part joined : Part) (waiting : List ℕ) (n place : ℕ)
    (s : IsSearch graph marks path (front ++ part ∷ []) waiting (λ m. m ≡ n)) (at : mark_in marks n ≡ OnPath place)
    (reach : (p : ℕ) → p < length path → Reaches (Follows graph) (node_at path p) n)
    (j : IsJoined graph path waiting (front ++ part ∷ []) others joined place (length path) (length waiting)) where
  there : Contains (front ++ part ∷ []) j.part
  there = j.joining.kept j.part (Contains-push others j.part)

  under : j.part.first < length path
  unfolding there
  under = (parts_below (front ++ part ∷ []) (length path) (length waiting) s.covered j.part there).0

  here_on : (place < length path) × (node_at path place ≡ n)
  here_on = s.nodes.on.places n place at

  to_first : (p : ℕ) → p < length path → Reaches (Follows graph) (node_at path p) (node_at path j.part.first)
  unfolding here_on
  to_first p within = leads_on (reach p within) (subst (λ (a : ℕ). Leads graph a (node_at path j.part.first)) here_on.1 (j.joining.is.back place j.reaches j.joining.inside))

  joined_part : IsPart graph path waiting (record { first = j.part.first; waiting = j.part.waiting; cyclic = true }) (length path) (length waiting)
  unfolding under to_first
  joined_part = record {
    some = under;
    waits = j.joining.waits;
    back = λ p from below. inr (to_first p below);
    alone = λ is. absurd (let no : true ≡ false = is in cc);
    round = λ is. to_first j.part.first under;
    fed = j.joining.fed;
  }

  drop_passed : (q : Part) → bound q ≤ place → IsPending graph marks path waiting q (λ m. m ≡ n) → IsPending graph marks path waiting q nothing
  drop_passed q less h = record { each = λ p m from within leads. pick m (h.each p m from within leads) } where
    pick : (m : ℕ) → IsPassed marks (bound q) m ⊎ (Waits waiting q.waiting m ⊎ (m ≡ n)) → IsPassed marks (bound q) m ⊎ (Waits waiting q.waiting m ⊎ nothing m)
    pick m (inl passed) = inl passed
    pick m (inr (inl w)) = inr (inl w)
    pick m (inr (inr same)) = inl (is_on place (ap (mark_in marks) same ∙ at) less)

  joined_pending : IsPending graph marks path waiting j.part (λ m. m ≡ n) → IsPending graph marks path waiting (record { first = j.part.first; waiting = j.part.waiting; cyclic = true }) nothing
  joined_pending h = record { each = λ p m from within leads. pick m (h.each p m from within leads) } where
    pick : (m : ℕ) → IsPassed marks (bound j.part) m ⊎ (Waits waiting j.part.waiting m ⊎ (m ≡ n)) → IsPassed marks j.part.first m ⊎ (Waits waiting j.part.waiting m ⊎ nothing m)
    pick m (inl (is_left b is)) = inl (is_left b is)
    pick m (inl (is_on t is above)) = inl (is_on t is (let b : j.part.first ≤ bound j.part = bound_least j.part.cyclic j.part.first in omega (arith, b, above)))
    pick m (inr (inl w)) = inr (inl w)
    pick m (inr (inr same)) = inl (is_on place (ap (mark_in marks) same ∙ at) j.reaches)

  pub joins : IsSearch graph marks path (others ++ joined ∷ []) waiting nothing
  unfolding joined_part there drop_passed joined_pending
  joins = subst (λ (q : Part). IsSearch graph marks path (others ++ q ∷ []) waiting nothing) (sym j.is) (record {
    nodes = s.nodes;
    covered = parts_push others (record { first = j.part.first; waiting = j.part.waiting; cyclic = true }) (length path) (length waiting) j.joining.before joined_part;
    pending = λ q has. pick q (Contains-push_cases others (record { first = j.part.first; waiting = j.part.waiting; cyclic = true }) q has);
  }) where
    pick : (q : Part) → Contains others q ⊎ (record { first = j.part.first; waiting = j.part.waiting; cyclic = true } ≡ q) → IsPending graph marks path waiting q nothing
    pick q (inl found) = (let below : q.first < j.part.first = (parts_below others j.part.first j.part.waiting j.joining.before q found).0 in let reaches : j.part.first ≤ place = j.reaches in
        drop_passed q (bound_under q.cyclic q.first place (omega (arith, below, reaches))) (s.pending q (j.joining.kept q (Contains-append_left others (j.part ∷ []) q found))))
    pick q (inr is) = subst (λ (r : Part). IsPending graph marks path waiting r nothing) is (joined_pending (s.pending j.part there))
