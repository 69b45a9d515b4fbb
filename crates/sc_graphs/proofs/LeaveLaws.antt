-- A part of the path is left; and what a search has found where it ends.
use Rattle.std.proofs.Common.{◌≡◌, ◌≢◌, ◌⊎◌, ◌<◌, ◌≤◌, ◌+◌, ◌↔◌, ◌&&◌, ℕ, zero, suc, List, [], ◌∷◌, ◌++◌, Bool, true, false, cond, length, take, set, get_or, nat_le, nat_lt, refl, sym, ap, subst, ◌∙◌, inl, inr, arith, Contains}
use Rattle.std.proofs.lemmas.Bool.{cases_lt, cases_eq}
use Rattle.std.proofs.lemmas.Bool.Decides.{nat_tests}
use Rattle.std.proofs.lemmas.List.{get_or-take, length-take-le, get_or-set_same, get_or-set_other, get_or_default}
use Rattle.std.proofs.lemmas.List.Elements.{Contains-push, Contains-append_left}
use Rattle.std.proofs.Math.ListN.{get_or-eq_default}
use Rattle.sc_graphs.specs.declared.path.Mark.{Mark}
use Rattle.sc_graphs.specs.declared.path.Mark.TheVariants.{New, OnPath, Left}
use Rattle.sc_graphs.specs.declared.path.Part.{Part}
use Rattle.sc_graphs.specs.Reaching.{Reaches, step, on}
use Rattle.sc_graphs.specs.Graphs.{Follows}
use Rattle.sc_graphs.specs.Paths.{mark_in, node_at, Leads, AreOn, IsMarked, IsPart, AreParts, IsPassed, is_left, is_on, Waits, bound, IsPending, IsSearch, nothing, left_from, Goes, unmet}
use Rattle.sc_graphs.proofs.PartLaws.{parts_pop, parts_same}
use Rattle.sc_graphs.proofs.ReachesLaws.{further}
use Rattle.sc_graphs.proofs.PathLaws.{left_not_new, on_not_new, left_not_on, same_left, known}

-- ---- marks as a part is left

between : (f e t : ℕ) → f ≤ t → t < e → (nat_le f t && nat_lt t e) ≡ true
between f e t h k = grind (arith, nat_tests)

before_it : (f e t : ℕ) → t < f → (nat_le f t && nat_lt t e) ≡ false
before_it f e t h = grind (arith, nat_tests)

behind_it : (f e t : ℕ) → e ≤ t → (nat_le f t && nat_lt t e) ≡ false
behind_it f e t h = grind (arith, nat_tests)

pub left_inside : (f e t : ℕ) (c : Bool) (m : Mark) → m ≡ OnPath t → f ≤ t → t < e → left_from f e c m ≡ Left c
left_inside f e t c m is h k = ap (left_from f e c) is ∙ ap (λ (b : Bool). cond b (Left c) (OnPath t)) (between f e t h k)

pub left_before : (f e t : ℕ) (c : Bool) (m : Mark) → m ≡ OnPath t → t < f → left_from f e c m ≡ OnPath t
left_before f e t c m is h = ap (left_from f e c) is ∙ ap (λ (b : Bool). cond b (Left c) (OnPath t)) (before_it f e t h)

pub left_behind : (f e t : ℕ) (c : Bool) (m : Mark) → m ≡ OnPath t → e ≤ t → left_from f e c m ≡ OnPath t
left_behind f e t c m is h = ap (left_from f e c) is ∙ ap (λ (b : Bool). cond b (Left c) (OnPath t)) (behind_it f e t h)

pub left_none : (f : ℕ) (c : Bool) (m : Mark) → m ≡ left_from f f c m
left_none f c New = refl
left_none f c (Left b) = refl
left_none f c (OnPath t) = elim (cases_lt t f) [
  | inl less ↦ sym (left_before f f t c (OnPath t) refl less)
  | inr more ↦ sym (left_behind f f t c (OnPath t) refl more)
]

-- where one more place is left, the marks of nodes at other places are as they were
pub left_more : (f e : ℕ) (c : Bool) (m : Mark) → m ≢ OnPath e → left_from f (e + 1) c m ≡ left_from f e c m
left_more f e c New other = refl
left_more f e c (Left b) other = refl
left_more f e c (OnPath t) other = elim (cases_lt t f) [
  | inl less ↦ left_before f (e + 1) t c (OnPath t) refl less ∙ sym (left_before f e t c (OnPath t) refl less)
  | inr more ↦ pick more (cases_lt t e)
] where
  pick : f ≤ t → (t < e) ⊎ (e ≤ t) → left_from f (e + 1) c (OnPath t) ≡ left_from f e c (OnPath t)
  pick more (inl less) = left_inside f (e + 1) t c (OnPath t) refl more (omega (arith, less)) ∙ sym (left_inside f e t c (OnPath t) refl more less)
  pick more (inr later) = elim (cases_eq e t) [
    | inl same ↦ absurd (other (ap OnPath (sym same)))
    | inr apart ↦ left_behind f (e + 1) t c (OnPath t) refl (omega (arith, later, apart)) ∙ sym (left_behind f e t c (OnPath t) refl later)
  ]

-- places past the path mark nothing
pub left_past : (f e g : ℕ) (c : Bool) (m : Mark) → e ≤ g → ((t : ℕ) → m ≡ OnPath t → t < e) → left_from f g c m ≡ left_from f e c m
left_past f e g c New more within = refl
left_past f e g c (Left b) more within = refl
left_past f e g c (OnPath t) more within = elim (cases_lt t f) [
  | inl less ↦ left_before f g t c (OnPath t) refl less ∙ sym (left_before f e t c (OnPath t) refl less)
  | inr above ↦ left_inside f g t c (OnPath t) refl above (let inside : t < e = within t refl in omega (arith, inside, more)) ∙ sym (left_inside f e t c (OnPath t) refl above (within t refl))
]

pub node_read : (path : List ℕ) (place n : ℕ) → place < length path → n ≡ get_or path place n → n ≡ node_at path place
node_read path place n within is = is ∙ get_or_default path place n 0 within

marked_within : (marks : List Mark) (n t : ℕ) → mark_in marks n ≡ OnPath t → n < length marks
marked_within marks n t is = elim (cases_lt n (length marks)) [
  | inl less ↦ less
  | inr more ↦ left_not_on (sym (get_or-eq_default marks (Left false) more) ∙ is)
]

pub new_within : (marks : List Mark) (n : ℕ) → mark_in marks n ≡ New → n < length marks
new_within marks n is = elim (cases_lt n (length marks)) [
  | inl less ↦ less
  | inr more ↦ left_not_new (sym (get_or-eq_default marks (Left false) more) ∙ is)
]

-- ---- how many nodes were not met

pub unmet_entered : (marks : List Mark) (n t : ℕ) → mark_in marks n ≡ New → suc (unmet (set marks n (OnPath t))) ≡ unmet marks
unmet_entered [] n t is = left_not_new is
unmet_entered (New ∷ marks) zero t is = refl
unmet_entered (Left b ∷ marks) zero t is = left_not_new is
unmet_entered (OnPath u ∷ marks) zero t is = on_not_new is
unmet_entered (New ∷ marks) (suc n) t is = ap suc (unmet_entered marks n t is)
unmet_entered (Left b ∷ marks) (suc n) t is = unmet_entered marks n t is
unmet_entered (OnPath u ∷ marks) (suc n) t is = unmet_entered marks n t is

pub unmet_left : (marks : List Mark) (n t : ℕ) (b : Bool) → mark_in marks n ≡ OnPath t → unmet (set marks n (Left b)) ≡ unmet marks
unmet_left [] n t b is = left_not_on is
unmet_left (New ∷ marks) zero t b is = on_not_new (sym is)
unmet_left (Left c ∷ marks) zero t b is = left_not_on is
unmet_left (OnPath u ∷ marks) zero t b is = refl
unmet_left (New ∷ marks) (suc n) t b is = ap suc (unmet_left marks n t b is)
unmet_left (Left c ∷ marks) (suc n) t b is = unmet_left marks n t b is
unmet_left (OnPath u ∷ marks) (suc n) t b is = unmet_left marks n t b is

-- ---- the loop over the places of a part

pub record AreLeft (old now : List Mark) (first place : ℕ) (cyclic : Bool) : Type 0 where
  pub marks : (n : ℕ) → mark_in now n ≡ left_from first place cyclic (mark_in old n)
  pub count : unmet now ≡ unmet old

pub are_left_first : (old : List Mark) (first : ℕ) (cyclic : Bool) → AreLeft old old first first cyclic
are_left_first old first cyclic = record { marks = λ n. left_none first cyclic (mark_in old n); count = refl }

module _ (old now : List Mark) (path : List ℕ) (first place n : ℕ) (cyclic : Bool) (h : AreLeft old now first place cyclic) (on : AreOn old path) (above : first ≤ place) (below : place < length path) (is : n ≡ node_at path place) where
  was : mark_in old n ≡ OnPath place
  was = ap (mark_in old) is ∙ on.marked place below

  still : mark_in now n ≡ OnPath place
  unfolding was
  still = h.marks n ∙ left_behind first place place cyclic (mark_in old n) was (omega arith)

  pub left_within : n < length now
  unfolding still
  left_within = marked_within now n place still

  pub are_left_next : AreLeft old (set now n (Left cyclic)) first (place + 1) cyclic
  unfolding was still left_within
  are_left_next = record {
    marks = λ m. elim (cases_eq m n) [
      | inl same ↦ ap (mark_in (set now n (Left cyclic))) same ∙ (get_or-set_same now n (Left cyclic) (Left false) left_within
          ∙ sym (left_inside first (place + 1) place cyclic (mark_in old m) (ap (mark_in old) same ∙ was) above (omega arith)))
      | inr other ↦ get_or-set_other now n m (Left cyclic) (Left false) other ∙ (h.marks m
          ∙ sym (left_more first place cyclic (mark_in old m) (λ at. other (sym (on.places m place at).1 ∙ sym is))))
    ];
    count = unmet_left now n place cyclic still ∙ h.count;
  }

-- ---- a part is left, behind which nothing waits

module _ (graph : List (List ℕ)) (marks others : List Mark) (path : List ℕ) (front : List Part) (part : Part) (waiting : List ℕ)
    (s : IsSearch graph marks path (front ++ part ∷ []) waiting nothing) (nothing_waits : length waiting ≤ part.waiting)
    (put : (n : ℕ) → mark_in others n ≡ left_from part.first (length path) part.cyclic (mark_in marks n)) where
  popped : AreParts graph path waiting front part.first part.waiting × IsPart graph path waiting part (length path) (length waiting)
  popped = parts_pop front part (length path) (length waiting) s.covered

  itself : Contains (front ++ part ∷ []) part
  itself = Contains-push front part

  short : length (take part.first path) ≡ part.first
  unfolding popped
  short = length-take-le part.first path (let some : part.first < length path = popped.1.some in omega (arith, some))

  same_place : (p : ℕ) → p < part.first → node_at (take part.first path) p ≡ node_at path p
  same_place p below = get_or-take part.first path p 0 below

  left_still : (n : ℕ) (b : Bool) → mark_in marks n ≡ Left b → mark_in others n ≡ Left b
  left_still n b is = put n ∙ ap (left_from part.first (length path) part.cyclic) is

  new_still : (n : ℕ) → mark_in marks n ≡ New → mark_in others n ≡ New
  new_still n is = put n ∙ ap (left_from part.first (length path) part.cyclic) is

  on_left : (n t : ℕ) → mark_in marks n ≡ OnPath t → part.first ≤ t → mark_in others n ≡ Left part.cyclic
  on_left n t is above = put n ∙ left_inside part.first (length path) t part.cyclic (mark_in marks n) is above (s.nodes.on.places n t is).0

  on_still : (n t : ℕ) → mark_in marks n ≡ OnPath t → t < part.first → mark_in others n ≡ OnPath t
  on_still n t is below = put n ∙ left_before part.first (length path) t part.cyclic (mark_in marks n) is below

  -- what a mark is told of
  pub was_marked : (P : Type 0) (n : ℕ) (m : Mark) → mark_in others n ≡ m
      → (mark_in marks n ≡ m → P)
      → ((t : ℕ) → mark_in marks n ≡ OnPath t → part.first ≤ t → m ≡ Left part.cyclic → P) → P
  unfolding left_still new_still on_left on_still
  was_marked P n m is same gone = known P (mark_in marks n) (λ new. same (new ∙ (sym (new_still n new) ∙ is)))
      (λ t at. elim (cases_lt t part.first) [ inl below ↦ same (at ∙ (sym (on_still n t at below) ∙ is)) | inr above ↦ gone t at above (sym is ∙ on_left n t at above) ])
      (λ b left. same (left ∙ (sym (left_still n b left) ∙ is)))

  -- what follows the part was left before or is on it
  leads_out : (p n : ℕ) → part.first ≤ p → p < length path → Follows graph (node_at path p) n → IsPassed marks (bound part) n
  unfolding itself
  leads_out p n from within leads = pick ((s.pending part itself).each p n from within leads) where
    pick : IsPassed marks (bound part) n ⊎ (Waits waiting part.waiting n ⊎ nothing n) → IsPassed marks (bound part) n
    pick (inl passed) = passed
    pick (inr (inl w)) = absurd (let a : part.waiting ≤ w.0 = w.1 in let b : w.0 < length waiting = w.2 in omega (arith, a, b, nothing_waits))
    pick (inr (inr never)) = absurd never

  under : (b : Bool) (f t : ℕ) → cond b f (f + 1) ≤ t → f ≤ t
  under true f t h = h
  under false f t h = omega (arith, h)

  now_left : (n : ℕ) → IsPassed marks (bound part) n → (c : Bool) × (mark_in others n ≡ Left c)
  unfolding left_still on_left
  now_left n (is_left b is) = (b, left_still n b is)
  now_left n (is_on t is above) = (part.cyclic, on_left n t is (under part.cyclic part.first t above))

  node_is : (n t : ℕ) → mark_in marks n ≡ OnPath t → node_at path t ≡ n
  node_is n t is = (s.nodes.on.places n t is).1

  -- a part on which a cycle was met: each of its nodes reaches itself
  round_there : (t : ℕ) → part.cyclic ≡ true → part.first ≤ t → t < length path → Reaches (Follows graph) (node_at path t) (node_at path t)
  unfolding popped
  round_there t cyclic from within = to_itself (popped.1.back t from within) (cases_eq part.first t) where
    first_round : Reaches (Follows graph) (node_at path part.first) (node_at path part.first)
    first_round = popped.1.round cyclic

    to_itself : Leads graph (node_at path t) (node_at path part.first) → (part.first ≡ t) ⊎ (part.first ≢ t) → Reaches (Follows graph) (node_at path t) (node_at path t)
    to_itself l (inl same) = subst (λ (q : ℕ). Reaches (Follows graph) (node_at path q) (node_at path q)) same first_round
    to_itself (inl same) (inr other) = subst (λ (a : ℕ). Reaches (Follows graph) a a) (sym same) first_round
    to_itself (inr r) (inr other) = further r (s.nodes.chain part.first t (omega (arith, from, other)) within)

  -- what is left leads to what is left
  left_closed : {a c : ℕ} (b : Bool) → Reaches (Follows graph) a c → mark_in marks a ≡ Left b → (d : Bool) × (mark_in marks c ≡ Left d)
  left_closed {a} {c} b (step _ _ h) is = s.nodes.closed a c b is h
  left_closed {a} {c} b (on _ m _ h r) is = (let next = s.nodes.closed a m b is h in left_closed next.0 r next.1)

  -- a part on which none was met: its one node doesn't
  alone_there : (n t : ℕ) → part.cyclic ≡ false → part.first ≤ t → mark_in marks n ≡ OnPath t → Reaches (Follows graph) n n → ⊥
  unfolding popped leads_out node_is left_closed
  alone_there n t acyclic from is r = around r where
    inside : t < length path
    inside = (s.nodes.on.places n t is).0

    only : length path ≡ part.first + 1
    only = popped.1.alone acyclic

    out : (m : ℕ) → Follows graph n m → (c : Bool) × (mark_in marks m ≡ Left c)
    out m h = passed (leads_out t m from inside (subst (λ (a : ℕ). Follows graph a m) (sym (node_is n t is)) h)) where
      passed : IsPassed marks (bound part) m → (c : Bool) × (mark_in marks m ≡ Left c)
      passed (is_left b e) = (b, e)
      passed (is_on u e above) = absurd (let u_in : u < length path = (s.nodes.on.places m u e).0 in let up : part.first + 1 ≤ u = subst (λ (b : Bool). cond b part.first (part.first + 1) ≤ u) acyclic above in let o : length path ≡ part.first + 1 = only in omega (arith, u_in, up, o))

    around : Reaches (Follows graph) n n → ⊥
    around (step _ _ h) = (let o = out n h in left_not_on (sym o.1 ∙ is))
    around (on _ m _ h q) = (let o = out m h in let d = left_closed o.0 q o.1 in left_not_on (sym d.1 ∙ is))

  settled_there : (n t : ℕ) (b c : Bool) → part.cyclic ≡ c → b ≡ c → part.first ≤ t → mark_in marks n ≡ OnPath t → (b ≡ true) ↔ Reaches (Follows graph) n n
  unfolding round_there alone_there node_is
  settled_there n t b true cyclic same from is =
      (λ _. subst (λ (a : ℕ). Reaches (Follows graph) a a) (node_is n t is) (round_there t cyclic from (s.nodes.on.places n t is).0), λ _. same)
  settled_there n t b false cyclic same from is = (λ h. absurd (let no : false ≡ true = sym same ∙ h in cc), λ r. absurd (alone_there n t cyclic from is r))

  left_nodes : IsMarked graph others (take part.first path)
  unfolding was_marked short same_place left_still now_left leads_out settled_there on_still node_is popped on_left
  left_nodes = record {
    on = record {
      places = λ n t is. was_marked ((t < length (take part.first path)) × (node_at (take part.first path) t ≡ n)) n (OnPath t) is
          (λ at. on_path n t at is (cases_lt t part.first)) (λ u at above e. left_not_on (sym e));
      marked = λ p below. (let less : p < part.first = omega (arith, below, short) in
          ap (mark_in others) (same_place p less) ∙ on_still (node_at path p) p (s.nodes.on.marked p (let some : part.first < length path = inside in omega (arith, less, some))) less);
    };
    settled = λ n b is. was_marked ((b ≡ true) ↔ Reaches (Follows graph) n n) n (Left b) is (λ at. s.nodes.settled n b at) (λ t at above e. settled_there n t b part.cyclic refl (same_left e) above at);
    closed = λ n m b is leads. was_marked ((c : Bool) × (mark_in others m ≡ Left c)) n (Left b) is
        (λ at. (let next = s.nodes.closed n m b at leads in (next.0, left_still m next.0 next.1)))
        (λ t at above e. now_left m (leads_out t m above (s.nodes.on.places n t at).0 (subst (λ (a : ℕ). Follows graph a m) (sym (node_is n t at)) leads)));
    chain = λ p q less below. (let under : q < part.first = omega (arith, below, short) in
        subst (λ (a : ℕ). Reaches (Follows graph) a (node_at (take part.first path) q)) (sym (same_place p (omega (arith, less, under))))
        (subst (λ (c : ℕ). Reaches (Follows graph) (node_at path p) c) (sym (same_place q under)) (s.nodes.chain p q less (let some : part.first < length path = inside in omega (arith, under, some)))));
  } where
    inside : part.first < length path
    inside = popped.1.some

    on_path : (n t : ℕ) → mark_in marks n ≡ OnPath t → mark_in others n ≡ OnPath t → (t < part.first) ⊎ (part.first ≤ t) → (t < length (take part.first path)) × (node_at (take part.first path) t ≡ n)
    on_path n t at is (inl below) = (omega (arith, below, short), same_place t below ∙ node_is n t at)
    on_path n t at is (inr above) = left_not_on (sym (on_left n t at above) ∙ is)

  left_pending : (q : Part) → IsPending graph marks path waiting q nothing → IsPending graph others (take part.first path) waiting q nothing
  unfolding popped short same_place left_still on_left on_still
  left_pending q h = record {
    each = λ p n from within leads. (let less : p < part.first = omega (arith, within, short) in
        pick n (h.each p n from (let some : part.first < length path = popped.1.some in omega (arith, less, some)) (subst (λ (a : ℕ). Follows graph a n) (same_place p less) leads)));
  } where
    pick : (n : ℕ) → IsPassed marks (bound q) n ⊎ (Waits waiting q.waiting n ⊎ nothing n) → IsPassed others (bound q) n ⊎ (Waits waiting q.waiting n ⊎ nothing n)
    pick n (inl (is_left b is)) = inl (is_left b (left_still n b is))
    pick n (inl (is_on t is above)) = elim (cases_lt t part.first) [
      | inl below ↦ inl (is_on t (on_still n t is below) above)
      | inr past ↦ inl (is_left part.cyclic (on_left n t is past))
    ]
    pick n (inr w) = inr w

  pub leaves : IsSearch graph others (take part.first path) front waiting nothing
  unfolding popped short same_place left_nodes left_pending
  leaves = record {
    nodes = left_nodes;
    covered = subst (λ (e : ℕ). AreParts graph (take part.first path) waiting front e (length waiting)) (sym short)
        (subst (λ (l : ℕ). AreParts graph (take part.first path) waiting front part.first l) (let waits : part.waiting ≤ length waiting = popped.1.waits in let e : part.waiting ≡ length waiting = omega (arith, waits, nothing_waits) in e)
        (parts_same front part.first part.waiting same_place (λ k below. refl) popped.0));
    pending = λ q has. left_pending q (s.pending q (Contains-append_left front (part ∷ []) q has));
  }

  pub leaving_goes : Goes marks others
  unfolding left_still was_marked
  leaving_goes = record { left = left_still; met = λ n is. was_marked (mark_in marks n ≡ New) n New is (λ at. at) (λ t at above e. left_not_new (sym e)) }
