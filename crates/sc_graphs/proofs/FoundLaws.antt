-- What a search for cycles begins with, and what it has found where it ends.
use Rattle.std.proofs.Common.{◌≡◌, ◌≢◌, ◌<◌, ◌≤◌, ◌+◌, ◌↔◌, ℕ, List, [], ◌∷◌, ◌++◌, Bool, true, false, Option, Some, None, IfSome, IfNone, length, refl, sym, ap, subst, ◌∙◌, inl, inr, arith, Contains}
use Rattle.std.proofs.lemmas.Bool.{cases_lt}
use Rattle.std.proofs.lemmas.List.{get_or_append_left, get_or_push, length_push}
use Rattle.std.proofs.Math.ListN.{get_or-eq_default}
use Rattle.std.specs.Ordering.{nat_cmp}
use Rattle.sc_lists.proofs.ListLaws.{contains_nothing}
use Rattle.sc_graphs.specs.declared.path.Mark.{Mark}
use Rattle.sc_graphs.specs.declared.path.Mark.TheVariants.{New, OnPath, Left}
use Rattle.sc_graphs.specs.declared.path.Part.{Part}
use Rattle.sc_graphs.specs.Reaching.{Reaches, step, on, NoCycle, IsLeastCycle}
use Rattle.sc_graphs.specs.Graphs.{has, Follows}
use Rattle.sc_graphs.specs.Paths.{mark_in, node_at, none, IsSearch, nothing, Goes}
use Rattle.sc_graphs.proofs.PartLaws.{parts_none}
use Rattle.sc_graphs.proofs.PlacesLaws.{less_places}
use Rattle.sc_graphs.proofs.PathLaws.{left_not_new, on_not_new, left_not_on, same_left, known}

-- as many nodes, none of which was met
pub record AllNew (marks : List Mark) (count : ℕ) : Type 0 where
  pub size : length marks ≡ count
  pub each : (n : ℕ) → n < count → mark_in marks n ≡ New

pub all_new_first : AllNew [] 0
all_new_first = record { size = refl; each = λ n less. absurd (omega (arith, less)) }

pub all_new_next : (marks : List Mark) (count : ℕ) → AllNew marks count → AllNew (marks ++ New ∷ []) (count + 1)
all_new_next marks count h = record {
  size = length_push marks New ∙ ap (λ (n : ℕ). n + 1) h.size;
  each = λ n less. elim (cases_lt n count) [
    | inl below ↦ get_or_append_left marks (New ∷ []) (Left false) n (let s : length marks ≡ count = h.size in omega (arith, below, s)) ∙ h.each n below
    | inr last ↦ get_or_push marks New (Left false) n (let s : length marks ≡ count = h.size in omega (arith, less, last, s))
  ];
}

pub no_successors : (graph : List (List ℕ)) (n m : ℕ) → length graph ≤ n → Follows graph n m → ⊥
no_successors graph n m past leads = (let no : false ≡ true = ap (λ (ns : List ℕ). has ns m) (sym (get_or-eq_default graph [] past)) ∙ leads in absurd cc)

no_cycle_past : (graph : List (List ℕ)) (n m : ℕ) → length graph ≤ n → Reaches (Follows graph) n m → ⊥
no_cycle_past graph n m past (step _ _ h) = no_successors graph n m past h
no_cycle_past graph n m past (on _ k _ h r) = no_successors graph n k past h

module _ (graph : List (List ℕ)) (marks : List Mark) (new : AllNew marks (length graph)) where
  -- a node that is left lies past the graph
  told : (P : Type 0) (n : ℕ) (m : Mark) → mark_in marks n ≡ m → (m ≡ New → P) → (length graph ≤ n → m ≡ Left false → P) → P
  told P n m is f g = elim (cases_lt n (length graph)) [
    | inl less ↦ f (sym is ∙ new.each n less)
    | inr past ↦ g past (sym is ∙ get_or-eq_default marks (Left false) (let s : length marks ≡ length graph = new.size in omega (arith, past, s)))
  ]

  pub search_first : (path waiting : List ℕ) (parts : List Part) → path ≡ [] → waiting ≡ [] → parts ≡ [] → IsSearch graph marks path parts waiting nothing
  unfolding told
  search_first path waiting parts no_path no_waiting no_parts = record {
    nodes = record {
      on = record {
        places = λ n t is. told ((t < length path) × (node_at path t ≡ n)) n (OnPath t) is (λ e. on_not_new e) (λ past e. left_not_on (sym e));
        marked = λ p below. absurd (let none_there : length path ≡ 0 = ap length no_path in omega (arith, below, none_there));
      };
      settled = λ n b is. told ((b ≡ true) ↔ Reaches (Follows graph) n n) n (Left b) is (λ e. left_not_new e)
          (λ past e. (λ h. absurd (let no : false ≡ true = sym (same_left e) ∙ h in cc), λ r. absurd (no_cycle_past graph n n past r)));
      closed = λ n m b is leads. told ((c : Bool) × (mark_in marks m ≡ Left c)) n (Left b) is (λ e. left_not_new e) (λ past e. absurd (no_successors graph n m past leads));
      chain = λ p q less below. absurd (let none_there : length path ≡ 0 = ap length no_path in omega (arith, below, none_there));
    };
    covered = none parts (length path) (length waiting) no_parts (ap length no_path);
    pending = λ q has. absurd (contains_nothing q (subst (λ (ps : List Part). Contains ps q) no_parts has));
  }

-- ---- where nothing is on the path

module _ (graph : List (List ℕ)) (marks : List Mark) (path : List ℕ) (parts : List Part) (waiting : List ℕ) (s : IsSearch graph marks path parts waiting nothing) (empty : parts ≡ []) where
  pub no_path : length path ≡ 0
  no_path = parts_none parts (length path) (length waiting) empty s.covered

  pub met_is_left : (n : ℕ) → mark_in marks n ≢ New → (b : Bool) × (mark_in marks n ≡ Left b)
  unfolding no_path
  met_is_left n met = known ((b : Bool) × (mark_in marks n ≡ Left b)) (mark_in marks n) (λ is. absurd (met is))
      (λ t is. absurd (let below : t < length path = (s.nodes.on.places n t is).0 in let e : length path ≡ 0 = no_path in omega (arith, below, e))) (λ b is. (b, is))

-- each of the first nodes is left
abbrev pub LeftBefore : List Mark → ℕ → Type 0
LeftBefore marks count = (n : ℕ) → n < count → (b : Bool) × (mark_in marks n ≡ Left b)

pub left_next : (old new : List Mark) (count : ℕ) → LeftBefore old count → Goes old new → (b : Bool) × (mark_in new count ≡ Left b) → LeftBefore new (count + 1)
left_next old new count h goes here = λ n less. elim (cases_lt n count) [
  | inl below ↦ (let was = h n below in (was.0, goes.left n was.0 was.1))
  | inr last ↦ (let e : count ≡ n = omega (arith, less, last) in (here.0, ap (mark_in new) (sym e) ∙ here.1))
]

-- a node that reaches itself is found to
cyclic_left : {graph : List (List ℕ)} {marks : List Mark} {path : List ℕ} {parts : List Part} {waiting : List ℕ} → IsSearch graph marks path parts waiting nothing → LeftBefore marks (length graph)
    → (n : ℕ) → Reaches (Follows graph) n n → mark_in marks n ≡ Left true
cyclic_left {graph} {marks} s all n r = elim (cases_lt n (length graph)) [
  | inl less ↦ (let is = all n less in is.1 ∙ ap Left ((s.nodes.settled n is.0 is.1).1 r))
  | inr past ↦ absurd (no_cycle_past graph n n past r)
]

pub least_found : {graph : List (List ℕ)} {marks : List Mark} {path : List ℕ} {parts : List Part} {waiting : List ℕ} → IsSearch graph marks path parts waiting nothing → LeftBefore marks (length graph)
    → (n : ℕ) → (mark_in marks n ≡ Left true) × ((k : ℕ) → k < n → mark_in marks k ≢ Left true) → IsLeastCycle nat_cmp (Follows graph) n
least_found s all n h = record {
  cycle = (s.nodes.settled n true h.0).0 refl;
  least = λ other r less. h.1 other (less_places other n less) (cyclic_left s all other r);
}

pub some_found : {graph : List (List ℕ)} {marks : List Mark} {path : List ℕ} {parts : List Part} {waiting : List ℕ} → IsSearch graph marks path parts waiting nothing → LeftBefore marks (length graph)
    → (o : Option ℕ) → IfSome o (λ n. (mark_in marks n ≡ Left true) × ((k : ℕ) → k < n → mark_in marks k ≢ Left true)) → IfSome o (IsLeastCycle nat_cmp (Follows graph))
some_found s all (Some n) h = least_found s all n h
some_found s all None h = tt

pub none_found : {graph : List (List ℕ)} {marks : List Mark} {path : List ℕ} {parts : List Part} {waiting : List ℕ} → IsSearch graph marks path parts waiting nothing → LeftBefore marks (length graph)
    → (o : Option ℕ) → IfNone o ((n : ℕ) → mark_in marks n ≢ Left true) → IfNone o (NoCycle (Follows graph))
none_found s all (Some n) h = tt
none_found s all None h = λ n r. h n (cyclic_left s all n r)

pub left_all : (marks : List Mark) (count size : ℕ) → LeftBefore marks count → size ≤ count → LeftBefore marks size
left_all marks count size h enough n less = h n (omega (arith, less, enough))

pub some_told : {graph : List (List ℕ)} {marks : List Mark} {path : List ℕ} {parts : List Part} {waiting : List ℕ} → IsSearch graph marks path parts waiting nothing → LeftBefore marks (length graph)
    → (o : Option ℕ) (seen : List Mark) → seen ≡ marks → IfSome o (λ n. (mark_in seen n ≡ Left true) × ((k : ℕ) → k < n → mark_in seen k ≢ Left true)) → IfSome o (IsLeastCycle nat_cmp (Follows graph))
some_told s all o seen same h = some_found s all o (subst (λ (ms : List Mark). IfSome o (λ n. (mark_in ms n ≡ Left true) × ((k : ℕ) → k < n → mark_in ms k ≢ Left true))) same h)

pub none_told : {graph : List (List ℕ)} {marks : List Mark} {path : List ℕ} {parts : List Part} {waiting : List ℕ} → IsSearch graph marks path parts waiting nothing → LeftBefore marks (length graph)
    → (o : Option ℕ) (seen : List Mark) → seen ≡ marks → IfNone o ((n : ℕ) → mark_in seen n ≢ Left true) → IfNone o (NoCycle (Follows graph))
none_told s all o seen same h = none_found s all o (subst (λ (ms : List Mark). IfNone o ((n : ℕ) → mark_in ms n ≢ Left true)) same h)
