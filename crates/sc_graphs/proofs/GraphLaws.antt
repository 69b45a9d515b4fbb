-- A graph of keys, node by node.
use Rattle.std.proofs.Common.{◌≡◌, ◌⊎◌, ◌<◌, ◌≤◌, ◌+◌, ℕ, List, [], ◌∷◌, ◌++◌, Some, length, get_or, refl, sym, ap, subst, ◌∙◌, inl, inr, arith, Contains}
use Rattle.std.proofs.Math.Nat.{eq-or-lt_of_le}
use Rattle.std.proofs.lemmas.Bool.{cases_lt}
use Rattle.std.proofs.lemmas.List.{get_or_append_left, get_or_push, length_push}
use Rattle.std.proofs.lemmas.Option.{slice_get_within}
use Rattle.std.specs.List.{slice_get}
use Rattle.sc_graphs.specs.Reaching.{Reaches, step, on}
use Rattle.sc_graphs.specs.Graphs.{Follows}
use Rattle.sc_graphs.specs.Keys.{NamesPlace, ArePlaces, HasPlaces, IsOfKeys}
use Rattle.sc_graphs.proofs.FoundLaws.{no_successors}

pub graph_first : {K : Type 0} (keys : List K) (next : ℕ → List K) → HasPlaces keys next [] 0
graph_first keys next = record { size = refl; each = λ i less. absurd (omega (arith, less)) }

pub graph_next : {K : Type 0} (keys : List K) (next : ℕ → List K) (graph new : List (List ℕ)) (i : ℕ) (ks : List K) (ps : List ℕ) → HasPlaces keys next graph i → new ≡ graph ++ ps ∷ [] → next i ≡ ks
    → ArePlaces keys ks ps → HasPlaces keys next new (i + 1)
graph_next {K} keys next graph new i ks ps g e is p = record {
  size = ap length e ∙ (length_push graph ps ∙ ap (λ (n : ℕ). n + 1) g.size);
  each = λ k less. at k (eq-or-lt_of_le (omega (arith, less)));
} where
  at : (k : ℕ) → (k ≡ i) ⊎ (k < i) → ArePlaces keys (next k) (get_or new k [])
  at k (inr before) =
      subst (λ (ns : List ℕ). ArePlaces keys (next k) ns)
      (sym (ap (λ (xs : List (List ℕ)). get_or xs k []) e ∙ get_or_append_left graph (ps ∷ []) [] k (let s : length graph ≡ i = g.size in omega (arith, before, s)))) (g.each k before)
  at k (inl same) =
      let last : get_or new k [] ≡ ps = ap (λ (xs : List (List ℕ)). get_or xs k []) e ∙ get_or_push graph ps [] k (g.size ∙ sym same) in
      let of_k : next k ≡ ks = ap next same ∙ is in
      subst (λ (ns : List ℕ). ArePlaces keys (next k) ns) (sym last) (subst (λ (js : List K). ArePlaces keys js ps) (sym of_k) p)

pub graph_last : {K : Type 0} (keys : List K) (next : ℕ → List K) (graph : List (List ℕ)) (i count : ℕ) → HasPlaces keys next graph i → count ≤ i → i ≤ count → HasPlaces keys next graph count
graph_last keys next graph i count g low high = subst (λ (n : ℕ). HasPlaces keys next graph n) (let e : i ≡ count = omega (arith, low, high) in e) g

module _ {K : Type 0} {keys : List K} {next : ℕ → List K} {graph : List (List ℕ)} {count : ℕ} (g : HasPlaces keys next graph count) where
  named : (i n : ℕ) → Follows graph i n → NamesPlace keys (next i) n
  named i n e = elim (cases_lt i count) [
    | inl less ↦ (g.each i less).sound n e
    | inr past ↦ absurd (no_successors graph i n (let s : length graph ≡ count = g.size in omega (arith, s, past)) e)
  ]

  pub reached_within : {i n : ℕ} → Reaches (Follows graph) i n → n < length keys
  unfolding named
  reached_within (step i n e) =
      let p = named i n e in
      slice_get_within keys n p.key p.there
  reached_within (on i m n e r) = reached_within r

  pub of_places : (follows : K → K → Type 0) → count ≡ length keys → ((i : ℕ) (a b : K) → slice_get keys i ≡ Some a → Contains (next i) b → follows a b)
      → ((i : ℕ) (a b : K) → slice_get keys i ≡ Some a → follows a b → Contains (next i) b) → ((a b : K) → follows a b → Contains keys a) → IsOfKeys keys follows graph
  unfolding named
  of_places follows whole sound complete known = record {
    sound = λ i n a at e. (let p = named i n e in (p.key, p.there, sound i a p.key at p.named));
    complete = λ i a b at f key. (g.each i (let within : i < length keys = slice_get_within keys i a at in omega (arith, within, whole))).complete b (complete i a b at f) key;
    known = known;
  }
