-- Numbers that are put in a loop over a list: for each element those of its terms.
use Rattle.std.proofs.Common.{◌≡◌, ℕ, ◌+◌, ◌<◌, ◌≤◌, Bool, true, false, cond, List, [], ◌∷◌, ◌++◌, map, flat_map, filter, take, get_or, length, sym, ap, ◌∙◌}
use Rattle.std.proofs.Common.{append-nil}
use Rattle.std.proofs.lemmas.Grind.{flat_map-append}
use Rattle.std.proofs.lemmas.List.{map_more, take_more, take_all, map-append}
use Rattle.std.proofs.lemmas.List.Elements.{filter-append}
use Rattle.sc_sorts.specs.declared.node.Node.{Node}
use Rattle.sc_terms.specs.Trees.{Tree}
use Rattle.sc_terms.specs.Tables.{Keeps, StandsFor}
use Rattle.sc_term_definitions.specs.Making.{Puts}
use Rattle.sc_term_definitions.proofs.MakingLaws.{puts_one, puts_then, puts_same}

-- ---- a term for each

module _ {X : Type 0} (f : X → Tree) (us : List X) (s0 s1 : List Node) (ls ms : List ℕ) (i : ℕ) (so_far : Puts s0 s1 ls ms (map f (take i us))) where
  pub each_next : (s2 : List Node) (ns : List ℕ) (u : X) (k : ℕ) → i < length us → u ≡ get_or us i u → Keeps s1 s2 → StandsFor s2 k (f u) → ns ≡ ms ++ k ∷ [] → Puts s0 s2 ls ns (map f (take (i + 1) us))
  each_next s2 ns u k h at e s m =
      let more : map f (take i us) ++ f u ∷ [] ≡ map f (take (i + 1) us) = ap (λ (t : X). map f (take i us) ++ f t ∷ []) at ∙ sym (map_more f us i u h) in
      puts_same s0 s2 ls ns (map f (take i us) ++ f u ∷ []) (map f (take (i + 1) us)) more (puts_then s0 s1 s2 ls ms ns (map f (take i us)) (f u ∷ []) so_far (puts_one s1 s2 ms ns k (f u) e s m))

  pub each_end : length us ≤ i → Puts s0 s1 ls ms (map f us)
  each_end h = puts_same s0 s1 ls ms (map f (take i us)) (map f us) (ap (map f) (take_all i us h)) so_far

-- ---- terms for each

module _ {X : Type 0} (f : X → List Tree) (us : List X) (s0 s1 : List Node) (ls ms : List ℕ) (i : ℕ) (so_far : Puts s0 s1 ls ms (flat_map f (take i us))) where
  pub all_next : (s2 : List Node) (ns : List ℕ) (u : X) → i < length us → u ≡ get_or us i u → Puts s1 s2 ms ns (f u) → Puts s0 s2 ls ns (flat_map f (take (i + 1) us))
  all_next s2 ns u h at p =
      let last : take (i + 1) us ≡ take i us ++ u ∷ [] = take_more us i u h ∙ ap (λ (t : X). take i us ++ t ∷ []) (sym at) in
      let more : flat_map f (take i us) ++ f u ≡ flat_map f (take (i + 1) us) =
      sym (ap (flat_map f) last ∙ flat_map-append f (take i us) (u ∷ []) ∙ ap (λ (ts : List Tree). flat_map f (take i us) ++ ts) (append-nil (f u))) in
      puts_same s0 s2 ls ns (flat_map f (take i us) ++ f u) (flat_map f (take (i + 1) us)) more (puts_then s0 s1 s2 ls ms ns (flat_map f (take i us)) (f u) so_far p)

  pub all_end : length us ≤ i → Puts s0 s1 ls ms (flat_map f us)
  all_end h = puts_same s0 s1 ls ms (flat_map f (take i us)) (flat_map f us) (ap (flat_map f) (take_all i us h)) so_far

-- ---- a term for each that passes a test

module _ {X : Type 0} (f : X → Tree) (p : X → Bool) (us : List X) (s0 s1 : List Node) (ls ms : List ℕ) (i : ℕ) (so_far : Puts s0 s1 ls ms (map f (filter p (take i us)))) where
  passes : (u : X) → i < length us → u ≡ get_or us i u → filter p (take (i + 1) us) ≡ filter p (take i us) ++ cond (p u) (u ∷ []) []
  passes u h at = ap (filter p) (take_more us i u h ∙ ap (λ (t : X). take i us ++ t ∷ []) (sym at)) ∙ filter-append p (take i us) (u ∷ [])

  pub passing_next : (s2 : List Node) (ns : List ℕ) (u : X) (k : ℕ) → i < length us → u ≡ get_or us i u → p u ≡ true → Keeps s1 s2 → StandsFor s2 k (f u) → ns ≡ ms ++ k ∷ []
      → Puts s0 s2 ls ns (map f (filter p (take (i + 1) us)))
  passing_next s2 ns u k h at there e s m =
      let more : filter p (take (i + 1) us) ≡ filter p (take i us) ++ u ∷ [] = passes u h at ∙ ap (λ (b : Bool). filter p (take i us) ++ cond b (u ∷ []) []) there in
      let same : map f (filter p (take i us)) ++ f u ∷ [] ≡ map f (filter p (take (i + 1) us)) = sym (ap (map f) more ∙ map-append f (filter p (take i us)) (u ∷ [])) in
      puts_same s0 s2 ls ns (map f (filter p (take i us)) ++ f u ∷ []) (map f (filter p (take (i + 1) us))) same (puts_then s0 s1 s2 ls ms ns (map f (filter p (take i us))) (f u ∷ []) so_far (puts_one s1 s2 ms ns k (f u) e s m))

  pub failing_next : (u : X) → i < length us → u ≡ get_or us i u → p u ≡ false → Puts s0 s1 ls ms (map f (filter p (take (i + 1) us)))
  failing_next u h at fails =
      let same : filter p (take i us) ≡ filter p (take (i + 1) us) =
      sym (passes u h at ∙ ap (λ (b : Bool). filter p (take i us) ++ cond b (u ∷ []) []) fails ∙ append-nil (filter p (take i us))) in
      puts_same s0 s1 ls ms (map f (filter p (take i us))) (map f (filter p (take (i + 1) us))) (ap (map f) same) so_far

  pub passing_end : length us ≤ i → Puts s0 s1 ls ms (map f (filter p us))
  passing_end h = puts_same s0 s1 ls ms (map f (filter p (take i us))) (map f (filter p us)) (ap (λ (vs : List X). map f (filter p vs)) (take_all i us h)) so_far
