-- Each role that is taken in, with what goes with it.
use Rattle.std.proofs.Common.{◌≡◌, ◌⊎◌, inl, inr, ⊎_elim, ℕ, ◌<◌, List, [], ◌∷◌, ◌++◌, map, length, sym, ap, ◌∙◌, subst}
use Rattle.std.proofs.lemmas.List.{map-append}
use Rattle.std.specs.Cmp.{IsTotalOrder}
use Rattle.std.specs.List.{AllByRecursion}
use Rattle.sc_lists.proofs.MemberLaws.{Has-left, Has-right, Has-append, Has-last, Has-push, Has-map, map-Has}
use Rattle.sc_lists.specs.Members.{Has}
use Rattle.sc_pattern.specs.declared.part.Part.{Part}
use Rattle.sc_sorts.specs.declared.sort.Sort.{out-Sort}
use Rattle.sc_sorts.specs.declared.node.Node.{Node}
use Rattle.sc_terms.specs.Order.{tree_cmp}
use Rattle.sc_terms.specs.Trees.{Tree}
use Rattle.sc_terms.specs.TreeSorts.{tree_sort}
use Rattle.sc_terms.specs.Tables.{tree}
use Rattle.sc_terms.specs.Folds.{like_term}
use Rattle.sc_closure_rules.specs.Making.{Puts, stood}
use Rattle.sc_closure_rules.proofs.MakingLaws.{stood_later, puts_then, puts_same}
use Rattle.sc_closure_rules.proofs.MemberLaws.{within_push}
use Rattle.sc_closure_rules.specs.Closure.{Role, named, candidate, set, flow, above, pattern, meet, matches_by}
use Rattle.sc_closure.specs.declared.roles.Roles.{Roles}
use Rattle.sc_closure.specs.declared.roles.Meeting.TheVariants as meeting
use Rattle.sc_candidates.specs.Values.{where_so}
use Rattle.sc_candidates.specs.Equations.{Equates}
use Rattle.sc_closure.specs.Following.{pattern_in, Held, AreRoles, Joins, is_text, met_terms, met_among, met_patterns, TakesIn, Takes}
use Rattle.sc_closure.proofs.GroupLaws.{among_has, has_among, met_patterns_has, has_met_patterns}
use Rattle.sc_closure.proofs.HeldLaws.{taken_put, takes_same, told_back, told_forth, joined_old, joined_there, joined_only, match_is, is_match, equation_back, equation_forth, equation_of, own_equation}
use Rattle.sc_closure.proofs.TakingLaws.{takes_one}

-- roles of which one kind is of others

abbrev but_named : Roles → Roles → Roles
but_named r s = record { named = s.named; crowds = r.crowds; kins = r.kins; sets = r.sets; above = r.above; patterns = r.patterns }

abbrev but_patterns : Roles → Roles → Roles
but_patterns r s = record { named = r.named; crowds = r.crowds; kins = r.kins; sets = r.sets; above = r.above; patterns = s.patterns }

-- ---- a text or an entity

module _ (total : IsTotalOrder tree_cmp) (xs : List Node) (r s : Roles) (are : AreRoles xs r) (n : ℕ) (j : Joins xs r.named.items s.named.items n) where
  abbrev x : Tree
  x = tree xs n

  abbrev all : List Tree
  all = met_among meeting.Equation xs s.named.items x

  abbrev matches : List Tree
  matches = met_patterns xs r.patterns x

  named_roles : AreRoles xs (but_named r s)
  named_roles = record {
    of_named = j.are are.of_named;
    of_crowds = are.of_crowds;
    of_kins = are.of_kins;
    of_sets = are.of_sets;
    of_above = are.of_above;
    of_patterns = are.of_patterns;
  }

  old_named : (q : Role) → Held xs r q → Held xs (but_named r s) q
  old_named (named y) h = joined_old xs r.named.items s.named.items n j y h
  old_named (candidate y u) h = h
  old_named (flow y u) h = h
  old_named (above k e) h = h
  old_named (set y) h = h
  old_named (pattern ps) h = h

  only_named : (q : Role) → Held xs (but_named r s) q → Held xs r q ⊎ (named x ≡ q)
  only_named (named y) h = ⊎_elim inl (λ e. inr (ap named e)) (joined_only xs r.named.items s.named.items n j y h)
  only_named (candidate y u) h = inl h
  only_named (flow y u) h = inl h
  only_named (above k e) h = inl h
  only_named (set y) h = inl h
  only_named (pattern ps) h = inl h

  forth_named : (q : Role) (z : Tree) → Held xs (but_named r s) q → Has (meet (named x) q) z → Has (all ++ matches) z
  forth_named (named y) z h m = Has-left all matches z (equation_forth total xs s.named.items (j.are are.of_named) x y z h m)
  forth_named (pattern ps) z h m =
      let q = match_is (out-Sort (tree_sort x)) x z ps m in
      let t = map-Has pattern_in (stood xs r.patterns) ps h in
      let told = has_met_patterns (is_text (out-Sort (tree_sort x))) meeting.Patterns (stood xs r.patterns) x t.0 q.0 t.1 in
      Has-right all matches z (subst (Has matches) (ap (like_term x) t.2 ∙ q.1) told)
  forth_named (candidate y u) z h m = absurd m
  forth_named (flow y u) z h m = absurd m
  forth_named (above k e) z h m = absurd m
  forth_named (set y) z h m = absurd m

  back_named : (q : Role) (z : Tree) → Held xs (but_named r s) q → Has (meet q (named x)) z → Has (all ++ matches) z
  back_named (named y) z h m = Has-left all matches z (equation_back total xs s.named.items (j.are are.of_named) x y z h m)
  back_named (candidate y u) z h m = absurd m
  back_named (flow y u) z h m = absurd m
  back_named (above k e) z h m = absurd m
  back_named (set y) z h m = absurd m
  back_named (pattern ps) z h m = absurd m

  sound_named : (z : Tree) → Has (all ++ matches) z → (q : Role) × Held xs (but_named r s) q × (Has (meet (named x) q) z ⊎ Has (meet q (named x)) z)
  sound_named z h = ⊎_elim equated matched (Has-append all matches z h)
    where
      equated : Has all z → (q : Role) × Held xs (but_named r s) q × (Has (meet (named x) q) z ⊎ Has (meet q (named x)) z)
      equated i = let q = equation_of total xs s.named.items (j.are are.of_named) x z i in (named q.0, q.1, inr q.2)

      matched : Has matches z → (q : Role) × Held xs (but_named r s) q × (Has (meet (named x) q) z ⊎ Has (meet q (named x)) z)
      matched i =
          let q = met_patterns_has (is_text (out-Sort (tree_sort x))) meeting.Patterns (stood xs r.patterns) x z i in
          (pattern (pattern_in q.1), Has-map pattern_in (stood xs r.patterns) q.1 q.2, inl (subst (Has (matches_by (out-Sort (tree_sort x)) x (pattern_in q.1))) q.3 (is_match (out-Sort (tree_sort x)) x (pattern_in q.1) q.0)))

  named_taken : TakesIn (Held xs r) (Held xs (but_named r s)) (named x ∷ []) (all ++ matches)
  named_taken = takes_one (Held xs r) (Held xs (but_named r s)) (named x) (all ++ matches) old_named (joined_there xs r.named.items s.named.items n j) only_named sound_named forth_named back_named

  pub named_takes : (ys zs : List Node) (ls ms ns : List ℕ) → n < length xs → Equates xs ys ls ms all x → Puts ys zs ms ns (met_patterns ys r.patterns (tree ys n)) → Takes xs zs r (but_named r s) (named x ∷ []) ls ns
  named_takes ys zs ls ms ns within p q =
      let same : met_patterns ys r.patterns (tree ys n) ≡ matches =
      ap (met_patterns ys r.patterns) (p.puts.kept.same n within) ∙ ap (λ (ts : List Tree). where_so (is_text (out-Sort (tree_sort x))) (met_terms meeting.Patterns ts x)) (stood_later xs ys p.puts.kept r.patterns are.of_patterns) in
      taken_put xs zs r (but_named r s) (named x ∷ []) ls ns (p.told ++ matches) named_roles
      (takes_same (Held xs r) (Held xs (but_named r s)) (named x ∷ []) (all ++ matches) (p.told ++ matches)
      (told_back xs ys ls ms all x p (own_equation total xs s.named.items (j.are are.of_named) x (joined_there xs r.named.items s.named.items n j)) matches) (told_forth xs ys ls ms all x p matches) named_taken)
      (puts_then xs ys zs ls ms ns p.told matches p.puts (puts_same ys zs ms ns (met_patterns ys r.patterns (tree ys n)) matches same q))

-- ---- a pattern

module _ (xs : List Node) (r s : Roles) (are : AreRoles xs r) (n : ℕ) (within : n < length xs) (pushed : s.patterns ≡ r.patterns ++ n ∷ []) where
  abbrev asking : Tree
  asking = tree xs n

  abbrev texts : List Tree
  texts = met_among meeting.Texts xs r.named.items asking

  all_patterns : map pattern_in (stood xs s.patterns) ≡ map pattern_in (stood xs r.patterns) ++ pattern_in asking ∷ []
  all_patterns =
      ap (λ (ns : List ℕ). map pattern_in (stood xs ns)) pushed ∙ ap (map pattern_in) (map-append (tree xs) r.patterns (n ∷ []))
      ∙ map-append pattern_in (stood xs r.patterns) (asking ∷ [])

  pattern_roles : AreRoles xs (but_patterns r s)
  pattern_roles = record {
    of_named = are.of_named;
    of_crowds = are.of_crowds;
    of_kins = are.of_kins;
    of_sets = are.of_sets;
    of_above = are.of_above;
    of_patterns = subst (AllByRecursion (λ m. m < length xs)) (sym pushed) (within_push (length xs) n r.patterns are.of_patterns within);
  }

  old_pattern : (q : Role) → Held xs r q → Held xs (but_patterns r s) q
  old_pattern (pattern ps) h = subst (λ (l : List (List Part)). Has l ps) (sym all_patterns) (Has-left (map pattern_in (stood xs r.patterns)) (pattern_in asking ∷ []) ps h)
  old_pattern (named y) h = h
  old_pattern (candidate y u) h = h
  old_pattern (flow y u) h = h
  old_pattern (above k e) h = h
  old_pattern (set y) h = h

  only_pattern : (q : Role) → Held xs (but_patterns r s) q → Held xs r q ⊎ (pattern (pattern_in asking) ≡ q)
  only_pattern (pattern ps) h = ⊎_elim inl (λ e. inr (ap pattern e)) (Has-push (map pattern_in (stood xs r.patterns)) (pattern_in asking) ps (subst (λ (l : List (List Part)). Has l ps) all_patterns h))
  only_pattern (named y) h = inl h
  only_pattern (candidate y u) h = inl h
  only_pattern (flow y u) h = inl h
  only_pattern (above k e) h = inl h
  only_pattern (set y) h = inl h

  back_pattern : (q : Role) (z : Tree) → Held xs (but_patterns r s) q → Has (meet q (pattern (pattern_in asking))) z → Has texts z
  back_pattern (named y) z h m =
      let q = match_is (out-Sort (tree_sort y)) y z (pattern_in asking) m in
      subst (Has texts) q.1 (has_among xs meeting.Texts asking r.named.items y are.of_named h q.0)
  back_pattern (candidate y u) z h m = absurd m
  back_pattern (flow y u) z h m = absurd m
  back_pattern (above k e) z h m = absurd m
  back_pattern (set y) z h m = absurd m
  back_pattern (pattern ps) z h m = absurd m

  sound_pattern : (z : Tree) → Has texts z → (q : Role) × Held xs (but_patterns r s) q × (Has (meet (pattern (pattern_in asking)) q) z ⊎ Has (meet q (pattern (pattern_in asking))) z)
  sound_pattern z h =
      let q = among_has xs meeting.Texts asking r.named.items z are.of_named h in
      (named q.other, q.among, inr (subst (Has (matches_by (out-Sort (tree_sort q.other)) q.other (pattern_in asking))) q.is (is_match (out-Sort (tree_sort q.other)) q.other (pattern_in asking) q.meets)))

  there_pattern : Held xs (but_patterns r s) (pattern (pattern_in asking))
  there_pattern = subst (λ (l : List (List Part)). Has l (pattern_in asking)) (sym all_patterns) (Has-last (map pattern_in (stood xs r.patterns)) (pattern_in asking))

  pattern_taken : TakesIn (Held xs r) (Held xs (but_patterns r s)) (pattern (pattern_in asking) ∷ []) texts
  pattern_taken = takes_one (Held xs r) (Held xs (but_patterns r s)) (pattern (pattern_in asking)) texts old_pattern there_pattern only_pattern sound_pattern (λ q z h m. absurd m) back_pattern

  pub pattern_takes : (ys : List Node) (ls ms : List ℕ) → Puts xs ys ls ms texts → Takes xs ys r (but_patterns r s) (pattern (pattern_in asking) ∷ []) ls ms
  pattern_takes ys ls ms p = taken_put xs ys r (but_patterns r s) (pattern (pattern_in asking) ∷ []) ls ms texts pattern_roles pattern_taken p
