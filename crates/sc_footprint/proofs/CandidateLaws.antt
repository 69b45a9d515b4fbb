-- Which closed terms are candidates for members of sets, and what tells of entities, by the nodes of a table.
use Rattle.std.proofs.Common.{◌≡◌, ◌↔◌, ℕ, zero, suc, ◌+◌, ◌<◌, ◌==◌, ◌&&◌, ◌||◌, ◌⊎◌, inl, inr, Bool, true, false, not, cond, List, [], ◌∷◌, ◌++◌, map, length, Option, Some, None, refl, sym, ap, ◌∙◌, subst, arith}
use Rattle.std.proofs.Common.{append-nil, append_assoc}
use Rattle.std.proofs.lemmas.Bool.{true≢false, or_left, or_right, or_cases}
use Rattle.std.proofs.lemmas.Bool.Decides.{nat_tests}
use Rattle.std.proofs.lemmas.List.{map-append}
use Rattle.std.proofs.lemmas.List.Folds.{list_any-append}
use Rattle.std.specs.Cmp.{both_ways}
use Rattle.std.specs.List.{list_any}
use Rattle.sc_laws.proofs.BoolLaws.{or_false, true_or_false, not_is_true, not_is_false}
use Rattle.sc_laws.proofs.OptionLaws.{same_some}
use Rattle.sc_lists.specs.Members.{Has}
use Rattle.sc_sorts.specs.declared.node.Node.{Node}
use Rattle.sc_sorts.specs.declared.node.Node.TheVariants as node
use Rattle.sc_sorts.specs.declared.node.UnaryOp.TheVariants as unary
use Rattle.sc_sorts.specs.declared.node.BinaryOp.TheVariants as binary
use Rattle.sc_sorts.specs.declared.node.ManyOp.TheVariants as manys
use Rattle.sc_terms.proofs.OrderLaws.{tree_eq-exact, tree_eq-itself}
use Rattle.sc_terms.specs.Order.{tree_eq}
use Rattle.sc_terms.specs.Tables.{tree, node_tree, node_parts, IsTable, PartsAreBelow, AreBelow}
use Rattle.sc_terms.specs.Trees.{Tree}
use Rattle.sc_closure.specs.Making.{stood}
use Rattle.sc_closure.proofs.PuttingLaws.{put_old, put_there, put_only}
use Rattle.sc_closure.specs.Closure.{trees_in}
use Rattle.sc_rule_laws.specs.Terms.{one_sort}
use Rattle.sc_closure.specs.Following.{put_new}
use Rattle.sc_closure.specs.Places.{one_more, place_among}
use Rattle.sc_footprint.specs.declared.kind.Kind.{Kind}
use Rattle.sc_footprint.specs.declared.kind.Kind.TheVariants as kind
use Rattle.sc_footprint.specs.Kinds.{same_kind}
use Rattle.sc_footprint.specs.Shelves.{told_candidates, is_among_told, is_candidate, has_key_like}
use Rattle.sc_footprint.specs.Shelving.{AreCandidates, AreCandidatesSoFar, node_candidates, node_owned, told_of, is_told, is_like}

-- ---- a number has a place just where it is there

none_there : (ns : List ℕ) (n : ℕ) → (place_among ns n == 0) ≡ false → Has ns n
none_there [] n h = absurd (true≢false h)
none_there (m ∷ ms) n h = by (m == n) refl h (none_there ms n)
  where
    same : (m == n) ≡ true → m ≡ n
    same e = grind (arith, nat_tests)

    more : (k : ℕ) → (one_more k == 0) ≡ false → (k == 0) ≡ false
    more zero e = e
    more (suc k) e = grind (arith, nat_tests)

    by : (b : Bool) → (m == n) ≡ b → (cond b 1 (one_more (place_among ms n)) == 0) ≡ false → ((place_among ms n == 0) ≡ false → Has ms n) → Has (m ∷ ms) n
    by true e k rest = inl (same e)
    by false e k rest = inr (rest (more (place_among ms n) k))

there_some : (ns : List ℕ) (n : ℕ) → Has ns n → (place_among ns n == 0) ≡ false
there_some [] n h = absurd h
there_some (m ∷ ms) n h = by (m == n) refl h (there_some ms n)
  where
    same : m ≡ n → (m == n) ≡ true
    same e = grind (arith, nat_tests)

    first : (1 == 0) ≡ false
    first = refl

    more : (k : ℕ) → (k == 0) ≡ false → (one_more k == 0) ≡ false
    more zero e = e
    more (suc k) e = let here : (suc k == 0) ≡ false = grind (arith, nat_tests) in let next : (suc k + 1 == 0) ≡ false = grind (arith, nat_tests) in rw here next

    by : (b : Bool) → (m == n) ≡ b → Has (m ∷ ms) n → (Has ms n → (place_among ms n == 0) ≡ false) → (cond b 1 (one_more (place_among ms n)) == 0) ≡ false
    by true e k rest = first
    by false e (inl k) rest = absurd (true≢false (sym (same k) ∙ e))
    by false e (inr k) rest = more (place_among ms n) (rest k)

module _ (xs : List Node) (t : IsTable xs) where
  pub is_placed : (all candidates : List ℕ) (n : ℕ) → n < length xs → AreCandidates xs all candidates → not (place_among candidates n == 0) ≡ is_candidate (stood xs all) (tree xs n)
  is_placed all candidates n h are =
      both_ways (not (place_among candidates n == 0)) (is_candidate (stood xs all) (tree xs n)) (λ e. (are n h).0 (none_there candidates n (not_is_true (place_among candidates n == 0) e)))
      (λ e. not_is_false (place_among candidates n == 0) (there_some candidates n ((are n h).1 e)))

  -- ---- one number

  same_test : (a b : ℕ) → a ≡ b → tree_eq (tree xs a) (tree xs b) ≡ true
  same_test a b e = subst (λ (n : ℕ). tree_eq (tree xs a) (tree xs n) ≡ true) e (tree_eq-itself (tree xs a))

  test_same : (a b : ℕ) → a < length xs → b < length xs → tree_eq (tree xs a) (tree xs b) ≡ true → a ≡ b
  test_same a b h k e = t.apart a b h k (tree_eq-exact (tree xs a) (tree xs b) e)

  one_candidate : (a b : ℕ) → a < length xs → b < length xs → Has (b ∷ []) a ↔ ((tree_eq (tree xs b) (tree xs a) || false) ≡ true)
  one_candidate a b h k = (λ p. forth p, λ e. inl (test_same b a k h (true_or_false (tree_eq (tree xs b) (tree xs a)) e)))
    where
      forth : Has (b ∷ []) a → (tree_eq (tree xs b) (tree xs a) || false) ≡ true
      forth (inl e) = ap (λ (c : Bool). c || false) (same_test b a e)
      forth (inr p) = absurd p

  -- a pick is its own candidate
  own_candidate : (a n : ℕ) (x : Tree) → tree xs n ≡ x → a < length xs → n < length xs → Has (n ∷ []) a ↔ ((tree_eq x (tree xs a) || false) ≡ true)
  own_candidate a n x e h k = subst (λ (y : Tree). Has (n ∷ []) a ↔ ((tree_eq y (tree xs a) || false) ≡ true)) e (one_candidate a n h k)

  no_candidate : (a : ℕ) → Has [] a ↔ (false ≡ true)
  no_candidate a = (λ h. absurd h, λ e. absurd (true≢false (sym e)))

  abbrev IsAmong : ℕ → List (List ℕ × ℕ) → Type 0
  IsAmong a ps = Has (map (λ (p : List ℕ × ℕ). p.1) ps) a ↔ (list_any (is_among_told (tree xs a)) (trees_in (node_parts xs ps)) ≡ true)

  all_parts : (a : ℕ) (ps : List (List ℕ × ℕ)) → a < length xs → AreBelow (length xs) ps → IsAmong a ps
  all_parts a [] h k = no_candidate a
  all_parts a (p ∷ ps) h k = (forth (all_parts a ps h k.1), back (all_parts a ps h k.1) (tree_eq (tree xs p.1) (tree xs a)) refl)
    where
      forth : IsAmong a ps → Has (map (λ (q : List ℕ × ℕ). q.1) (p ∷ ps)) a → list_any (is_among_told (tree xs a)) (trees_in (node_parts xs (p ∷ ps))) ≡ true
      forth rest (inl e) = or_left (tree_eq (tree xs p.1) (tree xs a)) (list_any (is_among_told (tree xs a)) (trees_in (node_parts xs ps))) (same_test p.1 a e)
      forth rest (inr q) = or_right (tree_eq (tree xs p.1) (tree xs a)) (list_any (is_among_told (tree xs a)) (trees_in (node_parts xs ps))) (rest.0 q)

      back : IsAmong a ps → (b : Bool) → tree_eq (tree xs p.1) (tree xs a) ≡ b → (b || list_any (is_among_told (tree xs a)) (trees_in (node_parts xs ps))) ≡ true
          → Has (map (λ (q : List ℕ × ℕ). q.1) (p ∷ ps)) a
      back rest true e g = inl (test_same p.1 a k.0 h e)
      back rest false e g = inr (rest.1 g)

  -- ---- by rows of nodes

  told_by_node : (a n : ℕ) (x : Node) → tree xs n ≡ node_tree xs x → PartsAreBelow (length xs) x → a < length xs → n < length xs
      → Has (node_candidates n x) a ↔ (list_any (is_among_told (tree xs a)) (told_candidates (node_tree xs x)) ≡ true)
  told_by_node a n (node.Two binary.Member b c) e parts h k = one_candidate a b h parts.0
  told_by_node a n (node.Two binary.DifferencePick b c) e parts h k = own_candidate a n (node_tree xs (node.Two binary.DifferencePick b c)) e h k
  told_by_node a n (node.Two binary.CommonPick b c) e parts h k = own_candidate a n (node_tree xs (node.Two binary.CommonPick b c)) e h k
  told_by_node a n (node.One (unary.Ancestors own) b) e parts h k = one_candidate a b h parts
  told_by_node a n (node.Many (manys.Set member) ps) e parts h k = all_parts a ps h parts
  told_by_node a n _ e parts h k = no_candidate a

  told_here : (a n : ℕ) (x : Node) → tree xs n ≡ node_tree xs x → PartsAreBelow (length xs) x → a < length xs → n < length xs
      → Has (node_candidates n x) a ↔ (list_any (is_among_told (tree xs a)) (told_candidates (tree xs n)) ≡ true)
  told_here a n x e parts h k = subst (λ (y : Tree). Has (node_candidates n x) a ↔ (list_any (is_among_told (tree xs a)) (told_candidates y) ≡ true)) (sym e) (told_by_node a n x e parts h k)

  -- ---- all terms

  module _ (all : List ℕ) (n : ℕ) (rest candidates more : List ℕ) (x : Node) (so_far : AreCandidatesSoFar xs all (n ∷ rest) candidates) (e : tree xs n ≡ node_tree xs x) (parts : PartsAreBelow (length xs) x) (k : n < length xs)
      (is : more ≡ put_new candidates (node_candidates n x)) where
    abbrev tells : ℕ → Bool
    tells a = list_any (is_among_told (tree xs a)) (told_candidates (tree xs n))

    -- a candidate of one term more is one of those before, or this one tells of it
    one_more_tells : (a : ℕ) → is_candidate (stood xs (so_far.done ++ n ∷ [])) (tree xs a) ≡ (is_candidate (stood xs so_far.done) (tree xs a) || tells a)
    one_more_tells a =
        ap (λ (ts : List Tree). is_candidate ts (tree xs a)) (map-append (tree xs) so_far.done (n ∷ []))
        ∙ list_any-append (λ s. list_any (is_among_told (tree xs a)) (told_candidates s)) (stood xs so_far.done) (tree xs n ∷ [])
        ∙ ap (λ (b : Bool). is_candidate (stood xs so_far.done) (tree xs a) || b) (or_false (tells a))

    put_is : (a : ℕ) → a < length xs → Has candidates a ⊎ Has (node_candidates n x) a → (is_candidate (stood xs so_far.done) (tree xs a) || tells a) ≡ true
    put_is a h (inl p) = or_left (is_candidate (stood xs so_far.done) (tree xs a)) (tells a) ((so_far.candidates_are a h).0 p)
    put_is a h (inr p) = or_right (is_candidate (stood xs so_far.done) (tree xs a)) (tells a) ((told_here a n x e parts h k).0 p)

    is_put : (a : ℕ) → a < length xs → (is_candidate (stood xs so_far.done) (tree xs a) ≡ true) ⊎ (tells a ≡ true) → Has (put_new candidates (node_candidates n x)) a
    is_put a h (inl g) = put_old candidates (node_candidates n x) a ((so_far.candidates_are a h).1 g)
    is_put a h (inr g) = put_there candidates (node_candidates n x) a ((told_here a n x e parts h k).1 g)

    candidates_now : AreCandidates xs (so_far.done ++ n ∷ []) more
    candidates_now a h = (
      λ p. one_more_tells a ∙ put_is a h (put_only candidates (node_candidates n x) a (subst (λ (l : List ℕ). Has l a) is p)),
      λ g. subst (λ (l : List ℕ). Has l a) (sym is) (is_put a h (or_cases (is_candidate (stood xs so_far.done) (tree xs a)) (tells a) (sym (one_more_tells a) ∙ g))),
    )

    pub candidates_step : AreCandidatesSoFar xs all rest more
    candidates_step = record {
      done = so_far.done ++ n ∷ [];
      are = so_far.are ∙ sym (append_assoc so_far.done (n ∷ []) rest);
      candidates_are = candidates_now;
    }

pub candidates_end : (xs : List Node) (all rest candidates : List ℕ) → rest ≡ [] → AreCandidatesSoFar xs all rest candidates → AreCandidates xs all candidates
candidates_end xs all rest candidates e so_far =
    let whole : so_far.done ≡ all = sym (so_far.are ∙ ap (λ (l : List ℕ). so_far.done ++ l) e ∙ append-nil so_far.done) in
    subst (λ (l : List ℕ). AreCandidates xs l candidates) whole so_far.candidates_are

-- ---- what tells of an entity

abbrev told_by : Option (Kind × ℕ) → Kind → List Node → Option Tree
told_by None k xs = None
told_by (Some (l, e)) k xs = cond (same_kind l k) (Some (tree xs e)) None

owned_by : (xs : List Node) (x : Node) (k : Kind) → told_of k (node_tree xs x) ≡ told_by (node_owned x) k xs
owned_by xs (node.One (unary.Attributes own) e) kind.Any = refl
owned_by xs (node.One (unary.Attributes own) e) kind.Candidate = refl
owned_by xs (node.One (unary.Attributes own) e) kind.Attributes = refl
owned_by xs (node.One (unary.Attributes own) e) kind.Ancestors = refl
owned_by xs (node.One (unary.Attributes own) e) kind.Keys = refl
owned_by xs (node.One (unary.Attributes own) e) kind.Tag = refl
owned_by xs (node.One (unary.Ancestors own) e) kind.Any = refl
owned_by xs (node.One (unary.Ancestors own) e) kind.Candidate = refl
owned_by xs (node.One (unary.Ancestors own) e) kind.Attributes = refl
owned_by xs (node.One (unary.Ancestors own) e) kind.Ancestors = refl
owned_by xs (node.One (unary.Ancestors own) e) kind.Keys = refl
owned_by xs (node.One (unary.Ancestors own) e) kind.Tag = refl
owned_by xs (node.One unary.Keys e) kind.Any = refl
owned_by xs (node.One unary.Keys e) kind.Candidate = refl
owned_by xs (node.One unary.Keys e) kind.Attributes = refl
owned_by xs (node.One unary.Keys e) kind.Ancestors = refl
owned_by xs (node.One unary.Keys e) kind.Keys = refl
owned_by xs (node.One unary.Keys e) kind.Tag = refl
owned_by xs (node.Two (binary.Tag own) e f) kind.Any = refl
owned_by xs (node.Two (binary.Tag own) e f) kind.Candidate = refl
owned_by xs (node.Two (binary.Tag own) e f) kind.Attributes = refl
owned_by xs (node.Two (binary.Tag own) e f) kind.Ancestors = refl
owned_by xs (node.Two (binary.Tag own) e f) kind.Keys = refl
owned_by xs (node.Two (binary.Tag own) e f) kind.Tag = refl
owned_by xs _ kind.Any = refl
owned_by xs _ kind.Candidate = refl
owned_by xs _ kind.Attributes = refl
owned_by xs _ kind.Ancestors = refl
owned_by xs _ kind.Keys = refl
owned_by xs _ kind.Tag = refl

pub owned_within : (l : ℕ) (x : Node) (k : Kind) (e : ℕ) → node_owned x ≡ Some (k, e) → PartsAreBelow l x → e < l
owned_within l (node.One (unary.Attributes own) e) k f is h = let same : e ≡ f = ap (λ (q : Kind × ℕ). q.1) (same_some is) in subst (λ (i : ℕ). i < l) same h
owned_within l (node.One (unary.Ancestors own) e) k f is h = let same : e ≡ f = ap (λ (q : Kind × ℕ). q.1) (same_some is) in subst (λ (i : ℕ). i < l) same h
owned_within l (node.One unary.Keys e) k f is h = let same : e ≡ f = ap (λ (q : Kind × ℕ). q.1) (same_some is) in subst (λ (i : ℕ). i < l) same h
owned_within l (node.Two (binary.Tag own) e g) k f is h = let same : e ≡ f = ap (λ (q : Kind × ℕ). q.1) (same_some is) in subst (λ (i : ℕ). i < l) same h.0
owned_within l _ k f is h = absurd cc

module _ (xs : List Node) (n : ℕ) (x : Node) (stands : tree xs n ≡ node_tree xs x) where
  told_now : (o : Option (Kind × ℕ)) → node_owned x ≡ o → (k : Kind) → told_of k (tree xs n) ≡ told_by o k xs
  told_now o e k = ap (told_of k) stands ∙ owned_by xs x k ∙ ap (λ (p : Option (Kind × ℕ)). told_by p k xs) e

  pub told_some : (k : Kind) (e : ℕ) → node_owned x ≡ Some (k, e) → (l : Kind) (m : ℕ) → is_told xs n l m ≡ is_like xs k e l m
  told_some k e is l m = ap (has_key_like (tree xs m)) (told_now (Some (k, e)) is l) ∙ by (same_kind k l)
    where
      by : (b : Bool) → has_key_like (tree xs m) (cond b (Some (tree xs e)) None) ≡ (b && one_sort (tree xs e) (tree xs m))
      by true = refl
      by false = refl

  pub told_none : node_owned x ≡ None → (l : Kind) (m : ℕ) → is_told xs n l m ≡ false
  told_none is l m = ap (has_key_like (tree xs m)) (told_now None is l)
