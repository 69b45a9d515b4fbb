-- What terms are places of, and that all places of attributes and of tags are listed, and no others.
use Rattle.std.proofs.Common.{◌≡◌, ◌<◌, ◌≤◌, ◌+◌, ◌∙◌, ℕ, Bool, true, false, cond, List, [], ◌∷◌, length, Option, Some, None, refl, sym, ap, subst}
use Rattle.std.specs.List.{AllByRecursion}
use Rattle.std.specs.List.Sorted.{IsPermutation}
use Rattle.std.proofs.lemmas.List.Sorted.{Contains-permutation, IsPermutation-sym}
use Rattle.sc_laws.proofs.OptionLaws.{same_some}
use Rattle.sc_lists.proofs.ListLaws.{all_append}
use Rattle.sc_lists.proofs.MemberLaws.{AllByRecursion-Has, Contains-from_Has, Has-AllByRecursion, Has-from_Contains, Has-last, Has-left}
use Rattle.sc_lists.proofs.TextLaws.{bytes_eq_true}
use Rattle.sc_lists.specs.Members.{Has}
use Rattle.sc_sorts.specs.declared.node.Node.{Node}
use Rattle.sc_sorts.specs.declared.node.Node.TheVariants as node
use Rattle.sc_sorts.specs.declared.node.UnaryOp.{UnaryOp}
use Rattle.sc_sorts.specs.declared.node.UnaryOp.TheVariants as unary
use Rattle.sc_sorts.specs.declared.node.BinaryOp.TheVariants as binary
use Rattle.sc_terms.specs.Trees.{Tree, leaf, one, two, choice, many}
use Rattle.sc_terms.specs.Tables.{tree, node_tree, PartsAreBelow}
use Rattle.sc_terms.specs.Folds.{literal_of}
use Rattle.sc_footprint.specs.Problems.{Posed, numbered, term_of}
use Rattle.sc_rule_laws.specs.Places.{roots, same_step}
use Rattle.th_entities.specs.declared.places.Place.{Place}
use Rattle.th_entities.specs.Free.{AreFirst}
use Rattle.th_entities.specs.Memberships.{IsPut}
use Rattle.th_entities.specs.Places.{ArePlaces, IsNoPlace, IsPlace, IsPlaceIf, IsPlaced, IsPlacedAt, IsRootOf, inner_part, is_root, is_step, root}
use Rattle.th_entities.proofs.FreeLaws.{first_none, first_more, first_all}

-- ---- one step

pub inner_below : (k : ℕ) (m : Node) (a : ℕ) → PartsAreBelow k m → inner_part m ≡ Some a → a < k
inner_below k (node.One (unary.Field n) b) a h e = let same : b ≡ a = cc in subst (λ (i : ℕ). i < k) same h
inner_below k (node.One unary.Held b) a h e = let same : b ≡ a = cc in subst (λ (i : ℕ). i < k) same h
inner_below k (node.One _ b) a h e = absurd cc
inner_below k _ a h e = absurd cc

module _ (xs : List Node) where
  inner_root : (m : Node) (a : ℕ) → inner_part m ≡ Some a → root (node_tree xs m) ≡ root (tree xs a)
  unfolding root
  inner_root (node.One (unary.Field n) b) a e = let same : b ≡ a = cc in ap (λ (i : ℕ). root (tree xs i)) same
  inner_root (node.One unary.Held b) a e = let same : b ≡ a = cc in ap (λ (i : ℕ). root (tree xs i)) same
  inner_root (node.One _ b) a e = absurd cc
  inner_root _ a e = absurd cc

  no_inner : (m : Node) → inner_part m ≡ None → root (node_tree xs m) ≡ node_tree xs m
  unfolding root
  no_inner (node.One (unary.Field n) b) e = absurd cc
  no_inner (node.One unary.Held b) e = absurd cc
  no_inner (node.One _ b) e = refl
  no_inner _ e = refl

  -- the root of a term is that of what was reached
  pub record IsReached (n at : ℕ) : Type 0 where
    pub within : at < length xs
    pub same : root (tree xs n) ≡ root (tree xs at)

  pub reached_first : (n : ℕ) → n < length xs → IsReached n n
  reached_first n h = record { within = h; same = refl }

  pub reached_next : (n at part : ℕ) (m : Node) → IsReached n at → tree xs at ≡ node_tree xs m → PartsAreBelow (length xs) m → inner_part m ≡ Some part → IsReached n part
  reached_next n at part m h e below is = record {
    within = inner_below (length xs) m part below is;
    same = h.same ∙ ap root e ∙ inner_root m part is;
  }

  pub reached_last : (n at : ℕ) (m : Node) → IsReached n at → tree xs at ≡ node_tree xs m → inner_part m ≡ None → IsRootOf xs n at
  reached_last n at m h e is = record { within = h.within; is = h.same ∙ ap root e ∙ no_inner m is ∙ sym e }

-- ---- what two terms are places of together is what each is a place of

stays : (t : Tree) → is_root t ≡ true → t ≡ root t
unfolding root
stays (one (unary.Attributes k) e) h = refl
stays (one _ e) h = absurd cc
stays (two (binary.Tag s) e k) h = refl
stays (two _ e k) h = absurd cc
stays _ h = absurd cc

into : (o : UnaryOp) (a : Tree) → is_step o ≡ true → root (one o a) ≡ root a
unfolding root
into o a e = ap (λ (b : Bool). cond b (root a) (one o a)) e

step_is : (o q : UnaryOp) → same_step o q ≡ true → o ≡ q
step_is (unary.Field m) (unary.Field n) e = ap unary.Field (bytes_eq_true m n e)
step_is unary.Held unary.Held e = refl
step_is (unary.Field m) _ e = absurd cc
step_is unary.Held _ e = absurd cc
step_is _ _ e = absurd cc

both_step : (o q : UnaryOp) → same_step o q ≡ true → (is_step o ≡ true) × (is_step q ≡ true)
both_step (unary.Field m) (unary.Field n) e = (refl, refl)
both_step unary.Held unary.Held e = (refl, refl)
both_step (unary.Field m) _ e = absurd cc
both_step unary.Held _ e = absurd cc
both_step _ _ e = absurd cc

-- where these are attributes or tags, each is the root of its term
abbrev AreOwn : Tree × Tree → Tree → Tree → Type 0
AreOwn r x y = is_root r.0 ≡ true → is_root r.1 ≡ true → (r.0 ≡ root x) × (r.1 ≡ root y)

unmoved : (x y : Tree) → AreOwn (x, y) x y
unmoved x y h g = (stays x h, stays y g)

pub roots_own : (x y : Tree) → AreOwn (roots x y) x y
unfolding roots
roots_own (one o a) (one q b) = by (same_step o q) refl (roots_own a b)
  where
    by : (t : Bool) → same_step o q ≡ t → AreOwn (roots a b) a b → AreOwn (cond t (roots a b) (one o a, one q b)) (one o a) (one q b)
    by true e next h g = let steps = both_step o q e in let own = next h g in (own.0 ∙ sym (into o a steps.0), own.1 ∙ sym (into q b steps.1))
    by false e next h g = unmoved (one o a) (one q b) h g
roots_own (one o a) (leaf l) = unmoved (one o a) (leaf l)
roots_own (one o a) (two q b c) = unmoved (one o a) (two q b c)
roots_own (one o a) (choice c b d) = unmoved (one o a) (choice c b d)
roots_own (one o a) (many q ts) = unmoved (one o a) (many q ts)
roots_own (leaf l) y = unmoved (leaf l) y
roots_own (two o a b) y = unmoved (two o a b) y
roots_own (choice c a b) y = unmoved (choice c a b) y
roots_own (many o ts) y = unmoved (many o ts) y

-- like places of one root are one
pub roots_one : (x y : Tree) → (roots x y).0 ≡ (roots x y).1 → x ≡ y
unfolding roots
roots_one (one o a) (one q b) h = by (same_step o q) refl (roots_one a b) h
  where
    by : (t : Bool) → same_step o q ≡ t → ((roots a b).0 ≡ (roots a b).1 → a ≡ b) → (cond t (roots a b) (one o a, one q b)).0 ≡ (cond t (roots a b) (one o a, one q b)).1 → one o a ≡ one q b
    by true e next h = let step = step_is o q e in let part = next h in (λ i. one (step i) (part i))
    by false e next h = h
roots_one (one o a) (leaf l) h = h
roots_one (one o a) (two q b c) h = h
roots_one (one o a) (choice c b d) h = h
roots_one (one o a) (many q ts) h = h
roots_one (leaf l) y h = h
roots_one (two o a b) y h = h
roots_one (choice c a b) y h = h
roots_one (many o ts) y h = h

-- ---- the place that a closed term is

module _ (p : Posed) (n : ℕ) where
  pub no_term : None ≡ numbered p.closed n → IsNoPlace p n
  no_term e t is = let none : None ≡ Some t = ap (λ (o : Option ℕ). term_by o) e ∙ is in absurd cc
    where
      term_by : Option ℕ → Option Tree
      term_by (Some i) = Some (tree p.nodes i)
      term_by None = None

  module _ (at : ℕ) (is : Some at ≡ numbered p.closed n) where
    term_is : term_of p n ≡ Some (tree p.nodes at)
    term_is = sym (ap (λ (o : Option ℕ). term_by o) is)
      where
        term_by : Option ℕ → Option Tree
        term_by (Some i) = Some (tree p.nodes i)
        term_by None = None

    pub place_is : (top : ℕ) (b : Bool) → at < length p.nodes → IsRootOf p.nodes at top → b ≡ is_root (tree p.nodes top) → b ≡ true → IsPlaceIf p n (Some (record { number = n; term = at; root = top }))
    place_is top b h found e f = (record { term_in = h; root_in = found.within; is = term_is; of = found.is; top = sym e ∙ f }, refl)

    pub no_root : (top : ℕ) (b : Bool) → IsRootOf p.nodes at top → b ≡ is_root (tree p.nodes top) → b ≡ false → IsNoPlace p n
    no_root top b found e f t there =
        let same : tree p.nodes at ≡ t = same_some (sym term_is ∙ there) in
        ap (λ (u : Tree). is_root (root u)) (sym same) ∙ ap is_root found.is ∙ sym e ∙ f

-- a place has the root that its term has
pub place_root : (p : Posed) (k : Place) (t : Tree) → IsPlace p k → term_of p k.number ≡ Some t → root t ≡ tree p.nodes k.root
place_root p k t h e = let same : t ≡ tree p.nodes k.term = same_some (sym e ∙ h.is) in ap root same ∙ h.of

pub place_term : (p : Posed) (k : Place) (t : Tree) → IsPlace p k → term_of p k.number ≡ Some t → t ≡ tree p.nodes k.term
place_term p k t h e = same_some (sym e ∙ h.is)

-- a place is no literal
no_literal : (t : Tree) → is_root (root t) ≡ true → literal_of t ≡ None
unfolding root
no_literal (leaf l) h = absurd cc
no_literal (one o a) h = refl
no_literal (two o a b) h = refl
no_literal (choice c a b) h = refl
no_literal (many o ts) h = refl

pub place_other : (p : Posed) (k : Place) → IsPlace p k → literal_of (tree p.nodes k.term) ≡ None
place_other p k h = no_literal (tree p.nodes k.term) (ap is_root h.of ∙ h.top)

-- ---- one place more

still : (places more : List Place) (added : Option Place) (n : ℕ) → IsPut places added more → IsPlacedAt places n → IsPlacedAt more n
still places more (Some k) n e h = record { place = h.place; there = subst (λ (l : List Place). Has l h.place) (sym e) (Has-left places (k ∷ []) h.place h.there); is = h.is }
still places more None n e h = record { place = h.place; there = subst (λ (l : List Place). Has l h.place) (sym e) h.there; is = h.is }

module _ (p : Posed) where
  now : (places more : List Place) (added : Option Place) (n : ℕ) → IsPlaceIf p n added → IsPut places added more → IsPlaced p more n
  now places more (Some k) n h e t is of = record { place = k; there = subst (λ (l : List Place). Has l k) (sym e) (Has-last places k); is = h.1 }
  now places more None n h e t is of = let no : true ≡ false = sym of ∙ h t is in absurd cc

  kept : (places more : List Place) (added : Option Place) (n : ℕ) → IsPlaceIf p n added → IsPut places added more → AllByRecursion (IsPlace p) places → AllByRecursion (IsPlace p) more
  kept places more (Some k) n h e all = rw e (all_append (IsPlace p) places (k ∷ []) all (h.0, tt))
  kept places more None n h e all = rw e all

  -- these are those of the first so many numbers
  unfoldable pub AreSoFar : List Place → ℕ → Type 0
  AreSoFar places n = AreFirst (IsPlaced p places) n × AllByRecursion (IsPlace p) places

  pub so_far_none : (places : List Place) → places ≡ [] → AreSoFar places 0
  unfolding AreSoFar
  so_far_none places e = (first_none (IsPlaced p places), rw e tt)

  pub so_far_more : (n : ℕ) (places more : List Place) (added : Option Place) → IsPlaceIf p (n + 1) added → IsPut places added more → AreSoFar places n → AreSoFar more (n + 1)
  unfolding AreSoFar AreFirst
  so_far_more n places more added is put before = (
    first_more (IsPlaced p more) n (now places more added (n + 1) is put) (λ k less t here of. still places more added (k + 1) put (before.0 k less t here of)),
    kept places more added (n + 1) is put before.1,
  )

  pub so_far_all : (places : List Place) (count : ℕ) → length p.closed ≤ count → AreSoFar places count → ArePlaces p places
  unfolding AreSoFar ArePlaces
  so_far_all places count all before = (first_all (IsPlaced p places) p count all (λ n gone t is of. (let none : None ≡ Some t = sym gone ∙ is in absurd cc)) before.0, before.1)

  -- and so they are in another order
  Has-permutation : (xs ys : List Place) (k : Place) → IsPermutation xs ys → Has xs k → Has ys k
  Has-permutation xs ys k moved has = Has-from_Contains ys k (Contains-permutation xs ys k moved (Contains-from_Has xs k has))

  pub in_order : (xs ys : List Place) → IsPermutation xs ys → ArePlaces p xs → ArePlaces p ys
  unfolding ArePlaces
  in_order xs ys moved all = (
    (λ n t is of. (let at = all.0 n t is of in record { place = at.place; there = Has-permutation xs ys at.place moved at.there; is = at.is })),
    Has-AllByRecursion (IsPlace p) ys (λ (k : Place) has. AllByRecursion-Has (IsPlace p) xs k all.1 (Has-permutation ys xs k (IsPermutation-sym xs ys moved) has)),
  )
