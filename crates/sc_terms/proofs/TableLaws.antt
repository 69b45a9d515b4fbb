-- Laws of tables: what comes in stands for its term, and what is there stays.
use Rattle.std.proofs.Common.{◌≡◌, ℕ, suc, zero, ◌+◌, ◌<◌, ◌≤◌, Bool, true, false, cond, ◌⊎◌, inl, inr, List, [], ◌∷◌, ◌++◌, Some, length, take, slice_get, refl, sym, ap, ◌∙◌, subst, arith, length-append}
use Rattle.std.proofs.lemmas.Bool.{false≢true, or_right}
use Rattle.std.proofs.Math.ListN.{get_or-append}
use Rattle.std.proofs.lemmas.List.{get_or_at}
use Rattle.std.proofs.lemmas.Option.{slice_get_within}
use Rattle.std.specs.List.{list_any}
use Rattle.indexmap.specs.IndexSet.{insert_key}
use Rattle.sc_lists.proofs.ListLaws.{all_weaker}
use Rattle.sc_laws.proofs.OptionLaws.{same_some}
use Rattle.sc_sorts.specs.declared.node.Leaf.TheVariants.{Literal}
use Rattle.sc_sorts.specs.declared.node.Literal.TheVariants.{Bool as bool}
use Rattle.sc_sorts.specs.declared.node.Node.{Node}
use Rattle.sc_sorts.specs.declared.node.Node.TheVariants as node
use Rattle.sc_sorts.specs.contracts.node.NodePartialEq.TheImpl.{ghosts as node_eq}
use Rattle.sc_sorts.specs.contracts.node.NodeEq.TheImpl.Laws.{laws-law}
use Rattle.sc_sorts.specs.Same.{same_node}
use Rattle.sc_terms.specs.Trees.{Tree, leaf, one, many, part}
use Rattle.sc_terms.specs.Tables.{Places, AreBelow, planted_parts, node_parts, among, planted, grown, trees, tree, node_tree, PartsAreBelow, IsTable, Keeps, StandsFor}

blank : Tree
blank = leaf (Literal (bool false))

-- a node's tree is that of its parts
module _ (ts us : List Tree) (n : ℕ) (alike : (m : ℕ) → m < n → among ts m ≡ among us m) where
  parts_alike : (ps : Places) → AreBelow n ps → planted_parts ts ps ≡ planted_parts us ps
  parts_alike [] h = refl
  parts_alike (p ∷ ps) h = let e = alike p.1 h.0 in let f = parts_alike ps h.1 in cc

  planted_alike : (x : Node) → PartsAreBelow n x → planted ts x ≡ planted us x
  planted_alike (node.Leaf l) h = refl
  planted_alike (node.One o a) h = ap (one o) (alike a h)
  planted_alike (node.Two o a b) h = let e = alike a h.0 in let f = alike b h.1 in cc
  planted_alike (node.Choice c a b) h = let d = alike c h.0 in let e = alike a h.1 in let f = alike b h.2 in cc
  planted_alike (node.Many o ps) h = ap (many o) (parts_alike ps h)

-- nodes of one tree are one node
module _ (ts : List Tree) (n : ℕ) (apart : (l m : ℕ) → l < n → m < n → among ts l ≡ among ts m → l ≡ m) where
  parts_inject : (ps qs : Places) → AreBelow n ps → AreBelow n qs → planted_parts ts ps ≡ planted_parts ts qs → ps ≡ qs
  parts_inject [] [] h k e = refl
  parts_inject [] (q ∷ qs) h k e = cc
  parts_inject (p ∷ ps) [] h k e = cc
  parts_inject (p ∷ ps) (q ∷ qs) h k e =
      let d : p.0 ≡ q.0 = cc in
      let i : among ts p.1 ≡ among ts q.1 = cc in
      let j : planted_parts ts ps ≡ planted_parts ts qs = cc in
      let f = apart p.1 q.1 h.0 k.0 i in
      let g = parts_inject ps qs h.1 k.1 j in
      λ z. (d z, f z) ∷ g z

  planted_injects : (x y : Node) → PartsAreBelow n x → PartsAreBelow n y → planted ts x ≡ planted ts y → x ≡ y
  planted_injects (node.Leaf a) (node.Leaf b) h k e = cc
  planted_injects (node.Leaf a) _ h k e = cc
  planted_injects (node.One o a) (node.One p b) h k e =
      let i : among ts a ≡ among ts b = cc in
      let f = apart a b h k i in
      cc
  planted_injects (node.One o a) _ h k e = cc
  planted_injects (node.Two o a b) (node.Two p c d) h k e =
      let i : among ts a ≡ among ts c = cc in
      let j : among ts b ≡ among ts d = cc in
      let f = apart a c h.0 k.0 i in
      let g = apart b d h.1 k.1 j in
      cc
  planted_injects (node.Two o a b) _ h k e = cc
  planted_injects (node.Choice a b c) (node.Choice d f g) h k e =
      let i : among ts a ≡ among ts d = cc in
      let j : among ts b ≡ among ts f = cc in
      let l : among ts c ≡ among ts g = cc in
      let x = apart a d h.0 k.0 i in
      let y = apart b f h.1 k.1 j in
      let z = apart c g h.2 k.2 l in
      cc
  planted_injects (node.Choice a b c) _ h k e = cc
  planted_injects (node.Many o ps) (node.Many p qs) h k e =
      let d : o ≡ p = cc in
      let i : planted_parts ts ps ≡ planted_parts ts qs = cc in
      let f = parts_inject ps qs h k i in
      λ z. node.Many (d z) (f z)
  planted_injects (node.Many o ps) _ h k e = cc

-- ---- growing

grown_front : (ts : List Tree) (xs : List Node) (m : ℕ) → m < length ts → among (grown ts xs) m ≡ among ts m
unfolding blank
grown_front ts [] m h = refl
grown_front ts (x ∷ xs) m h =
    grown_front (ts ++ planted ts x ∷ []) xs m (omega (arith, length-append ts (planted ts x ∷ []))) ∙ get_or-append ts (planted ts x ∷ []) blank m h

length-grown : (ts : List Tree) (xs : List Node) → length (grown ts xs) ≡ length ts + length xs
length-grown ts [] = omega arith
length-grown ts (x ∷ xs) = omega (arith, length-grown (ts ++ planted ts x ∷ []) xs, length-append ts (planted ts x ∷ []))

grown_append : (ts : List Tree) (xs ys : List Node) → grown ts (xs ++ ys) ≡ grown (grown ts xs) ys
grown_append ts [] ys = refl
grown_append ts (x ∷ xs) ys = grown_append (ts ++ planted ts x ∷ []) xs ys

-- each number's tree is that of its node
grown_is : (ts : List Tree) (xs : List Node) (n m : ℕ) (x : Node) → slice_get xs n ≡ Some x → m ≡ length ts + n → PartsAreBelow m x
    → among (grown ts xs) m ≡ planted (grown ts xs) x
unfolding blank
grown_is ts [] n m x e i h = cc
grown_is ts (y ∷ ys) zero m x e i h =
    let us = ts ++ planted ts y ∷ [] in
    let more : length us ≡ length ts + 1 = length-append ts (planted ts y ∷ []) in
    let j : length ts ≡ m = omega arith in
    let here : among us m ≡ planted ts y = get_or_at ts (planted ts y) [] blank m j in
    let f : y ≡ x = cc in
    grown_front us ys m (omega arith) ∙ here ∙ ap (planted ts) f ∙ sym (planted_alike (grown us ys) ts m (λ l k. grown_front us ys l (omega arith) ∙ get_or-append ts (planted ts y ∷ []) blank l (omega arith)) x h)
grown_is ts (y ∷ ys) (suc n) m x e i h =
    grown_is (ts ++ planted ts y ∷ []) ys n m x e (omega (arith, length-append ts (planted ts y ∷ []))) h

tree_planted : (xs : List Node) (n : ℕ) (x : Node) → slice_get xs n ≡ Some x → PartsAreBelow n x → tree xs n ≡ planted (trees xs) x
unfolding trees tree
tree_planted xs n x e h = grown_is [] xs n n x e (omega arith) h

parts_is : (xs : List Node) (ps : Places) → planted_parts (trees xs) ps ≡ node_parts xs ps
unfolding tree
parts_is xs [] = refl
parts_is xs (p ∷ ps) = ap (part p.0 (tree xs p.1)) (parts_is xs ps)

-- a node's tree, by the numbers of its parts
pub planted_is : (xs : List Node) (x : Node) → planted (trees xs) x ≡ node_tree xs x
unfolding tree
planted_is xs (node.Leaf l) = refl
planted_is xs (node.One o a) = refl
planted_is xs (node.Two o a b) = refl
planted_is xs (node.Choice c a b) = refl
planted_is xs (node.Many o ps) = ap (many o) (parts_is xs ps)

-- the number of a node stands for its tree
pub tree_is : (xs : List Node) (n : ℕ) (x : Node) → slice_get xs n ≡ Some x → PartsAreBelow n x → tree xs n ≡ node_tree xs x
tree_is xs n x e h = tree_planted xs n x e h ∙ planted_is xs x

-- ---- what is there stays

pub keeps_append : (xs ys : List Node) → Keeps xs (xs ++ ys)
unfolding trees tree
keeps_append xs ys = record {
  longer = omega (arith, length-append xs ys);
  same = λ n h. rw grown_append (grown_front (grown [] xs) ys n (omega (arith, length-grown [] xs)));
}

pub keeps_itself : (xs : List Node) → Keeps xs xs
keeps_itself xs = record { longer = omega arith; same = λ n h. refl }

pub keeps_then : (xs ys zs : List Node) → Keeps xs ys → Keeps ys zs → Keeps xs zs
keeps_then xs ys zs h k = record { longer = omega (arith, h.longer, k.longer); same = λ n i. k.same n (omega (arith, h.longer, i)) ∙ h.same n i }

pub stands_later : (s t : List Node) (n : ℕ) (x : Tree) → Keeps s t → StandsFor s n x → StandsFor t n x
stands_later s t n x k h = record { within = omega (arith, k.longer, h.within); is = k.same n h.within ∙ h.is }

-- a node of old parts has its old tree
planted_stays : (xs ys : List Node) (x : Node) → Keeps xs ys → PartsAreBelow (length xs) x → planted (trees ys) x ≡ planted (trees xs) x
unfolding trees tree
planted_stays xs ys x e h = planted_alike (trees ys) (trees xs) (length xs) (λ m k. e.same m k) x h

pub places_rise : (m n : ℕ) (ps : Places) → m ≤ n → AreBelow m ps → AreBelow n ps
places_rise m n ps h k = all_weaker (λ (p : List ℕ × ℕ). p.1 < m) (λ (p : List ℕ × ℕ). p.1 < n) (λ p i. omega arith) ps k

pub parts_rise : (m n : ℕ) (x : Node) → m ≤ n → PartsAreBelow m x → PartsAreBelow n x
parts_rise m n (node.Leaf l) h k = tt
parts_rise m n (node.One o a) h k = omega arith
parts_rise m n (node.Two o a b) h k = (omega (arith, k.0), omega (arith, k.1))
parts_rise m n (node.Choice a b c) h k = (omega (arith, k.0), omega (arith, k.1), omega (arith, k.2))
parts_rise m n (node.Many o ps) h k = places_rise m n ps h k

-- ---- where a node stands in a list

slice_get-push : (xs : List Node) (v : Node) (n : ℕ) (x : Node) → slice_get (xs ++ v ∷ []) n ≡ Some x → (slice_get xs n ≡ Some x) ⊎ ((n ≡ length xs) × (v ≡ x))
slice_get-push [] v zero x e = inr (refl, cc)
slice_get-push [] v (suc n) x e = cc
slice_get-push (y ∷ ys) v zero x e = inl e
slice_get-push (y ∷ ys) v (suc n) x e = elim (slice_get-push ys v n x e) [ inl h ↦ inl h | inr h ↦ inr (ap suc h.0, h.1) ]

pub slice_get-end : {X : Type 0} (xs : List X) (v : X) → slice_get (xs ++ v ∷ []) (length xs) ≡ Some v
slice_get-end [] v = refl
slice_get-end (x ∷ xs) v = slice_get-end xs v

found : (xs : List Node) (n : ℕ) → n < length xs → (x : Node) × (slice_get xs n ≡ Some x)
found [] n h = absurd (omega arith)
found (x ∷ xs) zero h = (x, refl)
found (x ∷ xs) (suc n) h = found xs n (omega arith)

list_any-at : (p : Node → Bool) (xs : List Node) (n : ℕ) (x : Node) → slice_get xs n ≡ Some x → p x ≡ true → list_any p xs ≡ true
list_any-at p [] n x e h = cc
list_any-at p (y ∷ ys) zero x e h = let f : y ≡ x = cc in rw f (rw h refl)
list_any-at p (y ∷ ys) (suc n) x e h = or_right (p y) (list_any p ys) (list_any-at p ys n x e h)

itself : (x : Node) → node_eq.eq x x ≡ true
itself x = laws-law.refl x

-- ---- a node that comes in

module _ (xs : List Node) (v : Node) (t : IsTable xs) (h : PartsAreBelow (length xs) v) where
  below_push : (n : ℕ) (x : Node) → slice_get (xs ++ v ∷ []) n ≡ Some x → PartsAreBelow n x
  below_push n x e =
      elim (slice_get-push xs v n x e) [
        | inl f ↦ t.below n x f
        | inr f ↦ subst (λ (y : Node). PartsAreBelow n y) f.1 (subst (λ (m : ℕ). PartsAreBelow m v) (sym f.0) h)
      ]

  length-push : length (xs ++ v ∷ []) ≡ length xs + 1
  length-push = length-append xs (v ∷ [])

  tree_last : tree (xs ++ v ∷ []) (length xs) ≡ planted (trees xs) v
  tree_last = tree_planted (xs ++ v ∷ []) (length xs) v (slice_get-end xs v) h ∙ planted_stays xs (xs ++ v ∷ []) v (keeps_append xs (v ∷ [])) h

  -- no old number stands for its tree
  other : list_any (node_eq.eq v) xs ≡ false → (n : ℕ) → n < length xs → tree xs n ≡ planted (trees xs) v → ⊥
  unfolding tree
  other absent n k e =
      let x = found xs n k in
      let below = parts_rise n (length xs) x.0 (omega arith) (t.below n x.0 x.1) in
      let f : planted (trees xs) x.0 ≡ planted (trees xs) v = sym (tree_planted xs n x.0 x.1 (t.below n x.0 x.1)) ∙ e in
      let g : x.0 ≡ v = planted_injects (trees xs) (length xs) t.apart x.0 v below h f in
      false≢true (sym absent ∙ list_any-at (node_eq.eq v) xs n x.0 x.1 (subst (λ (y : Node). node_eq.eq v y ≡ true) (sym g) (itself v)))

  table_push : list_any (node_eq.eq v) xs ≡ false → IsTable (xs ++ v ∷ [])
  table_push absent = record { below = below_push; apart = λ m n k l. by m n k l (cases m k) (cases n l) }
    where
      cases : (m : ℕ) → m < length (xs ++ v ∷ []) → (m < length xs) ⊎ (m ≡ length xs)
      cases m k = grind (arith, length-push)

      old : (m : ℕ) → m < length xs → tree (xs ++ v ∷ []) m ≡ tree xs m
      old m k = (keeps_append xs (v ∷ [])).same m k

      last : (m : ℕ) → m ≡ length xs → tree (xs ++ v ∷ []) m ≡ planted (trees xs) v
      last m e = ap (tree (xs ++ v ∷ [])) e ∙ tree_last

      by : (m n : ℕ) → m < length (xs ++ v ∷ []) → n < length (xs ++ v ∷ []) → (m < length xs) ⊎ (m ≡ length xs) → (n < length xs) ⊎ (n ≡ length xs)
          → tree (xs ++ v ∷ []) m ≡ tree (xs ++ v ∷ []) n → m ≡ n
      by m n k l (inl a) (inl b) e = t.apart m n a b (sym (old m a) ∙ e ∙ old n b)
      by m n k l (inl a) (inr b) e = absurd (other absent m a (sym (old m a) ∙ e ∙ last n b))
      by m n k l (inr a) (inl b) e = absurd (other absent n b (sym (old n b) ∙ sym e ∙ last m a))
      by m n k l (inr a) (inr b) e = a ∙ sym b

  -- ---- the table after an insertion

  pub table_insert : IsTable (insert_key node_eq.eq xs v)
  table_insert = by (list_any (node_eq.eq v) xs) refl
    where
      by : (b : Bool) → list_any (node_eq.eq v) xs ≡ b → IsTable (cond b xs (xs ++ v ∷ []))
      by true e = t
      by false e = table_push e

  pub keeps_insert : Keeps xs (insert_key node_eq.eq xs v)
  keeps_insert = by (list_any (node_eq.eq v) xs)
    where
      by : (b : Bool) → Keeps xs (cond b xs (xs ++ v ∷ []))
      by true = keeps_itself xs
      by false = keeps_append xs (v ∷ [])

  pub stands_insert : (n : ℕ) (k : Node) → slice_get (insert_key node_eq.eq xs v) n ≡ Some k → node_eq.eq v k ≡ true
      → StandsFor (insert_key node_eq.eq xs v) n (node_tree xs v)
  stands_insert n k e f =
      let new = insert_key node_eq.eq xs v in
      let at : slice_get new n ≡ Some v = e ∙ ap Some (sym (same_node v k f)) in
      record {
        within = slice_get_within new n v at;
        is = tree_planted new n v at (table_insert.below n v at) ∙ planted_stays xs new v keeps_insert h ∙ planted_is xs v;
      }

-- ---- terms that are taken back

front_same : (xs ys : List Node) → length xs ≤ length ys → ((n : ℕ) → n < length xs → slice_get xs n ≡ slice_get ys n) → take (length xs) ys ≡ xs
front_same [] ys h same = refl
front_same (x ∷ xs) [] h same = absurd (omega arith)
front_same (x ∷ xs) (y ∷ ys) h same =
    let first : x ≡ y = same_some (same 0 (omega arith)) in
    let rest : take (length xs) ys ≡ xs = front_same xs ys (omega arith) (λ n k. same (suc n) (omega arith)) in
    λ i. sym first i ∷ rest i

-- the numbers of a table tell apart its trees
injects : (xs : List Node) → IsTable xs → (m n : ℕ) → m < length xs → n < length xs → among (trees xs) m ≡ among (trees xs) n → m ≡ n
unfolding tree
injects xs t = t.apart

-- what has come in over a table is all behind it
pub kept_front : (xs ys : List Node) → IsTable xs → IsTable ys → Keeps xs ys → take (length xs) ys ≡ xs
kept_front xs ys t u k = front_same xs ys k.longer at
  where
    at : (n : ℕ) → n < length xs → slice_get xs n ≡ slice_get ys n
    at n h =
        let x = found xs n h in
        let y = found ys n (omega (arith, k.longer)) in
        let below_x = t.below n x.0 x.1 in
        let below_y = u.below n y.0 y.1 in
        let rise_x = parts_rise n (length xs) x.0 (omega arith) below_x in
        let rise_y = parts_rise n (length xs) y.0 (omega arith) below_y in
        let old = sym (tree_planted xs n x.0 x.1 below_x) ∙ sym (k.same n h) ∙ tree_planted ys n y.0 y.1 below_y in
        let one = old ∙ planted_stays xs ys y.0 k rise_y in
        let same : x.0 ≡ y.0 = planted_injects (trees xs) (length xs) (injects xs t) x.0 y.0 rise_x rise_y one in
        x.1 ∙ ap Some same ∙ sym y.1

-- what is left where as many are kept as there were
pub taken_back : (xs ys left : List Node) (n : ℕ) → left ≡ take n ys → IsTable ys → IsTable xs → Keeps xs ys → n ≡ length xs → left ≡ xs
taken_back xs ys left n e u t k h = e ∙ ap (λ (m : ℕ). take m ys) h ∙ kept_front xs ys t u k
