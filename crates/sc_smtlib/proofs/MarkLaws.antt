-- Which numbers of a table stand for subterms of a goal.
use Rattle.std.proofs.Common.{◌≡◌, ◌<◌, ◌≤◌, ◌+◌, ◌==◌, ◌⊎◌, inl, inr, ⊎_elim, ℕ, zero, suc, Bool, true, false, List, [], ◌∷◌, ◌++◌, map, length, get_or, set, replicate, refl, sym, ap, ◌∙◌, subst, arith}
use Rattle.std.proofs.lemmas.Bool.{eqb-true, eqb-false}
use Rattle.std.proofs.lemmas.List.{get_or-set_same, get_or-set_other, length-set}
use Rattle.sc_lists.specs.Members.{Has}
use Rattle.sc_lists.proofs.MemberLaws.{AllByRecursion-Has, Has-map, map-Has}
use Rattle.sc_sorts.specs.declared.node.ManyOp.{ManyOp}
use Rattle.sc_sorts.specs.declared.node.Node.{Node}
use Rattle.sc_sorts.specs.declared.node.Node.TheVariants as node
use Rattle.sc_terms.specs.Trees.{Tree}
use Rattle.sc_terms.specs.Tables.{Places, tree, node_tree, node_parts, PartsAreBelow, AreBelow}
use Rattle.sc_closure_rules.specs.Closure.{parts, trees_in}
use Rattle.sc_smtlib_terms.specs.Forms.{IsSubterm, whole, part_of}
use Rattle.sc_smtlib.specs.Marks.{is_marked, part_numbers, Marks, AreLess, IsOneMark, ArePartsOf, IsLookedAt, HasMark, AreMarked}

same_or_not : (p x : ℕ) → (p ≡ x) ⊎ (p ≡ x → ⊥)
same_or_not p x = by (p == x) refl
  where
    by : (b : Bool) → (p == x) ≡ b → (p ≡ x) ⊎ (p ≡ x → ⊥)
    by true e = inl (eqb-true p x e)
    by false e = inr (eqb-false p x e)

pub past_marks : (marks : List Bool) (n : ℕ) → is_marked marks n ≡ true → n < length marks
past_marks [] n e = absurd cc
past_marks (b ∷ marks) zero e = omega arith
past_marks (b ∷ marks) (suc n) e = omega (arith, past_marks marks n e)

-- ---- marks that are put

pub no_marks : (old : List Bool) → Marks old old []
no_marks old = record { as_many = refl; are = λ n. (inl, λ h. ⊎_elim (λ k. k) (λ k. absurd k) h) }

pub one_mark : (old new : List Bool) (n : ℕ) → n < length old → new ≡ set old n true → Marks old new (n ∷ [])
one_mark old new n within e = record { as_many = ap length e ∙ length-set old n true; are = λ m. (to m (same_or_not m n), from m) }
  where
    there : (m : ℕ) → (m ≡ n → ⊥) → is_marked new m ≡ is_marked old m
    there m apart = ap (λ z. get_or z m false) e ∙ get_or-set_other old n m true false apart

    here : is_marked new n ≡ true
    here = ap (λ z. get_or z n false) e ∙ get_or-set_same old n true false within

    to : (m : ℕ) → (m ≡ n) ⊎ (m ≡ n → ⊥) → is_marked new m ≡ true → (is_marked old m ≡ true) ⊎ Has (n ∷ []) m
    to m (inl same) h = inr (inl (sym same))
    to m (inr apart) h = inl (sym (there m apart) ∙ h)

    from : (m : ℕ) → (is_marked old m ≡ true) ⊎ Has (n ∷ []) m → is_marked new m ≡ true
    from m (inl h) = ⊎_elim (λ same. subst (λ z. is_marked new z ≡ true) (sym same) here) (λ apart. there m apart ∙ h) (same_or_not m n)
    from m (inr (inl same)) = subst (λ z. is_marked new z ≡ true) same here
    from m (inr (inr h)) = absurd h

first_of : (n m : ℕ) (ns : List ℕ) → Has (n ∷ []) m → Has (n ∷ ns) m
first_of n m ns (inl e) = inl e
first_of n m ns (inr o) = absurd o

pub marks_then : (a b c : List Bool) (n : ℕ) (ns : List ℕ) → Marks a b (n ∷ []) → Marks b c ns → Marks a c (n ∷ ns)
marks_then a b c n ns g h = record { as_many = h.as_many ∙ g.as_many; are = λ m. (to m, from m) }
  where
    to : (m : ℕ) → is_marked c m ≡ true → (is_marked a m ≡ true) ⊎ Has (n ∷ ns) m
    to m k = ⊎_elim (λ l. ⊎_elim inl (λ o. inr (first_of n m ns o)) ((g.are m).0 l)) (λ l. inr (inr l)) ((h.are m).0 k)

    from : (m : ℕ) → (is_marked a m ≡ true) ⊎ Has (n ∷ ns) m → is_marked c m ≡ true
    from m (inl k) = (h.are m).1 (inl ((g.are m).1 (inl k)))
    from m (inr (inl e)) = (h.are m).1 (inl ((g.are m).1 (inr (inl e))))
    from m (inr (inr k)) = (h.are m).1 (inr k)

-- in a loop: what was marked first and what is still to be marked
pub marks_rest : (first now new : List Bool) (n : ℕ) (later all : List ℕ)
    → ((c : List Bool) → Marks now c (n ∷ later) → Marks first c all) → Marks now new (n ∷ []) → (c : List Bool) → Marks new c later → Marks first c all
marks_rest first now new n later all keeps one c h = keeps c (marks_then now new c n later one h)

pub marks_end : (first now : List Bool) (ps : Places) (all : List ℕ) → length ps ≡ 0
    → ((c : List Bool) → Marks now c (map (λ (p : List ℕ × ℕ). p.1) ps) → Marks first c all) → Marks first now all
marks_end first now [] all e keeps = keeps now (no_marks now)
marks_end first now (p ∷ ps) all e keeps = absurd (omega (arith, e))

-- ---- the parts of a node by their numbers

in_parts : (xs : List Node) (ps : Places) → trees_in (node_parts xs ps) ≡ map (tree xs) (map (λ (p : List ℕ × ℕ). p.1) ps)
in_parts xs [] = refl
in_parts xs (p ∷ ps) = ap (λ ts. tree xs p.1 ∷ ts) (in_parts xs ps)

parts_by : (xs : List Node) (x : Node) → parts (node_tree xs x) ≡ map (tree xs) (part_numbers x)
parts_by xs (node.Leaf l) = refl
parts_by xs (node.One o a) = refl
parts_by xs (node.Two o a b) = refl
parts_by xs (node.Choice c a b) = refl
parts_by xs (node.Many o ps) = in_parts xs ps

all_less : (n : ℕ) (ps : Places) → AreBelow n ps → AreLess n (map (λ (p : List ℕ × ℕ). p.1) ps)
all_less n [] h = tt
all_less n (p ∷ ps) h = (h.0, all_less n ps h.1)

pub numbers_less : (n : ℕ) (x : Node) → PartsAreBelow n x → AreLess n (part_numbers x)
numbers_less n (node.Leaf l) h = tt
numbers_less n (node.One o a) h = (h, tt)
numbers_less n (node.Two o a b) h = (h.0, (h.1, tt))
numbers_less n (node.Choice c a b) h = (h.0, (h.1, (h.2, tt)))
numbers_less n (node.Many o ps) h = all_less n ps h

all_below : (n : ℕ) (ps : Places) → AreLess n (map (λ (p : List ℕ × ℕ). p.1) ps) → AreBelow n ps
all_below n [] h = tt
all_below n (p ∷ ps) h = (h.0, all_below n ps h.1)

pub many_below : (n : ℕ) (x : Node) (o : ManyOp) (ps qs : Places) → x ≡ node.Many o ps → qs ≡ ps → AreLess n (part_numbers x) → AreBelow n qs
many_below n x o ps qs is same h = subst (AreBelow n) (sym same) (all_below n ps (subst (λ z. AreLess n (part_numbers z)) is h))

pub many_marked : (old new : List Bool) (x : Node) (o : ManyOp) (ps qs : Places) → x ≡ node.Many o ps → qs ≡ ps → Marks old new (map (λ (p : List ℕ × ℕ). p.1) qs) → Marks old new (part_numbers x)
many_marked old new x o ps qs is same h =
    subst (λ z. Marks old new (part_numbers z)) (sym is) (subst (λ (z : Places). Marks old new (map (λ (p : List ℕ × ℕ). p.1) z)) same h)

pub less_more : (m n : ℕ) (ns : List ℕ) → m ≤ n → AreLess m ns → AreLess n ns
less_more m n [] h k = tt
less_more m n (x ∷ ns) h k = (omega (arith, h, k.0), less_more m n ns h k.1)

pub parts_of_node : (xs : List Node) (n : ℕ) (x : Node) → tree xs n ≡ node_tree xs x → PartsAreBelow n x → ArePartsOf xs n (part_numbers x)
parts_of_node xs n x stands below = record { are = ap parts stands ∙ parts_by xs x; lower = numbers_less n x below }

-- the parts of a node are marked
pub node_less : (n l : ℕ) (x : Node) → n < l → PartsAreBelow n x → AreLess l (part_numbers x)
node_less n l x h below = less_more n l (part_numbers x) (omega (arith, h)) (numbers_less n x below)

pub not_looked : (xs : List Node) (n : ℕ) (old : List Bool) → is_marked old n ≡ false → IsLookedAt xs n old old
not_looked xs n old e = record { with_parts = λ h. absurd (apart h); without = λ h. refl }
  where
    apart : is_marked old n ≡ true → ⊥
    apart h = let f : true ≡ false = sym h ∙ e in absurd cc

pub looked : (xs : List Node) (n : ℕ) (x : Node) (old new : List Bool) → is_marked old n ≡ true → tree xs n ≡ node_tree xs x → PartsAreBelow n x
    → Marks old new (part_numbers x) → IsLookedAt xs n old new
looked xs n x old new e stands below marks = record {
  with_parts = λ h. (part_numbers x, parts_of_node xs n x stands below, marks);
  without = λ h. absurd (apart h);
}
  where
    apart : is_marked old n ≡ false → ⊥
    apart h = let f : true ≡ false = sym e ∙ h in absurd cc

-- ---- from the goal down

at_goal : (goal : ℕ) → is_marked (replicate goal false ++ true ∷ []) goal ≡ true
at_goal zero = refl
at_goal (suc goal) = at_goal goal

as_many_marks : (goal : ℕ) → length (replicate goal false ++ true ∷ []) ≡ goal + 1
as_many_marks zero = refl
as_many_marks (suc goal) = omega (arith, as_many_marks goal)

alone_at : (goal n : ℕ) → is_marked (replicate goal false ++ true ∷ []) n ≡ true → n ≡ goal
alone_at zero zero h = refl
alone_at zero (suc n) h = absurd cc
alone_at (suc goal) zero h = absurd cc
alone_at (suc goal) (suc n) h = ap suc (alone_at goal n h)

pub one_goal : (goal : ℕ) (v : List Bool) → v ≡ replicate goal false ++ true ∷ [] → IsOneMark goal v
one_goal goal v e = subst (IsOneMark goal) (sym e) (record { as_many = as_many_marks goal; goal_is = at_goal goal; alone = alone_at goal })

pub marked_first : (xs : List Node) (goal : ℕ) (marks : List Bool) → IsOneMark goal marks → AreMarked xs goal (goal + 1) marks
marked_first xs goal marks is = record {
  as_many = is.as_many;
  sound = λ n h. subst (λ z. IsSubterm (tree xs goal) (tree xs z)) (sym (is.alone n h)) whole;
  goal_is = is.goal_is;
  closed = λ n above h. absurd (omega (arith, above, is.alone n h));
}

bool_cases : (b : Bool) → (b ≡ true) ⊎ (b ≡ false)
bool_cases true = inl refl
bool_cases false = inr refl

unmarked_down : (xs : List Node) (goal n : ℕ) (old : List Bool) → AreMarked xs goal (n + 1) old → is_marked old n ≡ false → AreMarked xs goal n old
unmarked_down xs goal n old is e = record {
  as_many = is.as_many;
  sound = is.sound;
  goal_is = is.goal_is;
  closed = λ m above h. ⊎_elim (λ same. let f : true ≡ false = sym (subst (λ z. is_marked old z ≡ true) same h) ∙ e in absurd cc) (λ apart. is.closed m (omega (arith, above, apart)) h) (same_or_not m n);
}

module _ (xs : List Node) (goal n : ℕ) (old new : List Bool) (ns : List ℕ) (is : AreMarked xs goal (n + 1) old) (own : is_marked old n ≡ true) (part : ArePartsOf xs n ns) (marks : Marks old new ns) where
  kept : (p : Tree) → HasMark xs old p → HasMark xs new p
  kept p k = (k.0, (marks.are k.0).1 (inl k.1), k.2)

  at : (m : ℕ) → n ≤ m → (is_marked old m ≡ true) ⊎ Has ns m → (m ≡ n) ⊎ (m ≡ n → ⊥) → (p : Tree) → Has (parts (tree xs m)) p → HasMark xs new p
  at m above h (inl same) p k =
      let q = map-Has (tree xs) ns p (subst (λ z. Has z p) part.are (subst (λ z. Has (parts (tree xs z)) p) same k)) in
      (q.0, (marks.are q.0).1 (inr q.1), q.2)
  at m above (inl h) (inr apart) p k = kept p (is.closed m (omega (arith, above, apart)) h p k)
  at m above (inr h) (inr apart) p k = absurd (omega (arith, above, AllByRecursion-Has (λ m. m < n) ns m part.lower h))

  with_its_parts : AreMarked xs goal n new
  with_its_parts = record {
    as_many = marks.as_many ∙ is.as_many;
    sound = λ m h. ⊎_elim (λ k. is.sound m k) (λ k. part_of (tree xs n) (tree xs m) (is.sound n own) (subst (λ z. Has z (tree xs m)) (sym part.are) (Has-map (tree xs) ns m k))) ((marks.are m).0 h);
    goal_is = (marks.are goal).1 (inl is.goal_is);
    closed = λ m above h p k. at m above ((marks.are m).0 h) (same_or_not m n) p k;
  }

pub marked_down : (xs : List Node) (goal n : ℕ) (old new : List Bool) → AreMarked xs goal (n + 1) old → IsLookedAt xs n old new → AreMarked xs goal n new
marked_down xs goal n old new is looked =
    ⊎_elim
    (λ h. let k = looked.with_parts h in with_its_parts xs goal n old new k.0 is h k.1 k.2)
    (λ h. subst (AreMarked xs goal n) (sym (looked.without h)) (unmarked_down xs goal n old is h))
    (bool_cases (is_marked old n))

-- each subterm has a mark
pub has_mark : (xs : List Node) (goal : ℕ) (marks : List Bool) → AreMarked xs goal 0 marks → (t : Tree) → IsSubterm (tree xs goal) t → HasMark xs marks t
has_mark xs goal marks is _ whole = (goal, is.goal_is, refl)
has_mark xs goal marks is _ (part_of t p h k) =
    let m = has_mark xs goal marks is t h in
    is.closed m.0 (omega arith) m.1 p (subst (λ z. Has (parts z) p) (sym m.2) k)
