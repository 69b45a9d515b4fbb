-- Steps that don't go on are the falsified instances of SE1.
use Rattle.std.proofs.Common.{◌≡◌, ◌<◌, ◌≤◌, ◌+◌, ℕ, zero, suc, Bool, true, false, inl, inr, List, [], ◌∷◌, length, slice_get, Option, Some, None, option_and_then, option_map, IfSome, IfNone, refl, sym, ap, ◌∙◌, subst, arith}
use Rattle.sc_clauses.specs.Assignments.{Assignment}
use Rattle.sc_closure.proofs.PuttingLaws.{put_old, put_there}
use Rattle.sc_closure.specs.Following.{put_one}
use Rattle.sc_lists.specs.Members.{Has}
use Rattle.sc_sorts.specs.declared.node.BinaryOp.TheVariants as binary
use Rattle.sc_terms.specs.Trees.{Tree}
use Rattle.sc_terms.specs.Folds.{equal_term}
use Rattle.sc_terms.specs.Tables.{tree}
use Rattle.sc_footprint.specs.Problems.{Posed, IsPosed, numbered, term_of, literal_in}
use Rattle.sc_rule_laws.specs.Signed.{so, unless}
use Rattle.sc_rule_laws.specs.Sets.{se1}
use Rattle.sc_rule_laws.specs.Terms.{member}
use Rattle.sc_rule_instances.specs.Instances.{on_three, set_said}
use Rattle.sc_rule_instances.specs.Known.{known, is_falsified}
use Rattle.sc_rule_instances.specs.declared.rule.SetRule.{SetRule}
use Rattle.sc_rule_instances.specs.declared.rule.SetRule.TheVariants.{Se1}
use Rattle.sc_falsified.specs.Paths.{IsGap, NoGap}
use Rattle.th_sets.specs.declared.named.Named.{Named}
use Rattle.th_sets.specs.declared.named.Named.TheVariants.{Member, Subset, Common, Other}
use Rattle.th_sets.specs.Moves.{term_at, known_two, equal_known, member_known, IsAmong, IsPutBy, AreAmong, move_of, AreMovesFree}
use Rattle.th_sets.specs.Named.{named_at, AreFirst}
use Rattle.sc_rule_instances.proofs.FalseLaws.{false_known, known_false, false_negation, known_negation}
use Rattle.th_sets.proofs.FalseLaws.{head_out, tail_out, more_out, all_out, free_if}
use Rattle.th_sets.proofs.FreeLaws.{first_more, first_all}
use Rattle.th_sets.proofs.WholeLaws.{Out, three_view, unless_there, so_there, member_named}

-- ---- the parts of memberships, one more at a time

pub among_still : (xs ss : List ℕ) (x s : ℕ) (by : Named) → IsAmong xs ss by → IsAmong (put_one xs x) (put_one ss s) by
among_still xs ss x s (Member y t) h = (put_old xs (x ∷ []) y h.0, put_old ss (s ∷ []) t h.1)
among_still xs ss x s (Subset u v) h = tt
among_still xs ss x s (Common u v) h = tt
among_still xs ss x s Other h = tt

pub among_after : (xs ss ys ts : List ℕ) (added by : Named) → IsPutBy xs ss added ys ts → IsAmong xs ss by → IsAmong ys ts by
among_after xs ss ys ts (Member x s) by h k = rw (h.0, h.1) (among_still xs ss x s by k)
among_after xs ss ys ts (Subset u v) by h k = rw (h.0, h.1) k
among_after xs ss ys ts (Common u v) by h k = rw (h.0, h.1) k
among_after xs ss ys ts Other by h k = rw (h.0, h.1) k

pub among_now : (xs ss ys ts : List ℕ) (added : Named) → IsPutBy xs ss added ys ts → IsAmong ys ts added
among_now xs ss ys ts (Member x s) h = rw (h.0, h.1) (put_there xs (x ∷ []) x (inl refl), put_there ss (s ∷ []) s (inl refl))
among_now xs ss ys ts (Subset u v) h = tt
among_now xs ss ys ts (Common u v) h = tt
among_now xs ss ys ts Other h = tt

pub among_more : (p : Posed) (n : ℕ) (xs ss ys ts : List ℕ) (by : Named) → by ≡ named_at p (n + 1) → IsPutBy xs ss by ys ts → AreFirst p (IsAmong xs ss) n → AreFirst p (IsAmong ys ts) (n + 1)
unfolding AreFirst
among_more p n xs ss ys ts by is put before =
    first_more p (IsAmong ys ts) n by is (among_now xs ss ys ts by put) (λ k less. among_after xs ss ys ts by (named_at p (k + 1)) put (before k less))

pub among_all : (p : Posed) (count : ℕ) (xs ss ys ts : List ℕ) → length p.closed ≤ count → AreFirst p (IsAmong xs ss) count → ys ≡ xs → ts ≡ ss → AreAmong p ys ts
among_all p count xs ss ys ts all h e f = rw (e, f) (first_all p (IsAmong xs ss) count all tt h)

-- ---- a gap is a falsified instance

module _ (p : Posed) (m : Assignment) where
  known_view : (make : Tree → Tree → Tree) (o q : Option Tree) (v : Bool) → known_two p m make o q ≡ Some v → (a : Tree) × (b : Tree) × (o ≡ Some a) × (q ≡ Some b) × (known m (literal_in p (make a b)) ≡ Some v)
  known_view make (Some a) (Some b) v h = (a, b, refl, refl, h)
  known_view make (Some a) None v h = absurd cc
  known_view make None q v h = absurd cc

  known_is : (make : Tree → Tree → Tree) (o q : Option Tree) (a b : Tree) (v : Bool) → o ≡ Some a → q ≡ Some b → known m (literal_in p (make a b)) ≡ Some v → known_two p m make o q ≡ Some v
  known_is make o q a b v e f h = rw (e, f) h

  gap_out : (o q r : Option Tree) → known_two p m equal_term o q ≡ Some true → known_two p m member o r ≡ Some true → known_two p m member q r ≡ Some false → Out p m (on_three o q r se1)
  gap_out (Some a) (Some b) (Some c) e f g =
      more_out m p (unless (equal_term a b)) _ (known_negation m (literal_in p (equal_term a b)) e)
      (more_out m p (unless (member a c)) _ (known_negation m (literal_in p (member a c)) f)
      (more_out m p (so (member b c)) [] (known_false m (literal_in p (member b c)) g) (all_out m p)))
  gap_out (Some a) (Some b) None e f g = absurd cc
  gap_out (Some a) None r e f g = absurd cc
  gap_out None q r e f g = absurd cc

  -- the closed term of a number, where there is one
  abbrev read : Option ℕ → Option Tree
  read o = option_map (tree p.nodes) (option_and_then (numbered p.closed) o)

  at_place : (ns : List ℕ) (i : ℕ) (t : Tree) → term_at p ns i ≡ Some t → (n : ℕ) × (slice_get ns i ≡ Some n)
  at_place ns i t h = by (slice_get ns i) h
    where
      by : (o : Option ℕ) → option_map (tree p.nodes) (option_and_then (numbered p.closed) o) ≡ Some t → (n : ℕ) × (o ≡ Some n)
      by (Some n) e = (n, refl)
      by None e = absurd cc

  moved : (o q r : Option ℕ) (x y s : ℕ) → o ≡ Some x → q ≡ Some y → r ≡ Some s → move_of o q r ≡ Some (Se1 x y s)
  moved o q r x y s e f g = rw (e, f, g) refl

  module _ (xs ss : List ℕ) (start middle end : ℕ)
      (gap : IsGap (equal_known p m xs) (member_known p m xs ss) (member_known p m xs ss) start middle end) where
    gap_rule : (rule : SetRule) × (move_of (slice_get xs middle) (slice_get xs start) (slice_get ss end) ≡ Some rule) × Out p m (set_said p rule)
    gap_rule =
        let (a, b, f, g, e) = known_view equal_term (term_at p xs middle) (term_at p xs start) true gap.joined in
        let (c, d, h, i, k) = known_view member (term_at p xs middle) (term_at p ss end) true gap.goes_on in
        let (x, x_is) = at_place xs middle a f in
        let (y, y_is) = at_place xs start b g in
        let (s, s_is) = at_place ss end d i in
        let xs_at : term_at p xs middle ≡ term_of p x = ap read x_is in
        let ys_at : term_at p xs start ≡ term_of p y = ap read y_is in
        let ss_at : term_at p ss end ≡ term_of p s = ap read s_is in
        let out = gap_out (term_at p xs middle) (term_at p xs start) (term_at p ss end) gap.joined gap.goes_on gap.apart in (
          Se1 x y s,
          moved (slice_get xs middle) (slice_get xs start) (slice_get ss end) x y s x_is y_is s_is,
          subst (λ o. Out p m (on_three o (term_of p y) (term_of p s) se1)) xs_at
              (subst (λ o. Out p m (on_three (term_at p xs middle) o (term_of p s) se1)) ys_at
              (subst (λ o. Out p m (on_three (term_at p xs middle) (term_at p xs start) o se1)) ss_at out)),
        )

    pub gap_found : (o : Option SetRule) → o ≡ move_of (slice_get xs middle) (slice_get xs start) (slice_get ss end) → IfSome o (λ rule. is_falsified p m (set_said p rule) ≡ true)
    gap_found o e = let (rule, is, out) = gap_rule in subst (λ q. IfSome q (λ rule. Out p m (set_said p rule))) (sym (e ∙ is)) out

    pub gap_some : (o : Option SetRule) (P : Type 0) → o ≡ move_of (slice_get xs middle) (slice_get xs start) (slice_get ss end) → IfNone o P
    gap_some o P e = let (rule, is, out) = gap_rule in subst (λ q. IfNone q P) (sym (e ∙ is)) tt

  -- ---- and there is no other

  has_place : (ns : List ℕ) (n : ℕ) → Has ns n → (i : ℕ) × (i < length ns) × (slice_get ns i ≡ Some n)
  has_place [] n h = absurd h
  has_place (k ∷ ns) n (inl e) = (zero, omega arith, ap Some e)
  has_place (k ∷ ns) n (inr h) = let (i, less, is) = has_place ns n h in (suc i, omega (arith, less), is)

  module _ (posed : IsPosed p) (xs ss : List ℕ) (all : AreAmong p xs ss) where
    place_of : (ns : List ℕ) (n : ℕ) (t : Tree) → Has ns n → term_of p n ≡ Some t → (i : ℕ) × (i < length ns) × (term_at p ns i ≡ Some t)
    place_of ns n t h e = let (i, less, is) = has_place ns n h in (i, less, ap read is ∙ e)

    among_at : (n x s : ℕ) (a b : Tree) → term_of p n ≡ Some (member a b) → term_of p x ≡ Some a → term_of p s ≡ Some b → Has xs x × Has ss s
    among_at n x s a b e f g = subst (IsAmong xs ss) (member_named p m posed n x s a b e f g) (all n)

    pub no_gap_free : NoGap (equal_known p m xs) (member_known p m xs ss) (member_known p m xs ss) (length xs) (length xs) (length ss) → AreMovesFree p m
    no_gap_free none x y s = free_if m p _ by
      where
        by : Out p m (set_said p (Se1 x y s)) → is_falsified p m (set_said p (Se1 x y s)) ≡ false
        by h =
            let (a, b, c, f, g, k, out) = three_view p m (term_of p x) (term_of p y) (term_of p s) se1 h in
            let second = tail_out m p (unless (equal_term a b)) (unless (member a c) ∷ so (member b c) ∷ []) out in
            let equal_out = head_out m p (unless (equal_term a b)) (unless (member a c) ∷ so (member b c) ∷ []) out in
            let member_out = head_out m p (unless (member a c)) (so (member b c) ∷ []) second in
            let last_out = head_out m p (so (member b c)) [] (tail_out m p (unless (member a c)) (so (member b c) ∷ []) second) in
            let (n, n_is) = unless_there p m posed binary.Member a c member_out in
            let (l, l_is) = so_there p m posed binary.Member b c last_out in
            let first = among_at n x s a c n_is f k in
            let other = among_at l y s b c l_is g k in
            let (i, i_in, i_at) = place_of xs x a first.0 f in
            let (j, j_in, j_at) = place_of xs y b other.0 g in
            let (e, e_in, e_at) = place_of ss s c first.1 k in
            absurd (none j i e j_in i_in e_in (record {
              joined = known_is equal_term (term_at p xs i) (term_at p xs j) a b true i_at j_at (false_negation m (literal_in p (equal_term a b)) equal_out);
              goes_on = known_is member (term_at p xs i) (term_at p ss e) a c true i_at e_at (false_negation m (literal_in p (member a c)) member_out);
              apart = known_is member (term_at p xs j) (term_at p ss e) b c false j_at e_at (false_known m (literal_in p (member b c)) last_out);
            }))

-- ---- the same where the problem and the assignment are told by equations

module _ (p q : Posed) (m n : Assignment) (xs ss : List ℕ) (of : q ≡ p) (under : n ≡ m) where
  abbrev Gap : ℕ × ℕ × ℕ → Type 0
  Gap t = IsGap (equal_known q n xs) (member_known q n xs ss) (member_known q n xs ss) t.0 t.1 t.2

  abbrev Free : Type 0
  Free = NoGap (equal_known q n xs) (member_known q n xs ss) (member_known q n xs ss) (length xs) (length xs) (length ss)

  pub told_found : (r : Option (ℕ × ℕ × ℕ)) (start middle end : ℕ) (o : Option SetRule) → r ≡ Some (start, middle, end) → IfSome r Gap
      → o ≡ move_of (slice_get xs middle) (slice_get xs start) (slice_get ss end) → IfSome o (λ rule. is_falsified p m (set_said p rule) ≡ true)
  told_found r start middle end o is gap e =
      gap_found p m xs ss start middle end
      (subst (λ (a : Assignment). IsGap (equal_known p a xs) (member_known p a xs ss) (member_known p a xs ss) start middle end) under
      (subst (λ (r : Posed). IsGap (equal_known r n xs) (member_known r n xs ss) (member_known r n xs ss) start middle end) of (subst (λ w. IfSome w Gap) is gap))) o e

  pub told_some : (r : Option (ℕ × ℕ × ℕ)) (start middle end : ℕ) (o : Option SetRule) (P : Type 0) → r ≡ Some (start, middle, end) → IfSome r Gap
      → o ≡ move_of (slice_get xs middle) (slice_get xs start) (slice_get ss end) → IfNone o P
  told_some r start middle end o P is gap e = gap_some q n xs ss start middle end (subst (λ w. IfSome w Gap) is gap) o P e

  pub told_none : (r : Option (ℕ × ℕ × ℕ)) → IsPosed p → AreAmong p xs ss → r ≡ None → IfNone r Free → AreMovesFree p m
  told_none r posed all is none =
      no_gap_free p m posed xs ss all
      (subst (λ (a : Assignment). NoGap (equal_known p a xs) (member_known p a xs ss) (member_known p a xs ss) (length xs) (length xs) (length ss)) under
      (subst (λ (r : Posed). NoGap (equal_known r n xs) (member_known r n xs ss) (member_known r n xs ss) (length xs) (length xs) (length ss)) of (subst (λ w. IfNone w Free) is none)))
