-- The memberships that an assignment says are true are listed, and no others.
use Rattle.std.proofs.Common.{◌≡◌, ◌≤◌, ◌+◌, ◌∙◌, ℕ, Bool, true, false, cond, List, [], ◌∷◌, length, Option, Some, None, IfSome, refl, sym, ap, subst}
use Rattle.std.specs.List.{AllByRecursion}
use Rattle.sc_lists.proofs.ListLaws.{all_append}
use Rattle.std.specs.List.Sorted.{IsPermutation}
use Rattle.std.proofs.lemmas.List.Sorted.{Contains-permutation, IsPermutation-sym}
use Rattle.sc_lists.specs.Members.{Has}
use Rattle.sc_lists.proofs.MemberLaws.{AllByRecursion-Has, Contains-from_Has, Has-AllByRecursion, Has-from_Contains, Has-last, Has-left}
use Rattle.sc_clauses.specs.declared.lit.Lit.{Lit}
use Rattle.sc_clauses.specs.Assignments.{Assignment}
use Rattle.sc_clauses.specs.Clauses.{negation}
use Rattle.sc_sorts.specs.declared.node.BinaryOp.TheVariants as binary
use Rattle.sc_terms.specs.Trees.{Tree, two}
use Rattle.sc_footprint.specs.Problems.{Posed, literal_in, term_of}
use Rattle.sc_rule_laws.specs.Terms.{member}
use Rattle.th_entities.specs.declared.memberships.Membership.{Membership}
use Rattle.th_entities.specs.Free.{AreFirst, is_out}
use Rattle.th_entities.specs.Memberships.{number_in, owner_in, is_above, membership_at, membership_in, is_true, true_two, true_term, true_closed, IsAmong, IsHeld, AreMemberships, IsPut}
use Rattle.th_entities.proofs.FreeLaws.{first_none, first_more, first_all}

-- ---- a membership of two terms, and whether it is said to be true

pub membership_is : (p : Posed) (x s t : Tree) (a b c : ℕ) (above : Bool) → a ≡ number_in p x → b ≡ number_in p s → s ≡ t → c ≡ owner_in p t → above ≡ is_above x t
    → membership_at a b c above ≡ membership_in p x s
membership_is p x s t a b c above e f same g h =
    ap (λ (i : ℕ). membership_at i b c above) e
    ∙ ap (λ (i : ℕ). membership_at (number_in p x) i c above) f
    ∙ ap (λ (i : ℕ). membership_at (number_in p x) (number_in p s) i above) (g ∙ sym (ap (owner_in p) same))
    ∙ ap (membership_at (number_in p x) (number_in p s) (owner_in p s)) (h ∙ sym (ap (is_above x) same))

module _ (p : Posed) (m : Assignment) where
  pub true_is : (t : Tree) (l k : Lit) (b : Bool) → l ≡ literal_in p t → k ≡ negation l → b ≡ is_out m k → b ≡ is_true p m t
  true_is t l k b e f g = g ∙ ap (is_out m) (f ∙ ap negation e)

module _ (p : Posed) (m : Assignment) (x s : Tree) where
  pub said_true : (t : Tree) (b : Bool) (k : Membership) → b ≡ is_true p m t → t ≡ member x s → b ≡ true → k ≡ membership_in p x s → Some k ≡ true_two p m x s
  said_true t b k e at h f = ap Some f ∙ ap (λ (c : Bool). cond c (Some (membership_in p x s)) None) (sym h ∙ e ∙ ap (is_true p m) at)

  pub said_none : (t : Tree) (b : Bool) → b ≡ is_true p m t → t ≡ member x s → b ≡ false → None ≡ true_two p m x s
  said_none t b e at h = ap (λ (c : Bool). cond c (Some (membership_in p x s)) None) (sym h ∙ e ∙ ap (is_true p m) at)

-- ---- one membership more

among_still : (known more : List Membership) (o added : Option Membership) → IsPut known added more → IsAmong known o → IsAmong more o
among_still known more (Some k) (Some a) e h = rw e (Has-left known (a ∷ []) k h)
among_still known more (Some k) None e h = rw e h
among_still known more None added e h = tt

among_now : (known more : List Membership) (added : Option Membership) → IsPut known added more → IsAmong more added
among_now known more (Some a) e = rw e (Has-last known a)
among_now known more None e = tt

module _ (p : Posed) (m : Assignment) where
  -- what the closed term of a number is, is among these
  unfoldable pub IsListed : List Membership → ℕ → Type 0
  IsListed known n = IsAmong known (true_closed p m (term_of p n))

  listed_more : (n : ℕ) (known more : List Membership) (added : Option Membership) → added ≡ true_closed p m (term_of p (n + 1)) → IsPut known added more → AreFirst (IsListed known) n → AreFirst (IsListed more) (n + 1)
  unfolding AreFirst IsListed
  listed_more n known more added is put before =
      first_more (IsListed more) n (subst (IsAmong more) is (among_now known more added put)) (λ k less. among_still known more (true_closed p m (term_of p (k + 1))) added put (before k less))

  listed_past : (known : List Membership) (n : ℕ) → term_of p n ≡ None → IsListed known n
  unfolding IsListed
  listed_past known n e = subst (λ (o : Option Tree). IsAmong known (true_closed p m o)) (sym e) tt

  -- and these are no others
  held_two : (x s : Tree) → IfSome (true_two p m x s) (IsHeld p m)
  held_two x s = by (is_true p m (member x s)) refl
    where
      by : (b : Bool) → is_true p m (member x s) ≡ b → IfSome (cond b (Some (membership_in p x s)) None) (IsHeld p m)
      by true e = record { element = x; whole = s; stands = refl; said = e }
      by false e = tt

  held_term : (t : Tree) → IfSome (true_term p m t) (IsHeld p m)
  held_term (two binary.Member x s) = held_two x s
  held_term _ = tt

  held_closed : (o : Option Tree) → IfSome (true_closed p m o) (IsHeld p m)
  held_closed (Some t) = held_term t
  held_closed None = tt

  held_more : (known more : List Membership) (added : Option Membership) → IfSome added (IsHeld p m) → IsPut known added more → AllByRecursion (IsHeld p m) known → AllByRecursion (IsHeld p m) more
  held_more known more (Some k) h e all = rw e (all_append (IsHeld p m) known (k ∷ []) all (h, tt))
  held_more known more None h e all = rw e all

  -- these are those of the first so many numbers
  unfoldable pub AreSoFar : List Membership → ℕ → Type 0
  AreSoFar known n = AreFirst (IsListed known) n × AllByRecursion (IsHeld p m) known

  pub so_far_none : (known : List Membership) → known ≡ [] → AreSoFar known 0
  unfolding AreSoFar
  so_far_none known e = (first_none (IsListed known), rw e tt)

  pub so_far_more : (n : ℕ) (known more : List Membership) (added : Option Membership) → added ≡ true_closed p m (term_of p (n + 1)) → IsPut known added more → AreSoFar known n → AreSoFar more (n + 1)
  unfolding AreSoFar
  so_far_more n known more added is put before =
      (listed_more n known more added is put before.0, held_more known more added (subst (λ (o : Option Membership). IfSome o (IsHeld p m)) (sym is) (held_closed (term_of p (n + 1)))) put before.1)

  pub so_far_all : (known : List Membership) (count : ℕ) → length p.closed ≤ count → AreSoFar known count → AreMemberships p m known
  unfolding AreSoFar IsListed AreMemberships
  so_far_all known count all before = (first_all (IsListed known) p count all (listed_past known) before.0, before.1)

  pub memberships_held : (known : List Membership) → AreMemberships p m known → AllByRecursion (IsHeld p m) known
  unfolding AreMemberships
  memberships_held known all = all.1

  -- and so they are in another order
  Has-permutation : (xs ys : List Membership) (k : Membership) → IsPermutation xs ys → Has xs k → Has ys k
  Has-permutation xs ys k moved has = Has-from_Contains ys k (Contains-permutation xs ys k moved (Contains-from_Has xs k has))

  among_permutation : (xs ys : List Membership) (o : Option Membership) → IsPermutation xs ys → IsAmong xs o → IsAmong ys o
  among_permutation xs ys (Some k) moved has = Has-permutation xs ys k moved has
  among_permutation xs ys None moved has = tt

  pub in_order : (xs ys : List Membership) → IsPermutation xs ys → AreMemberships p m xs → AreMemberships p m ys
  unfolding AreMemberships
  in_order xs ys moved all = (
    (λ n. among_permutation xs ys (true_closed p m (term_of p n)) moved (all.0 n)),
    Has-AllByRecursion (IsHeld p m) ys (λ (k : Membership) has. AllByRecursion-Has (IsHeld p m) xs k all.1 (Has-permutation ys xs k (IsPermutation-sym xs ys moved) has)),
  )
