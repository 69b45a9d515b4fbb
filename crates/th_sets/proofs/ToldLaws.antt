-- SE9 and SE10 at those that stand in a set term, and past the last.
use Rattle.std.proofs.Common.{◌≡◌, ◌==◌, ◌<◌, ◌≤◌, ℕ, Bool, false, List, ◌∷◌, map, length, slice_get, Option, Some, None, IfNone, refl, sym, ap, ◌∙◌, subst, arith, ⊎_elim}
use Rattle.std.proofs.lemmas.Bool.{cases_lt}
use Rattle.std.proofs.lemmas.Bool.Decides.{nat_tests}
use Rattle.std.proofs.lemmas.Option.{slice_get_past}
use Rattle.sc_clauses.specs.Assignments.{Assignment}
use Rattle.sc_sorts.specs.declared.node.ManyOp.TheVariants as manys
use Rattle.sc_sorts.specs.declared.node.Node.{Node}
use Rattle.sc_rule_instances.specs.declared.rule.SetRule.{SetRule}
use Rattle.sc_rule_instances.specs.declared.rule.SetRule.TheVariants.{Se9, Se10}
use Rattle.sc_terms.specs.Trees.{Tree, leaf, one, two, choice, many}
use Rattle.sc_terms.specs.Tables.{Places}
use Rattle.sc_footprint.specs.Problems.{Posed, term_of}
use Rattle.sc_rule_laws.specs.Signed.{so, unless, given}
use Rattle.sc_rule_laws.specs.Sets.{se9_at, se9, se10_at, se10_of, se10}
use Rattle.sc_rule_laws.specs.Terms.{member, subset, common, members, written}
use Rattle.sc_rule_instances.specs.Instances.{on_two}
use Rattle.sc_rule_instances.specs.Known.{is_falsified}
use Rattle.sc_rule_instances.specs.Lookups.{IsMembers}
use Rattle.th_sets.specs.Free.{IsFree, AreFirstFree, member_count, teller_count}
use Rattle.th_sets.proofs.RowLaws.{members_length}

not_at : (i n : ℕ) → n < i → (i == n) ≡ false
not_at i n h = grind (arith, nat_tests)

module _ (p : Posed) (m : Assignment) (rule : ℕ → SetRule) where
  told_all : (n : ℕ) → AreFirstFree p m rule n → IsFree p m (rule n) → ((i : ℕ) → n < i → IsFree p m (rule i)) → (i : ℕ) → IsFree p m (rule i)
  unfolding AreFirstFree
  told_all n before here later i =
      ⊎_elim (before i) (λ (past : n ≤ i). ⊎_elim (later i) (λ (near : i ≤ n). let same : n ≡ i = omega (arith, past, near) in subst (λ j. IsFree p m (rule j)) same here) (cases_lt n i)) (cases_lt i n)

-- ---- past the last nothing is said

se9_past : (t u : Tree) (i : ℕ) → member_count (Some t) < i → se9 t u i ≡ None
se9_past (leaf l) u i h = refl
se9_past (one o a) u i h = refl
se9_past (two o a b) u i h = refl
se9_past (choice c a b) u i h = refl
se9_past (many (manys.Set k) ts) u i h =
    let far : length (members ts) ≤ i = omega (arith, h) in
    ap (se9_at (many (manys.Set k) ts) u (members ts) i) (slice_get_past (members ts) i far)
    ∙ ap (λ (b : Bool). given b (so (subset (many (manys.Set k) ts) u) ∷ map (λ z. unless (member z u)) (members ts))) (not_at i (length (members ts)) h)
se9_past (many manys.Record ts) u i h = refl

se10_at_past : (c v : Tree) (us : List Tree) (i : ℕ) → length us < i → se10_at c us v i (slice_get us i) ≡ None
se10_at_past c v us i h =
    let far : length us ≤ i = omega (arith, h) in
    ap (se10_at c us v i) (slice_get_past us i far) ∙ ap (λ (b : Bool). given b (unless c ∷ map (λ z. so (member z v)) us)) (not_at i (length us) h)

turned_past : (t u : Tree) (i : ℕ) → member_count (Some u) < i → se10_of None (written u) t u i ≡ None
turned_past t (leaf l) i h = refl
turned_past t (one o a) i h = refl
turned_past t (two o a b) i h = refl
turned_past t (choice c a b) i h = refl
turned_past t (many (manys.Set k) ts) i h = se10_at_past (common t (many (manys.Set k) ts)) t (members ts) i h
turned_past t (many manys.Record ts) i h = refl

se10_past : (t u : Tree) (i : ℕ) → teller_count (Some t) (Some u) < i → se10 t u i ≡ None
se10_past (leaf l) u i h = turned_past (leaf l) u i h
se10_past (one o a) u i h = turned_past (one o a) u i h
se10_past (two o a b) u i h = turned_past (two o a b) u i h
se10_past (choice c a b) u i h = turned_past (choice c a b) u i h
se10_past (many (manys.Set k) ts) u i h = se10_at_past (common (many (manys.Set k) ts) u) u (members ts) i h
se10_past (many manys.Record ts) u i h = turned_past (many manys.Record ts) u i h

-- ---- how many tell

pub tellers_written : (xs : List Node) (t : Tree) (ps : Places) (q : Option Tree) → IsMembers xs t (Some ps) → length ps ≡ teller_count (Some t) q
tellers_written xs t ps q (k, is, below) = sym (ap (λ (u : Tree). teller_count (Some u) q) is ∙ members_length xs ps)

pub tellers_plain : (xs : List Node) (t : Tree) (q : Option Tree) → IsMembers xs t None → member_count q ≡ teller_count (Some t) q
tellers_plain xs (leaf l) q h = refl
tellers_plain xs (one o a) q h = refl
tellers_plain xs (two o a b) q h = refl
tellers_plain xs (choice c a b) q h = refl
tellers_plain xs (many (manys.Set k) ts) q h = absurd (h k ts refl)
tellers_plain xs (many manys.Record ts) q h = refl

-- ---- all of a rule

module _ (p : Posed) (m : Assignment) where
  within_past : (o q : Option Tree) (i : ℕ) → member_count o < i → is_falsified p m (on_two o q (λ t u. se9 t u i)) ≡ false
  unfolding is_falsified
  within_past (Some t) (Some u) i h = ap (is_falsified p m) (se9_past t u i h)
  within_past (Some t) None i h = refl
  within_past None q i h = refl

  sharing_past : (o q : Option Tree) (i : ℕ) → teller_count o q < i → is_falsified p m (on_two o q (λ t u. se10 t u i)) ≡ false
  unfolding is_falsified
  sharing_past (Some t) (Some u) i h = ap (is_falsified p m) (se10_past t u i h)
  sharing_past (Some t) None i h = refl
  sharing_past None q i h = refl

  pub within_all : (s t : ℕ) (o : Option SetRule) (n : ℕ) → n ≡ member_count (term_of p s) → AreFirstFree p m (λ (i : ℕ). Se9 s t i) n → IfNone o (IsFree p m (Se9 s t n))
      → IfNone o ((i : ℕ) → IsFree p m (Se9 s t i))
  within_all s t (Some rule) n e before here = tt
  within_all s t None n e before here =
      told_all p m (λ (i : ℕ). Se9 s t i) n before here (λ i h. within_past (term_of p s) (term_of p t) i (omega (arith, h, e)))

  pub sharing_all : (s t : ℕ) (o : Option SetRule) (n : ℕ) → n ≡ teller_count (term_of p s) (term_of p t) → AreFirstFree p m (λ (i : ℕ). Se10 s t i) n → IfNone o (IsFree p m (Se10 s t n))
      → IfNone o ((i : ℕ) → IsFree p m (Se10 s t i))
  sharing_all s t (Some rule) n e before here = tt
  sharing_all s t None n e before here =
      told_all p m (λ (i : ℕ). Se10 s t i) n before here (λ i h. sharing_past (term_of p s) (term_of p t) i (omega (arith, h, e)))
