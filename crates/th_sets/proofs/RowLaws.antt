-- The literals of instances, one by one, are those of what they say.
use Rattle.std.proofs.Common.{◌≡◌, ◌==◌, ◌&&◌, ◌+◌, ◌-◌, ◌<◌, ◌≤◌, ℕ, zero, suc, nat_lt, Bool, true, false, not, cond, List, [], ◌∷◌, map, length, get_or, slice_get, Option, Some, None, option_map, refl, sym, ap, ◌∙◌, subst, arith, if◌then◌else◌}
use Rattle.std.specs.Option.{option_or}
use Rattle.std.proofs.lemmas.Bool.Decides.{nat_tests}
use Rattle.std.proofs.lemmas.Option.{slice_get_past, slice_get-get_or}
use Rattle.sc_clauses.specs.declared.lit.Lit.{Lit}
use Rattle.sc_clauses.specs.Clauses.{positive, negation}
use Rattle.sc_sorts.specs.declared.sort.Sort.{Sort}
use Rattle.sc_sorts.specs.contracts.sort.SortPartialEq.TheImpl.{ghosts as sorts}
use Rattle.sc_sorts.specs.declared.node.ManyOp.TheVariants as manys
use Rattle.sc_sorts.specs.declared.node.Node.{Node}
use Rattle.sc_sorts.specs.declared.node.Node.TheVariants as node
use Rattle.sc_terms.specs.Trees.{Tree, leaf, one, two, choice, many, Trees}
use Rattle.sc_terms.specs.TreeSorts.{tree_sort}
use Rattle.sc_terms.specs.Folds.{equal_term}
use Rattle.sc_terms.specs.Tables.{tree, node_tree, node_parts, Places}
use Rattle.sc_footprint.specs.Problems.{Posed, numbered, literal_in}
use Rattle.sc_rule_laws.specs.Signed.{Signed, Said, so, unless, given}
use Rattle.sc_rule_laws.specs.Sets.{se1, se2, se3, se3_of, se4, se5, se6, se7, se8, se9_at, se9_of, se9, se10_at, se10_of, se10}
use Rattle.sc_rule_laws.specs.Terms.{is_set, member, subset, common, members, written}
use Rattle.sc_rule_instances.specs.Clauses.{literal_for, said_clause}
use Rattle.sc_rule_instances.specs.Instances.{on_two, on_three, set_said, said_by}
use Rattle.sc_rule_instances.specs.Lookups.{IsMembers}
use Rattle.sc_rule_instances.specs.Saying.{count_of, literal_of}
use Rattle.sc_rule_instances.specs.declared.rule.SetRule.{SetRule}
use Rattle.sc_rule_instances.specs.declared.rule.SetRule.TheVariants.{Se1, Se2, Se3, Se4, Se5, Se6, Se7, Se8, Se9, Se10}
use Rattle.th_sets.specs.Rows.{two_of, three_of, placed, placed_said, is_set_node, is_set_over, equal_if, equal_at, side_count, row_count, told_count, told_of, member_if, member_at, of_two, of_three, listed_row, standing_row, told_one, told_all, told_row, row_literal, equal_lit, subset_lit, both_row}

-- ---- set terms

pub set_over : (xs : List Node) (x : Node) (k j : Sort) (t : Tree) → t ≡ node_tree xs x → k ≡ j → is_set_node k x ≡ is_set_over j t
set_over xs x k j t e f = rw (e, f) (by x)
  where
    by : (y : Node) → is_set_node j y ≡ is_set_over j (node_tree xs y)
    by (node.Leaf l) = refl
    by (node.One o a) = refl
    by (node.Two o a b) = refl
    by (node.Choice c a b) = refl
    by (node.Many (manys.Set own) ps) = refl
    by (node.Many manys.Record ps) = refl

-- the parts of a set term as its members
pub members_length : (xs : List Node) (ps : Places) → length (members (node_parts xs ps)) ≡ length ps
members_length xs [] = refl
members_length xs (p ∷ ps) = ap suc (members_length xs ps)

members_at : (xs : List Node) (ps : Places) (i : ℕ) → slice_get (members (node_parts xs ps)) i ≡ option_map (λ (q : List ℕ × ℕ). tree xs q.1) (slice_get ps i)
members_at xs [] i = refl
members_at xs (p ∷ ps) zero = refl
members_at xs (p ∷ ps) (suc i) = members_at xs ps i

equal_members : (p : Posed) (x : ℕ) (ps : Places) (k : ℕ) → equal_at p x ps k
    ≡ get_or (map (literal_for p) (map (λ (t : Tree). so (equal_term (tree p.nodes x) t)) (members (node_parts p.nodes ps)))) k (positive 0)
equal_members p x [] k = refl
equal_members p x (q ∷ ps) zero = refl
equal_members p x (q ∷ ps) (suc k) = equal_members p x ps k

pub equal_past : (p : Posed) (x : ℕ) (ps : Places) (k : ℕ) → length ps ≤ k → positive 0 ≡ equal_at p x ps k
equal_past p x ps k past = sym (ap (equal_if p x) (slice_get_past ps k past))

equations_length : (x : Tree) (ts : List Tree) → length (map (λ (t : Tree). so (equal_term x t)) ts) ≡ length ts
equations_length x [] = refl
equations_length x (t ∷ ts) = ap suc (equations_length x ts)

-- ---- SE2

module _ (x : Tree) where
  pub no_listed : (xs : List Node) (t : Tree) → IsMembers xs t None → se2 x t ≡ None
  no_listed xs (leaf l) h = refl
  no_listed xs (one o a) h = refl
  no_listed xs (two o a b) h = refl
  no_listed xs (choice c a b) h = refl
  no_listed xs (many (manys.Set k) ts) h = absurd (h k ts refl)
  no_listed xs (many manys.Record ts) h = refl

  pub unlike : (t : Tree) → is_set_over (tree_sort x) t ≡ false → se2 x t ≡ None
  unlike (leaf l) h = refl
  unlike (one o a) h = refl
  unlike (two o a b) h = refl
  unlike (choice c a b) h = refl
  unlike (many (manys.Set k) ts) h = ap (λ (b : Bool). given b (unless (member x (many (manys.Set k) ts)) ∷ map (λ (t : Tree). so (equal_term x t)) (members ts))) h
  unlike (many manys.Record ts) h = refl

  abbrev listing : Tree → Trees → List Signed
  listing t ts = unless (member x t) ∷ map (λ (u : Tree). so (equal_term x u)) (members ts)

  listing_of : (xs : List Node) (t : Tree) (ps : Places) → IsMembers xs t (Some ps) → is_set_over (tree_sort x) t ≡ true → se2 x t ≡ Some (listing t (node_parts xs ps))
  listing_of xs t ps (k, is, below) h =
      let over : sorts.eq (tree_sort x) k ≡ true = ap (is_set_over (tree_sort x)) (sym is) ∙ h in
      subst (λ (u : Tree). se2 x u ≡ Some (listing u (node_parts xs ps))) (sym is) (ap (λ (b : Bool). given b (listing (many (manys.Set k) (node_parts xs ps)) (node_parts xs ps))) over)

  pub listed_counted : (xs : List Node) (t : Tree) (ps : Places) → IsMembers xs t (Some ps) → is_set_over (tree_sort x) t ≡ true → Some (length ps + 1) ≡ count_of (se2 x t)
  listed_counted xs t ps h over =
      let all : length ps + 1 ≡ length (listing t (node_parts xs ps)) =
      let e = equations_length x (members (node_parts xs ps)) in let f = members_length xs ps in omega (arith, e, f) in
      ap Some all ∙ sym (ap count_of (listing_of xs t ps h over))

pub listed_told : (p : Posed) (x set : ℕ) (ps : Places) (place : ℕ) → IsMembers p.nodes (tree p.nodes set) (Some ps) → is_set_over (tree_sort (tree p.nodes x)) (tree p.nodes set) ≡ true
    → listed_row p x set ps place ≡ literal_of p (se2 (tree p.nodes x) (tree p.nodes set)) place
unfolding said_clause
listed_told p x set ps place h over =
    by place ∙ sym (ap (λ (said : Said). literal_of p said place) (listing_of (tree p.nodes x) p.nodes (tree p.nodes set) ps h over))
  where
    by : (k : ℕ) → listed_row p x set ps k ≡ literal_of p (Some (listing (tree p.nodes x) (tree p.nodes set) (node_parts p.nodes ps))) k
    by zero = refl
    by (suc k) =
        let later : (suc k == 0) ≡ false = grind (arith, nat_tests) in
        let back : suc k - 1 ≡ k = omega arith in
        rw (later, back) (equal_members p x ps k)

-- ---- SE3

module _ (x : Tree) where
  pub no_standing : (xs : List Node) (t : Tree) (i : ℕ) → IsMembers xs t None → se3 x t i ≡ None
  no_standing xs (leaf l) i h = refl
  no_standing xs (one o a) i h = refl
  no_standing xs (two o a b) i h = refl
  no_standing xs (choice c a b) i h = refl
  no_standing xs (many (manys.Set k) ts) i h = absurd (h k ts refl)
  no_standing xs (many manys.Record ts) i h = refl

  standing_of : (xs : List Node) (t : Tree) (ps : Places) (i : ℕ) → IsMembers xs t (Some ps) → se3 x t i ≡ se3_of x t (option_map (λ (q : List ℕ × ℕ). tree xs q.1) (slice_get ps i))
  standing_of xs t ps i (k, is, below) =
      subst (λ (u : Tree). se3 x u i ≡ se3_of x u (option_map (λ (q : List ℕ × ℕ). tree xs q.1) (slice_get ps i))) (sym is)
      (ap (se3_of x (many (manys.Set k) (node_parts xs ps))) (members_at xs ps i))

  pub past_standing : (xs : List Node) (t : Tree) (ps : Places) (i : ℕ) → IsMembers xs t (Some ps) → length ps ≤ i → se3 x t i ≡ None
  past_standing xs t ps i h past = standing_of xs t ps i h ∙ ap (λ (o : Option (List ℕ × ℕ)). se3_of x t (option_map (λ (q : List ℕ × ℕ). tree xs q.1) o)) (slice_get_past ps i past)

  standing_is : (xs : List Node) (t : Tree) (ps : Places) (i : ℕ) → IsMembers xs t (Some ps) → (q : List ℕ × ℕ) → slice_get ps i ≡ Some q
      → se3 x t i ≡ Some (unless (equal_term x (tree xs q.1)) ∷ so (member x t) ∷ [])
  standing_is xs t ps i h q e = standing_of xs t ps i h ∙ ap (λ (o : Option (List ℕ × ℕ)). se3_of x t (option_map (λ (r : List ℕ × ℕ). tree xs r.1) o)) e

  pub standing_counted : (xs : List Node) (t : Tree) (ps : Places) (i : ℕ) → IsMembers xs t (Some ps) → i < length ps → Some 2 ≡ count_of (se3 x t i)
  standing_counted xs t ps i h less = sym (ap count_of (standing_is xs t ps i h (get_or ps i ([], 0)) (slice_get-get_or ps i ([], 0) less)))

places_two : (a b : Lit) (k : ℕ) → of_two a b k ≡ get_or (a ∷ b ∷ []) k (positive 0)
places_two a b zero = refl
places_two a b (suc zero) = refl
places_two a b (suc (suc k)) =
    let no_first : (suc (suc k) == 0) ≡ false = grind (arith, nat_tests) in
    let no_second : (suc (suc k) == 1) ≡ false = grind (arith, nat_tests) in
    rw (no_first, no_second) refl

places_three : (a b c : Lit) (k : ℕ) → of_three a b c k ≡ get_or (a ∷ b ∷ c ∷ []) k (positive 0)
places_three a b c zero = refl
places_three a b c (suc zero) = refl
places_three a b c (suc (suc zero)) = refl
places_three a b c (suc (suc (suc k))) =
    let no_first : (suc (suc (suc k)) == 0) ≡ false = grind (arith, nat_tests) in
    let no_second : (suc (suc (suc k)) == 1) ≡ false = grind (arith, nat_tests) in
    let no_third : (suc (suc (suc k)) == 2) ≡ false = grind (arith, nat_tests) in
    rw (no_first, no_second, no_third) refl

pub standing_told : (p : Posed) (x set : ℕ) (ps : Places) (i place : ℕ) → IsMembers p.nodes (tree p.nodes set) (Some ps) → i < length ps
    → standing_row p x set ps i place ≡ literal_of p (se3 (tree p.nodes x) (tree p.nodes set) i) place
unfolding said_clause
standing_told p x set ps i place h less =
    let here = slice_get-get_or ps i ([], 0) less in
    let is = standing_is (tree p.nodes x) p.nodes (tree p.nodes set) ps i h (get_or ps i ([], 0)) here in
    rw here (places_two _ _ place) ∙ sym (ap (λ (said : Said). literal_of p said place) is)

-- ---- SE9 and SE10: what is told by those that stand in a set term

pub member_past : (p : Posed) (sign : Bool) (q : ℕ) (ps : Places) (k : ℕ) → length ps ≤ k → positive 0 ≡ member_at p sign q ps k
member_past p sign q ps k past = sym (ap (member_if p sign q) (slice_get_past ps k past))

written_is : (xs : List Node) (t : Tree) (ps : Places) → IsMembers xs t (Some ps) → written t ≡ Some (members (node_parts xs ps))
written_is xs t ps (k, is, below) = ap written is

pub not_written : (xs : List Node) (t : Tree) → IsMembers xs t None → written t ≡ None
not_written xs (leaf l) h = refl
not_written xs (one o a) h = refl
not_written xs (two o a b) h = refl
not_written xs (choice c a b) h = refl
not_written xs (many (manys.Set k) ts) h = absurd (h k ts refl)
not_written xs (many manys.Record ts) h = refl

-- a term is so just where each of some is a member of a set, or, where the sign is false, isn't so just where none is
abbrev of_all : Bool → Tree → List Tree → Tree → List Signed
of_all sign c us v = (sign, c) ∷ map (λ (u : Tree). (not sign, member u v)) us

abbrev told_said : Bool → Tree → List Tree → Tree → ℕ → Option Tree → Said
told_said sign c us v i (Some u) = Some ((not sign, c) ∷ (sign, member u v) ∷ [])
told_said sign c us v i None = given (i == length us) (of_all sign c us v)

within_said : (s t : Tree) (us : List Tree) (i : ℕ) (o : Option Tree) → se9_at s t us i o ≡ told_said true (subset s t) us t i o
within_said s t us i (Some u) = refl
within_said s t us i None = refl

shared_said : (c : Tree) (us : List Tree) (v : Tree) (i : ℕ) (o : Option Tree) → se10_at c us v i o ≡ told_said false c us v i o
shared_said c us v i (Some u) = refl
shared_said c us v i None = refl

signed_length : (sign : Bool) (v : Tree) (us : List Tree) → length {A = Signed} (map (λ (u : Tree). (sign, member u v)) us) ≡ length us
signed_length sign v [] = refl
signed_length sign v (u ∷ us) = ap suc (signed_length sign v us)

told_counted : (sign : Bool) (c v : Tree) (us : List Tree) (i : ℕ) → told_count (length us) i ≡ count_of (told_said sign c us v i (slice_get us i))
told_counted sign c v us i = by (nat_lt i (length us)) (i == length us) refl refl
  where
    by : (a b : Bool) → nat_lt i (length us) ≡ a → (i == length us) ≡ b
        → (if a then Some 2 else if b then Some (length us + 1) else None) ≡ count_of (told_said sign c us v i (slice_get us i))
    by true b e f =
        let less : i < length us = grind (arith, nat_tests) in
        sym (ap (λ (o : Option Tree). count_of (told_said sign c us v i o)) (slice_get-get_or us i c less))
    by false true e f =
        let same : i ≡ length us = grind (arith, nat_tests) in
        let all : length us + 1 ≡ length (of_all sign c us v) = let l = signed_length (not sign) v us in omega (arith, l) in
        ap Some all
        ∙ sym (ap (λ (o : Option Tree). count_of (told_said sign c us v i o)) (slice_get_past us i (omega (arith, same))) ∙ ap (λ (t : Bool). count_of (given t (of_all sign c us v))) f)
    by false false e f =
        let far : length us ≤ i = grind (arith, nat_tests) in
        sym (ap (λ (o : Option Tree). count_of (told_said sign c us v i o)) (slice_get_past us i far) ∙ ap (λ (t : Bool). count_of (given t (of_all sign c us v))) f)

pub within_counted : (s t : Tree) (i : ℕ) → told_of (written s) i ≡ count_of (se9 s t i)
within_counted s t i = by (written s)
  where
    by : (o : Option (List Tree)) → told_of o i ≡ count_of (se9_of o s t i)
    by (Some us) = told_counted true (subset s t) t us i ∙ sym (ap count_of (within_said s t us i (slice_get us i)))
    by None = refl

pub common_counted : (s t : Tree) (i : ℕ) → told_of (option_or (written s) (written t)) i ≡ count_of (se10 s t i)
common_counted s t i = by (written s) (written t)
  where
    of : (us : List Tree) (v : Tree) → told_count (length us) i ≡ count_of (se10_at (common s t) us v i (slice_get us i))
    of us v = told_counted false (common s t) v us i ∙ sym (ap count_of (shared_said (common s t) us v i (slice_get us i)))

    by : (o q : Option (List Tree)) → told_of (option_or o q) i ≡ count_of (se10_of o q s t i)
    by (Some us) q = of us t
    by None (Some us) = of us s
    by None None = refl

-- by the numbers of the parts
module _ (xs : List Node) (t : Tree) (i : ℕ) where
  pub told_written : (ps : Places) (q : Option (List Tree)) → IsMembers xs t (Some ps) → told_count (length ps) i ≡ told_of (option_or (written t) q) i
  told_written ps q h = ap (λ (n : ℕ). told_count n i) (sym (members_length xs ps)) ∙ sym (ap (λ (o : Option (List Tree)). told_of (option_or o q) i) (written_is xs t ps h))

  pub told_plain : (q : Option (List Tree)) → IsMembers xs t None → told_of q i ≡ told_of (option_or (written t) q) i
  told_plain q h = sym (ap (λ (o : Option (List Tree)). told_of (option_or o q) i) (not_written xs t h))

  pub told_alone : (ps : Places) → IsMembers xs t (Some ps) → told_count (length ps) i ≡ told_of (written t) i
  told_alone ps h = ap (λ (n : ℕ). told_count n i) (sym (members_length xs ps)) ∙ sym (ap (λ (o : Option (List Tree)). told_of o i) (written_is xs t ps h))

  pub none_alone : IsMembers xs t None → None ≡ told_of (written t) i
  none_alone h = sym (ap (λ (o : Option (List Tree)). told_of o i) (not_written xs t h))

signed_members : (p : Posed) (sign : Bool) (q : ℕ) (ps : Places) (k : ℕ) → member_at p sign q ps k
    ≡ get_or (map (literal_for p) (map (λ (u : Tree). (sign, member u (tree p.nodes q))) (members (node_parts p.nodes ps)))) k (positive 0)
signed_members p sign q [] k = refl
signed_members p sign q (r ∷ ps) zero = refl
signed_members p sign q (r ∷ ps) (suc k) = signed_members p sign q ps k

module _ (p : Posed) (sign : Bool) (c : Tree) (q : ℕ) (ps : Places) where
  abbrev stands : List Tree
  stands = members (node_parts p.nodes ps)

  abbrev told_at : ℕ → Option Tree → Said
  told_at i o = told_said sign c stands (tree p.nodes q) i o

  abbrev all_signed : List Signed
  all_signed = of_all sign c stands (tree p.nodes q)

  within_at : (i : ℕ) → i < length ps → slice_get stands i ≡ Some (tree p.nodes (get_or ps i ([], 0)).1)
  within_at i less = members_at p.nodes ps i ∙ ap (option_map (λ (r : List ℕ × ℕ). tree p.nodes r.1)) (slice_get-get_or ps i ([], 0) less)

  past_at : (i : ℕ) → length ps ≤ i → slice_get stands i ≡ None
  past_at i far = let e = members_length p.nodes ps in slice_get_past stands i (omega (arith, e, far))

  told_told : (i place : ℕ) → told_row p sign (literal_in p c) q ps i place ≡ literal_of p (told_at i (slice_get stands i)) place
  unfolding said_clause
  told_told i place = by (nat_lt i (length ps)) (i == length ps) refl refl
    where
      all_told : (k : ℕ) → told_all p sign (literal_in p c) q ps k ≡ literal_of p (Some all_signed) k
      all_told zero = refl
      all_told (suc k) =
          let later : (suc k == 0) ≡ false = grind (arith, nat_tests) in
          let back : suc k - 1 ≡ k = omega arith in
          rw (later, back) (signed_members p (not sign) q ps k)

      by : (a b : Bool) → nat_lt i (length ps) ≡ a → (i == length ps) ≡ b
          → (if a then told_one p sign (literal_in p c) q ps i place else if b then told_all p sign (literal_in p c) q ps place else positive 0)
          ≡ literal_of p (told_at i (slice_get stands i)) place
      by true b e f =
          let less : i < length ps = grind (arith, nat_tests) in
          rw (slice_get-get_or ps i ([], 0) less) (places_two _ _ place) ∙ sym (ap (λ (o : Option Tree). literal_of p (told_at i o) place) (within_at i less))
      by false true e f =
          let same : i ≡ length ps = grind (arith, nat_tests) in
          let n = members_length p.nodes ps in
          let here : (i == length stands) ≡ true = rw n f in
          all_told place ∙ sym (ap (λ (o : Option Tree). literal_of p (told_at i o) place) (past_at i (omega (arith, same))) ∙ ap (λ (t : Bool). literal_of p (given t all_signed) place) here)
      by false false e f =
          let far : length ps ≤ i = grind (arith, nat_tests) in
          let n = members_length p.nodes ps in
          let here : (i == length stands) ≡ false = rw n f in
          sym (ap (λ (o : Option Tree). literal_of p (told_at i o) place) (past_at i far) ∙ ap (λ (t : Bool). literal_of p (given t all_signed) place) here)

-- of two sets, by those that stand in the one
module _ (p : Posed) (s t : ℕ) (ps : Places) (i : ℕ) where
  abbrev first : Tree
  first = tree p.nodes s

  abbrev later : Tree
  later = tree p.nodes t

  abbrev standing_in : List Tree
  standing_in = members (node_parts p.nodes ps)

  within_is : IsMembers p.nodes first (Some ps) → se9 first later i ≡ told_said true (subset first later) standing_in later i (slice_get standing_in i)
  within_is h =
      ap (λ (o : Option (List Tree)). se9_of o first later i) (written_is p.nodes first ps h) ∙ within_said first later standing_in i (slice_get standing_in i)

  common_is : IsMembers p.nodes first (Some ps) → se10 first later i ≡ told_said false (common first later) standing_in later i (slice_get standing_in i)
  common_is h =
      ap (λ (o : Option (List Tree)). se10_of o (written later) first later i) (written_is p.nodes first ps h)
      ∙ shared_said (common first later) standing_in later i (slice_get standing_in i)

  turned_is : written first ≡ None → IsMembers p.nodes later (Some ps) → se10 first later i ≡ told_said false (common first later) standing_in first i (slice_get standing_in i)
  turned_is plain h =
      (λ j. se10_of (plain j) (written_is p.nodes later ps h j) first later i) ∙ shared_said (common first later) standing_in first i (slice_get standing_in i)

  pub within_told : (place : ℕ) → IsMembers p.nodes first (Some ps) → told_row p true (literal_in p (subset first later)) t ps i place ≡ literal_of p (se9 first later i) place
  within_told place h = told_told p true (subset first later) t ps i place ∙ sym (ap (λ (said : Said). literal_of p said place) (within_is h))

  pub common_told : (place : ℕ) → IsMembers p.nodes first (Some ps) → told_row p false (literal_in p (common first later)) t ps i place ≡ literal_of p (se10 first later i) place
  common_told place h = told_told p false (common first later) t ps i place ∙ sym (ap (λ (said : Said). literal_of p said place) (common_is h))

  pub turned_told : (place : ℕ) → written first ≡ None → IsMembers p.nodes later (Some ps)
      → told_row p false (literal_in p (common first later)) s ps i place ≡ literal_of p (se10 first later i) place
  turned_told place plain h = told_told p false (common first later) s ps i place ∙ sym (ap (λ (said : Said). literal_of p said place) (turned_is plain h))

-- and none where no set is written
pub no_within : (xs : List Node) (s t : Tree) (i : ℕ) → IsMembers xs s None → se9 s t i ≡ None
no_within xs s t i h = ap (λ (o : Option (List Tree)). se9_of o s t i) (not_written xs s h)

pub no_common : (xs : List Node) (s t : Tree) (i : ℕ) → written s ≡ None → IsMembers xs t None → se10 s t i ≡ None
no_common xs s t i plain h = λ j. se10_of (plain j) (not_written xs t h j) s t i

-- ---- nothing is said

pub nothing_counted : (said : Said) → said ≡ None → None ≡ count_of said
nothing_counted said e = sym (ap count_of e)

pub nothing_told : (p : Posed) (said : Said) (place : ℕ) → said ≡ None → positive 0 ≡ literal_of p said place
unfolding said_clause
nothing_told p said place e = sym (ap (λ (s : Said). literal_of p s place) e)

-- ---- all rules

sides_counted : (a b : List Signed) (said : ℕ → Said) (i : ℕ) → said 0 ≡ Some a → said 1 ≡ Some b → length a ≡ 2 → length b ≡ 2 → ((k : ℕ) → said (suc (suc k)) ≡ None) → side_count i ≡ count_of (said i)
sides_counted a b said zero e f g h none = sym (ap count_of e ∙ ap Some g)
sides_counted a b said (suc zero) e f g h none = sym (ap count_of f ∙ ap Some h)
sides_counted a b said (suc (suc k)) e f g h none =
    let no_first : (suc (suc k) == 0) ≡ false = grind (arith, nat_tests) in
    let no_second : (suc (suc k) == 1) ≡ false = grind (arith, nat_tests) in
    rw (no_first, no_second) (nothing_counted (said (suc (suc k))) (none k))

module _ (p : Posed) where
  abbrev at : ℕ → Tree
  at n = tree p.nodes n

  equal_counted : (s t i : ℕ) → row_count p (Se8 s t i) ≡ count_of (se8 (at s) (at t) i)
  equal_counted s t zero = refl
  equal_counted s t (suc zero) = refl
  equal_counted s t (suc (suc zero)) = by (is_set (at s) && is_set (at t))
    where
      by : (b : Bool) → cond b (Some (suc (suc (suc zero)))) None ≡ count_of (given b (so (equal_term (at s) (at t)) ∷ unless (subset (at s) (at t)) ∷ unless (subset (at t) (at s)) ∷ []))
      by true = refl
      by false = refl
  equal_counted s t (suc (suc (suc k))) =
      let no_first : (suc (suc (suc k)) == 0) ≡ false = grind (arith, nat_tests) in
      let no_second : (suc (suc (suc k)) == 1) ≡ false = grind (arith, nat_tests) in
      let no_third : (suc (suc (suc k)) == 2) ≡ false = grind (arith, nat_tests) in
      rw (no_first, no_second, no_third) refl

  row_counted : (rule : SetRule) → row_count p rule ≡ count_of (placed_said p rule)
  row_counted (Se1 x y s) = refl
  row_counted (Se2 x s) = refl
  row_counted (Se3 x s i) = refl
  row_counted (Se4 s t x) = refl
  row_counted (Se5 s t i) = sides_counted _ _ (se5 (at s) (at t)) i refl refl refl refl (λ k. refl)
  row_counted (Se6 s t i) = sides_counted _ _ (se6 (at s) (at t)) i refl refl refl refl (λ k. refl)
  row_counted (Se7 s t x) = refl
  row_counted (Se8 s t i) = equal_counted s t i
  row_counted (Se9 s t i) = within_counted (at s) (at t) i
  row_counted (Se10 s t i) = common_counted (at s) (at t) i

  sides_told : (a b c d : Signed) (said : ℕ → Said) (i place : ℕ) → said 0 ≡ Some (a ∷ b ∷ []) → said 1 ≡ Some (c ∷ d ∷ []) → ((k : ℕ) → said (suc (suc k)) ≡ None)
      → (if i == 0 then of_two (literal_for p a) (literal_for p b) place else if i == 1 then of_two (literal_for p c) (literal_for p d) place else positive 0) ≡ literal_of p (said i) place
  unfolding said_clause
  sides_told a b c d said zero place e f none = places_two _ _ place ∙ sym (ap (λ (s : Said). literal_of p s place) e)
  sides_told a b c d said (suc zero) place e f none = places_two _ _ place ∙ sym (ap (λ (s : Said). literal_of p s place) f)
  sides_told a b c d said (suc (suc k)) place e f none =
      let no_first : (suc (suc k) == 0) ≡ false = grind (arith, nat_tests) in
      let no_second : (suc (suc k) == 1) ≡ false = grind (arith, nat_tests) in
      rw (no_first, no_second) (nothing_told p (said (suc (suc k))) place (none k))

  both_told : (s t place : ℕ) → both_row p s t place ≡ literal_of p (se8 (at s) (at t) 2) place
  unfolding said_clause
  both_told s t place = by (is_set (at s) && is_set (at t))
    where
      by : (b : Bool) → cond b (of_three (equal_lit p s t) (negation (subset_lit p s t)) (negation (subset_lit p t s)) place) (positive 0) ≡ literal_of p (given b (so (equal_term (at s) (at t)) ∷ unless (subset (at s) (at t)) ∷ unless (subset (at t) (at s)) ∷ [])) place
      by true = places_three _ _ _ place
      by false = refl

  equal_told : (s t i place : ℕ) → row_literal p (Se8 s t i) place ≡ literal_of p (se8 (at s) (at t) i) place
  unfolding said_clause
  equal_told s t zero place = places_two _ _ place
  equal_told s t (suc zero) place = places_two _ _ place
  equal_told s t (suc (suc zero)) place = both_told s t place
  equal_told s t (suc (suc (suc k))) place =
      let no_first : (suc (suc (suc k)) == 0) ≡ false = grind (arith, nat_tests) in
      let no_second : (suc (suc (suc k)) == 1) ≡ false = grind (arith, nat_tests) in
      let no_third : (suc (suc (suc k)) == 2) ≡ false = grind (arith, nat_tests) in
      rw (no_first, no_second, no_third) refl

  row_told : (rule : SetRule) (place : ℕ) → row_literal p rule place ≡ literal_of p (placed_said p rule) place
  unfolding said_clause
  row_told (Se1 x y s) place = places_three _ _ _ place
  row_told (Se2 x s) place = refl
  row_told (Se3 x s i) place = refl
  row_told (Se4 s t x) place = places_three _ _ _ place
  row_told (Se5 s t i) place = sides_told _ _ _ _ (se5 (at s) (at t)) i place refl refl (λ k. refl)
  row_told (Se6 s t i) place = sides_told _ _ _ _ (se6 (at s) (at t)) i place refl refl (λ k. refl)
  row_told (Se7 s t x) place = places_three _ _ _ place
  row_told (Se8 s t i) place = equal_told s t i place
  row_told (Se9 s t i) place = refl
  row_told (Se10 s t i) place = refl

  -- ---- by the numbers of closed terms

  two_is : (o q : Option ℕ) (rule : Tree → Tree → Said) (make : ℕ → ℕ → SetRule) → ((a b : ℕ) → rule (at a) (at b) ≡ placed_said p (make a b))
      → on_two (option_map at o) (option_map at q) rule ≡ said_by (placed_said p) (option_map (λ (t : ℕ × ℕ). make t.0 t.1) (two_of o q))
  two_is (Some a) (Some b) rule make h = h a b
  two_is (Some a) None rule make h = refl
  two_is None q rule make h = refl

  three_is : (o q r : Option ℕ) (rule : Tree → Tree → Tree → Said) (make : ℕ → ℕ → ℕ → SetRule) → ((a b c : ℕ) → rule (at a) (at b) (at c) ≡ placed_said p (make a b c))
      → on_three (option_map at o) (option_map at q) (option_map at r) rule ≡ said_by (placed_said p) (option_map (λ (t : ℕ × ℕ × ℕ). make t.0 t.1 t.2) (three_of o q r))
  three_is (Some a) (Some b) (Some c) rule make h = h a b c
  three_is (Some a) (Some b) None rule make h = refl
  three_is (Some a) None r rule make h = refl
  three_is None q r rule make h = refl

  abbrev number : ℕ → Option ℕ
  number n = numbered p.closed n

  pub placed_is : (rule : SetRule) → set_said p rule ≡ said_by (placed_said p) (placed p rule)
  placed_is (Se1 x y s) = three_is (number x) (number y) (number s) se1 (λ a b c. Se1 a b c) (λ a b c. refl)
  placed_is (Se2 x s) = two_is (number x) (number s) se2 (λ a b. Se2 a b) (λ a b. refl)
  placed_is (Se3 x s i) = two_is (number x) (number s) (λ t u. se3 t u i) (λ a b. Se3 a b i) (λ a b. refl)
  placed_is (Se4 s t x) = three_is (number s) (number t) (number x) se4 (λ a b c. Se4 a b c) (λ a b c. refl)
  placed_is (Se5 s t i) = two_is (number s) (number t) (λ u v. se5 u v i) (λ a b. Se5 a b i) (λ a b. refl)
  placed_is (Se6 s t i) = two_is (number s) (number t) (λ u v. se6 u v i) (λ a b. Se6 a b i) (λ a b. refl)
  placed_is (Se7 s t x) = three_is (number s) (number t) (number x) se7 (λ a b c. Se7 a b c) (λ a b c. refl)
  placed_is (Se8 s t i) = two_is (number s) (number t) (λ u v. se8 u v i) (λ a b. Se8 a b i) (λ a b. refl)
  placed_is (Se9 s t i) = two_is (number s) (number t) (λ u v. se9 u v i) (λ a b. Se9 a b i) (λ a b. refl)
  placed_is (Se10 s t i) = two_is (number s) (number t) (λ u v. se10 u v i) (λ a b. Se10 a b i) (λ a b. refl)

  said_at : (rule placed_rule : SetRule) → placed p rule ≡ Some placed_rule → set_said p rule ≡ placed_said p placed_rule
  said_at rule placed_rule e = placed_is rule ∙ ap (said_by (placed_said p)) e

  said_nowhere : (rule : SetRule) → placed p rule ≡ None → set_said p rule ≡ None
  said_nowhere rule e = placed_is rule ∙ ap (said_by (placed_said p)) e

  pub count_at : (rule r : SetRule) → placed p rule ≡ Some r → row_count p r ≡ count_of (set_said p rule)
  count_at rule r e = row_counted r ∙ sym (ap count_of (said_at rule r e))

  pub count_nowhere : (rule : SetRule) → placed p rule ≡ None → None ≡ count_of (set_said p rule)
  count_nowhere rule e = nothing_counted (set_said p rule) (said_nowhere rule e)

  pub literal_at : (rule r : SetRule) (place : ℕ) → placed p rule ≡ Some r → row_literal p r place ≡ literal_of p (set_said p rule) place
  literal_at rule r place e = row_told r place ∙ sym (ap (λ (said : Said). literal_of p said place) (said_at rule r e))

  pub literal_nowhere : (rule : SetRule) (place : ℕ) → placed p rule ≡ None → positive 0 ≡ literal_of p (set_said p rule) place
  literal_nowhere rule place e = nothing_told p (set_said p rule) place (said_nowhere rule e)
