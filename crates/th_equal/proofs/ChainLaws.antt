-- What an assignment knows of each two strings and entities, and the instances of EQ1 that it falsifies.
use Rattle.std.proofs.Common.{◌≡◌, ◌≢◌, ◌<◌, ◌≤◌, ◌-◌, ◌&&◌, ◌==◌, ℕ, zero, suc, Bool, true, false, cond, List, [], ◌∷◌, length, slice_get, get_or, Option, Some, None, option_map, option_and_then, refl, sym, ap, ◌∙◌, subst, arith}
use Rattle.std.proofs.lemmas.Bool.{and_parts, false_from_ne_true, true≢false}
use Rattle.std.specs.List.{AllByRecursion}
use Rattle.sc_laws.proofs.NumberLaws.{nat_eq_true}
use Rattle.sc_laws.proofs.OptionLaws.{same_some, option_and_then_some, option_map_some}
use Rattle.sc_lists.proofs.MemberLaws.{Has-place}
use Rattle.sc_clauses.specs.Assignments.{Assignment, is_false}
use Rattle.sc_clauses.specs.Clauses.{negation}
use Rattle.sc_clauses.specs.declared.lit.Lit.{Lit}
use Rattle.sc_terms.specs.Folds.{equal_term}
use Rattle.sc_terms.specs.Tables.{tree}
use Rattle.sc_terms.specs.Trees.{Tree}
use Rattle.sc_footprint.specs.Problems.{Posed, IsPosed, literal_in, numbered, term_of}
use Rattle.sc_rule_instances.proofs.FalseLaws.{false_known, known_false, false_negation, known_negation, true_isnt_false}
use Rattle.sc_rule_instances.proofs.KnownLaws.{few_is}
use Rattle.sc_rule_instances.specs.Clauses.{is_asked}
use Rattle.sc_rule_instances.specs.declared.rule.EqualRule.TheVariants.{Eq1}
use Rattle.sc_rule_instances.specs.Instances.{equal_said, on_three}
use Rattle.sc_rule_instances.specs.Known.{few_items, known, known_equal, is_falsified, named_at, truth_of}
use Rattle.sc_rule_laws.specs.Equal.{eq1}
use Rattle.sc_rule_laws.specs.Signed.{so, unless, given}
use Rattle.sc_rule_laws.specs.Terms.{is_named}
use Rattle.sc_falsified.specs.Truths.{IsIntransitive, NoneIntransitive}
use Rattle.th_equal.specs.Naming.{IsNamed, AreNamed, IsChainFree}

-- ---- places of lists

at_place : {X : Type 0} (xs : List X) (i : ℕ) (x d : X) → slice_get xs i ≡ Some x → (i < length xs) × (get_or xs i d ≡ x)
at_place [] i x d e = absurd cc
at_place (y ∷ ys) zero x d e = (omega arith, same_some e)
at_place (y ∷ ys) (suc i) x d e = let r = at_place ys i x d e in (omega (arith, r.0), r.1)

all_at : (P : ℕ → Type 0) (ns : List ℕ) (i n : ℕ) → AllByRecursion P ns → slice_get ns i ≡ Some n → P n
all_at P [] i n h e = absurd cc
all_at P (m ∷ ms) zero n h e = subst P (same_some e) h.0
all_at P (m ∷ ms) (suc i) n h e = all_at P ms i n h.1 e

nothing_free : (p : Posed) (m : Assignment) → is_falsified p m None ≡ false
unfolding is_falsified
nothing_free p m = refl

module _ (p : Posed) (m : Assignment) where
  abbrev lit : Tree → Tree → Lit
  lit x y = literal_in p (equal_term x y)

  -- ---- of three terms

  eq1_false : (x y z : Tree) → is_named x ≡ true → is_named y ≡ true → is_named z ≡ true → known m (lit x y) ≡ Some true → known m (lit y z) ≡ Some true → known m (lit x z) ≡ Some false → is_falsified p m (eq1 x y z) ≡ true
  unfolding is_falsified
  eq1_false x y z a b c f g h =
      rw (a, b, c) (rw (known_negation m (lit x y) f, known_negation m (lit y z) g, known_false m (lit x z) h) refl)

  -- the truths of three that falsify it
  eq1_known : (x y z : Tree) → is_falsified p m (eq1 x y z) ≡ true
      → ((is_named x ≡ true) × (is_named y ≡ true) × (is_named z ≡ true)) × ((known m (lit x y) ≡ Some true) × (known m (lit y z) ≡ Some true) × (known m (lit x z) ≡ Some false))
  unfolding is_falsified
  eq1_known x y z = by (is_named x && (is_named y && is_named z)) refl
    where
      by : (test : Bool) → (is_named x && (is_named y && is_named z)) ≡ test → is_falsified p m (given test (unless (equal_term x y) ∷ unless (equal_term y z) ∷ so (equal_term x z) ∷ [])) ≡ true
          → ((is_named x ≡ true) × (is_named y ≡ true) × (is_named z ≡ true)) × ((known m (lit x y) ≡ Some true) × (known m (lit y z) ≡ Some true) × (known m (lit x z) ≡ Some false))
      by true e h =
          let one = and_parts (is_named x) (is_named y && is_named z) e in
          let two = and_parts (is_named y) (is_named z) one.1 in
          let a = and_parts (is_asked (negation (lit x y)) && is_false m (negation (lit x y))) _ h in
          let b = and_parts (is_asked (negation (lit y z)) && is_false m (negation (lit y z))) _ a.1 in
          let c = and_parts (is_asked (lit x z) && is_false m (lit x z)) true b.1 in
          ((one.0, two.0, two.1), (false_negation m (lit x y) a.0, false_negation m (lit y z) b.0, false_known m (lit x z) c.0))
      by false e h = absurd cc

  -- ---- found

  plain_known : (x y : ℕ) (v : Bool) → known_equal p m (Some x) (Some y) ≡ Some v → known m (lit (tree p.nodes x) (tree p.nodes y)) ≡ Some v
  plain_known x y v = by (x == y)
    where
      by : (b : Bool) → cond b None (known m (lit (tree p.nodes x) (tree p.nodes y))) ≡ Some v → known m (lit (tree p.nodes x) (tree p.nodes y)) ≡ Some v
      by true e = absurd cc
      by false e = e

  pub named_term : (ns : List ℕ) (i x : ℕ) → AreNamed p ns → named_at p ns i ≡ Some x → (term_of p (get_or ns i 0) ≡ Some (tree p.nodes x)) × (is_named (tree p.nodes x) ≡ true) × (i < length ns)
  named_term ns i x are e =
      let r = option_and_then_some (λ (n : ℕ). numbered p.closed n) (slice_get ns i) x e in
      let place = at_place ns i r.0 0 r.1 in
      let is : term_of p r.0 ≡ Some (tree p.nodes x) = ap (option_map (tree p.nodes)) r.2 in
      let own = all_at (IsNamed p) ns i r.0 are.each r.1 in
      let same : own.term ≡ tree p.nodes x = same_some (sym own.is ∙ is) in
      (ap (term_of p) place.1 ∙ is, subst (λ (t : Tree). is_named t ≡ true) same own.named, place.0)

  pub named_within : (ns : List ℕ) (i x : ℕ) → IsPosed p → named_at p ns i ≡ Some x → x < length p.nodes
  named_within ns i x posed e =
      let r = option_and_then_some (λ (n : ℕ). numbered p.closed n) (slice_get ns i) x e in
      by r.0 (r.0 == 0) r.2
    where
      by : (n : ℕ) (b : Bool) → cond b None (slice_get p.closed (n - 1)) ≡ Some x → x < length p.nodes
      by n true h = absurd cc
      by n false h = all_at (λ (k : ℕ). k < length p.nodes) p.closed (n - 1) x posed.within h

  module _ (ns : List ℕ) (are : AreNamed p ns) where
    pub known_places : (i j : ℕ) (v : Bool) → truth_of p m ns i j ≡ Some v → (x : ℕ) × (y : ℕ) × (named_at p ns i ≡ Some x) × (named_at p ns j ≡ Some y)
    known_places i j v = by (named_at p ns i) (named_at p ns j) refl refl
      where
        by : (o q : Option ℕ) → named_at p ns i ≡ o → named_at p ns j ≡ q → known_equal p m o q ≡ Some v → (x : ℕ) × (y : ℕ) × (named_at p ns i ≡ Some x) × (named_at p ns j ≡ Some y)
        by (Some x) (Some y) e f h = (x, y, e, f)
        by (Some x) None e f h = absurd cc
        by None (Some y) e f h = absurd cc
        by None None e f h = absurd cc

    pub of_places : (i j x y : ℕ) (v : Bool) → named_at p ns i ≡ Some x → named_at p ns j ≡ Some y → truth_of p m ns i j ≡ Some v → known m (lit (tree p.nodes x) (tree p.nodes y)) ≡ Some v
    of_places i j x y v e f h = plain_known x y v (sym (ap (λ (o : Option ℕ). known_equal p m o (named_at p ns j)) e ∙ ap (known_equal p m (Some x)) f) ∙ h)

    pub chain_places : (i j k : ℕ) → IsIntransitive (truth_of p m ns) i j k → (i < length ns) × (j < length ns) × (k < length ns)
    chain_places i j k h =
        let a = known_places i j true h.first in
        let b = known_places i k false h.third in
        ((named_term ns i a.0 are a.2).2, (named_term ns j a.1 are a.3).2, (named_term ns k b.1 are b.3).2)

    pub chain_found : (i j k : ℕ) → IsIntransitive (truth_of p m ns) i j k → is_falsified p m (equal_said p (Eq1 (get_or ns i 0) (get_or ns j 0) (get_or ns k 0))) ≡ true
    chain_found i j k h =
        let a = known_places i j true h.first in
        let b = known_places i k false h.third in
        let x = named_term ns i a.0 are a.2 in
        let y = named_term ns j a.1 are a.3 in
        let z = named_term ns k b.1 are b.3 in
        let said : equal_said p (Eq1 (get_or ns i 0) (get_or ns j 0) (get_or ns k 0)) ≡ eq1 (tree p.nodes a.0) (tree p.nodes a.1) (tree p.nodes b.1) =
        ap (λ (o : Option Tree). on_three o (term_of p (get_or ns j 0)) (term_of p (get_or ns k 0)) eq1) x.0
        ∙ ap (λ (o : Option Tree). on_three (Some (tree p.nodes a.0)) o (term_of p (get_or ns k 0)) eq1) y.0
        ∙ ap (λ (o : Option Tree). on_three (Some (tree p.nodes a.0)) (Some (tree p.nodes a.1)) o eq1) z.0 in
        ap (is_falsified p m) said
        ∙ eq1_false (tree p.nodes a.0) (tree p.nodes a.1) (tree p.nodes b.1) x.1 y.1 z.1 (of_places i j a.0 a.1 true a.2 a.3 h.first) (of_places j k a.1 b.1 true a.3 b.3 h.second) (of_places i k a.0 b.1 false a.2 b.3 h.third)

    -- ---- none

    module _ (posed : IsPosed p) (none : NoneIntransitive (truth_of p m ns) (length ns)) where
      -- the place of a named term, and its number in the table
      placed : (n : ℕ) (t : Tree) → term_of p n ≡ Some t → is_named t ≡ true → (i : ℕ) × (x : ℕ) × (i < length ns) × (named_at p ns i ≡ Some x) × (tree p.nodes x ≡ t)
      placed n t e f =
          let there = Has-place ns n (are.all n t e f) in
          let number = option_map_some (tree p.nodes) (numbered p.closed n) t e in
          (there.0, number.0, there.1, ap (λ (o : Option ℕ). option_and_then (λ (k : ℕ). numbered p.closed k) o) there.2 ∙ number.1, number.2)

      apart_known : (x y : ℕ) (v : Bool) → x ≢ y → known m (lit (tree p.nodes x) (tree p.nodes y)) ≡ Some v → known_equal p m (Some x) (Some y) ≡ Some v
      apart_known x y v apart h = by (x == y) refl
        where
          by : (b : Bool) → (x == y) ≡ b → cond b None (known m (lit (tree p.nodes x) (tree p.nodes y))) ≡ Some v
          by true e = absurd (apart (nat_eq_true x y e))
          by false e = h

      at_places : (i j x y : ℕ) (v : Bool) → named_at p ns i ≡ Some x → named_at p ns j ≡ Some y → x ≢ y → known m (lit (tree p.nodes x) (tree p.nodes y)) ≡ Some v → truth_of p m ns i j ≡ Some v
      at_places i j x y v e f apart h = ap (λ (o : Option ℕ). known_equal p m o (named_at p ns j)) e ∙ ap (known_equal p m (Some x)) f ∙ apart_known x y v apart h

      never_both : (o : Option Bool) → o ≡ Some true → o ≡ Some false → ⊥
      never_both o e f = true≢false (same_some (sym e ∙ f))

      no_chain : (a b c : ℕ) (t u v : Tree) → term_of p a ≡ Some t → term_of p b ≡ Some u → term_of p c ≡ Some v → is_falsified p m (eq1 t u v) ≡ true → ⊥
      no_chain a b c t u v e f g h =
          let k = eq1_known t u v h in
          let x = placed a t e k.0.0 in
          let y = placed b u f k.0.1 in
          let z = placed c v g k.0.2 in
          let xy : known m (lit (tree p.nodes x.1) (tree p.nodes y.1)) ≡ Some true = subst (λ (s : Tree). known m (lit s (tree p.nodes y.1)) ≡ Some true) (sym x.4) (subst (λ (s : Tree). known m (lit t s) ≡ Some true) (sym y.4) k.1.0) in
          let yz : known m (lit (tree p.nodes y.1) (tree p.nodes z.1)) ≡ Some true = subst (λ (s : Tree). known m (lit s (tree p.nodes z.1)) ≡ Some true) (sym y.4) (subst (λ (s : Tree). known m (lit u s) ≡ Some true) (sym z.4) k.1.1) in
          let xz : known m (lit (tree p.nodes x.1) (tree p.nodes z.1)) ≡ Some false = subst (λ (s : Tree). known m (lit s (tree p.nodes z.1)) ≡ Some false) (sym x.4) (subst (λ (s : Tree). known m (lit t s) ≡ Some false) (sym z.4) k.1.2) in
          let x-y : x.1 ≢ y.1 = λ same. never_both (known m (lit (tree p.nodes x.1) (tree p.nodes z.1))) (subst (λ (n : ℕ). known m (lit (tree p.nodes n) (tree p.nodes z.1)) ≡ Some true) (sym same) yz) xz in
          let y-z : y.1 ≢ z.1 = λ same. never_both (known m (lit (tree p.nodes x.1) (tree p.nodes z.1))) (subst (λ (n : ℕ). known m (lit (tree p.nodes x.1) (tree p.nodes n)) ≡ Some true) same xy) xz in
          let x-z : x.1 ≢ z.1 = λ same. true_isnt_false p m (tree p.nodes x.1) posed (subst (λ (n : ℕ). known m (lit (tree p.nodes x.1) (tree p.nodes n)) ≡ Some false) (sym same) xz) in
          none x.0 y.0 z.0 x.2 y.2 z.2 (record {
            first = at_places x.0 y.0 x.1 y.1 true x.3 y.3 x-y xy;
            second = at_places y.0 z.0 y.1 z.1 true y.3 z.3 y-z yz;
            third = at_places x.0 z.0 x.1 z.1 false x.3 z.3 x-z xz;
          })

      pub chain_free : IsChainFree p m
      chain_free a b c = by (term_of p a) (term_of p b) (term_of p c) refl refl refl
        where
          by : (o q r : Option Tree) → term_of p a ≡ o → term_of p b ≡ q → term_of p c ≡ r → is_falsified p m (on_three o q r eq1) ≡ false
          by (Some t) (Some u) (Some v) e f g = false_from_ne_true (is_falsified p m (eq1 t u v)) (no_chain a b c t u v e f g)
          by (Some t) (Some u) None e f g = nothing_free p m
          by (Some t) None r e f g = nothing_free p m
          by None q r e f g = nothing_free p m

pub found_at : (p : Posed) (m : Assignment) (ns : List ℕ) (i j k a b c : ℕ) → AreNamed p ns → IsIntransitive (truth_of p m ns) i j k → a ≡ get_or ns i 0 → b ≡ get_or ns j 0 → c ≡ get_or ns k 0
    → is_falsified p m (equal_said p (Eq1 a b c)) ≡ true
found_at p m ns i j k a b c are h e f g =
    ap (λ (n : ℕ). is_falsified p m (equal_said p (Eq1 n b c))) e ∙ ap (λ (n : ℕ). is_falsified p m (equal_said p (Eq1 (get_or ns i 0) n c))) f
    ∙ ap (λ (n : ℕ). is_falsified p m (equal_said p (Eq1 (get_or ns i 0) (get_or ns j 0) n))) g ∙ chain_found p m ns are i j k h

pub free_at : (p : Posed) (m : Assignment) (ns : List ℕ) → IsPosed p → AreNamed p ns → length ns ≤ length p.closed → NoneIntransitive (truth_of p m ns) (few_items (length ns)) → IsChainFree p m
free_at p m ns posed are few none = chain_free p m ns are posed (subst (NoneIntransitive (truth_of p m ns)) (few_is p (length ns) posed few) none)
