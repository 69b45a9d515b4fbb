-- What is said of a set term by those that stand there is true in every world.
use Rattle.std.proofs.Common.{◌≡◌, ◌==◌, ℕ, Bool, true, false, List, [], ◌∷◌, map, length, slice_get, Option, Some, None, refl, sym, ◌∙◌, subst}
use Rattle.sc_lists.proofs.MemberLaws.{Has-from_Contains}
use Rattle.sc_lists.proofs.ListLaws.{contains_place}
use Rattle.sc_lists.specs.Members.{Has}
use Rattle.sc_laws.proofs.BoolLaws.{never}
use Rattle.sc_laws.proofs.OptionLaws.{same_some}
use Rattle.sc_values.specs.declared.value.Value.{Value}
use Rattle.sc_world.specs.declared.world.World.{World}
use Rattle.sc_sorts.specs.declared.sort.Sort.{Sort}
use Rattle.sc_sorts.specs.declared.node.ManyOp.TheVariants as manys
use Rattle.sc_terms.specs.Trees.{Tree, leaf, one, two, choice, many, Trees}
use Rattle.sc_terms.specs.Values.{val, value_in, members_in}
use Rattle.sc_rule_laws.specs.Signed.{Holds, so, unless, is_true, some_holds}
use Rattle.sc_rule_laws.specs.Terms.{member, subset, common, members, written}
use Rattle.sc_rule_laws.specs.Sets.{se9_at, se9_of, se9, se10_at, se10_of, se10}
use Rattle.sc_rule_laws.proofs.ClauseLaws.{unless_else, so_else, so_holds, unless_holds, one_of, all_true, given_holds}
use Rattle.sc_rule_laws.proofs.MemberTruths.{term_has, has_term, is_member, member_so, is_subset, subset_so, common_so, shared_is}

-- some terms stand in a set
record Stand (w : World) (s : Tree) (us : List Tree) : Type 0 where
  inside : (u : Tree) → Has us u → Has (members_in (val s w)) (value_in (val u w))
  told : (v : Value) → Has (members_in (val s w)) v → (u : Tree) × Has us u × (value_in (val u w) ≡ v)

term_stands : (w : World) (k : Sort) (ts : Trees) → Stand w (many (manys.Set k) ts) (members ts)
term_stands w k ts = record {
  inside = λ u h. has_term k ts w u h;
  told = λ v h. let r = term_has k ts w v h in (r.term, r.there, r.value_is);
}

written_stands : (w : World) (s : Tree) (us : List Tree) → written s ≡ Some us → Stand w s us
written_stands w (many (manys.Set k) ts) us e =
    subst (Stand w (many (manys.Set k) ts)) (same_some e) (term_stands w k ts)
written_stands w (many manys.Record ts) us e = absurd cc
written_stands w (leaf l) us e = absurd cc
written_stands w (one o a) us e = absurd cc
written_stands w (two o a b) us e = absurd cc
written_stands w (choice c a b) us e = absurd cc

module _ (w : World) where
  found : (us : List Tree) (i : ℕ) (u : Tree) → slice_get us i ≡ Some u → Has us u
  found us i u e = Has-from_Contains us u (contains_place us i u e)

  -- ---- within

  all_within : (s t : Tree) (us : List Tree) → Stand w s us → some_holds w (so (subset s t) ∷ map (λ u. unless (member u t)) us) ≡ true
  all_within s t us stand = so_else w (subset s t) (map (λ u. unless (member u t)) us) (λ e. by (some_holds w (map (λ u. unless (member u t)) us)) refl e) where
    by : (b : Bool) → some_holds w (map (λ u. unless (member u t)) us) ≡ b → is_true (subset s t) w ≡ false → some_holds w (map (λ u. unless (member u t)) us) ≡ true
    by true f e = f
    by false f e = never _ (sym (subset_so w s t (λ v h.
        let r = stand.told v h in
        subst (Has (members_in (val t w))) r.2 (is_member w r.0 t (all_true w (λ u. member u t) us f r.0 r.1)))) ∙ e)

  se9_by : (s t : Tree) (us : List Tree) (i : ℕ) → Stand w s us → (o : Option Tree) → slice_get us i ≡ o → Holds w (se9_at s t us i o)
  se9_by s t us i stand (Some u) e =
      unless_else w (subset s t) _ (λ f. so_holds w (member u t) []
      (member_so w u t (is_subset w s t f (value_in (val u w)) (stand.inside u (found us i u e)))))
  se9_by s t us i stand None e = given_holds w (i == length us) _ (λ b. all_within s t us stand)

  pub se9_holds : (s t : Tree) (i : ℕ) → Holds w (se9 s t i)
  se9_holds s t i = by (written s) refl where
    by : (o : Option (List Tree)) → written s ≡ o → Holds w (se9_of o s t i)
    by (Some us) e = se9_by s t us i (written_stands w s us e) (slice_get us i) refl
    by None e = tt

  -- ---- in common, whichever of the two sets is written

  module _ (c s t : Tree) (us : List Tree) (stand : Stand w s us) (shares : (v : Value) → Has (members_in (val s w)) v → Has (members_in (val t w)) v → is_true c w ≡ true)
      (shared : is_true c w ≡ true → (v : Value) × Has (members_in (val s w)) v × Has (members_in (val t w)) v) where
    outside : (u : Tree) → Has us u → is_true c w ≡ false → is_true (member u t) w ≡ false
    outside u h e = by (is_true (member u t) w) refl where
      by : (b : Bool) → is_true (member u t) w ≡ b → is_true (member u t) w ≡ false
      by false f = f
      by true f = never _ (sym (shares (value_in (val u w)) (stand.inside u h) (is_member w u t f)) ∙ e)

    se10_by : (i : ℕ) (o : Option Tree) → slice_get us i ≡ o → Holds w (se10_at c us t i o)
    se10_by i (Some u) e = so_else w c _ (λ f. unless_holds w (member u t) [] (outside u (found us i u e) f))
    se10_by i None e = given_holds w (i == length us) _ (λ b. unless_else w c _ (λ f.
        let r = shared f in
        let u = stand.told r.0 r.1 in
        one_of w (λ u. member u t) us u.0 u.1 (member_so w u.0 t (subst (Has (members_in (val t w))) (sym u.2) r.2))))

  pub se10_holds : (s t : Tree) (i : ℕ) → Holds w (se10 s t i)
  se10_holds s t i = by (written s) (written t) refl refl where
    by : (o p : Option (List Tree)) → written s ≡ o → written t ≡ p → Holds w (se10_of o p s t i)
    by (Some us) p e f =
        se10_by (common s t) s t us (written_stands w s us e) (λ v h k. common_so w s t v h k)
        (λ h. let r = shared_is w s t h in (r.0, r.2, r.3)) i (slice_get us i) refl
    by None (Some us) e f =
        se10_by (common s t) t s us (written_stands w t us f) (λ v h k. common_so w s t v k h)
        (λ h. let r = shared_is w s t h in (r.0, r.3, r.2)) i (slice_get us i) refl
    by None None e f = tt
