-- What an instance says holds in every well-formed world of its problem: the rules' laws at closed terms.
use Rattle.std.proofs.Common.{◌≡◌, ℕ, suc, List, [], ◌∷◌, length, Option, Some, None, refl, sym, ap, ◌∙◌, subst}
use Rattle.std.proofs.lemmas.List.Elements.{All-from_recursion}
use Rattle.std.specs.List.{AllByRecursion}
use Rattle.sc_world.specs.declared.world.World.{World}
use Rattle.sc_terms.specs.Trees.{Tree}
use Rattle.sc_term_laws.specs.Judging.{IsTerm}
use Rattle.sc_footprint.specs.Problems.{Posed, IsPosed, term_of}
use Rattle.sc_footprint.specs.Theories.{TermsHold}
use Rattle.sc_footprint.specs.Truths.{IsWorldOf}
use Rattle.sc_footprint.proofs.ProblemLaws.{term_judged}
use Rattle.sc_rule_instances.specs.Instances.{on_two}
use Rattle.sc_rule_instances.proofs.RulesHold.{term_closed}
use Rattle.sc_rule_laws.specs.Signed.{Said, Holds}
use Rattle.sc_rule_laws.specs.Strings.{Pattern, Signs, AreFew, st1}
use Rattle.sc_rule_laws.proofs.StringSound.{st1_holds}
use Rattle.sc_rule_laws.proofs.TermsHold.{st2_true, st3_true}
use Rattle.th_strings_instances.specs.Instances.{with_term, all_at, on_all, said_of, IsCrowded}
use Rattle.th_strings_instances.specs.declared.rule.StringRule.{StringRule}
use Rattle.th_strings_instances.specs.declared.rule.StringRule.TheVariants.{St1, St2, St3}

pub with_view : (o : Option Tree) (q : Option (List Tree)) (us : List Tree) → with_term o q ≡ Some us → (t : Tree) × (ts : List Tree) × (o ≡ Some t) × (q ≡ Some ts) × (us ≡ t ∷ ts)
with_view (Some t) (Some ts) us e = let same : t ∷ ts ≡ us = cc in (t, ts, refl, refl, sym same)
with_view (Some t) None us e = absurd cc
with_view None q us e = absurd cc

-- there are as many terms as numbers
all_length : (p : Posed) (ns : List ℕ) (ts : List Tree) → all_at p ns ≡ Some ts → length ts ≡ length ns
all_length p [] ts e = let same : [] ≡ ts = cc in ap length (sym same)
all_length p (n ∷ ns) ts e =
    let (u, us, f, g, h) = with_view (term_of p n) (all_at p ns) ts e in
    ap length h ∙ ap suc (all_length p ns us g)

module _ (laws : TermsHold) (p : Posed) (w : World) (posed : IsPosed p) (formed : IsWorldOf p w) where
  abbrev Is : Tree → Type 0
  Is = IsTerm p.schema p.env p.literals

  all_terms : (ns : List ℕ) (ts : List Tree) → all_at p ns ≡ Some ts → AllByRecursion Is ts
  all_terms [] ts e = let same : [] ≡ ts = cc in subst (AllByRecursion Is) same tt
  all_terms (n ∷ ns) ts e =
      let (u, us, f, g, h) = with_view (term_of p n) (all_at p ns) ts e in
      subst (AllByRecursion Is) (sym h) (term_judged laws p posed u (term_closed p n u f), all_terms ns us g)

  two_hold : (o q : Option Tree) (rule : Tree → Tree → Said) → ((a b : Tree) → Holds w (rule a b)) → Holds w (on_two o q rule)
  two_hold (Some a) (Some b) rule h = h a b
  two_hold (Some a) None rule h = tt
  two_hold None q rule h = tt

  all_hold : (ns : List ℕ) (rule : List Tree → Said) → ((ts : List Tree) → all_at p ns ≡ Some ts → Holds w (rule ts)) → Holds w (on_all (all_at p ns) rule)
  all_hold ns rule h = by (all_at p ns) refl
    where
      by : (o : Option (List Tree)) → all_at p ns ≡ o → Holds w (on_all o rule)
      by (Some ts) e = h ts e
      by None e = tt

  as_few : (qs : List Pattern) (v : Signs) (ns : List ℕ) (ts : List Tree) → all_at p ns ≡ Some ts → AreFew qs v (length ns) → AreFew qs v (length ts)
  as_few qs v ns ts e h = subst (AreFew qs v) (sym (all_length p ns ts e)) h

  pub string_holds : (qs : List Pattern) (rule : StringRule) → IsCrowded qs rule → Holds w (said_of p qs rule)
  string_holds qs (St1 a b i) h = two_hold (term_of p a) (term_of p b) (λ t u. st1 qs t u i) (λ t u. st1_holds w qs t u i)
  string_holds qs (St2 v ns) h =
      all_hold ns _ (λ ts e. st2_true p.schema p.env p.literals w posed.lawful formed qs v ts (All-from_recursion Is ts (all_terms ns ts e)) (as_few qs v ns ts e h))
  string_holds qs (St3 v ns) h =
      all_hold ns _ (λ ts e. st3_true p.schema p.env p.literals w posed.lawful formed qs v ts (All-from_recursion Is ts (all_terms ns ts e)) (as_few qs v ns ts e h))
