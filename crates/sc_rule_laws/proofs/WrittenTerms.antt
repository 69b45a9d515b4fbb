-- The terms that stand in a set term are of its members' sort.
use Rattle.std.proofs.Common.{◌≡◌, inl, inr, List, Some, refl, sym, ap, ◌∙◌, subst}
use Rattle.sc_laws.proofs.OptionLaws.{same_some}
use Rattle.sc_lists.specs.Members.{Has}
use Rattle.sc_names.specs.declared.uid.Uid.{Uid}
use Rattle.sc_schema.specs.declared.declarations.Env.{Env}
use Rattle.sc_schema.specs.Declarations.{Declarations}
use Rattle.sc_sorts.specs.Inside.{member_sort}
use Rattle.sc_sorts.specs.declared.sort.Sort.{Sort}
use Rattle.sc_sorts.specs.declared.sort.Sort.TheVariants as sort
use Rattle.sc_sorts.specs.declared.node.ManyOp.TheVariants as manys
use Rattle.sc_terms.specs.Trees.{Tree, leaf, one, two, choice, many, Trees}
use Rattle.sc_term_laws.specs.Judging.{IsTermOf, HaveSort}
use Rattle.sc_term_laws.specs.Judging as judged
use Rattle.sc_term_laws.proofs.JudgingLaws.{member_of}
use Rattle.sc_rule_laws.specs.Terms.{members, written}

module _ (d : Declarations) (env : Env) (literals : List Uid) where
  abbrev Of : Sort → Tree → Type 0
  Of = IsTermOf d env literals

  standing_sort : (j k : Sort) (ts : Trees) → Of j (many (manys.Set k) ts) → (j ≡ sort.Set k) × HaveSort d env literals k ts
  standing_sort _ _ _ (judged.of_set k ts held h) = (refl, h)

  standing_made : (k : Sort) (ts : Trees) (u : Tree) → HaveSort d env literals k ts → Has (members ts) u → Of k u
  standing_made _ _ u (judged.no_member k) h = absurd h
  standing_made _ _ u (judged.with_member k t ts g more) (inl is) = subst (Of k) is g
  standing_made _ _ u (judged.with_member k t ts g more) (inr later) = standing_made k ts u more later

  pub written_made : (k : Sort) (s : Tree) (us : List Tree) (u : Tree) → Of (sort.Set k) s → written s ≡ Some us → Has us u → Of k u
  written_made k (many (manys.Set j) ts) us u h e m =
      let parts = standing_sort (sort.Set k) j ts h in
      let same = sym (member_of j) ∙ ap member_sort (sym parts.0) ∙ member_of k in
      subst (λ (i : Sort). Of i u) same (standing_made j ts u parts.1 (subst (λ (vs : List Tree). Has vs u) (sym (same_some e)) m))
  written_made k (many manys.Record ts) us u h e m = absurd cc
  written_made k (leaf l) us u h e m = absurd cc
  written_made k (one o a) us u h e m = absurd cc
  written_made k (two o a b) us u h e m = absurd cc
  written_made k (choice c a b) us u h e m = absurd cc
