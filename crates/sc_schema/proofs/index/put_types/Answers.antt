use Rattle.std.proofs.Common.{◌≡◌, ◌∙◌, List, ℕ, map, ap, sym, subst, rules}
use Rattle.std.specs.List.{fold, prefix_len}
use Rattle.std.specs.List.Sorted.{IsStrictlySortedBy}
use Rattle.std.proofs.lemmas.Map.Keys.{sorted_tail}
use Rattle.sc_names.specs.declared.uid.Uid.{Uid}
use Rattle.sc_names.specs.Uids.{uid_cmp}
use Rattle.sc_schema.specs.Declarations.{with_name}
use Rattle.sc_schema.proofs.IndexLaws.{with_name-again}
use Rattle.sc_schema.proofs.RunLaws.{of_type, put_run, sorted_drop, at_end}
use Rattle.sc_schema.proofs.index.put_types.Goals as goal

pub after_run-rest-requires : goal.after_run-rest-requires
after_run-rest-requires c = subst (IsStrictlySortedBy uid_cmp) c.in-Some.ensures.cases.0 c.loop-uid.invariant.ordered

pub loop-uid-preserved : goal.loop-uid-preserved
loop-uid-preserved c =
    let uid = c.in-Some.uid.now in
    let later = c.in-Some.later.now in
    let types : List Uid → List (List ℕ) = map (λ (u : Uid). u.type_name) in
    let put = c.in_ok-put_name.ensures.put in
    let there : with_name c.put_name.new.names uid.type_name ≡ c.put_name.new.names =
    ap (λ (ns : List (List ℕ)). with_name ns uid.type_name) put ∙ (with_name-again c.loop-uid.names uid.type_name ∙ sym put) in
    record {
      put =
          ap (λ (us : List Uid). fold with_name c.put_name.new.names (types us)) c.after_run-rest.ensures
          ∙ (put_run c.put_name.new.names uid.type_name later there
          ∙ (ap (λ (ns : List (List ℕ)). fold with_name ns (types later)) put
          ∙ (ap (λ (us : List Uid). fold with_name c.loop-uid.names (types us)) (sym c.in-Some.ensures.cases.0)
          ∙ c.loop-uid.invariant.put)));
      ascending = c.in_ok-put_name.ensures.ascending;
      ordered = subst (IsStrictlySortedBy uid_cmp) (sym c.after_run-rest.ensures) (sorted_drop (prefix_len (of_type uid.type_name) later) later (sorted_tail uid_cmp uid later (subst (IsStrictlySortedBy uid_cmp) c.in-Some.ensures.cases.0 c.loop-uid.invariant.ordered)));
    }

pub returns-clause-put : goal.returns-clause-put
returns-clause-put c = at_end c.loop-uid.names c.loop-uid.rest.now (search rules) ∙ c.loop-uid.invariant.put
