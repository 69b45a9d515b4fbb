-- What a closed term tells of an entity's ancestors and keys.
use Rattle.std.proofs.Common.{◌≡◌, ◌++◌, ℕ, Bool, true, false, cond, List, [], map, sym, ap, ◌∙◌}
use Rattle.std.proofs.lemmas.List.{append-nil}
use Rattle.sc_clauses.specs.Assignments.{Assignment}
use Rattle.sc_names.specs.declared.uid.Uid.{Uid}
use Rattle.sc_schema.specs.Declarations.{uid_eq}
use Rattle.sc_sorts.specs.declared.sort.Sort.{Sort}
use Rattle.sc_sorts.specs.declared.node.UnaryOp.TheVariants as unary
use Rattle.sc_terms.specs.Trees.{Tree, one}
use Rattle.sc_footprint.specs.Problems.{Posed}
use Rattle.sc_model_values.specs.Models.{model, name_in}
use Rattle.sc_model_laws.specs.Vals.{assigned}
use Rattle.sc_model_world_laws.specs.Rebuilt.{ancestors_said, keys_said}
use Rattle.sc_model_worlds.specs.Saying.{uid_in}

module _ (p : Posed) (m : Assignment) (names : List (List ℕ)) (u : Uid) where
  ancestors_by : (t e : Tree) (own : Sort) (b : Bool) → t ≡ one (unary.Ancestors own) e → uid_eq (uid_in p names e) u ≡ b
      → cond b (map (uid_in p names) (assigned (model p m names) t)) [] ≡ ancestors_said (model p m names) u t
  unfolding model
  ancestors_by t e own b is h =
      ap (λ (z : Tree). cond b (map (uid_in p names) (assigned (model p m names) z)) []) is
      ∙ sym (ap (ancestors_said (model p m names) u) is ∙ ap (λ (c : Bool). cond c (map (uid_in p names) (assigned (model p m names) (one (unary.Ancestors own) e))) []) h)

  keys_by : (t e : Tree) (b : Bool) → t ≡ one unary.Keys e → uid_eq (uid_in p names e) u ≡ b
      → cond b (map (name_in p names) (assigned (model p m names) t)) [] ≡ keys_said (model p m names) u t
  unfolding model
  keys_by t e b is h =
      ap (λ (z : Tree). cond b (map (name_in p names) (assigned (model p m names) z)) []) is
      ∙ sym (ap (keys_said (model p m names) u) is ∙ ap (λ (c : Bool). cond c (map (name_in p names) (assigned (model p m names) (one unary.Keys e))) []) h)

  pub ancestors_put : (t e : Tree) (own : Sort) (old new : List Uid) → t ≡ one (unary.Ancestors own) e → uid_eq (uid_in p names e) u ≡ true
      → new ≡ old ++ map (uid_in p names) (assigned (model p m names) t) → new ≡ old ++ ancestors_said (model p m names) u t
  ancestors_put t e own old new is h put = put ∙ ap (λ (us : List Uid). old ++ us) (ancestors_by t e own true is h)

  pub no_ancestors_put : (t e : Tree) (own : Sort) (old : List Uid) → t ≡ one (unary.Ancestors own) e → uid_eq (uid_in p names e) u ≡ false
      → old ≡ old ++ ancestors_said (model p m names) u t
  no_ancestors_put t e own old is h = sym (append-nil old) ∙ ap (λ (us : List Uid). old ++ us) (ancestors_by t e own false is h)

  pub keys_put : (t e : Tree) (old new : List (List ℕ)) → t ≡ one unary.Keys e → uid_eq (uid_in p names e) u ≡ true
      → new ≡ old ++ map (name_in p names) (assigned (model p m names) t) → new ≡ old ++ keys_said (model p m names) u t
  keys_put t e old new is h put = put ∙ ap (λ (ks : List (List ℕ)). old ++ ks) (keys_by t e true is h)

  pub no_keys_put : (t e : Tree) (old : List (List ℕ)) → t ≡ one unary.Keys e → uid_eq (uid_in p names e) u ≡ false
      → old ≡ old ++ keys_said (model p m names) u t
  no_keys_put t e old is h = sym (append-nil old) ∙ ap (λ (ks : List (List ℕ)). old ++ ks) (keys_by t e false is h)
