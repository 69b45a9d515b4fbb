-- Entities are stored from the last one on.
use Rattle.std.proofs.Common.{◌≡◌, ◌++◌, ◌==◌, ℕ, suc, Bool, true, false, List, [], ◌∷◌, length, map, flat_map, unwrap_or, refl, sym, ap, ◌∙◌, arith}
use Rattle.std.proofs.lemmas.Bool.Decides.{nat_tests}
use Rattle.std.proofs.lemmas.List.{append-nil}
use Rattle.sc_clauses.specs.Assignments.{Assignment}
use Rattle.sc_names.specs.declared.uid.Uid.{Uid}
use Rattle.sc_names.specs.Uids.{text_cmp, uid_cmp}
use Rattle.sc_schema.specs.Declarations.{Declarations}
use Rattle.sc_values.specs.Records.{Fields}
use Rattle.sc_world.specs.declared.entity.EntityData.{EntityData}
use Rattle.sc_world.specs.Defaults.{default_attrs}
use Rattle.sc_world.specs.Stores.{Entities, with_entity}
use Rattle.sc_sorts.specs.declared.sort.Sort.{Sort, Sort-F, out-Sort}
use Rattle.sc_sorts.specs.declared.sort.Sort.TheVariants as sort
use Rattle.sc_sorts.specs.declared.sort.Sort.TheOpen as s
use Rattle.sc_sorts.proofs.OutLaws.{out_Entity}
use Rattle.sc_terms.specs.Trees.{Tree}
use Rattle.sc_terms.specs.TreeSorts.{tree_sort}
use Rattle.sc_terms.specs.Tables.{tree}
use Rattle.sc_footprint.specs.Problems.{Posed}
use Rattle.sc_model_values.specs.Models.{model}
use Rattle.sc_model_laws.specs.Vals.{Model}
use Rattle.sc_model_world_laws.specs.Rebuilt.{first_said, attributes_said, ancestors_said, keys_said, in_order, data_of, entity_by, entity_said, given_from, given_of}
use Rattle.sc_model_worlds.specs.Saying.{uid_in}
use Rattle.sc_model_worlds.specs.Telling.{tag_told, given_sort}
use Rattle.sc_model_worlds.proofs.FoldLaws.{flat_trees}

-- ---- which are given

pub of_entity : (k : Sort) (name : List ℕ) (us : List Uid) → k ≡ sort.Entity name us → (length us == 0) ≡ given_sort (out-Sort k)
of_entity k name us e = sym (ap given_sort (ap out-Sort e ∙ out_Entity name us))

given_at : (k : Sort-F Sort) (u : Uid) → given_sort k ≡ true → u ∷ [] ≡ entity_by k u
given_at (s.Entity name []) u h = refl
given_at (s.Entity name (v ∷ vs)) u h = let no : (suc (length vs) == 0) ≡ false = grind (arith, nat_tests) in absurd cc
given_at _ u h = absurd cc

not_given_at : (k : Sort-F Sort) (u : Uid) → given_sort k ≡ false → [] ≡ entity_by k u
not_given_at (s.Entity name []) u h = absurd cc
not_given_at (s.Entity name (v ∷ vs)) u h = refl
not_given_at _ u h = refl

pub put_given : (k : Sort-F Sort) (u v : Uid) (b : Bool) (old new : List Uid) → b ≡ given_sort k → b ≡ true → v ≡ u → new ≡ old ++ v ∷ [] → new ≡ old ++ entity_by k u
put_given k u v b old new e h same put = put ∙ ap (λ (z : Uid). old ++ z ∷ []) same ∙ ap (λ (us : List Uid). old ++ us) (given_at k u (sym e ∙ h))

pub put_none : (k : Sort-F Sort) (u : Uid) (b : Bool) (old : List Uid) → b ≡ given_sort k → b ≡ false → old ≡ old ++ entity_by k u
put_none k u b old e h = sym (append-nil old) ∙ ap (λ (us : List Uid). old ++ us) (not_given_at k u (sym e ∙ h))

-- ---- one after the other

-- these stored, and with them further entities
abbrev pub given_after : Declarations → Model → Entities → List Uid → Entities
given_after d m es [] = es
given_after d m es (u ∷ us) = with_entity u (data_of d m u) (given_after d m es us)

pub given_all : (d : Declarations) (m : Model) (us : List Uid) → given_after d m [] us ≡ given_from d m us
unfolding given_from
given_all d m [] = refl
given_all d m (u ∷ us) = ap (with_entity u (data_of d m u)) (given_all d m us)

pub given_last : (d : Declarations) (m : Model) (es : Entities) (us : List Uid) (u : Uid) → given_after d m es (us ++ u ∷ []) ≡ given_after d m (with_entity u (data_of d m u) es) us
given_last d m es [] u = refl
given_last d m es (v ∷ vs) u = ap (with_entity v (data_of d m v)) (given_last d m es vs u)

pub given_step : (d : Declarations) (m : Model) (es new : Entities) (us vs whole : List Uid) (u v : Uid) (x : EntityData) → us ≡ vs ++ u ∷ [] → v ≡ u → x ≡ data_of d m u → new ≡ with_entity v x es
    → given_after d m es us ≡ given_from d m whole → given_after d m new vs ≡ given_from d m whole
given_step d m es new us vs whole u v x e same told put so_far =
    ap (λ (zs : Entities). given_after d m zs vs) (put ∙ ap (λ (z : Uid). with_entity z x es) same ∙ ap (λ (z : EntityData). with_entity u z es) told)
    ∙ sym (given_last d m es vs u)
    ∙ sym (ap (given_after d m es) e)
    ∙ so_far

pub given_done : (d : Declarations) (m : Model) (es : Entities) (us whole : List Uid) → length us ≡ 0 → given_after d m es us ≡ given_from d m whole → es ≡ given_from d m whole
given_done d m es [] whole none so_far = so_far
given_done d m es (u ∷ us) whole none so_far = absurd (omega (arith, none))

-- ---- what is stored of one

pub data_by : (p : Posed) (m : Assignment) (names : List (List ℕ)) (u : Uid) (ns : List ℕ) (attrs : Fields) (ancestors : List Uid) (tags : Fields) → ns ≡ p.closed
    → attrs ≡ unwrap_or (first_said (attributes_said (model p m names) u) (map (tree p.nodes) ns)) (default_attrs p.schema u.type_name)
    → ancestors ≡ in_order uid_cmp (flat_map (ancestors_said (model p m names) u) (map (tree p.nodes) ns))
    → tags ≡ map (λ (key : List ℕ). (key, tag_told p.schema (model p m names) u (map (tree p.nodes) ns) key)) (in_order text_cmp (flat_map (keys_said (model p m names) u) (map (tree p.nodes) ns)))
    → record { attrs = attrs; ancestors = ancestors; tags = tags } ≡ data_of p.schema (model p m names) u
unfolding model
data_by p m names u ns attrs ancestors tags e f g h =
    let closed : map (tree p.nodes) ns ≡ (model p m names).closed = ap (map (tree p.nodes)) e in
    let is_attrs = f ∙ ap (λ (ts : List Tree). unwrap_or (first_said (attributes_said (model p m names) u) ts) (default_attrs p.schema u.type_name)) closed in
    let is_ancestors = g ∙ ap (λ (ts : List Tree). in_order uid_cmp (flat_map (ancestors_said (model p m names) u) ts)) closed in
    let is_tags = h ∙ ap (λ (ts : List Tree). map (λ (key : List ℕ). (key, tag_told p.schema (model p m names) u ts key)) (in_order text_cmp (flat_map (keys_said (model p m names) u) ts))) closed in
    λ i. record { attrs = is_attrs i; ancestors = is_ancestors i; tags = is_tags i }

-- ---- all of them

pub given_by : (p : Posed) (m : Assignment) (names : List (List ℕ)) (ns : List ℕ) (us : List Uid) → ns ≡ p.closed
    → us ≡ flat_map (λ (n : ℕ). entity_by (out-Sort (tree_sort (tree p.nodes n))) (uid_in p names (tree p.nodes n))) ns
    → given_from p.schema (model p m names) us ≡ given_of p.schema (model p m names)
unfolding model
given_by p m names ns us e h =
    ap (given_from p.schema (model p m names)) (h ∙ ap (flat_map (λ (n : ℕ). entity_by (out-Sort (tree_sort (tree p.nodes n))) (uid_in p names (tree p.nodes n)))) e
    ∙ flat_trees (entity_said (model p m names)) (tree p.nodes) p.closed)
