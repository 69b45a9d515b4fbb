-- How large a type is, construct by construct, and that what is looked up in a schema is small.
use Rattle.std.proofs.Common.{◌≡◌, ◌∙◌, ℕ, List, [], Bool, true, false, cond, Option, Some, None, option_map, IfSome, sym, ap, arith}
use Rattle.std.specs.Prelude.{option_and_then}
use Rattle.sc_names.specs.declared.uid.Uid.{Uid}
use Rattle.sc_schema.specs.declared.declarations.EntityType.{EntityType}
use Rattle.sc_schema.specs.declared.declarations.Action.{Action}
use Rattle.sc_schema.specs.Declarations.{Declarations, entity_type, action, is_action_type, attrs_of, tags_of, context_of}
use Rattle.sc_schema.specs.Lawful.{IsLawfulType, IsLawfulAction, IsLawful}
use Rattle.sc_schema.proofs.AscentLaws.{of_found}
use Rattle.sc_schema.specs.declared.ty.Ty.{Ty, Ty-F, roll-Ty, map-Ty, fold-roll-Ty}
use Rattle.sc_schema.specs.declared.ty.Ty.TheOpen as t
use Rattle.sc_schema.specs.declared.ty.Ty.TheVariants.{Record, rolls-Record}
use Rattle.sc_schema.specs.Sizes.{levels_step, levels, nodes_step, nodes, IsSmall}

pub levels-roll : (x : Ty-F Ty) → levels (roll-Ty x) ≡ levels_step (map-Ty Ty ℕ levels x)
unfolding levels
levels-roll x = fold-roll-Ty ℕ levels_step x

pub nodes-roll : (x : Ty-F Ty) → nodes (roll-Ty x) ≡ nodes_step (map-Ty Ty ℕ nodes x)
unfolding nodes
nodes-roll x = fold-roll-Ty ℕ nodes_step x

levels-no_fields : levels (Record []) ≡ 1
levels-no_fields = ap levels (sym (rolls-Record [])) ∙ levels-roll (t.Record [])

nodes-no_fields : nodes (Record []) ≡ 1
nodes-no_fields = ap nodes (sym (rolls-Record [])) ∙ nodes-roll (t.Record [])

pub no_fields_small : IsSmall (Record [])
no_fields_small = record { depth = rw levels-no_fields (omega arith); size = rw nodes-no_fields (omega arith) }

-- ---- what is looked up

shape_small : (s : Declarations) (o : Option EntityType) → IfSome o (IsLawfulType s) → IfSome (option_map (λ (t : EntityType). t.shape) o) IsSmall
shape_small s None h = tt
shape_small s (Some t) h = h.shape_size

tag_small : (s : Declarations) (o : Option EntityType) → IfSome o (IsLawfulType s) → IfSome (option_and_then (λ (t : EntityType). t.tags) o) IsSmall
tag_small s None h = tt
tag_small s (Some t) h = h.tag_size

context_by : (s : Declarations) (o : Option Action) → IfSome o (IsLawfulAction s) → IfSome (option_map (λ (a : Action). a.context) o) IsSmall
context_by s None h = tt
context_by s (Some a) h = h.context_size

pub attrs_small : (s : Declarations) (name : List ℕ) → IsLawful s → IfSome (attrs_of s name) IsSmall
attrs_small s name h = step (is_action_type s name) where
  step : (b : Bool) → IfSome (cond b (Some (Record [])) (option_map (λ (t : EntityType). t.shape) (entity_type s name))) IsSmall
  step true = no_fields_small
  step false = shape_small s (entity_type s name) (of_found (IsLawfulType s) _ s.types h.each_type)

pub tags_small : (s : Declarations) (name : List ℕ) → IsLawful s → IfSome (tags_of s name) IsSmall
tags_small s name h = step (is_action_type s name) where
  step : (b : Bool) → IfSome (cond b None (option_and_then (λ (t : EntityType). t.tags) (entity_type s name))) IsSmall
  step true = tt
  step false = tag_small s (entity_type s name) (of_found (IsLawfulType s) _ s.types h.each_type)

pub context_small : (s : Declarations) (u : Uid) → IsLawful s → IfSome (context_of s u) IsSmall
context_small s u h = context_by s (action s u) (of_found (IsLawfulAction s) _ s.actions h.each_action)
