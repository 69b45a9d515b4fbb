-- A world has one first break at most, and none exactly where it is well-formed for an environment of the schema.
use Rattle.std.proofs.Common.{◌≡◌, ◌≢◌, ◌↔◌, List, Option, Some, None, IsSome, Contains, refl, ap, subst}
use Rattle.std.specs.List.{AllByRecursion}
use Rattle.std.specs.Ordering.{ordering_reverse}
use Rattle.std.specs.declared.cmp.Ordering.{Ordering}
use Rattle.std.specs.declared.cmp.Ordering.TheVariants.{Less, Equal, Greater}
use Rattle.sc_lists.proofs.ListLaws.{all_element}
use Rattle.sc_names.specs.declared.uid.Uid.{Uid}
use Rattle.sc_names.specs.Uids.{uid_cmp}
use Rattle.sc_names.proofs.UidLaws.{uid_cmp_total, uid_cmp_level}
use Rattle.sc_schema.specs.declared.declarations.Env.{Env}
use Rattle.sc_schema.specs.Declarations.{Declarations, environments}
use Rattle.sc_world.specs.declared.entity.EntityData.{EntityData}
use Rattle.sc_world.specs.declared.world.World.{World}
use Rattle.sc_world.specs.Least.{IsBroken, wanted, IsMissing, IsLeast}
use Rattle.sc_world.specs.Sound.{IsSoundEntry, AreSound}
use Rattle.sc_world.specs.Stores.{Entities, IsMap, stored}
use Rattle.sc_world.specs.WellFormed.{IsStored, IsWellFormed}
use Rattle.sc_world.proofs.PartLaws.{by_parts}
use Rattle.sc_replay.specs.declared.breaks.Break.{Break}
use Rattle.sc_replay.specs.declared.breaks.Break.TheVariants as break
use Rattle.sc_replay.specs.Breaks.{IsFirstBreak, in_request, in_entity, missing, nowhere}

-- ---- one at most

tied_of : (o : Ordering) → o ≢ Greater → ordering_reverse o ≢ Greater → o ≡ Equal
tied_of Less h k = absurd (k refl)
tied_of Equal h k = refl
tied_of Greater h k = absurd (h refl)

one_least : (P : Uid → Type 0) (u v : Uid) → IsLeast P u → IsLeast P v → u ≡ v
one_least P u v a b =
    let turned = subst (λ (o : Ordering). o ≢ Greater) (uid_cmp_total.antisymm v u) (b.least u a.here) in
    uid_cmp_level u v (tied_of (uid_cmp u v) (a.least v b.here) turned)

is_sound : (s : Declarations) (es : Entities) (u : Uid) → AreSound s es → ¬ IsBroken s es u
is_sound s es u all broken = broken.2 (all_element (IsSoundEntry s es) es (u, broken.0) all broken.1)

found_none : (o : Option EntityData) → IsSome o → o ≡ None → ⊥
found_none None h is = absurd cc
found_none (Some e) h is = cc

is_stored : (s : Declarations) (literals : List Uid) (w : World) (u : Uid) → AllByRecursion (IsStored w.store) (wanted s literals w) → ¬ IsMissing s literals w u
is_stored s literals w u all lost =
    found_none (stored u w.store) (all_element (IsStored w.store) (wanted s literals w) u all lost.0) lost.1

pub one_break : (s : Declarations) (literals : List Uid) (w : World) (a b : Option Break) → IsFirstBreak s literals w a → IsFirstBreak s literals w b → a ≡ b
one_break s literals w a b (in_request h) (in_request k) = refl
one_break s literals w a b (in_request h) (in_entity v r k) = absurd (h r)
one_break s literals w a b (in_request h) (missing v r e k) = absurd (h r)
one_break s literals w a b (in_request h) (nowhere r e k) = absurd (h r)
one_break s literals w a b (in_entity u r h) (in_request k) = absurd (k r)
one_break s literals w a b (in_entity u r h) (in_entity v q k) = ap (λ (x : Uid). Some (break.Entity x)) (one_least (IsBroken s w.store) u v h k)
one_break s literals w a b (in_entity u r h) (missing v q e k) = absurd (is_sound s w.store u e h.here)
one_break s literals w a b (in_entity u r h) (nowhere q e k) = absurd (is_sound s w.store u e h.here)
one_break s literals w a b (missing u r e h) (in_request k) = absurd (k r)
one_break s literals w a b (missing u r e h) (in_entity v q k) = absurd (is_sound s w.store v e k.here)
one_break s literals w a b (missing u r e h) (missing v q f k) = ap (λ (x : Uid). Some (break.Missing x)) (one_least (IsMissing s literals w) u v h k)
one_break s literals w a b (missing u r e h) (nowhere q f k) = absurd (is_stored s literals w u k h.here)
one_break s literals w a b (nowhere r e h) (in_request k) = absurd (k r)
one_break s literals w a b (nowhere r e h) (in_entity v q k) = absurd (is_sound s w.store v e k.here)
one_break s literals w a b (nowhere r e h) (missing v q f k) = absurd (is_stored s literals w v h k.here)
one_break s literals w a b (nowhere r e h) (nowhere q f k) = refl

-- ---- none exactly where the world is well-formed

-- a well-formed world, for some environment
abbrev Fits : Declarations → List Uid → World → Type 0
Fits s literals w = (env : Env) × Contains (environments s) env × IsWellFormed s env literals w

to_fits : (s : Declarations) (literals : List Uid) (w : World) (b : Option Break) → IsMap w.store → b ≡ None → IsFirstBreak s literals w b → Fits s literals w
to_fits s literals w b ascending none (in_request h) = absurd cc
to_fits s literals w b ascending none (in_entity u r h) = absurd cc
to_fits s literals w b ascending none (missing u r e h) = absurd cc
to_fits s literals w b ascending none (nowhere r e h) =
    (r.env, r.listed, (by_parts s r.env literals w).0 (record { proper = r.proper; request = r.fits; store = ascending; sound = e; stored = h }))

from_fits : (s : Declarations) (literals : List Uid) (w : World) → Fits s literals w → IsFirstBreak s literals w None
from_fits s literals w h =
    let parts = (by_parts s h.0 literals w).1 h.2 in
    nowhere (record { proper = parts.proper; env = h.0; listed = h.1; fits = parts.request }) parts.sound parts.stored

pub no_break : (s : Declarations) (literals : List Uid) (w : World) → IsMap w.store → IsFirstBreak s literals w None ↔ ((env : Env) × Contains (environments s) env × IsWellFormed s env literals w)
no_break s literals w ascending = (λ h. to_fits s literals w None ascending refl h, from_fits s literals w)
