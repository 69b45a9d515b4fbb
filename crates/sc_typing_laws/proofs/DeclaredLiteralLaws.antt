-- The uids for which a world is well-formed count as a set.
use Rattle.std.proofs.Common.{zero, suc, List, [], ◌∷◌, Contains, refl, subst, arith}
use Rattle.std.specs.List.{AllByRecursion}
use Rattle.sc_names.specs.declared.uid.Uid.{Uid}
use Rattle.sc_schema.specs.declared.declarations.Env.{Env}
use Rattle.sc_schema.specs.Declarations.{Declarations}
use Rattle.sc_world.specs.declared.world.World.{World}
use Rattle.sc_world.specs.Stores.{Entities}
use Rattle.sc_world.specs.WellFormed.{IsStored, IsWellFormed}

one_of : (es : Entities) (us : List Uid) (u : Uid) → AllByRecursion (IsStored es) us → Contains us u → IsStored es u
one_of es [] u all (k, h, is) = absurd (omega arith)
one_of es (v ∷ us) u all (zero, h, is) = subst (IsStored es) is all.0
one_of es (v ∷ us) u all (suc k, h, is) = one_of es us u all.1 (k, omega arith, is)

all_of : (es : Entities) (us : List Uid) → ((u : Uid) → Contains us u → IsStored es u) → AllByRecursion (IsStored es) us
all_of es [] h = tt
all_of es (u ∷ us) h = (h u (0, omega arith, refl), all_of es us (λ v at. h v (suc at.0, omega (arith, at.1), at.2)))

pub for_others : (s : Declarations) (env : Env) (us vs : List Uid) (w : World) → ((u : Uid) → Contains us u → Contains vs u) → IsWellFormed s env vs w → IsWellFormed s env us w
for_others s env us vs w among h = record {
  proper = h.proper;
  request = h.request;
  attributes = h.attributes;
  tags = h.tags;
  ancestor_types = h.ancestor_types;
  transitive = h.transitive;
  acyclic = h.acyclic;
  actions = h.actions;
  choices = h.choices;
  declared_actions = h.declared_actions;
  closed = record {
    principal = h.closed.principal;
    action = h.closed.action;
    resource = h.closed.resource;
    context = h.closed.context;
    entries = h.closed.entries;
    written = all_of w.store us (λ u at. one_of w.store vs u h.closed.written (among u at));
  };
}
