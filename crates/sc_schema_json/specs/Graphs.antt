-- The graph of what stands directly above what, by places. No public promise speaks of it.
use Rattle.std.specs.Prelude.{ℕ, List, [], length}
use Rattle.std.specs.List.{slice_get}
use Rattle.std.specs.Map.{keys_of}
use Rattle.std.specs.Option.{option_map_or}
use Rattle.sc_graphs.specs.Keys.{HasPlaces}
use Rattle.sc_schema_json.specs.Above.{Links}

-- the keys directly above the one at place i
abbrev pub parents_at : {K : Type 0} → Links K → ℕ → List K
parents_at links i = option_map_or (λ l. l.1) (slice_get links i) []

-- at each place the graph has the places of the keys directly above
abbrev pub IsGraphOf : {K : Type 0} → Links K → List (List ℕ) → Type 0
IsGraphOf {K} links graph = HasPlaces (keys_of links) (parents_at links) graph (length links)
