-- The graph of what stands directly above what.
use Rattle.std.proofs.Common.{◌≡◌, ◌<◌, ℕ, List, [], Option, length, get_or, refl, ap}
use Rattle.std.proofs.lemmas.Option.{slice_get_read}
use Rattle.std.specs.Option.{option_map_or}
use Rattle.sc_schema_json.specs.Above.{Links}
use Rattle.sc_schema_json.specs.Graphs.{parents_at}

pub parents_here : {K : Type 0} (links : Links K) (i : ℕ) (l : K × List K) → i < length links → l ≡ get_or links i l → parents_at links i ≡ l.1
parents_here {K} links i l h e = ap (λ (o : Option (K × List K)). option_map_or (λ (x : K × List K). x.1) o []) (slice_get_read links (length links) i l refl h e)
