-- A sound request by its parts.
use Rattle.std.proofs.Common.{◌↔◌, Bool, IsTrue}
use Rattle.sc_schema.specs.Declarations.{Declarations}
use Rattle.sc_world.specs.declared.world.Request.{Request}
use Rattle.sc_world.specs.Tests.{Holds}
use Rattle.sc_replay.specs.Breaks.{IsSoundRequest}
use Rattle.sc_replay.specs.Tests.{HasSoundParts}

request_sound : (s : Declarations) (r : Request) → HasSoundParts s r → IsSoundRequest s r
unfolding Holds
request_sound s r h = record { proper = h.proper; env = h.listed.0; listed = h.listed.1; fits = h.listed.2 }

sound_request : (s : Declarations) (r : Request) → IsSoundRequest s r → HasSoundParts s r
unfolding Holds
sound_request s r h = record { proper = h.proper; listed = (h.env, h.listed, h.fits) }

pub sound_tested : (s : Declarations) (r : Request) (b : Bool) → (IsTrue b ↔ HasSoundParts s r) → IsTrue b ↔ IsSoundRequest s r
sound_tested s r b test = (λ h. request_sound s r (test.0 h), λ h. test.1 (sound_request s r h))
