use Rattle.sc_replay.proofs.SoundLaws.{sound_tested}
use Rattle.sc_replay.proofs.sound.is_sound_request.Goals as goal

pub returns : goal.returns
returns c = sound_tested c.args.s.now c.args.r.now _ c.has_sound_parts.ensures
