use Rattle.std.proofs.Common.{◌∙◌, refl}
use Rattle.sc_run.proofs.ReplayLaws.{replayed-whole, replayed-cut, replayed-stopped}
use Rattle.sc_run.proofs.replaying.replay.Goals as goal

pub returns-in-Ok-put_lines-clause-replays : goal.returns-in-Ok-put_lines-clause-replays
returns-in-Ok-put_lines-clause-replays g c =
    replayed-whole c.args.scene.now c.in-Ok.report.found _ _ _ _ _ c.in-Ok.ensures.first (c.as_slice.ensures ∙ c.in-Ok.ensures.lines) c.status.ensures c.in-Ok-put_lines.ensures.puts

pub returns-in-Err-Failed-clause-replays : goal.returns-in-Err-Failed-clause-replays
returns-in-Err-Failed-clause-replays g c =
    replayed-cut c.args.scene.now c.in-Ok.report.found _ _ _ _ 21 c.in-Ok.ensures.first (c.as_slice.ensures ∙ c.in-Ok.ensures.lines) refl (rw (c.in-Err-Failed.is, c.in-Err-Failed.field-0-is) at c.put_lines.ensures.puts)

pub returns-clause-replays : goal.returns-clause-replays
returns-clause-replays g c =
    replayed-stopped c.args.scene.now c.in-Ok.report.found _ _ _ _ 30 c.in-Ok.ensures.first (c.as_slice.ensures ∙ c.in-Ok.ensures.lines) refl (rw (c.in-Err-NoMemory.is, c.in-Err-NoMemory.field-0-is) at c.put_lines.ensures.puts)
