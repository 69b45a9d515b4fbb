-- A report on a world is written line by line.
use Rattle.std.proofs.Common.{◌≡◌, ℕ, List, Option, ap, ◌∙◌}
use Rattle.sc_outside.specs.Writes.{Written, all_appended}
use Rattle.sc_replay.specs.Reports.{status_of}
use Rattle.sc_replay.specs.declared.breaks.Break.{Break}
use Rattle.sc_reports.specs.Lines.{CutLines, FirstLines}
use Rattle.sc_run.specs.Replays.{Finds, Replayed, told_whole, told_front, told_first, lines_of}
use Rattle.sc_inputs.specs.declared.inputs.Scene.{Scene}

pub replayed-whole : (x : Scene) (found : Option Break) (lines : List (List ℕ)) (old new : Written) (rose : Type 0) (code : ℕ) → Finds x found → lines ≡ lines_of x found → code ≡ status_of found
    → new ≡ all_appended old lines → Replayed x old new rose code
replayed-whole x found lines old new rose code finds is c e = told_whole found finds c (e ∙ ap (all_appended old) is)

pub replayed-cut : (x : Scene) (found : Option Break) (lines : List (List ℕ)) (old new : Written) (rose : Type 0) (code : ℕ) → Finds x found → lines ≡ lines_of x found → code ≡ 21
    → rose × CutLines lines old new → Replayed x old new rose code
replayed-cut x found lines old new rose code finds is c h = told_front found h.1.whole h.1.next h.1.rest h.1.kept finds (h.1.in_order ∙ is) h.0 c h.1.text

pub replayed-stopped : (x : Scene) (found : Option Break) (lines : List (List ℕ)) (old new : Written) (rose : Type 0) (code : ℕ) → Finds x found → lines ≡ lines_of x found → code ≡ 30
    → FirstLines lines old new → Replayed x old new rose code
replayed-stopped x found lines old new rose code finds is c h = told_first found h.whole h.rest finds (h.in_order ∙ is) c h.text
