use Rattle.std.proofs.Common.{◌∙◌, sym}
use Rattle.th_strings.proofs.TextLaws.{text_next, other_next}
use Rattle.th_strings.proofs.texts.put_if_text.Goals as goal

pub returns-then-is_text : goal.returns-then-is_text
returns-then-is_text c = rw c.in_ok-push.ensures.items (text_next c.args.problem.now c.args.place _ c.requires.texts)

pub returns : goal.returns
returns c = other_next c.args.problem.now c.args.place c.closed_at.result _ c.requires.texts c.closed_at.ensures.number (sym c.is_text.ensures ∙ c.if-is_text.false)
