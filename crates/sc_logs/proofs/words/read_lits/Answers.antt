use Rattle.std.proofs.Common.{sym}
use Rattle.sc_logs.specs.Texts.{lit_text}
use Rattle.sc_logs.specs.Writable.{is_lit}
use Rattle.sc_logs.proofs.LineLaws.{lit_no_zero, ended_none, ended_never}
use Rattle.sc_logs.proofs.words.read_lits.Goals as goal

pub returns-in_default-lit_of : goal.returns-in_default-lit_of
returns-in_default-lit_of c =
    ended_none is_lit lit_text lit_no_zero c.args.words.now c.loop-word.words c.next_word.new.self c.in-Some.word.now c.loop-word.lits.items c.loop-word.invariant.text c.in-Some.ensures c.loop-word.invariant.fit (sym c.if-is_zero.ensures) c.in_default-lit_of.ensures

pub returns : goal.returns
returns c = ended_never is_lit lit_text lit_no_zero c.args.words.now c.loop-word.words c.loop-word.lits.items c.loop-word.invariant.text c.in_default.ensures.0 c.loop-word.invariant.fit
