use Rattle.std.proofs.Common.{◌≡◌, drop, length, map, rules}
use Rattle.std.specs.Vec.{vec_len}
use Rattle.std.proofs.lemmas.Option.{IfSome_then}
use Rattle.sc_refutations.specs.Arenas.{lit_of}
use Rattle.sc_logs.proofs.WholeLineLaws.{learned_fits, whole_text}
use Rattle.sc_logs.proofs.whole_lines.read_whole.Goals as goal

pub returns : goal.returns
returns c =
    let lits = rw c.in-Some-2.is at c.in_ok-hints.ensures in
    let hints = rw c.in-Some-3.is at c.in_ok-end.ensures in
    let size : vec_len c.read_hints.new.hints ≡ length c.read_hints.new.hints.items = search rules in
    IfSome_then c.after_newline.result c.after_newline.ensures (λ next last. (
      learned_fits (map lit_of c.read_lits.new.codes.items) c.read_hints.new.hints.items (vec_len c.read_hints.new.hints) lits.1 hints.1 size c.if-is_empty.ensures,
      whole_text (drop c.args.from c.args.bytes.now) (drop c.in-Some.lits c.args.bytes.now) (drop c.in-Some-2.hints c.args.bytes.now) (drop c.in-Some-3.end c.args.bytes.now)
          (drop next c.args.bytes.now) (map lit_of c.read_lits.new.codes.items) c.read_hints.new.hints.items c.in-Some.ensures.1 lits.2 hints.2 last,
    ))
