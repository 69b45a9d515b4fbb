use Rattle.std.proofs.Common.{◌≡◌, sym, ◌∙◌, arith}
use Rattle.sc_command.proofs.NumberLaws.{plus-no-numeral, number-found, number-read}
use Rattle.sc_command.proofs.numbers.size_of.Goals as goal

pub returns-then-begins_with_plus-clause-none : goal.returns-then-begins_with_plus-clause-none
returns-then-begins_with_plus-clause-none c = λ n b. plus-no-numeral c.args.text.now (sym c.begins_with_plus.ensures ∙ c.if-begins_with_plus.true) b.digits

pub returns-in_default-clause-none : goal.returns-in_default-clause-none
returns-in_default-clause-none c = λ n b.
    c.in_default.not-Ok n (number-read 64 1 1000 c.args.text.now _ c.parse.result (omega arith) (sym c.begins_with_plus.ensures ∙ c.if-begins_with_plus.false) c.parse.ensures.value.0 n b)

pub returns-then-n-lt-FEWEST_POLICIES-clause-none : goal.returns-then-n-lt-FEWEST_POLICIES-clause-none
returns-then-n-lt-FEWEST_POLICIES-clause-none c = λ n b.
    let read = number-read 64 1 1000 c.args.text.now _ c.parse.result (omega arith) (sym c.begins_with_plus.ensures ∙ c.if-begins_with_plus.false) c.parse.ensures.value.0 n b in
    let same : c.in-Ok.n ≡ n = cc in
    omega (arith, b.least, b.most)

pub returns-clause-found : goal.returns-clause-found
returns-clause-found c =
    number-found 64 1 1000 c.args.text.now c.in-Ok.n (sym c.begins_with_plus.ensures ∙ c.if-begins_with_plus.false) c.in-Ok.ensures.value.0 (omega arith) (omega arith)
