use Rattle.std.proofs.Common.{true, false, refl, lit<}
use Rattle.std.proofs.lemmas.Bool.{false≢true}
use Rattle.std.proofs.lemmas.Str.Pattern.{starts_char}
use Rattle.sc_ip.proofs.NotationLaws.{number_reads, no_plus, no_zero}
use Rattle.sc_ip.proofs.notation.read_number.Goals as goal

pub returns-then-starts_with-clause-none : goal.returns-then-starts_with-clause-none
returns-then-starts_with-clause-none c n small is =
    no_plus c.args.text.now n small is ((starts_char 43 c.args.text.now true c.if-starts_with.ensures.cases (lit< tt) (lit< tt)).0 refl)

pub returns-then-has_leading_zero-clause-none : goal.returns-then-has_leading_zero-clause-none
returns-then-has_leading_zero-clause-none c n small is =
    let zero_first = c.if-has_leading_zero.ensures.0 refl in
    no_zero c.args.text.now n small is zero_first.0 zero_first.1

pub returns-clause-some : goal.returns-clause-some
returns-clause-some c = rw c.ok.ensures.value
    (number_reads c.args.text.now c.parse.result
    (λ e. false≢true ((starts_char 43 c.args.text.now false c.if-starts_with.ensures.cases (lit< tt) (lit< tt)).1 e))
    (λ long e. false≢true (c.if-has_leading_zero.ensures.1 (long, e))) c.parse.ensures.value.0).0

pub returns-clause-none : goal.returns-clause-none
returns-clause-none c = rw c.ok.ensures.value
    (number_reads c.args.text.now c.parse.result
    (λ e. false≢true ((starts_char 43 c.args.text.now false c.if-starts_with.ensures.cases (lit< tt) (lit< tt)).1 e))
    (λ long e. false≢true (c.if-has_leading_zero.ensures.1 (long, e))) c.parse.ensures.value.0).1
