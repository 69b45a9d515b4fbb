use Rattle.std.proofs.Common.{Some, None, lit<}
use Rattle.std.proofs.lemmas.Str.Pattern.{strip_prefix_char}
use Rattle.sc_date_texts.proofs.DurationLaws.{minus_none, plain_none, minus_some, plain_some}
use Rattle.sc_date_texts.proofs.duration.signed.Goals as goal

pub returns-in_err-magnitude-in-Some-clause-none : goal.returns-in_err-magnitude-in-Some-clause-none
returns-in_err-magnitude-in-Some-clause-none c = rw c.from_residual.ensures
    (minus_none _ _ (strip_prefix_char 45 c.args.text.now (Some c.in-Some.rest) c.in-Some.ensures.cases (lit< tt)) c.in_err-magnitude-in-Some.ensures.none)

pub returns-in_err-magnitude-in-None-clause-none : goal.returns-in_err-magnitude-in-None-clause-none
returns-in_err-magnitude-in-None-clause-none c = rw c.from_residual-in_err-magnitude-in-None.ensures
    (plain_none _ (strip_prefix_char 45 c.args.text.now None c.in-None.ensures.cases (lit< tt)) c.in_err-magnitude-in-None.ensures.none)

pub returns-in_ok-magnitude-in-Some-clause-some : goal.returns-in_ok-magnitude-in-Some-clause-some
returns-in_ok-magnitude-in-Some-clause-some c =
    (minus_some _ _ _ _ (strip_prefix_char 45 c.args.text.now (Some c.in-Some.rest) c.in-Some.ensures.cases (lit< tt)) c.in_ok-magnitude-in-Some.ensures.some c.checked_sub_unsigned.ensures).0

pub returns-in_ok-magnitude-in-Some-clause-none : goal.returns-in_ok-magnitude-in-Some-clause-none
returns-in_ok-magnitude-in-Some-clause-none c =
    (minus_some _ _ _ _ (strip_prefix_char 45 c.args.text.now (Some c.in-Some.rest) c.in-Some.ensures.cases (lit< tt)) c.in_ok-magnitude-in-Some.ensures.some c.checked_sub_unsigned.ensures).1

pub returns-in_ok-magnitude-in-None-clause-some : goal.returns-in_ok-magnitude-in-None-clause-some
returns-in_ok-magnitude-in-None-clause-some c =
    (plain_some _ _ _ (strip_prefix_char 45 c.args.text.now None c.in-None.ensures.cases (lit< tt)) c.in_ok-magnitude-in-None.ensures.some c.checked_add_unsigned.ensures).0

pub returns-in_ok-magnitude-in-None-clause-none : goal.returns-in_ok-magnitude-in-None-clause-none
returns-in_ok-magnitude-in-None-clause-none c =
    (plain_some _ _ _ (strip_prefix_char 45 c.args.text.now None c.in-None.ensures.cases (lit< tt)) c.in_ok-magnitude-in-None.ensures.some c.checked_add_unsigned.ensures).1
