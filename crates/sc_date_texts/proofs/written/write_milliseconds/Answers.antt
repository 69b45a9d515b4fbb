use Rattle.std.proofs.Common.{string_bytes, ap, sym, subst, unsigned_abs, ◌∙◌}
use Rattle.std.proofs.lemmas.Int.{to_z-of_z}
use Rattle.std.specs.Int.{w64}
use Rattle.sc_date_texts.specs.Written.{IsInYears}
use Rattle.sc_date_texts.proofs.ReadBackLaws.{written_civil, civil_reads_back, written_other}
use Rattle.sc_date_texts.proofs.written.write_milliseconds.Goals as goal

pub returns-in-Some-clause-text : goal.returns-in-Some-clause-text
returns-in-Some-clause-text c =
    let e = c.rem_euclid.ensures.value in
    written_civil string_bytes c.args.milliseconds _ (to_z-of_z w64 c.args.milliseconds c.ranges.milliseconds) c.write_civil.result _ _ _ _ _ (ap unsigned_abs (to_z-of_z w64 c.rem_euclid.result (record { sfits = c.rem_euclid.type_inv }) ∙ e)) c.in-Some.ensures.some c.write_civil.ensures

pub returns-in-Some-clause-reads_back : goal.returns-in-Some-clause-reads_back
returns-in-Some-clause-reads_back c = λ y m d t h.
    let e = c.rem_euclid.ensures.value in
    civil_reads_back string_bytes c.args.milliseconds _ (to_z-of_z w64 c.args.milliseconds c.ranges.milliseconds) c.write_civil.result _ _ _ _ _ (ap unsigned_abs (to_z-of_z w64 c.rem_euclid.result (record { sfits = c.rem_euclid.type_inv }) ∙ e)) c.in-Some.ensures.some c.write_civil.ensures

pub returns-in-None-clause-text : goal.returns-in-None-clause-text
returns-in-None-clause-text c = written_other string_bytes c.args.milliseconds _ (to_z-of_z w64 c.args.milliseconds c.ranges.milliseconds) c.format.result c.in-None.ensures.none c.format.ensures.ok

pub returns-in-Some-clause-in_years : goal.returns-in-Some-clause-in_years
returns-in-Some-clause-in_years c = λ h.
    let e = c.rem_euclid.ensures.value in
    civil_reads_back string_bytes c.args.milliseconds _ (to_z-of_z w64 c.args.milliseconds c.ranges.milliseconds) c.write_civil.result _ _ _ _ _ (ap unsigned_abs (to_z-of_z w64 c.rem_euclid.result (record { sfits = c.rem_euclid.type_inv }) ∙ e)) c.in-Some.ensures.some c.write_civil.ensures

pub returns-in-None-clause-in_years : goal.returns-in-None-clause-in_years
returns-in-None-clause-in_years c = λ h.
    absurd (c.in-None.ensures.out (subst IsInYears (sym (to_z-of_z w64 c.args.milliseconds c.ranges.milliseconds)) h))
