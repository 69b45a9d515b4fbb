use Rattle.std.proofs.Common.{refl}
use Rattle.sc_parser.proofs.AnnotationLaws.{skipped, no_string, unclosed}
use Rattle.sc_parser.proofs.head.annotation.Goals as goal

pub returns-in_default-string_at-clause-err : goal.returns-in_default-string_at-clause-err
returns-in_default-string_at-clause-err c = no_string c.args.ts.now c.args.cursor.now c.next.result c.next-2.result c.next-3.result _ _ _ _ (record { one = c.next.ensures; two = c.next-2.ensures; three = c.next-3.ensures; four = refl }) c.requires.here c.in-Some.ensures.found.1 c.in-Some-sign_at.ensures.found c.in_default-string_at.ensures.lacks

pub returns-in_default-sign_at-2-clause-err : goal.returns-in_default-sign_at-2-clause-err
returns-in_default-sign_at-2-clause-err c = unclosed c.args.ts.now c.args.cursor.now c.next.result c.next-2.result c.next-3.result c.next-4.result _ _ _ _ _ _ _ (record { one = c.next.ensures; two = c.next-2.ensures; three = c.next-3.ensures; four = c.next-4.ensures }) c.requires.here c.in-Some.ensures.found.1 c.in-Some-sign_at.ensures.found c.in-Some-string_at.ensures.found c.in_default-sign_at-2.ensures.lacks

pub returns-clause-ok : goal.returns-clause-ok
returns-clause-ok c = skipped c.args.ts.now c.args.cursor.now c.next.result c.next-2.result c.next-3.result c.next-4.result c.next-5.result _ _ _ _ _ _ _ _ (record { one = c.next.ensures; two = c.next-2.ensures; three = c.next-3.ensures; four = c.next-4.ensures }) c.requires.here c.in-Some.ensures.found.1 c.in-Some-sign_at.ensures.found c.in-Some-string_at.ensures.found c.in-Some-sign_at-2.ensures.found c.next-5.ensures
