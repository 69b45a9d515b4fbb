use Rattle.std.proofs.Common.{string_bytes, rules, arith}
use Rattle.std.proofs.lemmas.Grind.{common_steps}
use Rattle.sc_decimal.proofs.WrittenLaws.{reads_back}
use Rattle.sc_decimal.proofs.write.write_decimal.Goals as goal

pub returns-then-n-lt0-clause-text : goal.returns-then-n-lt0-clause-text
returns-then-n-lt0-clause-text c = search rules

pub returns-else-n-lt0-clause-text : goal.returns-else-n-lt0-clause-text
returns-else-n-lt0-clause-text c = grind (arith, common_steps)

pub returns-then-n-lt0-clause-reads_back : goal.returns-then-n-lt0-clause-reads_back
returns-then-n-lt0-clause-reads_back c = reads_back string_bytes c.write_signed.result c.args.d.now (search rules) (returns-then-n-lt0-clause-text c)

pub returns-else-n-lt0-clause-reads_back : goal.returns-else-n-lt0-clause-reads_back
returns-else-n-lt0-clause-reads_back c =
    reads_back string_bytes c.write_signed-else-n-lt0.result c.args.d.now (search rules) (returns-else-n-lt0-clause-text c)
