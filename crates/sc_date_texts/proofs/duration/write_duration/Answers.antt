use Rattle.std.proofs.Common.{string_bytes, rules}
use Rattle.sc_date_texts.proofs.WrittenLaws.{reads_back}
use Rattle.sc_date_texts.proofs.duration.write_duration.Goals as goal

pub returns-clause-text : goal.returns-clause-text
returns-clause-text c = search rules

pub returns-clause-reads_back : goal.returns-clause-reads_back
returns-clause-reads_back c = reads_back string_bytes c.format.result c.args.d.now (search rules) (returns-clause-text c)
