use Rattle.sc_lexemes.proofs.KeyLaws.{more_keys}
use Rattle.sc_lexemes.proofs.keys.put_key.Goals as goal

pub returns-clause-keys : goal.returns-clause-keys
returns-clause-keys c = λ fs x k. more_keys c.args.names.now c.insert.new.self c.args.name.now x fs (rw c.in_ok-from_str.ensures at c.in_ok-insert.ensures.updates) k
