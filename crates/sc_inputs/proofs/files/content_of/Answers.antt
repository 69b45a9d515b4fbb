use Rattle.std.proofs.Common.{rules}
use Rattle.sc_inputs.specs.Refusals.{unread, long}
use Rattle.sc_inputs.proofs.files.content_of.Goals as goal

pub returns-in-Err-Failed-clause-fails : goal.returns-in-Err-Failed-clause-fails
returns-in-Err-Failed-clause-fails g c = unread (record { rose = search rules; last = search rules })

pub returns-in-Err-TooLong-clause-fails : goal.returns-in-Err-TooLong-clause-fails
returns-in-Err-TooLong-clause-fails g c = long (search rules)
