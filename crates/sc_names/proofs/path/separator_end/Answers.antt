use Rattle.sc_names.proofs.ScanningLaws.{IsBadAt_colons}
use Rattle.sc_names.proofs.path.separator_end.Goals as goal

pub returns-then-colons-lt2-clause-err : goal.returns-then-colons-lt2-clause-err
returns-then-colons-lt2-clause-err c =
    IsBadAt_colons _ _ _ c.requires.ident c.requires.more c.colons-colons.ensures.value c.if-colons-lt2.true
