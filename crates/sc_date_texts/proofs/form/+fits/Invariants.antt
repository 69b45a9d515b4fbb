use Rattle.std.proofs.Common.{length}
use Rattle.sc_date_texts.proofs.form.+fits.Given as goal

abbrev pub decreases-fits : goal.decreases-fits
decreases-fits l = length l.pattern.now
