use Rattle.sc_date_texts.proofs.DurationValueLaws as durations
use Rattle.sc_date_texts.proofs.DatetimeValueLaws as datetimes
use Rattle.sc_date_texts.proofs.CivilLaws.{civil_years}
use Rattle.sc_date_texts.proofs.laws.text_laws.Goals as goal

pub returns : goal.returns
returns c = record {
  durations = λ text z. (durations.value_to text z, durations.value_from text z);
  datetimes = λ text z. (datetimes.value_to text z, datetimes.value_from text z);
  years = civil_years;
}
