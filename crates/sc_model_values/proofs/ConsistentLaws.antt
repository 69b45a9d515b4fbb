-- The truths of an assignment that falsifies nothing are consistent.
use Rattle.sc_footprint.specs.Theories.{TermsHold}
use Rattle.sc_model_values.specs.Laws.{TruthsAreConsistent, StringsHoldWithoutPatterns}
use Rattle.sc_model_values.proofs.DefinitionTruths.{BitsAreOfAddresses, first_true, as_defined, bits_block}
use Rattle.sc_model_values.proofs.RuleTruths.{rule_holds}
use Rattle.sc_model_values.proofs.StringTruths.{strings_hold}
use Rattle.std.proofs.Common.{Some}

pub truths_are_consistent : TermsHold → BitsAreOfAddresses → TruthsAreConsistent
truths_are_consistent laws bits p m posed nothing = record {
  definitions = as_defined laws bits p posed m nothing;
  addresses = bits_block laws bits p posed m nothing;
  rules = λ parts r. rule_holds laws p posed m nothing (first_true laws bits p posed m nothing) (Some parts) r;
}

pub strings_hold_without_patterns : TermsHold → StringsHoldWithoutPatterns
strings_hold_without_patterns laws p m posed none = strings_hold laws p posed m none
