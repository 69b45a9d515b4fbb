use Rattle.std.proofs.Common.{string_bytes, refl}
use Rattle.std.specs.Fmt.{styled_decimal, format_spec}
use Rattle.sc_date_texts.proofs.PaddedLaws.{moment_is, two_is, three_is, four_is}
use Rattle.sc_date_texts.proofs.written.write_moment.Goals as goal

pub returns : goal.returns
returns c =
    moment_is styled_decimal (format_spec 32 0 4 4 18446744073709551615) _ _ four_is two_is three_is string_bytes c.format.result _ _ _ _ c.args.time _ _ _ _
    c.laid_out.ensures c.laid_out-2.ensures c.laid_out-3.ensures c.laid_out-4.ensures c.requires refl refl refl refl c.format.ensures.ok
