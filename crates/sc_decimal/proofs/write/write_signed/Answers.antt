use Rattle.std.proofs.Common.{string_bytes}
use Rattle.std.specs.Fmt.{styled_decimal, format_spec}
use Rattle.sc_decimal.proofs.WrittenLaws.{written_is, padded_is}
use Rattle.sc_decimal.proofs.write.write_signed.Goals as goal

pub returns : goal.returns
returns c =
    written_is string_bytes c.format.result c.args.sign.now c.args.magnitude styled_decimal c.laid_out.result (format_spec 32 0 4 4 18446744073709551615) c.laid_out.ensures padded_is c.format.ensures.ok
