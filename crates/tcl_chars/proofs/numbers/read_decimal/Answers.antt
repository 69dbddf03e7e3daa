use Rattle.std.proofs.Common.{arith}
use Rattle.std.specs.Str.{chars}
use Rattle.tcl_chars.proofs.Figures.{no_digit_first, more_than_digits, decimal_is, decimal_small, decimal_large}
use Rattle.tcl_chars.proofs.numbers.read_decimal.Goals as goal

pub returns-then-taken-eq0 : goal.returns-then-taken-eq0
returns-then-taken-eq0 c = no_digit_first (chars c.args.text.now) _ c.split_digits-value.ensures.count c.if-taken-eq0.true

pub returns-in-Some : goal.returns-in-Some
returns-in-Some c = more_than_digits (chars c.args.text.now) _ _ _ _ c.split_digits-value.ensures.count c.split_digits-value.ensures.rest c.in-Some.ensures.parts.in_chars

pub returns-then-value-ge9223372036854775808 : goal.returns-then-value-ge9223372036854775808
returns-then-value-ge9223372036854775808 c =
    let d = c.split_digits-value.ensures in
    decimal_large _ _ c.if-value-ge9223372036854775808.true (decimal_is (chars c.args.text.now) _ _ _ d.count c.if-taken-eq0.false d.rest c.in_default.ensures.parts d.value)

pub returns : goal.returns
returns c =
    let d = c.split_digits-value.ensures in
    decimal_small _ _ (omega (arith, c.if-value-ge9223372036854775808.false)) (decimal_is (chars c.args.text.now) _ _ _ d.count c.if-taken-eq0.false d.rest c.in_default.ensures.parts d.value)
