-- `listing::Text::put_decimal` meets its contract: the digits of the tenth part, and the last one.
use Rattle.std.proofs.Common.{◌≡◌, ◌/◌, ◌%◌, arith}
use Rattle.listing.proofs.Spelt.{few}
use Rattle.listing.proofs.Joined.{digit_added, digits_added}
use Rattle.listing.proofs.Text.+put_decimal.Goals as goal

pub returns-then-number-lt10 : goal.returns-then-number-lt10
returns-then-number-lt10 t c =
    let itself : c.args.number % 10 ≡ c.args.number = omega arith in
    digit_added c.args.number c.if-number-lt10.true (rw itself c.put_byte.ensures)

pub put_byte-requires-2 : goal.put_byte-requires-2
put_byte-requires-2 t c =
    let p = c.put_decimal.ensures in
    let most = few 8 (c.args.number / 10) (omega (arith, c.ranges.number.fits)) in
    omega (arith, c.requires, p.put.behind, p.long, most)

pub returns : goal.returns
returns t c = digits_added c.args.number c.ranges.number.fits c.if-number-lt10.false c.put_decimal.ensures c.put_byte-2.ensures
