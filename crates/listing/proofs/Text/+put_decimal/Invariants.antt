-- The measure of `listing::Text::put_decimal` is the number, whose tenth part is less.
use Rattle.listing.proofs.Text.+put_decimal.Given as goal

abbrev pub decreases-put_decimal : goal.decreases-put_decimal
decreases-put_decimal l = l.number
