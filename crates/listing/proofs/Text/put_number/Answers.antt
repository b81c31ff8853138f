-- `listing::Text::put_number` meets its contract: a byte follows the number's digits.
use Rattle.listing.proofs.Joined.{both_added}
use Rattle.listing.proofs.Text.put_number.Goals as goal

pub returns : goal.returns
returns c = both_added c.put_decimal.ensures c.put_byte.ensures
