-- `listing::Text::put_triangle` meets its contract: three numbers in a line.
use Rattle.listing.proofs.Joined.{line_added}
use Rattle.listing.proofs.Text.put_triangle.Goals as goal

pub returns : goal.returns
returns c = line_added c.args.places.now 0 c.from.ensures c.from-2.ensures c.from-3.ensures c.put_number.ensures c.put_number-2.ensures c.put_number-3.ensures
