-- `listing::Text::put_first` meets its contract: the number follows the word.
use native.Mathlib.Omega.{arith}
use Rattle.listing.proofs.Joined.{both_added, more_room}
use Rattle.listing.proofs.Text.put_first.Goals as goal

pub returns : goal.returns
returns c = more_room (omega (arith, c.requires.0)) (both_added c.put.ensures c.put_number.ensures)
