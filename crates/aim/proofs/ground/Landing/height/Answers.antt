-- `aim::ground::Landing::height` meets its contract: a float holds the height times 4N, and 4N, which is 2 to the m + 2.
use Rattle.aim.proofs.Products.{arrives}
use Rattle.aim.proofs.Bits.{weighted_fits}
use Rattle.aim.proofs.ground.Landing.height.Goals as goal

pub quotient-requires : goal.quotient-requires
quotient-requires c =
    rw (arrives c.weighted.result c.weighted.type_inv, c.weighted.ensures, c.in_quarters.ensures)
    (weighted_fits c.args.self.now.grid.sound.small c.args.self.now.footing)
