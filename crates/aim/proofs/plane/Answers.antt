-- `aim::plane` meets its contract: a refusal as it was found, or the plane of the triangle that was.
use lib.Ieee.{of_bits}
use Rattle.aim.proofs.Answering.{plane_ended, plane_turned}
use Rattle.aim.proofs.plane.Goals as goal

pub returns-in-Ok : goal.returns-in-Ok
returns-in-Ok c = plane_ended c.in-Ok.landing c.in-Ok.ensures c.ground.ensures

pub returns-in-Err : goal.returns-in-Err
unfolding of_bits
returns-in-Err c = plane_turned _ c.in-Err.refusal c.from.ensures c.in-Err.ensures
