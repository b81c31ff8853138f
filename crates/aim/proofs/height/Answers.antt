-- `aim::height` meets its contract: a refusal as it was found, or the height in the triangle that was, by its origin.
use Rattle.aim.proofs.Answering.{sixteen, height_ended, height_turned}
use Rattle.aim.proofs.height.Goals as goal

pub returns-then-filled : goal.returns-then-filled
returns-then-filled c = record {
  answer = height_ended c.in-Ok.landing c.in-Ok.ensures c.height-height.ensures c.if-filled.ensures;
  sixteen = λ ok. sixteen c.in-Ok.landing c.in-Ok.ensures;
}

pub returns-else-filled : goal.returns-else-filled
returns-else-filled c = record {
  answer = height_ended c.in-Ok.landing c.in-Ok.ensures c.height-height.ensures c.if-filled.ensures;
  sixteen = λ ok. sixteen c.in-Ok.landing c.in-Ok.ensures;
}

pub returns-in-Err : goal.returns-in-Err
returns-in-Err c = height_turned _ c.in-Err.refusal c.from.ensures c.in-Err.ensures
