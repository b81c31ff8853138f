-- No second answer fits a promise: each is made of equations, so two outcomes are equal to the same third. The promise of height is an equation
-- of what the answer says, and no two answers say the same.
use mathlib.Core.Path.{sym, ◌∙◌}
use Rattle.aim.proofs.Rule.{said_only}
use Rattle.settled.specs.Unique.{NoSecond}

pub no_second : NoSecond
no_second = record {
  size = λ m r r' p q. p ∙ sym q;
  select = λ h r r' marks marks' heights heights' p q. record {
    answers = p.answer ∙ sym q.answer;
    marks_at_exit = p.marks ∙ sym q.marks;
    heights_at_exit = p.heights ∙ sym q.heights;
  };
  triangles = λ h r r' places places' p q. record { answers = p.answer ∙ sym q.answer; places_at_exit = p.places ∙ sym q.places };
  strip = λ h r r' places places' p q. record { answers = p.answer ∙ sym q.answer; places_at_exit = p.places ∙ sym q.places };
  read = λ input r r' p q. p ∙ sym q;
  heights = λ h r r' survey survey' p q. record { answers = p.answer ∙ sym q.answer; survey_at_exit = p.survey ∙ sym q.survey };
  height = λ h r r' p q. said_only r r' (p ∙ sym q);
  plane = λ h r r' p q. p ∙ sym q;
  text = λ input before r r' out out' p q. record { answers = p.answer ∙ sym q.answer; bytes_at_exit = p.written ∙ sym q.written };
  crossing = λ h r r' p q. p ∙ sym q;
}
