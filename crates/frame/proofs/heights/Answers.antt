-- `frame::heights` meets its contract: past the refusals the input has room for the survey's heights, and what is copied is the survey.
use Rattle.std.proofs.Common.{◌≡◌, ◌+◌, ◌*◌, ◌≤◌, ◌<◌, length, sym, ap, ◌∙◌, arith, Ok}
use Rattle.std.proofs.lemmas.Result.{err_from_is_err_and}
use Rattle.grid.specs.Grid.{samples, largest}
use Rattle.grid.specs.Sizes.{size_answer}
use Rattle.grid.specs.declared.sizes.Size.{Size}
use Rattle.grid.proofs.Sized.{given, refused}
use Rattle.frame.specs.Frame.{heights_at, height_bytes, number_of, size_in, answer_of, Handed, handed}
use Rattle.frame.specs.Rule.{Long}
use Rattle.frame.specs.declared.Frame.{Frame}
use Rattle.frame.proofs.Accepted.{accepted_input, answer_short, answer_wrong, answer_long}
use Rattle.frame.proofs.Answered.{frame_is, survey_is, turned_down, surveyed}
use Rattle.frame.proofs.heights.Goals as goal

-- f is what the code was told of the input, and size of the size
module _ (h : Handed) (f : Frame) (e : Ok f ≡ answer_of h.input) where
  input_accepted : number_of (answer_of h.input) ≡ 0
  input_accepted = sym (ap number_of e)

  m_is : f.m ≡ size_in h.input
  m_is = ap (λ (f : Frame). f.m) (frame_is h.input (sym e))

  never_above : largest < f.m → ⊥
  never_above l = omega (arith, l, m_is, (accepted_input h.input input_accepted).small)

  module _ (size : Size) (s : Ok size ≡ size_answer f.m) where
    many : size.samples ≡ samples (size_in h.input)
    many = ap (λ (z : Size). z.samples) (given f.m s).1 ∙ ap samples m_is

    room : length h.survey ≡ size.samples → heights_at + height_bytes * length h.survey ≤ length h.input
    room l = rw (l ∙ many) (omega (arith, (accepted_input h.input input_accepted).long))

pub returns-in_err-frame : goal.returns-in_err-frame
returns-in_err-frame c =
    let h = handed c.args.input.now c.args.survey.now in
    let p = err_from_is_err_and c.from_residual.result c.from_residual.ensures.1 in
    rw (p.1, p.2) (turned_down h (answer_short h (sym c.in_err-frame.ensures)))

pub returns-in_err-size : goal.returns-in_err-size
returns-in_err-size c =
    let h = handed c.args.input.now c.args.survey.now in
    absurd (never_above h c.in_ok-frame.frame c.in_ok-frame.ensures (refused c.in_ok-frame.frame.m c.in_err-size.ensures).0)

pub returns-then-survey-size : goal.returns-then-survey-size
returns-then-survey-size c =
    let h = handed c.args.input.now c.args.survey.now in
    turned_down h
    (answer_wrong h (sym c.in_ok-frame.ensures)
    (λ l. omega (arith, c.if-survey-size.true, l ∙ sym (many h c.in_ok-frame.frame c.in_ok-frame.ensures c.in_ok-size.size c.in_ok-size.ensures))))

pub copy-requires : goal.copy-requires
copy-requires c =
    let h = handed c.args.input.now c.args.survey.now in
    room h c.in_ok-frame.frame c.in_ok-frame.ensures c.in_ok-size.size c.in_ok-size.ensures (omega (arith, c.if-survey-size.false))

pub returns : goal.returns
returns c =
    let h = handed c.args.input.now c.args.survey.now in
    let l : Long h = c.if-survey-size.false ∙ many h c.in_ok-frame.frame c.in_ok-frame.ensures c.in_ok-size.size c.in_ok-size.ensures in
    surveyed h (answer_long h (sym c.in_ok-frame.ensures) l) (survey_is h.input (rw l at c.copy.ensures))
