-- `listing::mesh_of` meets its contract: the three buffers lent hold as many entries as an accepted frame has samples, and what each call is
-- handed is what the one before it wrote.
use Rattle.std.proofs.Common.{◌≡◌, List, ℕ, ℤ, ◌≤◌, length, sym, ap, ◌∙◌, arith, Ok, Err, Result, take, refl}
use Rattle.std.specs.Bool.{⊤}
use Rattle.std.proofs.lemmas.Result.{err_from_is_err_and}
use lib.Seq.{length-take-le}
use Rattle.grid.specs.Grid.{samples}
use Rattle.grid.specs.Sizes.{size_answer}
use Rattle.grid.specs.declared.refusals.Refusal.{Refusal}
use Rattle.grid.specs.declared.sizes.Size.{Size}
use Rattle.grid.proofs.Sized.{given, refused}
use Rattle.frame.specs.Frame.{largest_framed, number_of, survey_in, answer_of, handed, heights_answer, Surveys}
use Rattle.frame.specs.declared.Frame.{Frame}
use Rattle.frame.proofs.Accepted.{accepted_input, answer_long}
use Rattle.frame.proofs.Answered.{survey_taken}
use Rattle.frame.proofs.Seen.{total_most}
use Rattle.listing.proofs.Steps.{input_refused, size, refused_in, meshed_in}
use Rattle.listing.proofs.mesh_of.Goals as goal

-- f is what the code was told of the input, and z of the size
module _ (input : List ℕ) (f : Frame) (e : Ok f ≡ answer_of input) where
  small : f.m ≤ largest_framed
  small = rw (size input (sym e)) (accepted_input input (sym (ap number_of e))).small

  module _ (z : Size) (s : Ok z ≡ size_answer f.m) where
    many : z.samples ≡ samples f.m
    many = ap (λ (z : Size). z.samples) (given f.m s).1

    fits : z.samples ≤ 1089
    fits = omega (arith, many, total_most small)

    -- a buffer cut to as many entries has them
    cut : {A : Type 0} (buffer : List A) → length buffer ≡ 1089 → length (take z.samples buffer) ≡ z.samples
    cut buffer l = length-take-le z.samples buffer (omega (arith, fits, l))

    module _ (survey : List ℤ) (long : length survey ≡ z.samples) where
      taken : heights_answer (handed input survey) ≡ Ok tt
      taken = answer_long (handed input survey) (sym e) (long ∙ many ∙ ap samples (size input (sym e)))

      never_short : {r : Refusal} → Err r ≡ heights_answer (handed input survey) → ⊥
      never_short {r} k = let bad : Err r ≡ Ok tt = k ∙ taken in cc

      surveyed : {r : Result ⊤ Refusal} {survey' : List ℤ} → Surveys (handed input survey) r survey' → survey' ≡ survey_in input
      surveyed s = s.survey ∙ survey_taken (handed input survey) (ap number_of taken)

pub returns-in_err-frame : goal.returns-in_err-frame
returns-in_err-frame c =
    let p = err_from_is_err_and c.from_residual.result c.from_residual.ensures.1 in
    rw (p.1, p.2) (input_refused c.args.input.now c.args.places.now (sym c.in_err-frame.ensures))

pub returns-in_err-n : goal.returns-in_err-n
returns-in_err-n c =
    let l = (refused c.in_ok-frame.frame.m c.in_err-n.ensures).0 in
    absurd (omega (arith, l, small c.args.input.now c.in_ok-frame.frame c.in_ok-frame.ensures))

pub slice_bounds-survey-end : goal.slice_bounds-survey-end
slice_bounds-survey-end c = fits c.args.input.now c.in_ok-frame.frame c.in_ok-frame.ensures c.in_ok-n.field-0 c.in_ok-n.ensures

pub slice_bounds-marks-end : goal.slice_bounds-marks-end
slice_bounds-marks-end c = fits c.args.input.now c.in_ok-frame.frame c.in_ok-frame.ensures c.in_ok-n.field-0 c.in_ok-n.ensures

pub slice_bounds-heights-end : goal.slice_bounds-heights-end
slice_bounds-heights-end c = fits c.args.input.now c.in_ok-frame.frame c.in_ok-frame.ensures c.in_ok-n.field-0 c.in_ok-n.ensures

pub slice_bounds-survey-end-2 : goal.slice_bounds-survey-end-2
slice_bounds-survey-end-2 c = sym (cut c.args.input.now c.in_ok-frame.frame c.in_ok-frame.ensures c.in_ok-n.field-0 c.in_ok-n.ensures _ refl)

pub slice_bounds-marks-end-2 : goal.slice_bounds-marks-end-2
slice_bounds-marks-end-2 c = sym (cut c.args.input.now c.in_ok-frame.frame c.in_ok-frame.ensures c.in_ok-n.field-0 c.in_ok-n.ensures _ refl)

pub slice_bounds-heights-end-2 : goal.slice_bounds-heights-end-2
slice_bounds-heights-end-2 c = sym (cut c.args.input.now c.in_ok-frame.frame c.in_ok-frame.ensures c.in_ok-n.field-0 c.in_ok-n.ensures _ refl)

pub returns-in_err-heights : goal.returns-in_err-heights
returns-in_err-heights c =
    let input = c.args.input.now in
    let f = c.in_ok-frame.frame in
    let e = c.in_ok-frame.ensures in
    let z = c.in_ok-n.field-0 in
    let s = c.in_ok-n.ensures in
    absurd (never_short input f e z s _ (cut input f e z s _ refl) c.in_err-heights.ensures.answer)

pub returns-then-selected-ne-ACCEPTED : goal.returns-then-selected-ne-ACCEPTED
returns-then-selected-ne-ACCEPTED c =
    let input = c.args.input.now in
    let f = c.in_ok-frame.frame in
    let e = c.in_ok-frame.ensures in
    let z = c.in_ok-n.field-0 in
    let s = c.in_ok-n.ensures in
    refused_in input (sym e) (surveyed input f e z s _ (cut input f e z s _ refl) c.heights.ensures) _ _
    (cut input f e z s _ refl ∙ many input f e z s) (cut input f e z s _ refl ∙ many input f e z s)
    c.select-selected.ensures.selects c.args.places.now c.if-selected-ne-ACCEPTED.true

pub returns : goal.returns
returns c =
    let input = c.args.input.now in
    let f = c.in_ok-frame.frame in
    let e = c.in_ok-frame.ensures in
    let z = c.in_ok-n.field-0 in
    let s = c.in_ok-n.ensures in
    (meshed_in input (sym e) (surveyed input f e z s _ (cut input f e z s _ refl) c.heights.ensures) _ _
    (cut input f e z s _ refl ∙ many input f e z s) (cut input f e z s _ refl ∙ many input f e z s)
    c.select-selected.ensures.selects c.if-selected-ne-ACCEPTED.false c.args.places.now c.requires c.triangles-meshed.ensures).1
