-- No second answer: for the same input, any two outcomes that meet the equations of a public call's promise are the same, the answer and every lent
-- buffer at exit. Document 01, "How tight the promises are". Definitions only.
use Rattle.std.specs.Prelude.{◌≡◌, Result, List, ℕ, ℤ, ⊤}
use Rattle.grid.specs.Sizes.{size_answer}
use Rattle.grid.specs.declared.sizes.Size.{Size}
use Rattle.grid.specs.declared.refusals.Refusal.{Refusal}
use Rattle.selection.specs.Selected.{Handed as Surveying, Selects}
use Rattle.selection.specs.declared.Selected.{Selected}
use Rattle.mesh.specs.Meshed.{Handed as Drawing, Meshes}
use Rattle.mesh.specs.declared.Meshed.{Meshed}
use Rattle.strip.specs.Stripped.{Strips}
use Rattle.strip.specs.declared.Stripped.{Stripped}
use Rattle.frame.specs.Frame.{answer_of, Handed as Reading, Surveys}
use Rattle.frame.specs.declared.Frame.{Frame}
use Rattle.listing.specs.Text.{Prints}
use Rattle.aim.specs.Aimed.{Handed as Asking, said, height_at, plane_at}
use Rattle.aim.specs.declared.HeightAnswer.{HeightAnswer}
use Rattle.aim.specs.declared.PlaneAnswer.{PlaneAnswer}
use Rattle.head.specs.Crossing.{crossed}
use Rattle.head.specs.declared.Crossed.{Crossed}

-- two outcomes of select are the same: the answer, the marks at exit, the heights at exit
pub record SameSelection (r r' : Selected) (marks marks' : List ℕ) (heights heights' : List ℤ) : Type 0 where
  pub answers : r ≡ r'
  pub marks_at_exit : marks ≡ marks'
  pub heights_at_exit : heights ≡ heights'

-- two outcomes of triangles are the same: the answer, the places at exit
pub record SameTriangles (r r' : Meshed) (places places' : List ℕ) : Type 0 where
  pub answers : r ≡ r'
  pub places_at_exit : places ≡ places'

-- two outcomes of the strip are the same: the answer, the places at exit
pub record SameStrip (r r' : Stripped) (places places' : List ℕ) : Type 0 where
  pub answers : r ≡ r'
  pub places_at_exit : places ≡ places'

-- two outcomes of the frame's heights are the same: the answer, the survey at exit
pub record SameSurvey (r r' : Result ⊤ Refusal) (survey survey' : List ℤ) : Type 0 where
  pub answers : r ≡ r'
  pub survey_at_exit : survey ≡ survey'

-- two outcomes of the listing are the same: the number of bytes, the bytes at exit
pub record SameText (r r' : ℕ) (out out' : List ℕ) : Type 0 where
  pub answers : r ≡ r'
  pub bytes_at_exit : out ≡ out'

-- each public call, for everything that it may be handed; C's calls make the same promises, but for a height, which crosses as kind and bits
pub record NoSecond : Type 0 where
  pub size : (m : ℕ) (r r' : Result Size Refusal) → r ≡ size_answer m → r' ≡ size_answer m → r ≡ r'
  pub select : (h : Surveying) (r r' : Selected) (marks marks' : List ℕ) (heights heights' : List ℤ) →
      Selects h r marks heights → Selects h r' marks' heights' → SameSelection r r' marks marks' heights heights'
  pub triangles : (h : Drawing) (r r' : Meshed) (places places' : List ℕ) →
      Meshes h r places → Meshes h r' places' → SameTriangles r r' places places'
  pub strip : (h : Drawing) (r r' : Stripped) (places places' : List ℕ) → Strips h r places → Strips h r' places' → SameStrip r r' places places'
  pub read : (input : List ℕ) (r r' : Result Frame Refusal) → r ≡ answer_of input → r' ≡ answer_of input → r ≡ r'
  pub heights : (h : Reading) (r r' : Result ⊤ Refusal) (survey survey' : List ℤ) →
      Surveys h r survey → Surveys h r' survey' → SameSurvey r r' survey survey'
  pub height : (h : Asking) (r r' : HeightAnswer) → said r ≡ height_at h → said r' ≡ height_at h → r ≡ r'
  pub plane : (h : Asking) (r r' : PlaneAnswer) → r ≡ plane_at h → r' ≡ plane_at h → r ≡ r'
  pub text : (input before : List ℕ) (r r' : ℕ) (out out' : List ℕ) → Prints input before r out → Prints input before r' out' → SameText r r' out out'
  pub crossing : (h : Asking) (r r' : Crossed) → r ≡ crossed (height_at h) → r' ≡ crossed (height_at h) → r ≡ r'
