-- One surface and exact heights from the contracts of select, triangles, height and plane alone, as the checker has them: select and triangles were
-- accepted, triangles was handed the marks that select wrote, height and plane these and the heights that it wrote, all of one size, at a
-- point of the square. Nothing else is asked.
use mathlib.Core.Path.{◌≡◌, sym, ◌∙◌}
use mathlib.Core.List.{List}
use Prim.Native.Nat.{ℕ, ◌≤◌}
use lib.IntN.{ℤ}
use Rattle.grid.specs.Grid.{in_quarters}
use Rattle.grid.specs.Refusal.{accepted}
use Rattle.selection.specs.declared.Selected.{Selected}
use Rattle.selection.proofs.select.Reads as select
use Rattle.mesh.specs.Meshed.{handed as drawing, refusal, Meshes}
use Rattle.mesh.specs.declared.Meshed.{Meshed}
use Rattle.mesh.proofs.Rule.{follows}
use Rattle.mesh.proofs.Accepted.{turned_only, accepted_handed}
use Rattle.mesh.proofs.triangles.Reads as triangles
use Rattle.aim.specs.Aimed.{handed as asking, AnswersHeight, AnswersPlane}
use Rattle.aim.specs.declared.HeightAnswer.{HeightAnswer}
use Rattle.aim.specs.declared.PlaneAnswer.{PlaneAnswer}
use Rattle.aim.proofs.Rule.{follows_height, follows_plane}
use Rattle.aim.proofs.height.Reads as height
use Rattle.aim.proofs.plane.Reads as plane
use Rattle.surface.specs.Surface.{SurfaceAt, OneSurface}
use Rattle.surface.proofs.Surface.{one_surface}
use Rattle.settled.specs.FourCalls.{FourCalls}

-- a selection, its marks and its heights at exit, and its size
module _ (k : _) (a : _) (s : Selected) (o : _) (selects : select.Learnt k a s o) (selected : s.refusal ≡ accepted) where
  abbrev marks : List ℕ
  marks = o.1.1.1.0.now

  abbrev heights : List ℤ
  heights = o.1.1.1.1.0.now

  abbrev m : ℕ
  m = a.1.0

  -- triangles on these marks
  module _ (k₁ : _) (a₁ : _) (r : Meshed) (o₁ : _) (meshes : triangles.Learnt k₁ a₁ r o₁) (meshed : r.refusal ≡ accepted)
      (drawn : drawing a₁.0.now a₁.1.0 a₁.1.1.0.now ≡ drawing marks m a₁.1.1.0.now) where
    abbrev places : List ℕ
    places = o₁.1.1.0.now

    on_these : Meshes (drawing marks m a₁.1.1.0.now) r places
    on_these = rw drawn at meshes

    given : refusal (drawing marks m a₁.1.1.0.now) ≡ accepted
    given = sym (turned_only (drawing marks m a₁.1.1.0.now) (follows.0 on_these).turned) ∙ meshed

    surface : OneSurface m marks heights r places
    surface =
        one_surface (record {
          selects = selects;
          accepts = selected;
          room = (accepted_handed (drawing marks m a₁.1.1.0.now) given).room;
          meshes = on_these;
        })

    -- height and plane on these marks and heights, at one point of the square
    module _ (x y : ℕ) (east : x ≤ in_quarters m) (north : y ≤ in_quarters m) (k₂ : _) (a₂ : _) (h : HeightAnswer) (o₂ : _)
        (answers : height.Learnt k₂ a₂ h o₂)
        (asked : asking a₂.0.now a₂.1.0.now a₂.1.1.0 a₂.1.1.1.0 a₂.1.1.1.1.0 ≡ asking marks heights m x y)
        (k₃ : _) (a₃ : _) (p : PlaneAnswer) (o₃ : _) (grounds : plane.Learnt k₃ a₃ p o₃)
        (asked_plane : asking a₃.0.now a₃.1.0.now a₃.1.1.0 a₃.1.1.1.0 a₃.1.1.1.1.0 ≡ asking marks heights m x y) where
      here : SurfaceAt (asking marks heights m x y) places r.triangles
      here = surface.everywhere x y east north

      said_here : AnswersHeight (asking marks heights m x y) h
      said_here = rw asked at answers

      plane_here : AnswersPlane (asking marks heights m x y) p
      plane_here = rw asked_plane at grounds

      pub four_calls : FourCalls m marks heights r places x y h p
      four_calls =
          let ok = here.height_accepts h said_here.answer in
          let flat = here.plane_accepts p plane_here.answer in
          record {
            surface = surface;
            height_accepts = ok;
            height = ((follows_height {r = h} said_here.sixteen).0 said_here.answer).answered ok;
            plane_accepts = flat;
            plane = ((follows_plane {r = p} plane_here.sixteen).0 plane_here.answer).answered flat;
            level = here.level h said_here.answer p plane_here.answer;
            covered = here.covered;
            agrees = here.agrees h said_here.answer;
          }
