-- The premises of `one_surface` are met by real calls: every accepted selection, of samples of 16 bits, with room for the triangles of the marks that it
-- writes, gives a `Called`, by its answer and buffers and by those of triangles.
use mathlib.Core.Path.{◌≡◌, refl, ◌∙◌}
use mathlib.Core.List.{List}
use Prim.Native.Nat.{ℕ, ◌*◌, ◌≤◌}
use lib.ListN.{length}
use Rattle.grid.specs.Refusal.{accepted}
use Rattle.survey.specs.Rule.{Sixteen}
use Rattle.selection.specs.Selected.{Handed as Surveying, refusal, answer_of, marks_after, heights_after}
use Rattle.selection.proofs.Answered.{answer_refusal}
use Rattle.mesh.specs.Meshed.{handed as drawing, entries_each, needed, answer_of as mesh_answer, places_after}
use Rattle.surface.specs.Surface.{Called}

pub called : (s : Surveying) → refusal s ≡ accepted → Sixteen s.survey → (places : List ℕ) →
    let d = drawing (marks_after s) s.m places in
    entries_each * needed d ≤ length places → Called s (answer_of s) (marks_after s) (heights_after s) places (mesh_answer d) (places_after d)
called s ok small places room = record {
  selects = record { selects = record { answer = refl; marks = refl; heights = refl }; sixteen = λ e. small };
  accepts = answer_refusal s ∙ ok;
  room = room;
  meshes = record { answer = refl; places = refl };
}
