-- The marks that an accepted selection wrote are good, keep a closed set, and are as many as the samples: of those marks triangles turn
-- down nothing but a buffer too short, and 6N² entries are never too short. By the document's sentences about selection, which any selection meets.
use mathlib.Core.Path.{◌≡◌, refl, sym, ◌∙◌}
use mathlib.Core.List.{List}
use mathlib.Core.Logic.{◌⊎◌, inl, inr}
use Prim.Native.Nat.{ℕ, ◌*◌, ◌≤◌}
use native.Mathlib.Nat.{not-le_of_lt}
use native.Mathlib.Omega.{arith}
use lib.ListN.{length}
use lib.IntN.{ℤ}
use Rattle.grid.specs.Grid.{largest}
use Rattle.grid.specs.Refusal.{accepted, no_room}
use Rattle.grid.specs.Sizes.{size_of}
use Rattle.selection.specs.Selected.{Handed, Selects}
use Rattle.selection.specs.Rule.{Closed}
use Rattle.selection.specs.declared.Selected.{Selected}
use Rattle.selection.proofs.Accepted.{accepted_handed, turned_only as selected_only}
use Rattle.selection.proofs.Rule.{turned_down_lem, selection}
use Rattle.mesh.specs.Closed.{kept_by}
use Rattle.mesh.specs.Meshed.{handed, entries_each, needed, refusal}
use Rattle.mesh.specs.Rule.{Good, Kept, Turned, size, buffer, mark, unclosed, room, nothing}
use Rattle.mesh.proofs.Accepted.{made, turned_only}
use Rattle.mesh.proofs.Numbered.{number_triangles, mesh_most}

module _ {h : Handed} {r : Selected} {marks : List ℕ} {heights : List ℤ} (s : Selects h r marks heights) (ok : r.refusal ≡ accepted)
    (places : List ℕ) where
  selected_small : h.m ≤ largest
  selected_small = (accepted_handed h (sym (selected_only h (turned_down_lem s)) ∙ ok)).small

  selected_good : Good (handed marks h.m places)
  selected_good = (selection s ok).good

  selected_closed : Closed h.m (Kept (handed marks h.m places))
  selected_closed = (selection s ok).least.closed

  -- never 6 or 7, nor 1 or 2
  pub selected_meshed : {n : ℕ} → Turned (handed marks h.m places) n → (n ≡ accepted) ⊎ (n ≡ no_room)
  selected_meshed (size l) = absurd (not-le_of_lt l selected_small)
  selected_meshed (buffer _ other) = absurd (other (selection s ok).long)
  selected_meshed (mark _ _ bad) = absurd (bad selected_good)
  selected_meshed (unclosed _ _ _ gap) = absurd (gap selected_closed)
  selected_meshed (room _ _ _ _ _ _) = inr refl
  selected_meshed (nothing _ _ _ _ _ _) = inl refl

  -- with room for three entries per triangle they are meshed
  pub selected_room : entries_each * needed (handed marks h.m places) ≤ length places → refusal (handed marks h.m places) ≡ accepted
  selected_room fits =
      sym (turned_only (handed marks h.m places) (nothing selected_small (selection s ok).long selected_good selected_closed (made _ selected_closed) fits))

  -- room for the most triangles that a grid of the size has, 2N², is always enough
  pub room_enough : entries_each * (size_of h.m).triangles ≤ length places → entries_each * needed (handed marks h.m places) ≤ length places
  room_enough fits =
      let kept = kept_by h.m marks in
      omega (arith, number_triangles h.m kept selected_closed, mesh_most h.m kept)
