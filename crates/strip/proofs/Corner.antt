-- A place is a corner of a triangle just where the test says so; and a corner is on the way out just where the next triangle has it.
use mathlib.Core.Path.{◌≡◌}
use mathlib.Core.Bool.{true, false, or_assoc}
use mathlib.Core.Logic.{◌↔◌, ⊎_map}
use Prim.Native.Nat.{ℕ}
use borrow.Author.Tests.{eq-eqb, eqb-true}
use lib.Dec.{eqb}
use Rattle.mesh.proofs.Accepted.{refutes, refuted}
use Rattle.aim.proofs.Either.{any}
use Rattle.strip.specs.Strip.{Corners, has}
use Rattle.strip.specs.Rule.{Corner, OnWay}

pub corner : (t : Corners) (p : ℕ) → (has t p ≡ true) ↔ Corner t p
corner t p =
    let one = any (eqb p t.first) (eqb p t.second) (eqb p t.third) in
    rw or_assoc (
      λ e. ⊎_map (eqb-true p _) (⊎_map (eqb-true p _) (eqb-true p _)) (one.0 e),
      λ c. one.1 (⊎_map (eq-eqb p _) (⊎_map (eq-eqb p _) (eq-eqb p _)) c),
    )

module _ {t : Corners} (next : Corners) {p : ℕ} (here : Corner t p) where
  pub on_way : (has next p ≡ true) ↔ OnWay t next p
  on_way = (λ e. record { here = here; there = (corner next p).0 e }, λ w. (corner next p).1 w.there)

  pub off_way : (has next p ≡ false) ↔ (¬ (OnWay t next p))
  off_way = (refutes on_way, refuted on_way)
