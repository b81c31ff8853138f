-- Places laid one behind the other.
use mathlib.Core.Path.{◌≡◌, refl, ◌∙◌}
use mathlib.Core.List.{List, [], ◌∷◌, ◌++◌}
use Prim.Native.Nat.{ℕ, ◌+◌, ◌≤◌, ◌<◌}
use native.Mathlib.Omega.{arith}
use lib.ListN.{length, length-append, set, length-set}
use Rattle.mesh.specs.Meshed.{written_over}
use Rattle.mesh.proofs.Halves.{put_both, put_over}
use Rattle.strip.specs.Inner.{Laid}

-- one place, where there is room for it, and where there is none
pub laid_one : {buffer : List ℕ} (p at : ℕ) → at < length buffer → Laid (p ∷ []) at buffer (at + 1) (set buffer at p)
laid_one {buffer} p at room =
    record { behind = refl; long = length-set buffer at p; holds = λ all. record { behind = refl; holds = refl } }

pub laid_none : {buffer : List ℕ} (p at : ℕ) → length buffer ≤ at → Laid (p ∷ []) at buffer (at + 1) buffer
laid_none p at full = record { behind = refl; long = refl; holds = λ all. absurd (omega arith) }

-- one list behind the other
pub laid_both : {xs ys buffer between after : List ℕ} {at next last : ℕ} → Laid xs at buffer next between → Laid ys next between last after →
    Laid (xs ++ ys) at buffer last after
laid_both {xs} {ys} p q =
    record {
      behind = omega (arith, p.behind, q.behind, length-append xs ys);
      long = q.long ∙ p.long;
      holds = λ room.
          put_both (p.holds (omega (arith, length-append xs ys))) (q.holds (omega (arith, p.behind, p.long, length-append xs ys)));
    }

-- all of it, from the buffer's beginning
pub laid_over : {list buffer after : List ℕ} {next : ℕ} → Laid list 0 buffer next after → length list ≤ length buffer →
    after ≡ written_over list buffer
laid_over p enough = put_over (p.holds (omega arith)) enough
