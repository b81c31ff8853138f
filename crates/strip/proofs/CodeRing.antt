-- The whole ring: both starting triangles are passed within bounds, one behind the other.
use mathlib.Core.Path.{◌≡◌, subst}
use mathlib.Core.List.{List, ◌++◌}
use Prim.Native.Nat.{ℕ, ◌+◌, ◌*◌, ◌^◌, ◌≤◌, ◌<◌}
use native.Mathlib.Omega.{arith}
use lib.Pow.{pow_mono}
use lib.ListN.{length}
use Rattle.std.specs.Prelude.{Some, None}
use Rattle.grid.specs.Grid.{side, samples, largest}
use Rattle.mesh.specs.Inner.{Plain, kept_place}
use Rattle.mesh.proofs.Written.{starts}
use Rattle.strip.specs.Inner.{Running, pair, passage, passages_of, ring_of, laid, ran, outset, Laid, Passes, Passable}
use Rattle.strip.specs.declared.ring.Side.TheVariants.{Longest}
use Rattle.strip.specs.declared.ring.Passage.{Passage}
use Rattle.strip.specs.declared.ring.Laying.{Laying}
use Rattle.strip.proofs.CodePassing.{passed_both, ran_at, Bounded, bounded, bounded_both}

-- the starting triangles, n being N
abbrev pub south : ℕ → ℕ → Passage
south m n = passage 0 n (n * (n + 1) + n) (2 * m) None (Some Longest)

abbrev pub north : ℕ → ℕ → Passage
north m n = passage (n * (n + 1) + n) (n * (n + 1)) 0 (2 * m) (Some Longest) None

module _ (m : ℕ) (marks : List ℕ) {n : ℕ} (sided : n ≡ side m) where
  -- behind both: from the first place on, which is the whole ring
  pub round : {g half last : Laying} → pair g ≡ outset → Passes (passages_of marks (south m n)) g half → Passes (passages_of marks (north m n)) half last →
      Laid (laid outset (ring_of (kept_place marks) m)) 0 g.places.now last.at last.places.now
  unfolding ring_of
  round {g} {half} {last} e p q =
      let whole = passed_both (passages_of marks (south m n)) (passages_of marks (north m n)) p q in
      rw (← sided) (subst (λ (s : Running). Laid (laid s (passages_of marks (south m n) ++ passages_of marks (north m n))) s.at g.places.now last.at last.places.now) e whole.laid)

  module _ (plain : Plain marks) (small : m ≤ largest) (long : length marks ≡ samples m) where
    few : 2 ^ (2 * m) ≤ 2 ^ 14
    few = let cuts : 2 * m ≤ 14 = omega arith in pow_mono cuts

    pub south_passable : Passable marks (south m n) outset
    south_passable =
        record {
          corners = rw sided (starts m marks plain small long).0;
          few = omega arith;
          short = omega (arith, few);
        }

    south_bounded : Bounded outset (passages_of marks (south m n)) (3 * 2 ^ (2 * m))
    south_bounded = bounded (kept_place marks) (2 * m) 0 n (n * (n + 1) + n) None (Some Longest) outset

    pub north_passable : Passable marks (north m n) (ran outset (passages_of marks (south m n)))
    north_passable =
        record {
          corners = rw sided (starts m marks plain small long).1;
          few = omega arith;
          short = omega (arith, few, south_bounded, ran_at outset (passages_of marks (south m n)));
        }

    -- and the number of places fits
    pub ring_short : length (laid outset (ring_of (kept_place marks) m)) < 2 ^ 32
    unfolding ring_of
    ring_short =
        let ts = passages_of marks (south m n) in
        let second = bounded (kept_place marks) (2 * m) (n * (n + 1) + n) (n * (n + 1)) 0 (Some Longest) None (ran outset ts) in
        rw (← sided) (omega (arith, few, bounded_both outset ts (passages_of marks (north m n)) south_bounded second))
