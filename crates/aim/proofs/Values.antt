-- Values of document 01, computed from the definitions: examples 5 to 9, with the bits of every float; points of sizes 1 and 2 in either
-- starting triangle, on cutting lines and off them, in triangles of either turn, filled, surveyed, and filled with a weight of zero; marks
-- that are not closed; bad marks and voids that are not looked at; and each refusal, with what else was wrong beside it.
use mathlib.Core.Path.{◌≡◌, refl}
use mathlib.Core.List.{List, [], ◌∷◌, ◌++◌, map}
use Prim.Native.Nat.{ℕ, ◌*◌, ◌^◌, ◌<◌}
use native.Mathlib.Omega.{arith}
use lib.IntN.{ℤ, pos, negsuc}
use lib.ListN.{take, replicate}
use lib.Ieee.{to_bits, size, span, climb, odd, units, round}
use Rattle.grid.specs.Grid.{highest, largest, in_quarters, void, place, midpoint}
use Rattle.grid.specs.Points.{is_corner}
use Rattle.survey.specs.Filled.{sample}
use Rattle.aim.specs.Quotient.{format, quotient}
use Rattle.aim.specs.Walk.{start, half, walk, met}
use Rattle.aim.specs.Aimed.{Handed, handed as asked, ended, looked, refusal, weighted, height_in, is_filled}
use Rattle.aim.specs.Aimed.{height_at, eastward, northward, ground_in, plane_at}
use Rattle.aim.proofs.Rule.{kind}

-- the height times 4N is at most 512 · 32767
pub most : in_quarters largest * highest ≡ 16776704
most = refl

pub below : 16776704 < 2 ^ 24
below = omega arith

-- what is answered: the refusal's number; 0, 1 or 2 for a refusal, Surveyed or Filled; and the bits of the floats
abbrev answer : ℕ → ℕ → ℕ → List ℕ
answer n o bits = n ∷ o ∷ bits ∷ []

abbrev plane : ℕ → ℕ → ℕ → ℕ → List ℕ
plane n height east north = n ∷ height ∷ east ∷ north ∷ []

abbrev height_shown : Handed → List ℕ
height_shown h = answer (height_at h).refusal (kind (height_at h).origin) (to_bits format (height_at h).height)

abbrev plane_shown : Handed → List ℕ
plane_shown h =
    plane (plane_at h).refusal (to_bits format (plane_at h).ground.height) (to_bits format (plane_at h).ground.east) (to_bits format (plane_at h).ground.north)

-- Q's marks, by the middle, by the corners, and by the edge point; Q's heights, by the middle
abbrev marked : ℕ → List ℕ
marked middle = 3 ∷ 1 ∷ 3 ∷ 0 ∷ middle ∷ 0 ∷ 3 ∷ 0 ∷ 3 ∷ []

abbrev cornered : ℕ → ℕ → ℕ → ℕ → List ℕ
cornered sw se nw ne = sw ∷ 1 ∷ se ∷ 0 ∷ 2 ∷ 0 ∷ nw ∷ 0 ∷ ne ∷ []

abbrev edged : ℕ → List ℕ
edged south = 3 ∷ south ∷ 3 ∷ 0 ∷ 2 ∷ 0 ∷ 3 ∷ 0 ∷ 3 ∷ []

abbrev only : ℤ → List ℤ
only middle = pos 0 ∷ pos 10 ∷ pos 0 ∷ pos 0 ∷ middle ∷ pos 0 ∷ pos 0 ∷ pos 0 ∷ pos 0 ∷ []

abbrev plain : List ℤ
plain = only (pos 0)

abbrev lost : List ℤ
lost = only void

-- the edge point's height lacking
abbrev lacking : List ℤ
lacking = pos 0 ∷ void ∷ replicate 7 (pos 0)

-- grid Q at a point
abbrev q : ℕ → ℕ → Handed
q x y = asked (marked 2) (plain) 1 x y

-- V, t = 1 (example 8), and V, t = 5 (example 9)
abbrev eight : ℕ → ℕ → Handed
eight x y = asked (3 ∷ 1 ∷ 3 ∷ 1 ∷ 6 ∷ 1 ∷ 3 ∷ 1 ∷ 3 ∷ []) (negsuc 2 ∷ pos 0 ∷ pos 0 ∷ pos 0 ∷ negsuc 3 ∷ pos 0 ∷ pos 0 ∷ pos 0 ∷ negsuc 3 ∷ []) 1 x y

abbrev nine : ℕ → ℕ → Handed
nine x y = asked (3 ∷ 0 ∷ 3 ∷ 0 ∷ 4 ∷ 0 ∷ 3 ∷ 0 ∷ 3 ∷ []) (negsuc 2 ∷ pos 0 ∷ pos 0 ∷ pos 0 ∷ negsuc 3 ∷ pos 0 ∷ pos 0 ∷ pos 0 ∷ negsuc 3 ∷ []) 1 x y

-- example 10
abbrev ten : ℕ → ℕ → Handed
ten x y = asked ((3 ∷ 1 ∷ 2 ∷ 0 ∷ 3 ∷ 0 ∷ 2 ∷ 0 ∷ 0 ∷ 0 ∷ 2 ∷ 0 ∷ 2 ∷ []) ++ (0 ∷ 0 ∷ 0 ∷ 0 ∷ 0 ∷ 0 ∷ 0 ∷ 3 ∷ 0 ∷ 0 ∷ 0 ∷ 3 ∷ [])) (pos 0 ∷ pos 10 ∷ replicate 23 (pos 0)) 2 x y

-- uneven heights of size 2
abbrev uneven : List ℤ
uneven =
    (pos 7 ∷ negsuc 8 ∷ pos 4 ∷ pos 0 ∷ negsuc 1 ∷ pos 5 ∷ pos 11 ∷ pos 3 ∷ negsuc 7 ∷ []) ++ (pos 6 ∷ negsuc 0 ∷ pos 2 ∷ pos 13 ∷ negsuc 3 ∷ pos 9 ∷ pos 10 ∷ negsuc 5 ∷ pos 8 ∷ []) ++ (pos 1 ∷ negsuc 2 ∷ pos 12 ∷ negsuc 6 ∷ negsuc 4 ∷ pos 14 ∷ negsuc 10 ∷ [])

-- every sample kept, the middle a void
abbrev full : ℕ → ℕ → Handed
full x y = asked ((3 ∷ 1 ∷ 1 ∷ 1 ∷ 3 ∷ 1 ∷ 1 ∷ 1 ∷ 1 ∷ 1 ∷ 1 ∷ 1 ∷ 6 ∷ []) ++ (1 ∷ 1 ∷ 1 ∷ 1 ∷ 1 ∷ 1 ∷ 1 ∷ 3 ∷ 1 ∷ 1 ∷ 1 ∷ 3 ∷ [])) (uneven) 2 x y

-- some kept, some of them voids
abbrev mixed : ℕ → ℕ → Handed
mixed x y = asked ((3 ∷ 6 ∷ 1 ∷ 4 ∷ 3 ∷ 0 ∷ 6 ∷ 0 ∷ 2 ∷ 0 ∷ 1 ∷ 0 ∷ 6 ∷ []) ++ (1 ∷ 6 ∷ 4 ∷ 0 ∷ 0 ∷ 2 ∷ 0 ∷ 3 ∷ 0 ∷ 2 ∷ 0 ∷ 3 ∷ [])) (uneven) 2 x y

-- a set that is not closed
abbrev gap : ℕ → ℕ → Handed
gap x y = asked (3 ∷ 1 ∷ 3 ∷ 0 ∷ 0 ∷ 0 ∷ 3 ∷ 0 ∷ 3 ∷ []) (pos 5 ∷ pos 10 ∷ negsuc 5 ∷ pos 0 ∷ pos 0 ∷ pos 0 ∷ pos 9 ∷ pos 0 ∷ negsuc 6 ∷ []) 1 x y

-- bad marks and voids where neither call looks
abbrev stray : ℕ → ℕ → Handed
stray x y = asked (3 ∷ 1 ∷ 3 ∷ 9 ∷ 2 ∷ 255 ∷ 3 ∷ 5 ∷ 3 ∷ []) (pos 0 ∷ pos 10 ∷ pos 0 ∷ void ∷ pos 0 ∷ void ∷ pos 0 ∷ void ∷ void ∷ []) 1 x y

-- examples 5 to 9 among them
abbrev answered : List Handed
answered =
    q 2 0 ∷ q 3 1 ∷ q 8 8 ∷ q 0 0 ∷ q 8 0 ∷ q 0 8 ∷ q 4 4 ∷ q 5 1 ∷ q 7 3 ∷ q 6 7 ∷
    q 1 5 ∷ q 3 6 ∷ eight 4 4 ∷ eight 4 3 ∷ eight 2 0 ∷ eight 4 0 ∷ eight 2 2 ∷ eight 5 7 ∷ nine 4 4 ∷ nine 3 5 ∷
    nine 8 0 ∷ ten 4 0 ∷ ten 5 1 ∷ ten 3 2 ∷ ten 12 12 ∷ ten 2 9 ∷ full 0 0 ∷ full 1 1 ∷ full 3 2 ∷ full 5 6 ∷
    full 6 5 ∷ full 9 14 ∷ full 15 3 ∷ full 16 16 ∷ full 8 8 ∷ full 7 8 ∷ full 10 1 ∷ full 13 13 ∷ mixed 1 0 ∷ mixed 4 4 ∷
    mixed 5 3 ∷ mixed 8 8 ∷ mixed 9 7 ∷ mixed 6 2 ∷ mixed 12 5 ∷ mixed 15 9 ∷ gap 2 0 ∷ gap 3 1 ∷ gap 1 6 ∷ stray 2 0 ∷
    stray 3 1 ∷
    []

pub answered_heights : map height_shown answered
    ≡
    answer 0 1 0x40a00000 ∷ answer 0 1 0x40a00000 ∷ answer 0 1 0x00000000 ∷ answer 0 1 0x00000000 ∷ answer 0 1 0x00000000 ∷
    answer 0 1 0x00000000 ∷ answer 0 1 0x00000000 ∷ answer 0 1 0x40a00000 ∷ answer 0 1 0x00000000 ∷ answer 0 1 0x00000000 ∷
    answer 0 1 0x00000000 ∷ answer 0 1 0x00000000 ∷ answer 0 2 0xc0800000 ∷ answer 0 2 0xc0400000 ∷ answer 0 1 0xbfc00000 ∷
    answer 0 1 0x00000000 ∷ answer 0 2 0xc0600000 ∷ answer 0 2 0xc0000000 ∷ answer 0 1 0xc0600000 ∷ answer 0 1 0xc0280000 ∷
    answer 0 1 0x00000000 ∷ answer 0 1 0x41200000 ∷ answer 0 1 0x40a00000 ∷ answer 0 1 0x40200000 ∷ answer 0 1 0x00000000 ∷
    answer 0 1 0x00000000 ∷ answer 0 1 0x40e00000 ∷ answer 0 1 0x41000000 ∷ answer 0 1 0x40a00000 ∷ answer 0 2 0x41140000 ∷
    answer 0 2 0x41180000 ∷ answer 0 1 0xbe800000 ∷ answer 0 1 0x3f000000 ∷ answer 0 1 0xc1300000 ∷ answer 0 2 0x41500000 ∷
    answer 0 2 0x41240000 ∷ answer 0 1 0x00000000 ∷ answer 0 1 0xc0000000 ∷ answer 0 2 0x40400000 ∷ answer 0 2 0x41300000 ∷
    answer 0 2 0x41140000 ∷ answer 0 2 0x41500000 ∷ answer 0 2 0x40f80000 ∷ answer 0 2 0x40f00000 ∷ answer 0 1 0xc0e00000 ∷
    answer 0 2 0x40e00000 ∷ answer 0 1 0x40100000 ∷ answer 0 1 0x3f400000 ∷ answer 0 1 0x40c00000 ∷ answer 0 1 0x40a00000 ∷
    answer 0 1 0x40a00000 ∷
    []
unfolding height_at is_filled refusal ended looked start half walk met place midpoint is_corner sample quotient round units odd size span climb to_bits weighted height_in
answered_heights = refl

pub answered_planes : map plane_shown answered
    ≡
    plane 0 0x40a00000 0x41200000 0xc1200000 ∷ plane 0 0x40a00000 0x41200000 0xc1200000 ∷ plane 0 0x00000000 0x00000000 0x00000000 ∷
    plane 0 0x00000000 0x41200000 0xc1200000 ∷ plane 0 0x00000000 0xc1200000 0xc1200000 ∷ plane 0 0x00000000 0x00000000 0x00000000 ∷
    plane 0 0x00000000 0x41200000 0xc1200000 ∷ plane 0 0x40a00000 0xc1200000 0xc1200000 ∷ plane 0 0x00000000 0x00000000 0x00000000 ∷
    plane 0 0x00000000 0x00000000 0x00000000 ∷ plane 0 0x00000000 0x00000000 0x00000000 ∷ plane 0 0x00000000 0x00000000 0x00000000 ∷
    plane 0 0xc0800000 0x40400000 0xc0800000 ∷ plane 0 0xc0400000 0x40400000 0xc0800000 ∷ plane 0 0xbfc00000 0x40400000 0xc0800000 ∷
    plane 0 0x00000000 0x40400000 0xc0800000 ∷ plane 0 0xc0600000 0x40400000 0xc0800000 ∷ plane 0 0xc0000000 0xc0800000 0x40800000 ∷
    plane 0 0xc0600000 0x3fc00000 0xc0000000 ∷ plane 0 0xc0280000 0xc0000000 0x3fc00000 ∷ plane 0 0x00000000 0x3fc00000 0xc0000000 ∷
    plane 0 0x41200000 0x41200000 0xc1200000 ∷ plane 0 0x40a00000 0xc1200000 0xc1200000 ∷ plane 0 0x40200000 0x41200000 0xc1200000 ∷
    plane 0 0x00000000 0x00000000 0x00000000 ∷ plane 0 0x00000000 0x00000000 0x00000000 ∷ plane 0 0x40e00000 0xc1800000 0x41a00000 ∷
    plane 0 0x41000000 0xc1800000 0x41a00000 ∷ plane 0 0x40a00000 0xc1800000 0x41a00000 ∷ plane 0 0x41140000 0x41300000 0xc1100000 ∷
    plane 0 0x41180000 0xc1000000 0x41200000 ∷ plane 0 0xbe800000 0xc0e00000 0xc1500000 ∷ plane 0 0x3f000000 0x41600000 0x41000000 ∷
    plane 0 0xc1300000 0xc0800000 0xc1000000 ∷ plane 0 0x41500000 0xc1000000 0x41200000 ∷ plane 0 0x41240000 0x41300000 0xc1000000 ∷
    plane 0 0x00000000 0xc0800000 0xc1000000 ∷ plane 0 0xc0000000 0xc0800000 0xc1000000 ∷ plane 0 0x40400000 0xc1800000 0x41a00000 ∷
    plane 0 0x41300000 0xc1800000 0x41a00000 ∷ plane 0 0x41140000 0x41500000 0x41a00000 ∷ plane 0 0x41500000 0xc0200000 0x40900000 ∷
    plane 0 0x40f80000 0xc1840000 0x40900000 ∷ plane 0 0x40f00000 0x41500000 0x41a00000 ∷ plane 0 0xc0e00000 0x41500000 0x40800000 ∷
    plane 0 0x40e00000 0x41500000 0x40a00000 ∷ plane 0 0x40100000 0xc0b00000 0xbf000000 ∷ plane 0 0x3f400000 0xc0b00000 0xbf000000 ∷
    plane 0 0x40c00000 0xc1000000 0x40000000 ∷ plane 0 0x40a00000 0x41200000 0xc1200000 ∷ plane 0 0x40a00000 0x41200000 0xc1200000 ∷
    []
unfolding plane_at ground_in eastward northward refusal ended looked start half walk met place midpoint is_corner sample quotient round units odd size span climb to_bits weighted height_in
answered_planes = refl

-- Refused: a size that is none; either buffer too short, too long, or of another size; points beyond 4N; bad marks at the first midpoint
-- met, at each grid corner, and at the last midpoint met; a corner that is void, with a weight and without; and of several refusals the
-- first in the order 1, 2, 5, 6, 3
abbrev refused : List Handed
refused =
    asked (marked 2) plain 8 0 0 ∷ asked [] [] 4294967295 9 9 ∷ asked (take 8 (marked 2)) plain 1 0 0 ∷
    asked (marked 2 ++ 0 ∷ []) plain 1 0 0 ∷ asked (marked 2) (take 8 plain) 1 0 0 ∷ asked (marked 2) (plain ++ pos 0 ∷ []) 1 0 0 ∷
    asked (marked 2) plain 2 0 0 ∷ asked [] [] 7 600 0 ∷ q 9 0 ∷
    q 0 9 ∷ q 4294967295 4294967295 ∷ asked (marked 5) plain 1 2 0 ∷
    asked (marked 7) plain 1 2 0 ∷ asked (marked 3) plain 1 2 0 ∷ asked (marked 9) plain 1 2 0 ∷
    asked (marked 255) plain 1 2 0 ∷ asked (cornered 1 3 3 3) plain 1 6 7 ∷ asked (cornered 3 0 3 3) plain 1 1 7 ∷
    asked (cornered 3 3 7 3) plain 1 7 1 ∷ asked (cornered 3 3 3 2) plain 1 1 0 ∷ asked (edged 7) plain 1 2 0 ∷
    asked (edged 5) plain 1 2 1 ∷ asked (marked 2) lost 1 2 0 ∷ asked (marked 2) lost 1 0 0 ∷
    asked (cornered 3 3 3 3) lacking 1 4 0 ∷ asked (take 8 (marked 5)) lost 8 99 99 ∷ asked (take 8 (marked 5)) lost 1 99 99 ∷
    asked (marked 5) lost 1 99 99 ∷ asked (marked 5) lost 1 2 0 ∷ asked (cornered 1 3 3 3) lost 1 2 0 ∷
    []

abbrev numbers : List ℕ
numbers = 1 ∷ 1 ∷ 2 ∷ 2 ∷ 2 ∷ 2 ∷ 2 ∷ 2 ∷ 5 ∷ 5 ∷ 5 ∷ 6 ∷ 6 ∷ 6 ∷ 6 ∷ 6 ∷ 6 ∷ 6 ∷ 6 ∷ 6 ∷ 6 ∷ 6 ∷ 3 ∷ 3 ∷ 3 ∷ 1 ∷ 2 ∷ 5 ∷ 6 ∷ 6 ∷ []

pub refused_heights : map height_shown refused ≡ map (λ n. answer n 0 0) numbers
unfolding height_at is_filled refusal ended looked start half walk met place midpoint is_corner sample quotient round units odd size span climb to_bits weighted height_in
refused_heights = refl

pub refused_planes : map plane_shown refused ≡ map (λ n. plane n 0 0 0) numbers
unfolding plane_at ground_in eastward northward refusal ended looked start half walk met place midpoint is_corner sample quotient round units odd size span climb to_bits weighted height_in
refused_planes = refl
