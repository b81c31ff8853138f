-- Values computed from the definitions: the document's own frame, frames of the smallest and of the largest size, each refusal, with what
-- else was wrong beside it, and heights of both signs. So a slip in a definition that no law would notice is noticed here.
use mathlib.Core.Path.{◌≡◌, refl}
use mathlib.Core.List.{List, [], ◌∷◌, ◌++◌, map}
use Prim.Native.Nat.{ℕ}
use lib.ListN.{replicate, take}
use lib.IntN.{ℤ, pos, negsuc}
use Rattle.std.specs.Prelude.{Ok, Err}
use Rattle.grid.specs.declared.refusals.Refusal.TheVariants.{SizeAbove}
use Rattle.grid.specs.Grid.{void, place, point, on_grid}
use Rattle.frame.specs.Bytes.{signed}
use Rattle.frame.specs.Frame.{longest, refusal, answer_of, survey_in, handed, heights_answer, heights_refusal, survey_after}

-- a frame: the last two bytes of its length field, the version, m, and then the tolerance and the heights
abbrev framed : ℕ → ℕ → ℕ → ℕ → List ℕ → List ℕ
framed high low version m rest = 0 ∷ 0 ∷ high ∷ low ∷ version ∷ m ∷ rest

abbrev tolerance : ℕ → List ℕ
tolerance t = 0 ∷ 0 ∷ 0 ∷ t ∷ []

-- heights 0 10 0 / 0 0 0 / 0 0 0
abbrev q : List ℕ
q = 0 ∷ 0 ∷ 0 ∷ 10 ∷ replicate 14 0

-- length 24, version 1, m 1, tolerance 5
abbrev sample : List ℕ
sample = framed 0 24 1 1 (tolerance 5 ++ q)

pub sample_answer : answer_of sample ≡ Ok (record { m = 1; tolerance = 5 })
unfolding answer_of
sample_answer = refl

pub sample_survey : survey_in sample ≡ pos 0 ∷ pos 10 ∷ replicate 7 (pos 0)
unfolding survey_in on_grid place point
sample_survey = refl

-- size 0, every byte of the tolerance and of the heights another, both signs: 513, -2, 32767 and void
abbrev small : List ℕ
small = framed 0 14 1 0 (1 ∷ 2 ∷ 3 ∷ 4 ∷ 2 ∷ 1 ∷ 255 ∷ 254 ∷ 127 ∷ 255 ∷ 128 ∷ 0 ∷ [])

pub small_answer : answer_of small ≡ Ok (record { m = 0; tolerance = 16909060 })
unfolding answer_of
small_answer = refl

pub small_survey : survey_in small ≡ pos 513 ∷ negsuc 1 ∷ pos 32767 ∷ void ∷ []
unfolding survey_in on_grid place point
small_survey = refl

-- 0, the highest, the lowest, -1
pub signs : map signed (0 ∷ 32767 ∷ 32768 ∷ 65535 ∷ []) ≡ pos 0 ∷ pos 32767 ∷ negsuc 32767 ∷ negsuc 0 ∷ []
signs = refl

-- m 5, 1,089 heights: 8 · 256 + 136 bytes follow the length field
pub longest_is : longest ≡ 2188
longest_is = refl

abbrev large : ℕ → List ℕ
large bytes = framed 8 136 1 5 (tolerance 5 ++ replicate bytes 0)

pub large_refusals : refusal (large 2178) ∷ refusal (large 2177) ∷ refusal (large 2179) ∷ refusal (large 5000) ∷ [] ≡ 0 ∷ 9 ∷ 9 ∷ 9 ∷ []
unfolding answer_of
large_refusals = refl

-- Each refusal, a line each: fewer than 6 bytes; another version; m above 5; a byte too few, one too many, only the first six; a length
-- field that is wrong in its last byte, in its third, in its first. Then of several the first in the order of the document: too short with another
-- version; another version with m above 5, and with all else wrong; m above 5 with a total that is wrong; and of an input longer than any
-- frame the version and m
abbrev refused : List (List ℕ)
refused =
    [] ∷ take 5 sample ∷
    framed 0 24 0 1 (tolerance 5 ++ q) ∷ framed 0 24 2 1 (tolerance 5 ++ q) ∷
    framed 33 8 1 6 (tolerance 5 ++ replicate 8450 0) ∷ framed 0 24 1 255 (tolerance 5 ++ q) ∷
    take 27 sample ∷ (sample ++ 0 ∷ []) ∷ take 6 sample ∷
    framed 0 23 1 1 (tolerance 5 ++ q) ∷ framed 1 24 1 1 (tolerance 5 ++ q) ∷ (1 ∷ 0 ∷ 0 ∷ 24 ∷ 1 ∷ 1 ∷ (tolerance 5 ++ q)) ∷
    (0 ∷ 0 ∷ 0 ∷ 0 ∷ 2 ∷ []) ∷
    framed 0 24 2 6 (tolerance 5 ++ q) ∷ framed 0 0 2 6 [] ∷
    framed 0 0 1 6 [] ∷
    framed 0 0 2 1 (replicate 3000 0) ∷ framed 0 0 1 6 (replicate 3000 0) ∷ []

pub refused_numbers : map refusal refused ≡ 9 ∷ 9 ∷ 9 ∷ 9 ∷ 1 ∷ 1 ∷ 9 ∷ 9 ∷ 9 ∷ 9 ∷ 9 ∷ 9 ∷ 9 ∷ 9 ∷ 9 ∷ 1 ∷ 9 ∷ 1 ∷ []
unfolding answer_of
refused_numbers = refl

-- with the refusal nothing is handed back
pub refused_answer : answer_of (framed 0 24 1 6 (tolerance 5 ++ q)) ≡ Err SizeAbove
unfolding answer_of
refused_answer = refl

-- a survey of the right length, too short, too long; and the input's refusal before the survey's
abbrev nines : ℕ → List ℤ
nines n = replicate n (pos 9)

pub survey_numbers : map (λ n. heights_refusal (handed sample (nines n))) (9 ∷ 8 ∷ 10 ∷ 0 ∷ []) ≡ 0 ∷ 2 ∷ 2 ∷ 2 ∷ []
unfolding heights_answer answer_of
survey_numbers = refl

pub survey_later : heights_refusal (handed (take 27 sample) (nines 8)) ≡ 9
unfolding heights_answer answer_of
survey_later = refl

pub surveys_after : map survey_after (handed small (nines 4) ∷ handed small (nines 3) ∷ handed (take 17 small) (nines 4) ∷ [])
    ≡ (pos 513 ∷ negsuc 1 ∷ pos 32767 ∷ void ∷ []) ∷ nines 3 ∷ nines 4 ∷ []
unfolding survey_after heights_answer answer_of survey_in on_grid place point
surveys_after = refl
