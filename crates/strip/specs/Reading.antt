-- How a strip is read, when two lists have the same triangles, and when two triangles are neighbours. Document 02, K1.
-- Definitions only.
use Rattle.std.specs.Prelude.{◌≡◌, Bool, true, false, cond, not, ◌||◌, List, [], ◌∷◌, ◌⊎◌, ◌≢◌, ℕ, eqb, get_or}
use Rattle.strip.specs.Strip.{Corners, corners, has}

-- of three places two are the same
abbrev pub repeated : ℕ → ℕ → ℕ → Bool
repeated p q w = eqb p q || eqb q w || eqb w p

-- three places in a row as a triangle, or turned over
abbrev pub turned : Bool → ℕ → ℕ → ℕ → Corners
turned false p q w = corners p q w
turned true p q w = corners q p w

-- Each three places in a row, every second one turned over, those with a repeated place dropped (and counted: the next is turned over or not by
-- where it stands).
unfoldable pub reading : Bool → List ℕ → List Corners
reading over [] = []
reading over (p ∷ []) = []
reading over (p ∷ q ∷ []) = []
reading over (p ∷ q ∷ w ∷ ps) =
    cond (repeated p q w) (reading (not over) (q ∷ w ∷ ps)) (turned over p q w ∷ reading (not over) (q ∷ w ∷ ps))

-- the first three are not turned over
abbrev pub read_strip : List ℕ → List Corners
read_strip strip = reading false strip

-- the same triangle, turning the same way: begun at one or another of its corners
abbrev pub Alike : Corners → Corners → Type 0
Alike t u =
    (t ≡ u) ⊎ ((t ≡ corners u.second u.third u.first) ⊎ (t ≡ corners u.third u.first u.second))

-- the same triangles in the same order
pub data AllAlike : List Corners → List Corners → Type 0 where
  none : AllAlike [] []
  more : {t u : Corners} {ts us : List Corners} → Alike t u → AllAlike ts us → AllAlike (t ∷ ts) (u ∷ us)

-- the triangles that a plain list of places names, three places each
abbrev pub threes : List ℕ → List Corners
threes [] = []
threes (p ∷ []) = []
threes (p ∷ q ∷ []) = []
threes (p ∷ q ∷ w ∷ ps) = corners p q w ∷ threes ps

-- two triangles share a whole side: two different places are corners of both (that two triangles of a mesh are never the same is mesh's `once`)
pub record Neighbours (t u : Corners) : Type 0 where
  pub one : ℕ
  pub other : ℕ
  pub apart : one ≢ other
  pub one_first : has t one ≡ true
  pub one_second : has u one ≡ true
  pub other_first : has t other ≡ true
  pub other_second : has u other ≡ true

-- triangle i of a list
abbrev pub nth : List Corners → ℕ → Corners
nth ts i = get_or ts i (corners 0 0 0)
