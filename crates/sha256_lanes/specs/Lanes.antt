-- Four messages side by side: word i of lane l stands at place 4 * i + l of a list of words.
use Rattle.std.specs.Prelude.{◌≡◌, ◌≢◌, ℕ, ◌+◌, ◌*◌, ◌%◌, ◌<◌, List, length, slice_index}
use Rattle.sha2.specs.Sha256.{add32, round_constants, schedule, word_at}

-- the first t of these 64 words are those of the message schedule of the block b
pub record HasWords (b w : List ℕ) (t : ℕ) : Type 0 where
  pub size : length w ≡ 64
  pub words : (k : ℕ) → k < t → slice_index w k ≡ slice_index (schedule b 48) k

-- b is a block, and the words of lane l are its words
pub record IsBlockOf (b words : List ℕ) (l : ℕ) : Type 0 where
  pub size : length b ≡ 64
  pub each : (k : ℕ) → k < 16 → slice_index words (4 * k + l) ≡ word_at b (4 * k)

-- the words of lane l are the hash value h
abbrev pub IsHashOf : List ℕ → List ℕ → ℕ → Type 0
IsHashOf h words l = (k : ℕ) → k < 8 → slice_index words (4 * k + l) ≡ slice_index h k

-- the words of all other lanes are as before
abbrev pub KeepsOthers : ℕ → List ℕ → List ℕ → Type 0
KeepsOthers l before after = (k : ℕ) → k % 4 ≢ l → slice_index after k ≡ slice_index before k

-- the first n words of lane l are the sums of K t and the words of w
abbrev pub HasSums : List ℕ → List ℕ → ℕ → ℕ → Type 0
HasSums w sums l n = (t : ℕ) → t < n
    → slice_index sums (4 * t + l) ≡ add32 (slice_index round_constants t) (slice_index w t)
