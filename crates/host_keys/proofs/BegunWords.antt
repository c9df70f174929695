-- Lines that say what was begun are lines of words.
use Rattle.std.proofs.Common.{◌≡◌, ◌==◌, ℕ, false, List, arith, codes, refl, rules, ◌≤◌}
use Rattle.std.specs.Char.{digit_value}
use Rattle.std.specs.List.{AllByRecursion}
use Rattle.hex.specs.Hex.{encode_lower, lower_digits}
use Rattle.host_keys.specs.Lines.{IsFree, IsWord}
use Rattle.host_keys.specs.Beginnings.{IsBegun, begun_text, begun_words, digest_word}
use Rattle.host_keys.specs.declared.begun.Begun.{Begun}
use Rattle.host_keys.specs.declared.begun.Begun.TheVariants.{Node, Run}
use Rattle.host_keys.proofs.Lines.{append_is_free, decimal_is_free, hex_is_free, line_is_free}

digest_is_free : (d : ℕ) (digest : List ℕ) → (0 == d) ≡ false → IsFree d (codes "sha256:")
    → IsFree d lower_digits
    → IsFree d (digest_word digest)
digest_is_free d digest z h i =
    append_is_free d (codes "sha256:") (encode_lower digest) h (hex_is_free d digest z i)

-- a byte that is in no word of a line
pub record IsOther (d : ℕ) : Type 0 where
  pub digit : 10 ≤ digit_value d
  pub zero : (0 == d) ≡ false
  pub epoch : IsFree d (codes "epoch")
  pub node : IsFree d (codes "node")
  pub roster : IsFree d (codes "roster")
  pub sha256 : IsFree d (codes "sha256:")
  pub run : IsFree d (codes "run")
  pub hex : IsFree d lower_digits

-- the words that say what was begun have none
begun_is_free : (d : ℕ) (b : Begun) → IsOther d → IsBegun b → AllByRecursion (IsFree d) (begun_words b)
begun_is_free d (Node epoch node roster) o is = (
  o.epoch,
  (
    decimal_is_free d epoch o.digit (omega arith),
    (
      o.node,
      (
        decimal_is_free d node o.digit (omega arith),
        (o.roster, (digest_is_free d roster o.zero o.sha256 o.hex, tt)),
      ),
    ),
  ),
)
begun_is_free d (Run run) o is = (o.run, (decimal_is_free d run o.digit (omega arith), tt))

-- they are words
pub begun_is_words : (b : Begun) → IsBegun b → AllByRecursion IsWord (begun_words b)
begun_is_words b is =
    begun_is_free 32 b (record {
      digit = omega arith;
      zero = refl;
      epoch = search rules;
      node = search rules;
      roster = search rules;
      sha256 = search rules;
      run = search rules;
      hex = search rules;
    }) is

-- and the line has no line feed
pub begun_is_line : (b : Begun) → IsBegun b → IsFree 10 (begun_text b)
begun_is_line b is =
    line_is_free 10 (begun_words b) refl (begun_is_free 10 b (record {
      digit = omega arith;
      zero = refl;
      epoch = search rules;
      node = search rules;
      roster = search rules;
      sha256 = search rules;
      run = search rules;
      hex = search rules;
    }) is)
