-- The file number that a handle tells, and that no other bytes tell it.
-- Serves: `laws::handles_tell_numbers`.
use Rattle.std.proofs.Common.{◌≡◌, ℕ, ◌^◌, ◌<◌, Bool, true, false, cond, List, ◌++◌, drop, replicate, Some}
use Rattle.std.proofs.Common.{None, refl, sym, ap, ◌∙◌}
use Rattle.std.specs.Prelude.{◌↔◌, nat_eq}
use Rattle.std.specs.Cmp.Lexicographic.{pointwise}
use Rattle.std.proofs.lemmas.Slice.Eq.{bytes_eq-Decides}
use Rattle.byteorder.specs.Endian.{big_bytes, big_number}
use Rattle.byteorder.specs.Numbers.{big_from-lt, big_number-reads_back}
use Rattle.xdr.specs.Item.{IsBytes}
use Rattle.xdr.proofs.Front.{IsBytes-drop}
use Rattle.nfs_items.specs.Handle.{handle_of, number_in}

-- the number that stands in a handle's second four bytes
number_at : List ℕ → ℕ
number_at handle = big_number 4 (drop 4 handle)

number_at-handle_of : (fsid number : ℕ) → number < 2 ^ 32 → number_at (handle_of fsid number) ≡ number
unfolding number_at handle_of
number_at-handle_of fsid number lt = big_number-reads_back 4 number (replicate 24 0) lt

node_at-handle_of : (fsid number : ℕ) → fsid < 2 ^ 32 → big_number 4 (handle_of fsid number) ≡ fsid
unfolding handle_of
node_at-handle_of fsid number lt = big_number-reads_back 4 fsid (big_bytes 4 number ++ replicate 24 0) lt

-- a handle tells the number that it was made of
pub number_in-handle_of : (fsid number : ℕ) → number < 2 ^ 32
    → number_in fsid (handle_of fsid number) ≡ Some number
unfolding number_in number_at
number_in-handle_of fsid number lt =
    let there : number_at (handle_of fsid number) ≡ number = number_at-handle_of fsid number lt in
    let same : pointwise nat_eq (handle_of fsid number) (handle_of fsid number) ≡ true =
    (bytes_eq-Decides (handle_of fsid number) (handle_of fsid number)).1 refl in
    rw (there, same) refl

test_passed : (test : Bool) (m n : ℕ) → cond test (Some m) None ≡ Some n → (test ≡ true) × (m ≡ n)
test_passed true m n e = (refl, cc)
test_passed false m n e = absurd cc

-- bytes tell a number exactly where they are its handle
pub number_in-is : (fsid number : ℕ) (handle : List ℕ) → IsBytes handle
    → (number_in fsid handle ≡ Some number) ↔ ((number < 2 ^ 32) × (handle ≡ handle_of fsid number))
unfolding number_in number_at
number_in-is fsid number handle bound = (
  (λ e.
      let p = test_passed (pointwise nat_eq handle (handle_of fsid (number_at handle)))
      (number_at handle) number e in
      let whole : handle ≡ handle_of fsid (number_at handle) =
      (bytes_eq-Decides handle (handle_of fsid (number_at handle))).0 p.0 in
      let small : number_at handle < 2 ^ 32 = big_from-lt 0 4 (drop 4 handle) (IsBytes-drop 4 handle bound) in
      (rw (← p.1) small, rw (← p.1) whole)),
  (λ h. rw (h.1) (number_in-handle_of fsid number h.0)),
)

-- one handle is of one file on one node
pub handle_of-same : (fsid number other_fsid other : ℕ) → fsid < 2 ^ 32 → number < 2 ^ 32
    → other_fsid < 2 ^ 32 → other < 2 ^ 32
    → handle_of fsid number ≡ handle_of other_fsid other → (fsid ≡ other_fsid) × (number ≡ other)
handle_of-same fsid number other_fsid other f n g o e = (
  sym (node_at-handle_of fsid number f) ∙ ap (big_number 4) e ∙ node_at-handle_of other_fsid other g,
  sym (number_at-handle_of fsid number n) ∙ ap number_at e ∙ number_at-handle_of other_fsid other o,
)
