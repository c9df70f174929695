-- Byte i is the one written, else the old one, else zero, of a file after WRITE, SETATTR and CREATE.
-- Serves: bytes_are_what_was_written (changes); calls_change_what_they_name (frames).
use Rattle.std.proofs.Common.{◌≡◌, ◌≢◌, ℕ, ◌+◌, ◌-◌, Bool, true, false, List, [], length, replicate, Some}
use Rattle.std.proofs.Common.{get_or, refl, ap, ◌∙◌, arith}
use Rattle.std.specs.Prelude.{unwrap_or, nat_le, nat_lt, ◌&&◌, if◌then◌else◌}
use Rattle.std.proofs.lemmas.Bool.{leb-true, leb-false, ltb-true, ltb-false}
use Rattle.std.proofs.lemmas.List.{get_or_past}
use Rattle.nfs_spec.specs.nfs_items.Timeval.{Timeval}
use Rattle.nfs_spec.specs.nfs_items.Caller.{Caller}
use Rattle.nfs_spec.specs.fs_spec.Files.{Regular, File, Files, file_at}
use Rattle.nfs_spec.specs.Sattr.{GivenFields}
use Rattle.nfs_spec.specs.Changes.{with_length, body_with_length, with_bytes_at, apply_fields}
use Rattle.nfs_spec.specs.Procedures.{with_bytes_written}
use Rattle.nfs_laws.proofs.Bytes.{length-resized, written_length, resized_byte, byte_before, byte_behind}
use Rattle.nfs_laws.proofs.Bytes.{byte_new}
use Rattle.nfs_laws.specs.Changes.Changed.{Becomes, ChangesBytes, old_byte, IsWritten, IsResized, Makes}
use Rattle.nfs_laws.specs.Steps.Granted.{SetOk, WriteOk, new_regular}
use Rattle.nfs_laws.proofs.OfChanges.NamedFiles.{changed_is, wrote_is}

-- past the end of a list its byte is read as zero
old_is : (old : List ℕ) (i : ℕ) → get_or old i 0 ≡ old_byte old i
old_is old i = by (nat_lt i (length old)) refl
  where
    by : (b : Bool) → nat_lt i (length old) ≡ b → get_or old i 0 ≡ (if b then get_or old i 0 else 0)
    by true is = refl
    by false is = get_or_past old i 0 (ltb-false i (length old) is)

is_written : (offset : ℕ) (new old : List ℕ) → IsWritten offset new old (with_bytes_at offset new old)
is_written offset new old =
    record {
      long = written_length offset new old;
      byte =
          λ i lt. by i (nat_le offset i) refl (nat_lt i (offset + length new)) refl;
    }
  where
    by : (i : ℕ) (a : Bool) → nat_le offset i ≡ a → (b : Bool) → nat_lt i (offset + length new) ≡ b
        → get_or (with_bytes_at offset new old) i 0
        ≡ (if a && b then get_or new (i - offset) 0 else old_byte old i)
    by i false ea b eb = let before = leb-false offset i ea in
        byte_before offset new old i (omega (arith, before)) ∙ old_is old i
    by i true ea false eb = let behind = ltb-false i (offset + length new) eb in
        byte_behind offset new old i (omega (arith, behind)) ∙ old_is old i
    by i true ea true eb =
        let from = leb-true offset i ea in
        let below = ltb-true i (offset + length new) eb in
        let place : i ≡ offset + (i - offset) = omega (arith, from) in
        ap (λ n. get_or (with_bytes_at offset new old) n 0) place
        ∙ byte_new offset new old (i - offset) (omega (arith, from, below))

is_resized : (size : ℕ) (old : List ℕ) → IsResized size old (with_length size old)
is_resized size old =
    record { long = length-resized size old; byte = λ i lt. resized_byte size old i lt ∙ old_is old i }

module _ (w : Files) (who : Caller) (now : Timeval) where
  -- after WRITE of some bytes
  pub wrote_bytes : (n offset : ℕ) (new : List ℕ) → new ≢ [] → (w' : Files)
      → WriteOk w who now n offset new w' → Becomes w w' n (ChangesBytes (IsWritten offset new))
  wrote_bytes n offset new some w' o = record {
    old = o.file;
    new = with_bytes_written now offset new o.old o.file;
    was = o.there;
    is = wrote_is w who now n offset new some w' o;
    change = record {
      before = o.old;
      after = with_bytes_at offset new o.old;
      was = o.regular;
      is =
          refl;
      change = is_written offset new o.old;
    };
  }

  -- after SETATTR with a size
  pub set_bytes : (n size : ℕ) (a : GivenFields) → a.size ≡ Some size → (w' : Files) → SetOk w who now n a w'
      → Becomes w w' n (ChangesBytes (IsResized size))
  set_bytes n size a given w' o =
      let r = o.resize size given in
      record {
        old = o.file;
        new = apply_fields now a o.file;
        was = o.there;
        is = changed_is w who now w' n o.file (apply_fields now a) o.there o.effect;
        change = record {
          before = r.bytes;
          after = with_length size r.bytes;
          was = r.regular;
          is =
              ap (λ s. body_with_length s o.file.body) given ∙ ap (body_with_length (Some size)) r.regular;
          change = is_resized size r.bytes;
        };
      }

  -- after CREATE of a new name with a size
  pub made_bytes : (dir : ℕ) (name : List ℕ) (a : GivenFields) (number size : ℕ) (w' : Files)
      → a.size ≡ Some size → Makes now w w' dir name number (new_regular who now a)
      → (g : File) × (file_at w' number ≡ Some g) × (g.body ≡ Regular (replicate size 0))
  made_bytes dir name a number size w' given m =
      (new_regular who now a, m.made, ap (λ s. Regular (replicate (unwrap_or s 0) 0)) given)
