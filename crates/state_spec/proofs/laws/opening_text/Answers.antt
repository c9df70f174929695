use Rattle.std.proofs.Common.{◌≡◌, ℕ, List, [], ◌∷◌, map, length, rules, length-append, refl, sym, ap, subst}
use Rattle.std.proofs.Common.{◌∙◌, arith}
use Rattle.std.specs.Ordering.{nat_cmp}
use Rattle.std.specs.declared.cmp.Ordering.{Ordering}
use Rattle.std.specs.FinMap as finite
use Rattle.xdr.specs.Item.{Item, Value, Fits, fixed, spelling, number_spelling}
use Rattle.sha2.proofs.Facts256.{length-sha256}
use Rattle.fs_spec.specs.Files.{File}
use Rattle.server_spec.specs.nfs_spec.Opening.{opening_root, opening_hello}
use Rattle.server_spec.proofs.nfs_spec.OpeningFiles.{opening_room, opening_entries}
use Rattle.server_spec.proofs.nfs_spec.OpeningTree.{opening_is_tree}
use Rattle.server_spec.specs.World.{opening_world}
use Rattle.server_spec.proofs.Mounted.{are_mounts}
use Rattle.server_spec.specs.FileItems.{file_item, file_value, file_digest}
use Rattle.state_spec.specs.State.{Idle, ReceivedMessage, SentMessage, received_cmp, opening_server}
use Rattle.state_spec.specs.StateItems.{state_item, received_value, sent_value, state_value}
use Rattle.state_spec.specs.StateText.{said}
use Rattle.state_spec.proofs.Fitting.{words_at}
use Rattle.state_spec.proofs.laws.opening_text.Goals as goal

none : {A : Type 0} (xs : List A) → length xs ≡ 0 → xs ≡ []
none [] h = refl
none (x ∷ xs) h = absurd (omega arith)

nothing : {K X : Type 0} (R : K → K → Ordering) → finite.entries (finite.empty {X = X} {R = R}) ≡ []
nothing {K} {X} R =
    none (finite.entries (finite.empty {X = X} {R = R}))
    (sym (finite.len-entries (finite.empty {X = X} {R = R})) ∙ finite.len-empty R X)

module _ (file : Item) (value : ℕ × File → Value file) where
  -- what a state of these parts says
  parts : List ReceivedMessage → List (ℕ × SentMessage) → List (ℕ × File) → Value (state_item file)
  parts rs ss fs = (
    1,
    (
      1,
      (
        1,
        (
          (0, 0),
          (
            map received_value rs,
            (map sent_value ss, ((0, tt), (3, ([], map value fs)))),
          ),
        ),
      ),
    ),
  )

  opened : state_value file value (opening_server 1)
      ≡ parts [] [] ((1, opening_root) ∷ (2, opening_hello) ∷ [])
  unfolding parts
  opened =
      λ i. parts (map (λ e. e.0) (nothing {X = Unit {0}} received_cmp i))
      (nothing {X = SentMessage} nat_cmp i) (opening_entries 1 i)

opening_fits : Fits (state_item file_item)
    (parts file_item file_value [] [] ((1, opening_root) ∷ (2, opening_hello) ∷ []))
unfolding parts
opening_fits = search rules

said_fits : Fits (state_item file_item) (said (opening_server 1))
said_fits = subst (Fits (state_item file_item)) (sym (opened file_item file_value)) opening_fits

pub returns-clause-is_state : goal.returns-clause-is_state
returns-clause-is_state c = record {
  fsid = refl;
  tree = opening_is_tree 1;
  room = opening_room 1;
  clock = omega arith;
  words = record { fsid = omega arith; files = words_at (opening_world 1) Idle said_fits.1.1.2.1.1.1 };
  seconds = omega arith;
  mounts = are_mounts [] (omega arith) tt tt (λ i j d lt h. absurd (omega (arith, h)));
}

pub returns-clause-text : goal.returns-clause-text
unfolding number_spelling parts
returns-clause-text c = record {
  state = returns-clause-is_state c;
  fits = said_fits;
  spelled = sym (ap (spelling (state_item file_item)) (opened file_item file_value));
}

-- 44 bytes, and two digests
digested : (d e : List ℕ) → length d ≡ 32 → length e ≡ 32
    → length (spelling (state_item (fixed 32))
    (1, (1, (1, ((0, 0), ([], ([], ((0, tt), (3, ([], d ∷ e ∷ [])))))))))) ≡ 108
unfolding number_spelling
digested d e h k = simp length-append (omega arith)

pub returns-clause-digest : goal.returns-clause-digest
unfolding parts file_digest
returns-clause-digest c =
    ap (λ v. length (spelling (state_item (fixed 32)) v)) (opened (fixed 32) file_digest)
    ∙ digested (file_digest (1, opening_root)) (file_digest (2, opening_hello)) (length-sha256 _)
    (length-sha256 _)
