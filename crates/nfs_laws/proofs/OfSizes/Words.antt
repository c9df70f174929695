-- Owners, groups and seconds that are words are words after each call.
-- Serves: `laws::answers_have_a_spelling` (its clause `words`); the laws of nfs_count_laws.
use Rattle.std.proofs.Common.{◌≡◌, ⊎_elim, ℕ, ◌<◌, ◌^◌, Bool, true, false, cond, List, [], length, replicate}
use Rattle.std.proofs.Common.{Option, Some, None, option_map, is_some, refl, sym, subst, ◌∙◌}
use Rattle.std.specs.Prelude.{◌==◌, unwrap_or, nat_lt, if◌then◌else◌}
use Rattle.std.proofs.lemmas.Bool.{cases_eq}
use Rattle.nfs_spec.specs.nfs_items.Timeval.{Timeval}
use Rattle.nfs_spec.specs.nfs_items.Caller.{Caller}
use Rattle.nfs_spec.specs.fs_spec.Listing.{Listing}
use Rattle.nfs_spec.specs.fs_spec.Files.{Body, Regular, Symlink, Directory, File, Files, file_at}
use Rattle.nfs_spec.specs.fs_spec.Files.{directory_entries}
use Rattle.nfs_spec.specs.fs_spec.Files.{names_of}
use Rattle.nfs_spec.proofs.fs_spec.Walks.{none_some, some_same}
use Rattle.nfs_spec.specs.fs_spec.Changes.Edits.{with_changed_file, with_new_file, without_file, with_name}
use Rattle.nfs_spec.specs.fs_spec.Changes.Edits.{without_name, map_listing}
use Rattle.nfs_spec.proofs.fs_spec.OfChanges.Finite.{changed_here, changed_other, gone_here, gone_other}
use Rattle.nfs_spec.proofs.fs_spec.OfChanges.Finite.{new_here, new_other}
use Rattle.nfs_spec.specs.nfs_items.declared.sattr.Sattr.{Sattr}
use Rattle.nfs_spec.specs.Sattr.{GivenFields, given_fields, gives_any, no_fields}
use Rattle.nfs_spec.specs.Changes.{touch, with_mtime, touch_ctime, with_ctime, unlink, apply_fields, new_file}
use Rattle.nfs_spec.specs.Changes.{after_unlink}
use Rattle.nfs_spec.specs.Procedures.{with_bytes_written, add_file, unlink_target, move_entry}
use Rattle.nfs_spec.specs.nfs_types.Calls.{Call}
use Rattle.nfs_spec.specs.NfsCalls.{number_for, call_does}
use Rattle.nfs_laws.specs.Steps.Granted.{SetOk, WriteOk, MakeOk, CreateOk, UnnameOk, RenameOk, new_regular}
use Rattle.nfs_laws.specs.Steps.Granted.{new_directory, new_link}
use Rattle.nfs_laws.proofs.OfSteps.EachCall.{each_call}
use Rattle.nfs_laws.proofs.FilesFit.{unwrapped}
use Rattle.nfs_laws.specs.Sizes.Bounds.{HasWords, AsksWords, SaysWords, HasWordsIn}

-- the attributes of each file are words
abbrev pub AllWords : Files → Type 0
AllWords w = (n : ℕ) (f : File) → file_at w n ≡ Some f → HasWords f

-- ---- changes

changed : (w : Files) (k : ℕ) (change : File → File) → ((f : File) → HasWords f → HasWords (change f))
    → AllWords w → AllWords (with_changed_file w k change)
changed w k change like all n g h = ⊎_elim
    (λ e. by (file_at w k) refl (sym (changed_here w k change n e) ∙ h))
    (λ ne. all n g (sym (changed_other w k change n ne) ∙ h))
    (cases_eq n k)
  where
    by : (o : Option File) → file_at w k ≡ o → option_map change o ≡ Some g → HasWords g
    by None e h = absurd (none_some h)
    by (Some f) e h = subst HasWords (some_same h) (like f (all k f e))

gone : (w : Files) (k : ℕ) → AllWords w → AllWords (without_file w k)
gone w k all n g h = ⊎_elim
    (λ e. absurd (none_some (sym (gone_here w k n e) ∙ h)))
    (λ ne. all n g (sym (gone_other w k n ne) ∙ h))
    (cases_eq n k)

new : (w : Files) (f : File) → HasWords f → AllWords w → AllWords (with_new_file w f)
new w f own all n g h = ⊎_elim
    (λ e. subst HasWords (some_same (sym (new_here w f n e) ∙ h)) own)
    (λ ne. all n g (sym (new_other w f n ne) ∙ h))
    (cases_eq n w.next)

listed : (change : Listing → Listing) (f : File) → HasWords f → HasWords (map_listing change f)
listed change f own =
    record { uid = own.uid; gid = own.gid; atime = own.atime; mtime = own.mtime; ctime = own.ctime }

-- ---- what is asked

record WantsWords (a : GivenFields) : Type 0 where
  uid : (n : ℕ) → a.uid ≡ Some n → n < 2 ^ 32
  gid : (n : ℕ) → a.gid ≡ Some n → n < 2 ^ 32
  atime : (t : Timeval) → a.atime ≡ Some t → t.seconds < 2 ^ 32
  mtime : (t : Timeval) → a.mtime ≡ Some t → t.seconds < 2 ^ 32

none_asked : {A : Type 0} {x : A} → None ≡ Some x → ⊥
none_asked h = cc

word_asked : (b : Bool) (m n : ℕ) → m < 2 ^ 32 → cond b None (Some m) ≡ Some n → n < 2 ^ 32
word_asked true m n lt h = absurd (none_asked h)
word_asked false m n lt h = subst (λ (k : ℕ). k < 2 ^ 32) (some_same h) lt

time_asked : (b c : Bool) (now t u : Timeval) → now.seconds < 2 ^ 32 → t.seconds < 2 ^ 32
    → cond b None (cond c (Some now) (Some t)) ≡ Some u → u.seconds < 2 ^ 32
time_asked true c now t u lt lt' h = absurd (none_asked h)
time_asked false true now t u lt lt' h = subst (λ (v : Timeval). v.seconds < 2 ^ 32) (some_same h) lt
time_asked false false now t u lt lt' h = subst (λ (v : Timeval). v.seconds < 2 ^ 32) (some_same h) lt'

asked : (now : Timeval) (s : Sattr) → now.seconds < 2 ^ 32 → AsksWords s → WantsWords (given_fields now s)
asked now s lt h = record {
  uid = λ n e. word_asked (s.uid == 4294967295) s.uid n h.uid e;
  gid = λ n e. word_asked (s.gid == 4294967295) s.gid n h.gid e;
  atime = λ t e. time_asked (s.atime.seconds == 4294967295)
      (nat_lt 999999 s.atime.microseconds) now s.atime t lt h.atime e;
  mtime = λ t e. time_asked (s.mtime.seconds == 4294967295)
      (nat_lt 999999 s.mtime.microseconds) now s.mtime t lt h.mtime e;
}

none_wanted : WantsWords no_fields
none_wanted =
    record {
      uid = λ n h. absurd (none_asked h);
      gid = λ n h. absurd (none_asked h);
      atime =
          λ t h. absurd (none_asked h);
      mtime = λ t h. absurd (none_asked h);
    }

either : (P : Timeval → Type 0) (b : Bool) (t u : Timeval) → P t → P u → P (cond b t u)
either P true t u p q = p
either P false t u p q = q

one_of : (b : Bool) (m n : ℕ) → m < 2 ^ 32 → n < 2 ^ 32 → cond b m n < 2 ^ 32
one_of true m n p q = p
one_of false m n p q = q

module _ (now : Timeval) (who : Caller) (says : SaysWords who now) where
  IsWord : Timeval → Type 0
  IsWord t = t.seconds < 2 ^ 32

  set_words : (a : GivenFields) → WantsWords a → (f : File) → HasWords f → HasWords (apply_fields now a f)
  unfolding IsWord
  set_words a wants f own = record {
    uid = unwrapped (λ n. n < 2 ^ 32) a.uid f.uid wants.uid own.uid;
    gid = unwrapped (λ n. n < 2 ^ 32) a.gid f.gid wants.gid own.gid;
    atime = unwrapped IsWord a.atime f.atime wants.atime own.atime;
    mtime = unwrapped IsWord a.mtime _ wants.mtime
        (either IsWord (is_some a.size) now f.mtime says.seconds own.mtime);
    ctime = either IsWord (gives_any a) now f.ctime says.seconds own.ctime;
  }

  new_words : (a : GivenFields) → WantsWords a → (mode : ℕ) (body : Body)
      → HasWords (new_file who now a mode body)
  unfolding IsWord
  new_words a wants mode body = record {
    uid = one_of (who.uid == 0) _ who.uid
        (unwrapped (λ n. n < 2 ^ 32) a.uid who.uid wants.uid says.uid) says.uid;
    gid = one_of (who.uid == 0) _ who.gid
        (unwrapped (λ n. n < 2 ^ 32) a.gid who.gid wants.gid says.gid) says.gid;
    atime = unwrapped IsWord a.atime now wants.atime says.seconds;
    mtime = unwrapped IsWord a.mtime now wants.mtime says.seconds;
    ctime = says.seconds;
  }

  touched_words : (f : File) → HasWords f → HasWords (with_mtime now f)
  touched_words f own =
      record { uid = own.uid; gid = own.gid; atime = own.atime; mtime = says.seconds; ctime = says.seconds }

  marked_words : (f : File) → HasWords f → HasWords (with_ctime now f)
  marked_words f own =
      record { uid = own.uid; gid = own.gid; atime = own.atime; mtime = own.mtime; ctime = says.seconds }

  -- times that are words
  pub touch_on : (w : Files) (d : ℕ) → AllWords w → AllWords (touch now w d)
  touch_on w d = changed w d (with_mtime now) touched_words

  -- ctime alone
  pub mark_on : (w : Files) (d : ℕ) → AllWords w → AllWords (touch_ctime now w d)
  mark_on w d = changed w d (with_ctime now) marked_words

  -- a name more
  pub name_on : (w : Files) (d : ℕ) (x : List ℕ) (k : ℕ) → AllWords w → AllWords (with_name w d x k)
  name_on w d x k = changed w d _ (listed _)

  name_off : (w : Files) (d : ℕ) (x : List ℕ) → AllWords w → AllWords (without_name w d x)
  name_off w d x = changed w d _ (listed _)

  -- a name that goes, and what goes with it
  pub unname : (w : Files) (d : ℕ) (x : List ℕ) (k : ℕ) → AllWords w → AllWords (unlink now w d x k)
  unname w d x k all = by (without_name w d x) (names_of (without_name w d x) k == 0) (name_off w d x all)
    where
      by : (v : Files) (b : Bool) → AllWords v → AllWords (after_unlink b now v k)
      by v true = gone v k
      by v false = mark_on v k

  -- a new file with words
  pub make_on : (w : Files) (d : ℕ) (x : List ℕ) (f : File) → HasWords f → AllWords w
      → AllWords (add_file now w d x f)
  make_on w d x f own all =
      touch_on (with_name (with_new_file w f) d x w.next) d
      (name_on (with_new_file w f) d x w.next (new w f own all))

  -- an entry that moves
  pub moved_words : (w : Files) → AllWords w
      → (n from : ℕ) (from_name : List ℕ) (to : ℕ) (to_name : List ℕ) (target : Option ℕ)
      → AllWords (move_entry now w n from from_name to to_name target)
  moved_words w all n from from_name to to_name target =
      let w₁ = unlink_target now w to to_name target in
      let w₂ = without_name w₁ from from_name in
      let w₃ = with_name w₂ to to_name n in
      let w₄ = touch_ctime now w₃ n in
      let w₅ = touch now w₄ from in
      touch_on w₅ to (touch_on w₄ from (mark_on w₃ n
      (name_on w₂ to to_name n (name_off w₁ from from_name (clear target)))))
    where
      clear : (o : Option ℕ) → AllWords (unlink_target now w to to_name o)
      clear None = all
      clear (Some t) = unname w to to_name t all

  rewritten_words : (offset : ℕ) (new old : List ℕ) (f : File) → HasWords f
      → HasWords (with_bytes_written now offset new old f)
  rewritten_words offset new old f own =
      record { uid = own.uid; gid = own.gid; atime = own.atime; mtime = says.seconds; ctime = says.seconds }

  -- ---- each procedure

  module _ (w : Files) (all : AllWords w) where
    of_set : (n : ℕ) (a : GivenFields) → WantsWords a → (after : Files) → SetOk w who now n a after
        → AllWords after
    of_set n a wants after o =
        subst AllWords (sym o.effect) (changed w n (apply_fields now a) (set_words a wants) all)

    of_write : (n offset : ℕ) (new : List ℕ) (after : Files) → WriteOk w who now n offset new after
        → AllWords after
    of_write n offset new after o = subst AllWords (sym o.effect) (by (length new == 0))
      where
        by : (none : Bool)
            → AllWords (if none then w else with_changed_file w n (with_bytes_written now offset new o.old))
        by true = all
        by false = changed w n (with_bytes_written now offset new o.old)
            (rewritten_words offset new o.old) all

    of_make : (dir : ℕ) (name : List ℕ) (f : File) → HasWords f → (number : ℕ) (after : Files)
        → MakeOk w who now dir name f number after → AllWords after
    of_make dir name f own number after o = subst AllWords (sym o.effect) (make_on w dir name f own all)

    of_create : (dir : ℕ) (name : List ℕ) (a : GivenFields) → WantsWords a → (number : ℕ) (after : Files)
        → CreateOk w who now dir name a number after → AllWords after
    of_create dir name a wants number after o = by (directory_entries w dir name) refl
      where
        by : (p : Option (ℕ × ℕ)) → directory_entries w dir name ≡ p → AllWords after
        by None free =
            of_make dir name (new_regular who now a)
            (new_words a wants 420 (Regular (replicate (unwrap_or a.size 0) 0))) number after
            (o.fresh free).make
        by (Some p) at = of_set p.0 a wants after (o.over p.0 p.1 at).set

    of_remove : (kind : Bool) (dir : ℕ) (name : List ℕ) (after : Files)
        → UnnameOk kind w who now dir name after → AllWords after
    of_remove kind dir name after o =
        subst AllWords (sym o.effect)
        (touch_on (unlink now w dir name o.number) dir (unname w dir name o.number all))

    of_rename : (from : ℕ) (from_name : List ℕ) (to : ℕ) (to_name : List ℕ) (after : Files)
        → RenameOk w who now from from_name to to_name after → AllWords after
    of_rename from from_name to to_name after o = ⊎_elim
        (λ same. subst AllWords (sym same.1) all)
        (λ m. subst AllWords (sym m.effect)
        (moved_words w all o.number from from_name to to_name
        (option_map (λ e. e.0) (directory_entries w to to_name))))
        o.outcome

    -- words of files stay words after every call that brings words
    pub of_call : (call : Call) → HasWordsIn call → AllWords (call_does w who now call).1
    of_call = each_call w who now (λ call answer after. HasWordsIn call → AllWords after) (record {
      reads = λ call answer only asks. all;
      refused = λ call answer stat is asks. all;
      set_attributes =
          λ file s a after o _ asks. of_set (number_for w file) (given_fields now s)
          (asked now s says.seconds asks) after o;
      write = λ file offset new a after o _ asks. of_write (number_for w file) offset new after o;
      create = λ dir name s number a after o _ asks.
          of_create (number_for w dir) name (given_fields now s)
          (asked now s says.seconds asks) number after o;
      make_dir = λ dir name s number a after o _ asks.
          of_make (number_for w dir) name (new_directory who now (given_fields now s))
          (new_words (given_fields now s) (asked now s says.seconds asks) 493
          (Directory (record { next = 3; entries = [] }))) number after o;
      symlink = λ dir name target s number after o asks.
          of_make (number_for w dir) name (new_link who now target)
          (new_words no_fields none_wanted 511 (Symlink target)) number after o;
      link = λ from dir name after o asks.
          let n = number_for w from in
          let d = number_for w dir in
          subst AllWords (sym o.effect)
          (touch_on (with_name (touch_ctime now w n) d name n) d
          (name_on (touch_ctime now w n) d name n (mark_on w n all)));
      remove = λ dir name after o asks. of_remove false (number_for w dir) name after o;
      remove_dir = λ dir name after o asks. of_remove true (number_for w dir) name after o;
      rename = λ from from_name to to_name after o asks. of_rename (number_for w from) from_name
          (number_for w to) to_name after o;
    })
