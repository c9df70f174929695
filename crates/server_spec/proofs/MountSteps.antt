-- What each call leaves mounted, and which answers MNT has.
-- Serves: the laws.
use Rattle.std.proofs.Common.{◌≡◌, ◌≢◌, ℕ, ◌≤◌, Bool, true, false, cond, not, ◌&&◌, ◌||◌, List, [], ◌∷◌, ◌++◌}
use Rattle.std.proofs.Common.{length, Option, Some, None, Ok, Err, refl, sym, ap, ◌∙◌}
use Rattle.std.specs.Prelude.{IsTrue, nat_lt, is_some, if◌then◌else◌}
use Rattle.std.specs.List.{filter, list_any}
use Rattle.std.specs.Str.{bytes_eq}
use Rattle.std.proofs.lemmas.Bool.{ltb-true}
use Rattle.std.proofs.lemmas.Slice.Eq.{bytes_eq-Decides}
use Rattle.mount_types.specs.nfs_items.Handle.{FileHandle}
use Rattle.mount_types.specs.nfs_items.Caller.{Caller}
use Rattle.mount_types.specs.nfs_items.Terms.{Name}
use Rattle.mount_types.specs.nfs_items.declared.stat.Stat.TheVariants.{NoEnt, Acces, NoSpc}
use Rattle.nfs_laws.specs.fs_spec.Files.{Files, directory_entries}
use Rattle.nfs_laws.specs.fs_spec.Paths.{path_at}
use Rattle.mount_types.specs.Calls as calls
use Rattle.mount_types.specs.Calls.{HostName, DirPath, Mount, MountCall, MountAnswer}
use Rattle.mount_types.specs.Mounts.{Mounts, max_mounts, root_of, same_mount, is_listed, without_mount}
use Rattle.mount_types.specs.Mounts.{without_host, AreMounts}
use Rattle.server_spec.specs.Paths.{names_on}
use Rattle.server_spec.specs.Walks.{is_root}
use Rattle.server_spec.specs.MountCalls.{host_of, root_handle, mount_at, unmount_at, mount_does}
use Rattle.server_spec.proofs.Listed.{mounts_filtered, mounts_pushed}

-- ---- the mounts stay a list of mounts

module _ (fs : Files) (mounts : Mounts) (host : HostName) where
  -- what MNT of the root does, by whether it is listed and whether there is room
  abbrev root_by : Bool → Bool → MountAnswer × Mounts
  root_by listed room =
      if listed then (root_handle fs, mounts)
      else (if room then (root_handle fs, mounts ++ root_of host ∷ []) else
      (calls.Mounted (Err NoSpc), mounts))

  module _ (are : AreMounts mounts) (short : length host ≤ 255) where
    root_kept : (listed : Bool) → is_listed mounts (root_of host) ≡ listed → (room : Bool)
        → nat_lt (length mounts) max_mounts ≡ room
        → AreMounts (root_by listed room).1
    root_kept true is room fits = are
    root_kept false is true fits = mounts_pushed mounts host are short is (ltb-true _ _ fits)
    root_kept false is false fits = are

    mount_kept : (names : Option (List Name)) → AreMounts (mount_at fs mounts host names).1
    mount_kept None = are
    mount_kept (Some []) =
        root_kept (is_listed mounts (root_of host)) refl (nat_lt (length mounts) max_mounts) refl
    mount_kept (Some (name ∷ names)) = are

    unmount_kept : (names : Option (List Name)) → AreMounts (unmount_at mounts host names)
    unmount_kept None = are
    unmount_kept (Some []) = mounts_filtered _ mounts are
    unmount_kept (Some (name ∷ names)) = are

  -- ---- the answers to MNT

  -- what holds of the root's handle and of each refusal
  pub mount_answers : (P : MountAnswer → Type 0) → P (root_handle fs) → P (calls.Mounted (Err NoEnt))
      → P (calls.Mounted (Err Acces)) → P (calls.Mounted (Err NoSpc))
      → (names : Option (List Name)) → P (mount_at fs mounts host names).0
  mount_answers P root absent there full None = absent
  mount_answers P root absent there full (Some []) =
      chosen (is_listed mounts (root_of host)) (nat_lt (length mounts) max_mounts)
    where
      chosen : (listed room : Bool)
          → P (root_by listed room).0
      chosen true room = root
      chosen false true = root
      chosen false false = full
  mount_answers P root absent there full (Some (name ∷ names)) =
      chosen (is_some (path_at (directory_entries fs) (name ∷ names)))
    where
      chosen : (b : Bool) → P (calls.Mounted (Err (if b then Acces else NoEnt)))
      chosen true = there
      chosen false = absent

-- each call keeps a list of mounts
pub mounts_kept : (fs : Files) (mounts : Mounts) (who : Caller) (call : MountCall) → AreMounts mounts
    → length (host_of who) ≤ 255 → AreMounts (mount_does fs mounts who call).1
mounts_kept fs mounts who calls.Null are short = are
mounts_kept fs mounts who (calls.Mnt path) are short =
    mount_kept fs mounts (host_of who) are short (names_on path)
mounts_kept fs mounts who calls.Dump are short = are
mounts_kept fs mounts who (calls.Umnt path) are short =
    unmount_kept fs mounts (host_of who) are short (names_on path)
mounts_kept fs mounts who calls.Umntall are short = mounts_filtered _ mounts are
mounts_kept fs mounts who calls.Export are short = are

-- ---- whose mounts change

-- what is listed among mounts and one more
any_pushed : {A : Type 0} (test : A → Bool) (xs : List A) (x : A)
    → list_any test (xs ++ x ∷ []) ≡ (list_any test xs || test x)
any_pushed test [] x = or_false (test x)
  where
    or_false : (b : Bool) → (b || false) ≡ b
    or_false true = refl
    or_false false = refl
any_pushed test (y ∷ ys) x =
    ap (λ (b : Bool). test y || b) (any_pushed test ys x) ∙ regroup (test y) (list_any test ys) (test x)
  where
    regroup : (a b c : Bool) → (a || (b || c)) ≡ ((a || b) || c)
    regroup true b c = refl
    regroup false b c = refl

-- what a filter keeps all of
any_filtered : {A : Type 0} (test keep : A → Bool) → ((x : A) → keep x ≡ false → test x ≡ false)
    → (xs : List A) → list_any test (filter keep xs) ≡ list_any test xs
any_filtered test keep apart [] = refl
any_filtered test keep apart (x ∷ xs) = chosen (keep x) refl (any_filtered test keep apart xs)
  where
    chosen : (b : Bool) → keep x ≡ b → list_any test (filter keep xs) ≡ list_any test xs
        → list_any test (cond b (x ∷ filter keep xs) (filter keep xs)) ≡ (test x || list_any test xs)
    chosen true is rest = ap (λ (b : Bool). test x || b) rest
    chosen false is rest = rest ∙ ap (λ (b : Bool). b || list_any test xs) (sym (apart x is))

-- what a filter keeps none of
none_filtered : {A : Type 0} (test keep : A → Bool) → ((x : A) → keep x ≡ true → test x ≡ false)
    → (xs : List A) → list_any test (filter keep xs) ≡ false
none_filtered test keep apart [] = refl
none_filtered test keep apart (x ∷ xs) = chosen (keep x) refl (none_filtered test keep apart xs)
  where
    chosen : (b : Bool) → keep x ≡ b → list_any test (filter keep xs) ≡ false
        → list_any test (cond b (x ∷ filter keep xs) (filter keep xs)) ≡ false
    chosen true is rest = ap (λ (b : Bool). b || list_any test (filter keep xs)) (apart x is) ∙ rest
    chosen false is rest = rest

-- one machine's name isn't another's
other_name : (a b c : List ℕ) → a ≢ b → bytes_eq b c ≡ true → bytes_eq a c ≡ false
other_name a b c other same = chosen (bytes_eq a c) refl
  where
    chosen : (t : Bool) → bytes_eq a c ≡ t → t ≡ false
    chosen true is = absurd (other ((bytes_eq-Decides a c).0 is ∙ sym ((bytes_eq-Decides b c).0 same)))
    chosen false is = refl

not_true : (b : Bool) → not b ≡ false → b ≡ true
not_true true h = refl
not_true false h = sym h

not_false : (b : Bool) → not b ≡ true → b ≡ false
not_false true h = sym h
not_false false h = refl

first_true : (a b : Bool) → (a && b) ≡ true → a ≡ true
first_true true b h = refl
first_true false b h = h

second_lost : (a b : Bool) → a ≡ false → (a && b) ≡ false
second_lost a b h = ap (λ (c : Bool). c && b) h

module _ (fs : Files) (mounts : Mounts) (host : HostName) where
  module _ (other : HostName) (apart : other ≢ host) where
    -- another machine's mount isn't this machine's
    not_this : (m : Mount) → bytes_eq host m.0 ≡ true → same_mount (root_of other) m ≡ false
    not_this m h = second_lost (bytes_eq other m.0) _ (other_name other host m.0 apart h)

    mount_others : (names : Option (List Name))
        → is_listed (mount_at fs mounts host names).1 (root_of other) ≡ is_listed mounts (root_of other)
    mount_others None = refl
    mount_others (Some []) = chosen (is_listed mounts (root_of host)) (nat_lt (length mounts) max_mounts)
      where
        same : bytes_eq host host ≡ true
        same = (bytes_eq-Decides host host).1 refl

        or_false : (a b : Bool) → b ≡ false → (a || b) ≡ a
        or_false true b h = refl
        or_false false b h = h

        chosen : (listed room : Bool)
            → is_listed (root_by fs mounts host listed room).1 (root_of other)
            ≡ is_listed mounts (root_of other)
        chosen true room = refl
        chosen false true =
            any_pushed (same_mount (root_of other)) mounts (root_of host)
            ∙ or_false (is_listed mounts (root_of other)) _ (not_this (root_of host) same)
        chosen false false = refl
    mount_others (Some (name ∷ names)) = refl

    without_mount_others : is_listed (without_mount mounts (root_of host)) (root_of other)
        ≡ is_listed mounts (root_of other)
    without_mount_others =
        any_filtered (same_mount (root_of other)) (λ m. not (same_mount (root_of host) m))
        (λ m h. not_this m (first_true (bytes_eq host m.0) _ (not_true (same_mount (root_of host) m) h)))
        mounts

    unmount_others : (names : Option (List Name))
        → is_listed (unmount_at mounts host names) (root_of other) ≡ is_listed mounts (root_of other)
    unmount_others None = refl
    unmount_others (Some []) = without_mount_others
    unmount_others (Some (name ∷ names)) = refl

    without_host_others : is_listed (without_host mounts host) (root_of other)
        ≡ is_listed mounts (root_of other)
    without_host_others =
        any_filtered (same_mount (root_of other)) (λ m. not (bytes_eq host m.0))
        (λ m h. not_this m (not_true (bytes_eq host m.0) h)) mounts

  -- a machine that got a handle has the root mounted
  pub has_mounted : (names : Option (List Name)) (handle : FileHandle)
      → (mount_at fs mounts host names).0 ≡ calls.Mounted (Ok handle)
      → is_listed (mount_at fs mounts host names).1 (root_of host) ≡ true
  has_mounted None handle given = absurd cc
  has_mounted (Some []) handle given =
      chosen (is_listed mounts (root_of host)) refl (nat_lt (length mounts) max_mounts) given
    where
      same : same_mount (root_of host) (root_of host) ≡ true
      same = ap (λ (b : Bool). b && true) ((bytes_eq-Decides host host).1 refl)

      or_true : (a b : Bool) → b ≡ true → (a || b) ≡ true
      or_true true b h = refl
      or_true false b h = h

      chosen : (listed : Bool) → is_listed mounts (root_of host) ≡ listed → (room : Bool)
          → (root_by fs mounts host listed room).0 ≡ calls.Mounted (Ok handle)
          → is_listed (root_by fs mounts host listed room).1 (root_of host) ≡ true
      chosen true is room given = is
      chosen false is true given =
          any_pushed (same_mount (root_of host)) mounts (root_of host)
          ∙ or_true (is_listed mounts (root_of host)) _ same
      chosen false is false given = absurd cc
  has_mounted (Some (name ∷ names)) handle given = absurd cc

  -- one that unmounted the root hasn't
  pub has_unmounted : (names : Option (List Name)) → IsTrue (is_root names)
      → is_listed (unmount_at mounts host names) (root_of host) ≡ false
  has_unmounted None root = absurd cc
  has_unmounted (Some []) root =
      none_filtered (same_mount (root_of host)) (λ m. not (same_mount (root_of host) m))
      (λ m h. not_false (same_mount (root_of host) m) h) mounts
  has_unmounted (Some (name ∷ names)) root = absurd cc

  -- nor one that unmounted all
  pub has_unmounted_all : is_listed (without_host mounts host) (root_of host) ≡ false
  has_unmounted_all =
      none_filtered (same_mount (root_of host)) (λ m. not (bytes_eq host m.0))
      (λ m h. second_lost (bytes_eq host m.0) _ (not_false (bytes_eq host m.0) h)) mounts

-- other machines keep what they have mounted
pub others_stay : (fs : Files) (mounts : Mounts) (who : Caller) (call : MountCall) (host : HostName)
    → host ≢ host_of who
    → is_listed (mount_does fs mounts who call).1 (root_of host) ≡ is_listed mounts (root_of host)
others_stay fs mounts who calls.Null host apart = refl
others_stay fs mounts who (calls.Mnt path) host apart =
    mount_others fs mounts (host_of who) host apart (names_on path)
others_stay fs mounts who calls.Dump host apart = refl
others_stay fs mounts who (calls.Umnt path) host apart =
    unmount_others fs mounts (host_of who) host apart (names_on path)
others_stay fs mounts who calls.Umntall host apart = without_host_others fs mounts (host_of who) host apart
others_stay fs mounts who calls.Export host apart = refl
