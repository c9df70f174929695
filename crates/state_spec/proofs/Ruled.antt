-- A state that fits in a text is one that a node can be in exactly where the rules hold.
-- Serves: rules_tell_states, rules_tell_texts.
use Rattle.std.proofs.Common.{◌≡◌, ℕ, zero, suc, ◌<◌, ◌≤◌, ◌^◌, true, List, [], length, Option, Some, None}
use Rattle.std.proofs.Common.{IsSome, is_some, option_map, refl, sym, ap, subst, ◌∙◌, arith}
use Rattle.std.specs.Prelude.{IsTrue}
use Rattle.std.specs.Option.{option_map_or}
use Rattle.xdr.specs.Item.{Value, Fits}
use Rattle.fs_spec.specs.Maxima.{max_name}
use Rattle.fs_spec.specs.Listing.{Listing, IsRising, HasDistinctNames}
use Rattle.fs_spec.specs.Names.{is_name}
use Rattle.fs_spec.specs.Files.{Body, Regular, Symlink, Directory, File, Files, file_at, listing}
use Rattle.fs_spec.specs.Files.{listing_in}
use Rattle.fs_spec.specs.Files.{is_directory, directory_entries, IsDirectory}
use Rattle.fs_spec.specs.Trees.{IsBody, IsFile, IsFileTree}
use Rattle.fs_spec.proofs.Walks.{none_some}
use Rattle.fs_spec.proofs.Reached.{path_of}
use Rattle.fs_spec.specs.Changes.Limits.{has_room}
use Rattle.fs_spec.proofs.OfEditedTrees.Building.{built}
use Rattle.fs_spec.proofs.OfChanges.Room.{within, room}
use Rattle.fs_spec.proofs.OfChanges.Shapes.{is_some-kind}
use Rattle.server_spec.specs.World.{World}
use Rattle.server_spec.specs.IsWorld.{IsWorld}
use Rattle.server_spec.proofs.Mounted.{are_mounts, are_of_the_root, are_different}
use Rattle.server_spec.specs.FileItems.{file_item, file_value}
use Rattle.server_spec.specs.FileValues.{time_from}
use Rattle.state_spec.specs.State.{Stage, Machine, Server, Client, State, IsMachine, IsState}
use Rattle.state_spec.specs.StateItems.{rest_item, machine_item, state_item, world_value}
use Rattle.state_spec.specs.StateText.{Said, said}
use Rattle.state_spec.specs.StateValues.{stage_from, world_from, machine_from, state_from}
use Rattle.state_spec.specs.Rules.{ListsRise, KeepsServerRules, KeepsMachineRules, KeepsRules}
use Rattle.state_spec.proofs.Back.{back}
use Rattle.state_spec.proofs.Forth.{forth, said_rises}
use Rattle.state_spec.proofs.Fitting.{BodyFits, body_at, words_at, few_files, cookies_at, next_word}
use Rattle.state_spec.proofs.Fitting.{few_mounts, short_hosts, short_names}

-- a thing that is there
some_of : {A : Type 0} (o : Option A) → is_some o ≡ true → (a : A) × (o ≡ Some a)
some_of None h = absurd (cc)
some_of (Some a) h = (a, refl)

-- ---- a directory's file

-- the file of a directory's number
directory_of : (fs : Files) (n : ℕ) → IsDirectory fs n
    → (f : File) × (file_at fs n ≡ Some f) × (is_directory f.body ≡ true)
directory_of fs n h = by (file_at fs n) refl h
  where
    by : (o : Option File) → file_at fs n ≡ o → option_map (λ f. is_directory f.body) o ≡ Some true
        → (f : File) × (file_at fs n ≡ Some f) × (is_directory f.body ≡ true)
    by None is h = absurd (none_some h)
    by (Some f) is h = (f, is, cc)

-- what it lists
listing_of : (fs : Files) (n : ℕ) (f : File) → file_at fs n ≡ Some f → listing fs n ≡ listing_in f.body
listing_of fs n f h = ap (λ o. option_map_or (λ f. listing_in f.body) o (record { next = 0; entries = [] })) h

body_of : (b : Body) → BodyFits b
    → (is_directory b ≡ true → IsRising 3 (listing_in b).entries (listing_in b).next
    × HasDistinctNames (listing_in b).entries) → IsBody b
body_of (Regular bytes) h rule = h
body_of (Symlink target) h rule = h
body_of (Directory l) h rule = rule refl

rule_of : (b : Body) → is_directory b ≡ true → IsBody b
    → IsRising 3 (listing_in b).entries (listing_in b).next × HasDistinctNames (listing_in b).entries
rule_of (Regular bytes) is h = absurd (cc)
rule_of (Symlink target) is h = absurd (cc)
rule_of (Directory l) is h = h

-- ---- from the rules

module _ (w : World) (stage : Stage) (fits : Fits (rest_item file_item 1)
    (world_value file_item file_value w stage)) (rules : KeepsServerRules w) where
  rule_at : (n : ℕ) (f : File) → file_at w.files n ≡ Some f → is_directory f.body ≡ true
      → IsRising 3 (listing_in f.body).entries (listing_in f.body).next
      × HasDistinctNames (listing_in f.body).entries
  rule_at n f there is =
      let directory : IsDirectory w.files n =
      ap (option_map (λ f. is_directory f.body)) there ∙ ap (λ b. Some b) is in
      let same = listing_of w.files n f there in (
        subst (λ (l : Listing). IsRising 3 l.entries l.next) same (rules.tree.cookies n directory),
        subst (λ (l : Listing). HasDistinctNames l.entries) same (rules.tree.distinct n directory),
      )

  is_file : (n : ℕ) (f : File) → file_at w.files n ≡ Some f → IsFile f
  is_file n f there =
      let times = rules.times n f there in
      record {
        mode = rules.modes n f there;
        atime = times.0;
        mtime = times.1;
        ctime = times.2;
        body = body_of f.body (body_at w stage fits n f there) (rule_at n f there);
      }

  name_of : (n : ℕ) (name : List ℕ) → IsSome (directory_entries w.files n name)
      → IsTrue (is_name name) × (length name ≤ max_name)
  name_of n name is =
      let p = some_of (directory_entries w.files n name) is in
      (rules.tree.names n name is, short_names w stage fits n name p.0 p.1)

  is_tree : IsFileTree w.files
  is_tree = built w.files (record {
    root_is = rules.tree.root;
    reached = λ n is. let f = directory_of w.files n is in rules.tree.reached n (ap is_some f.1);
    there = λ n y k c e. sym (is_some-kind w.files k) ∙ rules.tree.there n y k c e;
    root = rules.tree.unnamed;
    directories = rules.tree.once;
    named = λ n not is. rules.tree.named n not (is_some-kind w.files n ∙ is);
    numbers = λ n is. rules.tree.numbers n (is_some-kind w.files n ∙ is);
    names = name_of;
    files = is_file;
  })

  has_its_room : IsTrue (has_room w.files)
  has_its_room = room w.files (record {
    files = few_files w stage fits;
    entries = rules.entries;
    blocks = rules.blocks;
    next = let word = next_word w stage fits in omega (arith, word);
    cookies = cookies_at w stage fits;
  })

  -- files that fit and keep the rules are a server's
  pub is_world : (node : ℕ) → w.files.fsid ≡ node → node < 2 ^ 32 → w.clock.seconds < 2 ^ 32 → IsWorld node w
  is_world node same word seconds = record {
    fsid = same;
    tree = is_tree;
    room = has_its_room;
    words = record { fsid = subst (λ n. n < 2 ^ 32) (sym same) word; files = words_at w stage fits };
    clock = rules.clock;
    seconds = seconds;
    mounts =
        are_mounts w.mounts (few_mounts w stage fits)
        (short_hosts w stage fits) rules.directories rules.mounts;
  }

-- ---- to the rules

module _ (node : ℕ) (w : World) (h : IsWorld node w) where
  body_rule : (n : ℕ) → IsDirectory w.files n
      → IsRising 3 (listing w.files n).entries (listing w.files n).next
      × HasDistinctNames (listing w.files n).entries
  body_rule n is =
      let f = directory_of w.files n is in
      subst (λ (l : Listing). IsRising 3 l.entries l.next × HasDistinctNames l.entries)
      (sym (listing_of w.files n f.0 f.1)) (rule_of f.0.body f.2 (h.tree.files n f.0 f.1).body)

  -- a server's world keeps the rules
  pub keeps_rules : KeepsServerRules w
  keeps_rules =
      let limits = within w.files h.room in
      record {
        tree = record {
          root = h.tree.tree.root;
          unnamed = h.tree.root;
          there = h.tree.tree.named;
          named = h.tree.named;
          once = h.tree.directories;
          reached = path_of w.files h.tree;
          distinct = λ n is. (body_rule n is).1;
          names = λ n name is. (h.tree.names n name is).0;
          cookies = λ n is. (body_rule n is).0;
          numbers = h.tree.numbers;
        };
        modes = λ n f there. (h.tree.files n f there).mode;
        times = λ n f there. let is = h.tree.files n f there in (is.atime, is.mtime, is.ctime);
        entries = limits.entries;
        blocks = limits.blocks;
        clock = h.clock;
        directories = are_of_the_root w.mounts h.mounts;
        mounts = are_different w.mounts h.mounts;
      }

-- ---- of values

-- what is said of a state that a node can be in keeps the rules
machine_rules : (node : ℕ) (m : Machine) → IsMachine node m → KeepsMachineRules m
machine_rules node (Server w stage) h = keeps_rules node w h
machine_rules node (Client clock) h = h

-- what a state says keeps the rules
pub rules_of_state : (v : Said) (s : State) → IsState s → said s ≡ v → KeepsRules v
rules_of_state v s is e = record {
  lists = subst ListsRise e (said_rises s);
  machine =
      subst (λ (t : State). KeepsMachineRules t.machine) (sym (back s is) ∙ ap state_from e)
      (machine_rules s.node s.machine is);
}

at_kind : (node kind : ℕ) (m : Value (machine_item file_item kind))
    → Fits (state_item file_item) (said (state_from (1, (node, (kind, m)))))
    → KeepsMachineRules (state_from (1, (node, (kind, m)))).machine
    → IsState (state_from (1, (node, (kind, m))))
unfolding state_from machine_from world_from time_from
at_kind node zero m fits rules = rules
at_kind node (suc zero) m fits rules =
    is_world (world_from node (time_from m.0) m.1.1.1)
    (stage_from m.1.1.1.0) fits.1.1.2.1.1.1 rules node refl fits.1.0 fits.1.1.2.0.0
at_kind node (suc (suc n)) m fits rules = rules

-- the state that a value gives is one that a node can be in, where the rules hold
pub state_of_rules : (v : Said) → Fits (state_item file_item) v → KeepsRules v → IsState (state_from v)
unfolding state_from
state_of_rules v fits rules =
    at_kind v.1.0 v.1.1.0 v.1.1.1 (subst (Fits (state_item file_item)) (sym (forth v fits rules.lists)) fits)
    rules.machine
