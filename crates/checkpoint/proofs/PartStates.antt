-- What the parts of a state's text give, against the state that its text gives.
-- Serves: state_of, read_state.
use Rattle.std.proofs.Common.{◌≡◌, ℕ, List, [], ◌∷◌, map, refl, sym, ap, subst, ◌∙◌}
use Rattle.std.specs.Prelude.{IsTrue}
use Rattle.std.specs.List.Sorted.{IsStrictlySortedBy}
use Rattle.std.specs.Map.{keys_of}
use Rattle.std.specs.Ordering.{nat_cmp}
use Rattle.std.specs.FinMap as finite
use Rattle.std.proofs.lemmas.Map.Keys.{below_from_sorted}
use Rattle.xdr.specs.Item.{Value, Fits}
use Rattle.nfs_items.specs.Timeval.{Timeval}
use Rattle.nfs_laws.specs.fs_spec.Files.{File}
use Rattle.nfs_laws.specs.fs_spec.Trees.{IsTime, IsFileTree}
use Rattle.nfs_laws.specs.fs_spec.Changes.Limits.{has_room}
use Rattle.file_tree.specs.tree_rules.FileRules.Rules.{AreRising, numbers_of}
use Rattle.file_tree.proofs.tree_rules.OfFileRules.Listed.{in_order, entries_listed}
use Rattle.state_spec.specs.server_spec.World.{World}
use Rattle.state_spec.specs.server_spec.IsWorld.{IsWorld}
use Rattle.state_machine.proofs.server_spec.Mounted.{are_of_the_root, are_different}
use Rattle.state_spec.specs.server_spec.FileItems.{file_item}
use Rattle.state_spec.specs.server_spec.FileValues.{time_from, body_from, file_from, numbered_from}
use Rattle.state_machine.specs.file_texts.Parts.{kind_said, file_said, time_of, file_of, files_given}
use Rattle.state_machine.specs.file_texts.declared.parts.TimePart.{TimePart}
use Rattle.state_machine.specs.file_texts.declared.parts.AttributesPart.{AttributesPart}
use Rattle.state_machine.specs.file_texts.declared.parts.BodyPart.{BodyPart}
use Rattle.state_machine.specs.file_texts.declared.parts.BodyPart.TheVariants.{Regular, Symlink, Directory}
use Rattle.state_machine.specs.file_texts.declared.parts.FilePart.{FilePart}
use Rattle.state_spec.specs.State.{ReceivedMessage, received_cmp, State, IsState}
use Rattle.state_spec.specs.State as spec
use Rattle.state_spec.specs.StateItems.{sent_item, received_value, state_item}
use Rattle.state_spec.specs.StateText.{Said, said}
use Rattle.state_spec.specs.StateValues.{map_from, set_from, received_from, sent_from, stage_of, stage_from}
use Rattle.state_spec.specs.StateValues.{world_from, machine_from, state_from}
use Rattle.state_spec.specs.Rules.{ListsRise, KeepsRules}
use Rattle.state_machine.proofs.state_spec.Back.{map_back}
use Rattle.state_machine.proofs.state_spec.Forth.{entries_of_map, forth}
use Rattle.state_machine.proofs.state_spec.Ruled.{rules_of_state, state_of_rules}
use Rattle.state_machine.specs.States.Numbered.{numbered}
use Rattle.state_machine.specs.declared.states.texts.NumberedSend.{NumberedSend}
use Rattle.checkpoint.specs.Parts.SaidParts.{sent_said, mounts_given, stage_said, world_said, machine_said}
use Rattle.checkpoint.specs.declared.parts.parts.StagePart.{StagePart}
use Rattle.checkpoint.specs.declared.parts.parts.StagePart.TheVariants as stages
use Rattle.checkpoint.specs.declared.parts.parts.WorldPart.{WorldPart}
use Rattle.checkpoint.specs.declared.parts.parts.MachinePart.{MachinePart}
use Rattle.checkpoint.specs.declared.parts.parts.MachinePart.TheVariants.{Server, Client}
use Rattle.checkpoint.specs.PartWorlds.{stage_given, world_given, IsServed}

-- ---- lists

received_back : (ms : List ReceivedMessage) → map received_from (map received_value ms) ≡ ms
unfolding received_from
received_back ms = map_back received_value received_from (λ _. refl) ms

sends_back : (ms : List NumberedSend) → map sent_from (map sent_said ms) ≡ numbered ms
unfolding sent_from
sends_back [] = refl
sends_back (m ∷ ms) = λ i. (m.seq, m.message) ∷ sends_back ms i

sent_numbers : (ms : List NumberedSend) → map (λ (v : Value sent_item). v.0) (map sent_said ms)
    ≡ keys_of (numbered ms)
sent_numbers [] = refl
sent_numbers (m ∷ ms) = λ i. m.seq ∷ sent_numbers ms i

-- ---- files

file_back : (n : ℕ) (a : AttributesPart) (b : BodyPart)
    → numbered_from (n, kind_said a b) ≡ (n, file_of (record { number = n; attributes = a; body = b }))
unfolding numbered_from file_from body_from time_from
file_back n a (Regular bytes) = refl
file_back n a (Symlink target) = refl
file_back n a (Directory next entries) = refl

files_back : (ps : List FilePart) → map numbered_from (map file_said ps) ≡ files_given ps
files_back [] = refl
files_back (p ∷ ps) = λ i. file_back p.number p.attributes p.body i ∷ files_back ps i

file_numbers : (ps : List FilePart) → map (λ (v : Value file_item). v.0) (map file_said ps)
    ≡ numbers_of (files_given ps)
file_numbers [] = refl
file_numbers (p ∷ ps) = λ i. p.number ∷ file_numbers ps i

map_listed : (es : List (ℕ × File)) → AreRising (numbers_of es) → map_from nat_cmp es ≡ finite.from_entries es
map_listed es up =
    finite.same_entries_map (map_from nat_cmp es) (finite.from_entries es)
    (entries_of_map nat_cmp es (in_order es up) ∙ sym (entries_listed es up))

rising : (ns : List ℕ) → IsStrictlySortedBy nat_cmp ns → AreRising ns
rising ns h i j lt within = below_from_sorted ns i j 0 h lt within

-- ---- a server

world_is : (node : ℕ) (clock : Timeval) (w : WorldPart) → AreRising (numbers_of (files_given w.files.items))
    → world_from node clock (world_said w) ≡ world_given node clock w
unfolding world_from
world_is node clock w up = λ i. record {
  files = record {
    fsid = node;
    next = w.next;
    files = (ap (map_from nat_cmp) (files_back w.files.items) ∙ map_listed (files_given w.files.items) up) i;
  };
  clock = clock;
  mounts = mounts_given w.mounts.items;
}

stage_is : (s : StagePart) → stage_from (stage_said s) ≡ stage_given s
unfolding stage_from stage_of
stage_is stages.Idle = refl
stage_is (stages.Heard from body) = refl
stage_is (stages.Owes to body) = refl

module _ (node : ℕ) (clock : TimePart) (received : List ReceivedMessage) (sends : List NumberedSend) where
  -- what parts say
  abbrev pub saying : MachinePart → Said
  saying m = (1, (node, machine_said clock received sends m))

  -- ---- the state that they give

  -- of a server: its files, mounts and stage
  pub server_is : (w : WorldPart) → AreRising (numbers_of (files_given w.files.items))
      → state_from (saying (Server w)) ≡ record {
        node = node;
        received = set_from received_cmp received;
        sends = map_from nat_cmp (numbered sends);
        machine = spec.Server (world_given node (time_of clock) w) (stage_given w.stage);
      }
  unfolding state_from machine_from time_from
  server_is w up = λ i. record {
    node = node;
    received = set_from received_cmp (received_back received i);
    sends = map_from nat_cmp (sends_back sends i);
    machine = spec.Server (world_is node (time_of clock) w up i) (stage_is w.stage i);
  }

  -- of a client: its clock alone
  pub client_is : state_from (saying Client) ≡ record {
    node = node;
    received = set_from received_cmp received;
    sends = map_from nat_cmp (numbered sends);
    machine = spec.Client (time_of clock);
  }
  unfolding state_from machine_from time_from
  client_is = λ i. record {
    node = node;
    received = set_from received_cmp (received_back received i);
    sends = map_from nat_cmp (sends_back sends i);
    machine = spec.Client (time_of clock);
  }

  -- ---- what it takes that they keep the rules

  -- received messages rise
  pub rule_received : (m : MachinePart) → KeepsRules (saying m) → IsStrictlySortedBy received_cmp received
  rule_received (Server w) h = subst (IsStrictlySortedBy received_cmp) (received_back received)
      h.lists.received
  rule_received Client h = subst (IsStrictlySortedBy received_cmp) (received_back received) h.lists.received

  -- numbers of sent messages rise
  pub rule_sends : (m : MachinePart) → KeepsRules (saying m)
      → IsStrictlySortedBy nat_cmp (keys_of (numbered sends))
  rule_sends (Server w) h = subst (IsStrictlySortedBy nat_cmp) (sent_numbers sends) h.lists.sends
  rule_sends Client h = subst (IsStrictlySortedBy nat_cmp) (sent_numbers sends) h.lists.sends

  -- the clock shows a time
  pub rule_clock : (m : MachinePart) → KeepsRules (saying m) → IsTime (time_of clock)
  unfolding state_from machine_from world_from time_from
  rule_clock (Server w) h = h.machine.clock
  rule_clock Client h = h.machine

  -- a server can have these files and mounts
  pub rule_served : (w : WorldPart) → Fits (state_item file_item) (saying (Server w))
      → KeepsRules (saying (Server w))
      → IsServed node w
  unfolding state_from machine_from world_from time_from
  rule_served w fits h =
      let is : IsWorld node (world_from node (time_of clock) (world_said w)) =
      state_of_rules (saying (Server w)) fits h in
      let up = rising (numbers_of (files_given w.files.items))
      (subst (IsStrictlySortedBy nat_cmp) (file_numbers w.files.items) h.lists.files) in
      let same = ap (λ (u : World). u.files) (world_is node (time_of clock) w up) in
      record {
        tree = record {
          rising = up;
          tree = subst IsFileTree same is.tree;
          room = subst (λ fs. IsTrue (has_room fs)) same is.room;
        };
        directories = are_of_the_root (mounts_given w.mounts.items) is.mounts;
        mounts = are_different (mounts_given w.mounts.items) is.mounts;
      }

  -- ---- and that is enough

  module _ (up_received : IsStrictlySortedBy received_cmp received)
      (up_sends : IsStrictlySortedBy nat_cmp (keys_of (numbered sends))) where
    server_rises : (w : WorldPart) → AreRising (numbers_of (files_given w.files.items))
        → ListsRise (saying (Server w))
    server_rises w up = record {
      received = subst (IsStrictlySortedBy received_cmp) (sym (received_back received)) up_received;
      sends = subst (IsStrictlySortedBy nat_cmp) (sym (sent_numbers sends)) up_sends;
      files = subst (IsStrictlySortedBy nat_cmp) (sym (file_numbers w.files.items))
          (in_order (files_given w.files.items) up);
    }

    client_rises : ListsRise (saying Client)
    unfolding IsStrictlySortedBy
    client_rises = record {
      received = subst (IsStrictlySortedBy received_cmp) (sym (received_back received)) up_received;
      sends = subst (IsStrictlySortedBy nat_cmp) (sym (sent_numbers sends)) up_sends;
      files = tt;
    }

    -- a server's state that is made of the parts is the one that they give, and they keep the rules
    pub server_kept : (w : WorldPart) (s : State) → Fits (state_item file_item) (saying (Server w))
        → IsServed node w
        → IsState s → s ≡ record {
          node = node;
          received = set_from received_cmp received;
          sends = map_from nat_cmp (numbered sends);
          machine = spec.Server (world_given node (time_of clock) w) (stage_given w.stage);
        }
        → (s ≡ state_from (saying (Server w))) × KeepsRules (saying (Server w))
    server_kept w s fits served is e =
        let same = e ∙ sym (server_is w served.tree.rising) in (
          same,
          rules_of_state (saying (Server w)) s is (ap said same
              ∙ forth (saying (Server w)) fits (server_rises w served.tree.rising)),
        )

    -- so is a client's
    pub client_kept : (s : State) → Fits (state_item file_item) (saying Client) → IsState s → s ≡ record {
      node = node;
      received = set_from received_cmp received;
      sends = map_from nat_cmp (numbered sends);
      machine = spec.Client (time_of clock);
    }
        → (s ≡ state_from (saying Client)) × KeepsRules (saying Client)
    client_kept s fits is e =
        let same = e ∙ sym client_is in
        (same, rules_of_state (saying Client) s is (ap said same ∙ forth (saying Client) fits client_rises))
