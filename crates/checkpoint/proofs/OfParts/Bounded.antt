-- Parts whose value fits are within their bounds.
-- Serves: read_parts.
use Rattle.std.proofs.Common.{◌≡◌, ◌≤◌, suc, List, [], ◌∷◌, map, length, refl, ap, arith}
use Rattle.std.specs.List.{All, AllByRecursion}
use Rattle.std.proofs.lemmas.List.Elements.{All-from_recursion}
use Rattle.xdr.specs.Item.{Fits, choice}
use Rattle.mount_types.specs.declared.limits.TheConstants.{MNTNAMLEN, MNTPATHLEN}
use Rattle.nfs_laws.specs.fs_spec.Maxima.{max_name}
use Rattle.nfs_laws.specs.fs_spec.Listing.{NamedEntry}
use Rattle.state_machine.specs.file_texts.Bounds.{IsWritable}
use Rattle.state_spec.specs.server_spec.FileItems.{file_item, entry_item, is_file_kind, kind_item}
use Rattle.state_machine.specs.file_texts.Parts.{kind_said, file_said, body_of}
use Rattle.state_machine.specs.file_texts.declared.parts.AttributesPart.{AttributesPart}
use Rattle.state_machine.specs.file_texts.declared.parts.BodyPart.{BodyPart}
use Rattle.state_machine.specs.file_texts.declared.parts.BodyPart.TheVariants.{Regular, Symlink, Directory}
use Rattle.state_machine.specs.file_texts.declared.parts.FilePart.{FilePart}
use Rattle.state_spec.specs.Limits.{max_received, max_sends}
use Rattle.state_spec.specs.StateItems.{received_value, mount_item, stage_item, rest_item, is_node_kind}
use Rattle.state_spec.specs.StateItems.{machine_item, state_item}
use Rattle.checkpoint.specs.declared.parts.parts.StagePart.{StagePart}
use Rattle.checkpoint.specs.declared.parts.parts.StagePart.TheVariants.{Idle, Heard, Owes}
use Rattle.checkpoint.specs.declared.parts.parts.MountPart.{MountPart}
use Rattle.checkpoint.specs.declared.parts.parts.WorldPart.{WorldPart}
use Rattle.checkpoint.specs.declared.parts.parts.MachinePart.{MachinePart}
use Rattle.checkpoint.specs.declared.parts.parts.MachinePart.TheVariants.{Server, Client}
use Rattle.checkpoint.specs.declared.parts.parts.StatePart.{StatePart}
use Rattle.checkpoint.specs.Parts.SaidParts as said
use Rattle.checkpoint.specs.Parts.SaidParts.{mount_said, stage_said, world_said, state_said}
use Rattle.checkpoint.specs.Parts.Bounds.{IsShortStage, IsBoundedWorld, IsBoundedMachine, AreBounded}

same_length : {A B : Type 0} (f : A → B) (xs : List A) → length (map f xs) ≡ length xs
same_length f [] = refl
same_length f (x ∷ xs) = ap suc (same_length f xs)

each_made : {A B : Type 0} (f : A → B) (P : B → Type 0) (Q : A → Type 0)
    (made : (a : A) → P (f a) → Q a) (xs : List A) → AllByRecursion P (map f xs) → AllByRecursion Q xs
each_made f P Q made [] all = tt
each_made f P Q made (x ∷ xs) all = (made x all.0, each_made f P Q made xs all.1)

-- what each item of an array has, each value has that it was made of
each_of : {A B : Type 0} (f : A → B) (P : B → Type 0) (Q : A → Type 0)
    (made : (a : A) → P (f a) → Q a) (xs : List A) → AllByRecursion P (map f xs) → All Q xs
each_of f P Q made xs all = All-from_recursion Q xs (each_made f P Q made xs all)

-- names of entries that fit are short
short_names : (es : List NamedEntry) → AllByRecursion (Fits entry_item) es
    → AllByRecursion (λ (e : NamedEntry). length e.0 ≤ max_name) es
short_names [] all = tt
short_names (e ∷ es) all = (all.0.0.1, short_names es all.1)

-- a body that fits is one that a text can hold
writable : (a : AttributesPart) (b : BodyPart) → Fits (choice is_file_kind kind_item) (kind_said a b)
    → IsWritable (body_of b)
writable a (Regular bytes) h = h.2.1.1
writable a (Symlink target) h = h.2.1.1
writable a (Directory next entries) h = (h.2.1.1.1, short_names _ h.2.1.1.2)

short_stage : (s : StagePart) → Fits stage_item (stage_said s) → IsShortStage s
short_stage Idle h = tt
short_stage (Heard from body) h = h.2.1.1
short_stage (Owes to body) h = h.2.1.1

world : (w : WorldPart) → Fits (rest_item file_item 1) (world_said w) → IsBoundedWorld w
world w h =
    let mounts = same_length mount_said w.mounts.items in
    let files = same_length file_said w.files.items in
    record {
      stage = short_stage w.stage h.0;
      mounts = omega (arith, mounts, h.1.1.0.1);
      hosts =
          each_of mount_said (Fits mount_item) (λ (m : MountPart). length m.host.now ≤ MNTNAMLEN)
          (λ m fits. fits.0.1) w.mounts.items h.1.1.0.2;
      directories =
          each_of mount_said (Fits mount_item) (λ (m : MountPart). length m.directory.now ≤ MNTPATHLEN)
          (λ m fits. fits.1.1) w.mounts.items h.1.1.0.2;
      files = omega (arith, files, h.1.1.1.1);
      bodies =
          each_of file_said (Fits file_item) (λ (f : FilePart). IsWritable (body_of f.body))
          (λ f fits. writable f.attributes f.body fits.1) w.files.items h.1.1.1.2;
    }

-- a node's kind fits, with what stands after it
abbrev MachineFits : StatePart → MachinePart → Type 0
MachineFits p m =
    Fits (choice is_node_kind (machine_item file_item))
    (said.machine_said p.clock p.received.items p.sends.items m)

machine : (p : StatePart) (m : MachinePart) → MachineFits p m → IsBoundedMachine m
machine p (Server w) h = world w h.2.1.1.1
machine p Client h = tt

received : (p : StatePart) (m : MachinePart) → MachineFits p m → length p.received.items ≤ max_received
received p (Server w) h =
    let same = same_length received_value p.received.items in omega (arith, same, h.2.1.0.1)
received p Client h = let same = same_length received_value p.received.items in omega (arith, same, h.2.1.0.1)

sends : (p : StatePart) (m : MachinePart) → MachineFits p m → length p.sends.items ≤ max_sends
sends p (Server w) h = let same = same_length said.sent_said p.sends.items in omega (arith, same, h.2.1.1.0.1)
sends p Client h = let same = same_length said.sent_said p.sends.items in omega (arith, same, h.2.1.1.0.1)

-- parts that fit are within their bounds
pub bounded : (p : StatePart) → Fits (state_item file_item) (state_said p) → AreBounded p
bounded p h = record {
  received = received p p.machine h.1.1;
  sends = sends p p.machine h.1.1;
  machine = machine p p.machine h.1.1;
}
