-- A server's world stays one, whatever bytes come at whatever time.
-- Serves: `laws::worlds_stay_worlds`.
use Rattle.std.proofs.Common.{◌≡◌, ℕ, ◌<◌, ◌≤◌, ◌^◌, ◌==◌, Bool, true, false, List, ◌++◌, length, Option}
use Rattle.std.proofs.Common.{Some, None, Ok, Err, refl, sym, subst, ◌∙◌, arith}
use Rattle.std.specs.Prelude.{IsTrue, IfOk, if◌then◌else◌}
use Rattle.std.proofs.Math.Seq.{drop-append_seam, take-append_seam}
use Rattle.xdr.specs.Item.{IsBytes, number_spelling, spelling, padding, opaque}
use Rattle.xdr.specs.Reading.{Read}
use Rattle.xdr.proofs.Front.{IsBytes-drop, IsBytes-take}
use Rattle.rpc.specs.Call.{CallHeader, Message, OtherVersion, Version2, message_at, Says, call_start}
use Rattle.rpc.specs.Call.{call_header, header_value, message_text, opaque_auth}
use Rattle.rpc.proofs.Messages.{read_is_said}
use Rattle.mount_types.specs.nfs_items.Timeval.{Timeval, is_before}
use Rattle.mount_types.specs.nfs_items.Caller.{Caller, nobody}
use Rattle.mount_types.specs.nfs_items.Credentials.{caller_in}
use Rattle.mount_types.proofs.nfs_items.Credentials.{said}
use Rattle.nfs_types.specs.Calls.{Call}
use Rattle.nfs_types.specs.Texts.{call_at, procedure_at}
use Rattle.nfs_types.specs.Bounds.{HasBounds}
use Rattle.nfs_types.specs.declared.arguments.NfsProcedure.{NfsProcedure}
use Rattle.nfs_laws.specs.fs_spec.Files.{Files}
use Rattle.nfs_laws.specs.fs_spec.Trees.{IsTime, IsFileTree}
use Rattle.nfs_laws.specs.fs_spec.Changes.Limits.{has_room}
use Rattle.nfs_laws.specs.nfs_spec.NfsCalls.{call_does}
use Rattle.nfs_laws.specs.Laws.{IsBounded}
use Rattle.nfs_laws.specs.Sizes.Bounds.{AreWords, SaysWords, HasWordsIn}
use Rattle.mount_types.specs.declared.limits.TheConstants.{MNTNAMLEN}
use Rattle.mount_types.specs.Calls.{MountCall}
use Rattle.mount_types.specs.Texts as mount_texts
use Rattle.mount_types.specs.Mounts.{Mounts, AreMounts}
use Rattle.server_spec.specs.MountCalls.{host_of, mount_does}
use Rattle.server_spec.specs.World.{World, at_time}
use Rattle.server_spec.specs.IsWorld.{IsWorld}
use Rattle.server_spec.specs.declared.programs.TheConstants.{AUTH_NONE, AUTH_SYS, NFS_PROGRAM, NFS_VERSION}
use Rattle.server_spec.specs.declared.programs.TheConstants.{MOUNT_PROGRAM, MOUNT_VERSION}
use Rattle.server_spec.specs.Replies.{OrRefusal, ◌>>=◌, caller_or_refusal, caller_at, ServedCall, Nfs, Mount}
use Rattle.server_spec.specs.Replies.{version_served, procedure_or_refusal, arguments_or_refusal}
use Rattle.server_spec.specs.Replies.{machine_or_refusal, nfs_call_or_refusal, mount_call_or_refusal}
use Rattle.server_spec.specs.Replies.{program_call_or_refusal, call_or_refusal, call_reply, reply_to}
use Rattle.server_spec.specs.Replies.{world_after_call, world_after}

-- ---- parts of bytes

back_bytes : (xs ys : List ℕ) → IsBytes (xs ++ ys) → IsBytes ys
back_bytes xs ys all = subst IsBytes (drop-append_seam xs ys) (IsBytes-drop (length xs) (xs ++ ys) all)

front_bytes : (xs ys : List ℕ) → IsBytes (xs ++ ys) → IsBytes xs
front_bytes xs ys all = subst IsBytes (take-append_seam xs ys) (IsBytes-take (length xs) (xs ++ ys) all)

-- the body of a header's credential
body_bytes : (h : CallHeader) → IsBytes (spelling call_header (header_value h)) → IsBytes h.credential.body
body_bytes h all =
    let credential = spelling opaque_auth (h.credential.flavor, h.credential.body) in
    let verifier = spelling opaque_auth (h.verifier.flavor, h.verifier.body) in
    let procedure = number_spelling 4 h.procedure ++ (credential ++ verifier) in
    let version = number_spelling 4 h.version ++ procedure in
    let behind =
    front_bytes credential verifier
    (back_bytes (number_spelling 4 h.procedure) (credential ++ verifier)
    (back_bytes (number_spelling 4 h.version) procedure
    (back_bytes (number_spelling 4 h.program) version all))) in
    let length_and_body =
    back_bytes (number_spelling 4 h.credential.flavor) (spelling (opaque 400) h.credential.body) behind in
    let padded = h.credential.body ++ padding (length h.credential.body) in
    front_bytes h.credential.body (padding (length h.credential.body))
    (back_bytes (number_spelling 4 (length h.credential.body)) padded length_and_body)

-- ---- a call that was checked

-- a caller's user and group are words, and its machine has a short name
record IsKnown (who : Caller) : Type 0 where
  uid : who.uid < 2 ^ 32
  gid : who.gid < 2 ^ 32
  host : length (host_of who) ≤ MNTNAMLEN

-- a call of NFS is within its bounds
abbrev IsWithin : ServedCall → Type 0
IsWithin (Nfs call) = HasBounds call
IsWithin (Mount call) = Unit {0}

abbrev AreWithin : Caller × ServedCall → Type 0
AreWithin x = IsKnown x.0 × IsWithin x.1

bind_if : {A B : Type 0} (P : A → Type 0) (Q : B → Type 0) (r : OrRefusal A) (f : A → OrRefusal B)
    → IfOk r P → ((x : A) → P x → IfOk (f x) Q) → IfOk (r >>= f) Q
bind_if P Q (Ok x) f p h = h x p
bind_if P Q (Err e) f p h = tt

if_either : {A : Type 0} (P : A → Type 0) (b : Bool) (x y : A) → P x → P y → P (if b then x else y)
if_either P true x y p q = p
if_either P false x y p q = q

-- anything that passes
passes : {A : Type 0} (r : OrRefusal A) → IfOk r (λ _. Unit {0})
passes (Ok x) = tt
passes (Err e) = tt

known_nobody : IsKnown nobody
known_nobody = record { uid = omega arith; gid = omega arith; host = omega arith }

known_said : (body : List ℕ) → IsBytes body → (who : Caller) → caller_in body ≡ Some who → IsKnown who
known_said body bound who is =
    let p = said body who bound is in
    subst IsKnown (sym p.7) (record { uid = p.6.uid; gid = p.6.gid; host = p.6.name })

known_caller : (flavor : ℕ) (body : List ℕ) → IsBytes body → IfOk (caller_at flavor body) IsKnown
known_caller flavor body bound =
    if_either (λ r. IfOk r IsKnown) (flavor == AUTH_NONE) _ _ known_nobody
    (if_either (λ r. IfOk r IsKnown) (flavor == AUTH_SYS) _ _ (by (caller_in body) refl) tt)
  where
    by : (o : Option Caller) → caller_in body ≡ o → IfOk (caller_or_refusal o) IsKnown
    by None is = tt
    by (Some who) is = known_said body bound who is

-- ---- what each call leaves

module _
    (trees : (fs : Files) (who : Caller) (now : Timeval) (call : Call)
    → IsFileTree fs → IsTime now → IsBounded call → IsFileTree (call_does fs who now call).1)
    (room : (fs : Files) (who : Caller) (now : Timeval) (call : Call) → IsFileTree fs → IsTime now
    → IsBounded call
    → IsTrue (has_room fs) → IsTrue (has_room (call_does fs who now call).1))
    (words : (fs : Files) (who : Caller) (now : Timeval) (call : Call)
    → AreWords fs → SaysWords who now → HasWordsIn call → AreWords (call_does fs who now call).1)
    (number : (fs : Files) (who : Caller) (now : Timeval) (call : Call) → (call_does fs who now call).1.fsid
    ≡ fs.fsid)
    (bounded : (call : Call) → HasBounds call → IsBounded call × HasWordsIn call)
    (read : (procedure : NfsProcedure) (bytes rest : List ℕ) (call : Call) → IsBytes bytes
    → call_at procedure bytes ≡ Ok (call, rest) → HasBounds call)
    (mounted : (fs : Files) (mounts : Mounts) (who : Caller) (call : MountCall)
    → AreMounts mounts → length (host_of who) ≤ MNTNAMLEN → AreMounts (mount_does fs mounts who call).1)
  where
    nfs_within : (h : CallHeader) (arguments : List ℕ) → IsBytes arguments
        → IfOk (nfs_call_or_refusal h arguments) IsWithin
    nfs_within h arguments bound =
        bind_if (λ _. Unit {0}) IsWithin (version_served NFS_VERSION h.version) _ (passes _) (λ _ _.
        bind_if (λ _. Unit {0}) IsWithin (procedure_or_refusal (procedure_at h.procedure)) _ (passes _)
        (λ p _.
        bind_if HasBounds IsWithin (arguments_or_refusal (call_at p arguments)) _
        (by p (call_at p arguments) refl)
        (λ call b. b)))
      where
        by : (p : NfsProcedure) (r : Read Call) → call_at p arguments ≡ r
            → IfOk (arguments_or_refusal r) HasBounds
        by p (Ok x) is = read p arguments x.1 x.0 bound is
        by p (Err e) is = tt

    mount_within : (h : CallHeader) (arguments : List ℕ) → IfOk (mount_call_or_refusal h arguments) IsWithin
    mount_within h arguments =
        bind_if (λ _. Unit {0}) IsWithin (version_served MOUNT_VERSION h.version) _ (passes _) (λ _ _.
        bind_if (λ _. Unit {0}) IsWithin (procedure_or_refusal (mount_texts.procedure_at h.procedure)) _
        (passes _) (λ p _.
        bind_if (λ _. Unit {0}) IsWithin (machine_or_refusal p h.credential.flavor) _ (passes _) (λ _ _.
        bind_if (λ _. Unit {0}) IsWithin (arguments_or_refusal (mount_texts.call_at p arguments)) _ (passes _)
        (λ call _. tt))))

    call_within : (h : CallHeader) (arguments : List ℕ) → IsBytes h.credential.body → IsBytes arguments
        → IfOk (call_or_refusal h arguments) AreWithin
    call_within h arguments body bound =
        bind_if IsKnown AreWithin (caller_at h.credential.flavor h.credential.body) _
        (known_caller h.credential.flavor h.credential.body body) (λ who k.
        bind_if IsWithin AreWithin (program_call_or_refusal h arguments) _ program (λ call w. (k, w)))
      where
        program : IfOk (program_call_or_refusal h arguments) IsWithin
        program =
            if_either (λ r. IfOk r IsWithin) (h.program == NFS_PROGRAM) _ _ (nfs_within h arguments bound)
            (if_either (λ r. IfOk r IsWithin) (h.program == MOUNT_PROGRAM) _ _ (mount_within h arguments) tt)

    module _ (node : ℕ) where
      reply_stays : (w : World) → IsWorld node w → (xid : ℕ) (c : OrRefusal (Caller × ServedCall))
          → IfOk c AreWithin → IsWorld node (call_reply w xid c).1
      reply_stays w h xid (Err body) k = h
      reply_stays w h xid (Ok (who, Nfs call)) k =
          let b = bounded call k.1 in
          record {
            fsid = number w.files who w.clock call ∙ h.fsid;
            tree = trees w.files who w.clock call h.tree h.clock b.0;
            room = room w.files who w.clock call h.tree h.clock b.0 h.room;
            words =
                words w.files who w.clock call h.words
                (record { uid = k.0.uid; gid = k.0.gid; seconds = h.seconds }) b.1;
            clock = h.clock;
            seconds = h.seconds;
            mounts = h.mounts;
          }
      reply_stays w h xid (Ok (who, Mount call)) k = record {
        fsid = h.fsid;
        tree = h.tree;
        room = h.room;
        words = h.words;
        clock = h.clock;
        seconds = h.seconds;
        mounts = mounted w.files w.mounts who call h.mounts k.0.host;
      }

      message_stays : (w : World) → IsWorld node w → (bytes : List ℕ) → IsBytes bytes
          → (m : Message) (rest : List ℕ)
          → Says bytes m rest → IsWorld node (reply_to w m rest).1
      message_stays w h bytes bound (OtherVersion xid version) rest says = h
      message_stays w h bytes bound (Version2 xid c) rest says =
          let all = subst IsBytes says.bytes_are bound in
          let header = back_bytes (spelling call_start (xid, (0, 2))) (spelling call_header (header_value c))
          (front_bytes (message_text (Version2 xid c)) rest all) in
          let arguments = back_bytes (message_text (Version2 xid c)) rest all in
          reply_stays w h xid (call_or_refusal c rest) (call_within c rest (body_bytes c header) arguments)

      at_time_stays : (w : World) (time : Timeval) → IsWorld node w → IsTime time → time.seconds < 2 ^ 32
          → IsWorld node (at_time w time)
      at_time_stays w time h is low = record {
        fsid = h.fsid;
        tree = h.tree;
        room = h.room;
        words = h.words;
        clock = if_either IsTime (is_before time w.clock) w.clock time h.clock is;
        seconds =
            if_either (λ (t : Timeval). t.seconds < 2 ^ 32)
            (is_before time w.clock) w.clock time h.seconds low;
        mounts = h.mounts;
      }

      -- whatever bytes come
      pub stays : (w : World) (time : Timeval) (bytes : List ℕ) → IsWorld node w → IsTime time
          → time.seconds < 2 ^ 32
          → IsBytes bytes → IsWorld node (world_after w time bytes)
      unfolding world_after
      stays w time bytes h is low bound = by (message_at bytes) refl
        where
          by : (r : Read Message) → message_at bytes ≡ r → IsWorld node (world_after_call (at_time w time) r)
          by (Ok x) found =
              message_stays (at_time w time) (at_time_stays w time h is low) bytes bound x.0 x.1
              (read_is_said bytes x bound found)
          by (Err e) found = at_time_stays w time h is low
