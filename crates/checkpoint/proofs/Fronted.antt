-- A text of a state is the text up to its files, and its files.
-- Serves: state_text, state_digest, add_front.
use Rattle.std.proofs.Common.{◌≡◌, ℕ, List, [], ◌++◌, map, Result, Ok, Err, sym, ap, ◌∙◌, append_assoc}
use Rattle.std.specs.FinMap as finite
use Rattle.std.proofs.lemmas.List.{append-nil}
use Rattle.xdr.specs.Item.{Item, Value, array, spelling, number_spelling}
use Rattle.xdr.specs.Writing.{Adds, Begins}
use Rattle.nfs_items.specs.Timeval.{Timeval, timeval, timeval_value}
use Rattle.mount_types.specs.Mounts.{max_mounts}
use Rattle.nfs_laws.specs.fs_spec.Maxima.{max_files}
use Rattle.nfs_laws.specs.fs_spec.Files.{File}
use Rattle.state_spec.specs.Limits.{max_received, max_sends}
use Rattle.state_spec.specs.State.{Machine, Server, Client, clock_in, State}
use Rattle.state_spec.specs.StateItems.{received_item, received_value, sent_item, sent_value, stage_item}
use Rattle.state_spec.specs.StateItems.{stage_value, mount_item, state_item, state_value, machine_value}
use Rattle.checkpoint.specs.Fronts.{kind_of, rest_front, front_text, files_text}

-- seven texts in a row, and one after them
seven : (a b c d e f g h : List ℕ) → (a ++ (b ++ (c ++ (d ++ (e ++ (f ++ g)))))) ++ h
    ≡ a ++ (b ++ (c ++ (d ++ (e ++ (f ++ (g ++ h))))))
seven a b c d e f g h =
    append_assoc a (b ++ (c ++ (d ++ (e ++ (f ++ g))))) h
    ∙ ap (λ t. a ++ t) (append_assoc b (c ++ (d ++ (e ++ (f ++ g)))) h
    ∙ ap (λ t. b ++ t) (append_assoc c (d ++ (e ++ (f ++ g))) h
    ∙ ap (λ t. c ++ t) (append_assoc d (e ++ (f ++ g)) h
    ∙ ap (λ t. d ++ t) (append_assoc e (f ++ g) h ∙ ap (λ t. e ++ t) (append_assoc f g h)))))

three : (a b c d : List ℕ) → (a ++ (b ++ c)) ++ d ≡ a ++ (b ++ (c ++ d))
three a b c d = append_assoc a (b ++ c) d ∙ ap (λ t. a ++ t) (append_assoc b c d)

-- all up to what stands after the messages, and a text there
abbrev before : State → ℕ → Timeval → List ℕ → List ℕ
before s kind clock t =
    number_spelling 4 1
    ++ (number_spelling 4 s.node
    ++ (number_spelling 4 kind
    ++ (spelling timeval (timeval_value clock)
    ++ (spelling (array max_received received_item) (map received_value (finite.keys s.received))
    ++ (spelling (array max_sends sent_item) (map sent_value (finite.entries s.sends)) ++ t)))))

behind : (s : State) (kind : ℕ) (clock : Timeval) (t u : List ℕ)
    → before s kind clock t ++ u ≡ before s kind clock (t ++ u)
behind s kind clock t u =
    seven (number_spelling 4 1) (number_spelling 4 s.node) (number_spelling 4 kind)
    (spelling timeval (timeval_value clock))
    (spelling (array max_received received_item) (map received_value (finite.keys s.received)))
    (spelling (array max_sends sent_item) (map sent_value (finite.entries s.sends))) t u

-- a text that was added after another
pub added_after : {E : Type 0} (first rest old mid new : List ℕ) (r : Result (Unit {0}) E) → mid
    ≡ old ++ first
    → Adds rest mid r new → Adds (first ++ rest) old r new
added_after first rest old mid new (Ok x) e h = h ∙ ap (λ t. t ++ rest) e ∙ append_assoc old first rest
added_after first rest old mid new (Err x) e h =
    (first ++ h.0, h.1 ∙ ap (λ t. t ++ h.0) e ∙ append_assoc old first h.0)

-- where nothing was added
pub unchanged : (old new : List ℕ) → new ≡ old → Begins old new
unchanged old new e = ([], e ∙ sym (append-nil old))

-- a part that may stand after a text that was added
pub further : (old first mid new : List ℕ) → mid ≡ old ++ first → Begins mid new → Begins old new
further old first mid new e h = (first ++ h.0, h.1 ∙ ap (λ t. t ++ h.0) e ∙ append_assoc old first h.0)

-- what was added, under another name
pub instead : {X : Type 0} (f : X → List ℕ) (x y : X) (old mid : List ℕ) → mid ≡ old ++ f x → x ≡ y → mid
    ≡ old ++ f y
instead f x y old mid h e = h ∙ ap (λ z. old ++ f z) e

module _ (file : Item) (value : ℕ × File → Value file) where
  -- what a state says is spelled by these two
  pub spelled : (s : State) → front_text s ++ files_text file value s.machine
      ≡ spelling (state_item file) (state_value file value s)
  spelled s = by s.machine
    where
      by : (m : Machine) → before s (kind_of m) (clock_in m) (rest_front m) ++ files_text file value m
          ≡ spelling (state_item file) (1, (s.node, machine_value file value s m))
      by (Server w stage) =
          let files = spelling (array max_files file) (map value (finite.entries w.files.files)) in
          behind s 1 w.clock (rest_front (Server w stage)) files
          ∙ ap (before s 1 w.clock) (three (spelling stage_item (stage_value stage))
          (number_spelling 4 w.files.next) (spelling (array max_mounts mount_item) w.mounts) files)
      by (Client clock) = append-nil (before s 2 clock (number_spelling 4 0))

  -- a text that was made of them, from nothing
  pub made : (s : State) (m : Machine) (old front all : List ℕ) → old ≡ [] → front ≡ old ++ front_text s → m
      ≡ s.machine
      → all ≡ front ++ files_text file value m → all ≡ spelling (state_item file) (state_value file value s)
  made s m old front all none first same files =
      files ∙ (λ i. (first ∙ ap (λ t. t ++ front_text s) none) i ++ files_text file value (same i))
      ∙ spelled s
