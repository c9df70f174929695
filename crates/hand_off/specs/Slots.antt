-- The rule of one slot, and what each of its steps tells.
use Rattle.std.specs.Prelude.{◌≡◌, ◌≢◌, ℕ, ◌+◌, ◌<◌, [], ◌∷◌, Bool, true, false, cond, ◌==◌, length, count_by}
use Rattle.std.specs.Prelude.{Option}
use Rattle.std.specs.Prelude.{Some, None, slice_index, ◌⊎◌}
use mathlib.Core.Option.{some}
use lib.ListN.{get_elem?}
use Rattle.atomic_table.specs.Table.{State, Me}
use Rattle.witness_spec.specs.Events.{JobParts}
use Rattle.replay_jobs.specs.Backs.{job_in}
use Rattle.replay_jobs.specs.declared.job.Back.{Back}
use Rattle.replay_jobs.specs.declared.job.Back.TheVariants.{Job}
use Rattle.hand_off.specs.declared.view.Workers.{Workers}
use Rattle.hand_off.specs.declared.view.View.{View}
use Rattle.hand_off.specs.declared.view.View.TheVariants.{Poster, Idle, Holds, Retired}

-- the poster's view: its job, whether the slot is at home while it is empty, and the workers
abbrev pub poster : Option JobParts → Bool → Workers → View
poster = Poster

-- the view of a worker that holds nothing
abbrev pub idle : ℕ → View
idle = Idle

-- the view of a worker that holds the slot with a job
abbrev pub holds : ℕ → JobParts → View
holds = Holds

-- how many workers were made, how many are retired, and the word that was noted
abbrev pub workers : ℕ → ℕ → Option ℕ → Workers
workers made retired noted = record { made = made; retired = retired; noted = noted }

-- the same workers, of which no word is noted
abbrev pub unnoted : Workers → Workers
unnoted c = workers c.made c.retired None

-- once all workers are retired, the word that is read is noted: no one else changes it
abbrev pub noted_by : Workers → ℕ → Workers
noted_by c n = workers c.made c.retired (cond (c.retired == c.made) (Some n) None)

-- the number of a worker
abbrev pub number : View → Option ℕ
number (Poster job home c) = None
number (Idle w) = Some w
number (Holds w t) = Some w
number Retired = None

-- whether a view is that of a worker who isn't retired
abbrev pub is_worker : View → Bool
is_worker (Poster job home c) = false
is_worker (Idle w) = true
is_worker (Holds w t) = true
is_worker Retired = false

-- whether a view is the poster's
abbrev pub is_poster : View → Bool
is_poster (Poster job home c) = true
is_poster (Idle w) = false
is_poster (Holds w t) = false
is_poster Retired = false

-- what lies in a slot: nothing, a job, or what came back of one
abbrev pub Content : Type 0
Content = Option Back

-- a slot between two steps: its word, what lies at home, and the views of all seats
abbrev pub SlotState : Type 0
SlotState = State Content View

-- its word
abbrev pub word_of : SlotState → ℕ
word_of s = slice_index s.words 0

-- the slot is at home with this in it
abbrev pub Lies : SlotState → Content → Type 0
Lies s x = get_elem? s.homes 0 ≡ some (some x)

-- a seat's view
abbrev pub Sees : SlotState → ℕ → View → Type 0
Sees s j v = get_elem? s.views j ≡ some v

-- The slot is empty: the poster names no job.
abbrev pub IsEmpty : SlotState → Option JobParts → Bool → ℕ → Type 0
IsEmpty s job home n = (n ≡ 0) × (job ≡ None) × (home ≡ true → Lies s None)

-- The slot is ready: the job that the poster names lies there.
abbrev pub IsReady : SlotState → Option JobParts → ℕ → Type 0
IsReady s job n = (n ≡ 1) × ((t : JobParts) × (job ≡ Some t) × Lies s (Some (Job t)))

-- The slot is done: what came back of the job that the poster names lies there.
abbrev pub IsDone : SlotState → Option JobParts → ℕ → Type 0
IsDone s job n = (n ≡ 2) × ((t : JobParts) × (b : Back) × (job ≡ Some t) × Lies s (Some b) × (job_in b ≡ t))

-- The slot is with a worker: that worker's view names the job that the poster names.
abbrev pub IsWith : SlotState → Option JobParts → ℕ → Type 0
IsWith s job n = (j : ℕ) × (w : ℕ) × (t : JobParts) × (n ≡ w + 3) × (job ≡ Some t) × Sees s j (Holds w t)

-- The slot is in one of the four phases.
abbrev pub Phase : SlotState → Option JobParts → Bool → ℕ → Type 0
Phase s job home n = IsEmpty s job home n ⊎ (IsReady s job n ⊎ (IsDone s job n ⊎ IsWith s job n))

-- Empty: the poster names no job. Ready: the slot holds the very job that the poster names. Done: a Back of
-- it. With a worker: that worker's view names that job, and no other's does.
pub record Kept (s : SlotState) : Type 0 where
  -- the poster's seat, of which there is one
  pub seat : ℕ
  -- the job that it names
  pub job : Option JobParts
  -- whether the slot is at home while it is empty
  pub home : Bool
  -- the workers
  pub who : Workers
  -- there is a word
  pub wide : 0 < length s.words
  -- there is a place for a job
  pub roomy : 0 < length s.homes
  -- the poster's seat has that view
  pub posts : Sees s seat (Poster job home who)
  -- no other seat is the poster's
  pub only : (j : ℕ) (v : View) → Sees s j v → is_poster v ≡ true → j ≡ seat
  -- the phase that the word says
  pub phase : Phase s job home (word_of s)
  -- a worker's view names a job only while the slot is with that worker; it is the poster's job
  pub named : (j w : ℕ) (t : JobParts) → Sees s j (Holds w t) → (word_of s ≡ w + 3) × (job ≡ Some t)
  -- two workers have two numbers
  pub apart : (j k w : ℕ) (v u : View) → Sees s j v → Sees s k u → number v ≡ Some w → number u ≡ Some w
      → j ≡ k
  -- below the count of those that were made
  pub low : (j w : ℕ) (v : View) → Sees s j v → number v ≡ Some w → w < who.made
  -- who was made is a worker or retired
  pub live : count_by is_worker s.views + who.retired ≡ who.made
  -- a noted word is the slot's, and all workers are retired
  pub noted : (n : ℕ) → who.noted ≡ Some n → (word_of s ≡ n) × (who.retired ≡ who.made)

-- what a seat knows: its view, and the slots that it has out, with what lies in them
abbrev pub Seated : Type 0
Seated = Me Content View

-- the poster takes the slot out before the first job
abbrev pub takes_out : Seated → Seated → Type 0
takes_out m n = (c : Workers) → m ≡ (Poster None true c, []) → n ≡ (Poster None false c, (0, None) ∷ [])

-- and brings it back at the end
abbrev pub brings_back : Seated → Seated → Type 0
brings_back m n = (c : Workers) → m ≡ (Poster None false c, (0, None) ∷ []) → n ≡ (Poster None true c, [])

-- the poster names the job, and the slot is at home with it
abbrev pub posts : Seated → ℕ → Seated → Type 0
posts m r n = (t : JobParts) (c : Workers) → m ≡ (Poster None false c, (0, Some (Job t)) ∷ []) → (r ≡ 0)
    × (n ≡ (Poster (Some t) false (unnoted c), []))

-- a worker names the job and has the slot out, or nothing changed
abbrev pub takes : Seated → ℕ → Seated → Type 0
takes m r n = (w : ℕ) → m ≡ (Idle w, [])
    → (r ≡ 1 → (t : JobParts) × (n ≡ (Holds w t, (0, Some (Job t)) ∷ [])))
    × (r ≢ 1 → n ≡ m)

-- it names none, and the slot is at home
abbrev pub dones : Seated → Seated → Type 0
dones m n = (w : ℕ) (t : JobParts) (b : Back) → m ≡ (Holds w t, (0, Some b) ∷ []) → n ≡ (Idle w, [])

-- the poster reads the word; once all are retired it notes it, and it is that of a slot that is ready or done
abbrev pub notes : Seated → ℕ → Seated → Type 0
notes m r n =
    (t : JobParts) (c : Workers) → m ≡ (Poster (Some t) false c, [])
    → (n ≡ (Poster (Some t) false (noted_by c r), [])) × (c.retired ≡ c.made → (0 < r) × (r < 3))

-- the poster names none and has the slot out, with a Back of its job, or nothing changed; never
-- the latter at a noted word
abbrev pub collects : ℕ → Seated → ℕ → Seated → Type 0
collects old m r n =
    (t : JobParts) (c : Workers) → m ≡ (Poster (Some t) false c, [])
    → (r ≡ old → (b : Back) × (job_in b ≡ t) × (n ≡ (Poster None false (unnoted c), (0, Some b) ∷ [])))
    × (r ≢ old → n ≡ m) × (c.noted ≡ Some old → r ≡ old)

-- the view of who makes one worker more
abbrev pub recruiter : View → View
recruiter (Poster job home c) = Poster job home (workers (c.made + 1) c.retired None)
recruiter (Idle w) = Idle w
recruiter (Holds w t) = Holds w t
recruiter Retired = Retired

-- the view of that worker
abbrev pub recruit : View → View
recruit (Poster job home c) = Idle c.made
recruit (Idle w) = Retired
recruit (Holds w t) = Retired
recruit Retired = Retired

-- the poster counts a worker whose seat is spent
abbrev pub retirer : View → View → View
retirer (Poster job home c) v = Poster job home (workers c.made (c.retired + 1) None)
retirer (Idle w) v = Idle w
retirer (Holds w t) v = Holds w t
retirer Retired v = Retired
