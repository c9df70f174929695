-- Command lines, and what they ask for.
use Rattle.std.specs.Prelude.{◌≡◌, ◌==◌, true, false, List, [], ◌∷◌, Option, Some, None, codes}
use Rattle.std.specs.List.{AllByRecursion, slice_split}
use Rattle.clap.specs.Walk.{Text}
use Rattle.command_line.specs.CommandLine.{Asked, Check, CheckAsked, Roster, Base, Rpc, Run, Status, Stop}
use Rattle.command_line.specs.CommandLine.{asked_in}

-- the words of a line, between its spaces (32)
abbrev pub words_of : Text → List Text
words_of line = slice_split (λ x. x == 32) line

-- what `check` of a file is asked, without an option
abbrev of_file : Text → CheckAsked
of_file name = record {
  file = name;
  explain = false;
  entries = false;
  state = None;
  json = false;
  roster = None;
}

-- `check` of the file `f`
abbrev plain : Option Asked
plain = Some (Check (of_file (codes "f")))

abbrev explained : Option Asked
explained = Some (Check (record (of_file (codes "f")) { explain = true }))

-- with all entries, and the state before the one that is named `2`
abbrev with_state : Option Asked
with_state = Some (Check (record (of_file (codes "f")) { entries = true; state = Some (codes "2") }))

-- the same as JSON, under the roster in the file `r`
abbrev under_r : Option Asked
under_r = Some (Check (record (of_file (codes "f")) { json = true; roster = Some (codes "r") }))

-- `run` of the file `f`, with the roster's text in the file `g`, or with bases in files that begin with `b`
abbrev run_to_g : Option Asked
run_to_g = Some (Run (record { file = codes "f"; roster_out = Some (codes "g"); base_out = None; base = None }))

abbrev run_to_b : Option Asked
run_to_b = Some (Run (record { file = codes "f"; roster_out = None; base_out = Some (codes "b"); base = None }))

-- or with a witness that begins at the base in the file `b`
abbrev run_from_b : Option Asked
run_from_b = Some (Run (record { file = codes "f"; roster_out = None; base_out = None; base = Some (codes "b") }))

-- command lines that ask for something, and those that ask for nothing
abbrev pub lines : List (Text × Option Asked)
lines =
    (codes "nfsacc rpc", Some Rpc)
    ∷ (codes "nfsacc check f", plain)
    ∷ (codes "nfsacc check --explain f", explained)
    ∷ (codes "nfsacc check f --explain", explained)
    ∷ (codes "nfsacc check --entries --state 2 f", with_state)
    ∷ (codes "nfsacc check f --state=2 --entries", with_state)
    ∷ (codes "nfsacc check -- --explain", Some (Check (of_file (codes "--explain"))))
    ∷ (codes "nfsacc check -", Some (Check (of_file (codes "-"))))
    ∷ (codes "nfsacc check --json f --roster r", under_r)
    ∷ (codes "nfsacc check --roster=r f --json", under_r)
    ∷ (codes "nfsacc roster f", Some (Roster (codes "f")))
    ∷ (codes "nfsacc base f", Some (Base (codes "f")))
    ∷ (codes "nfsacc run -", Some (Run (record { file = codes "-"; roster_out = None; base_out = None; base = None })))
    ∷ (codes "nfsacc run --base-out b f", run_to_b)
    ∷ (codes "nfsacc run --base b f", run_from_b)
    ∷ (codes "nfsacc run f --roster-out g", run_to_g)
    ∷ (codes "nfsacc run --roster-out=g f", run_to_g)
    ∷ (codes "nfsacc stop d", Some (Stop (codes "d")))
    ∷ (codes "nfsacc status d", Some (Status (codes "d")))
    ∷ (codes "nfsacc", None)
    ∷ (codes "nfsacc rpc x", None)
    ∷ (codes "nfsacc check", None)
    ∷ (codes "nfsacc check a b", None)
    ∷ (codes "nfsacc check -f", None)
    ∷ (codes "nfsacc check --explain --explain f", None)
    ∷ (codes "nfsacc check --roster f", None)
    ∷ (codes "nfsacc check --state f", None)
    ∷ (codes "nfsacc check --entries --entries f", None)
    ∷ (codes "nfsacc check --help", None)
    ∷ (codes "nfsacc help check", None)
    ∷ (codes "nfsacc roster", None)
    ∷ (codes "nfsacc base", None)
    ∷ (codes "nfsacc run", None)
    ∷ (codes "nfsacc run --roster-out", None)
    ∷ (codes "nfsacc run --roster-out f", None)
    ∷ (codes "nfsacc status", None)
    ∷ (codes "nfsacc status d e", None)
    ∷ []

-- each line asks for what is said
abbrev pub AreRead : Type 0
AreRead = AllByRecursion (λ line. asked_in (words_of line.0) ≡ line.1) lines
